pub mod InARow
