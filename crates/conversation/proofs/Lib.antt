-- What is proved of a conversation: of marked lines, of a piece, of the whole input.
pub mod Marked
pub mod Piece
pub mod Parts
pub mod Plain
