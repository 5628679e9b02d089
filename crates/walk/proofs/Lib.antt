pub mod WalkLaws
pub mod LeafLaws
