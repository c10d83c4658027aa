-- What public contracts cite.
pub mod Limit
pub mod Refusals
pub mod Message
pub mod Kinds
pub mod Depth
pub mod Lawful
