-- What public contracts cite.
pub mod Categories
pub mod KeywordSets
pub mod KindOf
pub mod Sets
pub mod Words
-- What the contracts of private functions and the model of `KindSet` cite.
pub mod Flags
pub mod Members
pub mod WordHash
pub mod WordTable
