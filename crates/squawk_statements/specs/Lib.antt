-- What public contracts cite.
pub mod Opening
pub mod Children
pub mod First
pub mod Plain
pub mod PlainIsLawful
pub mod Groups
pub mod Laws
-- What private functions need besides.
pub mod Kinds
pub mod Rows
