-- What public contracts cite.
pub mod ChildValue
pub mod Tells
pub mod Tokens
pub mod Children
pub mod Join
pub mod PlainTells
pub mod PlainValue
pub mod Laws
-- For the laws of the plain front.
pub mod PlainLaws
