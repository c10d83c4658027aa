-- what public contracts cite
pub mod Boundaries
pub mod EditedTokens
pub mod ChildEnds
pub mod EditedChildren
pub mod Edited
pub mod DocumentValue
-- what the contracts of private functions cite
pub mod FrontPart
pub mod Recut
pub mod TokenEdit
pub mod ChildEdit
-- what the tests' own front tells
pub mod TokenFront
