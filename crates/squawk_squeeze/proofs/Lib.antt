pub mod TokenLists
pub mod TokenLaws
pub mod SqueezeLaws
pub mod SqueezeBytes
pub mod LexedSteps
