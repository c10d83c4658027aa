pub mod OffsetTests
pub mod Cutting
pub mod Skipping
pub mod CutSteps
pub mod Meeting
pub mod FrontSteps
pub mod TokenEditSteps
pub mod ChildCutting
pub mod ChildMeeting
pub mod ChildSkipping
pub mod ParseSteps
pub mod ChildFrontSteps
pub mod ChildEditSteps
mod ReplaceSteps
mod TokenFrontLemmas
