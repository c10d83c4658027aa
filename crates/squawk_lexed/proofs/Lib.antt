pub mod FaultLemmas
pub mod StoredLemmas
pub mod PrefixLemmas
pub mod KeptLemmas
pub mod WeaveLemmas
pub mod WeaveSteps
pub mod PartLemmas
mod PlacedLemmas
mod GivenLemmas
pub mod RoleLemmas
pub mod StartLemmas
