-- What public contracts cite, from sources and sinks to whole runs.
pub mod Edge
pub mod Memory
pub mod ReadWrite
pub mod ReadAll
pub mod Command
pub mod Outcome
pub mod Report
pub mod Forms
pub mod Made
pub mod Summary
pub mod Run
-- What the contracts of private functions cite.
pub mod Digits
pub mod Output
