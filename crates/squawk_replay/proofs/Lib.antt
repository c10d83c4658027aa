pub mod EditSteps
