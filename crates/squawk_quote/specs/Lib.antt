pub mod Values
pub mod Laws
-- For private functions.
pub mod Tags
pub mod ValueForms
