-- what public contracts cite
pub mod Script
pub mod Laws
-- what the contracts of private functions and the models cite
pub mod Models
