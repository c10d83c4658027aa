pub mod Squeezed
pub mod Laws
