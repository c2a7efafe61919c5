pub mod Closed
pub mod Members
pub mod Redirection
pub mod Fits
