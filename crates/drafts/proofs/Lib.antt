mod Faults
mod Fits
mod Listing
mod Fields
mod Drawing
pub mod Sketching
mod Again
mod Writing
