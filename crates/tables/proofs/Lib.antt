pub mod Reading
pub mod Places
pub mod InStep
pub mod Steps
pub mod Drawing
mod Lists
