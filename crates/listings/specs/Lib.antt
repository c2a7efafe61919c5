pub mod Text
pub mod Listing
pub mod Rows
pub mod File
pub mod Answer
pub mod Places
