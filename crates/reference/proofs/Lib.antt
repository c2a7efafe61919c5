pub mod Closing
pub mod Members
pub mod Keeping
