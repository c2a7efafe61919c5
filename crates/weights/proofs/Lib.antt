pub mod Groups
pub mod Coding
pub mod Judging
pub mod Rounds
