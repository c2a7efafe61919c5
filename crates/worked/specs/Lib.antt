pub mod Minimized
pub mod Drafts
