pub mod Digits
pub mod FileTexts
pub mod Lines
pub mod OneText
pub mod Putting
