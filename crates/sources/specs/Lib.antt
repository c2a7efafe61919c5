pub mod Ring
pub mod LetterMap
pub mod Fold
pub mod Both
