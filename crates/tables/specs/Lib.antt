pub mod Table
pub mod Call
pub mod Book
pub mod Sheet
pub mod Held
pub mod Sketch
pub mod Made
pub mod Sizes
