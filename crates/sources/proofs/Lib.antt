pub mod RingWords
mod FoldWords
mod BothWords
