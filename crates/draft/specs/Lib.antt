pub mod Tiles
pub mod Laid
pub mod Drafting
pub mod Outs
