pub mod Handed
pub mod Square
