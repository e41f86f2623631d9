pub mod Ahead
pub mod Graph
pub mod Grid
pub mod Neighbours
pub mod Refusals
pub mod Sized
pub mod Sizes
pub mod Statements
