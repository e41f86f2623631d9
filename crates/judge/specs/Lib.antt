pub mod AnyBoard
pub mod Boards
pub mod Frame
pub mod Promise
pub mod Refused
pub mod Round
pub mod Surveyed
