pub mod After
pub mod Moves
pub mod Played
pub mod Steps
pub mod Stone
