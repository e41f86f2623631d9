pub mod Game
pub mod Moves
pub mod Outcomes
pub mod Record
pub mod Rules
pub mod Statements
pub mod States
