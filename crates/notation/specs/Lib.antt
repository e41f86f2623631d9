pub mod Auditing
pub mod Judging
pub mod Layout
pub mod Lines
pub mod Records
pub mod Showing
pub mod Written
