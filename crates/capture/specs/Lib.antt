pub mod Auditing
pub mod Judged
pub mod Row
pub mod Showing
pub mod Statements
pub mod Target
pub mod Weak
