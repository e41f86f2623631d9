pub mod Bits
pub mod Numbered
pub mod Parted
pub mod Regioned
pub mod Regions
pub mod Safe
pub mod Striking
pub mod Tables
