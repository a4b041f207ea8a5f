pub mod Faults
pub mod Held
pub mod Layout
pub mod Records
pub mod Unique
