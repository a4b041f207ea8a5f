pub mod Decoded
pub mod Passes
pub mod Readers
pub mod Reading
pub mod Verdict
