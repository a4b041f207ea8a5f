pub mod Putting
pub mod RowFaults
pub mod Writing
pub mod Writers
