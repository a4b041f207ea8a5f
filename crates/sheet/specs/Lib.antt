pub mod Exactly
pub mod Rechecking
pub mod RoundTrip
