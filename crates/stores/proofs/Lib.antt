pub mod Strikes
