pub mod Steps
pub mod Bytes
pub mod Placing
