pub mod Alu
pub mod Branch
pub mod Fields
pub mod Listing
pub mod Decode
