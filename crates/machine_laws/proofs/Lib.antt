pub mod Control
pub mod Interrupts
pub mod Runs
pub mod Sound
pub mod Traps
