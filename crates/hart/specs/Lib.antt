pub mod Control
pub mod Exceptions
pub mod Execute
pub mod Interrupts
pub mod Refusals
pub mod State
pub mod Traps
pub mod Widths
