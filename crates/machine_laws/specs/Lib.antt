pub mod ControlLaws
pub mod InterruptLaws
pub mod RunLaws
pub mod SoundLaws
pub mod TrapLaws
