pub mod Runs
pub mod Memories
pub mod SerialPort
pub mod Timers
pub mod Splits
