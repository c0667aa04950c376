pub mod Device
pub mod Memory
pub mod Clint
pub mod Receiver
pub mod Transmitter
pub mod Uart
pub mod MemoryRules
pub mod Accesses
