mod Memories
mod SerialPort
mod Timers
