pub mod Acts
pub mod Events
pub mod Numbers
pub mod PlainSteps
pub mod Runs
