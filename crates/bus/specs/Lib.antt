pub mod Numbers
pub mod Text
pub mod Kind
pub mod Split
pub mod SplitRules
