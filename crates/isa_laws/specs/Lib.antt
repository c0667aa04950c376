pub mod Encoding
pub mod EncodingLaws
pub mod ArithmeticLaws
