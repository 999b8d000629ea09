pub mod Parsing
pub mod Brackets
pub mod Grammar
pub mod Text
pub mod Places
pub mod Statements
