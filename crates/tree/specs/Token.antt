pub mod Padding
pub mod Cursor
pub mod Spelling
pub mod Lexical
