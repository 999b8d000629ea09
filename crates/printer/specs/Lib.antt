pub mod Tokens
pub mod Spacing
pub mod Files
pub mod Written
