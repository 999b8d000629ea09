pub mod Text
pub mod View
pub mod Reading
pub mod Grammar
pub mod Places
pub mod Standing
pub mod Marks
