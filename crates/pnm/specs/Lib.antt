pub mod Bytes
pub mod Grammar
pub mod Laws
pub mod Reading
pub mod Source
pub mod Text
