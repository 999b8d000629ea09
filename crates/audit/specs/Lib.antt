pub mod Head
pub mod Stand
pub mod Refused
pub mod Verdict
