pub mod ByteByByte
pub mod Faults
pub mod FilesFound
pub mod FilesRead
pub mod InParts
pub mod RastersFound
pub mod Sending
pub mod Written
