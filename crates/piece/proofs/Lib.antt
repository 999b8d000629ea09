pub mod Products
pub mod Walks
pub mod Values
pub mod Lookups
pub mod Small
pub mod Runs
pub mod RisingLists
pub mod Along
