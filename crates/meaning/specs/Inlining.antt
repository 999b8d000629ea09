pub mod Laws
pub mod PutIn
