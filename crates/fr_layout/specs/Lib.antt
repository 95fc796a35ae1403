pub mod Along
pub mod Packing
pub mod Laws
pub mod Least
pub mod Used
