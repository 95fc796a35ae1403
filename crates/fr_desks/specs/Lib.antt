pub mod FileDesk
pub mod Laws
pub mod Sessions
