pub mod Gathering
pub mod Sending
pub mod Connection
pub mod Ends
pub mod Waiting
pub mod Connections
pub mod Turning
