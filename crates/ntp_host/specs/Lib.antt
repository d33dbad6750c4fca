pub mod Clock
pub mod Following
pub mod Looking
pub mod Wire
pub mod UdpPort
