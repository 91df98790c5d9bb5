pub mod Packets
pub mod FramePackets
pub mod Sent
