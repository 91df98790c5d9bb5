pub mod Hearing
pub mod ReceiverClock
pub mod Listening
pub mod Asking
pub mod Turns
pub mod Reading
pub mod Beginning
pub mod Laws
