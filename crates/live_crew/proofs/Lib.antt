pub mod Vacancies
pub mod Buffers
pub mod Beginning
pub mod Stopped
pub mod Coming
pub mod Crews
pub mod Bringing
pub mod Rising
