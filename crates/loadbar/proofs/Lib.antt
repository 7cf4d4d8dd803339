pub mod Reading
pub mod Spelling
pub mod Writing
pub mod Telling
pub mod Lines
