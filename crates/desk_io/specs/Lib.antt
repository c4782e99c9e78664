pub mod Told
pub mod InMemory
pub mod Begun
pub mod Gathering
