pub mod Tallies
pub mod Seeks
pub mod Queues
pub mod Steps
pub mod Start
