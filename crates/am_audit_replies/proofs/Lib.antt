mod Rows
pub mod Actives
mod Replays
mod Trials
mod Apart
mod Places
