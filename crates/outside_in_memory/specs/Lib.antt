pub mod HubStates
pub mod LinkStates
pub mod Queued
pub mod Schedules
pub mod SendLog
