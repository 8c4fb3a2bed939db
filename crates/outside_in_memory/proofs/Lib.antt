pub mod FilesLemmas
pub mod HubLemmas
pub mod QueueLemmas
pub mod SendLogLemmas
