pub mod Files
pub mod LinkCalls
pub mod Pieces
pub mod Received
pub mod SinkCalls
pub mod StoreCalls
