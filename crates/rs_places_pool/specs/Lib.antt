pub mod ClientQueue
pub mod LaneClients
