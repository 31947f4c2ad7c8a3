pub mod Edges
pub mod Computed
pub mod PortEdges
