pub mod Computed
pub mod EdgeModels
pub mod Edges
pub mod RequestEdges
pub mod PortEdges
pub mod RaisedEdges
pub mod RowsEdges
pub mod CallEdges
