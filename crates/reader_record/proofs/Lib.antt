pub mod RecordLaws
pub mod PortsLaws
pub mod FaultLaws
