pub mod FaultLaws
pub mod RuleLaws
