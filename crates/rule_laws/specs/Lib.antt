pub mod Fine
pub mod RuleNumbers
pub mod Listed
pub mod Created
pub mod Frames
