pub mod Beginning
pub mod StoringJob
