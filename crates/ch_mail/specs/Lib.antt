pub mod Lives
pub mod Process
pub mod Queue
pub mod Mail
