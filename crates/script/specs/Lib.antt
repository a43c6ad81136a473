pub mod Programs
pub mod Judging
pub mod Verdicts
pub mod Methods
