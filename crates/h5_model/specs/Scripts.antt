pub mod Answers
pub mod Sessions
pub mod Lines
pub mod Text
pub mod Reading
pub mod Tests
