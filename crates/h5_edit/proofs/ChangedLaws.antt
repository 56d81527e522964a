pub mod PushedLaws
pub mod RestLaws
pub mod OthersLaws
pub mod CellLaws
pub mod LinkLaws
pub mod NumberedLaws
pub mod WrittenSlots
pub mod StoredSlots
