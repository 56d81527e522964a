pub mod Steps
pub mod AsBox
pub mod Early
pub mod ReadLaws
pub mod Opened
pub mod OpenedViews
pub mod ListedNames
