pub mod Numbers
pub mod Splits
pub mod Lists
pub mod EscapeLaws
pub mod TypeTexts
