pub mod GroupLaws
pub mod StandLaws
