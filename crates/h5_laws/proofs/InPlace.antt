pub mod StillThere
pub mod HeadersApart
pub mod StepReads
pub mod OneBlocks
pub mod CellWrites
pub mod DatasetWrites
