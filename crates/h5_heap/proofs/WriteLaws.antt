pub mod Lengths
pub mod Pushing
pub mod Standing
pub mod Spans
pub mod Form
pub mod HeapReads
