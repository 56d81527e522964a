pub mod Copies
pub mod ValueBytes
pub mod AttributeParts
pub mod Messages
pub mod Rooms
pub mod ArrayParts
pub mod HeaderLaws
pub mod StoredChunks
