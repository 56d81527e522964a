pub mod Arranged
pub mod ExchangedIndex
pub mod Exchanges
pub mod GrownSlots
pub mod Renumbered
pub mod SameBlocks
pub mod SameHeaders
pub mod SameTree
