pub mod ToldLaws
pub mod Standing
pub mod Searched
pub mod Way
pub mod LinksLeft
pub mod HeapSteps
pub mod Refusals
pub mod Linked
pub mod Readable
pub mod Followed
mod FirstFaults
pub mod NodeLaws
pub mod TextProofs
pub mod OrderProofs
pub mod WriteLaws
pub mod EditFrames
pub mod EditSteps
pub mod Ways
pub mod KeyOffsets
pub mod HeapLinks
pub mod HeapMoves
pub mod LooseTexts
pub mod TextEdits
pub mod DropLaws
pub mod DropCalls
pub mod NameTests
pub mod WidenedKeys
pub mod WidenedGroup
pub mod MovedNames
pub mod EntryFrames
pub mod LinkLists
pub mod EntryLinks
pub mod EntryWays
pub mod EntryOrder
pub mod EntrySets
pub mod EntryKept
mod SymbolEdits
mod SymbolHalves
mod GrownGroup
mod FirstEntry
mod SplitFrames
mod SplitNames
mod SplitOrder
mod SplitExact
mod SplitEntry
mod SplitCalls
pub mod PutWays
pub mod PutSteps
pub mod PutTexts
pub mod PutLinks
pub mod PutDeep
pub mod EditTold
pub mod RoomKept
pub mod TakeSteps
pub mod RetiredKeys
pub mod NameKeys
pub mod NewKeys
pub mod FilledExact
pub mod WidenedExact
pub mod TreeMoves
pub mod RetiredGroup
pub mod EntryKeys
pub mod Freed
pub mod ExactTrees
pub mod KeptWays
pub mod RetiredExact
pub mod FreedExact
pub mod DropExact
pub mod TakenExact
pub mod TakeExact
pub mod ExactWalk
pub use Rattle.h5_btree.proofs.ClimbSteps
