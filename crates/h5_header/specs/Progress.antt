-- How far the messages of an object header have been read (File Format Specification 3.0, section IV.A.1.a).
use Rattle.std.specs.Prelude.{◌≡◌, ◌≢◌, ℕ, ◌+◌, ◌<◌, ◌≤◌, IsTrue, List, [], ◌∷◌, ◌++◌, length}
use Rattle.std.specs.List.{AllByRecursion, flat_map}
use Rattle.h5_bytes.specs.Bytes.{number_at, byte_at, part}
use Rattle.h5_bytes.specs.Blocks.{cover, Separate, Inside}
use Rattle.h5_bytes.specs.declared.Block.{Block}
use Rattle.h5_model.specs.Format.Messages.{Message, IsMessage, Fills, IsContinued, continuations, prefix_at, first_size, first_block}
use Rattle.h5_model.specs.declared.open_fault.Cause.{Cause}
use Rattle.h5_model.specs.declared.open_fault.Cause.TheVariants.{Truncated, HeaderVersion, Overlap, NoMemory}
use Rattle.h5_space.specs.Claimed.{Shares}
pub use Rattle.h5_space.specs.Claimed.{ClaimBreach}
use Rattle.h5_header.specs.Heads.{HeadBreach, is_read}
use Rattle.h5_header.specs.Listed.{messages_in, IsWithin}
use Rattle.h5_header.specs.Refused.{header_block}
use Rattle.h5_header.specs.declared.message.Message.{Message as Placed}

-- these messages stand one after another in a block's bytes, from one place to another
abbrev pub FillsTo : ℕ → List ℕ → ℕ → List Message → ℕ → Type 0
FillsTo block_at bytes from [] to = from ≡ to
FillsTo block_at bytes from (m ∷ ms) to = IsMessage block_at bytes from m × FillsTo block_at bytes (from + 8 + number_at bytes (from + 2) 2) ms to

-- each part fills its block, in the order in which the blocks are met, and then these blocks wait
abbrev pub FilledTo : List ℕ → List Block → List (List Message) → List Block → Type 0
FilledTo image waiting [] rest = waiting ≡ rest
FilledTo image [] (ms ∷ parts) rest = ⊥
FilledTo image (b ∷ waiting) (ms ∷ parts) rest =
    Fills b.at (part b.at b.len image) 0 ms × FilledTo image (waiting ++ continuations ms) parts rest

-- a message that is read or passed over
pub record IsTaken (m : Message) : Type 0 where
  pub continued : IsContinued m
  pub read : IsTrue (is_read m.kind)

-- A block was read up to a place: the list and the blocks that wait have grown by what stands before it.
pub record ReadTo (image : List ℕ) (b : Block) (list list' : List Placed) (blocks blocks' : List Block) (to : ℕ) : Type 0 where
  pub more : List Placed
  pub listed : list' ≡ list ++ more
  pub named : blocks' ≡ blocks ++ continuations (messages_in image more)
  pub filled : FillsTo b.at (part b.at b.len image) 0 (messages_in image more) to
  pub taken : AllByRecursion IsTaken (messages_in image more)
  pub within : IsWithin (length image) more

-- the message behind those that were read breaks a rule
pub record StopsIn (image : List ℕ) (b : Block) (cause : Cause) : Type 0 where
  pub before : List Message
  pub to : ℕ
  pub filled : FillsTo b.at (part b.at b.len image) 0 before to
  pub below : to < b.len
  pub breach : HeadBreach image (b.at + to) (b.at + b.len) cause

-- these messages were read from blocks that are done, and these blocks wait
pub record Partly (image : List ℕ) (header : ℕ) (messages : List Message) (done waiting : List Block) : Type 0 where
  pub parts : List (List Message)
  pub filled : FilledTo image (first_block image header ∷ []) parts waiting
  pub all : messages ≡ flat_map (λ ms. ms) parts
  pub laid : done ++ waiting ≡ header_block image header ∷ continuations messages
  pub taken : AllByRecursion IsTaken messages

-- the blocks that are done are claimed beside those that were held before
pub record IsClaimed (image : List ℕ) (held held' done : List Block) : Type 0 where
  pub inside : Inside (length image) done
  pub covered : (p : ℕ) → cover p held' ≡ cover p held + cover p done

-- the list of messages and the list of their blocks, of which so many are done
pub record ReadThrough (image : List ℕ) (header : ℕ) (held held' : List Block) (list : List Placed) (blocks : List Block) (next : ℕ) : Type 0 where
  pub done : List Block
  pub waiting : List Block
  pub split : blocks ≡ done ++ waiting
  pub count : next ≡ length done
  pub begun : 1 ≤ length done
  pub partly : Partly image header (messages_in image list) done waiting
  pub claimed : IsClaimed image held held' done
  pub within : IsWithin (length image) list

-- the prefix passes the end, is of another version, or cannot be claimed with its first block
abbrev pub PrefixBreach : List ℕ → ℕ → List Block → Cause → ℕ → Type 0
PrefixBreach image header held Truncated address = (address ≡ header) × (length image < header + (16 + first_size (prefix_at image header)))
PrefixBreach image header held HeaderVersion address = (address ≡ header) × (header + 16 ≤ length image) × (byte_at (prefix_at image header) 0 ≢ 1)
PrefixBreach image header held Overlap address = (address ≡ header) × Shares held header (16 + first_size (prefix_at image header))
PrefixBreach image header held NoMemory address = Unit {0}
PrefixBreach image header held _ address = ⊥

-- a message of the block whose turn it is breaks a rule
pub record StopsAtMessage (image : List ℕ) (header : ℕ) (cause : Cause) : Type 0 where
  pub prefix : header + 16 ≤ length image
  pub parts : List (List Message)
  pub here : Block
  pub waiting : List Block
  pub filled : FilledTo image (first_block image header ∷ []) parts (here ∷ waiting)
  pub inside : here.at + here.len ≤ length image
  pub stops : StopsIn image here cause

-- the block whose turn it is cannot be claimed
pub record StopsAtBlock (image : List ℕ) (header : ℕ) (held : List Block) (cause : Cause) (address : ℕ) : Type 0 where
  pub messages : List Message
  pub done : List Block
  pub here : Block
  pub waiting : List Block
  pub begun : 1 ≤ length done
  pub partly : Partly image header messages done (here ∷ waiting)
  pub held' : List Block
  pub claimed : IsClaimed image held held' done
  pub separate : Separate held'
  pub breach : ClaimBreach (length image) held' here cause address

-- where and why the reading of a header stops
pub data Stops (image : List ℕ) (header : ℕ) (held : List Block) (cause : Cause) (address : ℕ) : Type 0 where
  without_memory : cause ≡ NoMemory → Stops image header held cause address
  at_prefix : PrefixBreach image header held cause address → Stops image header held cause address
  at_message : address ≡ header → StopsAtMessage image header cause → Stops image header held cause address
  at_block : StopsAtBlock image header held cause address → Stops image header held cause address
