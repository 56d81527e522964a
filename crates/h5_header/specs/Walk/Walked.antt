-- How far a walk through an image has come, and the fields by which a header's messages name further blocks of messages (File Format
-- Specification 3.0, sections III and IV.A).
use Rattle.std.specs.Prelude.{ℕ, List, map}
use Rattle.std.specs.List.{flat_map}
use Rattle.h5_bytes.specs.declared.Block.{Block}
use Rattle.h5_model.specs.Format.Messages.{Message, continuation}
use Rattle.h5_model.specs.Format.Reached.{Named, naming_of, Continuation}
pub use Rattle.h5_space.specs.Walk.Walked.{IsFollowed, IsWalked, Breaches}

-- the fields by which these messages name blocks of messages
abbrev pub continuation_fields : ℕ → ℕ → List Message → List Named
continuation_fields header depth ms = flat_map (λ (m : Message). map (λ (b : Block). naming_of m.at (Continuation header) b.at depth) (continuation m)) ms
