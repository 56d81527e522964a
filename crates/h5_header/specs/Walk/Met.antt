-- A field that names an object header, which a walk has met and not followed yet (File Format Specification 3.0, sections III and IV.A).
use Rattle.std.specs.Prelude.{◌≡◌, ℕ, false, List, ◌∷◌, ◌++◌}
use Rattle.std.specs.List.{AllByRecursion}
use Rattle.h5_bytes.specs.declared.Block.{Block}
use Rattle.h5_model.specs.Format.Messages.{Message}
use Rattle.h5_model.specs.Format.Reached.{Named, naming_of, ObjectHeader}
use Rattle.h5_model.specs.Faults.Breaches.{is_header}
use Rattle.h5_header.specs.Walk.Walked.{IsWalked, continuation_fields}
pub use Rattle.h5_space.specs.Walk.Met.{IsMet}

-- a field that names an object header was met, and no field that was followed names the same header
pub record IsHeaderMet (image : List ℕ) (held : List Block) (followed : List Named) (field header depth : ℕ) : Type 0 where
  pub walked : IsWalked image held followed
  pub met : IsMet image held followed (naming_of field ObjectHeader header depth)
  pub alone : AllByRecursion (λ y. y.at ≡ header → is_header y.role ≡ false) followed

-- the fields that were followed when the header was read: the one that names it, and those of its Continuations, before the others
abbrev pub with_header : ℕ → ℕ → ℕ → List Message → List Named → List Named
with_header field header depth ms followed = (naming_of field ObjectHeader header depth ∷ continuation_fields header depth ms) ++ followed
