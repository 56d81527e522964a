-- The fields that are followed when a header is read: the one that names it, and those of its Continuations.
use Rattle.std.proofs.Common.{◌≡◌, ℕ, ◌+◌, ◌-◌, ◌≤◌, inl, inr, List, [], ◌∷◌, length, refl, sym, ◌∙◌, arith, true, false}
use Rattle.std.specs.Prelude.{map}
use Rattle.std.specs.List.{AllByRecursion}
use Rattle.h5_bytes.specs.Blocks.{holds, cover, Separate}
use Rattle.h5_bytes.specs.declared.Block.{Block}
use Rattle.h5_bytes.proofs.BlockLaws.{holds_in, all_append}
use Rattle.h5_model.specs.Format.Messages.{Message, HasMessages, continuation}
use Rattle.h5_model.specs.Format.Reached.{Named, naming_of, ObjectHeader, Continuation}
use Rattle.h5_model.specs.Faults.Breaches.{is_header}
use Rattle.h5_header.specs.Walk.Walked.{continuation_fields}
use Rattle.h5_header.proofs.WalkLaws.MessagePlaces.{messages_placed}
use Rattle.h5_header.proofs.WalkLaws.SpanLaws.{span_of, header_spans, all_low}
use Rattle.h5_open.specs.Read.{IsOwn}

-- Continuations name no header
pub inner_fields : (header depth : ℕ) (ms : List Message) → AllByRecursion (λ (y : Named). is_header y.role ≡ false) (continuation_fields header depth ms)
inner_fields header depth [] = tt
inner_fields header depth (m ∷ ms) = all_append (λ (y : Named). is_header y.role ≡ false) (map (λ (b : Block). naming_of m.at (Continuation header) b.at depth) (continuation m)) (continuation_fields header depth ms)
    (one (continuation m)) (inner_fields header depth ms) where
      one : (bs : List Block) → AllByRecursion (λ (y : Named). is_header y.role ≡ false) (map (λ (b : Block). naming_of m.at (Continuation header) b.at depth) bs)
      one [] = tt
      one (b ∷ bs) = (refl, one bs)

-- each message stands in the header's blocks
pub all_covered : (blocks : List Block) (ms : List Message) → AllByRecursion (λ (m : Message). 8 ≤ m.at) ms → ((q : ℕ) → cover q (map span_of ms) ≤ cover q blocks)
    → AllByRecursion (λ (m : Message). 1 ≤ cover (m.at - 8) blocks) ms
all_covered blocks [] low spans = tt
all_covered blocks (m ∷ ms) low spans = (
  (let here : holds (m.at - 8) (m.at - 8) (8 + length m.body) ≡ 1 = holds_in (m.at - 8) (m.at - 8) (8 + length m.body) (omega arith) (omega arith) in omega (arith, here, spans (m.at - 8))),
  all_covered blocks ms low.1 (λ q. omega (arith, spans q)),
)

-- fields of Continuations stand in blocks that were not claimed before
own_fields : (held : List Block) (field header depth : ℕ) (ms : List Message) → AllByRecursion (λ (m : Message). cover (m.at - 8) held ≡ 0) ms
    → AllByRecursion (IsOwn held field) (continuation_fields header depth ms)
own_fields held field header depth [] all = tt
own_fields held field header depth (m ∷ ms) all = all_append (IsOwn held field) (map (λ (b : Block). naming_of m.at (Continuation header) b.at depth) (continuation m)) (continuation_fields header depth ms)
    (one (continuation m)) (own_fields held field header depth ms all.1) where
      one : (bs : List Block) → AllByRecursion (IsOwn held field) (map (λ (b : Block). naming_of m.at (Continuation header) b.at depth) bs)
      one [] = tt
      one (b ∷ bs) = (inr all.0, one bs)

all_free : (held : List Block) (blocks : List Block) (ms : List Message) → ((q : ℕ) → cover q held + cover q blocks ≤ 1)
    → AllByRecursion (λ (m : Message). 1 ≤ cover (m.at - 8) blocks) ms → AllByRecursion (λ (m : Message). cover (m.at - 8) held ≡ 0) ms
all_free held blocks [] once all = tt
all_free held blocks (m ∷ ms) once all = (omega (arith, all.0, once (m.at - 8)), all_free held blocks ms once all.1)

abbrev pub header_fields : ℕ → ℕ → ℕ → List Message → List Named
header_fields field header depth ms = naming_of field ObjectHeader header depth ∷ continuation_fields header depth ms

-- none of the fields names a header, so none names another
pub only_inner : (header : ℕ) (ys : List Named) → AllByRecursion (λ (y : Named). is_header y.role ≡ false) ys → AllByRecursion (λ (y : Named). is_header y.role ≡ true → y.at ≡ header) ys
only_inner header [] all = tt
only_inner header (y ∷ ys) all = ((λ e. absurd (let never : false ≡ true = sym all.0 ∙ e in cc)), only_inner header ys all.1)

pub fields_only : (field header depth : ℕ) (ms : List Message) → AllByRecursion (λ (y : Named). is_header y.role ≡ true → y.at ≡ header) (header_fields field header depth ms)
fields_only field header depth ms = ((λ e. refl), only_inner header (continuation_fields header depth ms) (inner_fields header depth ms))

module _ (image : List ℕ) (header : ℕ) (ms : List Message) (blocks : List Block) (has : HasMessages image header ms blocks)
    (held now : List Block) (claimed : (p : ℕ) → cover p now ≡ cover p held + cover p blocks) (separate : Separate now) where
  -- messages stand in blocks that were not claimed before
  pub messages_free : AllByRecursion (λ (m : Message). cover (m.at - 8) held ≡ 0) ms
  messages_free = all_free held blocks ms (λ q. omega (arith, claimed q, separate q))
      (all_covered blocks ms (all_low image header ms (messages_placed image header ms blocks has)) (header_spans image header ms blocks has))

  pub fields_stand : (field depth : ℕ) → AllByRecursion (IsOwn held field) (header_fields field header depth ms)
  fields_stand field depth = (inl refl, own_fields held field header depth ms messages_free)
