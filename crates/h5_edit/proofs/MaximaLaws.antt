-- Whether the Dataspace message of an object of an opened image has no maxima (File Format Specification 3.0, section IV.A.2.b).
use Rattle.std.proofs.Common.{◌≡◌, ℕ, List, Bool, false, Option, Some, None, refl, sym, ap, ◌∙◌, subst}
use Rattle.std.specs.FinMap.{get}
use Rattle.h5_bytes.specs.declared.Block.{Block}
use Rattle.h5_model.specs.Format.Messages.{Message, HasMessages}
use Rattle.h5_model.proofs.OneReading.{one_messages}
use Rattle.h5_laws.proofs.Objects.{has_object}
use Rattle.h5_laws.proofs.Objects as objects
use Rattle.h5_query.specs.Opened.Sound.{IsSound}
use Rattle.h5_query.specs.Opened.State.{FileState}
use Rattle.h5_layout.specs.Extents.{lacks_maxima}
use Rattle.h5_query.specs.Resized.{LacksMaxima}

module _ (f : FileState) (sound : IsSound f) where
  -- the messages of a header that the table has
  messages_there : (number header : ℕ) → get f.table number ≡ Some header → (ms : List Message) × (blocks : List Block) × HasMessages f.image header ms blocks
  messages_there number header is =
      let x = objects.object_at f.image f.table f.tree sound.placed sound.reads.holds number header is in
      let has = has_object f.image f.table f.tree sound.placed sound.reads.holds x.0 x.1 in
      (has.messages, has.header_blocks, subst (λ (h : ℕ). HasMessages f.image h has.messages has.header_blocks) x.3 has.listed)

  -- which is told of each object
  pub lacks_told : (number : ℕ) → (lacks : Bool) × LacksMaxima f.image (get f.table number) lacks
  lacks_told number = by_header (get f.table number) refl where
    by_header : (found : Option ℕ) → get f.table number ≡ found → (lacks : Bool) × LacksMaxima f.image found lacks
    by_header None is = (false, refl)
    by_header (Some header) is = let m = messages_there number header is in (lacks_maxima m.0, (m.0, m.1, m.2, refl))

-- ---- it is a function of the image

pub one_lacks : (image : List ℕ) (found : Option ℕ) (a b : Bool) → LacksMaxima image found a → LacksMaxima image found b → a ≡ b
one_lacks image None a b one other = one ∙ sym other
one_lacks image (Some header) a b (ms, blocks, has, is) (ns, others, had, was) =
    is ∙ ap lacks_maxima (one_messages image header ms ns blocks others has had) ∙ sym was
