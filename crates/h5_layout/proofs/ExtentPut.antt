-- The header of an array whose Dataspace message becomes NIL, and then with another that is put in.
use Rattle.std.proofs.Common.{◌≡◌, ℕ, ◌<◌, Bool, true, ◌==◌, List, [], ◌∷◌, ◌++◌, length, get_or, Some, append-nil, eqb-true, lt-ltb, refl, sym, ap, ◌∙◌, subst, arith}
use Rattle.std.specs.Prelude.{nat_lt, option_and_then, position}
use Rattle.std.specs.List.{find, position_or_len}
use Rattle.std.specs.Option.{IsSome}
use Rattle.std.proofs.lemmas.List.{get_or-map, length-map}
use Rattle.std.proofs.lemmas.List.Folds.{find_at}
use Rattle.std.proofs.lemmas.List.Quantifiers.{position-Some}
use Rattle.std.proofs.lemmas.Option.{slice_get_within}
use Rattle.h5_bytes.specs.declared.Block.{Block}
use Rattle.h5_bytes.proofs.BlockLaws.{cover-append}
use Rattle.h5_model.specs.Format.MessageTypes.{datatype_kind, nil_kind, dataspace_kind}
use Rattle.h5_model.specs.Format.Datatype.{fixed_of}
use Rattle.h5_model.specs.Format.Extent.{Extent, extent_of}
use Rattle.h5_model.specs.Format.Messages.{Message, first_body, prefix_at, reference_count}
use Rattle.h5_space.specs.Moves.{Moves}
use Rattle.h5_space.specs.Space.{Space}
use Rattle.h5_space.specs.Whole.{IsApart}
use Rattle.h5_space.proofs.MovesLaws.{moves_apart, moves_then}
use Rattle.h5_header.specs.Added.{AddsMessage, HasMovable}
use Rattle.h5_header.specs.Kinds.{IsOfDataset}
use Rattle.h5_header.specs.Listed.{Listed, message_in, messages_in}
use Rattle.h5_header.specs.Standing.{IsStanding, with_nil, kept_at, none, nowhere}
use Rattle.h5_header.specs.declared.message.Message.{Message as Placed}
use Rattle.h5_header.proofs.CutLaws.{IsCut, cut_by_place}
use Rattle.h5_header.proofs.MovableLaws.{movable_type, standing_padded}
use Rattle.h5_layout.specs.ArrayEdits.{IsArrayApart, described_in}
use Rattle.h5_layout.specs.Data.{data_blocks}
use Rattle.h5_layout.specs.ExtentNow.{HasExtentNow, SaysExtent}
use Rattle.h5_layout.proofs.ExtentAdded.{blank_type, extent_added}
use Rattle.h5_layout.proofs.ExtentWritten.{extent_found}

-- ---- the place of the message

abbrev is_space : Placed → Bool
is_space y = y.kind == dataspace_kind

place_low : (xs : List Placed) (x : Placed) → find is_space xs ≡ Some x → position_or_len is_space xs < length xs
place_low xs x found = slice_get_within xs (position_or_len is_space xs) x (sym (find_at is_space xs) ∙ found)

pub place_there : (s : Space) (m : Listed) → IsArrayApart s m → IsSome (position is_space m.list)
place_there s m is =
    let x = extent_found s m is in
    let test : nat_lt (position_or_len is_space m.list) (length m.list) ≡ true = lt-ltb (position_or_len is_space m.list) (length m.list) (place_low m.list x.0 x.1) in
    rw test refl

pub place_kind : (list : List Placed) (k : ℕ) → position is_space list ≡ Some k → (k < length list) × ((kept_at list k).kind ≡ dataspace_kind)
place_kind list k is = let at = position-Some is_space list k nowhere is in (at.0, eqb-true (kept_at list k).kind dataspace_kind at.1)

-- ---- the header with one message NIL

pub blocks_apart : (s : Space) (m : Listed) → IsArrayApart s m → IsApart m.blocks s.free (length s.bytes)
blocks_apart s m is p =
    let a = described_in s.bytes m in
    omega (arith, is.apart p, cover-append p m.blocks (data_blocks s.bytes a.fixed a.layout))

module _ (old mid : Space) (m n : Listed) (was : IsArrayApart old m) (k : ℕ) (low : k < length m.list) (kind : (kept_at m.list k).kind ≡ dataspace_kind)
    (blank : messages_in mid.bytes n.list ≡ with_nil (messages_in old.bytes m.list) k) (stands : IsStanding mid.bytes n) (moves : Moves old mid m.blocks n.blocks) where
  abbrev ms : List Message
  ms = messages_in old.bytes m.list

  abbrev x : Message
  x = get_or ms k none

  abbrev nil : Message
  nil = record x { kind = nil_kind }

  cut : IsCut ms k x
  cut = cut_by_place ms k none (omega (arith, length-map m.list (message_in old.bytes), low))

  x_kind : x.kind ≡ dataspace_kind
  x_kind = ap (λ (y : Message). y.kind) (get_or-map (message_in old.bytes) m.list k nowhere none low) ∙ kind

  mid_is : messages_in mid.bytes n.list ≡ cut.front ++ nil ∷ cut.back
  mid_is = blank ∙ cut.put nil

  same_type : first_body datatype_kind (messages_in mid.bytes n.list) ≡ first_body datatype_kind ms
  same_type = ap (first_body datatype_kind) mid_is ∙ blank_type cut.front x nil cut.back x_kind refl ∙ ap (first_body datatype_kind) (sym cut.whole)

  mid_movable : HasMovable (messages_in mid.bytes n.list)
  mid_movable = movable_type (messages_in mid.bytes n.list) (described_in old.bytes m).fixed (standing_padded mid.bytes n stands)
      (ap (option_and_then fixed_of) same_type ∙ was.array.type)

  mid_apart : IsApart n.blocks mid.free (length mid.bytes)
  mid_apart =
      subst (λ (bs : List Block). IsApart bs mid.free (length mid.bytes)) (append-nil n.blocks)
      (moves_apart old mid m.blocks n.blocks [] moves
      (subst (λ (bs : List Block). IsApart bs old.free (length old.bytes)) (sym (append-nil m.blocks)) (blocks_apart old m was)))

  -- another can be put in
  pub mid_ready : HasMovable (messages_in mid.bytes n.list) × IsApart n.blocks mid.free (length mid.bytes)
  mid_ready = (mid_movable, mid_apart)

  -- ---- and with another message

  module _ (new : Space) (m' : Listed) (body : List ℕ) (e : Extent) (says : extent_of body ≡ Some e)
      (adds : AddsMessage (messages_in mid.bytes n.list) (messages_in new.bytes m'.list) dataspace_kind body)
      (standing : IsStanding new.bytes m') (header : m'.header ≡ m.header)
      (count : reference_count (prefix_at new.bytes m'.header) ≡ reference_count (prefix_at old.bytes m.header))
      (moved : Moves mid new n.blocks m'.blocks) where
    said : SaysExtent ms (messages_in new.bytes m'.list) e
    said =
        subst (λ (ys : List Message). SaysExtent ys (messages_in new.bytes m'.list) e) (sym cut.whole)
        (extent_added cut.front x nil cut.back x_kind refl (messages_in new.bytes m'.list) body
        (subst (λ (ys : List Message). AddsMessage ys (messages_in new.bytes m'.list) dataspace_kind body) mid_is adds)
        (subst IsOfDataset cut.whole was.kinds) e says)

    pub extent_put : HasExtentNow old new m m' e
    extent_put = record {
      standing = standing;
      said = said;
      header = header;
      count = ap (λ (h : ℕ). reference_count (prefix_at new.bytes h)) (sym header) ∙ count;
      moves = moves_then old mid new m.blocks n.blocks m'.blocks moves moved;
    }
