-- A Dataspace message with maxima, written where it stands: the header says the new extent (File Format Specification 3.0, section
-- IV.A.2.b).
use Rattle.std.proofs.Common.{◌≡◌, ◌≢◌, ℕ, ◌+◌, ◌*◌, ◌≤◌, Bool, true, false, not, ◌==◌, List, length, Option, Some, None, refl, sym, ap, ◌∙◌, subst, arith}
use Rattle.std.specs.Prelude.{option_and_then, option_map}
use Rattle.std.specs.List.{find}
use Rattle.std.specs.Borrow.{Bor}
use Rattle.std.specs.Option.{IsSome, option_copied, option_map_or}
use Rattle.std.proofs.lemmas.Bool.Decides.{nat_tests}
use Rattle.std.proofs.lemmas.List.FromFn.{length-map-range_with_len}
use Rattle.std.proofs.lemmas.Option.{cond_some}
use Rattle.h5_bytes.specs.Bytes.{part, with_part}
use Rattle.h5_bytes.proofs.PartLaws.{length-part, part-with_part_same}
use Rattle.h5_model.specs.Format.MessageTypes.{dataspace_kind, datatype_kind, symbol_table_kind}
use Rattle.h5_model.specs.Format.Datatype.{fixed_of}
use Rattle.h5_model.specs.Format.Extent.{Extent, extent_in, extent_of, has_maxima, is_dataspace, rank_in, size_in}
use Rattle.h5_model.specs.Format.Messages.{Message, first_body, reference_count}
use Rattle.h5_model.specs.Format.Described.{Described}
use Rattle.h5_space.specs.Lending.{with_bytes_at}
use Rattle.h5_space.specs.Moves.{Spends}
use Rattle.h5_space.specs.Space.{Space}
use Rattle.h5_header.specs.Listed.{Listed, messages_in}
use Rattle.h5_header.specs.declared.message.Message.{Message as Placed}
use Rattle.h5_header.proofs.BesideLaws.{moves_covered, spends_write}
use Rattle.h5_header.proofs.FirstWritten.{HasNewBody, IsBodyWritten, body_written, new_first, same_count, same_filter, same_first, written_covered}
use Rattle.h5_header.proofs.FoundLaws.{first_body-in, none_stands, within_at}
use Rattle.h5_layout.specs.ArrayEdits.{IsArrayApart, described_in}
use Rattle.h5_layout.specs.ExtentNow.{HasExtentNow}
use Rattle.h5_layout.specs.Extents.{lacks_maxima}

-- ---- how long a body is that is read

-- with maxima there are twice as many numbers
pub maxima_long : (body : List ℕ) (e : Extent) → extent_of body ≡ Some e → has_maxima body ≡ true → 8 + 16 * length e.sizes ≤ length body
unfolding extent_of
maxima_long body e is maxima =
    let p = cond_some (is_dataspace body) (extent_in body) e is in
    let ranked : length e.sizes ≡ rank_in body = ap (λ (x : Extent). length x.sizes) (sym p.1) ∙ length-map-range_with_len (size_in body) 0 (rank_in body) in
    let whole : 8 + 8 * (rank_in body * 2) ≤ length body = grind (arith, nat_tests, p.0, maxima) in
    omega (arith, whole, ranked)

-- ---- the message that is found

pub extent_found : (s : Space) (m : Listed) → IsArrayApart s m → (x : Placed) × (find (λ (y : Placed). y.kind == dataspace_kind) m.list ≡ Some x)
extent_found s m is = go (find (λ (y : Placed). y.kind == dataspace_kind) m.list) refl where
  go : (o : Option Placed) → find (λ (y : Placed). y.kind == dataspace_kind) m.list ≡ o → (x : Placed) × (find (λ (y : Placed). y.kind == dataspace_kind) m.list ≡ Some x)
  go None none =
      let no_body : first_body dataspace_kind (messages_in s.bytes m.list) ≡ None
      = first_body-in s.bytes 1 m.list ∙ ap (option_map (λ (y : Placed). part y.at y.size s.bytes)) none in
      absurd (omega (arith, none_stands dataspace_kind (messages_in s.bytes m.list) no_body, is.array.one_space))
  go (Some x) found = (x, found)

-- a reference to it is handed out
pub extent_lent : (list : List Placed) (x : Placed) (r : Option (Bor Placed)) → find (λ (y : Placed). y.kind == dataspace_kind) list ≡ Some x
    → option_copied r ≡ find (λ (y : Placed). y.kind == dataspace_kind) list → IsSome r
extent_lent list x None found same = absurd (let never : None ≡ Some x = same ∙ found in cc)
extent_lent list x (Some b) found same = refl

-- ---- it is written where it stands

module _ (old : Space) (m : Listed) (was : IsArrayApart old m) (x : Placed) (found : find (λ (y : Placed). y.kind == dataspace_kind) m.list ≡ Some x) where
  abbrev ms : List Message
  ms = messages_in old.bytes m.list

  abbrev a : Described
  a = described_in old.bytes m

  pub extent_inside : x.at + x.size ≤ length old.bytes
  extent_inside = within_at (length old.bytes) 1 m.list x was.standing.within found

  body_is : first_body dataspace_kind ms ≡ Some (part x.at x.size old.bytes)
  body_is = first_body-in old.bytes 1 m.list ∙ ap (option_map (λ (y : Placed). part y.at y.size old.bytes)) found

  not_without : (body : Option (List ℕ)) (bytes : List ℕ) → body ≡ Some bytes
      → option_map_or (λ (b : List ℕ). not (has_maxima b)) body false ≡ false → has_maxima bytes ≡ true
  not_without body bytes is has =
      go (has_maxima bytes) refl (sym (ap (λ (o : Option (List ℕ)). option_map_or (λ (b : List ℕ). not (has_maxima b)) o false) is) ∙ has) where
        go : (t : Bool) → has_maxima bytes ≡ t → not t ≡ false → has_maxima bytes ≡ true
        go true here h = here
        go false here h = absurd (cc)

  pub extent_room : (sizes : List ℕ) → length sizes ≡ length a.sizes → lacks_maxima ms ≡ false → 8 + 16 * length sizes ≤ x.size
  extent_room sizes ranked has =
      let says : extent_of (part x.at x.size old.bytes) ≡ Some (record { sizes = a.sizes; maxima = a.maxima })
      = sym (ap (option_and_then extent_of) body_is) ∙ was.array.space in
      let long = maxima_long (part x.at x.size old.bytes) (record { sizes = a.sizes; maxima = a.maxima }) says
      (not_without (first_body dataspace_kind ms) (part x.at x.size old.bytes) body_is has) in
      omega (arith, long, ranked, length-part x.at x.size old.bytes extent_inside)

  module _ (w : List ℕ) (long : length w ≡ x.size) (e : Extent) (says : extent_of w ≡ Some e) (new : Space) (image : new ≡ with_bytes_at old x.at w) where
    room : x.at + length w ≤ length old.bytes
    room = omega (arith, long, extent_inside)

    bytes_are : new.bytes ≡ with_part x.at w old.bytes
    bytes_are = ap (λ (s : Space). s.bytes) image

    not_continued : ◌≢◌ {A = ℕ} 1 16
    not_continued is = absurd (omega (arith, is))

    low : x.at ≤ x.at
    low = omega arith

    high : x.at + length w ≤ x.at + x.size
    high = omega (arith, long)

    wrote : IsBodyWritten old.bytes new.bytes m dataspace_kind x
    wrote = subst (λ (bytes : List ℕ). IsBodyWritten old.bytes bytes m dataspace_kind x) (sym bytes_are)
        (body_written old.bytes m was.standing dataspace_kind not_continued x found w x.at low high)

    said : HasNewBody dataspace_kind ms (messages_in new.bytes m.list) (part x.at x.size new.bytes)
    said = wrote.messages

    body_now : part x.at x.size new.bytes ≡ w
    body_now = ap (part x.at x.size) bytes_are ∙ part-with_part_same x.at x.size w old.bytes (sym long) room

    extent_written : HasExtentNow old new m m e
    extent_written =
        let ms' = messages_in new.bytes m.list in
        let body = part x.at x.size new.bytes in
        record {
          standing = wrote.standing;
          said = record {
            once = same_count dataspace_kind ms ms' body said dataspace_kind ∙ was.array.one_space;
            space = ap (option_and_then extent_of) (new_first dataspace_kind ms ms' body said ∙ ap (λ (bytes : List ℕ). Some bytes) body_now) ∙ says;
            types = same_count dataspace_kind ms ms' body said datatype_kind;
            datatype = ap (option_and_then fixed_of) (same_first dataspace_kind ms ms' body said datatype_kind refl);
            tables = same_count dataspace_kind ms ms' body said symbol_table_kind;
            others = λ p none. same_filter dataspace_kind ms ms' body said p none.1.0;
          };
          header = refl;
          count = ap reference_count wrote.prefix;
          moves = moves_covered old new w x.at m.blocks
              (written_covered old.bytes m was.standing 1 not_continued x found w x.at low high) room bytes_are (ap (λ (s : Space). s.free) image);
        }

    -- and nothing is spent
    pub extent_now : HasExtentNow old new m m e × Spends old new 0 0
    extent_now = (extent_written, spends_write old new w x.at room image)
