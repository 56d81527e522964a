-- What the messages of a header that is read have, so that they can be written again (File Format Specification 3.0, sections IV.A.1.a
-- and IV.A.2.m).
use Rattle.std.proofs.Common.{◌≡◌, ℕ, ◌+◌, ◌-◌, ◌*◌, ◌%◌, ◌^◌, ◌<◌, ◌≤◌, List, [], ◌∷◌, ◌++◌, length, drop, map, Some, None, true, false, cond, refl, sym, ap, ◌∙◌, subst, arith}
use Rattle.std.specs.Prelude.{Bool, nat_le, nat_lt, ◌==◌, if◌then◌else◌, slice_range}
use Rattle.std.specs.Option.{option_and_then}
use Rattle.std.specs.List.{AllByRecursion, range_with_len, flat_map}
use Rattle.std.proofs.lemmas.Bool.Decides.{nat_tests}
use Rattle.std.proofs.lemmas.Option.{cond_some, option_and_then_some}
use Rattle.std.proofs.lemmas.List.{length-take}
use Rattle.std.proofs.lemmas.List.FromFn.{length-map-range_with_len}
use Rattle.h5_bytes.specs.Bytes.{byte_at, number_at, part}
use Rattle.h5_bytes.specs.Texts.{pad8}
use Rattle.h5_bytes.specs.declared.Block.{Block}
use Rattle.h5_bytes.proofs.PartLaws.{length-part}
use Rattle.h5_bytes.proofs.BlockLaws.{all_append}
use Rattle.h5_model.specs.Format.Limits.{most_cells, most_dimensions}
use Rattle.h5_model.specs.Format.Messages.{Message, IsMessage, Fills, FillBlocks, HasMessages, continuations, total_in, prefix_at, first_block, most_messages, most_body_bytes}
use Rattle.h5_model.specs.Format.Fixed.{Fixed, IsFixed, raw_at, value_at}
use Rattle.h5_model.specs.Tree.Places.{cells, extent_cells}
use Rattle.h5_model.specs.Format.Extent.{Extent, extent_of, extent_in, is_dataspace, rank_in, size_in}
use Rattle.h5_model.specs.Format.Datatype.{fixed_of}
use Rattle.h5_model.specs.Format.Sizes.{attribute_size}
use Rattle.h5_model.specs.Tree.Sound.{AreOf}
use Rattle.h5_model.specs.Tree.Objects.{Attribute}
use Rattle.h5_model.specs.Format.AttributeBody.{attribute_of, attribute_with, is_attribute, kept_body, name_in, name_start, name_size, datatype_size, dataspace_size, datatype_place, dataspace_place, data_place, values_at}
use Rattle.h5_model.proofs.StoredValues.{fits_value_at}
use Rattle.h5_query.proofs.FillLaws.{type_sound}
use Rattle.h5_repack.specs.Bodies.Sound.{IsPlainAttribute, IsPlainBody as IsKeptBody}
use Rattle.h5_edit.specs.Fits.Laws.{AreBytes}
use Rattle.h5_layout.proofs.KeyWritten.{bytes_part}
use Rattle.h5_laws.proofs.SoundLaws.Read.{until_no_zero}
use Rattle.h5_header.proofs.MovableLaws.{type_wide}

-- an unsigned type of so many bytes, the low byte first
unsigned : ℕ → Fixed
unsigned size = record { size = size; signed = false; big = false }

-- a number of two bytes
pub short_low : (bytes : List ℕ) (at : ℕ) → AreBytes bytes → number_at bytes at 2 < 65536
unfolding number_at value_at raw_at unsigned
short_low bytes at low =
    let fit : nat_lt (number_at bytes at 2) 65536 ≡ true = fits_value_at (unsigned 2) bytes at (record { size = refl; plain = λ _. refl }) low in
    grind (arith, nat_tests, fit)

-- a number of eight bytes
pub long_low : (bytes : List ℕ) (at : ℕ) → AreBytes bytes → number_at bytes at 8 < 2 ^ 64
unfolding number_at value_at raw_at unsigned
long_low bytes at low =
    let fit : nat_lt (number_at bytes at 8) (2 ^ 64) ≡ true = fits_value_at (unsigned 8) bytes at (record { size = refl; plain = λ _. refl }) low in
    grind (arith, nat_tests, fit)

-- ---- bodies

-- a padded body, with as many bytes as a message may have
pub record IsPlainBody (m : Message) : Type 0 where
  pub padded : length m.body % 8 ≡ 0
  pub short : length m.body < 65536
  pub low : AreBytes m.body

read_body : (block_at : ℕ) (bytes : List ℕ) (at : ℕ) (m : Message) → AreBytes bytes → IsMessage block_at bytes at m → IsPlainBody m
read_body block_at bytes at m low is =
    let long : length m.body ≡ number_at bytes (at + 2) 2 = ap length is.body ∙ length-part (at + 8) (number_at bytes (at + 2) 2) bytes is.whole in
    record {
      padded = rw long is.padded;
      short = rw long (short_low bytes (at + 2) low);
      low = subst AreBytes (sym is.body) (bytes_part (at + 8) (number_at bytes (at + 2) 2) bytes low);
    }

filled_bodies : (block_at : ℕ) (bytes : List ℕ) (at : ℕ) (ms : List Message) → AreBytes bytes → Fills block_at bytes at ms → AllByRecursion IsPlainBody ms
filled_bodies block_at bytes at [] low fills = tt
filled_bodies block_at bytes at (m ∷ ms) low fills =
    (read_body block_at bytes at m low fills.0, filled_bodies block_at bytes (at + 8 + number_at bytes (at + 2) 2) ms low fills.1)

block_bodies : (image : List ℕ) (waiting : List Block) (parts : List (List Message)) → AreBytes image → FillBlocks image waiting parts
    → AllByRecursion IsPlainBody (flat_map (λ ms. ms) parts)
block_bodies image [] [] low filled = tt
block_bodies image [] (ms ∷ parts) low filled = absurd filled
block_bodies image (b ∷ waiting) [] low filled = absurd filled
block_bodies image (b ∷ waiting) (ms ∷ parts) low filled =
    all_append IsPlainBody ms (flat_map (λ xs. xs) parts)
    (filled_bodies b.at (part b.at b.len image) 0 ms (bytes_part b.at b.len image low) filled.0)
    (block_bodies image (waiting ++ continuations ms) parts low filled.1)

module _ (image : List ℕ) (low : AreBytes image) (header : ℕ) (ms : List Message) (blocks : List Block) (has : HasMessages image header ms blocks) where
  -- each body of a header that is read
  pub plain_bodies : AllByRecursion IsPlainBody ms
  plain_bodies = subst (AllByRecursion IsPlainBody) (sym has.all) (block_bodies image (first_block image header ∷ []) has.parts low has.filled)

  -- the total of messages has two bytes
  pub few_messages : length ms ≤ most_messages
  few_messages =
      let total : total_in (prefix_at image header) < 65536 = short_low (prefix_at image header) 2 (bytes_part header 16 image low) in
      omega (arith, total, has.total)

-- ---- attributes

-- a dataspace body has room for its sizes, of which there are 32 or less
pub extent_long : (body : List ℕ) (x : Extent) → extent_of body ≡ Some x → (8 + 8 * length x.sizes ≤ length body) × (length x.sizes ≤ most_dimensions)
unfolding extent_of
extent_long body x h =
    let p = cond_some (is_dataspace body) (extent_in body) x h in
    let ranks : length x.sizes ≡ rank_in body = ap (λ (e : Extent). length e.sizes) (sym p.1) ∙ length-map-range_with_len (size_in body) 0 (rank_in body) in
    let low : rank_in body ≤ most_dimensions = grind (arith, nat_tests, p.0) in
    let room : 8 + 8 * rank_in body ≤ length body = grind (arith, nat_tests, p.0) in
    (omega (arith, ranks, room), omega (arith, ranks, low))

values_of_type : (t : Fixed) (bytes : List ℕ) (at : ℕ) → IsFixed t → AreBytes bytes → (ks : List ℕ) → AreOf t (map (λ k. value_at t bytes (at + k * t.size)) ks)
values_of_type t bytes at is low [] = tt
values_of_type t bytes at is low (k ∷ ks) = (fits_value_at t bytes (at + k * t.size) is low, values_of_type t bytes at is low ks)

length-range : (body : List ℕ) (at n : ℕ) → length (slice_range body at (at + n)) ≤ n
length-range body at n = omega (arith, length-take (at + n - at) (drop at body))

-- the name stands behind eight bytes or nine
name_behind : (body : List ℕ) → 8 ≤ name_start body
name_behind body = by_test (byte_at body 0 == 3) where
  by_test : (b : Bool) → 8 ≤ (if b then 9 else 8)
  by_test true = omega arith
  by_test false = omega arith

-- version 1 pads its parts
parts_long : (body : List ℕ) → (byte_at body 0 == 1) ≡ true → 8 + pad8 (name_size body) + pad8 (datatype_size body) + pad8 (dataspace_size body) ≤ data_place body
parts_long body first =
    let whole : data_place body ≡ name_start body + pad8 (name_size body) + pad8 (datatype_size body) + pad8 (dataspace_size body)
    = ap (λ (b : Bool). name_start body + (if b then pad8 (name_size body) else name_size body) + (if b then pad8 (datatype_size body) else datatype_size body)
    + (if b then pad8 (dataspace_size body) else dataspace_size body)) first in
    omega (arith, whole, name_behind body)

module _ (body : List ℕ) (short : length body < 65536) (padded : length body % 8 ≡ 0) where
  -- an attribute of version 1 fits in a message as it is written, one of version 2 or 3 is written as its body
  by_version : (name : List ℕ) (a : Attribute) (b : Bool) → (byte_at body 0 == 1) ≡ b → ((byte_at body 0 == 1) ≡ true → attribute_size (length name) a.sizes (a.fixed).size ≤ most_body_bytes)
      → attribute_of body ≡ Some (name, a) → IsKeptBody name a (if b then None else Some body)
  by_version name a true first room said = room first
  by_version name a false later room said = (said, padded, short)

module _ (body : List ℕ) (low : AreBytes body) (short : length body < 65536) (padded : length body % 8 ≡ 0) (e : List ℕ × Attribute) (few : extent_cells (e.1).sizes ≤ most_cells) where
  from_parts : (t : Fixed) (x : Extent) → attribute_of body ≡ Some e → is_attribute body ≡ true
      → fixed_of (slice_range body (datatype_place body) (datatype_place body + datatype_size body)) ≡ Some t
      → extent_of (slice_range body (dataspace_place body) (dataspace_place body + dataspace_size body)) ≡ Some x
      → attribute_with body t x ≡ Some e → IsPlainAttribute e
  from_parts t x said form type_is extent_is h =
      let p = cond_some (nat_le (data_place body + cells x.sizes * t.size) (length body)) _ e h in
      let named : 1 ≤ length (name_in body) = grind (arith, nat_tests, form) in
      let ended : length (name_in body) < name_size body = grind (arith, nat_tests, form) in
      let type_room : 12 ≤ datatype_size body = omega (arith, type_wide _ t type_is, length-range body (datatype_place body) (datatype_size body)) in
      let extent = extent_long _ x extent_is in
      let space_room : 8 + 8 * length x.sizes ≤ dataspace_size body = omega (arith, extent.0, length-range body (dataspace_place body) (dataspace_size body)) in
      let there : data_place body + cells x.sizes * t.size ≤ length body = grind (arith, nat_tests, p.0) in
      let sound : IsFixed t = type_sound _ t type_is in
      let a : Attribute = record { fixed = t; sizes = x.sizes; values = values_at t body (data_place body) (cells x.sizes); body = kept_body body } in
      let room : (byte_at body 0 == 1) ≡ true → attribute_size (length (name_in body)) x.sizes t.size ≤ most_body_bytes
      = λ first. omega (arith, parts_long body first, named, ended, type_room, space_room, there, short, padded) in
      let plain : extent_cells x.sizes ≤ most_cells → IsPlainAttribute (name_in body, a)
      = λ small. record {
        named = named;
        text = until_no_zero (slice_range body (name_start body) (name_start body + name_size body));
        fixed = sound;
        ranked = extent.1;
        counted = length-map-range_with_len (λ k. value_at t body (data_place body + k * t.size)) 0 (cells x.sizes);
        of_type = values_of_type t body (data_place body) sound low (range_with_len 0 (cells x.sizes));
        few = small;
        body = by_version body short padded (name_in body) a (byte_at body 0 == 1) refl room (said ∙ ap Some (sym p.1));
      } in
      subst (λ (a : List ℕ × Attribute). extent_cells (a.1).sizes ≤ most_cells → IsPlainAttribute a) p.1 plain few

  -- an attribute that was read can be written: it is never longer than what was read
  pub plain_attribute : attribute_of body ≡ Some e → IsPlainAttribute e
  unfolding attribute_of
  plain_attribute said = elim (is_attribute body) as (λ b. is_attribute body ≡ b
      → cond b (option_and_then (λ t. option_and_then (attribute_with body t)
      (extent_of (slice_range body (dataspace_place body) (dataspace_place body + dataspace_size body))))
      (fixed_of (slice_range body (datatype_place body) (datatype_place body + datatype_size body)))) None ≡ Some e → IsPlainAttribute e) [
        | true ↦ λ form is. option_and_then_some _ _ e is (λ t type_is inner. option_and_then_some _ _ e inner (λ x extent_is made. from_parts t x said form type_is extent_is made))
        | false ↦ λ form none. absurd (cc)
      ] refl said
