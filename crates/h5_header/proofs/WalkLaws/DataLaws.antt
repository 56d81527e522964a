-- The block that a contiguous layout names.
use Rattle.std.proofs.Common.{◌≡◌, ℕ, ◌+◌, ◌*◌, ◌<◌, ◌≤◌, inr, List, [], ◌∷◌, length, refl, sym, ◌∙◌, ap, subst, arith, Option, Some, None, Bool, true, false, cond}
use Rattle.std.specs.Prelude.{◌==◌, ◌&&◌, nat_le, if◌then◌else◌, option_and_then}
use Rattle.std.specs.List.{AllByRecursion, find}
use Rattle.std.proofs.lemmas.Option.{same_Some}
use Rattle.std.proofs.lemmas.Bool.Decides.{nat_tests}
use Rattle.h5_bytes.specs.Bytes.{number_at, byte_at, undefined_address}
use Rattle.h5_bytes.specs.Blocks.{block, Inside}
use Rattle.h5_bytes.specs.declared.Block.{Block}
use Rattle.h5_bytes.proofs.FieldLaws.{number_at-part}
use Rattle.h5_header.proofs.MetLaws.{length-part-le}
use Rattle.h5_model.specs.Format.MessageTypes.{data_layout_kind}
use Rattle.h5_model.specs.Format.Messages.{Message, HasMessages, first_body}
use Rattle.h5_model.specs.Format.Fixed.{Fixed}
use Rattle.h5_model.specs.Format.Extent.{Extent}
use Rattle.h5_model.specs.Tree.Places.{cells}
use Rattle.h5_model.specs.Format.Layout.{InBlock, InChunks, layout_of, compact_layout, contiguous_layout, chunked_layout}
use Rattle.h5_model.specs.Format.Reached.{naming_of, ObjectHeader, Data, Reached, by_block, AllMessages, extent_among, type_among, layout_among, length_of, size_at}
use Rattle.h5_model.proofs.BodyLaws.{no_compact}
use Rattle.h5_header.proofs.WalkLaws.MessagePlaces.{IsPlacedMessage, messages_placed}
use Rattle.h5_header.proofs.WalkLaws.ListLaws.{all_messages}

-- what holds of each member holds of one that is found
pub found_all : (P : Message → Type 0) (k : ℕ) (ms : List Message) (m : Message) → AllByRecursion P ms → find (λ (x : Message). x.kind == k) ms ≡ Some m → P m
found_all P k [] m all is = absurd (cc)
found_all P k (x ∷ ms) m all is = elim (x.kind == k) as (λ b. cond b (Some x) (find (λ (y : Message). y.kind == k) ms) ≡ Some m → P m) [
  | true ↦ λ e. subst P (same_Some x m e) all.0
  | false ↦ λ e. found_all P k ms m all.1 e
] is

-- a layout in a block is contiguous, and its two numbers are there
abbrev pub IsContiguous : List ℕ → Block → Type 0
IsContiguous body b = (18 ≤ length body) × (b ≡ block (number_at body 2 8) (number_at body 10 8))

contiguous_is : (need : ℕ) (body : List ℕ) (b : Block) → contiguous_layout need body ≡ Some (InBlock (Some b)) → IsContiguous body b
contiguous_is need body b is = go (nat_le 18 (length body)) refl (number_at body 2 8 == undefined_address) (nat_le need (number_at body 10 8)) is where
  go : (x : Bool) → nat_le 18 (length body) ≡ x → (y z : Bool)
      → (if x then (if y then Some (InBlock None) else (if z then Some (InBlock (Some (block (number_at body 2 8) (number_at body 10 8)))) else None)) else None) ≡ Some (InBlock (Some b)) → IsContiguous body b
  go true long true z e = absurd (let no : InBlock None ≡ InBlock (Some b) = same_Some (InBlock None) (InBlock (Some b)) e in cc)
  go true long false true e =
      let same : InBlock (Some (block (number_at body 2 8) (number_at body 10 8))) ≡ InBlock (Some b) = same_Some (InBlock (Some (block (number_at body 2 8) (number_at body 10 8)))) (InBlock (Some b)) e in
      (grind (arith, nat_tests, long), let at : block (number_at body 2 8) (number_at body 10 8) ≡ b = cc in sym at)
  go true long false false e = absurd (cc)
  go false short y z e = absurd (cc)

no_chunked : (rank size : ℕ) (body : List ℕ) (b : Block) (l : Bool) (x : List ℕ) (r : Option ℕ) → (if l then Some (InChunks x r) else None) ≡ Some (InBlock (Some b)) → ⊥
no_chunked rank size body b true x r e = let no : InChunks x r ≡ InBlock (Some b) = same_Some (InChunks x r) (InBlock (Some b)) e in cc
no_chunked rank size body b false x r e = cc

pub block_layout : (sizes : List ℕ) (size : ℕ) (body : List ℕ) (b : Block) → layout_of sizes size body ≡ Some (InBlock (Some b)) → IsContiguous body b
unfolding layout_of
block_layout sizes size body b is = go (nat_le 2 (length body) && byte_at body 0 == 3) (byte_at body 1 == 0) (byte_at body 1 == 1) (byte_at body 1 == 2) is where
  go : (w x y z : Bool) → (if w then (if x then compact_layout (cells sizes * size) body else (if y then contiguous_layout (cells sizes * size) body
      else (if z then chunked_layout (length sizes) size body else None))) else None) ≡ Some (InBlock (Some b)) → IsContiguous body b
  go true true y z e = absurd (no_compact (cells sizes * size) body b e)
  go true false true z e = contiguous_is (cells sizes * size) body b e
  go true false false true e = absurd (no_chunked (length sizes) size body b _ _ _ e)
  go true false false false e = absurd (cc)
  go false x y z e = absurd (cc)

-- ---- the field that names the block

module _ (image : List ℕ) (header : ℕ) (ms : List Message) (blocks : List Block) (has : HasMessages image header ms blocks) (inside : Inside (length image) blocks)
    (m : Message) (first : find (λ (x : Message). x.kind == data_layout_kind) ms ≡ Some m) (t : Fixed) (e : Extent) (b : Block)
    (extent : extent_among ms ≡ Some e) (type : type_among ms ≡ Some t) (layout : layout_among ms ≡ Some (InBlock (Some b))) where
  laid_out : layout_of e.sizes t.size m.body ≡ Some (InBlock (Some b))
  laid_out =
      let all : option_and_then (λ (x : Extent). option_and_then (λ (y : Fixed). option_and_then (layout_of x.sizes y.size) (first_body data_layout_kind ms)) (type_among ms)) (extent_among ms) ≡ Some (InBlock (Some b)) = layout in
      rw (extent, type, first) at all

  pub numbers : IsContiguous m.body b
  numbers = block_layout e.sizes t.size m.body b laid_out

  pub placed : IsPlacedMessage image header m
  placed = found_all (IsPlacedMessage image header) 8 ms m (messages_placed image header ms blocks has) first

  long : length m.body ≤ size_at image placed.0
  long = subst (λ (bs : List ℕ). length bs ≤ size_at image placed.0) (sym (placed.1).body) (length-part-le (placed.0 + 8) (size_at image placed.0) image)

  pub data_length : (depth : ℕ) → length_of image (naming_of (m.at + 2) Data b.at depth) ≡ b.len
  data_length depth =
      let at = placed.0 in
      let n = size_at image at in
      let there = (placed.1).there in
      let over : m.at + 2 + 8 ≡ at + 8 + 10 = omega (arith, (placed.1).place) in
      let said : number_at m.body 10 8 ≡ number_at image (at + 8 + 10) 8 = ap (λ (bs : List ℕ). number_at bs 10 8) (placed.1).body ∙ number_at-part 10 8 (at + 8) n image (omega (arith, numbers.0, long)) in
      ap (λ (p : ℕ). number_at image p 8) over ∙ sym said ∙ ap (λ (c : Block). c.len) (sym numbers.1)

  pub data_reached : (field depth : ℕ) → Reached image (naming_of field ObjectHeader header depth) → Reached image (naming_of (m.at + 2) Data b.at depth)
  data_reached field depth reached =
      let all : AllMessages image header ms = all_messages image header ms blocks has inside in
      by_block {y = naming_of (m.at + 2) Data b.at depth} reached (inr (ms, all, (m, t, InBlock (Some b), first, type, layout, refl)))
      (omega (arith, numbers.0, long, (placed.1).there, (placed.1).place))

  -- it stands inside the message
  pub data_inside : (m.at ≤ m.at + 2) × (m.at + 2 < m.at + 8 + length m.body) × (8 ≤ m.at)
  data_inside = (omega arith, omega arith, omega (arith, (placed.1).place))
