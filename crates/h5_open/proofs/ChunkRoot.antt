-- The tree of chunks that a chunked layout names.
use Rattle.std.proofs.Common.{◌≡◌, ℕ, ◌+◌, ◌*◌, ◌<◌, ◌≤◌, inr, List, length, refl, sym, subst, arith, Option, Some, None, Bool, true, false}
use Rattle.std.specs.Prelude.{◌==◌, ◌&&◌, nat_le, not, if◌then◌else◌, option_and_then, slice_range}
use Rattle.std.specs.List.{find, list_any}
use Rattle.std.proofs.lemmas.Option.{same_Some}
use Rattle.std.proofs.lemmas.Bool.Decides.{nat_tests}
use Rattle.h5_bytes.specs.Bytes.{number_at, byte_at, undefined_address}
use Rattle.h5_bytes.specs.Blocks.{block, Inside}
use Rattle.h5_bytes.specs.declared.Block.{Block}
use Rattle.h5_model.specs.Format.MessageTypes.{data_layout_kind}
use Rattle.h5_model.specs.Format.Messages.{Message, HasMessages, first_body}
use Rattle.h5_model.specs.Format.Fixed.{Fixed}
use Rattle.h5_model.specs.Format.Extent.{Extent}
use Rattle.h5_model.specs.Format.Layout.{InMessage, InBlock, InChunks, layout_of, compact_layout, contiguous_layout, chunked_layout, short_numbers_at}
use Rattle.h5_model.specs.Format.Reached.{naming_of, ObjectHeader, Reached, by_block, AllMessages, chunk_root, extent_among, type_among, layout_among, size_at}
use Rattle.h5_model.specs.Tree.Places.{cells}
use Rattle.h5_header.proofs.MetLaws.{length-part-le}
use Rattle.h5_header.proofs.WalkLaws.DataLaws.{found_all}
use Rattle.h5_header.proofs.WalkLaws.MessagePlaces.{IsPlacedMessage, messages_placed}
use Rattle.h5_header.proofs.WalkLaws.ListLaws.{all_messages}
use Rattle.h5_layout.specs.Data.{chunk_shape}

no_compact : (need : ℕ) (body sizes : List ℕ) (root : Option ℕ) → compact_layout need body ≡ Some (InChunks sizes root) → ⊥
no_compact need body sizes root is = go (nat_le 4 (length body) && nat_le (4 + number_at body 2 2) (length body) && nat_le need (number_at body 2 2)) is where
  go : (x : Bool) → (if x then Some (InMessage (slice_range body 4 (4 + need))) else None) ≡ Some (InChunks sizes root) → ⊥
  go true e = let no : InMessage (slice_range body 4 (4 + need)) ≡ InChunks sizes root = same_Some (InMessage (slice_range body 4 (4 + need))) (InChunks sizes root) e in cc
  go false e = cc

no_contiguous : (need : ℕ) (body sizes : List ℕ) (root : Option ℕ) → contiguous_layout need body ≡ Some (InChunks sizes root) → ⊥
no_contiguous need body sizes root is = go (nat_le 18 (length body)) (number_at body 2 8 == undefined_address) (nat_le need (number_at body 10 8)) is where
  go : (x y z : Bool) → (if x then (if y then Some (InBlock None) else (if z then Some (InBlock (Some (block (number_at body 2 8) (number_at body 10 8)))) else None)) else None)
      ≡ Some (InChunks sizes root) → ⊥
  go true true z e = let no : InBlock None ≡ InChunks sizes root = same_Some (InBlock None) (InChunks sizes root) e in cc
  go true false true e =
      let b : Block = block (number_at body 2 8) (number_at body 10 8) in
      let no : InBlock (Some b) ≡ InChunks sizes root = same_Some (InBlock (Some b)) (InChunks sizes root) e in
      cc
  go true false false e = cc
  go false y z e = cc

chunked_long : (rank size : ℕ) (body sizes : List ℕ) (root : Option ℕ) → chunked_layout rank size body ≡ Some (InChunks sizes root) → 11 + 4 * (rank + 1) ≤ length body
chunked_long rank size body sizes root is =
    go (nat_le (11 + 4 * (rank + 1)) (length body)) refl (byte_at body 2 == rank + 1) (nat_le 1 rank) (not (list_any (λ n. n == 0) (short_numbers_at body 11 rank)))
    (number_at body (11 + 4 * rank) 4 == size) _ is where
      go : (x : Bool) → nat_le (11 + 4 * (rank + 1)) (length body) ≡ x → (y z w v : Bool) (l : _)
          → (if x && y && z && w && v then Some l else None) ≡ Some (InChunks sizes root) → 11 + 4 * (rank + 1) ≤ length body
      go true long y z w v l e = grind (arith, nat_tests, long)
      go false long y z w v l e = absurd (cc)

-- its numbers are there
pub chunks_long : (sizes : List ℕ) (size : ℕ) (body chunk_sizes : List ℕ) (root : Option ℕ) → layout_of sizes size body ≡ Some (InChunks chunk_sizes root) → 15 ≤ length body
unfolding layout_of
chunks_long sizes size body chunk_sizes root is = go (nat_le 2 (length body) && byte_at body 0 == 3) (byte_at body 1 == 0) (byte_at body 1 == 1) (byte_at body 1 == 2) is where
  go : (w x y z : Bool) → (if w then (if x then compact_layout (cells sizes * size) body else (if y then contiguous_layout (cells sizes * size) body
      else (if z then chunked_layout (length sizes) size body else None))) else None) ≡ Some (InChunks chunk_sizes root) → 15 ≤ length body
  go true true y z e = absurd (no_compact (cells sizes * size) body chunk_sizes root e)
  go true false true z e = absurd (no_contiguous (cells sizes * size) body chunk_sizes root e)
  go true false false true e = let long = chunked_long (length sizes) size body chunk_sizes root e in omega (arith, long)
  go true false false false e = absurd (cc)
  go false x y z e = absurd (cc)

-- ---- the field that names the tree

module _ (image : List ℕ) (header : ℕ) (ms : List Message) (blocks : List Block) (has : HasMessages image header ms blocks) (inside : Inside (length image) blocks)
    (m : Message) (first : find (λ (x : Message). x.kind == data_layout_kind) ms ≡ Some m) (t : Fixed) (e : Extent) (sizes : List ℕ) (root : ℕ)
    (extent : extent_among ms ≡ Some e) (type : type_among ms ≡ Some t) (layout : layout_among ms ≡ Some (InChunks sizes (Some root))) where
  long : 15 ≤ length m.body
  long =
      let all : option_and_then (λ (x : Extent). option_and_then (λ (y : Fixed). option_and_then (layout_of x.sizes y.size) (first_body data_layout_kind ms)) (type_among ms)) (extent_among ms)
      ≡ Some (InChunks sizes (Some root)) = layout in
      chunks_long e.sizes t.size m.body sizes (Some root) (rw (extent, type, first) at all)

  placed : IsPlacedMessage image header m
  placed = found_all (IsPlacedMessage image header) 8 ms m (messages_placed image header ms blocks has) first

  whole : length m.body ≤ size_at image placed.0
  whole = subst (λ (bs : List ℕ). length bs ≤ size_at image placed.0) (sym (placed.1).body) (length-part-le (placed.0 + 8) (size_at image placed.0) image)

  pub root_reached : (field depth : ℕ) → Reached image (naming_of field ObjectHeader header depth)
      → Reached image (naming_of (m.at + 3) (chunk_root image (chunk_shape t sizes) root) root depth)
  root_reached field depth reached =
      let all : AllMessages image header ms = all_messages image header ms blocks has inside in
      by_block {y = naming_of (m.at + 3) (chunk_root image (chunk_shape t sizes) root) root depth} reached
      (inr (ms, all, (m, t, InChunks sizes (Some root), first, type, layout, refl)))
      (omega (arith, long, whole, (placed.1).there, (placed.1).place))

  -- it stands inside the message
  pub root_inside : m.at + 3 < m.at + 8 + length m.body
  root_inside = omega arith
