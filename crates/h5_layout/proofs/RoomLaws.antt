-- Data that a layout names have room for the cells, and the value of a cell is that at its place.
use Rattle.std.proofs.Common.{◌≡◌, ℕ, ◌+◌, ◌-◌, ◌*◌, ◌^◌, ◌<◌, ◌≤◌, List, length, drop, Option, Some, None, ℤ, Bool, true, false, cond, refl, sym, ap, ◌∙◌, subst, arith, eq-eqb}
use Rattle.std.specs.Prelude.{nat_le}
use Rattle.std.specs.List.{slice_range}
use Rattle.std.proofs.lemmas.Bool.Decides.{nat_tests}
use Rattle.std.proofs.lemmas.Option.{same_Some, cond_some}
use Rattle.std.proofs.lemmas.List.{length-take, length-drop}
use Rattle.std.proofs.lemmas.List.FromFn.{length-map-range_with_len}
use Rattle.h5_bytes.specs.Bytes.{number_at, part}
use Rattle.h5_bytes.specs.Blocks.{block}
use Rattle.h5_model.specs.Format.Limits.{most_cells}
use Rattle.h5_model.specs.Tree.Places.{cells, extent_cells, index_of}
use Rattle.h5_model.specs.Format.Layout.{Layout, InMessage, InBlock, InChunks, layout_of, compact_layout, contiguous_layout, chunked_layout, short_numbers_at}
use Rattle.h5_model.specs.Format.Chunks.{Chunks}
use Rattle.h5_model.specs.Format.Cells.{cell_of, value_in}
use Rattle.h5_model.specs.Format.Fixed.{Fixed}
use Rattle.std.specs.Option.{option_map_or}
use Rattle.h5_shape.proofs.Products.{cells_le}
use Rattle.h5_model.proofs.PlaceLaws.{place-index}
use Rattle.h5_model.specs.Format.Messages.{Message}
use Rattle.h5_model.specs.Format.Described.{Described, HasArray}
use Rattle.h5_header.proofs.FoundLaws.{among_some}
use Rattle.h5_layout.proofs.BreachLaws.{small_chunk}
use Rattle.h5_bytes.proofs.PartLaws.{length-part}
use Rattle.h5_layout.specs.Stored.{has_room, data_in, IsArray, IsUnchunked}

-- ---- what is read has room

compact_room : (need : ℕ) (sizes : List ℕ) (size : ℕ) (body : List ℕ) (layout : Layout) → need ≡ cells sizes * size → compact_layout need body ≡ Some layout → has_room sizes size layout ≡ true
compact_room need sizes size body layout is h =
    let p = cond_some _ _ _ h in
    let whole : 4 + number_at body 2 2 ≤ length body = grind (arith, nat_tests, p.0) in
    let enough : need ≤ number_at body 2 2 = grind (arith, nat_tests, p.0) in
    let long : length (slice_range body 4 (4 + need)) ≡ need = length-take (4 + need - 4) (drop 4 body) ∙ omega (arith, length-drop 4 body) in
    let room : nat_le (cells sizes * size) (length (slice_range body 4 (4 + need))) ≡ true = grind (arith, nat_tests) in
    rw (← p.1) room

contiguous_cases : (a b c : Bool) (at len : ℕ) (sizes : List ℕ) (size : ℕ) (layout : Layout) → (c ≡ true → nat_le (cells sizes * size) len ≡ true)
    → cond a (cond b (Some (InBlock None)) (cond c (Some (InBlock (Some (block at len)))) None)) None ≡ Some layout → has_room sizes size layout ≡ true
contiguous_cases false b c at len sizes size layout room h = absurd (cc)
contiguous_cases true true c at len sizes size layout room h = subst (λ (l : Layout). has_room sizes size l ≡ true) (same_Some (InBlock None) layout h) refl
contiguous_cases true false true at len sizes size layout room h =
    subst (λ (l : Layout). has_room sizes size l ≡ true) (same_Some (InBlock (Some (block at len))) layout h) (room refl)
contiguous_cases true false false at len sizes size layout room h = absurd (cc)

chunked_room : (sizes : List ℕ) (size : ℕ) (body : List ℕ) (layout : Layout) → chunked_layout (length sizes) size body ≡ Some layout → has_room sizes size layout ≡ true
chunked_room sizes size body layout h =
    let p = cond_some _ _ _ h in
    let long : length (short_numbers_at body 11 (length sizes)) ≡ length sizes = length-map-range_with_len (λ i. number_at body (11 + 4 * i) 4) 0 (length sizes) in
    rw (← p.1) (eq-eqb _ _ long)

-- one of three readings, by the class
pub by_class : (a b c d : Bool) (x y z : Option Layout) (layout : Layout) (P : Type 0) → (x ≡ Some layout → P) → (y ≡ Some layout → P) → (z ≡ Some layout → P)
    → cond a (cond b x (cond c y (cond d z None))) None ≡ Some layout → P
by_class false b c d x y z layout P p q r h = absurd (cc)
by_class true true c d x y z layout P p q r h = p h
by_class true false true d x y z layout P p q r h = q h
by_class true false false true x y z layout P p q r h = r h
by_class true false false false x y z layout P p q r h = absurd (cc)

pub room_of : (sizes : List ℕ) (size : ℕ) (body : List ℕ) (layout : Layout) → layout_of sizes size body ≡ Some layout → has_room sizes size layout ≡ true
unfolding layout_of
room_of sizes size body layout h =
    by_class _ _ _ _ (compact_layout (cells sizes * size) body) (contiguous_layout (cells sizes * size) body) (chunked_layout (length sizes) size body) layout (has_room sizes size layout ≡ true)
    (compact_room (cells sizes * size) sizes size body layout refl)
    (contiguous_cases _ _ _ _ _ sizes size layout (λ (room : nat_le (cells sizes * size) (number_at body 10 8) ≡ true). room))
    (chunked_room sizes size body layout) h

-- ---- the place of a cell

pub few : (sizes dims : List ℕ) → dims ≡ sizes → extent_cells sizes ≤ most_cells → cells dims < 2 ^ 64
few sizes dims same small = let most : cells sizes ≤ most_cells = omega (arith, cells_le sizes) in rw same (omega arith)

-- ---- the cell at a place

-- the value in the data, or the fill where there are none, is the cell's
pub data_cell : (image : List ℕ) (t : Fixed) (fill : ℤ) (sizes : List ℕ) (layout : Layout) (chunks : Chunks) (place : ℕ) → IsUnchunked (length image) layout → place < cells sizes
    → option_map_or (λ bytes. value_in t bytes place) (data_in image layout) fill ≡ cell_of image t fill sizes layout chunks (index_of sizes place)
data_cell image t fill sizes (InMessage bytes) chunks place there below = ap (value_in t bytes) (sym (place-index sizes place below))
data_cell image t fill sizes (InBlock None) chunks place there below = refl
data_cell image t fill sizes (InBlock (Some b)) chunks place there below = ap (value_in t (part b.at b.len image)) (sym (place-index sizes place below))
data_cell image t fill sizes (InChunks chunk_sizes root) chunks place there below = absurd there

-- the data have room for the cells
pub data_room : (image : List ℕ) (sizes : List ℕ) (size : ℕ) (layout : Layout) (held : List ℕ) → IsUnchunked (length image) layout → has_room sizes size layout ≡ true
    → data_in image layout ≡ Some held → nat_le (cells sizes * size) (length held) ≡ true
data_room image sizes size (InMessage bytes) held there room is = rw (← same_Some bytes held is) room
data_room image sizes size (InBlock None) held there room is = absurd (cc)
data_room image sizes size (InBlock (Some b)) held there room is =
    rw (← same_Some (part b.at b.len image) held is) (rw (length-part b.at b.len image there) room)
data_room image sizes size (InChunks chunk_sizes root) held there room is = absurd there

-- ---- an array that messages describe

pub is_array : (ms : List Message) (a : Described) → HasArray ms a → IsArray a
is_array ms a h =
    let layout = among_some (layout_of a.sizes a.fixed.size) 8 ms a.layout h.laid_out in
    record { small = h.small; room = room_of a.sizes a.fixed.size (layout.0).body a.layout layout.3; chunk_small = small_chunk a.fixed a.layout h.chunk_small }
