-- Where a cell stands: its value is in the bytes there, no other cell stands in them, and they are those of the data's blocks.
use Rattle.std.proofs.Common.{◌≡◌, ℕ, suc, ◌+◌, ◌-◌, ◌*◌, ◌/◌, ◌%◌, ◌<◌, ◌≤◌, inl, inr, List, [], ◌∷◌, length, map, Option, Some, None, ℤ, Bool, true, false, cond, refl, sym, ap, ap₂, ◌∙◌, subst, arith, get_or}
use Rattle.std.specs.Prelude.{◌==◌, option_map}
use Rattle.std.specs.FinMap.{entries, get, get-empty, get-entries, nat_cmp-IsAntisymmetric, slice_cmp-IsAntisymmetric, values}
use Rattle.std.specs.List.{list_any}
use Rattle.std.specs.Ordering.{nat_cmp}
use Rattle.std.specs.Cmp.Lexicographic.{slice_cmp}
use Rattle.std.proofs.lemmas.Bool.{or_parts, cases_order}
use Rattle.std.proofs.lemmas.Bool.Decides.{nat_tests}
use Rattle.std.proofs.lemmas.Nat.{div-add-mod'}
use Rattle.std.proofs.lemmas.Option.{same_Some, cond_some}
use Rattle.std.proofs.Math.Nat.{mul-le-mul_right}
use Rattle.h5_bytes.specs.Blocks.{block, cover, holds}
use Rattle.h5_bytes.specs.Bytes.{part}
use Rattle.h5_bytes.specs.declared.Block.{Block}
use Rattle.h5_bytes.proofs.BlockLaws.{cover-append, holds_in}
use Rattle.h5_model.specs.Format.Cells.{cell_of, value_in}
use Rattle.h5_model.specs.Format.Chunks.{Chunks}
use Rattle.h5_model.specs.Format.Fixed.{Fixed}
use Rattle.h5_model.specs.Format.Layout.{Layout, InMessage, InBlock, InChunks, layout_of, compact_layout, contiguous_layout, chunked_layout, short_numbers_at}
use Rattle.h5_model.specs.Format.Nodes.{chunk_kind, tree_blocks}
use Rattle.h5_model.specs.Format.Superblock.{chunk_k}
use Rattle.h5_model.specs.Tree.Grid.{corner_of, inner_of}
use Rattle.h5_model.specs.Tree.Places.{cells, index_of, place_of}
use Rattle.h5_model.proofs.PlaceLaws.{index-place, place_below, place-index}
use Rattle.h5_laws.proofs.Lists.{In}
use Rattle.h5_laws.proofs.Maps.{found_entry}
use Rattle.h5_shape.proofs.GridBoxes.{length-index_of}
use Rattle.h5_chunks.specs.Read.{AreChunksRead}
use Rattle.h5_chunks.specs.Told.{chunks_told}
use Rattle.h5_layout.specs.Data.{AreDataRead, chunk_shape, data_blocks, stored_chunks}
use Rattle.h5_layout.specs.Standing.{address_of, blocks_with_cells}
use Rattle.h5_layout.specs.Stored.{has_room}
use Rattle.h5_layout.proofs.GridLaws.{chunk_inside}
use Rattle.h5_layout.proofs.LocateLaws.{inner_inside}
use Rattle.h5_layout.proofs.RoomLaws.{by_class}

-- ---- an index by its chunk and its place in it

pub index_by_parts : (chunk xs ys : List ℕ) → length xs ≡ length chunk → length ys ≡ length chunk → corner_of chunk xs ≡ corner_of chunk ys
    → inner_of chunk xs ≡ inner_of chunk ys → xs ≡ ys
index_by_parts [] [] [] long same corner inner = refl
index_by_parts [] [] (y ∷ ys) long same corner inner = absurd (omega (arith, same))
index_by_parts [] (x ∷ xs) ys long same corner inner = absurd (omega (arith, long))
index_by_parts (c ∷ cs) [] ys long same corner inner = absurd (omega (arith, long))
index_by_parts (c ∷ cs) (x ∷ xs) [] long same corner inner = absurd (omega (arith, same))
index_by_parts (c ∷ cs) (x ∷ xs) (y ∷ ys) long same corner inner =
    let first : x / c * c ≡ y / c * c = ap (λ (l : List ℕ). get_or l 0 0) corner in
    let column : x % c ≡ y % c = ap (λ (l : List ℕ). get_or l 0 0) inner in
    let number : x ≡ y = omega (arith, first, column, div-add-mod' x c, div-add-mod' y c) in
    ap₂ (λ (n : ℕ) (ns : List ℕ). n ∷ ns) number (index_by_parts cs xs ys (omega (arith, long)) (omega (arith, same)) (ap rest corner) (ap rest inner)) where
      rest : List ℕ → List ℕ
      rest [] = []
      rest (n ∷ ns) = ns

-- ---- places

-- places of cells of so many bytes that share a byte are one place
pub same_stride : (s j k q : ℕ) → j * s ≤ q → q < j * s + s → k * s ≤ q → q < k * s + s → j ≡ k
same_stride s j k q low high under over = elim (cases_order j k) [
  | inl same ↦ same
  | inr (inl below) ↦ absurd (let past : suc j * s ≤ k * s = mul-le-mul_right s below in omega (arith, past, high, under))
  | inr (inr above) ↦ absurd (let past : suc k * s ≤ j * s = mul-le-mul_right s above in omega (arith, past, low, over))
]

from_option : {X : Type 0} (f : X → ℕ) (o : Option X) (x : ℕ) → option_map f o ≡ Some x → (y : X) × (o ≡ Some y) × (f y ≡ x)
from_option f None x is = absurd (let never : None ≡ Some x = is in cc)
from_option f (Some y) x is = (y, refl, same_Some (f y) x is)

-- ---- chunks

-- an entry is among those that stand around a byte
pub among : (p n : ℕ) (es : List (List ℕ × ℕ)) (e : List ℕ × ℕ) → In e es → holds p e.1 n ≤ cover p (map (λ at. block at n) (map (λ (x : List ℕ × ℕ). x.1) es))
among p n [] e at = absurd at
among p n (x ∷ es) e (inl is) = let here = ap (λ (y : List ℕ × ℕ). holds p y.1 n) is in omega (arith, here)
among p n (x ∷ es) e (inr at) = omega (arith, among p n es e at)

-- where no two blocks share a byte, one entry stands around it
pub one_around : (p n : ℕ) (es : List (List ℕ × ℕ)) (d e : List ℕ × ℕ) → cover p (map (λ at. block at n) (map (λ (x : List ℕ × ℕ). x.1) es)) ≤ 1 → In d es → In e es
    → 1 ≤ holds p d.1 n → 1 ≤ holds p e.1 n → d ≡ e
one_around p n [] d e once at there here also = absurd at
one_around p n (x ∷ es) d e once (inl is) (inl also_is) here also = sym is ∙ also_is
one_around p n (x ∷ es) d e once (inl is) (inr there) here also =
    let first : 1 ≤ holds p x.1 n = subst (λ (y : List ℕ × ℕ). 1 ≤ holds p y.1 n) (sym is) here in
    absurd (omega (arith, first, among p n es e there, also, once))
one_around p n (x ∷ es) d e once (inr at) (inl also_is) here also =
    let first : 1 ≤ holds p x.1 n = subst (λ (y : List ℕ × ℕ). 1 ≤ holds p y.1 n) (sym also_is) also in
    absurd (omega (arith, first, among p n es d at, here, once))
one_around p n (x ∷ es) d e once (inr at) (inr there) here also = one_around p n es d e (omega (arith, once)) at there here also

-- a chunk has cells
abbrev pub HasBoxes : Layout → Type 0
HasBoxes (InMessage bytes) = Unit {0}
HasBoxes (InBlock b) = Unit {0}
HasBoxes (InChunks chunk root) = 0 < cells chunk

-- as those that a message tells have
no_boxes : (need : ℕ) (body : List ℕ) (layout : Layout) → compact_layout need body ≡ Some layout → HasBoxes layout
no_boxes need body layout h = subst HasBoxes (cond_some _ _ _ h).1 tt

block_boxes : (a b c : Bool) (d : Block) (layout : Layout) → cond a (cond b (Some (InBlock None)) (cond c (Some (InBlock (Some d))) None)) None ≡ Some layout → HasBoxes layout
block_boxes false b c d layout h = absurd (cc)
block_boxes true true c d layout h = subst HasBoxes (same_Some (InBlock None) layout h) tt
block_boxes true false true d layout h = subst HasBoxes (same_Some (InBlock (Some d)) layout h) tt
block_boxes true false false d layout h = absurd (cc)

some_boxes : (chunk : List ℕ) → list_any (λ n. n == 0) chunk ≡ false → 0 < cells chunk
some_boxes [] some = omega arith
some_boxes (c ∷ cs) some =
    let own : (c == 0) ≡ false = (or_parts (c == 0) (list_any (λ n. n == 0) cs) some).0 in
    let any : 1 ≤ c = grind (arith, nat_tests) in
    let rest = some_boxes cs (or_parts (c == 0) (list_any (λ n. n == 0) cs) some).1 in
    let one : 1 * cells cs ≤ c * cells cs = mul-le-mul_right (cells cs) any in
    omega (arith, one, rest)

chunk_boxes : (rank size : ℕ) (body : List ℕ) (layout : Layout) → chunked_layout rank size body ≡ Some layout → HasBoxes layout
chunk_boxes rank size body layout h =
    let p = cond_some _ _ _ h in
    let some : list_any (λ n. n == 0) (short_numbers_at body 11 rank) ≡ false = grind (arith, nat_tests, p.0) in
    subst HasBoxes p.1 (some_boxes (short_numbers_at body 11 rank) some)

pub boxes_of : (sizes : List ℕ) (size : ℕ) (body : List ℕ) (layout : Layout) → layout_of sizes size body ≡ Some layout → HasBoxes layout
unfolding layout_of
boxes_of sizes size body layout h =
    by_class _ _ _ _ (compact_layout (cells sizes * size) body) (contiguous_layout (cells sizes * size) body) (chunked_layout (length sizes) size body) layout (HasBoxes layout)
    (no_boxes (cells sizes * size) body layout) (block_boxes _ _ _ _ layout) (chunk_boxes (length sizes) size body layout) h

-- the cell at a place stands in a block of the data, so many cells from its beginning
pub record IsHeld (image : List ℕ) (t : Fixed) (sizes : List ℕ) (layout : Layout) (place x : ℕ) : Type 0 where
  pub b : Block
  pub inner : ℕ
  pub at : b.at + inner * t.size ≡ x
  pub room : inner * t.size + t.size ≤ b.len
  pub inside : b.at + b.len ≤ length image
  pub value : (new : List ℕ) (fill : ℤ) → cell_of new t fill sizes layout (stored_chunks image t layout) (index_of sizes place) ≡ value_in t (part b.at b.len new) inner
  pub within : (p : ℕ) → holds p b.at b.len ≤ cover p (data_blocks image t layout)
  pub among : (header : List Block) (p : ℕ) → holds p b.at b.len ≤ cover p (blocks_with_cells t layout (stored_chunks image t layout) header)

module _ (image : List ℕ) (t : Fixed) (sizes : List ℕ) where
  -- the address of the cell at a place
  abbrev pub stands : Layout → ℕ → Option ℕ
  stands layout place = address_of t sizes layout (stored_chunks image t layout) (index_of sizes place)

  module _ (chunk : List ℕ) (root : ℕ) (read : AreChunksRead image (chunk_shape t chunk) root) where
    abbrev chunks : Chunks
    chunks = chunks_told image (chunk_shape t chunk) root

    abbrev layout : Layout
    layout = InChunks chunk (Some root)

    abbrev pub node_blocks : List Block
    node_blocks = tree_blocks (chunk_kind (chunk_k image) (length chunk)) read.stored.owned

    abbrev pub box_blocks : List Block
    box_blocks = map (λ at. block at (cells chunk * t.size)) (values chunks)

    pub cover_data : (p : ℕ) → cover p (data_blocks image t layout) ≡ cover p node_blocks + cover p box_blocks
    cover_data p = ap (cover p) read.stored.laid ∙ cover-append p node_blocks box_blocks

    -- its chunk, and the place in it
    pub record IsBoxed (place x : ℕ) : Type 0 where
      pub at : ℕ
      pub found : get chunks (corner_of chunk (index_of sizes place)) ≡ Some at
      pub entry : In (corner_of chunk (index_of sizes place), at) (entries chunks)
      pub is : at + place_of chunk (inner_of chunk (index_of sizes place)) * t.size ≡ x
      pub low : place_of chunk (inner_of chunk (index_of sizes place)) < cells chunk
      pub room : place_of chunk (inner_of chunk (index_of sizes place)) * t.size + t.size ≤ cells chunk * t.size
      pub covered : (p : ℕ) → holds p at (cells chunk * t.size) ≤ cover p box_blocks

    module _ (rank : length chunk ≡ length sizes) (some : 0 < cells chunk) where
      inner_below : (place : ℕ) → place_of chunk (inner_of chunk (index_of sizes place)) < cells chunk
      inner_below place = place_below chunk (inner_of chunk (index_of sizes place)) (inner_inside chunk (index_of sizes place) (length-index_of sizes place ∙ sym rank) some)

      pub boxed : (place x : ℕ) → stands layout place ≡ Some x → IsBoxed place x
      boxed place x is =
          let inner = place_of chunk (inner_of chunk (index_of sizes place)) in
          let corner = corner_of chunk (index_of sizes place) in
          let from = from_option (λ at. at + inner * t.size) (get chunks corner) x is in
          let past : suc inner * t.size ≤ cells chunk * t.size = mul-le-mul_right t.size (inner_below place) in
          let entry : In (corner, from.0) (entries chunks)
          = found_entry (slice_cmp-IsAntisymmetric nat_cmp-IsAntisymmetric) (entries chunks) corner from.0 (sym (get-entries chunks corner) ∙ from.1) in
          record {
            at = from.0;
            found = from.1;
            entry = entry;
            covered = λ p. among p (cells chunk * t.size) (entries chunks) (corner, from.0) entry;
            is = from.2;
            low = inner_below place;
            room = omega (arith, past);
          }

      -- a byte of two cells is of one
      one_boxed : ((p : ℕ) → cover p (data_blocks image t layout) ≤ 1) → (j k x y p : ℕ) → j < cells sizes → k < cells sizes → stands layout j ≡ Some x → stands layout k ≡ Some y
          → x ≤ p → p < x + t.size → y ≤ p → p < y + t.size → j ≡ k
      one_boxed once j k x y p low below at there from to since until =
          let a = boxed j x at in
          let b = boxed k y there in
          let i = place_of chunk (inner_of chunk (index_of sizes j)) in
          let l = place_of chunk (inner_of chunk (index_of sizes k)) in
          let n = cells chunk * t.size in
          let here : holds p a.at n ≡ 1 = holds_in p a.at n (omega (arith, a.is, from)) (omega (arith, a.is, a.room, to)) in
          let also : holds p b.at n ≡ 1 = holds_in p b.at n (omega (arith, b.is, since)) (omega (arith, b.is, b.room, until)) in
          let same = one_around p n (entries chunks) (corner_of chunk (index_of sizes j), a.at) (corner_of chunk (index_of sizes k), b.at)
          (omega (arith, once p, cover_data p)) a.entry b.entry (omega (arith, here)) (omega (arith, also)) in
          let corner : corner_of chunk (index_of sizes j) ≡ corner_of chunk (index_of sizes k) = ap (λ (e : List ℕ × ℕ). e.0) same in
          let address : a.at ≡ b.at = ap (λ (e : List ℕ × ℕ). e.1) same in
          let cell : i ≡ l = same_stride t.size i l (p - a.at) (omega (arith, a.is, from)) (omega (arith, a.is, from, to)) (omega (arith, b.is, address, since)) (omega (arith, b.is, address, since, until)) in
          let inner : inner_of chunk (index_of sizes j) ≡ inner_of chunk (index_of sizes k)
          = sym (index-place chunk (inner_of chunk (index_of sizes j)) (inner_inside chunk (index_of sizes j) (length-index_of sizes j ∙ sym rank) some))
          ∙ ap (index_of chunk) cell
          ∙ index-place chunk (inner_of chunk (index_of sizes k)) (inner_inside chunk (index_of sizes k) (length-index_of sizes k ∙ sym rank) some) in
          let index : index_of sizes j ≡ index_of sizes k = index_by_parts chunk (index_of sizes j) (index_of sizes k) (length-index_of sizes j ∙ sym rank) (length-index_of sizes k ∙ sym rank) corner inner in
          sym (place-index sizes j low) ∙ ap (place_of sizes) index ∙ place-index sizes k below

      held_boxed : (place x : ℕ) → stands layout place ≡ Some x → IsHeld image t sizes layout place x
      held_boxed place x is =
          let a = boxed place x is in
          record {
            b = block a.at (cells chunk * t.size);
            inner = place_of chunk (inner_of chunk (index_of sizes place));
            at = a.is;
            room = a.room;
            inside = chunk_inside image (chunk_shape t chunk) root read (corner_of chunk (index_of sizes place)) a.at a.found;
            value = λ new fill. rw a.found refl;
            within = λ p. omega (arith, cover_data p, a.covered p);
            among = λ header p. a.covered p;
          }

  -- ---- any layout

  held_block : (b : Block) → b.at + b.len ≤ length image → cells sizes * t.size ≤ b.len → (place x : ℕ) → place < cells sizes → stands (InBlock (Some b)) place ≡ Some x
      → IsHeld image t sizes (InBlock (Some b)) place x
  held_block b read room place x low is =
      let past : suc place * t.size ≤ cells sizes * t.size = mul-le-mul_right t.size low in
      record {
        b = b;
        inner = place;
        at = ap (λ n. b.at + n * t.size) (sym (place-index sizes place low)) ∙ same_Some _ x is;
        room = omega (arith, past, room);
        inside = read;
        value = λ new fill. ap (value_in t (part b.at b.len new)) (place-index sizes place low);
        within = λ p. omega arith;
        among = λ header p. omega arith;
      }

  one_block : (b : Block) (j k x y p : ℕ) → j < cells sizes → k < cells sizes → stands (InBlock (Some b)) j ≡ Some x → stands (InBlock (Some b)) k ≡ Some y
      → x ≤ p → p < x + t.size → y ≤ p → p < y + t.size → j ≡ k
  one_block b j k x y p low below at there from to since until =
      let here : b.at + j * t.size ≡ x = ap (λ n. b.at + n * t.size) (sym (place-index sizes j low)) ∙ same_Some _ x at in
      let also : b.at + k * t.size ≡ y = ap (λ n. b.at + n * t.size) (sym (place-index sizes k below)) ∙ same_Some _ y there in
      same_stride t.size j k (p - b.at) (omega (arith, here, from)) (omega (arith, here, from, to)) (omega (arith, also, since)) (omega (arith, also, since, until))

  unchunked : (chunk : List ℕ) (x place : ℕ) → stands (InChunks chunk None) place ≡ Some x → ⊥
  unchunked chunk x place is =
      let none : get (stored_chunks image t (InChunks chunk None)) (corner_of chunk (index_of sizes place)) ≡ None = get-empty (slice_cmp nat_cmp) (corner_of chunk (index_of sizes place)) in
      let never : None ≡ Some x = rw none at is in
      cc

  pub held_cell : (layout : Layout) → AreDataRead image t layout → has_room sizes t.size layout ≡ true → HasBoxes layout → (place x : ℕ) → place < cells sizes
      → stands layout place ≡ Some x → IsHeld image t sizes layout place x
  held_cell (InMessage bytes) read room boxes place x low is = absurd (let never : None ≡ Some x = is in cc)
  held_cell (InBlock None) read room boxes place x low is = absurd (let never : None ≡ Some x = is in cc)
  held_cell (InBlock (Some b)) read room boxes place x low is = held_block b read (grind (arith, nat_tests, room)) place x low is
  held_cell (InChunks chunk None) read room boxes place x low is = absurd (unchunked chunk x place is)
  held_cell (InChunks chunk (Some root)) read room boxes place x low is = held_boxed chunk root read (grind (arith, nat_tests, room)) boxes place x is

  -- a byte of two cells is of one
  pub one_cell : (layout : Layout) → AreDataRead image t layout → has_room sizes t.size layout ≡ true → HasBoxes layout → ((p : ℕ) → cover p (data_blocks image t layout) ≤ 1)
      → (j k x y p : ℕ) → j < cells sizes → k < cells sizes → stands layout j ≡ Some x → stands layout k ≡ Some y
      → x ≤ p → p < x + t.size → y ≤ p → p < y + t.size → j ≡ k
  one_cell (InMessage bytes) read room boxes once j k x y p low below is = absurd (let never : None ≡ Some x = is in cc)
  one_cell (InBlock None) read room boxes once j k x y p low below is = absurd (let never : None ≡ Some x = is in cc)
  one_cell (InBlock (Some b)) read room boxes once j k x y p low below is = one_block b j k x y p low below is
  one_cell (InChunks chunk None) read room boxes once j k x y p low below is = absurd (unchunked chunk x j is)
  one_cell (InChunks chunk (Some root)) read room boxes once j k x y p low below is = one_boxed chunk root read (grind (arith, nat_tests, room)) boxes once j k x y p low below is

  -- the value of a cell that stands nowhere is not in the image
  pub nowhere : (layout : Layout) (chunks : Chunks) (index : List ℕ) (new : List ℕ) (fill : ℤ) → address_of t sizes layout chunks index ≡ None
      → cell_of new t fill sizes layout chunks index ≡ cell_of image t fill sizes layout chunks index
  nowhere (InMessage bytes) chunks index new fill is = refl
  nowhere (InBlock None) chunks index new fill is = refl
  nowhere (InBlock (Some b)) chunks index new fill is = absurd (cc)
  nowhere (InChunks chunk root) chunks index new fill is = go (get chunks (corner_of chunk index)) refl is where
    go : (o : Option ℕ) → get chunks (corner_of chunk index) ≡ o → option_map (λ at. at + place_of chunk (inner_of chunk index) * t.size) o ≡ None
        → cell_of new t fill sizes (InChunks chunk root) chunks index ≡ cell_of image t fill sizes (InChunks chunk root) chunks index
    go None found none = rw found refl
    go (Some at) found none = absurd (cc)
