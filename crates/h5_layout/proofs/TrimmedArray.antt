-- An array in chunks of which the chunks outside an extent were dropped, and those at its edge trimmed.
use Rattle.std.proofs.Common.{◌≡◌, ℕ, ◌*◌, ◌<◌, ◌≤◌, List, [], length, get_or, map, Bool, true, false, cond, Option, Some, None, refl, sym, ap, ◌∙◌, subst, arith}
use Rattle.std.specs.Cmp.Lexicographic.{nat_list_cmp_total}
use Rattle.std.specs.FinMap.{entries, get, get-entries, get-retain_keys, nat_cmp-IsAntisymmetric, retain_keys, slice_cmp-IsAntisymmetric, values}
use Rattle.std.proofs.lemmas.Option.{slice_get-get_or}
use Rattle.h5_bytes.specs.Bytes.{part}
use Rattle.h5_bytes.specs.Blocks.{IsKept, Keeps, block, cover}
use Rattle.h5_bytes.proofs.BlockLaws.{cover-append}
use Rattle.h5_model.specs.Format.Cells.{cell_of, value_in, value_in_chunk}
use Rattle.h5_model.specs.Format.Chunks.{Chunks}
use Rattle.h5_model.specs.Format.Fixed.{Fixed}
use Rattle.h5_model.specs.Format.Layout.{Layout, InChunks}
use Rattle.h5_model.specs.Format.Reached.{Shape}
use Rattle.h5_model.specs.Format.Described.{Described}
use Rattle.h5_model.specs.Tree.Grid.{corner_of, inner_of}
use Rattle.h5_model.specs.Tree.Places.{IsInside, cells, index_of, is_inside, place_of}
use Rattle.h5_model.proofs.Members.{filter_in, in_filter}
use Rattle.h5_model.proofs.PlaceLaws.{index-place, inside_of, is_inside_from, place_below}
use Rattle.h5_space.specs.Moves.{Moves}
use Rattle.h5_space.specs.Space.{Space}
use Rattle.h5_space.proofs.MovesLaws.{moves_none, moves_then}
use Rattle.h5_header.specs.Listed.{Listed}
use Rattle.h5_laws.proofs.Lists.{In, from_map, in_all, in_at, in_contains, in_map}
use Rattle.h5_laws.proofs.Maps.{found_entry, get_of_entry}
use Rattle.h5_chunks.specs.Read.{AreChunksRead}
use Rattle.h5_chunks.specs.Told.{chunk_blocks_told, chunks_told}
use Rattle.h5_layout.specs.ArrayChunks.{ArrayChunks, AreSoundChunks, IsInChunksOf}
use Rattle.h5_layout.specs.ArrayEdits.{IsArrayApart, IsArrayMoved, described_in}
use Rattle.h5_chunks.specs.Edited.{AreChunksApart, HasChunksNow}
use Rattle.h5_chunks.specs.Lists.{offsets_across, reaches_beyond}
use Rattle.h5_chunks.proofs.OutsideLaws.{alike}
use Rattle.h5_layout.specs.Data.{AreDataRead, chunk_shape, data_blocks, stored_chunks}
use Rattle.h5_layout.specs.Kept.{slices_kept}
use Rattle.h5_layout.specs.HeldChunks.{held_chunks}
use Rattle.h5_layout.specs.Trimmed.{IsTrimmed, IsTrimmedTo, grid_cell}
use Rattle.h5_layout.proofs.ArrayMoved.{array_still, data_moved, said_still}
use Rattle.h5_layout.proofs.CornerInside.{corner_inside}
use Rattle.h5_layout.proofs.EdgeCells.{reaches_outside, slices_index}
use Rattle.h5_layout.proofs.LocateLaws.{inner_inside, some_cells}
use Rattle.h5_layout.proofs.StoredWith.{held_there}
use Rattle.h5_layout.proofs.TrimmedChunks.{AreTrimmedSo}

-- ---- an array in chunks, by its image

module _ (a : Described) (k : ArrayChunks) (of : IsInChunksOf a k) where
  -- the cell at an index, by what is stored of its chunk
  pub cell_found : (image : List ℕ) (index : List ℕ)
      → grid_cell image a index ≡ value_in_chunk image k.fixed k.fill (cells k.chunk * k.fixed.size) (place_of k.chunk (inner_of k.chunk index))
      (get (stored_chunks image k.fixed (InChunks k.chunk k.root)) (corner_of k.chunk index))
  cell_found image index =
      λ i. cell_of image (sym of.fixed i) (sym of.fill i) a.sizes (of.layout i) (stored_chunks image (sym of.fixed i) (of.layout i)) index

  module _ (root : ℕ) (rooted : k.root ≡ Some root) where
    abbrev pub shape : Shape
    shape = chunk_shape k.fixed k.chunk

    laid : a.layout ≡ InChunks k.chunk (Some root)
    laid = of.layout ∙ ap (InChunks k.chunk) rooted

    pub blocks_by : (image : List ℕ) → data_blocks image a.fixed a.layout ≡ chunk_blocks_told image shape root
    blocks_by image = λ i. data_blocks image (sym of.fixed i) (laid i)

    pub stored_by : (image : List ℕ) → stored_chunks image a.fixed a.layout ≡ chunks_told image shape root
    stored_by image = λ i. stored_chunks image (sym of.fixed i) (laid i)

    pub read_by : (image : List ℕ) → AreChunksRead image shape root → AreDataRead image a.fixed a.layout
    read_by image read =
        subst (λ (l : Layout). AreDataRead image a.fixed l) (sym laid) (subst (λ (t : Fixed). AreChunksRead image (chunk_shape t k.chunk) root) of.fixed read)

    pub read_from : (image : List ℕ) → AreDataRead image a.fixed a.layout → AreChunksRead image shape root
    read_from image read =
        subst (λ (t : Fixed). AreChunksRead image (chunk_shape t k.chunk) root) (sym of.fixed) (subst (λ (l : Layout). AreDataRead image a.fixed l) laid read)

    pub cell_by : (image : List ℕ) (index : List ℕ)
        → grid_cell image a index ≡ value_in_chunk image k.fixed k.fill shape.bytes (place_of k.chunk (inner_of k.chunk index))
        (get (chunks_told image shape root) (corner_of k.chunk index))
    cell_by image index =
        cell_found image index
        ∙ ap (λ (r : Option ℕ). value_in_chunk image k.fixed k.fill shape.bytes (place_of k.chunk (inner_of k.chunk index))
        (get (stored_chunks image k.fixed (InChunks k.chunk r)) (corner_of k.chunk index))) rooted

-- the chunks of an array that stands apart
pub chunks_apart : (s : Space) (m : Listed) → IsArrayApart s m → (k : ArrayChunks) → IsInChunksOf (described_in s.bytes m) k → (root : ℕ) → k.root ≡ Some root
    → AreChunksApart s (chunk_shape k.fixed k.chunk) root
chunks_apart s m was k of root rooted =
    let a : Described = described_in s.bytes m in
    record {
      read = read_from a k of root rooted s.bytes was.read;
      apart = λ p. omega (arith, was.apart p, cover-append p m.blocks (data_blocks s.bytes a.fixed a.layout), ap (cover p) (blocks_by a k of root rooted s.bytes));
      long = was.long;
    }

-- ---- chunks that are left

module _ (chunks : Chunks) (sizes : List ℕ) where
  pub left_is : (offsets : List ℕ) → get (retain_keys chunks (is_inside sizes)) offsets ≡ cond (is_inside sizes offsets) (get chunks offsets) None
  left_is offsets = get-retain_keys chunks (is_inside sizes) offsets (alike (is_inside sizes) offsets)

  pub left_inside : (offsets : List ℕ) (at : ℕ) → get (retain_keys chunks (is_inside sizes)) offsets ≡ Some at → (is_inside sizes offsets ≡ true)
      × (get chunks offsets ≡ Some at)
  left_inside offsets at found = by_test (is_inside sizes offsets) refl (sym (left_is offsets) ∙ found) where
    by_test : (b : Bool) → is_inside sizes offsets ≡ b → cond b (get chunks offsets) None ≡ Some at → (is_inside sizes offsets ≡ true) × (get chunks offsets ≡ Some at)
    by_test true is there = (is, there)
    by_test false is never = absurd (cc)

  -- one of them that reaches past the extent
  pub edge_left : (chunk offsets : List ℕ) → In offsets (offsets_across sizes chunk chunks) → (at : ℕ) × (get (retain_keys chunks (is_inside sizes)) offsets ≡ Some at)
  edge_left chunk offsets there =
      let left = retain_keys chunks (is_inside sizes) in
      let held = filter_in (reaches_beyond sizes chunk) offsets (held_chunks sizes chunks) there in
      let entry = from_map (λ (e : List ℕ × ℕ). e.0) offsets (entries left) held.0 in
      (entry.0.1, ap (get left) (sym entry.2) ∙ get_of_entry nat_list_cmp_total left entry.0.0 entry.0.1 entry.1)

-- the chunk of the edge that is trimmed next is stored
pub edge_there : (k : ArrayChunks) (sizes : List ℕ) (root : ℕ) (old start now : Space)
    → HasChunksNow old start (chunk_shape k.fixed k.chunk) root (retain_keys (chunks_told old.bytes (chunk_shape k.fixed k.chunk) root) (is_inside sizes))
    → (done edges : List (List ℕ)) → AreTrimmedSo k sizes root start now done
    → edges ≡ offsets_across sizes k.chunk (chunks_told old.bytes (chunk_shape k.fixed k.chunk) root)
    → (i : ℕ) → i < length edges → (offsets : List ℕ) → offsets ≡ get_or edges i []
    → (at : ℕ) × (get (chunks_told now.bytes (chunk_shape k.fixed k.chunk) root) offsets ≡ Some at)
edge_there k sizes root old start now dropped done edges so are i low offsets is =
    let before : Chunks = chunks_told old.bytes (chunk_shape k.fixed k.chunk) root in
    let there : In (get_or edges i []) edges = in_at edges i (get_or edges i []) (slice_get-get_or edges i [] low) in
    let mine : In offsets (offsets_across sizes k.chunk before) = subst (λ (x : List ℕ). In x (offsets_across sizes k.chunk before)) (sym is)
    (subst (In (get_or edges i [])) are there) in
    let left = edge_left before sizes k.chunk offsets mine in
    (left.0, ap (λ (c : Chunks). get c offsets) (so.told ∙ dropped.told) ∙ left.1)

-- ---- the array

module _ (k : ArrayChunks) (sound : AreSoundChunks k) (sizes : List ℕ) (root : ℕ) (rooted : k.root ≡ Some root) (old start new : Space) (m : Listed)
    (was : IsArrayApart old m)
    (of : IsInChunksOf (described_in old.bytes m) k) (rank : length sizes ≡ length k.chunk)
    (dropped : HasChunksNow old start (chunk_shape k.fixed k.chunk) root (retain_keys (chunks_told old.bytes (chunk_shape k.fixed k.chunk) root) (is_inside sizes)))
    (keeps : Keeps old.bytes start.bytes (map (λ at. block at (chunk_shape k.fixed k.chunk).bytes) (values (chunks_told start.bytes (chunk_shape k.fixed k.chunk) root))))
    (so : AreTrimmedSo k sizes root start new (offsets_across sizes k.chunk (chunks_told old.bytes (chunk_shape k.fixed k.chunk) root))) where
  abbrev a : Described
  a = described_in old.bytes m

  abbrev chunk : List ℕ
  chunk = k.chunk

  abbrev form : Shape
  form = chunk_shape k.fixed k.chunk

  abbrev before : Chunks
  before = chunks_told old.bytes form root

  moves : Moves old new (chunk_blocks_told old.bytes form root) (chunk_blocks_told new.bytes form root)
  moves = moves_then old start new (chunk_blocks_told old.bytes form root) (chunk_blocks_told start.bytes form root)
      (chunk_blocks_told new.bytes form root) dropped.moves so.moves

  moved : IsArrayMoved old new m m
  moved = data_moved old new m was (chunk_blocks_told old.bytes form root) (chunk_blocks_told new.bytes form root) (blocks_by a k of root rooted old.bytes) moves
      (read_by a k of root rooted new.bytes so.stand.read) (blocks_by a k of root rooted new.bytes)

  still : described_in new.bytes m ≡ a
  still = array_still old new m was (chunk_blocks_told old.bytes form root) (chunk_blocks_told new.bytes form root) (blocks_by a k of root rooted old.bytes) moves

  now_left : (offsets : List ℕ) → get (chunks_told new.bytes form root) offsets ≡ get (retain_keys before (is_inside sizes)) offsets
  now_left offsets = ap (λ (c : Chunks). get c offsets) (so.told ∙ dropped.told)

  held_inside : (offsets : List ℕ) (at : ℕ) → get (stored_chunks new.bytes a.fixed a.layout) offsets ≡ Some at → IsInside sizes offsets
  held_inside offsets at found =
      inside_of sizes offsets (left_inside before sizes offsets at
      (sym (now_left offsets) ∙ ap (λ (c : Chunks). get c offsets) (sym (stored_by a k of root rooted new.bytes)) ∙ found)).0

  -- ---- a cell by its index

  module _ (index : List ℕ) (long : length index ≡ length sizes) where
    abbrev corner : List ℕ
    corner = corner_of chunk index

    abbrev place : ℕ
    place = place_of chunk (inner_of chunk index)

    index_rank : length index ≡ length chunk
    index_rank = long ∙ rank

    some : (d : ℕ) → d < length chunk → 1 ≤ get_or chunk d 0
    some = sound.sizes.some

    inner_is : IsInside chunk (inner_of chunk index)
    inner_is = inner_inside chunk index index_rank (some_cells chunk some)

    low : place < cells chunk
    low = place_below chunk (inner_of chunk index) inner_is

    slices : is_inside (slices_kept sizes chunk corner) (index_of chunk place) ≡ is_inside sizes index
    slices = ap (is_inside (slices_kept sizes chunk corner)) (index-place chunk (inner_of chunk index) inner_is) ∙ slices_index sizes chunk index rank index_rank some

    start_there : (at : ℕ) → get (retain_keys before (is_inside sizes)) corner ≡ Some at → get (chunks_told start.bytes form root) corner ≡ Some at
    start_there at there = ap (λ (c : Chunks). get c corner) dropped.told ∙ there

    outside_filled : is_inside sizes index ≡ false → grid_cell new.bytes a index ≡ a.fill
    outside_filled out =
        cell_by a k of root rooted new.bytes index ∙ ap (value_in_chunk new.bytes k.fixed k.fill form.bytes place) (now_left corner)
        ∙ by_found (get (retain_keys before (is_inside sizes)) corner) refl ∙ of.fill where
          by_found : (o : Option ℕ) → get (retain_keys before (is_inside sizes)) corner ≡ o → value_in_chunk new.bytes k.fixed k.fill form.bytes place o ≡ k.fill
          by_found None found = refl
          by_found (Some at) found =
              let own = left_inside before sizes corner at found in
              let among : In corner (held_chunks sizes before) = in_contains corner (held_chunks sizes before)
              (held_there before sizes corner at own.1 (inside_of sizes corner own.0)) in
              let edge : In corner (offsets_across sizes chunk before)
              = in_filter (reaches_beyond sizes chunk) corner (held_chunks sizes before) among (reaches_outside sizes chunk index rank index_rank some out) in
              so.filled corner at place edge (start_there at found) low (slices ∙ out)

    -- the bytes of a chunk that is left
    same_bytes : (at : ℕ) → get (chunks_told start.bytes form root) corner ≡ Some at → part at form.bytes start.bytes ≡ part at form.bytes old.bytes
    same_bytes at there =
        let chunks = chunks_told start.bytes form root in
        let entry : In (corner, at) (entries chunks) = found_entry (slice_cmp-IsAntisymmetric nat_cmp-IsAntisymmetric) (entries chunks) corner at
        (sym (get-entries chunks corner) ∙ there) in
        in_all (IsKept old.bytes start.bytes) (block at form.bytes) (map (λ (x : ℕ). block x form.bytes) (values chunks)) keeps
        (in_map (λ (x : ℕ). block x form.bytes) at (values chunks) (in_map (λ (e : List ℕ × ℕ). e.1) (corner, at) (entries chunks) entry))

    inside_kept : is_inside sizes index ≡ true → grid_cell new.bytes a index ≡ grid_cell old.bytes a index
    inside_kept within =
        let begins : is_inside sizes corner ≡ true = is_inside_from sizes corner (corner_inside sizes chunk index (sym rank) (inside_of sizes index within)) in
        let found : get (retain_keys before (is_inside sizes)) corner ≡ get before corner = left_is before sizes corner
        ∙ ap (λ b. cond b (get before corner) None) begins in
        cell_by a k of root rooted new.bytes index ∙ ap (value_in_chunk new.bytes k.fixed k.fill form.bytes place) (now_left corner ∙ found)
        ∙ by_found (get before corner) found ∙ sym (cell_by a k of root rooted old.bytes index) where
          by_found : (o : Option ℕ) → get (retain_keys before (is_inside sizes)) corner ≡ o
              → value_in_chunk new.bytes k.fixed k.fill form.bytes place o ≡ value_in_chunk old.bytes k.fixed k.fill form.bytes place o
          by_found None there = refl
          by_found (Some at) there =
              so.inside corner at place (start_there at there) low (slices ∙ within)
              ∙ ap (λ (bs : List ℕ). value_in k.fixed bs place) (same_bytes at (start_there at there))

  pub trimmed_to : IsTrimmedTo old new m sizes
  trimmed_to = record {
    moved = moved;
    said = said_still old new m was (chunk_blocks_told old.bytes form root) (chunk_blocks_told new.bytes form root) (blocks_by a k of root rooted old.bytes) moves;
    told = still;
    trimmed = subst (λ (x : Described). IsTrimmed new.bytes x sizes) (sym still) (record { held = held_inside; filled = outside_filled });
    kept = λ index long within. ap (λ (x : Described). grid_cell new.bytes x index) still ∙ inside_kept index long within;
  }

-- ---- nothing is taken away

pub trimmed_already : (s : Space) (m : Listed) (sizes : List ℕ) → IsArrayApart s m → IsTrimmed s.bytes (described_in s.bytes m) sizes → IsTrimmedTo s s m sizes
trimmed_already s m sizes was is =
    let a : Described = described_in s.bytes m in
    record {
      moved = data_moved s s m was (data_blocks s.bytes a.fixed a.layout) (data_blocks s.bytes a.fixed a.layout) refl
          (moves_none s (data_blocks s.bytes a.fixed a.layout)) was.read refl;
      said = refl;
      told = refl;
      trimmed = is;
      kept = λ index long within. refl;
    }
