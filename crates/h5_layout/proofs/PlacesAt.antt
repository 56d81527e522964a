-- Where the cells of an array stand, by what is kept of its header and of its tree.
use Rattle.std.proofs.Common.{◌≡◌, ℕ, false, ◌+◌, ◌*◌, ◌≤◌, inl, inr, List, length, Option, Some, None, true, refl, sym, ap, ap₂, ◌∙◌, subst, arith}
use Rattle.std.specs.Prelude.{is_some, option_map}
use Rattle.std.specs.FinMap.{get, get-empty}
use Rattle.std.specs.Ordering.{nat_cmp}
use Rattle.std.specs.Cmp.Lexicographic.{slice_cmp}
use Rattle.std.proofs.lemmas.Bool.Decides.{nat_tests}
use Rattle.std.proofs.Math.Nat.{mul-le-mul_left}
use Rattle.h5_bytes.specs.declared.Block.{Block}
use Rattle.h5_header.specs.declared.message.Message.{Message as Placed}
use Rattle.h5_model.specs.Format.Fixed.{Fixed, IsFixed}
use Rattle.h5_model.specs.Format.Layout.{Layout, InMessage, InBlock, InChunks}
use Rattle.h5_model.specs.Format.Described.{Described}
use Rattle.h5_model.specs.Format.Limits.{most_chunk_bytes}
use Rattle.h5_model.specs.Tree.Grid.{corner_of, inner_of}
use Rattle.h5_model.specs.Tree.Places.{cells, index_of, place_of}
use Rattle.h5_model.proofs.PlainValues.{size-low}
use Rattle.h5_shape.proofs.Products.{cells_le}
use Rattle.h5_chunks.specs.Shapes.{AreChunkSizes}
use Rattle.h5_chunks.specs.Told.{chunks_told}
use Rattle.h5_layout.specs.CellPlaces.{IsIndexOf, IsLineAt, IsUnstored}
use Rattle.h5_layout.specs.ChunkCells.{AreBeside, chunk_of, place_in_chunk}
use Rattle.h5_layout.specs.Compact.{IsRunAt}
use Rattle.h5_layout.specs.Data.{AreDataRead, stored_chunks}
use Rattle.h5_layout.specs.GridKept.{GridKept, grid_in, no_row, no_chunk_found}
use Rattle.h5_layout.specs.Standing.{IsStandingAt, address_at, address_of, is_stored_in}
use Rattle.h5_layout.specs.Judged.{is_chunk_large}
use Rattle.h5_layout.specs.Stored.{IsArray, has_room}
use Rattle.h5_layout.proofs.FoundRows.{kept_new}
use Rattle.h5_layout.proofs.StandsAt.{block_stands}

-- ---- nowhere

-- a cell of a layout that stores none is not stored
pub unstored_not : (image : List ℕ) (t : Fixed) (layout : Layout) (index : List ℕ) → IsUnstored layout
    → is_stored_in layout (stored_chunks image t layout) index ≡ true → ⊥
unstored_not image t (InMessage bytes) index none stored = none
unstored_not image t (InBlock None) index none stored = cc
unstored_not image t (InBlock (Some b)) index none stored = none
unstored_not image t (InChunks chunk None) index none stored =
    let none : get (stored_chunks image t (InChunks chunk None)) (corner_of chunk index) ≡ None = get-empty (slice_cmp nat_cmp) (corner_of chunk index) in
    let never : false ≡ true = sym (ap is_some none) ∙ stored in
    cc
unstored_not image t (InChunks chunk (Some root)) index none stored = none

-- ---- one behind another

pub line_stands : (image : List ℕ) (list : List Placed) (a : Described) (at : ℕ) → IsLineAt list a.layout at → (place n : ℕ) → place + n ≤ cells a.sizes
    → IsRunAt image list a place n (at + place * a.fixed.size)
line_stands image list a at line place n room = go a.layout refl line where
  go : (layout : Layout) → a.layout ≡ layout → IsLineAt list layout at → IsRunAt image list a place n (at + place * a.fixed.size)
  go (InMessage bytes) laid there = inl (bytes, laid, (at, there, refl))
  go (InBlock None) laid there = absurd there
  go (InBlock (Some b)) laid there =
      subst (λ (x : ℕ). IsRunAt image list a place n (x + place * a.fixed.size)) there
      (inr (block_stands image a (Some b) (sym laid) b refl place a.fixed.size n refl room))
  go (InChunks chunk root) laid there = absurd there

-- the block of a contiguous array has room for all of them
pub block_line : (image : List ℕ) (a : Described) (b : Block) → a.layout ≡ InBlock (Some b) → AreDataRead image a.fixed a.layout → has_room a.sizes a.fixed.size a.layout ≡ true
    → b.at + cells a.sizes * a.fixed.size ≤ length image
block_line image a b laid read room =
    let end : b.at + b.len ≤ length image = subst (AreDataRead image a.fixed) laid read in
    let enough : has_room a.sizes a.fixed.size (InBlock (Some b)) ≡ true = subst (λ (l : Layout). has_room a.sizes a.fixed.size l ≡ true) laid room in
    grind (arith, nat_tests)

-- ---- in chunks

-- the chunks of an array, as they are kept at first
pub index_made : (image : List ℕ) (a : Described) → IsArray a → IsFixed a.fixed → AreDataRead image a.fixed a.layout → (chunk : List ℕ) (root : ℕ)
    → a.layout ≡ InChunks chunk (Some root) → AreChunkSizes chunk → (sizes : List ℕ) → sizes ≡ a.sizes → (size : ℕ) → size ≡ a.fixed.size
    → IsIndexOf image a (record {
      sizes = sizes;
      shape = record { sizes = chunk; bytes = cells chunk * size };
      root = root;
      cursor = no_chunk_found;
      row = no_row;
    })
index_made image a sound fixed read chunk root laid chunks sizes same size wide =
    let rank : has_room a.sizes a.fixed.size (InChunks chunk (Some root)) ≡ true = subst (λ (l : Layout). has_room a.sizes a.fixed.size l ≡ true) laid sound.room in
    let large : is_chunk_large a.fixed (InChunks chunk (Some root)) ≡ false = subst (λ (l : Layout). is_chunk_large a.fixed l ≡ false) laid sound.chunk_small in
    let bytes : cells chunk * a.fixed.size ≤ most_chunk_bytes = grind (arith, nat_tests) in
    let some : cells chunk * 1 ≤ cells chunk * a.fixed.size = mul-le-mul_left (cells chunk) (size-low a.fixed fixed) in
    let shape : cells chunk * size ≡ cells chunk * a.fixed.size = ap (λ (n : ℕ). cells chunk * n) wide in
    record {
      sizes = same;
      shape = ap (λ (n : ℕ). record { sizes = chunk; bytes = n }) shape;
      layout = laid;
      kept = kept_new image sizes chunk (cells chunk * size) root (record {
        rank = rw same (grind (arith, nat_tests));
        sizes = chunks;
        few = rw same (omega (arith, cells_le a.sizes, sound.small));
        small = omega (arith, bytes, some);
        stored = rw shape (subst (AreDataRead image a.fixed) laid read);
      });
    }

module _ (image : List ℕ) (a : Described) (g : GridKept) (of : IsIndexOf image a g) where
  -- the address of a cell
  by_index : (place : ℕ) → address_at image a place
      ≡ option_map (λ at. at + place_in_chunk (grid_in image g) place * a.fixed.size) (chunk_of (grid_in image g) place)
  by_index place =
      ap (λ (l : Layout). address_of a.fixed a.sizes l (stored_chunks image a.fixed l) (index_of a.sizes place)) of.layout
      ∙ sym (λ i. option_map (λ at. at + place_of g.shape.sizes (inner_of g.shape.sizes (index_of (of.sizes i) place)) * a.fixed.size)
      (get (chunks_told image (of.shape i) g.root) (corner_of g.shape.sizes (index_of (of.sizes i) place))))

  -- those in a row of a chunk
  pub index_stands : (place n at inner : ℕ) → AreBeside g.sizes g.shape.sizes place n → inner ≡ place_in_chunk (grid_in image g) place
      → chunk_of (grid_in image g) place ≡ Some at → IsStandingAt image a place n (at + inner * a.fixed.size)
  index_stands place n at inner beside here found k low =
      let chunk : chunk_of (grid_in image g) (place + k) ≡ Some at = ap (get (chunks_told image g.shape g.root)) (beside.corner k low) ∙ found in
      let cell : place_in_chunk (grid_in image g) (place + k) ≡ inner + k = beside.inner k low ∙ ap (λ p. p + k) (sym here) in
      let on : at + (inner + k) * a.fixed.size ≡ (at + inner * a.fixed.size) + k * a.fixed.size = omega arith in
      by_index (place + k)
      ∙ ap₂ (λ (p : ℕ) (o : Option ℕ). option_map (λ at. at + p * a.fixed.size) o) cell chunk
      ∙ ap (λ (x : ℕ). Some x) on
