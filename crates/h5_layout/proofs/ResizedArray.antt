-- An array that was trimmed, and whose header says other sizes then (File Format Specification 3.0, sections III.A.1 and IV.A.2.b).
use Rattle.std.proofs.Common.{◌≡◌, ℕ, ◌+◌, false, true, List, Option, refl, sym, ap, ◌∙◌, subst}
use Rattle.std.specs.FinMap.{get}
use Rattle.h5_model.specs.Edits.Refusal.{is_chunked}
use Rattle.h5_model.specs.Format.Chunks.{Chunks}
use Rattle.h5_model.specs.Format.Layout.{Layout, InBlock, InChunks, InMessage}
use Rattle.h5_model.specs.Format.Described.{storage_of, Described}
use Rattle.h5_model.specs.Tree.Places.{cells, index_of}
use Rattle.h5_space.specs.Space.{Space}
use Rattle.h5_header.specs.Listed.{Listed}
use Rattle.h5_layout.specs.ArrayEdits.{described_in}
use Rattle.h5_layout.specs.Data.{dataset_told, stored_chunks}
use Rattle.h5_layout.specs.Extents.{CanHaveSizes, HasSizesNow}
use Rattle.h5_layout.specs.Kept.{smaller_sizes}
use Rattle.h5_layout.specs.Resized.{IsArrayResized}
use Rattle.h5_layout.specs.Trimmed.{IsTrimmed, IsTrimmedTo, grid_cell}
use Rattle.h5_layout.proofs.ArrayMoved.{moved_then}
use Rattle.h5_layout.proofs.CellLaws.{map_ranges}
use Rattle.h5_layout.proofs.ExtentMoved.{sizes_aside}
use Rattle.h5_layout.proofs.ResizedTold.{resized_told, resized_trimmed}

-- ---- a layout in chunks

pub in_chunks : (sizes : List ℕ) (l : Layout) → is_chunked (storage_of sizes l) ≡ true → (chunk : List ℕ) × (root : Option ℕ) × (l ≡ InChunks chunk root)
in_chunks sizes (InMessage bytes) never = absurd (let no : false ≡ true = never in cc)
in_chunks sizes (InBlock b) never = absurd (let no : false ≡ true = never in cc)
in_chunks sizes (InChunks chunk root) is = (chunk, root, refl)

-- ---- the header says other sizes

module _ (mid new : Space) (m m' : Listed) (sizes : List ℕ) (can : CanHaveSizes (described_in mid.bytes m) sizes) (now : HasSizesNow mid new m m' sizes) where
  abbrev b : Described
  b = described_in mid.bytes m

  abbrev wide : Described
  wide = record b { sizes = sizes }

  same_chunks : stored_chunks new.bytes b.fixed b.layout ≡ stored_chunks mid.bytes b.fixed b.layout
  same_chunks = ap (λ (x : Described). stored_chunks new.bytes x.fixed x.layout) (sym now.told) ∙ now.chunks

  same_cell : (index : List ℕ) → grid_cell new.bytes wide index ≡ grid_cell mid.bytes wide index
  same_cell index =
      ap (λ (x : Described). grid_cell new.bytes x index) (sym now.told) ∙ now.cells index ∙ sym (sizes_aside mid.bytes b sizes index can.chunked)

  same_cells : (dataset_told new.bytes wide).cells ≡ (dataset_told mid.bytes wide).cells
  same_cells = map_ranges (λ place. grid_cell new.bytes wide (index_of sizes place)) (λ place. grid_cell mid.bytes wide (index_of sizes place)) 0 0 (cells sizes)
      (λ j low. same_cell (index_of sizes (0 + j)))

  pub dataset_said : dataset_told new.bytes (described_in new.bytes m') ≡ dataset_told mid.bytes wide
  dataset_said =
      ap (dataset_told new.bytes) now.told
      ∙ (λ i. record { fixed = b.fixed; sizes = sizes; maxima = b.maxima; storage = storage_of sizes b.layout; fill = b.fill; cells = same_cells i })

  pub trimmed_said : IsTrimmed mid.bytes wide sizes → IsTrimmed new.bytes (described_in new.bytes m') sizes
  trimmed_said is = subst (λ (x : Described). IsTrimmed new.bytes x sizes) (sym now.told) (record {
    held = λ offsets at found. is.held offsets at (ap (λ (c : Chunks). get c offsets) (sym same_chunks) ∙ found);
    filled = λ index long out. same_cell index ∙ is.filled index long out;
  })

-- ---- after it was trimmed

module _ (old mid : Space) (m : Listed) (sizes : List ℕ) (can : CanHaveSizes (described_in old.bytes m) sizes)
    (done : IsTrimmedTo old mid m (smaller_sizes (described_in old.bytes m).sizes sizes)) where
  can_still : CanHaveSizes (described_in mid.bytes m) sizes
  can_still = subst (λ (x : Described). CanHaveSizes x sizes) (sym done.told) can

  pub array_resized : (new : Space) (m' : Listed) → HasSizesNow mid new m m' sizes → IsArrayResized old new m m' sizes
  array_resized new m' now =
      let a : Described = described_in old.bytes m in
      let chunks = in_chunks a.sizes a.layout can.chunked in
      record {
        moved = moved_then old mid new m m' done.moved now.moved;
        told = now.told ∙ ap (λ (x : Described). record x { sizes = sizes }) done.told;
        dataset = dataset_said mid new m m' sizes can_still now ∙ resized_told old mid m chunks.0 chunks.1 chunks.2 sizes can.ranked done;
        trimmed = trimmed_said mid new m m' sizes can_still now (resized_trimmed old mid m chunks.0 chunks.1 chunks.2 sizes can.ranked done);
      }
