-- An array that was trimmed is, with its new sizes, the array that a resize gives (File Format Specification 3.0, section IV.A.2.b).
use Rattle.std.proofs.Common.{◌≡◌, ℕ, ◌+◌, List, length, Bool, true, false, cond, Option, refl, sym, ap, ap₂, ◌∙◌, arith}
use Rattle.std.proofs.Math.Bool.{and-false}
use Rattle.std.proofs.lemmas.Bool.{and_parts}
use Rattle.std.specs.Prelude.{◌&&◌, slice_index_or}
use Rattle.h5_model.specs.Edits.Applied.{cell_or_fill, with_sizes}
use Rattle.h5_model.specs.Edits.Refusal.{is_chunked}
use Rattle.h5_model.specs.Format.Cells.{cell_of, cells_of}
use Rattle.h5_model.specs.Format.Chunks.{Chunks}
use Rattle.h5_model.specs.Format.Layout.{Layout, InChunks}
use Rattle.h5_model.specs.Format.Described.{storage_of, Described}
use Rattle.h5_model.specs.Tree.Places.{cells, index_of, is_inside, place_of}
use Rattle.h5_model.proofs.PlaceLaws.{inside-index, inside_of, is_inside_from}
use Rattle.h5_shape.proofs.GridBoxes.{length-index_of}
use Rattle.h5_space.specs.Space.{Space}
use Rattle.h5_header.specs.Listed.{Listed}
use Rattle.h5_layout.specs.ArrayEdits.{described_in}
use Rattle.h5_layout.specs.Data.{dataset_told, stored_chunks}
use Rattle.h5_layout.specs.Kept.{smaller_sizes}
use Rattle.h5_layout.specs.Trimmed.{IsTrimmed, IsTrimmedTo, grid_cell}
use Rattle.h5_layout.proofs.CellLaws.{map_ranges}
use Rattle.h5_layout.proofs.ExtentMoved.{sizes_aside}
use Rattle.h5_layout.proofs.KeptLaws.{length-smaller}
use Rattle.h5_layout.proofs.KeptValues.{smaller_inside, told_cell}

module _ (old new : Space) (m : Listed) (chunk : List ℕ) (root : Option ℕ) (laid : (described_in old.bytes m).layout ≡ InChunks chunk root) (sizes : List ℕ)
    (rank : length sizes ≡ length (described_in old.bytes m).sizes) (done : IsTrimmedTo old new m (smaller_sizes (described_in old.bytes m).sizes sizes)) where
  abbrev a : Described
  a = described_in old.bytes m

  abbrev both : List ℕ
  both = smaller_sizes a.sizes sizes

  both_long : length both ≡ length sizes
  both_long = length-smaller a.sizes sizes rank ∙ sym rank

  in_both : (index : List ℕ) → is_inside both index ≡ (is_inside a.sizes index && is_inside sizes index)
  in_both index = smaller_inside a.sizes sizes index (sym rank)

  -- it is in chunks
  chunked : (x : Described) → x.layout ≡ InChunks chunk root → is_chunked (storage_of x.sizes x.layout) ≡ true
  chunked x is = ap (λ (l : Layout). is_chunked (storage_of x.sizes l)) is

  -- ---- the array with its new sizes

  abbrev there : List ℕ → Chunks
  there image = stored_chunks image a.fixed a.layout

  -- the old cell at an index
  old_cell : (index : List ℕ) → is_inside a.sizes index ≡ true → grid_cell old.bytes a index ≡ cell_or_fill (dataset_told old.bytes a) index
  old_cell index within =
      ap (λ (l : Layout). cell_of old.bytes a.fixed a.fill a.sizes l (there old.bytes) index) laid ∙ sym (told_cell old.bytes a chunk root laid index within)

  no_cell : (index : List ℕ) → is_inside a.sizes index ≡ false → a.fill ≡ cell_or_fill (dataset_told old.bytes a) index
  no_cell index out = sym (ap (λ b. cond b (slice_index_or (dataset_told old.bytes a).cells (place_of a.sizes index) a.fill) a.fill) out)

  now_cell : (index : List ℕ) → length index ≡ length sizes → is_inside sizes index ≡ true → grid_cell new.bytes a index ≡ cell_or_fill (dataset_told old.bytes a) index
  now_cell index long within = by_test (is_inside a.sizes index) refl where
    same : grid_cell new.bytes a index ≡ grid_cell new.bytes (described_in new.bytes m) index
    same = ap (λ (x : Described). grid_cell new.bytes x index) (sym done.told)

    by_test : (b : Bool) → is_inside a.sizes index ≡ b → grid_cell new.bytes a index ≡ cell_or_fill (dataset_told old.bytes a) index
    by_test true is = same ∙ done.kept index (long ∙ sym both_long) (in_both index ∙ ap₂ (λ p q. p && q) is within) ∙ old_cell index is
    by_test false is =
        same ∙ done.trimmed.filled index (long ∙ sym both_long) (in_both index ∙ ap (λ p. p && is_inside sizes index) is)
        ∙ ap (λ (x : Described). x.fill) done.told ∙ no_cell index is

  all_cells : cells_of new.bytes a.fixed a.fill sizes a.layout (there new.bytes) ≡ (with_sizes sizes (dataset_told old.bytes a)).cells
  all_cells = map_ranges (λ place. cell_of new.bytes a.fixed a.fill sizes a.layout (there new.bytes) (index_of sizes place))
      (λ place. cell_or_fill (dataset_told old.bytes a) (index_of sizes place)) 0 0 (cells sizes)
      (λ j low.
      let here : 0 + j ≡ j = omega arith in
      let index : List ℕ = index_of sizes (0 + j) in
      let within : is_inside sizes index ≡ true = is_inside_from sizes index (inside-index sizes (0 + j) (omega (arith, low))) in
      sizes_aside new.bytes a sizes index (chunked a laid) ∙ now_cell index (length-index_of sizes (0 + j)) within)

  storage_apart : storage_of sizes a.layout ≡ storage_of a.sizes a.layout
  storage_apart = ap (storage_of sizes) laid ∙ sym (ap (storage_of a.sizes) laid)

  pub resized_told : dataset_told new.bytes (record (described_in new.bytes m) { sizes = sizes }) ≡ with_sizes sizes (dataset_told old.bytes (described_in old.bytes m))
  resized_told =
      let is : dataset_told new.bytes (record a { sizes = sizes }) ≡ with_sizes sizes (dataset_told old.bytes a)
      = λ i. record { fixed = a.fixed; sizes = sizes; maxima = a.maxima; storage = storage_apart i; fill = a.fill; cells = all_cells i } in
      ap (λ (x : Described). dataset_told new.bytes (record x { sizes = sizes })) done.told ∙ is

  -- and nothing of it is stored outside of them
  inside_too : (index : List ℕ) → is_inside both index ≡ true → is_inside sizes index ≡ true
  inside_too index is = (and_parts (is_inside a.sizes index) (is_inside sizes index) (sym (in_both index) ∙ is)).1

  outside_too : (index : List ℕ) → is_inside sizes index ≡ false → is_inside both index ≡ false
  outside_too index out = in_both index ∙ ap (λ q. is_inside a.sizes index && q) out ∙ and-false (is_inside a.sizes index)

  pub resized_trimmed : IsTrimmed new.bytes (record (described_in new.bytes m) { sizes = sizes }) sizes
  resized_trimmed =
      let b : Described = described_in new.bytes m in
      let laid_now : b.layout ≡ InChunks chunk root = ap (λ (x : Described). x.layout) done.told ∙ laid in
      record {
        held = λ offsets at found. inside_of sizes offsets (inside_too offsets (is_inside_from both offsets (done.trimmed.held offsets at found)));
        filled = λ index long out.
            sizes_aside new.bytes b sizes index (chunked b laid_now)
            ∙ done.trimmed.filled index (long ∙ sym both_long) (outside_too index out);
      }
