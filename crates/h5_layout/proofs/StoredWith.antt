-- Chunks that hold a cell of an array: stored ones that begin inside, and those that a selection meets.
use Rattle.std.proofs.Common.{◌≡◌, ℕ, ◌<◌, ◌≤◌, List, length, get_or, sym, ap, ◌∙◌, subst, Some, None, cond}
use Rattle.std.specs.FinMap.{entries, get, get-entries, get-retain_keys, nat_cmp-IsAntisymmetric, retain_keys, slice_cmp-IsAntisymmetric}
use Rattle.std.specs.List.{Contains}
use Rattle.h5_model.specs.Format.Chunks.{Chunks}
use Rattle.h5_model.specs.Format.Limits.{most_cells}
use Rattle.h5_model.specs.Tree.Places.{IsInside, extent_cells, is_inside}
use Rattle.h5_model.specs.Views.Selection.{Slab, Within}
use Rattle.h5_model.proofs.PlaceLaws.{is_inside_from}
use Rattle.h5_laws.proofs.Lists.{In, contains_in, in_map}
use Rattle.h5_laws.proofs.Maps.{found_entry}
use Rattle.h5_chunks.proofs.OutsideLaws.{alike}
use Rattle.h5_layout.specs.HeldChunks.{IsHeldChunk, IsChunkMet, held_chunks}
use Rattle.h5_layout.proofs.CornerInside.{corner_inside, corner_whole}

-- ---- of the stored chunks those that hold a cell of an extent

module _ (stored : Chunks) (sizes : List ℕ) where
  abbrev held : Chunks
  held = retain_keys stored (is_inside sizes)

  -- one that is stored and inside is there
  pub held_there : (offsets : List ℕ) (n : ℕ) → get stored offsets ≡ Some n → IsInside sizes offsets → Contains (held_chunks sizes stored) offsets
  held_there offsets n found inside =
      let kept : get held offsets ≡ Some n
      = get-retain_keys stored (is_inside sizes) offsets (alike (is_inside sizes) offsets) ∙ ap (λ b. cond b (get stored offsets) None) (is_inside_from sizes offsets inside) ∙ found in
      let entry : In (offsets, n) (entries held)
      = found_entry (slice_cmp-IsAntisymmetric nat_cmp-IsAntisymmetric) (entries held) offsets n (sym (get-entries held offsets) ∙ kept) in
      contains_in offsets (held_chunks sizes stored) (in_map (λ (e : List ℕ × ℕ). e.0) (offsets, n) (entries held) entry)

-- ---- a chunk that is met

module _ (sizes chunk : List ℕ) (same : length chunk ≡ length sizes) (some : (d : ℕ) → d < length chunk → 1 ≤ get_or chunk d 0)
    (small : extent_cells sizes ≤ most_cells) (slab : Slab) (within : Within sizes slab) where
  -- it holds a cell of the array, and begins in it
  pub met_held : (offsets : List ℕ) → IsChunkMet slab chunk offsets → IsHeldChunk sizes chunk offsets
  met_held offsets (index, selected, is) =
      let inside : IsInside sizes index = within index selected in
      subst (IsHeldChunk sizes chunk) is (record {
        aligned = corner_whole sizes chunk index same some inside small;
        inside = corner_inside sizes chunk index same inside;
      })
