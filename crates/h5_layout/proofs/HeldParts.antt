-- The chunks that are handed on are given by their offsets.
use Rattle.std.proofs.Common.{◌≡◌, ℕ, ◌<◌, ℤ, List, [], ◌∷◌, length, get_or, map, refl, sym, ap}
use Rattle.std.proofs.lemmas.List.FromFn.{fill_by_all}
use Rattle.std.specs.Prelude.{slice_index_or}
use Rattle.h5_model.specs.Edits.Applied.{cell_or_fill, with_sizes}
use Rattle.h5_model.specs.Tree.Objects.{Dataset}
use Rattle.h5_model.specs.Tree.Places.{cells, index_of}
use Rattle.h5_model.specs.Format.Described.{Described}
use Rattle.h5_model.proofs.PlaceLaws.{inside-index, is_inside_from, place-index}
use Rattle.h5_layout.specs.Data.{dataset_told, stored_chunks}
use Rattle.h5_layout.specs.HeldChunks.{chunk_values, held_cells, held_chunks}

-- the offsets of some chunks with their cells
abbrev pub handed_of : Dataset → List ℕ → List ℕ → List ℕ × List ℤ
handed_of d chunk offsets = (offsets, chunk_values d chunk offsets)

firsts : (d : Dataset) (chunk : List ℕ) (stored : List (List ℕ)) → map (λ (p : List ℕ × List ℤ). p.0) (map (handed_of d chunk) stored) ≡ stored
firsts d chunk [] = refl
firsts d chunk (offsets ∷ others) = ap (λ (xs : List (List ℕ)). offsets ∷ xs) (firsts d chunk others)

module _ (image : List ℕ) (a : Described) (chunk sizes : List ℕ) where
  abbrev after : Dataset
  after = with_sizes sizes (dataset_told image a)

  -- their offsets are those of the chunks that hold a cell of the extent
  pub held_offsets : map (λ (p : List ℕ × List ℤ). p.0) (held_cells image a chunk sizes).parts ≡ held_chunks sizes (stored_chunks image a.fixed a.layout)
  held_offsets = firsts after chunk (held_chunks sizes (stored_chunks image a.fixed a.layout))

  -- and their cells those of the array once it has its new sizes
  pub held_parts : (held_cells image a chunk sizes).parts ≡ map (handed_of after chunk) (map (λ (p : List ℕ × List ℤ). p.0) (held_cells image a chunk sizes).parts)
  held_parts = ap (map (handed_of after chunk)) (sym held_offsets)

-- an array that gets the sizes it has is the same
pub resized_own : (d : Dataset) → length d.cells ≡ cells d.sizes → with_sizes d.sizes d ≡ d
resized_own d counted = ap (λ (cs : List ℤ). record d { cells = cs }) (sym (fill_by_all (λ place. cell_or_fill d (index_of d.sizes place)) d.cells (cells d.sizes) d.fill counted each)) where
  each : (place : ℕ) → place < cells d.sizes → get_or d.cells place d.fill ≡ cell_or_fill d (index_of d.sizes place)
  each place low =
      rw (is_inside_from d.sizes (index_of d.sizes place) (inside-index d.sizes place low))
      (ap (λ n. slice_index_or d.cells n d.fill) (sym (place-index d.sizes place low)))
