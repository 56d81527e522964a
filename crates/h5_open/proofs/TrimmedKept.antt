-- An array that stores nothing outside its sizes stores nothing there still where the bytes of its data stay; and one whose data take no
-- byte.
use Rattle.std.proofs.Common.{◌≡◌, ◌∙◌, ℕ, zero, suc, ℤ, ◌+◌, ◌*◌, ◌≤◌, true, false, List, [], ◌∷◌, ◌++◌, length, map, refl, sym, ap, subst, arith, Option, Some, None}
use Rattle.std.specs.FinMap.{get, get-empty, values}
use Rattle.std.specs.Ordering.{nat_cmp}
use Rattle.std.specs.Cmp.Lexicographic.{slice_cmp}
use Rattle.h5_bytes.specs.Blocks.{Keeps, Run, block}
use Rattle.h5_bytes.specs.declared.Block.{Block}
use Rattle.h5_bytes.proofs.BlockLaws.{run_rises}
use Rattle.h5_model.specs.Format.Cells.{cell_of}
use Rattle.h5_model.specs.Format.Chunks.{Chunks}
use Rattle.h5_model.specs.Format.Fixed.{Fixed}
use Rattle.h5_model.specs.Format.Layout.{Layout, InMessage, InBlock, InChunks}
use Rattle.h5_model.specs.Format.Nodes.{Kind, chunk_kind, node_length, reading_of, tree_blocks}
use Rattle.h5_model.specs.Format.Rows.{Reading, next_row, nodes}
use Rattle.h5_model.specs.Format.Superblock.{chunk_k}
use Rattle.h5_model.specs.Format.Described.{Described, array_of}
use Rattle.h5_model.specs.Tree.Grid.{corner_of}
use Rattle.h5_model.specs.Tree.Places.{cells, is_inside}
use Rattle.h5_model.proofs.Frames.{cell-same}
use Rattle.h5_layout.specs.Data.{AreDataRead, data_blocks, stored_chunks}
use Rattle.h5_layout.specs.Trimmed.{IsTrimmed, grid_cell}
use Rattle.h5_open.specs.Opened.Kept.{AreChunksTrimmed}
use Rattle.h5_open.proofs.DataLaws.{data_there, stored_chunks-same}

-- by its chunks and the cells of their grid
pub trimmed_by : (old new : List ℕ) (a : Described) (sizes : List ℕ) → stored_chunks new a.fixed a.layout ≡ stored_chunks old a.fixed a.layout
    → ((index : List ℕ) → length index ≡ length sizes → is_inside sizes index ≡ false → grid_cell new a index ≡ grid_cell old a index)
    → IsTrimmed old a sizes → IsTrimmed new a sizes
trimmed_by old new a sizes chunks cells was = record {
  held = λ offsets at got. was.held offsets at (subst (λ (c : Chunks). get c offsets ≡ Some at) chunks got);
  filled = λ index long out. cells index long out ∙ was.filled index long out;
}

module _ (old new : List ℕ) (grown : length old ≤ length new) (k : chunk_k new ≡ chunk_k old) (a : Described) (read : AreDataRead old a.fixed a.layout)
    (kept : Keeps old new (data_blocks old a.fixed a.layout)) where
  abbrev before : Chunks
  before = stored_chunks old a.fixed a.layout

  chunks_are : stored_chunks new a.fixed a.layout ≡ before
  chunks_are = stored_chunks-same old new grown k a.fixed a.layout read kept

  pub trimmed-same : (sizes : List ℕ) → IsTrimmed old a sizes → IsTrimmed new a sizes
  trimmed-same sizes = trimmed_by old new a sizes chunks_are (λ index long out.
      ap (λ (c : Chunks). cell_of new a.fixed a.fill a.sizes a.layout c index) chunks_are
      ∙ cell-same old new a.fixed a.fill a.sizes a.layout before (data_blocks old a.fixed a.layout) kept (data_there old a.fixed a.layout read) index)

-- ---- a new array

-- a tree takes bytes
no_run : (kind : Kind) (V : Reading) (level root : ℕ) (rest : List Block) (from : ℕ) → Run from (tree_blocks kind (nodes V level (root ∷ [])) ++ rest) from → ⊥
no_run kind V zero root rest from run = omega (arith, run_rises (from + node_length kind) from rest run.1)
no_run kind V (suc level) root rest from run =
    omega (arith, run_rises (from + node_length kind) from (tree_blocks kind (nodes V level (next_row V (root ∷ []))) ++ rest) run.1)

-- so data without bytes are no chunks
pub trimmed_new : (image : List ℕ) (t : Fixed) (sizes : List ℕ) (maxima : List (Option ℕ)) (fill : ℤ) (from : ℕ) (layout : Layout) → AreDataRead image t layout
    → Run from (data_blocks image t layout) from → AreChunksTrimmed image (array_of t sizes maxima fill layout)
trimmed_new image t sizes maxima fill from (InMessage bytes) read run chunked = absurd (let never : false ≡ true = chunked in cc)
trimmed_new image t sizes maxima fill from (InBlock b) read run chunked = absurd (let never : false ≡ true = chunked in cc)
trimmed_new image t sizes maxima fill from (InChunks chunk None) read run chunked = record {
  held = λ offsets at got. absurd (let never : None ≡ Some at = sym (get-empty (slice_cmp nat_cmp) offsets) ∙ got in cc);
  filled = λ index long out.
      let none : get (stored_chunks image t (InChunks chunk None)) (corner_of chunk index) ≡ None = get-empty (slice_cmp nat_cmp) (corner_of chunk index) in
      rw none refl;
}
trimmed_new image t sizes maxima fill from (InChunks chunk (Some root)) read run chunked =
    let has = read.stored in
    let kind : Kind = chunk_kind (chunk_k image) (length chunk) in
    let boxes : List Block = map (λ at. block at (cells chunk * t.size)) (values (stored_chunks image t (InChunks chunk (Some root)))) in
    absurd (no_run kind (reading_of image kind has.owned) has.level root boxes from
    (subst (λ (bs : List Block). Run from bs from) (has.laid ∙ ap (λ (owned : List ℕ). tree_blocks kind owned ++ boxes) has.tree.owns) run))
