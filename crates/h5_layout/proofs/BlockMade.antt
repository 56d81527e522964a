-- The storage of a contiguous array was made: its block, each cell of which is the fill.
use Rattle.std.proofs.Common.{◌≡◌, ℕ, ◌+◌, ◌*◌, ◌≤◌, List, [], ◌∷◌, ◌++◌, length, length-append, replicate, true, false, Some, None, ℤ, refl, sym, ap, ◌∙◌, subst, arith}
use Rattle.std.specs.Prelude.{if◌then◌else◌, nat_le}
use Rattle.std.specs.FinMap.{empty}
use Rattle.std.specs.List.{list_any}
use Rattle.std.proofs.lemmas.Bool.{false≢true}
use Rattle.std.proofs.lemmas.List.{length-replicate}
use Rattle.h5_bytes.specs.Blocks.{Keeps, block, cover, holds}
use Rattle.h5_bytes.specs.Bytes.{little_bytes, part, with_part}
use Rattle.h5_bytes.specs.declared.Block.{Block}
use Rattle.h5_bytes.proofs.PartLaws.{length-with_part, part-with_part_same}
use Rattle.h5_model.specs.Edits.Refusal.{is_chunked}
use Rattle.h5_model.specs.Format.Cells.{cells_of}
use Rattle.h5_model.specs.Format.Fixed.{IsFixed, fits}
use Rattle.h5_model.specs.Format.Layout.{InBlock, Layout, layout_of}
use Rattle.h5_model.specs.Format.Described.{storage_of, Described}
use Rattle.h5_model.specs.Format.Limits.{most_bytes}
use Rattle.h5_model.specs.Tree.Places.{cells}
use Rattle.h5_model.specs.Views.Selection.{Slab, selection_of}
use Rattle.h5_space.specs.Lending.{with_bytes_at}
use Rattle.h5_space.specs.Moves.{Moves}
use Rattle.h5_space.specs.Space.{Space, growth}
use Rattle.h5_space.proofs.MovesLaws.{moves_take, moves_then, moves_write}
use Rattle.h5_header.specs.Listed.{Listed}
use Rattle.h5_layout.specs.ArrayEdits.{IsArrayApart, IsArrayMoved, described_in}
use Rattle.h5_layout.specs.Data.{AreDataRead, data_blocks, dataset_told}
use Rattle.h5_layout.specs.Filled.{cells_of_fill}
use Rattle.h5_layout.specs.Lacking.{lacks_cells, stored_all}
use Rattle.h5_layout.specs.LayoutEdits.{IsLayoutWritten}
use Rattle.h5_layout.specs.Storage.{IsStorageMade}
use Rattle.h5_layout.specs.declared.lacking.Missing.TheVariants as missing
use Rattle.h5_layout.proofs.ArrayFilled.{block_reads}
use Rattle.h5_layout.proofs.ArrayMoved.{body_now, layout_long, layout_moved, layout_told_now, layout_was, taken_keeps}
use Rattle.h5_layout.proofs.LackingLaws.{all_fail}
use Rattle.h5_layout.proofs.LayoutBodies.{block_named}

module _ (old mid new : Space) (m : Listed) (was : IsArrayApart old m) (none : (described_in old.bytes m).layout ≡ InBlock None) (at len : ℕ)
    (inside : at + len ≤ length mid.bytes) (short : length mid.bytes ≤ most_bytes) (taken : Moves old mid [] (block at len ∷ []))
    (room : len ≡ cells (described_in old.bytes m).sizes * (described_in old.bytes m).fixed.size)
    (wrote : IsLayoutWritten mid new m.list 2 (little_bytes 8 at ++ little_bytes 8 len)) where
  abbrev a : Described
  a = described_in old.bytes m

  abbrev bs : List Block
  bs = block at len ∷ []

  abbrev w : List ℕ
  w = little_bytes 8 at ++ little_bytes 8 len

  abbrev l : Layout
  l = InBlock (Some (block at len))

  no_blocks : data_blocks old.bytes a.fixed a.layout ≡ []
  no_blocks = ap (data_blocks old.bytes a.fixed) none

  keeps : Keeps mid.bytes new.bytes bs
  keeps = taken_keeps old mid new m was no_blocks bs taken 2 w wrote (inside, tt)

  named_now : layout_of a.sizes a.fixed.size (body_now old mid new m was no_blocks bs taken 2 w wrote) ≡ Some l
  named_now =
      block_named a.sizes a.fixed.size (part wrote.place.at wrote.place.size old.bytes) None (layout_was old mid new m was no_blocks bs taken 2 w wrote ∙ ap (λ (x : Layout). Some x) none)
      at len (omega (arith, inside, short)) (omega (arith, inside, short)) (omega (arith, room))

  data_now : AreDataRead new.bytes a.fixed l
  data_now = omega (arith, inside, layout_long old mid new m was no_blocks bs taken 2 w wrote)

  moved : IsArrayMoved old new m m
  moved = layout_moved old mid new m was no_blocks bs taken 2 w wrote l named_now tt data_now refl

  pub block_told : described_in new.bytes m ≡ record a { layout = l }
  block_told = layout_told_now old mid new m was no_blocks bs taken 2 w wrote l named_now tt data_now refl

  module _ (sound : IsFixed a.fixed) (fit : fits a.fixed a.fill ≡ true) (there : part at len mid.bytes ≡ cells_of_fill a.fixed a.fill (cells a.sizes)) where
    reads : dataset_told new.bytes (record a { layout = l }) ≡ stored_all (dataset_told old.bytes (record a { layout = InBlock None }))
    reads =
        let same : cells_of new.bytes a.fixed a.fill a.sizes l empty ≡ cells_of old.bytes a.fixed a.fill a.sizes (InBlock None) empty
        = block_reads old.bytes new.bytes a.fixed a.fill a.sizes at len empty empty sound fit (keeps.0 ∙ there) in
        ap (λ (cs : List ℤ). record (dataset_told new.bytes (record a { layout = l })) { cells = cs }) same

    pub block_made : (slab : Slab) → IsStorageMade old new m slab missing.Block
    block_made slab = record {
      moved = moved;
      told = block_told ∙ ap (λ (x : Layout). record a { layout = x }) (sym (ap (λ (y : Described). y.layout) block_told));
      dataset = ap (dataset_told new.bytes) block_told ∙ reads ∙ ap (λ (x : Layout). stored_all (dataset_told old.bytes (record a { layout = x }))) (sym none);
      stored = ap (λ (y : Described). lacks_cells new.bytes y slab) block_told ∙ all_fail (λ place. false) (selection_of a.sizes slab) (λ place at. refl);
      trimmed = λ chunked. absurd (false≢true (sym (ap (λ (x : Layout). is_chunked (storage_of a.sizes x)) none) ∙ chunked));
    }

-- the write of the message makes the image no longer
pub block_long : (old mid new : Space) (m : Listed) (was : IsArrayApart old m) → (described_in old.bytes m).layout ≡ InBlock None → (at len : ℕ) → at + len ≤ length mid.bytes
    → Moves old mid [] (block at len ∷ []) → IsLayoutWritten mid new m.list 2 (little_bytes 8 at ++ little_bytes 8 len) → length new.bytes ≡ length mid.bytes
block_long old mid new m was none at len inside taken wrote =
    layout_long old mid new m was (ap (data_blocks old.bytes (described_in old.bytes m).fixed) none) (block at len ∷ []) taken 2 (little_bytes 8 at ++ little_bytes 8 len) wrote

-- ---- a block was taken, and is written

-- the image with these bytes in it
pub record IsBlockFilled (old f : Space) (at len : ℕ) (w : List ℕ) : Type 0 where
  pub moves : Moves old f [] (block at len ∷ [])
  pub grown : length f.bytes ≤ length old.bytes + len
  pub inside : at + len ≤ length f.bytes
  pub there : part at len f.bytes ≡ w

module _ (old r t f : Space) (bytes calls : ℕ) (ok : r ≡ record old { room_bytes = bytes; room_blocks = calls }) (at len : ℕ)
    (grown : t.bytes ≡ r.bytes ++ replicate (growth len r.free) 0)
    (taken : (p : ℕ) → cover p t.free + holds p at len ≡ cover p r.free + holds p (length r.bytes) (growth len r.free))
    (inside : at + len ≤ length t.bytes) (w : List ℕ) (long : length w ≡ len) (wrote : f ≡ with_bytes_at t at w) where
  grown_from : t.bytes ≡ old.bytes ++ replicate (growth len old.free) 0
  grown_from = subst (λ (x : Space). t.bytes ≡ x.bytes ++ replicate (growth len x.free) 0) ok grown

  taken_from : (p : ℕ) → cover p t.free + holds p at len ≡ cover p old.free + holds p (length old.bytes) (growth len old.free)
  taken_from = subst (λ (x : Space). (p : ℕ) → cover p t.free + holds p at len ≡ cover p x.free + holds p (length x.bytes) (growth len x.free)) ok taken

  bytes_are : f.bytes ≡ with_part at w t.bytes
  bytes_are = ap (λ (x : Space). x.bytes) wrote

  filled_moves : Moves old f [] (block at len ∷ [])
  filled_moves =
      moves_then old t f [] (block at len ∷ []) (block at len ∷ []) (moves_take old t at len (growth len old.free) grown_from taken_from)
      (moves_write t f at len w long inside bytes_are (ap (λ (x : Space). x.free) wrote))

  same_long : length f.bytes ≡ length t.bytes
  same_long = ap length bytes_are ∙ length-with_part at w t.bytes (omega (arith, inside, long))

  filled_inside : at + len ≤ length f.bytes
  filled_inside = omega (arith, inside, same_long)

  filled_grown : length f.bytes ≤ length old.bytes + len
  filled_grown =
      let more = ap length grown_from ∙ length-append old.bytes (replicate (growth len old.free) 0) ∙ ap (λ (n : ℕ). length old.bytes + n) (length-replicate (growth len old.free) 0) in
      let few = growth_few len old.free in
      omega (arith, more, few, same_long) where
        growth_few : (n : ℕ) (free : List Block) → growth n free ≤ n
        growth_few n free = elim (list_any (λ (b : Block). nat_le n b.len) free) as (λ b. (if b then 0 else n) ≤ n) [ true ↦ omega arith | false ↦ omega arith ]

  filled_there : part at len f.bytes ≡ w
  filled_there = ap (part at len) bytes_are ∙ part-with_part_same at len w t.bytes (sym long) (omega (arith, inside, long))

  pub block_filled : IsBlockFilled old f at len w
  block_filled = record { moves = filled_moves; grown = filled_grown; inside = filled_inside; there = filled_there }
