-- Where the cells of an array stand is as it was once values were written into these cells.
use Rattle.std.proofs.Common.{◌≡◌, ℕ, ◌+◌, ◌*◌, ◌<◌, ◌≤◌, ℤ, List, ◌∷◌, length, Some, true, sym, ap, ◌∙◌, subst, arith}
use Rattle.std.specs.FinMap.{get}
use Rattle.std.specs.List.{list_all}
use Rattle.h5_bytes.specs.Blocks.{block, cover}
use Rattle.h5_bytes.specs.Bytes.{with_part}
use Rattle.h5_header.specs.declared.message.Message.{Message as Placed}
use Rattle.h5_model.specs.Format.Chunks.{Chunks}
use Rattle.h5_model.specs.Format.Fixed.{IsFixed, fits}
use Rattle.h5_model.specs.Format.Layout.{Layout, InMessage, InChunks}
use Rattle.h5_model.specs.Format.Messages.{Message}
use Rattle.h5_model.specs.Format.Plain.{cells_bytes}
use Rattle.h5_model.specs.Format.Reached.{Shape}
use Rattle.h5_model.specs.Format.Superblock.{superblock_length}
use Rattle.h5_model.specs.Format.Described.{Described, HasArray}
use Rattle.h5_model.specs.Tree.Grid.{corner_of}
use Rattle.h5_model.specs.Tree.Places.{cells, index_of}
use Rattle.h5_chunks.specs.Cursor.{IsCursor}
use Rattle.h5_chunks.specs.Read.{AreChunksRead}
use Rattle.h5_chunks.specs.Told.{chunks_told}
use Rattle.h5_layout.specs.CellPlaces.{ArePlacesOf, DoStandAs, IsLineAt, IsUnstored, KeptPlaces}
use Rattle.h5_layout.specs.Data.{AreDataRead, data_blocks, stored_chunks}
use Rattle.h5_layout.specs.FoundChunks.{AreChunksBeside}
use Rattle.h5_layout.specs.Standing.{IsStandingAt}
use Rattle.h5_layout.specs.declared.places.CellStand.{CellStand}
use Rattle.h5_layout.specs.declared.places.CellStand.TheVariants.{Nowhere, InLine, InIndex}
use Rattle.h5_layout.proofs.StandingWritten.{IsCursorIn, stored_chunks_stay, stored_cursors, stored_long, stored_read}

-- ---- cells in a block or in chunks

module _ (old : List ℕ) (a : Described) (ms : List Message) (has : HasArray ms a) (is : IsFixed a.fixed) (read : AreDataRead old a.fixed a.layout)
    (once : (p : ℕ) → cover p (block 0 (superblock_length old) ∷ data_blocks old a.fixed a.layout) ≤ 1) (whole : superblock_length old ≤ length old) (place at : ℕ) (values : List ℤ) (some : 0 < length values)
    (stand : IsStandingAt old a place (length values) at) (room : place + length values ≤ cells a.sizes) (all : list_all (fits a.fixed) values ≡ true)
    (new : List ℕ) (wrote : new ≡ with_part at (cells_bytes a.fixed values) old) where
  pub stored_places : (list : List Placed) (places : KeptPlaces) → ArePlacesOf old list a places → ArePlacesOf new list a places
  stored_places list places was = record { fixed = was.fixed; stand = go places.stand was.stand } where
    go : (s : CellStand) → DoStandAs old list a s → DoStandAs new list a s
    go Nowhere none = none
    go (InLine start) line =
        let long = stored_long old a ms has is read once whole place at values some stand room all new wrote in
        (line.0, omega (arith, long, line.1))
    go (InIndex g) of =
        let chunks : AreDataRead new a.fixed (InChunks g.shape.sizes (Some g.root))
        = subst (AreDataRead new a.fixed) of.layout (stored_read old a ms has is read once whole place at values some stand room all new wrote) in
        let cursor : IsCursorIn old a.fixed a.layout g.cursor.tree
        = subst (λ (l : Layout). IsCursorIn old a.fixed l g.cursor.tree) (sym of.layout) (subst (λ (s : Shape). IsCursor old s g.root g.cursor.tree) of.shape of.kept.cursor) in
        let still : IsCursorIn new a.fixed (InChunks g.shape.sizes (Some g.root)) g.cursor.tree
        = subst (λ (l : Layout). IsCursorIn new a.fixed l g.cursor.tree) of.layout
        (stored_cursors old a ms has is read once whole place at values some stand room all new wrote g.cursor.tree cursor) in
        let stored : chunks_told new g.shape g.root ≡ chunks_told old g.shape g.root
        = (λ i. chunks_told new (of.shape i) g.root)
        ∙ subst (λ (l : Layout). stored_chunks new a.fixed l ≡ stored_chunks old a.fixed l) of.layout
        (stored_chunks_stay old a ms has is read once whole place at values some stand room all new wrote)
        ∙ sym (λ i. chunks_told old (of.shape i) g.root) in
        record {
          sizes = of.sizes;
          shape = of.shape;
          layout = of.layout;
          kept = record {
            grid = record {
              rank = of.kept.grid.rank;
              sizes = of.kept.grid.sizes;
              few = of.kept.grid.few;
              small = of.kept.grid.small;
              stored = subst (λ (s : Shape). AreChunksRead new s g.root) (sym of.shape) chunks;
            };
            cursor = subst (λ (s : Shape). IsCursor new s g.root g.cursor.tree) (sym of.shape) still;
            beside = subst (λ (c : Chunks). AreChunksBeside c g.sizes g.shape.sizes g.cursor.beside) (sym stored) of.kept.beside;
            row = λ some.
                let was_row = of.kept.row some in
                record {
                  beside = was_row.beside;
                  inner = was_row.inner;
                  at = was_row.at ∙ ap (λ (c : Chunks). get c (corner_of g.shape.sizes (index_of g.sizes g.row.start))) (sym stored);
                  first = was_row.first;
                  corner = was_row.corner;
                  all = was_row.all;
                };
            number = of.kept.number;
          };
        }

-- ---- cells in a message, which then describes another array

pub compact_places : (old new : List ℕ) (list : List Placed) (a b : Described) (places : KeptPlaces) (bytes others : List ℕ) → length new ≡ length old
    → a.layout ≡ InMessage bytes → b.layout ≡ InMessage others → b.fixed ≡ a.fixed → b.sizes ≡ a.sizes → ArePlacesOf old list a places → ArePlacesOf new list b places
compact_places old new list a b places bytes others long laid now fixed sizes was = record { fixed = was.fixed ∙ sym fixed; stand = go places.stand was.stand } where
  go : (s : CellStand) → DoStandAs old list a s → DoStandAs new list b s
  go Nowhere none = absurd (subst IsUnstored laid none)
  go (InLine start) line =
      let same : cells b.sizes * b.fixed.size ≡ cells a.sizes * a.fixed.size = (λ i. cells (sizes i) * (fixed i).size) in (
        subst (λ (l : Layout). IsLineAt list l start) (sym now) (subst (λ (l : Layout). IsLineAt list l start) laid line.0),
        omega (arith, same, long, line.1),
      )
  go (InIndex g) of = absurd (let never : InMessage bytes ≡ InChunks g.shape.sizes (Some g.root) = sym laid ∙ of.layout in cc)
