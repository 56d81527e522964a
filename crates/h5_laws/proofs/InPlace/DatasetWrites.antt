-- A dataset in one block whose cells were written in place.
use Rattle.std.proofs.Common.{◌≡◌, ℕ, List, sym, ap, ◌∙◌, subst, Some, ℤ}
use Rattle.h5_bytes.specs.Bytes.{part}
use Rattle.h5_bytes.specs.declared.Block.{Block}
use Rattle.h5_bytes.proofs.TableLaws.{table_same}
use Rattle.h5_model.specs.Format.Fixed.{Fixed}
use Rattle.h5_model.specs.Tree.Places.{cells, place_of, index_of}
use Rattle.h5_model.specs.Format.Layout.{Layout, InBlock}
use Rattle.h5_model.specs.Format.Chunks.{Chunks}
use Rattle.h5_model.specs.Format.Cells.{value_in, cells_of}
use Rattle.h5_model.specs.Format.Messages.{Message}
use Rattle.h5_model.specs.Tree.Objects.{Dataset}
use Rattle.h5_model.specs.Format.Reads.{HasData, HasDataset}
use Rattle.h5_model.proofs.PlaceLaws.{place-index}
use Rattle.h5_laws.proofs.InPlace.CellWrites.{cells_in}

-- the cells of an array in one block are those of the block's bytes
pub cells_block : (image : List ℕ) (t : Fixed) (fill : ℤ) (sizes : List ℕ) (b : Block) (chunks : Chunks)
    → cells_of image t fill sizes (InBlock (Some b)) chunks ≡ cells_in t (part b.at b.len image) (cells sizes)
cells_block image t fill sizes b chunks =
    table_same (value_in t (part b.at b.len image)) (λ place. value_in t (part b.at b.len image) (place_of sizes (index_of sizes place))) (cells sizes) 0
    (λ j low. ap (value_in t (part b.at b.len image)) (place-index sizes j low))

module _ (old new : List ℕ) (messages : List Message) (d : Dataset) (blocks : List Block) (has : HasDataset old messages d blocks) (b : Block) (is : has.layout ≡ InBlock (Some b)) where
  -- where it stands, whatever its cells are now
  pub dataset_written : HasDataset new messages (record d { cells = cells_in d.fixed (part b.at b.len new) (cells d.sizes) }) blocks
  dataset_written = record {
    known = has.known;
    layout = has.layout;
    array = has.array;
    storage = has.storage;
    chunks = has.chunks;
    stored = subst (λ (l : Layout). HasData new d.fixed l has.chunks blocks) (sym is) there;
    cells = subst (λ (l : Layout). cells_in d.fixed (part b.at b.len new) (cells d.sizes) ≡ cells_of new d.fixed d.fill d.sizes l has.chunks) (sym is)
        (sym (cells_block new d.fixed d.fill d.sizes b has.chunks));
  } where
    there : HasData new d.fixed (InBlock (Some b)) has.chunks blocks
    there = subst (λ (l : Layout). HasData old d.fixed l has.chunks blocks) is has.stored

  -- what they were
  pub cells_before : d.cells ≡ cells_in d.fixed (part b.at b.len old) (cells d.sizes)
  cells_before = has.cells ∙ ap (λ (l : Layout). cells_of old d.fixed d.fill d.sizes l has.chunks) is ∙ cells_block old d.fixed d.fill d.sizes b has.chunks
