-- What becomes of an array or of chunks does not hang on the room that was reserved.
use Rattle.std.proofs.Common.{ℕ, List}
use Rattle.h5_bytes.specs.declared.Block.{Block}
use Rattle.h5_model.specs.Format.Reached.{Shape}
use Rattle.h5_space.specs.Moves.{Moves}
use Rattle.h5_space.specs.Space.{Space}
use Rattle.h5_header.specs.Listed.{Listed}
use Rattle.h5_layout.specs.NewTrees.{IsTreeNamed}

module _ (old : Space) (bytes blocks : ℕ) where
  abbrev roomy : Space
  roomy = record old { room_bytes = bytes; room_blocks = blocks }

  moves_from : (new : Space) (a b : List Block) → Moves roomy new a b → Moves old new a b
  moves_from new a b m = record { grown = m.grown; kept = m.kept; moved = m.moved }

  pub named_from : (new : Space) (m : Listed) (shape : Shape) (root : ℕ) → IsTreeNamed roomy new m shape root → IsTreeNamed old new m shape root
  named_from new m shape root is = record {
    moved = record {
      stand = is.moved.stand;
      header = is.moved.header;
      count = is.moved.count;
      known = is.moved.known;
      others = is.moved.others;
      moves = moves_from new _ _ is.moved.moves;
      k = is.moved.k;
    };
    told = is.told;
    stand = is.stand;
    none = is.none;
  }
