-- The blocks of a header as they are kept, with the first one apart.
use Rattle.std.specs.Prelude.{ℕ, List, [], ◌∷◌}
use Rattle.h5_bytes.specs.declared.Block.{Block}

-- blocks in order, and how many there may be without memory
pub record KeptBlocks : Type 0 where
  pub items : List Block
  pub capacity : ℕ

-- the first block, or all blocks where they are listed
abbrev pub blocks_of : Block → List Block → List Block
blocks_of first [] = first ∷ []
blocks_of first (b ∷ bs) = b ∷ bs
