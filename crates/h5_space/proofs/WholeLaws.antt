-- What `take` and `give` leave of the blocks in use and the free ones.
use Rattle.std.proofs.Common.{◌≡◌, ℕ, ◌+◌, List, ◌∷◌, arith, zero-add}
use Rattle.h5_bytes.specs.Blocks.{holds, cover}
use Rattle.h5_bytes.specs.declared.Block.{Block}
use Rattle.h5_bytes.proofs.BlockLaws.{holds_join}
use Rattle.h5_space.specs.Whole.{IsWhole}

-- a taken block is one in use
module _ (used free free' : List Block) (b : Block) (end grown : ℕ)
    (taken : (p : ℕ) → cover p free' + holds p b.at b.len ≡ cover p free + holds p end grown) where
  raised : (p : ℕ) → holds p 0 (end + grown) ≡ holds p 0 end + holds p end grown
  raised p = rw (zero-add end) at (holds_join p 0 end grown)

  pub IsWhole-take : IsWhole used free end → IsWhole (b ∷ used) free' (end + grown)
  IsWhole-take whole p = omega (arith, raised p, taken p, whole p)

-- a block in use is given back
module _ (used free free' : List Block) (b : Block) (end : ℕ)
    (given : (p : ℕ) → cover p free' ≡ cover p free + holds p b.at b.len) where
  pub IsWhole-give : IsWhole (b ∷ used) free end → IsWhole used free' end
  IsWhole-give whole p = omega (arith, given p, whole p)
