use Rattle.std.proofs.Common.{◌≡◌, ℕ, zero, suc, ◌+◌, ◌<◌, List, [], ◌∷◌, length, ap, ◌∙◌, arith}
use Rattle.std.specs.Prelude.{slice_index_or, take}
use Rattle.h5_bytes.specs.Blocks.{block, cover, holds}
use Rattle.h5_bytes.specs.declared.Block.{Block}
use Rattle.h5_open.proofs.object.claim_blocks.Goals as goal

-- one block more
cover_next : (p k : ℕ) (bs : List Block) → k < length bs
    → cover p (take (suc k) bs) ≡ cover p (take k bs) + holds p (slice_index_or bs k (block 0 0)).at (slice_index_or bs k (block 0 0)).len
cover_next p k [] low = absurd (omega (arith, low))
cover_next p zero (b ∷ bs) low = omega arith
cover_next p (suc k) (b ∷ bs) low = omega (arith, cover_next p k bs (omega (arith, low)))

pub loop-block-preserved : goal.loop-block-preserved
loop-block-preserved c = record {
  covered = λ p.
      let so_far = c.loop-block.invariant.covered p in
      let claimed = c.in_ok-claim.ensures.claimed p in
      let next : cover p (take (c.loop-block.block-index + 1) c.args.blocks.now) ≡ cover p (take c.loop-block.block-index c.args.blocks.now)
      + holds p (slice_index_or c.args.blocks.now c.loop-block.block-index (block 0 0)).at (slice_index_or c.args.blocks.now c.loop-block.block-index (block 0 0)).len
      = let more : c.loop-block.block-index + 1 ≡ suc c.loop-block.block-index = omega arith in
      ap (λ (k : ℕ). cover p (take k c.args.blocks.now)) more ∙ cover_next p c.loop-block.block-index c.args.blocks.now (omega arith) in
      omega (arith, so_far, claimed, next);
  separate = c.claim.ensures.separate;
  end = c.claim.ensures.end ∙ c.loop-block.invariant.end;
}
