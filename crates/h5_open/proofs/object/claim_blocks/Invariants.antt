use Rattle.std.proofs.Common.{◌≡◌, ℕ, ◌+◌}
use Rattle.std.specs.Prelude.{take}
use Rattle.h5_bytes.specs.Blocks.{Separate, cover}
use Rattle.h5_open.proofs.object.claim_blocks.Given as goal

-- the blocks so far are claimed
abbrev pub invariant-loop-block : goal.invariant-loop-block
invariant-loop-block l = record {
  covered : (p : ℕ) → cover p l.claims.held ≡ cover p l.fn.claims.held + cover p (take l.block-index l.blocks);
  separate : Separate l.claims.held;
  end : l.claims.end ≡ l.fn.claims.end;
}
