use Rattle.std.proofs.Common.{◌≡◌, ℕ, length, take}
use Rattle.h5_heap.specs.Units.{unit_at, fresh_unit}
use Rattle.h5_heap.proofs.units.set_free.Given as goal

-- as it is with the blocks so far
abbrev pub invariant-loop-block : goal.invariant-loop-block
invariant-loop-block l = record {
  long : length l.states ≡ length l.initial.states;
  fresh : (k : ℕ) → unit_at l.states k ≡ fresh_unit (take l.block-index l.free) k;
}
