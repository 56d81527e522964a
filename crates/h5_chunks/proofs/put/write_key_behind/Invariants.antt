use Rattle.std.proofs.Common.{◌≡◌, ℕ, ◌+◌, ◌*◌, ◌<◌, get_or, length}
use Rattle.h5_bytes.specs.Bytes.{number_at}
use Rattle.h5_chunks.proofs.put.write_key_behind.Given as goal

-- the offsets so far
abbrev pub invariant-loop-d : goal.invariant-loop-d
invariant-loop-d l = record {
  long : length l.out ≡ length l.key;
  empty : number_at l.out 0 8 ≡ 0;
  offsets : (j : ℕ) → j < l.d → number_at l.out (8 + 8 * j) 8 ≡ number_at l.key (8 + 8 * j) 8 + get_or l.sizes j 0;
}
