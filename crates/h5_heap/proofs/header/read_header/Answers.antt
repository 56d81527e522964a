use Rattle.std.proofs.Common.{arith}
use Rattle.h5_heap.proofs.header.read_header.Goals as goal
use Rattle.h5_heap.proofs.header.read_header.Goals.{then-not-begins_with-via-then-not-begins_with, then-not-begins_with-via-else-not-begins_with+then-header-ne0, then-not-begins_with-via-else-not-begins_with+else-header-ne0+then-segment-lt-LEAST_SEGMENT}

pub returns-then-not-begins_with-clause-none : goal.returns-then-not-begins_with-clause-none
returns-then-not-begins_with-clause-none c is = elim c.then-not-begins_with.branch [
  | then-not-begins_with-via-then-not-begins_with w ↦ let yes = c.begins_with.ensures.1 is.signed in let no = w.if-not-begins_with.true in cc
  | then-not-begins_with-via-else-not-begins_with+then-header-ne0 w ↦ w.if-header-ne0.true is.version
  | then-not-begins_with-via-else-not-begins_with+else-header-ne0+then-segment-lt-LEAST_SEGMENT w ↦ absurd (omega (arith, is.size, w.if-segment-lt-LEAST_SEGMENT.true, c.u64_at-2.ensures))
]

pub returns-clause-read : goal.returns-clause-read
returns-clause-read c = record {
  signed = c.begins_with.ensures.0 c.if-not-begins_with.false;
  version = c.if-header-ne0.false;
  size = omega (arith, c.if-segment-lt-LEAST_SEGMENT.false, c.u64_at-2.ensures);
}
