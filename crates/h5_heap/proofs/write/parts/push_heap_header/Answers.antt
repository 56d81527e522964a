use Rattle.std.proofs.Common.{append_assoc}
use Rattle.h5_heap.proofs.write.parts.push_heap_header.Goals as goal

pub returns : goal.returns
returns c = rw (c.in_ok-push_word-3.ensures, c.in_ok-push_word-2.ensures, c.in_ok-push_word.ensures, c.in_ok-push_zeros.ensures, c.in_ok-push_bytes.ensures) (simp append_assoc)
