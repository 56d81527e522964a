use Rattle.std.proofs.Common.{append_assoc}
use Rattle.h5_space.proofs.superblock.push_superblock.Goals as goal

pub returns : goal.returns
returns c = rw (c.in_ok-push_word-8.ensures, c.in_ok-push_word-7.ensures, c.in_ok-push_word-6.ensures, c.in_ok-push_word-5.ensures, c.in_ok-push_word-4.ensures, c.in_ok-push_word-3.ensures, c.in_ok-push_word-2.ensures, c.in_ok-push_word.ensures, c.in_ok-push_zeros-3.ensures, c.in_ok-push_chunk_k.ensures, c.in_ok-push_zeros-2.ensures, c.in_ok-push_short-2.ensures, c.in_ok-push_short.ensures, c.in_ok-push_bytes-3.ensures, c.in_ok-push_zeros.ensures, c.in_ok-push_bytes-2.ensures, c.version_for.ensures, c.in_ok-push_bytes.ensures) (simp append_assoc)
