use Rattle.std.proofs.Common.{append_assoc}
use Rattle.h5_repack.proofs.blocks.header.push_group_header.Goals as goal

pub returns : goal.returns
returns c = rw (
  c.in_ok-push_bytes.ensures,
  c.in_ok-push_symbol_table.ensures,
  c.in_ok-push_prefix.ensures,
  c.count.ensures,
  c.bytes-bytes.ensures.bytes,
) (simp append_assoc)
