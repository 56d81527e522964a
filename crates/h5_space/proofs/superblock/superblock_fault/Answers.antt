use Rattle.std.proofs.Common.{sym, ◌∙◌, arith, inl, refl}
use Rattle.h5_space.proofs.Signed.{signed, unsigned}
use Rattle.h5_space.proofs.superblock.superblock_fault.Goals as goal

pub returns : goal.returns
returns c = record {
  whole = omega (arith, c.if-size-superblock_length.false, c.superblock_length.ensures.exact);
  signed = signed c.args.bytes.now c.if-not-starts_with.ensures.value;
  version = c.in_default.ensures.0;
  free_space_version = c.in_default.ensures.1;
  root_version = c.in_default.ensures.2;
  shared_version = c.in_default.ensures.3;
  offset_size = c.in_default.ensures.4;
  length_size = c.in_default.ensures.5;
  leaf_low = c.in_default-k_fault.ensures.groups.leaf_low;
  leaf_high = c.in_default-k_fault.ensures.groups.leaf_high;
  internal_low = c.in_default-k_fault.ensures.groups.internal_low;
  internal_high = c.in_default-k_fault.ensures.groups.internal_high;
  chunk_low = c.in_default-k_fault.ensures.chunk_low;
  chunk_high = c.in_default-k_fault.ensures.chunk_high;
  base = c.in_default-address_fault.ensures.0;
  driver = c.in_default-address_fault.ensures.1;
  small = omega (arith, c.end_of_file-end.ensures);
  end_low = omega (arith, c.end_of_file-end.ensures, c.superblock_length-2.ensures.exact);
  end_high = omega (arith, c.end_of_file-end.ensures);
}

pub returns-then-not-starts_with : goal.returns-then-not-starts_with
returns-then-not-starts_with c = rw c.broken.ensures (inl (refl, unsigned c.args.bytes.now (sym c.if-not-starts_with.true ∙ c.starts_with.ensures.value)))
