use Rattle.std.proofs.Common.{◌≡◌, ◌≤◌, None, length, drop, replicate}
use Rattle.h5_repack.specs.Layout.{end_of, headers_of, length_by_number}
use Rattle.h5_repack.proofs.place.place_all.Given as goal
use Rattle.h5_model.specs.Format.Limits.{most_bytes}
use Rattle.h5_model.specs.Format.Plain.{plain_superblock_length}

-- what is placed, with what is left to place
abbrev pub invariant-loop-number : goal.invariant-loop-number
invariant-loop-number l = record {
  end_is : end_of (length_by_number l.sizes) l.end (drop l.number-index l.order) ≡ end_of (length_by_number l.sizes) (plain_superblock_length l.k) l.order;
  headers_are : headers_of (length_by_number l.sizes) l.end (drop l.number-index l.order) l.headers.items
      ≡ headers_of (length_by_number l.sizes) (plain_superblock_length l.k) l.order (replicate (length l.sizes) None);
  low : l.end ≤ most_bytes;
  same : length l.headers.items ≡ length l.sizes;
}
