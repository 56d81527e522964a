use Rattle.std.proofs.Common.{◌≡◌, ◌∙◌, ap, List, ℕ}
use Rattle.h5_bytes.specs.Bytes.{with_field}
use Rattle.h5_heap.proofs.GrowLaws.{header_size, header_first, header_place, header_front, header_long}
use Rattle.h5_heap.proofs.put.put_segment.Goals as goal
use Rattle.h5_heap.proofs.put.put_segment.Goals.{After-put_u64-3}

written : (c : After-put_u64-3) → c.put_u64-3.new.bytes ≡ with_field (with_field (with_field c.args.header.now 8 8 c.args.len) 16 8 c.args.first) 24 8 c.args.at
written c = c.put_u64-3.ensures ∙ ap (λ (bs : List ℕ). with_field bs 24 8 c.args.at) (c.put_u64-2.ensures ∙ ap (λ (bs : List ℕ). with_field bs 16 8 c.args.first) c.put_u64.ensures)

pub returns : goal.returns
returns c =
    let w = (goal.at.returns c).After-put_u64-3 in
    let h = c.args.header.now in
    rw (written w) (record {
      size = header_size h c.args.len c.args.first c.args.at c.requires c.ranges.len.fits c.ranges.first.fits c.ranges.at.fits;
      first = header_first h c.args.len c.args.first c.args.at c.requires c.ranges.len.fits c.ranges.first.fits c.ranges.at.fits;
      place = header_place h c.args.len c.args.first c.args.at c.requires c.ranges.len.fits c.ranges.first.fits c.ranges.at.fits;
      kept = header_front h c.args.len c.args.first c.args.at c.requires c.ranges.len.fits c.ranges.first.fits c.ranges.at.fits;
      long = header_long h c.args.len c.args.first c.args.at c.requires c.ranges.len.fits c.ranges.first.fits c.ranges.at.fits;
    })
