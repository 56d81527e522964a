use Rattle.std.proofs.Common.{◌≡◌, ◌+◌, map, arith, append_assoc}
use Rattle.h5_heap.specs.Writing.Links.{name_and_leads}
use Rattle.h5_heap.proofs.WriteLaws.Lengths.{links_span}
use Rattle.h5_heap.proofs.WriteLaws.Pushing.{heap_is, used_known}
use Rattle.h5_heap.proofs.write.heap.push_heap.Goals as goal

pub unwrap-used-requires : goal.unwrap-used-requires
unwrap-used-requires c = used_known (map name_and_leads c.args.links.now) c.used_length.result (omega (arith, c.requires.size, c.requires.low)) c.used_length.ensures

pub returns : goal.returns
returns c =
    let told = rw c.unwrap-used.ensures at c.used_length.ensures in
    let counted : c.unwrap-used.result ≡ 8 + links_span (map name_and_leads c.args.links.now) = told.0 in
    rw (
      heap_is c.args.at c.args.size c.unwrap-used.result (map name_and_leads c.args.links.now) c.requires.size counted,
      c.in_ok-push_free_rest.ensures,
      c.in_ok-push_texts.ensures,
      c.in_ok-push_zeros.ensures,
      c.in_ok-push_heap_header.ensures,
      c.free_head.ensures,
    ) (simp append_assoc)
