use Rattle.std.proofs.Common.{◌≡◌, ◌+◌, length, arith, refl}
use Rattle.h5_bytes.specs.Texts.{text_at, pad8}
use Rattle.h5_bytes.proofs.PartLaws.{length-part}
use Rattle.h5_heap.specs.Kept.{segment_in}
use Rattle.h5_heap.proofs.TakenLaws.{link_more}
use Rattle.h5_heap.proofs.heap.Heap.take.Goals as goal

pub claim-requires-clause-inside : goal.claim-requires-clause-inside
claim-requires-clause-inside c =
    let heap = c.args.self.now in
    let image = c.args.image.now.bytes in
    let len : c.span_len.result ≡ pad8 (length (text_at (segment_in image heap) c.args.offset) + 1) = rw c.in_ok-text.ensures.text at c.span_len.ensures in
    let within = c.in_ok-text.ensures.span.within in
    omega (arith, len, within, length-part heap.segment.at heap.segment.len image c.requires)

pub returns-clause-takes : goal.returns-clause-takes
returns-clause-takes c = record {
  noted = c.claim.ensures.held;
  begun = c.in_ok-claim.ensures.begun refl;
  covered = λ p.
      let len : c.span_len.result ≡ pad8 (length (text_at (segment_in c.args.image.now.bytes c.args.self.now) c.args.offset) + 1)
      = rw c.in_ok-text.ensures.text at c.span_len.ensures in
      rw len at (c.in_ok-claim.ensures.claimed p);
  separate = c.claim.ensures.separate;
}

pub returns-clause-taken : goal.returns-clause-taken
returns-clause-taken c linked loose taken = link_more _ _ _ c.args.offset c.in_ok-text.ensures.span (returns-clause-takes c) linked loose taken
