use Rattle.std.proofs.Common.{◌≡◌, ◌≤◌, length, subst, ◌∙◌, ap, arith}
use Rattle.h5_bytes.specs.declared.Block.{Block}
use Rattle.h5_bytes.proofs.PartLaws.{length-part}
use Rattle.h5_heap.specs.Kept.{HeapState}
use Rattle.h5_heap.proofs.heap.Heap.begin_names.Goals as goal

pub bounds-segment_bytes-0 : goal.bounds-segment_bytes-0
bounds-segment_bytes-0 c =
    let segment = c.args.self.now.segment in
    let same : c.self.inside.segment ≡ segment = ap (λ (h : HeapState). h.segment) c.self.view_is in
    let size : 8 ≤ segment.len = subst (λ (b : Block). 8 ≤ b.len) same c.self.invariant.0 in
    let long : length c.segment_bytes.result.now ≡ segment.len = ap length c.segment_bytes.ensures ∙ length-part segment.at segment.len c.args.image.now.bytes c.requires in
    omega arith
