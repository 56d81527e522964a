use Rattle.std.proofs.Common.{◌*◌, ◌∙◌, ap, arith}
use Rattle.h5_shape.proofs.InBoxLaws.{shape_cells}
use Rattle.h5_file.proofs.PatchLaws.{corner_rank, patched_else, patched_then}
use Rattle.h5_file.proofs.kept.patch_box.Goals as goal

pub spans_in-requires-clause-chunk : goal.spans_in-requires-clause-chunk
spans_in-requires-clause-chunk c = corner_rank c.args.sizes.now c.args.corner.now c.requires.corner ∙ c.requires.ranks

pub patch_from-requires-clause-room : goal.patch_from-requires-clause-room
patch_from-requires-clause-room c =
    let bytes = ap (λ n. n * c.args.array.now.fixed.size) (shape_cells c.args.axes.now) in
    omega (arith, bytes, c.requires.room)

pub returns-then-spans_in : goal.returns-then-spans_in
returns-then-spans_in c =
    patched_then c.args.array.now c.args.axes.now c.args.corner.now c.args.sizes.now c.spans_in.new.spans c.args.bytes.now c.requires.ranks c.requires.corner c.requires.apart
    c.spans_in.ensures.each (c.spans_in.ensures.some.0 c.if-spans_in.true) c.patch_from.new.bytes c.requires.room c.patch_from.ensures.bytes

pub returns-else-spans_in : goal.returns-else-spans_in
returns-else-spans_in c =
    patched_else c.args.array.now c.args.axes.now c.args.corner.now c.args.sizes.now c.spans_in.new.spans c.args.bytes.now c.requires.ranks c.requires.corner c.requires.apart
    c.spans_in.ensures.each (λ are. absurd (let yes = c.spans_in.ensures.some.1 are in let no = c.if-spans_in.false in cc))
