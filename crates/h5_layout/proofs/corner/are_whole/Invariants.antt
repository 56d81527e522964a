use Rattle.std.proofs.Common.{◌≡◌, take}
use Rattle.h5_layout.specs.Spans.{span_sizes, span_slices}
use Rattle.h5_layout.proofs.corner.are_whole.Given as goal

abbrev pub invariant-loop-span : goal.invariant-loop-span
invariant-loop-span l = span_slices (take l.span-index l.spans) ≡ span_sizes (take l.span-index l.spans)
