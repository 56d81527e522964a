use Rattle.std.proofs.Common.{◌≡◌, length, take}
use Rattle.std.specs.List.{AllByRecursion}
use Rattle.h5_model.specs.Format.Chunks.{offsets_in}
use Rattle.h5_layout.specs.Kept.{slices_kept}
use Rattle.h5_layout.specs.Spans.{IsKeptSpan, span_sizes, span_slices}
use Rattle.h5_layout.proofs.corner.write_spans.Given as goal

-- the spans so far
abbrev pub invariant-loop-d : goal.invariant-loop-d
invariant-loop-d l = record {
  sizes : span_sizes (take l.d l.spans) ≡ take l.d l.chunk;
  slices : span_slices (take l.d l.spans) ≡ take l.d (slices_kept l.kept l.chunk (offsets_in (length l.chunk) l.key));
  sound : AllByRecursion IsKeptSpan (take l.d l.spans);
}
