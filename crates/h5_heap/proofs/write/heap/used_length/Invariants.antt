use Rattle.std.proofs.Common.{◌≡◌, ◌+◌, ◌≤◌, map, drop}
use Rattle.std.specs.List.{sum_by}
use Rattle.h5_model.specs.Format.Limits.{most_bytes}
use Rattle.h5_heap.specs.Writing.Links.{name_and_leads}
use Rattle.h5_heap.specs.Writing.Written.{texts_span}
use Rattle.h5_heap.proofs.write.heap.used_length.Given as goal

-- what is used so far, with the links to come
abbrev pub invariant-loop-link : goal.invariant-loop-link
invariant-loop-link l = record {
  low : l.used ≤ most_bytes;
  whole : l.used + sum_by texts_span (map name_and_leads (drop l.link-index l.links)) ≡ 8 + sum_by texts_span (map name_and_leads l.links);
}
