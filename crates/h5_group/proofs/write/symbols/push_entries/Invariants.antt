use Rattle.std.proofs.Common.{◌≡◌, ◌+◌, ◌++◌, drop, map}
use Rattle.std.specs.List.{flat_map, sum_by}
use Rattle.h5_heap.specs.Writing.Links.{name_and_leads}
use Rattle.h5_heap.specs.Writing.Written.{links_with_offsets, texts_span}
use Rattle.h5_group.specs.Writing.Written.{entry_bytes}
use Rattle.h5_group.proofs.write.symbols.push_entries.Given as goal

-- the entries so far, with those to come
abbrev pub invariant-loop-link : goal.invariant-loop-link
invariant-loop-link l = record {
  entries : l.out.items ++ flat_map entry_bytes (links_with_offsets l.at (map name_and_leads (drop l.link-index l.links)))
      ≡ l.initial.out.items ++ flat_map entry_bytes (links_with_offsets l.initial.at (map name_and_leads l.links));
  spans : l.at + sum_by texts_span (map name_and_leads (drop l.link-index l.links)) ≡ l.initial.at + sum_by texts_span (map name_and_leads l.links);
}
