use Rattle.std.proofs.Common.{◌≡◌, ◌+◌, drop, map}
use Rattle.std.specs.List.{sum_by}
use Rattle.h5_heap.specs.Writing.Links.{name_and_leads}
use Rattle.h5_heap.specs.Writing.Written.{links_with_offsets, texts_span}
use Rattle.h5_group.specs.Writing.Written.{last_name_offset}
use Rattle.h5_group.proofs.write.symbols.name_offsets.Given as goal

-- the last offset so far is that of all, where no link is to come
abbrev pub invariant-loop-link : goal.invariant-loop-link
invariant-loop-link l = record {
  names : last_name_offset l.last (links_with_offsets l.next (map name_and_leads (drop l.link-index l.links))) ≡ last_name_offset l.initial.last (links_with_offsets l.initial.next (map name_and_leads l.links));
  spans : l.next + sum_by texts_span (map name_and_leads (drop l.link-index l.links)) ≡ l.initial.next + sum_by texts_span (map name_and_leads l.links);
}
