use Rattle.std.proofs.Common.{◌≡◌, ◌+◌, ◌-◌, ◌*◌, ◌++◌, ◌≤◌, drop, map, length}
use Rattle.std.specs.List.{sum_by}
use Rattle.h5_model.specs.Format.Limits.{most_bytes}
use Rattle.h5_model.specs.Format.Sizes.{symbol_node}
use Rattle.h5_heap.specs.Writing.Links.{name_and_leads}
use Rattle.h5_heap.specs.Writing.Written.{links_with_offsets, placed_links, texts_span}
use Rattle.h5_group.specs.Writing.Written.{runs_of, children_of}
use Rattle.h5_group.proofs.write.symbols.symbol_children.Given as goal

-- the children so far, with those to come
abbrev pub invariant-loop-from : goal.invariant-loop-from
invariant-loop-from l = record {
  nodes : l.children.items ++ children_of l.leaf l.node (runs_of l.leaf (links_with_offsets l.name (map name_and_leads (drop l.from l.links))))
      ≡ children_of l.leaf l.at (runs_of l.leaf (placed_links (map name_and_leads l.links)));
  room : l.node + length (runs_of l.leaf (links_with_offsets l.name (map name_and_leads (drop l.from l.links)))) * symbol_node l.leaf ≤ most_bytes;
  spans : l.name + sum_by texts_span (map name_and_leads (drop l.from l.links)) ≡ 8 + sum_by texts_span (map name_and_leads l.links);
  within : l.from ≤ length l.links;
}

abbrev pub decreases-loop-from : goal.decreases-loop-from
decreases-loop-from l = length l.links - l.from
