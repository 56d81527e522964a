use Rattle.std.proofs.Common.{◌≡◌, length, map, append_assoc, arith, ◌∙◌}
use Rattle.std.proofs.lemmas.List.{length-map}
use Rattle.h5_heap.specs.Writing.Links.{name_and_leads}
use Rattle.h5_heap.specs.Writing.Written.{links_with_offsets}
use Rattle.h5_group.proofs.WriteLaws.SymbolNodes.{node_parts}
use Rattle.h5_group.proofs.WriteLaws.Steps.{length-placed}
use Rattle.h5_group.proofs.write.symbols.push_symbol_node.Goals as goal

pub returns-clause-node : goal.returns-clause-node
returns-clause-node c =
    let long : length (links_with_offsets c.args.name (map name_and_leads c.args.links.now)) ≡ length c.args.links.now
    = length-placed c.args.name (map name_and_leads c.args.links.now) ∙ length-map c.args.links.now name_and_leads in
    rw (
      c.in_ok-push_zeros.ensures,
      c.from.ensures,
      c.in_ok-next.ensures.entries,
      c.in_ok-push_head.ensures,
      node_parts c.args.leaf (links_with_offsets c.args.name (map name_and_leads c.args.links.now)) (omega (arith, c.requires.room, long)),
      long,
    ) (simp append_assoc)
