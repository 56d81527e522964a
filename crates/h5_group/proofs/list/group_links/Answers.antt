use Rattle.std.proofs.Common.{length, ap, arith}
use Rattle.h5_group.proofs.LinksLeft.{links_few, symbols_there}
use Rattle.h5_group.proofs.list.group_links.Goals as goal

pub invariant_of-result : goal.invariant_of-result
invariant_of-result c =
    rw (c.in_ok-symbol_nodes.ensures, c.segment.ensures.segment)
    (symbols_there c.args.image.now.bytes c.args.table c.requires, omega arith, omega (arith, links_few c.args.image.now.bytes c.args.table c.requires, ap length c.segment.ensures.segment, c.segment.type_inv.0))
