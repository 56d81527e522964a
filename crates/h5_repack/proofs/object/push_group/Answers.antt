use Rattle.std.proofs.Common.{◌+◌, ◌++◌, ◌∙◌, ap, map, refl, arith}
use Rattle.h5_group.specs.Heap.Links.{name_and_leads}
use Rattle.h5_group.specs.Writing.Written.{links_bytes}
use Rattle.h5_repack.specs.Blocks.ArrayHeader.{group_written}
use Rattle.h5_model.specs.Tree.Links.{tree_link}
use Rattle.h5_repack.specs.Layout.{written_at}
use Rattle.h5_repack.proofs.Pushed.{places_are, tree_within, two_parts}
use Rattle.h5_repack.proofs.object.push_group.Goals as goal

pub overflow_add-at : goal.overflow_add-at
overflow_add-at c =
    let l = c.args.layout.now in
    let tree = tree_within l.k c.args.links.now c.args.others.now c.requires.held.0 c.requires.held.1 c.args.places.now c.requires.held.2 l
    (map (written_at l) (map tree_link c.args.links.now)) refl in
    omega (arith, tree, c.requires.low)

pub push_links-requires-clause-places : goal.push_links-requires-clause-places
push_links-requires-clause-places c =
    let l = c.args.layout.now in
    places_are l.k c.args.links.now c.args.others.now c.requires.held.0 c.requires.held.1 c.args.places.now c.requires.held.2 l
    (map name_and_leads c.deref.result.now) (ap (map name_and_leads) c.deref.ensures.value ∙ c.in_ok-new.ensures)

pub returns : goal.returns
returns c =
    let l = c.args.layout.now in
    let header = group_written c.args.at (c.args.at + c.args.places.now.tree) c.args.others.now in
    let links = links_bytes (l.k).leaf (l.k).internal c.args.at in
    two_parts c.args.out.now.items c.push_group_header.new.out.items c.push_links.new.out.items header (links (map name_and_leads c.deref.result.now)) _
    c.in_ok-push_group_header.ensures c.in_ok-push_links.ensures (ap (λ ls. header ++ links ls) (ap (map name_and_leads) c.deref.ensures.value ∙ c.in_ok-new.ensures))
