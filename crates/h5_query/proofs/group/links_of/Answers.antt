use Rattle.h5_query.proofs.Indexed.{no_group_there, array_no_group, group_read}
use Rattle.h5_query.proofs.ListedLaws.{found_led, are_links}
use Rattle.h5_query.proofs.group.links_of.Goals as goal

pub returns-in_default-clause-found : goal.returns-in_default-clause-found
returns-in_default-clause-found c = no_group_there c.args.opened.now c.object.ensures.sound c.args.number.0 c.in_default.ensures.found

pub returns-in_default-content-clause-found : goal.returns-in_default-content-clause-found
returns-in_default-content-clause-found c =
    array_no_group c.args.opened.now c.args.number.0 c.in-Some.object.now c.in-Some.ensures.found c.in_default-content.is

pub group_links-requires : goal.group_links-requires
group_links-requires c =
    rw c.image.ensures.bytes (group_read c.args.opened.now c.args.number.0 c.in-Some.object.now c.in-Some.ensures.found c.in-Group.table c.in-Group.is)

pub tree_links-requires : goal.tree_links-requires
tree_links-requires c =
    let found = rw c.image.ensures.bytes at c.in_ok-found.ensures in
    rw found (found_led c.args.opened.now c.object.ensures.sound c.args.number.0 c.in-Some.object.now c.in-Some.ensures.found c.in-Group.table c.in-Group.is)

pub returns-clause-found : goal.returns-clause-found
returns-clause-found c =
    let found = rw c.image.ensures.bytes at c.in_ok-found.ensures in
    are_links c.args.opened.now c.object.ensures.sound c.args.number.0 c.in-Some.object.now c.in-Some.ensures.found c.in-Group.table c.in-Group.is
    c.in_ok-tree_links.field-0.items (rw found at c.in_ok-tree_links.ensures)
