use Rattle.h5_edit.proofs.ChangedLaws.LinkLaws.{links_given}
use Rattle.h5_edit.proofs.change.links.links_in.Goals as goal

pub tree_links-requires : goal.tree_links-requires
tree_links-requires c = rw (c.in_ok-found.ensures, c.image.ensures.bytes) c.requires.led

pub returns : goal.returns
returns c =
    let found = rw c.image.ensures.bytes at c.in_ok-found.ensures in
    links_given c.args.opened.now.image c.args.opened.now.table c.args.table c.requires.read c.tree_links.result (rw found at c.tree_links.ensures)
