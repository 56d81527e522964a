use Rattle.h5_edit.proofs.RuleLaws.Counts.{prefix_inside, group_target, full_target, free_target}
use Rattle.h5_edit.proofs.rules.links.check_target.Goals as goal

pub links-requires : goal.links-requires
links-requires c = rw c.image.ensures.bytes (prefix_inside c.args.opened.now c.args.number c.args.object.now c.requires)

pub returns-in-Group : goal.returns-in-Group
returns-in-Group c = group_target c.args.opened.now c.args.number c.args.object.now c.requires c.in-Group.field-0 c.in-Group.is

pub returns-then-links-ge-MAX_LINKS : goal.returns-then-links-ge-MAX_LINKS
returns-then-links-ge-MAX_LINKS c =
    full_target c.args.opened.now c.args.number c.args.object.now c.requires c.image.ensures.sound c.in-Array.is c.links.result (rw c.image.ensures.bytes at c.links.ensures) c.if-links-ge-MAX_LINKS.true

pub returns-else-links-ge-MAX_LINKS : goal.returns-else-links-ge-MAX_LINKS
returns-else-links-ge-MAX_LINKS c =
    free_target c.args.opened.now c.args.number c.args.object.now c.requires c.image.ensures.sound c.in-Array.is c.links.result (rw c.image.ensures.bytes at c.links.ensures) c.if-links-ge-MAX_LINKS.false
