use Rattle.std.proofs.Common.{ℕ, List, refl, subst, arith}
use Rattle.h5_model.specs.Format.Symbols.{Target}
use Rattle.h5_heap.specs.Writing.Links.{name_and_leads, target_link}
use Rattle.h5_group.specs.Edited.{IsLinkPut}
use Rattle.h5_group.specs.Told.{blocks_told, links_told}
use Rattle.h5_group.proofs.EditTold.{IsToldMoved, group_told, moved_told, told_new}
use Rattle.h5_group.proofs.edit.put.put_reserved.Goals as goal
use Rattle.h5_group.proofs.edit.put.put_reserved.Goals.{After-put_in_room}

pub put_in_room-requires-clause-group : goal.put_in_room-requires-clause-group
put_in_room-requires-clause-group c = (
  links_told c.args.image.now.bytes c.args.table,
  blocks_told c.args.image.now.bytes c.args.table,
  group_told c.args.image.now c.args.table c.requires.group (omega (arith, c.requires.short)),
  told_new c.args.image.now.bytes c.args.table c.args.link.now.name.now c.requires.new_name,
)

-- the link has come in
moved : (c : After-put_in_room) → (links : List (List ℕ × Target)) × IsLinkPut (target_link (name_and_leads c.args.link.now)) (links_told c.args.image.now.bytes c.args.table) links
    × IsToldMoved c.args.image.now c.put_in_room.new.image c.args.table links
moved c =
    let s = c.args.image.now in
    let u = c.put_in_room.new.image in
    let r = c.put_in_room.ensures.put (links_told s.bytes c.args.table) (blocks_told s.bytes c.args.table)
    (group_told s c.args.table c.requires.group (omega (arith, c.requires.short)))
    (told_new s.bytes c.args.table c.args.link.now.name.now c.requires.new_name) in
    (r.0, r.1, moved_told s s u s.room_bytes s.room_blocks refl c.args.table r.0 r.2)

pub returns-clause-put : goal.returns-clause-put
returns-clause-put c =
    let m = moved (goal.at.returns-clause-put c).After-put_in_room in
    subst (IsLinkPut (target_link (name_and_leads c.args.link.now)) (links_told c.args.image.now.bytes c.args.table)) m.2.links_are m.1

pub returns-clause-group : goal.returns-clause-group
returns-clause-group c = (moved (goal.at.returns-clause-group c).After-put_in_room).2.group

pub returns-clause-moves : goal.returns-clause-moves
returns-clause-moves c = (moved (goal.at.returns-clause-moves c).After-put_in_room).2.moves

pub returns-clause-k : goal.returns-clause-k
returns-clause-k c = (moved (goal.at.returns-clause-k c).After-put_in_room).2.k
