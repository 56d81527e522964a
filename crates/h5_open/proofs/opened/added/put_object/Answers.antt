use Rattle.std.proofs.Common.{◌∷◌, [], arith}
use Rattle.h5_bytes.specs.Blocks.{block}
use Rattle.h5_group.specs.Heap.Links.{leads_of}
use Rattle.h5_space.specs.Space.{next_place}
use Rattle.h5_open.proofs.GroupBeside.{full_beside, group_beside, none_beside}
use Rattle.h5_open.proofs.ObjectStored.{linked_grown, object_stored, room_left, room_short}
use Rattle.h5_open.proofs.opened.added.put_object.Goals as goal

pub put_reserved-requires-clause-group : goal.put_reserved-requires-clause-group
put_reserved-requires-clause-group c =
    group_beside c.args.image.now c.write_object.new.image (block (next_place c.args.len c.args.image.now) c.args.len ∷ []) c.args.table c.requires.group c.write_object.ensures.took

pub put_reserved-requires-clause-new_name : goal.put_reserved-requires-clause-new_name
put_reserved-requires-clause-new_name c =
    none_beside c.args.image.now c.write_object.new.image (block (next_place c.args.len c.args.image.now) c.args.len ∷ []) c.args.table c.requires.group c.write_object.ensures.took
    c.args.link.now.name.now c.requires.new_name

pub put_reserved-requires-clause-roomy : goal.put_reserved-requires-clause-roomy
put_reserved-requires-clause-roomy c full =
    c.requires.roomy (full_beside c.args.image.now c.write_object.new.image (block (next_place c.args.len c.args.image.now) c.args.len ∷ []) c.args.table c.requires.group
    c.write_object.ensures.took c.args.link.now.name.now full)

pub put_reserved-requires-clause-bytes : goal.put_reserved-requires-clause-bytes
put_reserved-requires-clause-bytes c =
    room_left c.args.image.now c.write_object.new.image c.args.table c.requires.group c.args.link.now.name.now (next_place c.args.len c.args.image.now) c.args.len c.args.object.now
    (leads_of c.args.link.now.to) c.requires.lead c.write_object.ensures.took c.write_object.ensures.spends c.requires.bytes

pub put_reserved-requires-clause-short : goal.put_reserved-requires-clause-short
put_reserved-requires-clause-short c =
    room_short c.args.image.now c.write_object.new.image c.args.table c.requires.group c.args.link.now.name.now (next_place c.args.len c.args.image.now) c.args.len c.args.object.now
    (leads_of c.args.link.now.to) c.requires.lead c.write_object.ensures.took c.write_object.ensures.spends c.requires.short

pub write_end-requires-clause-small : goal.write_end-requires-clause-small
write_end-requires-clause-small c =
    let grown = linked_grown c.args.image.now c.write_object.new.image c.args.table c.requires.group c.args.link.now.name.now (next_place c.args.len c.args.image.now) c.args.len
    c.args.object.now (leads_of c.args.link.now.to) c.requires.lead c.write_object.ensures.took c.write_object.ensures.spends c.put_reserved.new.image c.put_reserved.ensures.spends in
    omega (arith, grown, c.requires.short)

pub returns-clause-stored : goal.returns-clause-stored
returns-clause-stored c =
    let w = c.write_object.ensures in
    let p = c.put_reserved.ensures in
    let e = c.write_end.ensures in (
      c.write_object.new.image,
      c.put_reserved.new.image,
      object_stored c.args.image.now c.write_object.new.image c.args.table c.requires.group c.args.link.now.name.now (next_place c.args.len c.args.image.now) c.args.len c.args.object.now
          (leads_of c.args.link.now.to) c.requires.lead w.took w.spends c.put_reserved.new.image p.spends c.write_end.new.image c.requires.size w.there w.inside p.put p.group p.moves
          p.k p.exact e.moves e.end e.length c.requires.short,
    )

pub returns-clause-grown : goal.returns-clause-grown
returns-clause-grown c =
    let grown = linked_grown c.args.image.now c.write_object.new.image c.args.table c.requires.group c.args.link.now.name.now (next_place c.args.len c.args.image.now) c.args.len
    c.args.object.now (leads_of c.args.link.now.to) c.requires.lead c.write_object.ensures.took c.write_object.ensures.spends c.put_reserved.new.image c.put_reserved.ensures.spends in
    omega (arith, grown, c.write_end.ensures.length)
