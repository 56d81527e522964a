use Rattle.std.proofs.Common.{refl}
use Rattle.h5_query.proofs.StepLaws.{begins_at, no_group, read, no_name, to_text, header_known, to_object}
use Rattle.h5_query.proofs.step.follow_name.Goals as goal

pub returns-in_default-content : goal.returns-in_default-content
returns-in_default-content c =
    no_group c.args.opened.now c.args.from c.in-Object.number c.in-Object.object c.in-Object.is c.requires
    c.in_default-content.is c.args.name.now

pub lookup-requires : goal.lookup-requires
lookup-requires c =
    rw c.image.ensures.bytes (read c.args.opened.now c.args.from c.in-Object.number c.in-Object.object c.in-Object.is c.requires
    c.in-Group.table c.in-Group.is)

pub returns-in_default-lookup : goal.returns-in_default-lookup
returns-in_default-lookup c = (
  begins_at c.args.opened.now c.args.from c.in-Object.number c.in-Object.object c.in-Object.is c.requires,
  no_name c.args.opened.now c.args.from c.in-Object.number c.in-Object.object c.in-Object.is c.requires
      c.in-Group.table c.in-Group.is c.args.name.now (rw c.image.ensures.bytes at c.in_default-lookup.ensures.absent),
)

pub number_of-requires : goal.number_of-requires
number_of-requires c =
    header_known c.args.opened.now c.args.from c.in-Object.number c.in-Object.object c.in-Object.is c.requires
    c.in-Group.table c.in-Group.is c.args.name.now c.in-Some.link (rw c.image.ensures.bytes at c.in-Some.ensures.found) c.in-Object-to.header c.in-Object-to.is c.image.ensures.sound

pub object_place-requires : goal.object_place-requires
object_place-requires c = rw c.number_of.ensures.found refl

pub returns-in-Object-to : goal.returns-in-Object-to
returns-in-Object-to c = (
  begins_at c.args.opened.now c.args.from c.in-Object.number c.in-Object.object c.in-Object.is c.requires,
  to_object c.args.opened.now c.args.from c.in-Object.number c.in-Object.object c.in-Object.is c.requires
      c.in-Group.table c.in-Group.is c.args.name.now c.in-Some.link (rw c.image.ensures.bytes at c.in-Some.ensures.found) c.in-Object-to.header c.in-Object-to.is c.image.ensures.sound c.number_of.result
      c.number_of.ensures.found
      c.object_place.result c.object_place.ensures.link,
  c.object_place.ensures.at,
)

pub returns-in-Soft : goal.returns-in-Soft
returns-in-Soft c = (
  begins_at c.args.opened.now c.args.from c.in-Object.number c.in-Object.object c.in-Object.is c.requires,
  to_text c.args.opened.now c.args.from c.in-Object.number c.in-Object.object c.in-Object.is c.requires
      c.in-Group.table c.in-Group.is c.args.name.now c.in-Some.link (rw c.image.ensures.bytes at c.in-Some.ensures.found) c.in-Soft.text c.in-Soft.is,
  tt,
)
