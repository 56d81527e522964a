use Rattle.std.proofs.Common.{◌∙◌, ap, map, arith}
use Rattle.h5_group.specs.Heap.Links.{name_and_leads}
use Rattle.h5_repack.proofs.Sizes.{group_header_length, group_long, group_deep, group_size}
use Rattle.h5_repack.proofs.size.measure_group.Goals as goal

pub returns-then-header-gt-MAXIMUM_IMAGE-clause-refused : goal.returns-then-header-gt-MAXIMUM_IMAGE-clause-refused
returns-then-header-gt-MAXIMUM_IMAGE-clause-refused c o is =
    omega (arith, c.group_header_length-header.ensures.exact 0 0, group_header_length c.args.links.now c.args.others.now o is 0 0, c.if-header-gt-MAXIMUM_IMAGE.true)

pub returns-in-Ok-group_places-clause-size : goal.returns-in-Ok-group_places-clause-size
returns-in-Ok-group_places-clause-size c o is =
    group_size c.args.links.now c.args.others.now o is c.args.k.now c.nowhere-layout.result (map name_and_leads c.deref.result.now) (ap (map name_and_leads) c.deref.ensures.value ∙ c.in-Ok.ensures)
    c.group_header_length-header.result c.in-Ok-group_places.places (c.group_header_length-header.ensures.exact 0 0) c.if-header-gt-MAXIMUM_IMAGE.false c.in-Ok-group_places.ensures

pub returns-in-Err-TooLong-clause-refused : goal.returns-in-Err-TooLong-clause-refused
returns-in-Err-TooLong-clause-refused c o is =
    group_long c.args.links.now c.args.others.now o is c.args.k.now c.nowhere-layout.result (map name_and_leads c.deref.result.now) (ap (map name_and_leads) c.deref.ensures.value ∙ c.in-Ok.ensures)
    (rw c.in-Err-TooLong.field-0-is at c.in-Err-TooLong.ensures)

pub returns-clause-refused : goal.returns-clause-refused
returns-clause-refused c o is =
    let deep = rw c.in-Err-TooDeep.field-0-is at c.in-Err-TooDeep.ensures in
    group_deep c.args.links.now c.args.others.now o is c.args.k.now c.nowhere-layout.result (map name_and_leads c.deref.result.now)
    (ap (map name_and_leads) c.deref.ensures.value ∙ c.in-Ok.ensures) deep.1
