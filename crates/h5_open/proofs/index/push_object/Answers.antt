use Rattle.std.proofs.Common.{◌∙◌, refl, ap, length, arith}
use Rattle.h5_open.specs.Opened.Objects.{header_of, objects_of}
use Rattle.h5_open.proofs.IndexLaws.{few_objects, numbered_push, objects_push}
use Rattle.h5_open.proofs.index.push_object.Goals as goal

pub keep-requires : goal.keep-requires
keep-requires c =
    let few = few_objects c.args.index.now.objects.items c.args.index.now.numbers c.requires.index in
    record { few = omega (arith, few) }

pub returns-clause-pushed : goal.returns-clause-pushed
returns-clause-pushed c = ap objects_of c.in-Ok.ensures.slots ∙ objects_push c.args.index.now.objects.items c.args.object

pub returns-clause-index : goal.returns-clause-index
returns-clause-index c =
    numbered_push c.args.index.now.objects.items c.args.index.now.numbers c.requires.index c.args.object c.requires.low c.requires.new (length c.args.index.now.objects.items) refl
    c.keep.new.index.numbers (header_of c.args.object) refl c.in-Ok.ensures.numbers.0 c.keep.new.index.objects.items c.in-Ok.ensures.slots
