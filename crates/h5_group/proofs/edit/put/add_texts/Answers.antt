use Rattle.h5_group.proofs.PutTexts.{no_zero, object_moved}
use Rattle.h5_group.proofs.edit.put.add_texts.Goals as goal

pub add_text-name-requires-clause-plain : goal.add_text-name-requires-clause-plain
add_text-name-requires-clause-plain c = no_zero c.args.link.now.name.now c.requires.named

pub returns-in-Object-clause-added : goal.returns-in-Object-clause-added
returns-in-Object-clause-added c = λ links spare blocks g.
    object_moved c.args.image.now c.add_text-name.new.image c.args.table blocks links spare c.add_text-name.result c.in-Object.place c.target_to.result c.target_to.ensures
    (c.add_text-name.ensures.added links spare blocks g)
