use Rattle.std.proofs.Common.{◌≡◌, ◌-◌, ◌++◌, length, replicate, arith}
use Rattle.std.proofs.lemmas.Grind.{common_steps}
use Rattle.h5_model.specs.Format.Sizes.{attribute_size}
use Rattle.h5_msg.proofs.AttributeBack.{stored_attribute_back}
use Rattle.h5_msg.proofs.attribute.write_stored_attribute.Goals as goal

pub returns-clause-written : goal.returns-clause-written
returns-clause-written c =
    let padding : c.fill.new.self ≡ replicate (length c.args.bytes.now - attribute_size (length c.args.name.now) c.args.sizes.now c.args.fixed.now.size) 0
    = grind (arith, common_steps, c.requires.stored) in
    (λ i. c.write_front.ensures.written i ++ (c.copy_from_slice.ensures.after i ++ padding i))

pub returns-clause-reads : goal.returns-clause-reads
returns-clause-reads c = stored_attribute_back c.args.name.now c.args.sizes.now c.args.fixed.now c.args.stored.now (length c.args.bytes.now) _
    c.requires.name c.requires.short c.requires.text c.requires.rank (λ k. (c.type_inv.sizes k).fits) c.write_front.ensures.sound (λ k. (c.type_inv.stored k).fits)
    c.requires.stored (returns-clause-written c)
