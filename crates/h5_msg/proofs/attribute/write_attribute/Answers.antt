use Rattle.std.proofs.Common.{◌≡◌, ◌-◌, ◌*◌, ◌++◌, length, replicate, arith}
use Rattle.std.proofs.lemmas.Grind.{common_steps}
use Rattle.h5_model.specs.Tree.Places.{cells}
use Rattle.h5_model.specs.Format.Sizes.{attribute_size}
use Rattle.h5_msg.proofs.AttributeBack.{attribute_back}
use Rattle.h5_msg.proofs.attribute.write_attribute.Goals as goal

pub returns-clause-written : goal.returns-clause-written
returns-clause-written c =
    let product : length c.args.values.now * c.size.result ≡ cells c.args.sizes.now * c.args.fixed.now.size = λ i. c.requires.values i * c.size.ensures.size i in
    let padding : c.fill.new.self ≡ replicate (length c.args.bytes.now - attribute_size (length c.args.name.now) c.args.sizes.now c.args.fixed.now.size) 0
    = grind (arith, common_steps, product) in
    (λ i. c.write_front.ensures.written i ++ (c.write_values.ensures i ++ padding i))

pub returns-clause-reads : goal.returns-clause-reads
returns-clause-reads c = attribute_back c.args.name.now c.args.sizes.now c.args.fixed.now c.args.values.now (length c.args.bytes.now) _
    c.requires.name c.requires.short c.requires.text c.requires.rank (λ k. (c.type_inv.sizes k).fits) c.write_front.ensures.sound c.requires.of_type c.requires.values (returns-clause-written c)
