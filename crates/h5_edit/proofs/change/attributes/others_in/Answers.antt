use Rattle.std.proofs.Common.{◌∙◌}
use Rattle.h5_query.specs.Attributes.{attributes_of}
use Rattle.h5_edit.proofs.ChangedLaws.OthersLaws.{places_for, others_are}
use Rattle.h5_edit.proofs.change.attributes.others_in.Goals as goal

pub push_all-requires-clause-few : goal.push_all-requires-clause-few
push_all-requires-clause-few c =
    let ms = c.args.header.now.messages in
    places_for c.new-others.result c.push_kept.new.others ms c.deref.result.now c.new-others.ensures c.in_ok-push_kept.ensures
    (c.deref.ensures.value ∙ c.in_ok-attributes.ensures (attributes_of ms) c.requires.attributes) c.requires.few

pub returns : goal.returns
returns c content =
    let ms = c.args.header.now.messages in
    others_are c.new-others.result c.push_kept.new.others ms c.deref.result.now c.new-others.ensures c.in_ok-push_kept.ensures
    (c.deref.ensures.value ∙ c.in_ok-attributes.ensures (attributes_of ms) c.requires.attributes)
    c.push_all.new.others content c.in_ok-push_all.ensures
