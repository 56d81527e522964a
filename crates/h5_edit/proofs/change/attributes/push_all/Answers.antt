use Rattle.std.proofs.Common.{◌≡◌, ap, drop, ◌∙◌, sym, ◌∷◌, ◌+◌}
use Rattle.std.proofs.lemmas.List.{drop_more}
use Rattle.h5_repack.specs.Bodies.Sound.{IsPlainAttribute}
use Rattle.h5_repack.specs.Bodies.Bodies.{attribute_message}
use Rattle.h5_edit.specs.Changed.Appended.{attribute_messages}
use Rattle.h5_edit.proofs.ChangedLaws.PushedLaws.{pushing_step, all_more}
use Rattle.h5_edit.proofs.change.attributes.push_all.Goals as goal

pub loop-attribute-preserved : goal.loop-attribute-preserved
loop-attribute-preserved c =
    let es = c.args.list.now in
    let i = c.loop-attribute.attribute-index in
    let d = c.attribute-item.result in
    let next : attribute_messages (drop i es) ≡ attribute_message d ∷ attribute_messages (drop (i + 1) es)
    = ap attribute_messages (drop_more es i d c.loop-attribute-test.true) ∙ ap (λ e. attribute_message e ∷ attribute_messages (drop (i + 1) es)) (sym c.attribute-item.is) in (
      pushing_step _ _ _ (attribute_message d) _ _ _ c.loop-attribute.invariant.0 next c.in_ok-push_stored.ensures,
      (all_more IsPlainAttribute es i d c.loop-attribute-test.true c.loop-attribute.invariant.1).1,
    )
