use Rattle.std.proofs.Common.{◌≡◌, true, length, sym, ◌∙◌, arith}
use Rattle.std.proofs.lemmas.Bool.{ltb-true}
use Rattle.h5_model.specs.Tree.Paths.{is_name}
use Rattle.h5_group.proofs.TextProofs.AllowedNames.{text_named}
use Rattle.h5_group.proofs.texts.allowed.is_allowed.Goals as goal
use Rattle.h5_group.proofs.texts.allowed.is_allowed.Goals.{then-name-gt1, else-name-gt1}

pub returns-then-lacks_slash : goal.returns-then-lacks_slash
returns-then-lacks_slash c =
    let named : is_name c.args.name.now ≡ true
    = elim c.if-name-gt1.branch [
      | then-name-gt1 w ↦
          text_named c.args.segment.now c.args.offset c.args.name.now c.requires.text c.requires.within (omega (arith, w.if-name-gt1.true))
          (w.lacks_slash.ensures (sym w.value-is ∙ c.if-lacks_slash.true))
      | else-name-gt1 w ↦ absurd (omega (arith, ltb-true 1 (length c.args.name.now) (sym w.value-is ∙ c.if-lacks_slash.true), w.if-name-gt1.false))
    ] in
    c.if-lacks_slash.true ∙ sym named
