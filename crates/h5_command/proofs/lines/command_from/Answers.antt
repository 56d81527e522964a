use Rattle.std.proofs.Common.{◌∷◌, eqb, ap, ◌∙◌, rules}
use Rattle.std.specs.List.{slice_split}
use Rattle.h5_command.proofs.Splits.{part_more, words_ask_many}
use Rattle.h5_command.proofs.lines.command_from.Goals as goal

-- eight words or more
pub returns-then-is_some : goal.returns-then-is_some
returns-then-is_some c =
    let w = c.cut.result.0.now in
    let x = c.cut-2.result.0.now in
    let y = c.cut-3.result.0.now in
    let z = c.cut-4.result.0.now in
    let d = c.cut-5.result.0.now in
    let e = c.cut-6.result.0.now in
    words_ask_many (slice_split (λ b. eqb b 32) c.args.line.now) w x y z d e c.cut-7.result.0.now c.cut-7.result.1
    (part_more 32 c.args.line.now c.cut.result.0.now c.cut.result.1 c.in-Some.rest c.cut.ensures.parts c.in-Some.is
    ∙ ap (λ ps. w ∷ ps) (part_more 32 c.in-Some.rest.now c.cut-2.result.0.now c.cut-2.result.1 c.in-Some-rest.rest c.cut-2.ensures.parts c.in-Some-rest.is)
    ∙ ap (λ ps. w ∷ x ∷ ps) (part_more 32 c.in-Some-rest.rest.now c.cut-3.result.0.now c.cut-3.result.1 c.in-Some-rest-2.rest c.cut-3.ensures.parts c.in-Some-rest-2.is)
    ∙ ap (λ ps. w ∷ x ∷ y ∷ ps) (part_more 32 c.in-Some-rest-2.rest.now c.cut-4.result.0.now c.cut-4.result.1 c.in-Some-rest-3.rest c.cut-4.ensures.parts c.in-Some-rest-3.is)
    ∙ ap (λ ps. w ∷ x ∷ y ∷ z ∷ ps) (part_more 32 c.in-Some-rest-3.rest.now c.cut-5.result.0.now c.cut-5.result.1 c.in-Some-rest-4.rest c.cut-5.ensures.parts c.in-Some-rest-4.is)
    ∙ ap (λ ps. w ∷ x ∷ y ∷ z ∷ d ∷ ps) (part_more 32 c.in-Some-rest-4.rest.now c.cut-6.result.0.now c.cut-6.result.1 c.in-Some-rest-5.rest c.cut-6.ensures.parts c.in-Some-rest-5.is)
    ∙ ap (λ ps. w ∷ x ∷ y ∷ z ∷ d ∷ e ∷ ps) c.cut-7.ensures.parts)
    (search rules)
