use Rattle.std.proofs.Common.{◌-◌, ◌+◌, ◌||◌, Bool, drop, length, sym, take, ap, ◌∙◌}
use Rattle.h5_model.specs.Edits.Refusal.{some_above}
use Rattle.h5_edit.proofs.RuleLaws.Resizes.{above_step}
use Rattle.h5_edit.proofs.rules.resize.+is_above.Goals as goal

pub returns-then-is_size_above : goal.returns-then-is_size_above
returns-then-is_size_above t c =
    let sizes = c.args.sizes.now in
    let maxima = c.args.extent.now.maxima in
    let others = some_above (take (length sizes - 1) (drop 1 sizes)) (drop (c.args.k + 1) maxima) in
    c.if-is_size_above.true
    ∙ ap (λ (b : Bool). b || others) (sym c.if-is_size_above.true ∙ c.is_size_above.ensures)
    ∙ sym (above_step sizes c.args.k maxima c.maximum.result c.in-len1-up.len_at_least c.maximum.ensures)

pub returns-else-is_size_above : goal.returns-else-is_size_above
returns-else-is_size_above t c =
    let sizes = c.args.sizes.now in
    let maxima = c.args.extent.now.maxima in
    let others = some_above (take (length sizes - 1) (drop 1 sizes)) (drop (c.args.k + 1) maxima) in
    c.is_above.ensures
    ∙ ap (λ (b : Bool). b || others) (sym c.if-is_size_above.false ∙ c.is_size_above.ensures)
    ∙ sym (above_step sizes c.args.k maxima c.maximum.result c.in-len1-up.len_at_least c.maximum.ensures)
