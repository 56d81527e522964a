use Rattle.std.proofs.Common.{◌≡◌, false, sym, ◌∙◌}
use Rattle.h5_model.specs.Views.Shown.{is_lent}
use Rattle.h5_file.proofs.KeptLaws.{kept_gathered}
use Rattle.h5_file.proofs.ShowLaws.{lent_is}
use Rattle.h5_file.proofs.views.kept_cells.Goals as goal

pub returns-clause-kept : goal.returns-clause-kept
returns-clause-kept c =
    let d = c.args.array.now in
    let slab = c.args.slab.now in
    let other : is_lent d slab ≡ false = sym (lent_is d slab c.lent.result c.lent.ensures) ∙ sym c.is_some.ensures ∙ c.if-is_some.false in
    let within = c.requires.within in
    (other, kept_gathered d slab within.rank within.within c.requires.apart within.counted c.in_ok-gather.field-0.bytes c.in_ok-gather.ensures.1)
