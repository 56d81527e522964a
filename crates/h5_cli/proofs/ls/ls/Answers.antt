use Rattle.std.proofs.Common.{◌∙◌, Some}
use Rattle.h5_args.specs.Words.{WantLs}
use Rattle.h5_cli.specs.declared.status.Status.TheVariants.{Done}
use Rattle.h5_cli.proofs.EndLaws.{appends_as, printed_ends}
use Rattle.h5_cli.proofs.ls.ls.Goals as goal

pub returns-in-Ok-list : goal.returns-in-Ok-list
returns-in-Ok-list g c = λ input left.
    printed_ends (Some (WantLs c.args.file.now)) input left _ _ _ Done c.print.result c.print.ensures
    (λ printed. record { file = c.in-Ok.opened; sound = c.in-Ok.ensures; printed = appends_as (g.O.Write.contents c.args.output.now) (g.O.Write.contents c.print.new.output) _ _ (c.deref.ensures.value ∙ c.in-Ok-list.ensures) printed })
