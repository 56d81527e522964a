use Rattle.std.proofs.Common.{◌≡◌, ◌∙◌, ap, ap₂}
use Rattle.clap.specs.Words.{app_of, with_rule}
use Rattle.clap.specs.Simple.{app_of_fields}
use Rattle.h5_args.specs.Words.{also, file_app}
use Rattle.h5_args.proofs.Commands.{either, if_ok_each}
use Rattle.h5_args.proofs.command.with_file.Goals as goal

pub returns : goal.returns
returns c =
    let sub_is : app_of c.in_ok-sub.sub ≡ file_app c.args.name.now = c.in_ok-sub.ensures.shape c.value.ensures.local
    ∙ ap₂ with_rule (ap app_of_fields c.about-named.ensures ∙ c.new.ensures.app) c.value.ensures.rule in
    let local = c.in_ok-sub.ensures.globals ∙ ap₂ either (ap (λ f. f.has_globals) c.about-named.ensures ∙ c.new.ensures.local) c.value.ensures.local in
    if_ok_each c.subcommand.result c.subcommand.ensures (λ _ adds. adds.shape local ∙ ap (also (app_of c.args.command)) sub_is)
