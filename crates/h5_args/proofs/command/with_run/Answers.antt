use Rattle.std.proofs.Common.{◌≡◌, ◌∙◌, ap, ap₂, codes}
use Rattle.clap.specs.Words.{app_of, with_rule}
use Rattle.clap.specs.Simple.{app_of_fields}
use Rattle.h5_args.specs.Words.{also, file_app}
use Rattle.h5_args.proofs.Commands.{either, if_ok_each}
use Rattle.h5_args.proofs.command.with_run.Goals as goal

pub returns : goal.returns
returns c =
    let named_is = ap app_of_fields c.after_long_help-named.ensures ∙ ap app_of_fields c.about.ensures ∙ c.new.ensures.app in
    let sub_is : app_of c.in_ok-sub.sub ≡ file_app (codes "run") = c.in_ok-sub.ensures.shape c.value.ensures.local
    ∙ ap₂ with_rule named_is c.value.ensures.rule in
    let named_local = ap (λ f. f.has_globals) c.after_long_help-named.ensures ∙ ap (λ f. f.has_globals) c.about.ensures ∙ c.new.ensures.local in
    let local = c.in_ok-sub.ensures.globals ∙ ap₂ either named_local c.value.ensures.local in
    if_ok_each c.subcommand.result c.subcommand.ensures (λ _ adds. adds.shape local ∙ ap (also (app_of c.args.command)) sub_is)
