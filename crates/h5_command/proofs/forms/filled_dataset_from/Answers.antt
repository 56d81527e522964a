use Rattle.std.proofs.Common.{◌≡◌, ap, ◌∙◌, option_map}
use Rattle.std.proofs.lemmas.Result.{IfOk-weaker}
use Rattle.h5_model.specs.Scripts.Lines.{dataset_from, fill_from}
use Rattle.h5_command.specs.Commands.{command_of}
use Rattle.h5_command.proofs.forms.filled_dataset_from.Goals as goal

pub returns : goal.returns
returns c =
    IfOk-weaker c.dataset_from.result
    (λ command. option_map command_of command ≡ dataset_from c.args.path.now c.args.kind.now c.args.sizes.now c.args.store.now c.fill_from-fill.result)
    (λ command. option_map command_of command ≡ dataset_from c.args.path.now c.args.kind.now c.args.sizes.now c.args.store.now (fill_from c.args.fill.now))
    (λ command is. is ∙ ap (dataset_from c.args.path.now c.args.kind.now c.args.sizes.now c.args.store.now) c.fill_from-fill.ensures) c.dataset_from.ensures
