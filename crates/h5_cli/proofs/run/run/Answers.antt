use Rattle.std.proofs.Common.{Some}
use Rattle.h5_args.specs.Words.{WantRun}
use Rattle.h5_cli.proofs.EndLaws.{run_ends, written_ends}
use Rattle.h5_cli.proofs.run.run.Goals as goal

pub returns-in-Ok-default-Some : goal.returns-in-Ok-default-Some
returns-in-Ok-default-Some g c =
    written_ends (Some (WantRun c.args.file.now)) _ _ _ _ c.in-Ok-default-Some.status c.write_whole.result c.write_whole.ensures
    (run_ends c.args.file.now _ _ _ _ c.in-Ok.opened c.in-Ok-default-Some.status _ c.in-Ok.ensures c.in-Ok-default-Some.ensures)

pub returns-in-Ok-default-None : goal.returns-in-Ok-default-None
returns-in-Ok-default-None g c =
    run_ends c.args.file.now _ _ _ _ c.in-Ok.opened c.in-Ok-default-None.status _ c.in-Ok.ensures c.in-Ok-default-None.ensures
