use Rattle.std.proofs.Common.{refl}
use Rattle.h5_script.specs.declared.fault.RunFault.TheVariants.{NoMemory}
use Rattle.h5_script.proofs.ScriptRuns.{by_stop, stopped_at_first}
use Rattle.h5_script.proofs.run.run_buffered.Goals as goal

pub returns-in_err-piece : goal.returns-in_err-piece
returns-in_err-piece g c =
    by_stop c.from_residual.result _ _ NoMemory NoMemory c.from_residual.ensures.1 refl
    (stopped_at_first c.args.session.now (g.R.Read.remaining c.args.input.now) (g.W.Write.contents c.args.output.now) NoMemory tt)
