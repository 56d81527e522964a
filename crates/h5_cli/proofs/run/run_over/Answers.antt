use Rattle.std.proofs.Common.{subst}
use Rattle.h5_script.specs.Script.{IsDone}
use Rattle.h5_script.specs.Session.{SessionState}
use Rattle.h5_cli.proofs.run.run_over.Goals as goal

pub returns : goal.returns
returns g c = record {
  after = c.run_script.new.session;
  ran = c.in_ok-ran.ran;
  done = subst (λ (s : SessionState). IsDone s c.run_script.new.session (g.I.Read.remaining c.args.input.now) (g.I.Read.remaining c.run_script.new.input)
      (g.O.Write.contents c.args.output.now) (g.O.Write.contents c.run_script.new.output) c.in_ok-ran.ran) c.new-session.ensures c.in_ok-ran.ensures.run;
  sound = λ _. c.in_ok-ran.ensures.sound;
  status_is = c.status_of.ensures;
  changed_is = c.changed_by.ensures;
}
