use Rattle.std.proofs.Common.{subst}
use Rattle.std.specs.Prelude.{Result, MatchResult}
use Rattle.std.specs.declared.alloc.AllocError.{AllocError}
use Rattle.h5_script.specs.Answered.{IsAnswered, IsUntold}
use Rattle.h5_script.specs.declared.ran.Outcome.{Outcome}
use Rattle.h5_script.proofs.LineRuns.{tells_untold, tells_cut}
use Rattle.h5_script.proofs.answer.tell.Goals as goal

pub returns-in_err-outcome : goal.returns-in_err-outcome
returns-in_err-outcome g c s t command answered =
    tells_untold c.from_residual.result s t command (g.W.Write.contents c.args.output.now) c.from_residual.ensures.1
    (subst (λ (r : Result Outcome AllocError). MatchResult r (IsAnswered s command t c.args.text.now) (λ _. IsUntold s command t)) c.in_err-outcome.was answered)

pub returns-in_err-write_text : goal.returns-in_err-write_text
returns-in_err-write_text g c s t command answered =
    tells_cut c.from_residual-in_err-write_text.result s t command c.args.text.now c.in_ok-outcome.outcome (g.W.Write.contents c.args.output.now) (g.W.Write.contents c.write_text.new.output) c.in_err-write_text.field-0.0
    c.from_residual-in_err-write_text.ensures.1
    (subst (λ (r : Result Outcome AllocError). MatchResult r (IsAnswered s command t c.args.text.now) (λ _. IsUntold s command t)) c.in_ok-outcome.was answered)
    c.in_err-write_text.ensures.1

pub returns : goal.returns
returns g c s t command answered = record {
  text = c.args.text.now;
  answered = subst (λ (r : Result Outcome AllocError). MatchResult r (IsAnswered s command t c.args.text.now) (λ _. IsUntold s command t)) c.in_ok-outcome.was answered;
  written = c.in_ok-write_text.ensures;
}
