use Rattle.std.proofs.Common.{List, ℕ, ◌++◌, subst, sym}
use Rattle.std.specs.Io.KnownBytes.{Appends}
use Rattle.std.specs.Prelude.{MatchResult}
use Rattle.h5_model.specs.Scripts.Answers.{shown_text}
use Rattle.h5_model.specs.Scripts.Lines.{Show}
use Rattle.h5_model.specs.Views.Shown.{Shown}
use Rattle.h5_model.specs.Views.ViewFaults.{view_fault_text}
use Rattle.h5_text.specs.Printed.{WritesSome}
use Rattle.h5_script.specs.Answered.{IsAnswered, IsUntold}
use Rattle.h5_script.specs.declared.ran.Outcome.TheVariants.{Refused, Told}
use Rattle.h5_script.proofs.LineAnswers.{told_or_not}
use Rattle.h5_script.proofs.LineRuns.{tells_cut}
use Rattle.h5_script.proofs.ViewAnswers.{view_shown, view_not_shown}
use Rattle.h5_script.proofs.answer.show.Goals as goal

pub returns-in_err-write_shown-in-Ok : goal.returns-in_err-write_shown-in-Ok
returns-in_err-write_shown-in-Ok g c =
    let session = c.args.session.now in
    let lent = c.in-Ok.shown.lent in
    let shown : Shown = record { fixed = c.in-Ok.shown.fixed; bytes = c.in-Ok.shown.bytes.now } in
    tells_cut c.from_residual.result session session (Show c.args.number) (shown_text lent shown) Told (g.W.Write.contents c.args.output.now) (g.W.Write.contents c.write_shown.new.output)
    c.in_err-write_shown-in-Ok.field-0.0 c.from_residual.ensures.1
    (view_shown session c.args.number lent shown c.in-Ok.ensures.shown c.in-Ok.ensures.lent)
    (subst (λ (held : List ℕ). WritesSome (g.W.Write.contents c.args.output.now) (g.W.Write.contents c.write_shown.new.output) (held ++ shown_text lent shown))
    c.requires c.in_err-write_shown-in-Ok.ensures)

pub returns-in_ok-write_shown-in-Ok : goal.returns-in_ok-write_shown-in-Ok
returns-in_ok-write_shown-in-Ok g c =
    let session = c.args.session.now in
    let lent = c.in-Ok.shown.lent in
    let shown : Shown = record { fixed = c.in-Ok.shown.fixed; bytes = c.in-Ok.shown.bytes.now } in
    record {
      text = shown_text lent shown;
      answered = view_shown session c.args.number lent shown c.in-Ok.ensures.shown c.in-Ok.ensures.lent;
      written = subst (λ (held : List ℕ). Appends (g.W.Write.contents c.args.output.now) (g.W.Write.contents c.write_shown.new.output) (held ++ shown_text lent shown))
          c.requires c.in_ok-write_shown-in-Ok.ensures;
    }

pub returns-in-Err : goal.returns-in-Err
returns-in-Err g c =
    let session = c.args.session.now in
    let command = Show c.args.number in
    let answered = told_or_not c.refused_view.result session session command c.refused_view.new.text.items (view_fault_text c.in-Err.fault) Refused
    (view_not_shown session c.args.number c.in-Err.fault c.in-Err.ensures.shown) c.refused_view.ensures in
    c.tell.ensures session session command
    (subst (λ (text : List ℕ). MatchResult c.refused_view.result (IsAnswered session command session text) (λ _. IsUntold session command session)) (sym c.deref.ensures.value) answered)
