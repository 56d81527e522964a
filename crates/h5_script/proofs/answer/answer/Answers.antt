use Rattle.std.proofs.Common.{List, ℕ, codes, ap, subst, sym}
use Rattle.std.specs.Prelude.{MatchResult}
use Rattle.h5_command.specs.Commands.{command_of}
use Rattle.h5_script.specs.Answered.{IsAnswered, IsUntold}
use Rattle.h5_script.specs.declared.ran.Outcome.TheVariants.{Refused}
use Rattle.h5_script.proofs.LineAnswers.{told_or_not, bad_answer}
use Rattle.h5_script.proofs.answer.answer.Goals as goal

pub returns-in-Unread : goal.returns-in-Unread
returns-in-Unread g c =
    let session = c.args.session.now in
    let command = command_of c.args.command.now in
    let answered = told_or_not c.bad_line.result session session command c.bad_line.new.text.items (codes "bad line\n") Refused
    (bad_answer session command (ap command_of c.in-Unread.is)) c.bad_line.ensures in
    c.tell-in-Unread.ensures session session command
    (subst (λ (text : List ℕ). MatchResult c.bad_line.result (IsAnswered session command session text) (λ _. IsUntold session command session)) (sym c.deref-in-Unread.ensures.value) answered)
