-- What is known of a line once it was run.
use Rattle.std.specs.Prelude.{◌≡◌, ℕ, Option, List}
use Rattle.std.specs.Io.KnownBytes.{Appends}
use Rattle.h5_model.specs.Scripts.Lines.{Command, Change, Repack}
use Rattle.h5_model.specs.Scripts.Answers.{Given, Answer, answer_of}
use Rattle.h5_model.specs.Scripts.Answers as script
use Rattle.h5_model.specs.declared.edits.Edited.{Edited}
use Rattle.h5_dump.specs.Opened.State.{FileState}
use Rattle.h5_dump.specs.Edited.{IsEdited}
use Rattle.h5_dump.specs.Anew.{IsRepacked}
use Rattle.h5_dump.specs.Session.{SessionState, session_of}
use Rattle.h5_script.specs.GivenAt.{IsGivenAt}
use Rattle.h5_script.specs.declared.ran.Outcome.{Outcome}
use Rattle.h5_script.specs.declared.ran.Outcome.TheVariants.{Refused, Accepted, Told}

abbrev pub outcome_of : Outcome → script.Outcome
outcome_of Refused = script.Refused
outcome_of Accepted = script.Accepted
outcome_of Told = script.Told

-- a line that was run: what it asks for, what is given to it, and the session that it leaves
pub record Line : Type 0 where
  pub command : Command
  pub given : Given
  pub after : SessionState

-- what a command answers in this session
unfoldable pub answer_at : SessionState → Command → Given → Answer
answer_at s command given = answer_of (session_of s) command given

-- an edit that is accepted makes of the file what it gives, and `repack` writes it anew; any other line leaves the file as it is, each byte
-- of it
abbrev pub Leaves : script.Outcome → Command → FileState → FileState → Type 0
Leaves script.Accepted (Change edit) f after = (e : Edited) × IsEdited f edit after e
Leaves script.Accepted Repack f after = IsRepacked f after
Leaves _ command f after = after ≡ f

-- the line was answered in this session: what is given to it may be given there, and it leaves what it answers
pub record IsRunIn (s : SessionState) (line : Line) : Type 0 where
  pub allowed : IsGivenAt s.file line.command line.given
  pub session_is : session_of line.after ≡ (answer_at s line.command line.given).session
  pub left : Leaves (answer_at s line.command line.given).outcome line.command s.file line.after.file

-- the line is a `repack`, and it was accepted
pub record IsAcceptedRepack (s : SessionState) (line : Line) : Type 0 where
  pub command : line.command ≡ Repack
  pub outcome : (answer_at s line.command line.given).outcome ≡ script.Accepted

-- a line that asks for the command led from one session to another, and its answer is this text
pub record IsAnswered (before : SessionState) (command : Command) (after : SessionState) (text : List ℕ) (outcome : Outcome) : Type 0 where
  pub given : Given
  pub run : IsRunIn before (record { command = command; given = given; after = after })
  pub text_is : text ≡ (answer_at before command given).text
  pub outcome_is : outcome_of outcome ≡ (answer_at before command given).outcome

-- a line that asks for the command led from one session to another, and there was no memory for its answer
pub record IsUntold (before : SessionState) (command : Command) (after : SessionState) : Type 0 where
  pub given : Given
  pub run : IsRunIn before (record { command = command; given = given; after = after })

-- a line that asks for the command led from one session to another, and its answer was written
pub record IsTold (before : SessionState) (command : Command) (after : SessionState) (old new : Option (List ℕ)) (outcome : Outcome) : Type 0 where
  pub text : List ℕ
  pub answered : IsAnswered before command after text outcome
  pub written : Appends old new text
