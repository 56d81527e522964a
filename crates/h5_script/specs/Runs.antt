-- What the lines of a script do, one after the other, each with what is given to it.
use Rattle.std.specs.Prelude.{◌≡◌, ◌⊎◌, ℕ, ◌+◌, Option, List, [], ◌∷◌, ◌++◌, map, Result, MatchResult}
use Rattle.std.specs.List.{count_by}
use Rattle.std.specs.Io.KnownBytes.{Appends, Keeps}
use Rattle.h5_model.specs.Scripts.Lines.{Command}
use Rattle.h5_model.specs.Scripts.Answers.{Given, is_accepted, is_refused, outcomes_of, session_after, transcript_of}
use Rattle.h5_dump.specs.Opened.Sound.{IsWholeFile}
use Rattle.h5_dump.specs.Session.{SessionState, session_of}
use Rattle.h5_script.specs.Answered.{Line, answer_at, IsAcceptedRepack, IsRunIn, IsTold}
use Rattle.h5_text.specs.Printed.{WritesSome}
use Rattle.h5_text.specs.declared.streams.PrintFault.{PrintFault}
use Rattle.h5_text.specs.declared.streams.PrintFault.TheVariants as print
use Rattle.h5_script.specs.declared.ran.Outcome as told
use Rattle.h5_script.specs.declared.ran.Ran.{Ran}
use Rattle.h5_script.specs.declared.fault.RunFault.{RunFault}
use Rattle.h5_script.specs.declared.fault.RunFault.TheVariants.{ScriptWrite, NoMemory}

-- what lines ask for
abbrev pub commands_in : List Line → List Command
commands_in lines = map (λ line. line.command) lines

-- and with each what is given to it, as the definition of scripts takes them
abbrev pub asked_in : List Line → List (Command × Given)
asked_in lines = map (λ line. (line.command, line.given)) lines

-- each line was run in the session that the one before it leaves, and the last leaves this one
unfoldable pub AreRun : SessionState → List Line → SessionState → Type 0
AreRun before [] after = after ≡ before
AreRun before (line ∷ lines) after = IsRunIn before line × AreRun line.after lines after

-- a `repack` among the lines was accepted
unfoldable pub HasAcceptedRepack : SessionState → List Line → Type 0
HasAcceptedRepack before [] = ⊥
HasAcceptedRepack before (line ∷ lines) = IsAcceptedRepack before line ⊎ HasAcceptedRepack line.after lines

-- Nothing leaks: where the blocks of the file, those in use and the free ones, covered each byte of its image once before the lines, or a
-- `repack` among them was accepted, they do behind them.
abbrev pub LeavesWhole : SessionState → List Line → SessionState → Type 0
LeavesWhole before lines after = IsWholeFile before.file ⊎ HasAcceptedRepack before lines → IsWholeFile after.file

-- These commands were run, and their answers were written behind what stood there: the transcript of the lines in the session before them.
-- The session is the one that these lines lead to, and nothing leaks on the way.
pub record HasRun (asked : List Command) (before after : SessionState) (old new : Option (List ℕ)) : Type 0 where
  pub lines : List Line
  pub asked_are : commands_in lines ≡ asked
  pub each : AreRun before lines after
  pub session_is : session_of after ≡ session_after (session_of before) (asked_in lines)
  pub whole : LeavesWhole before lines after
  pub written : Appends old new (transcript_of (session_of before) (asked_in lines))

-- and their outcomes were counted
pub record HasCounted (asked : List Command) (before after : SessionState) (old new : Option (List ℕ)) (counted counts : Ran) : Type 0 where
  pub run : HasRun asked before after old new
  pub refused : counts.refused ≡ counted.refused + count_by is_refused (outcomes_of (session_of before) (asked_in run.lines))
  pub edits : counts.edits ≡ counted.edits + count_by is_accepted (outcomes_of (session_of before) (asked_in run.lines))

-- none of these commands was run, and nothing was written
abbrev pub IsRunUntouched : SessionState → SessionState → Option (List ℕ) → Option (List ℕ) → Type 0
IsRunUntouched before after old new = (after ≡ before) × Keeps old new

-- the first of these commands was run, and a beginning of its answer was written
pub record IsPartlyTold (asked : List Command) (before after : SessionState) (old new : Option (List ℕ)) : Type 0 where
  pub line : Line
  pub others : List Command
  pub asked_are : line.command ∷ others ≡ asked
  pub run : IsRunIn before line
  pub after_is : after ≡ line.after
  pub whole : LeavesWhole before (line ∷ []) after
  pub written : WritesSome old new (answer_at before line.command line.given).text

-- the first of these commands were run, and their answers were written; of the others at most one was run, whose answer was written
-- in part
pub record HasBegun (asked : List Command) (before after : SessionState) (old new : Option (List ℕ)) : Type 0 where
  pub first : List Command
  pub others : List Command
  pub asked_are : first ++ others ≡ asked
  pub between : SessionState
  pub written : Option (List ℕ)
  pub run : HasRun first before between old written
  pub last : IsRunUntouched between after written new ⊎ IsPartlyTold others between after written new

-- a run ends early because the writer failed or memory was refused
abbrev pub IsRunCut : RunFault → Type 0
IsRunCut ScriptWrite = Unit {0}
IsRunCut NoMemory = Unit {0}
IsRunCut _ = ⊥

-- the commands were run and counted, or the run ends early
abbrev pub RunsTo : {T : Type 0} → Result T RunFault → List Command → SessionState → SessionState → Option (List ℕ) → Option (List ℕ) → Ran → Ran → Type 0
RunsTo result asked before after old new counted counts =
    MatchResult result (λ _. HasCounted asked before after old new counted counts) (λ fault. IsRunCut fault × HasBegun asked before after old new)

-- the command was run and its answer was written, or the run ends early
abbrev pub Tells : Result told.Outcome RunFault → SessionState → Command → SessionState → Option (List ℕ) → Option (List ℕ) → Type 0
Tells result before command after old new =
    MatchResult result (IsTold before command after old new) (λ fault. IsRunCut fault × HasBegun (command ∷ []) before after old new)

-- why a run ends where an answer is cut off
abbrev pub run_fault : PrintFault → RunFault
run_fault print.WriteFailed = ScriptWrite
run_fault print.NoMemory = NoMemory
