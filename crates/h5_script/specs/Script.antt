-- What a run of a script reads, does to a file, and writes.
use Rattle.std.specs.Prelude.{◌⊎◌, ℕ, ◌<◌, ◌≤◌, Option, List, length}
use Rattle.std.specs.Io.KnownBytes.{Consumes, IsAtEnd}
use Rattle.h5_model.specs.Format.Limits.{most_script_bytes}
use Rattle.h5_dump.specs.Session.{SessionState}
use Rattle.h5_model.specs.Scripts.Lines.{commands_of, finished_lines, within_limit}
use Rattle.h5_script.specs.Runs.{HasRun, HasCounted, HasBegun}
use Rattle.h5_script.specs.declared.ran.Ran.{Ran}
use Rattle.h5_script.specs.declared.fault.RunFault.{RunFault}
use Rattle.h5_script.specs.declared.fault.RunFault.TheVariants.{ScriptRead, ScriptWrite, ScriptTooLong, NoMemory}

-- no line was run yet
abbrev pub none_ran : Ran
none_ran = record { refused = 0; edits = 0 }

-- the script was read to its end, all its lines were run, and their outcomes were counted
pub record IsDone (before after : SessionState) (input left old new : Option (List ℕ)) (ran : Ran) : Type 0 where
  pub script : List ℕ
  pub read : Consumes input left script
  pub ended : IsAtEnd left
  pub short : length script ≤ most_script_bytes
  pub run : HasCounted (commands_of script) before after old new none_ran ran

-- the reader failed behind these bytes: the lines that they finish were run
pub record IsUnread (before after : SessionState) (input left old new : Option (List ℕ)) : Type 0 where
  pub script : List ℕ
  pub read : Consumes input left script
  pub short : length script ≤ most_script_bytes
  pub run : HasRun (commands_of (finished_lines script)) before after old new

-- more bytes were read than a script has: the lines that the others finish were run
pub record IsTooLong (before after : SessionState) (input left old new : Option (List ℕ)) : Type 0 where
  pub script : List ℕ
  pub read : Consumes input left script
  pub long : most_script_bytes < length script
  pub run : HasRun (commands_of (within_limit script)) before after old new

-- the writer failed, or memory was refused: the first lines were run, an unfinished one only at the end
pub record IsCutOff (before after : SessionState) (input left old new : Option (List ℕ)) : Type 0 where
  pub script : List ℕ
  pub read : Consumes input left script
  pub run : HasBegun (commands_of (finished_lines (within_limit script))) before after old new
      ⊎ (IsAtEnd left × HasBegun (commands_of (within_limit script)) before after old new)

-- what was done where a run ends early
abbrev pub IsStopped : SessionState → SessionState → Option (List ℕ) → Option (List ℕ) → Option (List ℕ) → Option (List ℕ) → RunFault → Type 0
IsStopped before after input left old new ScriptRead = IsUnread before after input left old new
IsStopped before after input left old new ScriptTooLong = IsTooLong before after input left old new
IsStopped before after input left old new ScriptWrite = IsCutOff before after input left old new
IsStopped before after input left old new NoMemory = IsCutOff before after input left old new
