-- The lines of a script that comes in pieces.
use Rattle.std.specs.Prelude.{◌≡◌, ◌⊎◌, ◌==◌, ℕ, ◌+◌, false, Option, List, [], ◌∷◌, ◌++◌, length, Result, MatchResult}
use Rattle.std.specs.List.{All}
use Rattle.std.specs.Option.{option_map_or}
use Rattle.std.specs.Io.KnownBytes.{Consumes}
use Rattle.h5_model.specs.Format.Limits.{most_script_bytes}
use Rattle.h5_dump.specs.Session.{SessionState}
use Rattle.h5_model.specs.Scripts.Lines.{Command, line_asks, commands_of}
use Rattle.h5_script.specs.Runs.{HasCounted, HasBegun, IsRunCut}
use Rattle.h5_script.specs.Script.{none_ran}
use Rattle.h5_script.specs.declared.ran.Ran.{Ran}
use Rattle.h5_script.specs.declared.fault.RunFault.{RunFault}

-- no line ends in these bytes
abbrev pub HasNoEnd : List ℕ → Type 0
HasNoEnd bytes = All (λ b. (b == 10) ≡ false) bytes

-- a line, its end, and what stands behind it
pub record IsFirstLine (bytes line rest : List ℕ) : Type 0 where
  pub whole : line ++ 10 ∷ rest ≡ bytes
  pub endless : HasNoEnd line

-- the bytes of lines with their ends
abbrev pub AreWholeLines : List ℕ → Type 0
AreWholeLines bytes = (bytes ≡ []) ⊎ ((first : List ℕ) × (bytes ≡ first ++ 10 ∷ []))

-- the commands of one line, whose end is left out
abbrev pub commands_of_line : List ℕ → List Command
commands_of_line line = option_map_or (λ command. command ∷ []) (line_asks line) []

-- the lines that stand whole in the bytes were run; what is left behind them is held
pub record HasRunLines (bytes held : List ℕ) (before after : SessionState) (old new : Option (List ℕ)) (counted counts : Ran) : Type 0 where
  pub done : List ℕ
  pub parts : done ++ held ≡ bytes
  pub whole : AreWholeLines done
  pub endless : HasNoEnd held
  pub run : HasCounted (commands_of done) before after old new counted counts

-- some of the lines that stand whole in the bytes were run
pub record HasBegunLines (bytes : List ℕ) (before after : SessionState) (old new : Option (List ℕ)) : Type 0 where
  pub done : List ℕ
  pub others : List ℕ
  pub parts : done ++ others ≡ bytes
  pub whole : AreWholeLines done
  pub run : HasBegun (commands_of done) before after old new

-- the lines that stand whole in the bytes were run, or the run ends early
abbrev pub RunsLinesTo : {T : Type 0} → Result T RunFault → List ℕ → List ℕ → SessionState → SessionState → Option (List ℕ) → Option (List ℕ) → Ran → Ran → Type 0
RunsLinesTo result bytes held before after old new counted counts =
    MatchResult result (λ _. HasRunLines bytes held before after old new counted counts) (λ fault. IsRunCut fault × HasBegunLines bytes before after old new)

-- a script is being read: its whole lines were run, the rest is held, and so many bytes may come yet
pub record IsUnderway (before now : SessionState) (input left old new : Option (List ℕ)) (held : List ℕ) (room : ℕ) (ran : Ran) : Type 0 where
  pub script : List ℕ
  pub read : Consumes input left script
  pub limit : length script + room ≡ most_script_bytes
  pub run : HasRunLines script held before now old new none_ran ran
