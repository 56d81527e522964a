-- How a run ends for what was asked: which statuses it can have, and what stands on the standard output then. `input` and
-- `left` are the bytes of the standard input before and after the run, `old` and `new` those of the standard output.
use Rattle.std.specs.Prelude.{◌≡◌, ℕ, ◌<◌, ◌==◌, List, Option, Some, None, if◌then◌else◌}
use Rattle.h5_script.specs.Opened.Sound.{IsSound}
use Rattle.h5_script.specs.Opened.State.{FileState}
use Rattle.h5_script.specs.Session.{SessionState, without_views}
use Rattle.h5_script.specs.Script.{IsDone}
use Rattle.h5_script.specs.declared.ran.Ran.{Ran}
use Rattle.h5_args.specs.Words.{Wanted, WantNew, WantLs, WantDump, WantRun}
use Rattle.h5_cli.specs.Output.{IsListed, IsDumpPrinted, IsScriptRun}
use Rattle.h5_cli.specs.declared.status.Status.{Status}
use Rattle.h5_cli.specs.declared.status.Status.TheVariants.{Done, CommandRefused, WrongWords, ImageRefused, StreamFailed, NoMemory}

-- what an order that is done has printed: of a script, answers none of which refuses its line
abbrev pub Answers : Option Wanted → Option (List ℕ) → Option (List ℕ) → Option (List ℕ) → Option (List ℕ) → Type 0
Answers (Some (WantNew file)) input left old new = new ≡ old
Answers (Some (WantLs file)) input left old new = IsListed old new
Answers (Some (WantDump file path)) input left old new = IsDumpPrinted path Done old new
Answers (Some (WantRun file)) input left old new = (r : IsScriptRun input left old new) × ((r.ran).refused ≡ 0)
Answers None input left old new = ⊥

-- what an order with a refused command has printed: why nothing is dumped, or a script's answers, one of which refuses its line
abbrev pub Refuses : Option Wanted → Option (List ℕ) → Option (List ℕ) → Option (List ℕ) → Option (List ℕ) → Type 0
Refuses (Some (WantDump file path)) input left old new = IsDumpPrinted path CommandRefused old new
Refuses (Some (WantRun file)) input left old new = (r : IsScriptRun input left old new) × (0 < (r.ran).refused)
Refuses _ input left old new = ⊥

-- the orders that open a file
abbrev pub Opens : Option Wanted → Type 0
Opens (Some (WantNew file)) = ⊥
Opens (Some _) = Unit {0}
Opens None = ⊥

-- the end of a run, by its status: never that of wrong words, which no order has; an image that is refused leaves the output
-- as it was
abbrev pub Ends : Option Wanted → Option (List ℕ) → Option (List ℕ) → Option (List ℕ) → Option (List ℕ) → Status → Type 0
Ends asked input left old new Done = Answers asked input left old new
Ends asked input left old new CommandRefused = Refuses asked input left old new
Ends asked input left old new WrongWords = ⊥
Ends asked input left old new ImageRefused = Opens asked × (new ≡ old)
Ends asked input left old new StreamFailed = Unit {0}
Ends asked input left old new NoMemory = Unit {0}

-- the statuses of a run that opens no file
abbrev pub IsUnopened : Status → Type 0
IsUnopened ImageRefused = Unit {0}
IsUnopened StreamFailed = Unit {0}
IsUnopened NoMemory = Unit {0}
IsUnopened _ = ⊥

-- a script that was run to its end has a refused line, or none
abbrev pub ran_status : Ran → Status
ran_status ran = if ran.refused == 0 then Done else CommandRefused

-- The script was run to its end in a session of this file: the status, and the image to be written back, where an edit was accepted. It
-- is sound where the file was.
pub record IsRunOver (file : FileState) (input left old new : Option (List ℕ)) (status : Status) (changed : Option (List ℕ)) : Type 0 where
  pub after : SessionState
  pub ran : Ran
  pub done : IsDone (without_views file) after input left old new ran
  pub sound : IsSound file → IsSound after.file
  pub status_is : status ≡ ran_status ran
  pub changed_is : changed ≡ (if ran.edits == 0 then None else Some after.file.image)
