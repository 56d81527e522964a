-- The status of a run as the process ends with it.
use Rattle.std.specs.Prelude.{ℕ}
use Rattle.h5_cli.specs.declared.status.Status.{Status}
use Rattle.h5_cli.specs.declared.status.Status.TheVariants.{Done, CommandRefused, WrongWords, ImageRefused, StreamFailed, NoMemory}

abbrev pub status_code : Status → ℕ
status_code Done = 0
status_code CommandRefused = 1
status_code WrongWords = 2
status_code ImageRefused = 3
status_code StreamFailed = 4
status_code NoMemory = 5

-- where the message of a run's end could not be told: of the two the higher
abbrev pub status_if_untold : Status → Status
status_if_untold NoMemory = NoMemory
status_if_untold _ = StreamFailed
