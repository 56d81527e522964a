-- Texts that are printed by way of a buffer: what a writer has got of them, and what the buffer holds back.
use Rattle.std.specs.Prelude.{◌≡◌, ℕ, Option, List, ◌++◌, Result, Ok, Err}
use Rattle.std.specs.Io.KnownBytes.{Appends}
use Rattle.h5_text.specs.declared.streams.PrintFault.{PrintFault}

-- the most bytes that a buffer holds back between two writes
abbrev pub most_held : ℕ
most_held = 65536

-- a beginning of the text was written
pub record WritesSome (old new : Option (List ℕ)) (text : List ℕ) : Type 0 where
  pub told : List ℕ
  pub untold : List ℕ
  pub whole : told ++ untold ≡ text
  pub written : Appends old new told

-- behind what was held back, the text was printed: a beginning of both was written, and the rest is held back now
pub record IsPrinted (old new : Option (List ℕ)) (held left text : List ℕ) : Type 0 where
  pub told : List ℕ
  pub whole : told ++ left ≡ held ++ text
  pub written : Appends old new told

-- on Ok the text is printed behind what was held back; on Err a beginning of both was written
abbrev pub Prints : {T : Type 0} → Result T PrintFault → Option (List ℕ) → Option (List ℕ) → List ℕ → List ℕ → List ℕ → Type 0
Prints (Ok x) old new held left text = IsPrinted old new held left text
Prints (Err f) old new held left text = WritesSome old new (held ++ text)
