-- Commands as they are built.
use Rattle.std.proofs.Common.{Bool, ◌||◌, Result, Ok, Err}
use Rattle.std.specs.Prelude.{IfOk}

abbrev pub either : Bool → Bool → Bool
either x y = x || y

-- what holds of each value that one clause allows holds of what was answered
pub if_ok_each : {T E : Type 0} {P Q : T → Type 0} (r : Result T E) → IfOk r P → ((t : T) → P t → Q t) → IfOk r Q
if_ok_each (Ok t) p each = each t p
if_ok_each (Err e) p each = tt
