-- What the exit of a `?` returns.
use Rattle.std.proofs.Common.{◌≡◌, sym, subst}
use Rattle.std.specs.Prelude.{IsErrAnd, MatchResult, Result, Ok, Err}

-- the error of the call as it is
pub passed_on : {T E : Type 0} (P : T → Type 0) (Q : E → Type 0) (r : Result T E) (e : E) → IsErrAnd r (λ y. y ≡ e) → Q e → MatchResult r P Q
passed_on P Q (Ok x) e passed refused = absurd passed
passed_on P Q (Err y) e passed refused = subst Q (sym passed) refused
