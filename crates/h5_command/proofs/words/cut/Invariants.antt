use Rattle.std.proofs.Common.{◌≡◌, false, take, All, eqb}
use Rattle.h5_command.proofs.words.cut.Given as goal

-- no byte so far is the one sought
abbrev pub invariant-loop-k : goal.invariant-loop-k
invariant-loop-k l = All (λ b. eqb b l.at ≡ false) (take l.k l.bytes)
