use Rattle.std.proofs.Common.{◌≡◌, false, take, All, eqb}
use Rattle.h5_script.proofs.lines.cut.Given as goal

-- no line ends so far
abbrev pub invariant-loop-k : goal.invariant-loop-k
invariant-loop-k l = All (λ b. eqb b 10 ≡ false) (take l.k l.bytes)
