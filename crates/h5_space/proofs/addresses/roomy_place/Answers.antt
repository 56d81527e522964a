use Rattle.std.proofs.Common.{List, ℕ, length, ap, arith}
use Rattle.h5_space.proofs.RunLaws.{run_at_is}
use Rattle.h5_space.proofs.addresses.roomy_place.Goals as goal

pub split-requires-clause-long : goal.split-requires-clause-long
split-requires-clause-long g c =
    let ok = c.index.result.now.entries.ok.0 in
    let here = ap (λ (es : List (ℕ × g.row.V.Denot)). length es) (run_at_is c.args.runs.now.items c.args.run c.index.result.now c.requires.there c.index.ensures) in
    omega (arith, c.if-len-lt-RUN.false, c.len.ensures, ok, here)
