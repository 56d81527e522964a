use Rattle.std.proofs.Common.{◌≡◌, ap, length, get_or, arith}
use Rattle.std.proofs.lemmas.Bool.Decides.{nat_tests}
use Rattle.h5_space.specs.declared.addresses.Run.{Run}
use Rattle.h5_space.proofs.RunEdits.{back_end}
use Rattle.h5_space.proofs.addresses.is_end.Goals as goal

pub returns-then-index-ge-RUN-clause-end : goal.returns-then-index-ge-RUN-clause-end
returns-then-index-ge-RUN-clause-end g c equal =
    let last : Run g.row.V.Denot = get_or c.args.runs.now c.args.run c.index-runs-run.result in
    let ok = last.entries.ok.0 in
    let same = ap (λ (x : Run g.row.V.Denot). length x.entries.items) c.index-runs-run.is in
    let all : c.args.index ≡ c.len.result = grind (arith, nat_tests, equal) in
    back_end c.args.runs.now c.args.run c.args.index c.index-runs-run.result c.if-index-ge-RUN.true.0 c.index-runs-run.is (omega (arith, c.len.ensures, ok, same, all))
