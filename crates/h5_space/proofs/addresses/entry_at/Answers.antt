use Rattle.std.proofs.Common.{ℕ, ◌<◌, List, length, get_or, refl, subst, arith}
use Rattle.h5_space.specs.declared.addresses.Run.{Run}
use Rattle.h5_space.proofs.RunLaws.{run_at_read, entry_read}
use Rattle.h5_space.proofs.addresses.entry_at.Goals as goal

pub index-requires : goal.index-requires
index-requires g c =
    let run : Run g.row.V.Denot = get_or c.args.runs.now c.args.run c.index-runs-run.result in
    let inside : c.args.index < length run.entries.items = subst (λ (es : List (ℕ × g.row.V.Denot)). c.args.index < length es)
    (run_at_read c.args.runs.now c.args.run c.index-runs-run.result run.entries.items c.requires.there c.index-runs-run.is refl) c.requires.inside in
    let ok = run.entries.ok.0 in
    omega (arith, inside, ok)

pub returns : goal.returns
returns g c = entry_read c.args.runs.now c.args.run c.args.index c.index-runs-run.result c.index.result.now c.requires.there c.index-runs-run.is c.index.ensures
