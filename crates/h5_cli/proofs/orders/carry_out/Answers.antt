use Rattle.std.proofs.Common.{Some, rules}
use Rattle.h5_args.specs.Order.{wanted_by_order}
use Rattle.h5_args.specs.Words.{WantNew, WantLs, WantDump}
use Rattle.h5_cli.proofs.EndLaws.{asked_ends}
use Rattle.h5_cli.proofs.orders.carry_out.Goals as goal

pub returns-in-New : goal.returns-in-New
returns-in-New g c =
    asked_ends (Some (wanted_by_order c.args.order)) (Some (WantNew c.in-New.file.now)) _ _ _ _ c.new.result (search rules) (c.new.ensures (g.I.Read.remaining c.args.input.now) (g.I.Read.remaining c.args.input.now) _)

pub returns-in-Ls : goal.returns-in-Ls
returns-in-Ls g c =
    asked_ends (Some (wanted_by_order c.args.order)) (Some (WantLs c.in-Ls.file.now)) _ _ _ _ c.ls.result (search rules) (c.ls.ensures (g.I.Read.remaining c.args.input.now) (g.I.Read.remaining c.args.input.now))

pub returns-in-Dump : goal.returns-in-Dump
returns-in-Dump g c =
    asked_ends (Some (wanted_by_order c.args.order)) (Some (WantDump c.in-Dump.file.now c.in-Dump.path.now)) _ _ _ _ c.dump.result (search rules) (c.dump.ensures (g.I.Read.remaining c.args.input.now) (g.I.Read.remaining c.args.input.now))
