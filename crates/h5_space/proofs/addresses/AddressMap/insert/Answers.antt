use Rattle.std.proofs.Common.{is_some, true≢false, sym, ap, ◌∙◌}
use Rattle.h5_space.proofs.RunLaws.{none_got}
use Rattle.h5_space.proofs.MapEdits.{written, put_into}
use Rattle.h5_space.proofs.RunEdits.{on_ok_then}
use Rattle.h5_space.proofs.addresses.AddressMap.insert.Goals as goal

pub returns-in-Ok-clause-updates : goal.returns-in-Ok-clause-updates
returns-in-Ok-clause-updates g c = written c.self.inside.runs.items c.deref.result.now c.args.self.now c.deref.ensures.value c.self.view_is c.self.invariant c.args.address c.in-Ok.run' c.in-Ok.index
    c.in-Ok.ensures.found c.give_value.new.runs.items c.args.value c.give_value.ensures.entries

pub returns-in-Err-clause-updates : goal.returns-in-Err-clause-updates
returns-in-Err-clause-updates g c = on_ok_then c.put.result c.put.ensures.put
    (put_into c.self.inside.runs.items c.deref.result.now c.args.self.now c.deref.ensures.value c.self.view_is c.self.invariant c.args.address c.in-Err.run' c.in-Err.index
    c.in-Err.ensures.absent c.put.new.runs.items c.args.value)

pub returns-in-Err-clause-there : goal.returns-in-Err-clause-there
returns-in-Err-clause-there g c there = absurd (true≢false (sym there ∙ ap is_some
    (none_got c.self.inside.runs.items c.deref.result.now c.args.self.now c.deref.ensures.value c.self.view_is c.args.address c.in-Err.run' c.in-Err.index c.in-Err.ensures.absent)))
