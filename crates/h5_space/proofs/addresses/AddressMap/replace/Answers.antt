use Rattle.std.proofs.Common.{sym, ap, is_some}
use Rattle.h5_space.proofs.RunLaws.{none_got}
use Rattle.h5_space.proofs.MapEdits.{written, is_there}
use Rattle.h5_space.proofs.addresses.AddressMap.replace.Goals as goal

pub returns-in_default-clause-there : goal.returns-in_default-clause-there
returns-in_default-clause-there g c = sym (ap is_some (none_got c.self.inside.runs.items c.deref.result.now c.args.self.now c.deref.ensures.value c.self.view_is c.args.address c.in_default.field-0.0 c.in_default.field-0.1 c.in_default.ensures.absent))

pub returns-clause-there : goal.returns-clause-there
returns-clause-there g c = sym (is_there c.self.inside.runs.items c.deref.result.now c.args.self.now c.deref.ensures.value c.self.view_is c.self.invariant c.args.address c.in-Ok.run' c.in-Ok.index c.in-Ok.ensures.found)

pub returns-clause-updates : goal.returns-clause-updates
returns-clause-updates g c there = written c.self.inside.runs.items c.deref.result.now c.args.self.now c.deref.ensures.value c.self.view_is c.self.invariant c.args.address c.in-Ok.run' c.in-Ok.index
    c.in-Ok.ensures.found c.give_value.new.runs.items c.args.value c.give_value.ensures.entries
