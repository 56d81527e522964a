use Rattle.std.proofs.Common.{sym}
use Rattle.h5_space.proofs.RunLaws.{none_got}
use Rattle.h5_space.proofs.MapEdits.{has, cut_out, left_out}
use Rattle.h5_space.proofs.addresses.AddressMap.remove.Goals as goal

pub returns-in-Ok-clause-value : goal.returns-in-Ok-clause-value
returns-in-Ok-clause-value g c = sym (has c.self.inside.runs.items c.deref.result.now c.args.self.now c.deref.ensures.value c.self.view_is c.self.invariant c.args.address c.in-Ok.run' c.in-Ok.index
    c.in-Ok.ensures.found c.take_entry.result c.take_entry.ensures.value)

pub returns-in-Ok-clause-updates : goal.returns-in-Ok-clause-updates
returns-in-Ok-clause-updates g c = cut_out c.self.inside.runs.items c.deref.result.now c.args.self.now c.deref.ensures.value c.self.view_is c.self.invariant c.args.address c.in-Ok.run' c.in-Ok.index
    c.in-Ok.ensures.found c.take_entry.new.runs.items c.take_entry.ensures.entries

pub returns-in-Err-clause-value : goal.returns-in-Err-clause-value
returns-in-Err-clause-value g c = sym (none_got c.self.inside.runs.items c.deref.result.now c.args.self.now c.deref.ensures.value c.self.view_is c.args.address c.in-Err.field-0.0 c.in-Err.field-0.1 c.in-Err.ensures.absent)

pub returns-in-Err-clause-updates : goal.returns-in-Err-clause-updates
returns-in-Err-clause-updates g c = left_out c.self.inside.runs.items c.deref.result.now c.args.self.now c.deref.ensures.value c.self.view_is c.self.invariant c.args.address c.in-Err.field-0.0 c.in-Err.field-0.1 c.in-Err.ensures.absent
