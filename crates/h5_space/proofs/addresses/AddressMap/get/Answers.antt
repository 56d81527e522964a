use Rattle.std.proofs.Common.{sym}
use Rattle.h5_space.proofs.RunLaws.{got, none_got}
use Rattle.h5_space.proofs.addresses.AddressMap.get.Goals as goal

pub returns-in-Ok : goal.returns-in-Ok
returns-in-Ok g c = sym (got c.self.inside.runs.items c.deref.result.now c.args.self.now c.deref.ensures.value c.self.view_is c.deref-in-Ok.result.now c.deref-in-Ok.ensures.value c.args.address c.in-Ok.run' c.in-Ok.index
    c.entry_at.result c.self.invariant c.in-Ok.ensures.found c.entry_at.ensures)

pub returns-in-Err : goal.returns-in-Err
returns-in-Err g c = sym (none_got c.self.inside.runs.items c.deref.result.now c.args.self.now c.deref.ensures.value c.self.view_is c.args.address c.in-Err.field-0.0 c.in-Err.field-0.1 c.in-Err.ensures.absent)
