use Rattle.std.proofs.Common.{ap, rules}
use Rattle.h5_model.specs.Format.Fixed.{fixed_from}
use Rattle.h5_c.proofs.Early.{set, unset}
use Rattle.h5_c.proofs.edit.h5i_set_attribute.Goals as goal

pub returns-in-Err-clause-edited : goal.returns-in-Err-clause-edited
returns-in-Err-clause-edited c opened =
    unset c.args.slot.now.held c.is_open.new.self.held c.status.result c.in-Err.reason c.attr_spec.result c.in-Err.is (ap (λ s. s.held) c.is_open.ensures.1) c.status.ensures
    c.args.path.now c.args.name.now c.args.dims.now c.args.values.now (fixed_from c.args.of.size c.args.of.signed c.args.of.big) c.attr_spec.ensures

pub returns-clause-edited : goal.returns-clause-edited
returns-clause-edited c opened =
    set c.args.slot.now.held _ c.edit_status-status.result c.in-Ok.attr c.attr_spec.result c.in-Ok.is
    c.args.path.now c.args.name.now c.args.dims.now c.args.values.now (fixed_from c.args.of.size c.args.of.signed c.args.of.big) c.attr_spec.ensures (search rules)
