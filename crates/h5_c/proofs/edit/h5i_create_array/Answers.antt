use Rattle.std.proofs.Common.{ap, rules}
use Rattle.h5_model.specs.Format.Fixed.{fixed_from}
use Rattle.h5_c.specs.Given.{store_of_number}
use Rattle.h5_c.proofs.Early.{created, uncreated}
use Rattle.h5_c.proofs.edit.h5i_create_array.Goals as goal

pub returns-in-Err-clause-edited : goal.returns-in-Err-clause-edited
returns-in-Err-clause-edited c opened =
    uncreated c.args.slot.now.held c.is_open.new.self.held c.status.result c.args.path.now c.args.dims.now c.args.maxima.now c.args.fill.now
    (fixed_from c.args.of.size c.args.of.signed c.args.of.big) (store_of_number c.args.storage c.args.chunks.now) c.array_spec.result c.array_spec.ensures
    c.in-Err.reason c.in-Err.is (ap (λ s. s.held) c.is_open.ensures.1) c.status.ensures

pub returns-clause-edited : goal.returns-clause-edited
returns-clause-edited c opened =
    created c.args.slot.now.held _ c.edit_status-status.result c.args.path.now c.args.dims.now c.args.maxima.now c.args.fill.now
    (fixed_from c.args.of.size c.args.of.signed c.args.of.big) (store_of_number c.args.storage c.args.chunks.now) c.array_spec.result c.array_spec.ensures
    c.in-Ok.spec c.in-Ok.is (search rules)
