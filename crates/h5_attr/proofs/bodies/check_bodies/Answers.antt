use Rattle.std.proofs.Common.{◌≡◌, Some, sym, ◌∙◌}
use Rattle.h5_attr.specs.Attributes.{first_fault}
use Rattle.h5_attr.proofs.FaultLaws.{fault_breaks, no_fault, has_attributes}
use Rattle.h5_attr.proofs.bodies.check_bodies.Goals as goal

pub returns-in-Some-clause-breach : goal.returns-in-Some-clause-breach
returns-in-Some-clause-breach c =
    let ms = c.args.header.now.messages in
    let found : first_fault ms ≡ Some c.in-Some.cause = sym c.first_fault.ensures ∙ c.in-Some.is in
    fault_breaks c.args.header.now.image c.args.header.now.address ms c.in-Some.cause found

pub returns-in-Some-clause-only : goal.returns-in-Some-clause-only
returns-in-Some-clause-only c attributes has =
    let ms = c.args.header.now.messages in
    let found : first_fault ms ≡ Some c.in-Some.cause = sym c.first_fault.ensures ∙ c.in-Some.is in
    let none = no_fault ms attributes has in
    cc

pub returns-in-None-clause-attributes : goal.returns-in-None-clause-attributes
returns-in-None-clause-attributes c once =
    let ms = c.args.header.now.messages in
    has_attributes ms (sym c.first_fault.ensures ∙ c.in-None.is) once
