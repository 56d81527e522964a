use Rattle.std.proofs.Common.{ap, refl, sym, ◌∙◌}
use Rattle.std.specs.Option.{option_and_then}
use Rattle.h5_model.specs.Tree.Objects.{dataset_of}
use Rattle.h5_model.specs.declared.edits.Edit.TheVariants.{Resize}
use Rattle.h5_edit.proofs.ArraysThere.{array_there}
use Rattle.h5_edit.proofs.ExtentFacts.{resize_made, resize_refused_full, resize_refused_long}
use Rattle.h5_edit.proofs.MaximaLaws.{lacks_told}
use Rattle.h5_edit.proofs.Refusals.{short_of_memory}
use Rattle.h5_edit.proofs.RuleLaws.Resizes.{can_have}
use Rattle.h5_edit.proofs.resized.resize.Goals as goal

pub resize-requires : goal.resize-requires
resize-requires c =
    let f = c.args.opened.now in
    let at = c.in_ok-number.ensures.at in
    let array = sym (ap (option_and_then (dataset_of f.tree)) at.0.object) ∙ at.2 in
    let there = array_there f c.in_ok-number.ensures.sound c.in_ok-number.number at.1 array in
    let found = ap (option_and_then (dataset_of f.tree)) at.0.object ∙ there.1.told in
    record { array = (there.0, there.1, can_have f c.args.path.now c.args.dims.now there.0 at.0.allowed found) }

pub returns-in-Ok : goal.returns-in-Ok
returns-in-Ok c =
    let f = c.args.opened.now in
    let lacks = lacks_told f c.in_ok-number.ensures.sound c.in_ok-number.number in
    let says = c.resize.ensures in
    resize_made f c.args.path.now c.args.dims.now c.in_ok-number.number c.in_ok-number.ensures.at.0 lacks.0 lacks.1 c.resize.result
    (says.header_full lacks.0 lacks.1) (says.image_full lacks.0 lacks.1) _ c.in-Ok.is c.resize.new.self _ refl refl
    ((rw c.in-Ok.is at says.changed) lacks.0 lacks.1) (rw c.in-Ok.is at says.trimmed)

pub returns-in-Err-HeaderFull : goal.returns-in-Err-HeaderFull
returns-in-Err-HeaderFull c =
    let f = c.args.opened.now in
    let lacks = lacks_told f c.in_ok-number.ensures.sound c.in_ok-number.number in
    let says = c.resize.ensures in (
      resize_refused_full f c.args.path.now c.args.dims.now c.in_ok-number.number c.in_ok-number.ensures.at.0 lacks.0 lacks.1 c.resize.result
          (says.header_full lacks.0 lacks.1) (says.image_full lacks.0 lacks.1) (rw c.in-Err-HeaderFull.field-0-is at c.in-Err-HeaderFull.is),
      rw c.in-Err-HeaderFull.is at says.refused,
    )

pub returns-in-Err-ImageFull : goal.returns-in-Err-ImageFull
returns-in-Err-ImageFull c =
    let f = c.args.opened.now in
    let lacks = lacks_told f c.in_ok-number.ensures.sound c.in_ok-number.number in
    let says = c.resize.ensures in (
      resize_refused_long f c.args.path.now c.args.dims.now c.in_ok-number.number c.in_ok-number.ensures.at.0 lacks.0 lacks.1 c.resize.result
          (says.header_full lacks.0 lacks.1) (says.image_full lacks.0 lacks.1) (rw c.in-Err-ImageFull.field-0-is at c.in-Err-ImageFull.is),
      rw c.in-Err-ImageFull.is at says.refused,
    )

pub returns-in-Err-NoMemory : goal.returns-in-Err-NoMemory
returns-in-Err-NoMemory c = (
  short_of_memory c.args.opened.now (Resize c.args.path.now c.args.dims.now) c.in_ok-number.ensures.at.0.allowed,
  rw c.in-Err-NoMemory.is at c.resize.ensures.refused,
)
