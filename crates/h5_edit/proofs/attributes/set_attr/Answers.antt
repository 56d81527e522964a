use Rattle.std.proofs.Common.{◌+◌, ◌∙◌, ap, refl, length, arith}
use Rattle.std.proofs.lemmas.Result.{err_from_is_err_and}
use Rattle.h5_model.specs.Edits.Applied.{attribute_from}
use Rattle.h5_model.specs.declared.edits.Edit.TheVariants.{SetAttr}
use Rattle.h5_edit.proofs.AttributeFacts.{attribute_set, given_ok, refused_full, refused_long}
use Rattle.h5_edit.proofs.FitLaws.NewAttributes.{accepted_attribute}
use Rattle.h5_edit.proofs.Fitting.{header_stands}
use Rattle.h5_edit.proofs.Refusals.{short_of_memory}
use Rattle.h5_edit.proofs.attributes.set_attr.Goals as goal

pub new_body-requires-clause-named : goal.new_body-requires-clause-named
new_body-requires-clause-named c = (accepted_attribute _ _ _ c.args.attr.now c.in_ok-number.ensures.at.allowed).named

pub new_body-requires-clause-text : goal.new_body-requires-clause-text
new_body-requires-clause-text c = (accepted_attribute _ _ _ c.args.attr.now c.in_ok-number.ensures.at.allowed).text

pub new_body-requires-clause-ranked : goal.new_body-requires-clause-ranked
new_body-requires-clause-ranked c = (accepted_attribute _ _ _ c.args.attr.now c.in_ok-number.ensures.at.allowed).ranked

pub new_body-requires-clause-counted : goal.new_body-requires-clause-counted
new_body-requires-clause-counted c = (accepted_attribute _ _ _ c.args.attr.now c.in_ok-number.ensures.at.allowed).counted

pub new_body-requires-clause-of_type : goal.new_body-requires-clause-of_type
new_body-requires-clause-of_type c = (accepted_attribute _ _ _ c.args.attr.now c.in_ok-number.ensures.at.allowed).of_type

pub new_body-requires-clause-room : goal.new_body-requires-clause-room
new_body-requires-clause-room c = (accepted_attribute _ _ _ c.args.attr.now c.in_ok-number.ensures.at.allowed).room

pub returns-in_err-body : goal.returns-in_err-body
returns-in_err-body c =
    let p = err_from_is_err_and c.from_residual-in_err-body.result c.from_residual-in_err-body.ensures.1 in
    rw (p.1, p.2) (short_of_memory c.args.opened.now (SetAttr c.args.path.now c.args.attr.now) c.in_ok-number.ensures.at.allowed, refl)

pub set_attribute-requires-clause-there : goal.set_attribute-requires-clause-there
set_attribute-requires-clause-there c =
    header_stands c.args.opened.now c.in_ok-number.ensures.sound c.args.path.now c.in_ok-number.number c.in_ok-number.ensures.at.object

pub set_attribute-requires-clause-attribute : goal.set_attribute-requires-clause-attribute
set_attribute-requires-clause-attribute c = (
  c.args.attr.now.name,
  attribute_from c.args.attr.now,
  rw c.deref.ensures.value c.in_ok-body.ensures.reads,
  (accepted_attribute _ _ _ c.args.attr.now c.in_ok-number.ensures.at.allowed).few,
)

pub set_attribute-requires-clause-low : goal.set_attribute-requires-clause-low
set_attribute-requires-clause-low c =
    omega (arith, ap length c.deref.ensures.value, c.in_ok-body.ensures.size, (accepted_attribute _ _ _ c.args.attr.now c.in_ok-number.ensures.at.allowed).room)

pub returns-in-Ok : goal.returns-in-Ok
returns-in-Ok c =
    let f = c.args.opened.now in
    let path = c.args.path.now in
    let attr = c.args.attr.now in
    let number = c.in_ok-number.number in
    let at = c.in_ok-number.ensures.at in
    let long = ap length c.deref.ensures.value ∙ c.in_ok-body.ensures.size in
    let says = c.set_attribute.ensures in
    let given = given_ok f path attr number at.object at.allowed (length c.deref.result.now) long c.set_attribute.result says.header_full says.image_full _ c.in-Ok.is in
    let changed = (rw c.in-Ok.is at says.changed) attr.name (attribute_from attr) (rw c.deref.ensures.value c.in_ok-body.ensures.reads) in
    attribute_set f path number c.set_attribute.new.self _ refl refl attr at given (32 + length c.deref.result.now) (omega (arith, long)) changed

pub returns-in-Err-HeaderFull : goal.returns-in-Err-HeaderFull
returns-in-Err-HeaderFull c =
    let at = c.in_ok-number.ensures.at in
    let long = ap length c.deref.ensures.value ∙ c.in_ok-body.ensures.size in
    let says = c.set_attribute.ensures in (
      refused_full c.args.opened.now c.args.path.now c.args.attr.now c.in_ok-number.number at.object at.allowed (length c.deref.result.now) long c.set_attribute.result
          says.header_full says.image_full (rw c.in-Err-HeaderFull.field-0-is at c.in-Err-HeaderFull.is),
      rw c.in-Err-HeaderFull.is at says.refused,
    )

pub returns-in-Err-ImageFull : goal.returns-in-Err-ImageFull
returns-in-Err-ImageFull c =
    let at = c.in_ok-number.ensures.at in
    let long = ap length c.deref.ensures.value ∙ c.in_ok-body.ensures.size in
    let says = c.set_attribute.ensures in (
      refused_long c.args.opened.now c.args.path.now c.args.attr.now c.in_ok-number.number at.object at.allowed (length c.deref.result.now) long c.set_attribute.result
          says.header_full says.image_full (rw c.in-Err-ImageFull.field-0-is at c.in-Err-ImageFull.is),
      rw c.in-Err-ImageFull.is at says.refused,
    )

pub returns : goal.returns
returns c = (
  short_of_memory c.args.opened.now (SetAttr c.args.path.now c.args.attr.now) c.in_ok-number.ensures.at.allowed,
  rw c.in-Err-NoMemory.is at c.set_attribute.ensures.refused,
)
