use Rattle.std.proofs.Common.{◌≡◌, ◌∷◌, ◌++◌, IsTrue, List, length, get_or, refl, sym, ap, ◌∙◌, subst, arith}
use Rattle.std.specs.List.{list_any}
use Rattle.std.proofs.lemmas.List.{length-append, length-map, get_or-map}
use Rattle.h5_model.specs.Format.MessageTypes.{nil_kind, attribute_kind}
use Rattle.h5_model.specs.Format.Messages.{Message}
use Rattle.h5_header.specs.Added.{is_movable}
use Rattle.h5_header.specs.Listed.{message_in, messages_in}
use Rattle.h5_header.specs.Standing.{none, nowhere}
use Rattle.h5_header.proofs.CutLaws.{IsCut, cut_by_place}
use Rattle.h5_attr.specs.Still.{IsSaidStill}
use Rattle.h5_attr.proofs.RemoveLaws.{has_others}
use Rattle.h5_attr.proofs.StillLaws.{blank_movable, blank_still}
use Rattle.h5_attr.proofs.edit.remove_at.Goals as goal
use Rattle.h5_attr.proofs.edit.remove_at.Goals.{After-blank}

pub blank-requires-clause-own : goal.blank-requires-clause-own
blank-requires-clause-own c same = absurd (omega (arith, c.requires.attribute, same))

abbrev ms : (c : After-blank) → List Message
ms c = messages_in c.args.image.now.bytes c.args.messages.now.list

abbrev x : (c : After-blank) → Message
x c = get_or (ms c) c.args.k none

abbrev nil : (c : After-blank) → Message
nil c = record (x c) { kind = nil_kind }

cut : (c : After-blank) → IsCut (ms c) c.args.k (x c)
cut c = cut_by_place (ms c) c.args.k none (omega (arith, length-map c.args.messages.now.list (message_in c.args.image.now.bytes), c.requires.known))

was : (c : After-blank) → (x c).kind ≡ attribute_kind
was c = ap (λ (m : Message). m.kind) (get_or-map (message_in c.args.image.now.bytes) c.args.messages.now.list c.args.k nowhere none c.requires.known) ∙ c.requires.attribute

after : (c : After-blank) → messages_in c.blank.new.image.bytes c.blank.new.self.list ≡ (cut c).front ++ nil c ∷ (cut c).back
after c = c.blank.ensures.messages ∙ (cut c).put (nil c)

pub returns-clause-removed : goal.returns-clause-removed
returns-clause-removed c name holds attributes has =
    let w = (goal.at.returns-clause-removed c).After-blank in
    rw (after w) (has_others (cut w).front (x w) (nil w) (cut w).back name holds refl attributes (rw (cut w).whole at has))

pub returns-clause-others : goal.returns-clause-others
returns-clause-others c =
    let w = (goal.at.returns-clause-others c).After-blank in
    rw (after w) (subst (λ (ys : List Message). IsSaidStill ys ((cut w).front ++ nil w ∷ (cut w).back)) (sym (cut w).whole)
    (blank_still (x w) (nil w) (was w) refl (cut w).front (cut w).back))

pub returns-clause-movable : goal.returns-clause-movable
returns-clause-movable c movable =
    let w = (goal.at.returns-clause-movable c).After-blank in
    subst IsTrue (ap (list_any is_movable) (cut w).whole ∙ sym (blank_movable (x w) (nil w) (was w) refl (cut w).front (cut w).back) ∙ sym (ap (list_any is_movable) (after w))) movable

pub returns-clause-total : goal.returns-clause-total
returns-clause-total c =
    let w = (goal.at.returns-clause-total c).After-blank in
    omega (
      arith,
      length-map w.args.messages.now.list (message_in w.args.image.now.bytes),
      length-map w.blank.new.self.list (message_in w.blank.new.image.bytes),
      ap length (cut w).whole,
      ap length (after w),
      length-append (cut w).front (x w ∷ (cut w).back),
      length-append (cut w).front (nil w ∷ (cut w).back),
    )
