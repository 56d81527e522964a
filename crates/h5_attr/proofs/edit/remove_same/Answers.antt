use Rattle.std.proofs.Common.{◌≡◌, ◌<◌, ◌==◌, ℕ, List, true, length, position, get_or, Option, Some, None, refl, sym, ap, ◌∙◌, arith}
use Rattle.std.specs.Option.{IsSome}
use Rattle.std.proofs.lemmas.Bool.Decides.{nat_tests}
use Rattle.std.proofs.lemmas.List.{length-map, get_or-map}
use Rattle.std.proofs.lemmas.List.Quantifiers.{position-Some}
use Rattle.h5_model.specs.Format.MessageTypes.{attribute_kind}
use Rattle.h5_model.specs.Format.AttributeBody.{attribute_of}
use Rattle.h5_space.proofs.MovesLaws.{moves_none}
use Rattle.h5_header.specs.Listed.{message_in, messages_in}
use Rattle.h5_header.specs.Standing.{kept_at, none, nowhere}
use Rattle.h5_header.specs.declared.message.Message.{Message as Placed}
use Rattle.h5_attr.specs.Attributes.{is_attribute_named}
use Rattle.h5_attr.proofs.RemoveLaws.{Entry, named}
use Rattle.h5_attr.proofs.SetLaws.{none_removed}
use Rattle.h5_attr.proofs.edit.remove_same.Goals as goal

-- the message at the place that was found
record IsFound (image : List ℕ) (list : List Placed) (name : List ℕ) (k : ℕ) : Type 0 where
  low : k < length list
  kind : (kept_at list k).kind ≡ attribute_kind
  has_name : is_attribute_named name (get_or (messages_in image list) k none) ≡ true

found : (image : List ℕ) (list : List Placed) (name : List ℕ) (k : ℕ) → position (is_attribute_named name) (messages_in image list) ≡ Some k → IsFound image list name k
found image list name k is =
    let first = position-Some (is_attribute_named name) (messages_in image list) k none is in
    let low : k < length list = omega (arith, first.0, length-map list (message_in image)) in
    let tested : ((get_or (messages_in image list) k none).kind == attribute_kind) ≡ true = (named name (get_or (messages_in image list) k none) first.1).0 in
    let same : (get_or (messages_in image list) k none).kind ≡ (kept_at list k).kind
    = ap (λ m. m.kind) (get_or-map (message_in image) list k nowhere none low) in
    let attribute : (get_or (messages_in image list) k none).kind ≡ attribute_kind = grind (arith, nat_tests, tested) in
    record { low = low; kind = sym same ∙ attribute; has_name = first.1 }

some_of : (o : Option Entry) → IsSome o → (e : Entry) × (o ≡ Some e)
some_of None is = absurd (cc)
some_of (Some e) is = (e, refl)

pub returns-in_default-clause-removed : goal.returns-in_default-clause-removed
returns-in_default-clause-removed c name a says attributes has =
    none_removed name (messages_in c.args.image.now.bytes c.args.messages.now.list) (sym (rw c.new.ensures at c.find_same.ensures name a says) ∙ c.in_default.is) attributes has

pub returns-in_default-clause-moves : goal.returns-in_default-clause-moves
returns-in_default-clause-moves c = moves_none c.args.image.now c.args.messages.now.blocks

pub remove_at-requires-clause-known : goal.remove_at-requires-clause-known
remove_at-requires-clause-known c =
    let e = some_of (attribute_of c.args.body.now) c.requires.attribute in
    (found c.args.image.now.bytes c.args.messages.now.list (e.0).0 c.in-Some.k (sym (rw c.new.ensures at c.find_same.ensures (e.0).0 (e.0).1 e.1) ∙ c.in-Some.is)).low

pub remove_at-requires-clause-attribute : goal.remove_at-requires-clause-attribute
remove_at-requires-clause-attribute c =
    let e = some_of (attribute_of c.args.body.now) c.requires.attribute in
    (found c.args.image.now.bytes c.args.messages.now.list (e.0).0 c.in-Some.k (sym (rw c.new.ensures at c.find_same.ensures (e.0).0 (e.0).1 e.1) ∙ c.in-Some.is)).kind

pub returns-clause-removed : goal.returns-clause-removed
returns-clause-removed c name a says attributes has =
    let at = found c.args.image.now.bytes c.args.messages.now.list name c.in-Some.k (sym (rw c.new.ensures at c.find_same.ensures name a says) ∙ c.in-Some.is) in
    c.remove_at.ensures.removed name at.has_name attributes has
