-- The message of an attribute is found by the name of the attribute, where an object has one of that name (File Format Specification 3.0,
-- section IV.A.2.m).
use Rattle.std.proofs.Common.{◌≡◌, ℕ, ◌<◌, ◌==◌, Bool, true, false, cond, List, length, get_or, Option, Some, None, sym, ap, ◌∙◌, arith}
use Rattle.std.specs.Prelude.{IsTrue, is_some, position, slice_index_or}
use Rattle.std.specs.Cmp.{eq_by_cmp_equiv}
use Rattle.std.specs.Cmp.Lexicographic.{nat_list_cmp_total}
use Rattle.std.specs.FinMap.{contains_key, get, get-remove, remove}
use Rattle.std.proofs.lemmas.Bool.Decides.{nat_tests}
use Rattle.std.proofs.lemmas.List.{get_or-map, length-map}
use Rattle.std.proofs.lemmas.List.Quantifiers.{position-Some}
use Rattle.h5_model.specs.Format.MessageTypes.{attribute_kind}
use Rattle.h5_model.specs.Format.Messages.{Message}
use Rattle.h5_model.specs.Format.Reads.{HasAttributes}
use Rattle.h5_model.specs.Tree.Objects.{Attribute, Attributes}
use Rattle.h5_header.specs.Listed.{message_in, messages_in}
use Rattle.h5_header.specs.Standing.{kept_at, none as nothing, nowhere}
use Rattle.h5_header.specs.declared.message.Message.{Message as Placed}
use Rattle.h5_attr.specs.Attributes.{is_attribute_named}
use Rattle.h5_attr.proofs.EntryLaws.{attributes-is}
use Rattle.h5_attr.proofs.RemoveLaws.{named}
use Rattle.h5_attr.proofs.SetLaws.{none_removed}

module _ (name : List ℕ) where
  -- an attribute that an object has is found
  pub named_there : (ms : List Message) (attributes : Attributes) → HasAttributes ms attributes → IsTrue (contains_key attributes name)
      → position (is_attribute_named name) ms ≡ None → ⊥
  named_there ms attributes has there lacks =
      let out : HasAttributes ms (remove attributes name) = none_removed name ms lacks attributes has in
      let same : attributes ≡ remove attributes name = attributes-is ms attributes has ∙ sym (attributes-is ms (remove attributes name) out) in
      let none : get attributes name ≡ None
      = ap (λ (m : Attributes). get m name) same
      ∙ get-remove nat_list_cmp_total attributes name name
      ∙ ap (λ (b : Bool). cond b None (get attributes name)) ((eq_by_cmp_equiv nat_list_cmp_total).refl name) in
      absurd (let never : false ≡ true = ap (λ (o : Option Attribute). is_some o) (sym none) ∙ there in cc)

  -- a message that is found is an attribute's, and has the name
  module _ (image : List ℕ) (list : List Placed) (k : ℕ) (found : position (is_attribute_named name) (messages_in image list) ≡ Some k) where
    at : (k < length (messages_in image list)) × (is_attribute_named name (get_or (messages_in image list) k nothing) ≡ true)
    at = let all = position-Some (is_attribute_named name) (messages_in image list) k nothing found in (all.0, all.1)

    pub named_known : k < length list
    named_known = omega (arith, at.0, length-map list (message_in image))

    pub named_at : is_attribute_named name (slice_index_or (messages_in image list) k nothing) ≡ true
    named_at = at.1

    pub named_kind : (kept_at list k).kind ≡ attribute_kind
    named_kind =
        let message = get_or (messages_in image list) k nothing in
        let tested : (message.kind == attribute_kind) ≡ true = (named name message at.1).0 in
        let attribute : message.kind ≡ attribute_kind = grind (arith, nat_tests, tested) in
        sym (ap (λ (m : Message). m.kind) (get_or-map (message_in image) list k nowhere nothing named_known)) ∙ attribute
