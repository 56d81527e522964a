-- An attribute that is to be removed, by what the header of its object has.
use Rattle.std.proofs.Common.{◌≡◌, ℕ, List, refl, Option, Some, None}
use Rattle.std.specs.Prelude.{option_map}
use Rattle.std.specs.FinMap.{get}
use Rattle.h5_model.specs.Format.Messages.{Message}
use Rattle.h5_model.specs.Format.Reads.{HasAttributes}
use Rattle.h5_model.specs.Tree.Objects.{Tree, Attribute, Attributes, ToObject}
use Rattle.h5_model.specs.declared.edits.Edit.TheVariants.{RemoveAttr}
use Rattle.h5_model.specs.declared.edit_fault.EditFault.TheVariants as fault
use Rattle.h5_header.specs.Listed.{messages_in}
use Rattle.h5_query.specs.Attributes.{attributes_of}
use Rattle.h5_query.specs.OpenedObjectType.{OpenedObject}
use Rattle.h5_query.specs.Opened.Objects.{object_in}
use Rattle.h5_query.specs.Opened.Sound.{IsObjectOf}
use Rattle.h5_query.specs.Opened.State.{FileState}
use Rattle.h5_query.specs.Place.{PathLeadsTo}
use Rattle.h5_edit.specs.Refusals.Allowed.{IsAt, IsRuledOut}
use Rattle.h5_edit.proofs.RuleLaws.Verdicts.{name_refused, removed_at}

module _ (f : FileState) (number : ℕ) (o : OpenedObject) (of : IsObjectOf f number o) (next : ℕ) (path name : List ℕ) (leads : PathLeadsTo f.tree path (ToObject number)) where
  abbrev T : Tree
  T = f.tree

  abbrev ms : List Message
  ms = messages_in f.image o.messages.list

  abbrev named : Attribute → List ℕ × Attribute
  named a = (name, a)

  abbrev IsEntry : Option (List ℕ × Attribute) → Type 0
  IsEntry found = (attributes : Attributes) → HasAttributes ms attributes → found ≡ option_map named (get attributes name)

  got : (found : Option (List ℕ × Attribute)) → IsEntry found → found ≡ option_map named (get (attributes_of ms) name)
  got found entry = entry (attributes_of ms) ((of.kept).header).attributes

  pub name_absent : IsEntry None → IsRuledOut T next (RemoveAttr path name) fault.NoSuchAttribute
  name_absent entry =
      name_refused T next path name number leads (object_in f.image f.table o) of.there
      (by_got (get (attributes_of ms) name) (got None entry)) where
        by_got : (a : Option Attribute) → None ≡ option_map named a → a ≡ None
        by_got None same = refl
        by_got (Some a) same = absurd (cc)

  pub name_present : (a : List ℕ × Attribute) → IsEntry (Some a) → IsAt T next path (RemoveAttr path name) number
  name_present a entry = by_got (get (attributes_of ms) name) refl (got (Some a) entry) where
    by_got : (x : Option Attribute) → get (attributes_of ms) name ≡ x → Some a ≡ option_map named x
        → IsAt T next path (RemoveAttr path name) number
    by_got None is same = absurd (cc)
    by_got (Some x) is same =
        removed_at T next path name number leads (object_in f.image f.table o) of.there x is
