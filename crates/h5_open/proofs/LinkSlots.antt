-- The slots of a group and of an array of an opened image, by its tree; and how many links a header counts.
use Rattle.std.proofs.Common.{◌≡◌, ℕ, ◌+◌, ◌≤◌, ◌==◌, true, false, Bool, List, refl, ap, subst, arith, Option, Some, None, IsSome}
use Rattle.std.specs.Prelude.{slice_get, if◌then◌else◌, is_some, option_map}
use Rattle.std.specs.Option.{option_and_then, option_flatten}
use Rattle.std.specs.BTreeMap.{BTreeMap}
use Rattle.std.specs.FinMap.{get}
use Rattle.h5_model.specs.Format.Limits.{most_hard_links}
use Rattle.h5_model.specs.Format.Messages.{prefix_at, reference_count}
use Rattle.h5_model.specs.Tree.Objects.{Object, Dataset, Links, dataset_in, dataset_of, links_in, links_of}
use Rattle.h5_space.specs.Space.{Space}
use Rattle.h5_model.specs.Format.Addresses.{SymbolTable}
use Rattle.h5_laws.specs.Trees.Sound.{IsSoundTree}
use Rattle.h5_laws.proofs.SoundLaws.Read.{sound_reading}
use Rattle.h5_open.specs.declared.opened.object.OpenedObject.{OpenedObject}
use Rattle.h5_open.specs.declared.opened.object.OpenedContent.{OpenedContent}
use Rattle.h5_open.specs.declared.opened.object.OpenedContent.TheVariants as content
use Rattle.h5_open.specs.LinkAdded.{IsArraySlot, IsGroupSlot}
use Rattle.h5_open.specs.Opened.Kept.{IsOpened}
use Rattle.h5_open.specs.Opened.Objects.{content_in, header_of, object_in, table_of, tree_of}
use Rattle.h5_open.proofs.RelinkedTree.{count_was}
use Rattle.h5_open.proofs.OpenedLaws.Entries.{get_tree}
use Rattle.h5_open.proofs.OpenedLaws.Sounds.{object_of}
use Rattle.h5_header.specs.Listed.{messages_in}

module _ (image : List ℕ) (slots : List (Option OpenedObject)) (n : ℕ) where
  abbrev told : Option (Option OpenedObject) → Option Object
  told slot = option_map (object_in image (table_of slots)) (option_flatten slot)

  group_kind : (p : OpenedObject) → slice_get slots n ≡ Some (Some p) → (c : OpenedContent) → p.content ≡ c
      → IsSome (links_in (content_in image (table_of slots) (messages_in image p.messages.list) c)) → (t : SymbolTable) × IsGroupSlot slots n t
  group_kind p at (content.Group t) kind some = (t, (p, at, kind))
  group_kind p at content.Array kind some = absurd (let never : IsSome {T = Links} None = some in cc)

  -- a group of the tree is one in its slot
  pub group_slot : IsSome (links_of (tree_of image slots) n) → (t : SymbolTable) × IsGroupSlot slots n t
  group_slot some = go (slice_get slots n) refl (subst (λ (found : Option Object). IsSome (option_and_then (λ (o : Object). links_in o.content) found)) (get_tree image slots n) some) where
    go : (slot : Option (Option OpenedObject)) → slice_get slots n ≡ slot → IsSome (option_and_then (λ (o : Object). links_in o.content) (told slot))
        → (t : SymbolTable) × IsGroupSlot slots n t
    go None here is = absurd (let never : IsSome {T = Links} None = is in cc)
    go (Some None) here is = absurd (let never : IsSome {T = Links} None = is in cc)
    go (Some (Some p)) here is = group_kind p here p.content refl is

  array_kind : (p : OpenedObject) → slice_get slots n ≡ Some (Some p) → (c : OpenedContent) → p.content ≡ c
      → IsSome (dataset_in (content_in image (table_of slots) (messages_in image p.messages.list) c)) → (o : OpenedObject) × IsArraySlot slots n o
  array_kind p at (content.Group t) kind some = absurd (let never : IsSome {T = Dataset} None = some in cc)
  array_kind p at content.Array kind some = (p, (at, kind))

  -- and so is an array
  pub array_slot : IsSome (dataset_of (tree_of image slots) n) → (o : OpenedObject) × IsArraySlot slots n o
  array_slot some = go (slice_get slots n) refl (subst (λ (found : Option Object). IsSome (option_and_then (λ (o : Object). dataset_in o.content) found)) (get_tree image slots n) some) where
    go : (slot : Option (Option OpenedObject)) → slice_get slots n ≡ slot → IsSome (option_and_then (λ (o : Object). dataset_in o.content) (told slot))
        → (o : OpenedObject) × IsArraySlot slots n o
    go None here is = absurd (let never : IsSome {T = Dataset} None = is in cc)
    go (Some None) here is = absurd (let never : IsSome {T = Dataset} None = is in cc)
    go (Some (Some p)) here is = array_kind p here p.content refl is

-- no header counts more than 65536 links
pub count_few : (old : Space) (slots : List (Option OpenedObject)) (numbers : BTreeMap ℕ ℕ) (opened : IsOpened old slots numbers) (number : ℕ) (o : OpenedObject)
    → slice_get slots number ≡ Some (Some o) → reference_count (prefix_at old.bytes (header_of o)) ≤ most_hard_links + 1
count_few old slots numbers opened number o at =
    let sound : IsSoundTree (tree_of old.bytes slots) = sound_reading old.bytes (table_of slots) (tree_of old.bytes slots) opened.reads.0 opened.reads.1 in
    let there : IsSome (get (tree_of old.bytes slots) number) = ap (λ (x : Option Object). is_some x) (object_of old slots numbers opened number o at).there in
    let few = sound.few number there in
    let was = count_was old slots numbers opened number o at in
    let one = at_most_one (number == 0) in
    omega (arith, few, was, one) where
      at_most_one : (b : Bool) → (if b then 1 else 0) ≤ 1
      at_most_one true = omega arith
      at_most_one false = omega arith
