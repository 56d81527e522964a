-- The numbers of an opened image's objects are below the next one, and were given out.
use Rattle.std.proofs.Common.{◌≡◌, ℕ, ◌<◌, List, length, map, refl, sym, ap, ◌∙◌, Option, Some, None, IsSome}
use Rattle.std.proofs.lemmas.List.{length-map}
use Rattle.std.proofs.lemmas.Option.{slice_get_within}
use Rattle.std.specs.Prelude.{option_map, slice_get, false, true}
use Rattle.std.specs.Option.{option_flatten}
use Rattle.std.specs.BTreeMap.{BTreeMap}
use Rattle.std.specs.FinMap.{get, len}
use Rattle.h5_model.specs.Tree.Objects.{Tree}
use Rattle.h5_model.specs.Scripts.Sessions.{IsState}
use Rattle.h5_space.specs.Space.{Space}
use Rattle.h5_open.specs.declared.opened.object.OpenedObject.{OpenedObject}
use Rattle.h5_open.specs.Opened.Kept.{IsOpened}
use Rattle.h5_open.specs.Opened.Objects.{IsDense, objects_of, slots_of, object_in, table_of, tree_of}
use Rattle.h5_open.specs.Opened.State.{state_of, opened_state}
use Rattle.h5_open.proofs.OpenedLaws.Made.{len_numbered}
use Rattle.h5_open.proofs.OpenedLaws.Entries.{get_tree, tree_dense}

-- where no slot is empty, no number was used up
pub len_dense : (image : List ℕ) (slots : List (Option OpenedObject)) → IsDense slots → length slots ≡ len (tree_of image slots)
len_dense image slots dense =
    let objects = objects_of slots in
    let told = object_in image (table_of (slots_of objects)) in
    let all : length slots ≡ length objects = ap length dense ∙ length-map objects (λ o. Some o) in
    let tree : len (tree_of image slots) ≡ length objects =
    ap (λ (s : List (Option OpenedObject)). len (tree_of image s)) dense ∙ ap (λ (t : Tree). len t) (tree_dense objects image) ∙ len_numbered (map told objects) ∙ length-map objects told in
    all ∙ sym tree

number_low : (image : List ℕ) (slots : List (Option OpenedObject)) (number : ℕ) → IsSome (get (tree_of image slots) number) → number < length slots
number_low image slots number there = go (slice_get slots number) refl (rw (get_tree image slots number) at there) where
  go : (slot : Option (Option OpenedObject)) → slice_get slots number ≡ slot → IsSome (option_map (object_in image (table_of slots)) (option_flatten slot)) → number < length slots
  go None is some = absurd (let never : false ≡ true = some in cc)
  go (Some slot) is some = slice_get_within slots number slot is

-- the numbers were given out
pub numbered : (image : Space) (slots : List (Option OpenedObject)) (numbers : BTreeMap ℕ ℕ) → IsOpened image slots numbers → IsState (state_of (opened_state image slots))
numbered image slots numbers opened = record {
  rooted = (opened.reads.1).holds.root_group;
  given = number_low image.bytes slots;
  low = opened.low;
}
