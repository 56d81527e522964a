-- The slots of objects that lose links, and what their headers count.
use Rattle.std.proofs.Common.{◌≡◌, ℕ, ◌+◌, ◌≤◌, ◌==◌, Bool, true, false, List, length, refl, ap, subst, arith, Option, Some, None, IsSome}
use Rattle.std.specs.Prelude.{if◌then◌else◌, slice_get}
use Rattle.std.proofs.lemmas.Bool.Decides.{nat_tests}
use Rattle.std.proofs.lemmas.List.FromFn.{length-range_with_len}
use Rattle.std.specs.BTreeMap.{BTreeMap}
use Rattle.std.specs.FinMap.{get}
use Rattle.std.specs.List.{Contains, IsDistinct, range_with_len}
use Rattle.std.specs.Ordering.{nat_cmp, eq_by_cmp}
use Rattle.h5_laws.proofs.Lists.{In, contains_in, in_range}
use Rattle.h5_laws.proofs.Pigeonhole.{apart_of_distinct, no_longer}
use Rattle.h5_laws.proofs.SoundLaws.Counts.{some_named}
use Rattle.h5_model.specs.Format.Messages.{prefix_at, reference_count}
use Rattle.h5_model.specs.Tree.Objects.{Object, Tree, hard_links}
use Rattle.h5_space.specs.Space.{Space}
use Rattle.h5_open.specs.declared.opened.object.OpenedObject.{OpenedObject}
use Rattle.h5_open.specs.Opened.Kept.{IsOpened}
use Rattle.h5_open.specs.Opened.Objects.{header_of, tree_of}
use Rattle.h5_open.proofs.HeaderInPlace.{slot_in_tree}
use Rattle.h5_open.proofs.OpenedLaws.Sounds.{sound, sound_tree}
use Rattle.h5_open.proofs.RelinkedTree.{count_was}

-- an object of the tree has a slot
pub there_slot : (image : List ℕ) (slots : List (Option OpenedObject)) (n : ℕ) → IsSome (get (tree_of image slots) n) → (p : OpenedObject) × (slice_get slots n ≡ Some (Some p))
there_slot image slots n some = go (get (tree_of image slots) n) refl some where
  go : (found : Option Object) → get (tree_of image slots) n ≡ found → IsSome found → (p : OpenedObject) × (slice_get slots n ≡ Some (Some p))
  go None is some = absurd (let never : false ≡ true = some in cc)
  go (Some o) is some = slot_in_tree image slots n o is

module _ (image : Space) (slots : List (Option OpenedObject)) (numbers : BTreeMap ℕ ℕ) (opened : IsOpened image slots numbers) where
  abbrev tree : Tree
  tree = tree_of image.bytes slots

  -- what a hard link names is an object
  pub linked_there : (n : ℕ) → 1 ≤ hard_links tree n → IsSome (get tree n)
  linked_there n some = let at = some_named tree n some in (sound_tree image slots numbers opened).linked at.0 n at.1 at.2

  -- and another than the root, so that its header counts its links
  pub linked_count : (n : ℕ) → 1 ≤ hard_links tree n → (p : OpenedObject) → slice_get slots n ≡ Some (Some p)
      → reference_count (prefix_at image.bytes (header_of p)) ≡ hard_links tree n
  linked_count n some p at = go (n == 0) refl where
    go : (b : Bool) → (n == 0) ≡ b → reference_count (prefix_at image.bytes (header_of p)) ≡ hard_links tree n
    go false other =
        let was = count_was image slots numbers opened n p at in
        let none : (if n == 0 then 1 else 0) ≡ 0 = ap {B = ℕ} (λ (b : Bool). if b then 1 else 0) other in
        omega (arith, was, none)
    go true root =
        let zero : n ≡ 0 = grind (arith, nat_tests, root) in
        let once = (sound_tree image slots numbers opened).once 0 (sound_tree image slots numbers opened).rooted in
        let linked = subst (λ (k : ℕ). 1 ≤ hard_links tree k) zero some in
        absurd (omega (arith, once, linked))

  -- there are no more objects than slots
  pub no_more_slots : (lost : List ℕ) → IsDistinct (eq_by_cmp nat_cmp) lost → ((n : ℕ) → Contains lost n → IsSome (get tree n)) → length lost ≤ length slots
  no_more_slots lost once there =
      let all : List ℕ = range_with_len 0 (length slots) in
      let fit : length lost ≤ length all
      = no_longer lost all (apart_of_distinct lost once) (λ n at.
      let same : 0 + n ≡ n = omega arith in
      subst (λ (k : ℕ). In k all) same (in_range 0 (length slots) n ((sound image slots numbers opened).numbers.given n (there n (contains_in n lost at))))) in
      omega (arith, fit, length-range_with_len 0 (length slots))
