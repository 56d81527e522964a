-- The slots and the numbers when one object more is read.
use Rattle.std.proofs.Common.{◌≡◌, ◌⊎◌, inl, inr, ℕ, zero, suc, ◌<◌, ◌≤◌, List, [], ◌∷◌, ◌++◌, length, refl, sym, ◌∙◌, ap, subst, Option, Some, None, Bool, true, false, cond, eqb, get_or, arith}
use Rattle.std.specs.Prelude.{MatchOption, option_map, slice_get, ◌||◌}
use Rattle.std.specs.List.{AllByRecursion, Contains, IsDistinct, list_any}
use Rattle.std.specs.Option.{option_flatten}
use Rattle.std.specs.Ordering.{nat_cmp, eq_by_cmp}
use Rattle.std.specs.Cmp.{unsigned_tied}
use Rattle.std.specs.BTreeMap.{BTreeMap, is_at, get as lookup}
use Rattle.std.specs.FinMap.{get}
use Rattle.std.proofs.lemmas.Bool.Decides.{nat_tests}
use Rattle.std.proofs.lemmas.List.{length-map, map-append}
use Rattle.std.proofs.lemmas.Map.Steps.{length-le_from_distinct_below}
use Rattle.std.proofs.lemmas.Option.{same_Some, slice_get-map, slice_get_read}
use Rattle.h5_model.specs.Format.Limits.{most_bytes}
use Rattle.h5_bytes.proofs.BlockLaws.{all_append}
use Rattle.h5_laws.proofs.Lists.{in_contains, stands_at}
use Rattle.h5_open.specs.declared.opened.object.OpenedObject.{OpenedObject}
use Rattle.h5_open.specs.Opened.Kept.{IsIndex}
use Rattle.h5_open.specs.Opened.Objects.{IsDense, header_of, headers, objects_of, slots_of, table_of}
use Rattle.h5_open.specs.Walk.{IsNumbered}
use Rattle.h5_open.proofs.GrowLaws.{headers-append, distinct_push}
use Rattle.h5_open.proofs.OpenedLaws.Entries.{get_table, get_table_dense, slot_of}
use Rattle.h5_open.proofs.PlacedLaws.Places.{place_before, place_next}
use Rattle.h5_open.proofs.RenumberedLaws.ExchangedIndex.{found_at, same_of, other_of}

-- ---- slots of which none is empty

-- their table has the headers in their order
pub dense_table : (slots : List (Option OpenedObject)) → IsDense slots → (n : ℕ) → get (table_of slots) n ≡ slice_get (headers (objects_of slots)) n
dense_table slots dense n = ap (λ (s : List (Option OpenedObject)). get (table_of s) n) dense ∙ get_table_dense (objects_of slots) n

-- and so do the numbers say
pub dense_index : (slots : List (Option OpenedObject)) (numbers : BTreeMap ℕ ℕ) → IsNumbered slots numbers → (header : ℕ)
    → MatchOption (lookup nat_cmp numbers header) (Contains (headers (objects_of slots)) header → ⊥) (λ n. slice_get (headers (objects_of slots)) n ≡ Some header)
dense_index slots numbers is header = go (lookup nat_cmp numbers header) (is.index header) where
  go : (found : Option ℕ) → MatchOption found ((n : ℕ) → get (table_of slots) n ≡ Some header → ⊥) (λ n. get (table_of slots) n ≡ Some header)
      → MatchOption found (Contains (headers (objects_of slots)) header → ⊥) (λ n. slice_get (headers (objects_of slots)) n ≡ Some header)
  go None none = λ there.
      let k = stands_at header (headers (objects_of slots)) (in_contains header (headers (objects_of slots)) there) in
      none k.0 (dense_table slots is.all k.0 ∙ k.1)
  go (Some n) at = sym (dense_table slots is.all n) ∙ at

-- what a number of theirs has
pub slot_here : (slots : List (Option OpenedObject)) (numbers : BTreeMap ℕ ℕ) → IsIndex (table_of slots) numbers → (header number : ℕ) → lookup nat_cmp numbers header ≡ Some number
    → (o : OpenedObject) × (slice_get slots number ≡ Some (Some o)) × (header_of o ≡ header)
slot_here slots numbers index header number got = slot_of slots number header (found_at (table_of slots) numbers index header number got)

pub dense_length : (slots : List (Option OpenedObject)) → IsDense slots → length slots ≡ length (objects_of slots)
dense_length slots dense = ap length dense ∙ length-map (objects_of slots) (λ o. Some o)

-- and what a slot has is an object
dense_object : (slots : List (Option OpenedObject)) → IsDense slots → (n : ℕ) (slot : Option OpenedObject) → slice_get slots n ≡ Some slot
    → (o : OpenedObject) × (slot ≡ Some o) × (slice_get (objects_of slots) n ≡ Some o)
dense_object slots dense n slot at =
    go (slice_get (objects_of slots) n) refl
    (sym (ap (λ (s : List (Option OpenedObject)). slice_get s n) dense ∙ slice_get-map (λ (x : OpenedObject). Some x) (objects_of slots) n) ∙ at) where
      go : (found : Option OpenedObject) → slice_get (objects_of slots) n ≡ found → option_map (λ (x : OpenedObject). Some x) found ≡ Some slot
          → (o : OpenedObject) × (slot ≡ Some o) × (slice_get (objects_of slots) n ≡ Some o)
      go None none is = absurd (cc)
      go (Some o) there is = (o, sym (same_Some (Some o) slot is), there)

pub object_of_slot : (slots : List (Option OpenedObject)) → IsDense slots → (n : ℕ) (o : OpenedObject) → slice_get slots n ≡ Some (Some o) → slice_get (objects_of slots) n ≡ Some o
object_of_slot slots dense n o at =
    let here = dense_object slots dense n (Some o) at in
    here.2 ∙ sym here.1

-- the slot that is looked at has an object
pub slot_at : (slots items : List (Option OpenedObject)) → IsDense slots → items ≡ slots → (i : ℕ) (slot : Option OpenedObject) → i < length items → slot ≡ get_or items i slot
    → (o : OpenedObject) × (slot ≡ Some o) × (slice_get (objects_of slots) i ≡ Some o)
slot_at slots items dense same i slot low is =
    dense_object slots dense i slot (ap (λ (s : List (Option OpenedObject)). slice_get s i) (sym same) ∙ slice_get_read items (length items) i slot refl low is)

-- the object whose header it is
pub object_here : (slots : List (Option OpenedObject)) (numbers : BTreeMap ℕ ℕ) → IsNumbered slots numbers → (header : ℕ)
    → MatchOption (lookup nat_cmp numbers header) (Contains (headers (objects_of slots)) header → ⊥)
    (λ n. (o : OpenedObject) × (slice_get slots n ≡ Some (Some o)) × (o.messages.header ≡ header))
object_here slots numbers is header = go (lookup nat_cmp numbers header) refl (dense_index slots numbers is header) where
  go : (found : Option ℕ) → lookup nat_cmp numbers header ≡ found
      → MatchOption found (Contains (headers (objects_of slots)) header → ⊥) (λ n. slice_get (headers (objects_of slots)) n ≡ Some header)
      → MatchOption found (Contains (headers (objects_of slots)) header → ⊥) (λ n. (o : OpenedObject) × (slice_get slots n ≡ Some (Some o)) × (o.messages.header ≡ header))
  go None got none = none
  go (Some n) got at = slot_here slots numbers is.index header n got

-- ---- one object more

pub objects_push : (slots : List (Option OpenedObject)) (o : OpenedObject) → objects_of (slots ++ Some o ∷ []) ≡ objects_of slots ++ o ∷ []
objects_push [] o = refl
objects_push (None ∷ slots) o = objects_push slots o
objects_push (Some x ∷ slots) o = ap (λ (os : List OpenedObject). x ∷ os) (objects_push slots o)

pub dense_push : (slots : List (Option OpenedObject)) (o : OpenedObject) → IsDense slots → IsDense (slots ++ Some o ∷ [])
dense_push slots o dense =
    ap (λ (s : List (Option OpenedObject)). s ++ Some o ∷ []) dense ∙ sym (map-append (λ (x : OpenedObject). Some x) (objects_of slots) (o ∷ []))
    ∙ ap slots_of (sym (objects_push slots o))

-- what stands in the list stood there before, or is the last
last_or : {X : Type 0} (xs : List X) (y : X) (k : ℕ) (z : X) → slice_get (xs ++ y ∷ []) k ≡ Some z → (slice_get xs k ≡ Some z) ⊎ (y ≡ z)
last_or [] y zero z at = inr (same_Some y z at)
last_or [] y (suc k) z at = absurd (cc)
last_or (x ∷ xs) y zero z at = inl at
last_or (x ∷ xs) y (suc k) z at = last_or xs y k z at

module _ (slots : List (Option OpenedObject)) (numbers : BTreeMap ℕ ℕ) (index : IsIndex (table_of slots) numbers) (o : OpenedObject) where
  abbrev after : List (Option OpenedObject)
  after = slots ++ Some o ∷ []

  at_slot : (k : ℕ) (x : OpenedObject) (h : ℕ) → slice_get after k ≡ Some (Some x) → header_of x ≡ h → get (table_of after) k ≡ Some h
  at_slot k x h at is =
      get_table after k ∙ ap (λ (s : Option (Option OpenedObject)). option_map header_of (option_flatten s)) at ∙ ap (λ (g : ℕ). Some g) is

  was_there : (k h : ℕ) → get (table_of after) k ≡ Some h → (get (table_of slots) k ≡ Some h) ⊎ (header_of o ≡ h)
  was_there k h at =
      let slot = slot_of after k h at in
      elim (last_or slots (Some o) k (Some slot.0) slot.1) [
        | inl before ↦
            inl (get_table slots k ∙ ap (λ (s : Option (Option OpenedObject)). option_map header_of (option_flatten s)) before ∙ ap (λ (g : ℕ). Some g) slot.2)
        | inr last ↦ inr (ap header_of (same_Some o slot.0 last) ∙ slot.2)
      ]

  abbrev IsAt : ℕ → Option ℕ → Type 0
  IsAt q found = MatchOption found ((n : ℕ) → get (table_of after) n ≡ Some q → ⊥) (λ n. get (table_of after) n ≡ Some q)

  at_old : (q : ℕ) → (header_of o ≡ q → ⊥) → (found : Option ℕ)
      → MatchOption found ((n : ℕ) → get (table_of slots) n ≡ Some q → ⊥) (λ n. get (table_of slots) n ≡ Some q) → IsAt q found
  at_old q other None none = λ n there. elim (was_there n q there) [ inl before ↦ none n before | inr last ↦ other last ]
  at_old q other (Some k) is = let slot = slot_of slots k q is in at_slot k slot.0 q (place_before slots (Some o ∷ []) k (Some slot.0) slot.1) slot.2

  each : (q : ℕ) (b : Bool) → is_at (nat_cmp (header_of o)) q ≡ b → IsAt q (cond b (Some (length slots)) (lookup nat_cmp numbers q))
  each q true same = at_slot (length slots) o q (place_next slots (Some o) []) (same_of (header_of o) q same)
  each q false other = at_old q (other_of (header_of o) q other) (lookup nat_cmp numbers q) (index q)

  -- the numbers with that of its header in addition
  pub index_push : (numbers' : BTreeMap ℕ ℕ) → ((q : ℕ) → lookup nat_cmp numbers' q ≡ cond (is_at (nat_cmp (header_of o)) q) (Some (length slots)) (lookup nat_cmp numbers q))
      → IsIndex (table_of after) numbers'
  index_push numbers' updates q = subst (IsAt q) (sym (updates q)) (each q (is_at (nat_cmp (header_of o)) q) refl)

-- ---- numbers fit

first_below : (h : ℕ) (hs : List ℕ) → h < most_bytes → (q : ℕ) → (list_any (eqb q) hs ≡ true → q < most_bytes) → (b : Bool) → eqb q h ≡ b → (b || list_any (eqb q) hs) ≡ true → q < most_bytes
first_below h hs low q later true same at = let e : q ≡ h = grind (arith, nat_tests, same) in omega (arith, low, e)
first_below h hs low q later false other at = later at

below_all : (hs : List ℕ) → AllByRecursion (λ h. h < most_bytes) hs → (q : ℕ) → list_any (eqb q) hs ≡ true → q < most_bytes
below_all [] low q is = absurd (cc)
below_all (h ∷ hs) low q is = first_below h hs low.0 q (below_all hs low.1 q) (eqb q h) refl is

tested_distinct : (hs : List ℕ) → IsDistinct (eq_by_cmp nat_cmp) hs → IsDistinct eqb hs
tested_distinct hs is = subst (λ (e : ℕ → ℕ → Bool). IsDistinct e hs) (λ i x y. unsigned_tied x y i) is

pub few_objects : (slots : List (Option OpenedObject)) (numbers : BTreeMap ℕ ℕ) → IsNumbered slots numbers → length slots ≤ most_bytes
few_objects slots numbers is =
    let hs = headers (objects_of slots) in
    let few = length-le_from_distinct_below hs most_bytes (tested_distinct hs is.distinct) (below_all hs is.low) in
    omega (arith, few, length-map (objects_of slots) header_of, dense_length slots is.all)

pub numbered_push : (slots : List (Option OpenedObject)) (numbers : BTreeMap ℕ ℕ) → IsNumbered slots numbers → (o : OpenedObject) → header_of o < most_bytes
    → (Contains (headers (objects_of slots)) (header_of o) → ⊥) → (number : ℕ) → number ≡ length slots → (numbers' : BTreeMap ℕ ℕ) (key : ℕ) → key ≡ header_of o
    → ((q : ℕ) → lookup nat_cmp numbers' q ≡ cond (is_at (nat_cmp key) q) (Some number) (lookup nat_cmp numbers q)) → (slots' : List (Option OpenedObject))
    → slots' ≡ slots ++ Some o ∷ [] → IsNumbered slots' numbers'
numbered_push slots numbers is o low new number is_number numbers' key is_key updates slots' grown =
    let more = λ (P : List ℕ → Type 0) (holds : P (headers (objects_of slots ++ o ∷ []))).
    subst (λ (os : List OpenedObject). P (headers os)) (sym (objects_push slots o)) holds in
    subst (λ (s : List (Option OpenedObject)). IsNumbered s numbers') (sym grown) (record {
      all = dense_push slots o is.all;
      index = index_push slots numbers is.index o numbers' (λ q. updates q ∙ (λ i. cond (is_at (nat_cmp (is_key i)) q) (Some (is_number i)) (lookup nat_cmp numbers q)));
      distinct = more (IsDistinct (eq_by_cmp nat_cmp)) (distinct_push (objects_of slots) o is.distinct new);
      low = more (AllByRecursion (λ h. h < most_bytes)) (subst (AllByRecursion (λ h. h < most_bytes)) (sym (headers-append (objects_of slots) (o ∷ [])))
          (all_append (λ h. h < most_bytes) (headers (objects_of slots)) (header_of o ∷ []) is.low (low, tt)));
    })
