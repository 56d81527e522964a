-- Slots that are cleared one after another, and their headers' numbers with them.
use Rattle.std.proofs.Common.{◌≡◌, inl, inr, ℕ, ◌+◌, ◌<◌, ◌≤◌, ◌==◌, false, cond, List, length, refl, sym, ap, ◌∙◌, arith, Option, Some, None, get_or}
use Rattle.std.proofs.lemmas.Bool.{cases_eq}
use Rattle.std.specs.Prelude.{option_map, slice_get, slice_set}
use Rattle.std.specs.Option.{option_flatten}
use Rattle.std.specs.Ordering.{eq_by_cmp, nat_cmp}
use Rattle.std.specs.Cmp.{unsigned_tied}
use Rattle.std.specs.BTreeMap.{BTreeMap, is_at, get as lookup}
use Rattle.std.specs.FinMap.{get}
use Rattle.std.specs.List.{IsDistinct}
use Rattle.std.proofs.lemmas.Bool.Decides.{nat_tests}
use Rattle.std.proofs.lemmas.List.{length-set}
use Rattle.std.proofs.lemmas.Map.Keys.{apart_from_distinct}
use Rattle.std.proofs.lemmas.Option.{get_or_from_slice_get, same_Some, slice_get_within}
use Rattle.h5_laws.proofs.Lists.{contains_in, in_at, in_contains, stands_at}
use Rattle.h5_open.specs.declared.opened.object.OpenedObject.{OpenedObject}
use Rattle.h5_open.specs.LinkTaken.{AreSlotsCleared, IsOwnTable}
use Rattle.h5_open.specs.Opened.Kept.{IsIndex}
use Rattle.h5_open.specs.Opened.Objects.{header_of, table_of}
use Rattle.h5_open.proofs.AttributeEdits.{slot_beside, slot_there}
use Rattle.h5_open.proofs.OpenedLaws.Entries.{get_table}
use Rattle.h5_open.proofs.OpenedStep.{header_at}
use Rattle.h5_open.proofs.SlotEdits.{index_cleared, own_cleared, table_same}

-- The slots of the first so many of these numbers are empty; all others stay.
pub record AreClearedTo (slots now : List (Option OpenedObject)) (numbers : BTreeMap ℕ ℕ) (gone : List ℕ) (i : ℕ) : Type 0 where
  pub cleared : (k n : ℕ) → k < i → slice_get gone k ≡ Some n → slice_get now n ≡ Some None
  pub others : (n : ℕ) → ((k : ℕ) → k < i → slice_get gone k ≡ Some n → ⊥) → slice_get now n ≡ slice_get slots n
  pub as_many : length now ≡ length slots
  pub index : IsIndex (table_of now) numbers
  pub own : IsOwnTable (table_of now)

-- no number stands at two places
places_differ : (gone : List ℕ) → IsDistinct (eq_by_cmp nat_cmp) gone → (j k n : ℕ) → j < k → slice_get gone j ≡ Some n → slice_get gone k ≡ Some n → ⊥
places_differ gone once j k n before at there =
    let low = slice_get_within gone k n there in
    let apart : (get_or gone j 0 == get_or gone k 0) ≡ false
    = sym (unsigned_tied (get_or gone j 0) (get_or gone k 0)) ∙ apart_from_distinct (eq_by_cmp nat_cmp) gone j k 0 once before low in
    let first = get_or_from_slice_get gone j n 0 at in
    let second = get_or_from_slice_get gone k n 0 there in
    grind (arith, nat_tests, apart, first, second)

module _ (slots : List (Option OpenedObject)) (gone : List ℕ) where
  -- none yet
  pub none_cleared : (numbers : BTreeMap ℕ ℕ) → IsIndex (table_of slots) numbers → IsOwnTable (table_of slots) → AreClearedTo slots slots numbers gone 0
  none_cleared numbers index own = record {
    cleared = λ k n low at. absurd (omega (arith, low));
    others = λ n out. refl;
    as_many = refl;
    index = index;
    own = own;
  }

  -- the next of them has its object yet
  pub next_there : IsDistinct (eq_by_cmp nat_cmp) gone → (now : List (Option OpenedObject)) (numbers : BTreeMap ℕ ℕ) (i n : ℕ) (o : OpenedObject) → slice_get gone i ≡ Some n
      → slice_get slots n ≡ Some (Some o) → AreClearedTo slots now numbers gone i → slice_get now n ≡ Some (Some o)
  next_there once now numbers i n o at there so_far = so_far.others n (λ k low before. places_differ gone once k i n low before at) ∙ there

  -- one more
  module _ (now next : List (Option OpenedObject)) (numbers numbers' : BTreeMap ℕ ℕ) (i n : ℕ) (o : OpenedObject) (at : slice_get gone i ≡ Some n)
      (there : slice_get now n ≡ Some (Some o)) (so_far : AreClearedTo slots now numbers gone i) (set : next ≡ slice_set now n None)
      (updates : (q : ℕ) → lookup nat_cmp numbers' q ≡ cond (is_at (nat_cmp (header_of o)) q) None (lookup nat_cmp numbers q)) where
    slot_gone : slice_get next n ≡ Some None
    slot_gone = ap (λ (ss : List (Option OpenedObject)). slice_get ss n) set ∙ slot_there now n None (slice_get_within now n (Some o) there)

    slot_stays : (m : ℕ) → (m ≡ n → ⊥) → slice_get next m ≡ slice_get now m
    slot_stays m other =
        let out : (n == m) ≡ false = grind (arith, nat_tests, other) in
        ap (λ (ss : List (Option OpenedObject)). slice_get ss m) set ∙ slot_beside now n m None out

    table_gone : get (table_of next) n ≡ None
    table_gone = get_table next n ∙ ap (λ (s : Option (Option OpenedObject)). option_map header_of (option_flatten s)) slot_gone

    table_stays : (m : ℕ) → (n ≡ m → ⊥) → get (table_of next) m ≡ get (table_of now) m
    table_stays m other = table_same now next m (ap option_flatten (slot_stays m (λ e. other (sym e))))

    header : get (table_of now) n ≡ Some (header_of o)
    header = header_at now n o there

    cleared_next : (k m : ℕ) → k < i + 1 → slice_get gone k ≡ Some m → slice_get next m ≡ Some None
    cleared_next k m low at' = elim (cases_eq m n) [
      | inl same ↦ ap (slice_get next) same ∙ slot_gone
      | inr other ↦ slot_stays m other ∙ so_far.cleared k m (before k m low at' other) at'
    ] where
      before : (k m : ℕ) → k < i + 1 → slice_get gone k ≡ Some m → (m ≡ n → ⊥) → k < i
      before k m low at' other = elim (cases_eq k i) [
        | inl same ↦ absurd (other (same_Some m n (sym at' ∙ ap (slice_get gone) same ∙ at)))
        | inr apart ↦ omega (arith, low, apart)
      ]

    others_next : (m : ℕ) → ((k : ℕ) → k < i + 1 → slice_get gone k ≡ Some m → ⊥) → slice_get next m ≡ slice_get slots m
    others_next m out =
        slot_stays m (λ same. out i (omega arith) (at ∙ ap (λ (k : ℕ). Some k) (sym same))) ∙ so_far.others m (λ k low at'. out k (omega (arith, low)) at')

    pub one_cleared : AreClearedTo slots next numbers' gone (i + 1)
    one_cleared = record {
      cleared = cleared_next;
      others = others_next;
      as_many = ap (λ (ss : List (Option OpenedObject)). length ss) set ∙ length-set now n None ∙ so_far.as_many;
      index = index_cleared (table_of now) (table_of next) numbers numbers' n (header_of o) so_far.own header table_gone table_stays updates so_far.index;
      own = own_cleared (table_of now) (table_of next) numbers numbers' n (header_of o) so_far.own header table_gone table_stays updates so_far.index;
    }

  -- and so all
  pub all_cleared : (now : List (Option OpenedObject)) (numbers : BTreeMap ℕ ℕ) (i : ℕ) → length gone ≤ i → AreClearedTo slots now numbers gone i → AreSlotsCleared slots now gone
  all_cleared now numbers i high is = record {
    cleared = λ n there.
        let k = stands_at n gone (in_contains n gone there) in
        is.cleared k.0 n (omega (arith, high, slice_get_within gone k.0 n k.1)) k.1;
    others = λ n out. is.others n (λ k low at. out (contains_in n gone (in_at gone k n at)));
    as_many = is.as_many;
  }
