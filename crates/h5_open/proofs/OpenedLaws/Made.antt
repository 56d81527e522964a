-- Maps that are made of entries in the order of their keys.
use Rattle.std.proofs.Common.{◌≡◌, ℕ, zero, suc, ◌+◌, ◌<◌, ◌≤◌, List, [], ◌∷◌, length, refl, sym, ap, ◌∙◌, arith, cond, true, false, Option, Some, None, Ordering, Less}
use Rattle.std.specs.Prelude.{T, slice_get, ◌==◌}
use Rattle.std.proofs.lemmas.Bool.Decides.{nat_tests}
use Rattle.std.specs.Option.{option_flatten}
use Rattle.std.specs.Ordering.{nat_cmp, is_lt}
use Rattle.std.specs.Cmp.{IsTotalOrder, nat_cmp_is, nat_cmp_total, unsigned_tied}
use Rattle.std.specs.FinMap.{find, get, entries, len, put, is_sorted, from_entries, entries-insert, get-from_entries, len-entries}
use Rattle.std.specs.FinMap.Entries.{below_all, by_order}
use Rattle.h5_model.proofs.MapSteps.{entries-empty}
use Rattle.h5_model.proofs.ReachLaws.{halves}
use Rattle.h5_model.proofs.TextOrder.{is_less}
use Rattle.h5_laws.specs.Numbered.{numbered_from}
use Rattle.h5_laws.proofs.Maps.{true_of}
use Rattle.h5_laws.proofs.Numbered.{joined, less_holds, sorted_numbered, found_numbered}
use Rattle.h5_open.specs.Opened.Objects.{numbered_objects}

-- ---- in any order

put_first : {K X : Type 0} (R : K → K → Ordering) (k : K) (v : X) (es : List (K × X)) → T (below_all R k es) → put R k v es ≡ (k, v) ∷ es
put_first R k v [] h = refl
put_first R k v (e ∷ es) h =
    let less : R k e.0 ≡ Less = is_less (R k e.0) (true_of (is_lt (R k e.0)) (halves (is_lt (R k e.0)) (below_all R k es) h).0) in
    ap (λ (r : Ordering). by_order r ((k, v) ∷ e ∷ es) ((e.0, v) ∷ es) (e ∷ put R k v es)) less

pub entries_made : {K X : Type 0} {R : K → K → Ordering} → IsTotalOrder R → (es : List (K × X)) → T (is_sorted R es) → entries (from_entries {R = R} es) ≡ es
entries_made {R = R} o [] h = entries-empty R
entries_made {R = R} o (e ∷ es) h =
    let parts : T (below_all R e.0 es) × T (is_sorted R es) = halves _ _ h in
    entries-insert o (from_entries es) e.0 e.1 ∙ ap (put R e.0 e.1) (entries_made o es parts.1) ∙ put_first R e.0 e.1 es parts.0

-- ---- what other crates cite

-- the entries of a map that numbers a list, and what it looks up
pub entries_numbered : {X : Type 0} (xs : List X) → entries (from_entries {R = nat_cmp} (numbered_from 0 xs)) ≡ numbered_from 0 xs
entries_numbered xs = entries_made nat_cmp_total (numbered_from 0 xs) (sorted_numbered 0 xs)

pub get_numbered : {X : Type 0} (xs : List X) (n : ℕ) → get (from_entries {R = nat_cmp} (numbered_from 0 xs)) n ≡ slice_get xs n
get_numbered xs n = get-from_entries nat_cmp_total (numbered_from 0 xs) n ∙ found_numbered n 0 n xs (omega arith)

length_numbered : {X : Type 0} (n : ℕ) (xs : List X) → length (numbered_from n xs) ≡ length xs
length_numbered n [] = refl
length_numbered n (x ∷ xs) = ap suc (length_numbered (n + 1) xs)

pub len_numbered : {X : Type 0} (xs : List X) → len (from_entries {R = nat_cmp} (numbered_from 0 xs)) ≡ length xs
len_numbered xs = len-entries (from_entries {R = nat_cmp} (numbered_from 0 xs)) ∙ ap length (entries_numbered xs) ∙ length_numbered 0 xs

-- ---- slots, of which some may be empty

below_standing : {X : Type 0} (m n : ℕ) (slots : List (Option X)) → m < n → T (below_all nat_cmp m (numbered_objects n slots))
below_standing m n [] low = tt
below_standing m n (None ∷ slots) low = below_standing m (n + 1) slots (omega (arith, low))
below_standing m n (Some x ∷ slots) low =
    joined _ _ (less_holds (nat_cmp m n) (sym (nat_cmp_is m n Less low))) (below_standing m (n + 1) slots (omega (arith, low)))

sorted_standing : {X : Type 0} (n : ℕ) (slots : List (Option X)) → T (is_sorted nat_cmp (numbered_objects n slots))
sorted_standing n [] = tt
sorted_standing n (None ∷ slots) = sorted_standing (n + 1) slots
sorted_standing n (Some x ∷ slots) = joined _ _ (below_standing n (n + 1) slots (omega arith)) (sorted_standing (n + 1) slots)

none_before : {X : Type 0} (m n : ℕ) (slots : List (Option X)) → m < n → find nat_cmp m (numbered_objects n slots) ≡ None
none_before m n [] low = refl
none_before m n (None ∷ slots) low = none_before m (n + 1) slots (omega (arith, low))
none_before m n (Some x ∷ slots) low =
    let other : (m == n) ≡ false = grind (arith, nat_tests, low) in
    ap (λ b. cond b (Some x) (find nat_cmp m (numbered_objects (n + 1) slots))) (unsigned_tied m n ∙ other) ∙ none_before m (n + 1) slots (omega (arith, low))

found_standing : {X : Type 0} (m n k : ℕ) (slots : List (Option X)) → n + k ≡ m → find nat_cmp m (numbered_objects n slots) ≡ option_flatten (slice_get slots k)
found_standing m n k [] is = refl
found_standing m n zero (None ∷ slots) is = none_before m (n + 1) slots (omega (arith, is))
found_standing m n zero (Some x ∷ slots) is =
    let same : (m == n) ≡ true = grind (arith, nat_tests, is) in
    ap (λ b. cond b (Some x) (find nat_cmp m (numbered_objects (n + 1) slots))) (unsigned_tied m n ∙ same)
found_standing m n (suc k) (None ∷ slots) is = found_standing m (n + 1) k slots (omega (arith, is))
found_standing m n (suc k) (Some x ∷ slots) is =
    let other : (m == n) ≡ false = grind (arith, nat_tests, is) in
    ap (λ b. cond b (Some x) (find nat_cmp m (numbered_objects (n + 1) slots))) (unsigned_tied m n ∙ other) ∙ found_standing m (n + 1) k slots (omega (arith, is))

pub entries_standing : {X : Type 0} (slots : List (Option X)) → entries (from_entries {R = nat_cmp} (numbered_objects 0 slots)) ≡ numbered_objects 0 slots
entries_standing slots = entries_made nat_cmp_total (numbered_objects 0 slots) (sorted_standing 0 slots)

pub get_standing : {X : Type 0} (slots : List (Option X)) (n : ℕ) → get (from_entries {R = nat_cmp} (numbered_objects 0 slots)) n ≡ option_flatten (slice_get slots n)
get_standing slots n = get-from_entries nat_cmp_total (numbered_objects 0 slots) n ∙ found_standing n 0 n slots (omega arith)

few_standing : {X : Type 0} (n : ℕ) (slots : List (Option X)) → length (numbered_objects n slots) ≤ length slots
few_standing n [] = omega arith
few_standing n (None ∷ slots) = omega (arith, few_standing (n + 1) slots)
few_standing n (Some x ∷ slots) = omega (arith, few_standing (n + 1) slots)

pub len_standing : {X : Type 0} (slots : List (Option X)) → len (from_entries {R = nat_cmp} (numbered_objects 0 slots)) ≤ length slots
len_standing slots =
    omega (arith, len-entries (from_entries {R = nat_cmp} (numbered_objects 0 slots)), ap length (entries_standing slots), few_standing 0 slots)
