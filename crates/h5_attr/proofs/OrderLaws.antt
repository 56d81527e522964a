-- Names in order: where neighbours differ all do, and then they are the keys of the map.
use Rattle.std.proofs.Common.{◌≡◌, ℕ, ◌+◌, ◌<◌, List, [], ◌∷◌, length, get_or, Option, Some, None, Bool, true, false, map, refl, sym, ◌∙◌, ap, subst, arith, Bor}
use Rattle.std.proofs.Math.ListN.{length-map}
use Rattle.std.proofs.lemmas.List.{get_or-map}
use Rattle.std.specs.Prelude.{T, is_some, ◌&&◌}
use Rattle.std.specs.Ordering.{nat_cmp, eq_by_cmp, is_eq, is_lt, is_some_and, ordering_reverse}
use Rattle.std.specs.Cmp.{eq_by_cmp_equiv}
use Rattle.std.specs.Cmp.Lexicographic.{slice_cmp, slice_partial_cmp, lists_agrees, nat_list_cmp_total}
use Rattle.std.specs.declared.cmp.Ordering.{Ordering}
use Rattle.std.specs.declared.cmp.Ordering.TheVariants.{Less, Equal, Greater}
use Rattle.std.specs.List.{IsDistinct, IsAllAdjacentAnswer, list_any, AllByRecursion}
use Rattle.std.specs.Bool.{MatchBool}
use Rattle.std.specs.List.Sorted.{IsPermutation, IsSorted, IsStrictlySortedBy}
use Rattle.std.specs.FinMap.{get, entries, entries_sorted, keys, find, is_sorted, get-from_entries, contains_key-keys, nat_cmp-IsAntisymmetric, slice_cmp-IsAntisymmetric}
use Rattle.std.specs.FinMap.Entries.{below_all, is_some-find, same_entries}
use Rattle.std.proofs.lemmas.List.Sorted.{list_any-IsPermutation, IsPermutation-sym}
use Rattle.std.proofs.lemmas.Map.Keys.{sorted_head, sorted_tail, sorted_from_all_adjacent, apart_from_distinct, IsDistinct-from_sorted, IsDistinct-IsPermutation}
use Rattle.h5_model.specs.Format.Messages.{Message}
use Rattle.h5_model.specs.Tree.Objects.{Attribute, Attributes}
use Rattle.h5_model.specs.Format.Reads.{HasAttributes}
use Rattle.h5_model.specs.Faults.HeaderFaults.{HasNameTwice}
use Rattle.h5_model.proofs.TextOrder.{is_less}
use Rattle.h5_attr.specs.Attributes.{attributes_in, attribute_names_in, HasNamesOnce}
use Rattle.h5_attr.proofs.EntryLaws.{names_once, attributes-is}

abbrev order : List ℕ → List ℕ → Ordering
order = slice_cmp nat_cmp

abbrev same : List ℕ → List ℕ → Bool
same = eq_by_cmp (slice_cmp nat_cmp)

rises_by : (r : Ordering) → is_lt (ordering_reverse r) ≡ false → is_eq r ≡ false → r ≡ Less
rises_by Less up apart = refl
rises_by Equal up apart = cc
rises_by Greater up apart = cc

-- a name that is not above the next, and another, is below it
pub rises : (x y : List ℕ) → is_lt (slice_cmp nat_cmp y x) ≡ false → eq_by_cmp (slice_cmp nat_cmp) x y ≡ false → slice_cmp nat_cmp x y ≡ Less
rises x y up apart = rises_by (order x y) (ap is_lt (sym (nat_list_cmp_total.antisymm y x)) ∙ up) apart

abbrev texts : List (Bor (List ℕ)) → List (List ℕ)
texts names = map (λ (name : Bor (List ℕ)). name.now) names

no_text : Bor (List ℕ)
no_text = record { ref_ptr = (0, 0); now = [] }

text_at : (names : List (Bor (List ℕ))) (k : ℕ) (n : Bor (List ℕ)) (d : List ℕ) → k < length names → get_or (texts names) k d ≡ (get_or names k n).now
text_at names k n d low = get_or-map (λ (name : Bor (List ℕ)). name.now) names k n d low

-- references in the order of what they point to
pub sorted-texts : (names : List (Bor (List ℕ))) → IsSorted (λ (x y : Bor (List ℕ)). slice_cmp nat_cmp x.now y.now) names → IsSorted (slice_cmp nat_cmp) (texts names)
sorted-texts [] up k d from low = absurd (omega arith)
sorted-texts (n ∷ names) up k d from low =
    let all = n ∷ names in
    let long : length (texts all) ≡ length all = length-map all (λ (name : Bor (List ℕ)). name.now) in
    let first = text_at all k n d (omega arith) in
    let second = text_at all (k + 1) n d (omega arith) in
    let here = up k n from (omega arith) in
    ap (λ (y : List ℕ). is_lt (slice_cmp nat_cmp y (get_or (texts all) k d))) second ∙ ap (λ (x : List ℕ). is_lt (slice_cmp nat_cmp (get_or all (k + 1) n).now x)) first ∙ here

-- what `<` of two texts computes
pub partial-less : (xs ys : List ℕ) → is_some_and is_lt (slice_partial_cmp (λ x y. Some (nat_cmp x y)) xs ys) ≡ is_lt (slice_cmp nat_cmp xs ys)
partial-less xs ys = ap (is_some_and is_lt) (lists_agrees (λ x y. refl) xs ys)

-- of names in order, whether each is below the next says whether they differ
pub told_distinct : (names : List (Bor (List ℕ))) (r : Bool) → IsSorted (slice_cmp nat_cmp) (texts names)
    → IsAllAdjacentAnswer (λ (x y : Bor (List ℕ)) b. b ≡ is_lt (slice_cmp nat_cmp x.now y.now)) names r
    → MatchBool r (IsDistinct (eq_by_cmp (slice_cmp nat_cmp)) (texts names)) (IsDistinct (eq_by_cmp (slice_cmp nat_cmp)) (texts names) → ⊥)
told_distinct names true up told =
    let long : length (texts names) ≡ length names = length-map names (λ (name : Bor (List ℕ)). name.now) in
    let below = λ (k : ℕ) (low : k + 1 < length (texts names)).
    let n = get_or names k no_text in
    let m = get_or names (k + 1) no_text in
    let first = text_at names k no_text [] (omega arith) in
    let second = text_at names (k + 1) no_text [] (omega arith) in
    ap (λ (x : List ℕ). order x (get_or (texts names) (k + 1) [])) first ∙ ap (λ (y : List ℕ). order n.now y) second ∙ is_less (order n.now m.now) (sym (told k no_text (omega arith))) in
    IsDistinct-from_sorted order (texts names) (sorted_from_all_adjacent nat_list_cmp_total (texts names) [] below)
told_distinct names false up told = λ once.
    let long : length (texts names) ≡ length names = length-map names (λ (name : Bor (List ℕ)). name.now) in
    let k = told.0 in
    let low : k + 1 < length (texts names) = omega (arith, told.1) in
    let first = text_at names k no_text [] (omega arith) in
    let second = text_at names (k + 1) no_text [] (omega arith) in
    let less : order (get_or (texts names) k []) (get_or (texts names) (k + 1) []) ≡ Less
    = rises (get_or (texts names) k []) (get_or (texts names) (k + 1) []) (up k [] (omega arith) low) (apart_from_distinct same (texts names) k (k + 1) [] once (omega arith) low) in
    let not_less : is_lt (order (get_or (texts names) k []) (get_or (texts names) (k + 1) [])) ≡ false
    = ap (λ (x : List ℕ). is_lt (order x (get_or (texts names) (k + 1) []))) first ∙ ap (λ (y : List ℕ). is_lt (order (get_or names k no_text).now y)) second ∙ sym (told.2 no_text) in
    let both : is_lt Less ≡ false = sym (ap is_lt less) ∙ not_less in
    cc

-- ---- lists of keys alone, as entries

abbrev alone : List (List ℕ) → List (List ℕ × Unit {0})
alone names = map (λ (n : List ℕ). (n, tt)) names

unit_same : (o p : Option (Unit {0})) → is_some o ≡ is_some p → o ≡ p
unit_same None None e = refl
unit_same None (Some x) e = cc
unit_same (Some x) None e = cc
unit_same (Some x) (Some y) e = refl

map-alone : (names : List (List ℕ)) → map (λ (e : List ℕ × Unit {0}). e.0) (alone names) ≡ names
map-alone [] = refl
map-alone (n ∷ names) = ap (λ (ns : List (List ℕ)). n ∷ ns) (map-alone names)

find-alone : (q : List ℕ) (names : List (List ℕ)) → is_some (find order q (alone names)) ≡ list_any (same q) names
find-alone q names = is_some-find order q (alone names) ∙ ap (list_any (same q)) (map-alone names)

both : (a b : Bool) → T a → T b → T (a && b)
both true b p q = q
both false b p q = absurd p

below-alone : (x : List ℕ) (names : List (List ℕ)) → AllByRecursion (λ y. order x y ≡ Less) names → T (below_all order x (alone names))
below-alone x [] h = tt
below-alone x (n ∷ names) h = both _ _ (subst (λ (r : Ordering). T (is_lt r)) (sym h.0) tt) (below-alone x names h.1)

pub sorted-alone : (names : List (List ℕ)) → IsStrictlySortedBy order names → T (is_sorted order (alone names))
sorted-alone [] h = tt
sorted-alone (n ∷ names) h = both _ _ (below-alone n names (sorted_head order n names h)) (sorted-alone names (sorted_tail order n names h))

below-keys : (x : List ℕ) (es : List (List ℕ × Attribute)) → below_all order x (alone (map (λ (e : List ℕ × Attribute). e.0) es)) ≡ below_all order x es
below-keys x [] = refl
below-keys x (e ∷ es) = ap (λ (b : Bool). is_lt (order x e.0) && b) (below-keys x es)

pub sorted-keys : (es : List (List ℕ × Attribute)) → is_sorted order (alone (map (λ (e : List ℕ × Attribute). e.0) es)) ≡ is_sorted order es
sorted-keys [] = refl
sorted-keys (e ∷ es) = ap (λ (b : Bool). b && is_sorted order (alone (map (λ (e : List ℕ × Attribute). e.0) es))) (below-keys e.0 es) ∙ ap (λ (b : Bool). below_all order e.0 es && b) (sorted-keys es)

-- ---- the keys of the attributes

-- which names the map has
has_name : (ms : List Message) (attributes : Attributes) → HasAttributes ms attributes → (q : List ℕ) → list_any (same q) (keys attributes) ≡ list_any (same q) (attribute_names_in ms)
has_name ms attributes has q =
    sym (contains_key-keys attributes q)
    ∙ ap is_some (ap (λ (m : Attributes). get m q) (attributes-is ms attributes has) ∙ get-from_entries nat_list_cmp_total (attributes_in ms) q)
    ∙ is_some-find order q (attributes_in ms)

pub strictly : (ms : List Message) (names : List (List ℕ)) → IsPermutation (attribute_names_in ms) names → IsSorted (slice_cmp nat_cmp) names → IsDistinct (eq_by_cmp (slice_cmp nat_cmp)) (attribute_names_in ms)
    → IsStrictlySortedBy order names
strictly ms names moved up once =
    let apart = IsDistinct-IsPermutation same (eq_by_cmp_equiv nat_list_cmp_total).symm (attribute_names_in ms) names moved once in
    sorted_from_all_adjacent nat_list_cmp_total names [] (λ k low. rises (get_or names k []) (get_or names (k + 1) []) (up k [] (omega arith) low)
    (apart_from_distinct same names k (k + 1) [] apart (omega arith) low))

-- names that are moved differ where they did
pub once_by : (ms : List Message) (names : List (List ℕ)) → IsPermutation (attribute_names_in ms) names → IsDistinct (eq_by_cmp (slice_cmp nat_cmp)) names → HasNamesOnce ms
once_by ms names moved once =
    IsDistinct-IsPermutation same (eq_by_cmp_equiv nat_list_cmp_total).symm names (attribute_names_in ms) (IsPermutation-sym (attribute_names_in ms) names moved) once

pub twice_by : (ms : List Message) (names : List (List ℕ)) → IsPermutation (attribute_names_in ms) names → (IsDistinct (eq_by_cmp (slice_cmp nat_cmp)) names → ⊥) → HasNameTwice ms
twice_by ms names moved twice once = twice (IsDistinct-IsPermutation same (eq_by_cmp_equiv nat_list_cmp_total).symm (attribute_names_in ms) names moved once)

-- the names of the attributes in order are the keys of the map
pub keys-are : (ms : List Message) (attributes : Attributes) (names : List (List ℕ)) → HasAttributes ms attributes
    → IsPermutation (attribute_names_in ms) names → IsSorted (slice_cmp nat_cmp) names → names ≡ keys attributes
keys-are ms attributes names has moved up =
    let up_strictly = strictly ms names moved up (names_once ms attributes has) in
    let alike = λ (q : List ℕ). unit_same (find order q (alone names)) (find order q (alone (keys attributes)))
    (find-alone q names ∙ sym (list_any-IsPermutation (same q) (attribute_names_in ms) names moved) ∙ sym (has_name ms attributes has q) ∙ sym (find-alone q (keys attributes))) in
    let one : alone names ≡ alone (keys attributes) = same_entries order nat_list_cmp_total (slice_cmp-IsAntisymmetric nat_cmp-IsAntisymmetric) (alone names) (alone (keys attributes))
    (sorted-alone names up_strictly) (subst T (sym (sorted-keys (entries attributes))) (entries_sorted attributes)) alike in
    sym (map-alone names) ∙ ap (map (λ (e : List ℕ × Unit {0}). e.0)) one ∙ map-alone (keys attributes)
