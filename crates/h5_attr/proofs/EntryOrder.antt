-- Attributes of different names in their order are the entries of the map.
use Rattle.std.proofs.Common.{◌≡◌, ℕ, zero, suc, ◌+◌, ◌<◌, List, [], ◌∷◌, length, get_or, Option, Some, None, Bool, true, false, cond, map, refl, sym, ◌∙◌, ap, subst, arith}
use Rattle.std.proofs.Math.ListN.{length-map}
use Rattle.std.proofs.lemmas.List.{get_or-map}
use Rattle.std.specs.Prelude.{T, is_some}
use Rattle.std.specs.Ordering.{nat_cmp, eq_by_cmp, is_lt}
use Rattle.std.specs.Cmp.{eq_by_cmp_equiv, IsEquivalence}
use Rattle.std.specs.Cmp.Lexicographic.{slice_cmp, nat_list_cmp_total, same_text, texts_ties}
use Rattle.std.specs.declared.cmp.Ordering.{Ordering}
use Rattle.std.specs.List.{IsDistinct, Contains}
use Rattle.std.specs.List.Sorted.{IsPermutation, IsSorted, IsSortedBy}
use Rattle.std.specs.FinMap.{get, entries, entries_sorted, get-entries, find, get-from_entries, nat_cmp-IsAntisymmetric, slice_cmp-IsAntisymmetric}
use Rattle.std.specs.FinMap.Entries.{is_some-find, same_entries}
use Rattle.std.proofs.lemmas.List.Sorted.{list_any-IsPermutation, IsPermutation-sym, IsPermutation-map, Contains-permutation}
use Rattle.std.proofs.lemmas.Map.Keys.{apart_from_distinct, IsDistinct-tail}
use Rattle.h5_model.specs.Format.Messages.{Message}
use Rattle.h5_model.specs.Tree.Objects.{Attribute, Attributes}
use Rattle.h5_model.specs.Format.Reads.{HasAttributes}
use Rattle.h5_attr.specs.Attributes.{attributes_in}
use Rattle.h5_attr.proofs.EntryLaws.{names_once, attributes-is}
use Rattle.h5_attr.proofs.OrderLaws.{strictly, sorted-alone, sorted-keys}

abbrev order : List ℕ → List ℕ → Ordering
order = slice_cmp nat_cmp

abbrev same : List ℕ → List ℕ → Bool
same = eq_by_cmp (slice_cmp nat_cmp)

abbrev names : List (List ℕ × Attribute) → List (List ℕ)
names es = map (λ (e : List ℕ × Attribute). e.0) es

alike : IsEquivalence (eq_by_cmp (slice_cmp nat_cmp))
alike = eq_by_cmp_equiv nat_list_cmp_total

-- an entry stands under its name
find-at : (es : List (List ℕ × Attribute)) (k : ℕ) (d : List ℕ × Attribute) → IsDistinct same (names es) → k < length es
    → find order (get_or es k d).0 es ≡ Some (get_or es k d).1
find-at [] k d once low = absurd (omega arith)
find-at (e ∷ es) zero d once low = ap (λ (b : Bool). cond b (Some e.1) (find order e.0 es)) (alike.refl e.0)
find-at (e ∷ es) (suc k) d once low =
    let x = get_or es k d in
    let long : length (names es) ≡ length es = length-map es (λ (a : List ℕ × Attribute). a.0) in
    let there : get_or (names es) k d.0 ≡ x.0 = get_or-map (λ (a : List ℕ × Attribute). a.0) es k d d.0 (omega arith) in
    let apart : same e.0 (get_or (names es) k d.0) ≡ false = apart_from_distinct same (names (e ∷ es)) 0 (suc k) d.0 once (omega arith) (omega arith) in
    let other : same x.0 e.0 ≡ false = alike.symm x.0 e.0 ∙ ap (same e.0) (sym there) ∙ apart in
    ap (λ (b : Bool). cond b (Some e.1) (find order x.0 es)) other ∙ find-at es k d (IsDistinct-tail same e.0 (names es) once) (omega arith)

find-contained : (es : List (List ℕ × Attribute)) (q : List ℕ) (v : Attribute) → IsDistinct same (names es) → Contains es (q, v) → find order q es ≡ Some v
find-contained es q v once there =
    sym (ap (λ (e : List ℕ × Attribute). find order e.0 es) there.2) ∙ find-at es there.0 (q, v) once there.1 ∙ ap (λ (e : List ℕ × Attribute). Some e.1) there.2

-- what stands under a name is an entry
contained : (es : List (List ℕ × Attribute)) (q : List ℕ) (v : Attribute) → find order q es ≡ Some v → Contains es (q, v)
contained [] q v found = cc
contained (e ∷ es) q v found =
    elim (same q e.0) as (λ (b : Bool). same q e.0 ≡ b → cond b (Some e.1) (find order q es) ≡ Some v → Contains (e ∷ es) (q, v)) [
      | true ↦ λ tied here.
          let value : e.1 ≡ v = cc in
          let name : q ≡ e.0 = same_text q e.0 (sym (texts_ties q e.0 ∙ tied)) in
          (0, omega arith, (λ i. (sym name i, value i)))
      | false ↦ λ other later. let there = contained es q v later in (suc there.0, omega (arith, there.1), there.2)
    ] refl found

is_none : (o : Option Attribute) → is_some o ≡ false → o ≡ None
is_none None e = refl
is_none (Some x) e = cc

-- entries that are moved stand under the same names
moved-find : (es fs : List (List ℕ × Attribute)) (q : List ℕ) → IsPermutation es fs → IsDistinct same (names es) → find order q fs ≡ find order q es
moved-find es fs q moved once =
    elim (find order q fs) as (λ o. find order q fs ≡ o → o ≡ find order q es) [
      | Some v ↦ λ found. sym (find-contained es q v once (Contains-permutation fs es (q, v) (IsPermutation-sym es fs moved) (contained fs q v found)))
      | None ↦ λ missed. sym (is_none (find order q es) (is_some-find order q es
          ∙ list_any-IsPermutation (same q) (names es) (names fs) (IsPermutation-map (λ (e : List ℕ × Attribute). e.0) es fs moved)
          ∙ sym (is_some-find order q fs) ∙ ap is_some missed))
    ] refl

sorted-names : (es : List (List ℕ × Attribute)) → IsSortedBy (λ (x y : List ℕ × Attribute). is_lt (slice_cmp nat_cmp x.0 y.0)) es → IsSorted (slice_cmp nat_cmp) (names es)
sorted-names [] up k d from low = absurd (omega arith)
sorted-names (e ∷ es) up k d from low =
    let all = e ∷ es in
    let long : length (names all) ≡ length all = length-map all (λ (a : List ℕ × Attribute). a.0) in
    let first : get_or (names all) k d ≡ (get_or all k e).0 = get_or-map (λ (a : List ℕ × Attribute). a.0) all k e d (omega arith) in
    let second : get_or (names all) (k + 1) d ≡ (get_or all (k + 1) e).0 = get_or-map (λ (a : List ℕ × Attribute). a.0) all (k + 1) e d (omega arith) in
    let here = up k e from (omega arith) in
    ap (λ (y : List ℕ). is_lt (slice_cmp nat_cmp y (get_or (names all) k d))) second ∙ ap (λ (x : List ℕ). is_lt (slice_cmp nat_cmp (get_or all (k + 1) e).0 x)) first ∙ here

-- the attributes of a header in the order of their names
pub entries-are : (ms : List Message) (attributes : Attributes) (es : List (List ℕ × Attribute)) → HasAttributes ms attributes
    → IsPermutation (attributes_in ms) es → IsSortedBy (λ (x y : List ℕ × Attribute). is_lt (slice_cmp nat_cmp x.0 y.0)) es → es ≡ entries attributes
entries-are ms attributes es has moved up =
    let once = names_once ms attributes has in
    let listed = attributes_in ms in
    let names_moved = IsPermutation-map (λ (e : List ℕ × Attribute). e.0) listed es moved in
    let up_strictly = strictly ms (names es) names_moved (sorted-names es up) once in
    let found = λ (q : List ℕ). moved-find listed es q moved once
    ∙ sym (get-from_entries nat_list_cmp_total listed q) ∙ sym (ap (λ (m : Attributes). get m q) (attributes-is ms attributes has)) ∙ get-entries attributes q in
    same_entries order nat_list_cmp_total (slice_cmp-IsAntisymmetric nat_cmp-IsAntisymmetric) es (entries attributes)
    (subst T (sorted-keys es) (sorted-alone (names es) up_strictly)) (entries_sorted attributes) found
