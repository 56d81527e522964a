-- Entries of maps, and what is looked up; lists that are tied item by item.
use Rattle.std.proofs.Common.{◌≡◌, ℕ, List, [], ◌∷◌, refl, sym, ap, ap₂, ◌∙◌, subst, Option, Some, None, IsSome, cond, true, false, Bool, inl, inr}
use Rattle.std.proofs.lemmas.Option.{same_Some}
use Rattle.std.specs.Prelude.{T}
use Rattle.std.specs.Ordering.{nat_cmp, eq_by_cmp}
use Rattle.std.specs.declared.cmp.Ordering.{Ordering}
use Rattle.std.specs.Cmp.{IsTotalOrder, Equal-is}
use Rattle.std.specs.FinMap.{FinMap, IsAntisymmetric, nat_cmp-IsAntisymmetric, get, entries, find, get-entries, entries_sorted}
use Rattle.std.specs.List.{AllZip}
use Rattle.h5_model.proofs.ReachLaws.{Entry, find_entry}
use Rattle.h5_laws.proofs.Lists.{In}

pub true_of : (b : Bool) → T b → b ≡ true
true_of true h = refl
true_of false h = absurd h

pub value_of : {X : Type 0} (o : Option X) → IsSome o → (x : X) × (o ≡ Some x)
value_of None some = absurd (cc)
value_of (Some x) some = (x, refl)

pub to_entry : {K X : Type 0} (es : List (K × X)) (k : K) (v : X) → In (k, v) es → Entry es k v
to_entry [] k v at = absurd at
to_entry {K = K} {X = X} (e ∷ es) k v (inl same) = inl (ap (λ (x : K × X). x.0) same, ap (λ (x : K × X). x.1) same)
to_entry (e ∷ es) k v (inr at) = inr (to_entry es k v at)

-- the value of an entry is what its key looks up
pub get_of_entry : {K X : Type 0} {R : K → K → Ordering} → IsTotalOrder R → (m : FinMap R X) (k : K) (v : X) → In (k, v) (entries m) → get m k ≡ Some v
get_of_entry o m k v at = get-entries m k ∙ find_entry o (entries m) k v (entries_sorted m) (to_entry (entries m) k v at)

-- what is found is the value of an entry
pub found_value : {K X : Type 0} (R : K → K → Ordering) (es : List (K × X)) (q : K) (v : X) → find R q es ≡ Some v → (k : K) × In (k, v) es
found_value R [] q v h = absurd (cc)
found_value {K = K} R ((k, x) ∷ es) q v h = elim (eq_by_cmp R q k) as (λ b. cond b (Some x) (find R q es) ≡ Some v → (j : K) × In (j, v) ((k, x) ∷ es)) [
  | true ↦ λ here. (k, inl (ap (λ y. (k, y)) (same_Some x v here)))
  | false ↦ λ later. let rest = found_value R es q v later in (rest.0, inr rest.1)
] h

-- of the entry with the key, where no others tie with it
pub found_entry : {K X : Type 0} {R : K → K → Ordering} → IsAntisymmetric R → (es : List (K × X)) (q : K) (v : X) → find R q es ≡ Some v → In (q, v) es
found_entry same [] q v h = absurd (cc)
found_entry {K = K} {X = X} {R = R} same ((k, x) ∷ es) q v h = elim (eq_by_cmp R q k) as (λ b. eq_by_cmp R q k ≡ b → cond b (Some x) (find R q es) ≡ Some v → In (q, v) ((k, x) ∷ es)) [
  | true ↦ λ tied here. inl (ap₂ (λ (a : K) (b : X). (a, b)) (sym (same q k ((Equal-is (R q k)).0 tied))) (same_Some x v here))
  | false ↦ λ _ later. inr (found_entry same es q v later)
] refl h

-- and what is looked up by a number is the value of an entry
pub entry_of_get : {X : Type 0} (m : FinMap nat_cmp X) (q : ℕ) (v : X) → get m q ≡ Some v → In (q, v) (entries m)
entry_of_get m q v h = found_entry nat_cmp-IsAntisymmetric (entries m) q v (sym (get-entries m q) ∙ h)

-- an item on the right is tied to one on the left
pub tied_left : {A B : Type 0} (R : A → B → Type 0) (xs : List A) (ys : List B) (y : B) → AllZip R xs ys → In y ys → (x : A) × In x xs × R x y
tied_left R [] [] y zip at = absurd at
tied_left R [] (z ∷ ys) y zip at = absurd zip
tied_left R (x ∷ xs) [] y zip at = absurd zip
tied_left R (x ∷ xs) (z ∷ ys) y zip (inl e) = (x, inl refl, subst (R x) e zip.0)
tied_left R (x ∷ xs) (z ∷ ys) y zip (inr at) = let rest = tied_left R xs ys y zip.1 at in (rest.0, inr rest.1, rest.2)

-- and the other way round
pub tied_right : {A B : Type 0} (R : A → B → Type 0) (xs : List A) (ys : List B) (x : A) → AllZip R xs ys → In x xs → (y : B) × In y ys × R x y
tied_right R [] [] x zip at = absurd at
tied_right R [] (z ∷ ys) x zip at = absurd zip
tied_right R (z ∷ xs) [] x zip at = absurd zip
tied_right R (z ∷ xs) (y ∷ ys) x zip (inl e) = (y, inl refl, subst (λ w. R w y) e zip.0)
tied_right R (z ∷ xs) (y ∷ ys) x zip (inr at) = let rest = tied_right R xs ys x zip.1 at in (rest.0, inr rest.1, rest.2)
