-- What a map looks up after one entry is put.
use Rattle.std.proofs.Common.{◌≡◌, ℕ, Bool, true, false, cond, List, refl, sym, ap, ◌∙◌, subst, Option, Some, None, ◌⊎◌, inl, inr}
use Rattle.std.proofs.lemmas.Bool.{cases_eq}
use Rattle.std.specs.Ordering.{nat_cmp, is_eq, eq_by_cmp}
use Rattle.std.specs.declared.cmp.Ordering.{Ordering}
use Rattle.std.specs.Cmp.{IsTotalOrder, Equal-is, tied_itself, nat_cmp_total}
use Rattle.std.specs.Cmp.Lexicographic.{slice_cmp, nat_list_cmp_total}
use Rattle.std.specs.FinMap.{FinMap, IsAntisymmetric, nat_cmp-IsAntisymmetric, slice_cmp-IsAntisymmetric, get, insert, remove, get-insert, get-remove, same_map}

module _ {K : Type 0} {R : K → K → Ordering} (o : IsTotalOrder R) (same : IsAntisymmetric R) where
  tested : (b : Bool) (q k : K) → eq_by_cmp R q k ≡ b → (q ≡ k) ⊎ (q ≡ k → ⊥)
  tested true q k h = inl (same q k ((Equal-is (R q k)).0 h))
  tested false q k h = inr (λ e. let yes : true ≡ false = sym (ap is_eq (tied_itself o k)) ∙ ap (λ x. eq_by_cmp R x k) (sym e) ∙ h in absurd (cc))

  -- a key is another, or it is not
  pub same_key_or_other : (q k : K) → (q ≡ k) ⊎ (q ≡ k → ⊥)
  same_key_or_other q k = tested (eq_by_cmp R q k) q k refl

  untied : (b : Bool) (q k : K) → eq_by_cmp R q k ≡ b → (q ≡ k → ⊥) → b ≡ false
  untied true q k h other = absurd (other (same q k ((Equal-is (R q k)).0 h)))
  untied false q k h other = refl

  module _ {X : Type 0} (m : FinMap R X) (k : K) (v : X) where
    -- the key has the new value
    pub insert_here : get (insert m k v) k ≡ Some v
    insert_here = get-insert o m k v k ∙ ap (λ r. cond (is_eq r) (Some v) (get m k)) (tied_itself o k)

    -- and each other key what it had
    pub insert_other : (q : K) → (q ≡ k → ⊥) → get (insert m k v) q ≡ get m q
    insert_other q other = get-insert o m k v q ∙ ap (λ b. cond b (Some v) (get m q)) (untied (eq_by_cmp R q k) q k refl other)

  module _ {X : Type 0} (m : FinMap R X) (k : K) where
    -- a key that is removed has no value
    pub removed_here : get (remove m k) k ≡ None
    removed_here = get-remove o m k k ∙ ap (λ r. cond (is_eq r) None (get m k)) (tied_itself o k)

    -- and each other key what it had
    pub removed_other : (q : K) → (q ≡ k → ⊥) → get (remove m k) q ≡ get m q
    removed_other q other = get-remove o m k q ∙ ap (λ b. cond b None (get m q)) (untied (eq_by_cmp R q k) q k refl other)

    -- what is removed and put again is as before
    pub put_again : (v : X) → get m k ≡ Some v → insert (remove m k) k v ≡ m
    put_again v there = same_map o same (insert (remove m k) k v) m (λ q. elim (same_key_or_other q k) [
      | inl here ↦ ap (get (insert (remove m k) k v)) here ∙ insert_here (remove m k) k v ∙ sym (ap (get m) here ∙ there)
      | inr other ↦ insert_other (remove m k) k v q other ∙ removed_other q other
    ])

-- ---- keys that are numbers, and keys that are names

pub number_here : {X : Type 0} (m : FinMap nat_cmp X) (k : ℕ) (v : X) → get (insert m k v) k ≡ Some v
number_here m k v = insert_here nat_cmp_total nat_cmp-IsAntisymmetric m k v

pub number_other : {X : Type 0} (m : FinMap nat_cmp X) (k : ℕ) (v : X) (q : ℕ) → (q ≡ k → ⊥) → get (insert m k v) q ≡ get m q
number_other m k v q other = insert_other nat_cmp_total nat_cmp-IsAntisymmetric m k v q other

abbrev pub names_differ : IsAntisymmetric (slice_cmp nat_cmp)
names_differ = slice_cmp-IsAntisymmetric nat_cmp-IsAntisymmetric

pub same_name_or_other : (q k : List ℕ) → (q ≡ k) ⊎ (q ≡ k → ⊥)
same_name_or_other q k = same_key_or_other nat_list_cmp_total names_differ q k

pub name_here : {X : Type 0} (m : FinMap (slice_cmp nat_cmp) X) (k : List ℕ) (v : X) → get (insert m k v) k ≡ Some v
name_here m k v = insert_here nat_list_cmp_total names_differ m k v

pub name_other : {X : Type 0} (m : FinMap (slice_cmp nat_cmp) X) (k : List ℕ) (v : X) (q : List ℕ) → (q ≡ k → ⊥) → get (insert m k v) q ≡ get m q
name_other m k v q other = insert_other nat_list_cmp_total names_differ m k v q other

-- what is so of the two values at this number, and of any value and itself, is so at each number
pub put_cases : {X : Type 0} (m : FinMap nat_cmp X) (number : ℕ) (old new : X) → get m number ≡ Some old → (P : Option X → Option X → Type 0) → P (Some new) (Some old)
    → ((x : Option X) → P x x) → (n : ℕ) → P (get (insert m number new) n) (get m n)
put_cases {X = X} m number old new stands P changed same n = elim (cases_eq n number) [
  | inr other ↦ subst (λ (x : Option X). P x (get m n)) (sym (number_other m number new n other)) (same (get m n))
  | inl here ↦
      let there : P (Some new) (get m number) = subst (P (Some new)) (sym stands) changed in
      let both : P (get (insert m number new) number) (get m number) = subst (λ (x : Option X). P x (get m number)) (sym (number_here m number new)) there in
      subst (λ (k : ℕ). P (get (insert m number new) k) (get m k)) (sym here) both
]

-- what a name leads to after another was removed, it led to before
pub removed_was : {X : Type 0} (m : FinMap (slice_cmp nat_cmp) X) (k q : List ℕ) (v : X) → get (remove m k) q ≡ Some v → get m q ≡ Some v
removed_was m k q v is = go (eq_by_cmp (slice_cmp nat_cmp) q k) (sym (get-remove nat_list_cmp_total m k q) ∙ is) where
  go : (b : Bool) → cond b None (get m q) ≡ Some v → get m q ≡ Some v
  go true none = absurd (let never : None ≡ Some v = none in cc)
  go false there = there
