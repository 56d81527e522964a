-- The number at each header when objects are exchanged.
use Rattle.std.proofs.Common.{◌≡◌, ℕ, refl, sym, ap, ◌∙◌, subst, Option, Some, None, IsSome, Bool, true, false, cond, eqb, arith}
use Rattle.std.specs.Prelude.{MatchOption}
use Rattle.std.specs.Ordering.{nat_cmp}
use Rattle.std.specs.Cmp.{unsigned_tied}
use Rattle.std.specs.BTreeMap.{BTreeMap, is_at, get as lookup}
use Rattle.std.specs.FinMap.{FinMap, get}
use Rattle.std.proofs.lemmas.Bool.Decides.{nat_tests}
use Rattle.std.proofs.lemmas.Option.{same_Some}
use Rattle.h5_open.specs.Opened.Kept.{IsIndex}
use Rattle.h5_open.specs.Renumbered.Exchanged.{IsExchanged}
use Rattle.h5_open.proofs.RenumberedLaws.Exchanges.{moved, was}

pub same_of : (h q : ℕ) → is_at (nat_cmp h) q ≡ true → h ≡ q
same_of h q is = let tested : eqb h q ≡ true = sym (unsigned_tied h q) ∙ is in grind (arith, nat_tests, tested)

pub other_of : (h q : ℕ) → is_at (nat_cmp h) q ≡ false → h ≡ q → ⊥
other_of h q is e = let tested : eqb h q ≡ false = sym (unsigned_tied h q) ∙ is in let same : eqb h q ≡ true = grind (arith, nat_tests, e) in absurd (cc)

-- what the numbers should say of a header
abbrev IsAt : FinMap nat_cmp ℕ → ℕ → Option ℕ → Type 0
IsAt table q found = MatchOption found ((n : ℕ) → get table n ≡ Some q → ⊥) (λ n. get table n ≡ Some q)

module _ (table : FinMap nat_cmp ℕ) (numbers : BTreeMap ℕ ℕ) (index : IsIndex table numbers) where
  -- a number that they have is that of the header
  pub found_at : (h k : ℕ) → lookup nat_cmp numbers h ≡ Some k → get table k ≡ Some h
  found_at h k got = subst (IsAt table h) got (index h)

  -- and they have each header
  pub is_found : (n h : ℕ) → get table n ≡ Some h → IsSome (lookup nat_cmp numbers h)
  is_found n h there = go (lookup nat_cmp numbers h) (index h) where
    go : (found : Option ℕ) → IsAt table h found → IsSome found
    go None none = absurd (none n there)
    go (Some k) is = refl

-- also when another number was written
pub is_found_still : (numbers middle : BTreeMap ℕ ℕ) (header number h : ℕ)
    → ((q : ℕ) → lookup nat_cmp middle q ≡ cond (is_at (nat_cmp header) q) (Some number) (lookup nat_cmp numbers q)) → IsSome (lookup nat_cmp numbers h) → IsSome (lookup nat_cmp middle h)
is_found_still numbers middle header number h updates some =
    subst (λ (found : Option ℕ). IsSome found) (sym (updates h)) (go (is_at (nat_cmp header) h)) where
      go : (b : Bool) → IsSome (cond b (Some number) (lookup nat_cmp numbers h))
      go true = refl
      go false = some

-- the headers at i and j are exchanged, where j has one
module _ (table table' : FinMap nat_cmp ℕ) (i j : ℕ) (e : IsExchanged (get table) (get table') i j) (header : ℕ) (at_j : get table j ≡ Some header) where
  -- what is said of another header is so still
  at_old : (q : ℕ) → (get table i ≡ Some q → ⊥) → (header ≡ q → ⊥) → (found : Option ℕ) → IsAt table q found → IsAt table' q found
  at_old q not_first not_header None none = λ n there. none (moved i j n) (sym (was (get table) (get table') i j e n) ∙ there)
  at_old q not_first not_header (Some k) is =
      e.others k (λ same. not_first (ap (get table) (sym same) ∙ is)) (λ same. not_header (same_Some header q (sym at_j ∙ ap (get table) (sym same) ∙ is))) ∙ is

  -- where i has none, the header's number is all that is written
  module _ (empty : get table i ≡ None) where
    one_each : (q : ℕ) (b : Bool) → is_at (nat_cmp header) q ≡ b → (found : Option ℕ) → IsAt table q found → IsAt table' q (cond b (Some i) found)
    one_each q true same found was_so = e.first ∙ at_j ∙ ap (λ (h : ℕ). Some h) (same_of header q same)
    one_each q false other found was_so =
        at_old q (λ there. absurd (let never : None ≡ Some q = sym empty ∙ there in cc)) (other_of header q other) found was_so

    pub index_moved : (numbers numbers' : BTreeMap ℕ ℕ) → IsIndex table numbers
        → ((q : ℕ) → lookup nat_cmp numbers' q ≡ cond (is_at (nat_cmp header) q) (Some i) (lookup nat_cmp numbers q)) → IsIndex table' numbers'
    index_moved numbers numbers' index update q =
        subst (IsAt table' q) (sym (update q)) (one_each q (is_at (nat_cmp header) q) refl (lookup nat_cmp numbers q) (index q))

  -- else the other header's number is too
  module _ (other : ℕ) (at_i : get table i ≡ Some other) where
    both_each : (q : ℕ) (a b : Bool) → is_at (nat_cmp other) q ≡ a → is_at (nat_cmp header) q ≡ b → (found : Option ℕ) → IsAt table q found
        → IsAt table' q (cond a (Some j) (cond b (Some i) found))
    both_each q true b is not found was_so = e.second ∙ at_i ∙ ap (λ (h : ℕ). Some h) (same_of other q is)
    both_each q false true is same found was_so = e.first ∙ at_j ∙ ap (λ (h : ℕ). Some h) (same_of header q same)
    both_each q false false is not found was_so =
        at_old q (λ there. other_of other q is (same_Some other q (sym at_i ∙ there))) (other_of header q not) found was_so

    pub index_exchanged : (numbers middle numbers' : BTreeMap ℕ ℕ) → IsIndex table numbers
        → ((q : ℕ) → lookup nat_cmp middle q ≡ cond (is_at (nat_cmp header) q) (Some i) (lookup nat_cmp numbers q))
        → ((q : ℕ) → lookup nat_cmp numbers' q ≡ cond (is_at (nat_cmp other) q) (Some j) (lookup nat_cmp middle q)) → IsIndex table' numbers'
    index_exchanged numbers middle numbers' index first second q =
        subst (IsAt table' q) (sym (second q ∙ ap (cond (is_at (nat_cmp other) q) (Some j)) (first q)))
        (both_each q (is_at (nat_cmp other) q) (is_at (nat_cmp header) q) refl refl (lookup nat_cmp numbers q) (index q))
