-- The keys around a child to which a way goes, where end keys of its node may give way: the first one to a low key, if what is sought is not behind
-- it, and the last one to a high key, if it is behind that.
use Rattle.std.proofs.Common.{◌≡◌, ◌≢◌, ℕ, zero, suc, ◌+◌, ◌<◌, ◌==◌, ◌&&◌, not, Bool, true, false, List, [], ◌∷◌, ◌++◌, length, take, drop, get_or, refl, sym, ap, ◌∙◌, subst, arith}
use Rattle.std.specs.Prelude.{if◌then◌else◌}
use Rattle.std.proofs.lemmas.Bool.Decides.{nat_tests}
use Rattle.std.proofs.lemmas.List.{length-take-le}
use Rattle.std.proofs.lemmas.Bool.{and_parts, not-false, not-true}
use Rattle.h5_model.specs.Format.Rows.{Node}
use Rattle.h5_model.proofs.RowLaws.{equal_number}
use Rattle.h5_btree.specs.Descent.{IsChildFor}
use Rattle.h5_btree.specs.Widened.{widened_node}
use Rattle.h5_btree.proofs.KeyedEnds.{ends_cut, get_cut, get_cut_next}

-- ---- tests

and_last : (a b : Bool) → a ≡ true → (a && b) ≡ false → b ≡ false
and_last true b on is = is
and_last false b on is = cc

is_same : (m n : ℕ) → m ≡ n → (m == n) ≡ true
is_same m n is = grind (arith, nat_tests)

other_number : (m n : ℕ) → (m == n) ≡ false → m ≢ n
other_number m n is same = let on = is_same m n same in let never : false ≡ true = sym is ∙ on in cc

-- ---- one node

module _ (behind : List ℕ → Bool) (node : Node) (i : ℕ) (may_first : Bool) (low high : List ℕ) where
  abbrev pub first_gives : Bool
  first_gives = may_first && ((i == 0) && not (behind (get_or node.keys 0 [])))

  abbrev pub last_gives : Bool
  last_gives = (i + 1 == length node.children) && behind (get_or node.keys (length node.children) [])

  abbrev kk : List ℕ
  kk = get_or node.keys i []

  abbrev jj : List ℕ
  jj = get_or node.keys (suc i) []

  -- the keys around the child then
  abbrev pub low_key : List ℕ
  low_key = if first_gives then low else kk

  abbrev pub high_key : List ℕ
  high_key = if last_gives then high else jj

  first_both : first_gives ≡ true → ((i == 0) ≡ true) × (not (behind (get_or node.keys 0 [])) ≡ true)
  first_both is =
      let some = (and_parts may_first ((i == 0) && not (behind (get_or node.keys 0 []))) is).1 in
      and_parts (i == 0) (not (behind (get_or node.keys 0 []))) some

  last_both : last_gives ≡ true → ((i + 1 == length node.children) ≡ true) × (behind (get_or node.keys (length node.children) []) ≡ true)
  last_both is = and_parts (i + 1 == length node.children) (behind (get_or node.keys (length node.children) [])) is

  -- an end key gives way at its end alone, and where what is sought is not within it
  pub first_place : first_gives ≡ true → i ≡ 0
  first_place is = equal_number i 0 (first_both is).0

  pub last_place : last_gives ≡ true → suc i ≡ length node.children
  last_place is = let both = equal_number (i + 1) (length node.children) (last_both is).0 in omega (arith, both)

  pub first_off : first_gives ≡ true → behind kk ≡ false
  first_off is =
      let off = not-true (behind (get_or node.keys 0 [])) (first_both is).1 in
      subst (λ (n : ℕ). behind (get_or node.keys n []) ≡ false) (sym (first_place is)) off

  pub last_on : last_gives ≡ true → behind jj ≡ true
  last_on is = subst (λ (n : ℕ). behind (get_or node.keys n []) ≡ true) (sym (last_place is)) (last_both is).1

  module _ (chosen : IsChildFor behind node i) (long : length node.keys ≡ length node.children + 1) where
    pub end_keys : (widened_node (record { first = first_gives; last = last_gives }) low high node).keys ≡ take i node.keys ++ low_key ∷ high_key ∷ drop (suc (suc i)) node.keys
    end_keys = ends_cut node.keys node.children i long chosen.child low high first_gives last_gives first_place last_place

    -- where it stays, what is sought is within it
    pub low_kept : may_first ≡ true → first_gives ≡ false → behind kk ≡ true
    low_kept may off = by_place i refl where
      by_place : (n : ℕ) → i ≡ n → behind kk ≡ true
      by_place zero is =
          let some = and_last may_first ((i == 0) && not (behind (get_or node.keys 0 []))) may off in
          let none = and_last (i == 0) (not (behind (get_or node.keys 0 []))) (is_same i 0 is) some in
          subst (λ (n : ℕ). behind (get_or node.keys n []) ≡ true) (sym is) (not-false (behind (get_or node.keys 0 [])) none)
      by_place (suc n) is = chosen.low (omega (arith, is))

    pub high_kept : last_gives ≡ false → behind jj ≡ false
    high_kept off = by_test (i + 1 == length node.children) refl where
      next : i + 1 ≡ suc i
      next = omega arith

      by_test : (b : Bool) → (i + 1 == length node.children) ≡ b → behind jj ≡ false
      by_test true is =
          let at = equal_number (i + 1) (length node.children) is in
          let none = and_last (i + 1 == length node.children) (behind (get_or node.keys (length node.children) [])) is off in
          subst (λ (n : ℕ). behind (get_or node.keys n []) ≡ false) (sym at ∙ next) none
      by_test false is =
          let other = other_number (i + 1) (length node.children) is in
          let inside = chosen.child in
          let before : i + 1 < length node.children = omega (arith, inside, other) in
          subst (λ (n : ℕ). behind (get_or node.keys n []) ≡ false) next (chosen.high before)

    -- they are the keys around it of the node with these keys
    module _ (new : Node) (is : new.keys ≡ take i node.keys ++ low_key ∷ high_key ∷ drop (suc (suc i)) node.keys) where
      front : length (take i node.keys) ≡ i
      front = let inside = chosen.child in length-take-le i node.keys (omega (arith, long, inside))

      pub low_stands : get_or new.keys i [] ≡ low_key
      low_stands = ap (λ (ks : List (List ℕ)). get_or ks i []) is ∙ get_cut (take i node.keys) low_key high_key (drop (suc (suc i)) node.keys) [] i (sym front)

      pub high_stands : get_or new.keys (suc i) [] ≡ high_key
      high_stands = ap (λ (ks : List (List ℕ)). get_or ks (suc i) []) is
          ∙ get_cut_next (take i node.keys) low_key high_key (drop (suc (suc i)) node.keys) [] (suc i) (omega (arith, front))
