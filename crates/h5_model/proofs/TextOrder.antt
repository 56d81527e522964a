-- The order of names by their bytes, over one, two and three of them.
use Rattle.std.proofs.Common.{◌≡◌, ℕ, List, ◌⊎◌, inl, inr, refl, sym, ap, subst, false, true, Ordering, Less, Equal, Greater}
use Rattle.std.specs.Prelude.{IsTrue}
use Rattle.std.specs.Ordering.{nat_cmp, is_lt, is_le}
use Rattle.std.specs.Cmp.Lexicographic.{slice_cmp, nat_list_cmp_total}
use Rattle.std.proofs.lemmas.Cmp.{alike_right, tied_itself}
use Rattle.h5_model.specs.Format.Links.{Before, NotAfter}

abbrev order : List ℕ → List ℕ → Ordering
order a b = slice_cmp nat_cmp a b

-- an order that is less
pub is_less : (r : Ordering) → IsTrue (is_lt r) → r ≡ Less
is_less Less h = refl
is_less Equal h = cc
is_less Greater h = cc

less_or_equal : (r : Ordering) → IsTrue (is_le r) → (r ≡ Less) ⊎ (r ≡ Equal)
less_or_equal Less h = inl refl
less_or_equal Equal h = inr refl
less_or_equal Greater h = cc

-- ---- one name

pub not_after_itself : (a : List ℕ) → NotAfter a a
not_after_itself a = rw (tied_itself nat_list_cmp_total a) refl

pub before_itself : (a : List ℕ) → Before a a → ⊥
before_itself a less = let never : false ≡ true = rw (tied_itself nat_list_cmp_total a) at less in cc

-- ---- three names

pub after_trans : (a b c : List ℕ) → NotAfter a b → Before b c → Before a c
after_trans a b c h k = elim (less_or_equal (order a b) h) [
  | inl less ↦ ap is_lt (nat_list_cmp_total.trans a b c less (is_less (order b c) k))
  | inr equal ↦ subst (λ r. IsTrue (is_lt r)) (sym (nat_list_cmp_total.congr a b c equal)) k
]

pub not_after_trans : (a b c : List ℕ) → NotAfter a b → NotAfter b c → NotAfter a c
not_after_trans a b c h k = elim (less_or_equal (order a b) h) [
  | inr equal ↦ subst (λ r. IsTrue (is_le r)) (sym (nat_list_cmp_total.congr a b c equal)) k
  | inl less ↦ elim (less_or_equal (order b c) k) [
    | inl more ↦ ap is_le (nat_list_cmp_total.trans a b c less more)
    | inr equal ↦ subst (λ r. IsTrue (is_le r)) (alike_right nat_list_cmp_total b c a equal) h
  ]
]

-- ---- two names

-- what is before another is not after it
pub before_back : (a b : List ℕ) → Before a b → NotAfter b a → ⊥
before_back a b h g = before_itself b (after_trans b a b g h)

pub before_le : (a b : List ℕ) → Before a b → NotAfter a b
before_le a b h = ap is_le (is_less (order a b) h)
