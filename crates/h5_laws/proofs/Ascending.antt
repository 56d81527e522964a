-- Names that ascend: each is before all that stand behind it.
use Rattle.std.proofs.Common.{◌≡◌, inl, inr, ℕ, zero, suc, ◌<◌, List, [], ◌∷◌, ◌++◌, length, take, drop, ap, subst, arith}
use Rattle.std.specs.Prelude.{slice_index_or}
use Rattle.std.specs.Ordering.{nat_cmp, is_lt}
use Rattle.std.specs.Cmp.Lexicographic.{slice_cmp, nat_list_cmp_total}
use Rattle.h5_model.specs.Format.Symbols.{Target}
use Rattle.h5_model.specs.Format.Links.{Before, Ascend}
use Rattle.h5_model.proofs.TextOrder.{is_less}
use Rattle.h5_laws.proofs.Lists.{In}

pub before_trans : (a b c : List ℕ) → Before a b → Before b c → Before a c
before_trans a b c h k = ap is_lt (nat_list_cmp_total.trans a b c (is_less (slice_cmp nat_cmp a b) h) (is_less (slice_cmp nat_cmp b c) k))

-- what stands behind the first link ascends too
pub ascend_tail : (a : List ℕ × Target) (xs : List (List ℕ × Target)) → Ascend (a ∷ xs) → Ascend xs
ascend_tail a [] h = tt
ascend_tail a (x ∷ xs) h = h.1

before_later : (a y : List ℕ × Target) (xs ys : List (List ℕ × Target)) → Ascend (a ∷ (xs ++ y ∷ ys)) → Before a.0 y.0
before_later a y [] ys h = h.0
before_later a y (x ∷ xs) ys h = before_trans a.0 x.0 y.0 h.0 (before_later x y xs ys h.1)

pub ascends : (x y : List ℕ × Target) (xs ys : List (List ℕ × Target)) → Ascend (xs ++ y ∷ ys) → In x xs → Before x.0 y.0
ascends x y [] ys h at = absurd at
ascends x y (z ∷ xs) ys h (inl e) = subst (λ (w : List ℕ × Target). Before w.0 y.0) e (before_later z y xs ys h)
ascends x y (z ∷ xs) ys h (inr at) = ascends x y xs ys (ascend_tail z (xs ++ y ∷ ys) h) at

-- a list around its item i
pub around : {X : Type 0} (xs : List X) (i : ℕ) (y : X) → i < length xs → slice_index_or xs i y ≡ y → xs ≡ take i xs ++ y ∷ drop (suc i) xs
around [] i y low is = absurd (omega (arith, low))
around {X = X} (x ∷ xs) zero y low is = ap (λ (z : X). z ∷ xs) is
around {X = X} (x ∷ xs) (suc i) y low is = ap (λ (zs : List X). x ∷ zs) (around xs i y (omega (arith, low)) is)
