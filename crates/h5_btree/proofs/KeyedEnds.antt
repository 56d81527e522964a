-- The keys of a node whose first and last key may give way, cut around a child.
use Rattle.std.proofs.Common.{◌≡◌, ◌⊎◌, inl, inr, ℕ, zero, suc, ◌+◌, ◌<◌, Bool, true, false, List, [], ◌∷◌, ◌++◌, length, take, drop, get_or, refl, ap, ◌∙◌, arith}
use Rattle.std.specs.Prelude.{if◌then◌else◌, slice_set}
use Rattle.std.proofs.lemmas.List.{length-take-le}
use Rattle.std.proofs.Math.Seq.{drop-cons}
use Rattle.h5_laws.specs.Ladders.{Sides, IsOrderly}
use Rattle.h5_btree.proofs.KeyedTrees.{cut_at}
use Rattle.h5_btree.proofs.KeyedEases.{GivesWay}

module _ {X : Type 0} where
  set_cut : (xs : List X) (y v : X) (ys : List X) (n : ℕ) → n ≡ length xs → slice_set (xs ++ y ∷ ys) n v ≡ xs ++ v ∷ ys
  set_cut [] y v ys zero is = refl
  set_cut [] y v ys (suc n) is = absurd (omega (arith, is))
  set_cut (x ∷ xs) y v ys zero is = absurd (omega (arith, is))
  set_cut (x ∷ xs) y v ys (suc n) is = ap (λ (zs : List X). x ∷ zs) (set_cut xs y v ys n (omega (arith, is)))

  set_cut_next : (xs : List X) (a y v : X) (ys : List X) (n : ℕ) → n ≡ suc (length xs) → slice_set (xs ++ a ∷ y ∷ ys) n v ≡ xs ++ a ∷ v ∷ ys
  set_cut_next [] a y v ys zero is = absurd (omega (arith, is))
  set_cut_next [] a y v ys (suc zero) is = refl
  set_cut_next [] a y v ys (suc (suc n)) is = absurd (omega (arith, is))
  set_cut_next (x ∷ xs) a y v ys zero is = absurd (omega (arith, is))
  set_cut_next (x ∷ xs) a y v ys (suc n) is = ap (λ (zs : List X). x ∷ zs) (set_cut_next xs a y v ys n (omega (arith, is)))

  -- the two that stand behind so many
  pub get_cut : (xs : List X) (a b : X) (ys : List X) (d : X) (n : ℕ) → n ≡ length xs → get_or (xs ++ a ∷ b ∷ ys) n d ≡ a
  get_cut [] a b ys d zero is = refl
  get_cut [] a b ys d (suc n) is = absurd (omega (arith, is))
  get_cut (x ∷ xs) a b ys d zero is = absurd (omega (arith, is))
  get_cut (x ∷ xs) a b ys d (suc n) is = get_cut xs a b ys d n (omega (arith, is))

  pub get_cut_next : (xs : List X) (a b : X) (ys : List X) (d : X) (n : ℕ) → n ≡ suc (length xs) → get_or (xs ++ a ∷ b ∷ ys) n d ≡ b
  get_cut_next [] a b ys d zero is = absurd (omega (arith, is))
  get_cut_next [] a b ys d (suc zero) is = refl
  get_cut_next [] a b ys d (suc (suc n)) is = absurd (omega (arith, is))
  get_cut_next (x ∷ xs) a b ys d zero is = absurd (omega (arith, is))
  get_cut_next (x ∷ xs) a b ys d (suc n) is = get_cut_next xs a b ys d n (omega (arith, is))

module _ (keys : List (List ℕ)) (children : List ℕ) (i : ℕ) (long : length keys ≡ length children + 1) (at : i < length children) (low high : List ℕ) where
  abbrev kk : List ℕ
  kk = get_or keys i []

  abbrev jj : List ℕ
  jj = get_or keys (suc i) []

  abbrev ka : List (List ℕ)
  ka = drop (suc (suc i)) keys

  cut : keys ≡ take i keys ++ kk ∷ jj ∷ ka
  cut = cut_at keys i [] (omega (arith, long, at)) ∙ ap (λ (more : List (List ℕ)). take i keys ++ kk ∷ more) (drop-cons keys (suc i) [] (omega (arith, long, at)))

  front : length (take i keys) ≡ i
  front = length-take-le i keys (omega (arith, long, at))

  -- the first key is the low one, and the last one the high one, where these say so: of the keys around child i, where it is the first or
  -- the last
  pub ends_cut : (first last : Bool) → (first ≡ true → i ≡ 0) → (last ≡ true → suc i ≡ length children)
      → (if last then slice_set (if first then slice_set keys 0 low else keys) (length children) high else (if first then slice_set keys 0 low else keys))
      ≡ take i keys ++ (if first then low else kk) ∷ (if last then high else jj) ∷ ka
  ends_cut first last at_first at_last = by_last last at_last (by_first first at_first) where
    by_first : (b : Bool) → (b ≡ true → i ≡ 0) → (if b then slice_set keys 0 low else keys) ≡ take i keys ++ (if b then low else kk) ∷ jj ∷ ka
    by_first true is =
        let none : 0 ≡ length (take i keys) = let z = is refl in omega (arith, front, z) in
        ap (λ (ks : List (List ℕ)). slice_set ks 0 low) cut ∙ set_cut (take i keys) kk low (jj ∷ ka) 0 none
    by_first false is = cut

    by_last : (b : Bool) → (b ≡ true → suc i ≡ length children) → (if first then slice_set keys 0 low else keys) ≡ take i keys ++ (if first then low else kk) ∷ jj ∷ ka
        → (if b then slice_set (if first then slice_set keys 0 low else keys) (length children) high else (if first then slice_set keys 0 low else keys))
        ≡ take i keys ++ (if first then low else kk) ∷ (if b then high else jj) ∷ ka
    by_last true is so =
        let next : length children ≡ suc (length (take i keys)) = let z = is refl in omega (arith, front, z) in
        ap (λ (ks : List (List ℕ)). slice_set ks (length children) high) so ∙ set_cut_next (take i keys) (if first then low else kk) jj high ka (length children) next
    by_last false is so = so

  -- and they give way where the low key may stand before the first one, and the high one behind the last
  module _ {B X : Type 0} (sides : Sides (List ℕ) X) (orderly : IsOrderly sides) (items : B → List X) (Base : B → Type 0) where
    pub ends_give : (first last : Bool) → (first ≡ true → (i ≡ 0) × sides.Rise low kk) → (last ≡ true → (suc i ≡ length children) × sides.Rise jj high)
        → GivesWay sides orderly items Base keys children i (if first then low else kk) (if last then high else jj)
    ends_give first last falls rises = (by_first first falls, by_last last rises) where
      by_first : (b : Bool) → (b ≡ true → (i ≡ 0) × sides.Rise low kk) → ((if b then low else kk) ≡ kk) ⊎ ((i ≡ 0) × sides.Rise (if b then low else kk) kk)
      by_first true is = inr (is refl)
      by_first false is = inl refl

      by_last : (b : Bool) → (b ≡ true → (suc i ≡ length children) × sides.Rise jj high)
          → ((if b then high else jj) ≡ jj) ⊎ ((suc i ≡ length children) × sides.Rise jj (if b then high else jj))
      by_last true is = inr (is refl)
      by_last false is = inl refl
