-- How many blocks of a list hold a byte, place by place.
use Rattle.std.proofs.Common.{◌≡◌, ◌≢◌, ℕ, suc, ◌+◌, ◌-◌, ◌<◌, ◌≤◌, ◌⊎◌, List, [], ◌∷◌, length, get_or, set, refl, sym, ap, ◌∙◌, arith, inl, inr}
use Rattle.std.specs.List.{sum_by, insert, remove}
use Rattle.std.proofs.lemmas.Bool.{cases_lt}
use Rattle.std.proofs.lemmas.List.Sums.{sum_by-cons, sum_by-set, sum_by-insert, sum_by-remove, get_or-le-sum_by}
use Rattle.std.proofs.lemmas.List.Edits.{length-remove, get_or-remove_below, get_or-remove_above}
use Rattle.h5_bytes.specs.Blocks.{holds, cover, Separate}
use Rattle.h5_bytes.specs.declared.Block.{Block}
use Rattle.h5_bytes.proofs.BlockLaws.{apart_of}

-- 1 where the block holds the byte at p
abbrev pub held_by : ℕ → Block → ℕ
held_by p b = holds p b.at b.len

-- a count of blocks is a sum, so what std says of sums says how edits of the list change it
pub cover-sum : (p : ℕ) (xs : List Block) → cover p xs ≡ sum_by (held_by p) xs
cover-sum p [] = refl
cover-sum p (x ∷ xs) = ap (λ n. holds p x.at x.len + n) (cover-sum p xs) ∙ sym (sum_by-cons (held_by p) x xs)

pub cover-set : (p : ℕ) (xs : List Block) (k : ℕ) (b d : Block) → k < length xs
    → cover p (set xs k b) + holds p (get_or xs k d).at (get_or xs k d).len ≡ cover p xs + holds p b.at b.len
cover-set p xs k b d h = rw (cover-sum p (set xs k b), cover-sum p xs) (sum_by-set (held_by p) xs k b d h)

pub cover-insert : (p : ℕ) (xs : List Block) (k : ℕ) (b : Block) → cover p (insert xs k b) ≡ cover p xs + holds p b.at b.len
cover-insert p xs k b = rw (cover-sum p (insert xs k b), cover-sum p xs) (sum_by-insert (held_by p) xs k b)

pub cover-remove : (p : ℕ) (xs : List Block) (k : ℕ) (d : Block) → k < length xs
    → cover p (remove xs k) + holds p (get_or xs k d).at (get_or xs k d).len ≡ cover p xs
cover-remove p xs k d h = rw (cover-sum p (remove xs k), cover-sum p xs) (sum_by-remove (held_by p) xs k d h)

pub holds-le-cover : (p : ℕ) (xs : List Block) (k : ℕ) (d : Block) → k < length xs
    → holds p (get_or xs k d).at (get_or xs k d).len ≤ cover p xs
holds-le-cover p xs k d h = rw (cover-sum p xs) (get_or-le-sum_by (held_by p) xs k d h)

-- two entries of a list
pub holds-le-cover_two : (p : ℕ) (xs : List Block) (j k : ℕ) (d : Block) → j < length xs → k < length xs → j ≢ k
    → holds p (get_or xs j d).at (get_or xs j d).len + holds p (get_or xs k d).at (get_or xs k d).len ≤ cover p xs
holds-le-cover_two p xs j k d hj hk ne =
    let gone = cover-remove p xs k d hk in
    let n = length-remove xs k hk in
    elim (cases_lt j k) [
      | inl lt ↦
          let e = get_or-remove_below xs k d j lt hk in
          let g = rw e at (holds-le-cover p (remove xs k) j d (omega arith)) in omega arith
      | inr le ↦
          let i : ℕ = j - 1 in
          let s : i + 1 ≡ j = omega arith in
          let e : get_or (remove xs k) i d ≡ get_or xs j d = get_or-remove_above xs k d i (omega arith) hk ∙ ap (λ m. get_or xs m d) s in
          let g = rw e at (holds-le-cover p (remove xs k) i d (omega arith)) in omega arith
    ]

-- a byte that no block holds
pub cover_zero : (p : ℕ) (xs : List Block) → ((j : ℕ) (d : Block) → j < length xs → holds p (get_or xs j d).at (get_or xs j d).len ≡ 0) → cover p xs ≡ 0
cover_zero p [] none = refl
cover_zero p (x ∷ xs) none =
    let first = none 0 x (omega arith) in
    let others = cover_zero p xs (λ j d l. none (suc j) d (omega arith)) in
    omega arith

-- two blocks with bytes, of a separate list, stand one before the other
pub apart_of_separate : (xs : List Block) (j k : ℕ) (d : Block) → Separate xs → j < length xs → k < length xs → j ≢ k
    → 0 < (get_or xs j d).len → 0 < (get_or xs k d).len
    → ((get_or xs j d).at + (get_or xs j d).len ≤ (get_or xs k d).at) ⊎ ((get_or xs k d).at + (get_or xs k d).len ≤ (get_or xs j d).at)
apart_of_separate xs j k d s hj hk ne fj fk =
    apart_of _ _ _ _ (λ p. omega (arith, s p, holds-le-cover_two p xs j k d hj hk ne)) fj fk
