-- The two parts of a list into which one more element was put, by the parts of the list.
use Rattle.std.proofs.Common.{◌≡◌, ℕ, zero, suc, ◌+◌, ◌-◌, ◌*◌, ◌<◌, ◌≤◌, List, [], ◌∷◌, length, take, drop, refl, sym, ap, ◌∙◌, arith, Bool, true, false}
use Rattle.std.specs.Prelude.{slice_set, if◌then◌else◌, nat_lt}
use Rattle.std.specs.List.{insert}
use Rattle.std.proofs.lemmas.List.{length-take, length-drop}
use Rattle.std.proofs.lemmas.List.Edits.{length-insert}
use Rattle.h5_btree.specs.Insertion.{left_count}

module _ {X : Type 0} (x : X) where
  -- the element is in the first part
  pub take_with : (xs : List X) (j n : ℕ) → j ≤ n → take (suc n) (insert xs j x) ≡ insert (take n xs) j x
  take_with xs zero n low = refl
  take_with xs (suc j) zero low = absurd (omega (arith, low))
  take_with [] (suc j) (suc n) low = refl
  take_with (y ∷ ys) (suc j) (suc n) low = ap (λ (l : List X). y ∷ l) (take_with ys j n (omega (arith, low)))

  pub drop_with : (xs : List X) (j n : ℕ) → j ≤ n → drop (suc n) (insert xs j x) ≡ drop n xs
  drop_with xs zero n low = refl
  drop_with xs (suc j) zero low = absurd (omega (arith, low))
  drop_with [] (suc j) (suc n) low = refl
  drop_with (y ∷ ys) (suc j) (suc n) low = drop_with ys j n (omega (arith, low))

  -- it is in the second
  pub take_without : (xs : List X) (j n : ℕ) → n ≤ j → j ≤ length xs → take n (insert xs j x) ≡ take n xs
  take_without xs j zero past low = refl
  take_without xs zero (suc n) past low = absurd (omega (arith, past))
  take_without [] (suc j) (suc n) past low = absurd (omega (arith, low))
  take_without (y ∷ ys) (suc j) (suc n) past low = ap (λ (l : List X). y ∷ l) (take_without ys j n (omega (arith, past)) (omega (arith, low)))

  pub drop_without : (xs : List X) (j n i : ℕ) → j ≡ n + i → j ≤ length xs → drop n (insert xs j x) ≡ insert (drop n xs) i x
  drop_without xs j zero i far low = let same : j ≡ i = omega (arith, far) in ap (λ (k : ℕ). insert xs k x) same
  drop_without xs zero (suc n) i far low = absurd (omega (arith, far))
  drop_without [] (suc j) (suc n) i far low = absurd (omega (arith, low))
  drop_without (y ∷ ys) (suc j) (suc n) i far low = drop_without ys j n i (omega (arith, far)) (omega (arith, low))

  -- it is the last of the first part
  pub take_at_end : (xs : List X) (n : ℕ) → n < length xs → take (suc n) (insert xs n x) ≡ slice_set (take (suc n) xs) n x
  take_at_end [] n low = absurd (omega (arith, low))
  take_at_end (y ∷ ys) zero low = refl
  take_at_end (y ∷ ys) (suc n) low = ap (λ (l : List X). y ∷ l) (take_at_end ys n (omega (arith, low)))

  -- ---- with one taken off and added, as the code counts

  pub left_keys_with : (xs : List X) (j n : ℕ) → 1 ≤ n → j < n → insert (take (n - 1 + 1) xs) j x ≡ take (n + 1) (insert xs j x)
  left_keys_with xs j n some low =
      let same : n - 1 + 1 ≡ n = omega arith in
      let one : suc n ≡ n + 1 = omega arith in
      ap (λ (m : ℕ). insert (take m xs) j x) same ∙ sym (take_with xs j n (omega (arith, low))) ∙ ap (λ (m : ℕ). take m (insert xs j x)) one

  pub left_children_with : (xs : List X) (j n : ℕ) → 1 ≤ n → j < n → insert (take (n - 1) xs) j x ≡ take n (insert xs j x)
  left_children_with xs j n some low =
      let one : suc (n - 1) ≡ n = omega arith in
      sym (take_with xs j (n - 1) (omega (arith, low))) ∙ ap (λ (m : ℕ). take m (insert xs j x)) one

  pub right_with : (xs : List X) (j n : ℕ) → 1 ≤ n → j < n → drop (n - 1) xs ≡ drop n (insert xs j x)
  right_with xs j n some low =
      let one : suc (n - 1) ≡ n = omega arith in
      sym (drop_with xs j (n - 1) (omega (arith, low))) ∙ ap (λ (m : ℕ). drop m (insert xs j x)) one

  pub right_without : (xs : List X) (j n : ℕ) → n ≤ j → j ≤ length xs → insert (drop n xs) (j - n) x ≡ drop n (insert xs j x)
  right_without xs j n past low = sym (drop_without xs j n (j - n) (omega (arith, past)) low)

  pub left_keys_without : (xs : List X) (j n : ℕ) → n < j → j ≤ length xs → take (n + 1) xs ≡ take (n + 1) (insert xs j x)
  left_keys_without xs j n past low = sym (take_without xs j (n + 1) (omega (arith, past)) low)

  pub left_keys_end : (xs : List X) (j n : ℕ) → j ≡ n → n < length xs → slice_set (take (n + 1) xs) n x ≡ take (n + 1) (insert xs j x)
  left_keys_end xs j n same low =
      let one : suc n ≡ n + 1 = omega arith in
      ap (λ (m : ℕ). slice_set (take m xs) n x) (sym one) ∙ sym (take_at_end xs n low) ∙ ap (λ (m : ℕ). take (suc n) (insert xs m x)) (sym same)
      ∙ ap (λ (m : ℕ). take m (insert xs j x)) one

-- each half of a full node with one more child has K children or more
pub left_bounds : (k j : ℕ) → (k ≤ left_count k j) × (left_count k j ≤ k + 1)
left_bounds k j = go (nat_lt j k) where
  go : (b : Bool) → (k ≤ (if b then k else k + 1)) × ((if b then k else k + 1) ≤ k + 1)
  go true = (omega arith, omega arith)
  go false = (omega arith, omega arith)

pub halves_long : {X : Type 0} (xs : List X) (k j n : ℕ) (x : X) → length xs ≡ 2 * k → j ≤ length xs → n ≤ k + 1
    → (length (take n (insert xs j x)) ≡ n) × (length (drop n (insert xs j x)) + n ≡ 2 * k + 1)
halves_long xs k j n x full place most =
    let all = length-insert xs j x place in
    let a = length-take n (insert xs j x) in
    let d = length-drop n (insert xs j x) in
    (omega (arith, a, all, most, full), omega (arith, d, all, most, full))
