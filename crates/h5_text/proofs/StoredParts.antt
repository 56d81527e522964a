-- The values of stored bytes that come in parts of whole cells.
use Rattle.std.proofs.Common.{◌≡◌, ℕ, suc, ◌+◌, ◌-◌, ◌*◌, ◌/◌, ◌%◌, ◌<◌, ◌≤◌, ℤ, pos, List, [], ◌++◌, inl, inr, length, take, drop, get_or, map, min, sym, ap, ◌∙◌, length-append, length-take, take-append-drop, take_all, append-nil, arith}
use Rattle.std.proofs.Math.Nat.{mod-lt, div-add-mod', zero-div}
use Rattle.std.proofs.lemmas.Nat.{div-mul-add, mul-le}
use Rattle.std.proofs.lemmas.Bool.{cases_lt}
use Rattle.std.proofs.lemmas.List.{get_or_append_left, get_or-append_right, drop_all, nil_from_length}
use Rattle.std.proofs.lemmas.List.FromFn.{fill_by_all}
use Rattle.std.specs.List.{range_with_len}
use Rattle.h5_model.specs.Format.Fixed.{Fixed, value_at}
use Rattle.h5_model.specs.Scripts.Answers.{stored_values}
use Rattle.h5_model.proofs.ValueLaws.{moved-behind, value_at-moved}
use Rattle.h5_model.proofs.StoredValues.{index-stored, length-stored}

module _ (t : Fixed) (some : 1 ≤ t.size) (xs ys : List ℕ) (n : ℕ) (whole : length xs ≡ n * t.size) where
  abbrev m : ℕ
  m = length ys / t.size

  many : length (xs ++ ys) / t.size ≡ n + m
  many =
      let left : m * t.size + length ys % t.size ≡ length ys = div-add-mod' (length ys) t.size in
      let sum : length (xs ++ ys) ≡ (n + m) * t.size + length ys % t.size = omega (arith, length-append xs ys, whole, left) in
      ap (λ k. k / t.size) sum ∙ div-mul-add (n + m) t.size (length ys % t.size) (mod-lt (length ys) some)

  pub length-front : length (stored_values t xs) ≡ n
  length-front =
      let sum : length xs ≡ n * t.size + 0 = omega (arith, whole) in
      length-stored t xs ∙ ap (λ k. k / t.size) sum ∙ div-mul-add n t.size 0 (omega (arith, some))

  room : (k : ℕ) (long count : ℕ) → k < count → count * t.size ≤ long → k * t.size + t.size ≤ long
  room k long count low fits =
      let next : suc k * t.size ≡ k * t.size + t.size = omega arith in
      let below : suc k * t.size ≤ count * t.size = mul-le (suc k) t.size count t.size (omega (arith, low)) (omega arith) in
      omega (arith, next, below, fits)

  front : (k : ℕ) → k < n → get_or (stored_values t xs ++ stored_values t ys) k (pos 0) ≡ value_at t (xs ++ ys) (k * t.size)
  front k low =
      let fits : k * t.size + t.size ≤ length xs = room k (length xs) n low (omega (arith, whole)) in
      get_or_append_left (stored_values t xs) (stored_values t ys) (pos 0) k (omega (arith, low, length-front))
      ∙ index-stored t xs k (pos 0) some fits
      ∙ sym (value_at-moved t xs (xs ++ ys) (k * t.size) (k * t.size) (λ j less. get_or_append_left xs ys 0 (k * t.size + j) (omega (arith, fits, less))))

  back : (k : ℕ) → n ≤ k → k < n + m → get_or (stored_values t xs ++ stored_values t ys) k (pos 0) ≡ value_at t (xs ++ ys) (k * t.size)
  back k high low =
      let j : ℕ = k - n in
      let less : m * t.size ≤ length ys = omega (arith, div-add-mod' (length ys) t.size) in
      let fits : j * t.size + t.size ≤ length ys = room j (length ys) m (omega (arith, high, low)) less in
      let at : length xs + j * t.size ≡ k * t.size = whole_at j (omega (arith, high)) in
      get_or-append_right (stored_values t xs) (stored_values t ys) n k (pos 0) length-front high
      ∙ index-stored t ys j (pos 0) some fits
      ∙ sym (value_at-moved t ys (xs ++ ys) (j * t.size) (length xs + j * t.size) (moved-behind xs ys (j * t.size) t.size))
      ∙ ap (value_at t (xs ++ ys)) at where
        whole_at : (i : ℕ) → n + i ≡ k → length xs + i * t.size ≡ k * t.size
        whole_at i sum =
            let split : (n + i) * t.size ≡ n * t.size + i * t.size = omega arith in
            ap (λ l. l + i * t.size) whole ∙ sym split ∙ ap (λ l. l * t.size) sum

  each : (k : ℕ) → k < n + m → get_or (stored_values t xs ++ stored_values t ys) k (pos 0) ≡ value_at t (xs ++ ys) (k * t.size)
  each k low = elim (cases_lt k n) [
    | inl less ↦ front k less
    | inr more ↦ back k more low
  ]

  -- the values of whole cells, and those of what stands behind them
  pub stored-append : stored_values t (xs ++ ys) ≡ stored_values t xs ++ stored_values t ys
  stored-append =
      let long : length (stored_values t xs ++ stored_values t ys) ≡ n + m = omega (arith, length-append (stored_values t xs) (stored_values t ys), length-front, length-stored t ys) in
      ap (λ k. map (λ j. value_at t (xs ++ ys) (j * t.size)) (range_with_len 0 k)) many
      ∙ sym (fill_by_all (λ j. value_at t (xs ++ ys) (j * t.size)) (stored_values t xs ++ stored_values t ys) (n + m) (pos 0) long each)

stored-none : (t : Fixed) → stored_values t [] ≡ []
stored-none t = ap (λ k. map (λ j. value_at t [] (j * t.size)) (range_with_len 0 k)) (zero-div t.size)

-- the values of the first bytes, of so many cells or of all, and those of the others
pub stored-split : (t : Fixed) (bytes : List ℕ) (n c : ℕ) → 1 ≤ t.size → c ≡ min (length bytes) (n * t.size)
    → stored_values t bytes ≡ stored_values t (take c bytes) ++ stored_values t (drop c bytes)
stored-split t bytes n c some cut = elim (cases_lt (length bytes) (n * t.size)) [
  | inl less ↦ all (omega (arith, less, cut))
  | inr more ↦ part (omega (arith, more, cut), omega (arith, more, cut))
] where
  all : length bytes ≤ c → stored_values t bytes ≡ stored_values t (take c bytes) ++ stored_values t (drop c bytes)
  all far =
      sym (ap (λ xs. stored_values t xs ++ stored_values t (drop c bytes)) (take_all c bytes far)
      ∙ ap (λ xs. stored_values t bytes ++ stored_values t xs) (drop_all c bytes far)
      ∙ ap (λ vs. stored_values t bytes ++ vs) (stored-none t) ∙ append-nil (stored_values t bytes))

  part : (c ≡ n * t.size) × (c ≤ length bytes) → stored_values t bytes ≡ stored_values t (take c bytes) ++ stored_values t (drop c bytes)
  part p =
      ap (stored_values t) (sym (take-append-drop c bytes))
      ∙ stored-append t some (take c bytes) (drop c bytes) n (omega (arith, length-take c bytes, p.0, p.1))

-- the same for the two parts of a slice
pub stored-parted : (t : Fixed) (bytes first others : List ℕ) (n c : ℕ) → 1 ≤ t.size → c ≡ min (length bytes) (n * t.size) → first ≡ take c bytes → others ≡ drop c bytes
    → stored_values t bytes ≡ stored_values t first ++ stored_values t others
stored-parted t bytes first others n c some cut front_is rest_is = rw (front_is, rest_is) (stored-split t bytes n c some cut)

-- nothing is left
pub all-stored : (t : Fixed) (bytes rest : List ℕ) (values : List ℤ) → stored_values t bytes ≡ values ++ stored_values t rest → length rest ≡ 0 → values ≡ stored_values t bytes
all-stored t bytes rest values parts none =
    sym (parts ∙ ap (λ xs. values ++ stored_values t xs) (nil_from_length rest none) ∙ ap (λ vs. values ++ vs) (stored-none t) ∙ append-nil values)
