-- The children of a row, cut_into_lists into nodes.
use Rattle.std.proofs.Common.{◌≡◌, ℕ, zero, suc, ◌+◌, ◌-◌, ◌/◌, ◌<◌, ◌≤◌, List, [], ◌∷◌, ◌++◌, length, take, drop, inl, inr, refl, sym, ap, ◌∙◌, subst, arith}
use Rattle.std.specs.List.{AllByRecursion, flat_map}
use Rattle.std.proofs.Math.Nat.{div-eq_of_lt-le, add-div_left}
use Rattle.std.proofs.lemmas.Bool.{cases_lt}
use Rattle.std.proofs.lemmas.List.{append-nil, length-take, length-drop, take-append-drop}
use Rattle.h5_bytes.proofs.BlockLaws.{all_left, all_right}
use Rattle.h5_model.specs.Format.PlainLength.{rows_of}
use Rattle.h5_btree.specs.Writing.Written.{cut_into_lists, chunks}
use Rattle.h5_btree.proofs.WriteLaws.Counts.{is_over, is_within}

pub rows_one : (m n : ℕ) → 1 ≤ n → n ≤ m → rows_of m n ≡ 1
rows_one m n one few = div-eq_of_lt-le m (omega arith) (omega arith)

pub rows_next : (m n : ℕ) → 1 ≤ m → m < n → rows_of m n ≡ 1 + rows_of m (n - m)
rows_next m n some more =
    let split : n + m - 1 ≡ m + (n - m + m - 1) = omega arith in
    let next : (m + (n - m + m - 1)) / m ≡ (n - m + m - 1) / m + 1 = add-div_left (n - m + m - 1) some in
    rw split (omega arith)

-- what holds of all holds in each list
pub all_apart : {X : Type 0} (P : X → Type 0) (cs : List (List X)) → AllByRecursion P (flat_map (λ (c : List X). c) cs) → AllByRecursion (AllByRecursion P) cs
all_apart P [] all = tt
all_apart {X = X} P (c ∷ cs) all = (all_left P c (flat_map (λ (d : List X). d) cs) all, all_apart P cs (all_right P c (flat_map (λ (d : List X). d) cs) all))

module _ {X : Type 0} (m : ℕ) where
  -- one step of a cut_into_lists
  pub cut_one : (n : ℕ) (xs : List X) → length xs ≤ m → cut_into_lists n m xs ≡ xs ∷ []
  cut_one zero xs few = refl
  cut_one (suc n) xs few = rw (is_within (length xs) m few) refl

  pub cut_more : (n : ℕ) (xs : List X) → m < length xs → cut_into_lists (suc n) m xs ≡ take m xs ∷ cut_into_lists n m (drop m xs)
  cut_more n xs many = rw (is_over (length xs) m many) refl

  -- a cut_into_lists takes all, in order
  pub flat-cut : (n : ℕ) (xs : List X) → flat_map (λ (c : List X). c) (cut_into_lists n m xs) ≡ xs
  flat-cut zero xs = append-nil xs
  flat-cut (suc n) xs = elim (cases_lt m (length xs)) [
    | inl many ↦ ap (flat_map (λ (c : List X). c)) (cut_more n xs many) ∙ ap (λ rest. take m xs ++ rest) (flat-cut n (drop m xs)) ∙ take-append-drop m xs
    | inr few ↦ ap (flat_map (λ (c : List X). c)) (cut_one (suc n) xs few) ∙ append-nil xs
  ]

  -- each list of it has at most m
  pub short-cut : (n : ℕ) (xs : List X) → 1 ≤ m → length xs ≤ n → AllByRecursion (λ (c : List X). length c ≤ m) (cut_into_lists n m xs)
  short-cut zero xs some low = (omega arith, tt)
  short-cut (suc n) xs some low = elim (cases_lt m (length xs)) [
    | inl many ↦
        let rest = short-cut n (drop m xs) some (omega (arith, length-drop m xs)) in
        subst (AllByRecursion (λ (c : List X). length c ≤ m)) (sym (cut_more n xs many)) (omega (arith, length-take m xs), rest)
    | inr few ↦ subst (AllByRecursion (λ (c : List X). length c ≤ m)) (sym (cut_one (suc n) xs few)) (few, tt)
  ]

  -- and at least one, where there is one
  pub filled-cut : (n : ℕ) (xs : List X) → 1 ≤ m → 1 ≤ length xs → AllByRecursion (λ (c : List X). 1 ≤ length c) (cut_into_lists n m xs)
  filled-cut zero xs some one = (one, tt)
  filled-cut (suc n) xs some one = elim (cases_lt m (length xs)) [
    | inl many ↦
        let rest = filled-cut n (drop m xs) some (omega (arith, length-drop m xs)) in
        subst (AllByRecursion (λ (c : List X). 1 ≤ length c)) (sym (cut_more n xs many)) (omega (arith, length-take m xs), rest)
    | inr few ↦ subst (AllByRecursion (λ (c : List X). 1 ≤ length c)) (sym (cut_one (suc n) xs few)) (one, tt)
  ]

  -- there are as many as rows
  pub length-cut : (n : ℕ) (xs : List X) → 1 ≤ m → 1 ≤ length xs → length xs ≤ n → length (cut_into_lists n m xs) ≡ rows_of m (length xs)
  length-cut zero xs some one low = absurd (omega arith)
  length-cut (suc n) xs some one low = elim (cases_lt m (length xs)) [
    | inl many ↦
        let left : length (drop m xs) ≡ length xs - m = length-drop m xs in
        let rest = length-cut n (drop m xs) some (omega arith) (omega arith) in
        ap length (cut_more n xs many) ∙ ap suc (rest ∙ ap (rows_of m) left) ∙ omega (arith, rows_next m (length xs) some many)
    | inr few ↦ ap length (cut_one (suc n) xs few) ∙ sym (rows_one m (length xs) one few)
  ]

  -- more cuts than there are children change nothing
  cut_same : (n more : ℕ) (xs : List X) → 1 ≤ m → length xs ≤ n → length xs ≤ more → cut_into_lists n m xs ≡ cut_into_lists more m xs
  cut_same zero more xs some low high = sym (cut_one more xs (omega arith))
  cut_same (suc n) zero xs some low high = cut_one (suc n) xs (omega arith)
  cut_same (suc n) (suc more) xs some low high = elim (cases_lt m (length xs)) [
    | inl many ↦
        let left : length (drop m xs) ≡ length xs - m = length-drop m xs in
        cut_more n xs many ∙ ap (λ rest. take m xs ∷ rest) (cut_same n more (drop m xs) some (omega arith) (omega arith)) ∙ sym (cut_more more xs many)
    | inr few ↦ cut_one (suc n) xs few ∙ sym (cut_one (suc more) xs few)
  ]

  -- the first list, and those of the rest
  pub chunks_more : (xs : List X) → 1 ≤ m → m < length xs → chunks m xs ≡ take m xs ∷ chunks m (drop m xs)
  chunks_more xs some many =
      let left : length (drop m xs) ≡ length xs - m = length-drop m xs in
      cut_same (length xs) (suc (length xs)) xs some (omega arith) (omega arith) ∙ cut_more (length xs) xs many
      ∙ ap (λ rest. take m xs ∷ rest) (cut_same (length xs) (length (drop m xs)) (drop m xs) some (omega arith) (omega arith))
