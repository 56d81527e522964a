-- The nodes of level 0 stand behind all others in a tree's nodes, row by row.
use Rattle.std.proofs.Common.{◌≡◌, ◌≢◌, ℕ, zero, suc, ◌+◌, ◌-◌, ◌<◌, ◌≤◌, List, ◌++◌, length, drop, get_or, refl, sym, ap, ◌∙◌, arith, inl, inr}
use Rattle.std.proofs.lemmas.Bool.{cases_lt}
use Rattle.std.proofs.lemmas.List.{get_or_append_left, get_or-append-add, length-append}
use Rattle.std.proofs.Math.Seq.{drop-append-add}
use Rattle.h5_bytes.specs.Bytes.{undefined_address}
use Rattle.h5_model.specs.Format.Rows.{Reading, AreRows, IsRow, next_row, nodes, row_below}
use Rattle.h5_laws.proofs.Rows.{row_level}
use Rattle.h5_laws.proofs.Subtrees.{index_in}

module _ (V : Reading) where
  -- so many nodes are above level 0, and the next one, if there is one, is not
  pub record BeginsAt (all : List ℕ) (k : ℕ) : Type 0 where
    pub few : k ≤ length all
    pub above : (j : ℕ) → j < k → (V (get_or all j 0)).level ≢ 0
    pub here : k < length all → (V (get_or all k 0)).level ≡ 0

  level_at_place : (level left : ℕ) (row : List ℕ) (j : ℕ) → IsRow V level left row → j < length row → (V (get_or row j 0)).level ≡ level
  level_at_place level left row j is low = row_level V level left (get_or row j 0) row is (index_in row j 0 low)

  pub bottom_begins : (level : ℕ) (row : List ℕ) (k : ℕ) → AreRows V level row → BeginsAt (nodes V level row) k → drop k (nodes V level row) ≡ row_below V level row
  bottom_begins zero row zero are begins = refl
  bottom_begins zero row (suc k) are begins =
      absurd (begins.above 0 (omega arith) (level_at_place 0 undefined_address row 0 are (omega (arith, begins.few))))
  bottom_begins (suc level) row k are begins =
      let next : List ℕ = next_row V row in
      let rest : List ℕ = nodes V level next in
      let long : length (row ++ rest) ≡ length row + length rest = length-append row rest in
      let past : length row ≤ k = elim (cases_lt k (length row)) [
        | inl low ↦
            let up : (V (get_or row k 0)).level ≡ suc level = level_at_place (suc level) undefined_address row k are.0 low in
            let down : (V (get_or (row ++ rest) k 0)).level ≡ 0 = begins.here (omega (arith, low, long)) in
            let same : get_or (row ++ rest) k 0 ≡ get_or row k 0 = get_or_append_left row rest 0 k low in
            let bad : suc level ≡ 0 = sym up ∙ sym (ap (λ (n : ℕ). (V n).level) same) ∙ down in absurd (omega (arith, bad))
        | inr high ↦ high
      ] in
      let m : ℕ = k - length row in
      let whole : length row + m ≡ k = omega (arith, past) in
      let place : (j : ℕ) → get_or (row ++ rest) (length row + j) 0 ≡ get_or rest j 0 = λ j. get_or-append-add row rest j 0 in
      let inner : BeginsAt rest m = record {
        few = omega (arith, begins.few, long, past);
        above = λ j low level_is. begins.above (length row + j) (omega (arith, low, past)) (ap (λ (n : ℕ). (V n).level) (place j) ∙ level_is);
        here = λ low. ap (λ (n : ℕ). (V n).level) (sym (place m) ∙ ap (λ (n : ℕ). get_or (row ++ rest) n 0) whole) ∙ begins.here (omega (arith, low, long, past));
      } in
      ap (λ (n : ℕ). drop n (row ++ rest)) (sym whole) ∙ drop-append-add row rest m ∙ bottom_begins level next m are.1 inner
