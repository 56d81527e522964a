-- Blocks in order with gaps: what an edit of the list leaves, and that they share no byte.
use Rattle.std.proofs.Common.{◌≡◌, ℕ, ◌+◌, ◌-◌, ◌<◌, ◌≤◌, List, length, get_or, set, ap, ◌∙◌, arith}
use Rattle.std.specs.List.{insert, remove}
use Rattle.std.proofs.lemmas.Bool.{cases_lt, cases_eq}
use Rattle.std.proofs.lemmas.List.{length-set, get_or-set_same, get_or-set_other}
use Rattle.std.proofs.lemmas.List.Edits.{length-insert, length-remove, get_or-insert_below, get_or-insert_at, get_or-insert_above, get_or-remove_below, get_or-remove_above}
use Rattle.h5_bytes.specs.declared.Block.{Block}
use Rattle.h5_space.specs.Space.{IsSpaced}

-- a block of the list is changed, and stays within its gap
pub IsSpaced-set : (xs : List Block) (end k : ℕ) (b : Block) → IsSpaced xs end → k < length xs →
    0 < b.len → b.at + b.len ≤ end →
    ((j : ℕ) (d : Block) → j < k → (get_or xs j d).at + (get_or xs j d).len < b.at) →
    ((j : ℕ) (d : Block) → k < j → j < length xs → b.at + b.len < (get_or xs j d).at) →
    IsSpaced (set xs k b) end
IsSpaced-set xs end k b s h filled inside before after = record {
  filled = λ j d l. grind (arith, length-set, get_or-set_same xs k b d, get_or-set_other xs k j b d, s.filled j d, cases_eq j k);
  inside = λ j d l. grind (arith, length-set, get_or-set_same xs k b d, get_or-set_other xs k j b d, s.inside j d, cases_eq j k);
  apart = λ i j d lt l. let n = length-set xs k b in let l' : j < length xs = omega (arith, n) in
      grind (arith, get_or-set_same xs k b d h, get_or-set_other xs k i b d, get_or-set_other xs k j b d, s.apart i j d lt l', cases_eq i k, cases_eq j k, before i d, after j d);
}

-- a block comes in between two others
pub IsSpaced-insert : (xs : List Block) (end k : ℕ) (b : Block) → IsSpaced xs end → k ≤ length xs →
    0 < b.len → b.at + b.len ≤ end →
    ((j : ℕ) (d : Block) → j < k → (get_or xs j d).at + (get_or xs j d).len < b.at) →
    ((j : ℕ) (d : Block) → k ≤ j → j < length xs → b.at + b.len < (get_or xs j d).at) →
    IsSpaced (insert xs k b) end
IsSpaced-insert xs end k b s h filled inside before after =
    let n = length-insert xs k b h in
    let under : (j : ℕ) (d : Block) → j < k → get_or (insert xs k b) j d ≡ get_or xs j d = λ j d l. get_or-insert_below xs k b d j l h in
    let there : (d : Block) → get_or (insert xs k b) k d ≡ b = λ d. get_or-insert_at xs k b d h in
    let above : (j : ℕ) (d : Block) → k < j → get_or (insert xs k b) j d ≡ get_or xs (j - 1) d = λ j d l.
    ap (λ m. get_or (insert xs k b) m d) (omega arith) ∙ get_or-insert_above xs k b d (j - 1) (omega arith) h in
    record {
      filled = λ j d l. grind (arith, n, under j d, there d, above j d, s.filled j d, s.filled (j - 1) d, cases_eq j k);
      inside = λ j d l. grind (arith, n, under j d, there d, above j d, s.inside j d, s.inside (j - 1) d, cases_eq j k);
      apart = λ i j d lt l. grind (arith, n, under i d, under j d, there d, above i d, above j d, s.apart i j d, s.apart i (j - 1) d, s.apart (i - 1) (j - 1) d, before i d, after (j - 1) d, cases_eq i k, cases_eq j k);
    }

-- a block goes
pub IsSpaced-remove : (xs : List Block) (end k : ℕ) → IsSpaced xs end → k < length xs → IsSpaced (remove xs k) end
IsSpaced-remove xs end k s h =
    let n : length (remove xs k) + 1 ≡ length xs = length-remove xs k h in
    let under : (j : ℕ) (d : Block) → j < k → get_or (remove xs k) j d ≡ get_or xs j d = λ j d l. get_or-remove_below xs k d j l h in
    let above : (j : ℕ) (d : Block) → k ≤ j → get_or (remove xs k) j d ≡ get_or xs (j + 1) d = λ j d l. get_or-remove_above xs k d j l h in
    record {
      filled = λ j d l. grind (arith, n, under j d, above j d, s.filled j d, s.filled (j + 1) d, cases_lt j k);
      inside = λ j d l. grind (arith, n, under j d, above j d, s.inside j d, s.inside (j + 1) d, cases_lt j k);
      apart = λ i j d lt l. grind (arith, n, under i d, under j d, above i d, above j d, s.apart i j d, s.apart i (j + 1) d, s.apart (i + 1) (j + 1) d, cases_lt i k, cases_lt j k);
    }
