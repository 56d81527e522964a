-- How many children a tree of a level has at most, and that so many need no higher tree (File Format Specification 3.0, section III.A.1).
use Rattle.std.proofs.Common.{◌≡◌, ℕ, zero, suc, ◌-◌, ◌*◌, ◌<◌, ◌≤◌, List, [], ◌∷◌, Bool, true, false, length, refl, sym, ap, subst, ◌∙◌, arith, inl, inr}
use Rattle.std.specs.Prelude.{◌==◌, if◌then◌else◌}
use Rattle.std.specs.List.{AllByRecursion, list_any, flat_map}
use Rattle.std.proofs.lemmas.List.{length-append}
use Rattle.std.proofs.lemmas.List.FromFn.{length-map-range_with_len}
use Rattle.std.proofs.lemmas.Bool.{cases_lt}
use Rattle.std.proofs.Math.Nat.{mul-le-mul_right, mul_assoc, mul_comm}
use Rattle.h5_bytes.specs.Tables.{table}
use Rattle.h5_model.specs.Format.Rows.{Reading, blank, only, next_row, leaves}
use Rattle.h5_model.specs.Format.Nodes.{Kind, node_at, node_bytes, node_of, reading_of, entries_in, child_in, IsNode, HasTree}
use Rattle.h5_model.specs.Format.PlainLength.{rows_of}
use Rattle.h5_model.proofs.RowLaws.{at_listed}
use Rattle.h5_btree.specs.Writing.Written.{level_over, root_level}
use Rattle.h5_btree.proofs.WriteLaws.Counts.{rows_bounds, level_one, level_more, root_level_is}

-- lists of at most so many
pub flat_few : {X Y : Type 0} (f : X → List Y) (most : ℕ) → ((x : X) → length (f x) ≤ most) → (xs : List X) → length (flat_map f xs) ≤ length xs * most
flat_few f most few [] = omega arith
flat_few f most few (x ∷ xs) =
    let own = few x in
    let rest = flat_few f most few xs in
    omega (arith, own, rest, length-append (f x) (flat_map f xs))

-- what is read at some addresses alone is nothing elsewhere
pub only_few : {X : Type 0} (f : ℕ → List X) (most : ℕ) (owned : List ℕ) → AllByRecursion (λ at. length (f at) ≤ most) owned → (at : ℕ)
    → length (only [] f owned at) ≤ most
only_few f most owned all at = by_test (list_any (λ n. n == at) owned) refl where
  by_test : (b : Bool) → list_any (λ n. n == at) owned ≡ b → length (if b then f at else []) ≤ most
  by_test true is = at_listed (λ n. length (f n) ≤ most) owned at all is
  by_test false is = omega arith

-- rows of so many take what so many rows have room for
pub rows_fit : (m n rows : ℕ) → 1 ≤ m → n ≤ rows * m → rows_of m n ≤ rows
rows_fit m n rows some few = elim (cases_lt rows (rows_of m n)) [
  | inr low ↦ low
  | inl high ↦
      let below = (rows_bounds m n some).1 in
      let more : suc rows * m ≤ rows_of m n * m = mul-le-mul_right m (omega (arith, high)) in
      absurd (omega (arith, below, more, few))
]

-- the children of a tree of this level, with at most m in each node
abbrev pub most_under : ℕ → ℕ → ℕ
most_under m zero = m
most_under m (suc level) = most_under m level * m

pub level_few : (m level levels n : ℕ) → 1 ≤ m → level < levels → n ≤ most_under m level → level_over levels m n ≤ level
level_few m zero levels n some deep few = omega (arith, level_one levels m n few)
level_few m (suc level) levels n some deep few = elim (cases_lt m n) [
  | inr one ↦ omega (arith, level_one levels m n one)
  | inl more ↦
      let over = level_more levels m n (omega arith) more in
      let rest = level_few m level (levels - 1) (rows_of m n) some (omega arith) (rows_fit m n (most_under m level) some few) in
      omega (arith, over, rest)
]

-- ---- one tree

children_few : (kind : Kind) (bytes : List ℕ) → IsNode kind bytes → length (node_of kind bytes).children ≤ 2 * kind.k
unfolding node_of
children_few kind bytes is =
    let all : length (table (child_in kind bytes) (entries_in bytes)) ≡ entries_in bytes = length-map-range_with_len (child_in kind bytes) 0 (entries_in bytes) in
    let few : entries_in bytes ≤ 2 * kind.k = is.roomy in
    subst (λ n. n ≤ 2 * kind.k) (sym all) few

module _ (V : Reading) (m : ℕ) (few : (at : ℕ) → length (V at).children ≤ m) where
  leaves_few : (level : ℕ) (row : List ℕ) → length (leaves V level row) ≤ length row * most_under m level
  leaves_few zero row = flat_few (λ n. (V n).children) m few row
  leaves_few (suc level) row =
      let next : length (next_row V row) ≤ length row * m = flat_few (λ n. (V n).children) m few row in
      let below : length (leaves V level (next_row V row)) ≤ length (next_row V row) * most_under m level = leaves_few level (next_row V row) in
      let all : length (next_row V row) * most_under m level ≤ length row * m * most_under m level = mul-le-mul_right (most_under m level) next in
      let order : length row * m * most_under m level ≡ length row * (most_under m level * m) = swapped (length row) m (most_under m level) in
      omega (arith, below, all, order) where
        swapped : (a b c : ℕ) → a * b * c ≡ a * (c * b)
        swapped a b c = mul_assoc a b c ∙ ap (λ n. a * n) (mul_comm b c)

module _ (image : List ℕ) (kind : Kind) (root level : ℕ) (owned children : List ℕ) (some : 1 ≤ kind.k) (has : HasTree image kind root level owned children) where
  abbrev V : Reading
  V = reading_of image kind owned

  node_few : (at : ℕ) → length (V at).children ≤ 2 * kind.k
  node_few at = by_test (list_any (λ n. n == at) owned) refl where
    by_test : (b : Bool) → list_any (λ n. n == at) owned ≡ b → length (if b then node_at image kind at else blank).children ≤ 2 * kind.k
    by_test true is =
        let node = at_listed (λ n. IsNode kind (node_bytes image kind n)) owned at has.formed is in
        children_few kind (node_bytes image kind at) node
    by_test false is = omega arith

  -- a tree over as many would be no higher
  pub level_read : (n : ℕ) → n ≤ length children → root_level kind.k n ≤ level
  level_read n few =
      let all = leaves_few V (2 * kind.k) node_few level (root ∷ []) in
      let count : length children ≡ length (leaves V level (root ∷ [])) = ap length has.all in
      let low = has.low in
      let over : level_over 64 (2 * kind.k) n ≤ level = level_few (2 * kind.k) level 64 n (omega arith) (omega arith) (omega (arith, all, count)) in
      omega (arith, over, root_level_is kind.k n)
