-- Nodes of trees of chunks that are at least half full, by what is read at each address (File Format Specification 3.0, section III.A.1).
use Rattle.std.proofs.Common.{◌≡◌, inl, inr, ℕ, zero, suc, ◌+◌, ◌-◌, ◌*◌, ◌^◌, ◌<◌, ◌≤◌, Bool, true, false, List, [], ◌∷◌, length, refl, sym, ap, subst, arith, suc-mul}
use Rattle.std.proofs.Math.Nat.{mul-le-mul_left, mul-le-mul_right, mul_assoc, pow-succ', pow-zero}
use Rattle.std.proofs.lemmas.Bool.Decides.{nat_tests}
use Rattle.std.proofs.lemmas.List.{length-append}
use Rattle.std.specs.Bool.{⊤}
use Rattle.std.specs.Prelude.{if◌then◌else◌, nat_le}
use Rattle.std.specs.List.{AllByRecursion}
use Rattle.h5_bytes.proofs.BlockLaws.{all_append}
use Rattle.h5_model.specs.Format.Rows.{Reading, leaves, next_row, nodes}
use Rattle.h5_laws.proofs.Lists.{In, all_in, in_all, in_left}
use Rattle.h5_laws.proofs.Subtrees.{nodes_within, one_within}
use Rattle.h5_chunks.specs.Bushy.{IsBushyBelow, least_children}

-- ---- how many children there are at least

pub least_low : (k low level : ℕ) → 1 ≤ k → least_children k low level ≤ k
least_low k low level some = by_test (nat_le low level) where
  by_test : (b : Bool) → (if b then k else 1) ≤ k
  by_test true = omega arith
  by_test false = some

pub least_is_one : (k low level : ℕ) → level < low → least_children k low level ≡ 1
least_is_one k low level below = let test : nat_le low level ≡ false = grind (arith, nat_tests, below) in rw test refl

module _ (V : Reading) (k low : ℕ) where
  -- a node of this level and each node below it have as many
  abbrev pub IsBushyNode : ℕ → ℕ → Type 0
  IsBushyNode level node = (least_children k low level ≤ length (V node).children) × IsBushyBelow V k low level node

  -- so have these children of a node of this level; those of a node of level 0 are no nodes
  abbrev pub AreBushy : ℕ → List ℕ → Type 0
  AreBushy zero children = ⊤
  AreBushy (suc level) children = AllByRecursion (IsBushyNode level) children

  pub below_are : (level node : ℕ) → IsBushyBelow V k low level node → AreBushy level (V node).children
  below_are zero node is = tt
  below_are (suc level) node is = is

  pub are_below : (level node : ℕ) → AreBushy level (V node).children → IsBushyBelow V k low level node
  are_below zero node are = tt
  are_below (suc level) node are = are

  -- ---- how many children stand at the bottom

  -- below a node of this level, at least
  abbrev pub least_leaves : ℕ → ℕ
  least_leaves zero = least_children k low 0
  least_leaves (suc level) = least_children k low (suc level) * least_leaves level

  first_power : (b : Bool) → nat_le low 0 ≡ b → k ^ (1 - low) ≤ (if b then k else 1)
  first_power true is = let one : 1 - low ≡ 1 = grind (arith, nat_tests, is) in rw one (let all : k ^ 1 ≤ k = omega (arith, pow-succ' k 0, ap (λ n. k * n) (pow-zero k)) in all)
  first_power false is = let none : 1 - low ≡ 0 = grind (arith, nat_tests, is) in rw none (omega (arith, pow-zero k))

  next_power : (level least : ℕ) (b : Bool) → nat_le low (suc level) ≡ b → k ^ (suc level - low) ≤ least → k ^ (suc (suc level) - low) ≤ (if b then k else 1) * least
  next_power level least true is below =
      let more : suc (suc level) - low ≡ suc (suc level - low) = grind (arith, nat_tests, is) in
      rw more (omega (arith, pow-succ' k (suc level - low), mul-le-mul_left k below))
  next_power level least false is below =
      let same : suc (suc level) - low ≡ suc level - low = grind (arith, nat_tests, is) in
      rw same (omega (arith, below))

  -- K for each level from that one up
  pub least_power : (level : ℕ) → k ^ (suc level - low) ≤ least_leaves level
  least_power zero = first_power (nat_le low 0) refl
  least_power (suc level) = next_power level (least_leaves level) (nat_le low (suc level)) refl (least_power level)

  row_long : (n : ℕ) (row : List ℕ) → AllByRecursion (λ node. n ≤ length (V node).children) row → length row * n ≤ length (next_row V row)
  row_long n [] all = omega arith
  row_long n (node ∷ row) all =
      let rest = row_long n row all.1 in
      let long = length-append (V node).children (next_row V row) in
      let more : suc (length row) * n ≡ length row * n + n = suc-mul (length row) n in
      omega (arith, all.0, rest, long, more)

  nodes_long : (level : ℕ) (row : List ℕ) → AllByRecursion (IsBushyNode level) row → AllByRecursion (λ node. least_children k low level ≤ length (V node).children) row
  nodes_long level [] all = tt
  nodes_long level (node ∷ row) all = (all.0.0, nodes_long level row all.1)

  next_bushy : (level : ℕ) (row : List ℕ) → AllByRecursion (IsBushyNode (suc level)) row → AllByRecursion (IsBushyNode level) (next_row V row)
  next_bushy level [] all = tt
  next_bushy level (node ∷ row) all = all_append (IsBushyNode level) (V node).children (next_row V row) all.0.1 (next_bushy level row all.1)

  pub bushy_leaves : (level : ℕ) (row : List ℕ) → AllByRecursion (IsBushyNode level) row → length row * least_leaves level ≤ length (leaves V level row)
  bushy_leaves zero row all = row_long (least_children k low 0) row (nodes_long 0 row all)
  bushy_leaves (suc level) row all =
      let below = bushy_leaves level (next_row V row) (next_bushy level row all) in
      let here = mul-le-mul_right (least_leaves level) (row_long (least_children k low (suc level)) row (nodes_long (suc level) row all)) in
      let same = mul_assoc (length row) (least_children k low (suc level)) (least_leaves level) in
      omega (arith, below, here, same)

-- ---- the same children

module _ (V W : Reading) (k low : ℕ) where
  first_node : (level node : ℕ) → In node (nodes V level (node ∷ []))
  first_node zero node = inl refl
  first_node (suc level) node = inl refl

  -- Where each node of a tree has the same children, the nodes below the root have as many still.
  pub bushy_same : (level node : ℕ) → ((n : ℕ) → In n (nodes V level (node ∷ [])) → (W n).children ≡ (V n).children)
      → IsBushyBelow V k low level node → IsBushyBelow W k low level node
  bushy_same zero node same is = tt
  bushy_same (suc level) node same is =
      let row : List ℕ = next_row V (node ∷ []) in
      subst (AllByRecursion (IsBushyNode W k low level)) (sym (same node (inl refl)))
      (all_in (IsBushyNode W k low level) (V node).children (λ child there.
      let old = in_all (IsBushyNode V k low level) child (V node).children is there in
      let below : (n : ℕ) → In n (nodes V level (child ∷ [])) → (W n).children ≡ (V n).children
      = λ n at. same n (inr (nodes_within V level (child ∷ []) row (one_within V child row (in_left child (V node).children [] there)) n at)) in
      (subst (λ (cs : List ℕ). least_children k low level ≤ length cs) (sym (below child (first_node level child))) old.0, bushy_same level child below old.1)))
