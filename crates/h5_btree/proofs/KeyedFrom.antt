-- The nodes of a tree out of which a child was taken were the tree's before, and each of their keys was one of them.
use Rattle.std.proofs.Common.{◌≡◌, inl, inr, ℕ, zero, suc, ◌≤◌, List, [], ◌∷◌, ◌++◌, map, refl, sym, subst, arith}
use Rattle.std.specs.List.{AllByRecursion, remove}
use Rattle.h5_bytes.proofs.BlockLaws.{all_append, all_left, all_right, all_so}
use Rattle.h5_model.specs.Format.Rows.{Node, Reading, blank, only, next_row, nodes}
use Rattle.h5_model.specs.Format.Links.{key_offsets, offset_in}
use Rattle.h5_model.specs.Format.Nodes.{Kind, HasTree, node_at, reading_of}
use Rattle.h5_model.proofs.OneTree.{level_is, owned_is}
use Rattle.h5_model.proofs.RowLaws.{all_listed}
use Rattle.h5_laws.proofs.Lists.{In, in_all, all_in, in_left, in_right, in_flat, from_flat}
use Rattle.h5_space.specs.Space.{Space}
use Rattle.h5_btree.specs.Removal.{IsChildTaken, LosesChild}
use Rattle.h5_btree.proofs.TreeReadings.{Listed, owned_at}

-- what holds of each of a list holds of those that stay
pub all_removed : {X : Type 0} (P : X → Type 0) (xs : List X) (i : ℕ) → AllByRecursion P xs → AllByRecursion P (remove xs i)
all_removed P [] zero all = tt
all_removed P [] (suc i) all = tt
all_removed P (x ∷ xs) zero all = all.1
all_removed P (x ∷ xs) (suc i) all = (all.0, all_removed P xs i all.1)

all_mine : {X : Type 0} (xs : List X) → AllByRecursion (λ x. In x xs) xs
all_mine xs = all_in (λ x. In x xs) xs (λ x there. there)

module _ (V W : Reading) (p i : ℕ) where
  abbrev Loses : ℕ → Type 0
  Loses n = LosesChild p i n (V n) (W n)

  children_from : (n c : ℕ) → Loses n → In c (W n).children → In c (V n).children
  children_from n c loses there = elim loses [
    | inl at ↦ in_all (λ m. In m (V n).children) c (remove (V n).children i) (all_removed (λ m. In m (V n).children) (V n).children i (all_mine (V n).children)) (subst (In c) at.2 there)
    | inr at ↦ subst (In c) at.2 there
  ]

  keys_from_before : (P : ℕ → Type 0) (n : ℕ) → Loses n → AllByRecursion P (map offset_in (V n).keys) → AllByRecursion P (map offset_in (W n).keys)
  keys_from_before P n loses all = elim loses [
    | inl at ↦ subst (λ (ks : List (List ℕ)). AllByRecursion P (map offset_in ks)) (sym at.1)
        (from_map_all (remove (V n).keys i) (all_removed (λ (key : List ℕ). P (offset_in key)) (V n).keys i (to_map_all (V n).keys all)))
    | inr at ↦ subst (λ (ks : List (List ℕ)). AllByRecursion P (map offset_in ks)) (sym at.1) all
  ] where
    to_map_all : (ks : List (List ℕ)) → AllByRecursion P (map offset_in ks) → AllByRecursion (λ (key : List ℕ). P (offset_in key)) ks
    to_map_all [] all = tt
    to_map_all (k ∷ ks) all = (all.0, to_map_all ks all.1)

    from_map_all : (ks : List (List ℕ)) → AllByRecursion (λ (key : List ℕ). P (offset_in key)) ks → AllByRecursion P (map offset_in ks)
    from_map_all [] all = tt
    from_map_all (k ∷ ks) all = (all.0, from_map_all ks all.1)

  -- a part of a row leads to a part of the next
  abbrev AreFrom : List ℕ → List ℕ → Type 0
  AreFrom now was = AllByRecursion (λ n. In n was) now

  next_from : (now was : List ℕ) → AllByRecursion Loses now → AreFrom now was → AreFrom (next_row W now) (next_row V was)
  next_from now was loses are = all_in (λ c. In c (next_row V was)) (next_row W now) (λ c there.
      let from = from_flat (λ n. (W n).children) c now there in
      in_flat (λ n. (V n).children) from.0 c was (in_all (λ n. In n was) from.0 now are from.1)
      (children_from from.0 c (in_all Loses from.0 now loses from.1) from.2))

  nodes_from : (l m : ℕ) (now was : List ℕ) → l ≤ m → AllByRecursion Loses (nodes W l now) → AreFrom now was → AreFrom (nodes W l now) (nodes V m was)
  nodes_from zero zero now was low loses are = are
  nodes_from zero (suc m) now was low loses are =
      all_so (λ n. In n was) (λ n. In n (was ++ nodes V m (next_row V was))) now (λ n there. in_left n was (nodes V m (next_row V was)) there) are
  nodes_from (suc l) zero now was low loses are = absurd (omega (arith, low))
  nodes_from (suc l) (suc m) now was low loses are =
      let here = all_left Loses now (nodes W l (next_row W now)) loses in
      let below = all_right Loses now (nodes W l (next_row W now)) loses in
      let rest = nodes_from l m (next_row W now) (next_row V was) (omega (arith, low)) below (next_from now was here are) in
      all_append (λ n. In n (was ++ nodes V m (next_row V was))) now (nodes W l (next_row W now))
      (all_so (λ n. In n was) (λ n. In n (was ++ nodes V m (next_row V was))) now (λ n there. in_left n was (nodes V m (next_row V was)) there) are)
      (all_so (λ n. In n (nodes V m (next_row V was))) (λ n. In n (was ++ nodes V m (next_row V was))) (nodes W l (next_row W now))
      (λ n there. in_right n was (nodes V m (next_row V was)) there) rest)

module _ (s t : Space) (kind : Kind) (root level m p i : ℕ) (was now owned own : List ℕ) (tree : HasTree s.bytes kind root level owned was)
    (taken : IsChildTaken s t kind root m p i now owned own) where
  abbrev V : Reading
  V = node_at s.bytes kind

  abbrev W : Reading
  W = node_at t.bytes kind

  no_higher : m ≤ level
  no_higher =
      let same = level_is s.bytes kind root level owned was tree in
      elim taken.stops [
        | inl high ↦ omega (arith, high.1, same)
        | inr low ↦ omega (arith, low.2)
      ]

  -- its nodes were the tree's
  pub nodes_before : AllByRecursion (λ n. In n owned) own
  nodes_before =
      let is = owned_is t.bytes kind root m own now taken.tree in
      let was_is = owned_is s.bytes kind root level owned was tree in
      subst (AllByRecursion (λ n. In n owned)) (sym is) (subst (λ (ns : List ℕ). AllByRecursion (λ n. In n ns) (nodes W m (root ∷ []))) (sym was_is)
      (nodes_from V W p i m level (root ∷ []) (root ∷ []) no_higher (subst (AllByRecursion (Loses V W p i)) is taken.entries) (inl refl, tt)))

  -- what holds of each key of a group's tree holds of each one then
  pub keys_before : (P : ℕ → Type 0) → AllByRecursion P (key_offsets (reading_of s.bytes kind owned) owned) → AllByRecursion P (key_offsets (reading_of t.bytes kind own) own)
  keys_before P all = all_in P (key_offsets (reading_of t.bytes kind own) own) (λ key there.
      let Y = reading_of s.bytes kind owned in
      let Z = reading_of t.bytes kind own in
      let from = from_flat (λ n. map offset_in (Z n).keys) key own there in
      let n = from.0 in
      let mine : Z n ≡ W n = in_all (λ n. Z n ≡ W n) n own (own_same W own) from.1 in
      let before : In n owned = in_all (λ n. In n owned) n own nodes_before from.1 in
      let theirs : Y n ≡ V n = in_all (λ n. Y n ≡ V n) n owned (own_same V owned) before in
      let each : AllByRecursion P (map offset_in (V n).keys) = subst (λ (o : Node). AllByRecursion P (map offset_in o.keys)) theirs
      (all_in P (map offset_in (Y n).keys) (λ k is. in_all P k (key_offsets Y owned) all (in_flat (λ n. map offset_in (Y n).keys) n k owned before is))) in
      in_all P key (map offset_in (W n).keys) (keys_from_before V W p i P n (in_all (Loses V W p i) n own taken.entries from.1) each)
      (subst (λ (o : Node). In key (map offset_in o.keys)) mine from.2))
    where
      own_same : (U : Reading) (ns : List ℕ) → AllByRecursion (λ n. only blank U ns n ≡ U n) ns
      own_same U ns = so ns (all_listed ns) where
        so : (xs : List ℕ) → AllByRecursion (Listed ns) xs → AllByRecursion (λ n. only blank U ns n ≡ U n) xs
        so [] are = tt
        so (x ∷ xs) are = (owned_at U ns x are.0, so xs are.1)
