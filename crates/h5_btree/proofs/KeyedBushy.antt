-- Something stands below each node of a tree at each of whose children at the bottom something stands.
use Rattle.std.proofs.Common.{◌≡◌, ℕ, zero, suc, ◌<◌, ◌≤◌, List, [], ◌∷◌, length, map, refl, ap, subst, arith}
use Rattle.std.specs.List.{AllByRecursion}
use Rattle.h5_model.specs.Format.Rows.{Node, Reading}
use Rattle.h5_model.specs.Format.Nodes.{Kind, HasTree, entries_in, node_at, node_bytes, reading_of}
use Rattle.h5_model.proofs.RowLaws.{at_listed, root_level}
use Rattle.h5_laws.proofs.KeyDepth.{IsBushy}
use Rattle.h5_space.specs.Space.{Space}
use Rattle.h5_btree.specs.Climb.{IsWay}
use Rattle.h5_btree.specs.Insertion.{Owns}
use Rattle.h5_btree.specs.Keyed.{at_children, keys_from}
use Rattle.h5_btree.specs.Retired.{IsSubtree}
use Rattle.h5_btree.specs.Removal.{EndsInTree}
use Rattle.h5_btree.specs.declared.way.Step.{Step}
use Rattle.h5_btree.proofs.KeyedHolds.{few}
use Rattle.h5_btree.proofs.KeyedOwn.{keys_count}
use Rattle.h5_btree.proofs.KeyedTrees.{below_long}
use Rattle.h5_btree.proofs.NodeLaws.{length-children}
use Rattle.h5_btree.proofs.RetiredTrees.{root_under}
use Rattle.h5_btree.proofs.TreeReadings.{owned_at, owned_of_level}

module _ (s : Space) (kind : Kind) (root level : ℕ) (owned list : List ℕ) (has : HasTree s.bytes kind root level owned list) (keys : ℕ → List (List ℕ))
    (named : AllByRecursion (λ c. 1 ≤ length (keys c)) list) (k : ℕ) (some : 1 ≤ k) where
  abbrev V : Reading
  V = node_at s.bytes kind

  abbrev Bushy : (height : ℕ) → ℕ → Type 0
  Bushy height n = IsBushy (List ℕ) (λ (b : List (List ℕ)). b) k some (suc level) (suc height) (keys_from V (λ key c. keys c) height n)

  has_child : 1 ≤ level → (n : ℕ) → Owns owned n → 1 ≤ length (V n).children
  has_child high n is =
      let filled = at_listed (λ at. 1 ≤ entries_in (node_bytes s.bytes kind at)) owned n (has.filled high) is in
      let count = length-children kind (node_bytes s.bytes kind n) (V n) refl in
      omega (arith, filled, count)

  bottom : (ks : List (List ℕ)) (cs : List ℕ) → AllByRecursion (IsSubtree V owned list 0) cs → AllByRecursion (λ (b : List (List ℕ)). 1 ≤ length b) (at_children (λ key c. keys c) ks cs)
  bottom [] cs all = tt
  bottom (key ∷ ks) [] all = tt
  bottom (key ∷ ks) (c ∷ cs) all = (at_listed (λ d. 1 ≤ length (keys d)) list c named all.0, bottom ks cs all.1)

  each : (m : ℕ) → ((n : ℕ) → IsSubtree V owned list (suc m) n → 1 ≤ length (V n).children → Bushy m n) → 1 ≤ level → (cs : List ℕ) → AllByRecursion (IsSubtree V owned list (suc m)) cs
      → AllByRecursion (IsBushy (List ℕ) (λ (b : List (List ℕ)). b) k some (suc level) (suc m)) (map (λ n. keys_from V (λ key c. keys c) m n) cs)
  each m one high [] all = tt
  each m one high (c ∷ cs) all = (one c all.0 (has_child high c all.0.0), each m one high cs all.1)

  pub bushy_node : (m n : ℕ) → m ≤ level → IsSubtree V owned list (suc m) n → 1 ≤ length (V n).children → Bushy m n
  bushy_node zero n deep under child =
      let count = keys_count s.bytes kind n in
      let long = below_long V (λ key c. keys c) 0 (V n).keys (V n).children (omega (arith, count)) in
      let least = few (λ (b : List (List ℕ)). b) k level some 0 deep in
      (omega (arith, long, least, child), bottom (V n).keys (V n).children under.2)
  bushy_node (suc m) n deep under child =
      let count = keys_count s.bytes kind n in
      let long = below_long V (λ key c. keys c) (suc m) (V n).keys (V n).children (omega (arith, count)) in
      let least = few (λ (b : List (List ℕ)). b) k level some (suc m) deep in
      (omega (arith, long, least, child), each m (λ d is some_child. bushy_node m d (omega (arith, deep)) is some_child) (omega (arith, deep)) (V n).children under.2)

  -- SOMETHING STANDS BELOW EACH NODE, where the root has a child
  pub bushy_tree : 1 ≤ length (V root).children → Bushy level root
  bushy_tree child = bushy_node level root (omega arith) (root_under s kind root level owned list has) child

-- The root has a child where a way begins at it.
pub way_child : (s : Space) (kind : Kind) (root level : ℕ) (way : List Step) (owned list : List ℕ) (k : ℕ) → EndsInTree s kind root level way owned list k
    → 1 ≤ length (node_at s.bytes kind root).children
way_child s kind root level way owned list k e = by_steps e.above e.leads e.step.place e.place where
  at_root : reading_of s.bytes kind owned root ≡ node_at s.bytes kind root
  at_root =
      owned_at (node_at s.bytes kind) owned root
      (owned_of_level (node_at s.bytes kind) owned root (let l = root_level (reading_of s.bytes kind owned) level root e.tree.rows in let low = e.tree.low in omega (arith, l, low)))

  some_child : (n i : ℕ) → n ≡ root → i < length (reading_of s.bytes kind owned n).children → 1 ≤ length (node_at s.bytes kind root).children
  some_child n i same low =
      let there = subst (λ (m : ℕ). i < length (reading_of s.bytes kind owned m).children) same low in
      let read = ap (λ (o : Node). length o.children) at_root in
      omega (arith, there, read)

  last_step : (above : List Step) (m a : ℕ) (f bk : List ℕ) → IsWay (reading_of s.bytes kind owned) m root above a f bk → (i : ℕ) → i < length (reading_of s.bytes kind owned a).children
      → 1 ≤ length (node_at s.bytes kind root).children
  last_step [] m a f bk w i low = some_child a i w.0 low
  last_step (st ∷ above) m a f bk w i low = last_step above (suc m) st.node w.0 w.1 w.3 st.place w.2.place

  by_steps : (above : List Step) → IsWay (reading_of s.bytes kind owned) 0 root above e.step.node e.front e.back → (i : ℕ) → i < length (reading_of s.bytes kind owned e.step.node).children
      → 1 ≤ length (node_at s.bytes kind root).children
  by_steps above w i low = last_step above 0 e.step.node e.front e.back w i low
