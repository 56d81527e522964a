-- A tree of which only keys have changed: its nodes stand where they stood, and over the same.
use Rattle.std.proofs.Common.{◌≡◌, ◌≢◌, ℕ, zero, suc, ◌≤◌, ◌==◌, Bool, true, false, List, [], ◌∷◌, length, map, refl, sym, ap, ap₂, ◌∙◌, subst, arith}
use Rattle.std.specs.Prelude.{if◌then◌else◌}
use Rattle.std.specs.List.{AllByRecursion, flat_map, list_any}
use Rattle.h5_bytes.proofs.BlockLaws.{all_so}
use Rattle.h5_model.specs.Format.Rows.{Node, Reading, blank}
use Rattle.h5_model.specs.Format.Nodes.{Kind, IsNode, HasTree, entries_in, node_at, node_bytes, node_of, reading_of, tree_blocks}
use Rattle.h5_model.proofs.RowLaws.{all_listed, at_listed}
use Rattle.h5_laws.proofs.Entries.{flat-same}
use Rattle.h5_space.specs.Space.{Space}
use Rattle.h5_space.specs.Moves.{Moves}
use Rattle.h5_space.specs.Whole.{IsApart}
use Rattle.h5_space.proofs.MovesLaws.{moves_then}
use Rattle.h5_btree.specs.Climb.{KeepsRows}
use Rattle.h5_btree.specs.Insertion.{Owns}
use Rattle.h5_btree.specs.Retired.{StandsUnder, IsSubtree, keys_below}
use Rattle.h5_btree.specs.Rewritten.{IsRewritten}
use Rattle.h5_btree.proofs.ClimbSteps.{all_from, at_or, inside_of_apart}
use Rattle.h5_btree.proofs.NodeLaws.{length-children}
use Rattle.h5_btree.proofs.SplitSteps.{apart_then, written_moves, written_others}
use Rattle.h5_btree.proofs.WayRows.{AreRows-keyed, leaves-keyed, nodes-keyed}
use Rattle.h5_btree.proofs.OrderLaws.BetweenLaws.{each_up}
use Rattle.h5_btree.proofs.KeyedKeys.{all_mapped}

-- ---- lists

-- functions that agree on a list have the same images
pub map_same : {X Y : Type 0} (f g : X → Y) (xs : List X) → AllByRecursion (λ x. f x ≡ g x) xs → map f xs ≡ map g xs
map_same f g [] all = refl
map_same {Y = Y} f g (x ∷ xs) all = ap₂ (λ (a : Y) (b : List Y). a ∷ b) all.0 (map_same f g xs all.1)

-- ---- what is so of the items at the bottom is so of those below a node

module _ (P : List ℕ → Type 0) (V : Reading) (keys : ℕ → List (List ℕ)) (owned list : List ℕ) (named : AllByRecursion (λ at. AllByRecursion P (keys at)) list) where
  pub under_named : (height at : ℕ) → IsSubtree V owned list height at → AllByRecursion P (keys_below V keys height at)
  under_named zero at is = at_listed (λ at'. AllByRecursion P (keys at')) list at named is
  under_named (suc height) at is =
      each_up P (keys_below V keys height) (V at).children
      (all_so (IsSubtree V owned list height) (λ c. AllByRecursion P (keys_below V keys height c)) (V at).children (under_named height) is.2)

  pub lists_named : (level at : ℕ) → IsSubtree V owned list (suc level) at → AllByRecursion (AllByRecursion P) (map (keys_below V keys level) (V at).children)
  lists_named level at is =
      all_mapped (AllByRecursion P) (keys_below V keys level) (V at).children
      (all_so (IsSubtree V owned list level) (λ c. AllByRecursion P (keys_below V keys level c)) (V at).children (under_named level) is.2)

-- ---- keys alone have changed

pub record IsKeyed (s t : Space) (kind : Kind) (owned : List ℕ) : Type 0 where
  pub nodes : (n : ℕ) → Owns owned n → (keys : List (List ℕ)) × (node_at t.bytes kind n ≡ record (node_at s.bytes kind n) { keys = keys })
  pub formed : AllByRecursion (λ n. IsNode kind (node_bytes t.bytes kind n)) owned
  pub moves : Moves s t (tree_blocks kind owned) (tree_blocks kind owned)

pub keyed_apart : (s t : Space) (kind : Kind) (owned : List ℕ) → IsApart (tree_blocks kind owned) s.free (length s.bytes) → IsKeyed s t kind owned
    → IsApart (tree_blocks kind owned) t.free (length t.bytes)
keyed_apart s t kind owned apart k = apart_then s t (tree_blocks kind owned) (tree_blocks kind owned) k.moves apart

-- one node more is written
module _ (s t u : Space) (kind : Kind) (owned : List ℕ) (apart : IsApart (tree_blocks kind owned) s.free (length s.bytes)) (k : IsKeyed s t kind owned) (at : ℕ) (listed : Owns owned at)
    (keys : List (List ℕ)) (r : IsRewritten t u kind at (record (node_at t.bytes kind at) { keys = keys })) where
  pub node_other : (n : ℕ) → Owns owned n → n ≢ at → node_bytes u.bytes kind n ≡ node_bytes t.bytes kind n
  node_other = written_others t u kind owned at _ (keyed_apart s t kind owned apart k) listed r

  pub keyed_moves : Moves s u (tree_blocks kind owned) (tree_blocks kind owned)
  keyed_moves = moves_then s t u (tree_blocks kind owned) (tree_blocks kind owned) (tree_blocks kind owned) k.moves (written_moves t u kind owned at _ (keyed_apart s t kind owned apart k) listed r)

  pub keyed_formed : AllByRecursion (λ n. IsNode kind (node_bytes u.bytes kind n)) owned
  keyed_formed = all_from owned (λ n. IsNode kind (node_bytes u.bytes kind n)) (λ n is. at_or at n
      (λ same. subst (λ (i : ℕ). IsNode kind (node_bytes u.bytes kind i)) (sym same) r.form)
      (λ other. subst (IsNode kind) (sym (node_other n is other)) (at_listed (λ m. IsNode kind (node_bytes t.bytes kind m)) owned n k.formed is))) owned (all_listed owned)

  pub keyed_more : IsKeyed s u kind owned
  keyed_more = record {
    nodes = λ n is. at_or at n
        (λ same. (
          keys,
          subst (λ (i : ℕ). node_at u.bytes kind i ≡ record (node_at s.bytes kind i) { keys = keys }) (sym same)
              (r.says ∙ ap (λ (o : Node). record o { keys = keys }) (k.nodes at listed).1),
        ))
        (λ other. let was = k.nodes n is in (was.0, ap (node_of kind) (node_other n is other) ∙ was.1));
    formed = keyed_formed;
    moves = keyed_moves;
  }

module _ (s t : Space) (kind : Kind) (owned list : List ℕ) (apart : IsApart (tree_blocks kind owned) s.free (length s.bytes)) (k : IsKeyed s t kind owned) where
  abbrev V : Reading
  V = node_at s.bytes kind

  abbrev W : Reading
  W = node_at t.bytes kind

  pub keyed_children : (n : ℕ) → Owns owned n → (W n).children ≡ (V n).children
  keyed_children n is = ap (λ (o : Node). o.children) (k.nodes n is).1

  -- nodes stand there, over what stands
  pub keyed_under : (stands : ℕ → Type 0) → AllByRecursion stands list → (height at : ℕ) → IsSubtree V owned list height at → StandsUnder stands t.bytes kind height at
  keyed_under stands all zero at is = at_listed stands list at all is
  keyed_under stands all (suc height) at is = (
    (
      inside_of_apart t kind owned (keyed_apart s t kind owned apart k) at is.0,
      at_listed (λ n. IsNode kind (node_bytes t.bytes kind n)) owned at k.formed is.0,
    ),
    subst (AllByRecursion (StandsUnder stands t.bytes kind height)) (sym (keyed_children at is.0))
        (all_so (IsSubtree V owned list height) (StandsUnder stands t.bytes kind height) (V at).children (keyed_under stands all height) is.2),
  )

  -- the items below are the same
  module _ (was now : ℕ → List (List ℕ)) (same : AllByRecursion (λ at. now at ≡ was at) list) where
    pub keyed_below : (height at : ℕ) → IsSubtree V owned list height at → keys_below W now height at ≡ keys_below V was height at
    keyed_below zero at is = at_listed (λ at'. now at' ≡ was at') list at same is
    keyed_below (suc height) at is =
        ap (flat_map (keys_below W now height)) (keyed_children at is.0)
        ∙ flat-same (keys_below W now height) (keys_below V was height) (V at).children
        (all_so (IsSubtree V owned list height) (λ c. keys_below W now height c ≡ keys_below V was height c) (V at).children (keyed_below height) is.2)

    pub keyed_lists : (level at : ℕ) → IsSubtree V owned list (suc level) at → map (keys_below W now level) (W at).children ≡ map (keys_below V was level) (V at).children
    keyed_lists level at is =
        ap (map (keys_below W now level)) (keyed_children at is.0)
        ∙ map_same (keys_below W now level) (keys_below V was level) (V at).children
        (all_so (IsSubtree V owned list level) (λ c. keys_below W now level c ≡ keys_below V was level c) (V at).children (keyed_below level) is.2)

  -- it is the same tree
  pub keyed_tree : (root level : ℕ) → HasTree s.bytes kind root level owned list → HasTree t.bytes kind root level owned list
  keyed_tree root level has = record {
    low = has.low;
    formed = k.formed;
    filled = λ high. all_from owned (λ n. 1 ≤ entries_in (node_bytes t.bytes kind n)) (λ n is.
        let a = length-children kind (node_bytes t.bytes kind n) (W n) refl in
        let b = length-children kind (node_bytes s.bytes kind n) (V n) refl in
        let c = ap (λ (cs : List ℕ). length cs) (keyed_children n is) in
        let old = at_listed (λ m. 1 ≤ entries_in (node_bytes s.bytes kind m)) owned n (has.filled high) is in
        omega (arith, a, b, c, old)) owned (all_listed owned);
    rows = AreRows-keyed (reading_of s.bytes kind owned) (reading_of t.bytes kind owned) same_rows level (root ∷ []) has.rows;
    owns = has.owns ∙ sym (nodes-keyed (reading_of s.bytes kind owned) (reading_of t.bytes kind owned) same_rows level (root ∷ []));
    all = has.all ∙ sym (leaves-keyed (reading_of s.bytes kind owned) (reading_of t.bytes kind owned) same_rows level (root ∷ []));
  } where
    same_rows : KeepsRows (reading_of s.bytes kind owned) (reading_of t.bytes kind owned)
    same_rows m = go (list_any (λ i. i == m) owned) refl where
      go : (b : Bool) → list_any (λ i. i == m) owned ≡ b
          → (ks : List (List ℕ)) × ((if b then node_at t.bytes kind m else blank) ≡ record (if b then node_at s.bytes kind m else blank) { keys = ks })
      go false off = ([], refl)
      go true on = k.nodes m on
