-- A child comes in along a way: so what stands there goes into the tree of keys.
use Rattle.std.proofs.Common.{◌≡◌, ◌≢◌, ℕ, suc, ◌+◌, ◌≤◌, Bool, true, false, List, [], ◌∷◌, ◌++◌, length, take, drop, get_or, sym, subst, arith, add-one}
use Rattle.std.specs.Prelude.{if◌then◌else◌}
use Rattle.std.specs.List.{AllByRecursion, insert, remove}
use Rattle.h5_bytes.specs.Bytes.{undefined_address}
use Rattle.h5_bytes.proofs.BlockLaws.{all_left, all_right}
use Rattle.h5_model.specs.Format.Rows.{Node, Reading}
use Rattle.h5_model.specs.Format.Nodes.{Kind, node_at, reading_of}
use Rattle.h5_laws.specs.Ladders.{Sides}
use Rattle.h5_laws.specs.KeyTrees.{KeyTree, items_in, IsSorted}
use Rattle.h5_laws.specs.KeyEdits.{Grown, Two, IsHeld, LetIn}
use Rattle.h5_laws.proofs.KeyLadders.{Ladder, around}
use Rattle.h5_space.specs.Space.{Space}
use Rattle.h5_btree.specs.Climb.{IsNoNode}
use Rattle.h5_btree.specs.Held.{AreHeldKeys}
use Rattle.h5_btree.specs.Insertion.{IsPutAlong, KeepsEntries, Owns}
use Rattle.h5_btree.specs.Keyed.{AtChild, trees_below, keys_from}
use Rattle.h5_btree.specs.Removal.{EndsInTree}
use Rattle.h5_btree.specs.declared.way.Step.{Step}
use Rattle.h5_btree.proofs.KeyedTrees.{StandsAlike}
use Rattle.h5_btree.proofs.KeyedOwn.{keys_cut, long_trees, trees_cut}
use Rattle.h5_btree.proofs.KeyedOff.{off_out, off_steps, off_here, off_stands, off_is, off_count}
use Rattle.h5_btree.proofs.KeyedGrown.{IsWide, wide_behind, wide_before}
use Rattle.h5_btree.proofs.KeyedClimb.{AreHeld, IsDone, sorted_way, climbs}
use Rattle.h5_btree.proofs.KeyedHolds.{IsTestOf, held_by_test}

module _ {B X : Type 0} (sides : Sides (List ℕ) X) (items : B → List X) (Base : B → Type 0) (Puts : B → Grown (List ℕ) B → Type 0) (x : X) (low high : List ℕ)
    (new : LetIn sides x low high) (follows : List ℕ → List ℕ → Bool) where
  -- A new child comes in with this key, behind child i of a node of level 0, where the keys around that child let the item in; or
  -- before the first one, where the first key does not let it in, and the new key is a lower one that does. What stood at the child is cut in
  -- two, with the item in its place, and a key between the two.
  abbrev pub ComesInAt : Bool → AtChild B → AtChild B → List (List ℕ) → List ℕ → ℕ → List ℕ → ℕ → Type 0
  ComesInAt true was now keys children i key child =
      sides.Right (get_or keys i []) x × sides.Left x (get_or keys (suc i) [])
      × ((u : List ℕ) × Puts (was (get_or keys i []) (get_or children i 0)) (Two (now (get_or keys i []) (get_or children i 0)) u (now key child))
      × IsHeld sides (get_or keys i []) (get_or keys (suc i) []) u key)
  ComesInAt false was now keys children i key child =
      (i ≡ 0) × (key ≡ low) × (sides.Right (get_or keys i []) x → ⊥) × sides.Left x (get_or keys (suc i) [])
      × Puts (was (get_or keys i []) (get_or children i 0)) (Two (now low child) (get_or keys i []) (now (get_or keys i []) (get_or children i 0)))

  module _ (s t : Space) (kind : Kind) (root level : ℕ) (way : List Step) (owned list : List ℕ) (k : ℕ) (e : EndsInTree s kind root level way owned list k)
      (some : 1 ≤ kind.k) (behind : Bool) (keys : List ℕ) (child : ℕ)
      (along : IsPutAlong s.bytes t.bytes kind e.step.node e.above (if behind then e.step.place + 1 else e.step.place) keys child)
      (others : (n : ℕ) → Owns owned n → AllByRecursion (λ (step : Step). n ≢ step.node) way → KeepsEntries s.bytes t.bytes kind n)
      (held : AreHeldKeys s.bytes kind follows e.step.node e.above (if behind then e.step.place + 1 else e.step.place) keys)
      (was now : AtChild B) (same : AllByRecursion (λ c. (key : List ℕ) → now key c ≡ was key c) (remove list k))
      (comes : ComesInAt behind was now (node_at s.bytes kind e.step.node).keys (node_at s.bytes kind e.step.node).children e.step.place (take kind.key_length keys) child)
      (admits : AllByRecursion (λ (st : Step). sides.Right (get_or (node_at s.bytes kind st.node).keys st.place []) x
      × sides.Left x (get_or (node_at s.bytes kind st.node).keys (suc st.place) [])) e.above) where
    abbrev V : Reading
    V = node_at s.bytes kind

    abbrev W : Reading
    W = node_at t.bytes kind

    abbrev Y : Reading
    Y = reading_of s.bytes kind owned

    abbrev p : ℕ
    p = e.step.node

    abbrev i : ℕ
    i = e.step.place

    abbrev S : (height : ℕ) → KeyTree (List ℕ) B height → Type 0
    S = IsSorted sides items Base

    abbrev I : (height : ℕ) → KeyTree (List ℕ) B height → List X
    I = items_in (List ℕ) items

    abbrev pub out : IsNoNode Y undefined_address
    out = off_out s t kind root level way owned list k e others was now same

    pub steps : level ≡ length e.above
    steps = off_steps s t kind root level way owned list k e others was now same

    pub here : Y p ≡ V p
    here = off_here s t kind root level way owned list k e others was now same

    stands_here : AllByRecursion (StandsAlike Y W was now) (take i (Y p).children ++ drop (suc i) (Y p).children)
    stands_here = off_stands s t kind root level way owned list k e others was now same

    module _ (sorted : S (suc level) (keys_from Y was level root)) where
      -- ---- the node of level 0

      count : length (Y p).keys ≡ length (Y p).children + 1
      count = off_count s t kind root level way owned list k e others was now same

      sorted_p : S 1 (keys_from Y was 0 p)
      sorted_p = sorted_way sides items Base Puts x low high follows s.bytes t.bytes kind root level owned out e.tree.low e.tree.formed some was now e.above 0 p e.front e.back
          (let h = steps in omega (arith, h)) e.leads sorted

      rise_p : sides.Rise (get_or (Y p).keys i []) (get_or (Y p).keys (suc i) [])
      rise_p =
          let K = (Y p).keys in
          let xs = trees_below Y was 0 (take i K) (take i (Y p).children) in
          let ys = trees_below Y was 0 (get_or K (suc i) [] ∷ drop (suc (suc i)) K) (drop (suc i) (Y p).children) in
          let c = was (get_or K i []) (get_or (Y p).children i 0) in
          let ladder = subst (λ (ts : List B). Ladder sides (I 0) K ts) (trees_cut Y was 0 K (Y p).children i count e.place) sorted_p.0 in
          (around sides (I 0) (take i K) (get_or K i []) (get_or K (suc i) []) (drop (suc (suc i)) K) xs c ys (long_trees Y was 0 K (Y p).children i count e.place)
          (subst (λ (ks : List (List ℕ)). Ladder sides (I 0) ks (xs ++ c ∷ ys)) (keys_cut Y was 0 K (Y p).children i count e.place) ladder)).rise

      abbrev Wide : List (List ℕ) → List ℕ → Type 0
      Wide = IsWide sides Puts kind.k x low high Y W was now 0 (Y p).keys (Y p).children

      abbrev key : List ℕ
      key = take kind.key_length keys

      wide : (b : Bool) → ComesInAt b was now (Y p).keys (Y p).children i key child
          → Wide (insert (Y p).keys (if b then i + 1 else i) key) (insert (Y p).children (if b then i + 1 else i) child)
      wide true is =
          let more : suc i ≡ i + 1 = sym (add-one i) in
          subst (λ (j : ℕ). Wide (insert (Y p).keys j key) (insert (Y p).children j child)) more
          (wide_behind sides Puts kind.k x low high Y W was now 0 (Y p).keys (Y p).children i count e.place
          (all_left (StandsAlike Y W was now) (take i (Y p).children) (drop (suc i) (Y p).children) stands_here)
          (all_right (StandsAlike Y W was now) (take i (Y p).children) (drop (suc i) (Y p).children) stands_here)
          is.0 is.1 is.2.0 key child is.2.1 is.2.2)
      wide false is =
          subst (λ (v : List ℕ). Wide (insert (Y p).keys i v) (insert (Y p).children i child)) (sym is.1)
          (wide_before sides Puts kind.k x low high Y W was now 0 (Y p).keys (Y p).children i count e.place
          (all_left (StandsAlike Y W was now) (take i (Y p).children) (drop (suc i) (Y p).children) stands_here)
          (all_right (StandsAlike Y W was now) (take i (Y p).children) (drop (suc i) (Y p).children) stands_here)
          is.0 is.2 is.3 child is.4 (new.lower (get_or (Y p).keys i []) is.2) rise_p)

      within : (b : Bool) → (if b then i + 1 else i) ≤ length (Y p).children
      within true = let l = e.place in omega (arith, l)
      within false = let l = e.place in omega (arith, l)

      -- ---- up to the root

      pub done : AreHeld sides items Base Puts x low high follows s.bytes t.bytes kind root level owned out e.tree.low e.tree.formed some was now
          → IsDone sides items Base Puts x low high follows s.bytes t.bytes kind root level owned out e.tree.low e.tree.formed some was now
      done hold = climbs sides items Base Puts x low high follows s.bytes t.bytes kind root level owned out e.tree.low e.tree.formed some was now hold sorted
          e.above 0 p (if behind then i + 1 else i) keys child e.front e.back (let h = steps in omega (arith, h)) e.leads e.row (off_is s t kind root level way owned list k e others was now same) admits along held (within behind)
          (wide behind (subst (λ (o : Node). ComesInAt behind was now o.keys o.children i key child) (sym here) comes))

      -- THE ITEM GOES INTO THE TREE OF KEYS, where the test of keys is their order
      pub made : IsTestOf sides follows → IsDone sides items Base Puts x low high follows s.bytes t.bytes kind root level owned out e.tree.low e.tree.formed some was now
      made test = done (λ m n f bk a b l u h deep rows ordered lies right left goes. held_by_test sides follows test l u h)
