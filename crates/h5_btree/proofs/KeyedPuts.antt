-- An insertion along a way leaves the keys in order, and the items are the old ones with the new one at its place.
use Rattle.std.proofs.Common.{◌≡◌, ◌≢◌, ◌⊎◌, inl, inr, ℕ, suc, ◌+◌, ◌≤◌, Bool, List, [], length, take, get_or, refl, sym, ap, ◌∙◌, subst, arith}
use Rattle.std.specs.Prelude.{if◌then◌else◌}
use Rattle.std.specs.List.{AllByRecursion, remove}
use Rattle.h5_bytes.specs.Bytes.{undefined_address}
use Rattle.h5_model.specs.Format.Rows.{Node, Reading}
use Rattle.h5_model.specs.Format.Nodes.{Kind, HasTree, entries_in, node_at, node_bytes, reading_of}
use Rattle.h5_model.proofs.OneTree.{level_is}
use Rattle.h5_model.proofs.RowLaws.{at_listed}
use Rattle.h5_laws.specs.Ladders.{Sides, IsOrderly}
use Rattle.h5_laws.specs.KeyTrees.{KeyTree, items_in, IsSorted}
use Rattle.h5_laws.specs.KeyEdits.{Grown, One, Two, IsPut, LetIn}
use Rattle.h5_laws.proofs.KeyInserts.{IsGrown, inserts_grown, raised_sorted}
use Rattle.h5_space.specs.Space.{Space}
use Rattle.h5_btree.specs.Climb.{IsNoNode}
use Rattle.h5_btree.specs.Held.{AreHeldKeys}
use Rattle.h5_btree.specs.Insertion.{IsPutAlong, KeepsEntries, Owns}
use Rattle.h5_btree.specs.Keyed.{AtChild, keys_from, IsInOrder, items_of_tree}
use Rattle.h5_btree.specs.Removal.{EndsInTree}
use Rattle.h5_btree.specs.declared.way.Step.{Step}
use Rattle.h5_btree.proofs.NodeLaws.{length-children}
use Rattle.h5_btree.proofs.TreeReadings.{owned_at, owned_of_level}
use Rattle.h5_btree.proofs.KeyedOwn.{keys_count, keys_own}
use Rattle.h5_btree.proofs.KeyedOff.{off_out}
use Rattle.h5_btree.proofs.KeyedClimb.{AreHeld}
use Rattle.h5_btree.proofs.KeyedComes.{ComesInAt, done}
use Rattle.h5_btree.proofs.KeyedHolds.{HasChild, IsTestOf, IsAlways, bushy_row, held_by_test, held_by_items}

module _ {B X : Type 0} (sides : Sides (List ℕ) X) (orderly : IsOrderly sides) (Below : X → X → Type 0)
    (through : (l h : List ℕ) (y : X) → sides.Right l y → sides.Left y h → sides.Rise l h) (parts : (y z : X) (k : List ℕ) → sides.Left y k → sides.Right k z → Below y z)
    (items : B → List X) (Base : B → Type 0) (x : X) (low high : List ℕ) (new : LetIn sides x low high) (follows : List ℕ → List ℕ → Bool) where
  -- what stood at a child is cut in two, with the item in its place, and a key between the two
  abbrev pub IsCutIn : B → B → List ℕ → B → Type 0
  IsCutIn b a u c = IsGrown sides orderly Below through parts items Base x 0 b (Two a u c)

  abbrev Puts : B → Grown (List ℕ) B → Type 0
  Puts = IsGrown sides orderly Below through parts items Base x 0

  -- a new child comes in, where what stood at another one is cut so
  abbrev pub ComesIn : Bool → AtChild B → AtChild B → List (List ℕ) → List ℕ → ℕ → List ℕ → ℕ → Type 0
  ComesIn = ComesInAt sides items Base Puts x low high new follows

  module _ (s t : Space) (kind : Kind) (root level : ℕ) (way : List Step) (owned list : List ℕ) (k : ℕ) (e : EndsInTree s kind root level way owned list k)
      (some : 1 ≤ kind.k) (behind : Bool) (keys : List ℕ) (child : ℕ)
      (along : IsPutAlong s.bytes t.bytes kind e.step.node e.above (if behind then e.step.place + 1 else e.step.place) keys child)
      (others : (n : ℕ) → Owns owned n → AllByRecursion (λ (step : Step). n ≢ step.node) way → KeepsEntries s.bytes t.bytes kind n)
      (held : AreHeldKeys s.bytes kind follows e.step.node e.above (if behind then e.step.place + 1 else e.step.place) keys)
      (was now : AtChild B) (same : AllByRecursion (λ c. (key : List ℕ) → now key c ≡ was key c) (remove list k))
      (comes : ComesIn behind was now (node_at s.bytes kind e.step.node).keys (node_at s.bytes kind e.step.node).children e.step.place (take kind.key_length keys) child)
      (admits : AllByRecursion (λ (st : Step). sides.Right (get_or (node_at s.bytes kind st.node).keys st.place []) x
      × sides.Left x (get_or (node_at s.bytes kind st.node).keys (suc st.place) [])) e.above) where
    abbrev V : Reading
    V = node_at s.bytes kind

    abbrev W : Reading
    W = node_at t.bytes kind

    abbrev Y : Reading
    Y = reading_of s.bytes kind owned

    abbrev S : (height : ℕ) → KeyTree (List ℕ) B height → Type 0
    S = IsSorted sides items Base

    abbrev I : (height : ℕ) → KeyTree (List ℕ) B height → List X
    I = items_in (List ℕ) items

    abbrev out : IsNoNode Y undefined_address
    out = off_out s t kind root level way owned list k e others was now same

    abbrev Held : Type 0
    Held = AreHeld sides items Base Puts x low high follows s.bytes t.bytes kind root level owned out e.tree.low e.tree.formed some was now

    has_child : 1 ≤ level → (c : ℕ) → (Y c).level ≤ level → HasChild Y c
    has_child high' c lower =
        let top = e.tree.low in
        let listed = owned_of_level V owned c (omega (arith, lower, top)) in
        let is = owned_at V owned c listed in
        let filled = at_listed (λ at. 1 ≤ entries_in (node_bytes s.bytes kind at)) owned c (e.tree.filled high') listed in
        let n = length-children kind (node_bytes s.bytes kind c) (V c) refl in
        subst (λ (o : Node). (length o.keys ≡ length o.children + 1) × (1 ≤ length o.children)) (sym is) (keys_count s.bytes kind c, omega (arith, filled, n))

    hold_items : IsAlways sides follows → ((b : B) → Base b → 1 ≤ length (items b))
        → Held
    hold_items always filled = λ m n f bk a b l u h deep rows ordered lies right left goes.
        held_by_items sides orderly Below through parts items Base filled x low high new follows always kind.k level some (suc m) (keys_from Y was m n) a b l u h
        (omega (arith, deep)) ordered
        (bushy_row Y sides items Base filled kind.k level some was m n f bk (omega (arith, deep)) rows (λ c lower. has_child (omega (arith, deep)) c (omega (arith, lower, deep))) ordered)
        lies right left goes

    hold : IsTestOf sides follows ⊎ (IsAlways sides follows × ((b : B) → Base b → 1 ≤ length (items b)))
        → Held
    hold (inl test) = λ m n f bk a b l u h deep rows ordered lies right left goes. held_by_test sides follows test l u h
    hold (inr both) = hold_items both.0 both.1

    abbrev IsMore : (height : ℕ) → Type 0
    IsMore height = S (suc height) (keys_from W now height root) × IsPut Below x (I (suc level) (keys_from V was level root)) (I (suc height) (keys_from W now height root))

    module _ (height : ℕ) (all list' : List ℕ) (tree : HasTree t.bytes kind root height all list') where
      -- THE KEYS STAY IN ORDER where a child is put in along a way, and the items are those of before with the new one at its place. The
      -- test of keys is their order; or it is always true, and something stands at each child.
      pub put_sorted : IsTestOf sides follows ⊎ (IsAlways sides follows × ((b : B) → Base b → 1 ≤ length (items b)))
          → IsInOrder sides items Base s.bytes kind was level root
          → IsInOrder sides items Base t.bytes kind now height root
          × IsPut Below x (items_of_tree items s.bytes kind was level root) (items_of_tree items t.bytes kind now height root)
      put_sorted tests ordered =
          let own = keys_own s.bytes kind root level owned list e.tree was in
          let sorted = subst (S (suc level)) own ordered in
          let Y_in = keys_from Y was level root in
          let old_level = level_is s.bytes kind root level owned list e.tree in
          let new_level = level_is t.bytes kind root height all list' tree in
          let back : (h : ℕ) → S (suc h) (keys_from W now h root) × IsPut Below x (I (suc level) Y_in) (I (suc h) (keys_from W now h root)) → IsMore h
          = λ h both. (both.0, subst (λ (t' : KeyTree (List ℕ) B (suc level)). IsPut Below x (I (suc level) t') (I (suc h) (keys_from W now h root))) (sym own) both.1) in
          elim (done sides items Base Puts x low high new follows s t kind root level way owned list k e some behind keys child along others held was now same comes admits
          sorted (hold tests)) [
            | inl one ↦
                subst IsMore (sym old_level ∙ sym one.1 ∙ new_level) (back level (inserts_grown sides orderly Below through parts items Base kind.k x low high new Puts (λ b r base puts. puts)
                (suc level) Y_in (One (keys_from W now level root)) sorted one.0))
            | inr two ↦
                subst IsMore (ap (λ (l : ℕ). suc l) (sym old_level) ∙ sym two.5 ∙ new_level) (back (suc level) (raised_sorted sides orderly Below through parts items Base kind.k x low high new level Y_in two.3.3.0 two.3.3.1
                (keys_from W now level two.0) two.2 (keys_from W now level two.1) (keys_from W now (suc level) root) two.3.3.3
                (inserts_grown sides orderly Below through parts items Base kind.k x low high new Puts (λ b r base puts. puts) (suc level) Y_in
                (Two (keys_from W now level two.0) two.2 (keys_from W now level two.1)) sorted two.3) two.4))
          ]
