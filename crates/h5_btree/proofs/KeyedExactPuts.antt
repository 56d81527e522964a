-- Keys of a group's tree stay exact where an item comes in: at a child that stays, or with a child more, which is cut off another.
use Rattle.std.proofs.Common.{◌≡◌, ◌≢◌, inl, inr, ℕ, suc, ◌+◌, ◌≤◌, Bool, List, [], ◌∷◌, ◌++◌, length, take, get_or, refl, sym, ap, ◌∙◌, subst, arith}
use Rattle.std.specs.Prelude.{Option, None, if◌then◌else◌}
use Rattle.std.specs.Bool.{⊤}
use Rattle.std.specs.List.{AllByRecursion, remove}
use Rattle.h5_model.specs.Format.Links.{Before, NotAfter}
use Rattle.h5_model.specs.Format.Rows.{Reading}
use Rattle.h5_model.specs.Format.Nodes.{Kind, HasTree, node_at, reading_of}
use Rattle.h5_model.proofs.OneTree.{level_is}
use Rattle.h5_laws.specs.ExactKeys.{IsExact}
use Rattle.h5_laws.specs.ExactWays.{IsExactFor}
use Rattle.h5_laws.specs.KeyEdits.{Grown, One, Two, Inserts, IsPut, IsRaised}
use Rattle.h5_laws.specs.KeyTrees.{KeyTree, IsSorted}
use Rattle.h5_laws.specs.NameLadders.{key_sides}
use Rattle.h5_laws.proofs.ExactKeysLast.{some_there}
use Rattle.h5_laws.proofs.ExactKeysMore.{IsCutExact, IsExactGrown, inserts_exact, raised_exact}
use Rattle.h5_laws.proofs.ExactKeysNames.{key_let_in, key_order, key_own, key_parts, key_through}
use Rattle.h5_laws.proofs.KeyDepth.{EachGrown, IsBushy, bushy_grown}
use Rattle.h5_laws.proofs.KeyInserts.{IsGrown}
use Rattle.h5_space.specs.Space.{Space}
use Rattle.h5_btree.specs.Exact.{AreKeysExact}
use Rattle.h5_btree.specs.Held.{AreHeldKeys}
use Rattle.h5_btree.specs.Insertion.{IsPutAlong, KeepsEntries, Owns}
use Rattle.h5_btree.specs.Keyed.{AtChild, trees_below, keys_from, IsInOrder}
use Rattle.h5_btree.specs.Removal.{EndsInTree}
use Rattle.h5_btree.specs.Retired.{lowest_key}
use Rattle.h5_btree.specs.declared.way.Step.{Step}
use Rattle.h5_btree.proofs.KeyedBushy.{bushy_tree, way_child}
use Rattle.h5_btree.proofs.KeyedComes.{ComesInAt, made}
use Rattle.h5_btree.proofs.KeyedFills.{filled_made}
use Rattle.h5_btree.proofs.KeyedHolds.{IsTestOf}
use Rattle.h5_btree.proofs.KeyedOwn.{keys_own}

abbrev Keys : Type 0
Keys = List (List ℕ)

-- A root with one item has exact keys, where the last of them is that item's,
pub first_exact : (V : Reading) (keys : ℕ → List (List ℕ)) (root child : ℕ) (low x : List ℕ) → (V root).keys ≡ low ∷ x ∷ [] → (V root).children ≡ child ∷ [] → keys child ≡ x ∷ []
    → AreKeysExact (λ k. ⊥) keys V 0 root
first_exact V keys root child low x keys_are children_are one =
    subst (λ (ks : Keys). IsExact (λ (k : List ℕ). ⊥) (λ (key : List ℕ). key) lowest_key (λ (b : Keys). b) 1 None (ks, trees_below V (λ key c. keys c) 0 ks (V root).children)) (sym keys_are)
    (subst (λ (cs : List ℕ). IsExact (λ (k : List ℕ). ⊥) (λ (key : List ℕ). key) lowest_key (λ (b : Keys). b) 1 None (low ∷ x ∷ [], trees_below V (λ key c. keys c) 0 (low ∷ x ∷ []) cs))
    (sym children_are) ((tt, (inr (inr (x, [], one, refl)), tt)), (tt, tt)))

-- and so has one without a child.
pub bare_exact : (V : Reading) (keys : ℕ → List (List ℕ)) (root : ℕ) (key : List ℕ) → (V root).keys ≡ key ∷ [] → (V root).children ≡ [] → AreKeysExact (λ k. ⊥) keys V 0 root
bare_exact V keys root key keys_are children_are =
    subst (λ (ks : Keys). IsExact (λ (k : List ℕ). ⊥) (λ (key : List ℕ). key) lowest_key (λ (b : Keys). b) 1 None (ks, trees_below V (λ key c. keys c) 0 ks (V root).children)) (sym keys_are)
    (subst (λ (cs : List ℕ). IsExact (λ (k : List ℕ). ⊥) (λ (key : List ℕ). key) lowest_key (λ (b : Keys). b) 1 None (key ∷ [], trees_below V (λ key c. keys c) 0 (key ∷ []) cs))
    (sym children_are) ((tt, tt), tt))

-- An item with this key comes in, whose text comes in order among those of the others.
module _ (text : List ℕ → List ℕ) (empty : text lowest_key ≡ []) (x : List ℕ) (own : Before [] (text x)) where
  abbrev Id : Keys → Keys
  Id b = b

  abbrev Top : Keys → Type 0
  Top b = ⊤

  abbrev Under : List ℕ → List ℕ → Type 0
  Under y z = Before (text y) (text z)

  -- the keys are exact, but for those that were moved to let it in
  abbrev pub AreExactFor : Reading → (ℕ → List (List ℕ)) → ℕ → ℕ → Type 0
  AreExactFor V keys level root = IsExactFor (key_sides text) x (λ (key : List ℕ). key) lowest_key (λ (b : Keys). b) (suc level) None (keys_from V (λ key c. keys c) level root)

  abbrev pub IsGrownBy : Keys → Grown (List ℕ) Keys → Type 0
  IsGrownBy = IsGrown (key_sides text) (key_order text) (λ y z. Before (text y) (text z)) (key_through text) (key_parts text) (λ (c : Keys). c) (λ (c : Keys). ⊤) x 0

  -- What stood at a child has one item more; or it is cut in two, each of which has some, and the key between them is that of the last item
  -- of the first.
  abbrev pub Cuts : Keys → Grown (List ℕ) Keys → Type 0
  Cuts b (One a) = IsGrown (key_sides text) (key_order text) (λ y z. Before (text y) (text z)) (key_through text) (key_parts text) (λ (c : Keys). c) (λ (c : Keys). ⊤) x 0 b (One a)
  Cuts b (Two a u c) =
      IsGrown (key_sides text) (key_order text) (λ y z. Before (text y) (text z)) (key_through text) (key_parts text) (λ (c : Keys). c) (λ (c : Keys). ⊤) x 0 b (Two a u c)
      × (c ≡ [] → ⊥) × ((front : Keys) × (a ≡ front ++ u ∷ []))

  grown_by : (b : Keys) (r : Grown (List ℕ) Keys) → Top b → Cuts b r → IsGrownBy b r
  grown_by b (One a) base cuts = cuts
  grown_by b (Two a u c) base cuts = cuts.0

  filled_by : (xs : Keys) → (xs ≡ [] → ⊥) → 1 ≤ length xs
  filled_by [] some = absurd (some refl)
  filled_by (y ∷ xs) some = omega arith

  each_filled : (b : Keys) (r : Grown (List ℕ) Keys) → 1 ≤ length b → Cuts b r → EachGrown (λ (c : Keys). 1 ≤ length c) r
  each_filled b (One a) was cuts = filled_by a (λ none. some_there (cuts.1).front x (cuts.1).back (sym (cuts.1).after ∙ none))
  each_filled b (Two a u c) was cuts = (filled_by a (λ none. some_there cuts.2.0 u [] (sym cuts.2.1 ∙ none)), filled_by c cuts.1)

  abbrev E : (height : ℕ) → KeyTree (List ℕ) Keys height → Type 0
  E height t = IsExact (λ (k : List ℕ). ⊥) (λ (key : List ℕ). key) lowest_key (λ (b : Keys). b) height None t

  module _ (k : ℕ) (some : 1 ≤ k) where
    abbrev Grows : (height : ℕ) → Option (List ℕ) → Grown (List ℕ) (KeyTree (List ℕ) Keys height) → Type 0
    Grows = IsExactGrown (key_sides text) (key_order text) Under (key_through text) (key_parts text) Id Top (λ (key : List ℕ). key) lowest_key (key_own text) k some x
        (key_let_in text x lowest_key empty own)

    cut_last : (b : Keys) (r : Grown (List ℕ) Keys) → Cuts b r
        → IsCutExact (key_sides text) (key_order text) Under (key_through text) (key_parts text) Id Top (λ (key : List ℕ). key) lowest_key (key_own text) k some x
        (key_let_in text x lowest_key empty own) r
    cut_last b (One a) cuts = tt
    cut_last b (Two a u c) cuts = (cuts.1, (u, cuts.2, refl))

    -- of a tree of keys
    goes_in : (low height : ℕ) (t : KeyTree (List ℕ) Keys height) (r : Grown (List ℕ) (KeyTree (List ℕ) Keys height)) → IsSorted (key_sides text) Id Top height t
        → IsBushy (List ℕ) Id k some low height t → IsExactFor (key_sides text) x (λ (key : List ℕ). key) lowest_key Id height None t
        → Inserts (key_sides text) Cuts k x lowest_key x height t r → Grows height None r
    goes_in low height t r sorted bushy exact ins =
        inserts_exact (key_sides text) (key_order text) Under (key_through text) (key_parts text) Id Top (λ (key : List ℕ). key) lowest_key (key_own text) k some x
        (key_let_in text x lowest_key empty own) Cuts grown_by cut_last low height None t r sorted bushy tt exact ins

    -- of a root of two halves
    goes_up : (low height : ℕ) (t p : KeyTree (List ℕ) Keys (suc height)) (m : List ℕ) (q : KeyTree (List ℕ) Keys (suc height)) (raised : KeyTree (List ℕ) Keys (suc (suc height)))
        → IsSorted (key_sides text) Id Top (suc height) t → IsBushy (List ℕ) Id k some low (suc height) t
        → IsExactFor (key_sides text) x (λ (key : List ℕ). key) lowest_key Id (suc height) None t
        → Inserts (key_sides text) Cuts k x lowest_key x (suc height) t (Two p m q) → IsRaised p m q raised → E (suc (suc height)) raised
    goes_up low height t p m q raised sorted bushy exact ins is =
        raised_exact (key_sides text) (key_order text) Under (key_through text) (key_parts text) Id Top (λ (key : List ℕ). key) lowest_key (key_own text) k some x
        (key_let_in text x lowest_key empty own) low height p m q raised (goes_in low (suc height) t (Two p m q) sorted bushy exact ins)
        (bushy_grown (List ℕ) Id k some (key_sides text) x lowest_key x Cuts low each_filled (suc height) t (Two p m q) bushy ins).1 is

  module _ (s : Space) (kind : Kind) (root level : ℕ) (way : List Step) (owned list : List ℕ) (k : ℕ) (e : EndsInTree s kind root level way owned list k) (some : 1 ≤ kind.k)
      (was now : ℕ → List (List ℕ)) (named : AllByRecursion (λ c. 1 ≤ length (was c)) list) (same : AllByRecursion (λ c. (key : List ℕ) → now c ≡ was c) (remove list k))
      (admits : AllByRecursion (λ (st : Step). Before (text (get_or (node_at s.bytes kind st.node).keys st.place [])) (text x)
      × NotAfter (text x) (text (get_or (node_at s.bytes kind st.node).keys (suc st.place) []))) e.above) where
    abbrev V : Reading
    V = node_at s.bytes kind

    abbrev Y : Reading
    Y = reading_of s.bytes kind owned

    abbrev at_was : AtChild Keys
    at_was key c = was c

    abbrev at_now : AtChild Keys
    at_now key c = now c

    abbrev Old : KeyTree (List ℕ) Keys (suc level)
    Old = keys_from Y at_was level root

    same_tree : keys_from V at_was level root ≡ Old
    same_tree = keys_own s.bytes kind root level owned list e.tree at_was

    -- the root has a child, since a way begins there
    root_child : 1 ≤ length (V root).children
    root_child = way_child s kind root level way owned list k e

    bushy : IsBushy (List ℕ) Id kind.k some (suc level) (suc level) Old
    bushy = subst (IsBushy (List ℕ) Id kind.k some (suc level) (suc level)) same_tree (bushy_tree s kind root level owned list e.tree was named kind.k some root_child)

    -- THE KEYS ARE EXACT where it comes in at the child at the end of a way, between the keys around it.
    pub filled_exact : Before (text (get_or (node_at s.bytes kind e.step.node).keys e.step.place [])) (text x)
        → NotAfter (text x) (text (get_or (node_at s.bytes kind e.step.node).keys (suc e.step.place) []))
        → IsPut (λ (y z : List ℕ). Before (text y) (text z)) x (was (get_or (node_at s.bytes kind e.step.node).children e.step.place 0))
        (now (get_or (node_at s.bytes kind e.step.node).children e.step.place 0))
        → IsInOrder (key_sides text) (λ (b : Keys). b) (λ (b : Keys). ⊤) s.bytes kind (λ key c. was c) level root → AreExactFor (node_at s.bytes kind) was level root
        → AreKeysExact (λ k. ⊥) now (node_at s.bytes kind) level root
    filled_exact right left put sorted exact =
        goes_in kind.k some (suc level) (suc level) Old (One (keys_from V at_now level root)) (subst (IsSorted (key_sides text) Id Top (suc level)) same_tree sorted) bushy
        (subst (IsExactFor (key_sides text) x (λ (key : List ℕ). key) lowest_key Id (suc level) None) same_tree exact)
        (filled_made (key_sides text) (key_order text) Id Top x s kind root level way owned list k e at_was at_now same lowest_key x some right left admits Cuts (tt, put))

    -- THE KEYS ARE EXACT where a child is put in along a way, with a part of what stood at the child at its end. The test of keys is their order.
    module _ (t : Space) (behind : Bool) (keys : List ℕ) (child : ℕ)
        (along : IsPutAlong s.bytes t.bytes kind e.step.node e.above (if behind then e.step.place + 1 else e.step.place) keys child)
        (others : (n : ℕ) → Owns owned n → AllByRecursion (λ (step : Step). n ≢ step.node) way → KeepsEntries s.bytes t.bytes kind n)
        (follows : List ℕ → List ℕ → Bool)
        (held : AreHeldKeys s.bytes kind follows e.step.node e.above (if behind then e.step.place + 1 else e.step.place) keys)
        (comes : ComesInAt (key_sides text) (λ (b : Keys). b) (λ (b : Keys). ⊤) Cuts x lowest_key x (key_let_in text x lowest_key empty own) follows behind (λ key c. was c) (λ key c. now c)
        (node_at s.bytes kind e.step.node).keys (node_at s.bytes kind e.step.node).children e.step.place (take kind.key_length keys) child)
        (height : ℕ) (all list' : List ℕ) (tree : HasTree t.bytes kind root height all list') where
      abbrev W : Reading
      W = node_at t.bytes kind

      abbrev New : (h : ℕ) → KeyTree (List ℕ) Keys (suc h)
      New h = keys_from W at_now h root

      pub put_exact : IsTestOf (key_sides text) follows → IsInOrder (key_sides text) (λ (b : Keys). b) (λ (b : Keys). ⊤) s.bytes kind (λ key c. was c) level root
          → AreExactFor (node_at s.bytes kind) was level root → AreKeysExact (λ k. ⊥) now (node_at t.bytes kind) height root
      put_exact test sorted exact =
          let in_order = subst (IsSorted (key_sides text) Id Top (suc level)) same_tree sorted in
          let ready = subst (IsExactFor (key_sides text) x (λ (key : List ℕ). key) lowest_key Id (suc level) None) same_tree exact in
          let old_level = level_is s.bytes kind root level owned list e.tree in
          let new_level = level_is t.bytes kind root height all list' tree in
          elim (made (key_sides text) Id Top Cuts x lowest_key x (key_let_in text x lowest_key empty own) follows s t kind root level way owned list k e some behind keys child along others held
          at_was at_now same comes admits in_order test) [
            | inl one ↦
                subst (λ (h : ℕ). E (suc h) (New h)) (sym old_level ∙ sym one.1 ∙ new_level) (goes_in kind.k some (suc level) (suc level) Old (One (New level)) in_order bushy ready one.0)
            | inr two ↦
                subst (λ (h : ℕ). E (suc h) (New h)) (ap (λ (l : ℕ). suc l) (sym old_level) ∙ sym two.5 ∙ new_level)
                (goes_up kind.k some (suc level) level Old (keys_from W at_now level two.0) two.2 (keys_from W at_now level two.1) (New (suc level)) in_order bushy ready two.3 two.4)
          ]
