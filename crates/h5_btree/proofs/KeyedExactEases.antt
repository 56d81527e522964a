-- Keys of a group's tree that are exact, and whose end keys on a way give way to let an item in: they are exact but for that.
use Rattle.std.proofs.Common.{◌≡◌, ◌≢◌, ◌⊎◌, inl, inr, ℕ, suc, ◌+◌, ◌<◌, ◌≤◌, true, List, [], ◌∷◌, ◌++◌, length, take, drop, get_or, refl, sym, ap, ap₂, ◌∙◌, subst, arith}
use Rattle.std.specs.Prelude.{Option, None}
use Rattle.std.specs.List.{AllByRecursion, flat_map, remove}
use Rattle.std.proofs.lemmas.Grind.{flat_map-append}
use Rattle.std.proofs.lemmas.List.{drop_all}
use Rattle.h5_bytes.specs.Bytes.{undefined_address}
use Rattle.h5_bytes.proofs.BlockLaws.{all_left, all_right}
use Rattle.h5_model.specs.Format.Links.{Before, NotAfter}
use Rattle.h5_model.specs.Format.Rows.{Node, Reading}
use Rattle.h5_model.specs.Format.Nodes.{Kind, node_at, reading_of}
use Rattle.h5_laws.specs.ExactKeys.{IsExact}
use Rattle.h5_laws.specs.ExactWays.{IsExactFor}
use Rattle.h5_laws.specs.KeyTrees.{KeyTree, items_in}
use Rattle.h5_laws.specs.NameLadders.{key_sides}
use Rattle.h5_laws.proofs.ExactKeysLast.{none_left, none_right}
use Rattle.h5_laws.proofs.ExactKeysNames.{key_let_in}
use Rattle.h5_laws.proofs.ExactKeysWays.{LetsIn, eased_exact}
use Rattle.h5_space.specs.Space.{Space}
use Rattle.h5_btree.specs.Climb.{IsNoNode, IsWay}
use Rattle.h5_btree.specs.Exact.{AreKeysExact}
use Rattle.h5_btree.specs.Insertion.{KeepsEntries, Owns}
use Rattle.h5_btree.specs.Keyed.{AtChild, trees_below, keys_from}
use Rattle.h5_btree.specs.Removal.{EndsInTree}
use Rattle.h5_btree.specs.Retired.{lowest_key}
use Rattle.h5_btree.specs.declared.way.Step.{Step}
use Rattle.h5_btree.proofs.KeyedClimb.{there}
use Rattle.h5_btree.proofs.KeyedEases.{GivesWay, new_trees}
use Rattle.h5_btree.proofs.KeyedExactPuts.{AreExactFor}
use Rattle.h5_btree.proofs.KeyedOff.{off_here, off_is, off_out, off_stands, off_steps}
use Rattle.h5_btree.proofs.KeyedOwn.{all_stand, keys_count, keys_cut, keys_own, long_trees, trees_cut}
use Rattle.h5_btree.proofs.KeyedTrees.{AreAlike, IsOffWay, StandsAlike, tree_below}
use Rattle.h5_btree.proofs.RetiredTrees.{no_order, no_sides}

abbrev Keys : Type 0
Keys = List (List ℕ)

abbrev Id : Keys → Keys
Id b = b

abbrev I : (height : ℕ) → KeyTree (List ℕ) Keys height → Keys
I = items_in (List ℕ) Id

module _ (text : List ℕ → List ℕ) (empty : text lowest_key ≡ []) (x : List ℕ) (own : Before [] (text x)) where
  abbrev Exact : (height : ℕ) → Option (List ℕ) → KeyTree (List ℕ) Keys height → Type 0
  Exact = IsExact (λ (k : List ℕ). ⊥) (λ (key : List ℕ). key) lowest_key Id

  abbrev ExactFor : (height : ℕ) → Option (List ℕ) → KeyTree (List ℕ) Keys height → Type 0
  ExactFor = IsExactFor (key_sides text) x (λ (key : List ℕ). key) lowest_key Id

  -- Of a node with these keys and children: the keys around child i are l and h now, between which the item lies. They are the node's own, but
  -- for a first key that does not let it in, which gives way to the lowest, and for a last key, which gives way to the item's.
  abbrev pub LetsItemIn : List (List ℕ) → List ℕ → ℕ → List ℕ → List ℕ → Type 0
  LetsItemIn keys children i l h =
      ((l ≡ get_or keys i []) ⊎ ((i ≡ 0) × (l ≡ lowest_key) × (Before (text (get_or keys i [])) (text x) → ⊥)))
      × ((h ≡ get_or keys (suc i) []) ⊎ ((suc i ≡ length children) × (h ≡ x))) × Before (text l) (text x) × NotAfter (text x) (text h)

  -- the same items, of which there are some, and keys that are exact but for those that let the item in
  abbrev IsReady : (height : ℕ) → KeyTree (List ℕ) Keys height → KeyTree (List ℕ) Keys height → Type 0
  IsReady height old new =
      (I height new ≡ I height old) × (I height old ≡ [] → ⊥) × ((e : Option (List ℕ)) → LetsIn (key_sides text) x e → Exact height e old → ExactFor height e new)

  -- ---- one node

  module _ (Y W : Reading) (at : AtChild Keys) (m : ℕ) (keys : List (List ℕ)) (children : List ℕ) (i : ℕ) (long : length keys ≡ length children + 1) (low : i < length children)
      (before : AreAlike Y W at at m (take i children)) (behind : AreAlike Y W at at m (drop (suc i) children)) (l h : List ℕ) (lets : LetsItemIn keys children i l h) where
    abbrev kb : List (List ℕ)
    kb = take i keys

    abbrev kk : List ℕ
    kk = get_or keys i []

    abbrev jj : List ℕ
    jj = get_or keys (suc i) []

    abbrev ka : List (List ℕ)
    ka = drop (suc (suc i)) keys

    abbrev c : ℕ
    c = get_or children i 0

    abbrev T : Type 0
    T = KeyTree (List ℕ) Keys m

    abbrev ls : List T
    ls = trees_below Y at m kb (take i children)

    abbrev rs : List T
    rs = trees_below Y at m (jj ∷ ka) (drop (suc i) children)

    abbrev old : T
    old = tree_below Y at m kk c

    abbrev new : T
    new = tree_below W at m l c

    gives : GivesWay no_sides no_order Id (λ (b : Keys). b ≡ b) keys children i l h
    gives = (
      elim lets.0 [ inl same ↦ inl same | inr first ↦ inr (first.0, tt) ],
      elim lets.1 [ inl same ↦ inl same | inr last ↦ inr (last.0, tt) ],
    )

    low_is : (l ≡ kk) ⊎ ((kb ≡ []) × (l ≡ lowest_key) × (Before (text kk) (text x) → ⊥))
    low_is = elim lets.0 [ inl same ↦ inl same | inr first ↦ inr (ap (λ (n : ℕ). take n keys) first.0, first.1, first.2) ]

    high_is : (h ≡ jj) ⊎ ((ka ≡ []) × (h ≡ x))
    high_is = elim lets.1 [ inl same ↦ inl same | inr last ↦ inr (drop_all (suc (suc i)) keys (omega (arith, last.0, long)), last.1) ]

    items_of : (t : T) → flat_map (I m) (ls ++ t ∷ rs) ≡ flat_map (I m) ls ++ (I m t ++ flat_map (I m) rs)
    items_of t = flat_map-append (I m) ls (t ∷ rs)

    in_parts : IsReady m old new → IsReady (suc m) (kb ++ kk ∷ jj ∷ ka, ls ++ old ∷ rs) (kb ++ l ∷ h ∷ ka, ls ++ new ∷ rs)
    in_parts child = (
      items_of new ∙ ap (λ (es : Keys). flat_map (I m) ls ++ (es ++ flat_map (I m) rs)) child.0 ∙ sym (items_of old),
      λ none. child.1 (none_left (I m old) (flat_map (I m) rs) (none_right (flat_map (I m) ls) (I m old ++ flat_map (I m) rs) (sym (items_of old) ∙ none))),
      λ e lets_in exact. eased_exact (key_sides text) (λ (key : List ℕ). key) lowest_key Id x (key_let_in text x lowest_key empty own).right m e kb kk jj l h ka ls old new rs
          (long_trees Y at m keys children i long low) lets_in low_is high_is lets.2 lets.3 child.1 child.0 child.2 exact,
    )

    pub node_ready : IsReady m old new → IsReady (suc m) (keys, trees_below Y at m keys children) (kb ++ l ∷ h ∷ ka, trees_below W at m (kb ++ l ∷ h ∷ ka) children)
    node_ready child =
        subst (λ (ts : List T). IsReady (suc m) (keys, trees_below Y at m keys children) (kb ++ l ∷ h ∷ ka, ts))
        (sym (new_trees no_sides no_order Id (λ (b : Keys). b ≡ b) Y W at m keys children i long low before behind l h gives))
        (subst (λ (ks : Keys). IsReady (suc m) (ks, trees_below Y at m keys children) (kb ++ l ∷ h ∷ ka, ls ++ new ∷ rs)) (sym (keys_cut Y at m keys children i long low))
        (subst (λ (ts : List T). IsReady (suc m) (kb ++ kk ∷ jj ∷ ka, ts) (kb ++ l ∷ h ∷ ka, ls ++ new ∷ rs)) (sym (trees_cut Y at m keys children i long low)) (in_parts child)))

  -- ---- along a way

  module _ (s t : Space) (kind : Kind) (root level : ℕ) (way : List Step) (owned list : List ℕ) (k : ℕ) (e : EndsInTree s kind root level way owned list k) (some : 1 ≤ kind.k)
      (others : (n : ℕ) → Owns owned n → AllByRecursion (λ (step : Step). n ≢ step.node) way → KeepsEntries s.bytes t.bytes kind n) (keys : ℕ → List (List ℕ)) where
    abbrev V : Reading
    V = node_at s.bytes kind

    abbrev W : Reading
    W = node_at t.bytes kind

    abbrev Y : Reading
    Y = reading_of s.bytes kind owned

    abbrev at : AtChild Keys
    at key c = keys c

    -- the keys around the child of a step let the item in now; the node's other keys and its children stay
    abbrev pub IsEasedFor : Step → Type 0
    IsEasedFor st =
        (l : List ℕ) × (h : List ℕ) × ((W st.node).keys ≡ take st.place (V st.node).keys ++ l ∷ h ∷ drop (suc (suc st.place)) (V st.node).keys)
        × ((W st.node).children ≡ (V st.node).children) × LetsItemIn (V st.node).keys (V st.node).children st.place l h

    same : AllByRecursion (StandsAlike V W at at) (remove list k)
    same = all_stand V W at (remove list k)

    abbrev out : IsNoNode Y undefined_address
    out = off_out s t kind root level way owned list k e others at at same

    -- a node on the way
    one : (m : ℕ) (st : Step) (is : IsEasedFor st) → Y st.node ≡ V st.node → st.place < length (Y st.node).children
        → AreAlike Y W at at m (take st.place (Y st.node).children) → AreAlike Y W at at m (drop (suc st.place) (Y st.node).children)
        → IsReady m (tree_below Y at m (get_or (V st.node).keys st.place []) (get_or (V st.node).children st.place 0)) (tree_below W at m is.0 (get_or (V st.node).children st.place 0))
        → IsReady (suc m) (keys_from Y at m st.node) (keys_from W at m st.node)
    one m st is same_node place before behind child =
        let n = st.node in
        let count = subst (λ (o : Node). length o.keys ≡ length o.children + 1) (sym same_node) (keys_count s.bytes kind n) in
        let lets = subst (λ (o : Node). LetsItemIn o.keys o.children st.place is.0 is.1) (sym same_node) is.4 in
        let below = subst (λ (o : Node). IsReady m (tree_below Y at m (get_or o.keys st.place []) (get_or o.children st.place 0)) (tree_below W at m is.0 (get_or o.children st.place 0)))
        (sym same_node) child in
        let all = node_ready Y W at m (Y n).keys (Y n).children st.place count place before behind is.0 is.1 lets below in
        let ks : (W n).keys ≡ take st.place (Y n).keys ++ is.0 ∷ is.1 ∷ drop (suc (suc st.place)) (Y n).keys
        = is.2 ∙ ap (λ (o : Node). take st.place o.keys ++ is.0 ∷ is.1 ∷ drop (suc (suc st.place)) o.keys) (sym same_node) in
        let cs : (W n).children ≡ (Y n).children = is.3 ∙ ap (λ (o : Node). o.children) (sym same_node) in
        subst (IsReady (suc m) (keys_from Y at m n)) (ap₂ (λ (us : List (List ℕ)) (vs : List ℕ). (us, trees_below W at m us vs)) (sym ks) (sym cs)) all

    eases : (above : List Step) (m a : ℕ) (f bk : List ℕ) → length above + m ≡ level → IsWay Y m root above a f bk → IsOffWay Y W at at m above → AllByRecursion IsEasedFor above
        → IsReady (suc m) (keys_from Y at m a) (keys_from W at m a) → IsReady (suc level) (keys_from Y at level root) (keys_from W at level root)
    eases [] m a f bk sum w off all child =
        let deep : m ≡ level = omega (arith, sum) in
        subst (λ (d : ℕ). IsReady (suc d) (keys_from Y at d root) (keys_from W at d root)) deep
        (subst (λ (n : ℕ). IsReady (suc m) (keys_from Y at m n) (keys_from W at m n)) w.0 child)
    eases (st ∷ above) m a f bk sum w off all child =
        let b = w.2 in
        let same_node = there (key_sides text) Id (λ (c : Keys). c ≡ c) (λ b r. ⊥) x [] [] (λ a b. true) s.bytes t.bytes kind root level owned out e.tree.low e.tree.formed some at at
        (suc m) st.node w.0 w.1 (omega (arith, sum)) b.row in
        let is_child : get_or (V st.node).children st.place 0 ≡ a = ap (λ (o : Node). get_or o.children st.place 0) (sym same_node) ∙ b.child in
        eases above (suc m) st.node w.0 w.1 (omega (arith, sum)) w.3 off.2 all.1
        (one (suc m) st all.0 same_node b.place off.0 off.1
        (subst (λ (n : ℕ). IsReady (suc m) (keys_from Y at m n) (keys_from W at m n)) (sym is_child) child))

    -- THE KEYS ARE EXACT BUT FOR THAT, where something stands at the child at the end of the way.
    pub widened_exact : IsEasedFor e.step → AllByRecursion IsEasedFor e.above → (keys (get_or (node_at s.bytes kind e.step.node).children e.step.place 0) ≡ [] → ⊥)
        → AreKeysExact (λ k. ⊥) keys (node_at s.bytes kind) level root → AreExactFor text empty x own (node_at t.bytes kind) keys level root
    widened_exact here eased filled exact =
        let steps = off_steps s t kind root level way owned list k e others at at same in
        let stands = off_stands s t kind root level way owned list k e others at at same in
        let same_node = off_here s t kind root level way owned list k e others at at same in
        let cs = (Y e.step.node).children in
        let first = one 0 e.step here same_node e.place (all_left (StandsAlike Y W at at) (take e.step.place cs) (drop (suc e.step.place) cs) stands)
        (all_right (StandsAlike Y W at at) (take e.step.place cs) (drop (suc e.step.place) cs) stands) (refl, filled, λ before lets is. is) in
        (eases e.above 0 e.step.node e.front e.back (omega (arith, steps)) e.leads (off_is s t kind root level way owned list k e others at at same) eased first).2 None tt
        (subst (Exact (suc level) None) (keys_own s.bytes kind root level owned list e.tree at) exact)
