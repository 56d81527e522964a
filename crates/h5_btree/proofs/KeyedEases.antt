-- The end keys of the nodes on a way give way: the first key falls, the last one rises. So the keys stay in order, and the items stay.
use Rattle.std.proofs.Common.{◌≡◌, ◌≢◌, ◌⊎◌, inl, inr, ℕ, suc, ◌+◌, ◌<◌, ◌≤◌, true, List, [], ◌∷◌, ◌++◌, length, take, drop, get_or, sym, ap, ap₂, ◌∙◌, subst, arith}
use Rattle.std.specs.List.{AllByRecursion, flat_map, remove}
use Rattle.std.proofs.lemmas.Grind.{flat_map-append}
use Rattle.std.proofs.lemmas.List.{drop_all}
use Rattle.h5_bytes.specs.Bytes.{undefined_address}
use Rattle.h5_bytes.proofs.BlockLaws.{all_append, all_left, all_right}
use Rattle.h5_model.specs.Format.Rows.{Node, Reading}
use Rattle.h5_model.specs.Format.Nodes.{Kind, node_at, reading_of}
use Rattle.h5_laws.specs.Ladders.{Sides, LieBetween, IsOrderly}
use Rattle.h5_laws.specs.KeyTrees.{KeyTree, items_in, IsSorted}
use Rattle.h5_laws.proofs.KeyLadders.{Ladder, around, from_around, lower_left, raise_right}
use Rattle.h5_laws.proofs.Ladders.{wider}
use Rattle.h5_space.specs.Space.{Space}
use Rattle.h5_btree.specs.Climb.{IsNoNode, IsWay}
use Rattle.h5_btree.specs.Insertion.{KeepsEntries, Owns}
use Rattle.h5_btree.specs.Keyed.{AtChild, trees_below, keys_from, IsInOrder, items_of_tree}
use Rattle.h5_btree.specs.Removal.{EndsInTree}
use Rattle.h5_btree.specs.declared.way.Step.{Step}
use Rattle.h5_btree.proofs.KeyedTrees.{StandsAlike, AreAlike, IsOffWay, tree_below, below_append, below_none, below_one, below-same}
use Rattle.h5_btree.proofs.KeyedOwn.{all_stand, keys_count, keys_own, keys_cut, children_cut, long_front, long_trees, trees_cut}
use Rattle.h5_btree.proofs.KeyedOff.{off_out, off_steps, off_here, off_stands, off_is}
use Rattle.h5_btree.proofs.KeyedClimb.{there, sorted_way}

-- ---- one node

module _ {B X : Type 0} (sides : Sides (List ℕ) X) (orderly : IsOrderly sides) (items : B → List X) (Base : B → Type 0) where
  abbrev S : (height : ℕ) → KeyTree (List ℕ) B height → Type 0
  S = IsSorted sides items Base

  abbrev I : (height : ℕ) → KeyTree (List ℕ) B height → List X
  I = items_in (List ℕ) items

  -- of a node with these keys: the key before child i and the one behind it are l and h now
  abbrev pub GivesWay : List (List ℕ) → List ℕ → ℕ → List ℕ → List ℕ → Type 0
  GivesWay keys children i l h =
      ((l ≡ get_or keys i []) ⊎ ((i ≡ 0) × sides.Rise l (get_or keys i [])))
      × ((h ≡ get_or keys (suc i) []) ⊎ ((suc i ≡ length children) × sides.Rise (get_or keys (suc i) []) h))

  -- the tree is in order, and has the same items
  abbrev pub IsAsBefore : (height : ℕ) → KeyTree (List ℕ) B height → KeyTree (List ℕ) B height → Type 0
  IsAsBefore height old new = S height new × (I height new ≡ I height old)

  module _ (Y W : Reading) (at : AtChild B) (m : ℕ) (keys : List (List ℕ)) (children : List ℕ) (i : ℕ) (long : length keys ≡ length children + 1) (low : i < length children)
      (before : AreAlike Y W at at m (take i children)) (behind : AreAlike Y W at at m (drop (suc i) children)) (l h : List ℕ) (gives : GivesWay keys children i l h) where
    abbrev kb : List (List ℕ)
    kb = take i keys

    abbrev kk : List ℕ
    kk = get_or keys i []

    abbrev jj : List ℕ
    jj = get_or keys (suc i) []

    abbrev ka : List (List ℕ)
    ka = drop (suc (suc i)) keys

    abbrev c : ℕ
    c = get_or children i 0

    abbrev xs : List ℕ
    xs = take i children

    abbrev ys : List ℕ
    ys = drop (suc i) children

    abbrev T : Type 0
    T = KeyTree (List ℕ) B m

    abbrev ls : List T
    ls = trees_below Y at m kb xs

    abbrev rs : List T
    rs = trees_below Y at m (jj ∷ ka) ys

    is_low : (kb ≡ []) ⊎ (l ≡ kk)
    is_low = elim gives.0 [ inl same ↦ inr same | inr first ↦ inl (ap (λ (n : ℕ). take n keys) first.0) ]

    falls : sides.Rise l kk
    falls = elim gives.0 [ inl same ↦ subst (λ (n : List ℕ). sides.Rise n kk) (sym same) (orderly.itself kk) | inr first ↦ first.1 ]

    is_high : (ka ≡ []) ⊎ (h ≡ jj)
    is_high = elim gives.1 [ inl same ↦ inr same | inr last ↦ inl (drop_all (suc (suc i)) keys (omega (arith, last.0, long))) ]

    climbs_up : sides.Rise jj h
    climbs_up = elim gives.1 [ inl same ↦ subst (sides.Rise jj) (sym same) (orderly.itself jj) | inr last ↦ last.1 ]

    right_trees : trees_below W at m (h ∷ ka) ys ≡ rs
    right_trees = elim gives.1 [
      | inl same ↦ ap (λ (n : List ℕ). trees_below W at m (n ∷ ka) ys) same ∙ below-same Y W at at m (jj ∷ ka) ys behind
      | inr last ↦
          let none : ys ≡ [] = drop_all (suc i) children (omega (arith, last.0)) in
          ap (trees_below W at m (h ∷ ka)) none ∙ below_none W at m (h ∷ ka) ∙ sym (below_none Y at m (jj ∷ ka)) ∙ ap (trees_below Y at m (jj ∷ ka)) (sym none)
    ]

    pub new_trees : trees_below W at m (kb ++ l ∷ h ∷ ka) children ≡ ls ++ tree_below W at m l c ∷ rs
    new_trees =
        ap (trees_below W at m (kb ++ l ∷ h ∷ ka)) (children_cut Y at m keys children i long low)
        ∙ below_append W at m kb (l ∷ h ∷ ka) xs (c ∷ ys) (long_front Y at m keys children i long low)
        ∙ ap (λ (ts : List T). trees_below W at m kb xs ++ ts) (below_one W at m l (h ∷ ka) c ys)
        ∙ ap₂ (λ (us vs : List T). us ++ tree_below W at m l c ∷ vs) (below-same Y W at at m kb xs before) right_trees

    pub node_eased : S (suc m) (keys, trees_below Y at m keys children) → IsAsBefore m (tree_below Y at m kk c) (tree_below W at m l c)
        → IsAsBefore (suc m) (keys, trees_below Y at m keys children) (kb ++ l ∷ h ∷ ka, trees_below W at m (kb ++ l ∷ h ∷ ka) children)
    node_eased sorted child =
        let old = tree_below Y at m kk c in
        let new = tree_below W at m l c in
        let cut = trees_cut Y at m keys children i long low in
        let ladder = subst (λ (ks : List (List ℕ)). Ladder sides (I m) ks (ls ++ old ∷ rs)) (keys_cut Y at m keys children i long low)
        (subst (λ (ts : List T). Ladder sides (I m) keys ts) cut sorted.0) in
        let a = around sides (I m) kb kk jj ka ls old rs (long_trees Y at m keys children i long low) ladder in
        let each = subst (AllByRecursion (S m)) cut sorted.1 in
        let lies : LieBetween sides l h (I m new) = subst (LieBetween sides l h) (sym child.1) (wider sides orderly l kk jj h (I m old) falls climbs_up a.lies) in
        let is = from_around sides (I m) kb l h ka ls new rs (long_trees Y at m keys children i long low) (record {
          left = lower_left sides (I m) l kk kb ls is_low a.left;
          lies = lies;
          rise = orderly.rises l kk h falls (orderly.rises kk jj h a.rise climbs_up);
          right = raise_right sides (I m) h jj ka rs is_high a.right;
        }) in (
          (
            subst (λ (ts : List T). Ladder sides (I m) (kb ++ l ∷ h ∷ ka) ts) (sym new_trees) is,
            subst (AllByRecursion (S m)) (sym new_trees) (all_append (S m) ls (new ∷ rs) (all_left (S m) ls (old ∷ rs) each) (child.0, (all_right (S m) ls (old ∷ rs) each).1)),
          ),
          ap (flat_map (I m)) new_trees ∙ flat_map-append (I m) ls (new ∷ rs)
              ∙ ap (λ (es : List X). flat_map (I m) ls ++ (es ++ flat_map (I m) rs)) child.1
              ∙ sym (flat_map-append (I m) ls (old ∷ rs)) ∙ ap (flat_map (I m)) (sym cut),
        )

-- ---- along a way

module _ {B X : Type 0} (sides : Sides (List ℕ) X) (orderly : IsOrderly sides) (items : B → List X) (Base : B → Type 0) (x : X) (s t : Space) (kind : Kind) (root level : ℕ)
    (way : List Step) (owned list : List ℕ) (k : ℕ) (e : EndsInTree s kind root level way owned list k) (some : 1 ≤ kind.k)
    (others : (n : ℕ) → Owns owned n → AllByRecursion (λ (step : Step). n ≢ step.node) way → KeepsEntries s.bytes t.bytes kind n) (at : AtChild B) where
  abbrev V : Reading
  V = node_at s.bytes kind

  abbrev W : Reading
  W = node_at t.bytes kind

  abbrev Y : Reading
  Y = reading_of s.bytes kind owned

  -- The keys around the child of a step are these now, the node's own but for the first and the last, which may give way; its other keys and
  -- its children stay.
  abbrev pub IsEased : Step → Type 0
  IsEased st =
      (l : List ℕ) × (h : List ℕ) × ((W st.node).keys ≡ take st.place (V st.node).keys ++ l ∷ h ∷ drop (suc (suc st.place)) (V st.node).keys)
      × ((W st.node).children ≡ (V st.node).children) × GivesWay sides orderly items Base (V st.node).keys (V st.node).children st.place l h

  module _ (here : IsEased e.step) (eased : AllByRecursion IsEased e.above)
      (stays : at here.0 (get_or (V e.step.node).children e.step.place 0) ≡ at (get_or (V e.step.node).keys e.step.place []) (get_or (V e.step.node).children e.step.place 0)) where
    same : AllByRecursion (StandsAlike V W at at) (remove list k)
    same = all_stand V W at (remove list k)

    abbrev out : IsNoNode Y undefined_address
    out = off_out s t kind root level way owned list k e others at at same

    abbrev Same : (height : ℕ) → KeyTree (List ℕ) B height → KeyTree (List ℕ) B height → Type 0
    Same = IsAsBefore sides orderly items Base

    abbrev Sorted : (height : ℕ) → KeyTree (List ℕ) B height → Type 0
    Sorted = IsSorted sides items Base

    module _ (sorted : Sorted (suc level) (keys_from Y at level root)) where
      ordered : (above : List Step) (m a : ℕ) (f bk : List ℕ) → length above + m ≡ level → IsWay Y m root above a f bk → Sorted (suc m) (keys_from Y at m a)
      ordered above m a f bk sum w =
          sorted_way sides items Base (λ b r. ⊥) x [] [] (λ a b. true) s.bytes t.bytes kind root level owned out e.tree.low e.tree.formed some at at above m a f bk sum w sorted

      -- a node on the way
      one : (m : ℕ) (st : Step) (is : IsEased st) → Y st.node ≡ V st.node → st.place < length (Y st.node).children → Sorted (suc m) (keys_from Y at m st.node)
          → AreAlike Y W at at m (take st.place (Y st.node).children) → AreAlike Y W at at m (drop (suc st.place) (Y st.node).children)
          → Same m (tree_below Y at m (get_or (V st.node).keys st.place []) (get_or (V st.node).children st.place 0)) (tree_below W at m is.0 (get_or (V st.node).children st.place 0))
          → Same (suc m) (keys_from Y at m st.node) (keys_from W at m st.node)
      one m st is same_node place in_order before behind child =
          let n = st.node in
          let count = subst (λ (o : Node). length o.keys ≡ length o.children + 1) (sym same_node) (keys_count s.bytes kind n) in
          let gives = subst (λ (o : Node). GivesWay sides orderly items Base o.keys o.children st.place is.0 is.1) (sym same_node) is.4 in
          let below = subst (λ (o : Node). Same m (tree_below Y at m (get_or o.keys st.place []) (get_or o.children st.place 0)) (tree_below W at m is.0 (get_or o.children st.place 0))) (sym same_node) child in
          let all = node_eased sides orderly items Base Y W at m (Y n).keys (Y n).children st.place count place before behind is.0 is.1 gives in_order below in
          let ks : (W n).keys ≡ take st.place (Y n).keys ++ is.0 ∷ is.1 ∷ drop (suc (suc st.place)) (Y n).keys
          = is.2 ∙ ap (λ (o : Node). take st.place o.keys ++ is.0 ∷ is.1 ∷ drop (suc (suc st.place)) o.keys) (sym same_node) in
          let cs : (W n).children ≡ (Y n).children = is.3 ∙ ap (λ (o : Node). o.children) (sym same_node) in
          subst (Same (suc m) (keys_from Y at m n)) (ap₂ (λ (us : List (List ℕ)) (vs : List ℕ). (us, trees_below W at m us vs)) (sym ks) (sym cs)) all

      eases : (above : List Step) (m a : ℕ) (f bk : List ℕ) → length above + m ≡ level → IsWay Y m root above a f bk → IsOffWay Y W at at m above → AllByRecursion IsEased above
          → Same (suc m) (keys_from Y at m a) (keys_from W at m a) → Same (suc level) (keys_from Y at level root) (keys_from W at level root)
      eases [] m a f bk sum w off all child =
          let deep : m ≡ level = omega (arith, sum) in
          subst (λ (d : ℕ). Same (suc d) (keys_from Y at d root) (keys_from W at d root)) deep
          (subst (λ (n : ℕ). Same (suc m) (keys_from Y at m n) (keys_from W at m n)) w.0 child)
      eases (st ∷ above) m a f bk sum w off all child =
          let b = w.2 in
          let same_node = there sides items Base (λ b r. ⊥) x [] [] (λ a b. true) s.bytes t.bytes kind root level owned out e.tree.low e.tree.formed some at at
          (suc m) st.node w.0 w.1 (omega (arith, sum)) b.row in
          let is_child : get_or (V st.node).children st.place 0 ≡ a = ap (λ (o : Node). get_or o.children st.place 0) (sym same_node) ∙ b.child in
          eases above (suc m) st.node w.0 w.1 (omega (arith, sum)) w.3 off.2 all.1
          (one (suc m) st all.0 same_node b.place (ordered above (suc m) st.node w.0 w.1 (omega (arith, sum)) w.3) off.0 off.1
          (subst (λ (n : ℕ). Same (suc m) (keys_from Y at m n) (keys_from W at m n)) (sym is_child) child))

    -- THE KEYS ARE IN ORDER STILL where end keys of the nodes on a way give way, and the items are the same.
    pub eased_sorted : IsInOrder sides items Base s.bytes kind at level root
        → IsInOrder sides items Base t.bytes kind at level root × (items_of_tree items t.bytes kind at level root ≡ items_of_tree items s.bytes kind at level root)
    eased_sorted in_order =
        let own = keys_own s.bytes kind root level owned list e.tree at in
        let sorted = subst (Sorted (suc level)) own in_order in
        let steps = off_steps s t kind root level way owned list k e others at at same in
        let stands = off_stands s t kind root level way owned list k e others at at same in
        let same_node = off_here s t kind root level way owned list k e others at at same in
        let cs = (Y e.step.node).children in
        let base : Same 0 (at (get_or (V e.step.node).keys e.step.place []) (get_or (V e.step.node).children e.step.place 0)) (at here.0 (get_or (V e.step.node).children e.step.place 0)) = (
          subst Base (sym stays) (base_there sorted steps same_node),
          ap items stays,
        ) in
        let first = one sorted 0 e.step here same_node e.place (ordered sorted e.above 0 e.step.node e.front e.back (omega (arith, steps)) e.leads)
        (all_left (StandsAlike Y W at at) (take e.step.place cs) (drop (suc e.step.place) cs) stands)
        (all_right (StandsAlike Y W at at) (take e.step.place cs) (drop (suc e.step.place) cs) stands) base in
        let all = eases sorted e.above 0 e.step.node e.front e.back (omega (arith, steps)) e.leads (off_is s t kind root level way owned list k e others at at same) eased first in
        (all.0, all.1 ∙ ap (items_in (List ℕ) items (suc level)) (sym own))
      where
        base_there : Sorted (suc level) (keys_from Y at level root) → level ≡ length e.above → Y e.step.node ≡ V e.step.node
            → Base (at (get_or (V e.step.node).keys e.step.place []) (get_or (V e.step.node).children e.step.place 0))
        base_there sorted steps same_node =
            let n = e.step.node in
            let i = e.step.place in
            let count = subst (λ (o : Node). length o.keys ≡ length o.children + 1) (sym same_node) (keys_count s.bytes kind n) in
            let in_order = ordered sorted e.above 0 n e.front e.back (omega (arith, steps)) e.leads in
            let each = subst (AllByRecursion Base) (trees_cut Y at 0 (Y n).keys (Y n).children i count e.place) in_order.1 in
            subst (λ (o : Node). Base (at (get_or o.keys i []) (get_or o.children i 0))) same_node
            (all_right Base (trees_below Y at 0 (take i (Y n).keys) (take i (Y n).children))
            (at (get_or (Y n).keys i []) (get_or (Y n).children i 0) ∷ trees_below Y at 0 (get_or (Y n).keys (suc i) [] ∷ drop (suc (suc i)) (Y n).keys) (drop (suc i) (Y n).children)) each).0
