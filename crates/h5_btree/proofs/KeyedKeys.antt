-- The keys of a tree after an insertion: each is one of before, or one that came in. So what is so of these is so of all of them.
use Rattle.std.proofs.Common.{◌≡◌, ◌≢◌, inl, inr, ℕ, zero, suc, ◌+◌, ◌≤◌, List, [], ◌∷◌, ◌++◌, map, take, drop, get_or, sym, ap, ◌∙◌, subst, arith, add-one, Bool}
use Rattle.std.specs.Bool.{⊤}
use Rattle.std.specs.List.{AllByRecursion, insert, remove}
use Rattle.h5_bytes.specs.Bytes.{undefined_address}
use Rattle.h5_bytes.proofs.BlockLaws.{all_append, all_left, all_right, all_so}
use Rattle.h5_model.specs.Format.Rows.{Node, Reading, next_row, nodes}
use Rattle.h5_model.specs.Format.Nodes.{Kind, HasTree, node_at, reading_of}
use Rattle.h5_model.proofs.OneTree.{level_is}
use Rattle.h5_laws.specs.Ladders.{Sides}
use Rattle.h5_laws.specs.KeyTrees.{KeyTree, IsSorted}
use Rattle.h5_laws.specs.KeyEdits.{Grown, One, Two, Descends, IsHeld, Widens, Fits, Inserts, IsRaised}
use Rattle.h5_space.specs.Space.{Space}
use Rattle.h5_btree.specs.Climb.{IsNoNode}
use Rattle.h5_btree.specs.Held.{AreHeldKeys}
use Rattle.h5_btree.specs.Insertion.{IsPutAlong, KeepsEntries, Owns}
use Rattle.h5_btree.specs.Keyed.{AtChild, at_children, keys_from, IsInOrder}
use Rattle.h5_btree.specs.Removal.{EndsInTree}
use Rattle.h5_btree.specs.declared.way.Step.{Step}
use Rattle.h5_btree.proofs.KeyedTrees.{StandsAlike}
use Rattle.h5_btree.proofs.KeyedOwn.{keys_own}
use Rattle.h5_btree.proofs.KeyedOff.{off_out, off_steps, off_here, off_stands, off_is, off_count}
use Rattle.h5_btree.proofs.KeyedGrown.{IsWide, wide_behind}
use Rattle.h5_btree.proofs.KeyedClimb.{AreHeld, IsDone, climbs}
use Rattle.h5_btree.proofs.KeyedHolds.{IsTestOf, held_by_test}

-- ---- trees of keys

-- each key of the tree is such
abbrev pub AllKnown : {K : Type 0} (B : Type 0) → (K → Type 0) → (height : ℕ) → KeyTree K B height → Type 0
AllKnown B Knows zero b = ⊤
AllKnown B Knows (suc height) node = AllByRecursion Knows node.0 × AllByRecursion (AllKnown B Knows height) node.1

abbrev pub KnownGrown : {K : Type 0} (B : Type 0) → (K → Type 0) → (height : ℕ) → Grown K (KeyTree K B height) → Type 0
KnownGrown B Knows height (One a) = AllKnown B Knows height a
KnownGrown B Knows height (Two a u b) = AllKnown B Knows height a × Knows u × AllKnown B Knows height b

-- at the bottom a key comes in that is such
abbrev pub PutsKnown : {K : Type 0} (B : Type 0) → (K → Type 0) → B → Grown K B → Type 0
PutsKnown B Knows b (One a) = ⊤
PutsKnown B Knows b (Two a u c) = Knows u

module _ {K : Type 0} (B : Type 0) (Knows : K → Type 0) where
  module _ {X : Type 0} (sides : Sides K X) (k : ℕ) (x : X) (low high : K) (low_known : Knows low) (high_known : Knows high) where
    module _ (height : ℕ) (keys : List K) (children : List (KeyTree K B height)) (known : AllByRecursion Knows keys) (each : AllByRecursion (AllKnown B Knows height) children)
        (w : Descends sides x low high (KeyTree K B height) keys children) where
      keys_known : AllByRecursion Knows (w.kb ++ w.k ∷ w.j ∷ w.ka)
      keys_known = subst (AllByRecursion Knows) w.keys_are known

      kb_known : AllByRecursion Knows w.kb
      kb_known = all_left Knows w.kb (w.k ∷ w.j ∷ w.ka) keys_known

      rest_known : AllByRecursion Knows (w.k ∷ w.j ∷ w.ka)
      rest_known = all_right Knows w.kb (w.k ∷ w.j ∷ w.ka) keys_known

      children_known : AllByRecursion (AllKnown B Knows height) (w.xs ++ w.child ∷ w.ys)
      children_known = subst (AllByRecursion (AllKnown B Knows height)) w.children_are each

      child_known : AllKnown B Knows height w.child
      child_known = (all_right (AllKnown B Knows height) w.xs (w.child ∷ w.ys) children_known).0

      l_known : Knows w.l
      l_known = elim w.low_is [
        | inl is ↦ subst Knows (sym is.0) rest_known.0
        | inr is ↦ subst Knows (sym is.1) low_known
      ]

      h_known : Knows w.h
      h_known = elim w.high_is [
        | inl is ↦ subst Knows (sym is.0) rest_known.1.0
        | inr is ↦ subst Knows (sym is.1) high_known
      ]

      held_known : (u v : K) → Knows u → IsHeld sides w.l w.h u v → Knows v
      held_known u v known_u (inl is) = subst Knows (sym is.0) l_known
      held_known u v known_u (inr (inl is)) = subst Knows (sym is.0) h_known
      held_known u v known_u (inr (inr is)) = subst Knows (sym is.0) known_u

      wide_known : (r : Grown K (KeyTree K B height)) (keys' : List K) (children' : List (KeyTree K B height)) → KnownGrown B Knows height r
          → Widens sides x low high (KeyTree K B height) keys children w r keys' children' → AllByRecursion Knows keys' × AllByRecursion (AllKnown B Knows height) children'
      wide_known (One a) keys' children' grown wide = (
        subst (AllByRecursion Knows) (sym wide.0) (all_append Knows w.kb (w.l ∷ w.h ∷ w.ka) kb_known (l_known, (h_known, rest_known.1.1))),
        subst (AllByRecursion (AllKnown B Knows height)) (sym wide.1)
            (all_append (AllKnown B Knows height) w.xs (a ∷ w.ys) (all_left (AllKnown B Knows height) w.xs (w.child ∷ w.ys) children_known)
            (grown, (all_right (AllKnown B Knows height) w.xs (w.child ∷ w.ys) children_known).1)),
      )
      wide_known (Two a u b) keys' children' grown (v, held, keys_are, children_are) = (
        subst (AllByRecursion Knows) (sym keys_are)
            (all_append Knows w.kb (w.l ∷ v ∷ w.h ∷ w.ka) kb_known (l_known, (held_known u v grown.1 held, (h_known, rest_known.1.1)))),
        subst (AllByRecursion (AllKnown B Knows height)) (sym children_are)
            (all_append (AllKnown B Knows height) w.xs (a ∷ b ∷ w.ys) (all_left (AllKnown B Knows height) w.xs (w.child ∷ w.ys) children_known)
            (grown.0, (grown.2, (all_right (AllKnown B Knows height) w.xs (w.child ∷ w.ys) children_known).1))),
      )

    fits_known : (height : ℕ) (keys : List K) (children : List (KeyTree K B height)) (r : Grown K (List K × List (KeyTree K B height)))
        → AllByRecursion Knows keys → AllByRecursion (AllKnown B Knows height) children → Fits k keys children r → KnownGrown B Knows (suc height) r
    fits_known height keys children (One a) known each fits =
        (subst (AllByRecursion Knows) (sym fits.1) known, subst (AllByRecursion (AllKnown B Knows height)) (sym fits.2) each)
    fits_known height keys children (Two p m q) known each h =
        let all = subst (AllByRecursion Knows) h.keys_are known in
        let below = subst (AllByRecursion (AllKnown B Knows height)) h.children_are each in
        let right = all_right Knows h.lk (m ∷ h.rk) all in (
          (subst (AllByRecursion Knows) (sym h.left) (all_append Knows h.lk (m ∷ []) (all_left Knows h.lk (m ∷ h.rk) all) (right.0, tt)), all_left (AllKnown B Knows height) p.1 q.1 below),
          right.0,
          (subst (AllByRecursion Knows) (sym h.right) right, all_right (AllKnown B Knows height) p.1 q.1 below),
        )

    -- AN INSERTION KEEPS what is so of all keys, of those at the ends, and of the one that comes in at the bottom
    pub inserts_known : (height : ℕ) (t : KeyTree K B height) (r : Grown K (KeyTree K B height)) → AllKnown B Knows height t
        → Inserts sides (PutsKnown B Knows) k x low high height t r → KnownGrown B Knows height r
    inserts_known zero t (One a) all puts = tt
    inserts_known zero t (Two a u b) all puts = (tt, puts, tt)
    inserts_known (suc height) node r all (w, r', goes, (keys, children, wide, fits)) =
        let below = inserts_known height w.child r' (child_known height node.0 node.1 all.0 all.1 w) goes in
        let both = wide_known height node.0 node.1 all.0 all.1 w r' keys children below wide in
        fits_known height keys children r both.0 both.1 fits

  -- the root over two halves
  pub raised_known : (height : ℕ) (p : List K × List (KeyTree K B height)) (m : K) (q : List K × List (KeyTree K B height))
      (new : List K × List (List K × List (KeyTree K B height))) → KnownGrown B Knows (suc height) (Two p m q) → IsRaised p m q new → AllKnown B Knows (suc (suc height)) new
  raised_known height p m q new known h = (
    subst (AllByRecursion Knows) (sym h.keys_are)
        ((subst (AllByRecursion Knows) h.first_is known.0.0).0, (known.1, ((all_right Knows h.init (h.last ∷ []) (subst (AllByRecursion Knows) h.last_is known.2.0)).0, tt))),
    subst (AllByRecursion (AllKnown B Knows (suc height))) (sym h.children_are) (known.0, (known.2, tt)),
  )

-- ---- nodes of an image

-- what holds of the images of a list's items
pub all_unmapped : {X Y : Type 0} (P : Y → Type 0) (f : X → Y) (xs : List X) → AllByRecursion P (map f xs) → AllByRecursion (λ x. P (f x)) xs
all_unmapped P f [] all = tt
all_unmapped P f (x ∷ xs) all = (all.0, all_unmapped P f xs all.1)

-- the other way
pub all_mapped : {X Y : Type 0} (P : Y → Type 0) (f : X → Y) (xs : List X) → AllByRecursion (λ x. P (f x)) xs → AllByRecursion P (map f xs)
all_mapped P f [] all = tt
all_mapped P f (x ∷ xs) all = (all.0, all_mapped P f xs all.1)

top_all : {X : Type 0} (P : X → Type 0) → ((x : X) → P x) → (xs : List X) → AllByRecursion P xs
top_all P so [] = tt
top_all P so (x ∷ xs) = (so x, top_all P so xs)

module _ {B : Type 0} (Knows : List ℕ → Type 0) (V : Reading) (at : AtChild B) where
  abbrev Known : (height : ℕ) → KeyTree (List ℕ) B height → Type 0
  Known = AllKnown B Knows

  abbrev KnowsNode : ℕ → Type 0
  KnowsNode n = AllByRecursion Knows (V n).keys

  abbrev KnowsBelow : ℕ → ℕ → Type 0
  KnowsBelow level n = Known (suc level) (keys_from V at level n)

  below_row : (level : ℕ) (row : List ℕ) → AllByRecursion (KnowsBelow (suc level)) row → AllByRecursion (KnowsBelow level) (next_row V row)
  below_row level [] all = tt
  below_row level (n ∷ row) all = all_append (KnowsBelow level) (V n).children (next_row V row)
      (all_unmapped (Known (suc level)) (keys_from V at level) (V n).children all.0.1) (below_row level row all.1)

  -- of all keys of a tree, those of each node
  pub nodes_known : (level : ℕ) (row : List ℕ) → AllByRecursion (KnowsBelow level) row → AllByRecursion KnowsNode (nodes V level row)
  nodes_known zero row all = all_so (KnowsBelow 0) KnowsNode row (λ n known. known.0) all
  nodes_known (suc level) row all = all_append KnowsNode row (nodes V level (next_row V row))
      (all_so (KnowsBelow (suc level)) KnowsNode row (λ n known. known.0) all) (nodes_known level (next_row V row) (below_row level row all))

  above_row : (level : ℕ) (row : List ℕ) → AllByRecursion KnowsNode row → AllByRecursion (KnowsBelow level) (next_row V row) → AllByRecursion (KnowsBelow (suc level)) row
  above_row level [] own below = tt
  above_row level (n ∷ row) own below = (
    (own.0, all_mapped (Known (suc level)) (keys_from V at level) (V n).children (all_left (KnowsBelow level) (V n).children (next_row V row) below)),
    above_row level row own.1 (all_right (KnowsBelow level) (V n).children (next_row V row) below),
  )

  -- and of those of each node, all
  pub trees_known : (level : ℕ) (row : List ℕ) → AllByRecursion KnowsNode (nodes V level row) → AllByRecursion (KnowsBelow level) row
  trees_known zero row all = all_so KnowsNode (KnowsBelow 0) row (λ n known. (known, top_all (Known 0) (λ b. tt) (at_children at (V n).keys (V n).children))) all
  trees_known (suc level) row all = above_row level row (all_left KnowsNode row (nodes V level (next_row V row)) all)
      (trees_known level (next_row V row) (all_right KnowsNode row (nodes V level (next_row V row)) all))

-- ---- a child is put in, behind the one at the end of a way

module _ {B X : Type 0} (sides : Sides (List ℕ) X) (items : B → List X) (Base : B → Type 0) (x : X) (follows : List ℕ → List ℕ → Bool) (test : IsTestOf sides follows)
    (Knows : List ℕ → Type 0)
    (s t : Space) (kind : Kind) (root level : ℕ) (way : List Step) (owned list : List ℕ) (k : ℕ) (e : EndsInTree s kind root level way owned list k)
    (some : 1 ≤ kind.k) (keys : List ℕ) (child : ℕ) (along : IsPutAlong s.bytes t.bytes kind e.step.node e.above (e.step.place + 1) keys child)
    (others : (n : ℕ) → Owns owned n → AllByRecursion (λ (step : Step). n ≢ step.node) way → KeepsEntries s.bytes t.bytes kind n)
    (held : AreHeldKeys s.bytes kind follows e.step.node e.above (e.step.place + 1) keys)
    (was now : AtChild B) (same : AllByRecursion (λ c. (key : List ℕ) → now key c ≡ was key c) (remove list k))
    (right : sides.Right (get_or (node_at s.bytes kind e.step.node).keys e.step.place []) x)
    (left : sides.Left x (get_or (node_at s.bytes kind e.step.node).keys (suc e.step.place) []))
    (u : List ℕ) (between : IsHeld sides (get_or (node_at s.bytes kind e.step.node).keys e.step.place []) (get_or (node_at s.bytes kind e.step.node).keys (suc e.step.place) []) u
    (take kind.key_length keys)) (known : Knows u)
    (admits : AllByRecursion (λ (st : Step). sides.Right (get_or (node_at s.bytes kind st.node).keys st.place []) x
    × sides.Left x (get_or (node_at s.bytes kind st.node).keys (suc st.place) [])) e.above) where
  abbrev V : Reading
  V = node_at s.bytes kind

  abbrev W : Reading
  W = node_at t.bytes kind

  abbrev Y : Reading
  Y = reading_of s.bytes kind owned

  abbrev p : ℕ
  p = e.step.node

  abbrev i : ℕ
  i = e.step.place

  abbrev low : List ℕ
  low = get_or (node_at s.bytes kind e.step.node).keys e.step.place []

  abbrev high : List ℕ
  high = get_or (node_at s.bytes kind e.step.node).keys (suc e.step.place) []

  abbrev Puts : B → Grown (List ℕ) B → Type 0
  Puts = PutsKnown B Knows

  abbrev TreeKnown : (height : ℕ) → KeyTree (List ℕ) B height → Type 0
  TreeKnown = AllKnown B Knows

  abbrev S : (height : ℕ) → KeyTree (List ℕ) B height → Type 0
  S = IsSorted sides items Base

  out : IsNoNode Y undefined_address
  out = off_out s t kind root level way owned list k e others was now same

  here : Y p ≡ V p
  here = off_here s t kind root level way owned list k e others was now same

  stands_here : AllByRecursion (StandsAlike Y W was now) (take i (Y p).children ++ drop (suc i) (Y p).children)
  stands_here = off_stands s t kind root level way owned list k e others was now same

  hold : AreHeld sides items Base Puts x low high follows s.bytes t.bytes kind root level owned out e.tree.low e.tree.formed some was now
  hold = λ m n f bk a b l v h deep rows ordered lies r l' goes. held_by_test sides follows test l v h

  abbrev key : List ℕ
  key = take kind.key_length keys

  abbrev Wide : List (List ℕ) → List ℕ → Type 0
  Wide = IsWide sides Puts kind.k x low high Y W was now 0 (Y p).keys (Y p).children

  wide : Wide (insert (Y p).keys (i + 1) key) (insert (Y p).children (i + 1) child)
  wide =
      let more : suc i ≡ i + 1 = sym (add-one i) in
      let at_p = λ (o : Node). IsHeld sides (get_or o.keys i []) (get_or o.keys (suc i) []) u key in
      subst (λ (j : ℕ). Wide (insert (Y p).keys j key) (insert (Y p).children j child)) more
      (wide_behind sides Puts kind.k x low high Y W was now 0 (Y p).keys (Y p).children i (off_count s t kind root level way owned list k e others was now same) e.place
      (all_left (StandsAlike Y W was now) (take i (Y p).children) (drop (suc i) (Y p).children) stands_here)
      (all_right (StandsAlike Y W was now) (take i (Y p).children) (drop (suc i) (Y p).children) stands_here)
      (subst (λ (o : Node). sides.Right (get_or o.keys i []) x) (sym here) right) (subst (λ (o : Node). sides.Left x (get_or o.keys (suc i) [])) (sym here) left)
      u key child known (subst at_p (sym here) between))

  done : S (suc level) (keys_from Y was level root)
      → IsDone sides items Base Puts x low high follows s.bytes t.bytes kind root level owned out e.tree.low e.tree.formed some was now
  done sorted = climbs sides items Base Puts x low high follows s.bytes t.bytes kind root level owned out e.tree.low e.tree.formed some was now hold sorted
      e.above 0 p (i + 1) keys child e.front e.back (let h = off_steps s t kind root level way owned list k e others was now same in omega (arith, h)) e.leads e.row (off_is s t kind root level way owned list k e others was now same) admits along held (let l = e.place in omega (arith, l)) wide

  module _ (low_known : Knows low) (high_known : Knows high) (height : ℕ) (all list' : List ℕ) (tree : HasTree t.bytes kind root height all list') where
    -- WHAT IS SO OF ALL KEYS of a tree, and of the key that comes in, is so of all keys after it has come in.
    pub put_known : IsInOrder sides items Base s.bytes kind was level root
        → AllByRecursion (λ n. AllByRecursion Knows (reading_of s.bytes kind owned n).keys) owned
        → AllByRecursion (λ n. AllByRecursion Knows (reading_of t.bytes kind all n).keys) all
    put_known ordered old =
        let sorted = subst (S (suc level)) (keys_own s.bytes kind root level owned list e.tree was) ordered in
        let old_tree : TreeKnown (suc level) (keys_from Y was level root)
        = (trees_known Knows Y was level (root ∷ []) (subst (AllByRecursion (λ n. AllByRecursion Knows (Y n).keys)) e.tree.owns old)).0 in
        let old_level = level_is s.bytes kind root level owned list e.tree in
        let new_level = level_is t.bytes kind root height all list' tree in
        let Z = reading_of t.bytes kind all in
        let finish : TreeKnown (suc height) (keys_from W now height root) → AllByRecursion (λ n. AllByRecursion Knows (Z n).keys) all
        = λ is. subst (AllByRecursion (λ n. AllByRecursion Knows (Z n).keys)) (sym tree.owns)
        (nodes_known Knows Z now height (root ∷ []) (subst (TreeKnown (suc height)) (keys_own t.bytes kind root height all list' tree now) is, tt)) in
        elim (done sorted) [
          | inl one ↦
              finish (subst (λ (h : ℕ). TreeKnown (suc h) (keys_from W now h root)) (sym old_level ∙ sym one.1 ∙ new_level)
              (inserts_known B Knows sides kind.k x low high low_known high_known (suc level) (keys_from Y was level root) (One (keys_from W now level root)) old_tree one.0))
          | inr two ↦
              finish (subst (λ (h : ℕ). TreeKnown (suc h) (keys_from W now h root)) (ap (λ (l : ℕ). suc l) (sym old_level) ∙ sym two.5 ∙ new_level)
              (raised_known B Knows level (keys_from W now level two.0) two.2 (keys_from W now level two.1) (keys_from W now (suc level) root)
              (inserts_known B Knows sides kind.k x low high low_known high_known (suc level) (keys_from Y was level root)
              (Two (keys_from W now level two.0) two.2 (keys_from W now level two.1)) old_tree two.3) two.4))
        ]
