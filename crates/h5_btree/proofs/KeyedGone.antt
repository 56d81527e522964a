-- A removal along a way, node by node, as one from the tree of keys: from the bottom to the node where it stops, and from there up.
use Rattle.std.proofs.Common.{◌≡◌, inl, inr, ℕ, suc, ◌+◌, ◌<◌, List, [], ◌∷◌, ◌++◌, length, take, drop, get_or, refl, sym, ap, ap₂, ◌∙◌, subst, arith}
use Rattle.std.specs.List.{AllByRecursion, remove}
use Rattle.std.proofs.lemmas.List.{length-append}
use Rattle.h5_bytes.specs.Bytes.{undefined_address}
use Rattle.h5_model.specs.Format.Rows.{Node, Reading, IsRow}
use Rattle.h5_model.specs.Format.Nodes.{Kind, node_at, reading_of}
use Rattle.h5_laws.specs.KeyTrees.{KeyTree}
use Rattle.h5_laws.specs.KeyEdits.{IsEmptied, Removes}
use Rattle.h5_space.specs.Space.{Space}
use Rattle.h5_btree.specs.Climb.{IsNoNode, IsWay}
use Rattle.h5_btree.specs.Keyed.{AtChild, trees_below, keys_from}
use Rattle.h5_btree.specs.declared.way.Step.{Step}
use Rattle.h5_btree.proofs.RowEdits.{level_here}
use Rattle.h5_btree.proofs.DropLaws.{remove_alone}
use Rattle.h5_btree.proofs.TreeReadings.{owned_at, owned_of_level}
use Rattle.h5_btree.proofs.KeyedTrees.{IsAlike, AreAlike, IsOffWay, tree_below, below_none, below-same}
use Rattle.h5_btree.proofs.KeyedOwn.{keys_count, keys_less, trees_cut, trees_less, enters}

-- ---- one node

module _ {B : Type 0} (Takes : B → B → Type 0) (Empty : B → Type 0) where
  abbrev pub Gone : (m : ℕ) → KeyTree (List ℕ) B m → KeyTree (List ℕ) B m → Type 0
  Gone = Removes (List ℕ) Takes Empty

  -- the tree becomes empty
  abbrev pub IsGoing : (m : ℕ) → KeyTree (List ℕ) B m → Type 0
  IsGoing m t = (c : KeyTree (List ℕ) B m) × Gone m t c × IsEmptied (List ℕ) Empty m c

  module _ (V : Reading) (at : AtChild B) (m : ℕ) (keys : List (List ℕ)) (children : List ℕ) (i : ℕ)
      (long : length keys ≡ length children + 1) (low : i < length children) where
    -- nothing is left below child i: it goes, and the key before it
    pub loses : IsGoing m (tree_below V at m (get_or keys i []) (get_or children i 0))
        → Gone (suc m) (keys, trees_below V at m keys children) (remove keys i, trees_below V at m (remove keys i) (remove children i))
    loses going = (
      enters V at m keys children i long low,
      going.0,
      going.1,
      inr (going.2, keys_less V at m keys children i long low, trees_less V at m keys children i long low),
    )

    -- and it was the only one
    empties : length children ≡ 1 → IsGoing m (tree_below V at m (get_or keys i []) (get_or children i 0)) → IsGoing (suc m) (keys, trees_below V at m keys children)
    empties one going = (
      (remove keys i, trees_below V at m (remove keys i) (remove children i)),
      loses going,
      ap (trees_below V at m (remove keys i)) (remove_alone children i one low) ∙ below_none V at m (remove keys i),
    )

  -- another tree stands below child i, and what stands below the others stays
  module _ (Y V : Reading) (now at : AtChild B) (m : ℕ) (keys : List (List ℕ)) (children : List ℕ) (i : ℕ)
      (long : length keys ≡ length children + 1) (low : i < length children) where
    changes : AreAlike Y V now at (suc m) (take i children) → AreAlike Y V now at (suc m) (drop (suc i) children)
        → Gone (suc m) (keys_from V at m (get_or children i 0)) (keys_from Y now m (get_or children i 0))
        → Gone (suc (suc m)) (keys, trees_below V at (suc m) keys children) (keys, trees_below Y now (suc m) keys children)
    changes before behind gone = (
      enters V at (suc m) keys children i long low,
      keys_from Y now m (get_or children i 0),
      gone,
      inl (
        refl,
        trees_cut Y now (suc m) keys children i long low
            ∙ ap₂ (λ (xs ys : List (KeyTree (List ℕ) B (suc m))). xs ++ keys_from Y now m (get_or children i 0) ∷ ys)
            (sym (below-same Y V now at (suc m) (take i keys) (take i children) before))
            (sym (below-same Y V now at (suc m) (get_or keys (suc i) [] ∷ drop (suc (suc i)) keys) (drop (suc i) children) behind)),
      ),
    )

-- ---- the way to where it stopped

module _ {B : Type 0} (Takes : B → B → Type 0) (Empty : B → Type 0) (s : Space) (kind : Kind) (owned : List ℕ) (root : ℕ) (out : IsNoNode (reading_of s.bytes kind owned) undefined_address)
    (was : AtChild B) where
  abbrev V : Reading
  V = node_at s.bytes kind

  abbrev X : Reading
  X = reading_of s.bytes kind owned

  pub here_same : (m a : ℕ) (f bk : List ℕ) → m < 16 → IsRow X m undefined_address (f ++ a ∷ bk) → X a ≡ V a
  here_same m a f bk top row =
      owned_at V owned a (owned_of_level V owned a (let l = level_here X m a f bk top out row in omega (arith, l, top)))

  -- what stands below the child of a step
  abbrev pub tree_at : (m : ℕ) → Step → KeyTree (List ℕ) B m
  tree_at m st = tree_below V was m (get_or (V st.node).keys st.place []) (get_or (V st.node).children st.place 0)

  -- where the nodes below a step had one child alone, nothing is left below it
  abbrev pub IsStopped : Step → List Step → ℕ → Type 0
  IsStopped step above total =
      (m : ℕ) × (f : List ℕ) × (bk : List ℕ) × IsWay X m root above step.node f bk × IsRow X m undefined_address (f ++ step.node ∷ bk)
      × (step.place < length (V step.node).children) × (length above + m ≡ total) × IsGoing Takes Empty m (tree_at m step)

  pub sinks : (gone : List Step) (step : Step) (above : List Step) (m : ℕ) (cur : Step) (rest : List Step) (f bk : List ℕ) → length rest + m < 16
      → IsWay X m root rest cur.node f bk → IsRow X m undefined_address (f ++ cur.node ∷ bk) → cur.place < length (V cur.node).children → cur ∷ rest ≡ gone ++ step ∷ above
      → AllByRecursion (λ (g : Step). length (V g.node).children ≡ 1) gone → IsGoing Takes Empty m (tree_at m cur) → IsStopped step above (length rest + m)
  sinks [] step above m cur rest f bk high w row low cut ones going =
      let first : cur ≡ step = cc in
      let same : rest ≡ above = cc in
      subst (λ (st : Step). IsStopped st above (length rest + m)) first
      (subst (λ (ws : List Step). IsStopped cur ws (length rest + m)) same (m, f, bk, w, row, low, refl, going))
  sinks (g ∷ gone) step above m cur [] f bk high w row low cut ones going =
      let long = ap (λ (ws : List Step). length ws) cut in
      let more = length-append gone (step ∷ above) in
      absurd (omega (arith, long, more))
  sinks (g ∷ gone) step above m cur (next ∷ rest) f bk high w row low cut ones going =
      let first : cur ≡ g = cc in
      let same : next ∷ rest ≡ gone ++ step ∷ above = cc in
      let up = here_same (suc m) next.node w.0 w.1 (omega (arith, high)) w.2.row in
      let one : length (V cur.node).children ≡ 1 = subst (λ (st : Step). length (V st.node).children ≡ 1) (sym first) ones.0 in
      let child : get_or (V next.node).children next.place 0 ≡ cur.node = ap (λ (n : Node). get_or n.children next.place 0) (sym up) ∙ w.2.child in
      let all = empties Takes Empty V was m (V cur.node).keys (V cur.node).children cur.place (keys_count s.bytes kind cur.node) low one going in
      let sum : length rest + suc m ≡ suc (length rest) + m = omega arith in
      subst (IsStopped step above) sum
      (sinks gone step above (suc m) next rest w.0 w.1 (omega (arith, high)) w.3 w.2.row (subst (λ (n : Node). next.place < length n.children) up w.2.place) same ones.1
      (subst (λ (n : ℕ). IsGoing Takes Empty (suc m) (keys_from V was m n)) (sym child) all))

-- ---- from there up

module _ {B : Type 0} (Takes : B → B → Type 0) (Empty : B → Type 0) (Y V : Reading) (now was : AtChild B) (root : ℕ)
    (count : (n : ℕ) → length (V n).keys ≡ length (V n).children + 1) where
  -- a node with the same keys and children
  pub node_alike : (m n : ℕ) → IsAlike Y V now was n → keys_from V was m n ≡ ((Y n).keys, trees_below V was m (Y n).keys (Y n).children)
  node_alike m n same = ap₂ (λ (ks : List (List ℕ)) (cs : List ℕ). (ks, trees_below V was m ks cs)) same.0 same.1

  pub rises : (above : List Step) (m a : ℕ) (f bk : List ℕ) (level : ℕ) → length above + m ≡ level → IsWay Y m root above a f bk → IsOffWay Y V now was m above
      → AllByRecursion (λ (st : Step). IsAlike Y V now was st.node) above
      → Removes (List ℕ) Takes Empty (suc m) (keys_from V was m a) (keys_from Y now m a)
      → Removes (List ℕ) Takes Empty (suc level) (keys_from V was level root) (keys_from Y now level root)
  rises [] m a f bk level sum w off same gone =
      let high : m ≡ level = omega (arith, sum) in
      subst (λ (l : ℕ). Removes (List ℕ) Takes Empty (suc l) (keys_from V was l root) (keys_from Y now l root)) high
      (subst (λ (n : ℕ). Removes (List ℕ) Takes Empty (suc m) (keys_from V was m n) (keys_from Y now m n)) w.0 gone)
  rises (st ∷ above) m a f bk level sum w off same gone =
      let p = st.node in
      let long : length (Y p).keys ≡ length (Y p).children + 1
      = ap (λ (ks : List (List ℕ)). length ks) (sym same.0.0) ∙ count p ∙ ap (λ (cs : List ℕ). length cs + 1) same.0.1 in
      let here = changes Takes Empty Y V now was m (Y p).keys (Y p).children st.place long w.2.place off.0 off.1
      (subst (λ (n : ℕ). Removes (List ℕ) Takes Empty (suc m) (keys_from V was m n) (keys_from Y now m n)) (sym w.2.child) gone) in
      rises above (suc m) p w.0 w.1 level (omega (arith, sum)) w.3 off.2 same.1
      (subst (λ (t : KeyTree (List ℕ) B (suc (suc m))). Removes (List ℕ) Takes Empty (suc (suc m)) t (keys_from Y now (suc m) p)) (sym (node_alike (suc m) p same.0)) here)
