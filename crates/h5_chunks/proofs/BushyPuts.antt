-- A child put into a tree leaves nodes at least half full that were so: a node on the way gets one child more, or is cut in halves of K
-- children at least (File Format Specification 3.0, section III.A.1).
use Rattle.std.proofs.Common.{◌≡◌, ◌≢◌, ◌⊎◌, inl, inr, ℕ, zero, suc, ◌+◌, ◌*◌, ◌≤◌, Bool, true, false, List, [], ◌∷◌, ◌++◌, length, take, drop, get_or, sym, ap, ◌∙◌, subst, arith, add-one}
use Rattle.std.specs.Prelude.{if◌then◌else◌}
use Rattle.std.specs.List.{AllByRecursion, insert, remove}
use Rattle.std.proofs.lemmas.List.{length-drop, length-take-le, take-append-drop}
use Rattle.std.proofs.lemmas.List.Edits.{length-insert}
use Rattle.h5_bytes.specs.Bytes.{undefined_address}
use Rattle.h5_bytes.proofs.BlockLaws.{all_append, all_left, all_right}
use Rattle.h5_model.specs.Format.Rows.{Node, Reading, IsRow, next_row}
use Rattle.h5_model.specs.Format.Nodes.{Kind, HasTree, node_at, reading_of}
use Rattle.h5_model.proofs.OneTree.{level_is, owned_is}
use Rattle.h5_model.proofs.RowLaws.{all_listed}
use Rattle.h5_laws.proofs.Lists.{In, in_all}
use Rattle.h5_laws.proofs.Subtrees.{read_same}
use Rattle.h5_space.specs.Space.{Space}
use Rattle.h5_btree.specs.Climb.{IsWay}
use Rattle.h5_btree.specs.Insertion.{IsPutAlong, KeepsEntries, Owns, left_count}
use Rattle.h5_btree.specs.Keyed.{AtChild}
use Rattle.h5_btree.specs.Removal.{EndsInTree}
use Rattle.h5_btree.specs.Widened.{AreWidened}
use Rattle.h5_btree.specs.declared.way.Step.{Step}
use Rattle.h5_btree.specs.declared.widening.End.{End}
use Rattle.h5_btree.proofs.ClimbSteps.{at_or}
use Rattle.h5_btree.proofs.HalfLists.{left_bounds}
use Rattle.h5_btree.proofs.KeyedGrown.{insert_behind}
use Rattle.h5_btree.proofs.KeyedOff.{off_is, off_out, off_steps}
use Rattle.h5_btree.proofs.KeyedOwn.{all_stand}
use Rattle.h5_btree.proofs.KeyedTrees.{AreAlike, IsAlike, IsOffWay, StandsAlike, alike_left, alike_right, cut_at}
use Rattle.h5_btree.proofs.RowEdits.{level_here}
use Rattle.h5_btree.proofs.TreeReadings.{owned_at, owned_of_level}
use Rattle.h5_chunks.specs.Bushy.{IsBushyBelow, least_children}
use Rattle.h5_chunks.proofs.BushyNodes.{AreBushy, IsBushyNode, are_below, below_are, bushy_same, least_low}

-- the trees are looked at by their nodes alone, and not by what stands at the bottom
abbrev address : AtChild ℕ
address key child = child

-- ---- what stands off the way

module _ (V W : Reading) (k low : ℕ) where
  row_alike : (m : ℕ) (below : (ns : List ℕ) → AreAlike V W address address m ns → AreBushy V k low m ns → AreBushy W k low m ns)
      → (row : List ℕ) → AllByRecursion (IsAlike V W address address) row → AreAlike V W address address m (next_row V row)
      → AllByRecursion (IsBushyNode V k low m) row → AllByRecursion (IsBushyNode W k low m) row
  row_alike m below [] same under is = tt
  row_alike m below (n ∷ row) same under is =
      let children = below (V n).children (alike_left V W address address m (V n).children (next_row V row) under) (below_are V k low m n is.0.1) in (
        (
          subst (λ (cs : List ℕ). least_children k low m ≤ length cs) (sym same.0.1) is.0.0,
          are_below W k low m n (subst (AreBushy W k low m) (sym same.0.1) children),
        ),
        row_alike m below row same.1 (alike_right V W address address m (V n).children (next_row V row) under) is.1,
      )

  alike_bushy : (m : ℕ) (ns : List ℕ) → AreAlike V W address address m ns → AreBushy V k low m ns → AreBushy W k low m ns
  alike_bushy zero ns alike is = tt
  alike_bushy (suc m) ns alike is = row_alike m (alike_bushy m) ns alike.0 alike.1 is

module _ (s t : Space) (kind : Kind) (root level : ℕ) (way : List Step) (owned list : List ℕ) (number : ℕ) (e : EndsInTree s kind root level way owned list number)
    (some : 1 ≤ kind.k) (behind : Bool) (keys : List ℕ) (child : ℕ)
    (along : IsPutAlong s.bytes t.bytes kind e.step.node e.above (if behind then e.step.place + 1 else e.step.place) keys child)
    (others : (n : ℕ) → Owns owned n → AllByRecursion (λ (step : Step). n ≢ step.node) way → KeepsEntries s.bytes t.bytes kind n)
    (low : ℕ) where
  abbrev V : Reading
  V = node_at s.bytes kind

  abbrev W : Reading
  W = node_at t.bytes kind

  abbrev Y : Reading
  Y = reading_of s.bytes kind owned

  abbrev Below : Reading → ℕ → ℕ → Type 0
  Below U m n = IsBushyBelow U kind.k low m n

  abbrev Bushy : Reading → ℕ → ℕ → Type 0
  Bushy U m n = IsBushyNode U kind.k low m n

  abbrev AllBushy : Reading → ℕ → List ℕ → Type 0
  AllBushy U m ns = AreBushy U kind.k low m ns

  all_same : AllByRecursion (StandsAlike V W address address) (remove list number)
  all_same = all_stand V W address (remove list number)

  off : IsOffWay Y W address address 0 e.above
  off = off_is s t kind root level way owned list number e others address address all_same

  -- the tree by its own nodes
  own_bushy : Below V level root → Below Y level root
  own_bushy is =
      let all = owned_is s.bytes kind root level owned list e.tree in
      bushy_same V Y kind.k low level root (λ n there. ap (λ (o : Node). o.children)
      (read_same s.bytes kind root level owned list e.tree n (subst (In n) (sym all) there))) is

  there : (m p : ℕ) (f bk : List ℕ) → m ≤ level → IsRow Y m undefined_address (f ++ p ∷ bk) → Y p ≡ V p
  there m p f bk deep row =
      let top = e.tree.low in
      let out = off_out s t kind root level way owned list number e others address address all_same in
      let here = level_here Y m p f bk (omega (arith, deep, top)) out row in
      owned_at V owned p (owned_of_level V owned p (omega (arith, here, deep, top)))

  -- ---- down the way

  module _ (old : Below Y level root) where
    old_below : (above : List Step) (m a : ℕ) (f bk : List ℕ) → length above + m ≡ level → IsWay Y m root above a f bk → Below Y m a
    old_below [] m a f bk sum w =
        let deep : level ≡ m = omega (arith, sum) in
        subst (Below Y m) (sym w.0) (subst (λ (l : ℕ). Below Y l root) deep old)
    old_below (st ∷ above) m a f bk sum w =
        let up = old_below above (suc m) st.node w.0 w.1 (omega (arith, sum)) w.3 in
        let cs = (Y st.node).children in
        let i = st.place in
        let all = subst (AllByRecursion (Bushy Y m)) (cut_at cs i 0 w.2.place) up in
        subst (Below Y m) w.2.child (all_right (Bushy Y m) (take i cs) (get_or cs i 0 ∷ drop (suc i) cs) all).0.1

    -- ---- a step up

    -- where a node of the way has its children still, all but the one on the way are as they were; these stand around it
    module _ (st : Step) (above : List Step) (m a : ℕ) (f bk : List ℕ) (sum : length (st ∷ above) + m ≡ level) (w : IsWay Y m root (st ∷ above) a f bk)
        (beside : IsOffWay Y W address address m (st ∷ above)) where
      abbrev cs : List ℕ
      cs = (Y st.node).children

      abbrev i : ℕ
      i = st.place

      all_old : AllByRecursion (Bushy Y m) (take i cs ++ get_or cs i 0 ∷ drop (suc i) cs)
      all_old = subst (AllByRecursion (Bushy Y m)) (cut_at cs i 0 w.2.place) (old_below above (suc m) st.node w.0 w.1 (omega (arith, sum)) w.3)

      around_old : AllByRecursion (Bushy Y m) (get_or cs i 0 ∷ drop (suc i) cs)
      around_old = all_right (Bushy Y m) (take i cs) (get_or cs i 0 ∷ drop (suc i) cs) all_old

      old_least : least_children kind.k low m ≤ length (Y a).children
      old_least = subst (λ (n : ℕ). least_children kind.k low m ≤ length (Y n).children) w.2.child around_old.0.0

      before_now : AllByRecursion (Bushy W m) (take i cs)
      before_now = alike_bushy Y W kind.k low (suc m) (take i cs) beside.0 (all_left (Bushy Y m) (take i cs) (get_or cs i 0 ∷ drop (suc i) cs) all_old)

      behind_now : AllByRecursion (Bushy W m) (drop (suc i) cs)
      behind_now = alike_bushy Y W kind.k low (suc m) (drop (suc i) cs) beside.1 around_old.1

      -- the one is so too
      with_one : Bushy W m a → AllByRecursion (Bushy W m) cs
      with_one one =
          let here = subst (Bushy W m) (sym w.2.child) one in
          subst (AllByRecursion (Bushy W m)) (sym (cut_at cs i 0 w.2.place))
          (all_append (Bushy W m) (take i cs) (get_or cs i 0 ∷ drop (suc i) cs) before_now (here, behind_now))

      -- and another one behind it
      with_two : (q : ℕ) → Bushy W m a → Bushy W m q → AllByRecursion (Bushy W m) (insert cs (i + 1) q)
      with_two q one two =
          let here = subst (Bushy W m) (sym w.2.child) one in
          let more : suc i ≡ i + 1 = sym (add-one i) in
          subst (λ (j : ℕ). AllByRecursion (Bushy W m) (insert cs j q)) more
          (subst (AllByRecursion (Bushy W m)) (sym (insert_behind cs i 0 q w.2.place))
          (all_append (Bushy W m) (take i cs) (get_or cs i 0 ∷ q ∷ drop (suc i) cs) before_now (here, (two, behind_now))))

    -- ---- where nothing more comes up

    ups : (above : List Step) (m a : ℕ) (f bk : List ℕ) → length above + m ≡ level → IsWay Y m root above a f bk → IsOffWay Y W address address m above
        → AllByRecursion (λ (st : Step). KeepsEntries s.bytes t.bytes kind st.node) above → length (Y a).children ≤ length (W a).children → Below W m a
        → (W a).level ≡ (V a).level → Below W level root × ((W root).level ≡ (V root).level)
    ups [] m a f bk sum w beside keep long is same =
        let deep : m ≡ level = omega (arith, sum) in
        (subst (λ (l : ℕ). Below W l root) deep (subst (Below W m) w.0 is), subst (λ (n : ℕ). (W n).level ≡ (V n).level) w.0 same)
    ups (st ∷ above) m a f bk sum w beside keep long is same =
        let least = old_least st above m a f bk sum w beside in
        let all = with_one st above m a f bk sum w beside (omega (arith, least, long), is) in
        let mine = there (suc m) st.node w.0 w.1 (omega (arith, sum)) w.2.row in
        let children : (W st.node).children ≡ (Y st.node).children = keep.0.1 ∙ ap (λ (o : Node). o.children) (sym mine) in
        let count : length (W st.node).children ≡ length (Y st.node).children = ap (λ (ns : List ℕ). length ns) children in
        ups above (suc m) st.node w.0 w.1 (omega (arith, sum)) w.3 beside.2 keep.1 (omega (arith, count))
        (subst (AllByRecursion (Bushy W m)) (sym children) all) keep.0.2

    -- ---- from a node up

    -- the halves of a node that was full
    halves : (m j c l r : ℕ) (ns : List ℕ) → length ns ≡ 2 * kind.k → j ≤ length ns → AllBushy W m (insert ns j c)
        → (W l).children ≡ take (left_count kind.k j) (insert ns j c) → (W r).children ≡ drop (left_count kind.k j) (insert ns j c) → Bushy W m l × Bushy W m r
    halves m j c l r ns full place all left right =
        let n = left_count kind.k j in
        let all_ns : List ℕ = insert ns j c in
        let half = left_bounds kind.k j in
        let least = least_low kind.k low m some in
        let long = length-insert ns j c place in
        let count_l : length (W l).children ≡ n = ap (λ (xs : List ℕ). length xs) left ∙ length-take-le n all_ns (omega (arith, half.1, long, full, some)) in
        let count_r = ap (λ (xs : List ℕ). length xs) right ∙ length-drop n all_ns in
        let parts = each_half m n all_ns all in (
          (omega (arith, count_l, half.0, least), are_below W kind.k low m l (subst (AllBushy W m) (sym left) parts.0)),
          (omega (arith, count_r, half.1, least, long, full), are_below W kind.k low m r (subst (AllBushy W m) (sym right) parts.1)),
        )
      where
        each_half : (m n : ℕ) (ns : List ℕ) → AllBushy W m ns → AllBushy W m (take n ns) × AllBushy W m (drop n ns)
        each_half zero n ns all = (tt, tt)
        each_half (suc m) n ns all =
            let cut = subst (AllByRecursion (Bushy W m)) (sym (take-append-drop n ns)) all in
            (all_left (Bushy W m) (take n ns) (drop n ns) cut, all_right (Bushy W m) (take n ns) (drop n ns) cut)

    -- the tree is as high as before, or one level higher
    abbrev IsDone : Type 0
    IsDone = (Below W level root × ((W root).level ≡ (V root).level)) ⊎ (Below W (suc level) root × ((W root).level ≡ suc (V root).level))

    climbs : (above : List Step) (m p j : ℕ) (keys : List ℕ) (c : ℕ) (f bk : List ℕ) → length above + m ≡ level → IsWay Y m root above p f bk
        → IsRow Y m undefined_address (f ++ p ∷ bk) → IsOffWay Y W address address m above → IsPutAlong s.bytes t.bytes kind p above j keys c → j ≤ length (Y p).children
        → AllBushy W m (insert (Y p).children j c) → IsDone
    climbs [] m p j keys c f bk sum w row beside (inl come) place all =
        let deep : m ≡ level = omega (arith, sum) in
        let mine = there m p f bk (omega (arith, sum)) row in
        let children : (W p).children ≡ insert (Y p).children j c = come.children ∙ ap (λ (o : Node). insert o.children j c) (sym mine) in
        inl (
          subst (λ (l : ℕ). Below W l root) deep (subst (Below W m) w.0 (are_below W kind.k low m p (subst (AllBushy W m) (sym children) all))),
          subst (λ (n : ℕ). (W n).level ≡ (V n).level) w.0 come.level,
        )
    climbs [] m p j keys c f bk sum w row beside (inr (full, (l, r, risen))) place all =
        let deep : m ≡ level = omega (arith, sum) in
        let mine = there m p f bk (omega (arith, sum)) row in
        let both = halves m j c l r (V p).children full (subst (λ (o : Node). j ≤ length o.children) mine place)
        (subst (λ (o : Node). AllBushy W m (insert o.children j c)) mine all) risen.left risen.right in
        let over : Below W (suc m) p = subst (AllByRecursion (Bushy W m)) (sym risen.children) (both.0, (both.1, tt)) in
        inr (subst (λ (l : ℕ). Below W (suc l) root) deep (subst (Below W (suc m)) w.0 over), subst (λ (n : ℕ). (W n).level ≡ suc (V n).level) w.0 risen.level)
    climbs (next ∷ above) m p j keys c f bk sum w row beside (inl (come, keep)) place all =
        let mine = there m p f bk (omega (arith, sum)) row in
        let children : (W p).children ≡ insert (Y p).children j c = come.children ∙ ap (λ (o : Node). insert o.children j c) (sym mine) in
        let count : length (W p).children ≡ length (Y p).children + 1 = ap (λ (ns : List ℕ). length ns) children ∙ length-insert (Y p).children j c place in
        inl (ups (next ∷ above) m p f bk sum w beside keep (omega (arith, count)) (are_below W kind.k low m p (subst (AllBushy W m) (sym children) all)) come.level)
    climbs (next ∷ above) m p j keys c f bk sum w row beside (inr (full, (q, cut, more))) place all =
        let mine = there m p f bk (omega (arith, sum)) row in
        let both = halves m j c p q (V p).children full (subst (λ (o : Node). j ≤ length o.children) mine place)
        (subst (λ (o : Node). AllBushy W m (insert o.children j c)) mine all) cut.left cut.right in
        let low_place = w.2.place in
        climbs above (suc m) next.node (next.place + 1) (drop kind.key_length keys) q w.0 w.1 (omega (arith, sum)) w.3 w.2.row beside.2 more (omega (arith, low_place))
        (with_two next above m p f bk sum w beside q both.0 both.1)

  place_within : (b : Bool) → (if b then e.step.place + 1 else e.step.place) ≤ length (Y e.step.node).children
  place_within true = let l = e.place in omega (arith, l)
  place_within false = let l = e.place in omega (arith, l)

  -- AN INSERTION LEAVES EACH NODE BELOW THE ROOT AS MANY CHILDREN
  pub bushy_put : (height : ℕ) (all now : List ℕ) → HasTree t.bytes kind root height all now
      → IsBushyBelow (node_at s.bytes kind) kind.k low level root → IsBushyBelow (node_at t.bytes kind) kind.k low height root
  bushy_put height all now tree old =
      let steps = off_steps s t kind root level way owned list number e others address address all_same in
      let old_level = level_is s.bytes kind root level owned list e.tree in
      let new_level = level_is t.bytes kind root height all now tree in
      elim (climbs (own_bushy old) e.above 0 e.step.node (if behind then e.step.place + 1 else e.step.place) keys child e.front e.back (omega (arith, steps))
      e.leads e.row off along (place_within behind) tt) [
        | inl same ↦ subst (λ (h : ℕ). Below W h root) (sym old_level ∙ sym same.1 ∙ new_level) same.0
        | inr higher ↦ subst (λ (h : ℕ). Below W h root) (ap (λ (l : ℕ). suc l) (sym old_level) ∙ sym higher.1 ∙ new_level) higher.0
      ]

-- ---- keys alone are others

module _ (old new : List ℕ) (kind : Kind) (low high : List ℕ) where
  widened_children : (n : ℕ) (way : List Step) (ends : List End) → AreWidened old new kind way ends low high
      → (AllByRecursion (λ (step : Step). n ≢ step.node) way → (node_at new kind n).children ≡ (node_at old kind n).children)
      → (node_at new kind n).children ≡ (node_at old kind n).children
  widened_children n [] ends is off = off tt
  widened_children n (step ∷ way) [] is off = at_or step.node n
      (λ same. subst (λ (m : ℕ). (node_at new kind m).children ≡ (node_at old kind m).children) (sym same) (ap (λ (o : Node). o.children) is.0))
      (λ other. widened_children n way [] is.1 (λ apart. off (other, apart)))
  widened_children n (step ∷ way) (end ∷ ends) is off = at_or step.node n
      (λ same. subst (λ (m : ℕ). (node_at new kind m).children ≡ (node_at old kind m).children) (sym same) (ap (λ (o : Node). o.children) is.0))
      (λ other. widened_children n way ends is.1 (λ apart. off (other, apart)))

  -- where the end keys of the nodes on a way are moved, each node has as many children
  pub bushy_widened : (root level : ℕ) (owned list : List ℕ) → HasTree old kind root level owned list → (way : List Step) (ends : List End)
      → AreWidened old new kind way ends low high
      → ((n : ℕ) → Owns owned n → AllByRecursion (λ (step : Step). n ≢ step.node) way → node_at new kind n ≡ node_at old kind n)
      → (up : ℕ) → IsBushyBelow (node_at old kind) kind.k up level root → IsBushyBelow (node_at new kind) kind.k up level root
  bushy_widened root level owned list has way ends is others up bushy =
      let all = owned_is old kind root level owned list has in
      bushy_same (node_at old kind) (node_at new kind) kind.k up level root (λ n there.
      let listed = in_all (Owns owned) n owned (all_listed owned) (subst (In n) (sym all) there) in
      widened_children n way ends is (λ apart. ap (λ (o : Node). o.children) (others n listed apart))) bushy
