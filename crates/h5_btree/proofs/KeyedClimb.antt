-- An insertion along a way, node by node, as one into the tree of keys: from the node where a child comes in up to the root.
use Rattle.std.proofs.Common.{◌≡◌, ◌⊎◌, inl, inr, ℕ, suc, ◌+◌, ◌*◌, ◌<◌, ◌≤◌, Bool, List, [], ◌∷◌, ◌++◌, length, map, take, drop, get_or, refl, sym, ap, ◌∙◌, subst, arith, add-one}
use Rattle.std.specs.List.{AllByRecursion, insert}
use Rattle.std.proofs.lemmas.List.Edits.{length-insert}
use Rattle.std.proofs.lemmas.List.{drop_all}
use Rattle.std.proofs.Math.Seq.{drop-cons}
use Rattle.h5_bytes.specs.Bytes.{undefined_address}
use Rattle.h5_bytes.proofs.BlockLaws.{all_right}
use Rattle.h5_model.specs.Format.Limits.{highest_level}
use Rattle.h5_model.specs.Format.Rows.{Node, Reading, IsRow, AreRows}
use Rattle.h5_model.specs.Format.Nodes.{Kind, IsNode, node_at, node_bytes, reading_of}
use Rattle.h5_model.proofs.RowLaws.{at_listed}
use Rattle.h5_laws.specs.Ladders.{Sides, LieBetween}
use Rattle.h5_laws.specs.KeyTrees.{KeyTree, items_in, IsSorted}
use Rattle.h5_laws.specs.KeyEdits.{Grown, One, Two, IsHeld, IsRaised}
use Rattle.h5_laws.proofs.KeyLadders.{Ladder, around}
use Rattle.h5_laws.proofs.Rows.{row_is}
use Rattle.h5_btree.specs.Climb.{IsNoNode, IsWay}
use Rattle.h5_btree.specs.Held.{AreHeldKeys, held_key, key_between}
use Rattle.h5_btree.specs.Insertion.{HasComeIn, HasRisen, IsPutAlong, KeepsEntries, left_count}
use Rattle.h5_btree.specs.Keyed.{AtChild, trees_below, keys_from}
use Rattle.h5_btree.specs.declared.way.Step.{Step}
use Rattle.h5_btree.proofs.ClimbLaws.{row_here}
use Rattle.h5_btree.proofs.NodeLaws.{length-children}
use Rattle.h5_btree.proofs.RowEdits.{level_here}
use Rattle.h5_btree.proofs.TreeReadings.{Listed, owned_at, owned_of_level}
use Rattle.h5_btree.proofs.KeyedTrees.{IsOffWay, cut_at}
use Rattle.h5_btree.proofs.KeyedOwn.{keys_count, keys_cut, long_trees, trees_cut}
use Rattle.h5_btree.proofs.KeyedGrown.{GoesIn, IsWide, wide_same, wide_behind, fits_one, fits_two}
use Rattle.h5_btree.proofs.HalfLists.{left_bounds}

module _ {B X : Type 0} (sides : Sides (List ℕ) X) (items : B → List X) (Base : B → Type 0) (Puts : B → Grown (List ℕ) B → Type 0) (x : X) (low high : List ℕ)
    (follows : List ℕ → List ℕ → Bool) (s t : List ℕ) (kind : Kind) (root level : ℕ) (owned : List ℕ) (out : IsNoNode (reading_of s kind owned) undefined_address) (top : level ≤ highest_level)
    (formed : AllByRecursion (λ at. IsNode kind (node_bytes s kind at)) owned) (some : 1 ≤ kind.k) (was now : AtChild B) where
  abbrev V : Reading
  V = node_at s kind

  abbrev W : Reading
  W = node_at t kind

  abbrev Y : Reading
  Y = reading_of s kind owned

  abbrev In : (m : ℕ) → KeyTree (List ℕ) B m → Grown (List ℕ) (KeyTree (List ℕ) B m) → Type 0
  In = GoesIn sides Puts kind.k x low high Y W was now

  abbrev Wide : ℕ → List (List ℕ) → List ℕ → List (List ℕ) → List ℕ → Type 0
  Wide = IsWide sides Puts kind.k x low high Y W was now

  abbrev S : (height : ℕ) → KeyTree (List ℕ) B height → Type 0
  S = IsSorted sides items Base

  abbrev I : (height : ℕ) → KeyTree (List ℕ) B height → List X
  I = items_in (List ℕ) items

  -- the keys around the child of a step let the item in
  abbrev pub IsAdmitted : Step → Type 0
  IsAdmitted st = sides.Right (get_or (V st.node).keys st.place []) x × sides.Left x (get_or (V st.node).keys (suc st.place) [])

  -- a key that comes up from a node in order is held between the keys around its place
  abbrev pub AreHeld : Type 0
  AreHeld = (m n : ℕ) (f bk : List ℕ) (a b : KeyTree (List ℕ) B (suc m)) (l u h : List ℕ) → m < level → AreRows Y m (f ++ n ∷ bk) → S (suc m) (keys_from Y was m n)
      → LieBetween sides l h (I (suc m) (keys_from Y was m n)) → sides.Right l x → sides.Left x h → In (suc m) (keys_from Y was m n) (Two a u b)
      → IsHeld sides l h u (held_key follows l u h)

  -- ---- a node of the tree

  module _ (m p : ℕ) (f bk : List ℕ) (deep : m ≤ level) (row : IsRow Y m undefined_address (f ++ p ∷ bk)) where
    listed : Listed owned p
    listed = owned_of_level V owned p (let l = level_here Y m p f bk (omega (arith, deep, top)) out row in omega (arith, l, deep, top))

    pub there : Y p ≡ V p
    there = owned_at V owned p listed

    pub long : length (Y p).keys ≡ length (Y p).children + 1
    long = subst (λ (n : Node). length n.keys ≡ length n.children + 1) (sym there) (keys_count s kind p)

    pub roomy : length (Y p).children ≤ 2 * kind.k
    roomy =
        let form = at_listed (λ at. IsNode kind (node_bytes s kind at)) owned p formed listed in
        let count = length-children kind (node_bytes s kind p) (V p) refl in
        let few = form.roomy in
        subst (λ (n : Node). length n.children ≤ 2 * kind.k) (sym there) (omega (arith, count, few))

  -- ---- where nothing more comes up

  pub ups : (above : List Step) (m a : ℕ) (f bk : List ℕ) → length above + m ≡ level → IsWay Y m root above a f bk → IsOffWay Y W was now m above
      → AllByRecursion (λ (st : Step). KeepsEntries s t kind st.node) above → AllByRecursion IsAdmitted above
      → In (suc m) (keys_from Y was m a) (One (keys_from W now m a)) → In (suc level) (keys_from Y was level root) (One (keys_from W now level root))
  ups [] m a f bk sum w off keep admits goes =
      let deep : m ≡ level = omega (arith, sum) in
      subst (λ (l : ℕ). In (suc l) (keys_from Y was l root) (One (keys_from W now l root))) deep
      (subst (λ (n : ℕ). In (suc m) (keys_from Y was m n) (One (keys_from W now m n))) w.0 goes)
  ups (st ∷ above) m a f bk sum w off keep admits goes =
      let p = st.node in
      let b = w.2 in
      let deep : suc m ≤ level = omega (arith, sum) in
      let same = there (suc m) p w.0 w.1 deep b.row in
      let count = long (suc m) p w.0 w.1 deep b.row in
      let admit = subst (λ (n : Node). sides.Right (get_or n.keys st.place []) x × sides.Left x (get_or n.keys (suc st.place) [])) (sym same) admits.0 in
      let wide = wide_same sides Puts kind.k x low high Y W was now (suc m) (Y p).keys (Y p).children st.place count b.place off.0 off.1 admit.0 admit.1
      (subst (λ (n : ℕ). In (suc m) (keys_from Y was m n) (One (keys_from W now m n))) (sym b.child) goes) in
      ups above (suc m) p w.0 w.1 (omega (arith, sum)) w.3 off.2 keep.1 admits.1
      (fits_one sides Puts kind.k x low high Y W was now (suc m) (Y p).keys (Y p).children (Y p).keys (Y p).children wide count p
      (keep.0.0 ∙ ap (λ (n : Node). n.keys) (sym same)) (keep.0.1 ∙ ap (λ (n : Node). n.children) (sym same)) (roomy (suc m) p w.0 w.1 deep b.row))

  -- the root is the last of the nodes on a way
  root_keeps : (next : Step) (above : List Step) (m a : ℕ) (f bk : List ℕ) → IsWay Y m root (next ∷ above) a f bk
      → AllByRecursion (λ (st : Step). KeepsEntries s t kind st.node) (next ∷ above) → KeepsEntries s t kind root
  root_keeps next [] m a f bk w keep = subst (KeepsEntries s t kind) (w.3).0 keep.0
  root_keeps next (st ∷ above) m a f bk w keep = root_keeps st above (suc m) next.node w.0 w.1 w.3 keep.1

  -- ---- the nodes on a way are in order

  pub sorted_way : (above : List Step) (m a : ℕ) (f bk : List ℕ) → length above + m ≡ level → IsWay Y m root above a f bk → S (suc level) (keys_from Y was level root)
      → S (suc m) (keys_from Y was m a)
  sorted_way [] m a f bk sum w sorted =
      let deep : level ≡ m = omega (arith, sum) in
      subst (λ (n : ℕ). S (suc m) (keys_from Y was m n)) (sym w.0) (subst (λ (l : ℕ). S (suc l) (keys_from Y was l root)) deep sorted)
  sorted_way (st ∷ above) m a f bk sum w sorted =
      let up = sorted_way above (suc m) st.node w.0 w.1 (omega (arith, sum)) w.3 sorted in
      let b = w.2 in
      let count = long (suc m) st.node w.0 w.1 (omega (arith, sum)) b.row in
      let K = (Y st.node).keys in
      let i = st.place in
      let cut = trees_cut Y was (suc m) K (Y st.node).children i count b.place in
      let xs = trees_below Y was (suc m) (take i K) (take i (Y st.node).children) in
      let ys = trees_below Y was (suc m) (get_or K (suc i) [] ∷ drop (suc (suc i)) K) (drop (suc i) (Y st.node).children) in
      subst (λ (n : ℕ). S (suc m) (keys_from Y was m n)) b.child
      (all_right (S (suc m)) xs (keys_from Y was m (get_or (Y st.node).children i 0) ∷ ys) (subst (AllByRecursion (S (suc m))) cut up.1)).0

  -- and what is below a child stands between the keys around it
  between_way : (st : Step) (above : List Step) (m a : ℕ) (f bk : List ℕ) → length (st ∷ above) + m ≡ level → IsWay Y m root (st ∷ above) a f bk
      → S (suc level) (keys_from Y was level root)
      → LieBetween sides (get_or (Y st.node).keys st.place []) (get_or (Y st.node).keys (suc st.place) []) (I (suc m) (keys_from Y was m a))
  between_way st above m a f bk sum w sorted =
      let up = sorted_way above (suc m) st.node w.0 w.1 (omega (arith, sum)) w.3 sorted in
      let b = w.2 in
      let K = (Y st.node).keys in
      let i = st.place in
      let count = long (suc m) st.node w.0 w.1 (omega (arith, sum)) b.row in
      let xs = trees_below Y was (suc m) (take i K) (take i (Y st.node).children) in
      let ys = trees_below Y was (suc m) (get_or K (suc i) [] ∷ drop (suc (suc i)) K) (drop (suc i) (Y st.node).children) in
      let c = keys_from Y was m (get_or (Y st.node).children i 0) in
      let ladder = subst (λ (ts : List (KeyTree (List ℕ) B (suc m))). Ladder sides (I (suc m)) K ts) (trees_cut Y was (suc m) K (Y st.node).children i count b.place) up.0 in
      let all = around sides (I (suc m)) (take i K) (get_or K i []) (get_or K (suc i) []) (drop (suc (suc i)) K) xs c ys
      (long_trees Y was (suc m) K (Y st.node).children i count b.place)
      (subst (λ (ks : List (List ℕ)). Ladder sides (I (suc m)) ks (xs ++ c ∷ ys)) (keys_cut Y was (suc m) K (Y st.node).children i count b.place) ladder) in
      subst (λ (n : ℕ). LieBetween sides (get_or K i []) (get_or K (suc i) []) (I (suc m) (keys_from Y was m n))) b.child all.lies

  -- ---- what has become of the whole tree

  abbrev pub IsDone : Type 0
  IsDone =
      (In (suc level) (keys_from Y was level root) (One (keys_from W now level root)) × ((W root).level ≡ (V root).level))
      ⊎ ((l : ℕ) × (r : ℕ) × (u : List ℕ) × In (suc level) (keys_from Y was level root) (Two (keys_from W now level l) u (keys_from W now level r))
      × IsRaised (keys_from W now level l) u (keys_from W now level r) (keys_from W now (suc level) root) × ((W root).level ≡ suc (V root).level))

  -- ---- from a node up

  module _ (hold : AreHeld) (sorted : S (suc level) (keys_from Y was level root)) where
    -- the two halves of a node
    halves : (m p j : ℕ) (f bk : List ℕ) (key : List ℕ) (child l r : ℕ) → m ≤ level → IsRow Y m undefined_address (f ++ p ∷ bk) → j ≤ length (Y p).children
        → Wide m (Y p).keys (Y p).children (insert (Y p).keys j key) (insert (Y p).children j child) → length (V p).children ≡ 2 * kind.k
        → (W l).keys ≡ take (left_count kind.k j + 1) (insert (V p).keys j key) → (W l).children ≡ take (left_count kind.k j) (insert (V p).children j child)
        → (W r).keys ≡ drop (left_count kind.k j) (insert (V p).keys j key) → (W r).children ≡ drop (left_count kind.k j) (insert (V p).children j child)
        → In (suc m) (keys_from Y was m p) (Two (keys_from W now m l) (key_between s kind p j key) (keys_from W now m r))
    halves m p j f bk key child l r deep row place wide full kl cl kr cr =
        let same = there m p f bk deep row in
        let n = left_count kind.k j in
        let count = long m p f bk deep row in
        let lk = length-insert (Y p).keys j key (omega (arith, count, place)) in
        let lc = length-insert (Y p).children j child place in
        let all : length (Y p).children ≡ 2 * kind.k = ap (λ (o : Node). length o.children) same ∙ full in
        let least = left_bounds kind.k j in
        let two = fits_two sides Puts kind.k x low high Y W was now m (Y p).keys (Y p).children (insert (Y p).keys j key) (insert (Y p).children j child) wide
        (omega (arith, lk, lc, count)) l r n
        (kl ∙ ap (λ (o : Node). take (n + 1) (insert o.keys j key)) (sym same)) (cl ∙ ap (λ (o : Node). take n (insert o.children j child)) (sym same))
        (kr ∙ ap (λ (o : Node). drop n (insert o.keys j key)) (sym same)) (cr ∙ ap (λ (o : Node). drop n (insert o.children j child)) (sym same))
        (omega (arith, lc, all)) least.0 least.1 some in
        subst (λ (u : List ℕ). In (suc m) (keys_from Y was m p) (Two (keys_from W now m l) u (keys_from W now m r)))
        (ap (λ (o : Node). get_or (insert o.keys j key) n []) same) two

    -- the child comes in
    comes : (m p j : ℕ) (f bk : List ℕ) (key : List ℕ) (child : ℕ) → m ≤ level → IsRow Y m undefined_address (f ++ p ∷ bk) → j ≤ length (Y p).children
        → Wide m (Y p).keys (Y p).children (insert (Y p).keys j key) (insert (Y p).children j child) → HasComeIn s t kind p j key child
        → In (suc m) (keys_from Y was m p) (One (keys_from W now m p))
    comes m p j f bk key child deep row place wide come =
        let same = there m p f bk deep row in
        let count = long m p f bk deep row in
        let lk = length-insert (Y p).keys j key (omega (arith, count, place)) in
        let lc = length-insert (Y p).children j child place in
        let few : length (Y p).children < 2 * kind.k = subst (λ (o : Node). length o.children < 2 * kind.k) (sym same) come.roomy in
        fits_one sides Puts kind.k x low high Y W was now m (Y p).keys (Y p).children (insert (Y p).keys j key) (insert (Y p).children j child) wide
        (omega (arith, lk, lc, count)) p (come.keys ∙ ap (λ (o : Node). insert o.keys j key) (sym same)) (come.children ∙ ap (λ (o : Node). insert o.children j child) (sym same))
        (omega (arith, lc, few))

    -- the root stands over two nodes
    raised : (m j : ℕ) (key : List ℕ) (child l r : ℕ) → HasRisen s t kind root j key child l r → left_count kind.k j < length (insert (V root).keys j key)
        → IsRaised (keys_from W now m l) (key_between s kind root j key) (keys_from W now m r) (keys_from W now (suc m) root)
    raised m j key child l r risen within =
        let n = left_count kind.k j in
        let kl = keys_count t kind l in
        let kr = keys_count t kind r in
        let last = length (W r).children in
        record {
          first = get_or (W l).keys 0 [];
          rest = drop 1 (W l).keys;
          last = get_or (W r).keys last [];
          init = take last (W r).keys;
          first_is = cut_at (W l).keys 0 [] (omega (arith, kl));
          last_is = cut_at (W r).keys last [] (omega (arith, kr)) ∙ ap (λ (more : List (List ℕ)). take last (W r).keys ++ get_or (W r).keys last [] ∷ more)
              (drop_all (suc last) (W r).keys (omega (arith, kr)));
          keys_are = risen.keys ∙ ap (λ (k : List ℕ). get_or (W l).keys 0 [] ∷ k ∷ get_or (W r).keys last [] ∷ [])
              (ap (λ (ks : List (List ℕ)). get_or ks 0 []) (risen.right_keys ∙ drop-cons (insert (V root).keys j key) n [] within));
          children_are = ap (map (λ n. keys_from W now m n)) risen.children;
        }

    pub climbs : (above : List Step) (m p j : ℕ) (keys : List ℕ) (child : ℕ) (f bk : List ℕ) → length above + m ≡ level → IsWay Y m root above p f bk
        → AreRows Y m (f ++ p ∷ bk) → IsOffWay Y W was now m above → AllByRecursion IsAdmitted above → IsPutAlong s t kind p above j keys child
        → AreHeldKeys s kind follows p above j keys → j ≤ length (Y p).children
        → Wide m (Y p).keys (Y p).children (insert (Y p).keys j (take kind.key_length keys)) (insert (Y p).children j child) → IsDone
    climbs [] m p j keys child f bk sum w rows off admits (inl come) held place wide =
        let deep : m ≡ level = omega (arith, sum) in
        let one = comes m p j f bk (take kind.key_length keys) child (omega (arith, sum)) (row_is Y m (f ++ p ∷ bk) rows) place wide come in
        inl (
          subst (λ (l : ℕ). In (suc l) (keys_from Y was l root) (One (keys_from W now l root))) deep
              (subst (λ (n : ℕ). In (suc m) (keys_from Y was m n) (One (keys_from W now m n))) w.0 one),
          subst (λ (n : ℕ). (W n).level ≡ (V n).level) w.0 come.level,
        )
    climbs [] m p j keys child f bk sum w rows off admits (inr (full, (l, r, risen))) held place wide =
        let deep : m ≡ level = omega (arith, sum) in
        let key = take kind.key_length keys in
        let row = row_is Y m (f ++ p ∷ bk) rows in
        let same = there m p f bk (omega (arith, sum)) row in
        let count = keys_count s kind p in
        let two = halves m p j f bk key child l r (omega (arith, sum)) row place wide full risen.left_keys risen.left risen.right_keys risen.right in
        let at : j ≤ length (V p).keys = let c = ap (λ (o : Node). length o.children) same in omega (arith, c, count, place) in
        let lk = length-insert (V p).keys j key at in
        let least = left_bounds kind.k j in
        let within : left_count kind.k j < length (insert (V p).keys j key) = omega (arith, lk, count, full, least.1, some) in
        let up = subst (λ (n : ℕ). HasRisen s t kind n j key child l r) w.0 risen in
        inr (
          l,
          r,
          key_between s kind p j key,
          subst (λ (d : ℕ). In (suc d) (keys_from Y was d root) (Two (keys_from W now d l) (key_between s kind p j key) (keys_from W now d r))) deep
              (subst (λ (n : ℕ). In (suc m) (keys_from Y was m n) (Two (keys_from W now m l) (key_between s kind p j key) (keys_from W now m r))) w.0 two),
          subst (λ (n : ℕ). IsRaised (keys_from W now level l) (key_between s kind n j key) (keys_from W now level r) (keys_from W now (suc level) root)) (sym w.0)
              (raised level j key child l r up (subst (λ (n : ℕ). left_count kind.k j < length (insert (V n).keys j key)) w.0 within)),
          up.level,
        )
    climbs (next ∷ above) m p j keys child f bk sum w rows off admits (inl (come, keep)) held place wide =
        let one = comes m p j f bk (take kind.key_length keys) child (omega (arith, sum)) (row_is Y m (f ++ p ∷ bk) rows) place wide come in
        inl (ups (next ∷ above) m p f bk sum w off keep admits one, (root_keeps next above m p f bk w keep).2)
    climbs (next ∷ above) m p j keys child f bk sum w rows off admits (inr (full, (q, half, along))) held place wide =
        let key = take kind.key_length keys in
        let two = halves m p j f bk key child p q (omega (arith, sum)) (row_is Y m (f ++ p ∷ bk) rows) place wide full half.left_keys half.left half.right_keys half.right in
        let b = w.2 in
        let n = next.node in
        let i = next.place in
        let deep : suc m ≤ level = omega (arith, sum) in
        let same = there (suc m) n w.0 w.1 deep b.row in
        let count = long (suc m) n w.0 w.1 deep b.row in
        let K = (Y n).keys in
        let u = key_between s kind p j key in
        let v = take kind.key_length (drop kind.key_length keys) in
        let admit = subst (λ (o : Node). sides.Right (get_or o.keys i []) x × sides.Left x (get_or o.keys (suc i) [])) (sym same) admits.0 in
        let h = held full in
        let more : i + 1 ≡ suc i = add-one i in
        let v_is : v ≡ held_key follows (get_or K i []) u (get_or K (suc i) [])
        = h.0 ∙ ap (λ (e : ℕ). held_key follows (get_or (V n).keys i []) u (get_or (V n).keys e [])) more
        ∙ ap (λ (o : Node). held_key follows (get_or o.keys i []) u (get_or o.keys (suc i) [])) (sym same) in
        let in_place : IsHeld sides (get_or K i []) (get_or K (suc i) []) u v
        = subst (IsHeld sides (get_or K i []) (get_or K (suc i) []) u) (sym v_is)
        (hold m p f bk (keys_from W now m p) (keys_from W now m q) (get_or K i []) u (get_or K (suc i) []) (omega (arith, sum)) rows
        (sorted_way (next ∷ above) m p f bk sum w sorted) (between_way next above m p f bk sum w sorted) admit.0 admit.1 two) in
        let wider = wide_behind sides Puts kind.k x low high Y W was now (suc m) K (Y n).children i count b.place off.0 off.1 admit.0 admit.1 u v q
        (subst (λ (c : ℕ). In (suc m) (keys_from Y was m c) (Two (keys_from W now m c) u (keys_from W now m q))) (sym b.child) two) in_place in
        climbs above (suc m) n (i + 1) (drop kind.key_length keys) q w.0 w.1 (omega (arith, sum)) w.3
        (b.row, subst (AreRows Y m) (sym (row_here Y m n i p f bk w.0 w.1 b)) rows) off.2 admits.1 along h.1
        (let low = b.place in omega (arith, low)) (subst (λ (e : ℕ). Wide (suc m) K (Y n).children (insert K e v) (insert (Y n).children e q)) (sym more) wider)
