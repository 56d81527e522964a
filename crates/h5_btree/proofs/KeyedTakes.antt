-- A removal along a way is one from the tree of keys: so the keys stay in order, and the items are the old ones without what stood at
-- the child.
use Rattle.std.proofs.Common.{◌≡◌, ◌≢◌, ◌⊎◌, inl, inr, ℕ, suc, ◌+◌, ◌^◌, ◌<◌, ◌≤◌, List, [], ◌∷◌, ◌++◌, length, take, drop, get_or, refl, sym, ap, ap₂, ◌∙◌, subst, arith}
use Rattle.std.specs.List.{AllByRecursion, remove}
use Rattle.h5_bytes.specs.Bytes.{undefined_address}
use Rattle.h5_bytes.proofs.BlockLaws.{all_left, all_right, all_so}
use Rattle.h5_model.specs.Format.Rows.{Node, Reading, next_row, IsRow, AreRows, leaves}
use Rattle.h5_model.specs.Format.Nodes.{Kind, node_at, reading_of, tree_blocks}
use Rattle.h5_model.proofs.OneTree.{level_is}
use Rattle.h5_model.proofs.RowLaws.{at_listed, root_level}
use Rattle.h5_model.proofs.Members.{all_both}
use Rattle.h5_laws.specs.Ladders.{Sides, IsOrderly}
use Rattle.h5_laws.specs.KeyTrees.{KeyTree, items_in, IsSorted}
use Rattle.h5_laws.specs.KeyEdits.{IsTaken, Removes}
use Rattle.h5_laws.proofs.KeyRemoves.{removes_sorted}
use Rattle.h5_laws.proofs.Rows.{row_is}
use Rattle.h5_space.specs.Space.{Space}
use Rattle.h5_btree.specs.Climb.{IsNoNode, IsBelow, IsWay}
use Rattle.h5_btree.specs.Keyed.{AtChild, trees_below, keys_from, IsInOrder, items_of_tree}
use Rattle.h5_btree.specs.Removal.{EndsInTree, IsTakenAlong, IsChildTaken, LosesChild}
use Rattle.h5_btree.specs.declared.way.Step.{Step}
use Rattle.h5_btree.proofs.LeafLaws.{next_row-append}
use Rattle.h5_btree.proofs.RowEdits.{level_here}
use Rattle.h5_btree.proofs.ClimbLaws.{row_here, whole}
use Rattle.h5_btree.proofs.ClimbSteps.{undefined_free}
use Rattle.h5_btree.proofs.DropLaws.{remove_alone}
use Rattle.h5_btree.proofs.SplitSteps.{apart_then}
use Rattle.h5_btree.proofs.TreeReadings.{Listed, owned_at, owned_of_level}
use Rattle.h5_btree.proofs.KeyedTrees.{IsAlike, StandsAlike, AreAlike, IsOther, IsOffWay, below_none, below-same, alike_left, alike_right, alike_under, next_row-alike, way_higher, way_levels, front_apart, back_apart, row_levels, off_way}
use Rattle.h5_btree.proofs.KeyedOwn.{keys_count, keys_own}
use Rattle.h5_btree.proofs.KeyedGone.{IsStopped, loses, here_same, sinks, rises}

module _ {B : Type 0} (none : B) (Takes : B → B → Type 0) (Empty : B → Type 0) where
  module _ (s t : Space) (kind : Kind) (root level : ℕ) (way : List Step) (owned list : List ℕ) (k : ℕ) (e : EndsInTree s kind root level way owned list k)
      (taken : IsTakenAlong s t kind root way (remove list k) owned) (short : length t.bytes < 2 ^ 64)
      (was now : AtChild B) (same : AllByRecursion (λ c. (key : List ℕ) → now key c ≡ was key c) (remove list k))
      (takes : Takes (was (get_or (node_at s.bytes kind e.step.node).keys e.step.place []) (get_or (node_at s.bytes kind e.step.node).children e.step.place 0)) none) (empty : Empty none) where
    abbrev V : Reading
    V = node_at s.bytes kind

    abbrev W : Reading
    W = node_at t.bytes kind

    abbrev O : Reading
    O = reading_of s.bytes kind owned

    abbrev step : Step
    step = taken.1

    abbrev own : List ℕ
    own = taken.4

    abbrev Y : Reading
    Y = reading_of t.bytes kind own

    abbrev p : ℕ
    p = step.node

    abbrev i : ℕ
    i = step.place

    done : IsChildTaken s t kind root taken.3 p i (remove list k) owned own
    done = taken.7

    out : IsNoNode O undefined_address
    out = undefined_free s kind owned e.apart e.short

    out_new : IsNoNode Y undefined_address
    out_new = undefined_free t kind own (apart_then s t (tree_blocks kind owned) (tree_blocks kind own) done.moves e.apart) short

    steps_long : length e.above + 0 ≡ level
    steps_long =
        let here = (whole O 0 root e.above e.step.node e.front e.back e.leads e.row).0 in
        sym (root_level O (length e.above + 0) root here) ∙ root_level O level root e.tree.rows

    stopped : IsStopped Takes Empty s kind owned root out was step taken.2 (length e.above + 0)
    stopped =
        let low = e.tree.low in
        sinks Takes Empty s kind owned root out was taken.0 step taken.2 0 e.step e.above e.front e.back (omega (arith, steps_long, low)) e.leads e.row
        (subst (λ (n : Node). e.step.place < length n.children) (here_same Takes Empty s kind owned root out was 0 e.step.node e.front e.back (omega arith) e.row) e.place)
        (sym e.way_is ∙ taken.5) taken.6 (none, takes, empty)

    -- ---- the node where it stopped

    abbrev mp : ℕ
    mp = stopped.0

    abbrev f : List ℕ
    f = stopped.1

    abbrev bk : List ℕ
    bk = stopped.2

    abbrev above : List Step
    above = taken.2

    high : length above + mp ≡ level
    high = stopped.6 ∙ steps_long

    top : mp < 16
    top = let low = e.tree.low in let h = high in omega (arith, low, h)

    p_level : (O p).level ≡ mp
    p_level = level_here O mp p f bk top out stopped.4

    gone_p : Removes (List ℕ) Takes Empty (suc mp) (keys_from V was mp p) (remove (V p).keys i, trees_below V was mp (remove (V p).keys i) (remove (V p).children i))
    gone_p = loses Takes Empty V was mp (V p).keys (V p).children i (keys_count s.bytes kind p) stopped.5 stopped.7

    module _ (n : ℕ) (low : (Y n).level < 16) where
      listed : Listed own n
      listed = owned_of_level W own n low

      there : Y n ≡ W n
      there = owned_at W own n listed

      entry : LosesChild p i n (V n) (W n)
      entry = at_listed (λ m. LosesChild p i m (V m) (W m)) own n done.entries listed

      other_alike : n ≢ p → IsAlike Y V now was n
      other_alike other = elim entry [
        | inl at ↦ absurd (other at.0)
        | inr at ↦ (sym at.1 ∙ ap (λ (m : Node). m.keys) (sym there), sym at.2 ∙ ap (λ (m : Node). m.children) (sym there))
      ]

      lost : n ≡ p → ((Y n).keys ≡ remove (V n).keys i) × ((Y n).children ≡ remove (V n).children i)
      lost same = elim entry [
        | inl at ↦ (ap (λ (m : Node). m.keys) there ∙ at.1, ap (λ (m : Node). m.children) there ∙ at.2)
        | inr at ↦ absurd (at.0 same)
      ]

    -- ---- the tree is as high as before

    module _ (as_high : taken.3 ≡ level) where
      new_rows : AreRows Y level (root ∷ [])
      new_rows = subst (λ (l : ℕ). AreRows Y l (root ∷ [])) as_high done.tree.rows

      again : (steps : List Step) (m a : ℕ) (g h : List ℕ) → length steps + m ≡ level → mp ≤ m → IsWay O m root steps a g h → IsRow O m undefined_address (g ++ a ∷ h)
          → IsWay Y m root steps a g h × AreRows Y m (g ++ a ∷ h)
      again [] m a g h sum over w row =
          let same : level ≡ m = omega (arith, sum) in
          let one : g ++ a ∷ h ≡ root ∷ [] = rw (w.1, w.2, w.0) refl in
          (w, subst (AreRows Y m) (sym one) (subst (λ (l : ℕ). AreRows Y l (root ∷ [])) same new_rows))
      again (st ∷ steps) m a g h sum over w row =
          let f' = w.0 in
          let bk' = w.1 in
          let b = w.2 in
          let up = again steps (suc m) st.node f' bk' (omega (arith, sum)) (omega (arith, over)) w.3 b.row in
          let low = e.tree.low in
          let kids = all_so (λ n. ((O n).level ≡ suc m) × ((Y n).level ≡ suc m)) (λ n. (Y n).children ≡ (O n).children) (f' ++ st.node ∷ bk')
          (λ n l.
          let alike = other_alike n (omega (arith, l.1, sum, low)) (λ same. let q = ap (λ (k : ℕ). (O k).level) same in let pl = p_level in omega (arith, q, pl, l.0, over)) in
          sym alike.1 ∙ ap (λ (k : Node). k.children) (sym (owned_at V owned n (owned_of_level V owned n (omega (arith, l.0, sum, low))))))
          (all_both (λ n. (O n).level ≡ suc m) (λ n. (Y n).level ≡ suc m) (f' ++ st.node ∷ bk') (row_levels O (suc m) undefined_address (f' ++ st.node ∷ bk') b.row)
          (row_levels Y (suc m) undefined_address (f' ++ st.node ∷ bk') up.1.0)) in
          let rest = all_right (λ n. (Y n).children ≡ (O n).children) f' (st.node ∷ bk') kids in
          let at_f = next_row-alike O Y f' (all_left (λ n. (Y n).children ≡ (O n).children) f' (st.node ∷ bk') kids) in
          let at_bk = next_row-alike O Y bk' rest.1 in
          let below : IsBelow Y m st.node st.place a g h f' bk' = record {
            place = subst (λ (cs : List ℕ). st.place < length cs) (sym rest.0) b.place;
            child = ap (λ (cs : List ℕ). get_or cs st.place 0) rest.0 ∙ b.child;
            fronts = b.fronts ∙ ap₂ (λ (xs cs : List ℕ). xs ++ take st.place cs) (sym at_f) (sym rest.0);
            backs = b.backs ∙ ap₂ (λ (cs xs : List ℕ). drop (suc st.place) cs ++ xs) (sym rest.0) (sym at_bk);
            row = up.1.0;
          } in
          ((f', bk', below, up.0), subst (AreRows Y m) (row_here Y m st.node st.place a g h f' bk' below) up.1.1)

      way_new : IsWay Y mp root above p f bk × AreRows Y mp (f ++ p ∷ bk)
      way_new = again above mp p f bk high (omega arith) stopped.3 stopped.4

      row_new : IsRow Y mp undefined_address (f ++ p ∷ bk)
      row_new = row_is Y mp (f ++ p ∷ bk) way_new.1

      new_level : (Y p).level ≡ mp
      new_level = level_here Y mp p f bk top out_new row_new

      bottom : leaves Y mp (f ++ p ∷ bk) ≡ remove list k
      bottom = sym (whole Y mp root above p f bk way_new.0 way_new.1).1 ∙ ap (λ (l : ℕ). leaves Y l (root ∷ [])) (high ∙ sym as_high) ∙ sym done.tree.all

      stands : AllByRecursion (StandsAlike Y V now was) (leaves Y mp (f ++ p ∷ bk))
      stands = subst (AllByRecursion (StandsAlike Y V now was)) (sym bottom)
          (all_so (λ c. (key : List ℕ) → now key c ≡ was key c) (StandsAlike Y V now was) (remove list k) (λ c so key. sym (so key)) same)

      under : AreAlike Y V now was mp (next_row Y f ++ ((Y p).children ++ next_row Y bk))
      under = subst (AreAlike Y V now was mp) (next_row-append Y f (p ∷ bk))
          (alike_under Y V now was mp (f ++ p ∷ bk) way_new.1
          (λ n low. other_alike n (let t = top in omega (arith, low, t)) (λ at. let q = ap (λ (m : ℕ). (Y m).level) at in let pl = new_level in omega (arith, q, pl, low))) stands)

      under_f : AreAlike Y V now was mp (next_row Y f)
      under_f = alike_left Y V now was mp (next_row Y f) ((Y p).children ++ next_row Y bk) under

      under_p : AreAlike Y V now was mp (Y p).children
      under_p = alike_left Y V now was mp (Y p).children (next_row Y bk) (alike_right Y V now was mp (next_row Y f) ((Y p).children ++ next_row Y bk) under)

      under_bk : AreAlike Y V now was mp (next_row Y bk)
      under_bk = alike_right Y V now was mp (Y p).children (next_row Y bk) (alike_right Y V now was mp (next_row Y f) ((Y p).children ++ next_row Y bk) under)

      one_alike : (n : ℕ) → IsOther Y mp p f bk top out_new row_new n → IsAlike Y V now was n
      one_alike n o = other_alike n (let t = top in omega (arith, o.0, t)) o.1

      high_low : length above + mp < 16
      high_low = let low = e.tree.low in let h = high in omega (arith, low, h)

      above_alike : AllByRecursion (λ (st : Step). IsAlike Y V now was st.node) above
      above_alike = all_so (λ (st : Step). (mp < (Y st.node).level) × ((Y st.node).level < 16)) (λ (st : Step). IsAlike Y V now was st.node) above
          (λ st l. other_alike st.node l.1 (λ at. let q = ap (λ (m : ℕ). (Y m).level) at in let pl = new_level in omega (arith, q, pl, l.0)))
          (all_both (λ (st : Step). mp < (Y st.node).level) (λ (st : Step). (Y st.node).level < 16) above
          (way_higher Y out_new mp root above p f bk high_low way_new.0) (way_levels Y out_new mp root above p f bk high_low way_new.0))

      off : IsOffWay Y V now was mp above
      off = off_way Y V now was out_new mp root above p f bk high_low way_new.0
          (λ n level low apart. other_alike n low (λ at. let q = ap (λ (m : ℕ). (Y m).level) at in let pl = new_level in omega (arith, q, pl, level)))
          (all_so (IsOther Y mp p f bk top out_new row_new) (IsAlike Y V now was) f one_alike (front_apart Y mp p f bk top out_new row_new), under_f)
          (all_so (IsOther Y mp p f bk top out_new row_new) (IsAlike Y V now was) bk one_alike (back_apart Y mp p f bk top out_new row_new), under_bk)

      here_new : (remove (V p).keys i, trees_below V was mp (remove (V p).keys i) (remove (V p).children i)) ≡ keys_from Y now mp p
      here_new =
          let l = lost p (let t = top in let pl = new_level in omega (arith, pl, t)) refl in
          ap₂ (λ (ks : List (List ℕ)) (cs : List ℕ). (ks, trees_below V was mp ks cs)) (sym l.0) (sym l.1)
          ∙ ap (λ (ts : List (KeyTree (List ℕ) B mp)). ((Y p).keys, ts)) (below-same Y V now was mp (Y p).keys (Y p).children under_p)

      removed : Removes (List ℕ) Takes Empty (suc level) (keys_from V was level root) (keys_from Y now level root)
      removed = rises Takes Empty Y V now was root (keys_count s.bytes kind) above mp p f bk level high way_new.0 off above_alike
          (subst (Removes (List ℕ) Takes Empty (suc mp) (keys_from V was mp p)) here_new gone_p)

      removed_now : Removes (List ℕ) Takes Empty (suc level) (keys_from V was level root) (keys_from W now level root)
      removed_now =
          subst (Removes (List ℕ) Takes Empty (suc level) (keys_from V was level root))
          (sym (subst (λ (l : ℕ). keys_from W now l root ≡ keys_from Y now l root) as_high (keys_own t.bytes kind root taken.3 own (remove list k) done.tree now))) removed

    -- ---- the root has no other child

    module _ (one : length (V p).children ≡ 1) (at_root : p ≡ root) (at_0 : taken.3 ≡ 0) where
      abbrev IsEmptyNow : ℕ → ℕ → Type 0
      IsEmptyNow m n = (new : KeyTree (List ℕ) B (suc m)) × Removes (List ℕ) Takes Empty (suc m) (keys_from V was m n) new × (new ≡ (remove (V p).keys i, []))

      empty_here : IsEmptyNow mp p
      empty_here = (
        (remove (V p).keys i, trees_below V was mp (remove (V p).keys i) (remove (V p).children i)),
        gone_p,
        ap (λ (ts : List (KeyTree (List ℕ) B mp)). (remove (V p).keys i, ts))
            (ap (trees_below V was mp (remove (V p).keys i)) (remove_alone (V p).children i one stopped.5) ∙ below_none V was mp (remove (V p).keys i)),
      )

      whole_height : mp ≡ level
      whole_height = sym p_level ∙ ap (λ (n : ℕ). (O n).level) at_root ∙ root_level O level root e.tree.rows

      empty_root : IsEmptyNow level root
      empty_root = subst (λ (m : ℕ). IsEmptyNow m root) whole_height (subst (IsEmptyNow mp) at_root empty_here)

      root_new : (remove (V p).keys i, []) ≡ keys_from W now 0 root
      root_new =
          let rows = subst (λ (l : ℕ). AreRows Y l (root ∷ [])) at_0 done.tree.rows in
          let low : (Y p).level < 16 = subst (λ (n : ℕ). (Y n).level < 16) (sym at_root) (omega (arith, rows.0)) in
          let l = lost p low refl in
          let same : Y root ≡ W root = subst (λ (n : ℕ). Y n ≡ W n) at_root (there p low) in
          let keys : (W root).keys ≡ remove (V p).keys i
          = ap (λ (n : Node). n.keys) (sym same) ∙ ap (λ (n : ℕ). (Y n).keys) (sym at_root) ∙ l.0 in
          let children : (W root).children ≡ []
          = ap (λ (n : Node). n.children) (sym same) ∙ ap (λ (n : ℕ). (Y n).children) (sym at_root) ∙ l.1 ∙ remove_alone (V p).children i one stopped.5 in
          ap (λ (ts : List B). (remove (V p).keys i, ts)) (sym (below_none W now 0 (remove (V p).keys i)))
          ∙ ap₂ (λ (ks : List (List ℕ)) (cs : List ℕ). (ks, trees_below W now 0 ks cs)) (sym keys) (sym children)

    -- WHAT STOOD AT THE CHILD GOES FROM THE TREE OF KEYS. The tree is as high as before; or it is left without children, at level 0.
    abbrev pub IsGone : Type 0
    IsGone =
        ((taken.3 ≡ level) × Removes (List ℕ) Takes Empty (suc level) (keys_from V was level root) (keys_from W now level root))
        ⊎ ((taken.3 ≡ 0) × (keys : List (List ℕ)) × Removes (List ℕ) Takes Empty (suc level) (keys_from V was level root) (keys, []) × ((keys, []) ≡ keys_from W now 0 root))

    pub along_gone : IsGone
    along_gone = elim done.stops [
      | inl high ↦ let same = high.1 ∙ level_is s.bytes kind root level owned list e.tree in inl (same, removed_now same)
      | inr low ↦
          let left = empty_root low.0 low.1 low.2 in
          inr (low.2, remove (V p).keys i, subst (Removes (List ℕ) Takes Empty (suc level) (keys_from V was level root)) left.2 left.1, root_new low.0 low.1 low.2)
    ]

-- Whatever is lost where one thing goes from a tree of keys.
module _ {B X : Type 0} (sides : Sides (List ℕ) X) (items : B → List X) (Base : B → Type 0) (none : B) (Takes : B → B → Type 0) (Empty : B → Type 0) (Lost : List X → List X → Type 0)
    (law : (height : ℕ) (old new : KeyTree (List ℕ) B height) → IsSorted sides items Base height old → Removes (List ℕ) Takes Empty height old new
    → IsSorted sides items Base height new × Lost (items_in (List ℕ) items height old) (items_in (List ℕ) items height new)) where
  abbrev S : (height : ℕ) → KeyTree (List ℕ) B height → Type 0
  S = IsSorted sides items Base

  abbrev I : (height : ℕ) → KeyTree (List ℕ) B height → List X
  I = items_in (List ℕ) items

  abbrev IsLeft : (height : ℕ) → KeyTree (List ℕ) B height → (height' : ℕ) → KeyTree (List ℕ) B height' → Type 0
  IsLeft height t height' new = S height' new × Lost (I height t) (I height' new)

  -- a root without children is in order at level 0
  at_level_0 : (height height' : ℕ) (t : KeyTree (List ℕ) B height') (new : KeyTree (List ℕ) B (suc height)) (keys : List (List ℕ)) → new ≡ (keys, []) → IsLeft height' t (suc height) new
      → IsLeft height' t 1 (keys, [])
  at_level_0 height height' t new keys same left =
      let all = subst (λ (n : KeyTree (List ℕ) B (suc height)). IsLeft height' t (suc height) n) same left in ((all.0.0, tt), all.1)

  module _ (s t : Space) (kind : Kind) (root level : ℕ) (way : List Step) (owned list : List ℕ) (k : ℕ) (e : EndsInTree s kind root level way owned list k)
      (taken : IsTakenAlong s t kind root way (remove list k) owned) (short : length t.bytes < 2 ^ 64)
      (was now : AtChild B) (same : AllByRecursion (λ c. (key : List ℕ) → now key c ≡ was key c) (remove list k))
      (takes : Takes (was (get_or (node_at s.bytes kind e.step.node).keys e.step.place []) (get_or (node_at s.bytes kind e.step.node).children e.step.place 0)) none) (empty : Empty none) where
    abbrev Old : KeyTree (List ℕ) B (suc level)
    Old = keys_from (node_at s.bytes kind) was level root

    abbrev New : (height : ℕ) → KeyTree (List ℕ) B (suc height)
    New height = keys_from (node_at t.bytes kind) now height root

    -- THE KEYS STAY IN ORDER where a child is taken out along a way, and the items are those of before without what is lost.
    pub along_sorted : IsInOrder sides items Base s.bytes kind was level root
        → IsInOrder sides items Base t.bytes kind now taken.3 root × Lost (items_of_tree items s.bytes kind was level root) (items_of_tree items t.bytes kind now taken.3 root)
    along_sorted sorted = elim (along_gone none Takes Empty s t kind root level way owned list k e taken short was now same takes empty) [
      | inl high ↦ subst (λ (l : ℕ). IsLeft (suc level) Old (suc l) (New l)) (sym high.0) (law (suc level) Old (New level) sorted high.1)
      | inr low ↦
          subst (λ (l : ℕ). IsLeft (suc level) Old (suc l) (New l)) (sym low.0)
          (subst (IsLeft (suc level) Old 1) low.3 (at_level_0 level (suc level) Old (low.1, []) low.1 refl (law (suc level) Old (low.1, []) sorted low.2)))
    ]

-- An item is lost.
module _ {B X : Type 0} (sides : Sides (List ℕ) X) (orderly : IsOrderly sides) (items : B → List X) (Base : B → Type 0) (none : B) (nothing : items none ≡ []) (is_base : Base none)
    (x : X) where
  abbrev Takes : B → B → Type 0
  Takes b c = (items b ≡ x ∷ []) × (c ≡ none)

  abbrev Empty : B → Type 0
  Empty c = c ≡ none

  empty_items : (c : B) → Empty c → items c ≡ []
  empty_items c is = ap items is ∙ nothing

  takes_base : (b c : B) → Base b → Takes b c → Base c × IsTaken x (items b) (items c)
  takes_base b c base takes = (subst Base (sym takes.1) is_base, record { front = []; back = []; before = takes.0; after = empty_items c takes.1 })

  module _ (s t : Space) (kind : Kind) (root level : ℕ) (way : List Step) (owned list : List ℕ) (k : ℕ) (e : EndsInTree s kind root level way owned list k)
      (taken : IsTakenAlong s t kind root way (remove list k) owned) (short : length t.bytes < 2 ^ 64)
      (was now : AtChild B) (same : AllByRecursion (λ c. (key : List ℕ) → now key c ≡ was key c) (remove list k))
      (only : items (was (get_or (node_at s.bytes kind e.step.node).keys e.step.place []) (get_or (node_at s.bytes kind e.step.node).children e.step.place 0)) ≡ x ∷ []) where
    -- THE KEYS STAY IN ORDER where a child is taken out along a way, and the items are those of before without the one that stood there.
    pub taken_sorted : IsInOrder sides items Base s.bytes kind was level root
        → IsInOrder sides items Base t.bytes kind now taken.3 root × IsTaken x (items_of_tree items s.bytes kind was level root) (items_of_tree items t.bytes kind now taken.3 root)
    taken_sorted = along_sorted sides items Base none Takes Empty (IsTaken x) (removes_sorted sides orderly items Base x Takes Empty empty_items takes_base)
        s t kind root level way owned list k e taken short was now same (only, refl) refl
