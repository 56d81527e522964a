-- What stands at one child of a tree changes, and no node does: an item comes in there, or goes. And where nodes keep their keys and
-- children, the tree of keys is the same.
use Rattle.std.proofs.Common.{◌≡◌, ◌≢◌, inl, ℕ, suc, ◌+◌, ◌≤◌, true, List, [], ◌∷◌, ◌++◌, length, take, drop, get_or, refl, sym, ap, ap₂, ◌∙◌, subst, arith, append-nil}
use Rattle.std.specs.List.{AllByRecursion, remove}
use Rattle.h5_bytes.specs.Bytes.{undefined_address}
use Rattle.h5_bytes.proofs.BlockLaws.{all_left, all_right, all_so}
use Rattle.h5_model.specs.Format.Rows.{Node, Reading, leaves}
use Rattle.h5_model.specs.Format.Nodes.{Kind, HasTree, node_at, reading_of}
use Rattle.h5_laws.specs.Ladders.{Sides, LieBetween, IsOrderly}
use Rattle.h5_laws.specs.KeyTrees.{KeyTree, items_in, IsSorted}
use Rattle.h5_laws.specs.KeyEdits.{Grown, One, Inserts, IsPut, IsTaken, LetIn, Removes}
use Rattle.h5_laws.proofs.KeyInserts.{IsGrown, inserts_grown}
use Rattle.h5_laws.proofs.KeyRemoves.{removes_sorted}
use Rattle.h5_space.specs.Space.{Space}
use Rattle.h5_btree.specs.Climb.{IsNoNode}
use Rattle.h5_btree.specs.Insertion.{KeepsEntries, Owns}
use Rattle.h5_btree.specs.Keyed.{AtChild, trees_below, keys_from, IsInOrder, items_of_tree}
use Rattle.h5_btree.specs.Removal.{EndsInTree}
use Rattle.h5_btree.specs.declared.way.Step.{Step}
use Rattle.h5_btree.proofs.TreeReadings.{Listed, owned_at, owned_of_level}
use Rattle.h5_btree.proofs.WaySteps.{way_owned}
use Rattle.h5_btree.proofs.KeyedTrees.{IsAlike, StandsAlike, AreAlike, alike_rows, keys-same, below-same}
use Rattle.h5_btree.proofs.KeyedOwn.{all_stand, enters, keys_count, keys_own, trees_cut}
use Rattle.h5_btree.proofs.KeyedOff.{off_out, off_steps, off_here, off_stands, off_is}
use Rattle.h5_btree.proofs.KeyedGone.{rises}
use Rattle.h5_btree.proofs.KeyedGrown.{wide_same, fits_one}
use Rattle.h5_btree.proofs.KeyedClimb.{roomy, ups}

-- THE TREE OF KEYS IS THE SAME where each node of a tree has its keys and children still, and the same stands at its bottom
pub kept_trees : {B : Type 0} (old new : List ℕ) (kind : Kind) (root level : ℕ) (owned list : List ℕ) (has : HasTree old kind root level owned list)
    → ((n : ℕ) → Owns owned n → KeepsEntries old new kind n) → (was now : AtChild B) → AllByRecursion (λ c. (key : List ℕ) → now key c ≡ was key c) list
    → keys_from (node_at new kind) now level root ≡ keys_from (node_at old kind) was level root
kept_trees {B} old new kind root level owned list has keep was now same =
    let Y = reading_of old kind owned in
    let W = node_at new kind in
    let low = has.low in
    let each : (n : ℕ) → (Y n).level ≤ level → IsAlike Y W was now n = λ n l.
    let listed = owned_of_level (node_at old kind) owned n (omega (arith, l, low)) in
    let is = sym (owned_at (node_at old kind) owned n listed) in
    ((keep n listed).0 ∙ ap (λ (o : Node). o.keys) is, (keep n listed).1 ∙ ap (λ (o : Node). o.children) is) in
    let all = alike_rows Y W was now level (root ∷ []) (leaves Y level (root ∷ [])) has.rows refl each (subst (AllByRecursion (StandsAlike Y W was now)) has.all same) in
    keys-same Y W was now level root all.0.0 (subst (AreAlike Y W was now level) (append-nil (Y root).children) all.1) ∙ sym (keys_own old kind root level owned list has was)

pub kept_keys : {B : Type 0} (old new : List ℕ) (kind : Kind) (root level : ℕ) (owned list : List ℕ) (has : HasTree old kind root level owned list)
    → ((n : ℕ) → Owns owned n → KeepsEntries old new kind n) → (at : AtChild B) → keys_from (node_at new kind) at level root ≡ keys_from (node_at old kind) at level root
kept_keys old new kind root level owned list has keep at = kept_trees old new kind root level owned list has keep at at (all_stand (node_at old kind) (node_at new kind) at list)

module _ {B X : Type 0} (sides : Sides (List ℕ) X) (orderly : IsOrderly sides) (items : B → List X) (Base : B → Type 0) (x : X)
    (s : Space) (kind : Kind) (root level : ℕ) (way : List Step) (owned list : List ℕ) (k : ℕ) (e : EndsInTree s kind root level way owned list k)
    (was now : AtChild B) (same : AllByRecursion (λ c. (key : List ℕ) → now key c ≡ was key c) (remove list k)) where
  abbrev V : Reading
  V = node_at s.bytes kind

  abbrev Y : Reading
  Y = reading_of s.bytes kind owned

  abbrev p : ℕ
  p = e.step.node

  abbrev i : ℕ
  i = e.step.place

  -- the key before the child at the end of the way, the child, and the key behind it
  abbrev pub end_key : List ℕ
  end_key = get_or (V p).keys i []

  abbrev pub end_child : ℕ
  end_child = get_or (V p).children i 0

  abbrev pub next_key : List ℕ
  next_key = get_or (V p).keys (suc i) []

  abbrev S : (height : ℕ) → KeyTree (List ℕ) B height → Type 0
  S = IsSorted sides items Base

  abbrev I : (height : ℕ) → KeyTree (List ℕ) B height → List X
  I = items_in (List ℕ) items

  all_keep : (n : ℕ) → Owns owned n → AllByRecursion (λ (step : Step). n ≢ step.node) way → KeepsEntries s.bytes s.bytes kind n
  all_keep n is apart = (refl, refl, refl)

  back : AllByRecursion (λ c. (key : List ℕ) → was key c ≡ now key c) (remove list k)
  back = all_so (λ c. (key : List ℕ) → now key c ≡ was key c) (λ c. (key : List ℕ) → was key c ≡ now key c) (remove list k) (λ c so key. sym (so key)) same

  here : Y p ≡ V p
  here = off_here s s kind root level way owned list k e all_keep was now same

  count : length (Y p).keys ≡ length (Y p).children + 1
  count = subst (λ (o : Node). length o.keys ≡ length o.children + 1) (sym here) (keys_count s.bytes kind p)

  -- ---- an item comes in

  module _ (low high : List ℕ) (some : 1 ≤ kind.k) (right : sides.Right end_key x) (left : sides.Left x next_key)
      (admits : AllByRecursion (λ (st : Step). sides.Right (get_or (V st.node).keys st.place []) x × sides.Left x (get_or (V st.node).keys (suc st.place) [])) e.above)
      (Puts : B → Grown (List ℕ) B → Type 0) (put : Puts (was end_key end_child) (One (now end_key end_child))) where
    abbrev out : IsNoNode Y undefined_address
    out = off_out s s kind root level way owned list k e all_keep was now same

    filled_p : (o : Node) → o ≡ V p → Puts (was (get_or o.keys i []) (get_or o.children i 0)) (One (now (get_or o.keys i []) (get_or o.children i 0)))
    filled_p o is = subst (λ (m : Node). Puts (was (get_or m.keys i []) (get_or m.children i 0)) (One (now (get_or m.keys i []) (get_or m.children i 0)))) (sym is) put

    keep_steps : (steps : List Step) → AllByRecursion (λ (st : Step). KeepsEntries s.bytes s.bytes kind st.node) steps
    keep_steps [] = tt
    keep_steps (st ∷ steps) = ((refl, refl, refl), keep_steps steps)

    -- IT GOES INTO THE TREE OF KEYS, between the keys around the child
    pub filled_made : Inserts sides Puts kind.k x low high (suc level) (keys_from Y was level root) (One (keys_from V now level root))
    filled_made =
        let steps = off_steps s s kind root level way owned list k e all_keep was now same in
        let stands = off_stands s s kind root level way owned list k e all_keep was now same in
        let K = (Y p).keys in
        let cs = (Y p).children in
        let admit : sides.Right (get_or K i []) x × sides.Left x (get_or K (suc i) [])
        = subst (λ (o : Node). sides.Right (get_or o.keys i []) x × sides.Left x (get_or o.keys (suc i) [])) (sym here) (right, left) in
        let wide = wide_same sides Puts kind.k x low high Y V was now 0 K cs i count e.place
        (all_left (StandsAlike Y V was now) (take i cs) (drop (suc i) cs) stands) (all_right (StandsAlike Y V was now) (take i cs) (drop (suc i) cs) stands) admit.0 admit.1
        (filled_p (Y p) here) in
        let one = fits_one sides Puts kind.k x low high Y V was now 0 K cs K cs wide count p (ap (λ (o : Node). o.keys) (sym here)) (ap (λ (o : Node). o.children) (sym here))
        (roomy sides items Base Puts x low high (λ a b. true) s.bytes s.bytes kind root level owned out e.tree.low e.tree.formed some was now 0 p e.front e.back (omega arith) e.row) in
        ups sides items Base Puts x low high (λ a b. true) s.bytes s.bytes kind root level owned out e.tree.low e.tree.formed some was now e.above 0 p e.front e.back
        (omega (arith, steps)) e.leads (off_is s s kind root level way owned list k e all_keep was now same) (keep_steps e.above) admits one

  module _ (Below : X → X → Type 0) (through : (l h : List ℕ) (y : X) → sides.Right l y → sides.Left y h → sides.Rise l h)
      (parts : (y z : X) (j : List ℕ) → sides.Left y j → sides.Right j z → Below y z) (low high : List ℕ) (new : LetIn sides x low high) (some : 1 ≤ kind.k)
      (right : sides.Right end_key x) (left : sides.Left x next_key) (put : Base (now end_key end_child) × IsPut Below x (items (was end_key end_child)) (items (now end_key end_child)))
      (admits : AllByRecursion (λ (st : Step). sides.Right (get_or (V st.node).keys st.place []) x × sides.Left x (get_or (V st.node).keys (suc st.place) [])) e.above) where
    abbrev Puts : B → Grown (List ℕ) B → Type 0
    Puts = IsGrown sides orderly Below through parts items Base x 0

    -- THE KEYS ARE IN ORDER STILL where an item comes in at the child at the end of a way, between the keys around it, and the items are
    -- those of before with this one at its place.
    pub filled_sorted : IsInOrder sides items Base s.bytes kind was level root
        → IsInOrder sides items Base s.bytes kind now level root × IsPut Below x (items_of_tree items s.bytes kind was level root) (items_of_tree items s.bytes kind now level root)
    filled_sorted ordered =
        let own = keys_own s.bytes kind root level owned list e.tree was in
        let grown = inserts_grown sides orderly Below through parts items Base kind.k x low high new Puts (λ b r base puts. puts) (suc level) (keys_from Y was level root)
        (One (keys_from V now level root)) (subst (S (suc level)) own ordered) (filled_made low high some right left admits Puts put) in
        (grown.0, subst (λ (t : KeyTree (List ℕ) B (suc level)). IsPut Below x (I (suc level) t) (I (suc level) (keys_from V now level root))) (sym own) grown.1)

  -- ---- an item goes

  abbrev pub Never : B → Type 0
  Never c = ⊥

  module _ (Takes : B → B → Type 0) (less : Takes (was end_key end_child) (now end_key end_child)) where
    less_p : (o : Node) → o ≡ V p → Takes (was (get_or o.keys i []) (get_or o.children i 0)) (now (get_or o.keys i []) (get_or o.children i 0))
    less_p o is = subst (λ (m : Node). Takes (was (get_or m.keys i []) (get_or m.children i 0)) (now (get_or m.keys i []) (get_or m.children i 0))) (sym is) less

    gone_p : Removes (List ℕ) Takes Never 1 (keys_from V was 0 p) (keys_from Y now 0 p)
    gone_p =
        let K = (Y p).keys in
        let cs = (Y p).children in
        let stands = off_stands s s kind root level way owned list k e all_keep now was back in
        let before = below-same Y V now was 0 (take i K) (take i cs) (all_left (StandsAlike Y V now was) (take i cs) (drop (suc i) cs) stands) in
        let behind = below-same Y V now was 0 (get_or K (suc i) [] ∷ drop (suc (suc i)) K) (drop (suc i) cs) (all_right (StandsAlike Y V now was) (take i cs) (drop (suc i) cs) stands) in
        let one : Removes (List ℕ) Takes Never 1 (K, trees_below V was 0 K cs) (K, trees_below Y now 0 K cs) = (
          enters V was 0 K cs i count e.place,
          now (get_or K i []) (get_or cs i 0),
          less_p (Y p) here,
          inl (
            refl,
            trees_cut Y now 0 K cs i count e.place ∙ ap₂ (λ (xs ys : List B). xs ++ now (get_or K i []) (get_or cs i 0) ∷ ys) (sym before) (sym behind),
          ),
        ) in
        subst (λ (o : Node). Removes (List ℕ) Takes Never 1 (o.keys, trees_below V was 0 o.keys o.children) (K, trees_below Y now 0 K cs)) here one

    -- IT GOES FROM THE TREE OF KEYS, and no child does
    pub lessened_gone : Removes (List ℕ) Takes Never (suc level) (keys_from V was level root) (keys_from V now level root)
    lessened_gone =
        let steps = off_steps s s kind root level way owned list k e all_keep was now same in
        let on_way = subst (AllByRecursion (λ (st : Step). Listed owned st.node)) e.way_is (way_owned s kind root level way owned list k e) in
        let alike = all_so (λ (st : Step). Listed owned st.node) (λ (st : Step). IsAlike Y V now was st.node) e.above
        (λ st is. let o = sym (owned_at V owned st.node is) in (ap (λ (m : Node). m.keys) o, ap (λ (m : Node). m.children) o)) on_way.1 in
        subst (Removes (List ℕ) Takes Never (suc level) (keys_from V was level root)) (sym (keys_own s.bytes kind root level owned list e.tree now))
        (rises Takes Never Y V now was root (keys_count s.bytes kind) e.above 0 p e.front e.back level (omega (arith, steps)) e.leads
        (off_is s s kind root level way owned list k e all_keep now was back) alike gone_p)

  module _ (less : Base (now end_key end_child) × IsTaken x (items (was end_key end_child)) (items (now end_key end_child))) where
    abbrev Takes : B → B → Type 0
    Takes b c = Base c × IsTaken x (items b) (items c)

    -- THE KEYS ARE IN ORDER STILL where an item goes from the child at the end of a way, and the items are those of before without it.
    pub lessened_sorted : IsInOrder sides items Base s.bytes kind was level root
        → IsInOrder sides items Base s.bytes kind now level root × IsTaken x (items_of_tree items s.bytes kind was level root) (items_of_tree items s.bytes kind now level root)
    lessened_sorted sorted =
        removes_sorted sides orderly items Base x Takes Never (λ b none. absurd none) (λ b c base takes. takes) (suc level) (keys_from V was level root)
        (keys_from V now level root) sorted (lessened_gone Takes less)

-- A ROOT THAT HAS ITS FIRST CHILD is in order, where what stands there is one item, between its two keys.
pub first_sorted : {B X : Type 0} (sides : Sides (List ℕ) X) (items : B → List X) (Base : B → Type 0) (x : X) (image : List ℕ) (kind : Kind) (root : ℕ) (at : AtChild B)
    (low high : List ℕ) (child : ℕ) → (node_at image kind root).keys ≡ low ∷ high ∷ [] → (node_at image kind root).children ≡ child ∷ [] → Base (at low child) → items (at low child) ≡ x ∷ []
    → sides.Right low x → sides.Left x high → sides.Rise low high
    → IsInOrder sides items Base image kind at 0 root × (items_of_tree items image kind at 0 root ≡ x ∷ [])
first_sorted {B} {X} sides items Base x image kind root at low high child keys children base one right left rise =
    let V = node_at image kind in
    let node : (low ∷ high ∷ [], at low child ∷ []) ≡ keys_from V at 0 root
    = ap₂ (λ (ks : List (List ℕ)) (cs : List ℕ). (ks, trees_below V at 0 ks cs)) (sym keys) (sym children) in
    let list : items (at low child) ++ [] ≡ x ∷ [] = ap (λ (ys : List X). ys ++ []) one in
    let lies : LieBetween sides low high (items (at low child)) = subst (LieBetween sides low high) (sym one) ((right, left), tt) in
    subst (λ (t : KeyTree (List ℕ) B 1). IsSorted sides items Base 1 t × (items_in (List ℕ) items 1 t ≡ x ∷ [])) node (((lies, rise, tt), (base, tt)), list)
