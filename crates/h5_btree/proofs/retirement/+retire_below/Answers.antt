use Rattle.std.proofs.Common.{◌≡◌, ◌⊎◌, inl, inr, ◌==◌, ◌&&◌, ◌||◌, ◌<◌, ◌+◌, ◌≤◌, ℕ, zero, suc, ◌-◌, Bool, false, List, [], ◌∷◌, Some, length, take, get_or, refl, sym, ap, ◌∙◌, subst, arith}
use Rattle.std.specs.List.{AllByRecursion, slice_get}
use Rattle.h5_model.specs.Format.Rows.{Node}
use Rattle.h5_model.specs.Format.Nodes.{Kind, IsNode, node_at, node_bytes, node_length}
use Rattle.h5_space.specs.Space.{Space}
use Rattle.h5_space.specs.Moves.{Spends}
use Rattle.h5_space.proofs.MovesLaws.{spends_then}
use Rattle.h5_btree.specs.Held.{IsNodeThere}
use Rattle.h5_btree.specs.Looked.{IsLookedBelow, looks_below, steps_of}
use Rattle.h5_btree.specs.Retired.{AreRetiredBelow, IsRetiring, IsSubtree, KeepsRetired}
use Rattle.h5_btree.proofs.KeyedOwn.{keys_count}
use Rattle.h5_btree.proofs.RetiredNodes.{keyed_children}
use Rattle.h5_btree.proofs.RaiseCalls.{key_long}
use Rattle.h5_btree.proofs.RetiredLooks.{HasGoneOn, child_looked, goes_below, looked_kept, passes_by}
use Rattle.h5_btree.proofs.RetiredSteps.{got_below, here_below, kept, none_below, retiring_keyed, retiring_more, retiring_under, take_all, under_got}
use Rattle.h5_btree.proofs.retirement.+retire_below.Goals as goal
use Rattle.h5_btree.proofs.retirement.+retire_below.Goals.{else-looks, then-looks}

-- a node with nodes below it is above level 0
deeper : (level i end : ℕ) → (level ≡ 0 → end ≡ 0) → i < end → level ≡ suc (level - 1)
deeper zero i end none low = let e = none refl in absurd (omega (arith, e, low))
deeper (suc level) i end none low = omega arith

-- how long a key is
slice_get_or : (keys : List (List ℕ)) (i : ℕ) → i < length keys → slice_get keys i ≡ Some (get_or keys i [])
slice_get_or [] i low = absurd (omega (arith, low))
slice_get_or (k ∷ keys) zero low = refl
slice_get_or (k ∷ keys) (suc i) low = slice_get_or keys i (omega (arith, low))

keys_long : (image : List ℕ) (kind : Kind) (at i : ℕ) → at + node_length kind ≤ length image → IsNode kind (node_bytes image kind at) → i < length (node_at image kind at).keys
    → length (get_or (node_at image kind at).keys i []) ≡ kind.key_length
keys_long image kind at i inside form low =
    key_long image kind at i (get_or (node_at image kind at).keys i []) inside form (slice_get_or (node_at image kind at).keys i low)

module _ (hit : List ℕ → Bool) (stands : List ℕ → ℕ → Type 0) (keys_at : List ℕ → ℕ → List (List ℕ)) (s t : Space) (kind : Kind) (root height : ℕ) (owned list : List ℕ)
    (r : IsRetiring hit stands keys_at s t kind root height owned list) (level at : ℕ) (under : IsSubtree (node_at s.bytes kind) owned list (suc level) at) where
  there : IsNodeThere t.bytes kind at
  there = (retiring_under hit stands keys_at s t kind root height owned list r (suc level) at under).0

  children : (node_at t.bytes kind at).children ≡ (node_at s.bytes kind at).children
  children = keyed_children s t kind owned list r.start.apart (retiring_keyed hit stands keys_at s t kind root height owned list r) at under.0

  -- the node, as it is read
  module _ (read : Node) (is : read ≡ node_at t.bytes kind at) where
    got_child : (i child : ℕ) → slice_get read.children i ≡ Some child → slice_get (node_at s.bytes kind at).children i ≡ Some child
    got_child i child got = subst (λ (cs : List ℕ). slice_get cs i ≡ Some child) (ap (λ (n : Node). n.children) is ∙ children) got

    same_long : length read.children ≡ length (node_at s.bytes kind at).children
    same_long = ap (λ (cs : List ℕ). length cs) (ap (λ (n : Node). n.children) is ∙ children)

zero_or : (n : ℕ) → (n ≡ 0) ⊎ (1 ≤ n)
zero_or zero = inl refl
zero_or (suc n) = inr (omega arith)

pub nodes_below-i-end-requires : goal.nodes_below-i-end-requires
nodes_below-i-end-requires g t c =
    let x = c.requires.stands in
    let hit = g.R.Hits.hit c.args.how.now in
    let stands = g.R.Hits.stands c.args.how.now in
    let keys_at = g.R.Hits.keys_at c.args.how.now in
    let kind = c.args.kind.now in
    rw c.bytes.ensures record { node = there hit stands keys_at x.0 c.args.image.now kind x.1 x.2 x.3 x.4 x.5 c.args.level c.args.at x.6 }

pub node_there-node-requires : goal.node_there-node-requires
node_there-node-requires g t c =
    let x = c.requires.stands in
    let hit = g.R.Hits.hit c.args.how.now in
    let stands = g.R.Hits.stands c.args.how.now in
    let keys_at = g.R.Hits.keys_at c.args.how.now in
    let kind = c.args.kind.now in
    let r = c.loop-i.invariant.retired x.0 x.1 x.2 x.3 x.4 x.5 x.6 x.7 in
    let is = there hit stands keys_at x.0 c.loop-i.image kind x.1 x.2 x.3 x.4 r c.args.level c.args.at x.6 in
    rw c.bytes-in-loop-i.ensures record { inside = is.0; form = is.1 }

pub child-child-requires : goal.child-child-requires
child-child-requires g t c =
    let x = c.requires.stands in
    let hit = g.R.Hits.hit c.args.how.now in
    let stands = g.R.Hits.stands c.args.how.now in
    let keys_at = g.R.Hits.keys_at c.args.how.now in
    let kind = c.args.kind.now in
    let r = c.loop-i.invariant.retired x.0 x.1 x.2 x.3 x.4 x.5 x.6 x.7 in
    let node : c.node_there-node.result ≡ node_at c.loop-i.image.bytes kind c.args.at
    = c.node_there-node.ensures ∙ ap (λ (b : List ℕ). node_at b kind c.args.at) c.bytes-in-loop-i.ensures in
    let same = same_long hit stands keys_at x.0 c.loop-i.image kind x.1 x.2 x.3 x.4 r c.args.level c.args.at x.6 c.node_there-node.result node in
    let now : length (node_at (x.0).bytes kind c.args.at).children ≡ length (node_at c.args.image.now.bytes kind c.args.at).children
    = ap (λ (cs : List ℕ). length cs) (sym (children hit stands keys_at x.0 c.args.image.now kind x.1 x.2 x.3 x.4 x.5 c.args.level c.args.at x.6)) in
    elim (zero_or c.args.level) [
      | inl none ↦ let end = c.loop-i.invariant.bottom none in omega (arith, end, c.loop-i-test.true)
      | inr some ↦ let end = c.loop-i.invariant.above some in omega (arith, same, now, end, c.loop-i-test.true)
    ]

pub looks-requires : goal.looks-requires
looks-requires g t c =
    let x = c.requires.stands in
    let hit = g.R.Hits.hit c.args.how.now in
    let stands = g.R.Hits.stands c.args.how.now in
    let keys_at = g.R.Hits.keys_at c.args.how.now in
    let kind = c.args.kind.now in
    let r = c.loop-i.invariant.retired x.0 x.1 x.2 x.3 x.4 x.5 x.6 x.7 in
    let node : c.node_there-node.result ≡ node_at c.loop-i.image.bytes kind c.args.at
    = c.node_there-node.ensures ∙ ap (λ (b : List ℕ). node_at b kind c.args.at) c.bytes-in-loop-i.ensures in
    let is = there hit stands keys_at x.0 c.loop-i.image kind x.1 x.2 x.3 x.4 r c.args.level c.args.at x.6 in
    let count = keys_count c.loop-i.image.bytes kind c.args.at in
    let got : c.loop-i.i < length (node_at c.loop-i.image.bytes kind c.args.at).children
    = got_below (node_at c.loop-i.image.bytes kind c.args.at).children c.loop-i.i c.child-child.result
    (subst (λ (n : Node). slice_get n.children c.loop-i.i ≡ Some c.child-child.result) node c.child-child.ensures) in
    let low : c.loop-i.i < length (node_at c.loop-i.image.bytes kind c.args.at).keys = omega (arith, count, got) in
    let width : length (get_or (node_at c.loop-i.image.bytes kind c.args.at).keys c.loop-i.i []) ≡ 8
    = keys_long c.loop-i.image.bytes kind c.args.at c.loop-i.i is.0 is.1 low ∙ r.start.width in
    record {
      place = subst (λ (n : Node). c.loop-i.i < length n.keys) (sym node) low;
      width = subst (λ (n : Node). length (get_or n.keys c.loop-i.i []) ≡ 8) (sym node) width;
    }

pub retire_below-requires : goal.retire_below-requires
retire_below-requires g t c κs within =
    let x = c.requires.stands in
    let hit = g.R.Hits.hit c.args.how.now in
    let stands = g.R.Hits.stands c.args.how.now in
    let keys_at = g.R.Hits.keys_at c.args.how.now in
    let kind = c.args.kind.now in
    let inv = c.loop-i.invariant in
    let r = inv.retired x.0 x.1 x.2 x.3 x.4 x.5 x.6 x.7 in
    let node : c.node_there-node.result ≡ node_at c.loop-i.image.bytes kind c.args.at
    = c.node_there-node.ensures ∙ ap (λ (b : List ℕ). node_at b kind c.args.at) c.bytes-in-loop-i.ensures in
    let more : c.args.level ≡ suc (c.args.level - 1) = deeper c.args.level c.loop-i.i c.nodes_below-i-end.result inv.bottom c.loop-i-test.true in
    let got = got_child hit stands keys_at x.0 c.loop-i.image kind x.1 x.2 x.3 x.4 r c.args.level c.args.at x.6 c.node_there-node.result node c.loop-i.i c.child-child.result
    c.child-child.ensures in
    let looked = looked_kept hit stands keys_at x.0 c.args.image.now c.loop-i.image kind x.3 x.4 (inv.kept x.0 x.1 x.2 x.3 x.4 x.5 x.6 x.7) (steps_of c.args.look) (suc c.args.level) c.args.at
    c.args.edge x.6 x.7 in (
      omega (arith, c.decreases, more),
      (
        within,
        (
          x.0,
          x.1,
          x.2,
          x.3,
          x.4,
          r,
          under_got (node_at (x.0).bytes kind) x.3 x.4 c.args.level (c.args.level - 1) c.args.at c.loop-i.i c.child-child.result more x.6 got,
          subst (λ (e : Bool). IsLookedBelow hit keys_at x.0 c.loop-i.image kind (steps_of c.args.look) (suc (c.args.level - 1)) e c.child-child.result) (sym c.keeps_edge-edge.ensures)
              (child_looked hit stands keys_at x.0 c.loop-i.image kind x.1 x.2 x.3 x.4 r (steps_of c.args.look) c.args.level c.args.at c.args.edge x.6 looked c.loop-i.i c.child-child.result got
              (c.args.level - 1) more),
        ),
      ),
    )

pub loop-i-preserved : goal.loop-i-preserved
loop-i-preserved g t c = record {
  above = c.loop-i.invariant.above;
  bottom = c.loop-i.invariant.bottom;
  retired = λ start root height owned list r under looked. (step start root height owned list r under looked).0;
  kept = λ start root height owned list r under looked n is retired.
      (step start root height owned list r under looked).1 n is (c.loop-i.invariant.kept start root height owned list r under looked n is retired);
  below = λ start root height owned list r under looked. (step start root height owned list r under looked).2;
  spends = elim c.if-looks.branch [
    | then-looks w ↦ subst (λ (u : Space). Spends c.args.image.now u 0 0) (sym w.image-is)
        (spends_then c.args.image.now c.loop-i.image w.retire_below.new.image 0 0 0 0 c.loop-i.invariant.spends w.retire_below.ensures.spends)
    | else-looks w ↦ subst (λ (u : Space). Spends c.args.image.now u 0 0) (sym w.image-is) c.loop-i.invariant.spends
  ];
} where
  step : (start : Space) (root height : ℕ) (owned list : List ℕ)
      → (r : IsRetiring (g.R.Hits.hit c.args.how.now) (g.R.Hits.stands c.args.how.now) (g.R.Hits.keys_at c.args.how.now) start c.args.image.now c.args.kind.now root height owned list)
      → (under : IsSubtree (node_at start.bytes c.args.kind.now) owned list (suc c.args.level) c.args.at)
      → IsLookedBelow (g.R.Hits.hit c.args.how.now) (g.R.Hits.keys_at c.args.how.now) start c.args.image.now c.args.kind.now (steps_of c.args.look) (suc c.args.level) c.args.edge c.args.at
      → IsRetiring (g.R.Hits.hit c.args.how.now) (g.R.Hits.stands c.args.how.now) (g.R.Hits.keys_at c.args.how.now) start c.if-looks.image c.args.kind.now root height owned list
      × KeepsRetired (g.R.Hits.hit c.args.how.now) (g.R.Hits.keys_at c.args.how.now) start c.loop-i.image c.if-looks.image c.args.kind.now owned
      × AllByRecursion (AreRetiredBelow (g.R.Hits.hit c.args.how.now) (g.R.Hits.keys_at c.args.how.now) start c.if-looks.image c.args.kind.now c.args.level)
      (take (c.loop-i.i + 1) (node_at start.bytes c.args.kind.now c.args.at).children)
  step start root height owned list r under looked =
      let hit = g.R.Hits.hit c.args.how.now in
      let stands = g.R.Hits.stands c.args.how.now in
      let keys_at = g.R.Hits.keys_at c.args.how.now in
      let kind = c.args.kind.now in
      let inv = c.loop-i.invariant in
      let way = steps_of c.args.look in
      let level = c.args.level in
      let at = c.args.at in
      let i = c.loop-i.i in
      let child = c.child-child.result in
      let now = c.loop-i.image in
      let is = inv.retired start root height owned list r under looked in
      let node : c.node_there-node.result ≡ node_at now.bytes kind at
      = c.node_there-node.ensures ∙ ap (λ (b : List ℕ). node_at b kind at) c.bytes-in-loop-i.ensures in
      let more : level ≡ suc (level - 1) = deeper level i c.nodes_below-i-end.result inv.bottom c.loop-i-test.true in
      let got = got_child hit stands keys_at start now kind root height owned list is level at under c.node_there-node.result node i child c.child-child.ensures in
      let sees = looked_kept hit stands keys_at start c.args.image.now now kind owned list (inv.kept start root height owned list r under looked) way (suc level) at c.args.edge under looked in
      let done = inv.below start root height owned list r under looked in
      let Gone = HasGoneOn hit stands keys_at start now kind root height owned list is way level at c.args.edge under sees i child (level - 1) more got done in
      elim c.if-looks.branch [
        | then-looks w ↦
            let below = under_got (node_at start.bytes kind) owned list level (level - 1) at i child more under got in
            let on = subst (λ (e : Bool). IsLookedBelow hit keys_at start now kind way (suc (level - 1)) e child) (sym c.keeps_edge-edge.ensures)
            (child_looked hit stands keys_at start now kind root height owned list is way level at c.args.edge under sees i child got (level - 1) more) in
            let e = w.retire_below.ensures in
            subst Gone (sym w.image-is)
            (goes_below hit stands keys_at start now kind root height owned list is way level at c.args.edge under sees i child (level - 1) more got done w.retire_below.new.image
            (e.retired start root height owned list is below on) (e.kept start root height owned list is below on) (e.below start root height owned list is below on))
        | else-looks w ↦
            let off : ((c.args.edge && (i == 0)) || looks_below hit way level at (node_at now.bytes kind at).keys i) ≡ false
            = ap (λ (n : Node). (c.args.edge && (i == 0)) || looks_below hit way level at n.keys i) (sym node)
            ∙ ap (λ (b : Bool). b || looks_below hit way level at c.node_there-node.result.keys i) (sym c.keeps_edge-edge.ensures) ∙ sym c.looks.ensures ∙ w.if-looks.false in
            subst Gone (sym w.image-is) (passes_by hit stands keys_at start now kind root height owned list is way level at c.args.edge under sees i child (level - 1) more got done off)
      ]

pub retire_keys-requires : goal.retire_keys-requires
retire_keys-requires g t c =
    let x = c.requires.stands in
    record { stands = (x.0, x.1, x.2, x.3, x.4, c.loop-i.invariant.retired x.0 x.1 x.2 x.3 x.4 x.5 x.6 x.7, x.6) }

-- all nodes below it are done
module _ (hit : List ℕ → Bool) (keys_at : List ℕ → ℕ → List (List ℕ)) (s t : Space) (kind : Kind) (level : ℕ) (cs : List ℕ) (i end : ℕ) where
  all_done : (1 ≤ level → end ≡ length cs) → end ≤ i → i ≤ end → AllByRecursion (AreRetiredBelow hit keys_at s t kind level) (take i cs)
      → AllByRecursion (AreRetiredBelow hit keys_at s t kind level) cs
  all_done above past within done = elim (zero_or level) [
    | inl none ↦ none_below hit keys_at s t kind level cs none
    | inr some ↦ let all = above some in subst (AllByRecursion (AreRetiredBelow hit keys_at s t kind level)) (take_all cs i (omega (arith, all, past, within))) done
  ]

pub returns-clause-retired : goal.returns-clause-retired
returns-clause-retired g t c = λ start root height owned list r under looked.
    let hit = g.R.Hits.hit c.args.how.now in
    let stands = g.R.Hits.stands c.args.how.now in
    let keys_at = g.R.Hits.keys_at c.args.how.now in
    let kind = c.args.kind.now in
    let inv = c.loop-i.invariant in
    let is = inv.retired start root height owned list r under looked in
    let same = sym (children hit stands keys_at start c.args.image.now kind root height owned list r c.args.level c.args.at under) in
    let done = all_done hit keys_at start c.loop-i.image kind c.args.level (node_at start.bytes kind c.args.at).children c.loop-i.i c.nodes_below-i-end.result
    (λ some. inv.above some ∙ sym (ap (λ (cs : List ℕ). length cs) same)) c.loop-i-test.false c.loop-i.auto.i-end (inv.below start root height owned list r under looked) in
    retiring_more hit stands keys_at start c.loop-i.image kind root height owned list is c.retire_keys.new.image c.args.level c.args.at under c.retire_keys.ensures done

pub returns-clause-below : goal.returns-clause-below
returns-clause-below g t c = λ start root height owned list r under looked.
    let hit = g.R.Hits.hit c.args.how.now in
    let stands = g.R.Hits.stands c.args.how.now in
    let keys_at = g.R.Hits.keys_at c.args.how.now in
    let kind = c.args.kind.now in
    let inv = c.loop-i.invariant in
    let is = inv.retired start root height owned list r under looked in
    let same = sym (children hit stands keys_at start c.args.image.now kind root height owned list r c.args.level c.args.at under) in
    let done = all_done hit keys_at start c.loop-i.image kind c.args.level (node_at start.bytes kind c.args.at).children c.loop-i.i c.nodes_below-i-end.result
    (λ some. inv.above some ∙ sym (ap (λ (cs : List ℕ). length cs) same)) c.loop-i-test.false c.loop-i.auto.i-end (inv.below start root height owned list r under looked) in
    here_below hit stands keys_at start c.loop-i.image kind root height owned list is c.retire_keys.new.image c.args.level c.args.at under c.retire_keys.ensures done

pub returns-clause-kept : goal.returns-clause-kept
returns-clause-kept g t c = λ start root height owned list r under looked n is retired.
    let hit = g.R.Hits.hit c.args.how.now in
    let stands = g.R.Hits.stands c.args.how.now in
    let keys_at = g.R.Hits.keys_at c.args.how.now in
    let kind = c.args.kind.now in
    let inv = c.loop-i.invariant in
    kept hit stands keys_at start c.loop-i.image kind root height owned list (inv.retired start root height owned list r under looked) c.retire_keys.new.image c.args.level c.args.at under
    c.retire_keys.ensures n is (inv.kept start root height owned list r under looked n is retired)

pub returns-clause-spends : goal.returns-clause-spends
returns-clause-spends g t c = spends_then c.args.image.now c.loop-i.image c.retire_keys.new.image 0 0 0 0 c.loop-i.invariant.spends c.retire_keys.ensures.2.spends
