use Rattle.std.proofs.Common.{◌≡◌, ◌-◌, ◌+◌, ◌<◌, ℕ, suc, true, false, List, [], Option, Some, length, take, get_or, sym, ap, ◌∙◌, subst, arith, add-one}
use Rattle.std.specs.Option.{IfNone}
use Rattle.std.specs.List.{flat_map, slice_get}
use Rattle.std.proofs.lemmas.Option.{get_or_from_slice_get}
use Rattle.h5_model.specs.Format.Rows.{Node}
use Rattle.h5_model.specs.Format.Nodes.{node_at}
use Rattle.h5_laws.specs.ExactKeys.{IsBehind}
use Rattle.h5_btree.specs.Exact.{IsExactBelow, IsBehindChild, IsKeyFirst, key_before}
use Rattle.h5_btree.specs.Retired.{IsLastOf, keys_below}
use Rattle.h5_btree.proofs.ClimbSteps.{at_or}
use Rattle.h5_btree.proofs.ExactLaws.{behind_key, exact_node, key_behind, last_more, node_exact}
use Rattle.h5_btree.proofs.KeyedOwn.{keys_count}
use Rattle.h5_btree.proofs.LookedLaws.{child_exact}
use Rattle.h5_btree.proofs.RaiseCalls.{key_long}
use Rattle.h5_btree.proofs.RetiredReads.{below_node, under_child, under_there}
use Rattle.h5_btree.proofs.RetiredSteps.{got_below, take_all}
use Rattle.h5_btree.proofs.exact.+exact_below.Goals as goal

pub key-requires : goal.key-requires
key-requires g t c =
    let node : c.node_there-node.result ≡ node_at c.args.image.now.bytes c.args.kind c.args.at
    = c.node_there-node.ensures ∙ ap (λ (b : List ℕ). node_at b c.args.kind c.args.at) c.bytes.ensures in
    let same = ap (λ (n : Node). length n.keys) node in
    let count = keys_count c.args.image.now.bytes c.args.kind c.args.at in
    omega (arith, same, count)

pub returns-then-not-is_first-clause-other : goal.returns-then-not-is_first-clause-other
returns-then-not-is_first-clause-other g t c = λ exact.
    let V = node_at c.args.image.now.bytes c.args.kind in
    let keys = g.R.Hits.keys_at c.args.how.now c.args.image.now.bytes in
    let more : c.args.height ≡ suc (c.args.height - 1) = omega (arith, c.if-height-eq0.false) in
    let node : c.node_there-node.result ≡ V c.args.at
    = c.node_there-node.ensures ∙ ap (λ (b : List ℕ). node_at b c.args.kind c.args.at) c.bytes.ensures in
    let all = node_exact V keys (keys_count c.args.image.now.bytes c.args.kind) (c.args.height - 1) c.args.before c.args.at
    (subst (λ (h : ℕ). IsExactBelow V keys h c.args.before c.args.at) more exact) in
    let key : get_or (V c.args.at).keys 0 [] ≡ c.key.result.now
    = get_or_from_slice_get (V c.args.at).keys 0 c.key.result.now [] (subst (λ (n : Node). slice_get n.keys 0 ≡ Some c.key.result.now) node c.key.ensures) in
    let clash : false ≡ true = sym c.if-not-is_first.true ∙ c.is_first.ensures.1 (subst (IsKeyFirst c.args.before) key all.0) in
    cc

pub before_child-key-requires : goal.before_child-key-requires
before_child-key-requires g t c =
    let more : c.args.height ≡ suc (c.args.height - 1) = omega (arith, c.if-height-eq0.false) in
    let node : c.node_there-node.result ≡ node_at c.args.image.now.bytes c.args.kind c.args.at
    = c.node_there-node.ensures ∙ ap (λ (b : List ℕ). node_at b c.args.kind c.args.at) c.bytes.ensures in
    let there = under_there (g.R.Hits.stands c.args.how.now c.args.image.now.bytes) c.args.image.now.bytes c.args.kind c.args.height (c.args.height - 1) c.args.at more c.requires.under in
    key_long c.args.image.now.bytes c.args.kind c.args.at c.loop-i.i c.key-in-loop-i.result.now there.0 there.1
    (subst (λ (n : Node). slice_get n.keys c.loop-i.i ≡ Some c.key-in-loop-i.result.now) node c.key-in-loop-i.ensures) ∙ c.requires.width

pub exact_below-requires : goal.exact_below-requires
exact_below-requires g t c κs within =
    let more : c.args.height ≡ suc (c.args.height - 1) = omega (arith, c.if-height-eq0.false) in
    let node : c.node_there-node.result ≡ node_at c.args.image.now.bytes c.args.kind c.args.at
    = c.node_there-node.ensures ∙ ap (λ (b : List ℕ). node_at b c.args.kind c.args.at) c.bytes.ensures in (
      omega (arith, c.decreases, more),
      (
        within,
        (
          under_child (g.R.Hits.stands c.args.how.now c.args.image.now.bytes) c.args.image.now.bytes c.args.kind c.args.height (c.args.height - 1) c.args.at c.loop-i.i c.child.result
              more c.requires.under (subst (λ (n : Node). slice_get n.children c.loop-i.i ≡ Some c.child.result) node c.child.ensures),
          c.requires.width,
        ),
      ),
    )

pub returns-in_err-below-clause-other : goal.returns-in_err-below-clause-other
returns-in_err-below-clause-other g t c =
    let V = node_at c.args.image.now.bytes c.args.kind in
    let keys = g.R.Hits.keys_at c.args.how.now c.args.image.now.bytes in
    let i = c.loop-i.i in
    let more : c.args.height ≡ suc (c.args.height - 1) = omega (arith, c.if-height-eq0.false) in
    let node : c.node_there-node.result ≡ V c.args.at
    = c.node_there-node.ensures ∙ ap (λ (b : List ℕ). node_at b c.args.kind c.args.at) c.bytes.ensures in
    let first : get_or (V c.args.at).keys i [] ≡ c.key-in-loop-i.result.now
    = get_or_from_slice_get (V c.args.at).keys i c.key-in-loop-i.result.now [] (subst (λ (n : Node). slice_get n.keys i ≡ Some c.key-in-loop-i.result.now) node c.key-in-loop-i.ensures) in
    let key : key_before c.args.before i (get_or (V c.args.at).keys i []) ≡ c.before_child-key.result
    = ap (key_before c.args.before i) first ∙ sym c.before_child-key.ensures in
    subst (λ (r : Option (Option (List ℕ))). IfNone r (IsExactBelow V keys c.args.height c.args.before c.args.at → ⊥)) (sym c.from_residual.ensures)
    (λ exact. c.in_err-below.ensures.other
    (subst (λ (b : Option (List ℕ)). IsExactBelow V keys (c.args.height - 1) b c.child.result) key
    (child_exact V keys (c.args.height - 1) c.args.before c.args.at i c.child.result (subst (λ (n : Node). slice_get n.children i ≡ Some c.child.result) node c.child.ensures)
    (subst (λ (h : ℕ). IsExactBelow V keys h c.args.before c.args.at) more exact))))

pub returns-then-not-is_behind-clause-other : goal.returns-then-not-is_behind-clause-other
returns-then-not-is_behind-clause-other g t c = λ exact.
    let V = node_at c.args.image.now.bytes c.args.kind in
    let keys = g.R.Hits.keys_at c.args.how.now c.args.image.now.bytes in
    let i = c.loop-i.i in
    let more : c.args.height ≡ suc (c.args.height - 1) = omega (arith, c.if-height-eq0.false) in
    let node : c.node_there-node.result ≡ V c.args.at
    = c.node_there-node.ensures ∙ ap (λ (b : List ℕ). node_at b c.args.kind c.args.at) c.bytes.ensures in
    let all = node_exact V keys (keys_count c.args.image.now.bytes c.args.kind) (c.args.height - 1) c.args.before c.args.at
    (subst (λ (h : ℕ). IsExactBelow V keys h c.args.before c.args.at) more exact) in
    let behind = all.1 i c.child.result (subst (λ (n : Node). slice_get n.children i ≡ Some c.child.result) node c.child.ensures) in
    let low : get_or (V c.args.at).keys i [] ≡ c.key-in-loop-i-2.result.now
    = get_or_from_slice_get (V c.args.at).keys i c.key-in-loop-i-2.result.now [] (subst (λ (n : Node). slice_get n.keys i ≡ Some c.key-in-loop-i-2.result.now) node c.key-in-loop-i-2.ensures) in
    let high : get_or (V c.args.at).keys (suc i) [] ≡ c.key-in-loop-i-3.result.now
    = ap (λ (n : ℕ). get_or (V c.args.at).keys n []) (sym (add-one i))
    ∙ get_or_from_slice_get (V c.args.at).keys (i + 1) c.key-in-loop-i-3.result.now []
    (subst (λ (n : Node). slice_get n.keys (i + 1) ≡ Some c.key-in-loop-i-3.result.now) node c.key-in-loop-i-3.ensures) in
    let is = behind_key (get_or (V c.args.at).keys i []) (get_or (V c.args.at).keys (suc i) []) (keys_below V keys (c.args.height - 1) c.child.result) c.in_ok-below.below
    c.in_ok-below.ensures.last behind in
    let clash : false ≡ true
    = sym c.if-not-is_behind.true ∙ c.is_behind.ensures.1
    (subst (λ (k : List ℕ). IsBehindChild k c.in_ok-below.below c.key-in-loop-i-3.result.now) low
    (subst (IsBehindChild (get_or (V c.args.at).keys i []) c.in_ok-below.below) high is)) in
    cc

pub loop-i-preserved : goal.loop-i-preserved
loop-i-preserved g t c =
    let V = node_at c.args.image.now.bytes c.args.kind in
    let keys = g.R.Hits.keys_at c.args.how.now c.args.image.now.bytes in
    let inv = c.loop-i.invariant in
    let o = c.node_there-node.result in
    let i = c.loop-i.i in
    let h = c.args.height - 1 in
    let child = c.child.result in
    let low : get_or o.keys i [] ≡ c.key-in-loop-i-2.result.now = get_or_from_slice_get o.keys i c.key-in-loop-i-2.result.now [] c.key-in-loop-i-2.ensures in
    let first : get_or o.keys i [] ≡ c.key-in-loop-i.result.now = get_or_from_slice_get o.keys i c.key-in-loop-i.result.now [] c.key-in-loop-i.ensures in
    let high : get_or o.keys (suc i) [] ≡ c.key-in-loop-i-3.result.now
    = ap (λ (n : ℕ). get_or o.keys n []) (sym (add-one i)) ∙ get_or_from_slice_get o.keys (i + 1) c.key-in-loop-i-3.result.now [] c.key-in-loop-i-3.ensures in
    let found : IsBehindChild (get_or o.keys i []) c.in_ok-below.below (get_or o.keys (suc i) [])
    = subst (λ (k : List ℕ). IsBehindChild k c.in_ok-below.below (get_or o.keys (suc i) [])) (sym low)
    (subst (IsBehindChild c.key-in-loop-i-2.result.now c.in_ok-below.below) (sym high) (c.is_behind.ensures.0 c.if-not-is_behind.false)) in
    let behind = key_behind (get_or o.keys i []) (get_or o.keys (suc i) []) (keys_below V keys h child) c.in_ok-below.below c.in_ok-below.ensures.last found in
    let exact : IsExactBelow V keys h (key_before c.args.before i (get_or o.keys i [])) child
    = subst (λ (k : List ℕ). IsExactBelow V keys h (key_before c.args.before i k) child) (sym first)
    (subst (λ (b : Option (List ℕ)). IsExactBelow V keys h b child) c.before_child-key.ensures c.in_ok-below.ensures.exact) in
    record {
      end = inv.end;
      last = subst (IsLastOf (flat_map (keys_below V keys h) (take (i + 1) o.children))) (sym c.or-last.ensures)
          (last_more V keys (keys_count c.args.image.now.bytes c.args.kind) h o.children i child c.loop-i.last c.in_ok-below.below c.child.ensures inv.last c.in_ok-below.ensures.last);
      behind = λ j child' under got. at_or i j
          (λ same.
          let there : slice_get o.children i ≡ Some child' = subst (λ (n : ℕ). slice_get o.children n ≡ Some child') same got in
          let one : child ≡ child' = let a = c.child.ensures in cc in
          subst (λ (n : ℕ). IsBehind (λ (k : List ℕ). ⊥) (λ (key : List ℕ). key) (get_or o.keys n []) (keys_below V keys h child') (get_or o.keys (suc n) [])) (sym same)
          (subst (λ (d : ℕ). IsBehind (λ (k : List ℕ). ⊥) (λ (key : List ℕ). key) (get_or o.keys i []) (keys_below V keys h d) (get_or o.keys (suc i) [])) one behind))
          (λ far. inv.behind j child' (omega (arith, under, far)) got);
      exact = λ j child' under got. at_or i j
          (λ same.
          let there : slice_get o.children i ≡ Some child' = subst (λ (n : ℕ). slice_get o.children n ≡ Some child') same got in
          let one : child ≡ child' = let a = c.child.ensures in cc in
          subst (λ (n : ℕ). IsExactBelow V keys h (key_before c.args.before n (get_or o.keys n [])) child') (sym same)
          (subst (λ (d : ℕ). IsExactBelow V keys h (key_before c.args.before i (get_or o.keys i [])) d) one exact))
          (λ far. inv.exact j child' (omega (arith, under, far)) got);
    }

pub returns-clause-last : goal.returns-clause-last
returns-clause-last g t c =
    let V = node_at c.args.image.now.bytes c.args.kind in
    let keys = g.R.Hits.keys_at c.args.how.now c.args.image.now.bytes in
    let f = keys_below V keys (c.args.height - 1) in
    let more : c.args.height ≡ suc (c.args.height - 1) = omega (arith, c.if-height-eq0.false) in
    let node : c.node_there-node.result ≡ V c.args.at
    = c.node_there-node.ensures ∙ ap (λ (b : List ℕ). node_at b c.args.kind c.args.at) c.bytes.ensures in
    let all : c.loop-i.i ≡ length c.node_there-node.result.children = omega (arith, c.loop-i.invariant.end, c.loop-i-test.false, c.loop-i.auto.i-end) in
    below_node V keys c.args.height (c.args.height - 1) c.args.at (λ ks. IsLastOf ks c.loop-i.last) more
    (subst (λ (n : Node). IsLastOf (flat_map f n.children) c.loop-i.last) node
    (subst (λ (cs : List ℕ). IsLastOf (flat_map f cs) c.loop-i.last) (take_all c.node_there-node.result.children c.loop-i.i all) c.loop-i.invariant.last))

pub returns-clause-exact : goal.returns-clause-exact
returns-clause-exact g t c =
    let V = node_at c.args.image.now.bytes c.args.kind in
    let keys = g.R.Hits.keys_at c.args.how.now c.args.image.now.bytes in
    let h = c.args.height - 1 in
    let inv = c.loop-i.invariant in
    let more : c.args.height ≡ suc (c.args.height - 1) = omega (arith, c.if-height-eq0.false) in
    let node : c.node_there-node.result ≡ V c.args.at
    = c.node_there-node.ensures ∙ ap (λ (b : List ℕ). node_at b c.args.kind c.args.at) c.bytes.ensures in
    let all : c.loop-i.i ≡ length c.node_there-node.result.children = omega (arith, inv.end, c.loop-i-test.false, c.loop-i.auto.i-end) in
    let low : (j child : ℕ) → slice_get c.node_there-node.result.children j ≡ Some child → j < c.loop-i.i
    = λ j child got. let l = got_below c.node_there-node.result.children j child got in omega (arith, l, all) in
    let key : get_or (V c.args.at).keys 0 [] ≡ c.key.result.now
    = get_or_from_slice_get (V c.args.at).keys 0 c.key.result.now [] (subst (λ (n : Node). slice_get n.keys 0 ≡ Some c.key.result.now) node c.key.ensures) in
    subst (λ (n : ℕ). IsExactBelow V keys n c.args.before c.args.at) (sym more)
    (exact_node V keys (keys_count c.args.image.now.bytes c.args.kind) h c.args.before c.args.at
    (subst (IsKeyFirst c.args.before) (sym key) (c.is_first.ensures.0 c.if-not-is_first.false))
    (subst (λ (n : Node). (j child : ℕ) → slice_get n.children j ≡ Some child
    → IsBehind (λ (k : List ℕ). ⊥) (λ (key : List ℕ). key) (get_or n.keys j []) (keys_below V keys h child) (get_or n.keys (suc j) [])) node (λ j child got. inv.behind j child (low j child got) got))
    (subst (λ (n : Node). (j child : ℕ) → slice_get n.children j ≡ Some child → IsExactBelow V keys h (key_before c.args.before j (get_or n.keys j [])) child) node
    (λ j child got. inv.exact j child (low j child got) got)))
