use Rattle.std.proofs.Common.{◌≡◌, ℕ, suc, ◌-◌, List, drop, sym, ap, ◌∙◌, subst, arith}
use Rattle.std.specs.List.{flat_map, slice_get}
use Rattle.std.proofs.Common.{Some, []}
use Rattle.h5_model.specs.Format.Rows.{Node}
use Rattle.h5_model.specs.Format.Nodes.{node_at}
use Rattle.h5_btree.specs.Retired.{IsLastOf, keys_below}
use Rattle.h5_btree.proofs.RetiredReads.{below_node, last_here, none_more, under_child}
use Rattle.h5_btree.proofs.retirement.+last_key_below.Goals as goal

pub last_key_below-found-requires : goal.last_key_below-found-requires
last_key_below-found-requires g t c κs within =
    let more : c.args.height ≡ suc (c.args.height - 1) = omega (arith, c.if-height-eq0.false) in
    let node : c.node_there-node.result ≡ node_at c.args.image.now.bytes c.args.kind c.args.at
    = c.node_there-node.ensures ∙ ap (λ (b : List ℕ). node_at b c.args.kind c.args.at) c.bytes.ensures in (
      omega (arith, c.decreases, more),
      (
        within,
        under_child (g.R.Hits.stands c.args.how.now c.args.image.now.bytes) c.args.image.now.bytes c.args.kind c.args.height (c.args.height - 1) c.args.at (c.loop-i.i - 1) c.child.result more
            c.requires.under (subst (λ (n : Node). slice_get n.children (c.loop-i.i - 1) ≡ Some c.child.result) node c.child.ensures),
      ),
    )

pub returns-then-is_some : goal.returns-then-is_some
returns-then-is_some g t c =
    let more : c.args.height ≡ suc (c.args.height - 1) = omega (arith, c.if-height-eq0.false) in
    let next : suc (c.loop-i.i - 1) ≡ c.loop-i.i = omega (arith, c.loop-i-test.true) in
    let V = node_at c.args.image.now.bytes c.args.kind in
    let keys = g.R.Hits.keys_at c.args.how.now c.args.image.now.bytes in
    let f = keys_below V keys (c.args.height - 1) in
    let node : c.node_there-node.result ≡ V c.args.at
    = c.node_there-node.ensures ∙ ap (λ (b : List ℕ). node_at b c.args.kind c.args.at) c.bytes.ensures in
    let rest : flat_map f (drop (suc (c.loop-i.i - 1)) c.node_there-node.result.children) ≡ []
    = ap (λ (i : ℕ). flat_map f (drop i c.node_there-node.result.children)) next ∙ c.loop-i.invariant.none in
    below_node V keys c.args.height (c.args.height - 1) c.args.at (λ ks. IsLastOf ks c.last_key_below-found.result) more
    (subst (λ (n : Node). IsLastOf (flat_map f n.children) c.last_key_below-found.result) node
    (last_here f c.node_there-node.result.children (c.loop-i.i - 1) c.child.result c.last_key_below-found.result c.child.ensures
    (sym c.is_some.ensures ∙ c.if-is_some.true) c.last_key_below-found.ensures rest))

pub loop-i-preserved : goal.loop-i-preserved
loop-i-preserved g t c =
    let next : suc (c.loop-i.i - 1) ≡ c.loop-i.i = omega (arith, c.loop-i-test.true) in
    let V = node_at c.args.image.now.bytes c.args.kind in
    let keys = g.R.Hits.keys_at c.args.how.now c.args.image.now.bytes in
    let f = keys_below V keys (c.args.height - 1) in
    let rest : flat_map f (drop (suc (c.loop-i.i - 1)) c.node_there-node.result.children) ≡ []
    = ap (λ (i : ℕ). flat_map f (drop i c.node_there-node.result.children)) next ∙ c.loop-i.invariant.none in
    record {
      within = omega (arith, c.loop-i.invariant.within);
      none = none_more f c.node_there-node.result.children (c.loop-i.i - 1) c.child.result c.last_key_below-found.result c.child.ensures
          (sym c.is_some.ensures ∙ c.if-is_some.false) c.last_key_below-found.ensures rest;
    }

pub returns : goal.returns
returns g t c =
    let more : c.args.height ≡ suc (c.args.height - 1) = omega (arith, c.if-height-eq0.false) in
    let start : c.loop-i.i ≡ 0 = omega (arith, c.loop-i-test.false) in
    let V = node_at c.args.image.now.bytes c.args.kind in
    let keys = g.R.Hits.keys_at c.args.how.now c.args.image.now.bytes in
    let f = keys_below V keys (c.args.height - 1) in
    let node : c.node_there-node.result ≡ V c.args.at
    = c.node_there-node.ensures ∙ ap (λ (b : List ℕ). node_at b c.args.kind c.args.at) c.bytes.ensures in
    below_node V keys c.args.height (c.args.height - 1) c.args.at (λ ks. ks ≡ []) more
    (subst (λ (n : Node). flat_map f n.children ≡ []) node
    (ap (λ (i : ℕ). flat_map f (drop i c.node_there-node.result.children)) (sym start) ∙ c.loop-i.invariant.none))
