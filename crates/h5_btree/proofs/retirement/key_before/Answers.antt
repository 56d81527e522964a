use Rattle.std.proofs.Common.{◌≡◌, ℕ, ◌-◌, List, length, refl, sym, ap, ◌∙◌, subst, arith, Some, []}
use Rattle.std.specs.List.{slice_get}
use Rattle.std.proofs.lemmas.Option.{get_or_from_slice_get}
use Rattle.h5_model.specs.Format.Rows.{Node}
use Rattle.h5_model.specs.Format.Nodes.{node_at, node_bytes}
use Rattle.h5_btree.specs.Retired.{IsLastOf, StandsUnder, keys_below}
use Rattle.h5_btree.proofs.NodeLaws.{length-children, length-keys}
use Rattle.h5_btree.proofs.RaiseCalls.{key_long}
use Rattle.h5_btree.proofs.RetiredReads.{all_got, before_none, before_some}
use Rattle.h5_btree.proofs.retirement.key_before.Goals as goal

pub child-requires : goal.child-requires
child-requires g c =
    let node : c.node_there-node.result ≡ node_at c.args.image.now.bytes c.args.kind c.args.at
    = c.node_there-node.ensures ∙ ap (λ (b : List ℕ). node_at b c.args.kind c.args.at) c.bytes.ensures in
    let same = ap (λ (n : Node). length n.children) node in
    let count = length-children c.args.kind (node_bytes c.args.image.now.bytes c.args.kind c.args.at) (node_at c.args.image.now.bytes c.args.kind c.args.at) refl in
    omega (arith, same, count, c.requires.place, c.if-i-eq0.false)

pub last_key_below-requires : goal.last_key_below-requires
last_key_below-requires g c =
    let node : c.node_there-node.result ≡ node_at c.args.image.now.bytes c.args.kind c.args.at
    = c.node_there-node.ensures ∙ ap (λ (b : List ℕ). node_at b c.args.kind c.args.at) c.bytes.ensures in
    record {
      under = all_got (StandsUnder (g.R.Hits.stands c.args.how.now c.args.image.now.bytes) c.args.image.now.bytes c.args.kind c.args.level)
          (node_at c.args.image.now.bytes c.args.kind c.args.at).children (c.args.i - 1) c.child.result
          (subst (λ (n : Node). slice_get n.children (c.args.i - 1) ≡ Some c.child.result) node c.child.ensures) c.requires.under.1;
    }

pub returns-in-Some : goal.returns-in-Some
returns-in-Some g c =
    let V = node_at c.args.image.now.bytes c.args.kind in
    let node : c.node_there-node.result ≡ V c.args.at
    = c.node_there-node.ensures ∙ ap (λ (b : List ℕ). node_at b c.args.kind c.args.at) c.bytes.ensures in
    let f = keys_below V (g.R.Hits.keys_at c.args.how.now c.args.image.now.bytes) c.args.level in
    record {
      before = before_some f (V c.args.at).children (V c.args.at).keys c.args.i (c.args.i - 1) c.child.result (omega (arith, c.if-i-eq0.false))
          (subst (λ (n : Node). slice_get n.children (c.args.i - 1) ≡ Some c.child.result) node c.child.ensures) c.in-Some.last
          (subst (IsLastOf (f c.child.result)) c.in-Some.is c.last_key_below.ensures);
    }

pub key-requires : goal.key-requires
key-requires g c =
    let node : c.node_there-node.result ≡ node_at c.args.image.now.bytes c.args.kind c.args.at
    = c.node_there-node.ensures ∙ ap (λ (b : List ℕ). node_at b c.args.kind c.args.at) c.bytes.ensures in
    let same = ap (λ (n : Node). length n.keys) node in
    let count = length-keys c.args.kind (node_bytes c.args.image.now.bytes c.args.kind c.args.at) (node_at c.args.image.now.bytes c.args.kind c.args.at) refl in
    omega (arith, same, count, c.requires.place, c.if-i-eq0.false)

pub copy_from_slice-requires : goal.copy_from_slice-requires
copy_from_slice-requires g c =
    let node : c.node_there-node.result ≡ node_at c.args.image.now.bytes c.args.kind c.args.at
    = c.node_there-node.ensures ∙ ap (λ (b : List ℕ). node_at b c.args.kind c.args.at) c.bytes.ensures in
    let there = c.requires.under.0 in
    let long = key_long c.args.image.now.bytes c.args.kind c.args.at (c.args.i - 1) c.key.result.now there.0 there.1
    (subst (λ (n : Node). slice_get n.keys (c.args.i - 1) ≡ Some c.key.result.now) node c.key.ensures) in
    sym (long ∙ c.requires.width)

pub returns : goal.returns
returns g c =
    let V = node_at c.args.image.now.bytes c.args.kind in
    let node : c.node_there-node.result ≡ V c.args.at
    = c.node_there-node.ensures ∙ ap (λ (b : List ℕ). node_at b c.args.kind c.args.at) c.bytes.ensures in
    let f = keys_below V (g.R.Hits.keys_at c.args.how.now c.args.image.now.bytes) c.args.level in
    record {
      before = before_none f (V c.args.at).children (V c.args.at).keys c.args.i (c.args.i - 1) c.child.result (omega (arith, c.if-i-eq0.false))
          (subst (λ (n : Node). slice_get n.children (c.args.i - 1) ≡ Some c.child.result) node c.child.ensures) c.copy_from_slice.new.self
          (subst (IsLastOf (f c.child.result)) c.in_default.is c.last_key_below.ensures)
          (c.copy_from_slice.ensures.after
          ∙ sym (get_or_from_slice_get (V c.args.at).keys (c.args.i - 1) c.key.result.now []
          (subst (λ (n : Node). slice_get n.keys (c.args.i - 1) ≡ Some c.key.result.now) node c.key.ensures)));
    }
