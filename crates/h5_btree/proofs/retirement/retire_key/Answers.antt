use Rattle.std.proofs.Common.{◌≡◌, inl, inr, ℕ, List, [], length, get_or, refl, sym, ap, ◌∙◌, subst, arith, Some}
use Rattle.std.specs.List.{slice_get}
use Rattle.std.proofs.lemmas.Option.{get_or_from_slice_get}
use Rattle.h5_model.specs.Format.Rows.{Node}
use Rattle.h5_model.specs.Format.Nodes.{node_at, node_bytes}
use Rattle.h5_btree.specs.Rewritten.{IsRewritten}
use Rattle.h5_btree.proofs.NodeLaws.{length-keys}
use Rattle.h5_btree.proofs.RaiseCalls.{key_long}
use Rattle.h5_btree.proofs.RetiredReads.{set_same}
use Rattle.h5_btree.proofs.WideningLaws.{rewritten_none}
use Rattle.h5_btree.proofs.retirement.retire_key.Goals as goal

pub key-requires : goal.key-requires
key-requires g c =
    let node : c.node_there-node.result ≡ node_at c.args.image.now.bytes c.args.kind c.args.at
    = c.node_there-node.ensures ∙ ap (λ (b : List ℕ). node_at b c.args.kind c.args.at) c.bytes.ensures in
    let same = ap (λ (n : Node). length n.keys) node in
    let count = length-keys c.args.kind (node_bytes c.args.image.now.bytes c.args.kind c.args.at) (node_at c.args.image.now.bytes c.args.kind c.args.at) refl in
    omega (arith, same, count, c.requires.place)

pub is_hit-requires : goal.is_hit-requires
is_hit-requires g c =
    let node : c.node_there-node.result ≡ node_at c.args.image.now.bytes c.args.kind c.args.at
    = c.node_there-node.ensures ∙ ap (λ (b : List ℕ). node_at b c.args.kind c.args.at) c.bytes.ensures in
    let there = c.requires.under.0 in
    key_long c.args.image.now.bytes c.args.kind c.args.at c.args.i c.key.result.now there.0 there.1
    (subst (λ (n : Node). slice_get n.keys c.args.i ≡ Some c.key.result.now) node c.key.ensures) ∙ c.requires.width

pub returns-then-is_hit : goal.returns-then-is_hit
returns-then-is_hit g c =
    let V = node_at c.args.image.now.bytes c.args.kind in
    let node : c.node_there-node.result ≡ V c.args.at
    = c.node_there-node.ensures ∙ ap (λ (b : List ℕ). node_at b c.args.kind c.args.at) c.bytes.ensures in
    let key : get_or (V c.args.at).keys c.args.i [] ≡ c.key.result.now
    = get_or_from_slice_get (V c.args.at).keys c.args.i c.key.result.now [] (subst (λ (n : Node). slice_get n.keys c.args.i ≡ Some c.key.result.now) node c.key.ensures) in
    (c.key_before-key.result, inr (ap (g.R.Hits.hit c.args.how.now) key ∙ sym c.is_hit.ensures ∙ c.if-is_hit.true, c.key_before-key.ensures.before), c.set_key.ensures)

pub returns-else-is_hit : goal.returns-else-is_hit
returns-else-is_hit g c =
    let V = node_at c.args.image.now.bytes c.args.kind in
    let node : c.node_there-node.result ≡ V c.args.at
    = c.node_there-node.ensures ∙ ap (λ (b : List ℕ). node_at b c.args.kind c.args.at) c.bytes.ensures in
    let key : get_or (V c.args.at).keys c.args.i [] ≡ c.key.result.now
    = get_or_from_slice_get (V c.args.at).keys c.args.i c.key.result.now [] (subst (λ (n : Node). slice_get n.keys c.args.i ≡ Some c.key.result.now) node c.key.ensures) in
    let count = length-keys c.args.kind (node_bytes c.args.image.now.bytes c.args.kind c.args.at) (V c.args.at) refl in (
      get_or (V c.args.at).keys c.args.i [],
      inl (ap (g.R.Hits.hit c.args.how.now) key ∙ sym c.is_hit.ensures ∙ c.if-is_hit.false, refl),
      subst (λ (ks : List (List ℕ)). IsRewritten c.args.image.now c.args.image.now c.args.kind c.args.at (record (V c.args.at) { keys = ks }))
          (sym (set_same (V c.args.at).keys c.args.i (omega (arith, count, c.requires.place))))
          (rewritten_none c.args.image.now c.args.kind c.args.at c.requires.under.0.1),
    )
