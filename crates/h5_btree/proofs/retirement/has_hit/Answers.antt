use Rattle.std.proofs.Common.{◌≡◌, ◌||◌, ◌^◌, ◌<◌, Bool, [], length, get_or, refl, sym, ap, ap₂, ◌∙◌, subst, arith, rules, Some}
use Rattle.std.specs.List.{list_any, slice_get}
use Rattle.std.proofs.lemmas.List.{take_all}
use Rattle.std.proofs.lemmas.List.Folds.{list_any_more}
use Rattle.std.proofs.lemmas.Option.{get_or_from_slice_get}
use Rattle.h5_model.specs.Format.Rows.{Node}
use Rattle.h5_model.specs.Format.Nodes.{node_at, node_bytes}
use Rattle.h5_btree.proofs.NodeLaws.{capacity_low, length-children}
use Rattle.h5_btree.proofs.RaiseCalls.{key_long}
use Rattle.h5_btree.proofs.retirement.has_hit.Goals as goal

pub overflow_add-i-end : goal.overflow_add-i-end
overflow_add-i-end g c =
    let same = ap (λ (n : Node). length n.children) c.node_there-node.ensures in
    let count = length-children c.args.kind (node_bytes c.args.image.now c.args.kind c.args.at) (node_at c.args.image.now c.args.kind c.args.at) refl in
    let cap = capacity_low c.args.kind in
    let short : length c.args.image.now < 2 ^ 64 = search rules in
    let roomy = c.requires.node.1.roomy in
    let inside = c.requires.node.0 in
    omega (arith, same, count, cap, short, roomy, inside, c.len-i-end.ensures.children)

pub is_hit-hit-requires : goal.is_hit-hit-requires
is_hit-hit-requires g c =
    let there = c.requires.node in
    key_long c.args.image.now c.args.kind c.args.at c.loop-i.i c.key.result.now there.0 there.1
    (subst (λ (n : Node). slice_get n.keys c.loop-i.i ≡ Some c.key.result.now) c.node_there-node.ensures c.key.ensures) ∙ c.requires.width

pub loop-i-preserved : goal.loop-i-preserved
loop-i-preserved g c =
    let hit = g.R.Hits.hit c.args.how.now in
    let keys = c.node_there-node.result.keys in
    let key : get_or keys c.loop-i.i [] ≡ c.key.result.now
    = get_or_from_slice_get keys c.loop-i.i c.key.result.now [] c.key.ensures in
    record {
      end = c.loop-i.invariant.end;
      hit = ap₂ (λ (a b : Bool). a || b) c.loop-i.invariant.hit (c.is_hit-hit.ensures ∙ ap hit (sym key))
          ∙ sym (list_any_more hit keys c.loop-i.i [] (omega (arith, c.loop-i.invariant.end, c.loop-i-test.true)));
    }

pub returns : goal.returns
returns g c =
    let hit = g.R.Hits.hit c.args.how.now in
    let keys = c.node_there-node.result.keys in
    c.loop-i.invariant.hit
    ∙ ap (list_any hit) (take_all c.loop-i.i keys (omega (arith, c.loop-i.invariant.end, c.loop-i-test.false)))
    ∙ ap (λ (n : Node). list_any hit n.keys) c.node_there-node.ensures
