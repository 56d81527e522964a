use Rattle.std.proofs.Common.{◌≡◌, ◌+◌, ◌<◌, ◌≤◌, ◌++◌, [], ◌∷◌, length, map, take, drop, sym, ap, ◌∙◌, subst, arith}
use Rattle.std.proofs.lemmas.List.{take_all}
use Rattle.std.proofs.lemmas.Result.{err_from_is_err_and}
use Rattle.std.proofs.Math.ListN.{length-map}
use Rattle.h5_model.specs.Format.Links.{offset_in}
use Rattle.h5_model.specs.Format.Rows.{Node}
use Rattle.h5_group.specs.Nodes.Stands.{keys_at}
use Rattle.h5_group.specs.Texts.Taken.{NamesKeys}
use Rattle.h5_group.proofs.TextProofs.KeyLaws.{keys_step, keys_around, names_one, names_both, refused_one, refused_within}
use Rattle.h5_group.proofs.texts.keys.take_node.Goals as goal

pub returns-in_err-key-clause-refused : goal.returns-in_err-key-clause-refused
returns-in_err-key-clause-refused c =
    let image = c.args.image.now.bytes in
    let keys = c.tree_node-node.result.keys in
    let i = c.loop-i.i in
    let offset = c.key_offset.result in
    let low : i < length keys = omega (arith, c.len-i-end.ensures.keys) in
    let is : keys_at image c.args.at ≡ take i (map offset_in keys) ++ (offset ∷ [] ++ drop (i + 1) (map offset_in keys))
    = ap (λ (n : Node). map offset_in n.keys) (sym c.tree_node-node.ensures) ∙ keys_around keys i offset low c.key_offset.ensures in
    let p = err_from_is_err_and c.from_residual.result c.from_residual.ensures.1 in
    rw (p.1, p.2) (refused_within image c.args.heap.now c.loop-i.heap (keys_at image c.args.at) (take i (map offset_in keys)) (offset ∷ []) (drop (i + 1) (map offset_in keys)) _
    is c.loop-i.invariant (refused_one image c.loop-i.heap offset _ c.in_err-key.ensures.refused))

pub loop-i-preserved : goal.loop-i-preserved
loop-i-preserved c =
    let image = c.args.image.now.bytes in
    let keys = c.tree_node-node.result.keys in
    let i = c.loop-i.i in
    let offset = c.key_offset.result in
    let low : i < length keys = omega (arith, c.len-i-end.ensures.keys) in
    subst (NamesKeys image c.args.heap.now c.key.new.self) (sym (keys_step keys i offset low c.key_offset.ensures))
    (names_both image c.args.heap.now c.loop-i.heap (take i (map offset_in keys)) c.loop-i.invariant c.key.new.self (offset ∷ [])
    (names_one image c.loop-i.heap c.key.new.self offset c.in_ok-key.ensures.names c.in_ok-key.ensures.named))

pub returns-in_ok-key-clause-names : goal.returns-in_ok-key-clause-names
returns-in_ok-key-clause-names c =
    let image = c.args.image.now.bytes in
    let keys = c.tree_node-node.result.keys in
    let i = c.loop-i.i in
    let offset = c.key_offset.result in
    let low : i < length keys = omega (arith, c.len-i-end.ensures.keys) in
    let last : length (map offset_in keys) ≤ i + 1 = omega (arith, c.len-i-end.ensures.keys, length-map keys offset_in) in
    let whole : take i (map offset_in keys) ++ offset ∷ [] ≡ keys_at image c.args.at
    = sym (keys_step keys i offset low c.key_offset.ensures) ∙ take_all (i + 1) (map offset_in keys) last ∙ ap (λ (n : Node). map offset_in n.keys) c.tree_node-node.ensures in
    subst (NamesKeys image c.args.heap.now c.key.new.self) whole
    (names_both image c.args.heap.now c.loop-i.heap (take i (map offset_in keys)) c.loop-i.invariant c.key.new.self (offset ∷ [])
    (names_one image c.loop-i.heap c.key.new.self offset c.in_ok-key.ensures.names c.in_ok-key.ensures.named))
