use Rattle.std.proofs.Common.{◌≡◌, ℕ, suc, ◌+◌, List, [], ◌∷◌, length, Some, add-one, refl, sym, ap, ◌∙◌, subst, arith}
use Rattle.std.specs.Prelude.{slice_get, slice_index_or}
use Rattle.std.proofs.lemmas.List.{length-take, length-set}
use Rattle.std.proofs.lemmas.Option.{get_or_from_slice_get}
use Rattle.h5_model.specs.Format.Rows.{Node}
use Rattle.h5_model.specs.Format.Nodes.{node_at, node_bytes}
use Rattle.h5_btree.proofs.NodeLaws.{length-children, length-keys}
use Rattle.h5_btree.proofs.RewriteSteps.{rewritten_as, rewritten_count}
use Rattle.h5_btree.proofs.RaiseCalls.{key_long, over_written}
use Rattle.h5_btree.proofs.raise.stand_over.Goals as goal

pub key-requires : goal.key-requires
key-requires c =
    let left : c.node_there-2.result ≡ node_at c.args.image.now.bytes c.args.kind c.args.left = c.node_there-2.ensures ∙ ap (λ (b : List ℕ). node_at b c.args.kind c.args.left) c.bytes-2.ensures in
    let count = length-keys c.args.kind (node_bytes c.args.image.now.bytes c.args.kind c.args.left) (node_at c.args.image.now.bytes c.args.kind c.args.left) refl in
    let same = ap (λ (n : Node). length n.keys) left in
    omega (arith, count, same)

pub key-requires-2 : goal.key-requires-2
key-requires-2 c =
    let right : c.node_there-node.result ≡ node_at c.args.image.now.bytes c.args.kind c.args.right = c.node_there-node.ensures ∙ ap (λ (b : List ℕ). node_at b c.args.kind c.args.right) c.bytes-3.ensures in
    let count = length-keys c.args.kind (node_bytes c.args.image.now.bytes c.args.kind c.args.right) (node_at c.args.image.now.bytes c.args.kind c.args.right) refl in
    let same = ap (λ (n : Node). length n.keys) right in
    omega (arith, count, same)

pub of-first-requires : goal.of-first-requires
of-first-requires c =
    let left : c.node_there-2.result ≡ node_at c.args.image.now.bytes c.args.kind c.args.left = c.node_there-2.ensures ∙ ap (λ (b : List ℕ). node_at b c.args.kind c.args.left) c.bytes-2.ensures in
    let long = key_long c.args.image.now.bytes c.args.kind c.args.left 0 c.key.result.now c.requires.left c.requires.left_form (subst (λ (n : Node). slice_get n.keys 0 ≡ Some c.key.result.now) left c.key.ensures) in
    omega (arith, long)

pub of-between-requires : goal.of-between-requires
of-between-requires c =
    let right : c.node_there-node.result ≡ node_at c.args.image.now.bytes c.args.kind c.args.right = c.node_there-node.ensures ∙ ap (λ (b : List ℕ). node_at b c.args.kind c.args.right) c.bytes-3.ensures in
    let long = key_long c.args.image.now.bytes c.args.kind c.args.right 0 c.key-2.result.now c.requires.right c.requires.right_form (subst (λ (n : Node). slice_get n.keys 0 ≡ Some c.key-2.result.now) right c.key-2.ensures) in
    omega (arith, long)

pub of-last-requires : goal.of-last-requires
of-last-requires c =
    let right : c.node_there-node.result ≡ node_at c.args.image.now.bytes c.args.kind c.args.right = c.node_there-node.ensures ∙ ap (λ (b : List ℕ). node_at b c.args.kind c.args.right) c.bytes-3.ensures in
    let long = key_long c.args.image.now.bytes c.args.kind c.args.right c.len.result c.key-3.result.now c.requires.right c.requires.right_form (subst (λ (n : Node). slice_get n.keys c.len.result ≡ Some c.key-3.result.now) right c.key-3.ensures) in
    omega (arith, long)

pub set_key-requires-clause-width : goal.set_key-requires-clause-width
set_key-requires-clause-width c =
    let left : c.node_there-2.result ≡ node_at c.args.image.now.bytes c.args.kind c.args.left = c.node_there-2.ensures ∙ ap (λ (b : List ℕ). node_at b c.args.kind c.args.left) c.bytes-2.ensures in
    let long = key_long c.args.image.now.bytes c.args.kind c.args.left 0 c.key.result.now c.requires.left c.requires.left_form (subst (λ (n : Node). slice_get n.keys 0 ≡ Some c.key.result.now) left c.key.ensures) in
    ap (λ (k : List ℕ). length k) (c.bytes-4.ensures ∙ c.of-first.ensures) ∙ long

pub set_key-requires-2-clause-width : goal.set_key-requires-2-clause-width
set_key-requires-2-clause-width c =
    let right : c.node_there-node.result ≡ node_at c.args.image.now.bytes c.args.kind c.args.right = c.node_there-node.ensures ∙ ap (λ (b : List ℕ). node_at b c.args.kind c.args.right) c.bytes-3.ensures in
    let long = key_long c.args.image.now.bytes c.args.kind c.args.right 0 c.key-2.result.now c.requires.right c.requires.right_form (subst (λ (n : Node). slice_get n.keys 0 ≡ Some c.key-2.result.now) right c.key-2.ensures) in
    ap (λ (k : List ℕ). length k) (c.bytes-5.ensures ∙ c.of-between.ensures) ∙ long

pub set_key-requires-3-clause-width : goal.set_key-requires-3-clause-width
set_key-requires-3-clause-width c =
    let right : c.node_there-node.result ≡ node_at c.args.image.now.bytes c.args.kind c.args.right = c.node_there-node.ensures ∙ ap (λ (b : List ℕ). node_at b c.args.kind c.args.right) c.bytes-3.ensures in
    let long = key_long c.args.image.now.bytes c.args.kind c.args.right c.len.result c.key-3.result.now c.requires.right c.requires.right_form (subst (λ (n : Node). slice_get n.keys c.len.result ≡ Some c.key-3.result.now) right c.key-3.ensures) in
    ap (λ (k : List ℕ). length k) (c.bytes-6.ensures ∙ c.of-last.ensures) ∙ long

pub set_child-requires-clause-place : goal.set_child-requires-clause-place
set_child-requires-clause-place c =
    let old : Node = node_at c.args.image.now.bytes c.args.kind c.args.root in
    let all = length-children c.args.kind (node_bytes c.args.image.now.bytes c.args.kind c.args.root) old refl in
    let two = length-take 2 old.children in
    let n0 = rewritten_count c.args.image.now c.keep_children.new.image c.args.kind c.args.root _ c.keep_children.ensures in
    omega (arith, all, two, n0, c.requires.some)

pub set_child-requires-2-clause-place : goal.set_child-requires-2-clause-place
set_child-requires-2-clause-place c =
    let old : Node = node_at c.args.image.now.bytes c.args.kind c.args.root in
    let all = length-children c.args.kind (node_bytes c.args.image.now.bytes c.args.kind c.args.root) old refl in
    let two = length-take 2 old.children in
    let n0 = rewritten_count c.args.image.now c.keep_children.new.image c.args.kind c.args.root _ c.keep_children.ensures in
    let n1 = rewritten_count c.keep_children.new.image c.set_child.new.image c.args.kind c.args.root _ c.set_child.ensures in
    let l1 = length-set (node_at c.keep_children.new.image.bytes c.args.kind c.args.root).children 0 c.args.left in
    let w1 = length-children c.args.kind (node_bytes c.keep_children.new.image.bytes c.args.kind c.args.root) (node_at c.keep_children.new.image.bytes c.args.kind c.args.root) refl in
    omega (arith, all, two, n0, n1, l1, w1, c.requires.some)

pub set_key-requires-2-clause-place : goal.set_key-requires-2-clause-place
set_key-requires-2-clause-place c =
    let old : Node = node_at c.args.image.now.bytes c.args.kind c.args.root in
    let all = length-children c.args.kind (node_bytes c.args.image.now.bytes c.args.kind c.args.root) old refl in
    let two = length-take 2 old.children in
    let n0 = rewritten_count c.args.image.now c.keep_children.new.image c.args.kind c.args.root _ c.keep_children.ensures in
    let n1 = rewritten_count c.keep_children.new.image c.set_child.new.image c.args.kind c.args.root _ c.set_child.ensures in
    let l1 = length-set (node_at c.keep_children.new.image.bytes c.args.kind c.args.root).children 0 c.args.left in
    let w1 = length-children c.args.kind (node_bytes c.keep_children.new.image.bytes c.args.kind c.args.root) (node_at c.keep_children.new.image.bytes c.args.kind c.args.root) refl in
    let n2 = rewritten_count c.set_child.new.image c.set_child-2.new.image c.args.kind c.args.root _ c.set_child-2.ensures in
    let l2 = length-set (node_at c.set_child.new.image.bytes c.args.kind c.args.root).children 1 c.args.right in
    let w2 = length-children c.args.kind (node_bytes c.set_child.new.image.bytes c.args.kind c.args.root) (node_at c.set_child.new.image.bytes c.args.kind c.args.root) refl in
    let n3 = rewritten_count c.set_child-2.new.image c.set_key.new.image c.args.kind c.args.root _ c.set_key.ensures in
    let w3 = length-children c.args.kind (node_bytes c.set_child-2.new.image.bytes c.args.kind c.args.root) (node_at c.set_child-2.new.image.bytes c.args.kind c.args.root) refl in
    omega (arith, all, two, n0, n1, l1, w1, n2, l2, w2, n3, w3, c.requires.some)

pub set_key-requires-3-clause-place : goal.set_key-requires-3-clause-place
set_key-requires-3-clause-place c =
    let old : Node = node_at c.args.image.now.bytes c.args.kind c.args.root in
    let all = length-children c.args.kind (node_bytes c.args.image.now.bytes c.args.kind c.args.root) old refl in
    let two = length-take 2 old.children in
    let n0 = rewritten_count c.args.image.now c.keep_children.new.image c.args.kind c.args.root _ c.keep_children.ensures in
    let n1 = rewritten_count c.keep_children.new.image c.set_child.new.image c.args.kind c.args.root _ c.set_child.ensures in
    let l1 = length-set (node_at c.keep_children.new.image.bytes c.args.kind c.args.root).children 0 c.args.left in
    let w1 = length-children c.args.kind (node_bytes c.keep_children.new.image.bytes c.args.kind c.args.root) (node_at c.keep_children.new.image.bytes c.args.kind c.args.root) refl in
    let n2 = rewritten_count c.set_child.new.image c.set_child-2.new.image c.args.kind c.args.root _ c.set_child-2.ensures in
    let l2 = length-set (node_at c.set_child.new.image.bytes c.args.kind c.args.root).children 1 c.args.right in
    let w2 = length-children c.args.kind (node_bytes c.set_child.new.image.bytes c.args.kind c.args.root) (node_at c.set_child.new.image.bytes c.args.kind c.args.root) refl in
    let n3 = rewritten_count c.set_child-2.new.image c.set_key.new.image c.args.kind c.args.root _ c.set_key.ensures in
    let w3 = length-children c.args.kind (node_bytes c.set_child-2.new.image.bytes c.args.kind c.args.root) (node_at c.set_child-2.new.image.bytes c.args.kind c.args.root) refl in
    let n4 = rewritten_count c.set_key.new.image c.set_key-2.new.image c.args.kind c.args.root _ c.set_key-2.ensures in
    let w4 = length-children c.args.kind (node_bytes c.set_key.new.image.bytes c.args.kind c.args.root) (node_at c.set_key.new.image.bytes c.args.kind c.args.root) refl in
    omega (arith, all, two, n0, n1, l1, w1, n2, l2, w2, n3, w3, n4, w4, c.requires.some)

pub returns : goal.returns
returns c =
    let left : c.node_there-2.result ≡ node_at c.args.image.now.bytes c.args.kind c.args.left = c.node_there-2.ensures ∙ ap (λ (b : List ℕ). node_at b c.args.kind c.args.left) c.bytes-2.ensures in
    let right : c.node_there-node.result ≡ node_at c.args.image.now.bytes c.args.kind c.args.right = c.node_there-node.ensures ∙ ap (λ (b : List ℕ). node_at b c.args.kind c.args.right) c.bytes-3.ensures in
    let over : c.node_there.result ≡ node_at c.args.image.now.bytes c.args.kind c.args.root = c.node_there.ensures ∙ ap (λ (b : List ℕ). node_at b c.args.kind c.args.root) c.bytes.ensures in
    let old : Node = node_at c.args.image.now.bytes c.args.kind c.args.root in
    let all = length-children c.args.kind (node_bytes c.args.image.now.bytes c.args.kind c.args.root) old refl in
    let count = length-keys c.args.kind (node_bytes c.args.image.now.bytes c.args.kind c.args.root) old refl in
    let level = c.level-level.ensures ∙ ap (λ (n : Node). n.level) over in
    let x = sym (get_or_from_slice_get _ 0 c.key.result.now [] (subst (λ (n : Node). slice_get n.keys 0 ≡ Some c.key.result.now) left c.key.ensures)) in
    let y = sym (get_or_from_slice_get _ 0 c.key-2.result.now [] (subst (λ (n : Node). slice_get n.keys 0 ≡ Some c.key-2.result.now) right c.key-2.ensures)) in
    let z = sym (get_or_from_slice_get _ c.len.result c.key-3.result.now [] (subst (λ (n : Node). slice_get n.keys c.len.result ≡ Some c.key-3.result.now) right c.key-3.ensures)) in
    let last = c.len.ensures.children ∙ ap (λ (n : Node). length n.children) right in
    let first = over_written c.args.image.now c.keep_children.new.image c.set_child.new.image c.set_child-2.new.image c.set_key.new.image c.set_key-2.new.image c.set_key-3.new.image c.set_level.new.image
    c.args.kind c.args.root c.args.left c.args.right _ c.bytes-4.result.now c.bytes-5.result.now c.bytes-6.result.now old
    c.keep_children.ensures c.set_child.ensures c.set_child-2.ensures c.set_key.ensures c.set_key-2.ensures c.set_key-3.ensures c.set_level.ensures
    (omega (arith, all, count, c.requires.some)) (omega (arith, all, c.requires.some)) in
    rewritten_as c.args.image.now c.set_level.new.image c.args.kind c.args.root _ _ first
    (ap (λ (l : ℕ). record old { level = l; keys = c.bytes-4.result.now ∷ c.bytes-5.result.now ∷ c.bytes-6.result.now ∷ []; children = c.args.left ∷ c.args.right ∷ [] }) (ap (λ (l : ℕ). l + 1) level ∙ add-one _)
    ∙ ap (λ (k : List ℕ). record old { level = suc old.level; keys = k ∷ c.bytes-5.result.now ∷ c.bytes-6.result.now ∷ []; children = c.args.left ∷ c.args.right ∷ [] }) (c.bytes-4.ensures ∙ c.of-first.ensures ∙ x)
    ∙ ap (λ (k : List ℕ). record old { level = suc old.level; keys = slice_index_or (node_at c.args.image.now.bytes c.args.kind c.args.left).keys 0 [] ∷ k ∷ c.bytes-6.result.now ∷ []; children = c.args.left ∷ c.args.right ∷ [] }) (c.bytes-5.ensures ∙ c.of-between.ensures ∙ y)
    ∙ ap (λ (k : List ℕ). record old { level = suc old.level; keys = slice_index_or (node_at c.args.image.now.bytes c.args.kind c.args.left).keys 0 [] ∷ slice_index_or (node_at c.args.image.now.bytes c.args.kind c.args.right).keys 0 [] ∷ k ∷ []; children = c.args.left ∷ c.args.right ∷ [] })
    (c.bytes-6.ensures ∙ c.of-last.ensures ∙ z ∙ ap (λ (i : ℕ). slice_index_or (node_at c.args.image.now.bytes c.args.kind c.args.right).keys i []) last))
