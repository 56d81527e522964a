use Rattle.std.proofs.Common.{ℕ, ◌-◌, List, drop, refl, ap, ◌∙◌, arith, subst}
use Rattle.std.proofs.lemmas.List.{length-drop}
use Rattle.std.specs.List.{insert}
use Rattle.h5_model.specs.Format.Rows.{Node}
use Rattle.h5_model.specs.Format.Nodes.{node_at, node_bytes}
use Rattle.h5_btree.specs.Rewritten.{IsRewritten}
use Rattle.h5_btree.proofs.NodeLaws.{length-children, length-keys}
use Rattle.h5_btree.proofs.RewriteSteps.{rewritten_then, rewritten_as, rewritten_count}
use Rattle.h5_btree.proofs.HalfLists.{right_with, right_without}
use Rattle.h5_btree.proofs.halves.keep_right.Goals as goal

pub insert_child-requires-clause-place : goal.insert_child-requires-clause-place
insert_child-requires-clause-place c =
    let count = length-children c.args.kind (node_bytes c.args.image.now.bytes c.args.kind c.args.at) (node_at c.args.image.now.bytes c.args.kind c.args.at) refl in
    let left = rewritten_count c.args.image.now c.drop_children-2.new.image c.args.kind c.args.at _ c.drop_children-2.ensures in
    let long = length-drop c.args.n (node_at c.args.image.now.bytes c.args.kind c.args.at).children in
    omega (arith, count, left, long, c.requires.form.roomy)

pub insert_child-requires-clause-room : goal.insert_child-requires-clause-room
insert_child-requires-clause-room c =
    let count = length-children c.args.kind (node_bytes c.args.image.now.bytes c.args.kind c.args.at) (node_at c.args.image.now.bytes c.args.kind c.args.at) refl in
    let left = rewritten_count c.args.image.now c.drop_children-2.new.image c.args.kind c.args.at _ c.drop_children-2.ensures in
    let long = length-drop c.args.n (node_at c.args.image.now.bytes c.args.kind c.args.at).children in
    omega (arith, count, left, long, c.requires.form.roomy)

pub returns-then-j-n : goal.returns-then-j-n
returns-then-j-n c =
    let old : Node = node_at c.args.image.now.bytes c.args.kind c.args.at in
    let keys = right_with c.args.key.now old.keys c.args.j c.args.n c.requires.some c.if-j-n.true in
    let children = right_with c.args.child old.children c.args.j c.args.n c.requires.some c.if-j-n.true in
    rewritten_as c.args.image.now c.drop_children.new.image c.args.kind c.args.at _ _ c.drop_children.ensures
    (ap (λ (ks : List (List ℕ)). record old { keys = ks; children = drop (c.args.n - 1) old.children }) keys
    ∙ ap (λ (cs : List ℕ). record old { keys = drop c.args.n (insert old.keys c.args.j c.args.key.now); children = cs }) children)

pub returns : goal.returns
returns c =
    let old : Node = node_at c.args.image.now.bytes c.args.kind c.args.at in
    let second = subst (λ (n : Node). IsRewritten c.drop_children-2.new.image c.insert_child.new.image c.args.kind c.args.at
    (record n { keys = insert n.keys (c.args.j - c.args.n) c.args.key.now; children = insert n.children (c.args.j - c.args.n) c.args.child })) c.drop_children-2.ensures.says c.insert_child.ensures in
    let count = length-children c.args.kind (node_bytes c.args.image.now.bytes c.args.kind c.args.at) (node_at c.args.image.now.bytes c.args.kind c.args.at) refl in
    let long = length-keys c.args.kind (node_bytes c.args.image.now.bytes c.args.kind c.args.at) (node_at c.args.image.now.bytes c.args.kind c.args.at) refl in
    let keys = right_without c.args.key.now old.keys c.args.j c.args.n c.if-j-n.false (omega (arith, long, count, c.requires.place)) in
    let children = right_without c.args.child old.children c.args.j c.args.n c.if-j-n.false (omega (arith, count, c.requires.place)) in
    rewritten_as c.args.image.now c.insert_child.new.image c.args.kind c.args.at _ _
    (rewritten_then c.args.image.now c.drop_children-2.new.image c.insert_child.new.image c.args.kind c.args.at _ _ c.drop_children-2.ensures second)
    (ap (λ (ks : List (List ℕ)). record old { keys = ks; children = insert (drop c.args.n old.children) (c.args.j - c.args.n) c.args.child }) keys
    ∙ ap (λ (cs : List ℕ). record old { keys = drop c.args.n (insert old.keys c.args.j c.args.key.now); children = cs }) children)
