use Rattle.std.proofs.Common.{ℕ, ◌+◌, ◌-◌, List, take, refl, sym, ap, ◌∙◌, arith, subst}
use Rattle.std.proofs.lemmas.List.{length-take}
use Rattle.std.specs.Prelude.{slice_set}
use Rattle.std.specs.List.{insert}
use Rattle.h5_model.specs.Format.Rows.{Node}
use Rattle.h5_model.specs.Format.Nodes.{node_at, node_bytes}
use Rattle.h5_btree.specs.Rewritten.{IsRewritten}
use Rattle.h5_btree.proofs.NodeLaws.{length-children, length-keys}
use Rattle.h5_btree.proofs.RewriteSteps.{rewritten_then, rewritten_as, rewritten_count}
use Rattle.h5_btree.proofs.HalfLists.{left_keys_with, left_children_with, left_keys_without, left_keys_end, take_without}
use Rattle.h5_btree.proofs.halves.keep_left.Goals as goal

pub insert_child-requires-clause-place : goal.insert_child-requires-clause-place
insert_child-requires-clause-place c =
    let count = length-children c.args.kind (node_bytes c.args.image.now.bytes c.args.kind c.args.at) (node_at c.args.image.now.bytes c.args.kind c.args.at) refl in
    let left = rewritten_count c.args.image.now c.keep_children.new.image c.args.kind c.args.at _ c.keep_children.ensures in
    let long = length-take (c.args.n - 1) (node_at c.args.image.now.bytes c.args.kind c.args.at).children in
    omega (arith, count, left, long, c.requires.form.roomy)

pub insert_child-requires-clause-room : goal.insert_child-requires-clause-room
insert_child-requires-clause-room c =
    let count = length-children c.args.kind (node_bytes c.args.image.now.bytes c.args.kind c.args.at) (node_at c.args.image.now.bytes c.args.kind c.args.at) refl in
    let left = rewritten_count c.args.image.now c.keep_children.new.image c.args.kind c.args.at _ c.keep_children.ensures in
    let long = length-take (c.args.n - 1) (node_at c.args.image.now.bytes c.args.kind c.args.at).children in
    omega (arith, count, left, long, c.requires.form.roomy)

pub set_key-requires-clause-place : goal.set_key-requires-clause-place
set_key-requires-clause-place c =
    let count = length-children c.args.kind (node_bytes c.args.image.now.bytes c.args.kind c.args.at) (node_at c.args.image.now.bytes c.args.kind c.args.at) refl in
    let left = rewritten_count c.args.image.now c.keep_children-2.new.image c.args.kind c.args.at _ c.keep_children-2.ensures in
    let long = length-take c.args.n (node_at c.args.image.now.bytes c.args.kind c.args.at).children in
    omega (arith, count, left, long)

pub returns-then-j-n : goal.returns-then-j-n
returns-then-j-n c =
    let old : Node = node_at c.args.image.now.bytes c.args.kind c.args.at in
    let second = subst (λ (n : Node). IsRewritten c.keep_children.new.image c.insert_child.new.image c.args.kind c.args.at
    (record n { keys = insert n.keys c.args.j c.args.key.now; children = insert n.children c.args.j c.args.child })) c.keep_children.ensures.says c.insert_child.ensures in
    let keys = left_keys_with c.args.key.now old.keys c.args.j c.args.n c.requires.some c.if-j-n.true in
    let children = left_children_with c.args.child old.children c.args.j c.args.n c.requires.some c.if-j-n.true in
    rewritten_as c.args.image.now c.insert_child.new.image c.args.kind c.args.at _ _
    (rewritten_then c.args.image.now c.keep_children.new.image c.insert_child.new.image c.args.kind c.args.at _ _ c.keep_children.ensures second)
    (ap (λ (ks : List (List ℕ)). record old { keys = ks; children = insert (take (c.args.n - 1) old.children) c.args.j c.args.child }) keys
    ∙ ap (λ (cs : List ℕ). record old { keys = take (c.args.n + 1) (insert old.keys c.args.j c.args.key.now); children = cs }) children)

pub returns-then-j-n-2 : goal.returns-then-j-n-2
returns-then-j-n-2 c =
    let old : Node = node_at c.args.image.now.bytes c.args.kind c.args.at in
    let second = subst (λ (n : Node). IsRewritten c.keep_children-2.new.image c.set_key.new.image c.args.kind c.args.at
    (record n { keys = slice_set n.keys c.args.n c.args.key.now })) c.keep_children-2.ensures.says c.set_key.ensures in
    let count = length-children c.args.kind (node_bytes c.args.image.now.bytes c.args.kind c.args.at) (node_at c.args.image.now.bytes c.args.kind c.args.at) refl in
    let long = length-keys c.args.kind (node_bytes c.args.image.now.bytes c.args.kind c.args.at) (node_at c.args.image.now.bytes c.args.kind c.args.at) refl in
    let keys = left_keys_end c.args.key.now old.keys c.args.j c.args.n c.if-j-n-2.true (omega (arith, count, long, c.requires.most)) in
    let children = sym (take_without c.args.child old.children c.args.j c.args.n c.if-j-n.false (omega (arith, count, c.requires.place))) in
    rewritten_as c.args.image.now c.set_key.new.image c.args.kind c.args.at _ _
    (rewritten_then c.args.image.now c.keep_children-2.new.image c.set_key.new.image c.args.kind c.args.at _ _ c.keep_children-2.ensures second)
    (ap (λ (ks : List (List ℕ)). record old { keys = ks; children = take c.args.n old.children }) keys
    ∙ ap (λ (cs : List ℕ). record old { keys = take (c.args.n + 1) (insert old.keys c.args.j c.args.key.now); children = cs }) children)

pub returns-else-j-n-2 : goal.returns-else-j-n-2
returns-else-j-n-2 c =
    let old : Node = node_at c.args.image.now.bytes c.args.kind c.args.at in
    let count = length-children c.args.kind (node_bytes c.args.image.now.bytes c.args.kind c.args.at) (node_at c.args.image.now.bytes c.args.kind c.args.at) refl in
    let long = length-keys c.args.kind (node_bytes c.args.image.now.bytes c.args.kind c.args.at) (node_at c.args.image.now.bytes c.args.kind c.args.at) refl in
    let keys = left_keys_without c.args.key.now old.keys c.args.j c.args.n (omega (arith, c.if-j-n.false, c.if-j-n-2.false)) (omega (arith, long, count, c.requires.place)) in
    let children = sym (take_without c.args.child old.children c.args.j c.args.n c.if-j-n.false (omega (arith, count, c.requires.place))) in
    rewritten_as c.args.image.now c.keep_children-2.new.image c.args.kind c.args.at _ _ c.keep_children-2.ensures
    (ap (λ (ks : List (List ℕ)). record old { keys = ks; children = take c.args.n old.children }) keys
    ∙ ap (λ (cs : List ℕ). record old { keys = take (c.args.n + 1) (insert old.keys c.args.j c.args.key.now); children = cs }) children)
