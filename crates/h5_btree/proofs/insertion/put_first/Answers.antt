use Rattle.std.proofs.Common.{ℕ, List, [], ◌∷◌, length, ap, ◌∙◌, subst, arith}
use Rattle.std.specs.Prelude.{slice_set}
use Rattle.std.specs.List.{insert}
use Rattle.std.proofs.lemmas.List.Edits.{length-insert}
use Rattle.h5_model.specs.Format.Rows.{Node}
use Rattle.h5_model.specs.Format.Nodes.{node_at}
use Rattle.h5_btree.specs.Rewritten.{IsRewritten}
use Rattle.h5_btree.proofs.RewriteSteps.{rewritten_as, rewritten_count, rewritten_then}
use Rattle.h5_btree.proofs.FirstChild.{first_inside, first_form, first_none, first_entries, first_keys, put_first_is, two_keys}
use Rattle.h5_btree.proofs.insertion.put_first.Goals as goal
use Rattle.h5_btree.proofs.insertion.put_first.Goals.{After-set_key}

pub insert_child-requires-clause-inside : goal.insert_child-requires-clause-inside
insert_child-requires-clause-inside c = let e = c.requires.empty in first_inside c.args.image.now c.args.kind c.args.root c.args.child e.0 e.1

pub insert_child-requires-clause-form : goal.insert_child-requires-clause-form
insert_child-requires-clause-form c = let e = c.requires.empty in first_form c.args.image.now c.args.kind c.args.root c.args.child e.0 e.1

pub insert_child-requires-clause-room : goal.insert_child-requires-clause-room
insert_child-requires-clause-room c =
    let e = c.requires.empty in
    let none = first_entries c.args.image.now c.args.kind c.args.root c.args.child e.0 e.1 in
    omega (arith, none, c.requires.some)

pub set_key-requires-clause-place : goal.set_key-requires-clause-place
set_key-requires-clause-place c =
    let e = c.requires.empty in
    let count = rewritten_count c.args.image.now c.insert_child.new.image c.args.kind c.args.root _ c.insert_child.ensures in
    let none = ap (λ (xs : List ℕ). length xs) (first_none c.args.image.now c.args.kind c.args.root c.args.child e.0 e.1) in
    let long = length-insert (node_at c.args.image.now.bytes c.args.kind c.args.root).children 0 c.args.child (omega arith) in
    omega (arith, count, long)

written : (c : After-set_key) → IsRewritten c.args.image.now c.set_key.new.image c.args.kind c.args.root
    (record (node_at c.args.image.now.bytes c.args.kind c.args.root) { keys = c.args.low.now ∷ c.args.high.now ∷ []; children = c.args.child ∷ [] })
written c =
    let e = c.requires.empty in
    let old : Node = node_at c.args.image.now.bytes c.args.kind c.args.root in
    let second = subst (λ (n : Node). IsRewritten c.insert_child.new.image c.set_key.new.image c.args.kind c.args.root (record n { keys = slice_set n.keys 1 c.args.high.now }))
    c.insert_child.ensures.says c.set_key.ensures in
    rewritten_as c.args.image.now c.set_key.new.image c.args.kind c.args.root _ _
    (rewritten_then c.args.image.now c.insert_child.new.image c.set_key.new.image c.args.kind c.args.root _ _ c.insert_child.ensures second)
    (ap (λ (ks : List (List ℕ)). record old { keys = ks; children = insert old.children 0 c.args.child })
    (two_keys c.args.low.now c.args.high.now old.keys (first_keys c.args.image.now c.args.kind c.args.root c.args.child e.0 e.1))
    ∙ ap (λ (cs : List ℕ). record old { keys = c.args.low.now ∷ c.args.high.now ∷ []; children = c.args.child ∷ cs })
    (first_none c.args.image.now c.args.kind c.args.root c.args.child e.0 e.1))

pub returns-clause-node : goal.returns-clause-node
returns-clause-node c = written (goal.at.returns-clause-node c).After-set_key

pub returns-clause-put : goal.returns-clause-put
returns-clause-put c = λ owned e.
    put_first_is c.args.image.now c.args.kind c.args.root c.args.child owned e c.set_key.new.image (c.args.low.now ∷ c.args.high.now ∷ [])
    (written (goal.at.returns-clause-put c).After-set_key)

pub set_key-requires-clause-inside : goal.set_key-requires-clause-inside
set_key-requires-clause-inside c =
    let e = c.requires.empty in
    let inside = first_inside c.args.image.now c.args.kind c.args.root c.args.child e.0 e.1 in
    omega (arith, inside, c.insert_child.ensures.moves.grown)
