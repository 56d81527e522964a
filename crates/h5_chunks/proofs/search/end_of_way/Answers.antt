use Rattle.std.proofs.Common.{◌≡◌, ℕ, ◌≤◌, List, [], ◌∷◌, true, false, length, sym, ap, ◌∙◌, subst, arith}
use Rattle.std.specs.Prelude.{◌==◌}
use Rattle.std.specs.FinMap.{values}
use Rattle.std.proofs.lemmas.Bool.Decides.{nat_tests}
use Rattle.std.proofs.lemmas.List.{nil_from_length}
use Rattle.h5_model.specs.Format.Nodes.{Kind, node_at}
use Rattle.h5_model.specs.Format.Reached.{Shape, shape_kind}
use Rattle.h5_model.specs.Format.Rows.{Node}
use Rattle.h5_btree.specs.Descent.{IsInRow}
use Rattle.h5_btree.specs.Walk.Forms.{OfChunks}
use Rattle.h5_btree.proofs.DescentLaws.{root_in_row}
use Rattle.h5_btree.proofs.WalkLaws.Descended.{root_there}
use Rattle.h5_chunks.specs.Told.{chunks_told}
use Rattle.h5_chunks.proofs.ChunkFound.{nodes_inside, none_stored, stored_there}
use Rattle.h5_chunks.proofs.HeldLaws.{tree_there}
use Rattle.h5_chunks.proofs.search.end_of_way.Goals as goal

no_child : (xs : List ℕ) → (length xs == 0) ≡ true → xs ≡ []
no_child xs none = let zero : length xs ≡ 0 = grind (arith, nat_tests) in nil_from_length xs zero

pub tree_node-top-requires-clause-there : goal.tree_node-top-requires-clause-there
tree_node-top-requires-clause-there c =
    root_there c.args.image.now.bytes (OfChunks c.args.shape.now) c.args.root (tree_there c.args.image.now.bytes c.args.shape.now c.args.root c.requires.chunks)

pub returns-then-is_empty-clause-none : goal.returns-then-is_empty-clause-none
returns-then-is_empty-clause-none c =
    none_stored c.args.image.now.bytes c.args.shape.now c.args.root c.requires.chunks c.args.offsets.now
    (subst (λ (n : Node). n.children ≡ []) c.tree_node-top.ensures (no_child c.tree_node-top.result.children (sym c.is_empty.ensures ∙ c.if-is_empty.true)))

pub end_below-requires-clause-row : goal.end_below-requires-clause-row
end_below-requires-clause-row c =
    let image : List ℕ = c.args.image.now.bytes in
    let shape : Shape = c.args.shape.now in
    let root : ℕ = c.args.root in
    let kind : Kind = shape_kind image shape in
    let stored = (c.requires.chunks).stored in
    let test : (length c.tree_node-top.result.children == 0) ≡ false = sym c.is_empty.ensures ∙ c.if-is_empty.false in
    let count : length c.tree_node-top.result.children ≡ length (node_at image kind root).children = ap (λ (n : Node). length n.children) c.tree_node-top.ensures in
    let some : 1 ≤ length (node_at image kind root).children = grind (arith, nat_tests) in
    let level : c.level.result ≡ (node_at image kind root).level = c.level.ensures ∙ ap (λ (n : Node). n.level) c.tree_node-top.ensures in
    let first = root_in_row image kind root stored.level stored.owned (values (chunks_told image shape root)) (stored_there image shape root c.requires.chunks)
    (nodes_inside image shape root c.requires.chunks) some in
    (stored.owned, root ∷ [], subst (λ (l : ℕ). IsInRow image kind stored.owned l (root ∷ []) root) (sym level) first)
