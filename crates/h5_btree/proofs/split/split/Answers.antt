use Rattle.std.proofs.Common.{◌≡◌, ℕ, ◌+◌, ◌≤◌, List, ◌∷◌, length, take, drop, refl, sym, ap, ◌∙◌, subst, arith}
use Rattle.std.specs.List.{insert}
use Rattle.std.proofs.lemmas.List.{take-append-drop}
use Rattle.h5_bytes.specs.Bytes.{undefined_address}
use Rattle.h5_model.specs.Format.Rows.{Node}
use Rattle.h5_model.specs.Format.Nodes.{entries_in, node_at, node_bytes, node_length, node_of}
use Rattle.h5_model.proofs.RowLaws.{at_listed}
use Rattle.h5_space.specs.Space.{Space}
use Rattle.h5_space.specs.Moves.{Spends}
use Rattle.h5_space.proofs.MovesLaws.{spends_take, spends_none}
use Rattle.h5_btree.specs.Rewritten.{IsRewritten}
use Rattle.h5_btree.proofs.NodeLaws.{length-children}
use Rattle.h5_btree.proofs.ClimbSteps.{at_or}
use Rattle.h5_btree.proofs.ClimbStands.{own_p, inside_p, form_p, entry_p, bytes₁, inside₁, form₁, bytes₂, inside₂, form₂, inside_r, form_r}
use Rattle.h5_btree.proofs.HalfLists.{left_bounds, halves_long}
use Rattle.h5_btree.proofs.RewriteSteps.{rewritten_count, spends_still}
use Rattle.h5_btree.proofs.SplitCalls.{moves_taken, right_written, left_written}
use Rattle.h5_btree.proofs.SplitWrites.{climbs_on, others_keep, left_says, right_says}
use Rattle.h5_btree.proofs.split.split.Goals as goal
use Rattle.h5_btree.proofs.split.split.Goals.{After-name_left}

pub node_there-requires-clause-inside : goal.node_there-requires-clause-inside
node_there-requires-clause-inside c =
    let h = c.requires.climbs in
    rw c.bytes.ensures (inside_p h.start c.args.image.now c.args.kind h.root h.level c.args.at (h.next ∷ h.above) c.args.j c.args.child h.list h.owned h.own h.climbs)

pub node_there-requires-clause-form : goal.node_there-requires-clause-form
node_there-requires-clause-form c =
    let h = c.requires.climbs in
    rw c.bytes.ensures (form_p h.start c.args.image.now c.args.kind h.root h.level c.args.at (h.next ∷ h.above) c.args.j c.args.child h.list h.owned h.own h.climbs)

pub copy_node-requires-clause-from : goal.copy_node-requires-clause-from
copy_node-requires-clause-from c =
    let h = c.requires.climbs in
    let taken = moves_taken c.args.image.now c.take-new.new.self c.args.kind c.take-new.result c.node_length.result _ c.node_length.ensures.length c.take-new.ensures.bytes c.take-new.ensures.taken in
    inside₁ h.start c.args.image.now c.args.kind h.root h.level c.args.at (h.next ∷ h.above) c.args.j c.args.child h.list h.owned h.own h.climbs c.take-new.new.self c.take-new.result taken

pub copy_node-requires-clause-form : goal.copy_node-requires-clause-form
copy_node-requires-clause-form c =
    let h = c.requires.climbs in
    let taken = moves_taken c.args.image.now c.take-new.new.self c.args.kind c.take-new.result c.node_length.result _ c.node_length.ensures.length c.take-new.ensures.bytes c.take-new.ensures.taken in
    form₁ h.start c.args.image.now c.args.kind h.root h.level c.args.at (h.next ∷ h.above) c.args.j c.args.child h.list h.owned h.own h.climbs c.take-new.new.self c.take-new.result taken

pub keep_right-requires-clause-most : goal.keep_right-requires-clause-most
keep_right-requires-clause-most c =
    let h = c.requires.climbs in
    let taken = moves_taken c.args.image.now c.take-new.new.self c.args.kind c.take-new.result c.node_length.result _ c.node_length.ensures.length c.take-new.ensures.bytes c.take-new.ensures.taken in
    let same = bytes₁ h.start c.args.image.now c.args.kind h.root h.level c.args.at (h.next ∷ h.above) c.args.j c.args.child h.list h.owned h.own h.climbs c.take-new.new.self c.take-new.result taken in
    let copied = subst (λ (b : List ℕ). IsRewritten c.take-new.new.self c.copy_node.new.image c.args.kind c.take-new.result (node_of c.args.kind b)) same c.copy_node.ensures in
    let old : Node = node_at c.args.image.now.bytes c.args.kind c.args.at in
    let count = length-children c.args.kind (node_bytes c.args.image.now.bytes c.args.kind c.args.at) old refl in
    let bound = left_bounds c.args.kind.k c.args.j in
    let place = entry_p h.start c.args.image.now c.args.kind h.root h.level c.args.at (h.next ∷ h.above) c.args.j c.args.child h.list h.owned h.own h.climbs in
    let first = at_listed (λ at. 1 ≤ entries_in (node_bytes c.args.image.now.bytes c.args.kind at)) h.own c.args.at (h.climbs.filled (omega arith)) (own_p h.start c.args.image.now c.args.kind h.root h.level c.args.at (h.next ∷ h.above) c.args.j c.args.child h.list h.owned h.own h.climbs) in
    let now = rewritten_count c.take-new.new.self c.copy_node.new.image c.args.kind c.take-new.result _ copied in
    omega (arith, now, count, bound, first, c.requires.full, c.left_count-left.ensures)

pub keep_right-requires-clause-place : goal.keep_right-requires-clause-place
keep_right-requires-clause-place c =
    let h = c.requires.climbs in
    let taken = moves_taken c.args.image.now c.take-new.new.self c.args.kind c.take-new.result c.node_length.result _ c.node_length.ensures.length c.take-new.ensures.bytes c.take-new.ensures.taken in
    let same = bytes₁ h.start c.args.image.now c.args.kind h.root h.level c.args.at (h.next ∷ h.above) c.args.j c.args.child h.list h.owned h.own h.climbs c.take-new.new.self c.take-new.result taken in
    let copied = subst (λ (b : List ℕ). IsRewritten c.take-new.new.self c.copy_node.new.image c.args.kind c.take-new.result (node_of c.args.kind b)) same c.copy_node.ensures in
    let old : Node = node_at c.args.image.now.bytes c.args.kind c.args.at in
    let count = length-children c.args.kind (node_bytes c.args.image.now.bytes c.args.kind c.args.at) old refl in
    let bound = left_bounds c.args.kind.k c.args.j in
    let place = entry_p h.start c.args.image.now c.args.kind h.root h.level c.args.at (h.next ∷ h.above) c.args.j c.args.child h.list h.owned h.own h.climbs in
    let first = at_listed (λ at. 1 ≤ entries_in (node_bytes c.args.image.now.bytes c.args.kind at)) h.own c.args.at (h.climbs.filled (omega arith)) (own_p h.start c.args.image.now c.args.kind h.root h.level c.args.at (h.next ∷ h.above) c.args.j c.args.child h.list h.owned h.own h.climbs) in
    let now = rewritten_count c.take-new.new.self c.copy_node.new.image c.args.kind c.take-new.result _ copied in
    omega (arith, now, count, place)

pub keep_left-requires-clause-inside : goal.keep_left-requires-clause-inside
keep_left-requires-clause-inside c =
    let h = c.requires.climbs in
    let taken = moves_taken c.args.image.now c.take-new.new.self c.args.kind c.take-new.result c.node_length.result _ c.node_length.ensures.length c.take-new.ensures.bytes c.take-new.ensures.taken in
    let same = bytes₁ h.start c.args.image.now c.args.kind h.root h.level c.args.at (h.next ∷ h.above) c.args.j c.args.child h.list h.owned h.own h.climbs c.take-new.new.self c.take-new.result taken in
    let copied = subst (λ (b : List ℕ). IsRewritten c.take-new.new.self c.copy_node.new.image c.args.kind c.take-new.result (node_of c.args.kind b)) same c.copy_node.ensures in
    let write_q = right_written c.take-new.new.self c.copy_node.new.image c.keep_right.new.image c.set_left.new.image c.args.kind c.take-new.result c.args.at c.args.j c.args.child
    c.left_count-left.result c.args.key.now (node_at c.args.image.now.bytes c.args.kind c.args.at) copied c.keep_right.ensures c.set_left.ensures in
    inside₂ h.start c.args.image.now c.args.kind h.root h.level c.args.at (h.next ∷ h.above) c.args.j c.args.child h.list h.owned h.own h.climbs c.take-new.new.self c.take-new.result taken c.set_left.new.image _ write_q

pub keep_left-requires-clause-form : goal.keep_left-requires-clause-form
keep_left-requires-clause-form c =
    let h = c.requires.climbs in
    let taken = moves_taken c.args.image.now c.take-new.new.self c.args.kind c.take-new.result c.node_length.result _ c.node_length.ensures.length c.take-new.ensures.bytes c.take-new.ensures.taken in
    let same = bytes₁ h.start c.args.image.now c.args.kind h.root h.level c.args.at (h.next ∷ h.above) c.args.j c.args.child h.list h.owned h.own h.climbs c.take-new.new.self c.take-new.result taken in
    let copied = subst (λ (b : List ℕ). IsRewritten c.take-new.new.self c.copy_node.new.image c.args.kind c.take-new.result (node_of c.args.kind b)) same c.copy_node.ensures in
    let write_q = right_written c.take-new.new.self c.copy_node.new.image c.keep_right.new.image c.set_left.new.image c.args.kind c.take-new.result c.args.at c.args.j c.args.child
    c.left_count-left.result c.args.key.now (node_at c.args.image.now.bytes c.args.kind c.args.at) copied c.keep_right.ensures c.set_left.ensures in
    form₂ h.start c.args.image.now c.args.kind h.root h.level c.args.at (h.next ∷ h.above) c.args.j c.args.child h.list h.owned h.own h.climbs c.take-new.new.self c.take-new.result taken c.set_left.new.image _ write_q

pub keep_left-requires-clause-most : goal.keep_left-requires-clause-most
keep_left-requires-clause-most c =
    let h = c.requires.climbs in
    let taken = moves_taken c.args.image.now c.take-new.new.self c.args.kind c.take-new.result c.node_length.result _ c.node_length.ensures.length c.take-new.ensures.bytes c.take-new.ensures.taken in
    let same = bytes₁ h.start c.args.image.now c.args.kind h.root h.level c.args.at (h.next ∷ h.above) c.args.j c.args.child h.list h.owned h.own h.climbs c.take-new.new.self c.take-new.result taken in
    let copied = subst (λ (b : List ℕ). IsRewritten c.take-new.new.self c.copy_node.new.image c.args.kind c.take-new.result (node_of c.args.kind b)) same c.copy_node.ensures in
    let write_q = right_written c.take-new.new.self c.copy_node.new.image c.keep_right.new.image c.set_left.new.image c.args.kind c.take-new.result c.args.at c.args.j c.args.child
    c.left_count-left.result c.args.key.now (node_at c.args.image.now.bytes c.args.kind c.args.at) copied c.keep_right.ensures c.set_left.ensures in
    let old : Node = node_at c.args.image.now.bytes c.args.kind c.args.at in
    let count = length-children c.args.kind (node_bytes c.args.image.now.bytes c.args.kind c.args.at) old refl in
    let bound = left_bounds c.args.kind.k c.args.j in
    let place = entry_p h.start c.args.image.now c.args.kind h.root h.level c.args.at (h.next ∷ h.above) c.args.j c.args.child h.list h.owned h.own h.climbs in
    let first = at_listed (λ at. 1 ≤ entries_in (node_bytes c.args.image.now.bytes c.args.kind at)) h.own c.args.at (h.climbs.filled (omega arith)) (own_p h.start c.args.image.now c.args.kind h.root h.level c.args.at (h.next ∷ h.above) c.args.j c.args.child h.list h.owned h.own h.climbs) in
    let bytes = ap (λ (b : List ℕ). entries_in b) (bytes₂ h.start c.args.image.now c.args.kind h.root h.level c.args.at (h.next ∷ h.above) c.args.j c.args.child h.list h.owned h.own h.climbs c.take-new.new.self c.take-new.result taken c.set_left.new.image _ write_q) in
    omega (arith, bytes, bound, first, c.requires.full, c.left_count-left.ensures)

pub keep_left-requires-clause-place : goal.keep_left-requires-clause-place
keep_left-requires-clause-place c =
    let h = c.requires.climbs in
    let taken = moves_taken c.args.image.now c.take-new.new.self c.args.kind c.take-new.result c.node_length.result _ c.node_length.ensures.length c.take-new.ensures.bytes c.take-new.ensures.taken in
    let same = bytes₁ h.start c.args.image.now c.args.kind h.root h.level c.args.at (h.next ∷ h.above) c.args.j c.args.child h.list h.owned h.own h.climbs c.take-new.new.self c.take-new.result taken in
    let copied = subst (λ (b : List ℕ). IsRewritten c.take-new.new.self c.copy_node.new.image c.args.kind c.take-new.result (node_of c.args.kind b)) same c.copy_node.ensures in
    let write_q = right_written c.take-new.new.self c.copy_node.new.image c.keep_right.new.image c.set_left.new.image c.args.kind c.take-new.result c.args.at c.args.j c.args.child
    c.left_count-left.result c.args.key.now (node_at c.args.image.now.bytes c.args.kind c.args.at) copied c.keep_right.ensures c.set_left.ensures in
    let old : Node = node_at c.args.image.now.bytes c.args.kind c.args.at in
    let count = length-children c.args.kind (node_bytes c.args.image.now.bytes c.args.kind c.args.at) old refl in
    let bound = left_bounds c.args.kind.k c.args.j in
    let place = entry_p h.start c.args.image.now c.args.kind h.root h.level c.args.at (h.next ∷ h.above) c.args.j c.args.child h.list h.owned h.own h.climbs in
    let first = at_listed (λ at. 1 ≤ entries_in (node_bytes c.args.image.now.bytes c.args.kind at)) h.own c.args.at (h.climbs.filled (omega arith)) (own_p h.start c.args.image.now c.args.kind h.root h.level c.args.at (h.next ∷ h.above) c.args.j c.args.child h.list h.owned h.own h.climbs) in
    let bytes = ap (λ (b : List ℕ). entries_in b) (bytes₂ h.start c.args.image.now c.args.kind h.root h.level c.args.at (h.next ∷ h.above) c.args.j c.args.child h.list h.owned h.own h.climbs c.take-new.new.self c.take-new.result taken c.set_left.new.image _ write_q) in
    omega (arith, bytes, place)

pub set_right-requires-clause-inside : goal.set_right-requires-clause-inside
set_right-requires-clause-inside c =
    let h = c.requires.climbs in
    let taken = moves_taken c.args.image.now c.take-new.new.self c.args.kind c.take-new.result c.node_length.result _ c.node_length.ensures.length c.take-new.ensures.bytes c.take-new.ensures.taken in
    let same = bytes₁ h.start c.args.image.now c.args.kind h.root h.level c.args.at (h.next ∷ h.above) c.args.j c.args.child h.list h.owned h.own h.climbs c.take-new.new.self c.take-new.result taken in
    let copied = subst (λ (b : List ℕ). IsRewritten c.take-new.new.self c.copy_node.new.image c.args.kind c.take-new.result (node_of c.args.kind b)) same c.copy_node.ensures in
    let write_q = right_written c.take-new.new.self c.copy_node.new.image c.keep_right.new.image c.set_left.new.image c.args.kind c.take-new.result c.args.at c.args.j c.args.child
    c.left_count-left.result c.args.key.now (node_at c.args.image.now.bytes c.args.kind c.args.at) copied c.keep_right.ensures c.set_left.ensures in
    let i = inside₂ h.start c.args.image.now c.args.kind h.root h.level c.args.at (h.next ∷ h.above) c.args.j c.args.child h.list h.owned h.own h.climbs c.take-new.new.self c.take-new.result taken c.set_left.new.image _ write_q in
    omega (arith, i, c.keep_left.ensures.moves.grown)

pub name_left-requires-clause-inside : goal.name_left-requires-clause-inside
name_left-requires-clause-inside c =
    let h = c.requires.climbs in
    let taken = moves_taken c.args.image.now c.take-new.new.self c.args.kind c.take-new.result c.node_length.result _ c.node_length.ensures.length c.take-new.ensures.bytes c.take-new.ensures.taken in
    let same = bytes₁ h.start c.args.image.now c.args.kind h.root h.level c.args.at (h.next ∷ h.above) c.args.j c.args.child h.list h.owned h.own h.climbs c.take-new.new.self c.take-new.result taken in
    let copied = subst (λ (b : List ℕ). IsRewritten c.take-new.new.self c.copy_node.new.image c.args.kind c.take-new.result (node_of c.args.kind b)) same c.copy_node.ensures in
    let write_q = right_written c.take-new.new.self c.copy_node.new.image c.keep_right.new.image c.set_left.new.image c.args.kind c.take-new.result c.args.at c.args.j c.args.child
    c.left_count-left.result c.args.key.now (node_at c.args.image.now.bytes c.args.kind c.args.at) copied c.keep_right.ensures c.set_left.ensures in
    let still : node_at c.set_left.new.image.bytes c.args.kind c.args.at ≡ node_at c.args.image.now.bytes c.args.kind c.args.at
    = ap (node_of c.args.kind) (bytes₂ h.start c.args.image.now c.args.kind h.root h.level c.args.at (h.next ∷ h.above) c.args.j c.args.child h.list h.owned h.own h.climbs c.take-new.new.self c.take-new.result taken c.set_left.new.image _ write_q) in
    let write_p = left_written c.set_left.new.image c.keep_left.new.image c.set_right.new.image c.args.kind c.args.at c.take-new.result c.args.j c.args.child c.left_count-left.result
    c.args.key.now (node_at c.args.image.now.bytes c.args.kind c.args.at) still c.keep_left.ensures c.set_right.ensures in
    let er = c.right-next.ensures ∙ ap (λ (n : Node). n.right) (c.node_there.ensures ∙ ap (λ (b : List ℕ). node_at b c.args.kind c.args.at) c.bytes.ensures) in
    inside_r h.start c.args.image.now c.args.kind h.root h.level c.args.at (h.next ∷ h.above) c.args.j c.args.child h.list h.owned h.own h.climbs c.take-new.new.self c.take-new.result taken c.set_left.new.image _ write_q c.set_right.new.image _ write_p c.right-next.result er

pub name_left-requires-clause-form : goal.name_left-requires-clause-form
name_left-requires-clause-form c =
    let h = c.requires.climbs in
    let taken = moves_taken c.args.image.now c.take-new.new.self c.args.kind c.take-new.result c.node_length.result _ c.node_length.ensures.length c.take-new.ensures.bytes c.take-new.ensures.taken in
    let same = bytes₁ h.start c.args.image.now c.args.kind h.root h.level c.args.at (h.next ∷ h.above) c.args.j c.args.child h.list h.owned h.own h.climbs c.take-new.new.self c.take-new.result taken in
    let copied = subst (λ (b : List ℕ). IsRewritten c.take-new.new.self c.copy_node.new.image c.args.kind c.take-new.result (node_of c.args.kind b)) same c.copy_node.ensures in
    let write_q = right_written c.take-new.new.self c.copy_node.new.image c.keep_right.new.image c.set_left.new.image c.args.kind c.take-new.result c.args.at c.args.j c.args.child
    c.left_count-left.result c.args.key.now (node_at c.args.image.now.bytes c.args.kind c.args.at) copied c.keep_right.ensures c.set_left.ensures in
    let still : node_at c.set_left.new.image.bytes c.args.kind c.args.at ≡ node_at c.args.image.now.bytes c.args.kind c.args.at
    = ap (node_of c.args.kind) (bytes₂ h.start c.args.image.now c.args.kind h.root h.level c.args.at (h.next ∷ h.above) c.args.j c.args.child h.list h.owned h.own h.climbs c.take-new.new.self c.take-new.result taken c.set_left.new.image _ write_q) in
    let write_p = left_written c.set_left.new.image c.keep_left.new.image c.set_right.new.image c.args.kind c.args.at c.take-new.result c.args.j c.args.child c.left_count-left.result
    c.args.key.now (node_at c.args.image.now.bytes c.args.kind c.args.at) still c.keep_left.ensures c.set_right.ensures in
    let er = c.right-next.ensures ∙ ap (λ (n : Node). n.right) (c.node_there.ensures ∙ ap (λ (b : List ℕ). node_at b c.args.kind c.args.at) c.bytes.ensures) in
    form_r h.start c.args.image.now c.args.kind h.root h.level c.args.at (h.next ∷ h.above) c.args.j c.args.child h.list h.owned h.own h.climbs c.take-new.new.self c.take-new.result taken c.set_left.new.image _ write_q c.set_right.new.image _ write_p c.right-next.result er

spent : (c : After-name_left) → Spends c.args.image.now c.name_left.new.image (node_length c.args.kind) 1
spent c =
    let last : Spends c.set_right.new.image c.name_left.new.image 0 0 = at_or undefined_address c.right-next.result
    (λ none. subst (λ (s : Space). Spends c.set_right.new.image s 0 0) (sym (c.name_left.ensures.none none)) (spends_none c.set_right.new.image))
    (λ there. (c.name_left.ensures.written there).spends) in
    let first = subst (λ (n : ℕ). Spends c.args.image.now c.take-new.new.self n 1) c.node_length.ensures.length
    (spends_take c.args.image.now c.take-new.new.self c.node_length.result c.take-new.ensures.bytes c.take-new.ensures.room_bytes c.take-new.ensures.room_blocks) in
    let copied = spends_still c.args.image.now c.take-new.new.self c.copy_node.new.image (node_length c.args.kind) 1 first c.copy_node.ensures.spends in
    let kept = spends_still c.args.image.now c.copy_node.new.image c.keep_right.new.image (node_length c.args.kind) 1 copied c.keep_right.ensures.spends in
    let named = spends_still c.args.image.now c.keep_right.new.image c.set_left.new.image (node_length c.args.kind) 1 kept c.set_left.ensures.spends in
    let left = spends_still c.args.image.now c.set_left.new.image c.keep_left.new.image (node_length c.args.kind) 1 named c.keep_left.ensures.spends in
    let right = spends_still c.args.image.now c.keep_left.new.image c.set_right.new.image (node_length c.args.kind) 1 left c.set_right.ensures.spends in
    spends_still c.args.image.now c.set_right.new.image c.name_left.new.image (node_length c.args.kind) 1 right last

pub returns-clause-spends : goal.returns-clause-spends
returns-clause-spends c = spent (goal.at.returns-clause-spends c).After-name_left

pub returns-clause-on : goal.returns-clause-on
returns-clause-on c = λ s0 root m next above list owned own s.
    let h = c.requires.climbs in
    let taken = moves_taken c.args.image.now c.take-new.new.self c.args.kind c.take-new.result c.node_length.result _ c.node_length.ensures.length c.take-new.ensures.bytes c.take-new.ensures.taken in
    let same = bytes₁ h.start c.args.image.now c.args.kind h.root h.level c.args.at (h.next ∷ h.above) c.args.j c.args.child h.list h.owned h.own h.climbs c.take-new.new.self c.take-new.result taken in
    let copied = subst (λ (b : List ℕ). IsRewritten c.take-new.new.self c.copy_node.new.image c.args.kind c.take-new.result (node_of c.args.kind b)) same c.copy_node.ensures in
    let old : Node = node_at c.args.image.now.bytes c.args.kind c.args.at in
    let count = length-children c.args.kind (node_bytes c.args.image.now.bytes c.args.kind c.args.at) old refl in
    let bound = left_bounds c.args.kind.k c.args.j in
    let place = entry_p h.start c.args.image.now c.args.kind h.root h.level c.args.at (h.next ∷ h.above) c.args.j c.args.child h.list h.owned h.own h.climbs in
    let first = at_listed (λ at. 1 ≤ entries_in (node_bytes c.args.image.now.bytes c.args.kind at)) h.own c.args.at (h.climbs.filled (omega arith)) (own_p h.start c.args.image.now c.args.kind h.root h.level c.args.at (h.next ∷ h.above) c.args.j c.args.child h.list h.owned h.own h.climbs) in
    let write_q = right_written c.take-new.new.self c.copy_node.new.image c.keep_right.new.image c.set_left.new.image c.args.kind c.take-new.result c.args.at c.args.j c.args.child
    c.left_count-left.result c.args.key.now (node_at c.args.image.now.bytes c.args.kind c.args.at) copied c.keep_right.ensures c.set_left.ensures in
    let still : node_at c.set_left.new.image.bytes c.args.kind c.args.at ≡ node_at c.args.image.now.bytes c.args.kind c.args.at
    = ap (node_of c.args.kind) (bytes₂ h.start c.args.image.now c.args.kind h.root h.level c.args.at (h.next ∷ h.above) c.args.j c.args.child h.list h.owned h.own h.climbs c.take-new.new.self c.take-new.result taken c.set_left.new.image _ write_q) in
    let write_p = left_written c.set_left.new.image c.keep_left.new.image c.set_right.new.image c.args.kind c.args.at c.take-new.result c.args.j c.args.child c.left_count-left.result
    c.args.key.now (node_at c.args.image.now.bytes c.args.kind c.args.at) still c.keep_left.ensures c.set_right.ensures in
    let er = c.right-next.ensures ∙ ap (λ (n : Node). n.right) (c.node_there.ensures ∙ ap (λ (b : List ℕ). node_at b c.args.kind c.args.at) c.bytes.ensures) in
    let joined = take-append-drop c.left_count-left.result (insert old.children c.args.j c.args.child) in
    let long = halves_long old.children c.args.kind.k c.args.j c.left_count-left.result c.args.child (omega (arith, count, c.requires.full)) (omega (arith, count, place))
    (omega (arith, bound, c.left_count-left.ensures)) in
    let some : 1 ≤ length (take c.left_count-left.result (insert old.children c.args.j c.args.child)) = omega (arith, long.0, bound, first, c.requires.full, c.left_count-left.ensures) in
    let more : 1 ≤ length (drop c.left_count-left.result (insert old.children c.args.j c.args.child)) = omega (arith, long.1, bound, first, c.requires.full, c.left_count-left.ensures) in
    let grown = (spent (goal.at.returns-clause-on c).After-name_left).grown in
    climbs_on s0 c.args.image.now c.take-new.new.self c.set_left.new.image c.set_right.new.image c.name_left.new.image c.args.kind root m c.args.at next above c.args.j c.args.child list owned own s c.take-new.result (take c.left_count-left.result (insert old.children c.args.j c.args.child)) (drop c.left_count-left.result (insert old.children c.args.j c.args.child)) (take (c.left_count-left.result + 1) (insert old.keys c.args.j c.args.key.now)) (drop c.left_count-left.result (insert old.keys c.args.j c.args.key.now)) taken write_q write_p c.right-next.result er c.name_left.ensures.written c.name_left.ensures.none joined some more
    (omega (arith, grown, c.requires.short))

pub returns-clause-others : goal.returns-clause-others
returns-clause-others c = λ s0 root m next above list owned own s n listed.
    let h = c.requires.climbs in
    let taken = moves_taken c.args.image.now c.take-new.new.self c.args.kind c.take-new.result c.node_length.result _ c.node_length.ensures.length c.take-new.ensures.bytes c.take-new.ensures.taken in
    let same = bytes₁ h.start c.args.image.now c.args.kind h.root h.level c.args.at (h.next ∷ h.above) c.args.j c.args.child h.list h.owned h.own h.climbs c.take-new.new.self c.take-new.result taken in
    let copied = subst (λ (b : List ℕ). IsRewritten c.take-new.new.self c.copy_node.new.image c.args.kind c.take-new.result (node_of c.args.kind b)) same c.copy_node.ensures in
    let old : Node = node_at c.args.image.now.bytes c.args.kind c.args.at in
    let count = length-children c.args.kind (node_bytes c.args.image.now.bytes c.args.kind c.args.at) old refl in
    let bound = left_bounds c.args.kind.k c.args.j in
    let place = entry_p h.start c.args.image.now c.args.kind h.root h.level c.args.at (h.next ∷ h.above) c.args.j c.args.child h.list h.owned h.own h.climbs in
    let first = at_listed (λ at. 1 ≤ entries_in (node_bytes c.args.image.now.bytes c.args.kind at)) h.own c.args.at (h.climbs.filled (omega arith)) (own_p h.start c.args.image.now c.args.kind h.root h.level c.args.at (h.next ∷ h.above) c.args.j c.args.child h.list h.owned h.own h.climbs) in
    let write_q = right_written c.take-new.new.self c.copy_node.new.image c.keep_right.new.image c.set_left.new.image c.args.kind c.take-new.result c.args.at c.args.j c.args.child
    c.left_count-left.result c.args.key.now (node_at c.args.image.now.bytes c.args.kind c.args.at) copied c.keep_right.ensures c.set_left.ensures in
    let still : node_at c.set_left.new.image.bytes c.args.kind c.args.at ≡ node_at c.args.image.now.bytes c.args.kind c.args.at
    = ap (node_of c.args.kind) (bytes₂ h.start c.args.image.now c.args.kind h.root h.level c.args.at (h.next ∷ h.above) c.args.j c.args.child h.list h.owned h.own h.climbs c.take-new.new.self c.take-new.result taken c.set_left.new.image _ write_q) in
    let write_p = left_written c.set_left.new.image c.keep_left.new.image c.set_right.new.image c.args.kind c.args.at c.take-new.result c.args.j c.args.child c.left_count-left.result
    c.args.key.now (node_at c.args.image.now.bytes c.args.kind c.args.at) still c.keep_left.ensures c.set_right.ensures in
    let er = c.right-next.ensures ∙ ap (λ (n : Node). n.right) (c.node_there.ensures ∙ ap (λ (b : List ℕ). node_at b c.args.kind c.args.at) c.bytes.ensures) in
    let joined = take-append-drop c.left_count-left.result (insert old.children c.args.j c.args.child) in
    let long = halves_long old.children c.args.kind.k c.args.j c.left_count-left.result c.args.child (omega (arith, count, c.requires.full)) (omega (arith, count, place))
    (omega (arith, bound, c.left_count-left.ensures)) in
    let some : 1 ≤ length (take c.left_count-left.result (insert old.children c.args.j c.args.child)) = omega (arith, long.0, bound, first, c.requires.full, c.left_count-left.ensures) in
    let more : 1 ≤ length (drop c.left_count-left.result (insert old.children c.args.j c.args.child)) = omega (arith, long.1, bound, first, c.requires.full, c.left_count-left.ensures) in
    others_keep s0 c.args.image.now c.take-new.new.self c.set_left.new.image c.set_right.new.image c.name_left.new.image c.args.kind root m c.args.at next above c.args.j c.args.child list owned own s c.take-new.result (take c.left_count-left.result (insert old.children c.args.j c.args.child)) (drop c.left_count-left.result (insert old.children c.args.j c.args.child)) (take (c.left_count-left.result + 1) (insert old.keys c.args.j c.args.key.now)) (drop c.left_count-left.result (insert old.keys c.args.j c.args.key.now)) taken write_q write_p c.right-next.result er c.name_left.ensures.written c.name_left.ensures.none joined some more n listed

pub returns-clause-halves : goal.returns-clause-halves
returns-clause-halves c =
    let h = c.requires.climbs in
    let s0 = h.start in
    let root = h.root in
    let m = h.level in
    let next = h.next in
    let above = h.above in
    let list = h.list in
    let owned = h.owned in
    let own = h.own in
    let s = h.climbs in
    let taken = moves_taken c.args.image.now c.take-new.new.self c.args.kind c.take-new.result c.node_length.result _ c.node_length.ensures.length c.take-new.ensures.bytes c.take-new.ensures.taken in
    let same = bytes₁ h.start c.args.image.now c.args.kind h.root h.level c.args.at (h.next ∷ h.above) c.args.j c.args.child h.list h.owned h.own h.climbs c.take-new.new.self c.take-new.result taken in
    let copied = subst (λ (b : List ℕ). IsRewritten c.take-new.new.self c.copy_node.new.image c.args.kind c.take-new.result (node_of c.args.kind b)) same c.copy_node.ensures in
    let old : Node = node_at c.args.image.now.bytes c.args.kind c.args.at in
    let count = length-children c.args.kind (node_bytes c.args.image.now.bytes c.args.kind c.args.at) old refl in
    let bound = left_bounds c.args.kind.k c.args.j in
    let place = entry_p h.start c.args.image.now c.args.kind h.root h.level c.args.at (h.next ∷ h.above) c.args.j c.args.child h.list h.owned h.own h.climbs in
    let first = at_listed (λ at. 1 ≤ entries_in (node_bytes c.args.image.now.bytes c.args.kind at)) h.own c.args.at (h.climbs.filled (omega arith)) (own_p h.start c.args.image.now c.args.kind h.root h.level c.args.at (h.next ∷ h.above) c.args.j c.args.child h.list h.owned h.own h.climbs) in
    let write_q = right_written c.take-new.new.self c.copy_node.new.image c.keep_right.new.image c.set_left.new.image c.args.kind c.take-new.result c.args.at c.args.j c.args.child
    c.left_count-left.result c.args.key.now (node_at c.args.image.now.bytes c.args.kind c.args.at) copied c.keep_right.ensures c.set_left.ensures in
    let still : node_at c.set_left.new.image.bytes c.args.kind c.args.at ≡ node_at c.args.image.now.bytes c.args.kind c.args.at
    = ap (node_of c.args.kind) (bytes₂ h.start c.args.image.now c.args.kind h.root h.level c.args.at (h.next ∷ h.above) c.args.j c.args.child h.list h.owned h.own h.climbs c.take-new.new.self c.take-new.result taken c.set_left.new.image _ write_q) in
    let write_p = left_written c.set_left.new.image c.keep_left.new.image c.set_right.new.image c.args.kind c.args.at c.take-new.result c.args.j c.args.child c.left_count-left.result
    c.args.key.now (node_at c.args.image.now.bytes c.args.kind c.args.at) still c.keep_left.ensures c.set_right.ensures in
    let er = c.right-next.ensures ∙ ap (λ (n : Node). n.right) (c.node_there.ensures ∙ ap (λ (b : List ℕ). node_at b c.args.kind c.args.at) c.bytes.ensures) in
    let joined = take-append-drop c.left_count-left.result (insert old.children c.args.j c.args.child) in
    let long = halves_long old.children c.args.kind.k c.args.j c.left_count-left.result c.args.child (omega (arith, count, c.requires.full)) (omega (arith, count, place))
    (omega (arith, bound, c.left_count-left.ensures)) in
    let some : 1 ≤ length (take c.left_count-left.result (insert old.children c.args.j c.args.child)) = omega (arith, long.0, bound, first, c.requires.full, c.left_count-left.ensures) in
    let more : 1 ≤ length (drop c.left_count-left.result (insert old.children c.args.j c.args.child)) = omega (arith, long.1, bound, first, c.requires.full, c.left_count-left.ensures) in
    let grown = (spends_take c.args.image.now c.take-new.new.self c.node_length.result c.take-new.ensures.bytes c.take-new.ensures.room_bytes c.take-new.ensures.room_blocks).grown in
    record {
      left = subst (λ (n : ℕ). node_at c.name_left.new.image.bytes c.args.kind c.args.at ≡ record old { right = c.take-new.result; keys = take (n + 1) (insert old.keys c.args.j c.args.key.now); children = take n (insert old.children c.args.j c.args.child) })
          c.left_count-left.ensures (left_says s0 c.args.image.now c.take-new.new.self c.set_left.new.image c.set_right.new.image c.name_left.new.image c.args.kind root m c.args.at next above c.args.j c.args.child list owned own s c.take-new.result (take c.left_count-left.result (insert old.children c.args.j c.args.child)) (drop c.left_count-left.result (insert old.children c.args.j c.args.child)) (take (c.left_count-left.result + 1) (insert old.keys c.args.j c.args.key.now)) (drop c.left_count-left.result (insert old.keys c.args.j c.args.key.now)) taken write_q write_p c.right-next.result er c.name_left.ensures.written c.name_left.ensures.none joined some more);
      right = subst (λ (n : ℕ). node_at c.name_left.new.image.bytes c.args.kind c.take-new.result ≡ record old { left = c.args.at; keys = drop n (insert old.keys c.args.j c.args.key.now); children = drop n (insert old.children c.args.j c.args.child) })
          c.left_count-left.ensures (right_says s0 c.args.image.now c.take-new.new.self c.set_left.new.image c.set_right.new.image c.name_left.new.image c.args.kind root m c.args.at next above c.args.j c.args.child list owned own s c.take-new.result (take c.left_count-left.result (insert old.children c.args.j c.args.child)) (drop c.left_count-left.result (insert old.children c.args.j c.args.child)) (take (c.left_count-left.result + 1) (insert old.keys c.args.j c.args.key.now)) (drop c.left_count-left.result (insert old.keys c.args.j c.args.key.now)) taken write_q write_p c.right-next.result er c.name_left.ensures.written c.name_left.ensures.none joined some more
          (omega (arith, grown, c.node_length.ensures.length, c.requires.short)));
    }
