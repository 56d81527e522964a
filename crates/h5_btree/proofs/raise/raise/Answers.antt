use Rattle.std.proofs.Common.{◌≡◌, ℕ, suc, ◌+◌, ◌≤◌, List, [], ◌∷◌, length, take, drop, refl, sym, ap, ◌∙◌, subst, arith}
use Rattle.std.specs.Prelude.{slice_index_or}
use Rattle.std.specs.List.{insert}
use Rattle.std.proofs.lemmas.List.{take-append-drop}
use Rattle.h5_model.specs.Format.Rows.{Node}
use Rattle.h5_model.specs.Format.Nodes.{entries_in, node_at, node_bytes, node_of}
use Rattle.h5_btree.specs.Rewritten.{IsRewritten}
use Rattle.h5_btree.proofs.NodeLaws.{length-children}
use Rattle.h5_btree.proofs.ClimbStands.{entry_p}
use Rattle.h5_btree.proofs.HalfLists.{left_bounds, halves_long}
use Rattle.h5_btree.proofs.RewriteSteps.{rewritten_then, rewritten_count, rewritten_as}
use Rattle.h5_btree.proofs.SplitCalls.{moves_taken, right_written, left_written}
use Rattle.h5_btree.proofs.RaiseCalls.{root_bytes₂, root_inside₂, root_form₂, root_bytes₃, root_inside₃, root_form₃, root_bytes₄, root_inside₄, root_form₄, left_form₄, left_bytes₄, level_root, put_raised, others_keep, left_there, right_there}
use Rattle.h5_btree.proofs.raise.raise.Goals as goal

pub copy_node-requires-clause-from : goal.copy_node-requires-clause-from
copy_node-requires-clause-from c =
    let h = c.requires.climbs in
    let take_q = moves_taken c.args.image.now c.take-right.new.self c.args.kind c.take-right.result c.node_length.result _ c.node_length.ensures.length c.take-right.ensures.bytes c.take-right.ensures.taken in
    let take_p = moves_taken c.take-right.new.self c.take-left.new.self c.args.kind c.take-left.result c.node_length-2.result _ c.node_length-2.ensures.length c.take-left.ensures.bytes c.take-left.ensures.taken in
    let old : Node = node_at c.args.image.now.bytes c.args.kind c.args.root in
    root_inside₂ h.start c.args.image.now c.take-right.new.self c.take-left.new.self c.args.kind c.args.root h.level c.args.j c.args.child h.list h.owned h.own h.climbs c.take-right.result c.take-left.result take_q take_p

pub copy_node-requires-clause-form : goal.copy_node-requires-clause-form
copy_node-requires-clause-form c =
    let h = c.requires.climbs in
    let take_q = moves_taken c.args.image.now c.take-right.new.self c.args.kind c.take-right.result c.node_length.result _ c.node_length.ensures.length c.take-right.ensures.bytes c.take-right.ensures.taken in
    let take_p = moves_taken c.take-right.new.self c.take-left.new.self c.args.kind c.take-left.result c.node_length-2.result _ c.node_length-2.ensures.length c.take-left.ensures.bytes c.take-left.ensures.taken in
    let old : Node = node_at c.args.image.now.bytes c.args.kind c.args.root in
    root_form₂ h.start c.args.image.now c.take-right.new.self c.take-left.new.self c.args.kind c.args.root h.level c.args.j c.args.child h.list h.owned h.own h.climbs c.take-right.result c.take-left.result take_q take_p

pub keep_left-requires-clause-most : goal.keep_left-requires-clause-most
keep_left-requires-clause-most c =
    let h = c.requires.climbs in
    let take_q = moves_taken c.args.image.now c.take-right.new.self c.args.kind c.take-right.result c.node_length.result _ c.node_length.ensures.length c.take-right.ensures.bytes c.take-right.ensures.taken in
    let take_p = moves_taken c.take-right.new.self c.take-left.new.self c.args.kind c.take-left.result c.node_length-2.result _ c.node_length-2.ensures.length c.take-left.ensures.bytes c.take-left.ensures.taken in
    let old : Node = node_at c.args.image.now.bytes c.args.kind c.args.root in
    let copied = subst (λ (b : List ℕ). IsRewritten c.take-left.new.self c.copy_node.new.image c.args.kind c.take-left.result (node_of c.args.kind b)) (root_bytes₂ h.start c.args.image.now c.take-right.new.self c.take-left.new.self c.args.kind c.args.root h.level c.args.j c.args.child h.list h.owned h.own h.climbs c.take-right.result c.take-left.result take_q take_p) c.copy_node.ensures in
    let count = length-children c.args.kind (node_bytes c.args.image.now.bytes c.args.kind c.args.root) old refl in
    let bound = left_bounds c.args.kind.k c.args.j in
    let place = entry_p h.start c.args.image.now c.args.kind c.args.root h.level c.args.root [] c.args.j c.args.child h.list h.owned h.own h.climbs in
    let now = rewritten_count c.take-left.new.self c.copy_node.new.image c.args.kind c.take-left.result _ copied in
    omega (arith, now, count, bound, c.requires.some, c.requires.full, c.left_count-n.ensures)

pub keep_left-requires-clause-place : goal.keep_left-requires-clause-place
keep_left-requires-clause-place c =
    let h = c.requires.climbs in
    let take_q = moves_taken c.args.image.now c.take-right.new.self c.args.kind c.take-right.result c.node_length.result _ c.node_length.ensures.length c.take-right.ensures.bytes c.take-right.ensures.taken in
    let take_p = moves_taken c.take-right.new.self c.take-left.new.self c.args.kind c.take-left.result c.node_length-2.result _ c.node_length-2.ensures.length c.take-left.ensures.bytes c.take-left.ensures.taken in
    let old : Node = node_at c.args.image.now.bytes c.args.kind c.args.root in
    let copied = subst (λ (b : List ℕ). IsRewritten c.take-left.new.self c.copy_node.new.image c.args.kind c.take-left.result (node_of c.args.kind b)) (root_bytes₂ h.start c.args.image.now c.take-right.new.self c.take-left.new.self c.args.kind c.args.root h.level c.args.j c.args.child h.list h.owned h.own h.climbs c.take-right.result c.take-left.result take_q take_p) c.copy_node.ensures in
    let count = length-children c.args.kind (node_bytes c.args.image.now.bytes c.args.kind c.args.root) old refl in
    let bound = left_bounds c.args.kind.k c.args.j in
    let place = entry_p h.start c.args.image.now c.args.kind c.args.root h.level c.args.root [] c.args.j c.args.child h.list h.owned h.own h.climbs in
    let now = rewritten_count c.take-left.new.self c.copy_node.new.image c.args.kind c.take-left.result _ copied in
    omega (arith, now, count, place)

pub copy_node-requires-2-clause-from : goal.copy_node-requires-2-clause-from
copy_node-requires-2-clause-from c =
    let h = c.requires.climbs in
    let take_q = moves_taken c.args.image.now c.take-right.new.self c.args.kind c.take-right.result c.node_length.result _ c.node_length.ensures.length c.take-right.ensures.bytes c.take-right.ensures.taken in
    let take_p = moves_taken c.take-right.new.self c.take-left.new.self c.args.kind c.take-left.result c.node_length-2.result _ c.node_length-2.ensures.length c.take-left.ensures.bytes c.take-left.ensures.taken in
    let old : Node = node_at c.args.image.now.bytes c.args.kind c.args.root in
    let copied = subst (λ (b : List ℕ). IsRewritten c.take-left.new.self c.copy_node.new.image c.args.kind c.take-left.result (node_of c.args.kind b)) (root_bytes₂ h.start c.args.image.now c.take-right.new.self c.take-left.new.self c.args.kind c.args.root h.level c.args.j c.args.child h.list h.owned h.own h.climbs c.take-right.result c.take-left.result take_q take_p) c.copy_node.ensures in
    let left = left_written c.copy_node.new.image c.keep_left.new.image c.set_right.new.image c.args.kind c.take-left.result c.take-right.result c.args.j c.args.child c.left_count-n.result
    c.args.key.now old copied.says c.keep_left.ensures c.set_right.ensures in
    let write_p = rewritten_then c.take-left.new.self c.copy_node.new.image c.set_right.new.image c.args.kind c.take-left.result _ _ copied left in
    root_inside₃ h.start c.args.image.now c.take-right.new.self c.take-left.new.self c.args.kind c.args.root h.level c.args.j c.args.child h.list h.owned h.own h.climbs c.take-right.result c.take-left.result take_q take_p c.set_right.new.image _ write_p

pub copy_node-requires-2-clause-form : goal.copy_node-requires-2-clause-form
copy_node-requires-2-clause-form c =
    let h = c.requires.climbs in
    let take_q = moves_taken c.args.image.now c.take-right.new.self c.args.kind c.take-right.result c.node_length.result _ c.node_length.ensures.length c.take-right.ensures.bytes c.take-right.ensures.taken in
    let take_p = moves_taken c.take-right.new.self c.take-left.new.self c.args.kind c.take-left.result c.node_length-2.result _ c.node_length-2.ensures.length c.take-left.ensures.bytes c.take-left.ensures.taken in
    let old : Node = node_at c.args.image.now.bytes c.args.kind c.args.root in
    let copied = subst (λ (b : List ℕ). IsRewritten c.take-left.new.self c.copy_node.new.image c.args.kind c.take-left.result (node_of c.args.kind b)) (root_bytes₂ h.start c.args.image.now c.take-right.new.self c.take-left.new.self c.args.kind c.args.root h.level c.args.j c.args.child h.list h.owned h.own h.climbs c.take-right.result c.take-left.result take_q take_p) c.copy_node.ensures in
    let left = left_written c.copy_node.new.image c.keep_left.new.image c.set_right.new.image c.args.kind c.take-left.result c.take-right.result c.args.j c.args.child c.left_count-n.result
    c.args.key.now old copied.says c.keep_left.ensures c.set_right.ensures in
    let write_p = rewritten_then c.take-left.new.self c.copy_node.new.image c.set_right.new.image c.args.kind c.take-left.result _ _ copied left in
    root_form₃ h.start c.args.image.now c.take-right.new.self c.take-left.new.self c.args.kind c.args.root h.level c.args.j c.args.child h.list h.owned h.own h.climbs c.take-right.result c.take-left.result take_q take_p c.set_right.new.image _ write_p

pub keep_right-requires-clause-most : goal.keep_right-requires-clause-most
keep_right-requires-clause-most c =
    let h = c.requires.climbs in
    let take_q = moves_taken c.args.image.now c.take-right.new.self c.args.kind c.take-right.result c.node_length.result _ c.node_length.ensures.length c.take-right.ensures.bytes c.take-right.ensures.taken in
    let take_p = moves_taken c.take-right.new.self c.take-left.new.self c.args.kind c.take-left.result c.node_length-2.result _ c.node_length-2.ensures.length c.take-left.ensures.bytes c.take-left.ensures.taken in
    let old : Node = node_at c.args.image.now.bytes c.args.kind c.args.root in
    let copied = subst (λ (b : List ℕ). IsRewritten c.take-left.new.self c.copy_node.new.image c.args.kind c.take-left.result (node_of c.args.kind b)) (root_bytes₂ h.start c.args.image.now c.take-right.new.self c.take-left.new.self c.args.kind c.args.root h.level c.args.j c.args.child h.list h.owned h.own h.climbs c.take-right.result c.take-left.result take_q take_p) c.copy_node.ensures in
    let left = left_written c.copy_node.new.image c.keep_left.new.image c.set_right.new.image c.args.kind c.take-left.result c.take-right.result c.args.j c.args.child c.left_count-n.result
    c.args.key.now old copied.says c.keep_left.ensures c.set_right.ensures in
    let write_p = rewritten_then c.take-left.new.self c.copy_node.new.image c.set_right.new.image c.args.kind c.take-left.result _ _ copied left in
    let copied_q = subst (λ (b : List ℕ). IsRewritten c.set_right.new.image c.copy_node-2.new.image c.args.kind c.take-right.result (node_of c.args.kind b)) (root_bytes₃ h.start c.args.image.now c.take-right.new.self c.take-left.new.self c.args.kind c.args.root h.level c.args.j c.args.child h.list h.owned h.own h.climbs c.take-right.result c.take-left.result take_q take_p c.set_right.new.image _ write_p) c.copy_node-2.ensures in
    let count = length-children c.args.kind (node_bytes c.args.image.now.bytes c.args.kind c.args.root) old refl in
    let bound = left_bounds c.args.kind.k c.args.j in
    let place = entry_p h.start c.args.image.now c.args.kind c.args.root h.level c.args.root [] c.args.j c.args.child h.list h.owned h.own h.climbs in
    let now = rewritten_count c.set_right.new.image c.copy_node-2.new.image c.args.kind c.take-right.result _ copied_q in
    omega (arith, now, count, bound, c.requires.some, c.requires.full, c.left_count-n.ensures)

pub keep_right-requires-clause-place : goal.keep_right-requires-clause-place
keep_right-requires-clause-place c =
    let h = c.requires.climbs in
    let take_q = moves_taken c.args.image.now c.take-right.new.self c.args.kind c.take-right.result c.node_length.result _ c.node_length.ensures.length c.take-right.ensures.bytes c.take-right.ensures.taken in
    let take_p = moves_taken c.take-right.new.self c.take-left.new.self c.args.kind c.take-left.result c.node_length-2.result _ c.node_length-2.ensures.length c.take-left.ensures.bytes c.take-left.ensures.taken in
    let old : Node = node_at c.args.image.now.bytes c.args.kind c.args.root in
    let copied = subst (λ (b : List ℕ). IsRewritten c.take-left.new.self c.copy_node.new.image c.args.kind c.take-left.result (node_of c.args.kind b)) (root_bytes₂ h.start c.args.image.now c.take-right.new.self c.take-left.new.self c.args.kind c.args.root h.level c.args.j c.args.child h.list h.owned h.own h.climbs c.take-right.result c.take-left.result take_q take_p) c.copy_node.ensures in
    let left = left_written c.copy_node.new.image c.keep_left.new.image c.set_right.new.image c.args.kind c.take-left.result c.take-right.result c.args.j c.args.child c.left_count-n.result
    c.args.key.now old copied.says c.keep_left.ensures c.set_right.ensures in
    let write_p = rewritten_then c.take-left.new.self c.copy_node.new.image c.set_right.new.image c.args.kind c.take-left.result _ _ copied left in
    let copied_q = subst (λ (b : List ℕ). IsRewritten c.set_right.new.image c.copy_node-2.new.image c.args.kind c.take-right.result (node_of c.args.kind b)) (root_bytes₃ h.start c.args.image.now c.take-right.new.self c.take-left.new.self c.args.kind c.args.root h.level c.args.j c.args.child h.list h.owned h.own h.climbs c.take-right.result c.take-left.result take_q take_p c.set_right.new.image _ write_p) c.copy_node-2.ensures in
    let count = length-children c.args.kind (node_bytes c.args.image.now.bytes c.args.kind c.args.root) old refl in
    let bound = left_bounds c.args.kind.k c.args.j in
    let place = entry_p h.start c.args.image.now c.args.kind c.args.root h.level c.args.root [] c.args.j c.args.child h.list h.owned h.own h.climbs in
    let now = rewritten_count c.set_right.new.image c.copy_node-2.new.image c.args.kind c.take-right.result _ copied_q in
    omega (arith, now, count, place)

pub stand_over-requires-clause-root : goal.stand_over-requires-clause-root
stand_over-requires-clause-root c =
    let h = c.requires.climbs in
    let take_q = moves_taken c.args.image.now c.take-right.new.self c.args.kind c.take-right.result c.node_length.result _ c.node_length.ensures.length c.take-right.ensures.bytes c.take-right.ensures.taken in
    let take_p = moves_taken c.take-right.new.self c.take-left.new.self c.args.kind c.take-left.result c.node_length-2.result _ c.node_length-2.ensures.length c.take-left.ensures.bytes c.take-left.ensures.taken in
    let old : Node = node_at c.args.image.now.bytes c.args.kind c.args.root in
    let copied = subst (λ (b : List ℕ). IsRewritten c.take-left.new.self c.copy_node.new.image c.args.kind c.take-left.result (node_of c.args.kind b)) (root_bytes₂ h.start c.args.image.now c.take-right.new.self c.take-left.new.self c.args.kind c.args.root h.level c.args.j c.args.child h.list h.owned h.own h.climbs c.take-right.result c.take-left.result take_q take_p) c.copy_node.ensures in
    let left = left_written c.copy_node.new.image c.keep_left.new.image c.set_right.new.image c.args.kind c.take-left.result c.take-right.result c.args.j c.args.child c.left_count-n.result
    c.args.key.now old copied.says c.keep_left.ensures c.set_right.ensures in
    let write_p = rewritten_then c.take-left.new.self c.copy_node.new.image c.set_right.new.image c.args.kind c.take-left.result _ _ copied left in
    let copied_q = subst (λ (b : List ℕ). IsRewritten c.set_right.new.image c.copy_node-2.new.image c.args.kind c.take-right.result (node_of c.args.kind b)) (root_bytes₃ h.start c.args.image.now c.take-right.new.self c.take-left.new.self c.args.kind c.args.root h.level c.args.j c.args.child h.list h.owned h.own h.climbs c.take-right.result c.take-left.result take_q take_p c.set_right.new.image _ write_p) c.copy_node-2.ensures in
    let write_q = right_written c.set_right.new.image c.copy_node-2.new.image c.keep_right.new.image c.set_left.new.image c.args.kind c.take-right.result c.take-left.result c.args.j c.args.child
    c.left_count-n.result c.args.key.now old copied_q c.keep_right.ensures c.set_left.ensures in
    root_inside₄ h.start c.args.image.now c.take-right.new.self c.take-left.new.self c.args.kind c.args.root h.level c.args.j c.args.child h.list h.owned h.own h.climbs c.take-right.result c.take-left.result take_q take_p c.set_right.new.image _ write_p c.set_left.new.image _ write_q

pub stand_over-requires-clause-root_form : goal.stand_over-requires-clause-root_form
stand_over-requires-clause-root_form c =
    let h = c.requires.climbs in
    let take_q = moves_taken c.args.image.now c.take-right.new.self c.args.kind c.take-right.result c.node_length.result _ c.node_length.ensures.length c.take-right.ensures.bytes c.take-right.ensures.taken in
    let take_p = moves_taken c.take-right.new.self c.take-left.new.self c.args.kind c.take-left.result c.node_length-2.result _ c.node_length-2.ensures.length c.take-left.ensures.bytes c.take-left.ensures.taken in
    let old : Node = node_at c.args.image.now.bytes c.args.kind c.args.root in
    let copied = subst (λ (b : List ℕ). IsRewritten c.take-left.new.self c.copy_node.new.image c.args.kind c.take-left.result (node_of c.args.kind b)) (root_bytes₂ h.start c.args.image.now c.take-right.new.self c.take-left.new.self c.args.kind c.args.root h.level c.args.j c.args.child h.list h.owned h.own h.climbs c.take-right.result c.take-left.result take_q take_p) c.copy_node.ensures in
    let left = left_written c.copy_node.new.image c.keep_left.new.image c.set_right.new.image c.args.kind c.take-left.result c.take-right.result c.args.j c.args.child c.left_count-n.result
    c.args.key.now old copied.says c.keep_left.ensures c.set_right.ensures in
    let write_p = rewritten_then c.take-left.new.self c.copy_node.new.image c.set_right.new.image c.args.kind c.take-left.result _ _ copied left in
    let copied_q = subst (λ (b : List ℕ). IsRewritten c.set_right.new.image c.copy_node-2.new.image c.args.kind c.take-right.result (node_of c.args.kind b)) (root_bytes₃ h.start c.args.image.now c.take-right.new.self c.take-left.new.self c.args.kind c.args.root h.level c.args.j c.args.child h.list h.owned h.own h.climbs c.take-right.result c.take-left.result take_q take_p c.set_right.new.image _ write_p) c.copy_node-2.ensures in
    let write_q = right_written c.set_right.new.image c.copy_node-2.new.image c.keep_right.new.image c.set_left.new.image c.args.kind c.take-right.result c.take-left.result c.args.j c.args.child
    c.left_count-n.result c.args.key.now old copied_q c.keep_right.ensures c.set_left.ensures in
    root_form₄ h.start c.args.image.now c.take-right.new.self c.take-left.new.self c.args.kind c.args.root h.level c.args.j c.args.child h.list h.owned h.own h.climbs c.take-right.result c.take-left.result take_q take_p c.set_right.new.image _ write_p c.set_left.new.image _ write_q

pub stand_over-requires-clause-some : goal.stand_over-requires-clause-some
stand_over-requires-clause-some c =
    let h = c.requires.climbs in
    let take_q = moves_taken c.args.image.now c.take-right.new.self c.args.kind c.take-right.result c.node_length.result _ c.node_length.ensures.length c.take-right.ensures.bytes c.take-right.ensures.taken in
    let take_p = moves_taken c.take-right.new.self c.take-left.new.self c.args.kind c.take-left.result c.node_length-2.result _ c.node_length-2.ensures.length c.take-left.ensures.bytes c.take-left.ensures.taken in
    let old : Node = node_at c.args.image.now.bytes c.args.kind c.args.root in
    let copied = subst (λ (b : List ℕ). IsRewritten c.take-left.new.self c.copy_node.new.image c.args.kind c.take-left.result (node_of c.args.kind b)) (root_bytes₂ h.start c.args.image.now c.take-right.new.self c.take-left.new.self c.args.kind c.args.root h.level c.args.j c.args.child h.list h.owned h.own h.climbs c.take-right.result c.take-left.result take_q take_p) c.copy_node.ensures in
    let left = left_written c.copy_node.new.image c.keep_left.new.image c.set_right.new.image c.args.kind c.take-left.result c.take-right.result c.args.j c.args.child c.left_count-n.result
    c.args.key.now old copied.says c.keep_left.ensures c.set_right.ensures in
    let write_p = rewritten_then c.take-left.new.self c.copy_node.new.image c.set_right.new.image c.args.kind c.take-left.result _ _ copied left in
    let copied_q = subst (λ (b : List ℕ). IsRewritten c.set_right.new.image c.copy_node-2.new.image c.args.kind c.take-right.result (node_of c.args.kind b)) (root_bytes₃ h.start c.args.image.now c.take-right.new.self c.take-left.new.self c.args.kind c.args.root h.level c.args.j c.args.child h.list h.owned h.own h.climbs c.take-right.result c.take-left.result take_q take_p c.set_right.new.image _ write_p) c.copy_node-2.ensures in
    let write_q = right_written c.set_right.new.image c.copy_node-2.new.image c.keep_right.new.image c.set_left.new.image c.args.kind c.take-right.result c.take-left.result c.args.j c.args.child
    c.left_count-n.result c.args.key.now old copied_q c.keep_right.ensures c.set_left.ensures in
    let bytes = ap (λ (b : List ℕ). entries_in b) (root_bytes₄ h.start c.args.image.now c.take-right.new.self c.take-left.new.self c.args.kind c.args.root h.level c.args.j c.args.child h.list h.owned h.own h.climbs c.take-right.result c.take-left.result take_q take_p c.set_right.new.image _ write_p c.set_left.new.image _ write_q) in
    omega (arith, bytes, c.requires.some, c.requires.full)

pub stand_over-requires-clause-low : goal.stand_over-requires-clause-low
stand_over-requires-clause-low c =
    let h = c.requires.climbs in
    let take_q = moves_taken c.args.image.now c.take-right.new.self c.args.kind c.take-right.result c.node_length.result _ c.node_length.ensures.length c.take-right.ensures.bytes c.take-right.ensures.taken in
    let take_p = moves_taken c.take-right.new.self c.take-left.new.self c.args.kind c.take-left.result c.node_length-2.result _ c.node_length-2.ensures.length c.take-left.ensures.bytes c.take-left.ensures.taken in
    let old : Node = node_at c.args.image.now.bytes c.args.kind c.args.root in
    let copied = subst (λ (b : List ℕ). IsRewritten c.take-left.new.self c.copy_node.new.image c.args.kind c.take-left.result (node_of c.args.kind b)) (root_bytes₂ h.start c.args.image.now c.take-right.new.self c.take-left.new.self c.args.kind c.args.root h.level c.args.j c.args.child h.list h.owned h.own h.climbs c.take-right.result c.take-left.result take_q take_p) c.copy_node.ensures in
    let left = left_written c.copy_node.new.image c.keep_left.new.image c.set_right.new.image c.args.kind c.take-left.result c.take-right.result c.args.j c.args.child c.left_count-n.result
    c.args.key.now old copied.says c.keep_left.ensures c.set_right.ensures in
    let write_p = rewritten_then c.take-left.new.self c.copy_node.new.image c.set_right.new.image c.args.kind c.take-left.result _ _ copied left in
    let copied_q = subst (λ (b : List ℕ). IsRewritten c.set_right.new.image c.copy_node-2.new.image c.args.kind c.take-right.result (node_of c.args.kind b)) (root_bytes₃ h.start c.args.image.now c.take-right.new.self c.take-left.new.self c.args.kind c.args.root h.level c.args.j c.args.child h.list h.owned h.own h.climbs c.take-right.result c.take-left.result take_q take_p c.set_right.new.image _ write_p) c.copy_node-2.ensures in
    let write_q = right_written c.set_right.new.image c.copy_node-2.new.image c.keep_right.new.image c.set_left.new.image c.args.kind c.take-right.result c.take-left.result c.args.j c.args.child
    c.left_count-n.result c.args.key.now old copied_q c.keep_right.ensures c.set_left.ensures in
    let level = ap (λ (b : List ℕ). (node_of c.args.kind b).level) (root_bytes₄ h.start c.args.image.now c.take-right.new.self c.take-left.new.self c.args.kind c.args.root h.level c.args.j c.args.child h.list h.owned h.own h.climbs c.take-right.result c.take-left.result take_q take_p c.set_right.new.image _ write_p c.set_left.new.image _ write_q) ∙ level_root h.start c.args.image.now c.take-right.new.self c.take-left.new.self c.args.kind c.args.root h.level c.args.j c.args.child h.list h.owned h.own h.climbs c.take-right.result c.take-left.result take_q take_p in
    omega (arith, level, h.low)

pub stand_over-requires-clause-left_form : goal.stand_over-requires-clause-left_form
stand_over-requires-clause-left_form c =
    let h = c.requires.climbs in
    let take_q = moves_taken c.args.image.now c.take-right.new.self c.args.kind c.take-right.result c.node_length.result _ c.node_length.ensures.length c.take-right.ensures.bytes c.take-right.ensures.taken in
    let take_p = moves_taken c.take-right.new.self c.take-left.new.self c.args.kind c.take-left.result c.node_length-2.result _ c.node_length-2.ensures.length c.take-left.ensures.bytes c.take-left.ensures.taken in
    let old : Node = node_at c.args.image.now.bytes c.args.kind c.args.root in
    let copied = subst (λ (b : List ℕ). IsRewritten c.take-left.new.self c.copy_node.new.image c.args.kind c.take-left.result (node_of c.args.kind b)) (root_bytes₂ h.start c.args.image.now c.take-right.new.self c.take-left.new.self c.args.kind c.args.root h.level c.args.j c.args.child h.list h.owned h.own h.climbs c.take-right.result c.take-left.result take_q take_p) c.copy_node.ensures in
    let left = left_written c.copy_node.new.image c.keep_left.new.image c.set_right.new.image c.args.kind c.take-left.result c.take-right.result c.args.j c.args.child c.left_count-n.result
    c.args.key.now old copied.says c.keep_left.ensures c.set_right.ensures in
    let write_p = rewritten_then c.take-left.new.self c.copy_node.new.image c.set_right.new.image c.args.kind c.take-left.result _ _ copied left in
    let copied_q = subst (λ (b : List ℕ). IsRewritten c.set_right.new.image c.copy_node-2.new.image c.args.kind c.take-right.result (node_of c.args.kind b)) (root_bytes₃ h.start c.args.image.now c.take-right.new.self c.take-left.new.self c.args.kind c.args.root h.level c.args.j c.args.child h.list h.owned h.own h.climbs c.take-right.result c.take-left.result take_q take_p c.set_right.new.image _ write_p) c.copy_node-2.ensures in
    let write_q = right_written c.set_right.new.image c.copy_node-2.new.image c.keep_right.new.image c.set_left.new.image c.args.kind c.take-right.result c.take-left.result c.args.j c.args.child
    c.left_count-n.result c.args.key.now old copied_q c.keep_right.ensures c.set_left.ensures in
    left_form₄ h.start c.args.image.now c.take-right.new.self c.take-left.new.self c.args.kind c.args.root h.level c.args.j c.args.child h.list h.owned h.own h.climbs c.take-right.result c.take-left.result take_q take_p c.set_right.new.image _ write_p c.set_left.new.image _ write_q

pub returns-clause-put : goal.returns-clause-put
returns-clause-put c = λ s0 m list owned own s low.
    let h = c.requires.climbs in
    let take_q = moves_taken c.args.image.now c.take-right.new.self c.args.kind c.take-right.result c.node_length.result _ c.node_length.ensures.length c.take-right.ensures.bytes c.take-right.ensures.taken in
    let take_p = moves_taken c.take-right.new.self c.take-left.new.self c.args.kind c.take-left.result c.node_length-2.result _ c.node_length-2.ensures.length c.take-left.ensures.bytes c.take-left.ensures.taken in
    let old : Node = node_at c.args.image.now.bytes c.args.kind c.args.root in
    let copied = subst (λ (b : List ℕ). IsRewritten c.take-left.new.self c.copy_node.new.image c.args.kind c.take-left.result (node_of c.args.kind b)) (root_bytes₂ h.start c.args.image.now c.take-right.new.self c.take-left.new.self c.args.kind c.args.root h.level c.args.j c.args.child h.list h.owned h.own h.climbs c.take-right.result c.take-left.result take_q take_p) c.copy_node.ensures in
    let left = left_written c.copy_node.new.image c.keep_left.new.image c.set_right.new.image c.args.kind c.take-left.result c.take-right.result c.args.j c.args.child c.left_count-n.result
    c.args.key.now old copied.says c.keep_left.ensures c.set_right.ensures in
    let write_p = rewritten_then c.take-left.new.self c.copy_node.new.image c.set_right.new.image c.args.kind c.take-left.result _ _ copied left in
    let copied_q = subst (λ (b : List ℕ). IsRewritten c.set_right.new.image c.copy_node-2.new.image c.args.kind c.take-right.result (node_of c.args.kind b)) (root_bytes₃ h.start c.args.image.now c.take-right.new.self c.take-left.new.self c.args.kind c.args.root h.level c.args.j c.args.child h.list h.owned h.own h.climbs c.take-right.result c.take-left.result take_q take_p c.set_right.new.image _ write_p) c.copy_node-2.ensures in
    let write_q = right_written c.set_right.new.image c.copy_node-2.new.image c.keep_right.new.image c.set_left.new.image c.args.kind c.take-right.result c.take-left.result c.args.j c.args.child
    c.left_count-n.result c.args.key.now old copied_q c.keep_right.ensures c.set_left.ensures in
    let count = length-children c.args.kind (node_bytes c.args.image.now.bytes c.args.kind c.args.root) old refl in
    let bound = left_bounds c.args.kind.k c.args.j in
    let place = entry_p h.start c.args.image.now c.args.kind c.args.root h.level c.args.root [] c.args.j c.args.child h.list h.owned h.own h.climbs in
    let joined = take-append-drop c.left_count-n.result (insert old.children c.args.j c.args.child) in
    let long = halves_long old.children c.args.kind.k c.args.j c.left_count-n.result c.args.child (omega (arith, count, c.requires.full)) (omega (arith, count, place))
    (omega (arith, bound, c.left_count-n.ensures)) in
    let some : 1 ≤ length (take c.left_count-n.result (insert old.children c.args.j c.args.child)) = omega (arith, long.0, bound, c.requires.some, c.left_count-n.ensures) in
    let more : 1 ≤ length (drop c.left_count-n.result (insert old.children c.args.j c.args.child)) = omega (arith, long.1, bound, c.requires.some, c.left_count-n.ensures) in
    let same : node_at c.set_left.new.image.bytes c.args.kind c.args.root ≡ old = ap (node_of c.args.kind) (root_bytes₄ h.start c.args.image.now c.take-right.new.self c.take-left.new.self c.args.kind c.args.root h.level c.args.j c.args.child h.list h.owned h.own h.climbs c.take-right.result c.take-left.result take_q take_p c.set_right.new.image _ write_p c.set_left.new.image _ write_q) in
    let write_root = rewritten_as c.set_left.new.image c.stand_over.new.image c.args.kind c.args.root _ _ c.stand_over.ensures
    (ap (λ (n : Node). record n {
      level = suc n.level;
      keys = slice_index_or (node_at c.set_left.new.image.bytes c.args.kind c.take-left.result).keys 0 []
          ∷ slice_index_or (node_at c.set_left.new.image.bytes c.args.kind c.take-right.result).keys 0 []
          ∷ slice_index_or (node_at c.set_left.new.image.bytes c.args.kind c.take-right.result).keys (length (node_at c.set_left.new.image.bytes c.args.kind c.take-right.result).children) [] ∷ [];
      children = c.take-left.result ∷ c.take-right.result ∷ [];
    }) same) in
    put_raised s0 c.args.image.now c.take-right.new.self c.take-left.new.self c.set_right.new.image c.set_left.new.image c.stand_over.new.image c.args.kind c.args.root m c.args.j c.args.child c.take-left.result c.take-right.result (take c.left_count-n.result (insert old.children c.args.j c.args.child)) (drop c.left_count-n.result (insert old.children c.args.j c.args.child)) list owned own _ _ _ (take (c.left_count-n.result + 1) (insert old.keys c.args.j c.args.key.now)) (drop c.left_count-n.result (insert old.keys c.args.j c.args.key.now)) s take_q take_p write_p write_q write_root joined some more low

pub returns-clause-others : goal.returns-clause-others
returns-clause-others c = λ s0 m list owned own s n listed not_root.
    let h = c.requires.climbs in
    let take_q = moves_taken c.args.image.now c.take-right.new.self c.args.kind c.take-right.result c.node_length.result _ c.node_length.ensures.length c.take-right.ensures.bytes c.take-right.ensures.taken in
    let take_p = moves_taken c.take-right.new.self c.take-left.new.self c.args.kind c.take-left.result c.node_length-2.result _ c.node_length-2.ensures.length c.take-left.ensures.bytes c.take-left.ensures.taken in
    let old : Node = node_at c.args.image.now.bytes c.args.kind c.args.root in
    let copied = subst (λ (b : List ℕ). IsRewritten c.take-left.new.self c.copy_node.new.image c.args.kind c.take-left.result (node_of c.args.kind b)) (root_bytes₂ h.start c.args.image.now c.take-right.new.self c.take-left.new.self c.args.kind c.args.root h.level c.args.j c.args.child h.list h.owned h.own h.climbs c.take-right.result c.take-left.result take_q take_p) c.copy_node.ensures in
    let left = left_written c.copy_node.new.image c.keep_left.new.image c.set_right.new.image c.args.kind c.take-left.result c.take-right.result c.args.j c.args.child c.left_count-n.result
    c.args.key.now old copied.says c.keep_left.ensures c.set_right.ensures in
    let write_p = rewritten_then c.take-left.new.self c.copy_node.new.image c.set_right.new.image c.args.kind c.take-left.result _ _ copied left in
    let copied_q = subst (λ (b : List ℕ). IsRewritten c.set_right.new.image c.copy_node-2.new.image c.args.kind c.take-right.result (node_of c.args.kind b)) (root_bytes₃ h.start c.args.image.now c.take-right.new.self c.take-left.new.self c.args.kind c.args.root h.level c.args.j c.args.child h.list h.owned h.own h.climbs c.take-right.result c.take-left.result take_q take_p c.set_right.new.image _ write_p) c.copy_node-2.ensures in
    let write_q = right_written c.set_right.new.image c.copy_node-2.new.image c.keep_right.new.image c.set_left.new.image c.args.kind c.take-right.result c.take-left.result c.args.j c.args.child
    c.left_count-n.result c.args.key.now old copied_q c.keep_right.ensures c.set_left.ensures in
    let count = length-children c.args.kind (node_bytes c.args.image.now.bytes c.args.kind c.args.root) old refl in
    let bound = left_bounds c.args.kind.k c.args.j in
    let place = entry_p h.start c.args.image.now c.args.kind c.args.root h.level c.args.root [] c.args.j c.args.child h.list h.owned h.own h.climbs in
    let joined = take-append-drop c.left_count-n.result (insert old.children c.args.j c.args.child) in
    let long = halves_long old.children c.args.kind.k c.args.j c.left_count-n.result c.args.child (omega (arith, count, c.requires.full)) (omega (arith, count, place))
    (omega (arith, bound, c.left_count-n.ensures)) in
    let some : 1 ≤ length (take c.left_count-n.result (insert old.children c.args.j c.args.child)) = omega (arith, long.0, bound, c.requires.some, c.left_count-n.ensures) in
    let more : 1 ≤ length (drop c.left_count-n.result (insert old.children c.args.j c.args.child)) = omega (arith, long.1, bound, c.requires.some, c.left_count-n.ensures) in
    let same : node_at c.set_left.new.image.bytes c.args.kind c.args.root ≡ old = ap (node_of c.args.kind) (root_bytes₄ h.start c.args.image.now c.take-right.new.self c.take-left.new.self c.args.kind c.args.root h.level c.args.j c.args.child h.list h.owned h.own h.climbs c.take-right.result c.take-left.result take_q take_p c.set_right.new.image _ write_p c.set_left.new.image _ write_q) in
    let write_root = rewritten_as c.set_left.new.image c.stand_over.new.image c.args.kind c.args.root _ _ c.stand_over.ensures
    (ap (λ (n : Node). record n {
      level = suc n.level;
      keys = slice_index_or (node_at c.set_left.new.image.bytes c.args.kind c.take-left.result).keys 0 []
          ∷ slice_index_or (node_at c.set_left.new.image.bytes c.args.kind c.take-right.result).keys 0 []
          ∷ slice_index_or (node_at c.set_left.new.image.bytes c.args.kind c.take-right.result).keys (length (node_at c.set_left.new.image.bytes c.args.kind c.take-right.result).children) [] ∷ [];
      children = c.take-left.result ∷ c.take-right.result ∷ [];
    }) same) in
    others_keep s0 c.args.image.now c.take-right.new.self c.take-left.new.self c.set_right.new.image c.set_left.new.image c.stand_over.new.image c.args.kind c.args.root m c.args.j c.args.child c.take-left.result c.take-right.result (take c.left_count-n.result (insert old.children c.args.j c.args.child)) (drop c.left_count-n.result (insert old.children c.args.j c.args.child)) list owned own _ _ _ (take (c.left_count-n.result + 1) (insert old.keys c.args.j c.args.key.now)) (drop c.left_count-n.result (insert old.keys c.args.j c.args.key.now)) s take_q take_p write_p write_q write_root joined some more n listed not_root

pub returns-clause-raised : goal.returns-clause-raised
returns-clause-raised c =
    let h = c.requires.climbs in
    let take_q = moves_taken c.args.image.now c.take-right.new.self c.args.kind c.take-right.result c.node_length.result _ c.node_length.ensures.length c.take-right.ensures.bytes c.take-right.ensures.taken in
    let take_p = moves_taken c.take-right.new.self c.take-left.new.self c.args.kind c.take-left.result c.node_length-2.result _ c.node_length-2.ensures.length c.take-left.ensures.bytes c.take-left.ensures.taken in
    let old : Node = node_at c.args.image.now.bytes c.args.kind c.args.root in
    let copied = subst (λ (b : List ℕ). IsRewritten c.take-left.new.self c.copy_node.new.image c.args.kind c.take-left.result (node_of c.args.kind b)) (root_bytes₂ h.start c.args.image.now c.take-right.new.self c.take-left.new.self c.args.kind c.args.root h.level c.args.j c.args.child h.list h.owned h.own h.climbs c.take-right.result c.take-left.result take_q take_p) c.copy_node.ensures in
    let left = left_written c.copy_node.new.image c.keep_left.new.image c.set_right.new.image c.args.kind c.take-left.result c.take-right.result c.args.j c.args.child c.left_count-n.result
    c.args.key.now old copied.says c.keep_left.ensures c.set_right.ensures in
    let write_p = rewritten_then c.take-left.new.self c.copy_node.new.image c.set_right.new.image c.args.kind c.take-left.result _ _ copied left in
    let copied_q = subst (λ (b : List ℕ). IsRewritten c.set_right.new.image c.copy_node-2.new.image c.args.kind c.take-right.result (node_of c.args.kind b)) (root_bytes₃ h.start c.args.image.now c.take-right.new.self c.take-left.new.self c.args.kind c.args.root h.level c.args.j c.args.child h.list h.owned h.own h.climbs c.take-right.result c.take-left.result take_q take_p c.set_right.new.image _ write_p) c.copy_node-2.ensures in
    let write_q = right_written c.set_right.new.image c.copy_node-2.new.image c.keep_right.new.image c.set_left.new.image c.args.kind c.take-right.result c.take-left.result c.args.j c.args.child
    c.left_count-n.result c.args.key.now old copied_q c.keep_right.ensures c.set_left.ensures in
    let count = length-children c.args.kind (node_bytes c.args.image.now.bytes c.args.kind c.args.root) old refl in
    let bound = left_bounds c.args.kind.k c.args.j in
    let place = entry_p h.start c.args.image.now c.args.kind c.args.root h.level c.args.root [] c.args.j c.args.child h.list h.owned h.own h.climbs in
    let joined = take-append-drop c.left_count-n.result (insert old.children c.args.j c.args.child) in
    let long = halves_long old.children c.args.kind.k c.args.j c.left_count-n.result c.args.child (omega (arith, count, c.requires.full)) (omega (arith, count, place))
    (omega (arith, bound, c.left_count-n.ensures)) in
    let some : 1 ≤ length (take c.left_count-n.result (insert old.children c.args.j c.args.child)) = omega (arith, long.0, bound, c.requires.some, c.left_count-n.ensures) in
    let more : 1 ≤ length (drop c.left_count-n.result (insert old.children c.args.j c.args.child)) = omega (arith, long.1, bound, c.requires.some, c.left_count-n.ensures) in
    let same : node_at c.set_left.new.image.bytes c.args.kind c.args.root ≡ old = ap (node_of c.args.kind) (root_bytes₄ h.start c.args.image.now c.take-right.new.self c.take-left.new.self c.args.kind c.args.root h.level c.args.j c.args.child h.list h.owned h.own h.climbs c.take-right.result c.take-left.result take_q take_p c.set_right.new.image _ write_p c.set_left.new.image _ write_q) in
    let write_root = rewritten_as c.set_left.new.image c.stand_over.new.image c.args.kind c.args.root _ _ c.stand_over.ensures
    (ap (λ (n : Node). record n {
      level = suc n.level;
      keys = slice_index_or (node_at c.set_left.new.image.bytes c.args.kind c.take-left.result).keys 0 []
          ∷ slice_index_or (node_at c.set_left.new.image.bytes c.args.kind c.take-right.result).keys 0 []
          ∷ slice_index_or (node_at c.set_left.new.image.bytes c.args.kind c.take-right.result).keys (length (node_at c.set_left.new.image.bytes c.args.kind c.take-right.result).children) [] ∷ [];
      children = c.take-left.result ∷ c.take-right.result ∷ [];
    }) same) in
    let left_is = ap (node_of c.args.kind) (left_there h.start c.args.image.now c.take-right.new.self c.take-left.new.self c.set_right.new.image c.set_left.new.image c.stand_over.new.image c.args.kind c.args.root h.level c.args.j c.args.child c.take-left.result c.take-right.result (take c.left_count-n.result (insert old.children c.args.j c.args.child)) (drop c.left_count-n.result (insert old.children c.args.j c.args.child)) h.list h.owned h.own _ _ _ (take (c.left_count-n.result + 1) (insert old.keys c.args.j c.args.key.now)) (drop c.left_count-n.result (insert old.keys c.args.j c.args.key.now)) h.climbs take_q take_p write_p write_q write_root joined some more) in
    let right_is = ap (node_of c.args.kind) (right_there h.start c.args.image.now c.take-right.new.self c.take-left.new.self c.set_right.new.image c.set_left.new.image c.stand_over.new.image c.args.kind c.args.root h.level c.args.j c.args.child c.take-left.result c.take-right.result (take c.left_count-n.result (insert old.children c.args.j c.args.child)) (drop c.left_count-n.result (insert old.children c.args.j c.args.child)) h.list h.owned h.own _ _ _ (take (c.left_count-n.result + 1) (insert old.keys c.args.j c.args.key.now)) (drop c.left_count-n.result (insert old.keys c.args.j c.args.key.now)) h.climbs take_q take_p write_p write_q write_root joined some more) in
    let left_was : node_at c.set_left.new.image.bytes c.args.kind c.take-left.result ≡ node_at c.stand_over.new.image.bytes c.args.kind c.take-left.result
    = ap (node_of c.args.kind) (left_bytes₄ h.start c.args.image.now c.take-right.new.self c.take-left.new.self c.args.kind c.args.root h.level c.args.j c.args.child h.list h.owned h.own h.climbs c.take-right.result c.take-left.result take_q take_p c.set_right.new.image _ write_p c.set_left.new.image _ write_q) ∙ sym left_is in (
      c.take-left.result,
      c.take-right.result,
      record {
        left = subst (λ (n : ℕ). node_at c.stand_over.new.image.bytes c.args.kind c.take-left.result ≡ record old { right = c.take-right.result; keys = take (n + 1) (insert old.keys c.args.j c.args.key.now); children = take n (insert old.children c.args.j c.args.child) })
            c.left_count-n.ensures (left_is ∙ write_p.says);
        right = subst (λ (n : ℕ). node_at c.stand_over.new.image.bytes c.args.kind c.take-right.result ≡ record old { left = c.take-left.result; keys = drop n (insert old.keys c.args.j c.args.key.now); children = drop n (insert old.children c.args.j c.args.child) })
            c.left_count-n.ensures (right_is ∙ write_q.says);
        over = write_root.says
            ∙ ap (λ (n : Node). record old {
              level = suc old.level;
              keys = slice_index_or n.keys 0 [] ∷ slice_index_or (node_at c.set_left.new.image.bytes c.args.kind c.take-right.result).keys 0 []
                  ∷ slice_index_or (node_at c.set_left.new.image.bytes c.args.kind c.take-right.result).keys (length (node_at c.set_left.new.image.bytes c.args.kind c.take-right.result).children) [] ∷ [];
              children = c.take-left.result ∷ c.take-right.result ∷ [];
            }) left_was
            ∙ ap (λ (n : Node). record old {
              level = suc old.level;
              keys = slice_index_or (node_at c.stand_over.new.image.bytes c.args.kind c.take-left.result).keys 0 [] ∷ slice_index_or n.keys 0 []
                  ∷ slice_index_or n.keys (length n.children) [] ∷ [];
              children = c.take-left.result ∷ c.take-right.result ∷ [];
            }) (sym right_is);
      },
    )
