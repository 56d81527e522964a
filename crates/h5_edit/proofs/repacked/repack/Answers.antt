use Rattle.std.proofs.Common.{◌≡◌, ap, arith, length, rules, subst, sym, ◌∙◌}
use Rattle.h5_model.specs.Format.Superblock.{AreKValues, k_values}
use Rattle.h5_edit.specs.Fits.Laws.{AreBytes}
use Rattle.h5_edit.proofs.Answered.{k_there, repacked, tree_there}
use Rattle.h5_edit.proofs.FitLaws.OpenedTrees.{opened_plain}
use Rattle.h5_edit.proofs.repacked.repack.Goals as goal

pub k_values-k-requires : goal.k_values-k-requires
k_values-k-requires c =
    let whole = c.image.ensures.sound.reads.holds.superblock.whole in
    omega (arith, whole, ap length (c.bytes-bytes.ensures ∙ c.image.ensures.bytes))

pub opened_objects-requires : goal.opened_objects-requires
opened_objects-requires c =
    let low : AreBytes c.bytes-bytes.result.now = search rules in
    opened_plain c.args.opened.now (rw (c.bytes-bytes.ensures, c.image.ensures.bytes) at low) c.image.ensures.sound

pub write_tree-requires-clause-k : goal.write_tree-requires-clause-k
write_tree-requires-clause-k c =
    let same : c.k_values-k.result ≡ k_values c.args.opened.now.image = c.k_values-k.ensures.exact ∙ ap k_values (c.bytes-bytes.ensures ∙ c.image.ensures.bytes) in
    subst AreKValues (sym same) (k_there c.image.ensures.sound)

pub write_tree-requires-clause-few : goal.write_tree-requires-clause-few
write_tree-requires-clause-few c =
    let few = c.image.ensures.sound.numbers.low in
    omega (arith, few, ap length c.deref.ensures.value, c.in-Ok.ensures.counted)

pub write_tree-requires-clause-tree : goal.write_tree-requires-clause-tree
write_tree-requires-clause-tree c =
    let low : AreBytes c.bytes-bytes.result.now = search rules in (
      c.args.opened.now.tree,
      rw c.deref.ensures.value
          (tree_there c.image.ensures.sound (rw (c.bytes-bytes.ensures, c.image.ensures.bytes) at low) c.in-Ok.objects.items
          c.in-Ok.ensures.objects
          c.in-Ok.ensures.stored),
    )

pub returns-clause-repacked : goal.returns-clause-repacked
returns-clause-repacked c =
    let low : AreBytes c.bytes-bytes.result.now = search rules in
    let k : c.k_values-k.result ≡ k_values c.args.opened.now.image = c.k_values-k.ensures.exact ∙ ap k_values (c.bytes-bytes.ensures ∙ c.image.ensures.bytes) in
    rw c.answer.ensures
    (repacked c.image.ensures.sound (rw (c.bytes-bytes.ensures, c.image.ensures.bytes) at low) c.in-Ok.objects.items
    c.in-Ok.ensures.objects
    c.in-Ok.ensures.stored
    c.k_values-k.result k c.in-Ok.ensures.counted c.write_tree.result (rw c.deref.ensures.value at c.write_tree.ensures.written)
    (rw c.deref.ensures.value at c.write_tree.ensures.numbered) (rw c.deref.ensures.value at c.write_tree.ensures.refused))
