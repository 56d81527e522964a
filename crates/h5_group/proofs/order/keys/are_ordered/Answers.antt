use Rattle.std.proofs.Common.{◌≡◌, ◌<◌, List, ℕ, [], ◌∷◌, length, refl, ap, arith, false, true, below_more}
use Rattle.std.proofs.lemmas.Option.{get_or_from_slice_get}
use Rattle.h5_bytes.specs.Texts.{text_at}
use Rattle.h5_model.specs.Format.Rows.{Node}
use Rattle.h5_btree.specs.Walk.Below.{reading_in}
use Rattle.h5_btree.specs.Walk.Forms.{OfGroup}
use Rattle.h5_btree.proofs.OrderLaws.Elements.{all_at}
use Rattle.h5_group.specs.Order.Between.{NamesAscend}
use Rattle.h5_group.proofs.OrderProofs.AscendLaws.{each_ascends}
use Rattle.h5_group.proofs.OrderProofs.NodeNames.{IsChildNamed, child_named, named_child}
use Rattle.h5_group.proofs.order.keys.are_ordered.Goals as goal

pub is_child_ordered-requires-clause-ascend : goal.is_child_ordered-requires-clause-ascend
is_child_ordered-requires-clause-ascend c =
    let image : List ℕ = c.args.image.now.bytes in
    let segment : List ℕ = c.args.segment.now in
    let node : Node = c.args.node.now in
    let low : c.loop-i.i < length node.children = omega arith in
    let read = get_or_from_slice_get node.children c.loop-i.i c.child.result c.child.result c.child.ensures in
    all_at (λ (n : ℕ). NamesAscend image segment (n ∷ [])) node.children c.loop-i.i c.child.result low read (each_ascends image segment node.children c.requires.ascend)

pub loop-i-preserved : goal.loop-i-preserved
loop-i-preserved c =
    let image : List ℕ = c.args.image.now.bytes in
    let segment : List ℕ = c.args.segment.now in
    let node : Node = c.args.node.now in
    let low : c.loop-i.i < length node.children = omega arith in
    let read = get_or_from_slice_get node.children c.loop-i.i c.child.result 0 c.child.ensures in
    let low_is = ap (text_at segment) (c.loop-i.invariant).0 in
    let high_is = ap (text_at segment) c.key_offset-high.ensures in (
      c.key_offset-high.ensures,
      below_more (IsChildNamed image segment (reading_in image OfGroup) node c.requires.level) c.loop-i.i (c.loop-i.invariant).1
          (child_named image segment (reading_in image OfGroup) node c.requires.level c.loop-i.i c.child.result
          (text_at segment c.loop-i.low) (text_at segment c.key_offset-high.result) low read low_is high_is (c.if-not-is_child_ordered.ensures.0 refl)),
    )

pub returns-then-not-is_child_ordered : goal.returns-then-not-is_child_ordered
returns-then-not-is_child_ordered c =
    let image : List ℕ = c.args.image.now.bytes in
    let segment : List ℕ = c.args.segment.now in
    let node : Node = c.args.node.now in
    let low : c.loop-i.i < length node.children = omega arith in
    let read = get_or_from_slice_get node.children c.loop-i.i c.child.result 0 c.child.ensures in
    let low_is = ap (text_at segment) (c.loop-i.invariant).0 in
    let high_is = ap (text_at segment) c.key_offset-high.ensures in (
      λ (yes : false ≡ true). absurd (cc),
      λ ordered. c.if-not-is_child_ordered.ensures.1
          (named_child image segment (reading_in image OfGroup) node c.requires.level c.loop-i.i c.child.result
          (text_at segment c.loop-i.low) (text_at segment c.key_offset-high.result) low read low_is high_is
          (ordered.rising c.loop-i.i low, ordered.between c.loop-i.i low)),
    )
