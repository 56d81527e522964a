use Rattle.std.proofs.Common.{◌≡◌, ◌∙◌, ◌==◌, ℕ, ◌+◌, ◌-◌, ◌<◌, ◌≤◌, List, [], get_or, length, take, ap, sym, subst, arith, rules, Option, Some}
use Rattle.std.specs.Prelude.{if◌then◌else◌, slice_get}
use Rattle.std.proofs.lemmas.List.{take_all, take_more}
use Rattle.std.specs.BTreeMap.{BTreeMap}
use Rattle.std.specs.List.{Contains, IsDistinct}
use Rattle.std.specs.Ordering.{nat_cmp, eq_by_cmp}
use Rattle.h5_bytes.specs.Blocks.{Separate, cover}
use Rattle.h5_bytes.specs.declared.Block.{Block}
use Rattle.h5_laws.proofs.Lists.{contains_in}
use Rattle.h5_model.specs.Format.Messages.{prefix_at, reference_count}
use Rattle.h5_model.specs.Tree.Objects.{hard_links}
use Rattle.h5_space.specs.Claimed.{Claimed}
use Rattle.h5_space.specs.Space.{Space}
use Rattle.h5_open.specs.declared.opened.losses.Losses.{Losses}
use Rattle.h5_open.specs.declared.opened.object.OpenedObject.{OpenedObject}
use Rattle.h5_open.specs.LostLinks.{HaveLostLinks, AreLossesParted, IsLossPut, links_lost}
use Rattle.h5_open.specs.Opened.Kept.{IsObjectKept, IsOpened}
use Rattle.h5_open.specs.Opened.Objects.{header_of, object_blocks, tree_of}
use Rattle.h5_open.specs.SlotsInPlace.{blocks_at}
use Rattle.h5_open.proofs.LostLaws.{in_get}
use Rattle.h5_open.proofs.LostParted.{next_other, parted_empty, parted_put}
use Rattle.h5_open.proofs.LostSlots.{linked_count, linked_there, there_slot}
use Rattle.h5_open.proofs.OpenedLaws.Sounds.{object_of}
use Rattle.h5_open.proofs.opened.losses.part_losses.Goals as goal
use Rattle.h5_open.proofs.TouchedBlocks.{blocks_of_slot}

pub loop-number-init : goal.loop-number-init
loop-number-init c =
    let image = c.args.image.now.bytes in
    let slots = c.args.index.now.objects.items in
    let none : c.new-3.result.held ≡ [] = ap (λ (k : Claimed). k.held) c.new-3.ensures in
    record {
      parted = parted_empty (hard_links (tree_of image slots)) (links_lost c.args.lost.now.counts) (blocks_at image slots) c.new.result.items c.new-2.result.items c.new-3.result.held
          c.new.ensures.items c.new-2.ensures.items none;
      separate = subst Separate (sym none) (λ p. omega arith);
      inside = ap (λ (k : Claimed). k.end) c.new-3.ensures ∙ ap (λ (bs : List ℕ). length bs) c.bytes.ensures;
    }

-- the next object is one of those that lose links
module _ (image : Space) (slots : List (Option OpenedObject)) (numbers : BTreeMap ℕ ℕ) (opened : IsOpened image slots numbers) (lost : List ℕ) (counts : BTreeMap ℕ ℕ)
    (are : HaveLostLinks lost counts) (few : (n : ℕ) → links_lost counts n ≤ hard_links (tree_of image.bytes slots) n) (items : List ℕ) (same : items ≡ lost) (i : ℕ) (low : i < length items) where
  abbrev number : ℕ
  number = get_or items i 0

  has_lost : 1 ≤ links_lost counts number
  has_lost = (are.each number).0 (subst (λ (ns : List ℕ). Contains ns number) same (contains_in number items (in_get items i 0 low)))

  linked : 1 ≤ hard_links (tree_of image.bytes slots) number
  linked = let some = has_lost in omega (arith, some, few number)

  next_slot : (p : OpenedObject) × (slice_get slots number ≡ Some (Some p))
  next_slot = there_slot image.bytes slots number (linked_there image slots numbers opened number linked)

  module _ (p : OpenedObject) (at : slice_get slots number ≡ Some (Some p)) where
    next_kept : IsObjectKept image.bytes p
    next_kept = (object_of image slots numbers opened number p at).kept

    next_count : reference_count (prefix_at image.bytes (header_of p)) ≡ hard_links (tree_of image.bytes slots) number
    next_count = linked_count image slots numbers opened number linked p at

    next_few : links_lost counts number ≤ reference_count (prefix_at image.bytes (header_of p))
    next_few = omega (arith, next_count, few number)

    next_parted : (old new : Losses) (count : ℕ) → count ≡ links_lost counts number
        → AreLossesParted (hard_links (tree_of image.bytes slots)) (links_lost counts) (blocks_at image.bytes slots) (take i items) old.gone.items old.less.items old.blocks.held
        → IsLossPut old new number (reference_count (prefix_at image.bytes (header_of p)) - count) (object_blocks image.bytes p)
        → AreLossesParted (hard_links (tree_of image.bytes slots)) (links_lost counts) (blocks_at image.bytes slots) (take (i + 1) items) new.gone.items new.less.items new.blocks.held
    next_parted old new count is so_far put =
        let left = reference_count (prefix_at image.bytes (header_of p)) - count in
        let covers = λ (q : ℕ). put.covered q ∙ ap (λ (bs : List Block). cover q old.blocks.held + (if left == 0 then cover q bs else 0)) (sym (blocks_of_slot image.bytes slots number p at)) in
        subst (λ (ns : List ℕ). AreLossesParted (hard_links (tree_of image.bytes slots)) (links_lost counts) (blocks_at image.bytes slots) ns new.gone.items new.less.items new.blocks.held)
        (sym (take_more items i 0 low))
        (parted_put (hard_links (tree_of image.bytes slots)) (links_lost counts) (blocks_at image.bytes slots) (take i items) old.gone.items old.less.items old.blocks.held so_far
        number left (next_other items i (subst (IsDistinct (eq_by_cmp nat_cmp)) (sym same) are.once) low) (omega (arith, next_count, next_few, is)) new.blocks.held new.gone.items new.less.items put.gone put.less covers)

pub object_numbered-object-requires : goal.object_numbered-object-requires
object_numbered-object-requires c =
    next_slot c.args.image.now c.args.index.now.objects.items c.args.index.now.numbers c.requires.opened c.args.lost.now.numbers.items c.args.lost.now.counts c.requires.lost c.requires.few
    c.deref-number-items.result.now c.deref-number-items.ensures.value c.loop-number.number-index c.loop-number-test.true

pub put_loss-requires-clause-superblock : goal.put_loss-requires-clause-superblock
put_loss-requires-clause-superblock c = c.requires.opened.reads.1.holds.superblock

pub put_loss-requires-clause-kept : goal.put_loss-requires-clause-kept
put_loss-requires-clause-kept c =
    next_kept c.args.image.now c.args.index.now.objects.items c.args.index.now.numbers c.requires.opened c.args.lost.now.numbers.items c.args.lost.now.counts c.requires.lost c.requires.few
    c.deref-number-items.result.now c.deref-number-items.ensures.value c.loop-number.number-index c.loop-number-test.true c.object_numbered-object.result.now c.object_numbered-object.ensures

pub put_loss-requires-clause-few : goal.put_loss-requires-clause-few
put_loss-requires-clause-few c =
    let is : c.unwrap_or-count.result ≡ links_lost c.args.lost.now.counts (get_or c.deref-number-items.result.now c.loop-number.number-index 0) = search rules in
    let few = next_few c.args.image.now c.args.index.now.objects.items c.args.index.now.numbers c.requires.opened c.args.lost.now.numbers.items c.args.lost.now.counts c.requires.lost c.requires.few
    c.deref-number-items.result.now c.deref-number-items.ensures.value c.loop-number.number-index c.loop-number-test.true c.object_numbered-object.result.now c.object_numbered-object.ensures in
    omega (arith, is, few)

pub loop-number-preserved : goal.loop-number-preserved
loop-number-preserved c =
    let is : c.unwrap_or-count.result ≡ links_lost c.args.lost.now.counts (get_or c.deref-number-items.result.now c.loop-number.number-index 0) = search rules in
    record {
      parted = next_parted c.args.image.now c.args.index.now.objects.items c.args.index.now.numbers c.requires.opened c.args.lost.now.numbers.items c.args.lost.now.counts c.requires.lost c.requires.few
          c.deref-number-items.result.now c.deref-number-items.ensures.value c.loop-number.number-index c.loop-number-test.true c.object_numbered-object.result.now c.object_numbered-object.ensures
          c.loop-number.losses c.put_loss.new.losses c.unwrap_or-count.result is c.loop-number.invariant.parted c.in_ok-put_loss.ensures.put;
      separate = c.in_ok-put_loss.ensures.separate;
      inside = c.put_loss.ensures.inside ∙ c.loop-number.invariant.inside;
    }

pub returns-clause-parted : goal.returns-clause-parted
returns-clause-parted c =
    let image = c.args.image.now.bytes in
    let slots = c.args.index.now.objects.items in
    let all = take_all c.loop-number.number-index c.deref-number-items.result.now (omega (arith, c.loop-number-test.false)) ∙ c.deref-number-items.ensures.value in
    subst (λ (ns : List ℕ). AreLossesParted (hard_links (tree_of image slots)) (links_lost c.args.lost.now.counts) (blocks_at image slots) ns
    c.loop-number.losses.gone.items c.loop-number.losses.less.items c.loop-number.losses.blocks.held) all c.loop-number.invariant.parted
