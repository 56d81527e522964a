use Rattle.std.proofs.Common.{◌≡◌, ◌≤◌, ℕ, List, length, sym, ap, ◌∙◌, subst, arith}
use Rattle.std.proofs.lemmas.List.{length-take-le}
use Rattle.h5_header.specs.Listed.{Listed, messages_in}
use Rattle.h5_model.specs.Format.Described.{Described, HasArray}
use Rattle.h5_model.specs.Format.Limits.{most_dimensions}
use Rattle.h5_layout.proofs.KeptLaws.{length-smaller}
use Rattle.h5_layout.specs.ArrayEdits.{described_in}
use Rattle.h5_layout.specs.Kept.{smaller_sizes}
use Rattle.h5_layout.specs.Trimmed.{AreOutside}
use Rattle.h5_layout.proofs.ExtentBounds.{few_sizes}
use Rattle.h5_open.proofs.opened.resized.look_outside.Goals as goal

-- there are as many sizes as a message has
few : (image : List ℕ) (m : Listed) (ms : HasArray (messages_in image m.list) (described_in image m)) (old : List ℕ) → old ≡ (described_in image m).sizes → length old ≤ most_dimensions
few image m has old same = omega (arith, few_sizes (messages_in image m.list) (described_in image m) has, ap length same)

pub returns-then-lacks_tree : goal.returns-then-lacks_tree
returns-then-lacks_tree c =
    let sizes : List ℕ = smaller_sizes (described_in c.args.image.now.bytes c.args.messages.now).sizes c.args.sizes.now in
    (rw c.new-header.ensures at c.lacks_tree.ensures.trimmed c.if-lacks_tree.true sizes)

pub slice_bounds-room-end : goal.slice_bounds-room-end
slice_bounds-room-end c = few c.args.image.now.bytes c.args.messages.now c.requires.array.array c.sizes_of-old.result.now (rw c.new-header.ensures at c.sizes_of-old.ensures)

pub slice_bounds-smaller-end : goal.slice_bounds-smaller-end
slice_bounds-smaller-end c = sym (length-take-le (length c.sizes_of-old.result.now) _ (few c.args.image.now.bytes c.args.messages.now c.requires.array.array c.sizes_of-old.result.now (rw c.new-header.ensures at c.sizes_of-old.ensures)))

pub copy_smaller-requires-clause-room : goal.copy_smaller-requires-clause-room
copy_smaller-requires-clause-room c = length-take-le (length c.sizes_of-old.result.now) _ (few c.args.image.now.bytes c.args.messages.now c.requires.array.array c.sizes_of-old.result.now (rw c.new-header.ensures at c.sizes_of-old.ensures))

pub outside_of-requires-clause-rank : goal.outside_of-requires-clause-rank
outside_of-requires-clause-rank c =
    let old : List ℕ = c.sizes_of-old.result.now in
    let same = (rw c.new-header.ensures at c.sizes_of-old.ensures) in
    let rank : length c.args.sizes.now ≡ length old = c.requires.sizes.ranked ∙ ap length (sym same) in
    ap length c.copy_smaller.ensures ∙ length-smaller old c.args.sizes.now rank ∙ ap length same

pub returns : goal.returns
returns c =
    let image : List ℕ = c.args.image.now.bytes in
    let a : Described = described_in image c.args.messages.now in
    let sizes : List ℕ = c.args.sizes.now in
    subst (λ (ns : List ℕ). AreOutside image a ns c.in_ok-outside.outside)
    (c.copy_smaller.ensures ∙ ap (λ (old : List ℕ). smaller_sizes old sizes) (rw c.new-header.ensures at c.sizes_of-old.ensures)) (c.in_ok-outside.ensures.lost, c.in_ok-outside.ensures.edge)
