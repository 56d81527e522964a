use Rattle.std.proofs.Common.{◌≡◌, true, Option, List, ap, ◌∙◌, subst, arith, ℕ}
use Rattle.h5_model.specs.Edits.Refusal.{are_maxima}
use Rattle.h5_header.specs.Listed.{messages_in}
use Rattle.h5_layout.specs.ArrayEdits.{described_in}
use Rattle.h5_layout.specs.ExtentNow.{HasExtentNow}
use Rattle.h5_layout.proofs.ExtentBounds.{few_sizes, sizes_bounded}
use Rattle.h5_layout.proofs.ExtentMoved.{sized}
use Rattle.h5_layout.proofs.extent.set_sizes.Goals as goal
use Rattle.h5_layout.proofs.extent.set_sizes.Goals.{After-read_maxima-lacks}

pub add_extent-requires-clause-rank : goal.add_extent-requires-clause-rank
add_extent-requires-clause-rank c =
    let image = c.args.image.now.bytes in
    let m = c.args.messages.now in
    omega (arith, c.requires.sizes.ranked, few_sizes (messages_in image m.list) (described_in image m) c.requires.array.array)

-- no size is above its maximum
bounds : (c : After-read_maxima-lacks) → are_maxima c.args.sizes.now c.read_maxima-lacks.result.1.now ≡ true
bounds c =
    let image = c.args.image.now.bytes in
    let m = c.args.messages.now in
    ap (are_maxima c.args.sizes.now) (rw c.new.ensures at c.read_maxima-lacks.ensures.maxima)
    ∙ sizes_bounded (messages_in image m.list) (described_in image m) c.requires.array.array c.args.sizes.now c.requires.sizes

pub add_extent-requires-clause-bounds : goal.add_extent-requires-clause-bounds
add_extent-requires-clause-bounds c = bounds (goal.at.add_extent-requires-clause-bounds c).After-read_maxima-lacks

pub write_extent-requires-clause-bounds : goal.write_extent-requires-clause-bounds
write_extent-requires-clause-bounds c = bounds (goal.at.write_extent-requires-clause-bounds c).After-read_maxima-lacks

pub returns-then-lacks-clause-sized : goal.returns-then-lacks-clause-sized
returns-then-lacks-clause-sized c =
    let old = c.args.image.now in
    let m = c.args.messages.now in
    let new = c.add_extent.new.image in
    let m' = c.add_extent.new.messages in
    sized old new m m' c.requires.array c.args.sizes.now c.requires.sizes
    (subst (λ (ns : List (Option ℕ)). HasExtentNow old new m m' (record { sizes = c.args.sizes.now; maxima = ns }))
    (rw c.new.ensures at c.read_maxima-lacks.ensures.maxima) c.add_extent.ensures.extent)

pub returns-else-lacks-clause-sized : goal.returns-else-lacks-clause-sized
returns-else-lacks-clause-sized c =
    let old = c.args.image.now in
    let m = c.args.messages.now in
    let new = c.write_extent.new.image in
    sized old new m m c.requires.array c.args.sizes.now c.requires.sizes
    (subst (λ (ns : List (Option ℕ)). HasExtentNow old new m m (record { sizes = c.args.sizes.now; maxima = ns }))
    (rw c.new.ensures at c.read_maxima-lacks.ensures.maxima) c.write_extent.ensures.extent)
