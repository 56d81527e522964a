use Rattle.std.proofs.Common.{◌≡◌, ◌≤◌, ℕ, List, length, replicate, take, sym, ap, ◌∙◌, arith}
use Rattle.std.proofs.lemmas.List.{length-take}
use Rattle.h5_model.specs.Format.Limits.{most_dimensions}
use Rattle.h5_space.specs.Space.{Space}
use Rattle.h5_header.specs.Listed.{Listed, messages_in}
use Rattle.h5_layout.specs.ArrayEdits.{IsArrayApart, described_in}
use Rattle.h5_layout.specs.Extents.{CanHaveSizes}
use Rattle.h5_layout.proofs.ExtentBounds.{few_sizes}
use Rattle.h5_layout.proofs.KeptLaws.{length-smaller}
use Rattle.h5_layout.proofs.resize.trim_to_smaller.Goals as goal

-- the room for the most sizes that there are
fitting : (n : ℕ) → n ≤ 32 → length {A = ℕ} (take n (replicate 32 0)) ≡ n
fitting n few = length-take {A = ℕ} n (replicate 32 0) ∙ omega (arith, few)

few : (s : Space) (m : Listed) → IsArrayApart s m → (sizes : List ℕ) → CanHaveSizes (described_in s.bytes m) sizes → length sizes ≤ most_dimensions
few s m was sizes can = omega (arith, can.ranked, few_sizes (messages_in s.bytes m.list) (described_in s.bytes m) was.array)

pub slice_bounds-room-end : goal.slice_bounds-room-end
slice_bounds-room-end c = few c.args.image.now c.args.messages.now c.requires.array c.args.sizes.now c.requires.sizes

pub slice_bounds-smaller-end : goal.slice_bounds-smaller-end
slice_bounds-smaller-end c =
    sym (fitting (length c.args.sizes.now) (few c.args.image.now c.args.messages.now c.requires.array c.args.sizes.now c.requires.sizes))

pub write_smaller-requires-clause-room : goal.write_smaller-requires-clause-room
write_smaller-requires-clause-room c =
    fitting (length c.args.sizes.now) (few c.args.image.now c.args.messages.now c.requires.array c.args.sizes.now c.requires.sizes)

pub trim-requires-clause-rank : goal.trim-requires-clause-rank
trim-requires-clause-rank c =
    ap length c.write_smaller.ensures ∙ length-smaller (described_in c.args.image.now.bytes c.args.messages.now).sizes c.args.sizes.now c.requires.sizes.ranked
