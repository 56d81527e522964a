use Rattle.std.proofs.Common.{◌≡◌, ℕ, ◌+◌, ◌-◌, ◌++◌, length, take, refl, ap, ◌∙◌, arith}
use borrow.Rule.Slice.PartMut.{put_mid}
use Rattle.h5_file.proofs.GatherLaws.{piece_bytes, piece_long, written_behind}
use Rattle.h5_file.proofs.selected.copy_cells.Goals as goal

pub slice_bounds-copy_from_slice-end : goal.slice_bounds-copy_from_slice-end
slice_bounds-copy_from_slice-end c =
    let long = piece_long c.args.fixed.now c.args.bytes.now c.size-size.ensures.one_of (λ i. (c.type_inv.bytes i).fits) c.requires.whole in
    omega (arith, long, c.requires.room)

pub returns-clause-end : goal.returns-clause-end
returns-clause-end c =
    let long = piece_long c.args.fixed.now c.args.bytes.now c.size-size.ensures.one_of (λ i. (c.type_inv.bytes i).fits) c.requires.whole in
    omega (arith, long)

pub returns-clause-written : goal.returns-clause-written
returns-clause-written c =
    let low = λ (i : ℕ). (c.type_inv.bytes i).fits in
    let long = piece_long c.args.fixed.now c.args.bytes.now c.size-size.ensures.one_of low c.requires.whole in
    let n = length c.args.bytes.now in
    let width : c.args.at + n - c.args.at ≡ n = omega arith in
    (λ i. take (c.args.at + n) (put_mid c.args.at (width i) c.args.room.now (c.copy_from_slice.ensures.after i)))
    ∙ written_behind c.args.at n c.args.bytes.now c.args.room.now refl (omega (arith, long, c.requires.room))
    ∙ ap (λ xs. take c.args.at c.args.room.now ++ xs) (piece_bytes c.args.fixed.now c.args.bytes.now c.size-size.ensures.one_of low c.requires.whole)
