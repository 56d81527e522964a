use Rattle.std.proofs.Common.{◌≡◌, ◌≤◌, ◌+◌, length, sym, ap, ◌∙◌, subst, arith}
use Rattle.h5_model.specs.Format.Limits.{most_cells}
use Rattle.h5_file.specs.Patched.{AreCorners, ArePatched}
use Rattle.h5_file.specs.Touched.{met_with}
use Rattle.h5_file.proofs.FollowLaws.{grid_of, met_corners, met_few, nothing_patched}
use Rattle.h5_file.proofs.views.patch_each.Goals as goal
use Rattle.h5_file.proofs.views.patch_each.Goals.{In-Some}

boxes : (c : In-Some) → c.in-Some.boxes ≡ met_with c.args.array.now c.args.touched.now c.args.slab.now
boxes c =
    c.in-Some.ensures c.args.array.now
    (grid_of c.args.array.now c.args.touched.now c.args.grid.now c.args.slab.now c.requires.array c.requires.rank c.requires.apart)

few : (c : In-Some) → length c.in-Some.boxes ≤ most_cells
few c =
    let r = c.requires.array in
    let less = met_few c.args.array.now r.sound c.args.touched.now r.touch c.args.slab.now r.few in
    let same : length c.in-Some.boxes ≡ length (met_with c.args.array.now c.args.touched.now c.args.slab.now) = ap length (boxes c) in
    omega (arith, less, same)

pub boxes-requires : goal.boxes-requires
boxes-requires c =
    (c.args.array.now, grid_of c.args.array.now c.args.touched.now c.args.grid.now c.args.slab.now c.requires.array c.requires.rank c.requires.apart)

pub returns-in_default-clause-met : goal.returns-in_default-clause-met
returns-in_default-clause-met c =
    let r = c.requires.array in
    let slab = c.args.slab.now in
    nothing_patched c.args.array.now r.sound c.args.touched.now r.touch slab c.args.kept.now
    (c.in_default.ensures c.args.array.now (grid_of c.args.array.now c.args.touched.now c.args.grid.now slab r c.requires.rank c.requires.apart))

pub patch_boxes-requires-clause-corners : goal.patch_boxes-requires-clause-corners
patch_boxes-requires-clause-corners c =
    let b = (goal.at.patch_boxes-requires-clause-corners c).In-Some in
    let r = c.requires.array in
    subst (λ (X : Type 0). X) (λ i. AreCorners c.args.slab.now (sym r.grid_is i) (sym (boxes b) i))
    (met_corners c.args.array.now r.sound c.args.touched.now r.touch c.args.slab.now c.requires.rank)

pub patch_boxes-requires-clause-few : goal.patch_boxes-requires-clause-few
patch_boxes-requires-clause-few c = let b = (goal.at.patch_boxes-requires-clause-few c).In-Some in omega (arith, few b)

pub returns-clause-met : goal.returns-clause-met
returns-clause-met c =
    let b = (goal.at.returns-clause-met c).In-Some in
    let met = boxes b in
    let count : c.patch_boxes.result ≡ length (met_with c.args.array.now c.args.touched.now c.args.slab.now) = c.patch_boxes.ensures.count ∙ ap length met in
    record {
      counted = count;
      patches = c.patch_boxes.ensures.patches ∙ ap (λ n. c.args.kept.now.patches + n) (sym c.patch_boxes.ensures.count);
      bytes = subst (λ (X : Type 0). X) (λ i. ArePatched c.args.array.now c.args.slab.now (met i) (c.requires.array.grid_is i) c.args.kept.now.bytes c.patch_boxes.new.self.bytes)
          c.patch_boxes.ensures.bytes;
    }

pub returns-clause-few : goal.returns-clause-few
returns-clause-few c = let b = (goal.at.returns-clause-few c).In-Some in omega (arith, few b, c.patch_boxes.ensures.count)
