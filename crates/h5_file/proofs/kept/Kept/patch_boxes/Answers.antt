use Rattle.std.proofs.Common.{rules, ◌≡◌, ◌+◌, ◌++◌, ℕ, List, [], ◌∷◌, length, sym, ap, ◌∙◌, subst, append_assoc, length-append, arith}
use Rattle.h5_file.specs.Patched.{AreCorners, IsPatched}
use Rattle.h5_file.proofs.Refreshed.{one_patched}
use Rattle.h5_file.proofs.kept.Kept.patch_boxes.Goals as goal

pub loop-corner-preserved : goal.loop-corner-preserved
loop-corner-preserved c =
    let d = c.args.array.now in
    let slab = c.args.slab.now in
    let grid = c.args.grid.now in
    let so_far = c.loop-corner.invariant in
    let corner : List ℕ = c.in-Some.corner in
    let left : c.loop-corner.corner-iterator ≡ corner ∷ c.next.new.self = c.in-Some.ensures.steps in
    let first : c.sizes.result.now ≡ corner = search rules in
    let second : c.sizes-in-loop-corner.result.now ≡ grid = search rules in
    let step : IsPatched d slab corner grid c.loop-corner.self.bytes c.patch.new.self.bytes
    = subst (λ (X : Type 0). X) (λ i. IsPatched d slab (first i) (second i) c.loop-corner.self.bytes c.patch.new.self.bytes) c.patch.ensures.bytes in
    let more : length (so_far.done ++ corner ∷ []) ≡ length so_far.done + 1 = length-append so_far.done (corner ∷ []) in
    record {
      done = so_far.done ++ corner ∷ [];
      parts = so_far.parts ∙ ap (λ (xs : List (List ℕ)). so_far.done ++ xs) left ∙ sym (append_assoc so_far.done (corner ∷ []) c.next.new.self);
      corners = (subst (AreCorners slab grid) left so_far.corners).1;
      count = omega (arith, more, so_far.count);
      bytes = one_patched d slab grid so_far.done corner c.args.self.now.bytes c.loop-corner.self.bytes c.patch.new.self.bytes so_far.bytes step;
      patches = omega (arith, more, so_far.patches, c.patch.ensures.patches);
    }
