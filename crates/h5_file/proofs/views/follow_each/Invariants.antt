use Rattle.std.proofs.Common.{◌*◌, ◌≤◌, drop, map}
use Rattle.h5_model.specs.Format.Limits.{most_cells}
use Rattle.h5_file.specs.declared.by_array.ArrayView.{ArrayView}
use Rattle.h5_file.proofs.FollowedViews.{AreFollowedTo}
use Rattle.h5_file.proofs.views.follow_each.Given as goal

-- the views that are listed first followed, and the others are as they were
abbrev pub invariant-loop-view : goal.invariant-loop-view
invariant-loop-view l = record {
  followed : AreFollowedTo l.fn.number.0 l.array l.touched l.initial.views (map (λ (v : ArrayView). v.number) (drop l.view-index l.own)) l.count l.views;
  low : l.count ≤ l.view-index * most_cells;
}
