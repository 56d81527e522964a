use Rattle.std.proofs.Common.{◌≡◌, ◌∙◌, ap, length, map, sym, subst}
use Rattle.h5_laws.proofs.Lists.{refilled}
use Rattle.h5_file.specs.ByArray.{AreByArray}
use Rattle.h5_file.specs.OpenViews.{numbered_view}
use Rattle.h5_file.proofs.FollowedViews.{listed_same}
use Rattle.h5_file.proofs.ViewLaws.{same_long}
use Rattle.h5_file.proofs.open_views.OpenViews.follow.Goals as goal

pub invariant_of-self : goal.invariant_of-self
invariant_of-self c =
    let s = c.self.inside in
    let new = c.follow_all.new.views in
    let same : map numbered_view new ≡ map numbered_view s.views.items = c.follow_all.ensures.same ∙ ap (map numbered_view) c.deref_mut.ensures.value in
    let back = refilled s.views.len new s.views.items (same_long s.views.items new same) (sym c.deref_mut.ensures.len ∙ ap length c.deref_mut.ensures.value) in
    subst (AreByArray s.by_array.items) (sym back) (listed_same s.by_array.items s.views.items new c.self.invariant same)
