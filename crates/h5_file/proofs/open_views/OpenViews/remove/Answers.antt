use Rattle.std.proofs.Common.{◌≡◌, ◌<◌, List, length, get_or, sym, ap, subst}
use Rattle.h5_file.specs.OpenViews.{AreNumbered}
use Rattle.h5_file.specs.declared.views.KeptView.{KeptView}
use Rattle.h5_file.proofs.ByArrayLaws.{listed_less}
use Rattle.h5_file.proofs.open_views.OpenViews.remove.Goals as goal

pub invariant_of-self : goal.invariant_of-self
invariant_of-self c =
    let s = c.self.inside in
    let closed = c.remove-closed.result in
    let end = c.requires.rise.0 in
    let rise : AreNumbered s.views.items end = subst (λ (vs : List KeptView). AreNumbered vs end) (sym c.self.view_is) c.requires.rise.1 in
    let there : c.args.at < length s.views.items = subst (λ (vs : List KeptView). c.args.at < length vs) (sym c.self.view_is) c.requires.place in
    let number_is : (get_or s.views.items c.args.at closed).number ≡ closed.number = sym (ap (λ (v : KeptView). v.number) c.remove-closed.ensures.value) in
    listed_less s.by_array.items c.unlist_view.new.listed.items s.views.items c.remove-closed.new.self.items end c.args.at closed.number closed
    c.self.invariant rise there number_is c.unlist_view.ensures c.remove-closed.ensures.items
