use Rattle.std.proofs.Common.{◌≡◌, refl, sym, ◌∙◌, subst}
use Rattle.std.proofs.lemmas.Option.{same_Some}
use Rattle.h5_model.specs.Tree.Objects.{Dataset}
use Rattle.h5_edit.specs.Opened.State.{FileState}
use Rattle.h5_edit.specs.Selected.{IsSelectedAt}
use Rattle.h5_file.specs.OpenViews.{IsKeptOf}
use Rattle.h5_file.proofs.ArrayFacts.{array_sound}
use Rattle.h5_file.proofs.ViewLaws.{first_kept, fit_opened, selected_array}
use Rattle.h5_file.proofs.views.KeptView.open.Goals as goal

pub returns-clause-fit : goal.returns-clause-fit
returns-clause-fit c =
    let at = c.in-Ok.selected in
    let f = c.args.file.now in
    let is = subst (λ (f : FileState). IsSelectedAt f.tree c.args.path.now c.args.hyper.now at) c.file.view_is c.in-Ok.ensures in
    let sound = array_sound f c.image-image.ensures.low c.image-image.ensures.sound at.0 at.1 (selected_array f c.args.path.now c.args.hyper.now at.0 at.1 at.2 is) in
    rw c.in_ok-slab.ensures (fit_opened f c.args.path.now c.args.hyper.now at.0 at.1 at.2 c.image-image.ensures.sound is c.axes-axes.ensures.sound sound.few
    (record { number = c.args.number; object = at.0; slab = at.2; kept = c.in_ok-kept.kept }) refl refl c.in_ok-kept.ensures.kept)

pub returns-clause-shown : goal.returns-clause-shown
returns-clause-shown c = λ d there.
    let at = c.in-Ok.selected in
    let f = c.args.file.now in
    let is = subst (λ (f : FileState). IsSelectedAt f.tree c.args.path.now c.args.hyper.now at) c.file.view_is c.in-Ok.ensures in
    let same : at.1 ≡ d = same_Some _ _ (sym (selected_array f c.args.path.now c.args.hyper.now at.0 at.1 at.2 is) ∙ there) in
    rw c.in_ok-slab.ensures (subst (λ (d : Dataset). IsKeptOf d at.2 c.in_ok-kept.kept) same c.in_ok-kept.ensures.kept)

pub returns-clause-first : goal.returns-clause-first
returns-clause-first c =
    let at = c.in-Ok.selected in
    let f = c.args.file.now in
    let is = subst (λ (f : FileState). IsSelectedAt f.tree c.args.path.now c.args.hyper.now at) c.file.view_is c.in-Ok.ensures in
    rw c.in_ok-slab.ensures (first_kept f.tree at.0 at.2 at.1 (selected_array f c.args.path.now c.args.hyper.now at.0 at.1 at.2 is) c.in_ok-kept.kept c.in_ok-kept.ensures.kept c.in_ok-kept.ensures.first)
