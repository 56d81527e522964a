use Rattle.std.proofs.Common.{rules, ◌≡◌, ◌<◌, ℕ, List, true, sym, ap, ◌∙◌, subst}
use Rattle.std.specs.Prelude.{slice_index}
use Rattle.h5_model.specs.Format.Fixed.{IsFixed}
use Rattle.h5_model.specs.Views.Selection.{is_within}
use Rattle.h5_file.proofs.ShowLaws.{kept_there, lent_bytes, lent_found, shown_there}
use Rattle.h5_file.proofs.views.KeptView.show.Goals as goal
use Rattle.h5_file.proofs.views.KeptView.show.Goals.{After-fixed-fixed}

within-is : (c : After-fixed-fixed) → is_within c.in-Some.array.sizes c.args.self.now.slab ≡ true
within-is c =
    let holds : c.within.result ≡ true = search rules in
    ap (λ (ds : List ℕ). is_within ds c.args.self.now.slab) (sym c.dims.ensures) ∙ sym (rw c.slab-slab.ensures at c.within.ensures.value) ∙ holds

pub returns-in-Some-kept-clause-shown : goal.returns-in-Some-kept-clause-shown
returns-in-Some-kept-clause-shown c =
    let within = within-is (goal.at.returns-in-Some-kept-clause-shown c).After-fixed-fixed in
    let v = c.args.self.now in
    kept_there c.args.file.now.tree v c.in-Some.array c.in-Some.ensures within c.fixed-fixed.result c.fixed-fixed.ensures (c.requires.fit.ranked c.in-Some.array c.in-Some.ensures)
    (rw c.slab-slab.ensures at c.axes-axes.ensures.sound.apart) c.requires.shown c.in-Some-kept.kept c.in-Some-kept.is c.bytes.result.now c.bytes.ensures

pub returns-in-None-clause-shown : goal.returns-in-None-clause-shown
returns-in-None-clause-shown c =
    let within = within-is (goal.at.returns-in-None-clause-shown c).After-fixed-fixed in
    let v = c.args.self.now in
    let d = c.in-Some.array in
    let type : IsFixed c.fixed-fixed.result = search rules in
    let low : (i : ℕ) → slice_index c.unwrap-bytes.result.now i < 256 = search rules in
    let lent = lent_found d v.slab c.unwrap-bytes.result c.lent.result (rw c.slab-slab.ensures at c.lent.ensures) c.unwrap-bytes.ensures in
    shown_there c.args.file.now.tree v d c.in-Some.ensures within c.fixed-fixed.result c.fixed-fixed.ensures c.unwrap-bytes.result.now
    (lent_bytes d v.slab c.unwrap-bytes.result.now (subst IsFixed c.fixed-fixed.ensures type) low lent)
