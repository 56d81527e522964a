use Rattle.std.proofs.Common.{◌≡◌, ◌≤◌, ℕ, List, Some, None, true, false, sym, ap, ◌∙◌, subst}
use Rattle.std.specs.Option.{is_some}
use Rattle.std.specs.Result.{result_ok}
use Rattle.h5_model.specs.Edits.Refusal.{first_holding}
use Rattle.h5_model.specs.Format.Limits.{most_cells}
use Rattle.h5_model.specs.Scripts.Reading.{dataset_rules}
use Rattle.h5_model.specs.Tree.Paths.{dataset_at}
use Rattle.h5_model.specs.Tree.Places.{cells}
use Rattle.h5_file.proofs.AcceptedEdits.{fault_by, few_dims, found_by, resize_path, sound_at}
use Rattle.h5_file.proofs.touched.Touched.lost.Goals as goal
use Rattle.h5_file.proofs.touched.Touched.lost.Goals.{In_ok-_number}

pub returns-in_err-_number : goal.returns-in_err-_number
returns-in_err-_number c =
    let f = c.args.file.now in
    let none : result_ok c.array_at.result ≡ None = sym c.ok.ensures.value ∙ c.in_err-_number.was in
    let refused = fault_by _ _ c.array_at.result c.array_at.ensures.there none in
    let here : first_holding (dataset_rules f.tree c.args.path.now) ≡ Some refused.0 = (λ i. first_holding (dataset_rules ((sym c.file.view_is i).tree) c.args.path.now)) ∙ refused.1 in
    rw (c.from_residual.ensures) (λ allowed. absurd (resize_path f.tree f.next c.args.path.now c.args.dims.now allowed refused.0 here))

-- the array that stands there
found : (c : In_ok-_number) → dataset_at c.args.file.now.tree c.args.path.now ≡ Some c.in_ok-_number.array
found c =
    let is : result_ok c.array_at.result ≡ Some (c.in_ok-_number._number, c.in_ok-_number.array) = sym c.ok.ensures.value ∙ c.in_ok-_number.was in
    let there = found_by _ _ c.array_at.result (c.in_ok-_number._number, c.in_ok-_number.array) c.array_at.ensures.there is in
    (λ i. dataset_at ((sym c.file.view_is i).tree) c.args.path.now) ∙ there.found

pub returns-in_err-kept : goal.returns-in_err-kept
returns-in_err-kept c =
    let f = c.args.file.now in
    let there = found (goal.at.returns-in_err-kept c).In_ok-_number in
    rw (c.from_residual-in_err-kept.ensures) (λ allowed.
    let few = few_dims f c.image-image.ensures.low c.image-image.ensures.sound c.args.path.now c.args.dims.now c.in_ok-_number.array there allowed in
    let some = c.new-2.ensures.exact.1 few in
    absurd (let never : false ≡ true = sym (ap is_some c.in_err-kept.was) ∙ some in cc))

pub returns : goal.returns
returns c =
    let f = c.args.file.now in
    let d = c.in_ok-_number.array in
    let there = found (goal.at.returns c).In_ok-_number in
    let kept : c.in_ok-kept.kept ≡ c.args.dims.now = c.in_ok-kept.ensures.numbers in
    let before : c.in_ok-before.before ≡ d.sizes = c.in_ok-before.ensures.numbers ∙ c.sizes.ensures.numbers ∙ c.dims.ensures in
    let few : cells c.in_ok-before.before ≤ most_cells = subst (λ (ds : List ℕ). cells ds ≤ most_cells) (sym before) (sound_at f c.image-image.ensures.low c.image-image.ensures.sound c.args.path.now d there).few in
    (kept, few, d, there, before)
