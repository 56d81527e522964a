-- A session once an edit was carried out, and its views followed it.
use Rattle.std.proofs.Common.{◌≡◌, ℕ, ◌+◌, ◌<◌, ◌≤◌, ◌==◌, true, false, cond, List, [], ◌∷◌, length, map, Option, Some, None, refl, sym, ap, ◌∙◌, subst, arith}
use Rattle.std.proofs.lemmas.Bool.Decides.{nat_tests}
use Rattle.std.specs.Prelude.{sum_by}
use Rattle.std.specs.Ordering.{nat_cmp}
use Rattle.std.proofs.lemmas.List.Sums.{sum_by-cons}
use Rattle.std.specs.FinMap.{from_entries, values}
use Rattle.std.specs.List.{AllByRecursion}
use Rattle.std.specs.Option.{option_and_then, option_map, option_map_or}
use Rattle.std.proofs.lemmas.Option.{same_Some}
use Rattle.h5_model.specs.Edits.Applied.{State, with_edit, named_object, with_sizes, state_after, with_dataset, with_selection}
use Rattle.h5_model.specs.Edits.Refusal.{refusal_of}
use Rattle.h5_model.specs.Format.Limits.{most_cells}
use Rattle.h5_model.specs.Tree.Objects.{Tree, Dataset, dataset_of, with_object}
use Rattle.h5_model.specs.Tree.Paths.{object_at}
use Rattle.h5_model.specs.Tree.Places.{cells}
use Rattle.h5_model.specs.Tree.Sound.{IsDataset}
use Rattle.h5_model.specs.Views.Selection.{Slab, axes_of, selects_none}
use Rattle.h5_model.specs.Views.Shown.{View, met_by, refreshed_by, refreshed_of, refreshing_path}
use Rattle.h5_model.specs.declared.edits.Edit.{Edit}
use Rattle.h5_model.specs.declared.edits.Edit.TheVariants.{CreateGroup, CreateDataset, HardLink, SoftLink, Unlink, SetAttr, RemoveAttr, Write, Resize}
use Rattle.h5_model.specs.declared.edits.Edited.{Edited}
use Rattle.h5_model.proofs.MapSteps.{entries-empty}
use Rattle.h5_edit.specs.Edited.{IsEdited}
use Rattle.h5_edit.specs.Opened.State.{FileState, state_of}
use Rattle.h5_shape.specs.InBox.{AreApart}
use Rattle.h5_file.specs.Following.{HaveFollowed}
use Rattle.h5_file.specs.OpenViews.{AreViewsFollowed, AreViewsKept, IsViewFit, IsViewShown, numbered_view, session_state, views_of}
use Rattle.h5_file.specs.Session.{IsSessionEdited}
use Rattle.h5_file.specs.Touched.{HasBoxes, IsTouchOf, IsTouching, sizes_before}
use Rattle.h5_file.specs.declared.touched.Touched.{Touched}
use Rattle.h5_file.specs.declared.touched.Touched.TheVariants.{Written, Lost}
use Rattle.h5_file.specs.declared.views.KeptView.{KeptView}
use Rattle.h5_file.proofs.AcceptedEdits.{write_allowed}
use Rattle.h5_file.proofs.EditedArrays.{array_there, change_of, changed_array}
use Rattle.h5_file.proofs.EditedViews.{AreStepped, AreViewsStepped, all_shown_still, patches_stepped, refreshed_none, refreshed_views, same_views, stepped_still, views_stepped}
use Rattle.h5_file.proofs.FollowedCells.{IsChange, change_at}
use Rattle.h5_file.proofs.ViewLaws.{all_fit_edited, kept_again, room_of}

-- ---- the array that a write or a resize changes

named_changed : (tree : Tree) (next number : ℕ) (edit : Edit) (touched : Touched) → IsTouching tree edit touched → named_object tree edit next ≡ Some number → changed_array tree edit ≡ Some number
named_changed tree next number (Write path hyper values) touched is named = named
named_changed tree next number (Resize path dims) touched is named = named
named_changed tree next number (CreateGroup path) touched is named = absurd is
named_changed tree next number (CreateDataset path spec) touched is named = absurd is
named_changed tree next number (HardLink target path) touched is named = absurd is
named_changed tree next number (SoftLink text path) touched is named = absurd is
named_changed tree next number (Unlink path) touched is named = absurd is
named_changed tree next number (SetAttr path attr) touched is named = absurd is
named_changed tree next number (RemoveAttr path name) touched is named = absurd is

array_before : (tree : Tree) (next number : ℕ) (edit : Edit) (touched : Touched) → IsTouching tree edit touched → refusal_of tree next edit ≡ None → changed_array tree edit ≡ Some number
    → (d : Dataset) × (dataset_of tree number ≡ Some d)
array_before tree next number (Write path hyper values) touched is allowed at =
    let w = write_allowed tree next path hyper values allowed in (w.array, sym (ap (option_and_then (dataset_of tree)) at) ∙ w.found)
array_before tree next number (Resize path dims) touched is allowed at = by_touch touched is where
  by_touch : (t : Touched) → IsTouching tree (Resize path dims) t → (d : Dataset) × (dataset_of tree number ≡ Some d)
  by_touch (Written slab) is = absurd is
  by_touch (Lost sizes kept) is = (is.2, sym (ap (option_and_then (dataset_of tree)) at) ∙ is.3)
array_before tree next number (CreateGroup path) touched is allowed at = absurd is
array_before tree next number (CreateDataset path spec) touched is allowed at = absurd is
array_before tree next number (HardLink target path) touched is allowed at = absurd is
array_before tree next number (SoftLink text path) touched is allowed at = absurd is
array_before tree next number (Unlink path) touched is allowed at = absurd is
array_before tree next number (SetAttr path attr) touched is allowed at = absurd is
array_before tree next number (RemoveAttr path name) touched is allowed at = absurd is

changed_there : (tree : Tree) (path : List ℕ) (number : ℕ) (change : Dataset → Dataset) (old : Dataset) → object_at tree path ≡ Some number → dataset_of tree number ≡ Some old
    → dataset_of (option_map_or (λ number. with_object tree number (with_dataset change)) (object_at tree path) tree) number ≡ Some (change old)
changed_there tree path number change old at there =
    let same : (number == number) ≡ true = grind (arith, nat_tests) in
    ap (λ (o : Option ℕ). dataset_of (option_map_or (λ number. with_object tree number (with_dataset change)) o tree) number) at
    ∙ array_there tree change number number
    ∙ ap (option_map (λ (d : Dataset). cond (number == number) (change d) d)) there
    ∙ ap (λ b. Some (cond b (change old) old)) same

array_now : (s : State) (number : ℕ) (edit : Edit) (old : Dataset) → changed_array s.tree edit ≡ Some number → dataset_of s.tree number ≡ Some old
    → dataset_of (state_after s edit).tree number ≡ Some (change_of edit old)
unfolding with_edit
array_now s number (Write path hyper values) old at there = changed_there s.tree path number (with_selection (axes_of hyper) values) old at there
array_now s number (Resize path dims) old at there = changed_there s.tree path number (with_sizes dims) old at there
array_now s number (CreateGroup path) old at there = absurd (let never : None ≡ Some number = at in cc)
array_now s number (CreateDataset path spec) old at there = absurd (let never : None ≡ Some number = at in cc)
array_now s number (HardLink target path) old at there = absurd (let never : None ≡ Some number = at in cc)
array_now s number (SoftLink text path) old at there = absurd (let never : None ≡ Some number = at in cc)
array_now s number (Unlink path) old at there = absurd (let never : None ≡ Some number = at in cc)
array_now s number (SetAttr path attr) old at there = absurd (let never : None ≡ Some number = at in cc)
array_now s number (RemoveAttr path name) old at there = absurd (let never : None ≡ Some number = at in cc)

-- ---- views that fit

fit_stepped : (old new : Tree) (next : ℕ) (edit : Edit) (vs ws : List KeptView) → AreStepped old new edit vs ws → AllByRecursion (IsViewFit new next) vs → AllByRecursion (IsViewShown new) ws
    → AllByRecursion (IsViewFit new next) ws
fit_stepped old new next edit [] [] are fit shown = tt
fit_stepped old new next edit [] (w ∷ ws) are fit shown = absurd are
fit_stepped old new next edit (v ∷ vs) [] are fit shown = absurd are
fit_stepped old new next edit (v ∷ vs) (w ∷ ws) are fit shown =
    let object : w.object ≡ v.object = ap (λ (e : ℕ × View). (e.1).object) are.0.same in
    let slab : w.slab ≡ v.slab = ap (λ (e : ℕ × View). (e.1).slab) are.0.same in (
      record {
        given = subst (λ n. n < next) (sym object) fit.0.given;
        ranked = λ d there. ap length slab ∙ fit.0.ranked d (ap (dataset_of new) (sym object) ∙ there);
        apart = subst (λ (s : Slab). selects_none s ≡ false → AreApart s) (sym slab) fit.0.apart;
        room = λ d there. room_of d w.slab w.kept (shown.0 d there);
      },
      fit_stepped old new next edit vs ws are.1 fit.1 shown.1,
    )

-- ---- no view is open

no_values : values (views_of []) ≡ []
no_values = ap (λ (es : List (ℕ × View)). map (λ e. e.1) es) (entries-empty {X = View} nat_cmp)

abbrev met_at : Tree → Tree → Edit → List ℕ → ℕ
met_at old new edit path = option_map_or (λ number. refreshed_by old new (views_of []) number edit) (object_at old path) 0

unrefreshed : (old new : Tree) (edit : Edit) (path : List ℕ) → met_at old new edit path ≡ 0
unrefreshed old new edit path = at (object_at old path) where
  by_new : (o : Option Dataset) (d : Dataset) (n : ℕ) → option_map_or (λ after. sum_by (met_by n d after edit) (values (views_of []))) o 0 ≡ 0
  by_new None d n = refl
  by_new (Some after) d n = ap (sum_by (met_by n d after edit)) no_values

  by_old : (o : Option Dataset) (n : ℕ) → option_map_or (λ before. option_map_or (λ after. sum_by (met_by n before after edit) (values (views_of []))) (dataset_of new n) 0) o 0 ≡ 0
  by_old None n = refl
  by_old (Some before) n = by_new (dataset_of new n) before n

  at : (o : Option ℕ) → option_map_or (λ number. refreshed_by old new (views_of []) number edit) o 0 ≡ 0
  at None = refl
  at (Some n) = by_old (dataset_of old n) n

none_refreshed : (old new : Tree) (edit : Edit) → refreshed_of old new (views_of []) edit ≡ 0
none_refreshed old new edit = sum (refreshing_path edit) where
  sum : (paths : List (List ℕ)) → sum_by (met_at old new edit) paths ≡ 0
  sum [] = refl
  sum (path ∷ paths) = sum_by-cons (met_at old new edit) path paths ∙ (λ i. unrefreshed old new edit path i + sum paths i)

-- ---- sessions

module _ (before after : FileState) (edit : Edit) (e : Edited) (is : IsEdited before edit after e) (views : List KeptView) (next : ℕ) (kept : AreViewsKept before views next) where
  fit_after : AllByRecursion (IsViewFit after.tree after.next) views
  fit_after = all_fit_edited before after edit is.accepted.accepted is.state views kept.fit

  file_edited : IsEdited before edit after (record e { refreshed = 0 })
  file_edited = subst (IsEdited before edit after) (λ i. record e { refreshed = is.refreshed i }) is

  module _ (none : refreshing_path edit ≡ []) where
    shown_after : AllByRecursion (IsViewShown after.tree) views
    shown_after = all_shown_still before after edit is.state none views kept.fit kept.shown

    edited_still : IsSessionEdited (session_state before views next) edit (session_state after views next) e
    edited_still = record {
      file = file_edited;
      refreshed = is.refreshed ∙ sym (refreshed_none before after edit is.state none _);
      views = refl;
      next_view = refl;
      patches = λ number view there. patches_stepped before.tree after.tree edit views views (stepped_still before after edit is.state none views shown_after) number view there;
    }

    pub still_followed : HaveFollowed before after views views next edit e
    still_followed = record { kept = kept_again before after views views next kept refl fit_after shown_after; edited = edited_still }

  module _ (none : views ≡ []) where
    all_unseen : AllByRecursion (IsViewShown after.tree) views
    all_unseen = subst (AllByRecursion (IsViewShown after.tree)) (sym none) tt

    edited_unseen : IsSessionEdited (session_state before views next) edit (session_state after views next) e
    edited_unseen =
        let stepped : AreStepped before.tree after.tree edit views views = subst (λ (vs : List KeptView). AreStepped before.tree after.tree edit vs vs) (sym none) tt in
        record {
          file = file_edited;
          refreshed = is.refreshed ∙ sym (ap (λ (vs : List KeptView). refreshed_of before.tree after.tree (views_of vs) edit) none ∙ none_refreshed before.tree after.tree edit);
          views = refl;
          next_view = refl;
          patches = λ number view there. patches_stepped before.tree after.tree edit views views stepped number view there;
        }

    pub none_followed : HaveFollowed before after views views next edit e
    none_followed = record { kept = kept_again before after views views next kept refl fit_after all_unseen; edited = edited_unseen }

  module _ (number : ℕ) (touched : Touched) (touching : IsTouching before.tree edit touched) (named : named_object before.tree edit before.next ≡ Some number) where
    pub at : changed_array before.tree edit ≡ Some number
    at = named_changed before.tree before.next number edit touched touching named

    pub was : (d : Dataset) × (dataset_of before.tree number ≡ Some d)
    was = array_before before.tree before.next number edit touched touching is.accepted.accepted at

    abbrev pub new : Dataset
    new = change_of edit was.0

    pub now : dataset_of after.tree number ≡ Some new
    now = ap (λ (s : State). dataset_of s.tree number) is.state ∙ array_now (state_of before) number edit was.0 at was.1

    change : IsChange edit was.0 new touched
    change = change_at before.tree before.next edit touched touching is.accepted.accepted number at was.0 was.1

    pub touch_after : (d : Dataset) → dataset_of after.tree number ≡ Some d → IsTouchOf d touched × (cells d.sizes ≤ most_cells → cells (sizes_before d touched) ≤ most_cells)
    touch_after d there =
        let same : new ≡ d = same_Some _ _ (sym now ∙ there) in
        subst (λ (d : Dataset). IsTouchOf d touched × (cells d.sizes ≤ most_cells → cells (sizes_before d touched) ≤ most_cells)) same (change.touch, change.few)

    module _ (count : ℕ) (others : List KeptView) (followed : AreViewsFollowed number new touched views count others) (sound : IsDataset new × HasBoxes new) where
      stepped : AreViewsStepped before after edit is.state number at was.0 new was.1 now touched change sound.0 sound.1 views count others
      stepped = views_stepped before after edit is.state number at was.0 new was.1 now touched change sound.0 sound.1 views count others kept.fit kept.shown followed

      pub same_after : map numbered_view others ≡ map numbered_view views
      same_after = same_views before.tree after.tree edit views others stepped.stepped

      pub kept_after : AreViewsKept after others next
      kept_after =
          kept_again before after views others next kept same_after
          (fit_stepped before.tree after.tree after.next edit views others stepped.stepped fit_after stepped.shown) stepped.shown

      pub edited_after : IsSessionEdited (session_state before views next) edit (session_state after others next) (record { object = e.object; refreshed = count })
      edited_after = record {
        file = file_edited;
        refreshed = stepped.count_is ∙ sym (refreshed_views before after edit is.state number at was.0 new was.1 now touched change sound.0 sound.1 views next kept.numbered);
        views = ap (λ es. from_entries es) same_after;
        next_view = refl;
        patches = λ number view there. patches_stepped before.tree after.tree edit views others stepped.stepped number view there;
      }
