-- The open views of a session behind an edit of its file.
use Rattle.std.proofs.Common.{◌≡◌, ◌≤◌, ℕ, List, map, Some, None, sym, ap, ◌∙◌}
use Rattle.std.specs.Option.{option_and_then, option_map}
use Rattle.h5_model.specs.Edits.Applied.{named_object}
use Rattle.h5_model.specs.Edits.Refusal.{refusal_of}
use Rattle.h5_model.specs.Format.Limits.{most_cells}
use Rattle.h5_model.specs.Tree.Objects.{Tree, Dataset, dataset_of}
use Rattle.h5_model.specs.Tree.Places.{cells}
use Rattle.h5_model.specs.Tree.Sound.{IsDataset}
use Rattle.h5_model.specs.declared.edits.Edit.{Edit}
use Rattle.h5_model.specs.declared.edits.Edit.TheVariants.{CreateGroup, CreateDataset, HardLink, SoftLink, Unlink, SetAttr, RemoveAttr, Write, Resize}
use Rattle.h5_model.specs.declared.edits.Edited.{Edited}
use Rattle.h5_model.specs.declared.object_no.ObjectNo.{ObjectNo}
use Rattle.h5_edit.specs.Opened.State.{FileState}
use Rattle.h5_file.specs.Following.{HaveFollowed, IsToFollow}
use Rattle.h5_file.specs.OpenViews.{AreViewsFollowed, numbered_view}
use Rattle.h5_file.specs.Touched.{HasBoxes, IsTouchOf, IsTouching, sizes_before}
use Rattle.h5_file.specs.declared.touched.Touched.{Touched}
use Rattle.h5_file.specs.declared.touched.Touched.TheVariants.{Written, Lost}
use Rattle.h5_file.specs.declared.views.KeptView.{KeptView}
use Rattle.h5_file.proofs.AcceptedEdits.{write_allowed}
use Rattle.h5_file.proofs.SessionEdits.{edited_after, kept_after, new, now, same_after, still_followed, touch_after}

-- an array that is touched is named
array_named : (tree : Tree) (next : ℕ) (edit : Edit) (touched : Touched) → IsTouching tree edit touched → refusal_of tree next edit ≡ None → named_object tree edit next ≡ None → ⊥
array_named tree next (Write path hyper values) touched is allowed none =
    let w = write_allowed tree next path hyper values allowed in
    absurd (let never : None ≡ Some w.array = sym (ap (option_and_then (dataset_of tree)) none) ∙ w.found in cc)
array_named tree next (Resize path dims) touched is allowed none = by_touch touched is where
  by_touch : (t : Touched) → IsTouching tree (Resize path dims) t → ⊥
  by_touch (Written slab) is = absurd is
  by_touch (Lost sizes kept) is = absurd (let never : None ≡ Some is.2 = sym (ap (option_and_then (dataset_of tree)) none) ∙ is.3 in cc)
array_named tree next (CreateGroup path) touched is allowed none = absurd is
array_named tree next (CreateDataset path spec) touched is allowed none = absurd is
array_named tree next (HardLink target path) touched is allowed none = absurd is
array_named tree next (SoftLink text path) touched is allowed none = absurd is
array_named tree next (Unlink path) touched is allowed none = absurd is
array_named tree next (SetAttr path attr) touched is allowed none = absurd is
array_named tree next (RemoveAttr path name) touched is allowed none = absurd is

module _ (before after : FileState) (views : List KeptView) (next : ℕ) (edit : Edit) (e : Edited) where
  -- no array is touched
  pub unfollowed : IsToFollow before after views next edit None e → HaveFollowed before after views views next edit e
  unfollowed to = still_followed before after edit e to.edited views next to.kept (to.touch to.edited.accepted.accepted)

  -- one is, and it is named
  module _ (touched : Touched) (to : IsToFollow before after views next edit (Some touched) e) where
    pub named : e.object ≡ None → ⊥
    named none = array_named before.tree before.next edit touched to.touch to.edited.accepted.accepted (sym to.edited.object ∙ ap (option_map (λ (o : ObjectNo). o.0)) none)

    module _ (number : ObjectNo) (is : e.object ≡ Some number) where
      pub object_is : named_object before.tree edit before.next ≡ Some number.0
      object_is = sym to.edited.object ∙ ap (option_map (λ (o : ObjectNo). o.0)) is

      pub touch_now : (d : Dataset) → dataset_of after.tree number.0 ≡ Some d → IsTouchOf d touched × (cells d.sizes ≤ most_cells → cells (sizes_before d touched) ≤ most_cells)
      touch_now = touch_after before after edit e to.edited views next to.kept number.0 touched to.touch object_is

      abbrev pub array : Dataset
      array = new before after edit e to.edited views next to.kept number.0 touched to.touch object_is

      pub there : dataset_of after.tree number.0 ≡ Some array
      there = now before after edit e to.edited views next to.kept number.0 touched to.touch object_is

      module _ (count : ℕ) (others : List KeptView) (followed : AreViewsFollowed number.0 array touched views count others) (sound : IsDataset array × HasBoxes array) where
        pub same_views : map numbered_view others ≡ map numbered_view views
        same_views = same_after before after edit e to.edited views next to.kept number.0 touched to.touch object_is count others followed sound

        pub followed_all : HaveFollowed before after views others next edit (record { object = e.object; refreshed = count })
        followed_all = record {
          kept = kept_after before after edit e to.edited views next to.kept number.0 touched to.touch object_is count others followed sound;
          edited = edited_after before after edit e to.edited views next to.kept number.0 touched to.touch object_is count others followed sound;
        }
