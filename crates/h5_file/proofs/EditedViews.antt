-- The views of a session, one by one and by their numbers, once an edit was carried out.
use Rattle.std.proofs.Common.{◌≡◌, ◌≢◌, inl, inr, ℕ, zero, suc, ◌+◌, ◌<◌, ◌==◌, ◌&&◌, not, Bool, true, false, cond, List, [], ◌∷◌, length, map, Option, Some, None, Less, refl, sym, ap, ◌∙◌, subst, arith, take, drop, set, get_or}
use Rattle.std.specs.Prelude.{T}
use Rattle.std.proofs.lemmas.Bool.Decides.{nat_tests}
use Rattle.std.proofs.lemmas.List.Sums.{sum_by-cons}
use Rattle.std.specs.Cmp.{nat_cmp_is, nat_cmp_total}
use Rattle.std.specs.FinMap.{find, from_entries, get, is_sorted, values}
use Rattle.std.specs.FinMap.Entries.{below_all}
use Rattle.std.specs.List.{AllByRecursion, sum_by}
use Rattle.std.specs.Option.{option_and_then, option_map, option_map_or}
use Rattle.std.specs.Ordering.{eq_by_cmp, nat_cmp}
use Rattle.std.proofs.lemmas.Option.{same_Some}
use Rattle.h5_bytes.proofs.BlockLaws.{all_so}
use Rattle.h5_laws.specs.Rising.{RiseWithin}
use Rattle.h5_laws.proofs.Numbered.{joined, less_holds}
use Rattle.h5_laws.proofs.RisingMaps.{get_found}
use Rattle.h5_model.specs.Edits.Applied.{State, state_after}
use Rattle.h5_model.specs.Scripts.Answers.{view_is_lent}
use Rattle.h5_model.specs.Tree.Objects.{Tree, Dataset, dataset_of}
use Rattle.h5_model.specs.Tree.Paths.{object_at}
use Rattle.h5_model.specs.Tree.Sound.{IsDataset}
use Rattle.h5_model.specs.Views.Shown.{View, is_lent, met_by, met_of, refreshed_by, refreshed_of, refreshing_path}
use Rattle.h5_model.specs.declared.edits.Edit.{Edit}
use Rattle.h5_model.specs.declared.edits.Edit.TheVariants.{CreateGroup, CreateDataset, HardLink, SoftLink, Unlink, SetAttr, RemoveAttr, Write, Resize}
use Rattle.h5_edit.proofs.OpenedLaws.Made.{entries_made}
use Rattle.h5_edit.specs.Opened.State.{FileState, state_of}
use Rattle.h5_file.specs.OpenViews.{AreNumbered, AreViewsFollowed, AreViewsReady, IsKeptOf, IsViewFit, IsViewFollowed, IsViewReady, IsViewShown, numbered_patches, numbered_view, patches_in, patches_of, view_of, views_of}
use Rattle.h5_file.specs.Patched.{KeptState}
use Rattle.h5_file.specs.Session.{patches_after}
use Rattle.h5_file.specs.Touched.{HasBoxes}
use Rattle.h5_file.specs.declared.touched.Touched.{Touched}
use Rattle.h5_file.specs.declared.views.KeptView.{KeptView}
use Rattle.h5_file.proofs.EditedArrays.{IsArrayAfter, array_after, changed_array}
use Rattle.h5_file.proofs.FollowedCells.{IsChange, count_followed, kept_followed, patches_followed}
use Rattle.h5_file.proofs.ViewLaws.{held_patches, number_of}

-- ---- the views in the order of their numbers

below_rising : (m : ℕ) (views : List KeptView) (low end : ℕ) → m < low → RiseWithin number_of low views end → T (below_all nat_cmp m (map numbered_view views))
below_rising m [] low end under rise = tt
below_rising m (v ∷ vs) low end under rise =
    joined _ _ (less_holds (nat_cmp m v.number) (sym (nat_cmp_is m v.number Less (omega (arith, under, rise.0))))) (below_rising m vs (v.number + 1) end (omega (arith, under, rise.0)) rise.1)

sorted_views : (views : List KeptView) (low end : ℕ) → RiseWithin number_of low views end → T (is_sorted nat_cmp (map numbered_view views))
sorted_views [] low end rise = tt
sorted_views (v ∷ vs) low end rise = joined _ _ (below_rising v.number vs (v.number + 1) end (omega arith) rise.1) (sorted_views vs (v.number + 1) end rise.1)

abbrev second : (ℕ × View) → View
second e = e.1

seconds : (views : List KeptView) → map second (map numbered_view views) ≡ map view_of views
seconds [] = refl
seconds (v ∷ vs) = ap (λ ws. view_of v ∷ ws) (seconds vs)

pub values_views : (views : List KeptView) (end : ℕ) → AreNumbered views end → values (views_of views) ≡ map view_of views
values_views views end rise = ap (map second) (entries_made nat_cmp_total (map numbered_view views) (sorted_views views 0 end rise)) ∙ seconds views

pub value_one : (view : View) → values (from_entries {R = nat_cmp} ((0, view) ∷ [])) ≡ view ∷ []
value_one view = ap (map second) (entries_made nat_cmp_total ((0, view) ∷ []) tt)

-- ---- an edit that changes no array

pub none_changed : (tree : Tree) (edit : Edit) → refreshing_path edit ≡ [] → changed_array tree edit ≡ None
none_changed tree (CreateGroup path) none = refl
none_changed tree (CreateDataset path spec) none = refl
none_changed tree (HardLink target path) none = refl
none_changed tree (SoftLink text path) none = refl
none_changed tree (Unlink path) none = refl
none_changed tree (SetAttr path attr) none = refl
none_changed tree (RemoveAttr path name) none = refl
none_changed tree (Write path hyper values) none = absurd (let never : path ∷ [] ≡ [] = none in cc)
none_changed tree (Resize path dims) none = absurd (let never : path ∷ [] ≡ [] = none in cc)

-- the views of an edit of this array that was old and is new
refreshed_at : (old new : Tree) (views : _) (edit : Edit) (number : ℕ) (before after : Dataset) → changed_array old edit ≡ Some number → dataset_of old number ≡ Some before
    → dataset_of new number ≡ Some after → refreshed_of old new views edit ≡ sum_by (met_by number before after edit) (values views)
refreshed_at old new views edit number before after at was now = by_edit edit at where
  summed : (edit : Edit) → refreshed_by old new views number edit ≡ sum_by (met_by number before after edit) (values views)
  summed edit =
      ap (λ (o : Option Dataset). option_map_or (λ before. option_map_or (λ after. sum_by (met_by number before after edit) (values views)) (dataset_of new number) 0) o 0) was
      ∙ ap (λ (o : Option Dataset). option_map_or (λ after. sum_by (met_by number before after edit) (values views)) o 0) now

  one_path : (path : List ℕ) (edit : Edit) → object_at old path ≡ Some number
      → sum_by (λ path. option_map_or (λ number. refreshed_by old new views number edit) (object_at old path) 0) (path ∷ []) ≡ sum_by (met_by number before after edit) (values views)
  one_path path edit at =
      let alone : option_map_or (λ number. refreshed_by old new views number edit) (object_at old path) 0 ≡ sum_by (met_by number before after edit) (values views)
      = ap (λ (o : Option ℕ). option_map_or (λ number. refreshed_by old new views number edit) o 0) at ∙ summed edit in
      let first : 0 + option_map_or (λ number. refreshed_by old new views number edit) (object_at old path) 0 ≡ option_map_or (λ number. refreshed_by old new views number edit) (object_at old path) 0
      = omega arith in
      first ∙ alone

  by_edit : (edit : Edit) → changed_array old edit ≡ Some number → refreshed_of old new views edit ≡ sum_by (met_by number before after edit) (values views)
  by_edit (Write path hyper vs) at = one_path path (Write path hyper vs) at
  by_edit (Resize path dims) at = one_path path (Resize path dims) at
  by_edit (CreateGroup path) at = absurd (let never : None ≡ Some number = at in cc)
  by_edit (CreateDataset path spec) at = absurd (let never : None ≡ Some number = at in cc)
  by_edit (HardLink target path) at = absurd (let never : None ≡ Some number = at in cc)
  by_edit (SoftLink text path) at = absurd (let never : None ≡ Some number = at in cc)
  by_edit (Unlink path) at = absurd (let never : None ≡ Some number = at in cc)
  by_edit (SetAttr path attr) at = absurd (let never : None ≡ Some number = at in cc)
  by_edit (RemoveAttr path name) at = absurd (let never : None ≡ Some number = at in cc)

-- ---- one view after the other, as they were and as they are

-- by its number, and by how often it was patched
pub record IsStepped (old new : Tree) (edit : Edit) (v w : KeptView) : Type 0 where
  pub same : numbered_view w ≡ numbered_view v
  pub patches : held_patches w ≡ patches_after old new edit (view_of v) (held_patches v)

abbrev pub AreStepped : Tree → Tree → Edit → List KeptView → List KeptView → Type 0
AreStepped old new edit [] [] = Unit {0}
AreStepped old new edit (v ∷ vs) (w ∷ ws) = IsStepped old new edit v w × AreStepped old new edit vs ws
AreStepped old new edit _ _ = ⊥

module _ (old new : Tree) (edit : Edit) where
  pub same_views : (vs ws : List KeptView) → AreStepped old new edit vs ws → map numbered_view ws ≡ map numbered_view vs
  same_views [] [] are = refl
  same_views [] (w ∷ ws) are = absurd are
  same_views (v ∷ vs) [] are = absurd are
  same_views (v ∷ vs) (w ∷ ws) are = λ i. are.0.same i ∷ same_views vs ws are.1 i

  found_patches : (vs ws : List KeptView) → AreStepped old new edit vs ws → (q : ℕ) (view : View) → find nat_cmp q (map numbered_view vs) ≡ Some view
      → find nat_cmp q (map numbered_patches ws) ≡ option_map (patches_after old new edit view) (find nat_cmp q (map numbered_patches vs))
  found_patches [] ws are q view there = absurd (let never : None ≡ Some view = there in cc)
  found_patches (v ∷ vs) [] are q view there = absurd are
  found_patches (v ∷ vs) (w ∷ ws) are q view there =
      let number : w.number ≡ v.number = ap (λ (e : ℕ × View). e.0) are.0.same in
      ap (λ n. cond (eq_by_cmp nat_cmp q n) (Some (held_patches w)) (find nat_cmp q (map numbered_patches ws))) number
      ∙ elim (eq_by_cmp nat_cmp q v.number) as (λ b. cond b (Some (view_of v)) (find nat_cmp q (map numbered_view vs)) ≡ Some view
      → cond b (Some (held_patches w)) (find nat_cmp q (map numbered_patches ws))
      ≡ option_map (patches_after old new edit view) (cond b (Some (held_patches v)) (find nat_cmp q (map numbered_patches vs)))) [
        | true ↦ λ is. let same : view_of v ≡ view = cc in ap (λ n. Some n) (are.0.patches ∙ ap (λ (x : View). patches_after old new edit x (held_patches v)) same)
        | false ↦ λ is. found_patches vs ws are.1 q view is
      ] there

  pub patches_stepped : (vs ws : List KeptView) → AreStepped old new edit vs ws → (q : ℕ) (view : View) → get (views_of vs) q ≡ Some view
      → get (patches_of ws) q ≡ option_map (patches_after old new edit view) (get (patches_of vs) q)
  patches_stepped vs ws are q view there =
      get_found number_of held_patches ws q
      ∙ found_patches vs ws are q view (sym (get_found number_of view_of vs q) ∙ there)
      ∙ ap (option_map (patches_after old new edit view)) (sym (get_found number_of held_patches vs q))

-- ---- an accepted edit

module _ (before after : FileState) (edit : Edit) (is : state_of after ≡ state_after (state_of before) edit) where
  array_then : (m : ℕ) → m < before.next → (d : Dataset) → dataset_of after.tree m ≡ Some d → IsArrayAfter before.tree edit m d
  array_then m low d there = array_after (state_of before) edit m low d (ap (λ (s : State). dataset_of s.tree m) (sym is) ∙ there)

  shown_still : (v : KeptView) → IsViewFit before.tree before.next v → IsViewShown before.tree v → (changed_array before.tree edit ≢ Some v.object) → IsViewShown after.tree v
  shown_still v fit shown other d there =
      let a = array_then v.object fit.given d there in
      elim a.is [
        | inl change ↦ absurd (other change.0)
        | inr same ↦ subst (λ (d : Dataset). IsKeptOf d v.slab v.kept) (sym same.1) (shown a.old a.there)
      ]

  -- a view that keeps bytes after the edit can't be lent
  not_lent : (v : KeptView) → IsViewShown after.tree v → (k : KeptState) → v.kept ≡ Some k → view_is_lent after.tree (Some (view_of v)) ≡ false
  not_lent v shown k keeps = by_array (dataset_of after.tree v.object) refl where
    by_array : (o : Option Dataset) → dataset_of after.tree v.object ≡ o → option_map_or (λ d. is_lent d v.slab) o false ≡ false
    by_array None there = refl
    by_array (Some d) there = (subst (IsKeptOf d v.slab) keeps (shown d there)).0

  -- of a view in which nothing is refreshed nothing is patched
  patches_still : (v : KeptView) → IsViewShown after.tree v → refreshed_of before.tree after.tree (from_entries ((0, view_of v) ∷ [])) edit ≡ 0
      → held_patches v ≡ patches_after before.tree after.tree edit (view_of v) (held_patches v)
  patches_still v shown none = by_kept v.kept refl where
    by_kept : (o : Option KeptState) → v.kept ≡ o → patches_in o ≡ patches_after before.tree after.tree edit (view_of v) (patches_in o)
    by_kept None keeps = refl
    by_kept (Some k) keeps =
        let no = not_lent v shown k keeps in
        let sum : k.patches ≡ k.patches + refreshed_of before.tree after.tree (from_entries ((0, view_of v) ∷ [])) edit = omega (arith, none) in
        ap (λ n. Some n) sum
        ∙ sym (ap (λ b. cond b None (Some (k.patches + refreshed_of before.tree after.tree (from_entries ((0, view_of v) ∷ [])) edit))) no)

  -- ---- no array is changed

  module _ (none : refreshing_path edit ≡ []) where
    pub refreshed_none : (views : _) → refreshed_of before.tree after.tree views edit ≡ 0
    refreshed_none views = ap (sum_by (λ path. option_map_or (λ number. refreshed_by before.tree after.tree views number edit) (object_at before.tree path) 0)) none

    pub all_shown_still : (vs : List KeptView) → AllByRecursion (IsViewFit before.tree before.next) vs → AllByRecursion (IsViewShown before.tree) vs → AllByRecursion (IsViewShown after.tree) vs
    all_shown_still [] fit shown = tt
    all_shown_still (v ∷ vs) fit shown =
        let other : (changed_array before.tree edit ≢ Some v.object) = λ at. absurd (let never : None ≡ Some v.object = sym (none_changed before.tree edit none) ∙ at in cc) in
        (shown_still v fit.0 shown.0 other, all_shown_still vs fit.1 shown.1)

    pub stepped_still : (vs : List KeptView) → AllByRecursion (IsViewShown after.tree) vs → AreStepped before.tree after.tree edit vs vs
    stepped_still [] shown = tt
    stepped_still (v ∷ vs) shown = (record { same = refl; patches = patches_still v shown.0 (refreshed_none (from_entries ((0, view_of v) ∷ []))) }, stepped_still vs shown.1)

  -- ---- the array of this number is changed

  module _ (number : ℕ) (at : changed_array before.tree edit ≡ Some number) (old new : Dataset) (was : dataset_of before.tree number ≡ Some old) (now : dataset_of after.tree number ≡ Some new)
      (touched : Touched) (change : IsChange edit old new touched) (sound : IsDataset new) (boxes : HasBoxes new) where
    refreshed_in : (view : View) → refreshed_of before.tree after.tree (from_entries ((0, view) ∷ [])) edit ≡ met_by number old new edit view
    refreshed_in view =
        refreshed_at before.tree after.tree (from_entries ((0, view) ∷ [])) edit number old new at was now
        ∙ ap (sum_by (met_by number old new edit)) (value_one view) ∙ omega arith

    pub refreshed_views : (vs : List KeptView) (end : ℕ) → AreNumbered vs end → refreshed_of before.tree after.tree (views_of vs) edit ≡ sum_by (met_by number old new edit) (map view_of vs)
    refreshed_views vs end rise =
        refreshed_at before.tree after.tree (views_of vs) edit number old new at was now ∙ ap (sum_by (met_by number old new edit)) (values_views vs end rise)

    -- what one view adds, keeps and counts
    pub record IsViewStepped (v : KeptView) (count : ℕ) (w : KeptView) : Type 0 where
      pub count_is : count ≡ met_by number old new edit (view_of v)
      pub shown : IsViewShown after.tree w
      pub stepped : IsStepped before.tree after.tree edit v w

    view_stepped : (v : KeptView) (count : ℕ) (w : KeptView) → IsViewFit before.tree before.next v → IsViewShown before.tree v → IsViewFollowed number new touched v count w → IsViewStepped v count w
    view_stepped v count w fit shown followed = by_test (v.object == number) refl where
      object_is : w.object ≡ v.object
      object_is = ap (λ (e : ℕ × View). (e.1).object) followed.same

      slab_is : w.slab ≡ v.slab
      slab_is = ap (λ (e : ℕ × View). (e.1).slab) followed.same

      counted_in : (b : Bool) → (v.object == number) ≡ b → met_by number old new edit (view_of v) ≡ cond (b && not (is_lent new v.slab)) (met_of old edit v.slab) 0
      counted_in b is = ap (λ b. cond (b && not (is_lent new v.slab)) (met_of old edit v.slab) 0) is

      turned : (b : Bool) (n : ℕ) → cond b 0 n ≡ cond (true && not b) n 0
      turned true n = refl
      turned false n = refl

      by_test : (b : Bool) → (v.object == number) ≡ b → IsViewStepped v count w
      by_test true is =
          let here : v.object ≡ number = grind (arith, nat_tests, is) in
          let mine : dataset_of before.tree v.object ≡ Some old = ap (dataset_of before.tree) here ∙ was in
          let axes : length v.slab ≡ length old.sizes = fit.ranked old mine in
          let kept = shown old mine in
          let then = followed.own here in
          let count_is : count ≡ met_by number old new edit (view_of v)
          = count_followed edit old new touched change sound boxes v.slab axes count v.kept w.kept kept then ∙ turned (is_lent new v.slab) (met_of old edit v.slab) ∙ sym (counted_in true is) in
          let one : met_by number old new edit (view_of v) ≡ cond (is_lent new v.slab) 0 (met_of old edit v.slab)
          = counted_in true is ∙ sym (turned (is_lent new v.slab) (met_of old edit v.slab)) in
          let lent : view_is_lent after.tree (Some (view_of v)) ≡ is_lent new v.slab
          = ap (λ (o : Option Dataset). option_map_or (λ d. is_lent d v.slab) o false) (ap (dataset_of after.tree) here ∙ now) in
          record {
            count_is = count_is;
            shown = λ d there.
                let same : new ≡ d = same_Some _ _ (sym now ∙ ap (dataset_of after.tree) (sym (object_is ∙ here)) ∙ there) in
                subst (λ (X : Type 0). X) (λ i. IsKeptOf (same i) (sym slab_is i) w.kept) (kept_followed edit old new touched change sound boxes v.slab axes count v.kept w.kept kept then);
            stepped = record {
              same = followed.same;
              patches = patches_followed edit old new touched change sound boxes v.slab axes count v.kept w.kept kept then
                  ∙ by_patches (held_patches v) (refreshed_in (view_of v) ∙ one) lent;
            };
          } where
            by_patches : (times : Option ℕ) → refreshed_of before.tree after.tree (from_entries ((0, view_of v) ∷ [])) edit ≡ cond (is_lent new v.slab) 0 (met_of old edit v.slab)
                → view_is_lent after.tree (Some (view_of v)) ≡ is_lent new v.slab
                → option_and_then (λ times. cond (is_lent new v.slab) None (Some (times + cond (is_lent new v.slab) 0 (met_of old edit v.slab)))) times
                ≡ patches_after before.tree after.tree edit (view_of v) times
            by_patches None count lent = refl
            by_patches (Some times) count lent = λ i. cond (sym lent i) None (Some (times + sym count i))
      by_test false is =
          let other : v.object ≢ number = λ here. absurd (let same : (v.object == number) ≡ true = grind (arith, nat_tests, here) in let never : true ≡ false = sym same ∙ is in cc) in
          let stays = followed.other other in
          let zero_is : met_by number old new edit (view_of v) ≡ 0 = counted_in false is in
          let still : IsViewShown after.tree v = shown_still v fit shown (λ changed. other (same_number (sym changed ∙ at))) in
          record {
            count_is = stays.0 ∙ sym zero_is;
            shown = λ d there. subst (λ (X : Type 0). X) (λ i. IsKeptOf d (sym slab_is i) (sym stays.1 i)) (still d (ap (dataset_of after.tree) (sym object_is) ∙ there));
            stepped = record { same = followed.same; patches = ap patches_in stays.1 ∙ patches_still v still (refreshed_in (view_of v) ∙ zero_is) };
          } where
            same_number : {m n : ℕ} → Some m ≡ Some n → m ≡ n
            same_number e = cc

    pub record AreViewsStepped (vs : List KeptView) (count : ℕ) (ws : List KeptView) : Type 0 where
      pub count_is : count ≡ sum_by (met_by number old new edit) (map view_of vs)
      pub shown : AllByRecursion (IsViewShown after.tree) ws
      pub stepped : AreStepped before.tree after.tree edit vs ws

    pub views_stepped : (vs : List KeptView) (count : ℕ) (ws : List KeptView) → AllByRecursion (IsViewFit before.tree before.next) vs → AllByRecursion (IsViewShown before.tree) vs
        → AreViewsFollowed number new touched vs count ws → AreViewsStepped vs count ws
    views_stepped [] count [] fit shown are = record { count_is = are; shown = tt; stepped = tt }
    views_stepped [] count (w ∷ ws) fit shown are = absurd are
    views_stepped (v ∷ vs) count [] fit shown are = absurd are
    views_stepped (v ∷ vs) count (w ∷ ws) fit shown (one, rest, sum, first, others) =
        let head = view_stepped v one w fit.0 shown.0 first in
        let tail = views_stepped vs rest ws fit.1 shown.1 others in
        record {
          count_is = sum ∙ (λ i. head.count_is i + tail.count_is i) ∙ sym (sum_by-cons (met_by number old new edit) (view_of v) (map view_of vs));
          shown = (head.shown, tail.shown);
          stepped = (head.stepped, tail.stepped);
        }

-- ---- the loop over the views

module _ (number : ℕ) (d : Dataset) (touched : Touched) where
  followed_more : (xs : List KeptView) (i : ℕ) (ys : List KeptView) (n k : ℕ) (w v : KeptView) → i < length xs
      → AreViewsFollowed number d touched (take i xs) n (take i ys) → drop i ys ≡ drop i xs → IsViewFollowed number d touched (get_or xs i v) k w
      → AreViewsFollowed number d touched (take (suc i) xs) (n + k) (take (suc i) (set ys i w)) × (drop (suc i) (set ys i w) ≡ drop (suc i) xs)
  followed_more [] i ys n k w v there are rest one = absurd (omega (arith, there))
  followed_more (x ∷ xs) zero [] n k w v there are rest one = absurd (let never : [] ≡ x ∷ xs = rest in cc)
  followed_more (x ∷ xs) zero (y ∷ ys) n k w v there are rest one =
      let tails : ys ≡ xs = let all : y ∷ ys ≡ x ∷ xs = rest in cc in
      ((k, 0, omega (arith, are), one, refl), tails)
  followed_more (x ∷ xs) (suc i) [] n k w v there are rest one = absurd are
  followed_more (x ∷ xs) (suc i) (y ∷ ys) n k w v there (a, b, sum, first, others) rest one =
      let more = followed_more xs i ys b k w v (omega (arith, there)) others rest one in
      ((a, b + k, omega (arith, sum), first, more.0), more.1)

-- where what is left is the same, so is the first of it
front_of : (i : ℕ) (xs : List KeptView) (v : KeptView) → get_or (drop i xs) 0 v ≡ get_or xs i v
front_of zero xs v = refl
front_of (suc i) [] v = refl
front_of (suc i) (x ∷ xs) v = front_of i xs v

-- a view that fits the file fits its array
view_ready : (tree : Tree) (next number : ℕ) (d : Dataset) → dataset_of tree number ≡ Some d → (v : KeptView) → IsViewFit tree next v → v.object ≡ number → IsViewReady d v
view_ready tree next number d there v fit is =
    let mine : dataset_of tree v.object ≡ Some d = ap (dataset_of tree) is ∙ there in
    record { ranked = fit.ranked d mine; apart = fit.apart; room = fit.room d mine }

pub views_ready : (tree : Tree) (next number : ℕ) (d : Dataset) → dataset_of tree number ≡ Some d → (views : List KeptView) → AllByRecursion (IsViewFit tree next) views
    → AreViewsReady number d views
views_ready tree next number d there views fit =
    all_so (IsViewFit tree next) (λ (v : KeptView). v.object ≡ number → IsViewReady d v) views (view_ready tree next number d there) fit
