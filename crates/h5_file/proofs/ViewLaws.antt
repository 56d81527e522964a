-- Views as they are held: by their numbers, and through edits of the file.
use Rattle.std.proofs.Common.{◌≡◌, ℕ, zero, suc, ◌+◌, ◌*◌, ◌<◌, ◌≤◌, Bool, true, false, cond, List, [], ◌∷◌, ◌++◌, map, length, get_or, refl, sym, ap, ◌∙◌, subst, inl, inr, Option, Some, None, is_some, Result, Ok, Err, arith, length-append, nat_le}
use Rattle.std.proofs.lemmas.Bool.{cases_lt}
use Rattle.std.proofs.lemmas.Bool.Decides.{nat_tests}
use Rattle.std.proofs.lemmas.List.{length-map}
use Rattle.std.specs.Prelude.{MatchOption, IfSome, IsSome, ◌||◌}
use Rattle.std.specs.Option.{option_and_then, option_map_or}
use Rattle.std.specs.FinMap.{contains_key, get, insert, remove, len}
use Rattle.std.specs.List.{AllByRecursion}
use Rattle.std.specs.List as list
use Rattle.std.specs.List.Sorted.{IsSearchInRange, IsBinarySearchResult}
use Rattle.std.specs.Ordering.{nat_cmp}
use Rattle.std.specs.Result.{result_ok}
use Rattle.std.proofs.lemmas.Option.{same_Some}
use Rattle.h5_bytes.proofs.BlockLaws.{all_so}
use Rattle.h5_laws.specs.Rising.{RiseWithin}
use Rattle.h5_laws.proofs.RisingMaps.{searched, rise_push, rise_remove, get_at, get_none, get_above, len_map, map_push, map_remove, found_all}
use Rattle.h5_laws.proofs.TypesKept.{size-accepted}
use Rattle.h5_model.specs.Edits.Applied.{State, state_after}
use Rattle.h5_model.specs.Edits.Refusal.{refusal_of}
use Rattle.h5_model.specs.Format.Limits.{most_cells, most_views, most_numbers}
use Rattle.h5_model.specs.Scripts.Answers.{has_many_views}
use Rattle.h5_model.specs.Scripts.Sessions.{IsView, IsSession}
use Rattle.h5_model.specs.Tree.Objects.{Tree, Object, Dataset, dataset_in, dataset_of}
use Rattle.h5_model.specs.Tree.Places.{cells}
use Rattle.h5_model.specs.Views.Selection.{Slab, selected_cells, selects_none}
use Rattle.h5_model.specs.Views.Shown.{View, is_lent, shown_of, shows}
use Rattle.h5_model.specs.declared.edits.Edit.{Edit}
use Rattle.h5_model.specs.declared.hyperslab.Hyper.{Hyper}
use Rattle.h5_model.specs.declared.view_fault.ViewFault.{ViewFault}
use Rattle.h5_model.specs.declared.view_fault.ViewFault.TheVariants as fault
use Rattle.h5_model.proofs.SessionLaws.{IsView-accepted}
use Rattle.h5_edit.specs.Opened.Sound.{IsSound}
use Rattle.h5_edit.specs.Opened.State.{FileState, state_of}
use Rattle.h5_edit.specs.Selected.{IsSelectedAt}
use Rattle.h5_shape.specs.InBox.{AreApart}
use Rattle.h5_shape.specs.Slab.{IsSlab}
use Rattle.h5_file.specs.OpenViews.{AreNumbered, AreViewsKept, HasKeptLength, IsKeptOf, IsViewAt, IsViewFit, IsViewShown, numbered_view, patches_in, patches_of, session_state, view_of, views_of}
use Rattle.h5_file.specs.Patched.{KeptState}
use Rattle.h5_file.specs.Session.{IsViewClosed, IsViewOf, IsViewOpened, IsViewRefused, IsViewRefusedBy, patches_at_first, session_of}
use Rattle.h5_file.proofs.SlabLaws.{apart_within}
use Rattle.h5_file.specs.declared.views.KeptView.{KeptView}

abbrev pub number_of : KeptView → ℕ
number_of v = v.number

abbrev pub held_patches : KeptView → Option ℕ
held_patches v = patches_in v.kept

-- ---- all of a list

module _ {X : Type 0} (P : X → Type 0) where
  pub all_push : (xs : List X) (x : X) → AllByRecursion P xs → P x → AllByRecursion P (xs ++ x ∷ [])
  all_push [] x all one = (one, tt)
  all_push (y ∷ xs) x all one = (all.0, all_push xs x all.1 one)

  pub all_remove : (xs : List X) (k : ℕ) → AllByRecursion P xs → AllByRecursion P (list.remove xs k)
  all_remove [] zero all = tt
  all_remove [] (suc k) all = tt
  all_remove (x ∷ xs) zero all = all.1
  all_remove (x ∷ xs) (suc k) all = (all.0, all_remove xs k all.1)

-- ---- by number

-- what a search by halving answers
pub place_found : (views : List KeptView) (end number : ℕ) → AreNumbered views end → (r : Result ℕ ℕ) → IsSearchInRange r (length views)
    → IsBinarySearchResult (λ (y : KeptView). nat_cmp y.number number) views r
    → MatchOption (result_ok r) (contains_key (views_of views) number ≡ false) (IsViewAt views number)
place_found views end number rise (Ok at) inside found =
    let is = searched number_of views 0 end number rise (Ok at) inside found in record { below = is.0; number_is = is.1 }
place_found views end number rise (Err at) inside found =
    ap is_some (get_none number_of view_of views number (searched number_of views 0 end number rise (Err at) inside found))

module _ (views : List KeptView) (end number at : ℕ) (rise : AreNumbered views end) (is : IsViewAt views number at) (d : KeptView) where
  pub view_there : get (views_of views) number ≡ Some (view_of (get_or views at d))
  view_there = get_at number_of view_of views 0 end at d number rise is.below (is.number_is d)

  pub views_left : views_of (list.remove views at) ≡ remove (views_of views) number
  views_left = map_remove number_of view_of views 0 end at d number rise is.below (is.number_is d)

  pub patches_left : patches_of (list.remove views at) ≡ remove (patches_of views) number
  patches_left = map_remove number_of held_patches views 0 end at d number rise is.below (is.number_is d)

-- the view of a number is found where it is held
pub found_place : (views : List KeptView) (end number at : ℕ) → AreNumbered views end → IsViewAt views number at → (r : Option ℕ)
    → MatchOption r (contains_key (views_of views) number ≡ false) (IsViewAt views number) → IsSome r
found_place [] end number at rise is r found = absurd (omega (arith, is.below))
found_place (v ∷ views) end number at rise is None none =
    absurd (let never : true ≡ false = sym (ap is_some (view_there (v ∷ views) end number at rise is v)) ∙ none in cc)
found_place (v ∷ views) end number at rise is (Some k) found = refl

-- one view more
pub views_more : (views : List KeptView) (end : ℕ) (v : KeptView) → AreNumbered views end → end ≡ v.number → views_of (views ++ v ∷ []) ≡ insert (views_of views) v.number (view_of v)
views_more views end v rise is = map_push number_of view_of views 0 end v rise (omega (arith, is))

pub patches_more : (views : List KeptView) (end : ℕ) (v : KeptView) → AreNumbered views end → end ≡ v.number → patches_of (views ++ v ∷ []) ≡ insert (patches_of views) v.number (held_patches v)
patches_more views end v rise is = map_push number_of held_patches views 0 end v rise (omega (arith, is))

pub numbered_more : (views : List KeptView) (end : ℕ) (v : KeptView) → AreNumbered views end → end ≡ v.number → AreNumbered (views ++ v ∷ []) (end + 1)
numbered_more views end v rise is = rise_push number_of views 0 end v (end + 1) rise (omega (arith, is)) (omega (arith, is))

pub numbered_left : (views : List KeptView) (end at : ℕ) → AreNumbered views end → AreNumbered (list.remove views at) end
numbered_left views end at rise = rise_remove number_of views 0 end at rise

pub many_views : (views : List KeptView) (end : ℕ) → AreNumbered views end → len (views_of views) ≡ length views
many_views views end rise = len_map number_of view_of views 0 end rise

-- ---- sessions

view_kept : (file : FileState) (v : KeptView) → IsViewFit file.tree file.next v → IsView (state_of file) (view_of v)
view_kept file v fit = record { given = fit.given; ranked = fit.ranked }

pub session_sound : (file : FileState) (views : List KeptView) (next : ℕ) → IsSound file → AreViewsKept file views next → IsSession (session_of (session_state file views next))
session_sound file views next sound kept = record {
  state = sound.numbers;
  each = λ number view there. found_all number_of view_of (IsViewFit file.tree file.next) (IsView (state_of file)) (view_kept file) views number view kept.fit there;
  given = λ number some. elim (cases_lt number next) [
    | inl below ↦ below
    | inr above ↦ absurd (let never : true ≡ false = sym some ∙ ap is_some (get_above number_of view_of views 0 next number kept.numbered above) in cc)
  ];
  low = kept.low;
  few = omega (arith, kept.few, many_views views next kept.numbered);
}

-- ---- edits

pub room_same : (old new : Dataset) (slab : Slab) → new.fixed.size ≡ old.fixed.size → (kept : Option KeptState) → HasKeptLength old slab kept → HasKeptLength new slab kept
room_same old new slab same None room = tt
room_same old new slab same (Some k) room = room ∙ ap (λ n. selected_cells slab * n) (sym same)

fit_edited : (s : State) (edit : Edit) → refusal_of s.tree s.next edit ≡ None → (v : KeptView) → IsViewFit s.tree s.next v
    → IsViewFit (state_after s edit).tree (state_after s edit).next v
fit_edited s edit accepted v fit =
    let seen = IsView-accepted s edit (view_of v) accepted (record { given = fit.given; ranked = fit.ranked }) in
    record {
      given = seen.given;
      ranked = seen.ranked;
      apart = fit.apart;
      room = λ d there.
          let old = size-accepted s edit v.object fit.given d there in
          room_same old.0 d v.slab old.2 v.kept (fit.room old.0 old.1);
    }

-- an accepted edit leaves the views room for their cells
pub all_fit_edited : (before after : FileState) (edit : Edit) → refusal_of before.tree before.next edit ≡ None → state_of after ≡ state_after (state_of before) edit
    → (views : List KeptView) → AllByRecursion (IsViewFit before.tree before.next) views → AllByRecursion (IsViewFit after.tree after.next) views
all_fit_edited before after edit accepted is views all =
    subst (λ (s : State). AllByRecursion (IsViewFit s.tree s.next) views) (sym is)
    (all_so (IsViewFit before.tree before.next) (IsViewFit (state_after (state_of before) edit).tree (state_after (state_of before) edit).next) views (fit_edited (state_of before) edit accepted) all)

-- ---- opening

pub full_is : (file : FileState) (views : List KeptView) (next : ℕ) (full : Bool) → AreNumbered views next → full ≡ (nat_le most_views (length views) || nat_le most_numbers next)
    → full ≡ has_many_views (session_of (session_state file views next))
full_is file views next full rise is = is ∙ ap (λ n. nat_le most_views n || nat_le most_numbers next) (sym (many_views views next rise))

pub refused_by : (file : FileState) (views : List KeptView) (next : ℕ) (path : List ℕ) (hyper : Hyper) (full : Bool) (e : ViewFault) → AreNumbered views next
    → full ≡ (nat_le most_views (length views) || nat_le most_numbers next) → IsViewRefusedBy file.tree path hyper full e → IsViewRefused (session_state file views next) path hyper e
refused_by file views next path hyper full e rise is refused =
    subst (λ (b : Bool). IsViewRefusedBy file.tree path hyper b e) (full_is file views next full rise is) refused

module _ (file : FileState) (views : List KeptView) (next : ℕ) (kept : AreViewsKept file views next) (v : KeptView) (full : Bool)
    (is : full ≡ (nat_le most_views (length views) || nat_le most_numbers next)) (free : full ≡ false) (new : List KeptView) (more : new ≡ views ++ v ∷ []) (number : v.number ≡ next) where
  room_left : (nat_le most_views (length views) || nat_le most_numbers next) ≡ false
  room_left = sym is ∙ free

  pub kept_more : IsViewFit file.tree file.next v → IsViewShown file.tree v → AreViewsKept file new (next + 1)
  kept_more fit shown = subst (λ (vs : List KeptView). AreViewsKept file vs (next + 1)) (sym more) (record {
    numbered = numbered_more views next v kept.numbered (sym number);
    low = let left = room_left in grind (arith, nat_tests);
    few = let left = room_left in let low : length views < most_views = grind (arith, nat_tests) in omega (arith, low, length-append views (v ∷ []));
    fit = all_push (IsViewFit file.tree file.next) views v kept.fit fit;
    shown = all_push (IsViewShown file.tree) views v kept.shown shown;
  })

  pub opened_more : (path : List ℕ) (hyper : Hyper) → IsViewOf file.tree path hyper (view_of v) → held_patches v ≡ patches_at_first file.tree (view_of v)
      → IsViewOpened (session_state file views next) path hyper next (session_state file new (next + 1))
  opened_more path hyper of first =
      let all : views_of new ≡ insert (views_of views) next (view_of v)
      = ap views_of more ∙ views_more views next v kept.numbered (sym number) ∙ ap (λ n. insert (views_of views) n (view_of v)) number in
      let times : patches_of new ≡ insert (patches_of views) next (patches_at_first file.tree (view_of v))
      = ap patches_of more ∙ patches_more views next v kept.numbered (sym number) ∙ (λ i. insert (patches_of views) (number i) (first i)) in
      record {
        few = sym (full_is file views next full kept.numbered is) ∙ free;
        number_is = refl;
        view = view_of v;
        view_is = of;
        after_is = λ i. record { file = file; views = all i; next_view = next + 1; patches = times i };
      }

pub selected_array : (file : FileState) (path : List ℕ) (hyper : Hyper) (number : ℕ) (d : Dataset) (slab : Slab) → IsSelectedAt file.tree path hyper (number, d, slab)
    → dataset_of file.tree number ≡ Some d
selected_array file path hyper number d slab at = sym (ap (option_and_then (dataset_of file.tree)) at.number) ∙ at.found

pub room_of : (d : Dataset) (slab : Slab) (kept : Option KeptState) → IsKeptOf d slab kept → HasKeptLength d slab kept
room_of d slab None is = tt
room_of d slab (Some k) is = is.1.long

-- a view of selected cells
pub fit_opened : (file : FileState) (path : List ℕ) (hyper : Hyper) (number : ℕ) (d : Dataset) (slab : Slab) → IsSound file → IsSelectedAt file.tree path hyper (number, d, slab)
    → IsSlab slab → cells d.sizes ≤ most_cells → (v : KeptView) → v.object ≡ number → v.slab ≡ slab → IsKeptOf d slab v.kept → IsViewFit file.tree file.next v
fit_opened file path hyper number d slab sound at lists few v object axes kept =
    let there = selected_array file path hyper number d slab at in
    let same = λ (e : Dataset) (is : dataset_of file.tree v.object ≡ Some e). same_Some e d (sym is ∙ ap (dataset_of file.tree) object ∙ there) in
    record {
      given = subst (λ n. n < file.next) (sym object) (sound.numbers.given number (stands number d there));
      ranked = λ e is. ap length axes ∙ at.slab.rank ∙ ap (λ (x : Dataset). length x.sizes) (sym (same e is));
      apart = subst (λ (s : Slab). selects_none s ≡ false → AreApart s) (sym axes) (λ some. apart_within d.sizes slab (sym at.slab.rank) at.slab.within lists.apart few some);
      room = λ e is. subst (λ (X : Type 0). X) (λ i. HasKeptLength (sym (same e is) i) (sym axes i) v.kept) (room_of d slab v.kept kept);
    } where
      stands : (n : ℕ) (d : Dataset) → dataset_of file.tree n ≡ Some d → IsSome (get file.tree n)
      stands n d is = elim (get file.tree n) as (λ o. option_and_then (λ (x : Object). dataset_in x.content) o ≡ Some d → is_some o ≡ true) [
        | None ↦ λ no. absurd (let never : None ≡ Some d = no in cc)
        | Some o ↦ λ _. refl
      ] is

-- what it keeps was never patched
pub first_kept : (tree : Tree) (object : ℕ) (slab : Slab) (d : Dataset) → dataset_of tree object ≡ Some d → (kept : Option KeptState) → IsKeptOf d slab kept → IfSome kept (λ k. k.patches ≡ 0)
    → patches_in kept ≡ patches_at_first tree (record { object = object; slab = slab })
first_kept tree object slab d there None is first =
    sym (ap (λ b. cond b None (Some 0)) (ap (λ (o : Option Dataset). option_map_or (λ d. is_lent d slab) o false) there ∙ is))
first_kept tree object slab d there (Some k) is first =
    ap (λ n. Some n) first ∙ sym (ap (λ b. cond b None (Some 0)) (ap (λ (o : Option Dataset). option_map_or (λ d. is_lent d slab) o false) there ∙ is.0))

-- ---- closing

shorter : {X : Type 0} (xs : List X) (k : ℕ) → length (list.remove xs k) ≤ length xs
shorter [] zero = omega arith
shorter [] (suc k) = omega arith
shorter (x ∷ xs) zero = omega arith
shorter (x ∷ xs) (suc k) = omega (arith, shorter xs k)

pub kept_left : (file : FileState) (views : List KeptView) (next at : ℕ) (new : List KeptView) → AreViewsKept file views next → new ≡ list.remove views at → AreViewsKept file new next
kept_left file views next at new kept is = subst (λ (vs : List KeptView). AreViewsKept file vs next) (sym is) (record {
  numbered = numbered_left views next at kept.numbered;
  low = kept.low;
  few = omega (arith, shorter views at, kept.few);
  fit = all_remove (IsViewFit file.tree file.next) views at kept.fit;
  shown = all_remove (IsViewShown file.tree) views at kept.shown;
})

pub closed_left : (file : FileState) (views : List KeptView) (next number at : ℕ) (new : List KeptView) (d : KeptView) → AreViewsKept file views next → IsViewAt views number at
    → new ≡ list.remove views at → IsViewClosed (session_state file views next) number (session_state file new next)
closed_left file views next number at new d kept there is =
    let all : views_of new ≡ remove (views_of views) number = ap views_of is ∙ views_left views next number at kept.numbered there d in
    let times : patches_of new ≡ remove (patches_of views) number = ap patches_of is ∙ patches_left views next number at kept.numbered there d in
    record {
      open_before = ap is_some (view_there views next number at kept.numbered there d);
      after_is = λ i. record { file = file; views = all i; next_view = next; patches = times i };
    }

-- ---- showing

pub shown_as : (file : FileState) (views : List KeptView) (next number at : ℕ) (v : KeptView) → AreViewsKept file views next → IsViewAt views number at → v ≡ get_or views at v
    → shown_of file.tree (view_of v) ≡ shows file.tree (views_of views) number
shown_as file views next number at v kept there is =
    sym (ap (λ (o : Option View). option_map_or (shown_of file.tree) o (Err fault.NoSuchView)) (view_there views next number at kept.numbered there v ∙ ap (λ (x : KeptView). Some (view_of x)) (sym is)))

pub lent_as : (file : FileState) (views : List KeptView) (next number at : ℕ) (v : KeptView) → AreViewsKept file views next → IsViewAt views number at → v ≡ get_or views at v
    → Some (view_of v) ≡ get (views_of views) number
lent_as file views next number at v kept there is = ap (λ (x : KeptView). Some (view_of x)) is ∙ sym (view_there views next number at kept.numbered there v)

-- ---- after an edit

pub rise_same : (xs ys : List KeptView) (low end : ℕ) → map numbered_view ys ≡ map numbered_view xs → RiseWithin number_of low xs end → RiseWithin number_of low ys end
rise_same [] [] low end is rise = rise
rise_same [] (y ∷ ys) low end is rise = absurd (cc)
rise_same (x ∷ xs) [] low end is rise = absurd (cc)
rise_same (x ∷ xs) (y ∷ ys) low end is rise =
    let first : numbered_view y ≡ numbered_view x = cc in
    let head : y.number ≡ x.number = ap (λ (e : ℕ × View). e.0) first in
    let rest : map numbered_view ys ≡ map numbered_view xs = cc in
    (subst (λ n. low ≤ n) (sym head) rise.0, rise_same xs ys (y.number + 1) end rest (subst (λ n. RiseWithin number_of (n + 1) xs end) (sym head) rise.1))

pub same_long : (xs ys : List KeptView) → map numbered_view ys ≡ map numbered_view xs → length ys ≡ length xs
same_long xs ys is = sym (length-map ys numbered_view) ∙ ap length is ∙ length-map xs numbered_view

pub kept_again : (before after : FileState) (views new : List KeptView) (next : ℕ) → AreViewsKept before views next → map numbered_view new ≡ map numbered_view views
    → AllByRecursion (IsViewFit after.tree after.next) new → AllByRecursion (IsViewShown after.tree) new → AreViewsKept after new next
kept_again before after views new next kept same fit shown = record {
  numbered = rise_same views new 0 next same kept.numbered;
  low = kept.low;
  few = omega (arith, kept.few, same_long views new same);
  fit = fit;
  shown = shown;
}
