-- A write of cells that stand one behind another: what is asked of it, and what it makes.
use Rattle.std.proofs.Common.{◌≡◌, ℕ, zero, suc, ℤ, ◌+◌, ◌*◌, ◌<◌, List, [], ◌∷◌, Bool, true, false, not, Option, Some, None, length, refl, sym, ap, ◌∙◌, subst, arith}
use Rattle.std.proofs.lemmas.List.FromFn.{length-range_with_len}
use Rattle.std.proofs.lemmas.Option.{same_Some}
use Rattle.std.specs.Prelude.{is_some}
use Rattle.std.specs.FinMap.{get}
use Rattle.std.specs.List.{Contains, list_any, range_with_len}
use Rattle.std.specs.Option.{option_map}
use Rattle.h5_laws.proofs.Lists.{contains_in, in_range}
use Rattle.h5_layout.specs.Standing.{IsStandingAt, address_of, is_stored_cell, is_stored_in}
use Rattle.h5_model.specs.Edits.Applied.{with_dataset}
use Rattle.h5_model.specs.Format.Chunks.{Chunks}
use Rattle.h5_model.specs.Format.Fixed.{Fixed}
use Rattle.h5_model.specs.Format.Layout.{Layout, InMessage, InBlock, InChunks}
use Rattle.h5_model.specs.Format.Superblock.{k_values}
use Rattle.h5_model.specs.Format.Described.{Described}
use Rattle.h5_model.specs.Tree.Grid.{corner_of, inner_of}
use Rattle.h5_model.specs.Tree.Objects.{Dataset, with_object}
use Rattle.h5_model.specs.Tree.Places.{index_of, place_of}
use Rattle.h5_model.specs.Views.Selection.{axes_of, selection_of}
use Rattle.h5_model.specs.declared.hyperslab.Hyper.{Hyper}
use Rattle.h5_query.specs.StandingCellsType.{StandingCells}
use Rattle.h5_query.specs.Data.{stored_chunks}
use Rattle.h5_query.specs.ChangedInPlace.{IsChangedInPlace}
use Rattle.h5_query.specs.Opened.Sound.{IsSound, IsWholeFile}
use Rattle.h5_query.specs.Opened.State.{FileState}
use Rattle.h5_query.specs.Written.{AreStanding, IsStoredRun, with_run}
use Rattle.h5_shape.specs.OneRun.{IsOneRun}
use Rattle.h5_shape.specs.declared.runs.CellRun.{CellRun}
use Rattle.h5_layout.specs.Lacking.{lacks_cells}
use Rattle.h5_edit.specs.Refusals.Allowed.{AreStandingAt}
use Rattle.h5_edit.specs.Stored.{AreSelectedReady, AreSelectedWritten, AreValuesWritten, HasStorage, IsStoring}
use Rattle.h5_layout.specs.declared.lacking.Missing.{Missing}
use Rattle.h5_edit.specs.WriteTarget.{IsTarget}
use Rattle.h5_edit.specs.declared.target.TargetCells.TheVariants as target
use Rattle.h5_edit.proofs.ArraysThere.{one_there}
use Rattle.h5_edit.proofs.FoundStanding.{places_are, run_inside, run_some}
use Rattle.h5_edit.proofs.WriteSteps.{has_all, selected_ready}
use Rattle.h5_edit.proofs.WrittenTrees.{sizes_are}

-- ---- a cell with an address is stored

stored_by : (t : Fixed) (sizes : List ℕ) (l : Layout) (chunks : Chunks) (index : List ℕ) (at : ℕ) → address_of t sizes l chunks index ≡ Some at → is_stored_in l chunks index ≡ true
stored_by t sizes (InMessage bytes) chunks index at is = refl
stored_by t sizes (InBlock None) chunks index at is = absurd (let never : None ≡ Some at = is in cc)
stored_by t sizes (InBlock (Some b)) chunks index at is = refl
stored_by t sizes (InChunks chunk root) chunks index at is = by_found (get chunks (corner_of chunk index)) refl where
  by_found : (found : Option ℕ) → get chunks (corner_of chunk index) ≡ found → is_some found ≡ true
  by_found None none = absurd (let never : None ≡ Some at = sym (ap (option_map (λ base. base + place_of chunk (inner_of chunk index) * t.size)) none) ∙ is in cc)
  by_found (Some base) some = refl

none_fails : (test : ℕ → Bool) (from n : ℕ) → ((k : ℕ) → k < n → test (from + k) ≡ true) → list_any (λ place. not (test place)) (range_with_len from n) ≡ false
none_fails test from zero all = refl
none_fails test from (suc n) all =
    let first : test from ≡ true = subst (λ m. test m ≡ true) (omega arith) (all 0 (omega arith)) in
    let rest = none_fails test (from + 1) n (λ k low. subst (λ m. test m ≡ true) (omega arith) (all (suc k) (omega (arith, low)))) in
    rw (first, rest) refl

-- ---- the one run

module _ {f : FileState} {number : ℕ} {hyper : Hyper} {values : List ℤ} {d : Dataset} (ready : AreSelectedReady f number hyper values d)
    (c : StandingCells) (is : AreStandingAt f number hyper c) where
  abbrev run : CellRun
  run = is.run

  one : IsOneRun d.sizes hyper run
  one = subst (λ (ns : List ℕ). IsOneRun ns hyper run) (sizes_are f number is.array is.there d ready.array) is.selected

  selected_are : range_with_len run.place run.length ≡ selection_of d.sizes (axes_of hyper)
  selected_are = places_are d.sizes hyper run one

  counted : length values ≡ run.length
  counted = ready.counted ∙ ap length (sym selected_are) ∙ length-range_with_len run.place run.length

  -- ---- what is asked

  pub run_asked : (e : Dataset) × IsStoredRun f number c.place values e
  run_asked = (
    d,
    subst (λ place. IsStoredRun f number place values d) (sym is.stands.place_is) (record {
      array = ready.array;
      stored = λ k low.
          let among = contains_in (run.place + k) (range_with_len run.place run.length) (in_range run.place run.length k (omega (arith, low, counted))) in
          ready.stored d ready.array (run.place + k) (subst (λ (ps : List ℕ). Contains ps (run.place + k)) selected_are among);
      room = (let inside = run_inside d.sizes hyper run one in omega (arith, inside, counted));
      of_type = ready.of_type;
    }),
  )

  pub some_asked : 0 < length values
  some_asked = let some = run_some d.sizes hyper run one in omega (arith, counted, some)

  pub standing_asked : AreStanding f number c (length values)
  standing_asked b there =
      let same = one_there f number is.array b is.there there in (
        is.stands.type_is ∙ ap (λ (x : Described). x.fixed) same,
        subst (λ (x : Described). IsStandingAt f.image x c.place (length values) c.at) same
            (subst (λ place. IsStandingAt f.image is.array place (length values) c.at) (sym is.stands.place_is)
            (subst (λ n. IsStandingAt f.image is.array run.place n c.at) (sym counted) is.stands.standing)),
      )

  -- ---- what it makes

  module _ (now : FileState)
      (changed : now ≡ record f { image = now.image; tree = with_object f.tree number (with_dataset (with_run c.place values)) })
      (k : k_values now.image ≡ k_values f.image) (sound : IsSound now) (whole : IsWholeFile f → IsWholeFile now)
      (in_place_now : IsChangedInPlace f now (with_object f.tree number (with_dataset (with_run c.place values))) f.next (number ∷ []) 0) where
    wrote : AreValuesWritten f number (range_with_len c.place (length values)) values now
    wrote = record { changed = changed; k = k; sound = λ _. sound; whole = whole; in_place = λ _. in_place_now }

    pub selected_written : AreSelectedWritten f number hyper values now
    selected_written e array =
        let same = same_Some d e (sym ready.array ∙ array) in
        let places : range_with_len c.place (length values) ≡ selection_of e.sizes (axes_of hyper)
        = (λ i. range_with_len (is.stands.place_is i) (counted i)) ∙ selected_are ∙ ap (λ (x : Dataset). selection_of x.sizes (axes_of hyper)) same in
        subst (λ (ps : List ℕ). AreValuesWritten f number ps values now) places wrote

-- ---- where no storage was missing

module _ {f : FileState} {path : List ℕ} {hyper : Hyper} {values : List ℤ} {number : ℕ} (c : StandingCells)
    (is : IsTarget f path hyper values number (target.Standing c)) where
  abbrev a : Described
  a = is.write.array

  abbrev only : CellRun
  only = is.found.run

  selected : range_with_len only.place only.length ≡ selection_of a.sizes (axes_of hyper)
  selected = places_are a.sizes hyper only is.found.valued.selected

  -- each selected cell is stored
  none_lacks : lacks_cells f.image a (axes_of hyper) ≡ false
  none_lacks =
      ap (list_any (λ place. not (is_stored_cell f.image a place))) (sym selected)
      ∙ none_fails (is_stored_cell f.image a) only.place only.length (λ k low.
      stored_by a.fixed a.sizes a.layout (stored_chunks f.image a.fixed a.layout) (index_of a.sizes (only.place + k)) _ (is.found.stands.standing k low))

  pub target_has : HasStorage f path hyper values number f
  target_has = has_all (record { sound = is.sound; write = is.write; found = none_lacks })

  pub target_ready : (d : Dataset) × AreSelectedReady f number hyper values d
  target_ready = selected_ready is.write f target_has

  pub target_standing : AreStandingAt f number hyper c
  target_standing = record { array = a; there = is.write.there; run = only; selected = is.found.valued.selected; stands = is.found.stands }

-- ---- where the cells do not stand together

pub target_storing : {f : FileState} {path : List ℕ} {hyper : Hyper} {values : List ℤ} {number : ℕ} (missing : Option Missing)
    → IsTarget f path hyper values number (target.Parted missing) → IsStoring f path hyper values number missing
target_storing missing is = record { sound = is.sound; write = is.write; found = is.found }
