-- The tree that a write gives: with the values in the selected cells, and with storage for them; and the image that it leaves.
use Rattle.std.proofs.Common.{◌≡◌, ℕ, zero, suc, ◌+◌, ◌≤◌, ◌&&◌, ◌||◌, Bool, List, [], ◌∷◌, length, refl, sym, ap, ◌∙◌, subst, not, Option, Some, true, false, nat_lt, arith}
use Rattle.std.proofs.Math.Bool.{or-false}
use Rattle.std.proofs.lemmas.Bool.Decides.{nat_tests}
use Rattle.std.proofs.lemmas.Option.{same_Some}
use Rattle.std.specs.Prelude.{ℤ, filter, is_some}
use Rattle.std.specs.List.{list_any, range_with_len}
use Rattle.std.specs.Option.{option_map, option_map_or}
use Rattle.std.proofs.lemmas.Bool.{or_parts, not-false}
use Rattle.h5_bytes.specs.declared.Block.{Block}
use Rattle.h5_layout.specs.Standing.{is_stored_cell, is_stored_in}
use Rattle.h5_model.specs.Edits.Applied.{with_edit, with_cells, with_dataset, with_selection, written_storage}
use Rattle.h5_model.specs.Edits.Touched.{touched_by}
use Rattle.h5_model.specs.Format.Chunks.{Chunks}
use Rattle.h5_model.specs.Format.Layout.{Layout, InMessage, InBlock, InChunks}
use Rattle.h5_model.specs.Format.Described.{Described, storage_of}
use Rattle.h5_model.specs.Tree.Objects.{Tree, Dataset, Storage, Contiguous, with_object, dataset_of}
use Rattle.h5_model.specs.Tree.Paths.{object_at}
use Rattle.h5_model.specs.Tree.Places.{cells, index_of}
use Rattle.h5_model.specs.Views.Selection.{Slab, axes_of, is_selected, selection_of}
use Rattle.h5_model.specs.declared.edits.Edit.{Edit}
use Rattle.h5_model.specs.declared.edits.Edit.TheVariants.{Write}
use Rattle.h5_model.specs.declared.edits.Edited.{Edited}
use Rattle.h5_model.specs.declared.hyperslab.Hyper.{Hyper}
use Rattle.h5_model.specs.declared.object_no.ObjectNo.{ObjectNo}
use Rattle.h5_query.specs.Data.{dataset_told, stored_chunks}
use Rattle.h5_query.specs.ChangedInPlace.{IsChangedInPlace}
use Rattle.h5_query.specs.Opened.Sound.{IsSound}
use Rattle.h5_query.specs.Opened.State.{FileState}
use Rattle.h5_query.specs.Written.{IsArrayThere, with_places}
use Rattle.h5_edit.specs.Carried.{tree_after}
use Rattle.h5_layout.specs.Lacking.{IsMissing, IsMissingIn}
use Rattle.h5_layout.specs.Lacking.{stored_all, stored_storage}
use Rattle.h5_edit.specs.Edited.{IsEdited}
use Rattle.h5_layout.specs.Lacking.{lacks_cells}
use Rattle.h5_edit.specs.Refusals.Allowed.{IsAt}
use Rattle.h5_edit.specs.Stored.{AreValuesWritten, HasStorage}
use Rattle.h5_layout.specs.declared.lacking.Missing.{Missing}
use Rattle.h5_layout.specs.declared.lacking.Missing.TheVariants as missing
use Rattle.h5_edit.proofs.ChangedTwice.{changed_alike, dataset_changed_twice}
use Rattle.h5_query.proofs.ChangedThen.{changed_then}

-- ---- lists

-- where one passes there is one
pub some_of : (test : ℕ → Bool) (places : List ℕ) → list_any test places ≡ true → nat_lt 0 (length places) ≡ true
some_of test [] any = absurd (let never : false ≡ true = any in cc)
some_of test (p ∷ ps) any = grind (arith, nat_tests)

-- without cells none is selected
none_selected : (sizes : List ℕ) (slab : Slab) → cells sizes ≡ 0 → selection_of sizes slab ≡ []
unfolding selection_of
none_selected sizes slab none = ap (λ n. filter (λ place. is_selected slab (index_of sizes place)) (range_with_len 0 n)) none

some_cells : (sizes : List ℕ) (slab : Slab) → nat_lt 0 (length (selection_of sizes slab)) ≡ true → 1 ≤ cells sizes
some_cells sizes slab some = go (cells sizes) refl where
  go : (n : ℕ) → cells sizes ≡ n → 1 ≤ n
  go zero none = absurd (let never : false ≡ true = sym (ap (λ (places : List ℕ). nat_lt 0 (length places)) (none_selected sizes slab none)) ∙ some in cc)
  go (suc n) is = omega arith

-- ---- storage

module _ (sizes : List ℕ) (slab : Slab) where
  abbrev places : List ℕ
  places = selection_of sizes slab

  -- where a selected cell has none, it is made
  storage_made : (image : List ℕ) (a : Described) (m : Missing) (l : Layout) → IsMissingIn image a slab m l → nat_lt 0 (length places) ≡ true
      → written_storage places (storage_of sizes l) ≡ stored_storage sizes (storage_of sizes l)
  storage_made image a missing.Block (InBlock b) none some =
      let any = some_cells sizes slab some in
      let here : nat_lt 0 (cells sizes) ≡ true = grind (arith, nat_tests) in
      ap (λ (c : Option Block). written_storage places (storage_of sizes (InBlock c))) none ∙ ap Contiguous (some ∙ sym here)
      ∙ sym (ap (λ (c : Option Block). stored_storage sizes (storage_of sizes (InBlock c))) none)
  storage_made image a missing.Block (InMessage bytes) never some = absurd never
  storage_made image a missing.Block (InChunks chunk root) never some = absurd never
  storage_made image a (missing.Chunks array new) (InMessage bytes) never some = absurd never
  storage_made image a (missing.Chunks array new) (InBlock b) never some = absurd never
  storage_made image a (missing.Chunks array new) (InChunks chunk root) are some = refl

  -- where each has, it stays
  pub storage_kept : (l : Layout) (chunks : Chunks) → list_any (λ place. not (is_stored_in l chunks (index_of sizes place))) places ≡ false
      → written_storage places (storage_of sizes l) ≡ storage_of sizes l
  storage_kept (InMessage bytes) chunks none = refl
  storage_kept (InChunks chunk root) chunks none = refl
  storage_kept (InBlock b) chunks none = by_places places refl where
    by_places : (ps : List ℕ) → places ≡ ps → Contiguous ((is_some b && nat_lt 0 (cells sizes)) || nat_lt 0 (length places)) ≡ Contiguous (is_some b && nat_lt 0 (cells sizes))
    by_places [] is = ap Contiguous (ap (λ (ps : List ℕ). (is_some b && nat_lt 0 (cells sizes)) || nat_lt 0 (length ps)) is ∙ or-false (is_some b && nat_lt 0 (cells sizes)))
    by_places (p ∷ ps) is =
        let first = or_parts (not (is_some b)) (list_any (λ place. not (is_some b)) ps) (sym (ap (list_any (λ place. not (is_some b))) is) ∙ none) in
        let block : is_some b ≡ true = not-false (is_some b) first.0 in
        let more : nat_lt 0 (length (p ∷ ps)) ≡ true = grind (arith, nat_tests) in
        let some : nat_lt 0 (length places) ≡ true = ap (λ (qs : List ℕ). nat_lt 0 (length qs)) is ∙ more in
        let any = some_cells sizes slab some in
        let test : nat_lt 0 (cells sizes) ≡ true = grind (arith, nat_tests) in
        let both : (is_some b && nat_lt 0 (cells sizes)) ≡ true = (λ i. block i && test i) in
        ap Contiguous ((λ i. both i || some i) ∙ sym both)

-- ---- the array of an opened image

module _ (f : FileState) (number : ℕ) (a : Described) (there : IsArrayThere f number a) (d : Dataset) (array : dataset_of f.tree number ≡ Some d) where
  pub told_is : dataset_told f.image a ≡ d
  told_is = same_Some (dataset_told f.image a) d (sym there.told ∙ array)

  pub sizes_are : a.sizes ≡ d.sizes
  sizes_are = ap (λ (x : Dataset). x.sizes) told_is

  storage_is : storage_of a.sizes a.layout ≡ d.storage
  storage_is = ap (λ (x : Dataset). x.storage) told_is

  module _ (slab : Slab) where
    -- a cell is selected
    pub some_selected : lacks_cells f.image a slab ≡ true → nat_lt 0 (length (selection_of a.sizes slab)) ≡ true
    some_selected lacks = some_of (λ place. not (is_stored_cell f.image a place)) (selection_of a.sizes slab) lacks

    -- with the storage that was missing it is stored as a write stores it
    made_as : (m : Missing) → IsMissing f.image a slab m → lacks_cells f.image a slab ≡ true
        → written_storage (selection_of d.sizes slab) d.storage ≡ stored_storage d.sizes d.storage
    made_as m is lacks =
        subst (λ (x : Dataset). written_storage (selection_of x.sizes slab) x.storage ≡ stored_storage x.sizes x.storage) told_is
        (storage_made a.sizes slab f.image a m a.layout is (some_selected lacks))

    -- and where none is missing it stays so
    kept_as : lacks_cells f.image a slab ≡ false → written_storage (selection_of d.sizes slab) d.storage ≡ d.storage
    kept_as none =
        subst (λ (x : Dataset). written_storage (selection_of x.sizes slab) x.storage ≡ x.storage) told_is
        (storage_kept a.sizes slab a.layout (stored_chunks f.image a.fixed a.layout) none)

-- ---- the tree

module _ (f : FileState) (path : List ℕ) (hyper : Hyper) (values : List ℤ) (number : ℕ) (at : object_at f.tree path ≡ Some number) where
  abbrev edit : Edit
  edit = Write path hyper values

  abbrev slab : Slab
  slab = axes_of hyper

  write_gives : tree_after f edit ≡ with_object f.tree number (with_dataset (with_selection slab values))
  unfolding with_edit
  write_gives = ap (λ found. option_map_or (λ n. with_object f.tree n (with_dataset (with_selection slab values))) found f.tree) at

  module _ (a : Described) (there : IsArrayThere f number a) (d : Dataset) (array : dataset_of f.tree number ≡ Some d) where
    abbrev chosen : List ℕ
    chosen = selection_of d.sizes slab

    -- in place the cells alone are others
    pub tree_in_place : lacks_cells f.image a slab ≡ false → with_object f.tree number (with_dataset (with_places chosen values)) ≡ tree_after f edit
    tree_in_place none =
        changed_alike f.tree number d array (with_places chosen values) (with_selection slab values)
        (ap (λ (s : Storage). record d { storage = s; cells = with_cells d.cells chosen values }) (sym (kept_as f number a there d array slab none)))
        ∙ sym write_gives

    module _ (m : Missing) (is : IsMissing f.image a slab m) (lacks : lacks_cells f.image a slab ≡ true) where
      written_is : with_places chosen values (stored_all d) ≡ with_selection slab values d
      written_is = ap (λ (s : Storage). record d { storage = s; cells = with_cells d.cells chosen values }) (sym (made_as f number a there d array slab m is lacks))

      -- the cells of the tree with the storage that was missing
      pub tree_made : with_object (with_object f.tree number (with_dataset stored_all)) number (with_dataset (with_places chosen values)) ≡ tree_after f edit
      tree_made =
          dataset_changed_twice f.tree number stored_all (with_places chosen values)
          ∙ changed_alike f.tree number d array (λ e. with_places chosen values (stored_all e)) (with_selection slab values) written_is
          ∙ sym write_gives

-- ---- the edited image

module _ (f : FileState) (path : List ℕ) (hyper : Hyper) (values : List ℤ) (number : ℕ) (at : IsAt f.tree f.next path (Write path hyper values) number)
    (e : Edited) (named : option_map (λ (o : ObjectNo). o.0) e.object ≡ Some number) (refreshed : e.refreshed ≡ 0) where
  abbrev wrote : Edit
  wrote = Write path hyper values

  write_touches : touched_by f.tree wrote ≡ number ∷ []
  unfolding touched_by
  write_touches = ap (λ (found : Option ℕ). option_map_or (λ n. n ∷ []) found []) at.object

  -- once the selected cells have storage, and the values were written into them
  pub edited_in_place : (mid : FileState) (has : HasStorage f path hyper values number mid) → IsSound f → (now : FileState)
      → AreValuesWritten mid number (selection_of has.before.sizes (axes_of hyper)) values now → IsEdited f wrote now e
  edited_in_place mid has sound now is =
      let first = has.changed in
      let with_values : Tree = with_object mid.tree number (with_dataset (with_places (selection_of has.before.sizes (axes_of hyper)) values)) in
      let tree : now.tree ≡ tree_after f wrote = ap (λ (s : FileState). s.tree) is.changed ∙ has.gives in
      let next : now.next ≡ f.next = ap (λ (s : FileState). s.next) is.changed ∙ first.state.1 in
      let both = changed_then f mid now _ _ f.next mid.next (number ∷ []) has.bytes 0 sound first (is.in_place first.sound) in
      let same : has.bytes + 0 ≡ has.bytes = omega arith in
      let whole : IsChangedInPlace f now (tree_after f wrote) f.next (number ∷ []) has.bytes
      = subst (λ n. IsChangedInPlace f now (tree_after f wrote) f.next (number ∷ []) n) same
      (subst (λ (t : Tree). IsChangedInPlace f now t f.next (number ∷ []) (has.bytes + 0)) has.gives
      (subst (λ n. IsChangedInPlace f now with_values n (number ∷ []) (has.bytes + 0)) first.state.1 both)) in
      record {
        accepted = has.accepted;
        state = λ i. record { tree = tree i; next = next i };
        object = named ∙ sym at.object;
        refreshed = refreshed;
        bytes = has.bytes;
        growth = has.growth;
        trimmed = tt;
        changed = subst (λ (ns : List ℕ). IsChangedInPlace f now (tree_after f wrote) f.next ns has.bytes) (sym write_touches) whole;
      }
