-- What an accepted edit makes of an array: a write or a resize of it changes it, and every other edit leaves it.
use Rattle.std.proofs.Common.{◌≡◌, ℕ, ◌<◌, ◌⊎◌, inl, inr, Bool, true, false, cond, ◌==◌, ◌&&◌, not, List, [], ◌∷◌, ℤ, map, get_or, set, refl, sym, ap, ◌∙◌, subst, Option, Some, None, arith, ◌≢◌}
use Rattle.std.proofs.lemmas.Bool.Decides.{nat_tests}
use Rattle.std.proofs.lemmas.List.{get_or-set_other}
use Rattle.std.proofs.lemmas.List.FromFn.{get_or-map-range_with_len}
use Rattle.std.specs.Ordering.{nat_cmp, eq_by_cmp}
use Rattle.std.specs.Cmp.{nat_cmp_total}
use Rattle.std.specs.FinMap.{get, insert, remove, empty, get-insert, get-retain_keys, nat_cmp-IsAntisymmetric}
use Rattle.std.specs.declared.cmp.Ordering.TheVariants.{Equal}
use Rattle.std.specs.List.{AllByRecursion, filter, range_with_len}
use Rattle.std.specs.Option.{option_and_then, option_map, option_map_or}
use Rattle.h5_model.specs.Edits.Applied.{State, state_after, with_edit, with_link_at, without_link_at, with_hard_link, with_links, with_dataset, with_attributes, new_object, attribute_from, new_dataset, with_cells, with_selection, with_sizes, cell_or_fill}
use Rattle.h5_model.specs.Tree.Objects.{Tree, Link, ToObject, Soft, Links, Object, Content, Group, Array, Dataset, dataset_in, dataset_of, with_object, only_reached, is_reached}
use Rattle.h5_model.specs.Tree.Paths.{parent_at, object_at}
use Rattle.h5_model.specs.Tree.Places.{cells, index_of, is_inside, place_of}
use Rattle.h5_model.specs.Views.Selection.{Slab, axes_of, is_selected, selection_of}
use Rattle.h5_model.specs.Views.Shown.{is_touched}
use Rattle.h5_model.specs.declared.edits.Edit.{Edit}
use Rattle.h5_model.specs.declared.edits.Edit.TheVariants.{CreateGroup, CreateDataset, HardLink, SoftLink, Unlink, SetAttr, RemoveAttr, Write, Resize}
use Rattle.h5_model.proofs.StateLaws.{same_number}
use Rattle.h5_model.proofs.PlaceLaws.{index-place, place_below, inside_of}
use Rattle.h5_edit.proofs.ChangedLaws.NumberedLaws.{at_place, get-with_object}

-- the number of the array that a write or a resize changes
abbrev pub changed_array : Tree → Edit → Option ℕ
changed_array tree (Write path hyper values) = object_at tree path
changed_array tree (Resize path dims) = object_at tree path
changed_array tree _ = None

-- what it makes of it
abbrev pub change_of : Edit → Dataset → Dataset
change_of (Write path hyper values) = with_selection (axes_of hyper) values
change_of (Resize path dims) = with_sizes dims
change_of _ = λ d. d

-- ---- objects whose arrays stay

abbrev array_in : Option Object → Option Dataset
array_in found = option_and_then (λ o. dataset_in o.content) found

KeepsArrays : Tree → Tree → Type 0
KeepsArrays old new = (m : ℕ) → dataset_of new m ≡ dataset_of old m

module _ (change : Object → Object) (keeps : (o : Object) → dataset_in (change o).content ≡ dataset_in o.content) where
  slot_kept : (k n : ℕ) (found : Option Object) → array_in (option_map (at_place k n change) found) ≡ array_in found
  slot_kept k n None = refl
  slot_kept k n (Some o) = by_test (k == n) where
    by_test : (b : Bool) → dataset_in (cond b (change o) o).content ≡ dataset_in o.content
    by_test true = keeps o
    by_test false = refl

  object_kept : (tree : Tree) (n : ℕ) → KeepsArrays tree (with_object tree n change)
  unfolding KeepsArrays
  object_kept tree n m = ap array_in (get-with_object tree n change m) ∙ slot_kept m n (get tree m)

  object_at_kept : (tree : Tree) (found : Option ℕ) → KeepsArrays tree (option_map_or (λ number. with_object tree number change) found tree)
  unfolding KeepsArrays
  object_at_kept tree None m = refl
  object_at_kept tree (Some n) m = object_kept tree n m

links_keep : (change : Links → Links) (o : Object) → dataset_in (with_links change o).content ≡ dataset_in o.content
links_keep change o = by_content o.content where
  by_content : (c : Content) → dataset_in (with_links change (record o { content = c })).content ≡ dataset_in c
  by_content (Group links) = refl
  by_content (Array d) = refl

linked_keeps : (tree : Tree) (path : List ℕ) (link : Link) → KeepsArrays tree (with_link_at tree path link)
unfolding KeepsArrays
linked_keeps tree path link m = by_parent (parent_at tree path) where
  by_parent : (p : Option (ℕ × List ℕ)) → dataset_of (option_map_or (λ p. with_object tree p.0 (with_links (λ links. insert links p.1 link))) p tree) m ≡ dataset_of tree m
  by_parent None = refl
  by_parent (Some p) = object_kept (with_links (λ links. insert links p.1 link)) (links_keep (λ links. insert links p.1 link)) tree p.0 m

unlinked_keeps : (tree : Tree) (path : List ℕ) → KeepsArrays tree (without_link_at tree path)
unfolding KeepsArrays
unlinked_keeps tree path m = by_parent (parent_at tree path) where
  by_parent : (p : Option (ℕ × List ℕ)) → dataset_of (option_map_or (λ p. with_object tree p.0 (with_links (λ links. remove links p.1))) p tree) m ≡ dataset_of tree m
  by_parent None = refl
  by_parent (Some p) = object_kept (with_links (λ links. remove links p.1)) (links_keep (λ links. remove links p.1)) tree p.0 m

linked_to_keeps : (tree : Tree) (target path : List ℕ) → KeepsArrays tree (with_hard_link tree target path)
unfolding KeepsArrays
linked_to_keeps tree target path m = by_target (object_at tree target) where
  by_target : (o : Option ℕ) → dataset_of (option_map_or (λ number. with_link_at tree path (ToObject number)) o tree) m ≡ dataset_of tree m
  by_target None = refl
  by_target (Some number) = linked_keeps tree path (ToObject number) m

-- a new object has another number
beside_keeps : (tree : Tree) (next : ℕ) (o : Object) (m : ℕ) → m < next → dataset_of (insert tree next o) m ≡ dataset_of tree m
beside_keeps tree next o m low = ap array_in (get-insert nat_cmp_total tree next o m) ∙ by_test (eq_by_cmp nat_cmp m next) refl where
  by_test : (b : Bool) → eq_by_cmp nat_cmp m next ≡ b → array_in (cond b (Some o) (get tree m)) ≡ dataset_of tree m
  by_test true same = let here : m ≡ next = nat_cmp-IsAntisymmetric m next (same_number m next same) in absurd (omega (arith, here, low))
  by_test false other = refl

-- an object that is reached no more has no array
reached_keeps : (tree : Tree) (m : ℕ) (d : Dataset) → dataset_of (only_reached tree) m ≡ Some d → dataset_of tree m ≡ Some d
reached_keeps tree m d there =
    let same = λ (x : ℕ) (tied : nat_cmp m x ≡ Equal). ap (is_reached tree) (sym (nat_cmp-IsAntisymmetric m x tied)) in
    by_test (is_reached tree m) (sym (ap array_in (get-retain_keys tree (is_reached tree) m same)) ∙ there) where
      by_test : (b : Bool) → array_in (cond b (get tree m) None) ≡ Some d → dataset_of tree m ≡ Some d
      by_test true is = is
      by_test false is = absurd (let never : None ≡ Some d = is in cc)

-- ---- an array that is changed

module _ (tree : Tree) (change : Dataset → Dataset) where
  array_slot : (k n : ℕ) (found : Option Object) → array_in (option_map (at_place k n (with_dataset change)) found) ≡ option_map (λ d. cond (k == n) (change d) d) (array_in found)
  array_slot k n None = refl
  array_slot k n (Some o) = by_test (k == n) o.content where
    by_test : (b : Bool) (c : Content) → dataset_in (cond b (with_dataset change (record o { content = c })) (record o { content = c })).content ≡ option_map (λ d. cond b (change d) d) (dataset_in c)
    by_test true (Group links) = refl
    by_test true (Array d) = refl
    by_test false (Group links) = refl
    by_test false (Array d) = refl

  pub array_there : (n m : ℕ) → dataset_of (with_object tree n (with_dataset change)) m ≡ option_map (λ d. cond (m == n) (change d) d) (dataset_of tree m)
  array_there n m = ap array_in (get-with_object tree n (with_dataset change) m) ∙ array_slot m n (get tree m)

-- ---- any edit

-- The array of this number was there; it is changed, or it is as it was.
pub record IsArrayAfter (tree : Tree) (edit : Edit) (m : ℕ) (d : Dataset) : Type 0 where
  pub old : Dataset
  pub there : dataset_of tree m ≡ Some old
  pub is : ((changed_array tree edit ≡ Some m) × (d ≡ change_of edit old)) ⊎ ((changed_array tree edit ≢ Some m) × (d ≡ old))

same_of : (tree : Tree) (edit : Edit) (m : ℕ) (d : Dataset) → (changed_array tree edit ≢ Some m) → dataset_of tree m ≡ Some d → IsArrayAfter tree edit m d
same_of tree edit m d other there = record { old = d; there = there; is = inr (other, refl) }

never : (m : ℕ) → (None ≡ Some m) → ⊥
never m is = let no : None ≡ Some m = is in cc

module _ (tree : Tree) (edit : Edit) (m : ℕ) (d : Dataset) where
  changed_at : (found : Option ℕ) → changed_array tree edit ≡ found → dataset_of (option_map_or (λ number. with_object tree number (with_dataset (change_of edit))) found tree) m ≡ Some d
      → IsArrayAfter tree edit m d
  changed_at None is there = same_of tree edit m d (λ it. never m (sym is ∙ it)) there
  changed_at (Some n) is there = by_array (dataset_of tree m) refl (sym (array_there tree (change_of edit) n m) ∙ there) where
    by_array : (found : Option Dataset) → dataset_of tree m ≡ found → option_map (λ d. cond (m == n) (change_of edit d) d) found ≡ Some d → IsArrayAfter tree edit m d
    by_array None none it = absurd (let no : None ≡ Some d = it in cc)
    by_array (Some old) some it = by_test (m == n) refl it where
      by_test : (b : Bool) → (m == n) ≡ b → Some (cond b (change_of edit old) old) ≡ Some d → IsArrayAfter tree edit m d
      by_test true same now =
          let here : m ≡ n = grind (arith, nat_tests) in
          let value : change_of edit old ≡ d = cc in
          record { old = old; there = some; is = inl (is ∙ ap (λ k. Some k) (sym here), sym value) }
      by_test false other now =
          let value : old ≡ d = cc in
          record {
            old = old;
            there = some;
            is = inr (
              (λ it.
                  let same : Some n ≡ Some m = sym is ∙ it in
                  let here : n ≡ m = cc in
                  let apart : (m == m) ≡ false = subst (λ k. (m == k) ≡ false) here other in
                  absurd (grind (arith, nat_tests))),
              sym value,
            );
          }

-- an array after an accepted edit, of a number that was given out before
pub array_after : (s : State) (edit : Edit) (m : ℕ) → m < s.next → (d : Dataset) → dataset_of (state_after s edit).tree m ≡ Some d → IsArrayAfter s.tree edit m d
unfolding with_edit KeepsArrays
array_after s (CreateGroup path) m low d there =
    same_of s.tree (CreateGroup path) m d (never m) (sym (linked_keeps s.tree path (ToObject s.next) m) ∙ sym (beside_keeps (with_link_at s.tree path (ToObject s.next)) s.next (new_object (Group empty)) m low) ∙ there)
array_after s (CreateDataset path spec) m low d there =
    same_of s.tree (CreateDataset path spec) m d (never m) (sym (linked_keeps s.tree path (ToObject s.next) m) ∙ sym (beside_keeps (with_link_at s.tree path (ToObject s.next)) s.next (new_object (Array (new_dataset spec))) m low) ∙ there)
array_after s (HardLink target path) m low d there = same_of s.tree (HardLink target path) m d (never m) (sym (linked_to_keeps s.tree target path m) ∙ there)
array_after s (SoftLink text path) m low d there = same_of s.tree (SoftLink text path) m d (never m) (sym (linked_keeps s.tree path (Soft text) m) ∙ there)
array_after s (Unlink path) m low d there = same_of s.tree (Unlink path) m d (never m) (sym (unlinked_keeps s.tree path m) ∙ reached_keeps (without_link_at s.tree path) m d there)
array_after s (SetAttr path attr) m low d there =
    same_of s.tree (SetAttr path attr) m d (never m) (sym (object_at_kept (with_attributes (λ a. insert a attr.name (attribute_from attr))) (λ o. refl) s.tree (object_at s.tree path) m) ∙ there)
array_after s (RemoveAttr path name) m low d there =
    same_of s.tree (RemoveAttr path name) m d (never m) (sym (object_at_kept (with_attributes (λ a. remove a name)) (λ o. refl) s.tree (object_at s.tree path) m) ∙ there)
array_after s (Write path hyper values) m low d there = changed_at s.tree (Write path hyper values) m d (object_at s.tree path) refl there
array_after s (Resize path dims) m low d there = changed_at s.tree (Resize path dims) m d (object_at s.tree path) refl there

-- ---- cells that an edit does not touch

module _ (test : ℕ → Bool) where
  passes_all : (xs : List ℕ) → AllByRecursion (λ x. test x ≡ true) (filter test xs)
  passes_all [] = tt
  passes_all (x ∷ xs) = by_test (test x) refl (passes_all xs) where
    by_test : (b : Bool) → test x ≡ b → AllByRecursion (λ x. test x ≡ true) (filter test xs) → AllByRecursion (λ x. test x ≡ true) (cond b (x ∷ filter test xs) (filter test xs))
    by_test true is rest = (is, rest)
    by_test false is rest = rest

  cells_else : (values : List ℤ) (places : List ℕ) (new : List ℤ) (p : ℕ) (fill : ℤ) → test p ≡ false → AllByRecursion (λ x. test x ≡ true) places
      → get_or (with_cells values places new) p fill ≡ get_or values p fill
  cells_else values [] new p fill other all = refl
  cells_else values (q ∷ places) [] p fill other all = refl
  cells_else values (q ∷ places) (v ∷ vs) p fill other all =
      cells_else (set values q v) places vs p fill other all.1
      ∙ get_or-set_other values q p v fill (λ same. let wrong : true ≡ false = sym all.0 ∙ ap test (sym same) ∙ other in absurd (cc))

selected_all : (sizes : List ℕ) (slab : Slab) → AllByRecursion (λ place. is_selected slab (index_of sizes place) ≡ true) (selection_of sizes slab)
unfolding selection_of
selected_all sizes slab = passes_all (λ place. is_selected slab (index_of sizes place)) (range_with_len 0 (cells sizes))

-- what a write does not select stays
written_cell : (slab : Slab) (values : List ℤ) (d : Dataset) (index : List ℕ) → (is_inside d.sizes index && is_selected slab index) ≡ false
    → cell_or_fill (with_selection slab values d) index ≡ cell_or_fill d index
written_cell slab values d index other = by_test (is_inside d.sizes index) refl where
  by_test : (b : Bool) → is_inside d.sizes index ≡ b
      → cond b (get_or (with_cells d.cells (selection_of d.sizes slab) values) (place_of d.sizes index) d.fill) d.fill ≡ cond b (get_or d.cells (place_of d.sizes index) d.fill) d.fill
  by_test false is = refl
  by_test true is =
      let back : index_of d.sizes (place_of d.sizes index) ≡ index = index-place d.sizes index (inside_of d.sizes index is) in
      let unselected : is_selected slab index ≡ false = sym (ap (λ b. b && is_selected slab index) is) ∙ other in
      cells_else (λ place. is_selected slab (index_of d.sizes place)) d.cells (selection_of d.sizes slab) values (place_of d.sizes index) d.fill (ap (is_selected slab) back ∙ unselected)
      (selected_all d.sizes slab)

-- what a resize does not lose stays, and what it adds is the fill as before
resized_cell : (sizes : List ℕ) (d : Dataset) (index : List ℕ) → (is_inside d.sizes index && not (is_inside sizes index)) ≡ false → cell_or_fill (with_sizes sizes d) index ≡ cell_or_fill d index
resized_cell sizes d index other = by_test (is_inside sizes index) refl where
  by_test : (b : Bool) → is_inside sizes index ≡ b
      → cond b (get_or (map (λ place. cell_or_fill d (index_of sizes place)) (range_with_len 0 (cells sizes))) (place_of sizes index) d.fill) d.fill ≡ cell_or_fill d index
  by_test true is =
      let inside = inside_of sizes index is in
      get_or-map-range_with_len (λ n. cell_or_fill d (index_of sizes n)) 0 (cells sizes) (place_of sizes index) (place_of sizes index) d.fill (place_below sizes index inside) (omega arith)
      ∙ ap (cell_or_fill d) (index-place sizes index inside)
  by_test false is =
      let gone : is_inside d.sizes index ≡ false = only_first (is_inside d.sizes index) (sym (ap (λ b. is_inside d.sizes index && not b) is) ∙ other) in
      sym (ap (λ b. cond b (get_or d.cells (place_of d.sizes index) d.fill) d.fill) gone) where
        only_first : (b : Bool) → (b && true) ≡ false → b ≡ false
        only_first true wrong = absurd (let none : true ≡ false = wrong in cc)
        only_first false right = refl

-- the cell at an index that an edit does not touch, inside or not, is as it was
pub untouched_cell : (edit : Edit) (d : Dataset) (index : List ℕ) → is_touched edit d.sizes index ≡ false → cell_or_fill (change_of edit d) index ≡ cell_or_fill d index
untouched_cell (CreateGroup path) d index other = refl
untouched_cell (CreateDataset path spec) d index other = refl
untouched_cell (HardLink target path) d index other = refl
untouched_cell (SoftLink text path) d index other = refl
untouched_cell (Unlink path) d index other = refl
untouched_cell (SetAttr path attr) d index other = refl
untouched_cell (RemoveAttr path name) d index other = refl
untouched_cell (Write path hyper values) d index other = written_cell (axes_of hyper) values d index other
untouched_cell (Resize path dims) d index other = resized_cell dims d index other
