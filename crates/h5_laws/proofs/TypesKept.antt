-- An array keeps the type of its cells, whatever edits are made: its number is given to no other object.
use Rattle.std.proofs.Common.{◌≡◌, ℕ, ◌<◌, ◌==◌, Bool, true, false, not, cond, ℤ, List, refl, sym, ap, ◌∙◌, Option, Some, None, arith}
use Rattle.std.proofs.lemmas.Bool.Decides.{nat_tests}
use Rattle.std.specs.Ordering.{nat_cmp, eq_by_cmp}
use Rattle.std.specs.Cmp.{nat_cmp_total}
use Rattle.std.specs.declared.cmp.Ordering.TheVariants.{Equal}
use Rattle.std.specs.FinMap.{get, insert, remove, empty, get-insert, get-retain_keys, nat_cmp-IsAntisymmetric}
use Rattle.std.specs.Option.{option_map_or, option_and_then}
use Rattle.h5_model.specs.Tree.Objects.{Tree, Link, ToObject, Soft, Links, Object, Group, Array, Dataset, dataset_in, dataset_of, with_object, only_reached, is_reached}
use Rattle.h5_model.specs.Tree.Paths.{parent_at, object_at}
use Rattle.h5_model.specs.Views.Selection.{Slab, axes_of}
use Rattle.h5_model.specs.Edits.Applied.{State, state_after, with_edit, with_link_at, without_link_at, with_hard_link, with_links, with_dataset, with_attributes, with_object_at, new_object, new_dataset, attribute_from, with_selection, with_sizes}
use Rattle.h5_model.specs.declared.edits.Edit.{Edit}
use Rattle.h5_model.specs.declared.edits.Edit.TheVariants.{CreateGroup, CreateDataset, HardLink, SoftLink, Unlink, SetAttr, RemoveAttr, Write, Resize}
use Rattle.h5_model.proofs.StateLaws.{passes, passes-with_object, same_number}
use Rattle.h5_model.proofs.RefusalLaws.{same_by}

-- an array whose values have another size
abbrev has_other_size : ℕ → Object → Bool
has_other_size size o = option_map_or (λ (d : Dataset). not (d.fixed.size == size)) (dataset_in o.content) false

-- each object has values of the size that it had
SameSizes : Tree → Tree → Type 0
SameSizes old new = (size m : ℕ) → passes (has_other_size size) new m ≡ passes (has_other_size size) old m

size-with_links : (size : ℕ) (change : Links → Links) (o : Object) → has_other_size size (with_links change o) ≡ has_other_size size o
size-with_links size change o = elim (o.content) as (λ content. has_other_size size (with_links change (record o { content = content })) ≡ has_other_size size (record o { content = content })) [
  | Group links ↦ refl
  | Array d ↦ refl
]

size-written : (size : ℕ) (slab : Slab) (values : List ℤ) (o : Object) → has_other_size size (with_dataset (with_selection slab values) o) ≡ has_other_size size o
size-written size slab values o = elim (o.content) as (λ content. has_other_size size (with_dataset (with_selection slab values) (record o { content = content })) ≡ has_other_size size (record o { content = content })) [
  | Group links ↦ refl
  | Array d ↦ refl
]

size-resized : (size : ℕ) (dims : List ℕ) (o : Object) → has_other_size size (with_dataset (with_sizes dims) o) ≡ has_other_size size o
size-resized size dims o = elim (o.content) as (λ content. has_other_size size (with_dataset (with_sizes dims) (record o { content = content })) ≡ has_other_size size (record o { content = content })) [
  | Group links ↦ refl
  | Array d ↦ refl
]

sizes-linked : (tree : Tree) (path : List ℕ) (link : Link) → SameSizes tree (with_link_at tree path link)
unfolding SameSizes
sizes-linked tree path link size m = elim (parent_at tree path) as (λ p. passes (has_other_size size) (option_map_or (λ p. with_object tree p.0 (with_links (λ links. insert links p.1 link))) p tree) m ≡ passes (has_other_size size) tree m) [
  | None ↦ refl
  | Some p ↦ passes-with_object (has_other_size size) (with_links (λ links. insert links p.1 link)) tree p.0 m (λ o there. size-with_links size (λ links. insert links p.1 link) o)
]

sizes-unlinked : (tree : Tree) (path : List ℕ) → SameSizes tree (without_link_at tree path)
unfolding SameSizes
sizes-unlinked tree path size m = elim (parent_at tree path) as (λ p. passes (has_other_size size) (option_map_or (λ p. with_object tree p.0 (with_links (λ links. remove links p.1))) p tree) m ≡ passes (has_other_size size) tree m) [
  | None ↦ refl
  | Some p ↦ passes-with_object (has_other_size size) (with_links (λ links. remove links p.1)) tree p.0 m (λ o there. size-with_links size (λ links. remove links p.1) o)
]

sizes-linked_to : (tree : Tree) (target path : List ℕ) → SameSizes tree (with_hard_link tree target path)
unfolding SameSizes
sizes-linked_to tree target path size m = elim (object_at tree target) as (λ o. passes (has_other_size size) (option_map_or (λ number. with_link_at tree path (ToObject number)) o tree) m ≡ passes (has_other_size size) tree m) [
  | None ↦ refl
  | Some number ↦ sizes-linked tree path (ToObject number) size m
]

sizes-with_object_at : (change : Object → Object) → ((size : ℕ) (o : Object) → has_other_size size (change o) ≡ has_other_size size o) → (tree : Tree) (path : List ℕ)
    → SameSizes tree (with_object_at tree path change)
unfolding SameSizes
sizes-with_object_at change keeps tree path size m = elim (object_at tree path) as (λ o. passes (has_other_size size) (option_map_or (λ number. with_object tree number change) o tree) m ≡ passes (has_other_size size) tree m) [
  | None ↦ refl
  | Some number ↦ passes-with_object (has_other_size size) change tree number m (λ o there. keeps size o)
]

size_beside : (tree : Tree) (next : ℕ) (o : Object) (size m : ℕ) → m < next → passes (has_other_size size) tree m ≡ false
    → passes (has_other_size size) (insert tree next o) m ≡ false
size_beside tree next o size m low before = ap (λ found. option_map_or (has_other_size size) found false) (get-insert nat_cmp_total tree next o m)
    ∙ elim (eq_by_cmp nat_cmp m next) as (λ b. eq_by_cmp nat_cmp m next ≡ b → option_map_or (has_other_size size) (cond b (Some o) (get tree m)) false ≡ false) [
      | true ↦ λ same. let here : m ≡ next = nat_cmp-IsAntisymmetric m next (same_number m next same) in absurd (omega (arith, here, low))
      | false ↦ λ _. before
    ] refl

size_reached : (tree : Tree) (size m : ℕ) → passes (has_other_size size) tree m ≡ false → passes (has_other_size size) (only_reached tree) m ≡ false
size_reached tree size m before =
    let same = λ (x : ℕ) (tied : nat_cmp m x ≡ Equal). ap (is_reached tree) (sym (nat_cmp-IsAntisymmetric m x tied)) in
    ap (λ found. option_map_or (has_other_size size) found false) (get-retain_keys tree (is_reached tree) m same)
    ∙ elim (is_reached tree m) as (λ b. option_map_or (has_other_size size) (cond b (get tree m) None) false ≡ false) [ true ↦ before | false ↦ refl ]

-- an object whose number was given out has no other size after an edit
size_kept : (s : State) (edit : Edit) (size m : ℕ) → m < s.next → passes (has_other_size size) s.tree m ≡ false
    → passes (has_other_size size) (state_after s edit).tree m ≡ false
unfolding with_edit SameSizes
size_kept s (CreateGroup path) size m low before = size_beside (with_link_at s.tree path (ToObject s.next)) s.next (new_object (Group empty)) size m low (sizes-linked s.tree path (ToObject s.next) size m ∙ before)
size_kept s (CreateDataset path spec) size m low before = size_beside (with_link_at s.tree path (ToObject s.next)) s.next (new_object (Array (new_dataset spec))) size m low (sizes-linked s.tree path (ToObject s.next) size m ∙ before)
size_kept s (HardLink target path) size m low before = sizes-linked_to s.tree target path size m ∙ before
size_kept s (SoftLink text path) size m low before = sizes-linked s.tree path (Soft text) size m ∙ before
size_kept s (Unlink path) size m low before = size_reached (without_link_at s.tree path) size m (sizes-unlinked s.tree path size m ∙ before)
size_kept s (SetAttr path attr) size m low before = sizes-with_object_at (with_attributes (λ a. insert a attr.name (attribute_from attr))) (λ r o. refl) s.tree path size m ∙ before
size_kept s (RemoveAttr path name) size m low before = sizes-with_object_at (with_attributes (λ a. remove a name)) (λ r o. refl) s.tree path size m ∙ before
size_kept s (Write path hyper values) size m low before =
    sizes-with_object_at (with_dataset (with_selection (axes_of hyper) values)) (λ r o. size-written r (axes_of hyper) values o) s.tree path size m ∙ before
size_kept s (Resize path dims) size m low before =
    sizes-with_object_at (with_dataset (with_sizes dims)) (λ r o. size-resized r dims o) s.tree path size m ∙ before

-- ---- by the datasets

abbrev differs_from : ℕ → Option Dataset → Bool
differs_from size found = option_map_or (λ (d : Dataset). not (d.fixed.size == size)) found false

of_dataset : (size : ℕ) (tree : Tree) (m : ℕ) → passes (has_other_size size) tree m ≡ differs_from size (dataset_of tree m)
of_dataset size tree m = elim (get tree m) as (λ found. option_map_or (has_other_size size) found false
    ≡ differs_from size (option_and_then (λ (o : Object). dataset_in o.content) found)) [ None ↦ refl | Some o ↦ refl ]

size_from : (size : ℕ) (found : Option Dataset) → differs_from size found ≡ false → (d : Dataset) → found ≡ Some d → d.fixed.size ≡ size
size_from size found h d there = same_by d.fixed.size size (sym (ap (differs_from size) there) ∙ h)

same_size : (n : ℕ) → not (n == n) ≡ false
same_size n = grind (arith, nat_tests)

after_of : (s : State) (edit : Edit) (size m : ℕ) → m < s.next → differs_from size (dataset_of s.tree m) ≡ false
    → (d : Dataset) → dataset_of (state_after s edit).tree m ≡ Some d → d.fixed.size ≡ size
after_of s edit size m low before d there =
    size_from size (dataset_of (state_after s edit).tree m)
    (sym (of_dataset size (state_after s edit).tree m) ∙ size_kept s edit size m low (of_dataset size s.tree m ∙ before)) d there

-- a dataset of a number that was given out before was there, and has values of the size that they had
pub size-accepted : (s : State) (edit : Edit) (m : ℕ) → m < s.next → (d : Dataset) → dataset_of (state_after s edit).tree m ≡ Some d
    → (old : Dataset) × (dataset_of s.tree m ≡ Some old) × (d.fixed.size ≡ old.fixed.size)
size-accepted s edit m low d there = go (dataset_of s.tree m) refl where
  go : (found : Option Dataset) → dataset_of s.tree m ≡ found → (old : Dataset) × (dataset_of s.tree m ≡ Some old) × (d.fixed.size ≡ old.fixed.size)
  go (Some old) is = (old, is, after_of s edit old.fixed.size m low (ap (differs_from old.fixed.size) is ∙ same_size old.fixed.size) d there)
  go None is =
      let zero_size : d.fixed.size ≡ 0 = after_of s edit 0 m low (ap (differs_from 0) is) d there in
      let one_size : d.fixed.size ≡ 1 = after_of s edit 1 m low (ap (differs_from 1) is) d there in
      absurd (omega (arith, zero_size, one_size))
