-- Arrays of a tree that are changed one time after another.
use Rattle.std.proofs.Common.{◌≡◌, ℕ, Option, Some, None, refl, sym, ap, ◌∙◌}
use Rattle.std.specs.Option.{option_and_then, option_map_or}
use Rattle.std.proofs.lemmas.Option.{same_Some}
use Rattle.std.specs.FinMap.{get, insert}
use Rattle.h5_model.specs.Edits.Applied.{with_dataset}
use Rattle.h5_model.specs.Tree.Objects.{Tree, Object, Content, Group, Array, Dataset, dataset_in, dataset_of, with_object}
use Rattle.h5_query.proofs.RunsWritten.{changed_twice}

-- ---- an object

twice_in : (first second : Dataset → Dataset) (o : Object) (c : Content)
    → with_dataset second (with_dataset first (record o { content = c })) ≡ with_dataset (λ d. second (first d)) (record o { content = c })
twice_in first second o (Group links) = refl
twice_in first second o (Array d) = refl

dataset_twice : (first second : Dataset → Dataset) (o : Object) → with_dataset second (with_dataset first o) ≡ with_dataset (λ d. second (first d)) o
dataset_twice first second o = twice_in first second o o.content

-- ---- the tree

-- what is made of the array that has the number is made of it at once
pub dataset_changed_twice : (tree : Tree) (number : ℕ) (first second : Dataset → Dataset)
    → with_object (with_object tree number (with_dataset first)) number (with_dataset second) ≡ with_object tree number (with_dataset (λ d. second (first d)))
dataset_changed_twice tree number first second =
    changed_twice tree number (with_dataset first) (with_dataset second) (with_dataset (λ d. second (first d))) (dataset_twice first second)

-- two changes that make the same of it
pub changed_alike : (tree : Tree) (number : ℕ) (d : Dataset) → dataset_of tree number ≡ Some d → (one other : Dataset → Dataset) → one d ≡ other d
    → with_object tree number (with_dataset one) ≡ with_object tree number (with_dataset other)
changed_alike tree number d array one other same = by_found (get tree number) array where
  by_content : (o : Object) (c : Content) → dataset_in c ≡ Some d → with_dataset one (record o { content = c }) ≡ with_dataset other (record o { content = c })
  by_content o (Group links) is = absurd (let never : None ≡ Some d = is in cc)
  by_content o (Array e) is =
      let here : e ≡ d = same_Some e d is in
      ap (λ (x : Dataset). record o { content = Array x }) (ap one here ∙ same ∙ ap other (sym here))

  by_found : (found : Option Object) → option_and_then (λ (o : Object). dataset_in o.content) found ≡ Some d
      → option_map_or (λ o. insert tree number (with_dataset one o)) found tree ≡ option_map_or (λ o. insert tree number (with_dataset other o)) found tree
  by_found None is = refl
  by_found (Some o) is = ap (insert tree number) (by_content o o.content is)
