-- A root is that of one tree at most.
use Rattle.std.proofs.Common.{◌≡◌, ℕ, List, [], ◌∷◌, sym, ap, ◌∙◌, subst}
use Rattle.h5_model.specs.Format.Rows.{Node, blank, leaves, nodes}
use Rattle.h5_model.specs.Format.Nodes.{Kind, HasTree, node_at, reading_of}
use Rattle.h5_model.proofs.RowLaws.{Agree, only_here, nodes-same, leaves-same, root_level, root_agrees}

module _ (image : List ℕ) (kind : Kind) (root level : ℕ) (owned children : List ℕ) (has : HasTree image kind root level owned children) where
  agrees : Agree (reading_of image kind owned) (node_at image kind) (nodes (reading_of image kind owned) level (root ∷ []))
  agrees = subst (λ ns. Agree (reading_of image kind owned) (node_at image kind) ns) has.owns (only_here blank (node_at image kind) owned)

  pub level_is : (node_at image kind root).level ≡ level
  level_is = ap (λ (n : Node). n.level) (root_agrees (reading_of image kind owned) (node_at image kind) level root agrees)
      ∙ root_level (reading_of image kind owned) level root has.rows

  pub owned_is : owned ≡ nodes (node_at image kind) level (root ∷ [])
  owned_is = has.owns ∙ sym (nodes-same (reading_of image kind owned) (node_at image kind) level (root ∷ []) agrees)

  pub children_are : children ≡ leaves (node_at image kind) level (root ∷ [])
  children_are = has.all ∙ sym (leaves-same (reading_of image kind owned) (node_at image kind) level (root ∷ []) agrees)

module _ (image : List ℕ) (kind : Kind) (root l m : ℕ) (owned owned' xs ys : List ℕ)
    (has : HasTree image kind root l owned xs) (has' : HasTree image kind root m owned' ys) where
  pub one_level : l ≡ m
  one_level = sym (level_is image kind root l owned xs has) ∙ level_is image kind root m owned' ys has'

  pub one_owned : owned ≡ owned'
  one_owned = owned_is image kind root l owned xs has ∙ ap (λ n. nodes (node_at image kind) n (root ∷ [])) one_level ∙ sym (owned_is image kind root m owned' ys has')

  pub one_children : xs ≡ ys
  one_children = children_are image kind root l owned xs has ∙ ap (λ n. leaves (node_at image kind) n (root ∷ [])) one_level ∙ sym (children_are image kind root m owned' ys has')
