-- One path alone leads to a group, since one link alone names it: how many names lead to it is known.
use Rattle.std.proofs.Common.{◌≡◌, ℕ, zero, suc, ◌≤◌, List, [], ◌∷◌, ◌++◌, length, length-append, refl, sym, ap, ◌∙◌, subst, Some, inl, inr, arith}
use Rattle.std.proofs.lemmas.Bool.{cases_eq}
use Rattle.std.specs.Prelude.{IsSome}
use Rattle.h5_model.specs.Tree.Objects.{Tree, ToObject, links_of, link_in, follow, hard_links}
use Rattle.h5_laws.proofs.Objects.{follow-more}
use Rattle.h5_laws.proofs.SoundLaws.Counts.{one_parent, link_counts}
use Rattle.h5_laws.proofs.SoundLaws.LinksThere.{holds_links}

-- so many links lead from the root to the object
pub Depth : Tree → ℕ → ℕ → Type 0
Depth tree zero number = number ≡ 0
Depth tree (suc k) number = (parent : ℕ) × (name : List ℕ) × Depth tree k parent × (link_in tree parent name ≡ Some (ToObject number))

module _ (tree : Tree) where
  pub at_root : Depth tree 0 0
  unfolding Depth
  at_root = refl

  pub deeper : (k parent number : ℕ) (name : List ℕ) → Depth tree k parent → link_in tree parent name ≡ Some (ToObject number) → Depth tree (suc k) number
  unfolding Depth
  deeper k parent number name above is = (parent, name, above, is)

  -- a path to an object that is so deep
  pub depth_path : (k number : ℕ) → Depth tree k number → (path : List (List ℕ)) × (length path ≡ k) × (follow tree (ToObject 0) path ≡ Some (ToObject number))
  unfolding Depth
  depth_path zero number d = ([], refl, ap (λ (n : ℕ). Some (ToObject n)) (sym d))
  depth_path (suc k) number (parent, name, above, is) =
      let rest = depth_path k parent above in (
        rest.0 ++ name ∷ [],
        omega (arith, length-append rest.0 (name ∷ []), rest.1),
        follow-more tree (ToObject 0) (ToObject number) rest.0 name parent rest.2 is,
      )

  module _ (top : hard_links tree 0 ≡ 0) (single : (number : ℕ) → IsSome (links_of tree number) → hard_links tree number ≤ 1) where
    -- a group is at one depth
    pub one_depth : (k m number : ℕ) → IsSome (links_of tree number) → Depth tree k number → Depth tree m number → k ≡ m
    unfolding Depth
    one_depth zero zero number group d e = refl
    one_depth zero (suc m) number group d (parent, name, above, is) =
        absurd (omega (arith, top, link_counts tree 0 parent name (is ∙ ap (λ (n : ℕ). Some (ToObject n)) d)))
    one_depth (suc k) zero number group (parent, name, above, is) e =
        absurd (omega (arith, top, link_counts tree 0 parent name (is ∙ ap (λ (n : ℕ). Some (ToObject n)) e)))
    one_depth (suc k) (suc m) number group (a, x, above, is) (b, y, above', is') = elim (cases_eq b a) [
      | inl same ↦ ap suc (one_depth k m a (holds_links tree a x (ToObject number) is) above (subst (Depth tree m) same above'))
      | inr other ↦ absurd (one_parent tree number a b x y (single number group) is is' other)
    ]
