-- An order in which objects are met has each object of a sound tree.
use Rattle.std.proofs.Common.{◌≡◌, ℕ, inl, List, [], ◌∷◌, refl, sym, subst, Some, None}
use Rattle.std.specs.Prelude.{IsSome}
use Rattle.std.specs.FinMap.{get}
use Rattle.std.specs.List.{Contains}
use Rattle.std.specs.Option.{option_and_then}
use Rattle.h5_model.specs.Tree.Objects.{Tree, ToObject, Soft, follow, link_in}
use Rattle.h5_model.proofs.ReachLaws.{same_object}
use Rattle.h5_laws.specs.Trees.Sound.{IsSoundTree}
use Rattle.h5_repack.specs.Objects.Order.{AreMet}
use Rattle.h5_laws.proofs.Lists.{contains_in}
use Rattle.h5_laws.proofs.AllReached.{soft_leads}

-- with an object, each to which a path leads from it
along : (tree : Tree) (order : List ℕ) → AreMet tree order → (path : List (List ℕ)) (from number : ℕ)
    → Contains order from → follow tree (ToObject from) path ≡ Some (ToObject number) → Contains order number
along tree order met [] from number has is = subst (Contains order) (same_object from number is) has
along tree order met (name ∷ path) from number has is = elim (link_in tree from name) as (λ found. link_in tree from name ≡ found
    → option_and_then (λ link. follow tree link path) found ≡ Some (ToObject number) → Contains order number) [
      | None ↦ λ _ no. absurd (cc)
      | Some link ↦ elim link as (λ k. link_in tree from name ≡ Some k → follow tree k path ≡ Some (ToObject number) → Contains order number) [
        | ToObject other ↦ λ linked rest. along tree order met path other number (met.closed from other name has linked) rest
        | Soft text ↦ λ _ rest. absurd (soft_leads tree text path number rest)
      ]
    ] refl is

-- each object of the tree is in the order
pub met_all : (tree : Tree) (order : List ℕ) → IsSoundTree tree → AreMet tree order → (number : ℕ) → IsSome (get tree number)
    → Contains order number
met_all tree order sound met number some =
    let path = sound.reached number some in
    along tree order met path.0 0 number (subst (λ (ns : List ℕ). Contains ns 0) (sym met.first) (contains_in 0 (0 ∷ met.others) (inl refl))) path.1
