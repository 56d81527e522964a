-- A node over its subtrees, child by child.
use Rattle.std.proofs.Common.{◌≡◌, ◌≢◌, ℕ, zero, suc, ◌+◌, ◌-◌, ◌<◌, List, [], length, get_or, refl, ap, arith, ◌∙◌}
use Rattle.std.specs.Prelude.{slice_index_or}
use Rattle.std.proofs.lemmas.List.{get_or-map}
use Rattle.h5_model.specs.Format.Rows.{Node, Reading}
use Rattle.h5_laws.specs.Ladders.{Bottom, IsOrderedBy, LieBetween, Sides, items_under, lists_below}

module _ {X : Type 0} (sides : Sides (List ℕ) X) (V : Reading) (bottom : Bottom X) (node : Node) where
  -- what stands below child i is between the keys around it, the second of which may be the next one
  abbrev pub IsChildOrdered : ℕ → Type 0
  IsChildOrdered i = sides.Rise (slice_index_or node.keys i []) (slice_index_or node.keys (i + 1) [])
      × LieBetween sides (slice_index_or node.keys i []) (slice_index_or node.keys (i + 1) []) (get_or (lists_below V bottom node.level node) i [])

  pub each_ordered : IsOrderedBy sides V bottom node → (i : ℕ) → i < length node.children → IsChildOrdered i
  each_ordered ordered i low = (ordered.rising i low, ordered.between i low)

  -- what is asked of a child of a node above level 0 and of the keys around it
  module _ (i child : ℕ) (low high : List ℕ) (some : node.level ≢ 0) (under : i < length node.children) (read : slice_index_or node.children i 0 ≡ child)
      (low_is : slice_index_or node.keys i [] ≡ low) (high_is : slice_index_or node.keys (i + 1) [] ≡ high) where
    abbrev pub IsAsked : Type 0
    IsAsked = sides.Rise low high × LieBetween sides low high (items_under V bottom (node.level - 1) child)

    list_is : (level : ℕ) → level ≢ 0 → get_or (lists_below V bottom level node) i [] ≡ items_under V bottom (level - 1) child
    list_is zero none = absurd (none refl)
    list_is (suc level) none =
        let less : level ≡ suc level - 1 = omega arith in
        get_or-map (items_under V bottom level) node.children i 0 [] under ∙ ap (items_under V bottom level) read ∙ ap (λ (l : ℕ). items_under V bottom l child) less

    pub child_ordered : IsAsked → IsChildOrdered i
    child_ordered asked = rw (low_is, high_is, list_is node.level some) asked

    pub child_asked : IsChildOrdered i → IsAsked
    child_asked ordered = rw (low_is, high_is, list_is node.level some) at ordered
