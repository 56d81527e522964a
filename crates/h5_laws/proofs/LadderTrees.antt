-- What stands below the nodes of a tree, by rows; and a tree that is ordered as its own nodes are read is so as they stand.
use Rattle.std.proofs.Common.{◌≡◌, ℕ, zero, suc, ◌+◌, List, [], ◌∷◌, ◌++◌, length, map, get_or, refl, sym, ap, ◌∙◌, subst, arith}
use Rattle.std.specs.List.{AllByRecursion, flat_map}
use Rattle.std.proofs.lemmas.List.{append-nil}
use Rattle.std.proofs.lemmas.Grind.{flat_map-append}
use Rattle.h5_bytes.specs.Bytes.{undefined_address}
use Rattle.h5_model.specs.Format.Rows.{Node, Reading, next_row, row_below}
use Rattle.h5_model.specs.Format.Nodes.{Kind, HasTree, node_at, reading_of}
use Rattle.h5_model.proofs.OneTree.{owned_is}
use Rattle.h5_laws.specs.Ladders.{Sides, Bottom, AreBetween, IsLadder, IsOrderedBy, all_of, items_under, lists_below}
use Rattle.h5_laws.proofs.Ladders.{ladder_places, places_ladder}
use Rattle.h5_laws.proofs.Lists.{In, all_in}
use Rattle.h5_laws.proofs.Rows.{row_is, row_of, rows_below, row_level}
use Rattle.h5_laws.proofs.Subtrees.{child_below, read_same}
use Rattle.h5_laws.proofs.Trees.{row_owned, tree_rows}

-- ---- lists of lists

flat-flat : {A B C : Type 0} (f : B → List C) (g : A → List B) (xs : List A) → flat_map (λ x. flat_map f (g x)) xs ≡ flat_map f (flat_map g xs)
flat-flat f g [] = refl
flat-flat {C = C} f g (x ∷ xs) =
    ap (λ (zs : List C). flat_map f (g x) ++ zs) (flat-flat f g xs) ∙ sym (flat_map-append f (g x) (flat_map g xs))

pub all-map : {A B : Type 0} (f : A → List B) (xs : List A) → all_of (map f xs) ≡ flat_map f xs
all-map f [] = refl
all-map {B = B} f (x ∷ xs) = ap (λ (ys : List B). f x ++ ys) (all-map f xs)

-- ---- by rows

module _ (V : Reading) where
  module _ {X : Type 0} (bottom : Bottom X) where
    -- the items at all children of a node of level 0
    abbrev pub items_at : ℕ → List X
    items_at at = all_of (bottom (V at))

    -- what stands below the nodes of a row is what stands at the children of the nodes of level 0 below them
    pub items_row : (level : ℕ) (row : List ℕ) → flat_map (items_under V bottom level) row ≡ flat_map items_at (row_below V level row)
    items_row zero row = refl
    items_row (suc level) row = flat-flat (items_under V bottom level) (λ n. (V n).children) row ∙ items_row level (next_row V row)

    pub items_below : (level at : ℕ) → items_under V bottom level at ≡ flat_map items_at (row_below V level (at ∷ []))
    items_below level at = sym (append-nil (items_under V bottom level at)) ∙ items_row level (at ∷ [])

    -- the lists below a node's children are what stands below it
    pub all_lists : (level at : ℕ) → all_of (lists_below V bottom level (V at)) ≡ items_under V bottom level at
    all_lists zero at = refl
    all_lists (suc level) at = all-map (items_under V bottom level) (V at).children

    -- ---- in order by places, and as a ladder

    module _ (sides : Sides (List ℕ) X) (node : Node) (lists : length (lists_below V bottom node.level node) ≡ length node.children) where
      pub ordered_ladder : length node.keys ≡ length node.children + 1 → IsOrderedBy sides V bottom node → IsLadder sides node.keys (lists_below V bottom node.level node)
      ordered_ladder long ordered =
          places_ladder sides [] node.keys (lists_below V bottom node.level node) (omega (arith, long, lists))
          (subst (AreBetween sides (λ i. get_or node.keys i []) (λ i. get_or (lists_below V bottom node.level node) i [])) (sym lists) ordered)

      pub ladder_ordered : IsLadder sides node.keys (lists_below V bottom node.level node) → IsOrderedBy sides V bottom node
      ladder_ordered is =
          subst (AreBetween sides (λ i. get_or node.keys i []) (λ i. get_or (lists_below V bottom node.level node) i [])) lists
          (ladder_places sides [] node.keys (lists_below V bottom node.level node) is)

-- ---- by two readings

module _ {X : Type 0} (V W : Reading) (bottom own : Bottom X) where
  -- what is read at the nodes from one of this level down is the same, and so is what stands at the children of those of level 0
  abbrev pub AreSame : ℕ → ℕ → Type 0
  AreSame zero at = own (W at) ≡ bottom (V at)
  AreSame (suc level) at = (W at ≡ V at) × AllByRecursion (AreSame level) (V at).children

  flat_same : (f g : ℕ → List X) (P : ℕ → Type 0) → ((at : ℕ) → P at → f at ≡ g at) → (row : List ℕ) → AllByRecursion P row → flat_map f row ≡ flat_map g row
  flat_same f g P same [] all = refl
  flat_same f g P same (n ∷ row) all = rw (same n all.0, flat_same f g P same row all.1) refl

  map_same : (f g : ℕ → List X) (P : ℕ → Type 0) → ((at : ℕ) → P at → f at ≡ g at) → (row : List ℕ) → AllByRecursion P row → map f row ≡ map g row
  map_same f g P same [] all = refl
  map_same f g P same (n ∷ row) all = rw (same n all.0, map_same f g P same row all.1) refl

  pub items-same : (level at : ℕ) → AreSame level at → items_under W own level at ≡ items_under V bottom level at
  items-same zero at same = ap (λ (lists : List (List X)). all_of lists) same
  items-same (suc level) at same =
      ap (λ (n : Node). flat_map (items_under W own level) n.children) same.0
      ∙ flat_same (items_under W own level) (items_under V bottom level) (AreSame level) (λ n s. items-same level n s) (V at).children same.1

  pub lists-same : (level : ℕ) (node : Node) → (level ≡ 0 → own node ≡ bottom node) → ((m : ℕ) → level ≡ suc m → AllByRecursion (AreSame m) node.children)
      → lists_below W own level node ≡ lists_below V bottom level node
  lists-same zero node at_bottom below = at_bottom refl
  lists-same (suc level) node at_bottom below =
      map_same (items_under W own level) (items_under V bottom level) (AreSame level) (λ n s. items-same level n s) node.children (below level refl)

-- ---- a tree by its own nodes, and as it stands

module _ {X : Type 0} (image : List ℕ) (kind : Kind) (root level : ℕ) (owned children : List ℕ) (has : HasTree image kind root level owned children)
    (bottom own : Bottom X) where
  abbrev V : Reading
  V = node_at image kind

  abbrev W : Reading
  W = reading_of image kind owned

  module _ (own_is : (at : ℕ) → In at (row_below V level (root ∷ [])) → own (V at) ≡ bottom (V at)) where
    same_below : (d l at : ℕ) → d + l ≡ level → In at (row_below V d (root ∷ [])) → AreSame V W bottom own l at
    same_below d zero at e there =
        let last : d ≡ level = omega (arith, e) in
        let read = read_same image kind root level owned children has at (row_owned image kind root level owned children has d 0 at e there) in
        ap own read ∙ own_is at (subst (λ (n : ℕ). In at (row_below V n (root ∷ []))) last there)
    same_below d (suc l) at e there = (
      read_same image kind root level owned children has at (row_owned image kind root level owned children has d (suc l) at e there),
      all_in (AreSame V W bottom own l) (V at).children (λ c child. same_below (suc d) l c (omega (arith, e)) (child_below V d at c (root ∷ []) there child)),
    )

    module _ (at : ℕ) (is_owned : In at owned) where
      place : (d : ℕ) × (l : ℕ) × (d + l ≡ level) × In at (row_below V d (root ∷ []))
      place = row_of V level at (root ∷ []) (subst (In at) (owned_is image kind root level owned children has) is_owned)

      level_there : (V at).level ≡ place.1
      level_there = row_level V place.1 undefined_address at (row_below V place.0 (root ∷ []))
          (row_is V place.1 (row_below V place.0 (root ∷ []))
          (rows_below V place.0 place.1 level (root ∷ []) place.2 (tree_rows image kind root level owned children has))) place.3

      -- what stands below its children, however it is read
      same_lists : lists_below W own (V at).level (V at) ≡ lists_below V bottom (V at).level (V at)
      same_lists = lists-same V W bottom own (V at).level (V at)
          (λ none.
          let last : place.0 ≡ level = omega (arith, place.2, level_there, none) in
          own_is at (subst (λ (n : ℕ). In at (row_below V n (root ∷ []))) last place.3))
          (λ m more. all_in (AreSame V W bottom own m) (V at).children
          (λ c child. same_below (suc place.0) m c (omega (arith, place.2, level_there, more)) (child_below V place.0 at c (root ∷ []) place.3 child)))

      read_there : W at ≡ V at
      read_there = read_same image kind root level owned children has at is_owned

      module _ (sides : Sides (List ℕ) X) where
        abbrev Ordered : List (List X) → Type 0
        Ordered lists = AreBetween sides (λ i. get_or (V at).keys i []) (λ i. get_or lists i []) (length (V at).children)

        -- so it is ordered by the one where it is by the other
        pub own_ordered : IsOrderedBy sides V bottom (V at) → IsOrderedBy sides W own (W at)
        own_ordered ordered = subst (IsOrderedBy sides W own) (sym read_there) (subst Ordered (sym same_lists) ordered)

        pub ordered_there : IsOrderedBy sides W own (W at) → IsOrderedBy sides V bottom (V at)
        ordered_there ordered = subst Ordered same_lists (subst (IsOrderedBy sides W own) read_there ordered)
