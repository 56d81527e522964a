-- What holds of a node and of all nodes below each child holds of all nodes from it down, and the other way.
use Rattle.std.proofs.Common.{◌≡◌, ◌≢◌, ℕ, zero, suc, ◌-◌, ◌<◌, List, [], ◌∷◌, ◌++◌, length, get_or, refl, sym, subst, arith, append-nil}
use Rattle.std.specs.List.{AllByRecursion, Contains}
use Rattle.std.proofs.lemmas.List.Elements.{All-contains, All-contains_itself, All-from_recursion, recursion_from_All}
use Rattle.h5_bytes.proofs.BlockLaws.{all_append, all_left, all_right}
use Rattle.h5_model.specs.Format.Rows.{Node, Reading, next_row, nodes}
use Rattle.h5_btree.specs.Order.{HasSubtree, IsKnownFrom, nodes_from}
use Rattle.h5_btree.specs.Walk.Below.{reading_in}
use Rattle.h5_btree.specs.Walk.Forms.{TreeForm}
use Rattle.h5_btree.proofs.LeafLaws.{next_row-append}
use Rattle.h5_btree.proofs.OrderLaws.Elements.{all_at}

module _ (V : Reading) (P : ℕ → Type 0) where
  -- each node of these rows
  abbrev Each : ℕ → List ℕ → Type 0
  Each level row = AllByRecursion P (nodes V level row)

  each_none : (level : ℕ) → Each level []
  each_none zero = tt
  each_none (suc level) = each_none level

  each_append : (level : ℕ) (xs ys : List ℕ) → Each level xs → Each level ys → Each level (xs ++ ys)
  each_append zero xs ys a b = all_append P xs ys a b
  each_append (suc level) xs ys a b =
      all_append P (xs ++ ys) (nodes V level (next_row V (xs ++ ys)))
      (all_append P xs ys (all_left P xs (nodes V level (next_row V xs)) a) (all_left P ys (nodes V level (next_row V ys)) b))
      (subst (Each level) (sym (next_row-append V xs ys))
      (each_append level (next_row V xs) (next_row V ys) (all_right P xs (nodes V level (next_row V xs)) a) (all_right P ys (nodes V level (next_row V ys)) b)))

  each_split : (level : ℕ) (xs ys : List ℕ) → Each level (xs ++ ys) → Each level xs × Each level ys
  each_split zero xs ys all = (all_left P xs ys all, all_right P xs ys all)
  each_split (suc level) xs ys all =
      let here : AllByRecursion P (xs ++ ys) = all_left P (xs ++ ys) (nodes V level (next_row V (xs ++ ys))) all in
      let below : Each level (next_row V (xs ++ ys)) = all_right P (xs ++ ys) (nodes V level (next_row V (xs ++ ys))) all in
      let parts = each_split level (next_row V xs) (next_row V ys) (subst (Each level) (next_row-append V xs ys) below) in (
        all_append P xs (nodes V level (next_row V xs)) (all_left P xs ys here) parts.0,
        all_append P ys (nodes V level (next_row V ys)) (all_right P xs ys here) parts.1,
      )

  row_up : (level : ℕ) (row : List ℕ) → AllByRecursion (λ n. Each level (n ∷ [])) row → Each level row
  row_up level [] all = each_none level
  row_up level (n ∷ row) all = each_append level (n ∷ []) row all.0 (row_up level row all.1)

  row_down : (level : ℕ) (row : List ℕ) → Each level row → AllByRecursion (λ n. Each level (n ∷ [])) row
  row_down level [] all = tt
  row_down level (n ∷ row) all = let parts = each_split level (n ∷ []) row all in (parts.0, row_down level row parts.1)

-- ---- the nodes from a node of the image down

module _ (image : List ℕ) (form : TreeForm) (at : ℕ) (node : Node) (is : node ≡ reading_in image form at) where
  module _ (P : ℕ → Type 0) where
    -- each node from this one down
    abbrev pub AllFrom : ℕ → ℕ → Type 0
    AllFrom level n = AllByRecursion P (nodes_from image form level n)

    pub from_up : (level : ℕ) → level ≢ 0 → P at → AllByRecursion (AllFrom (level - 1)) node.children → AllFrom level at
    from_up zero some here below = absurd (some refl)
    from_up (suc level) some here below =
        let less : suc level - 1 ≡ level = omega arith in
        let V : Reading = reading_in image form in
        let children : AllByRecursion (AllFrom level) (V at).children
        = subst (λ (n : Node). AllByRecursion (AllFrom level) n.children) is (subst (λ (l : ℕ). AllByRecursion (AllFrom l) node.children) less below) in
        (here, subst (λ (row : List ℕ). AllByRecursion P (nodes V level row)) (sym (append-nil (V at).children)) (row_up V P level (V at).children children))

    from_down : (level : ℕ) → level ≢ 0 → AllFrom level at → AllByRecursion (AllFrom (level - 1)) node.children
    from_down zero some all = absurd (some refl)
    from_down (suc level) some all =
        let less : level ≡ suc level - 1 = omega arith in
        let V : Reading = reading_in image form in
        let children = row_down V P level (V at).children
        (subst (λ (row : List ℕ). AllByRecursion P (nodes V level row)) (append-nil (V at).children) all.1) in
        subst (λ (l : ℕ). AllByRecursion (AllFrom l) node.children) less (subst (λ (n : Node). AllByRecursion (AllFrom level) n.children) (sym is) children)

  pub child_over : (level i child : ℕ) → level ≢ 0 → HasSubtree image form (suc level) at → i < length node.children → get_or node.children i child ≡ child
      → HasSubtree image form (suc (level - 1)) child
  child_over zero i child some stands low read = absurd (some refl)
  child_over (suc level) i child some stands low read =
      let less : level ≡ suc level - 1 = omega arith in
      subst (λ (l : ℕ). HasSubtree image form (suc l) child) less
      (all_at (HasSubtree image form (suc level)) node.children i child low read
      (subst (λ (n : Node). AllByRecursion (HasSubtree image form (suc level)) n.children) (sym is) stands.1))

  -- a node from a child down is one from the node down
  pub from_child : (level i child x : ℕ) → level ≢ 0 → i < length node.children → get_or node.children i child ≡ child
      → Contains (nodes_from image form (level - 1) child) x → Contains (nodes_from image form level at) x
  from_child level i child x some low read has =
      let all : List ℕ = nodes_from image form level at in
      let each = from_down (Contains all) level some (recursion_from_All (Contains all) all (All-contains_itself all)) in
      let here = all_at (AllFrom (Contains all) (level - 1)) node.children i child low read each in
      All-contains (Contains all) (nodes_from image form (level - 1) child) x (All-from_recursion (Contains all) (nodes_from image form (level - 1) child) here) has

-- what is known from a node down is known from each child down
pub known_child : (Known : Node → Type 0) (V : Reading) (node : Node) (level i child : ℕ) → level ≢ 0 → IsKnownFrom Known V level node → i < length node.children
    → get_or node.children i child ≡ child → IsKnownFrom Known V (level - 1) (V child)
known_child Known V node zero i child some known low read = absurd (some refl)
known_child Known V node (suc level) i child some known low read =
    let less : level ≡ suc level - 1 = omega arith in
    subst (λ (l : ℕ). IsKnownFrom Known V l (V child)) less
    (all_at (λ (n : ℕ). IsKnownFrom Known V level (V n)) node.children i child low read known)

pub known_over : (Known : Node → Type 0) (V : Reading) (at : ℕ) (node : Node) → node ≡ V at → (level i child : ℕ) → level ≢ 0 → IsKnownFrom Known V level (V at)
    → i < length node.children → get_or node.children i child ≡ child → IsKnownFrom Known V (level - 1) (V child)
known_over Known V at node is level i child some known low read =
    known_child Known V node level i child some (subst (IsKnownFrom Known V level) (sym is) known) low read

-- the first of them
pub from_itself : (image : List ℕ) (form : TreeForm) (level at : ℕ) → Contains (nodes_from image form level at) at
from_itself image form zero at = (0, omega arith, refl)
from_itself image form (suc level) at = (0, omega arith, refl)
