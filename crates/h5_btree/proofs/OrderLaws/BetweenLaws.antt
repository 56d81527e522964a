-- What stands between two keys below a node does so below each child, and the other way.
use Rattle.std.proofs.Common.{◌≡◌, ◌≢◌, ℕ, zero, suc, ◌-◌, List, [], ◌∷◌, length, refl, sym, subst, arith}
use Rattle.std.specs.List.{AllByRecursion, flat_map}
use Rattle.h5_bytes.proofs.BlockLaws.{all_append, all_left, all_right}
use Rattle.h5_model.specs.Format.Rows.{Node, Reading}
use Rattle.h5_model.specs.Format.Nodes.{node_bytes, node_length}
use Rattle.h5_laws.specs.Ladders.{Bottom, LieBetween, Sides, items_under}
use Rattle.h5_btree.specs.Order.{HasSubtree}
use Rattle.h5_btree.specs.Walk.Below.{IsStanding, reading_in}
use Rattle.h5_btree.specs.Walk.Forms.{TreeForm, kind_of}
use Rattle.h5_btree.proofs.NodeLaws.{keys_long}
use Rattle.h5_bytes.proofs.PartLaws.{length-part}

-- ---- lists of lists

module _ {X : Type 0} (P : X → Type 0) (f : ℕ → List X) where
  -- what holds of all the lists holds of what is in them
  pub each_up : (xs : List ℕ) → AllByRecursion (λ n. AllByRecursion P (f n)) xs → AllByRecursion P (flat_map f xs)
  each_up [] all = tt
  each_up (x ∷ xs) all = all_append P (f x) (flat_map f xs) all.0 (each_up xs all.1)

  -- the other way
  pub each_down : (xs : List ℕ) → AllByRecursion P (flat_map f xs) → AllByRecursion (λ n. AllByRecursion P (f n)) xs
  each_down [] all = tt
  each_down (x ∷ xs) all = (all_left P (f x) (flat_map f xs) all, each_down xs (all_right P (f x) (flat_map f xs) all))

-- ---- a node above level 0

module _ {X : Type 0} (sides : Sides (List ℕ) X) (V : Reading) (bottom : Bottom X) (low high : List ℕ) (at : ℕ) (node : Node) (is : node ≡ V at) where
  -- what stands below the node of this level at an address is between the keys
  abbrev pub IsBelow : ℕ → ℕ → Type 0
  IsBelow level n = LieBetween sides low high (items_under V bottom level n)

  abbrev Lies : X → Type 0
  Lies x = sides.Right low x × sides.Left x high

  pub below_up : (level : ℕ) → level ≢ 0 → AllByRecursion (IsBelow (level - 1)) node.children → IsBelow level at
  below_up zero some all = absurd (some refl)
  below_up (suc level) some all =
      let less : suc level - 1 ≡ level = omega arith in
      each_up Lies (items_under V bottom level) (V at).children
      (subst (λ (n : Node). AllByRecursion (IsBelow level) n.children) is (subst (λ (l : ℕ). AllByRecursion (IsBelow l) node.children) less all))

  pub below_down : (level : ℕ) → level ≢ 0 → IsBelow level at → AllByRecursion (IsBelow (level - 1)) node.children
  below_down zero some all = absurd (some refl)
  below_down (suc level) some all =
      let less : level ≡ suc level - 1 = omega arith in
      subst (λ (l : ℕ). AllByRecursion (IsBelow l) node.children) less
      (subst (λ (n : Node). AllByRecursion (IsBelow level) n.children) (sym is) (each_down Lies (items_under V bottom level) (V at).children all))

-- ---- nodes that stand in the image

-- each key has the length of its kind's keys
pub keys_stand : (image : List ℕ) (form : TreeForm) (level at : ℕ) → IsStanding image form level at
    → AllByRecursion (λ (key : List ℕ). length key ≡ (kind_of image form).key_length) (reading_in image form at).keys
keys_stand image form level at stands =
    keys_long (kind_of image form) (node_bytes image (kind_of image form) at)
    (length-part at (node_length (kind_of image form)) image stands.there) (stands.formed).roomy

-- the children of a node that stands over such as these
pub children_stand : (image : List ℕ) (form : TreeForm) (at : ℕ) (node : Node) → node ≡ reading_in image form at → (level : ℕ) → HasSubtree image form (suc level) at
    → AllByRecursion (HasSubtree image form level) node.children
children_stand image form at node is level stands =
    subst (λ (n : Node). AllByRecursion (HasSubtree image form level) n.children) (sym is) stands.1
