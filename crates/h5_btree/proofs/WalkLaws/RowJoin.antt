-- Rows of two parts: what stands below both is what stands below the first, and then below the second.
use Rattle.std.proofs.Common.{◌≡◌, ℕ, zero, suc, ◌+◌, List, [], ◌∷◌, ◌++◌, refl, ap, arith}
use Rattle.std.specs.Prelude.{map}
use Rattle.h5_bytes.specs.Blocks.{cover}
use Rattle.h5_bytes.specs.declared.Block.{Block}
use Rattle.h5_bytes.proofs.BlockLaws.{all_append}
use Rattle.h5_model.specs.Format.Rows.{Reading, next_row, nodes}
use Rattle.h5_btree.proofs.LeafLaws.{next_row-append, leaves-append, leaves-nil}
use Rattle.h5_btree.specs.Walk.Forms.{TreeForm}
use Rattle.h5_btree.specs.Walk.Below.{reading_in, IsBottom, IsInner, AreBelow, nodes_below, leaves_below}

pub cover-map : (f : ℕ → Block) (p : ℕ) (xs ys : List ℕ) → cover p (map f (xs ++ ys)) ≡ cover p (map f xs) + cover p (map f ys)
cover-map f p [] ys = omega arith
cover-map f p (x ∷ xs) ys = omega (arith, cover-map f p xs ys)

module _ (V : Reading) where
  pub cover-nodes : (f : ℕ → Block) (p level : ℕ) (xs ys : List ℕ)
      → cover p (map f (nodes V level (xs ++ ys))) ≡ cover p (map f (nodes V level xs)) + cover p (map f (nodes V level ys))
  cover-nodes f p zero xs ys = cover-map f p xs ys
  cover-nodes f p (suc level) xs ys =
      let next : cover p (map f (nodes V level (next_row V (xs ++ ys)))) ≡ cover p (map f (nodes V level (next_row V xs ++ next_row V ys)))
      = ap (λ (r : List ℕ). cover p (map f (nodes V level r))) (next_row-append V xs ys) in
      let below = cover-nodes f p level (next_row V xs) (next_row V ys) in
      omega (
        arith,
        next,
        below,
        cover-map f p xs ys,
        cover-map f p (xs ++ ys) (nodes V level (next_row V (xs ++ ys))),
        cover-map f p xs (nodes V level (next_row V xs)),
        cover-map f p ys (nodes V level (next_row V ys)),
      )

  pub nodes-nil : (level : ℕ) → nodes V level [] ≡ []
  nodes-nil zero = refl
  nodes-nil (suc level) = nodes-nil level

module _ (image : List ℕ) (form : TreeForm) where
  pub leaves_below-append : (level : ℕ) (xs ys : List ℕ) → leaves_below image form level (xs ++ ys) ≡ leaves_below image form level xs ++ leaves_below image form level ys
  leaves_below-append zero xs ys = refl
  leaves_below-append (suc level) xs ys = leaves-append (reading_in image form) level xs ys

  pub cover-below : (f : ℕ → Block) (p level : ℕ) (xs ys : List ℕ)
      → cover p (map f (nodes_below image form level (xs ++ ys))) ≡ cover p (map f (nodes_below image form level xs)) + cover p (map f (nodes_below image form level ys))
  cover-below f p zero xs ys = refl
  cover-below f p (suc level) xs ys = cover-nodes (reading_in image form) f p level xs ys

  pub leaves_below-nil : (level : ℕ) → leaves_below image form level [] ≡ []
  leaves_below-nil zero = refl
  leaves_below-nil (suc level) = leaves-nil (reading_in image form) level

  pub nodes_below-nil : (level : ℕ) → nodes_below image form level [] ≡ []
  nodes_below-nil zero = refl
  nodes_below-nil (suc level) = nodes-nil (reading_in image form) level

  pub below-nil : (level : ℕ) → AreBelow image form level []
  below-nil zero = tt
  below-nil (suc level) = (tt, below-nil level)

  pub below-append : (level : ℕ) (xs ys : List ℕ) → AreBelow image form level xs → AreBelow image form level ys → AreBelow image form level (xs ++ ys)
  below-append zero xs ys a b = all_append (IsBottom image form) xs ys a b
  below-append (suc level) xs ys a b = (
    all_append (IsInner image form level) xs ys a.0 b.0,
    rw (next_row-append (reading_in image form) xs ys) (below-append level (next_row (reading_in image form) xs) (next_row (reading_in image form) ys) a.1 b.1),
  )
