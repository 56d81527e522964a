-- The chunks of the nodes of a row, and their addresses.
use Rattle.std.proofs.Common.{◌≡◌, ℕ, ◌+◌, ◌<◌, ◌≤◌, List, [], ◌∷◌, ◌++◌, length, map, take, get_or, append-nil, refl, ap, ap₂, ◌∙◌, arith}
use Rattle.std.proofs.lemmas.Grind.{flat_map-append}
use Rattle.std.specs.List.{zip}
use Rattle.std.proofs.lemmas.List.{length-map, map-append, take_more}
use Rattle.h5_model.specs.Format.Rows.{Reading, next_row}
use Rattle.h5_model.specs.Format.Nodes.{node_at}
use Rattle.h5_model.specs.Format.Chunks.{chunks_at, chunks_in, offsets_in}
use Rattle.h5_model.specs.Format.Reached.{Shape, shape_kind}
use Rattle.h5_chunks.proofs.NodeKeys.{one_more_key}

zip_values : {X Y : Type 0} (xs : List X) (ys : List Y) → length ys ≤ length xs → map (λ (z : X × Y). z.1) (zip xs ys) ≡ ys
zip_values [] [] few = refl
zip_values [] (y ∷ ys) few = absurd (omega (arith, few))
zip_values (x ∷ xs) [] few = refl
zip_values {Y = Y} (x ∷ xs) (y ∷ ys) few = ap (λ (zs : List Y). y ∷ zs) (zip_values xs ys (omega (arith, few)))

module _ (image : List ℕ) (shape : Shape) where
  node_addresses : (at : ℕ) → map (λ (c : List ℕ × ℕ). c.1) (chunks_in (length shape.sizes) (node_at image (shape_kind image shape) at))
      ≡ (node_at image (shape_kind image shape) at).children
  node_addresses at =
      let node = node_at image (shape_kind image shape) at in
      zip_values (map (offsets_in (length shape.sizes)) node.keys) node.children
      (omega (arith, length-map node.keys (offsets_in (length shape.sizes)), one_more_key image shape at node refl))

  pub row_addresses : (row : List ℕ) → map (λ (c : List ℕ × ℕ). c.1) (chunks_at (node_at image (shape_kind image shape)) (length shape.sizes) row)
      ≡ next_row (node_at image (shape_kind image shape)) row
  row_addresses [] = refl
  row_addresses (at ∷ row) =
      map-append (λ (c : List ℕ × ℕ). c.1) (chunks_in (length shape.sizes) (node_at image (shape_kind image shape) at))
      (chunks_at (node_at image (shape_kind image shape)) (length shape.sizes) row)
      ∙ ap₂ (λ (xs ys : List ℕ). xs ++ ys) (node_addresses at) (row_addresses row)

-- the chunks of one more node
pub chunks_more : (V : Reading) (rank : ℕ) (row : List ℕ) (k : ℕ) → k < length row
    → chunks_at V rank (take (k + 1) row) ≡ chunks_at V rank (take k row) ++ chunks_in rank (V (get_or row k 0))
chunks_more V rank row k low =
    ap (chunks_at V rank) (take_more row k 0 low)
    ∙ flat_map-append (λ (at : ℕ). chunks_in rank (V at)) (take k row) (get_or row k 0 ∷ [])
    ∙ ap (λ (es : List (List ℕ × ℕ)). chunks_at V rank (take k row) ++ es) (append-nil (chunks_in rank (V (get_or row k 0))))
