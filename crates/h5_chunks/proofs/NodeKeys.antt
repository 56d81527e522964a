-- The keys of a node that stands in the image.
use Rattle.std.proofs.Common.{◌≡◌, ℕ, ◌+◌, ◌*◌, ◌<◌, List, length, slice_get, Some, sym, subst, arith}
use Rattle.std.specs.List.{AllByRecursion}
use Rattle.std.proofs.lemmas.Option.{get_or_from_slice_get}
use Rattle.h5_bytes.proofs.PartLaws.{length-part}
use Rattle.h5_model.specs.Format.Rows.{Node}
use Rattle.h5_model.specs.Format.Nodes.{node_bytes, node_length}
use Rattle.h5_model.specs.Format.Reached.{Shape, shape_kind}
use Rattle.h5_btree.specs.Walk.Below.{reading_in}
use Rattle.h5_btree.specs.Walk.Forms.{OfChunks}
use Rattle.h5_btree.specs.Walk.Stands.{IsNodeAt}
use Rattle.h5_btree.proofs.NodeLaws.{keys_long, length-children, length-keys}
use Rattle.h5_btree.proofs.OrderLaws.Elements.{all_at}

module _ (image : List ℕ) (shape : Shape) (at : ℕ) (node : Node) (is : node ≡ reading_in image (OfChunks shape) at) where
  -- there is one more than there are children
  pub one_more_key : length node.keys ≡ length node.children + 1
  one_more_key =
      let kind = shape_kind image shape in
      omega (arith, length-children kind (node_bytes image kind at) node (sym is), length-keys kind (node_bytes image kind at) node (sym is))

  -- and each has its numbers
  pub keys_are_long : IsNodeAt image (OfChunks shape) at → AllByRecursion (λ (key : List ℕ). length key ≡ 8 + 8 * (length shape.sizes + 1)) node.keys
  keys_are_long stands =
      let kind = shape_kind image shape in
      let P : List ℕ → Type 0 = λ k. length k ≡ 8 + 8 * (length shape.sizes + 1) in
      let all : AllByRecursion P (reading_in image (OfChunks shape) at).keys
      = keys_long kind (node_bytes image kind at) (length-part at (node_length kind) image stands.inside) (stands.formed).roomy in
      subst (λ (n : Node). AllByRecursion P n.keys) (sym is) all

  pub key_long : IsNodeAt image (OfChunks shape) at → (i : ℕ) (key : List ℕ) → i < length node.keys → slice_get node.keys i ≡ Some key
      → length key ≡ 8 + 8 * (length shape.sizes + 1)
  key_long stands i key low read =
      all_at (λ (k : List ℕ). length k ≡ 8 + 8 * (length shape.sizes + 1)) node.keys i key low (get_or_from_slice_get node.keys i key key read) (keys_are_long stands)
