-- A split by the calls that the code makes, one after another: what each may rely on, and what the two halves are at the end.
use Rattle.std.proofs.Common.{◌≡◌, ℕ, ◌+◌, List, [], ◌∷◌, ◌++◌, length, take, drop, replicate, subst}
use Rattle.std.specs.List.{insert}
use Rattle.h5_bytes.specs.Blocks.{block, cover, holds}
use Rattle.h5_model.specs.Format.Rows.{Node}
use Rattle.h5_model.specs.Format.Nodes.{Kind, node_at, node_block, node_length}
use Rattle.h5_space.specs.Space.{Space}
use Rattle.h5_space.specs.Moves.{Moves}
use Rattle.h5_space.proofs.MovesLaws.{moves_take}
use Rattle.h5_btree.specs.Rewritten.{IsRewritten}
use Rattle.h5_btree.proofs.RewriteSteps.{rewritten_then}

-- a block that was taken
pub moves_taken : (t t₁ : Space) (kind : Kind) (q len grown : ℕ) → len ≡ node_length kind → t₁.bytes ≡ t.bytes ++ replicate grown 0
    → ((x : ℕ) → cover x t₁.free + holds x q len ≡ cover x t.free + holds x (length t.bytes) grown) → Moves t t₁ [] (node_block kind q ∷ [])
moves_taken t t₁ kind q len grown long bytes given =
    subst (λ (n : ℕ). Moves t t₁ [] (block q n ∷ [])) long (moves_take t t₁ q len grown bytes given)

-- a node that says what another one said keeps its right half, and names its neighbour to the left
module _ (t₁ a b t₂ : Space) (kind : Kind) (q p j child n : ℕ) (key : List ℕ) (old : Node) (copied : IsRewritten t₁ a kind q old)
    (kept : IsRewritten a b kind q
    (record (node_at a.bytes kind q) { keys = drop n (insert (node_at a.bytes kind q).keys j key); children = drop n (insert (node_at a.bytes kind q).children j child) }))
    (named : IsRewritten b t₂ kind q (record (node_at b.bytes kind q) { left = p })) where
  kept' : IsRewritten a b kind q (record old { keys = drop n (insert old.keys j key); children = drop n (insert old.children j child) })
  kept' = subst (λ (o : Node). IsRewritten a b kind q (record o { keys = drop n (insert o.keys j key); children = drop n (insert o.children j child) })) copied.says kept

  named' : IsRewritten b t₂ kind q (record old { left = p; keys = drop n (insert old.keys j key); children = drop n (insert old.children j child) })
  named' = subst (λ (o : Node). IsRewritten b t₂ kind q (record o { left = p })) kept'.says named

  pub right_written : IsRewritten t₁ t₂ kind q (record old { left = p; keys = drop n (insert old.keys j key); children = drop n (insert old.children j child) })
  right_written = rewritten_then t₁ a t₂ kind q _ _ copied (rewritten_then a b t₂ kind q _ _ kept' named')

-- a node keeps its left half, and names its neighbour to the right
module _ (t₂ d t₃ : Space) (kind : Kind) (p q j child n : ℕ) (key : List ℕ) (old : Node) (same : node_at t₂.bytes kind p ≡ old)
    (kept : IsRewritten t₂ d kind p
    (record (node_at t₂.bytes kind p) { keys = take (n + 1) (insert (node_at t₂.bytes kind p).keys j key); children = take n (insert (node_at t₂.bytes kind p).children j child) }))
    (named : IsRewritten d t₃ kind p (record (node_at d.bytes kind p) { right = q })) where
  left_kept : IsRewritten t₂ d kind p (record old { keys = take (n + 1) (insert old.keys j key); children = take n (insert old.children j child) })
  left_kept = subst (λ (o : Node). IsRewritten t₂ d kind p (record o { keys = take (n + 1) (insert o.keys j key); children = take n (insert o.children j child) })) same kept

  left_named : IsRewritten d t₃ kind p (record old { right = q; keys = take (n + 1) (insert old.keys j key); children = take n (insert old.children j child) })
  left_named = subst (λ (o : Node). IsRewritten d t₃ kind p (record o { right = q })) left_kept.says named

  pub left_written : IsRewritten t₂ t₃ kind p (record old { right = q; keys = take (n + 1) (insert old.keys j key); children = take n (insert old.children j child) })
  left_written = rewritten_then t₂ d t₃ kind p _ _ left_kept left_named
