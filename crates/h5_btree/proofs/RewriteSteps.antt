-- Writes of one node, one after another; and of a node that may be there.
use Rattle.std.proofs.Common.{◌≡◌, ◌≢◌, ◌⊎◌, inl, inr, ℕ, ◌+◌, ◌^◌, ◌<◌, List, [], ◌∷◌, length, refl, sym, ap, ◌∙◌, subst, arith}
use Rattle.h5_bytes.specs.Bytes.{undefined_address}
use Rattle.h5_model.specs.Format.Rows.{Node}
use Rattle.h5_model.specs.Format.Nodes.{Kind, entries_in, node_at, node_block, node_bytes, tree_blocks}
use Rattle.h5_space.specs.Space.{Space}
use Rattle.h5_space.specs.Whole.{IsApart}
use Rattle.h5_space.proofs.MovesLaws.{moves_then, spends_then, spends_none, spends_within}
use Rattle.h5_space.specs.Moves.{Spends}
use Rattle.h5_btree.specs.Rewritten.{IsRewritten}
use Rattle.h5_btree.proofs.NodeLaws.{length-children}
use Rattle.h5_btree.proofs.TreeReadings.{Listed}
use Rattle.h5_btree.proofs.ClimbSteps.{inside_of_apart}
use Rattle.h5_btree.proofs.SplitSteps.{not_both}
use Rattle.h5_btree.proofs.UnlinkSteps.{MayBeWritten}

-- one node is written twice
pub rewritten_then : (s t u : Space) (kind : Kind) (at : ℕ) (first second : Node) → IsRewritten s t kind at first → IsRewritten t u kind at second
    → IsRewritten s u kind at second
rewritten_then s t u kind at first second a b = record {
  says = b.says;
  form = b.form;
  moves = moves_then s t u (node_block kind at ∷ []) (node_block kind at ∷ []) (node_block kind at ∷ []) a.moves b.moves;
  spends = spends_then s t u 0 0 0 0 a.spends b.spends;
}

-- what a node that was written says, in other words
pub rewritten_as : (s t : Space) (kind : Kind) (at : ℕ) (a b : Node) → IsRewritten s t kind at a → a ≡ b → IsRewritten s t kind at b
rewritten_as s t kind at a b r same = subst (IsRewritten s t kind at) same r

-- so many children it has then
pub rewritten_count : (s t : Space) (kind : Kind) (at : ℕ) (node : Node) → IsRewritten s t kind at node → entries_in (node_bytes t.bytes kind at) ≡ length node.children
rewritten_count s t kind at node r =
    length-children kind (node_bytes t.bytes kind at) (node_at t.bytes kind at) refl ∙ ap (λ (n : Node). length n.children) r.says

-- a node is written unless it stands at the undefined address, which is so where it is none of the tree's
module _ (t u : Space) (kind : Kind) (own : List ℕ) (n : ℕ) (node : Node) (apart : IsApart (tree_blocks kind own) t.free (length t.bytes)) (short : length t.bytes < 2 ^ 64)
    (known : (n ≡ undefined_address) ⊎ Listed own n) (written : n ≢ undefined_address → IsRewritten t u kind n node) (none : n ≡ undefined_address → u ≡ t) where
  pub may_be_written : MayBeWritten t u kind own n node
  may_be_written = record {
    written = λ listed. written (λ e. let i = inside_of_apart t kind own apart n listed in absurd (omega (arith, e, i, short)));
    none = λ no. elim known [ inl e ↦ none e | inr listed ↦ not_both own n no listed ];
  }

  pub may_be_spends : Spends t u 0 0
  may_be_spends = elim known [
    | inl e ↦ subst (λ (s : Space). Spends t s 0 0) (sym (none e)) (spends_none t)
    | inr listed ↦ (written (λ e. let i = inside_of_apart t kind own apart n listed in absurd (omega (arith, e, i, short)))).spends
  ]

-- what spends nothing, and then something
pub spends_still : (s t u : Space) (m j : ℕ) → Spends s t m j → Spends t u 0 0 → Spends s u m j
spends_still s t u m j first second = spends_within s u (m + 0) m (j + 0) j (omega arith) (omega arith) (spends_then s t u m 0 j 0 first second)
