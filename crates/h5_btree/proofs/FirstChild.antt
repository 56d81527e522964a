-- The first child of a tree.
use Rattle.std.proofs.Common.{◌≡◌, ℕ, ◌+◌, ◌≤◌, List, [], ◌∷◌, length, refl, sym, ap, ◌∙◌, arith, append-nil}
use Rattle.std.specs.Prelude.{slice_set}
use Rattle.std.specs.List.{insert}
use Rattle.h5_model.specs.Format.Rows.{Node}
use Rattle.h5_model.specs.Format.Nodes.{Kind, IsNode, entries_in, node_at, node_bytes, node_length, reading_of}
use Rattle.h5_space.specs.Space.{Space}
use Rattle.h5_btree.specs.Rewritten.{IsRewritten}
use Rattle.h5_btree.specs.Insertion.{IsChildPut, IsClimbing, IsEmptyTree}
use Rattle.h5_btree.proofs.NodeLaws.{length-children, length-keys}
use Rattle.h5_btree.proofs.ClimbSteps.{climb_start, climb_filled}
use Rattle.h5_btree.proofs.ClimbStands.{inside_p, form_p, same_p}
use Rattle.h5_btree.proofs.RewriteSteps.{rewritten_as}

module _ (s : Space) (kind : Kind) (root child : ℕ) (owned : List ℕ) (e : IsEmptyTree s kind root owned) where
  first_climbs : IsClimbing s s kind root 0 root [] 0 child (child ∷ []) owned owned
  first_climbs = climb_start s kind root 0 root 0 child [] [] [] owned [] e.tree e.apart e.short (refl, refl, refl) e.tree.rows (omega arith)

  pub first_inside : root + node_length kind ≤ length s.bytes
  first_inside = inside_p s s kind root 0 root [] 0 child (child ∷ []) owned owned first_climbs

  pub first_form : IsNode kind (node_bytes s.bytes kind root)
  first_form = form_p s s kind root 0 root [] 0 child (child ∷ []) owned owned first_climbs

  pub first_none : (node_at s.bytes kind root).children ≡ []
  first_none =
      ap (λ (n : Node). n.children) (sym (same_p s s kind root 0 root [] 0 child (child ∷ []) owned owned first_climbs))
      ∙ sym (append-nil (reading_of s.bytes kind owned root).children) ∙ sym e.tree.all

  pub first_entries : entries_in (node_bytes s.bytes kind root) ≡ 0
  first_entries = length-children kind (node_bytes s.bytes kind root) (node_at s.bytes kind root) refl ∙ ap (λ (xs : List ℕ). length xs) first_none

  pub first_keys : length (node_at s.bytes kind root).keys ≡ 1
  first_keys = let k = length-keys kind (node_bytes s.bytes kind root) (node_at s.bytes kind root) refl in let none = first_entries in omega (arith, k, none)

  pub put_first_is : (u : Space) (keys : List (List ℕ)) → IsRewritten s u kind root (record (node_at s.bytes kind root) { keys = keys; children = child ∷ [] })
      → (all : List ℕ) × IsChildPut s u kind root 0 (child ∷ []) owned all
  put_first_is u keys r = (
    _,
    climb_filled s s u kind root 0 root [] 0 child (child ∷ []) owned owned keys first_climbs
        (rewritten_as s u kind root _ _ r (ap (λ (cs : List ℕ). record (node_at s.bytes kind root) { keys = keys; children = child ∷ cs }) (sym first_none))),
  )

-- the one key of a root without children gives way to the second of the two
pub two_keys : {X : Type 0} (low high : X) (keys : List X) → length keys ≡ 1 → slice_set (insert keys 0 low) 1 high ≡ low ∷ high ∷ []
two_keys low high [] one = absurd (omega (arith, one))
two_keys low high (k ∷ []) one = refl
two_keys low high (k ∷ l ∷ keys) one = absurd (omega (arith, one))
