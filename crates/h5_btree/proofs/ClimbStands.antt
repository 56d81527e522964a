-- An insertion on its way up, as the code goes: what it may read and write at a node it comes to, when it has taken a block, and when it
-- has written there.
use Rattle.std.proofs.Common.{◌≡◌, ◌≢◌, ◌⊎◌, inl, inr, ℕ, suc, ◌+◌, ◌^◌, ◌<◌, ◌≤◌, List, [], ◌∷◌, length, refl, sym, ap, ◌∙◌, subst, arith}
use Rattle.std.specs.List.{AllByRecursion}
use Rattle.h5_bytes.specs.Bytes.{undefined_address}
use Rattle.h5_model.specs.Format.Rows.{Node}
use Rattle.h5_model.specs.Format.Nodes.{Kind, IsNode, entries_in, node_at, node_block, node_bytes, node_length, reading_of, tree_blocks}
use Rattle.h5_model.proofs.RowLaws.{at_listed}
use Rattle.h5_space.specs.Space.{Space}
use Rattle.h5_space.specs.Moves.{Moves}
use Rattle.h5_space.specs.Whole.{IsApart}
use Rattle.h5_btree.specs.Climb.{IsNoNode, IsWay}
use Rattle.h5_btree.specs.Rewritten.{IsRewritten}
use Rattle.h5_btree.specs.Insertion.{IsClimbing}
use Rattle.h5_btree.specs.declared.way.Step.{Step}
use Rattle.h5_btree.proofs.NodeLaws.{length-children}
use Rattle.h5_btree.proofs.RowEdits.{level_here}
use Rattle.h5_btree.proofs.TreeReadings.{Listed, owned_at, owned_of_level, owns_more, owns_new}
use Rattle.h5_btree.proofs.ClimbSteps.{inside_of_apart, undefined_free}
use Rattle.h5_btree.proofs.SplitSteps.{right_known, taken_apart, taken_new, taken_others, written_apart, written_others}

module _ (s t : Space) (kind : Kind) (root m p : ℕ) (way : List Step) (j child : ℕ) (list owned own : List ℕ) (c : IsClimbing s t kind root m p way j child list owned own) where
  pub top : m < 16
  top = let h = c.high in omega (arith, h)

  pub out : IsNoNode (reading_of t.bytes kind own) undefined_address
  out = undefined_free t kind own c.apart c.short

  pub own_p : Listed own p
  own_p = owned_of_level (node_at t.bytes kind) own p (let l = level_here (reading_of t.bytes kind own) m p c.lacks.front c.lacks.back top out c.lacks.row in let h = top in omega (arith, l, h))

  pub inside_p : p + node_length kind ≤ length t.bytes
  inside_p = inside_of_apart t kind own c.apart p own_p

  pub form_p : IsNode kind (node_bytes t.bytes kind p)
  form_p = at_listed (λ at. IsNode kind (node_bytes t.bytes kind at)) own p c.formed own_p

  pub same_p : reading_of t.bytes kind own p ≡ node_at t.bytes kind p
  same_p = owned_at (node_at t.bytes kind) own p own_p

  pub level_p : (node_at t.bytes kind p).level ≡ m
  level_p = ap (λ (n : Node). n.level) (sym same_p) ∙ level_here (reading_of t.bytes kind own) m p c.lacks.front c.lacks.back top out c.lacks.row

  pub place_p : j ≤ length (node_at t.bytes kind p).children
  place_p = subst (λ (n : Node). j ≤ length n.children) same_p c.lacks.place

  pub entry_p : j ≤ entries_in (node_bytes t.bytes kind p)
  entry_p = let l = length-children kind (node_bytes t.bytes kind p) (node_at t.bytes kind p) refl in let h = place_p in omega (arith, l, h)

  pub known_right : (((node_at t.bytes kind p).right ≡ undefined_address) ⊎ Listed own (node_at t.bytes kind p).right) × ((node_at t.bytes kind p).right ≡ p → p ≡ undefined_address)
  known_right = right_known t kind own m p c.lacks.front c.lacks.back top out c.lacks.row own_p

  listed_right : (r : ℕ) → r ≡ (node_at t.bytes kind p).right → r ≢ undefined_address → Listed own r
  listed_right r er there = elim known_right.0 [ inl none ↦ absurd (there (er ∙ none)) | inr listed ↦ subst (Listed own) (sym er) listed ]

  far_right : (r : ℕ) → r ≡ (node_at t.bytes kind p).right → r ≢ p
  far_right r er same = let i = inside_p in absurd (omega (arith, known_right.1 (sym er ∙ same), i, c.short))

  -- a node of another level is not p
  pub not_here : (n : ℕ) → (reading_of t.bytes kind own n).level ≢ m → n ≢ p
  not_here n other same =
      other (ap (λ (k : ℕ). (reading_of t.bytes kind own k).level) same ∙ level_here (reading_of t.bytes kind own) m p c.lacks.front c.lacks.back top out c.lacks.row)

  -- the nodes above are the tree's, of other levels
  above_from : (l : ℕ) (steps : List Step) (a : ℕ) (front back : List ℕ) → m ≤ l → length steps + l < 16 → IsWay (reading_of t.bytes kind own) l root steps a front back
      → AllByRecursion (λ (step : Step). Listed own step.node × (reading_of t.bytes kind own step.node).level ≢ m) steps
  above_from l [] a front back from high w = tt
  above_from l (step ∷ steps) a front back from high w =
      let low : suc l < 16 = omega (arith, high) in
      let level = level_here (reading_of t.bytes kind own) (suc l) step.node w.0 w.1 low out (w.2).row in (
        (owned_of_level (node_at t.bytes kind) own step.node (omega (arith, level, low)), λ same. absurd (omega (arith, level, same, from))),
        above_from (suc l) steps step.node w.0 w.1 (omega (arith, from)) (omega (arith, high)) w.3,
      )

  pub above_known : AllByRecursion (λ (step : Step). Listed own step.node × (reading_of t.bytes kind own step.node).level ≢ m) way
  above_known = above_from m way p c.lacks.front c.lacks.back (omega arith) c.high c.lacks.above

  -- a block was taken
  module _ (t₁ : Space) (q : ℕ) (taken : Moves t t₁ [] (node_block kind q ∷ [])) where
    abbrev all : List ℕ
    all = q ∷ own

    pub apart₁ : IsApart (tree_blocks kind all) t₁.free (length t₁.bytes)
    apart₁ = taken_apart t t₁ kind own q c.apart taken

    pub bytes₁ : node_bytes t₁.bytes kind p ≡ node_bytes t.bytes kind p
    bytes₁ = taken_others t t₁ kind own q c.apart taken p own_p

    pub inside₁ : p + node_length kind ≤ length t₁.bytes
    inside₁ = let i = inside_p in let g = taken.grown in omega (arith, i, g)

    pub form₁ : IsNode kind (node_bytes t₁.bytes kind p)
    form₁ = subst (IsNode kind) (sym bytes₁) form_p

    pub new_q : (n : ℕ) → Listed own n → n ≢ q
    new_q = taken_new t t₁ kind own q c.apart taken

    pub new_not_right : length t₁.bytes < 2 ^ 64 → q ≢ (node_at t.bytes kind p).right
    new_not_right short same = elim known_right.0 [
      | inl none ↦ let i = inside_of_apart t₁ kind all apart₁ q (owns_new q own) in omega (arith, same ∙ none, i, short)
      | inr listed ↦ new_q (node_at t.bytes kind p).right listed (sym same)
    ]

    -- and written
    module _ (t₂ : Space) (node_q : Node) (write_q : IsRewritten t₁ t₂ kind q node_q) where
      pub apart₂ : IsApart (tree_blocks kind all) t₂.free (length t₂.bytes)
      apart₂ = written_apart t₁ t₂ kind all q node_q apart₁ (owns_new q own) write_q

      pub bytes₂ : node_bytes t₂.bytes kind p ≡ node_bytes t.bytes kind p
      bytes₂ = written_others t₁ t₂ kind all q node_q apart₁ (owns_new q own) write_q p (owns_more q p own own_p) (new_q p own_p) ∙ bytes₁

      pub inside₂ : p + node_length kind ≤ length t₂.bytes
      inside₂ = let i = inside₁ in let g = write_q.moves.grown in omega (arith, i, g)

      pub form₂ : IsNode kind (node_bytes t₂.bytes kind p)
      form₂ = subst (IsNode kind) (sym bytes₂) form_p

      -- and then the node itself
      module _ (t₃ : Space) (node_p : Node) (write_p : IsRewritten t₂ t₃ kind p node_p) (r : ℕ) (er : r ≡ (node_at t.bytes kind p).right) where
        pub apart₃ : IsApart (tree_blocks kind all) t₃.free (length t₃.bytes)
        apart₃ = written_apart t₂ t₃ kind all p node_p apart₂ (owns_more q p own own_p) write_p

        pub bytes_r : r ≢ undefined_address → node_bytes t₃.bytes kind r ≡ node_bytes t.bytes kind r
        bytes_r there =
            let listed = listed_right r er there in
            written_others t₂ t₃ kind all p node_p apart₂ (owns_more q p own own_p) write_p r (owns_more q r own listed) (far_right r er)
            ∙ written_others t₁ t₂ kind all q node_q apart₁ (owns_new q own) write_q r (owns_more q r own listed) (new_q r listed)
            ∙ taken_others t t₁ kind own q c.apart taken r listed

        pub inside_r : r ≢ undefined_address → r + node_length kind ≤ length t₃.bytes
        inside_r there = inside_of_apart t₃ kind all apart₃ r (owns_more q r own (listed_right r er there))

        pub form_r : r ≢ undefined_address → IsNode kind (node_bytes t₃.bytes kind r)
        form_r there =
            subst (IsNode kind) (sym (bytes_r there)) (at_listed (λ at. IsNode kind (node_bytes t.bytes kind at)) own r c.formed (listed_right r er there))
