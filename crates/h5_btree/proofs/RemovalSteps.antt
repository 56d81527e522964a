-- A removal on its way up, as the code goes: what it may read and write at a node, and what it has made then.
use Rattle.std.proofs.Common.{◌≡◌, ◌≢◌, ◌⊎◌, inl, inr, get_or, ℕ, suc, ◌+◌, ◌^◌, ◌<◌, ◌≤◌, List, [], ◌∷◌, ◌++◌, length, refl, sym, ap, ◌∙◌, subst, arith}
use Rattle.h5_bytes.specs.Bytes.{undefined_address}
use Rattle.h5_bytes.specs.Blocks.{holds, cover}
use Rattle.h5_bytes.proofs.BlockLaws.{holds-le}
use Rattle.h5_model.specs.Format.Rows.{Node, IsRow}
use Rattle.h5_model.specs.Format.Nodes.{Kind, IsNode, entries_in, node_at, node_bytes, node_length, node_of, reading_of, tree_blocks}
use Rattle.h5_model.proofs.RowLaws.{at_listed}
use Rattle.h5_space.specs.Space.{Space}
use Rattle.h5_space.specs.Whole.{IsApart}
use Rattle.h5_space.specs.Moves.{Spends}
use Rattle.h5_btree.specs.Climb.{IsNoNode}
use Rattle.h5_btree.specs.Rewritten.{IsRewritten}
use Rattle.h5_btree.specs.Removal.{IsShrinking}
use Rattle.h5_btree.specs.declared.way.Step.{Step}
use Rattle.h5_btree.proofs.NodeLaws.{length-children}
use Rattle.h5_btree.proofs.RowEdits.{last_of, level_here, left_here, front_last, front_level}
use Rattle.h5_btree.proofs.TreeReadings.{Listed, owned_at, owned_of_level}
use Rattle.h5_btree.proofs.ClimbSteps.{covers, inside_of_apart, undefined_free}
use Rattle.h5_btree.proofs.SplitSteps.{right_known}
use Rattle.h5_btree.proofs.UnlinkSteps.{MayBeWritten, maybe_apart, maybe_others, left_known}
use Rattle.h5_btree.proofs.RewriteSteps.{may_be_written, may_be_spends}

-- the neighbour to the left is a node of the tree, or there is none
left_there : (t : Space) (kind : Kind) (own : List ℕ) (m p : ℕ) (front back : List ℕ) → m < 16 → IsNoNode (reading_of t.bytes kind own) undefined_address
    → IsRow (reading_of t.bytes kind own) m undefined_address (front ++ p ∷ back) → Listed own p
    → ((node_at t.bytes kind p).left ≡ undefined_address) ⊎ Listed own (node_at t.bytes kind p).left
left_there t kind own m p front back top out row is =
    let V = reading_of t.bytes kind own in
    go front refl (ap (λ (n : Node). n.left) (sym (owned_at (node_at t.bytes kind) own p is))) where
      go : (f : List ℕ) → front ≡ f → (node_at t.bytes kind p).left ≡ (reading_of t.bytes kind own p).left
          → ((node_at t.bytes kind p).left ≡ undefined_address) ⊎ Listed own (node_at t.bytes kind p).left
      go [] e left = inl (left ∙ left_here (reading_of t.bytes kind own) m p front back top out row ∙ ap (last_of undefined_address) e)
      go (x ∷ xs) e left =
          let V = reading_of t.bytes kind own in
          let long : suc (length xs) ≡ length front = sym (ap (λ (f : List ℕ). length f) e) in
          let last = front_last V m p front back top out row (length xs) long in
          let level = front_level V m p front back top out row (length xs) (omega (arith, long)) in
          let same : get_or front (length xs) 0 ≡ (node_at t.bytes kind p).left = last ∙ sym left in
          inr (subst (Listed own) same (owned_of_level (node_at t.bytes kind) own (get_or front (length xs) 0) (omega (arith, level, top))))

-- what may be read and written at the node where a removal stands
module _ (s t : Space) (kind : Kind) (root m p : ℕ) (way : List Step) (i : ℕ) (list owned own : List ℕ) (c : IsShrinking s t kind root m p way i list owned own) where
  pub top : m < 16
  top = let h = c.high in omega (arith, h)

  pub out : IsNoNode (reading_of t.bytes kind own) undefined_address
  out = undefined_free t kind own c.apart c.short

  pub own_p : Listed own p
  own_p = owned_of_level (node_at t.bytes kind) own p (let l = level_here (reading_of t.bytes kind own) m p c.over.front c.over.back top out c.over.row in let h = top in omega (arith, l, h))

  pub inside_p : p + node_length kind ≤ length t.bytes
  inside_p = inside_of_apart t kind own c.apart p own_p

  pub form_p : IsNode kind (node_bytes t.bytes kind p)
  form_p = at_listed (λ at. IsNode kind (node_bytes t.bytes kind at)) own p c.formed own_p

  pub same_p : reading_of t.bytes kind own p ≡ node_at t.bytes kind p
  same_p = owned_at (node_at t.bytes kind) own p own_p

  pub place_p : i < length (node_at t.bytes kind p).children
  place_p = subst (λ (n : Node). i < length n.children) same_p c.over.place

  pub entry_p : i < entries_in (node_bytes t.bytes kind p)
  entry_p = let l = length-children kind (node_bytes t.bytes kind p) (node_at t.bytes kind p) refl in let h = place_p in omega (arith, l, h)

  pub left_p : ((node_at t.bytes kind p).left ≡ undefined_address) ⊎ Listed own (node_at t.bytes kind p).left
  left_p = left_there t kind own m p c.over.front c.over.back top out c.over.row own_p

  pub right_p : ((node_at t.bytes kind p).right ≡ undefined_address) ⊎ Listed own (node_at t.bytes kind p).right
  right_p = (right_known t kind own m p c.over.front c.over.back top out c.over.row own_p).0

  pub not_both_sides : (node_at t.bytes kind p).left ≡ (node_at t.bytes kind p).right → (node_at t.bytes kind p).left ≡ undefined_address
  not_both_sides = (left_known t kind own m p c.over.front c.over.back top out c.over.row own_p).1

  listed_of : (n : ℕ) → (n ≡ undefined_address) ⊎ Listed own n → n ≢ undefined_address → Listed own n
  listed_of n known there = elim known [ inl e ↦ absurd (there e) | inr listed ↦ listed ]

  module _ (l r : ℕ) (el : l ≡ (node_at t.bytes kind p).left) (er : r ≡ (node_at t.bytes kind p).right) where
    left_l : (l ≡ undefined_address) ⊎ Listed own l
    left_l = subst (λ (n : ℕ). (n ≡ undefined_address) ⊎ Listed own n) (sym el) left_p

    right_r : (r ≡ undefined_address) ⊎ Listed own r
    right_r = subst (λ (n : ℕ). (n ≡ undefined_address) ⊎ Listed own n) (sym er) right_p

    pub inside_left : l ≢ undefined_address → l + node_length kind ≤ length t.bytes
    inside_left there = inside_of_apart t kind own c.apart l (listed_of l left_l there)

    pub form_left : l ≢ undefined_address → IsNode kind (node_bytes t.bytes kind l)
    form_left there = at_listed (λ at. IsNode kind (node_bytes t.bytes kind at)) own l c.formed (listed_of l left_l there)

    two : r ≢ undefined_address → r ≢ l
    two there same = there (same ∙ el ∙ not_both_sides (sym el ∙ sym same ∙ er))

    -- the neighbour to the left is written
    module _ (t₁ : Space) (w₁ : l ≢ undefined_address → IsRewritten t t₁ kind l (record (node_at t.bytes kind l) { right = r })) (n₁ : l ≡ undefined_address → t₁ ≡ t) where
      pub first : MayBeWritten t t₁ kind own l (record (node_at t.bytes kind l) { right = r })
      first = may_be_written t t₁ kind own l (record (node_at t.bytes kind l) { right = r }) c.apart c.short left_l w₁ n₁

      apart₁ : IsApart (tree_blocks kind own) t₁.free (length t₁.bytes)
      apart₁ = maybe_apart t t₁ kind own l (record (node_at t.bytes kind l) { right = r }) c.apart first

      pub spends₁ : Spends t t₁ 0 0
      spends₁ = may_be_spends t t₁ kind own l (record (node_at t.bytes kind l) { right = r }) c.apart c.short left_l w₁ n₁

      short₁ : length t₁.bytes < 2 ^ 64
      short₁ = let g = spends₁.grown in omega (arith, g, c.short)

      same_right : r ≢ undefined_address → node_bytes t₁.bytes kind r ≡ node_bytes t.bytes kind r
      same_right there = maybe_others t t₁ kind own l (record (node_at t.bytes kind l) { right = r }) c.apart first r (listed_of r right_r there) (two there)

      pub inside_right : r ≢ undefined_address → r + node_length kind ≤ length t₁.bytes
      inside_right there = inside_of_apart t₁ kind own apart₁ r (listed_of r right_r there)

      pub form_right : r ≢ undefined_address → IsNode kind (node_bytes t₁.bytes kind r)
      form_right there = subst (IsNode kind) (sym (same_right there)) (at_listed (λ at. IsNode kind (node_bytes t.bytes kind at)) own r c.formed (listed_of r right_r there))

      -- and the one to the right
      module _ (t₂ : Space) (w₂ : r ≢ undefined_address → IsRewritten t₁ t₂ kind r (record (node_at t₁.bytes kind r) { left = l })) (n₂ : r ≡ undefined_address → t₂ ≡ t₁) where
        w₂' : r ≢ undefined_address → IsRewritten t₁ t₂ kind r (record (node_at t.bytes kind r) { left = l })
        w₂' there = subst (λ (b : List ℕ). IsRewritten t₁ t₂ kind r (record (node_of kind b) { left = l })) (same_right there) (w₂ there)

        pub second : MayBeWritten t₁ t₂ kind own r (record (node_at t.bytes kind r) { left = l })
        second = may_be_written t₁ t₂ kind own r (record (node_at t.bytes kind r) { left = l }) apart₁ short₁ right_r w₂' n₂

        pub spends₂ : Spends t₁ t₂ 0 0
        spends₂ = may_be_spends t₁ t₂ kind own r (record (node_at t.bytes kind r) { left = l }) apart₁ short₁ right_r w₂' n₂

        apart₂ : IsApart (tree_blocks kind own) t₂.free (length t₂.bytes)
        apart₂ = maybe_apart t₁ t₂ kind own r (record (node_at t.bytes kind r) { left = l }) apart₁ second

        pub give_inside : p + node_length kind ≤ length t₂.bytes
        give_inside = inside_of_apart t₂ kind own apart₂ p own_p

        pub give_held : (x : ℕ) → cover x t₂.free + holds x p (node_length kind) ≤ 1
        give_held x = omega (arith, covers kind own p x own_p, apart₂ x, holds-le x 0 (length t₂.bytes))
