-- A split by the writes that the code makes: the climb goes on, the two halves say what was written, and the nodes above stay.
use Rattle.std.proofs.Common.{◌≡◌, ◌≢◌, inl, inr, ℕ, suc, ◌^◌, ◌<◌, ◌≤◌, List, [], ◌∷◌, ◌++◌, length, sym, ap, ◌∙◌, subst, arith, false, ◌==◌}
use Rattle.std.specs.List.{list_any, insert, AllByRecursion}
use Rattle.h5_bytes.specs.Bytes.{undefined_address}
use Rattle.h5_model.specs.Format.Rows.{Node}
use Rattle.h5_model.specs.Format.Nodes.{Kind, entries_in, node_at, node_block, node_bytes, node_of}
use Rattle.h5_space.specs.Space.{Space}
use Rattle.h5_space.specs.Moves.{Moves}
use Rattle.h5_btree.specs.Rewritten.{IsRewritten}
use Rattle.h5_btree.specs.Insertion.{IsClimbing, KeepsEntries}
use Rattle.h5_btree.specs.declared.way.Step.{Step}
use Rattle.h5_btree.proofs.TreeReadings.{Listed}
use Rattle.h5_btree.proofs.ClimbSteps.{at_or, inside_of_apart}
use Rattle.h5_btree.proofs.SplitSteps.{climb_split, not_both, split_others, p_bytes, q_bytes}
use Rattle.h5_btree.proofs.ClimbStands.{own_p, inside_p, known_right, bytes_r, new_q, new_not_right}

module _ (s t t₁ t₂ t₃ u : Space) (kind : Kind) (root m p : ℕ) (step : Step) (way : List Step) (j child : ℕ) (list owned own : List ℕ)
    (c : IsClimbing s t kind root m p (step ∷ way) j child list owned own) (q : ℕ) (xs ys : List ℕ) (keys keys_q : List (List ℕ))
    (taken : Moves t t₁ [] (node_block kind q ∷ []))
    (write_q : IsRewritten t₁ t₂ kind q (record { level = (node_at t.bytes kind p).level; left = p; right = (node_at t.bytes kind p).right; keys = keys_q; children = ys }))
    (write_p : IsRewritten t₂ t₃ kind p (record (node_at t.bytes kind p) { right = q; keys = keys; children = xs }))
    (r : ℕ) (er : r ≡ (node_at t.bytes kind p).right)
    (w : r ≢ undefined_address → IsRewritten t₃ u kind r (record (node_at t₃.bytes kind r) { left = q })) (none : r ≡ undefined_address → u ≡ t₃)
    (joined : xs ++ ys ≡ insert (node_at t.bytes kind p).children j child) (some : 1 ≤ length xs) (more : 1 ≤ length ys) where
  abbrev next : ℕ
  next = (node_at t.bytes kind p).right

  write_next : Listed own next → IsRewritten t₃ u kind next (record (node_at t.bytes kind next) { left = q })
  write_next listed =
      let i = inside_of_apart t kind own c.apart next listed in
      let there : r ≢ undefined_address = λ e. absurd (omega (arith, sym er ∙ e, i, c.short)) in
      subst (λ (n : ℕ). IsRewritten t₃ u kind n (record (node_at t.bytes kind n) { left = q })) er
      (subst (λ (b : List ℕ). IsRewritten t₃ u kind r (record (node_of kind b) { left = q }))
      (bytes_r s t kind root m p (step ∷ way) j child list owned own c t₁ q taken t₂ _ write_q t₃ _ write_p r er there) (w there))

  no_next : list_any (λ k. k == next) own ≡ false → u ≡ t₃
  no_next off = elim (known_right s t kind root m p (step ∷ way) j child list owned own c).0 [
    | inl e ↦ none (er ∙ e)
    | inr listed ↦ not_both own next off listed
  ]

  is : Listed own p
  is = own_p s t kind root m p (step ∷ way) j child list owned own c

  far : next ≢ p
  far same =
      let i = inside_p s t kind root m p (step ∷ way) j child list owned own c in
      absurd (omega (arith, (known_right s t kind root m p (step ∷ way) j child list owned own c).1 same, i, c.short))

  filled : AllByRecursion (λ at. 1 ≤ entries_in (node_bytes t.bytes kind at)) own
  filled = c.filled (omega arith)

  pub climbs_on : length u.bytes < 2 ^ 64 → IsClimbing s u kind root (suc m) step.node way (suc step.place) q list owned (q ∷ own)
  climbs_on short =
      climb_split s t t₁ t₂ t₃ u kind root m p step way j child q xs ys list owned own keys keys_q c taken write_q write_p write_next no_next joined some more short

  -- the neighbour to the right has its keys and children, and all others their bytes
  pub others_keep : (n : ℕ) → Listed own n → (n ≢ q) × (n ≢ p → KeepsEntries t.bytes u.bytes kind n)
  others_keep n listed = (
    new_q s t kind root m p (step ∷ way) j child list owned own c t₁ q taken n listed,
    λ not_p. at_or next n
        (λ e. subst (KeepsEntries t.bytes u.bytes kind) (sym e) (
        let w = write_next (subst (Listed own) e listed) in
        (ap (λ (k : Node). k.keys) w.says, ap (λ (k : Node). k.children) w.says, ap (λ (k : Node). k.level) w.says)
        ))
        (λ not_next.
        let same = split_others t t₁ t₂ t₃ u kind own p q j child xs ys keys keys_q c.apart is c.formed filled far taken write_q write_p write_next no_next joined some more n listed not_p not_next in
        (ap (λ (b : List ℕ). (node_of kind b).keys) same, ap (λ (b : List ℕ). (node_of kind b).children) same, ap (λ (b : List ℕ). (node_of kind b).level) same)),
  )

  pub left_says : node_at u.bytes kind p ≡ record (node_at t.bytes kind p) { right = q; keys = keys; children = xs }
  left_says =
      ap (node_of kind) (p_bytes t t₁ t₂ t₃ u kind own p q j child xs ys keys keys_q c.apart is c.formed filled far taken write_q write_p write_next no_next joined some more) ∙ write_p.says

  pub right_says : length t₁.bytes < 2 ^ 64
      → node_at u.bytes kind q ≡ record { level = (node_at t.bytes kind p).level; left = p; right = (node_at t.bytes kind p).right; keys = keys_q; children = ys }
  right_says short =
      ap (node_of kind) (q_bytes t t₁ t₂ t₃ u kind own p q j child xs ys keys keys_q c.apart is c.formed filled far taken write_q write_p write_next no_next joined some more
      (new_not_right s t kind root m p (step ∷ way) j child list owned own c t₁ q taken short)) ∙ write_q.says
