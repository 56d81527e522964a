-- The root's split in an image: two blocks are taken and written, and then the root is. So the premises of the last step of the climb
-- are met.
use Rattle.std.proofs.Common.{◌≡◌, ◌≢◌, ℕ, zero, suc, ◌+◌, ◌<◌, ◌≤◌, List, [], ◌∷◌, ◌++◌, length, refl, sym, ap, ◌∙◌, subst, arith}
use Rattle.std.specs.List.{insert, AllByRecursion}
use Rattle.h5_bytes.specs.Bytes.{undefined_address}
use Rattle.h5_model.specs.Format.Limits.{highest_level}
use Rattle.h5_model.specs.Format.Rows.{Node, nodes}
use Rattle.h5_model.specs.Format.Nodes.{Kind, IsNode, entries_in, node_at, node_block, node_bytes, node_length, node_of, reading_of, tree_blocks}
use Rattle.h5_model.proofs.RowLaws.{all_listed, at_listed}
use Rattle.h5_space.specs.Space.{Space}
use Rattle.h5_space.specs.Moves.{Moves}
use Rattle.h5_space.specs.Whole.{IsApart}
use Rattle.h5_space.proofs.MovesLaws.{moves_then}
use Rattle.h5_btree.specs.Climb.{RaisesRoot}
use Rattle.h5_btree.specs.Rewritten.{IsRewritten}
use Rattle.h5_btree.proofs.NodeLaws.{length-children}
use Rattle.h5_btree.proofs.RowEdits.{level_here}
use Rattle.h5_btree.proofs.TreeReadings.{Listed, owned_of_level, raises_in, owns_more, owns_new}
use Rattle.h5_btree.proofs.ClimbSteps.{IsClimbing, IsChildPut, climb_raised, undefined_free, all_from, at_or, covers_two}
use Rattle.h5_btree.proofs.OwnedLaws.{total, cover_total}
use Rattle.h5_bytes.specs.Blocks.{holds}
use Rattle.h5_bytes.proofs.BlockLaws.{holds_in}
use Rattle.h5_btree.proofs.SplitSteps.{written_moves, written_apart, written_others, taken_moves, taken_apart, taken_new, taken_others}

module _ (t t₁ t₂ t₃ t₄ u : Space) (kind : Kind) (own : List ℕ) (root j child p q : ℕ) (xs ys : List ℕ) (keys keys_p keys_q : List (List ℕ))
    (apart : IsApart (tree_blocks kind own) t.free (length t.bytes)) (is : Listed own root)
    (formed : AllByRecursion (λ at. IsNode kind (node_bytes t.bytes kind at)) own)
    (filled : (n : ℕ) → Listed own n → n ≢ root → 1 ≤ entries_in (node_bytes t.bytes kind n))
    (take_q : Moves t t₁ [] (node_block kind q ∷ [])) (take_p : Moves t₁ t₂ [] (node_block kind p ∷ []))
    (write_p : IsRewritten t₂ t₃ kind p (record { level = (node_at t.bytes kind root).level; left = undefined_address; right = q; keys = keys_p; children = xs }))
    (write_q : IsRewritten t₃ t₄ kind q (record { level = (node_at t.bytes kind root).level; left = p; right = undefined_address; keys = keys_q; children = ys }))
    (write_root : IsRewritten t₄ u kind root (record { level = suc (node_at t.bytes kind root).level; left = undefined_address; right = undefined_address; keys = keys; children = p ∷ q ∷ [] }))
    (joined : xs ++ ys ≡ insert (node_at t.bytes kind root).children j child) (some : 1 ≤ length xs) (more : 1 ≤ length ys) where
  abbrev all : List ℕ
  all = p ∷ q ∷ own

  apart₁ : IsApart (tree_blocks kind (q ∷ own)) t₁.free (length t₁.bytes)
  apart₁ = taken_apart t t₁ kind own q apart take_q

  apart₂ : IsApart (tree_blocks kind all) t₂.free (length t₂.bytes)
  apart₂ = taken_apart t₁ t₂ kind (q ∷ own) p apart₁ take_p

  apart₃ : IsApart (tree_blocks kind all) t₃.free (length t₃.bytes)
  apart₃ = written_apart t₂ t₃ kind all p _ apart₂ (owns_new p (q ∷ own)) write_p

  apart₄ : IsApart (tree_blocks kind all) t₄.free (length t₄.bytes)
  apart₄ = written_apart t₃ t₄ kind all q _ apart₃ (owns_more p q (q ∷ own) (owns_new q own)) write_q

  new_q : (n : ℕ) → Listed own n → n ≢ q
  new_q = taken_new t t₁ kind own q apart take_q

  new_p : (n : ℕ) → Listed (q ∷ own) n → n ≢ p
  new_p = taken_new t₁ t₂ kind (q ∷ own) p apart₁ take_p

  is_root : Listed all root
  is_root = owns_more p root (q ∷ own) (owns_more q root own is)

  pub others : (n : ℕ) → Listed own n → n ≢ root → node_bytes u.bytes kind n ≡ node_bytes t.bytes kind n
  others n at not_root =
      let here = owns_more p n (q ∷ own) (owns_more q n own at) in
      written_others t₄ u kind all root _ apart₄ is_root write_root n here not_root
      ∙ written_others t₃ t₄ kind all q _ apart₃ (owns_more p q (q ∷ own) (owns_new q own)) write_q n here (new_q n at)
      ∙ written_others t₂ t₃ kind all p _ apart₂ (owns_new p (q ∷ own)) write_p n here (new_p n (owns_more q n own at))
      ∙ taken_others t₁ t₂ kind (q ∷ own) p apart₁ take_p n (owns_more q n own at)
      ∙ taken_others t t₁ kind own q apart take_q n at

  pub q_bytes : node_bytes u.bytes kind q ≡ node_bytes t₄.bytes kind q
  q_bytes = written_others t₄ u kind all root _ apart₄ is_root write_root q (owns_more p q (q ∷ own) (owns_new q own)) (λ e. new_q root is (sym e))

  pub p_bytes : node_bytes u.bytes kind p ≡ node_bytes t₃.bytes kind p
  p_bytes =
      written_others t₄ u kind all root _ apart₄ is_root write_root p (owns_new p (q ∷ own)) (λ e. new_p root (owns_more q root own is) (sym e))
      ∙ written_others t₃ t₄ kind all q _ apart₃ (owns_more p q (q ∷ own) (owns_new q own)) write_q p (owns_new p (q ∷ own)) (λ e. new_p q (owns_new q own) (sym e))

  pub raise_moves : Moves t u (tree_blocks kind own) (tree_blocks kind all)
  raise_moves = moves_then t t₁ u (tree_blocks kind own) (tree_blocks kind (q ∷ own)) (tree_blocks kind all) (taken_moves t t₁ kind own q apart take_q)
      (moves_then t₁ t₂ u (tree_blocks kind (q ∷ own)) (tree_blocks kind all) (tree_blocks kind all) (taken_moves t₁ t₂ kind (q ∷ own) p apart₁ take_p)
      (moves_then t₂ t₃ u (tree_blocks kind all) (tree_blocks kind all) (tree_blocks kind all) (written_moves t₂ t₃ kind all p _ apart₂ (owns_new p (q ∷ own)) write_p)
      (moves_then t₃ t₄ u (tree_blocks kind all) (tree_blocks kind all) (tree_blocks kind all) (written_moves t₃ t₄ kind all q _ apart₃ (owns_more p q (q ∷ own) (owns_new q own)) write_q)
      (written_moves t₄ u kind all root _ apart₄ is_root write_root))))

  pub raise_is : (r : RaisesRoot (reading_of t.bytes kind own) (reading_of u.bytes kind all) root j child) × (r.p ≡ p) × (r.q ≡ q)
  raise_is = raises_in (node_at t.bytes kind) (node_at u.bytes kind) own all root j child p q xs ys keys keys_p keys_q is is_root (owns_new p (q ∷ own)) (owns_more p q (q ∷ own) (owns_new q own)) joined
      write_root.says (ap (node_of kind) p_bytes ∙ write_p.says) (ap (node_of kind) q_bytes ∙ write_q.says)
      (λ n at not_root. (owns_more p n (q ∷ own) (owns_more q n own at), ap (node_of kind) (others n at not_root)))

  each : (P : List ℕ → Type 0) → ((n : ℕ) → Listed own n → n ≢ root → P (node_bytes t.bytes kind n)) → P (node_bytes u.bytes kind root)
      → P (node_bytes t₄.bytes kind q) → P (node_bytes t₃.bytes kind p) → AllByRecursion (λ at. P (node_bytes u.bytes kind at)) all
  each P was at_root at_q at_p = (
    subst P (sym p_bytes) at_p,
    (
      subst P (sym q_bytes) at_q,
      all_from own (λ at. P (node_bytes u.bytes kind at)) (λ n at. at_or root n
          (λ e. subst (λ (k : ℕ). P (node_bytes u.bytes kind k)) (sym e) at_root)
          (λ not_root. subst P (sym (others n at not_root)) (was n at not_root))) own (all_listed own),
    ),
  )

  pub raise_formed : AllByRecursion (λ at. IsNode kind (node_bytes u.bytes kind at)) all
  raise_formed = each (IsNode kind) (λ n at not_root. at_listed (λ k. IsNode kind (node_bytes t.bytes kind k)) own n formed at) write_root.form write_q.form write_p.form

  pub raise_filled : AllByRecursion (λ at. 1 ≤ entries_in (node_bytes u.bytes kind at)) all
  raise_filled =
      let count : (bytes : List ℕ) → entries_in bytes ≡ length (node_of kind bytes).children = λ bytes. length-children kind bytes (node_of kind bytes) refl in
      let at_root : length (node_of kind (node_bytes u.bytes kind root)).children ≡ 2 = ap (λ (n : Node). length n.children) write_root.says in
      let at_q : length (node_of kind (node_bytes t₄.bytes kind q)).children ≡ length ys = ap (λ (n : Node). length n.children) write_q.says in
      let at_p : length (node_of kind (node_bytes t₃.bytes kind p)).children ≡ length xs = ap (λ (n : Node). length n.children) write_p.says in
      each (λ b. 1 ≤ entries_in b) filled (omega (arith, count (node_bytes u.bytes kind root), at_root))
      (omega (arith, count (node_bytes t₄.bytes kind q), at_q, more)) (omega (arith, count (node_bytes t₃.bytes kind p), at_p, some))

-- below a root of level 0 there is no other node, and else each node has a child
pub others_filled : (s t : Space) (kind : Kind) (root m j child : ℕ) (list owned own : List ℕ) (c : IsClimbing s t kind root m root [] j child list owned own)
    → Listed own root → (n : ℕ) → Listed own n → n ≢ root → 1 ≤ entries_in (node_bytes t.bytes kind n)
others_filled s t kind root zero j child list owned own c is n at other =
    let w : ℕ → ℕ = λ k. holds n k (node_length kind) in
    let above = c.lacks.above in
    let alone : total w (c.lacks.front ++ root ∷ c.lacks.back) ≡ w root + 0 = λ i. total w (above.1 i ++ root ∷ above.2 i) in
    let here : w n ≡ 1 = holds_in n n (node_length kind) (omega arith) (omega arith) in
    absurd (omega (arith, c.counts w, alone, here, cover_total n kind own, covers_two kind own n root n other at is))
others_filled s t kind root (suc m) j child list owned own c is n at other =
    at_listed (λ k. 1 ≤ entries_in (node_bytes t.bytes kind k)) own n (c.filled (omega arith)) at

-- The last step of the climb in an image, by its writes: the root is full.
pub climb_raise : (s t t₁ t₂ t₃ t₄ u : Space) (kind : Kind) (root m j child p q : ℕ) (xs ys list owned own : List ℕ) (keys keys_p keys_q : List (List ℕ))
    (c : IsClimbing s t kind root m root [] j child list owned own) → m < highest_level
    → Moves t t₁ [] (node_block kind q ∷ []) → Moves t₁ t₂ [] (node_block kind p ∷ [])
    → IsRewritten t₂ t₃ kind p (record { level = (node_at t.bytes kind root).level; left = undefined_address; right = q; keys = keys_p; children = xs })
    → IsRewritten t₃ t₄ kind q (record { level = (node_at t.bytes kind root).level; left = p; right = undefined_address; keys = keys_q; children = ys })
    → IsRewritten t₄ u kind root (record { level = suc (node_at t.bytes kind root).level; left = undefined_address; right = undefined_address; keys = keys; children = p ∷ q ∷ [] })
    → xs ++ ys ≡ insert (node_at t.bytes kind root).children j child → 1 ≤ length xs → 1 ≤ length ys
    → IsChildPut s u kind root (suc m) list owned (nodes (reading_of u.bytes kind (p ∷ q ∷ own)) (suc m) (root ∷ []))
climb_raise s t t₁ t₂ t₃ t₄ u kind root m j child p q xs ys list owned own keys keys_p keys_q c low take_q take_p write_p write_q write_root joined some more =
    let V = reading_of t.bytes kind own in
    let out = undefined_free t kind own c.apart c.short in
    let top : m < 16 = omega (arith, low) in
    let is : Listed own root = owned_of_level (node_at t.bytes kind) own root (omega (arith, level_here V m root c.lacks.front c.lacks.back top out c.lacks.row, top)) in
    let filled = others_filled s t kind root m j child list owned own c is in
    let r = raise_is t t₁ t₂ t₃ t₄ u kind own root j child p q xs ys keys keys_p keys_q c.apart is c.formed filled take_q take_p write_p write_q write_root joined some more in
    climb_raised s t u kind root m j child p q list owned own c low r.0 r.1 r.2
    (raise_moves t t₁ t₂ t₃ t₄ u kind own root j child p q xs ys keys keys_p keys_q c.apart is c.formed filled take_q take_p write_p write_q write_root joined some more)
    (raise_formed t t₁ t₂ t₃ t₄ u kind own root j child p q xs ys keys keys_p keys_q c.apart is c.formed filled take_q take_p write_p write_q write_root joined some more)
    (raise_filled t t₁ t₂ t₃ t₄ u kind own root j child p q xs ys keys keys_p keys_q c.apart is c.formed filled take_q take_p write_p write_q write_root joined some more)
