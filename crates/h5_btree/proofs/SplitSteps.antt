-- A split in an image: a block is taken and written, and then the node that was split and its neighbour to the right are. So the
-- premises of a step of the climb are met.
use Rattle.std.proofs.Common.{◌≡◌, ◌≢◌, ◌⊎◌, get_or, inl, inr, ℕ, suc, ◌^◌, ◌<◌, ◌≤◌, List, [], ◌∷◌, ◌++◌, length, refl, sym, ap, ◌∙◌, subst, arith, append-nil, Bool, true, false, ◌==◌}
use Rattle.std.specs.List.{list_any, insert, AllByRecursion}
use Rattle.h5_bytes.specs.Blocks.{holds}
use Rattle.h5_bytes.specs.declared.Block.{Block}
use Rattle.h5_bytes.proofs.BlockLaws.{holds_in, holds-le}
use Rattle.h5_bytes.specs.Bytes.{undefined_address}
use Rattle.h5_model.specs.Format.Rows.{Node, IsRow, first_or_undefined}
use Rattle.h5_model.specs.Format.Nodes.{Kind, IsNode, entries_in, node_at, node_block, node_bytes, node_length, node_of, reading_of, tree_blocks}
use Rattle.h5_model.proofs.RowLaws.{all_listed, at_listed}
use Rattle.h5_space.specs.Space.{Space}
use Rattle.h5_space.specs.Moves.{Moves}
use Rattle.h5_space.specs.Whole.{IsApart}
use Rattle.h5_space.proofs.MovesLaws.{moves_none, moves_then, moves_apart, moves_beside, part-same}
use Rattle.h5_btree.specs.Climb.{IsNoNode, Splits}
use Rattle.h5_btree.specs.Rewritten.{IsRewritten}
use Rattle.h5_btree.proofs.NodeLaws.{length-children}
use Rattle.h5_btree.proofs.TreeReadings.{Listed, owned_at, owned_of_level, splits_in, owns_more, owns_new}
use Rattle.h5_btree.proofs.RowEdits.{level_here, right_here, back_level, back_other}
use Rattle.h5_btree.specs.declared.way.Step.{Step}
use Rattle.h5_btree.proofs.ClimbSteps.{IsClimbing, climb_up, undefined_free, all_from, at_or, covers, inside_of_apart, others_stay, moves_within}

pub apart_then : (t u : Space) (a b : List Block) → Moves t u a b → IsApart a t.free (length t.bytes) → IsApart b u.free (length u.bytes)
apart_then t u a b m apart =
    subst (λ (bs : List Block). IsApart bs u.free (length u.bytes)) (append-nil b)
    (moves_apart t u a b [] m (subst (λ (bs : List Block). IsApart bs t.free (length t.bytes)) (sym (append-nil a)) apart))

pub not_both : (own : List ℕ) (n : ℕ) {P : Type 0} → list_any (λ m. m == n) own ≡ false → Listed own n → P
not_both own n none is = cc

-- one of the tree's nodes is written
module _ (t u : Space) (kind : Kind) (own : List ℕ) (p : ℕ) (node : Node) (apart : IsApart (tree_blocks kind own) t.free (length t.bytes))
    (is : Listed own p) (r : IsRewritten t u kind p node) where
  pub written_moves : Moves t u (tree_blocks kind own) (tree_blocks kind own)
  written_moves = moves_within t u (node_block kind p ∷ []) (tree_blocks kind own) (tree_blocks kind own) r.moves
      (λ x. let b = covers kind own p x is in omega (arith, b)) (λ x. refl)

  pub written_apart : IsApart (tree_blocks kind own) u.free (length u.bytes)
  written_apart = apart_then t u (tree_blocks kind own) (tree_blocks kind own) written_moves apart

  pub written_others : (n : ℕ) → Listed own n → n ≢ p → node_bytes u.bytes kind n ≡ node_bytes t.bytes kind n
  written_others = others_stay t u kind own p r.moves apart is

-- a block is taken for one more node
module _ (t u : Space) (kind : Kind) (own : List ℕ) (q : ℕ) (apart : IsApart (tree_blocks kind own) t.free (length t.bytes)) (m : Moves t u [] (node_block kind q ∷ [])) where
  pub taken_moves : Moves t u (tree_blocks kind own) (tree_blocks kind (q ∷ own))
  taken_moves = moves_beside t u [] (node_block kind q ∷ []) (tree_blocks kind own) m

  pub taken_apart : IsApart (tree_blocks kind (q ∷ own)) u.free (length u.bytes)
  taken_apart = apart_then t u (tree_blocks kind own) (tree_blocks kind (q ∷ own)) taken_moves apart

  -- it is none of the tree's
  pub taken_new : (n : ℕ) → Listed own n → n ≢ q
  taken_new n is same =
      let here : holds q q (node_length kind) ≡ 1 = holds_in q q (node_length kind) (omega arith) (omega arith) in
      let there : holds q n (node_length kind) ≡ holds q q (node_length kind) = ap (λ (k : ℕ). holds q k (node_length kind)) same in
      omega (arith, here, there, covers kind own n q is, taken_apart q, holds-le q 0 (length u.bytes))

  pub taken_others : (n : ℕ) → Listed own n → node_bytes u.bytes kind n ≡ node_bytes t.bytes kind n
  taken_others n is = part-same n (node_length kind) t.bytes u.bytes (inside_of_apart t kind own apart n is) m.grown (λ x low high.
      let here = holds_in x n (node_length kind) low high in
      m.kept x (let i = inside_of_apart t kind own apart n is in omega (arith, high, i)) refl
      (omega (arith, here, covers kind own n x is, apart x, holds-le x 0 (length t.bytes))))

module _ (t t₁ t₂ t₃ u : Space) (kind : Kind) (own : List ℕ) (p q j child : ℕ) (xs ys : List ℕ) (keys keys_q : List (List ℕ))
    (apart : IsApart (tree_blocks kind own) t.free (length t.bytes)) (is : Listed own p)
    (formed : AllByRecursion (λ at. IsNode kind (node_bytes t.bytes kind at)) own)
    (filled : AllByRecursion (λ at. 1 ≤ entries_in (node_bytes t.bytes kind at)) own)
    (far : (node_at t.bytes kind p).right ≢ p)
    (take_q : Moves t t₁ [] (node_block kind q ∷ []))
    (write_q : IsRewritten t₁ t₂ kind q (record { level = (node_at t.bytes kind p).level; left = p; right = (node_at t.bytes kind p).right; keys = keys_q; children = ys }))
    (write_p : IsRewritten t₂ t₃ kind p (record (node_at t.bytes kind p) { right = q; keys = keys; children = xs }))
    (write_next : Listed own (node_at t.bytes kind p).right
    → IsRewritten t₃ u kind (node_at t.bytes kind p).right (record (node_at t.bytes kind (node_at t.bytes kind p).right) { left = q }))
    (no_next : list_any (λ m. m == (node_at t.bytes kind p).right) own ≡ false → u ≡ t₃)
    (joined : xs ++ ys ≡ insert (node_at t.bytes kind p).children j child) (some : 1 ≤ length xs) (more : 1 ≤ length ys) where
  abbrev r : ℕ
  r = (node_at t.bytes kind p).right

  abbrev all : List ℕ
  all = q ∷ own

  new : (n : ℕ) → Listed own n → n ≢ q
  new = taken_new t t₁ kind own q apart take_q

  apart₁ : IsApart (tree_blocks kind all) t₁.free (length t₁.bytes)
  apart₁ = taken_apart t t₁ kind own q apart take_q

  apart₂ : IsApart (tree_blocks kind all) t₂.free (length t₂.bytes)
  apart₂ = written_apart t₁ t₂ kind all q _ apart₁ (owns_new q own) write_q

  apart₃ : IsApart (tree_blocks kind all) t₃.free (length t₃.bytes)
  apart₃ = written_apart t₂ t₃ kind all p _ apart₂ (owns_more q p own is) write_p

  -- whether there is a neighbour to the right or not, at the end it names q, and the other nodes are as before that write
  pub last_write : Moves t₃ u (tree_blocks kind all) (tree_blocks kind all)
      × ((n : ℕ) → Listed all n → n ≢ r → node_bytes u.bytes kind n ≡ node_bytes t₃.bytes kind n)
      × (Listed own r → IsNode kind (node_bytes u.bytes kind r) × (node_at u.bytes kind r ≡ record (node_at t.bytes kind r) { left = q }))
  last_write = go (list_any (λ m. m == r) own) refl where
    go : (b : Bool) → list_any (λ m. m == r) own ≡ b → Moves t₃ u (tree_blocks kind all) (tree_blocks kind all)
        × ((n : ℕ) → Listed all n → n ≢ r → node_bytes u.bytes kind n ≡ node_bytes t₃.bytes kind n)
        × (Listed own r → IsNode kind (node_bytes u.bytes kind r) × (node_at u.bytes kind r ≡ record (node_at t.bytes kind r) { left = q }))
    go true e =
        let w = write_next e in
        let others = written_others t₃ u kind all r _ apart₃ (owns_more q r own e) w in
        (written_moves t₃ u kind all r _ apart₃ (owns_more q r own e) w, others, λ listed. (w.form, w.says))
    go false e =
        let same = no_next e in
        let bytes : (n : ℕ) → node_bytes u.bytes kind n ≡ node_bytes t₃.bytes kind n = λ n. ap (λ (s : Space). node_bytes s.bytes kind n) same in (
          subst (λ (s : Space). Moves t₃ s (tree_blocks kind all) (tree_blocks kind all)) (sym same)
              (moves_none t₃ (tree_blocks kind all)),
          λ n listed other. bytes n,
          λ listed. not_both own r e listed,
        )

  -- a node that is neither of the three has its bytes
  pub split_others : (n : ℕ) → Listed own n → n ≢ p → n ≢ r → node_bytes u.bytes kind n ≡ node_bytes t.bytes kind n
  split_others n listed not_p not_r =
      last_write.1 n (owns_more q n own listed) not_r
      ∙ written_others t₂ t₃ kind all p _ apart₂ (owns_more q p own is) write_p n (owns_more q n own listed) not_p
      ∙ written_others t₁ t₂ kind all q _ apart₁ (owns_new q own) write_q n (owns_more q n own listed) (new n listed)
      ∙ taken_others t t₁ kind own q apart take_q n listed

  -- p and q say what was written
  pub p_bytes : node_bytes u.bytes kind p ≡ node_bytes t₃.bytes kind p
  p_bytes = last_write.1 p (owns_more q p own is) (λ e. far (sym e))

  pub q_bytes : q ≢ r → node_bytes u.bytes kind q ≡ node_bytes t₂.bytes kind q
  q_bytes other =
      last_write.1 q (owns_new q own) other ∙ written_others t₂ t₃ kind all p _ apart₂ (owns_more q p own is) write_p q (owns_new q own) (λ e. new p is (sym e))

  pub split_moves : Moves t u (tree_blocks kind own) (tree_blocks kind all)
  split_moves = moves_then t t₁ u (tree_blocks kind own) (tree_blocks kind all) (tree_blocks kind all) (taken_moves t t₁ kind own q apart take_q)
      (moves_then t₁ t₂ u (tree_blocks kind all) (tree_blocks kind all) (tree_blocks kind all) (written_moves t₁ t₂ kind all q _ apart₁ (owns_new q own) write_q)
      (moves_then t₂ t₃ u (tree_blocks kind all) (tree_blocks kind all) (tree_blocks kind all) (written_moves t₂ t₃ kind all p _ apart₂ (owns_more q p own is) write_p) last_write.0))

  pub split_is : q ≢ r → Splits (reading_of t.bytes kind own) (reading_of u.bytes kind all) p j child q
  split_is other =
      splits_in (node_at t.bytes kind) (node_at u.bytes kind) own all p j child q xs ys keys keys_q is (owns_more q p own is) (owns_new q own) joined
      (ap (node_of kind) p_bytes ∙ write_p.says)
      (ap (node_of kind) (q_bytes other) ∙ write_q.says)
      (λ listed. (owns_more q r own listed, (last_write.2 listed).1))
      (λ n listed not_p not_r. (owns_more q n own listed, ap (node_of kind) (split_others n listed not_p not_r)))

  -- each of the nodes is one
  pub split_formed : q ≢ r → AllByRecursion (λ at. IsNode kind (node_bytes u.bytes kind at)) all
  split_formed other = (
    subst (IsNode kind) (sym (q_bytes other)) write_q.form,
    all_from own (λ at. IsNode kind (node_bytes u.bytes kind at)) (λ n listed. at_or p n
        (λ e. subst (λ (k : ℕ). IsNode kind (node_bytes u.bytes kind k)) (sym e) (subst (IsNode kind) (sym p_bytes) write_p.form))
        (λ not_p. at_or r n
        (λ e. subst (λ (k : ℕ). IsNode kind (node_bytes u.bytes kind k)) (sym e) (last_write.2 (subst (Listed own) e listed)).0)
        (λ not_r. subst (IsNode kind) (sym (split_others n listed not_p not_r)) (at_listed (λ at. IsNode kind (node_bytes t.bytes kind at)) own n formed listed))))
        own (all_listed own),
  )

  -- and has a child
  pub split_filled : q ≢ r → AllByRecursion (λ at. 1 ≤ entries_in (node_bytes u.bytes kind at)) all
  split_filled other =
      let count : (bytes : List ℕ) → entries_in bytes ≡ length (node_of kind bytes).children = λ bytes. length-children kind bytes (node_of kind bytes) refl in
      let at_q : length (node_of kind (node_bytes t₂.bytes kind q)).children ≡ length ys = ap (λ (n : Node). length n.children) write_q.says in
      let at_p : length (node_of kind (node_bytes t₃.bytes kind p)).children ≡ length xs = ap (λ (n : Node). length n.children) write_p.says in (
        subst (λ (b : List ℕ). 1 ≤ entries_in b) (sym (q_bytes other)) (omega (arith, count (node_bytes t₂.bytes kind q), at_q, more)),
        all_from own (λ at. 1 ≤ entries_in (node_bytes u.bytes kind at)) (λ n listed. at_or p n
            (λ e. subst (λ (k : ℕ). 1 ≤ entries_in (node_bytes u.bytes kind k)) (sym e)
            (subst (λ (b : List ℕ). 1 ≤ entries_in b) (sym p_bytes) (omega (arith, count (node_bytes t₃.bytes kind p), at_p, some))))
            (λ not_p. at_or r n
            (λ e. subst (λ (k : ℕ). 1 ≤ entries_in (node_bytes u.bytes kind k)) (sym e)
            (let w = last_write.2 (subst (Listed own) e listed) in
            let same : length (node_of kind (node_bytes u.bytes kind r)).children ≡ length (node_of kind (node_bytes t.bytes kind r)).children
            = ap (λ (k : Node). length k.children) w.1 in
            let old = at_listed (λ at. 1 ≤ entries_in (node_bytes t.bytes kind at)) own r filled (subst (Listed own) e listed) in
            omega (arith, count (node_bytes u.bytes kind r), count (node_bytes t.bytes kind r), same, old)))
            (λ not_r. subst (λ (b : List ℕ). 1 ≤ entries_in b) (sym (split_others n listed not_p not_r))
            (at_listed (λ at. 1 ≤ entries_in (node_bytes t.bytes kind at)) own n filled listed))))
            own (all_listed own),
      )

-- the neighbour to the right is a node of the tree, or there is none
pub right_known : (t : Space) (kind : Kind) (own : List ℕ) (m p : ℕ) (front back : List ℕ) → m < 16 → IsNoNode (reading_of t.bytes kind own) undefined_address
    → IsRow (reading_of t.bytes kind own) m undefined_address (front ++ p ∷ back) → Listed own p
    → (((node_at t.bytes kind p).right ≡ undefined_address) ⊎ Listed own (node_at t.bytes kind p).right) × ((node_at t.bytes kind p).right ≡ p → p ≡ undefined_address)
right_known t kind own m p front back top out row is =
    let V = reading_of t.bytes kind own in
    let same : (node_at t.bytes kind p).right ≡ (V p).right = ap (λ (n : Node). n.right) (sym (owned_at (node_at t.bytes kind) own p is)) in
    by_back back refl (same ∙ right_here V m p front back top out row) where
      by_back : (b : List ℕ) → back ≡ b → (node_at t.bytes kind p).right ≡ first_or_undefined b
          → (((node_at t.bytes kind p).right ≡ undefined_address) ⊎ Listed own (node_at t.bytes kind p).right) × ((node_at t.bytes kind p).right ≡ p → p ≡ undefined_address)
      by_back [] e right = (inl right, λ same. sym same ∙ right)
      by_back (c ∷ cs) e right =
          let V = reading_of t.bytes kind own in
          let long : 0 < length back = omega (arith, ap (λ (xs : List ℕ). length xs) e) in
          let first : get_or back 0 0 ≡ c = ap (λ (xs : List ℕ). get_or xs 0 0) e in
          let level : (V c).level ≡ m = subst (λ (n : ℕ). (V n).level ≡ m) first (back_level V m p front back top out row 0 long) in
          let listed : Listed own c = owned_of_level (node_at t.bytes kind) own c (omega (arith, level, top)) in
          (inr (subst (Listed own) (sym right) listed), λ same. absurd (back_other V m p front back top out row 0 long (first ∙ sym right ∙ same)))

-- One step of the climb in an image, by its writes: the node p is full, the new node q gets its right half, and the neighbour to the
-- right names q.
pub climb_split : (s t t₁ t₂ t₃ u : Space) (kind : Kind) (root m p : ℕ) (step : Step) (way : List Step) (j child q : ℕ) (xs ys : List ℕ) (list owned own : List ℕ)
    (keys keys_q : List (List ℕ)) (c : IsClimbing s t kind root m p (step ∷ way) j child list owned own)
    → (take_q : Moves t t₁ [] (node_block kind q ∷ []))
    → (write_q : IsRewritten t₁ t₂ kind q (record { level = (node_at t.bytes kind p).level; left = p; right = (node_at t.bytes kind p).right; keys = keys_q; children = ys }))
    → (write_p : IsRewritten t₂ t₃ kind p (record (node_at t.bytes kind p) { right = q; keys = keys; children = xs }))
    → (write_next : Listed own (node_at t.bytes kind p).right
    → IsRewritten t₃ u kind (node_at t.bytes kind p).right (record (node_at t.bytes kind (node_at t.bytes kind p).right) { left = q }))
    → (no_next : list_any (λ m. m == (node_at t.bytes kind p).right) own ≡ false → u ≡ t₃)
    → xs ++ ys ≡ insert (node_at t.bytes kind p).children j child → 1 ≤ length xs → 1 ≤ length ys → length u.bytes < 2 ^ 64
    → IsClimbing s u kind root (suc m) step.node way (suc step.place) q list owned (q ∷ own)
climb_split s t t₁ t₂ t₃ u kind root m p step way j child q xs ys list owned own keys keys_q c take_q write_q write_p write_next no_next joined some more short =
    let V = reading_of t.bytes kind own in
    let out = undefined_free t kind own c.apart c.short in
    let top : m < 16 = let h = c.high in omega (arith, h) in
    let is_p : Listed own p = owned_of_level (node_at t.bytes kind) own p (omega (arith, level_here V m p c.lacks.front c.lacks.back top out c.lacks.row, top)) in
    let filled = c.filled (omega arith) in
    let known = right_known t kind own m p c.lacks.front c.lacks.back top out c.lacks.row is_p in
    let far : (node_at t.bytes kind p).right ≢ p = λ e. let i = inside_of_apart t kind own c.apart p is_p in absurd (omega (arith, known.1 e, i, c.short)) in
    let other : q ≢ (node_at t.bytes kind p).right = λ e. elim known.0 [
      | inl none ↦
          let grown = (split_moves t t₁ t₂ t₃ u kind own p q j child xs ys keys keys_q c.apart is_p c.formed filled far take_q write_q write_p write_next no_next joined some more) in
          let i = inside_of_apart u kind (q ∷ own) (apart_then t u (tree_blocks kind own) (tree_blocks kind (q ∷ own)) grown c.apart) q (owns_new q own) in
          omega (arith, e ∙ none, i, short)
      | inr listed ↦ taken_new t t₁ kind own q c.apart take_q (node_at t.bytes kind p).right listed (sym e)
    ] in
    climb_up s t u kind root m p step way j child q list owned own c
    (split_is t t₁ t₂ t₃ u kind own p q j child xs ys keys keys_q c.apart is_p c.formed filled far take_q write_q write_p write_next no_next joined some more other)
    (split_moves t t₁ t₂ t₃ u kind own p q j child xs ys keys keys_q c.apart is_p c.formed filled far take_q write_q write_p write_next no_next joined some more)
    (split_formed t t₁ t₂ t₃ u kind own p q j child xs ys keys keys_q c.apart is_p c.formed filled far take_q write_q write_p write_next no_next joined some more other)
    (split_filled t t₁ t₂ t₃ u kind own p q j child xs ys keys keys_q c.apart is_p c.formed filled far take_q write_q write_p write_next no_next joined some more other)
    short
