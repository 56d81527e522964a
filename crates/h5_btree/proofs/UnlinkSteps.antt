-- A node that goes, in an image: its neighbours are written, and its block is given back. So the premises of a step of a removal are met.
use Rattle.std.proofs.Common.{◌≡◌, ◌≢◌, get_or, ℕ, suc, ◌+◌, ◌^◌, ◌<◌, ◌≤◌, List, [], ◌∷◌, ◌++◌, length, refl, sym, ap, ◌∙◌, subst, arith, Bool, true, false, ◌==◌}
use Rattle.std.specs.Prelude.{if◌then◌else◌}
use Rattle.std.specs.List.{list_any, AllByRecursion}
use Rattle.h5_bytes.specs.Blocks.{holds, cover}
use Rattle.h5_bytes.proofs.BlockLaws.{holds_in, holds-le}
use Rattle.h5_bytes.specs.Bytes.{undefined_address}
use Rattle.h5_model.specs.Format.Rows.{Node, IsRow, first_or_undefined}
use Rattle.h5_model.specs.Format.Nodes.{Kind, IsNode, entries_in, node_at, node_block, node_bytes, node_length, node_of, reading_of, tree_blocks}
use Rattle.h5_model.proofs.RowLaws.{all_listed, at_listed}
use Rattle.h5_space.specs.Space.{Space}
use Rattle.h5_space.specs.Moves.{Moves}
use Rattle.h5_space.specs.Whole.{IsApart}
use Rattle.h5_space.proofs.MovesLaws.{moves_none, moves_then, part-same}
use Rattle.h5_btree.specs.Climb.{IsNoNode, Unlinks}
use Rattle.h5_btree.specs.Insertion.{KeepsEntries}
use Rattle.h5_btree.specs.Rewritten.{IsRewritten}
use Rattle.h5_btree.specs.declared.way.Step.{Step}
use Rattle.h5_btree.proofs.NodeLaws.{length-children}
use Rattle.h5_btree.proofs.RowEdits.{last_of, level_here, left_here, right_here, front_last, front_other, back_not_left}
use Rattle.h5_btree.proofs.OwnedLaws.{cover_total}
use Rattle.h5_btree.proofs.TreeReadings.{Listed, owned_at, owned_of_level, unlinks_in}
use Rattle.h5_btree.proofs.ClimbSteps.{all_from, at_or, covers, covers_two, inside_of_apart, undefined_free}
use Rattle.h5_btree.proofs.SplitSteps.{right_known, apart_then, written_moves, written_others}
use Rattle.h5_btree.proofs.DropSteps.{IsShrinking, without, total-without, listed-without, shrink_up}
use Rattle.h5_btree.proofs.InsertionAlong.{keeps_then, keeps_bytes}

-- a node is written, where it is one of the tree's
pub record MayBeWritten (t u : Space) (kind : Kind) (own : List ℕ) (n : ℕ) (node : Node) : Type 0 where
  pub written : Listed own n → IsRewritten t u kind n node
  pub none : list_any (λ m. m == n) own ≡ false → u ≡ t

module _ (t u : Space) (kind : Kind) (own : List ℕ) (n : ℕ) (node : Node) (apart : IsApart (tree_blocks kind own) t.free (length t.bytes))
    (w : MayBeWritten t u kind own n node) where
  pub maybe_moves : Moves t u (tree_blocks kind own) (tree_blocks kind own)
  maybe_moves = go (list_any (λ m. m == n) own) refl where
    go : (b : Bool) → list_any (λ m. m == n) own ≡ b → Moves t u (tree_blocks kind own) (tree_blocks kind own)
    go true e = written_moves t u kind own n node apart e (w.written e)
    go false e = subst (λ (s : Space). Moves t s (tree_blocks kind own) (tree_blocks kind own)) (sym (w.none e)) (moves_none t (tree_blocks kind own))

  pub maybe_apart : IsApart (tree_blocks kind own) u.free (length u.bytes)
  maybe_apart = apart_then t u (tree_blocks kind own) (tree_blocks kind own) maybe_moves apart

  pub maybe_others : (k : ℕ) → Listed own k → k ≢ n → node_bytes u.bytes kind k ≡ node_bytes t.bytes kind k
  maybe_others k is other = go (list_any (λ m. m == n) own) refl where
    go : (b : Bool) → list_any (λ m. m == n) own ≡ b → node_bytes u.bytes kind k ≡ node_bytes t.bytes kind k
    go true e = written_others t u kind own n node apart e (w.written e) k is other
    go false e = ap (λ (s : Space). node_bytes s.bytes kind k) (w.none e)

-- a block of the tree is given back
module _ (t u : Space) (kind : Kind) (own : List ℕ) (p : ℕ) (apart : IsApart (tree_blocks kind own) t.free (length t.bytes)) (is : Listed own p)
    (m : Moves t u (node_block kind p ∷ []) []) where
  cover_without : (x : ℕ) → cover x (tree_blocks kind own) ≡ holds x p (node_length kind) + cover x (tree_blocks kind (without p own))
  cover_without x =
      let w : ℕ → ℕ = λ n. holds x n (node_length kind) in
      cover_total x kind own ∙ total-without w p own is ∙ ap (λ (k : ℕ). holds x p (node_length kind) + k) (sym (cover_total x kind (without p own)))

  pub given_moves : Moves t u (tree_blocks kind own) (tree_blocks kind (without p own))
  given_moves = record {
    grown = m.grown;
    kept = λ x low used free. m.kept x low (omega (arith, used, cover_without x)) free;
    moved = λ x. omega (arith, m.moved x, cover_without x);
  }

  pub given_others : (n : ℕ) → Listed own n → n ≢ p → node_bytes u.bytes kind n ≡ node_bytes t.bytes kind n
  given_others n at other =
      part-same n (node_length kind) t.bytes u.bytes (inside_of_apart t kind own apart n at) m.grown (λ x low high.
      let here = holds_in x n (node_length kind) low high in
      let both = covers_two kind own n p x other at is in
      let most = holds-le x 0 (length t.bytes) in
      m.kept x (let i = inside_of_apart t kind own apart n at in omega (arith, high, i)) (omega (arith, here, both, apart x, most)) (omega (arith, here, both, apart x, most)))

  -- none of those that are left is p
  pub without_other : (n : ℕ) → Listed (without p own) n → n ≢ p
  without_other n at same =
      let here : holds p p (node_length kind) ≡ 1 = holds_in p p (node_length kind) (omega arith) (omega arith) in
      let there : holds p n (node_length kind) ≡ holds p p (node_length kind) = ap (λ (k : ℕ). holds p k (node_length kind)) same in
      omega (arith, here, there, covers kind (without p own) n p at, cover_without p, apart p, holds-le p 0 (length t.bytes))

-- those that are left were there
pub without_listed : (p n : ℕ) (xs : List ℕ) → Listed (without p xs) n → Listed xs n
without_listed p n [] is = is
without_listed p n (x ∷ xs) is = go (x == p) (x == n) refl refl is (without_listed p n xs) where
  go : (b c : Bool) → (x == p) ≡ b → (x == n) ≡ c → list_any (λ k. k == n) (if b then xs else x ∷ without p xs) ≡ true → (Listed (without p xs) n → Listed xs n)
      → list_any (λ k. k == n) (x ∷ xs) ≡ true
  go b true e f listed rest = rw f refl
  go true false e f listed rest = rw f listed
  go false false e f listed rest = rw f (rest (rw f at listed))

module _ (t t₁ t₂ u : Space) (kind : Kind) (own : List ℕ) (p : ℕ) (apart : IsApart (tree_blocks kind own) t.free (length t.bytes)) (is : Listed own p)
    (formed : AllByRecursion (λ at. IsNode kind (node_bytes t.bytes kind at)) own)
    (filled : AllByRecursion (λ at. 1 ≤ entries_in (node_bytes t.bytes kind at)) own)
    (left_far : (node_at t.bytes kind p).left ≢ p) (right_far : (node_at t.bytes kind p).right ≢ p)
    (two : Listed own (node_at t.bytes kind p).left → (node_at t.bytes kind p).left ≢ (node_at t.bytes kind p).right)
    (write_left : MayBeWritten t t₁ kind own (node_at t.bytes kind p).left (record (node_at t.bytes kind (node_at t.bytes kind p).left) { right = (node_at t.bytes kind p).right }))
    (write_right : MayBeWritten t₁ t₂ kind own (node_at t.bytes kind p).right (record (node_at t.bytes kind (node_at t.bytes kind p).right) { left = (node_at t.bytes kind p).left }))
    (give_p : Moves t₂ u (node_block kind p ∷ []) []) where
  abbrev l : ℕ
  l = (node_at t.bytes kind p).left

  abbrev r : ℕ
  r = (node_at t.bytes kind p).right

  abbrev left : List ℕ
  left = without p own

  apart₁ : IsApart (tree_blocks kind own) t₁.free (length t₁.bytes)
  apart₁ = maybe_apart t t₁ kind own l _ apart write_left

  apart₂ : IsApart (tree_blocks kind own) t₂.free (length t₂.bytes)
  apart₂ = maybe_apart t₁ t₂ kind own r _ apart₁ write_right

  pub unlink_moves : Moves t u (tree_blocks kind own) (tree_blocks kind left)
  unlink_moves = moves_then t t₁ u (tree_blocks kind own) (tree_blocks kind own) (tree_blocks kind left) (maybe_moves t t₁ kind own l _ apart write_left)
      (moves_then t₁ t₂ u (tree_blocks kind own) (tree_blocks kind own) (tree_blocks kind left) (maybe_moves t₁ t₂ kind own r _ apart₁ write_right)
      (given_moves t₂ u kind own p apart₂ is give_p))

  others : (n : ℕ) → Listed own n → n ≢ p → n ≢ l → n ≢ r → node_bytes u.bytes kind n ≡ node_bytes t.bytes kind n
  others n at not_p not_l not_r =
      given_others t₂ u kind own p apart₂ is give_p n at not_p
      ∙ maybe_others t₁ t₂ kind own r _ apart₁ write_right n at not_r
      ∙ maybe_others t t₁ kind own l _ apart write_left n at not_l

  left_bytes : Listed own l → node_bytes u.bytes kind l ≡ node_bytes t₁.bytes kind l
  left_bytes at = given_others t₂ u kind own p apart₂ is give_p l at left_far ∙ maybe_others t₁ t₂ kind own r _ apart₁ write_right l at (two at)

  right_bytes : Listed own r → node_bytes u.bytes kind r ≡ node_bytes t₂.bytes kind r
  right_bytes at = given_others t₂ u kind own p apart₂ is give_p r at right_far

  pub unlink_is : Unlinks (reading_of t.bytes kind own) (reading_of u.bytes kind left) p
  unlink_is = unlinks_in (node_at t.bytes kind) (node_at u.bytes kind) own left p is
      (λ at. (listed-without p l own left_far at, ap (node_of kind) (left_bytes at) ∙ (write_left.written at).says))
      (λ at. (listed-without p r own right_far at, ap (node_of kind) (right_bytes at) ∙ (write_right.written at).says))
      (λ n at not_p not_l not_r. (listed-without p n own not_p at, ap (node_of kind) (others n at not_p not_l not_r)))

  -- what holds of each node that is left
  each : (P : List ℕ → Type 0) → AllByRecursion (λ at. P (node_bytes t.bytes kind at)) own
      → (Listed own l → P (node_bytes t₁.bytes kind l)) → (Listed own r → P (node_bytes t₂.bytes kind r)) → AllByRecursion (λ at. P (node_bytes u.bytes kind at)) left
  each P was at_l at_r = all_from left (λ at. P (node_bytes u.bytes kind at)) (λ n listed.
      let at = without_listed p n own listed in
      let not_p = without_other t₂ u kind own p apart₂ is give_p n listed in
      at_or l n
      (λ e. subst (λ (k : ℕ). P (node_bytes u.bytes kind k)) (sym e) (let here = subst (Listed own) e at in subst P (sym (left_bytes here)) (at_l here)))
      (λ not_l. at_or r n
      (λ e. subst (λ (k : ℕ). P (node_bytes u.bytes kind k)) (sym e) (let here = subst (Listed own) e at in subst P (sym (right_bytes here)) (at_r here)))
      (λ not_r. subst P (sym (others n at not_p not_l not_r)) (at_listed (λ k. P (node_bytes t.bytes kind k)) own n was at))))
      left (all_listed left)

  pub unlink_formed : AllByRecursion (λ at. IsNode kind (node_bytes u.bytes kind at)) left
  unlink_formed = each (IsNode kind) formed (λ at. (write_left.written at).form) (λ at. (write_right.written at).form)

  pub unlink_filled : AllByRecursion (λ at. 1 ≤ entries_in (node_bytes u.bytes kind at)) left
  unlink_filled =
      let count : (bytes : List ℕ) → entries_in bytes ≡ length (node_of kind bytes).children = λ bytes. length-children kind bytes (node_of kind bytes) refl in
      each (λ b. 1 ≤ entries_in b) filled
      (λ at.
      let same : length (node_of kind (node_bytes t₁.bytes kind l)).children ≡ length (node_of kind (node_bytes t.bytes kind l)).children
      = ap (λ (k : Node). length k.children) (write_left.written at).says in
      let old = at_listed (λ k. 1 ≤ entries_in (node_bytes t.bytes kind k)) own l filled at in
      omega (arith, count (node_bytes t₁.bytes kind l), count (node_bytes t.bytes kind l), same, old))
      (λ at.
      let same : length (node_of kind (node_bytes t₂.bytes kind r)).children ≡ length (node_of kind (node_bytes t.bytes kind r)).children
      = ap (λ (k : Node). length k.children) (write_right.written at).says in
      let old = at_listed (λ k. 1 ≤ entries_in (node_bytes t.bytes kind k)) own r filled at in
      omega (arith, count (node_bytes t₂.bytes kind r), count (node_bytes t.bytes kind r), same, old))

  -- and has its keys and children
  pub unlink_keeps : (n : ℕ) → Listed left n → KeepsEntries t.bytes u.bytes kind n
  unlink_keeps n listed =
      let at = without_listed p n own listed in
      let not_p = without_other t₂ u kind own p apart₂ is give_p n listed in
      at_or l n
      (λ e. subst (KeepsEntries t.bytes u.bytes kind) (sym e)
      (let here = subst (Listed own) e at in
      let w = write_left.written here in
      keeps_then t.bytes t₁.bytes u.bytes kind l (ap (λ (k : Node). k.keys) w.says, ap (λ (k : Node). k.children) w.says, ap (λ (k : Node). k.level) w.says)
      (keeps_bytes t₁.bytes u.bytes kind l (left_bytes here))))
      (λ not_l. at_or r n
      (λ e. subst (KeepsEntries t.bytes u.bytes kind) (sym e)
      (let here = subst (Listed own) e at in
      let w = write_right.written here in
      keeps_then t.bytes t₂.bytes u.bytes kind r (ap (λ (k : Node). k.keys) w.says, ap (λ (k : Node). k.children) w.says, ap (λ (k : Node). k.level) w.says)
      (keeps_bytes t₂.bytes u.bytes kind r (right_bytes here))))
      (λ not_r. keeps_bytes t.bytes u.bytes kind n (others n at not_p not_l not_r)))

-- the neighbour to the left is another node or none; and it is not the neighbour to the right
pub left_known : (t : Space) (kind : Kind) (own : List ℕ) (m p : ℕ) (front back : List ℕ) → m < 16 → IsNoNode (reading_of t.bytes kind own) undefined_address
    → IsRow (reading_of t.bytes kind own) m undefined_address (front ++ p ∷ back) → Listed own p
    → ((node_at t.bytes kind p).left ≡ p → p ≡ undefined_address) × ((node_at t.bytes kind p).left ≡ (node_at t.bytes kind p).right → (node_at t.bytes kind p).left ≡ undefined_address)
left_known t kind own m p front back top out row is =
    let V = reading_of t.bytes kind own in
    let left : (node_at t.bytes kind p).left ≡ (V p).left = ap (λ (n : Node). n.left) (sym (owned_at (node_at t.bytes kind) own p is)) in
    let right : (node_at t.bytes kind p).right ≡ (V p).right = ap (λ (n : Node). n.right) (sym (owned_at (node_at t.bytes kind) own p is)) in
    (by_front front refl left, by_back back refl left right)
  where
    by_front : (f : List ℕ) → front ≡ f → (node_at t.bytes kind p).left ≡ (reading_of t.bytes kind own p).left → (node_at t.bytes kind p).left ≡ p → p ≡ undefined_address
    by_front [] e left same = sym same ∙ left ∙ left_here (reading_of t.bytes kind own) m p front back top out row ∙ ap (last_of undefined_address) e
    by_front (x ∷ xs) e left same =
        let long : suc (length xs) ≡ length front = sym (ap (λ (f : List ℕ). length f) e) in
        let last = front_last (reading_of t.bytes kind own) m p front back top out row (length xs) long in
        absurd (front_other (reading_of t.bytes kind own) m p front back top out row (length xs) (omega (arith, long)) (last ∙ sym left ∙ same))

    by_back : (b : List ℕ) → back ≡ b → (node_at t.bytes kind p).left ≡ (reading_of t.bytes kind own p).left → (node_at t.bytes kind p).right ≡ (reading_of t.bytes kind own p).right
        → (node_at t.bytes kind p).left ≡ (node_at t.bytes kind p).right → (node_at t.bytes kind p).left ≡ undefined_address
    by_back [] e left right same = same ∙ right ∙ right_here (reading_of t.bytes kind own) m p front back top out row ∙ ap first_or_undefined e
    by_back (c ∷ cs) e left right same =
        let long : 0 < length back = omega (arith, ap (λ (xs : List ℕ). length xs) e) in
        let first : get_or back 0 0 ≡ (node_at t.bytes kind p).right
        = ap (λ (xs : List ℕ). get_or xs 0 0) e ∙ sym (right ∙ right_here (reading_of t.bytes kind own) m p front back top out row ∙ ap first_or_undefined e) in
        absurd (back_not_left (reading_of t.bytes kind own) m p front back top out row 0 long (first ∙ sym same ∙ left))

-- One step of a removal in an image, by its writes: the node p has no other child.
pub shrink_unlink : (s t t₁ t₂ u : Space) (kind : Kind) (root m p : ℕ) (step : Step) (way : List Step) (i : ℕ) (list owned own : List ℕ)
    (c : IsShrinking s t kind root m p (step ∷ way) i list owned own) → length (reading_of t.bytes kind own p).children ≡ 1
    → MayBeWritten t t₁ kind own (node_at t.bytes kind p).left (record (node_at t.bytes kind (node_at t.bytes kind p).left) { right = (node_at t.bytes kind p).right })
    → MayBeWritten t₁ t₂ kind own (node_at t.bytes kind p).right (record (node_at t.bytes kind (node_at t.bytes kind p).right) { left = (node_at t.bytes kind p).left })
    → Moves t₂ u (node_block kind p ∷ []) [] → length u.bytes < 2 ^ 64
    → IsShrinking s u kind root (suc m) step.node way step.place list owned (without p own)
shrink_unlink s t t₁ t₂ u kind root m p step way i list owned own c one write_left write_right give_p short =
    let V = reading_of t.bytes kind own in
    let out = undefined_free t kind own c.apart c.short in
    let top : m < 16 = let h = c.high in omega (arith, h) in
    let is_p : Listed own p = owned_of_level (node_at t.bytes kind) own p (omega (arith, level_here V m p c.over.front c.over.back top out c.over.row, top)) in
    let filled = c.filled (omega arith) in
    let i_p = inside_of_apart t kind own c.apart p is_p in
    let known = left_known t kind own m p c.over.front c.over.back top out c.over.row is_p in
    let left_far : (node_at t.bytes kind p).left ≢ p = λ e. absurd (omega (arith, known.0 e, i_p, c.short)) in
    let right_far : (node_at t.bytes kind p).right ≢ p
    = λ e. absurd (omega (arith, (right_known t kind own m p c.over.front c.over.back top out c.over.row is_p).1 e, i_p, c.short)) in
    let two : Listed own (node_at t.bytes kind p).left → (node_at t.bytes kind p).left ≢ (node_at t.bytes kind p).right
    = λ at e. let j = inside_of_apart t kind own c.apart (node_at t.bytes kind p).left at in absurd (omega (arith, known.1 e, j, c.short)) in
    shrink_up s t u kind root m p step way i list owned own c one
    (unlink_is t t₁ t₂ u kind own p c.apart is_p c.formed filled left_far right_far two write_left write_right give_p)
    (unlink_moves t t₁ t₂ u kind own p c.apart is_p c.formed filled left_far right_far two write_left write_right give_p)
    (unlink_formed t t₁ t₂ u kind own p c.apart is_p c.formed filled left_far right_far two write_left write_right give_p)
    (unlink_filled t t₁ t₂ u kind own p c.apart is_p c.formed filled left_far right_far two write_left write_right give_p)
    short
    (all_from (without p own) (KeepsEntries s.bytes u.bytes kind)
    (λ n listed.
    keeps_then s.bytes t.bytes u.bytes kind n (at_listed (KeepsEntries s.bytes t.bytes kind) own n c.entries (without_listed p n own listed))
    (unlink_keeps t t₁ t₂ u kind own p c.apart is_p c.formed filled left_far right_far two write_left write_right give_p n listed))
    (without p own) (all_listed (without p own)))
