-- A root that is raised, by the calls that the code makes: what each may rely on, and what the three nodes are at the end.
use Rattle.std.proofs.Common.{◌≡◌, ◌≢◌, ℕ, suc, ◌+◌, ◌<◌, ◌≤◌, List, [], ◌∷◌, ◌++◌, length, take, Some, refl, sym, ap, ◌∙◌, subst, arith}
use Rattle.std.specs.Prelude.{slice_get, slice_set}
use Rattle.std.specs.List.{insert}
use Rattle.std.proofs.lemmas.Option.{get_or_from_slice_get, slice_get_within}
use Rattle.h5_bytes.specs.Bytes.{undefined_address}
use Rattle.h5_bytes.proofs.PartLaws.{length-part}
use Rattle.h5_model.specs.Format.Limits.{highest_level}
use Rattle.h5_model.specs.Format.Rows.{Node, first_or_undefined}
use Rattle.h5_model.specs.Format.Nodes.{Kind, IsNode, node_at, node_block, node_bytes, node_length, node_of, reading_of, tree_blocks}
use Rattle.h5_space.specs.Space.{Space}
use Rattle.h5_space.specs.Moves.{Moves}
use Rattle.h5_space.specs.Whole.{IsApart}
use Rattle.h5_space.proofs.AddressLaws.{all_at}
use Rattle.h5_btree.specs.Rewritten.{IsRewritten}
use Rattle.h5_btree.specs.Insertion.{IsClimbing, IsChildPut, KeepsEntries}
use Rattle.h5_btree.proofs.NodeLaws.{keys_long}
use Rattle.h5_btree.proofs.RowEdits.{last_of, level_here, left_here, right_here}
use Rattle.h5_btree.proofs.TreeReadings.{Listed, owns_more, owns_new}
use Rattle.h5_btree.proofs.ClimbStands.{top, out, own_p, inside_p, form_p, same_p}
use Rattle.h5_btree.proofs.SplitSteps.{taken_apart, taken_new, taken_others, written_apart, written_others}
use Rattle.h5_btree.proofs.RaiseSteps.{climb_raise, others, others_filled, p_bytes, q_bytes}
use Rattle.h5_btree.proofs.RewriteSteps.{rewritten_then, rewritten_as}

-- a key of a node that stands there is as long as those of its kind
pub key_long : (image : List ℕ) (kind : Kind) (at i : ℕ) (key : List ℕ) → at + node_length kind ≤ length image → IsNode kind (node_bytes image kind at)
    → slice_get (node_at image kind at).keys i ≡ Some key → length key ≡ kind.key_length
key_long image kind at i key inside form read =
    let low = slice_get_within (node_at image kind at).keys i key read in
    let all = keys_long kind (node_bytes image kind at) (length-part at (node_length kind) image inside) form.roomy in
    subst (λ (k : List ℕ). length k ≡ kind.key_length) (get_or_from_slice_get (node_at image kind at).keys i key [] read)
    (all_at (λ (k : List ℕ). length k ≡ kind.key_length) (node_at image kind at).keys i [] all low)

three_keys : {X : Type 0} (x y z : X) (keys : List X) → 2 < length keys → slice_set (slice_set (slice_set (take 3 keys) 0 x) 1 y) 2 z ≡ x ∷ y ∷ z ∷ []
three_keys x y z [] low = absurd (omega (arith, low))
three_keys x y z (a ∷ []) low = absurd (omega (arith, low))
three_keys x y z (a ∷ b ∷ []) low = absurd (omega (arith, low))
three_keys x y z (a ∷ b ∷ c ∷ keys) low = refl

two_children : {X : Type 0} (x y : X) (children : List X) → 1 < length children → slice_set (slice_set (take 2 children) 0 x) 1 y ≡ x ∷ y ∷ []
two_children x y [] low = absurd (omega (arith, low))
two_children x y (a ∷ []) low = absurd (omega (arith, low))
two_children x y (a ∷ b ∷ children) low = refl

-- the root is written, part by part
module _ (t a b d e f g u : Space) (kind : Kind) (root left right level : ℕ) (x y z : List ℕ) (old : Node)
    (kept : IsRewritten t a kind root (record old { keys = take 3 old.keys; children = take 2 old.children }))
    (c0 : IsRewritten a b kind root (record (node_at a.bytes kind root) { children = slice_set (node_at a.bytes kind root).children 0 left }))
    (c1 : IsRewritten b d kind root (record (node_at b.bytes kind root) { children = slice_set (node_at b.bytes kind root).children 1 right }))
    (k0 : IsRewritten d e kind root (record (node_at d.bytes kind root) { keys = slice_set (node_at d.bytes kind root).keys 0 x }))
    (k1 : IsRewritten e f kind root (record (node_at e.bytes kind root) { keys = slice_set (node_at e.bytes kind root).keys 1 y }))
    (k2 : IsRewritten f g kind root (record (node_at f.bytes kind root) { keys = slice_set (node_at f.bytes kind root).keys 2 z }))
    (lv : IsRewritten g u kind root (record (node_at g.bytes kind root) { level = level }))
    (some_keys : 2 < length old.keys) (some : 1 < length old.children) where
  first : IsRewritten a b kind root (record old { keys = take 3 old.keys; children = slice_set (take 2 old.children) 0 left })
  first = subst (λ (n : Node). IsRewritten a b kind root (record n { children = slice_set n.children 0 left })) kept.says c0

  second : IsRewritten b d kind root (record old { keys = take 3 old.keys; children = slice_set (slice_set (take 2 old.children) 0 left) 1 right })
  second = subst (λ (n : Node). IsRewritten b d kind root (record n { children = slice_set n.children 1 right })) first.says c1

  third : IsRewritten d e kind root (record old { keys = slice_set (take 3 old.keys) 0 x; children = slice_set (slice_set (take 2 old.children) 0 left) 1 right })
  third = subst (λ (n : Node). IsRewritten d e kind root (record n { keys = slice_set n.keys 0 x })) second.says k0

  fourth : IsRewritten e f kind root (record old { keys = slice_set (slice_set (take 3 old.keys) 0 x) 1 y; children = slice_set (slice_set (take 2 old.children) 0 left) 1 right })
  fourth = subst (λ (n : Node). IsRewritten e f kind root (record n { keys = slice_set n.keys 1 y })) third.says k1

  fifth : IsRewritten f g kind root (record old { keys = slice_set (slice_set (slice_set (take 3 old.keys) 0 x) 1 y) 2 z; children = slice_set (slice_set (take 2 old.children) 0 left) 1 right })
  fifth = subst (λ (n : Node). IsRewritten f g kind root (record n { keys = slice_set n.keys 2 z })) fourth.says k2

  sixth : IsRewritten g u kind root (record old { level = level; keys = slice_set (slice_set (slice_set (take 3 old.keys) 0 x) 1 y) 2 z; children = slice_set (slice_set (take 2 old.children) 0 left) 1 right })
  sixth = subst (λ (n : Node). IsRewritten g u kind root (record n { level = level })) fifth.says lv

  pub over_written : IsRewritten t u kind root (record old { level = level; keys = x ∷ y ∷ z ∷ []; children = left ∷ right ∷ [] })
  over_written = rewritten_as t u kind root _ _
      (rewritten_then t a u kind root _ _ kept (rewritten_then a b u kind root _ _ first (rewritten_then b d u kind root _ _ second
      (rewritten_then d e u kind root _ _ third (rewritten_then e f u kind root _ _ fourth (rewritten_then f g u kind root _ _ fifth sixth))))))
      (ap (λ (ks : List (List ℕ)). record old { level = level; keys = ks; children = slice_set (slice_set (take 2 old.children) 0 left) 1 right }) (three_keys x y z old.keys some_keys)
      ∙ ap (λ (cs : List ℕ). record old { level = level; keys = x ∷ y ∷ z ∷ []; children = cs }) (two_children left right old.children some))

-- two blocks are taken
module _ (s t t₁ t₂ : Space) (kind : Kind) (root m j child : ℕ) (list owned own : List ℕ) (c : IsClimbing s t kind root m root [] j child list owned own)
    (q p : ℕ) (take_q : Moves t t₁ [] (node_block kind q ∷ [])) (take_p : Moves t₁ t₂ [] (node_block kind p ∷ [])) where
  abbrev all : List ℕ
  all = p ∷ q ∷ own

  own_root : Listed own root
  own_root = own_p s t kind root m root [] j child list owned own c

  pub level_root : (node_at t.bytes kind root).level ≡ m
  level_root = ap (λ (n : Node). n.level) (sym (same_p s t kind root m root [] j child list owned own c))
      ∙ level_here (reading_of t.bytes kind own) m root c.lacks.front c.lacks.back (top s t kind root m root [] j child list owned own c) (out s t kind root m root [] j child list owned own c) c.lacks.row

  pub left_root : (node_at t.bytes kind root).left ≡ undefined_address
  left_root = ap (λ (n : Node). n.left) (sym (same_p s t kind root m root [] j child list owned own c))
      ∙ left_here (reading_of t.bytes kind own) m root c.lacks.front c.lacks.back (top s t kind root m root [] j child list owned own c) (out s t kind root m root [] j child list owned own c) c.lacks.row
      ∙ ap (last_of undefined_address) c.lacks.above.1

  pub right_root : (node_at t.bytes kind root).right ≡ undefined_address
  right_root = ap (λ (n : Node). n.right) (sym (same_p s t kind root m root [] j child list owned own c))
      ∙ right_here (reading_of t.bytes kind own) m root c.lacks.front c.lacks.back (top s t kind root m root [] j child list owned own c) (out s t kind root m root [] j child list owned own c) c.lacks.row
      ∙ ap first_or_undefined c.lacks.above.2

  is_root : Listed all root
  is_root = owns_more p root (q ∷ own) (owns_more q root own own_root)

  apart₁ : IsApart (tree_blocks kind (q ∷ own)) t₁.free (length t₁.bytes)
  apart₁ = taken_apart t t₁ kind own q c.apart take_q

  apart₂ : IsApart (tree_blocks kind all) t₂.free (length t₂.bytes)
  apart₂ = taken_apart t₁ t₂ kind (q ∷ own) p apart₁ take_p

  new_p : (n : ℕ) → Listed (q ∷ own) n → n ≢ p
  new_p = taken_new t₁ t₂ kind (q ∷ own) p apart₁ take_p

  pub root_bytes₂ : node_bytes t₂.bytes kind root ≡ node_bytes t.bytes kind root
  root_bytes₂ = taken_others t₁ t₂ kind (q ∷ own) p apart₁ take_p root (owns_more q root own own_root) ∙ taken_others t t₁ kind own q c.apart take_q root own_root

  pub root_inside₂ : root + node_length kind ≤ length t₂.bytes
  root_inside₂ = let i = inside_p s t kind root m root [] j child list owned own c in omega (arith, i, take_q.grown, take_p.grown)

  pub root_form₂ : IsNode kind (node_bytes t₂.bytes kind root)
  root_form₂ = subst (IsNode kind) (sym root_bytes₂) (form_p s t kind root m root [] j child list owned own c)

  -- the left one is written
  module _ (t₃ : Space) (node_p : Node) (write_p : IsRewritten t₂ t₃ kind p node_p) where
    apart₃ : IsApart (tree_blocks kind all) t₃.free (length t₃.bytes)
    apart₃ = written_apart t₂ t₃ kind all p node_p apart₂ (owns_new p (q ∷ own)) write_p

    pub root_bytes₃ : node_bytes t₃.bytes kind root ≡ node_bytes t.bytes kind root
    root_bytes₃ = written_others t₂ t₃ kind all p node_p apart₂ (owns_new p (q ∷ own)) write_p root is_root (new_p root (owns_more q root own own_root)) ∙ root_bytes₂

    pub root_inside₃ : root + node_length kind ≤ length t₃.bytes
    root_inside₃ = let i = root_inside₂ in omega (arith, i, write_p.moves.grown)

    pub root_form₃ : IsNode kind (node_bytes t₃.bytes kind root)
    root_form₃ = subst (IsNode kind) (sym root_bytes₃) (form_p s t kind root m root [] j child list owned own c)

    -- and the right one
    module _ (t₄ : Space) (node_q : Node) (write_q : IsRewritten t₃ t₄ kind q node_q) where
      pub root_bytes₄ : node_bytes t₄.bytes kind root ≡ node_bytes t.bytes kind root
      root_bytes₄ =
          written_others t₃ t₄ kind all q node_q apart₃ (owns_more p q (q ∷ own) (owns_new q own)) write_q root is_root (taken_new t t₁ kind own q c.apart take_q root own_root) ∙ root_bytes₃

      pub root_inside₄ : root + node_length kind ≤ length t₄.bytes
      root_inside₄ = let i = root_inside₃ in omega (arith, i, write_q.moves.grown)

      pub root_form₄ : IsNode kind (node_bytes t₄.bytes kind root)
      root_form₄ = subst (IsNode kind) (sym root_bytes₄) (form_p s t kind root m root [] j child list owned own c)

      pub left_bytes₄ : node_bytes t₄.bytes kind p ≡ node_bytes t₃.bytes kind p
      left_bytes₄ = written_others t₃ t₄ kind all q node_q apart₃ (owns_more p q (q ∷ own) (owns_new q own)) write_q p (owns_new p (q ∷ own)) (λ e. new_p q (owns_new q own) (sym e))

      pub left_form₄ : IsNode kind (node_bytes t₄.bytes kind p)
      left_form₄ = subst (IsNode kind) (sym left_bytes₄) write_p.form

-- the root stands over both
module _ (s t t₁ t₂ t₃ t₄ u : Space) (kind : Kind) (root m j child p q : ℕ) (xs ys list owned own : List ℕ) (x y z : List ℕ) (keys_p keys_q : List (List ℕ))
    (c : IsClimbing s t kind root m root [] j child list owned own) (take_q : Moves t t₁ [] (node_block kind q ∷ [])) (take_p : Moves t₁ t₂ [] (node_block kind p ∷ []))
    (write_p : IsRewritten t₂ t₃ kind p (record (node_at t.bytes kind root) { right = q; keys = keys_p; children = xs }))
    (write_q : IsRewritten t₃ t₄ kind q (record (node_at t.bytes kind root) { left = p; keys = keys_q; children = ys }))
    (write_root : IsRewritten t₄ u kind root (record (node_at t.bytes kind root) { level = suc (node_at t.bytes kind root).level; keys = x ∷ y ∷ z ∷ []; children = p ∷ q ∷ [] }))
    (joined : xs ++ ys ≡ insert (node_at t.bytes kind root).children j child) (some : 1 ≤ length xs) (more : 1 ≤ length ys) where
  abbrev old : Node
  old = node_at t.bytes kind root

  wp : IsRewritten t₂ t₃ kind p (record { level = old.level; left = undefined_address; right = q; keys = keys_p; children = xs })
  wp = subst (λ (l : ℕ). IsRewritten t₂ t₃ kind p (record { level = old.level; left = l; right = q; keys = keys_p; children = xs }))
      (left_root s t t₁ t₂ kind root m j child list owned own c q p take_q take_p) write_p

  wq : IsRewritten t₃ t₄ kind q (record { level = old.level; left = p; right = undefined_address; keys = keys_q; children = ys })
  wq = subst (λ (r : ℕ). IsRewritten t₃ t₄ kind q (record { level = old.level; left = p; right = r; keys = keys_q; children = ys }))
      (right_root s t t₁ t₂ kind root m j child list owned own c q p take_q take_p) write_q

  wr : IsRewritten t₄ u kind root (record { level = suc old.level; left = undefined_address; right = undefined_address; keys = x ∷ y ∷ z ∷ []; children = p ∷ q ∷ [] })
  wr = subst (λ (r : ℕ). IsRewritten t₄ u kind root (record { level = suc old.level; left = undefined_address; right = r; keys = x ∷ y ∷ z ∷ []; children = p ∷ q ∷ [] }))
      (right_root s t t₁ t₂ kind root m j child list owned own c q p take_q take_p)
      (subst (λ (l : ℕ). IsRewritten t₄ u kind root (record { level = suc old.level; left = l; right = old.right; keys = x ∷ y ∷ z ∷ []; children = p ∷ q ∷ [] }))
      (left_root s t t₁ t₂ kind root m j child list owned own c q p take_q take_p) write_root)

  is : Listed own root
  is = own_p s t kind root m root [] j child list owned own c

  pub put_raised : m < highest_level → (all : List ℕ) × IsChildPut s u kind root (suc m) list owned all
  put_raised low = (
    _,
    climb_raise s t t₁ t₂ t₃ t₄ u kind root m j child p q xs ys list owned own (x ∷ y ∷ z ∷ []) keys_p keys_q c low take_q take_p wp wq wr joined some more,
  )

  pub left_there : node_bytes u.bytes kind p ≡ node_bytes t₃.bytes kind p
  left_there = p_bytes t t₁ t₂ t₃ t₄ u kind own root j child p q xs ys (x ∷ y ∷ z ∷ []) keys_p keys_q c.apart is c.formed (others_filled s t kind root m j child list owned own c is)
      take_q take_p wp wq wr joined some more

  pub right_there : node_bytes u.bytes kind q ≡ node_bytes t₄.bytes kind q
  right_there = q_bytes t t₁ t₂ t₃ t₄ u kind own root j child p q xs ys (x ∷ y ∷ z ∷ []) keys_p keys_q c.apart is c.formed (others_filled s t kind root m j child list owned own c is)
      take_q take_p wp wq wr joined some more

  pub others_keep : (n : ℕ) → Listed own n → n ≢ root → KeepsEntries t.bytes u.bytes kind n
  others_keep n listed not_root =
      let same = others t t₁ t₂ t₃ t₄ u kind own root j child p q xs ys (x ∷ y ∷ z ∷ []) keys_p keys_q c.apart is c.formed (others_filled s t kind root m j child list owned own c is)
      take_q take_p wp wq wr joined some more n listed not_root in
      (ap (λ (b : List ℕ). (node_of kind b).keys) same, ap (λ (b : List ℕ). (node_of kind b).children) same, ap (λ (b : List ℕ). (node_of kind b).level) same)
