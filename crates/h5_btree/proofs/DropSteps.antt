-- The way up of a removal in an image: what holds before and after each of its steps, and the tree at its end.
use Rattle.std.proofs.Common.{◌≡◌, ◌≢◌, inl, inr, ℕ, suc, ◌+◌, ◌^◌, ◌<◌, ◌≤◌, List, [], ◌∷◌, ◌++◌, length, refl, sym, ap, ◌∙◌, subst, arith, append-nil, Bool, true, false, ◌==◌}
use Rattle.std.specs.Prelude.{if◌then◌else◌}
use Rattle.std.specs.List.{list_any, remove, AllByRecursion}
use Rattle.std.proofs.lemmas.List.Edits.{length-remove}
use Rattle.h5_bytes.specs.Bytes.{undefined_address}
use Rattle.h5_bytes.specs.Blocks.{holds}
use Rattle.h5_bytes.specs.declared.Block.{Block}
use Rattle.h5_model.specs.Format.Rows.{Node, next_row, IsRow, leaves, nodes}
use Rattle.h5_model.specs.Format.Nodes.{Kind, IsNode, HasTree, entries_in, node_at, node_block, node_bytes, node_length, node_of, reading_of, tree_blocks}
use Rattle.h5_model.proofs.RowLaws.{all_listed, at_listed, equal_number, root_level}
use Rattle.h5_space.specs.Space.{Space}
use Rattle.h5_space.specs.Moves.{Moves}
use Rattle.h5_space.specs.Whole.{IsApart}
use Rattle.h5_space.proofs.MovesLaws.{moves_none, moves_then, moves_apart}
use Rattle.h5_btree.specs.Climb.{IsWay, Drops, Unlinks, EmptiesRoot}
use Rattle.h5_btree.specs.Rewritten.{IsRewritten}
use Rattle.h5_btree.specs.Insertion.{KeepsEntries}
pub use Rattle.h5_btree.specs.Removal.{IsShrinking, IsChildTaken, LosesChild}
use Rattle.h5_btree.specs.declared.way.Step.{Step}
use Rattle.h5_btree.proofs.NodeLaws.{length-children}
use Rattle.h5_btree.proofs.RowEdits.{level_here}
use Rattle.h5_btree.proofs.DropLaws.{over_kept, over_up, over_emptied, remove_alone}
use Rattle.h5_btree.proofs.WayRows.{leaves_here, remove_below}
use Rattle.h5_btree.proofs.OwnedLaws.{total, whole_total, kept_total, over_up_total, emptied_total, cover_total}
use Rattle.h5_btree.proofs.TreeReadings.{Listed, owned_of_level, owned_at, refills_in, has_tree_again, in_rows, levels_of}
use Rattle.h5_btree.proofs.ClimbSteps.{all_from, at_or, covers, others_stay, moves_within, undefined_free}

-- ---- the nodes of a tree without one of them

abbrev pub without : ℕ → List ℕ → List ℕ
without p [] = []
without p (x ∷ xs) = if x == p then xs else x ∷ without p xs

pub total-without : (w : ℕ → ℕ) (p : ℕ) (xs : List ℕ) → Listed xs p → total w xs ≡ w p + total w (without p xs)
total-without w p [] is = cc
total-without w p (x ∷ xs) is = go (x == p) refl is (total-without w p xs) where
  go : (b : Bool) → (x == p) ≡ b → list_any (λ k. k == p) (x ∷ xs) ≡ true → (Listed xs p → total w xs ≡ w p + total w (without p xs))
      → w x + total w xs ≡ w p + total w (if b then xs else x ∷ without p xs)
  go true e listed rest = ap (λ (k : ℕ). w k + total w xs) (equal_number x p e)
  go false e listed rest = let r = rest (rw e at listed) in omega (arith, r)

pub listed-without : (p n : ℕ) (xs : List ℕ) → n ≢ p → Listed xs n → Listed (without p xs) n
listed-without p n [] other is = is
listed-without p n (x ∷ xs) other is = go (x == p) (x == n) refl refl is (listed-without p n xs other) where
  go : (b c : Bool) → (x == p) ≡ b → (x == n) ≡ c → list_any (λ k. k == n) (x ∷ xs) ≡ true → (Listed xs n → Listed (without p xs) n)
      → list_any (λ k. k == n) (if b then xs else x ∷ without p xs) ≡ true
  go true true e f listed rest = absurd (other (sym (equal_number x n f) ∙ equal_number x p e))
  go true false e f listed rest = rw f at listed
  go false true e f listed rest = rw f refl
  go false false e f listed rest = rw f (rest (rw f at listed))

-- ---- the steps

-- it starts at a node of level 0
pub shrink_start : (s : Space) (kind : Kind) (root level p i : ℕ) (way : List Step) (front back owned list : List ℕ) → HasTree s.bytes kind root level owned list
    → IsApart (tree_blocks kind owned) s.free (length s.bytes) → length s.bytes < 2 ^ 64
    → IsWay (reading_of s.bytes kind owned) 0 root way p front back → IsRow (reading_of s.bytes kind owned) 0 undefined_address (front ++ p ∷ back)
    → i < length (reading_of s.bytes kind owned p).children
    → IsShrinking s s kind root 0 p way i (remove list (length (next_row (reading_of s.bytes kind owned) front) + i)) owned owned
shrink_start s kind root level p i way front back owned list tree apart short w row place =
    let V = reading_of s.bytes kind owned in
    let here = leaves_here V root p way front back w row in
    let depth : level ≡ length way = sym (root_level V level root tree.rows) ∙ root_level V (length way) root here.0 in
    let bottom : next_row V (front ++ p ∷ back) ≡ list = sym here.1 ∙ ap (λ (l : ℕ). leaves V l (root ∷ [])) (sym depth) ∙ sym tree.all in
    let k = length (next_row V front) + i in
    record {
      over = record { front = front; back = back; above = w; row = row; place = place; under = sym (remove_below V front back p i place) ∙ ap (λ (xs : List ℕ). remove xs k) bottom };
      counts = λ c.
          let all = whole_total c V 0 root way p front back w in
          let same : total c owned ≡ total c (nodes V (length way + 0) (root ∷ []))
          = ap (total c) tree.owns ∙ ap (λ (l : ℕ). total c (nodes V l (root ∷ []))) (omega (arith, depth)) in
          omega (arith, all, same);
      high = omega (arith, depth, tree.low);
      formed = tree.formed;
      filled = λ above. tree.filled (omega (arith, above, depth));
      apart = apart;
      short = short;
      moves = moves_none s (tree_blocks kind owned);
      entries = all_from owned (KeepsEntries s.bytes s.bytes kind) (λ n is. (refl, refl, refl)) owned (all_listed owned);
    }

-- the node has other children
pub shrink_kept : (s t u : Space) (kind : Kind) (root m p : ℕ) (way : List Step) (i : ℕ) (list owned own : List ℕ)
    → IsShrinking s t kind root m p way i list owned own
    → 2 ≤ length (node_at t.bytes kind p).children
    → IsRewritten t u kind p (record (node_at t.bytes kind p) { keys = remove (node_at t.bytes kind p).keys i; children = remove (node_at t.bytes kind p).children i })
    → IsChildTaken s u kind root (length way + m) p i list owned (nodes (reading_of u.bytes kind own) (length way + m) (root ∷ []))
shrink_kept s t u kind root m p way i list owned own c more r =
    let keys = remove (node_at t.bytes kind p).keys i in
    let f = node_at t.bytes kind in
    let g = node_at u.bytes kind in
    let V = reading_of t.bytes kind own in
    let W = reading_of u.bytes kind own in
    let level = length way + m in
    let out = undefined_free t kind own c.apart c.short in
    let top : m < 16 = let h = c.high in omega (arith, h) in
    let is_p : Listed own p = owned_of_level f own p (omega (arith, level_here V m p c.over.front c.over.back top out c.over.row, top)) in
    let stay = others_stay t u kind own p r.moves c.apart is_p in
    let same : V p ≡ f p = owned_at f own p is_p in
    let drops : Drops V W p i
    = refills_in f g own own p (remove (V p).children i) keys is_p is_p
    (r.says ∙ ap (λ (n : Node). record (f p) { keys = keys; children = remove n.children i }) (sym same))
    (λ n is other. (is, ap (node_of kind) (stay n is other))) in
    let tree = over_kept V W m root p way i list c.high out c.over drops in
    let some : 1 ≤ entries_in (node_bytes u.bytes kind p) =
    let l = length-children kind (node_bytes u.bytes kind p) (g p) refl in
    let d : length (g p).children ≡ length (remove (f p).children i) = ap (λ (n : Node). length n.children) r.says in
    let place : i < length (f p).children = subst (λ (n : Node). i < length n.children) same c.over.place in
    omega (arith, l, d, length-remove (f p).children i place, more) in
    let before : (n : ℕ) → Listed own n → KeepsEntries s.bytes t.bytes kind n = λ n is. at_listed (KeepsEntries s.bytes t.bytes kind) own n c.entries is in
    let at_root = root_level W level root tree.0 in
    let is_root : Listed own root = owned_of_level g own root (let h = c.high in omega (arith, at_root, h)) in
    record {
      tree = has_tree_again u.bytes kind root level own list (let h = c.high in omega (arith, h)) tree
          (all_from own (λ at. IsNode kind (node_bytes u.bytes kind at)) (λ n is. at_or p n
          (λ e. subst (λ (k : ℕ). IsNode kind (node_bytes u.bytes kind k)) (sym e) r.form)
          (λ other. subst (IsNode kind) (sym (stay n is other)) (at_listed (λ at. IsNode kind (node_bytes t.bytes kind at)) own n c.formed is))) own (all_listed own))
          (λ above. all_from own (λ at. 1 ≤ entries_in (node_bytes u.bytes kind at)) (λ n is. at_or p n
          (λ e. subst (λ (k : ℕ). 1 ≤ entries_in (node_bytes u.bytes kind k)) (sym e) some)
          (λ other. subst (λ (b : List ℕ). 1 ≤ entries_in b) (sym (stay n is other)) (at_listed (λ at. 1 ≤ entries_in (node_bytes t.bytes kind at)) own n (c.filled above) is)))
          own (all_listed own));
      moves = moves_then s t u (tree_blocks kind owned) (tree_blocks kind own) (tree_blocks kind (nodes W level (root ∷ []))) c.moves
          (moves_within t u (node_block kind p ∷ []) (tree_blocks kind own) (tree_blocks kind (nodes W level (root ∷ []))) r.moves
          (λ x. let b = covers kind own p x is_p in omega (arith, b))
          (λ x. cover_total x kind (nodes W level (root ∷ []))
          ∙ kept_total (λ n. holds x n (node_length kind)) V W m root p way i list c.high out c.over drops
          ∙ sym (c.counts (λ n. holds x n (node_length kind))) ∙ sym (cover_total x kind own)));
      entries = in_rows g own (λ n. LosesChild p i n (node_at s.bytes kind n) (node_at u.bytes kind n))
          (all_from own (λ n. LosesChild p i n (node_at s.bytes kind n) (node_at u.bytes kind n)) (λ n is. at_or p n
          (λ e. subst (λ (k : ℕ). LosesChild p i k (node_at s.bytes kind k) (node_at u.bytes kind k)) (sym e) (inl (
            refl,
            ap (λ (k : Node). k.keys) r.says ∙ ap (λ (ks : List (List ℕ)). remove ks i) (before p is_p).0,
            ap (λ (k : Node). k.children) r.says ∙ ap (λ (ks : List ℕ). remove ks i) (before p is_p).1,
          )))
          (λ other. inr (
            other,
            ap (λ (b : List ℕ). (node_of kind b).keys) (stay n is other) ∙ (before n is).0,
            ap (λ (b : List ℕ). (node_of kind b).children) (stay n is other) ∙ (before n is).1,
          ))) own (all_listed own))
          (nodes W level (root ∷ [])) (levels_of W level (root ∷ []) (let h = c.high in omega (arith, h)) tree.0);
      stops = inl (
        subst (λ (n : ℕ). 2 ≤ n) (ap (λ (xs : List ℕ). length xs) (before p is_p).1) more,
        sym at_root ∙ ap (λ (n : Node). n.level) (owned_at g own root is_root)
            ∙ at_or p root
            (λ e. subst (λ (k : ℕ). (g k).level ≡ (f k).level) (sym e) (ap (λ (n : Node). n.level) r.says))
            (λ other. ap (λ (b : List ℕ). (node_of kind b).level) (stay root is_root other))
            ∙ (before root is_root).2,
      );
    }

-- the node has no other child and goes: it is the one above that has a child too much
pub shrink_up : (s t u : Space) (kind : Kind) (root m p : ℕ) (step : Step) (way : List Step) (i : ℕ) (list owned own : List ℕ)
    → IsShrinking s t kind root m p (step ∷ way) i list owned own
    → length (reading_of t.bytes kind own p).children ≡ 1
    → Unlinks (reading_of t.bytes kind own) (reading_of u.bytes kind (without p own)) p
    → Moves t u (tree_blocks kind own) (tree_blocks kind (without p own))
    → AllByRecursion (λ at. IsNode kind (node_bytes u.bytes kind at)) (without p own)
    → AllByRecursion (λ at. 1 ≤ entries_in (node_bytes u.bytes kind at)) (without p own)
    → length u.bytes < 2 ^ 64
    → AllByRecursion (KeepsEntries s.bytes u.bytes kind) (without p own)
    → IsShrinking s u kind root (suc m) step.node way step.place list owned (without p own)
shrink_up s t u kind root m p step way i list owned own c one t' moves formed filled short entries =
    let V = reading_of t.bytes kind own in
    let W = reading_of u.bytes kind (without p own) in
    let out = undefined_free t kind own c.apart c.short in
    let top : m < 16 = let h = c.high in omega (arith, h) in
    let is_p : Listed own p = owned_of_level (node_at t.bytes kind) own p (omega (arith, level_here V m p c.over.front c.over.back top out c.over.row, top)) in
    let apart = subst (λ (bs : List Block). IsApart bs u.free (length u.bytes)) (append-nil (tree_blocks kind (without p own)))
    (moves_apart t u (tree_blocks kind own) (tree_blocks kind (without p own)) [] moves
    (subst (λ (bs : List Block). IsApart bs t.free (length t.bytes)) (sym (append-nil (tree_blocks kind own))) c.apart)) in
    record {
      over = over_up V W m root p step way i list c.high out c.over one t';
      counts = λ w.
          let a = over_up_total w V W m root p step way i list c.high out c.over one t' in
          let b = c.counts w in
          let d = total-without w p own is_p in
          omega (arith, a, b, d);
      high = let h = c.high in omega (arith, h);
      formed = formed;
      filled = λ above. filled;
      apart = apart;
      short = short;
      moves = moves_then s t u (tree_blocks kind owned) (tree_blocks kind own) (tree_blocks kind (without p own)) c.moves moves;
      entries = entries;
    }

-- the root has no other child: it is at level 0, and the only node
pub shrink_emptied : (s t u : Space) (kind : Kind) (root m i : ℕ) (list owned own : List ℕ)
    → IsShrinking s t kind root m root [] i list owned own
    → length (reading_of t.bytes kind own root).children ≡ 1
    → IsRewritten t u kind root (record { level = 0; left = undefined_address; right = undefined_address; keys = remove (node_at t.bytes kind root).keys i; children = [] })
    → IsChildTaken s u kind root 0 root i list owned (root ∷ []) × (list ≡ [])
shrink_emptied s t u kind root m i list owned own c one r =
    let keys = remove (node_at t.bytes kind root).keys i in
    let V = reading_of t.bytes kind own in
    let W = reading_of u.bytes kind (root ∷ []) in
    let out = undefined_free t kind own c.apart c.short in
    let top : m < 16 = let h = c.high in omega (arith, h) in
    let is_root : Listed own root = owned_of_level (node_at t.bytes kind) own root (omega (arith, level_here V m root c.over.front c.over.back top out c.over.row, top)) in
    let mine : Listed (root ∷ []) root = (all_listed (root ∷ [])).0 in
    let empties : EmptiesRoot W root = record { keys = keys; node = owned_at (node_at u.bytes kind) (root ∷ []) root mine ∙ r.says } in
    let done = over_emptied V W m root i list c.over one empties in
    let before : KeepsEntries s.bytes t.bytes kind root = at_listed (KeepsEntries s.bytes t.bytes kind) own root c.entries is_root in (
      record {
        tree = has_tree_again u.bytes kind root 0 (root ∷ []) list (omega arith) done.0 (r.form, tt) (λ above. absurd (omega (arith, above)));
        moves = moves_then s t u (tree_blocks kind owned) (tree_blocks kind own) (tree_blocks kind (root ∷ [])) c.moves
            (moves_within t u (node_block kind root ∷ []) (tree_blocks kind own) (tree_blocks kind (root ∷ [])) r.moves
            (λ x. let b = covers kind own root x is_root in omega (arith, b))
            (λ x.
            let w : ℕ → ℕ = λ n. holds x n (node_length kind) in
            let a = emptied_total w V m root i list c.over one in
            let b = c.counts w in
            let d = cover_total x kind own in
            omega (arith, a, b, d)));
        entries = (
          inl (
            refl,
            ap (λ (k : Node). k.keys) r.says ∙ ap (λ (ks : List (List ℕ)). remove ks i) before.0,
            ap (λ (k : Node). k.children) r.says ∙ sym (remove_alone (V root).children i one c.over.place)
                ∙ ap (λ (n : Node). remove n.children i) (owned_at (node_at t.bytes kind) own root is_root) ∙ ap (λ (ks : List ℕ). remove ks i) before.1,
          ),
          tt,
        );
        stops = inr (
          ap (λ (xs : List ℕ). length xs) (sym before.1) ∙ ap (λ (n : Node). length n.children) (sym (owned_at (node_at t.bytes kind) own root is_root)) ∙ one,
          refl,
          refl,
        );
      },
      done.1,
    )
