-- The climb of an insertion in an image: what holds before and after each of its steps, and the tree at its end.
use Rattle.std.proofs.Common.{◌≡◌, ◌≢◌, inl, inr, ℕ, suc, ◌+◌, ◌-◌, ◌^◌, ◌<◌, ◌≤◌, List, [], ◌∷◌, ◌++◌, length, refl, sym, ap, ◌∙◌, subst, arith, append-nil, Bool, true, false, ◌==◌}
use Rattle.std.specs.List.{list_any, insert, AllByRecursion}
use Rattle.std.proofs.lemmas.List.Edits.{length-insert}
use Rattle.std.proofs.lemmas.Bool.{cases_lt, cases_order}
use Rattle.h5_bytes.specs.Bytes.{undefined_address}
use Rattle.h5_bytes.specs.Blocks.{holds, cover, Inside}
use Rattle.h5_bytes.specs.declared.Block.{Block}
use Rattle.h5_bytes.proofs.BlockLaws.{holds_in, holds_past, holds-le}
use Rattle.h5_model.specs.Format.Limits.{highest_level}
use Rattle.h5_model.specs.Format.Rows.{Node, next_row, IsRow, leaves, nodes}
use Rattle.h5_model.specs.Format.Nodes.{Kind, IsNode, HasTree, entries_in, node_at, node_block, node_bytes, node_length, node_of, reading_of, tree_blocks}
use Rattle.h5_model.proofs.RowLaws.{all_listed, at_listed, equal_number, root_level}
use Rattle.h5_space.specs.Space.{Space}
use Rattle.h5_space.specs.Moves.{Moves}
use Rattle.h5_space.specs.Whole.{IsApart}
use Rattle.h5_space.proofs.MovesLaws.{moves_none, moves_then, moves_apart, part-same}
use Rattle.h5_btree.specs.Climb.{IsNoNode, IsWay, Adds, Splits, RaisesRoot}
use Rattle.h5_btree.specs.Rewritten.{IsRewritten}
pub use Rattle.h5_btree.specs.Insertion.{IsClimbing, IsChildPut}
use Rattle.h5_btree.specs.declared.way.Step.{Step}
use Rattle.h5_btree.proofs.NodeLaws.{length-children}
use Rattle.h5_btree.proofs.RowEdits.{level_here}
use Rattle.h5_btree.proofs.ClimbLaws.{lacks_filled, lacks_up, lacks_raised, raised_below}
use Rattle.h5_btree.proofs.WayRows.{leaves_here, insert_below}
use Rattle.h5_btree.proofs.OwnedLaws.{total, whole_total, filled_total, up_total, raised_total, cover_total}
use Rattle.h5_btree.proofs.TreeReadings.{Listed, owned_of_level, owned_at, free_of_none, undefined_is_none, refills_in, has_tree_again}

-- ---- blocks of the nodes of a tree

-- what holds of each listed address
pub all_from : (owned : List ℕ) (P : ℕ → Type 0) → ((n : ℕ) → Listed owned n → P n) → (xs : List ℕ) → AllByRecursion (Listed owned) xs → AllByRecursion P xs
all_from owned P each [] is = tt
all_from owned P each (x ∷ xs) is = (each x is.0, all_from owned P each xs is.1)

-- an address is p or another
pub at_or : (p n : ℕ) {P : Type 0} → (n ≡ p → P) → (n ≢ p → P) → P
at_or p n same other = elim (cases_order n p) [
  | inl e ↦ same e
  | inr (inl less) ↦ other (λ e. absurd (omega (arith, e, less)))
  | inr (inr more) ↦ other (λ e. absurd (omega (arith, e, more)))
]

-- the block of a node is one of the tree's
pub covers : (kind : Kind) (owned : List ℕ) (n x : ℕ) → Listed owned n → holds x n (node_length kind) ≤ cover x (tree_blocks kind owned)
covers kind [] n x is = cc
covers kind (m ∷ owned) n x is = go (m == n) refl is (covers kind owned n x) where
  go : (b : Bool) → (m == n) ≡ b → list_any (λ k. k == n) (m ∷ owned) ≡ true → (Listed owned n → holds x n (node_length kind) ≤ cover x (tree_blocks kind owned))
      → holds x n (node_length kind) ≤ cover x (tree_blocks kind (m ∷ owned))
  go true e listed rest =
      let same : m ≡ n = equal_number m n e in
      let here : holds x m (node_length kind) ≡ holds x n (node_length kind) = ap (λ (k : ℕ). holds x k (node_length kind)) same in
      omega (arith, here)
  go false e listed rest = let r = rest (rw e at listed) in omega (arith, r)

-- two nodes' blocks are two of them
pub covers_two : (kind : Kind) (owned : List ℕ) (n p x : ℕ) → n ≢ p → Listed owned n → Listed owned p
    → holds x n (node_length kind) + holds x p (node_length kind) ≤ cover x (tree_blocks kind owned)
covers_two kind [] n p x other is at = cc
covers_two kind (m ∷ owned) n p x other is at =
    go (m == n) (m == p) refl refl is at (covers kind owned n x) (covers kind owned p x) (covers_two kind owned n p x other) where
      go : (b c : Bool) → (m == n) ≡ b → (m == p) ≡ c → list_any (λ k. k == n) (m ∷ owned) ≡ true → list_any (λ k. k == p) (m ∷ owned) ≡ true
          → (Listed owned n → holds x n (node_length kind) ≤ cover x (tree_blocks kind owned))
          → (Listed owned p → holds x p (node_length kind) ≤ cover x (tree_blocks kind owned))
          → (Listed owned n → Listed owned p → holds x n (node_length kind) + holds x p (node_length kind) ≤ cover x (tree_blocks kind owned))
          → holds x n (node_length kind) + holds x p (node_length kind) ≤ cover x (tree_blocks kind (m ∷ owned))
      go true true e f is_n is_p cn cp both = absurd (other (sym (equal_number m n e) ∙ equal_number m p f))
      go true false e f is_n is_p cn cp both =
          let here : holds x m (node_length kind) ≡ holds x n (node_length kind) = ap (λ (k : ℕ). holds x k (node_length kind)) (equal_number m n e) in
          let r = cp (rw f at is_p) in omega (arith, here, r)
      go false true e f is_n is_p cn cp both =
          let here : holds x m (node_length kind) ≡ holds x p (node_length kind) = ap (λ (k : ℕ). holds x k (node_length kind)) (equal_number m p f) in
          let r = cn (rw e at is_n) in omega (arith, here, r)
      go false false e f is_n is_p cn cp both = let r = both (rw e at is_n) (rw f at is_p) in omega (arith, r)

-- they lie in the image
pub inside_of_apart : (s : Space) (kind : Kind) (owned : List ℕ) → IsApart (tree_blocks kind owned) s.free (length s.bytes) → (n : ℕ) → Listed owned n
    → n + node_length kind ≤ length s.bytes
inside_of_apart s kind owned apart n is =
    let last = n + (node_length kind - 1) in
    let here : holds last n (node_length kind) ≡ 1 = holds_in last n (node_length kind) (omega arith) (omega arith) in
    let one = covers kind owned n last is in
    elim (cases_lt last (length s.bytes)) [
      | inl low ↦ omega (arith, low)
      | inr past ↦ absurd (omega (arith, here, one, apart last, holds_past last 0 (length s.bytes) (omega (arith, past))))
    ]

all_inside : (kind : Kind) (end : ℕ) (xs : List ℕ) → AllByRecursion (λ n. n + node_length kind ≤ end) xs → Inside end (tree_blocks kind xs)
all_inside kind end [] all = tt
all_inside kind end (x ∷ xs) all = (all.0, all_inside kind end xs all.1)

pub blocks_inside : (s : Space) (kind : Kind) (owned : List ℕ) → IsApart (tree_blocks kind owned) s.free (length s.bytes) → Inside (length s.bytes) (tree_blocks kind owned)
blocks_inside s kind owned apart =
    all_inside kind (length s.bytes) owned (all_from owned (λ n. n + node_length kind ≤ length s.bytes) (inside_of_apart s kind owned apart) owned (all_listed owned))

-- where one node is written, the others have their bytes
pub others_stay : (s t : Space) (kind : Kind) (owned : List ℕ) (p : ℕ) → Moves s t (node_block kind p ∷ []) (node_block kind p ∷ [])
    → IsApart (tree_blocks kind owned) s.free (length s.bytes) → Listed owned p
    → (n : ℕ) → Listed owned n → n ≢ p → node_bytes t.bytes kind n ≡ node_bytes s.bytes kind n
others_stay s t kind owned p m apart at n is other =
    part-same n (node_length kind) s.bytes t.bytes (inside_of_apart s kind owned apart n is) m.grown (λ x low high.
    let here = holds_in x n (node_length kind) low high in
    let both = covers_two kind owned n p x other is at in
    let most = holds-le x 0 (length s.bytes) in
    m.kept x (let i = inside_of_apart s kind owned apart n is in omega (arith, high, i)) (omega (arith, here, both, apart x, most)) (omega (arith, here, both, apart x, most)))

-- a move of blocks that are some of the tree's is one of the tree's
pub moves_within : (s t : Space) (a big big' : List Block) → Moves s t a a → ((x : ℕ) → cover x a ≤ cover x big) → ((x : ℕ) → cover x big' ≡ cover x big) → Moves s t big big'
moves_within s t a big big' m less same = record {
  grown = m.grown;
  kept = λ x low used free. m.kept x low (omega (arith, less x, used)) free;
  moved = λ x. omega (arith, m.moved x, same x);
}

-- ---- the steps

-- no node stands at the undefined address
pub undefined_free : (s : Space) (kind : Kind) (owned : List ℕ) → IsApart (tree_blocks kind owned) s.free (length s.bytes) → length s.bytes < 2 ^ 64
    → IsNoNode (reading_of s.bytes kind owned) undefined_address
undefined_free s kind owned apart short =
    free_of_none (node_at s.bytes kind) owned undefined_address (undefined_is_none kind owned (length s.bytes) short (blocks_inside s kind owned apart))

-- it starts at a node of level 0
pub climb_start : (s : Space) (kind : Kind) (root level p j child : ℕ) (way : List Step) (front back owned list : List ℕ) → HasTree s.bytes kind root level owned list
    → IsApart (tree_blocks kind owned) s.free (length s.bytes) → length s.bytes < 2 ^ 64
    → IsWay (reading_of s.bytes kind owned) 0 root way p front back → IsRow (reading_of s.bytes kind owned) 0 undefined_address (front ++ p ∷ back)
    → j ≤ length (reading_of s.bytes kind owned p).children
    → IsClimbing s s kind root 0 p way j child (insert list (length (next_row (reading_of s.bytes kind owned) front) + j) child) owned owned
climb_start s kind root level p j child way front back owned list tree apart short w row place =
    let V = reading_of s.bytes kind owned in
    let here = leaves_here V root p way front back w row in
    let depth : level ≡ length way = sym (root_level V level root tree.rows) ∙ root_level V (length way) root here.0 in
    let bottom : next_row V (front ++ p ∷ back) ≡ list = sym here.1 ∙ ap (λ (l : ℕ). leaves V l (root ∷ [])) (sym depth) ∙ sym tree.all in
    let k = length (next_row V front) + j in
    record {
      lacks = record { front = front; back = back; above = w; row = row; place = place; under = sym (insert_below V front back p j child place) ∙ ap (λ (xs : List ℕ). insert xs k child) bottom };
      counts = λ c.
          let all = whole_total c V 0 root way p front back w in
          let same : total c owned ≡ total c (nodes V (length way + 0) (root ∷ []))
          = ap (total c) tree.owns ∙ ap (λ (l : ℕ). total c (nodes V l (root ∷ []))) (omega (arith, depth)) in
          omega (arith, all, same);
      high = omega (arith, depth, tree.low);
      formed = tree.formed;
      filled = λ above. tree.filled (omega (arith, above, depth));
      apart = apart;
      short = short;
      moves = moves_none s (tree_blocks kind owned);
    }

-- the node had room
pub climb_filled : (s t u : Space) (kind : Kind) (root m p : ℕ) (way : List Step) (j child : ℕ) (list owned own : List ℕ) (keys : List (List ℕ))
    → IsClimbing s t kind root m p way j child list owned own
    → IsRewritten t u kind p (record (node_at t.bytes kind p) { keys = keys; children = insert (node_at t.bytes kind p).children j child })
    → IsChildPut s u kind root (length way + m) list owned (nodes (reading_of u.bytes kind own) (length way + m) (root ∷ []))
climb_filled s t u kind root m p way j child list owned own keys c r =
    let f = node_at t.bytes kind in
    let g = node_at u.bytes kind in
    let V = reading_of t.bytes kind own in
    let W = reading_of u.bytes kind own in
    let level = length way + m in
    let out = undefined_free t kind own c.apart c.short in
    let top : m < 16 = let h = c.high in omega (arith, h) in
    let is_p : Listed own p = owned_of_level f own p (omega (arith, level_here V m p c.lacks.front c.lacks.back top out c.lacks.row, top)) in
    let stay = others_stay t u kind own p r.moves c.apart is_p in
    let same : V p ≡ f p = owned_at f own p is_p in
    let adds : Adds V W p j child
    = refills_in f g own own p (insert (V p).children j child) keys is_p is_p
    (r.says ∙ ap (λ (n : Node). record (f p) { keys = keys; children = insert n.children j child }) (sym same))
    (λ n is other. (is, ap (node_of kind) (stay n is other))) in
    let tree = lacks_filled V W m root p way j child list c.high out c.lacks adds in
    let some : 1 ≤ entries_in (node_bytes u.bytes kind p) =
    let l = length-children kind (node_bytes u.bytes kind p) (g p) refl in
    let d : length (g p).children ≡ length (insert (f p).children j child) = ap (λ (n : Node). length n.children) r.says in
    let place : j ≤ length (f p).children = subst (λ (n : Node). j ≤ length n.children) same c.lacks.place in
    omega (arith, l, d, length-insert (f p).children j child place) in
    record {
      tree = has_tree_again u.bytes kind root level own list (let h = c.high in omega (arith, h)) tree
          (all_from own (λ at. IsNode kind (node_bytes u.bytes kind at)) (λ n is. at_or p n
          (λ e. subst (λ (k : ℕ). IsNode kind (node_bytes u.bytes kind k)) (sym e) r.form)
          (λ other. subst (IsNode kind) (sym (stay n is other)) (at_listed (λ at. IsNode kind (node_bytes t.bytes kind at)) own n c.formed is))) own (all_listed own))
          (λ above. all_from own (λ at. 1 ≤ entries_in (node_bytes u.bytes kind at)) (λ n is. at_or p n
          (λ e. subst (λ (k : ℕ). 1 ≤ entries_in (node_bytes u.bytes kind k)) (sym e) some)
          (λ other. subst (λ (b : List ℕ). 1 ≤ entries_in b) (sym (stay n is other)) (at_listed (λ at. 1 ≤ entries_in (node_bytes t.bytes kind at)) own n (c.filled above) is)))
          own (all_listed own));
      moves = moves_then s t u (tree_blocks kind owned) (tree_blocks kind own) (tree_blocks kind (nodes W level (root ∷ []))) c.moves
          (moves_within t u (node_block kind p ∷ []) (tree_blocks kind own) (tree_blocks kind (nodes W level (root ∷ []))) r.moves
          (λ x. let b = covers kind own p x is_p in omega (arith, b))
          (λ x. cover_total x kind (nodes W level (root ∷ []))
          ∙ filled_total (λ n. holds x n (node_length kind)) V W m root p way j child list c.high out c.lacks adds
          ∙ sym (c.counts (λ n. holds x n (node_length kind))) ∙ sym (cover_total x kind own)));
    }

-- the node was split: one node more, and it is the one above that lacks a child
pub climb_up : (s t u : Space) (kind : Kind) (root m p : ℕ) (step : Step) (way : List Step) (j child q : ℕ) (list owned own : List ℕ)
    → IsClimbing s t kind root m p (step ∷ way) j child list owned own
    → Splits (reading_of t.bytes kind own) (reading_of u.bytes kind (q ∷ own)) p j child q
    → Moves t u (tree_blocks kind own) (tree_blocks kind (q ∷ own))
    → AllByRecursion (λ at. IsNode kind (node_bytes u.bytes kind at)) (q ∷ own)
    → AllByRecursion (λ at. 1 ≤ entries_in (node_bytes u.bytes kind at)) (q ∷ own)
    → length u.bytes < 2 ^ 64
    → IsClimbing s u kind root (suc m) step.node way (suc step.place) q list owned (q ∷ own)
climb_up s t u kind root m p step way j child q list owned own c t' moves formed filled short =
    let V = reading_of t.bytes kind own in
    let W = reading_of u.bytes kind (q ∷ own) in
    let out = undefined_free t kind own c.apart c.short in
    let apart = subst (λ (bs : List Block). IsApart bs u.free (length u.bytes)) (append-nil (tree_blocks kind (q ∷ own)))
    (moves_apart t u (tree_blocks kind own) (tree_blocks kind (q ∷ own)) [] moves
    (subst (λ (bs : List Block). IsApart bs t.free (length t.bytes)) (sym (append-nil (tree_blocks kind own))) c.apart)) in
    record {
      lacks = lacks_up V W m root p step way j child q list c.high out c.lacks t';
      counts = λ w.
          let a = up_total w V W m root p step way j child q list c.high out c.lacks t' in
          let b = c.counts w in
          omega (arith, a, b);
      high = let h = c.high in omega (arith, h);
      formed = formed;
      filled = λ above. filled;
      apart = apart;
      short = short;
      moves = moves_then s t u (tree_blocks kind owned) (tree_blocks kind own) (tree_blocks kind (q ∷ own)) c.moves moves;
    }

-- the root was split: two nodes more, and the tree is one level higher
pub climb_raised : (s t u : Space) (kind : Kind) (root m j child p q : ℕ) (list owned own : List ℕ)
    → IsClimbing s t kind root m root [] j child list owned own → m < highest_level
    → (r : RaisesRoot (reading_of t.bytes kind own) (reading_of u.bytes kind (p ∷ q ∷ own)) root j child) → r.p ≡ p → r.q ≡ q
    → Moves t u (tree_blocks kind own) (tree_blocks kind (p ∷ q ∷ own))
    → AllByRecursion (λ at. IsNode kind (node_bytes u.bytes kind at)) (p ∷ q ∷ own)
    → AllByRecursion (λ at. 1 ≤ entries_in (node_bytes u.bytes kind at)) (p ∷ q ∷ own)
    → IsChildPut s u kind root (suc m) list owned (nodes (reading_of u.bytes kind (p ∷ q ∷ own)) (suc m) (root ∷ []))
climb_raised s t u kind root m j child p q list owned own c low r at_p at_q moves formed filled =
    let V = reading_of t.bytes kind own in
    let W = reading_of u.bytes kind (p ∷ q ∷ own) in
    let out = undefined_free t kind own c.apart c.short in
    let top : m < 16 = omega (arith, low) in
    let tree = lacks_raised V W m root j child list top out c.lacks r in
    let all = nodes W (suc m) (root ∷ []) in
    record {
      tree = has_tree_again u.bytes kind root (suc m) (p ∷ q ∷ own) list (omega (arith, low)) tree formed (λ above. filled);
      moves = moves_then s t u (tree_blocks kind owned) (tree_blocks kind own) (tree_blocks kind all) c.moves record {
        grown = moves.grown;
        kept = moves.kept;
        moved = λ x.
            let w : ℕ → ℕ = λ n. holds x n (node_length kind) in
            let a = raised_total w V W m root j child list top out c.lacks r (raised_below V W m root j child list top out c.lacks r) in
            let b = c.counts w in
            let d = cover_total x kind all in
            let e = cover_total x kind own in
            let i : w r.p ≡ w p = ap w at_p in
            let k : w r.q ≡ w q = ap w at_q in
            omega (arith, moves.moved x, a, b, d, e, i, k);
      };
    }
