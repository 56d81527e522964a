-- Where an insertion ends, and where it goes on to the node above.
use Rattle.std.proofs.Common.{◌≡◌, ℕ, suc, ◌+◌, ◌*◌, ◌<◌, ◌≤◌, List, [], ◌∷◌, length, Bool, true, false, refl, sym, ap, ◌∙◌, subst, arith}
use Rattle.std.specs.Prelude.{if◌then◌else◌}
use Rattle.std.specs.List.{insert}
use Rattle.h5_model.specs.Format.Limits.{highest_level}
use Rattle.h5_model.specs.Format.Rows.{Node, next_row}
use Rattle.h5_model.specs.Format.Nodes.{Kind, IsNode, node_at, node_bytes, reading_of, tree_blocks}
use Rattle.h5_model.proofs.RowLaws.{at_listed}
use Rattle.h5_space.specs.Space.{Space}
use Rattle.h5_btree.specs.Rewritten.{IsRewritten}
use Rattle.h5_btree.specs.Insertion.{HasClimbed, IsChildPut, IsClimbing, IsFullWay, MayRaise}
use Rattle.h5_btree.specs.Removal.{EndsInTree}
use Rattle.h5_btree.specs.declared.way.Step.{Step}
use Rattle.h5_btree.proofs.NodeLaws.{length-children}
use Rattle.h5_btree.proofs.TreeReadings.{owned_at}
use Rattle.h5_btree.proofs.ClimbSteps.{climb_start, climb_filled}
use Rattle.h5_btree.proofs.ClimbStands.{above_known, level_p}
use Rattle.h5_btree.proofs.WaySteps.{first_owned, roomy, moves_roomy}

-- the child stands there, in some tree at this root
abbrev pub IsPut : Space → Space → Kind → ℕ → List ℕ → List ℕ → Type 0
IsPut s u kind root list owned = (height : ℕ) × (all : List ℕ) × IsChildPut s u kind root height list owned all

-- the node had room
pub put_filled : (s t u : Space) (kind : Kind) (root m p : ℕ) (above : List Step) (j child : ℕ) (key : List ℕ) (list owned own : List ℕ)
    → IsClimbing s t kind root m p above j child list owned own
    → IsRewritten t u kind p (record (node_at t.bytes kind p) { keys = insert (node_at t.bytes kind p).keys j key; children = insert (node_at t.bytes kind p).children j child })
    → IsPut s u kind root list owned
put_filled s t u kind root m p above j child key list owned own c r =
    (_, _, climb_filled s t u kind root m p above j child list owned own (insert (node_at t.bytes kind p).keys j key) c r)

-- the node is the root
module _ (s t : Space) (kind : Kind) (root m p : ℕ) (above : List Step) (j child : ℕ) (list owned own : List ℕ) (c : IsClimbing s t kind root m p above j child list owned own)
    (none : above ≡ []) where
  here : IsClimbing s t kind root m p [] j child list owned own
  here = subst (λ (ws : List Step). IsClimbing s t kind root m p ws j child list owned own) none c

  pub root_is : p ≡ root
  root_is = here.lacks.above.0

  pub at_root : IsClimbing s t kind p m p [] j child list owned own
  at_root = subst (λ (r : ℕ). IsClimbing s t kind r m p [] j child list owned own) (sym root_is) here

  pub put_back : (u : Space) → IsPut s u kind p list owned → IsPut s u kind root list owned
  put_back u put = subst (λ (r : ℕ). IsPut s u kind r list owned) root_is put

pub root_low : (t : Space) (kind : Kind) (p : ℕ) (above : List Step) (j child : ℕ) (h : HasClimbed t kind p above j child) → above ≡ []
    → length (node_at t.bytes kind p).children ≡ 2 * kind.k → h.level < highest_level
root_low t kind p above j child h none full =
    let low = h.low full (subst (IsFullWay t.bytes kind) (sym none) tt) in
    let short : length above ≡ 0 = ap (λ (ws : List Step). length ws) none in
    omega (arith, low, short)

pub may_raise : (t : Space) (kind : Kind) (p : ℕ) (above : List Step) (j child : ℕ) (h : HasClimbed t kind p above j child) → above ≡ []
    → length (node_at t.bytes kind p).children ≡ 2 * kind.k → MayRaise t kind p j child
may_raise t kind p above j child h none full = record {
  start = h.start;
  level = h.level;
  list = h.list;
  owned = h.owned;
  own = h.own;
  climbs = at_root h.start t kind h.root h.level p above j child h.list h.owned h.own h.climbs none;
  low = root_low t kind p above j child h none full;
}

-- the level of the root is one
pub one_level : (s s' t : Space) (kind : Kind) (root root' m m' p : ℕ) (above above' : List Step) (j child : ℕ) (list owned own list' owned' own' : List ℕ)
    → IsClimbing s t kind root m p above j child list owned own → IsClimbing s' t kind root' m' p above' j child list' owned' own' → m ≡ m'
one_level s s' t kind root root' m m' p above above' j child list owned own list' owned' own' c d =
    sym (level_p s t kind root m p above j child list owned own c) ∙ level_p s' t kind root' m' p above' j child list' owned' own' d

-- the place in the node above
pub next_low : (s t : Space) (kind : Kind) (root m p : ℕ) (next : Step) (higher : List Step) (j child : ℕ) (list owned own : List ℕ)
    → IsClimbing s t kind root m p (next ∷ higher) j child list owned own → next.place < 2 * kind.k
next_low s t kind root m p next higher j child list owned own c =
    let known = above_known s t kind root m p (next ∷ higher) j child list owned own c in
    let place : next.place < length (node_at t.bytes kind next.node).children
    = subst (λ (n : Node). next.place < length n.children) (owned_at (node_at t.bytes kind) own next.node known.0.0) (c.lacks.above.2).place in
    let count = length-children kind (node_bytes t.bytes kind next.node) (node_at t.bytes kind next.node) refl in
    let form = at_listed (λ at. IsNode kind (node_bytes t.bytes kind at)) own next.node c.formed known.0.0 in
    let roomy = form.roomy in
    omega (arith, place, count, roomy)

-- ---- the room that is left

pub keys_left : (a long all front back : ℕ) → (suc a + 1) * long ≤ all → front ≡ long → front + back ≡ all → (a + 1) * long ≤ back
keys_left a long all front back is first both = omega (arith, is, first, both)

pub bytes_left : (a n room left : ℕ) → (suc a + 2) * n ≤ room → room ≤ left + n → (a + 2) * n ≤ left
bytes_left a n room left is spent = omega (arith, is, spent)

pub short_left : (a n old new most : ℕ) → old + (suc a + 2) * n < most → new ≤ old + n → new + (a + 2) * n < most
short_left a n old new most is grown = omega (arith, is, grown)

-- ---- where it begins

module _ (s : Space) (kind : Kind) (root level : ℕ) (way : List Step) (owned list : List ℕ) (k : ℕ) (e : EndsInTree s kind root level way owned list k) (child : ℕ) where
  -- before the child at the end of the way, or behind it
  begins : (j index : ℕ) → j ≤ length (reading_of s.bytes kind owned e.step.node).children → index ≡ length (next_row (reading_of s.bytes kind owned) e.front) + j
      → IsClimbing s s kind root 0 e.step.node e.above j child (insert list index child) owned owned
  begins j index low is = subst (λ (n : ℕ). IsClimbing s s kind root 0 e.step.node e.above j child (insert list n child) owned owned) (sym is)
      (climb_start s kind root level e.step.node j child e.above e.front e.back owned list e.tree e.apart e.short e.leads e.row low)

  pub begins_at : (behind : Bool) (step : Step) (above : List Step) → way ≡ step ∷ above
      → IsClimbing s s kind root 0 step.node above (if behind then step.place + 1 else step.place) child (insert list (if behind then k + 1 else k) child) owned owned
  begins_at behind step above cut =
      let both : e.step ∷ e.above ≡ step ∷ above = sym e.way_is ∙ cut in
      let first : e.step ≡ step = cc in
      let rest : e.above ≡ above = cc in
      subst (λ (st : Step). IsClimbing s s kind root 0 st.node above (if behind then st.place + 1 else st.place) child (insert list (if behind then k + 1 else k) child) owned owned) first
      (subst (λ (ws : List Step). IsClimbing s s kind root 0 e.step.node ws (if behind then e.step.place + 1 else e.step.place) child (insert list (if behind then k + 1 else k) child) owned owned) rest
      (go behind))
    where
      go : (b : Bool) → IsClimbing s s kind root 0 e.step.node e.above (if b then e.step.place + 1 else e.step.place) child (insert list (if b then k + 1 else k) child) owned owned
      go true = let low = e.place in begins (e.step.place + 1) (k + 1) (omega (arith, low)) (omega (arith, e.number))
      go false = let low = e.place in begins e.step.place k (omega (arith, low)) e.number

  -- K is not 0, and the place is one of a node
  pub place_few : (step : Step) (above : List Step) → way ≡ step ∷ above → step.place < 2 * kind.k
  place_few step above cut =
      let both : e.step ∷ e.above ≡ step ∷ above = sym e.way_is ∙ cut in
      let first : e.step ≡ step = cc in
      let listed = first_owned s kind root level way owned list k e in
      let place : e.step.place < length (node_at s.bytes kind e.step.node).children
      = subst (λ (n : Node). e.step.place < length n.children) (owned_at (node_at s.bytes kind) owned e.step.node listed) e.place in
      let count = length-children kind (node_bytes s.bytes kind e.step.node) (node_at s.bytes kind e.step.node) refl in
      let form = at_listed (λ at. IsNode kind (node_bytes s.bytes kind at)) owned e.step.node e.tree.formed listed in
      let roomy = form.roomy in
      let same : e.step.place ≡ step.place = ap (λ (st : Step). st.place) first in
      omega (arith, place, count, roomy, same)

-- ---- room alone is another

pub put_roomy : (s u : Space) (bytes blocks : ℕ) (kind : Kind) (root : ℕ) (list owned : List ℕ) → IsPut (roomy s bytes blocks) u kind root list owned → IsPut s u kind root list owned
put_roomy s u bytes blocks kind root list owned put = (
  put.0,
  put.1,
  record {
    tree = (put.2).tree;
    moves = moves_roomy s u bytes blocks (tree_blocks kind owned) (tree_blocks kind put.1) (put.2).moves;
  },
)
