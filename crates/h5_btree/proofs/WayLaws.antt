-- One step on the way down a tree.
use Rattle.std.proofs.Common.{◌≡◌, ◌≢◌, ℕ, zero, suc, ◌-◌, ◌<◌, Bool, List, [], ◌∷◌, ◌++◌, length, get_or, slice_get, slice_index, Some, inl, inr, refl, sym, ap, subst, ◌∙◌, arith}
use Rattle.std.proofs.lemmas.Option.{get_or_from_slice_get, slice_get_within}
use Rattle.h5_model.specs.Format.Rows.{Node, Reading, next_row}
use Rattle.h5_model.specs.Format.Nodes.{Kind, node_at, reading_of}
use Rattle.h5_btree.specs.Form.{MayStandAt}
use Rattle.h5_btree.specs.Descent.{EndsAt, IsChildFor, IsInRow, IsWayTo, IsStop, StopsDescent}
use Rattle.h5_btree.specs.declared.read.NodeFault.{NodeFault}
use Rattle.h5_btree.specs.declared.way.Step.{Step}
use Rattle.h5_btree.proofs.DescentLaws.{stands_in_row, child_in_row}

module _ (image : List ℕ) (kind : Kind) (at : ℕ) (node : Node) (is : node ≡ node_at image kind at) where
  pub stands : (owned : List ℕ) (level : ℕ) (row : List ℕ) → IsInRow image kind owned level row at → MayStandAt level node
  stands owned level row r = subst (λ (n : Node). MayStandAt level n) (sym is) (stands_in_row image kind owned level row at r)

-- the way ends at this node
pub stops_here : (image : List ℕ) (kind : Kind) (behind : List ℕ → Bool) (level at : ℕ) (fault : NodeFault) → IsStop image kind level at fault → StopsDescent image kind behind level at fault
stops_here image kind behind zero at fault stop = stop
stops_here image kind behind (suc level) at fault stop = inl stop

module _ (image : List ℕ) (kind : Kind) (behind : List ℕ → Bool) (at : ℕ) (node : Node) (i child : ℕ) (is : node ≡ node_at image kind at)
    (chosen : IsChildFor behind node i) (read : slice_get node.children i ≡ Some child) where
  same_child : (n : ℕ) → child ≡ get_or (node_at image kind at).children i n
  same_child n = sym (get_or_from_slice_get node.children i child n read) ∙ ap (λ (m : Node). get_or m.children i n) is

  chosen_there : IsChildFor behind (node_at image kind at) i
  chosen_there = subst (λ (n : Node). IsChildFor behind n i) is chosen

  pub ends_on : (level : ℕ) (last : Node) (j : ℕ) → level ≢ 0 → EndsAt (node_at image kind) behind (level - 1) child last j → EndsAt (node_at image kind) behind level at last j
  ends_on zero last j some rest = absurd (some refl)
  ends_on (suc level) last j some rest =
      let below : suc level - 1 ≡ level = omega arith in (
        i,
        chosen_there,
        subst (λ (n : ℕ). EndsAt (node_at image kind) behind level n last j) (same_child 0)
            (subst (λ (l : ℕ). EndsAt (node_at image kind) behind l child last j) below rest),
      )

  pub way_on : (level : ℕ) (below way : List Step) → level ≢ 0 → IsWayTo (node_at image kind) behind (level - 1) child below
      → way ≡ below ++ record { node = at; place = i } ∷ [] → IsWayTo (node_at image kind) behind level at way
  way_on zero below way some rest joined = absurd (some refl)
  way_on (suc level) below way some rest joined =
      let lower : suc level - 1 ≡ level = omega arith in (
        i,
        below,
        chosen_there,
        subst (λ (n : ℕ). IsWayTo (node_at image kind) behind level n below) (same_child 0)
            (subst (λ (l : ℕ). IsWayTo (node_at image kind) behind l child below) lower rest),
        joined,
      )

  pub stops_below : (level : ℕ) (fault : NodeFault) → level ≢ 0 → StopsDescent image kind behind (level - 1) child fault → StopsDescent image kind behind level at fault
  stops_below zero fault some rest = absurd (some refl)
  stops_below (suc level) fault some rest =
      let below : suc level - 1 ≡ level = omega arith in
      inr (
        i,
        chosen_there,
        subst (λ (n : ℕ). StopsDescent image kind behind level n fault) (same_child 0)
            (subst (λ (l : ℕ). StopsDescent image kind behind l child fault) below rest),
      )

  pub down_row : (owned : List ℕ) (level : ℕ) (row : List ℕ) → level ≢ 0 → IsInRow image kind owned level row at
      → IsInRow image kind owned (level - 1) (next_row (reading_of image kind owned) row) child
  down_row owned zero row some r = absurd (some refl)
  down_row owned (suc level) row some r =
      let below : suc level - 1 ≡ level = omega arith in
      let low = slice_get_within node.children i child read in
      let count : length node.children ≡ length (node_at image kind at).children = ap (λ (n : Node). length n.children) is in
      subst (λ (l : ℕ). IsInRow image kind owned l (next_row (reading_of image kind owned) row) child) (sym below)
      (child_in_row image kind owned level row at i child r (omega arith) (sym (same_child child)))

-- where the way ends is a child
pub ends_low : (V : Reading) (behind : List ℕ → Bool) (level at : ℕ) (node : Node) (i : ℕ) → EndsAt V behind level at node i → i < length node.children
ends_low V behind zero at node i ends = (ends.1).child
ends_low V behind (suc level) at node i ends = ends_low V behind level (slice_index (V at).children ends.0) node i ends.2
