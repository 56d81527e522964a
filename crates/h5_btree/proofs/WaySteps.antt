-- The nodes on a way that ends in a tree: they are the tree's, so they lie in the image and have their form.
use Rattle.std.proofs.Common.{◌≡◌, ℕ, zero, suc, ◌+◌, ◌<◌, ◌≤◌, List, [], ◌∷◌, length, take, get_or, sym, ◌∙◌, subst, arith, refl}
use Rattle.std.specs.List.{AllByRecursion, remove}
use Rattle.h5_bytes.specs.Bytes.{undefined_address}
use Rattle.h5_bytes.specs.declared.Block.{Block}
use Rattle.h5_bytes.proofs.BlockLaws.{all_so}
use Rattle.h5_model.specs.Format.Rows.{Node}
use Rattle.h5_model.specs.Format.Nodes.{Kind, IsNode, entries_in, node_at, node_bytes, node_length, reading_of}
use Rattle.h5_model.proofs.RowLaws.{at_listed}
use Rattle.h5_space.specs.Space.{Space}
use Rattle.h5_space.specs.Moves.{Moves}
use Rattle.h5_btree.specs.Climb.{IsNoNode, IsWay}
use Rattle.h5_btree.specs.Removal.{EndsInTree, IsShrinking}
use Rattle.h5_btree.specs.declared.way.Step.{Step}
use Rattle.h5_btree.proofs.NodeLaws.{length-children}
use Rattle.h5_btree.proofs.RowEdits.{level_here}
use Rattle.h5_btree.proofs.TreeReadings.{Listed, owned_at, owned_of_level}
use Rattle.h5_btree.proofs.ClimbSteps.{inside_of_apart, undefined_free}
use Rattle.h5_btree.proofs.DropSteps.{shrink_start}

-- ---- what holds of each step

pub all_more : {X : Type 0} (P : X → Type 0) (xs : List X) (i : ℕ) (d : X) → i < length xs → AllByRecursion P (take i xs) → P (get_or xs i d)
    → AllByRecursion P (take (suc i) xs)
all_more P [] i d low all here = absurd (omega (arith, low))
all_more P (x ∷ xs) zero d low all here = (here, tt)
all_more P (x ∷ xs) (suc i) d low all here = (all.0, all_more P xs i d (omega (arith, low)) all.1 here)

-- ---- the steps of a way

-- a node stands there
abbrev pub IsStep : Space → Kind → Step → Type 0
IsStep s kind step = (step.node + node_length kind ≤ length s.bytes) × IsNode kind (node_bytes s.bytes kind step.node)

module _ (s : Space) (kind : Kind) (root level : ℕ) (way : List Step) (owned list : List ℕ) (k : ℕ) (e : EndsInTree s kind root level way owned list k) where
  out : IsNoNode (reading_of s.bytes kind owned) undefined_address
  out = undefined_free s kind owned e.apart e.short

  pub ends_shrinks : IsShrinking s s kind root 0 e.step.node e.above e.step.place (remove list k) owned owned
  ends_shrinks = subst (λ (n : ℕ). IsShrinking s s kind root 0 e.step.node e.above e.step.place (remove list n) owned owned) (sym e.number)
      (shrink_start s kind root level e.step.node e.step.place e.above e.front e.back owned list e.tree e.apart e.short e.leads e.row e.place)

  pub ends_with : (step : Step) (above : List Step) → way ≡ step ∷ above → IsShrinking s s kind root 0 step.node above step.place (remove list k) owned owned
  ends_with step above cut =
      let both : e.step ∷ e.above ≡ step ∷ above = sym e.way_is ∙ cut in
      let first : e.step ≡ step = cc in
      let rest : e.above ≡ above = cc in
      subst (λ (st : Step). IsShrinking s s kind root 0 st.node above st.place (remove list k) owned owned) first
      (subst (λ (ws : List Step). IsShrinking s s kind root 0 e.step.node ws e.step.place (remove list k) owned owned) rest ends_shrinks)

  -- so many steps there are at most
  pub way_low : length e.above < 16
  way_low = let h = ends_shrinks.high in omega (arith, h)

  on_way : (m : ℕ) (steps : List Step) (a : ℕ) (front back : List ℕ) → length steps + m < 16 → IsWay (reading_of s.bytes kind owned) m root steps a front back
      → AllByRecursion (λ (step : Step). Listed owned step.node) steps
  on_way m [] a front back high w = tt
  on_way m (step ∷ steps) a front back high w =
      let top : suc m < 16 = omega (arith, high) in
      let level = level_here (reading_of s.bytes kind owned) (suc m) step.node w.0 w.1 top out (w.2).row in (
        owned_of_level (node_at s.bytes kind) owned step.node (omega (arith, level, top)),
        on_way (suc m) steps step.node w.0 w.1 (omega (arith, high)) w.3,
      )

  pub first_owned : Listed owned e.step.node
  first_owned =
      let level = level_here (reading_of s.bytes kind owned) 0 e.step.node e.front e.back (omega arith) out e.row in
      owned_of_level (node_at s.bytes kind) owned e.step.node (omega (arith, level))

  pub way_owned : AllByRecursion (λ (step : Step). Listed owned step.node) way
  way_owned = subst (AllByRecursion (λ (step : Step). Listed owned step.node)) (sym e.way_is)
      (first_owned, on_way 0 e.above e.step.node e.front e.back (let h = way_low in omega (arith, h)) e.leads)

  pub way_there : AllByRecursion (IsStep s kind) way
  way_there = all_so (λ (step : Step). Listed owned step.node) (IsStep s kind) way (λ step is. (inside_of_apart s kind owned e.apart step.node is, at_listed (λ at. IsNode kind (node_bytes s.bytes kind at)) owned step.node e.tree.formed is)) way_owned

  -- and the places are those of children
  place_in : (step : Step) → Listed owned step.node → step.place < length (reading_of s.bytes kind owned step.node).children → step.place < entries_in (node_bytes s.bytes kind step.node)
  place_in step listed low =
      let count = length-children kind (node_bytes s.bytes kind step.node) (node_at s.bytes kind step.node) refl in
      let place : step.place < length (node_at s.bytes kind step.node).children
      = subst (λ (n : Node). step.place < length n.children) (owned_at (node_at s.bytes kind) owned step.node listed) low in
      omega (arith, count, place)

  places_on : (m : ℕ) (steps : List Step) (a : ℕ) (front back : List ℕ) → length steps + m < 16 → IsWay (reading_of s.bytes kind owned) m root steps a front back
      → AllByRecursion (λ (step : Step). step.place < entries_in (node_bytes s.bytes kind step.node)) steps
  places_on m [] a front back high w = tt
  places_on m (step ∷ steps) a front back high w = (
    place_in step (on_way m (step ∷ steps) a front back high w).0 (w.2).place,
    places_on (suc m) steps step.node w.0 w.1 (omega (arith, high)) w.3,
  )

  pub way_places : AllByRecursion (λ (step : Step). step.place < entries_in (node_bytes s.bytes kind step.node)) way
  way_places = subst (AllByRecursion (λ (step : Step). step.place < entries_in (node_bytes s.bytes kind step.node))) (sym e.way_is)
      (place_in e.step first_owned e.place, places_on 0 e.above e.step.node e.front e.back (let h = way_low in omega (arith, h)) e.leads)

-- ---- room alone is another

abbrev pub roomy : Space → ℕ → ℕ → Space
roomy s bytes blocks = record s { room_bytes = bytes; room_blocks = blocks }

pub ends_roomy : (s : Space) (bytes blocks : ℕ) (kind : Kind) (root level : ℕ) (way : List Step) (owned list : List ℕ) (k : ℕ) → EndsInTree s kind root level way owned list k
    → EndsInTree (roomy s bytes blocks) kind root level way owned list k
ends_roomy s bytes blocks kind root level way owned list k e = record {
  tree = e.tree;
  apart = e.apart;
  short = e.short;
  step = e.step;
  above = e.above;
  way_is = e.way_is;
  front = e.front;
  back = e.back;
  leads = e.leads;
  row = e.row;
  place = e.place;
  number = e.number;
}

pub moves_roomy : (s t : Space) (bytes blocks : ℕ) (a b : List Block) → Moves (roomy s bytes blocks) t a b → Moves s t a b
moves_roomy s t bytes blocks a b m = record { grown = m.grown; kept = m.kept; moved = m.moved }
