-- Keys that are held along a way: how long they are, and where they stand.
use Rattle.std.proofs.Common.{◌≡◌, ℕ, zero, suc, ◌<◌, ◌≤◌, List, [], ◌∷◌, length, Bool, true, false, arith}
use Rattle.std.specs.Prelude.{if◌then◌else◌, slice_index_or}
use Rattle.std.specs.List.{AllByRecursion, insert}
use Rattle.std.proofs.lemmas.List.Edits.{length-insert}
use Rattle.h5_bytes.proofs.PartLaws.{length-part}
use Rattle.h5_model.specs.Format.Nodes.{Kind, entries_in, node_at, node_bytes, node_length}
use Rattle.h5_model.proofs.Members.{all_both}
use Rattle.h5_space.specs.Space.{Space}
use Rattle.h5_btree.specs.Held.{IsNodeThere, IsStepThere, held_key}
use Rattle.h5_btree.specs.Removal.{EndsInTree}
use Rattle.h5_btree.specs.declared.way.Step.{Step}
use Rattle.h5_space.proofs.AddressLaws.{all_at}
use Rattle.h5_btree.proofs.NodeLaws.{keys_long}
use Rattle.h5_btree.proofs.WaySteps.{way_there, way_places}

all_insert : {X : Type 0} (P : X → Type 0) (xs : List X) (j : ℕ) (x : X) → AllByRecursion P xs → P x → AllByRecursion P (insert xs j x)
all_insert P xs zero x all here = (here, all)
all_insert P [] (suc j) x all here = (here, tt)
all_insert P (y ∷ ys) (suc j) x all here = (all.0, all_insert P ys j x all.1 here)

-- the keys of a node that is there
pub long_keys : (image : List ℕ) (kind : Kind) (at : ℕ) → IsNodeThere image kind at → AllByRecursion (λ (k : List ℕ). length k ≡ kind.key_length) (node_at image kind at).keys
long_keys image kind at there = keys_long kind (node_bytes image kind at) (length-part at (node_length kind) image there.0) there.1.roomy

-- the key between the halves
pub between_long : (keys : List (List ℕ)) (j n long : ℕ) (key : List ℕ) → AllByRecursion (λ (k : List ℕ). length k ≡ long) keys → length key ≡ long → j ≤ length keys → n ≤ length keys
    → length (slice_index_or (insert keys j key) n []) ≡ long
between_long keys j n long key all here low within =
    all_at (λ (k : List ℕ). length k ≡ long) (insert keys j key) n [] (all_insert (λ (k : List ℕ). length k ≡ long) keys j key all here) (let l = length-insert keys j key low in omega (arith, l, within))

-- a key held between two
pub held_long : (follows : List ℕ → List ℕ → Bool) (low key high : List ℕ) (long : ℕ) → length low ≡ long → length key ≡ long → length high ≡ long
    → length (held_key follows low key high) ≡ long
held_long follows low key high long a b c = go (follows low key) (follows key high) where
  go : (x y : Bool) → length (if x then (if y then key else high) else low) ≡ long
  go true true = b
  go true false = c
  go false y = a

-- each step of a way that ends in a tree
pub way_steps : (s : Space) (kind : Kind) (root level : ℕ) (way : List Step) (owned list : List ℕ) (k : ℕ) → EndsInTree s kind root level way owned list k
    → AllByRecursion (IsStepThere s.bytes kind) way
way_steps s kind root level way owned list k e =
    all_both (λ (step : Step). IsNodeThere s.bytes kind step.node) (λ (step : Step). step.place < entries_in (node_bytes s.bytes kind step.node)) way
    (way_there s kind root level way owned list k e) (way_places s kind root level way owned list k e)
