-- What stands at the bottom of a tree stays where only nodes of the tree change: its blocks share no byte with them.
use Rattle.std.proofs.Common.{◌≡◌, ℕ, ◌+◌, ◌≤◌, List, [], ◌∷◌, ◌++◌, length, map, sym, ap, subst, arith}
use Rattle.std.specs.List.{AllByRecursion}
use Rattle.h5_bytes.specs.Bytes.{part}
use Rattle.h5_bytes.specs.Blocks.{block, Inside, Keeps}
use Rattle.h5_model.specs.Format.Nodes.{Kind, tree_blocks}
use Rattle.h5_space.specs.Space.{Space}
use Rattle.h5_space.specs.Moves.{Moves}
use Rattle.h5_space.specs.Whole.{IsApart}
use Rattle.h5_space.proofs.MovesLaws.{moves_kept}

module _ (len : ℕ) (Form : List ℕ → Type 0) (keys_of : List ℕ → List (List ℕ)) where
  -- what stands at an address, by the bytes of its block: it lies in the image, and has its form
  abbrev pub stands_by : List ℕ → ℕ → Type 0
  stands_by bytes at = (at + len ≤ length bytes) × Form (part at len bytes)

  -- and the keys of its items
  abbrev pub keys_by : List ℕ → ℕ → List (List ℕ)
  keys_by bytes at = keys_of (part at len bytes)

  each_stays : (s t : Space) (list : List ℕ) → length s.bytes ≤ length t.bytes → Inside (length s.bytes) (map (λ at. block at len) list) → Keeps s.bytes t.bytes (map (λ at. block at len) list)
      → AllByRecursion (λ at. Form (part at len s.bytes)) list → AllByRecursion (λ at. stands_by t.bytes at × (keys_by t.bytes at ≡ keys_by s.bytes at)) list
  each_stays s t [] grown inside kept formed = tt
  each_stays s t (c ∷ list) grown inside kept formed = (
    ((omega (arith, grown, inside.0), subst Form (sym kept.0) formed.0), ap keys_of kept.0),
    each_stays s t list grown inside.1 kept.1 formed.1,
  )

  -- so `stays` of a tree whose keys may give way
  pub stays_beside : (s : Space) (kind : Kind) (owned list : List ℕ) → IsApart (tree_blocks kind owned ++ map (λ at. block at len) list) s.free (length s.bytes)
      → Inside (length s.bytes) (map (λ at. block at len) list) → AllByRecursion (λ at. Form (part at len s.bytes)) list
      → (t : Space) → Moves s t (tree_blocks kind owned) (tree_blocks kind owned)
      → AllByRecursion (λ at. stands_by t.bytes at × (keys_by t.bytes at ≡ keys_by s.bytes at)) list
  stays_beside s kind owned list apart inside formed t m =
      each_stays s t list m.grown inside
      (moves_kept s t (tree_blocks kind owned) (tree_blocks kind owned) (map (λ at. block at len) list) m apart inside) formed
