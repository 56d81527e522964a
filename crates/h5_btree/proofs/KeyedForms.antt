-- The tree of keys of a group: what stands at each child at its bottom, and that it is in order exactly where the group's tree is, by
-- the definition. And a chunk that comes in beside another one.
use Rattle.std.proofs.Common.{◌≡◌, ℕ, ◌≤◌, List, [], ◌∷◌, ◌++◌, length, map, refl, ap, arith}
use Rattle.std.specs.Bool.{⊤}
use Rattle.std.specs.List.{AllByRecursion}
use Rattle.h5_bytes.proofs.BlockLaws.{all_so}
use Rattle.h5_model.specs.Format.Links.{Before, IsOrdered, Symbols, names_in}
use Rattle.h5_model.specs.Format.Nodes.{Kind, HasTree, node_at, reading_of}
use Rattle.h5_model.specs.Format.Rows.{Node}
use Rattle.h5_laws.specs.ChunkLadders.{rising_chunk_sides}
use Rattle.h5_laws.specs.KeyEdits.{Grown, Two}
use Rattle.h5_laws.specs.NameLadders.{key_text, name_lists, name_sides}
use Rattle.h5_laws.proofs.ChunkLadders.{chunk_order}
use Rattle.h5_laws.proofs.KeyInserts.{IsGrown}
use Rattle.h5_laws.proofs.KeyInstances.{Chunk, chunk_parts, chunk_through}
use Rattle.h5_laws.proofs.NameLadders.{by_names, names_by}
use Rattle.h5_btree.specs.Keyed.{AtChild, at_children, IsInOrder}
use Rattle.h5_btree.proofs.KeyedOwn.{keys_count}
use Rattle.h5_btree.proofs.KeyedOrder.{IsBottomOf, IsNodeInOrder, nodes_in_order, own_or_blank, tree_in_order}

-- ---- groups: names in symbol nodes, whatever the keys are

abbrev pub names_at_child : Symbols → List ℕ → AtChild (List (List ℕ))
names_at_child S segment key c = names_in S segment (c ∷ [])

names_listed : (S : Symbols) (segment : List ℕ) (keys : List (List ℕ)) (children : List ℕ) → length children ≤ length keys
    → map (λ c. names_in S segment (c ∷ [])) children ≡ map (λ (b : List (List ℕ)). b) (at_children (names_at_child S segment) keys children)
names_listed S segment [] [] long = refl
names_listed S segment [] (c ∷ children) long = absurd (omega (arith, long))
names_listed S segment (k ∷ keys) [] long = refl
names_listed S segment (k ∷ keys) (c ∷ children) long =
    ap (λ (ls : List (List (List ℕ))). names_in S segment (c ∷ []) ∷ ls) (names_listed S segment keys children (omega (arith, long)))

pub names_bottom : (image : List ℕ) (kind : Kind) (owned : List ℕ) (S : Symbols) (segment : List ℕ)
    → IsBottomOf (λ (b : List (List ℕ)). b) (names_at_child S segment) (name_lists S segment) (reading_of image kind owned)
names_bottom image kind owned S segment =
    own_or_blank image kind owned (λ (o : Node). name_lists S segment o ≡ map (λ (b : List (List ℕ)). b) (at_children (names_at_child S segment) o.keys o.children))
    (λ n. let long = keys_count image kind n in names_listed S segment (node_at image kind n).keys (node_at image kind n).children (omega (arith, long))) refl

all_top : {X : Type 0} (xs : List X) → AllByRecursion (λ (x : X). ⊤) xs
all_top [] = tt
all_top (x ∷ xs) = (tt, all_top xs)

module _ (image : List ℕ) (kind : Kind) (root level : ℕ) (owned symbol_nodes : List ℕ) (has : HasTree image kind root level owned symbol_nodes) (S : Symbols) (segment : List ℕ) where
  abbrev pub IsGroupInOrder : Type 0
  IsGroupInOrder = IsInOrder (name_sides (key_text segment)) (λ (b : List (List ℕ)). b) (λ (b : List (List ℕ)). ⊤) image kind (names_at_child S segment) level root

  pub group_in_order : AllByRecursion (λ at. IsOrdered (reading_of image kind owned) S segment (reading_of image kind owned at)) owned → IsGroupInOrder
  group_in_order all =
      let Y = reading_of image kind owned in
      tree_in_order (name_sides (key_text segment)) (λ (b : List (List ℕ)). b) (λ (b : List (List ℕ)). ⊤) (names_at_child S segment) image kind root level owned symbol_nodes has
      (name_lists S segment) (names_bottom image kind owned S segment)
      (all_so (λ at. IsOrdered Y S segment (Y at))
      (IsNodeInOrder (λ (b : List (List ℕ)). b) (names_at_child S segment) (name_lists S segment) Y (names_bottom image kind owned S segment) (name_sides (key_text segment)) (λ (b : List (List ℕ)). ⊤))
      owned (λ n ordered. (by_names Y S segment (Y n) ordered, λ is. all_top (at_children (names_at_child S segment) (Y n).keys (Y n).children))) all)

  pub group_ordered : IsGroupInOrder → AllByRecursion (λ at. IsOrdered (reading_of image kind owned) S segment (reading_of image kind owned at)) owned
  group_ordered sorted =
      let Y = reading_of image kind owned in
      all_so
      (IsNodeInOrder (λ (b : List (List ℕ)). b) (names_at_child S segment) (name_lists S segment) Y (names_bottom image kind owned S segment) (name_sides (key_text segment)) (λ (b : List (List ℕ)). ⊤))
      (λ at. IsOrdered Y S segment (Y at)) owned (λ n is. names_by Y S segment (Y n) is.0)
      (nodes_in_order (name_sides (key_text segment)) (λ (b : List (List ℕ)). b) (λ (b : List (List ℕ)). ⊤) (names_at_child S segment) image kind root level owned symbol_nodes has
      (name_lists S segment) (names_bottom image kind owned S segment) sorted)

-- ---- chunks

-- a new chunk beside the one that stands at a child, behind it or before it, where the key between them parts them
module _ (rank : ℕ) where
  abbrev pub IsChunkBefore : Chunk rank → Chunk rank → Type 0
  IsChunkBefore y z = Before (y.0 ++ 0 ∷ []) (z.0 ++ 0 ∷ [])

  abbrev pub IsBeside : Chunk rank → List (Chunk rank) → Grown (List ℕ) (List (Chunk rank)) → Type 0
  IsBeside x b r = IsGrown (rising_chunk_sides rank) (chunk_order rank) IsChunkBefore (chunk_through rank) (chunk_parts rank) (λ (c : List (Chunk rank)). c)
      (λ (c : List (Chunk rank)). 1 ≤ length c) x 0 b r

  pub chunk_behind : (x c : Chunk rank) (u : List ℕ) → (rising_chunk_sides rank).Left c u → (rising_chunk_sides rank).Right u x → IsBeside x (c ∷ []) (Two (c ∷ []) u (x ∷ []))
  chunk_behind x c u left right = (
    omega arith,
    omega arith,
    (left, tt),
    (right, tt),
    record { front = c ∷ []; back = []; before = refl; after = refl; above = (chunk_parts rank c x u left right, tt); below = tt },
  )

  pub chunk_in_front : (x c : Chunk rank) (u : List ℕ) → (rising_chunk_sides rank).Left x u → (rising_chunk_sides rank).Right u c → IsBeside x (c ∷ []) (Two (x ∷ []) u (c ∷ []))
  chunk_in_front x c u left right = (
    omega arith,
    omega arith,
    (left, tt),
    (right, tt),
    record { front = []; back = c ∷ []; before = refl; after = refl; above = tt; below = (chunk_parts rank x c u left right, tt) },
  )
