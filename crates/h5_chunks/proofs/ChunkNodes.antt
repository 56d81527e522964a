-- The chunks at the children of a node of level 0.
use Rattle.std.proofs.Common.{◌≡◌, ℕ, ◌+◌, ◌<◌, List, [], ◌∷◌, length, map, take, get_or, subst, sym, ap, ◌∙◌, append-nil, arith}
use Rattle.std.specs.Prelude.{slice_index_or, ⊤}
use Rattle.std.specs.List.{AllByRecursion}
use Rattle.std.proofs.lemmas.List.{length-map, get_or-map}
use Rattle.std.proofs.lemmas.Option.{get_or_from_slice_get, slice_get-get_or}
use Rattle.std.proofs.lemmas.Slice.Zip.{get_or-zip, length-zip}
use Rattle.h5_model.specs.Format.Rows.{Node, Reading}
use Rattle.h5_model.specs.Format.Chunks.{chunks_in, offsets_in}
use Rattle.h5_laws.specs.Ladders.{all_of, lists_below}
use Rattle.h5_laws.specs.ChunkLadders.{chunk_lists, chunk_sides}
use Rattle.h5_laws.proofs.ChunkLadders.{chunks_under}
use Rattle.h5_btree.proofs.OrderLaws.Elements.{all_at, all_more}
use Rattle.h5_btree.proofs.OrderLaws.NodeOrder.{IsChildOrdered}
use Rattle.h5_chunks.specs.Between.{IsChunkHeld}

-- all chunks of a node
pub chunks_all : (rank : ℕ) (node : Node) → all_of (chunk_lists rank node) ≡ chunks_in rank node
chunks_all rank node = chunks_under (λ at. node) rank 0 0 ∙ append-nil (chunks_in rank node)

module _ (rank : ℕ) (node : Node) (long : length node.keys ≡ length node.children + 1) where
  pub length-chunks : length (chunks_in rank node) ≡ length node.children
  length-chunks = omega (arith, length-zip (map (offsets_in rank) node.keys) node.children, length-map node.keys (offsets_in rank), long)

  module _ (i : ℕ) (low : i < length node.children) where
    -- the chunk at child i, whose offsets key i has
    pub chunk_is : (none : List ℕ × ℕ) → get_or (chunks_in rank node) i none ≡ (offsets_in rank (slice_index_or node.keys i []), slice_index_or node.children i none.1)
    chunk_is none =
        get_or-zip (map (offsets_in rank) node.keys) node.children i none (omega (arith, low, long, length-map node.keys (offsets_in rank))) low
        ∙ ap (λ (offsets : List ℕ). (offsets, get_or node.children i none.1)) (get_or-map (offsets_in rank) node.keys i [] none.0 (omega (arith, low, long)))

    pub chunk_alone : get_or (chunk_lists rank node) i [] ≡ (offsets_in rank (slice_index_or node.keys i []), slice_index_or node.children i 0) ∷ []
    chunk_alone =
        get_or-map (λ (c : List ℕ × ℕ). c ∷ []) (chunks_in rank node) i ([], 0) [] (omega (arith, low, length-chunks))
        ∙ ap (λ (c : List ℕ × ℕ). c ∷ []) (chunk_is ([], 0))

    pub chunk_below : (V : Reading) → node.level ≡ 0
        → get_or (lists_below V (chunk_lists rank) node.level node) i [] ≡ (offsets_in rank (slice_index_or node.keys i []), slice_index_or node.children i 0) ∷ []
    chunk_below V bottom = ap (λ (l : ℕ). get_or (lists_below V (chunk_lists rank) l node) i []) bottom ∙ chunk_alone

-- ---- by places

module _ (rank : ℕ) (node : Node) (long : length node.keys ≡ length node.children + 1) (i : ℕ) (low : i < length node.children)
    (key : List ℕ) (key_is : slice_index_or node.keys i [] ≡ key) where
  -- the chunk at child i
  abbrev pub chunk_here : List ℕ × ℕ
  chunk_here = get_or (chunks_in rank node) i ([], 0)

  pub chunk_low : i < length (chunks_in rank node)
  chunk_low = omega (arith, low, length-chunks rank node long)

  pub chunk_itself : get_or (chunks_in rank node) i chunk_here ≡ chunk_here
  chunk_itself = get_or_from_slice_get (chunks_in rank node) i chunk_here chunk_here (slice_get-get_or (chunks_in rank node) i ([], 0) chunk_low)

  pub offsets_are : chunk_here.0 ≡ offsets_in rank key
  offsets_are = ap (λ (c : List ℕ × ℕ). c.0) (chunk_is rank node long i low ([], 0)) ∙ ap (offsets_in rank) key_is

  module _ (P : List ℕ → Type 0) where
    abbrev Has : List ℕ × ℕ → Type 0
    Has chunk = P chunk.0

    -- what holds of the offsets of each chunk holds of those of one more, and the other way
    pub chunk_more : AllByRecursion Has (take i (chunks_in rank node)) → P (offsets_in rank key) → AllByRecursion Has (take (i + 1) (chunks_in rank node))
    chunk_more all one = all_more Has (chunks_in rank node) i chunk_here chunk_low chunk_itself all (subst P (sym offsets_are) one)

    pub one_chunk : AllByRecursion Has (chunks_in rank node) → P (offsets_in rank key)
    one_chunk all = subst P offsets_are (all_at Has (chunks_in rank node) i chunk_here chunk_low chunk_itself all)

-- ---- in order

module _ (rank : ℕ) (V : Reading) (node : Node) (bottom : node.level ≡ 0) (long : length node.keys ≡ length node.children + 1) where
  -- the chunk at child i is between the keys around it
  abbrev pub IsChildHeld : ℕ → Type 0
  IsChildHeld i = IsChildOrdered (chunk_sides rank) V (chunk_lists rank) node i

  module _ (i : ℕ) (low : i < length node.children) (key next : List ℕ) (key_is : slice_index_or node.keys i [] ≡ key) (next_is : slice_index_or node.keys (i + 1) [] ≡ next) where
    pub child_held : IsChunkHeld rank key next (offsets_in rank key) → IsChildHeld i
    child_held held = rw (chunk_below rank node long i low V bottom, key_is, next_is) (tt, (held, tt))

    pub held_child : IsChildHeld i → IsChunkHeld rank key next (offsets_in rank key)
    held_child ordered =
        let exact : ⊤ × (IsChunkHeld rank key next (offsets_in rank key) × ⊤) = rw (chunk_below rank node long i low V bottom, key_is, next_is) at ordered in
        exact.1.0
