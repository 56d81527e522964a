-- A chunk comes into a tree of chunks beside the child at the end of a way: the keys stay in order, and the chunks are those of before with
-- the new one at its place (File Format Specification 3.0, section III.A.1).
use Rattle.std.proofs.Common.{◌≡◌, inr, ℕ, suc, ◌+◌, ◌<◌, ◌≤◌, Bool, true, false, List, [], ◌∷◌, ◌++◌, length, get_or, refl, sym, ap, ◌∙◌, subst, arith}
use Rattle.std.specs.Prelude.{if◌then◌else◌}
use Rattle.std.specs.declared.cmp.Ordering.TheVariants.{Equal}
use Rattle.std.specs.Cmp.Lexicographic.{slice_cmp}
use Rattle.std.specs.List.{AllByRecursion, insert, remove}
use Rattle.std.specs.Ordering.{nat_cmp}
use Rattle.h5_model.specs.Format.Chunks.{IsChunkKey, all_offsets_in, offsets_in}
use Rattle.h5_model.specs.Format.Links.{Before, NotAfter}
use Rattle.h5_model.specs.Format.Nodes.{Kind, node_at, reading_of}
use Rattle.h5_model.specs.Format.Reached.{Shape}
use Rattle.h5_model.specs.Format.Rows.{Node, Reading}
use Rattle.h5_model.proofs.TextOrder.{before_le, not_after_itself}
use Rattle.h5_laws.specs.ChunkLadders.{rising_chunk_sides}
use Rattle.h5_laws.specs.KeyEdits.{IsPut, LetIn}
use Rattle.h5_laws.proofs.ChunkLadders.{chunk_order}
use Rattle.h5_laws.proofs.KeyInstances.{chunk_let_in, chunk_parts, chunk_through}
use Rattle.h5_space.specs.Space.{Space}
use Rattle.h5_btree.specs.Insertion.{IsChildPut}
use Rattle.h5_btree.specs.Keyed.{items_of_tree}
use Rattle.h5_btree.specs.Removal.{EndsInTree}
use Rattle.h5_btree.specs.declared.way.Step.{Step}
use Rattle.h5_btree.proofs.ClimbSteps.{undefined_free}
use Rattle.h5_btree.proofs.KeyedOwn.{all_stand}
use Rattle.h5_btree.proofs.KeyedPuts.{ComesIn, put_sorted}
use Rattle.h5_btree.proofs.RowEdits.{level_here}
use Rattle.h5_btree.proofs.TreeReadings.{owned_at}
use Rattle.h5_btree.proofs.WaySteps.{first_owned}
use Rattle.h5_chunks.specs.Put.{IsPutBeside}
use Rattle.h5_chunks.proofs.SoughtWays.{behind_at}
use Rattle.h5_chunks.proofs.InsertedChunk.{IsChunkBefore}
use Rattle.h5_chunks.proofs.KeyedTold.{IsKeyedChunk, IsOrderedTree, chunk_numbers, chunk_of, key_there, keyed_at}
use Rattle.h5_chunks.proofs.WidenedNode.{above_of, below_of}

-- the node at the end of a way is of level 0, and its key before the child at the end is that of a chunk
module _ (kind : Kind) (s : Space) (shape : Shape) (root level : ℕ) (way : List Step) (owned list : List ℕ) (k : ℕ) (e : EndsInTree s kind root level way owned list k) where
  abbrev V : Reading
  V = node_at s.bytes kind

  abbrev Y : Reading
  Y = reading_of s.bytes kind owned

  same : Y (e.step).node ≡ V (e.step).node
  same = owned_at V owned (e.step).node (first_owned s kind root level way owned list k e)

  end_level : (V (e.step).node).level ≡ 0
  end_level = sym (ap (λ (o : Node). o.level) same)
      ∙ level_here Y 0 (e.step).node e.front e.back (omega arith) (undefined_free s kind owned e.apart e.short) e.row

  end_place : (e.step).place < length (V (e.step).node).children
  end_place = subst (λ (o : Node). (e.step).place < length o.children) same e.place

  pub end_keyed : IsOrderedTree kind s.bytes shape root level owned list e.tree
      → IsChunkKey shape.sizes shape.bytes (get_or (node_at s.bytes kind (e.step).node).keys (e.step).place [])
  end_keyed ordered =
      key_there kind s.bytes shape root level owned list e.tree ordered (e.step).node (first_owned s kind root level way owned list k e) end_level (e.step).place end_place

module _ (kind : Kind) (some : 1 ≤ kind.k) (s t : Space) (shape : Shape) (root level : ℕ) (way : List Step) (owned list : List ℕ) (k : ℕ) (e : EndsInTree s kind root level way owned list k)
    (ordered : IsOrderedTree kind s.bytes shape root level owned list e.tree) (behind : Bool) (key : List ℕ) (chunk : ℕ)
    (put : IsPutBeside s t kind way behind key chunk) (keyed : IsChunkKey shape.sizes shape.bytes key)
    (high : List ℕ) (past : Before (offsets_in (length shape.sizes) key ++ 0 ∷ []) (all_offsets_in (length shape.sizes) high))
    (test : behind ≡ behind_at (length shape.sizes) (offsets_in (length shape.sizes) key) (get_or (node_at s.bytes kind (e.step).node).keys (e.step).place []))
    (first : behind ≡ false → (e.step).place ≡ 0)
    (other : slice_cmp nat_cmp (all_offsets_in (length shape.sizes) (get_or (node_at s.bytes kind (e.step).node).keys (e.step).place []))
    (offsets_in (length shape.sizes) key ++ 0 ∷ []) ≡ Equal → ⊥)
    (left : Before (offsets_in (length shape.sizes) key ++ 0 ∷ [])
    (all_offsets_in (length shape.sizes) (get_or (node_at s.bytes kind (e.step).node).keys (suc (e.step).place) [])))
    (admits : AllByRecursion (λ (step : Step). NotAfter (all_offsets_in (length shape.sizes) (get_or (node_at s.bytes kind step.node).keys step.place []))
    (offsets_in (length shape.sizes) key ++ 0 ∷ [])
    × Before (offsets_in (length shape.sizes) key ++ 0 ∷ []) (all_offsets_in (length shape.sizes) (get_or (node_at s.bytes kind step.node).keys (suc step.place) []))) e.above) where
  abbrev rank : ℕ
  rank = length shape.sizes

  abbrev Chunk : Type 0
  Chunk = List ℕ × ℕ

  abbrev x : Chunk
  x = (offsets_in rank key, chunk)

  abbrev numbers : List ℕ
  numbers = offsets_in rank key ++ 0 ∷ []

  own : all_offsets_in rank key ≡ numbers
  own = chunk_numbers shape.sizes shape.bytes key keyed

  new : LetIn (rising_chunk_sides rank) x key high
  new = chunk_let_in rank x key high own past

  abbrev K : List (List ℕ)
  K = (node_at s.bytes kind (e.step).node).keys

  abbrev C : List ℕ
  C = (node_at s.bytes kind (e.step).node).children

  abbrev i : ℕ
  i = (e.step).place

  abbrev kk : List ℕ
  kk = get_or K i []

  abbrev jj : List ℕ
  jj = get_or K (suc i) []

  -- the chunk at the end of the way
  abbrev c : Chunk
  c = (offsets_in rank kk, get_or C i 0)

  kk_keyed : IsChunkKey shape.sizes shape.bytes kk
  kk_keyed = end_keyed kind s shape root level way owned list k e ordered

  kk_own : all_offsets_in rank kk ≡ offsets_in rank kk ++ 0 ∷ []
  kk_own = chunk_numbers shape.sizes shape.bytes kk kk_keyed

  abbrev Comes : Bool → List ℕ → Type 0
  Comes b v = ComesIn (rising_chunk_sides rank) (chunk_order rank) IsChunkBefore (chunk_through rank) (chunk_parts rank) (chunk_of rank) (IsKeyedChunk shape) x key high new
      (λ a b. true) b keyed_at keyed_at K C i v chunk

  comes : (b : Bool) → b ≡ behind_at rank (offsets_in rank key) kk → (b ≡ false → i ≡ 0) → Comes b key
  comes true is at_first =
      let low : Before (offsets_in rank kk ++ 0 ∷ []) (all_offsets_in rank key)
      = subst (λ (ns : List ℕ). Before ns (all_offsets_in rank key)) kk_own (subst (Before (all_offsets_in rank kk)) (sym own) (below_of (all_offsets_in rank kk) numbers (sym is) other)) in
      let self : NotAfter (all_offsets_in rank key) numbers = subst (λ (ns : List ℕ). NotAfter ns numbers) (sym own) (not_after_itself numbers) in (
        sym is,
        left,
        (
          key,
          (
            kk_keyed,
            keyed,
            (low, tt),
            (self, tt),
            record { front = c ∷ []; back = []; before = refl; after = refl; above = (chunk_parts rank c x key low self, tt); below = tt },
          ),
          inr (inr (
            refl,
            subst (NotAfter (all_offsets_in rank kk)) (sym own) (sym is),
            subst (λ (ns : List ℕ). NotAfter ns (all_offsets_in rank jj)) (sym own) (before_le numbers (all_offsets_in rank jj) left),
          )),
        ),
      )
  comes false is at_first =
      let over : Before numbers (all_offsets_in rank kk) = above_of (all_offsets_in rank kk) numbers (sym is) in
      let self : NotAfter (all_offsets_in rank kk) (offsets_in rank kk ++ 0 ∷ [])
      = subst (λ (ns : List ℕ). NotAfter ns (offsets_in rank kk ++ 0 ∷ [])) (sym kk_own) (not_after_itself (offsets_in rank kk ++ 0 ∷ [])) in (
        at_first refl,
        refl,
        λ right. let never : false ≡ true = is ∙ right in absurd (cc),
        left,
        (
          keyed,
          kk_keyed,
          (over, tt),
          (self, tt),
          record { front = []; back = c ∷ []; before = refl; after = refl; above = tt; below = (chunk_parts rank x c kk over self, tt) },
        ),
      )

  abbrev pub is_put : (height : ℕ) × (all : List ℕ) × IsChildPut s t kind root height (insert list (if behind then k + 1 else k) chunk) owned all
  is_put = put.put root level k owned list e

  abbrev list' : List ℕ
  list' = insert list (if behind then k + 1 else k) chunk

  -- THE CHUNK COMES IN
  pub chunk_comes : IsOrderedTree kind t.bytes shape root is_put.0 is_put.1 (insert list (if behind then k + 1 else k) chunk) (is_put.2).tree
      × IsPut IsChunkBefore (offsets_in (length shape.sizes) key, chunk) (items_of_tree (chunk_of (length shape.sizes)) s.bytes kind keyed_at level root)
      (items_of_tree (chunk_of (length shape.sizes)) t.bytes kind keyed_at is_put.0 root)
  chunk_comes =
      put_sorted (rising_chunk_sides rank) (chunk_order rank) IsChunkBefore (chunk_through rank) (chunk_parts rank) (chunk_of rank) (IsKeyedChunk shape) x key high new (λ a b. true)
      s t kind root level way owned list k e some behind put.keys chunk (put.along e.step e.above e.way_is) (put.others root level k owned list e)
      (put.held e.step e.above e.way_is) keyed_at keyed_at (all_stand (node_at s.bytes kind) (node_at t.bytes kind) keyed_at (remove list k))
      (subst (Comes behind) (sym put.first) (comes behind test first)) admits is_put.0 is_put.1 list' (is_put.2).tree
      (inr ((λ a b. refl), (λ b base. omega arith))) ordered
