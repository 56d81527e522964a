-- A root without children, made in a new block, has no chunk.
use Rattle.std.proofs.Common.{◌≡◌, ℕ, ◌+◌, ◌≤◌, List, [], ◌∷◌, ◌++◌, length, replicate, refl, sym, ap, ◌∙◌, subst, arith, append-nil}
use Rattle.std.specs.Prelude.{T}
use Rattle.std.specs.Ordering.{nat_cmp}
use Rattle.std.specs.Cmp.Lexicographic.{slice_cmp}
use Rattle.std.specs.FinMap.{empty, from_sorted, is_sorted}
use Rattle.std.proofs.lemmas.List.{nil_from_length}
use Rattle.h5_bytes.specs.Bytes.{number_at, part, undefined_address}
use Rattle.h5_bytes.specs.Blocks.{block, cover, holds}
use Rattle.h5_bytes.specs.declared.Block.{Block}
use Rattle.h5_bytes.proofs.BlockLaws.{holds-inner}
use Rattle.h5_bytes.proofs.FieldLaws.{number_at-part}
use Rattle.h5_bytes.proofs.PartLaws.{length-with_part, part-part, part-with_part_same}
use Rattle.h5_model.specs.Format.Chunks.{chunks_in}
use Rattle.h5_model.specs.Format.Nodes.{HasTree, IsNode, Kind, entries_in, node_at, node_bytes, node_length, reading_of}
use Rattle.h5_model.specs.Format.Reached.{Shape, shape_kind}
use Rattle.h5_model.specs.Format.Rows.{Node, Reading}
use Rattle.h5_model.specs.Format.Superblock.{chunk_k, k_values, superblock_length, highest_k}
use Rattle.h5_model.proofs.KLaws.{same_chunk, same_length}
use Rattle.h5_model.proofs.MapSteps.{empty_by_name}
use Rattle.h5_model.proofs.RowLaws.{all_listed}
use Rattle.h5_space.specs.Lending.{with_bytes_at}
use Rattle.h5_space.specs.Moves.{Moves, Spends}
use Rattle.h5_space.specs.Space.{Space, growth}
use Rattle.h5_space.specs.Whole.{IsApart}
use Rattle.h5_space.proofs.MovesLaws.{moves_apart, moves_take, moves_then, moves_write, spends_take}
use Rattle.h5_btree.specs.Walk.Forms.{OfChunks}
use Rattle.h5_btree.specs.Walk.Trees.{IsTree}
use Rattle.h5_btree.proofs.ClimbSteps.{moves_within}
use Rattle.h5_btree.proofs.NodeEdits.{form_same, left_same, level_same, right_same}
use Rattle.h5_btree.proofs.NodeLaws.{left_is, length-children, level_is, right_is}
use Rattle.h5_btree.proofs.TreeReadings.{owned_at}
use Rattle.h5_chunks.specs.Edited.{AreChunksApart}
use Rattle.h5_chunks.specs.Empty.{empty_head}
use Rattle.h5_chunks.specs.Order.{AreChunksOrdered}
use Rattle.h5_chunks.specs.Told.{chunk_blocks_told, chunks_told, listed_told}
use Rattle.h5_chunks.proofs.ChunkNodes.{length-chunks}
use Rattle.h5_chunks.proofs.NodeKeys.{one_more_key}
use Rattle.h5_chunks.proofs.OrderFaults.{listed_is}
use Rattle.h5_chunks.proofs.Stored.{blocks_are, chunks_read}
use Rattle.h5_chunks.proofs.SuperblockStays.{k_stays, kind_stays, superblock_of}

-- ---- what the head says

head_counts : entries_in empty_head ≡ 0
unfolding number_at
head_counts = refl

head_left : number_at empty_head 8 8 ≡ undefined_address
unfolding number_at
head_left = refl

head_right : number_at empty_head 16 8 ≡ undefined_address
unfolding number_at
head_right = refl

head_form : (image : List ℕ) (shape : Shape) → IsNode (shape_kind image shape) empty_head
unfolding part
head_form image shape = record { signed = refl; type_byte = refl; roomy = omega (arith, head_counts) }

-- ---- a node that begins with it

module _ (t : Space) (shape : Shape) (at : ℕ) (inside : at + node_length (shape_kind t.bytes shape) ≤ length t.bytes) (head : part at 24 t.bytes ≡ empty_head) where
  abbrev kind : Kind
  kind = shape_kind t.bytes shape

  abbrev bytes : List ℕ
  bytes = node_bytes t.bytes kind at

  abbrev node : Node
  node = node_at t.bytes kind at

  abbrev V : Reading
  V = reading_of t.bytes kind (at ∷ [])

  begins : part 0 24 bytes ≡ empty_head
  begins = part-part 0 24 at (node_length kind) t.bytes (omega arith) ∙ ap (λ (n : ℕ). part n 24 t.bytes) (omega arith) ∙ head

  front : part 0 6 bytes ≡ part 0 6 empty_head
  front = sym (part-part 0 6 0 24 bytes (omega arith)) ∙ ap (part 0 6) begins

  siblings : part 8 16 bytes ≡ part 8 16 empty_head
  siblings = sym (part-part 8 16 0 24 bytes (omega arith)) ∙ ap (part 8 16) begins

  counts : entries_in bytes ≡ 0
  counts = sym (number_at-part 6 2 0 24 bytes (omega arith)) ∙ ap (λ (b : List ℕ). number_at b 6 2) begins ∙ head_counts

  form : IsNode kind bytes
  form = form_same kind empty_head bytes front (omega (arith, counts)) (head_form t.bytes shape)

  level_0 : node.level ≡ 0
  level_0 = sym (level_is kind bytes node refl) ∙ level_same kind empty_head bytes front

  left : node.left ≡ undefined_address
  left = sym (left_is kind bytes node refl) ∙ left_same empty_head bytes siblings ∙ head_left

  right : node.right ≡ undefined_address
  right = sym (right_is kind bytes node refl) ∙ right_same empty_head bytes siblings ∙ head_right

  alone : node.children ≡ []
  alone = nil_from_length node.children (sym (length-children kind bytes node refl) ∙ counts)

  read : V at ≡ node
  read = owned_at (node_at t.bytes kind) (at ∷ []) at (all_listed (at ∷ [])).0

  tree : HasTree t.bytes kind at 0 (at ∷ []) []
  tree = record {
    low = omega arith;
    formed = (form, tt);
    filled = λ high. absurd (omega (arith, high));
    rows = subst (λ (n : Node). (n.level ≡ 0) × (n.left ≡ undefined_address) × (n.right ≡ undefined_address) × Unit {0}) (sym read) (level_0, left, right, tt);
    owns = refl;
    all = sym (append-nil (V at).children ∙ ap (λ (n : Node). n.children) read ∙ alone);
  }

  stands : IsTree t.bytes (OfChunks shape) at (at ∷ []) []
  stands = record {
    level = 0;
    tree = tree;
    formed = tt;
    keyed = (λ i low. absurd (let none = ap length alone in omega (arith, low, none)), tt);
  }

  none_listed : listed_told t.bytes shape at ≡ []
  unfolding stands
  none_listed =
      let none = ap length alone in
      let few = length-chunks (length shape.sizes) node (one_more_key t.bytes shape at node refl) in
      listed_is t.bytes shape at (at ∷ []) [] stands ∙ append-nil (chunks_in (length shape.sizes) node)
      ∙ nil_from_length (chunks_in (length shape.sizes) node) (omega (arith, few, none))

  ordered : AreChunksOrdered t.bytes shape at (at ∷ [])
  ordered = record {
    ascending = subst (λ (es : List (List ℕ × ℕ)). T (is_sorted (slice_cmp nat_cmp) es)) (sym none_listed) tt;
    ordered = (λ i low. absurd (let none = ap length alone in omega (arith, low, none)), tt);
  }

  -- it has no chunk
  pub none_told : chunks_told t.bytes shape at ≡ empty
  none_told = ap (λ (es : List (List ℕ × ℕ)). from_sorted {R = slice_cmp nat_cmp} es) none_listed ∙ sym empty_by_name

  -- and its block alone
  pub one_block : block at (node_length kind) ∷ [] ≡ chunk_blocks_told t.bytes shape at
  one_block = blocks_are t.bytes shape at (at ∷ []) [] stands

  module _ (some : 1 ≤ chunk_k t.bytes) (few : chunk_k t.bytes ≤ highest_k) (apart : IsApart (superblock_of t ∷ block at (node_length kind) ∷ []) t.free (length t.bytes))
      (long : superblock_length t.bytes ≤ length t.bytes) where
    pub root_stands : AreChunksApart t shape at
    root_stands = record {
      read = chunks_read t.bytes shape at (at ∷ []) [] stands ordered some few (inside, tt);
      apart = subst (λ (bs : List Block). IsApart (superblock_of t ∷ bs) t.free (length t.bytes)) one_block apart;
      long = long;
    }

-- ---- a head that was written in a block that was taken

module _ (s u : Space) (shape : Shape) (at len : ℕ) (len_is : len ≡ node_length (shape_kind s.bytes shape)) (bytes : u.bytes ≡ s.bytes ++ replicate (growth len s.free) 0)
    (taken : (p : ℕ) → cover p u.free + holds p at len ≡ cover p s.free + holds p (length s.bytes) (growth len s.free)) (inside : at + len ≤ length u.bytes)
    (apart : IsApart (superblock_of s ∷ []) s.free (length s.bytes)) (long : superblock_length s.bytes ≤ length s.bytes)
    (some : 1 ≤ chunk_k s.bytes) (few : chunk_k s.bytes ≤ highest_k) where
  abbrev t : Space
  t = with_bytes_at u at empty_head

  roomy : at + 24 ≤ length u.bytes
  roomy = omega (arith, inside, len_is)

  same_long : length t.bytes ≡ length u.bytes
  same_long = length-with_part at empty_head u.bytes (omega (arith, roomy))

  written : Moves u t (block at len ∷ []) (block at len ∷ [])
  written = moves_within u t (block at 24 ∷ []) (block at len ∷ []) (block at len ∷ []) (moves_write u t at 24 empty_head refl roomy refl refl)
      (λ p. let less = holds-inner p at 24 at len (omega arith) (omega (arith, len_is)) in omega (arith, less)) (λ p. refl)

  made : Moves s t [] (block at len ∷ [])
  made = moves_then s u t [] (block at len ∷ []) (block at len ∷ []) (moves_take s u at len (growth len s.free) bytes taken) written

  -- the superblock is apart from the new block
  pub made_k : k_values t.bytes ≡ k_values s.bytes
  made_k = k_stays s t [] (block at len ∷ []) [] made apart long

  long_now : len ≡ node_length (shape_kind t.bytes shape)
  long_now = len_is ∙ ap node_length (sym (kind_stays s t shape made_k))

  made_exact : Moves s t [] (block at (node_length (shape_kind t.bytes shape)) ∷ [])
  made_exact = subst (λ (n : ℕ). Moves s t [] (block at n ∷ [])) long_now made

  within : at + node_length (shape_kind t.bytes shape) ≤ length t.bytes
  within = omega (arith, inside, same_long, long_now)

  head_there : part at 24 t.bytes ≡ empty_head
  head_there = part-with_part_same at 24 empty_head u.bytes refl (omega (arith, roomy))

  beside : IsApart (superblock_of t ∷ block at (node_length (shape_kind t.bytes shape)) ∷ []) t.free (length t.bytes)
  beside = subst (λ n. IsApart (block 0 n ∷ block at (node_length (shape_kind t.bytes shape)) ∷ []) t.free (length t.bytes)) (sym (same_length t.bytes s.bytes made_k))
      (λ p. let all = moves_apart s t [] (block at (node_length (shape_kind t.bytes shape)) ∷ []) (superblock_of s ∷ []) made_exact apart p in omega (arith, all))

  pub made_stands : AreChunksApart t shape at
  made_stands =
      let k = same_chunk t.bytes s.bytes made_k in
      root_stands t shape at within head_there (subst (λ n. 1 ≤ n) (sym k) some) (subst (λ n. n ≤ highest_k) (sym k) few) beside
      (let more = made.grown in let same = same_length t.bytes s.bytes made_k in omega (arith, long, more, same))

  pub made_none : chunks_told t.bytes shape at ≡ empty
  made_none = none_told t shape at within head_there

  pub made_moves : Moves s t [] (chunk_blocks_told t.bytes shape at)
  made_moves = subst (Moves s t []) (one_block t shape at within head_there) made_exact

  pub made_spends : u.room_bytes + len ≡ s.room_bytes → u.room_blocks + 1 ≡ s.room_blocks → Spends s t (node_length (shape_kind s.bytes shape)) 1
  made_spends room calls =
      let first = spends_take s u len bytes room calls in
      record {
        grown = omega (arith, first.grown, same_long, len_is);
        bytes_left = omega (arith, first.bytes_left, len_is);
        blocks_left = omega (arith, first.blocks_left);
      }
