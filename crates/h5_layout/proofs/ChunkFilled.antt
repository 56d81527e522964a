-- A chunk that was stored, whose block is written then.
use Rattle.std.proofs.Common.{◌≡◌, ℕ, ◌+◌, ◌≤◌, inl, inr, List, [], ◌∷◌, length, map, Bool, true, false, cond, Option, Some, None, refl, sym, ap, ◌∙◌, subst, arith}
use Rattle.std.specs.Ordering.{eq_by_cmp, nat_cmp}
use Rattle.std.specs.Cmp.{IsEquivalence, eq_by_cmp_equiv}
use Rattle.std.specs.Cmp.Lexicographic.{nat_list_cmp_total, same_text, slice_cmp, texts_ties}
use Rattle.std.specs.FinMap.{entries, get, get-entries, get-insert, insert, nat_cmp-IsAntisymmetric, slice_cmp-IsAntisymmetric, values}
use Rattle.std.specs.List.{Contains}
use Rattle.std.proofs.lemmas.Bool.{cases_lt}
use Rattle.std.proofs.lemmas.Option.{same_Some}
use Rattle.h5_bytes.specs.Bytes.{byte_at, part, with_part}
use Rattle.h5_bytes.specs.Blocks.{Inside, IsKept, Keeps, block, cover, holds}
use Rattle.h5_bytes.specs.declared.Block.{Block}
use Rattle.h5_bytes.proofs.BlockLaws.{all_left, cover-append, holds_in, holds-le}
use Rattle.h5_bytes.proofs.PartLaws.{length-with_part, part-with_part_same}
use Rattle.h5_model.specs.Format.Chunks.{Chunks}
use Rattle.h5_model.specs.Format.Nodes.{tree_blocks}
use Rattle.h5_model.specs.Format.Reached.{Shape, shape_kind}
use Rattle.h5_model.specs.Format.Superblock.{chunk_k, k_values}
use Rattle.h5_model.proofs.KLaws.{same_chunk, same_length}
use Rattle.h5_space.specs.Lending.{with_bytes_at}
use Rattle.h5_space.specs.Moves.{Moves}
use Rattle.h5_space.specs.Space.{Space}
use Rattle.h5_space.proofs.MovesLaws.{moves_kept, moves_same, moves_then, moves_write, part-same, byte-with_part}
use Rattle.h5_header.proofs.BesideLaws.{moves_covered}
use Rattle.h5_laws.proofs.Lists.{In, contains_in, in_all, in_contains, in_map}
use Rattle.h5_laws.proofs.Maps.{found_entry}
use Rattle.h5_chunks.specs.Told.{chunk_blocks_told, chunks_told}
use Rattle.h5_chunks.proofs.Readable.{stored_tree}
use Rattle.h5_chunks.proofs.Stored.{nodes_are}
use Rattle.h5_chunks.specs.Bushy.{IsBushy}
use Rattle.h5_chunks.specs.Edited.{AreChunksApart, HasChunksNow}
use Rattle.h5_layout.specs.Filled.{HasFilledChunks}
use Rattle.h5_chunks.proofs.BushyTrees.{bushy_kept}
use Rattle.h5_chunks.proofs.SuperblockStays.{k_stays}
use Rattle.h5_layout.proofs.GridLaws.{chunk_inside}
use Rattle.h5_layout.proofs.NodesStay.{blocks_stay, chunks_stay, read_stays}
use Rattle.h5_layout.proofs.StandingLaws.{among, one_around}

-- ---- a chunk more

pub alike : IsEquivalence (eq_by_cmp (slice_cmp nat_cmp))
alike = eq_by_cmp_equiv nat_list_cmp_total

found_more : (chunks : Chunks) (offsets : List ℕ) (at : ℕ) → get (insert chunks offsets at) offsets ≡ Some at
found_more chunks offsets at = get-insert nat_list_cmp_total chunks offsets at offsets ∙ ap (λ (b : Bool). cond b (Some at) (get chunks offsets)) (alike.refl offsets)

found_other : (chunks : Chunks) (offsets : List ℕ) (at : ℕ) (other : List ℕ) → (other ≡ offsets → ⊥) → get (insert chunks offsets at) other ≡ get chunks other
found_other chunks offsets at other differ = by_test (eq_by_cmp (slice_cmp nat_cmp) other offsets) refl where
  by_test : (b : Bool) → eq_by_cmp (slice_cmp nat_cmp) other offsets ≡ b → get (insert chunks offsets at) other ≡ get chunks other
  by_test true tied = absurd (differ (same_text other offsets (sym (texts_ties other offsets ∙ tied))))
  by_test false apart = get-insert nat_list_cmp_total chunks offsets at other ∙ ap (λ (b : Bool). cond b (Some at) (get chunks other)) apart

-- its block lies in the image
pub stored_fit : (s mid : Space) (shape : Shape) (root : ℕ) (offsets : List ℕ) (at : ℕ) → HasChunksNow s mid shape root (insert (chunks_told s.bytes shape root) offsets at)
    → at + shape.bytes ≤ length mid.bytes
stored_fit s mid shape root offsets at stored =
    chunk_inside mid.bytes shape root stored.stand.read offsets at (ap (λ (c : Chunks). get c offsets) stored.told ∙ found_more (chunks_told s.bytes shape root) offsets at)

entry_of : (chunks : Chunks) (offsets : List ℕ) (at : ℕ) → get chunks offsets ≡ Some at → In (offsets, at) (entries chunks)
entry_of chunks offsets at found = found_entry (slice_cmp-IsAntisymmetric nat_cmp-IsAntisymmetric) (entries chunks) offsets at (sym (get-entries chunks offsets) ∙ found)

some_differs : (o : Option ℕ) (at : ℕ) → o ≡ None → o ≡ Some at → ⊥
some_differs o at none some = let never : None ≡ Some at = sym none ∙ some in cc

-- ---- a block of a chunk is written

module _ (s new : Space) (shape : Shape) (root : ℕ) (was : AreChunksApart s shape root) (offsets : List ℕ) (at : ℕ) (found : get (chunks_told s.bytes shape root) offsets ≡ Some at)
    (w : List ℕ) (long : length w ≡ shape.bytes) (wrote : new ≡ with_bytes_at s at w) where
  abbrev chunks : Chunks
  chunks = chunks_told s.bytes shape root

  abbrev node_blocks : List Block
  node_blocks = tree_blocks (shape_kind s.bytes shape) was.read.stored.owned

  abbrev box_blocks : List Block
  box_blocks = map (λ (a : ℕ). block a shape.bytes) (values chunks)

  parts : (p : ℕ) → cover p (chunk_blocks_told s.bytes shape root) ≡ cover p node_blocks + cover p box_blocks
  parts p = ap (cover p) was.read.stored.laid ∙ cover-append p node_blocks box_blocks

  once : (p : ℕ) → cover p (chunk_blocks_told s.bytes shape root) ≤ 1
  once p = omega (arith, was.apart p, holds-le p 0 (length s.bytes))

  among_boxes : (o : List ℕ) (a : ℕ) → get chunks o ≡ Some a → (p : ℕ) → holds p a shape.bytes ≤ cover p box_blocks
  among_boxes o a there p = among p shape.bytes (entries chunks) (o, a) (entry_of chunks o a there)

  fit : at + shape.bytes ≤ length s.bytes
  fit = chunk_inside s.bytes shape root was.read offsets at found

  room : at + length w ≤ length s.bytes
  room = omega (arith, fit, long)

  bytes_are : new.bytes ≡ with_part at w s.bytes
  bytes_are = ap (λ (x : Space). x.bytes) wrote

  free_is : new.free ≡ s.free
  free_is = ap (λ (x : Space). x.free) wrote

  same_long : length new.bytes ≡ length s.bytes
  same_long = ap length bytes_are ∙ length-with_part at w s.bytes room

  nodes_inside : Inside (length s.bytes) node_blocks
  nodes_inside = all_left (λ (b : Block). b.at + b.len ≤ length s.bytes) node_blocks box_blocks (subst (Inside (length s.bytes)) was.read.stored.laid was.read.inside)

  nodes_keep : Keeps s.bytes new.bytes node_blocks
  nodes_keep =
      moves_kept s new (block at shape.bytes ∷ []) (block at shape.bytes ∷ []) node_blocks (moves_write s new at shape.bytes w long fit bytes_are free_is)
      (λ p. omega (arith, was.apart p, parts p, among_boxes offsets at found p)) nodes_inside

  -- the superblock is not written
  pub written_k : k_values new.bytes ≡ k_values s.bytes
  written_k =
      k_stays s new (block at shape.bytes ∷ []) (block at shape.bytes ∷ []) [] (moves_write s new at shape.bytes w long fit bytes_are free_is)
      (λ p. omega (arith, was.apart p, parts p, among_boxes offsets at found p)) was.long

  same_k : chunk_k new.bytes ≡ chunk_k s.bytes
  same_k = same_chunk new.bytes s.bytes written_k

  pub written_chunks : chunks_told new.bytes shape root ≡ chunks
  written_chunks = chunks_stay s.bytes new.bytes shape root same_k was.read same_long nodes_keep

  written_blocks : chunk_blocks_told new.bytes shape root ≡ chunk_blocks_told s.bytes shape root
  written_blocks = blocks_stay s.bytes new.bytes shape root same_k was.read same_long nodes_keep

  pub written_apart : AreChunksApart new shape root
  written_apart = record {
    read = read_stays s.bytes new.bytes shape root same_k was.read same_long nodes_keep;
    apart = λ p.
        let first = ap (λ n. holds p 0 n) (same_length new.bytes s.bytes written_k) in
        omega (arith, was.apart p, first, ap (cover p) written_blocks, ap (cover p) free_is, ap (λ n. holds p 0 n) same_long);
    long = omega (arith, was.long, same_long, same_length new.bytes s.bytes written_k);
  }

  pub written_moves : Moves s new (chunk_blocks_told s.bytes shape root) (chunk_blocks_told new.bytes shape root)
  written_moves =
      moves_same s new (chunk_blocks_told s.bytes shape root) (chunk_blocks_told s.bytes shape root) (chunk_blocks_told s.bytes shape root) (chunk_blocks_told new.bytes shape root)
      (λ p. refl) (λ p. ap (cover p) written_blocks)
      (moves_covered s new w at (chunk_blocks_told s.bytes shape root)
      (λ p. omega (arith, parts p, among_boxes offsets at found p, ap (holds p at) long)) room bytes_are free_is)

  pub written_bushy : (low : ℕ) → IsBushy s.bytes shape root low → IsBushy new.bytes shape root low
  written_bushy low =
      let told = nodes_are s.bytes shape root was.read.stored.owned (values chunks) (stored_tree s.bytes shape root chunks (chunk_blocks_told s.bytes shape root) was.read.stored) in
      bushy_kept s.bytes new.bytes shape root low same_k (subst (λ (ns : List ℕ). Keeps s.bytes new.bytes (tree_blocks (shape_kind s.bytes shape) ns)) told nodes_keep)

  -- the chunk has these bytes, and the others have theirs
  pub written_here : part at shape.bytes new.bytes ≡ w
  written_here = ap (part at shape.bytes) bytes_are ∙ part-with_part_same at shape.bytes w s.bytes (sym long) room

  pub written_others : (o : List ℕ) (a : ℕ) → get chunks o ≡ Some a → (o ≡ offsets → ⊥) → part a shape.bytes new.bytes ≡ part a shape.bytes s.bytes
  written_others o a there differ =
      part-same a shape.bytes s.bytes new.bytes (chunk_inside s.bytes shape root was.read o a there) (omega (arith, same_long)) (λ p low high.
      ap (λ (bs : List ℕ). byte_at bs p) bytes_are ∙ byte-with_part at w s.bytes p room (elim (cases_lt p at) [
        | inl below ↦ inl below
        | inr above ↦ inr (elim (cases_lt p (at + length w)) [
          | inl within ↦ absurd (
              let here = holds_in p at shape.bytes above (omega (arith, within, long)) in
              let also = holds_in p a shape.bytes low high in
              let few : cover p box_blocks ≤ 1 = omega (arith, once p, parts p) in
              let one = one_around p shape.bytes (entries chunks) (o, a) (offsets, at) few (entry_of chunks o a there) (entry_of chunks offsets at found)
              (omega (arith, also)) (omega (arith, here)) in
              differ (ap (λ (e : List ℕ × ℕ). e.0) one))
          | inr past ↦ past
        ])
      ]))

-- ---- a chunk that came in

module _ (s mid new : Space) (shape : Shape) (root : ℕ) (offsets : List ℕ) (at : ℕ) (absent : get (chunks_told s.bytes shape root) offsets ≡ None)
    (stored : HasChunksNow s mid shape root (insert (chunks_told s.bytes shape root) offsets at)) (was : AreChunksApart s shape root)
    (keeps : Keeps s.bytes mid.bytes (map (λ (a : ℕ). block a shape.bytes) (values (chunks_told s.bytes shape root))))
    (bushy : (low : ℕ) → IsBushy s.bytes shape root low → IsBushy mid.bytes shape root low)
    (w : List ℕ) (long : length w ≡ shape.bytes) (wrote : new ≡ with_bytes_at mid at w) where
  abbrev old : Chunks
  old = chunks_told s.bytes shape root

  there_now : get (chunks_told mid.bytes shape root) offsets ≡ Some at
  there_now = ap (λ (c : Chunks). get c offsets) stored.told ∙ found_more old offsets at

  chunks_now : chunks_told new.bytes shape root ≡ insert old offsets at
  chunks_now = written_chunks mid new shape root stored.stand offsets at there_now w long wrote ∙ stored.told

  only : (o : List ℕ) → Contains (offsets ∷ []) o → offsets ≡ o
  only o at = elim (in_contains o (offsets ∷ []) at) [ inl same ↦ same | inr never ↦ absurd never ]

  kept_mid : (o : List ℕ) (a : ℕ) → get old o ≡ Some a → part a shape.bytes mid.bytes ≡ part a shape.bytes s.bytes
  kept_mid o a there =
      in_all (IsKept s.bytes mid.bytes) (block a shape.bytes) (map (λ (x : ℕ). block x shape.bytes) (values old)) keeps
      (in_map (λ (x : ℕ). block x shape.bytes) a (values old) (in_map (λ (e : List ℕ × ℕ). e.1) (o, a) (entries old) (entry_of old o a there)))

  differs : (o : List ℕ) (a : ℕ) → get old o ≡ Some a → o ≡ offsets → ⊥
  differs o a there same = some_differs (get old offsets) a absent (sym (ap (get old) same) ∙ there)

  -- it is stored there
  pub found_filled : get (chunks_told new.bytes shape root) offsets ≡ Some at
  found_filled = ap (λ (c : Chunks). get c offsets) chunks_now ∙ found_more old offsets at

  pub filled_one : HasFilledChunks s new shape root w (offsets ∷ [])
  filled_one = record {
    stand = written_apart mid new shape root stored.stand offsets at there_now w long wrote;
    stored = record {
      added = λ o there. (at, ap (λ (c : Chunks). get c o) chunks_now ∙ ap (get (insert old offsets at)) (sym (only o there)) ∙ found_more old offsets at);
      others = λ o no. ap (λ (c : Chunks). get c o) chunks_now ∙ found_other old offsets at o (λ same. no (contains_in o (offsets ∷ []) (inl (sym same))));
    };
    filled = λ o a there found.
        let here : get (insert old offsets at) offsets ≡ Some a = ap (get (insert old offsets at)) (only o there) ∙ sym (ap (λ (c : Chunks). get c o) chunks_now) ∙ found in
        let same : at ≡ a = same_Some at a (sym (found_more old offsets at) ∙ here) in
        subst (λ (n : ℕ). part n shape.bytes new.bytes ≡ w) same (written_here mid new shape root stored.stand offsets at there_now w long wrote);
    kept = λ o a there.
        let apart = differs o a there in
        let mid_there : get (chunks_told mid.bytes shape root) o ≡ Some a = ap (λ (c : Chunks). get c o) stored.told ∙ found_other old offsets at o apart ∙ there in (
          ap (λ (c : Chunks). get c o) chunks_now ∙ found_other old offsets at o apart ∙ there,
          written_others mid new shape root stored.stand offsets at there_now w long wrote o a mid_there apart ∙ kept_mid o a there,
        );
    k = written_k mid new shape root stored.stand offsets at there_now w long wrote ∙ stored.k;
    moves = moves_then s mid new (chunk_blocks_told s.bytes shape root) (chunk_blocks_told mid.bytes shape root) (chunk_blocks_told new.bytes shape root) stored.moves
        (written_moves mid new shape root stored.stand offsets at there_now w long wrote);
    bushy = λ low is. written_bushy mid new shape root stored.stand offsets at there_now w long wrote low (bushy low is);
  }
