-- A chunk is put into a tree of chunks that were read: beside the child at the end of the way to it, once the end keys of the nodes on that way
-- gave way (File Format Specification 3.0, section III.A.1).
use Rattle.std.proofs.Common.{◌≡◌, ℕ, zero, suc, ◌+◌, ◌^◌, ◌<◌, Bool, true, false, List, [], ◌∷◌, ◌++◌, length, get_or, Some, None, inl, inr, refl, sym, ap, ◌∙◌, subst, arith}
use Rattle.std.proofs.lemmas.Bool.{cases_lt}
use Rattle.std.specs.Prelude.{if◌then◌else◌, slice_index_or}
use Rattle.std.specs.declared.cmp.Ordering.TheVariants.{Equal}
use Rattle.std.specs.Cmp.Lexicographic.{slice_cmp}
use Rattle.std.specs.FinMap.{get, values}
use Rattle.std.specs.List.{AllByRecursion, insert}
use Rattle.std.specs.Ordering.{nat_cmp}
use Rattle.std.proofs.lemmas.Option.{slice_get-get_or}
use Rattle.h5_bytes.specs.Blocks.{cover}
use Rattle.h5_model.specs.Format.Chunks.{IsChunkKey, all_offsets_in, offsets_in}
use Rattle.h5_model.specs.Format.Links.{Before, NotAfter}
use Rattle.h5_model.specs.Format.Nodes.{Kind, node_at, tree_blocks}
use Rattle.h5_model.specs.Format.Reached.{Shape, level_at, shape_kind}
use Rattle.h5_model.specs.Format.Rows.{Reading}
use Rattle.h5_laws.specs.KeyEdits.{IsPut}
use Rattle.h5_model.specs.Format.Superblock.{k_values}
use Rattle.h5_space.specs.Moves.{Moves}
use Rattle.h5_space.specs.Space.{Space}
use Rattle.h5_space.proofs.MovesLaws.{moves_then}
use Rattle.h5_btree.specs.Descent.{EndsAt, IsChildFor, IsWayTo}
use Rattle.h5_btree.specs.Insertion.{IsChildPut, IsFullWay}
use Rattle.h5_btree.specs.Keyed.{items_of_tree}
use Rattle.h5_btree.specs.Removal.{EndsInTree}
use Rattle.h5_btree.specs.Widened.{IsWidened, ends_along}
use Rattle.h5_btree.specs.declared.way.Step.{Step}
use Rattle.h5_btree.proofs.KeyedOwn.{keys_count}
use Rattle.h5_btree.proofs.WaysDown.{IsChosen, first_ends, way_chosen}
use Rattle.h5_chunks.specs.Bushy.{IsBushy, IsBushyBelow}
use Rattle.h5_chunks.specs.Edited.{CanBeStored, IsFullAt}
use Rattle.h5_chunks.specs.Put.{HasChunkPut, IsBlockBeside, IsKeyBehind, IsPutBeside, IsWayWidened}
use Rattle.h5_chunks.specs.Shapes.{AreChunkSizes}
use Rattle.h5_chunks.specs.Told.{chunk_blocks_told, chunks_told, listed_told}
use Rattle.h5_chunks.specs.Way.{chunk_behind}
use Rattle.h5_chunks.proofs.BehindLaws.{length-offsets}
use Rattle.h5_chunks.proofs.BushyPuts.{bushy_put, bushy_widened}
use Rattle.h5_chunks.proofs.BushyTrees.{bushy_below, bushy_told}
use Rattle.h5_chunks.proofs.ChunkBlocks.{chunk_put, nodes_beside}
use Rattle.h5_chunks.proofs.ChunkFound.{chunk_found, each_rises, stored_there}
use Rattle.h5_chunks.proofs.SoughtWays.{behind_at, behind_same}
use Rattle.h5_chunks.proofs.FullWays.{few_steps, full_of, own_ends, own_way}
use Rattle.h5_chunks.proofs.InsertedChunk.{IsChunkBefore}
use Rattle.h5_chunks.proofs.KeyedTold.{IsOrderedTree, chunk_numbers, chunk_of, items_told, items_told-kind, keyed_at, own_order, own_tree, to_order}
use Rattle.h5_chunks.proofs.KeysPast.{key_past}
use Rattle.h5_chunks.proofs.PutChunks.{chunk_comes}
use Rattle.h5_chunks.proofs.Readable.{keyed_there}
use Rattle.h5_chunks.proofs.SuperblockStays.{k_stays, kind_stays}
use Rattle.h5_chunks.proofs.WidenedChunks.{admits, ends_now, first_left, first_low, full_before, items_now, moves_now, ordered_now}

module _ (s : Space) (shape : Shape) (root chunk : ℕ) (beside : IsBlockBeside s shape root chunk) (short : length s.bytes < 2 ^ 64) where
  abbrev kind : Kind
  kind = shape_kind s.bytes shape

  abbrev V : Reading
  V = node_at s.bytes kind

  abbrev rank : ℕ
  rank = length shape.sizes

  abbrev level : ℕ
  level = (beside.read.stored).level

  abbrev owned : List ℕ
  owned = (beside.read.stored).owned

  abbrev list : List ℕ
  list = values (chunks_told s.bytes shape root)

  pub ordered_before : IsOrderedTree (shape_kind s.bytes shape) s.bytes shape root (beside.read.stored).level (beside.read.stored).owned (values (chunks_told s.bytes shape root))
      (stored_there s.bytes shape root beside.read)
  ordered_before = to_order kind s.bytes shape root level owned list (stored_there s.bytes shape root beside.read) (each_rises s.bytes shape root beside.read)
      (keyed_there s.bytes shape root (chunks_told s.bytes shape root) (chunk_blocks_told s.bytes shape root) beside.read.stored)

  module _ (sizes : AreChunkSizes shape.sizes) (storable : CanBeStored shape) (key : List ℕ) (keyed : IsChunkKey shape.sizes shape.bytes key)
      (way : List Step) (to : IsWayTo (node_at s.bytes (shape_kind s.bytes shape)) (chunk_behind (offsets_in (length shape.sizes) key)) (level_at s.bytes (shape_kind s.bytes shape) root) root way) where
    abbrev offsets : List ℕ
    offsets = offsets_in rank key

    same : length offsets ≡ rank
    same = length-offsets shape.sizes key

    pub way_ends : (k : ℕ) × EndsInTree s (shape_kind s.bytes shape) root (beside.read.stored).level way (beside.read.stored).owned (values (chunks_told s.bytes shape root)) k
    way_ends = own_ends s shape root beside.read (λ p. omega (arith, beside.apart p)) short offsets same way to

    abbrev e : EndsInTree s kind root level way owned list way_ends.0
    e = way_ends.1

    own_to : IsWayTo V (behind_at rank offsets) level root way
    own_to = own_way s shape root beside.read (λ p. omega (arith, beside.apart p)) short offsets same way to

    choices : AllByRecursion (IsChosen V (behind_at rank offsets)) way
    choices = way_chosen V (behind_at rank offsets) level root way own_to

    first_choice : IsChildFor (behind_at rank offsets) (V (e.step).node) (e.step).place
    first_choice = (subst (AllByRecursion (IsChosen V (behind_at rank offsets))) e.way_is choices).0

    abbrev kk : List ℕ
    kk = get_or (V (e.step).node).keys (e.step).place []

    own : all_offsets_in rank key ≡ offsets ++ 0 ∷ []
    own = chunk_numbers shape.sizes shape.bytes key keyed

    -- the chunk at the end of the way is another one, where this one is not stored
    other : get (chunks_told s.bytes shape root) offsets ≡ None → slice_cmp nat_cmp (all_offsets_in rank kk) (offsets ++ 0 ∷ []) ≡ Equal → ⊥
    other absent is =
        let n = V (e.step).node in
        let i = (e.step).place in
        let ends : EndsAt V (chunk_behind offsets) (level_at s.bytes kind root) root n i
        = first_ends V (chunk_behind offsets) (level_at s.bytes kind root) root e.step e.above (subst (IsWayTo V (chunk_behind offsets) (level_at s.bytes kind root) root) e.way_is to) in
        let low = first_choice.child in
        let long = keys_count s.bytes kind (e.step).node in
        let there = chunk_found s.bytes shape root beside.read offsets same n i ends kk (slice_get-get_or n.keys i [] (omega (arith, low, long)))
        (get_or n.children i 0) (slice_get-get_or n.children i 0 low) is in
        let never : Some (get_or n.children i 0) ≡ None = sym there ∙ absent in
        cc

    module _ (last : List ℕ) (behind_key : IsKeyBehind shape.sizes key last) (u : Space) (wide : IsWayWidened s u (shape_kind s.bytes shape) (offsets_in (length shape.sizes) key) way key last) where
      past : Before (offsets ++ 0 ∷ []) (all_offsets_in rank last)
      past =
          let ranked = storable.ranked in
          key_past shape.sizes key last behind_key ranked (sizes.some 0 (omega (arith, ranked)))

      widened : IsWidened s u kind way (ends_along V (behind_at rank offsets) 1 way) key last
      widened = subst (λ (b : List ℕ → Bool). IsWidened s u kind way (ends_along V b 1 way) key last) (behind_same rank offsets same) wide.widened

      pub ends_then : EndsInTree u (shape_kind s.bytes shape) root (beside.read.stored).level way (beside.read.stored).owned (values (chunks_told s.bytes shape root)) way_ends.0
      ends_then = ends_now kind beside.read.k_some s u shape offsets root level way owned list way_ends.0 e key last wide.tree widened wide.others choices own past

      -- where the tree has room, the root can be raised
      pub low_then : (IsFullAt s.bytes shape root (offsets_in (length shape.sizes) key) → ⊥) → IsFullWay u.bytes (shape_kind s.bytes shape) way → length way < 16
      low_then roomy full = elim (cases_lt (length way) 16) [
        | inl low ↦ low
        | inr high ↦
            let few = few_steps s shape root beside.read (λ p. omega (arith, beside.apart p)) short offsets same way to in
            let all : length way ≡ 16 = omega (arith, few, high) in
            let full_then = full_before kind beside.read.k_some s u shape offsets root level way owned list way_ends.0 e key last wide.tree widened wide.others choices own past full in
            absurd (roomy (full_of s shape root beside.read (λ p. omega (arith, beside.apart p)) short offsets same way to all full_then))
      ]

      module _ (absent : get (chunks_told s.bytes shape root) (offsets_in (length shape.sizes) key) ≡ None) (behind : Bool)
          (test : behind ≡ chunk_behind (offsets_in (length shape.sizes) key)
          (slice_index_or (node_at s.bytes (shape_kind s.bytes shape) (way_ends.1.step).node).keys (way_ends.1.step).place []))
          (t : Space) (put : IsPutBeside u t (shape_kind s.bytes shape) way behind key chunk) where
        abbrev U : Reading
        U = node_at u.bytes kind

        abbrev e' : EndsInTree u kind root level way owned list way_ends.0
        e' = ends_then

        both_steps : e.step ∷ e.above ≡ (e').step ∷ (e').above
        both_steps = sym e.way_is ∙ (e').way_is

        step_same : e.step ≡ (e').step
        step_same = let both = both_steps in cc

        above_same : e.above ≡ (e').above
        above_same = let both = both_steps in cc

        ordered_u : IsOrderedTree kind u.bytes shape root level owned list (e').tree
        ordered_u = ordered_now kind beside.read.k_some s u shape offsets root level way owned list way_ends.0 e key last wide.tree widened wide.others choices own past ordered_before

        key_stays : get_or (U (e.step).node).keys (e.step).place [] ≡ kk
        key_stays = first_low kind beside.read.k_some s u shape offsets root level way owned list way_ends.0 e key last wide.tree widened wide.others choices own past

        test_here : behind ≡ behind_at rank offsets kk
        test_here = test ∙ ap (λ (b : List ℕ → Bool). b kk) (behind_same rank offsets same)

        test_u : behind ≡ behind_at rank offsets (get_or (U (e').step.node).keys (e').step.place [])
        test_u = subst (λ (st : Step). behind ≡ behind_at rank offsets (get_or (U st.node).keys st.place [])) step_same
            (test_here ∙ ap (behind_at rank offsets) (sym key_stays))

        first_here : behind ≡ false → (e.step).place ≡ 0
        first_here off = by_place (e.step).place refl where
          by_place : (n : ℕ) → (e.step).place ≡ n → n ≡ 0
          by_place zero is = refl
          by_place (suc n) is =
              let on : behind_at rank offsets kk ≡ true = first_choice.low (omega (arith, is)) in
              let never : false ≡ true = sym off ∙ test_here ∙ on in
              absurd (cc)

        first_u : behind ≡ false → (e').step.place ≡ 0
        first_u off = subst (λ (st : Step). st.place ≡ 0) step_same (first_here off)

        other_u : slice_cmp nat_cmp (all_offsets_in rank (get_or (U (e').step.node).keys (e').step.place [])) (offsets ++ 0 ∷ []) ≡ Equal → ⊥
        other_u = subst (λ (st : Step). slice_cmp nat_cmp (all_offsets_in rank (get_or (U st.node).keys st.place [])) (offsets ++ 0 ∷ []) ≡ Equal → ⊥) step_same
            (λ is. other absent (subst (λ (k : List ℕ). slice_cmp nat_cmp (all_offsets_in rank k) (offsets ++ 0 ∷ []) ≡ Equal) key_stays is))

        left_u : Before (offsets ++ 0 ∷ []) (all_offsets_in rank (get_or (U (e').step.node).keys (suc (e').step.place) []))
        left_u = subst (λ (st : Step). Before (offsets ++ 0 ∷ []) (all_offsets_in rank (get_or (U st.node).keys (suc st.place) []))) step_same
            (first_left kind beside.read.k_some s u shape offsets root level way owned list way_ends.0 e key last wide.tree widened wide.others choices own past)

        abbrev Admits : Step → Type 0
        Admits st = NotAfter (all_offsets_in rank (get_or (U st.node).keys st.place [])) (offsets ++ 0 ∷ [])
            × Before (offsets ++ 0 ∷ []) (all_offsets_in rank (get_or (U st.node).keys (suc st.place) []))

        admits_u : AllByRecursion Admits (e').above
        admits_u = subst (AllByRecursion Admits) above_same
            (admits kind beside.read.k_some s u shape offsets root level way owned list way_ends.0 e key last wide.tree widened wide.others choices own past)

        put_u : (height : ℕ) × (all : List ℕ) × IsChildPut u t kind root height (insert list (if behind then way_ends.0 + 1 else way_ends.0) chunk) owned all
        put_u = put.put root level way_ends.0 owned list e'

        -- the tree's blocks are moved, and the superblock is none of them
        moved : Moves s t (tree_blocks kind owned) (tree_blocks kind put_u.1)
        moved = moves_then s u t (tree_blocks kind owned) (tree_blocks kind owned) (tree_blocks kind put_u.1)
            (moves_now kind beside.read.k_some s u shape offsets root level way owned list way_ends.0 e key last wide.tree widened wide.others choices own past) (put_u.2).moves

        k_t : k_values t.bytes ≡ k_values s.bytes
        k_t = k_stays s t (tree_blocks kind owned) (tree_blocks kind put_u.1) [] moved (nodes_beside s shape root chunk beside) beside.long

        kind_t : shape_kind t.bytes shape ≡ kind
        kind_t = kind_stays s t shape k_t

        abbrev list' : List ℕ
        list' = insert list (if behind then way_ends.0 + 1 else way_ends.0) chunk

        comes : IsOrderedTree kind t.bytes shape root put_u.0 put_u.1 list' (put_u.2).tree
            × IsPut IsChunkBefore (offsets, chunk) (items_of_tree (chunk_of rank) u.bytes kind keyed_at level root) (items_of_tree (chunk_of rank) t.bytes kind keyed_at put_u.0 root)
        unfolding put_u
        comes = chunk_comes kind beside.read.k_some u t shape root level way owned list way_ends.0 e' ordered_u behind key chunk put keyed last past test_u first_u other_u left_u admits_u

        more : IsPut IsChunkBefore (offsets, chunk) (listed_told s.bytes shape root) (listed_told t.bytes shape root)
        more =
            let was : items_of_tree (chunk_of rank) u.bytes kind keyed_at level root ≡ listed_told s.bytes shape root
            = items_now kind beside.read.k_some s u shape offsets root level way owned list way_ends.0 e key last wide.tree widened wide.others choices own past ordered_before
            ∙ items_told s.bytes shape root level owned list (stored_there s.bytes shape root beside.read) ordered_before in
            let now : items_of_tree (chunk_of rank) t.bytes kind keyed_at put_u.0 root ≡ listed_told t.bytes shape root
            = items_told-kind kind t.bytes shape kind_t root put_u.0 put_u.1 list' (put_u.2).tree comes.0 in
            subst (IsPut IsChunkBefore (offsets, chunk) (listed_told s.bytes shape root)) now
            (subst (λ (es : List (List ℕ × ℕ)). IsPut IsChunkBefore (offsets, chunk) es (items_of_tree (chunk_of rank) t.bytes kind keyed_at put_u.0 root)) was comes.1)

        -- THE CHUNK IS PUT IN
        pub put_in : HasChunkPut s t shape root (offsets_in (length shape.sizes) key) chunk
        put_in =
            chunk_put s t shape root chunk beside storable.some owned list (λ p. ap (cover p) (beside.read.stored).laid) refl put_u.0 put_u.1
            (if behind then way_ends.0 + 1 else way_ends.0) k_t
            (subst (λ (k : Kind). Moves s t (tree_blocks kind owned) (tree_blocks k put_u.1)) (sym kind_t) moved)
            (own_tree kind t.bytes shape kind_t root put_u.0 put_u.1 list' (put_u.2).tree comes.0)
            (own_order kind t.bytes shape kind_t root put_u.0 put_u.1 list' (put_u.2).tree comes.0) offsets more

        -- and nodes that are half full stay so
        pub bushy_in : (up : ℕ) → IsBushy s.bytes shape root up → IsBushy t.bytes shape root up
        bushy_in up bushy =
            let old = bushy_below s.bytes shape root level up owned list (stored_there s.bytes shape root beside.read) bushy in
            let then_so = bushy_widened s.bytes u.bytes kind key last root level owned list (stored_there s.bytes shape root beside.read) way
            (ends_along V (behind_at rank offsets) 1 way) widened.keys (wide.others root level way_ends.0 owned list e) up old in
            let now = bushy_put u t kind root level way owned list way_ends.0 e' beside.read.k_some behind put.keys chunk (put.along (e').step (e').above (e').way_is)
            (put.others root level way_ends.0 owned list e') up put_u.0 put_u.1 list' (put_u.2).tree then_so in
            bushy_told t.bytes shape root put_u.0 up put_u.1 list' (own_tree kind t.bytes shape kind_t root put_u.0 put_u.1 list' (put_u.2).tree comes.0)
            (subst (λ (k : Kind). IsBushyBelow (node_at t.bytes k) k.k up put_u.0 root) (sym kind_t) now)
