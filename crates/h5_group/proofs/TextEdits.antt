-- A text that comes into a group's heap, and one that goes out of it.
use Rattle.std.proofs.Common.{◌≡◌, ◌≢◌, ℕ, ◌+◌, ◌-◌, ◌^◌, ◌<◌, ◌≤◌, List, ◌∷◌, ◌++◌, length, inl, inr, sym, ap, subst, arith}
use Rattle.std.specs.List.{AllByRecursion, Contains}
use Rattle.std.proofs.lemmas.Bool.{cases_lt}
use Rattle.std.proofs.lemmas.List.Elements.{Contains-append_left, Contains-append_right}
use Rattle.h5_bytes.specs.Blocks.{holds, cover}
use Rattle.h5_bytes.specs.declared.Block.{Block}
use Rattle.h5_bytes.proofs.BlockLaws.{holds_in}
use Rattle.h5_model.specs.Format.Addresses.{SymbolTable}
use Rattle.h5_model.specs.Format.Heap.{HasNames, KeyNames, segment_of, span_of, heap_blocks}
use Rattle.h5_model.specs.Format.Symbols.{Target}
use Rattle.h5_space.specs.Space.{Space}
use Rattle.h5_space.specs.Moves.{Moves, Spends}
use Rattle.h5_heap.specs.Edited.{IsStandingHeap, HasReleased, first_free, free_blocks}
use Rattle.h5_heap.specs.Inserted.{HasInserted}
use Rattle.h5_heap.specs.Spans.{IsSpan}
use Rattle.h5_heap.proofs.EditedLaws.{standing_chain, segment_long, spends_same}
use Rattle.h5_heap.proofs.NameLaws.{each_of}
use Rattle.h5_heap.proofs.WriteLaws.Standing.{HasNoZero}
use Rattle.h5_group.specs.Edited.{IsGroupIn, HasGroupMoved, IsNamedByNoKey, heap_text}
use Rattle.h5_group.specs.KeptNodes.{AreNodesKept, keys_told}
use Rattle.h5_group.specs.Nodes.Trees.{kind_in}
use Rattle.h5_group.proofs.HeapLinks.{IsTextKept}
use Rattle.h5_group.proofs.HeapMoves.{name_offsets, text_offsets, keys, keys_there, heap_stands, heap_names, group_moved, nodes_stay, told_stay}
use Rattle.h5_group.proofs.LooseTexts as loose

-- where all these texts stay, a spare one does
spare_kept : (P : ℕ → Type 0) (linked spare more : List ℕ) → AllByRecursion P (linked ++ (spare ++ more)) → (offset : ℕ) → Contains spare offset → P offset
spare_kept P linked spare more all offset there =
    each_of P (linked ++ (spare ++ more)) offset all (Contains-append_right linked (spare ++ more) offset (Contains-append_left spare more offset there))

-- ---- a text comes in

module _ (s t : Space) (table : SymbolTable) (text : List ℕ) (room at : ℕ) (has : HasInserted s.bytes t.bytes table.heap text room at) (zero_free : HasNoZero text)
    (links : List (List ℕ × Target)) (spare : List ℕ) (blocks : List Block) (g : IsGroupIn s table links spare blocks) where
  abbrev old : List ℕ
  old = segment_of s.bytes table.heap

  abbrev new : List ℕ
  new = segment_of t.bytes table.heap

  abbrev first : ℕ
  first = first_free s.bytes table.heap

  abbrev first' : ℕ
  first' = first_free t.bytes table.heap

  abbrev names : List ℕ
  names = name_offsets s table links spare blocks g

  abbrev texts : List ℕ
  texts = text_offsets s table links spare blocks g

  abbrev in_keys : List ℕ
  in_keys = keys s table links spare blocks g

  stands : IsStandingHeap s.bytes table.heap
  stands = heap_stands s table links spare blocks g

  some : 8 ≤ length old
  some = omega (arith, stands.form.size, segment_long s.bytes table.heap stands.inside)

  were : HasNames old (free_blocks s.bytes table.heap) names texts in_keys (spare ++ g.more)
  were = heap_names s table links spare blocks g

  all_kept : AllByRecursion (IsTextKept old new) (names ++ texts ++ (spare ++ g.more))
  all_kept = loose.texts_kept old new first first' text room at has.inserted zero_free (standing_chain s.bytes table.heap stands) some names texts in_keys (spare ++ g.more) were

  module _ (moves : Moves s t (heap_blocks s.bytes table.heap) (heap_blocks t.bytes table.heap)) (short : length t.bytes < 2 ^ 63) where
    then : HasNames new (free_blocks t.bytes table.heap) names texts in_keys ((at ∷ spare) ++ g.more)
    then = loose.loose_more old new first first' text room at has.inserted zero_free (standing_chain s.bytes table.heap stands) some names texts in_keys (spare ++ g.more) were

    pub text_added : HasGroupMoved s t table blocks links (at ∷ spare)
    text_added = group_moved s table links spare blocks g t moves has.standing short (spare ++ g.more) all_kept were.keyed (at ∷ spare) g.more then

    pub added_nodes : AreNodesKept s t table (g.linked).owned
    added_nodes = nodes_stay s table links spare blocks g t moves has.standing short (spare ++ g.more) all_kept were.keyed (at ∷ spare) g.more then

    pub added_keys : keys_told t.bytes table ≡ keys_told s.bytes table
    added_keys = told_stay s table links spare blocks g t moves has.standing short (spare ++ g.more) all_kept were.keyed (at ∷ spare) g.more then

  pub added_kept : (offset : ℕ) → Contains spare offset → heap_text t table offset ≡ heap_text s table offset
  added_kept offset there = spare_kept (IsTextKept old new) (names ++ texts) spare g.more all_kept offset there

-- ---- a text goes

module _ (s : Space) (table : SymbolTable) (at : ℕ) (links : List (List ℕ × Target)) (spare : List ℕ) (blocks : List Block)
    (g : IsGroupIn s table links (at ∷ spare) blocks) where
  abbrev segment : List ℕ
  segment = segment_of s.bytes table.heap

  abbrev own_names : List ℕ
  own_names = name_offsets s table links (at ∷ spare) blocks g

  abbrev own_texts : List ℕ
  own_texts = text_offsets s table links (at ∷ spare) blocks g

  abbrev own_keys : List ℕ
  own_keys = keys s table links (at ∷ spare) blocks g

  own : HasNames segment (free_blocks s.bytes table.heap) own_names own_texts own_keys (at ∷ (spare ++ g.more))
  own = heap_names s table links (at ∷ spare) blocks g

  pub spare_span : IsSpan segment at
  spare_span = loose.first_span segment (free_blocks s.bytes table.heap) own_names own_texts own_keys at (spare ++ g.more) own

  pub spare_apart : (p : ℕ) → cover p (free_blocks s.bytes table.heap) + holds p at (span_of segment at).len ≤ 1
  spare_apart = loose.first_apart segment (free_blocks s.bytes table.heap) own_names own_texts own_keys at (spare ++ g.more) own

  module _ (t : Space) (has : HasReleased s.bytes t.bytes table.heap at (span_of (segment_of s.bytes table.heap) at).len) where
    abbrev segment' : List ℕ
    segment' = segment_of t.bytes table.heap

    others : AllByRecursion (IsTextKept segment segment') (own_names ++ own_texts ++ (spare ++ g.more))
    others = loose.others_kept segment segment' (first_free s.bytes table.heap) (first_free t.bytes table.heap) at has.released own_names own_texts own_keys (spare ++ g.more) own

    pub freed_kept : (offset : ℕ) → Contains spare offset → heap_text t table offset ≡ heap_text s table offset
    freed_kept offset there = spare_kept (IsTextKept segment segment') (own_names ++ own_texts) spare g.more others offset there

    module _ (unnamed : IsNamedByNoKey s table links (at ∷ spare) blocks g at) (moves : Moves s t (heap_blocks s.bytes table.heap) (heap_blocks s.bytes table.heap))
        (short : length t.bytes < 2 ^ 63) where
      none : AllByRecursion (λ key. key ≢ at) own_keys
      none = subst (AllByRecursion (λ key. key ≢ at)) (keys_there s.bytes (kind_in s.bytes) (g.linked).owned) unnamed

      moved : Moves s t (heap_blocks s.bytes table.heap) (heap_blocks t.bytes table.heap)
      moved = subst (Moves s t (heap_blocks s.bytes table.heap)) (sym has.blocks) moves

      named : AllByRecursion (KeyNames (own_names ++ own_texts) (spare ++ g.more)) own_keys
      named = loose.still_named segment segment' (first_free s.bytes table.heap) (first_free t.bytes table.heap) at has.released own_names own_texts own_keys (spare ++ g.more) own none

      less : HasNames segment' (free_blocks t.bytes table.heap) own_names own_texts own_keys (spare ++ g.more)
      less = loose.loose_less segment segment' (first_free s.bytes table.heap) (first_free t.bytes table.heap) at has.released own_names own_texts own_keys (spare ++ g.more) own none

      pub text_freed : HasGroupMoved s t table blocks links spare
      text_freed = group_moved s table links (at ∷ spare) blocks g t moved has.standing short (spare ++ g.more) others named spare g.more less

      pub freed_nodes : AreNodesKept s t table (g.linked).owned
      freed_nodes = nodes_stay s table links (at ∷ spare) blocks g t moved has.standing short (spare ++ g.more) others named spare g.more less

      pub freed_keys : keys_told t.bytes table ≡ keys_told s.bytes table
      freed_keys = told_stay s table links (at ∷ spare) blocks g t moved has.standing short (spare ++ g.more) others named spare g.more less

-- ---- an image that stays as long

-- where blocks stay and the free ones do, no byte is added
pub moved_long : (s t : Space) (bs : List Block) → Moves s t bs bs → t.free ≡ s.free → length t.bytes ≡ length s.bytes
moved_long s t bs moves free = elim (cases_lt (length s.bytes) (length t.bytes)) [
  | inl longer ↦ absurd (omega (
    arith,
    moves.moved (length s.bytes),
    ap (cover (length s.bytes)) free,
    holds_in (length s.bytes) (length s.bytes) (length t.bytes - length s.bytes) (omega arith) (omega (arith, longer)),
  ))
  | inr same ↦ omega (arith, same, moves.grown)
]

pub spends_nothing : (s t : Space) (bs : List Block) → Moves s t bs bs → t.free ≡ s.free → (t.room_bytes ≡ s.room_bytes) × (t.room_blocks ≡ s.room_blocks) → Spends s t 0 0
spends_nothing s t bs moves free room = spends_same s t (moved_long s t bs moves free) room.0 room.1
