-- Texts of a heap that become free, where the heap was kept before.
use Rattle.std.proofs.Common.{◌≡◌, ℕ, List, [], ◌∷◌, refl, sym, ap, ◌∙◌, subst}
use Rattle.h5_bytes.specs.Blocks.{block}
use Rattle.h5_model.specs.Format.Heap.{free_head, heap_header, segment_of, segment_place, segment_size, span_of}
use Rattle.h5_heap.specs.Edited.{HasReleased, first_free, list_start}
use Rattle.h5_heap.specs.Released.{Releases}
use Rattle.h5_snod.specs.declared.entry.SymbolEntry.{SymbolEntry}
use Rattle.h5_snod.specs.declared.entry.SymbolTarget.{SymbolTarget}
use Rattle.h5_snod.specs.declared.entry.SymbolTarget.TheVariants as target
use Rattle.h5_group.specs.Removal.{AreReleased, offsets_named}

-- what was kept first
pub released_from : (old between new : List ℕ) (heap offset : ℕ) → heap_header between heap ≡ heap_header old heap → segment_of between heap ≡ segment_of old heap
    → HasReleased between new heap offset (span_of (segment_of between heap) offset).len → HasReleased old new heap offset (span_of (segment_of old heap) offset).len
released_from old between new heap offset header segment has =
    let len : (span_of (segment_of between heap) offset).len ≡ (span_of (segment_of old heap) offset).len = ap (λ (seg : List ℕ). (span_of seg offset).len) segment in
    let first : first_free between heap ≡ first_free old heap = ap (λ (h : List ℕ). list_start (free_head h)) header in
    record {
      standing = has.standing;
      blocks = has.blocks ∙ ap (λ (h : List ℕ). block heap 32 ∷ block (segment_place h) (segment_size h) ∷ []) header;
      head = has.head;
      released = subst (λ (seg : List ℕ). Releases seg (segment_of new heap) (first_free old heap) (first_free new heap) offset (span_of seg offset).len) segment
          (subst (λ (f : ℕ). Releases (segment_of between heap) (segment_of new heap) f (first_free new heap) offset (span_of (segment_of between heap) offset).len) first has.released);
    }

-- the name of an entry, and then its text, if it is of a soft link
pub one_released : (old new : List ℕ) (heap : ℕ) (e : SymbolEntry) → ((text : ℕ) → e.target ≡ target.Text text → ⊥)
    → HasReleased old new heap e.name (span_of (segment_of old heap) e.name).len → AreReleased old new heap (offsets_named e)
one_released old new heap e other has = by_target e.target other where
  by_target : (t : SymbolTarget) → ((text : ℕ) → t ≡ target.Text text → ⊥) → AreReleased old new heap (offsets_named (record { name = e.name; target = t }))
  by_target (target.Header header) none = (new, has, (refl, refl))
  by_target (target.Text text) none = absurd (none text refl)

pub two_released : (old between new : List ℕ) (heap : ℕ) (e : SymbolEntry) (text read : ℕ) → e.target ≡ target.Text text → read ≡ text
    → HasReleased old between heap e.name (span_of (segment_of old heap) e.name).len
    → HasReleased between new heap read (span_of (segment_of between heap) read).len → AreReleased old new heap (offsets_named e)
two_released old between new heap e text read is from first second =
    subst (λ (t : SymbolTarget). AreReleased old new heap (offsets_named (record { name = e.name; target = t }))) (sym is)
    (between, first, (new, subst (λ (o : ℕ). HasReleased between new heap o (span_of (segment_of between heap) o).len) from second, (refl, refl)))

-- what is kept afterwards
pub released_then : (old between new : List ℕ) (heap : ℕ) (offsets : List ℕ) → heap_header new heap ≡ heap_header between heap → segment_of new heap ≡ segment_of between heap
    → AreReleased old between heap offsets → AreReleased old new heap offsets
released_then old between new heap [] header segment is = (header ∙ is.0, segment ∙ is.1)
released_then old between new heap (offset ∷ offsets) header segment is = (is.0, is.1, released_then is.0 between new heap offsets header segment is.2)
