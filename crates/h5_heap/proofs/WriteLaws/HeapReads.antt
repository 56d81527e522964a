-- Where the bytes of a group's heap stand, the heap does, with its segment behind its header; and its entries' numbers fit.
use Rattle.std.proofs.Common.{◌≡◌, ℕ, ◌+◌, ◌%◌, ◌^◌, ◌<◌, ◌≤◌, List, [], ◌∷◌, map, length, inl, inr, refl, sym, ap, ◌∙◌, subst, arith}
use Rattle.std.specs.Prelude.{nat_le, if◌then◌else◌}
use Rattle.std.specs.List.{AllByRecursion}
use Rattle.std.proofs.lemmas.Bool.Decides.{leb_tells}
use Rattle.std.proofs.lemmas.List.Sums.{sum_by-cons}
use Rattle.h5_bytes.specs.Bytes.{part}
use Rattle.h5_bytes.specs.Texts.{text_at}
use Rattle.h5_bytes.specs.Blocks.{block}
use Rattle.h5_bytes.proofs.PartLaws.{part-part, part-front, part-behind, part-whole}
use Rattle.h5_model.specs.Format.Heap.{IsHeap, heap_header, segment_size, segment_place}
use Rattle.h5_model.specs.Format.Plain.{heap_header_bytes, texts_bytes, free_head_of}
use Rattle.h5_model.specs.Format.Sizes.{text_span}
use Rattle.h5_heap.specs.Writing.Laws.{IsSpelled, IsEntryLow, EntriesLow, IsPlainHeap, HeapReads}
use Rattle.h5_heap.specs.Writing.Links.{Leads, ToGroup, ToArray, ToText, heap_texts}
use Rattle.h5_heap.specs.Writing.Written.{written_entry, links_with_offsets, texts_span, written_segment, heap_bytes}
use Rattle.h5_heap.proofs.WriteLaws.Lengths.{links_span, length-used, length-heap_bytes, used-le, segment_is}
use Rattle.h5_heap.proofs.WriteLaws.Standing.{links_stand, named_from}
use Rattle.h5_heap.proofs.WriteLaws.Spans.{free_blocks, spans_of}
use Rattle.h5_heap.proofs.WriteLaws.Form.{size_in_header, place_in_header, heap_form_of}

-- ---- entries

low_from : (links : List (List ℕ × Leads)) (at : ℕ) → AllByRecursion IsSpelled links → at + links_span links < 2 ^ 32
    → AllByRecursion IsEntryLow (map written_entry (links_with_offsets at links))
low_from [] at is low = tt
low_from ((name, ToText text) ∷ links) at is low =
    let sum = sum_by-cons texts_span (name, ToText text) links in
    ((omega arith, omega arith, omega arith, omega arith), low_from links (at + (text_span name + text_span text)) is.1 (omega arith))
low_from ((name, ToGroup header tree heap) ∷ links) at is low =
    let sum = sum_by-cons texts_span (name, ToGroup header tree heap) links in
    ((omega arith, omega (arith, is.0.1.0), omega arith, omega (arith, is.0.1.1)), low_from links (at + text_span name) is.1 (omega arith))
low_from ((name, ToArray header) ∷ links) at is low =
    let sum = sum_by-cons texts_span (name, ToArray header) links in
    ((omega arith, omega (arith, is.0.1), omega arith, omega arith), low_from links (at + text_span name) is.1 (omega arith))

pub entries_low : EntriesLow
entries_low links is low = low_from links 8 is (omega (arith, used-le links))

-- ---- the used bytes

span_aligned : (links : List (List ℕ × Leads)) → links_span links % 8 ≡ 0
span_aligned [] = refl
span_aligned ((name, ToText text) ∷ links) = omega (arith, sum_by-cons texts_span (name, ToText text) links, span_aligned links)
span_aligned ((name, ToGroup header tree heap) ∷ links) = omega (arith, sum_by-cons texts_span (name, ToGroup header tree heap) links, span_aligned links)
span_aligned ((name, ToArray header) ∷ links) = omega (arith, sum_by-cons texts_span (name, ToArray header) links, span_aligned links)

head_few : (n : ℕ) → (if nat_le n 72 then n else 1) ≤ 72
head_few n = elim (leb_tells n 72) [
  | inl few ↦ rw few.0 few.1
  | inr many ↦ rw many.0 (omega arith)
]

empty_first : (links : List (List ℕ × Leads)) → text_at (written_segment links) 0 ≡ []
unfolding text_at
empty_first links = ap (λ bytes. text_at bytes 0) (segment_is links)

-- ---- the heap

module _ (at : ℕ) (links : List (List ℕ × Leads)) where
  abbrev header : List ℕ
  header = heap_header_bytes (length (written_segment links)) (free_head_of (heap_texts links)) (at + 32)

  header_in : part 0 32 (heap_bytes at links) ≡ header
  unfolding heap_bytes
  header_in = part-front header (written_segment links)

  segment_in : part 32 (length (written_segment links)) (heap_bytes at links) ≡ written_segment links
  unfolding heap_bytes
  segment_in = part-behind header (written_segment links) 0 (length (written_segment links)) ∙ part-whole (written_segment links)

  module _ (image : List ℕ) (low : at + length (heap_bytes at links) < 2 ^ 32) (there : part at (length (heap_bytes at links)) image ≡ heap_bytes at links) where
    header_there : heap_header image at ≡ header
    header_there =
        let front : at + 0 ≡ at = omega arith in
        rw front at (sym (part-part 0 32 at (length (heap_bytes at links)) image (omega (arith, length-heap_bytes at links)))) ∙ ap (part 0 32) there ∙ header_in

    segment_there : part (at + 32) (length (written_segment links)) image ≡ written_segment links
    segment_there =
        sym (part-part 32 (length (written_segment links)) at (length (heap_bytes at links)) image (omega (arith, length-heap_bytes at links)))
        ∙ ap (part 32 (length (written_segment links))) there ∙ segment_in

    size_low : length (written_segment links) < 2 ^ 64
    size_low = omega (arith, length-heap_bytes at links)

    head_low : free_head_of (heap_texts links) < 2 ^ 64
    head_low = omega (arith, head_few (length (texts_bytes (heap_texts links))))

    size_is : segment_size (heap_header image at) ≡ length (written_segment links)
    size_is = ap segment_size header_there ∙ size_in_header (length (written_segment links)) (free_head_of (heap_texts links)) (at + 32) size_low head_low (omega arith)

    place_is : segment_place (heap_header image at) ≡ at + 32
    place_is = ap segment_place header_there ∙ place_in_header (length (written_segment links)) (free_head_of (heap_texts links)) (at + 32) size_low head_low (omega arith)

    form : IsHeap (heap_header image at) (written_segment links) (free_blocks links)
    form =
        let used = length-used links in
        subst (λ bytes. IsHeap bytes (written_segment links) (free_blocks links)) (sym header_there)
        (heap_form_of (texts_bytes (heap_texts links)) (omega arith) (omega (arith, span_aligned links)) (at + 32)
        (omega (arith, length-heap_bytes at links, used-le links)) (omega arith))

    plain_heap : AllByRecursion IsSpelled links → IsPlainHeap image at links
    plain_heap is = record {
      segment = (λ i. part (place_is i) (size_is i) image) ∙ segment_there;
      blocks = λ i. block at 32 ∷ block (place_is i) (size_is i) ∷ [];
      named = named_from links (written_segment links) 8 (links_stand links is);
      empty = empty_first links;
      free = free_blocks links;
      heap_form = form;
      spans = spans_of links is;
    }

pub heap_reads : HeapReads
heap_reads image at links is low there = plain_heap at links image low there is
