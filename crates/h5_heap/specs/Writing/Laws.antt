-- What is shown of heaps in the plain layout: each link's texts stand where its entry says, and apart (File Format Specification 3.0,
-- section III.D).
use Rattle.std.specs.Prelude.{◌≡◌, ℕ, ◌+◌, ◌^◌, ◌<◌, ◌≤◌, ◌⊎◌, false, nat_le, if◌then◌else◌, List, [], ◌∷◌, map, length, sum_by}
use Rattle.std.specs.List.{AllByRecursion, Contains}
use Rattle.h5_bytes.specs.Bytes.{part}
use Rattle.h5_bytes.specs.Texts.{text_at}
use Rattle.h5_bytes.specs.Blocks.{block}
use Rattle.h5_bytes.specs.declared.Block.{Block}
use Rattle.h5_model.specs.Format.Heap.{IsHeap, HasNames, heap_header, heap_blocks}
use Rattle.h5_model.specs.Format.Heap as heap
use Rattle.h5_model.specs.Edits.Refusal.{has_zero}
use Rattle.h5_model.specs.Format.Symbols as symbols
use Rattle.h5_heap.specs.Writing.Links.{Leads, ToGroup, ToArray, ToText, target_link}
use Rattle.h5_heap.specs.Writing.Written.{texts_span, written_entries, written_segment, heap_bytes}

-- a text without a zero byte is the text of a soft link; addresses lie in an image
abbrev pub IsLead : Leads → Type 0
IsLead (ToGroup header tree heap) = (header < 2 ^ 32) × (tree < 2 ^ 32) × (heap < 2 ^ 32)
IsLead (ToArray header) = header < 2 ^ 32
IsLead (ToText text) = has_zero text ≡ false

abbrev pub IsSpelled : List ℕ × Leads → Type 0
IsSpelled l = (has_zero l.0 ≡ false) × IsLead l.1

-- The heap stands at this place, with its segment behind its header; its texts are those of the links; and their spans, and those of
-- keys that name the empty name or a link's, are apart.
pub record IsPlainHeap (image : List ℕ) (at : ℕ) (links : List (List ℕ × Leads)) : Type 0 where
  pub segment : heap.segment_of image at ≡ written_segment links
  pub blocks : heap_blocks image at ≡ block at 32 ∷ block (at + 32) (length (written_segment links)) ∷ []
  pub named : map (symbols.link_of (written_segment links)) (written_entries links) ≡ map target_link links
  pub empty : text_at (written_segment links) 0 ≡ []
  pub free : List Block
  pub heap_form : IsHeap (heap_header image at) (written_segment links) free
  pub spans : (keys : List ℕ) → AllByRecursion (λ key. (key ≡ 0) ⊎ Contains (map (λ (e : symbols.Entry). e.name) (written_entries links)) key) keys
      → HasNames (written_segment links) free (map (λ (e : symbols.Entry). e.name) (written_entries links)) (symbols.texts_of (written_entries links)) keys []

-- where its bytes stand, the heap does
abbrev pub HeapReads : Type 0
HeapReads = (image : List ℕ) (at : ℕ) (links : List (List ℕ × Leads)) → AllByRecursion IsSpelled links
    → at + length (heap_bytes at links) < 2 ^ 32
    → part at (length (heap_bytes at links)) image ≡ heap_bytes at links → IsPlainHeap image at links

-- entries are cached as one of the three types, and their numbers fit
abbrev pub IsEntryLow : symbols.Entry → Type 0
IsEntryLow e = (e.name < 2 ^ 64) × (e.header < 2 ^ 64) × (e.cache ≤ 2) × (e.text < 2 ^ 32)

abbrev pub EntriesLow : Type 0
EntriesLow = (links : List (List ℕ × Leads)) → AllByRecursion IsSpelled links → length (written_segment links) < 2 ^ 32
    → AllByRecursion IsEntryLow (written_entries links)

-- 88 bytes where at most 72 are used
abbrev pub SegmentLength : Type 0
SegmentLength = (links : List (List ℕ × Leads))
    → length (written_segment links) ≡ (if nat_le (8 + sum_by texts_span links) 72 then 88 else 8 + sum_by texts_span links)
