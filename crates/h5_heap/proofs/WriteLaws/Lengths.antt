-- How long a heap's segment is.
use Rattle.std.proofs.Common.{◌≡◌, ℕ, ◌+◌, ◌-◌, ◌≤◌, ◌<◌, List, [], ◌∷◌, ◌++◌, length, cond, true, false, inl, inr, refl, ap, ◌∙◌, sym, arith, append-nil}
use Rattle.std.specs.Prelude.{nat_le, if◌then◌else◌}
use Rattle.std.specs.List.{flat_map, sum_by}
use Rattle.std.proofs.lemmas.Bool.Decides.{leb_tells, nat_tests}
use Rattle.std.proofs.lemmas.List.{length-append, length-replicate}
use Rattle.std.proofs.lemmas.List.Sums.{sum_by-cons}
use Rattle.h5_model.specs.Format.Sizes.{text_span}
use Rattle.h5_bytes.specs.Numbers.{word, zeros}
use Rattle.h5_model.specs.Format.Plain.{padded_text, texts_bytes, segment_with, heap_header_bytes, free_head_of}
use Rattle.h5_heap.specs.Writing.Parts.{free_rest}
use Rattle.h5_heap.specs.Writing.Links.{Leads, ToGroup, ToArray, ToText, heap_texts}
use Rattle.h5_heap.specs.Writing.Written.{texts_span, written_segment, heap_bytes}
use Rattle.h5_heap.specs.Writing.Laws.{SegmentLength}

-- the texts of links, padded, one behind another
abbrev pub link_texts : List (List ℕ × Leads) → List ℕ
link_texts links = flat_map padded_text (heap_texts links)

-- the bytes that they occupy
abbrev pub links_span : List (List ℕ × Leads) → ℕ
links_span links = sum_by texts_span links

pub length-padded_text : (text : List ℕ) → length (padded_text text) ≡ text_span text
length-padded_text text =
    let zeros_are : length (zeros (text_span text - length text)) ≡ text_span text - length text = length-replicate (text_span text - length text) 0 in
    let long : length text + 1 ≤ text_span text = omega arith in
    simp length-append (omega arith)

pub length-link_texts : (links : List (List ℕ × Leads)) → length (link_texts links) ≡ links_span links
length-link_texts [] = refl
length-link_texts ((name, ToText text) ∷ links) =
    let more = length-link_texts links in
    let sum = sum_by-cons texts_span (name, ToText text) links in
    let inner = length-append (padded_text text) (link_texts links) in
    omega (arith, length-append (padded_text name) (padded_text text ++ link_texts links), length-padded_text name, length-padded_text text)
length-link_texts ((name, ToGroup header tree heap) ∷ links) =
    let more = length-link_texts links in
    let sum = sum_by-cons texts_span (name, ToGroup header tree heap) links in
    omega (arith, length-append (padded_text name) (link_texts links), length-padded_text name)
length-link_texts ((name, ToArray header) ∷ links) =
    let more = length-link_texts links in
    let sum = sum_by-cons texts_span (name, ToArray header) links in
    omega (arith, length-append (padded_text name) (link_texts links), length-padded_text name)

-- how many bytes of a segment are used
pub length-used : (links : List (List ℕ × Leads)) → length (texts_bytes (heap_texts links)) ≡ 8 + links_span links
length-used links = omega (arith, length-append (zeros 8) (link_texts links), length-link_texts links)

-- a segment is its used bytes and what stands behind them
with_rest : (used : List ℕ) → segment_with used ≡ used ++ free_rest (length used)
with_rest used = elim (nat_le (length used) 72) as (λ b. cond b (used ++ (word 1 ++ (word (88 - length used) ++ zeros (72 - length used)))) used
    ≡ used ++ cond b (word 1 ++ (word (88 - length used) ++ zeros (72 - length used))) []) [
      | true ↦ refl
      | false ↦ sym (append-nil used)
    ]

pub segment_is : (links : List (List ℕ × Leads)) → written_segment links ≡ texts_bytes (heap_texts links) ++ free_rest (8 + links_span links)
segment_is links = with_rest (texts_bytes (heap_texts links)) ∙ ap (λ n. texts_bytes (heap_texts links) ++ free_rest n) (length-used links)

-- a segment has 88 bytes at least
length-free_rest : (n : ℕ) → n + length (free_rest n) ≡ (if nat_le n 72 then 88 else n)
length-free_rest n = elim (leb_tells n 72) [
  | inl few ↦
      let zeros_are : length (zeros (72 - n)) ≡ 72 - n = length-replicate (72 - n) 0 in
      rw few.0 (omega (arith, few.1))
  | inr many ↦ rw many.0 (omega arith)
]

pub segment_length_is : SegmentLength
segment_length_is links =
    ap length (segment_is links) ∙ length-append (texts_bytes (heap_texts links)) (free_rest (8 + links_span links))
    ∙ ap (λ n. n + length (free_rest (8 + links_span links))) (length-used links) ∙ length-free_rest (8 + links_span links)

-- the used bytes are among those of the segment
pub used-le : (links : List (List ℕ × Leads)) → 8 + links_span links ≤ length (written_segment links)
used-le links =
    let parts = ap length (segment_is links) ∙ length-append (texts_bytes (heap_texts links)) (free_rest (8 + links_span links)) in
    omega (arith, length-used links)

pub short_length : (links : List (List ℕ × Leads)) (n : ℕ) → n ≡ 8 + links_span links → n ≤ 72 → 88 ≡ length (written_segment links)
short_length links n e low =
    let test : nat_le (8 + links_span links) 72 ≡ true = grind (arith, nat_tests) in
    sym (segment_length_is links ∙ ap (λ b. if b then 88 else 8 + links_span links) test)

pub long_length : (links : List (List ℕ × Leads)) (n : ℕ) → n ≡ 8 + links_span links → 72 < n → n ≡ length (written_segment links)
long_length links n e high =
    let test : nat_le (8 + links_span links) 72 ≡ false = grind (arith, nat_tests) in
    e ∙ sym (segment_length_is links ∙ ap (λ b. if b then 88 else 8 + links_span links) test)

-- the first free block stands behind the used bytes
pub head_is : (links : List (List ℕ × Leads)) → free_head_of (heap_texts links) ≡ (if nat_le (8 + links_span links) 72 then 8 + links_span links else 1)
head_is links = ap (λ n. if nat_le n 72 then n else 1) (length-used links)

-- a heap is its header and its segment
pub length-heap_bytes : (at : ℕ) (links : List (List ℕ × Leads)) → length (heap_bytes at links) ≡ 32 + length (written_segment links)
unfolding heap_bytes
length-heap_bytes at links = length-append (heap_header_bytes (length (written_segment links)) (free_head_of (heap_texts links)) (at + 32)) (written_segment links)
