-- The spans of a segment's texts: aligned, within the segment, and apart from each other, from the empty name and from the free block.
use Rattle.std.proofs.Common.{◌≡◌, ℕ, ◌+◌, ◌-◌, ◌%◌, ◌≤◌, ◌⊎◌, inl, inr, List, [], ◌∷◌, ◌++◌, map, length, refl, sym, ap, ◌∙◌, arith, append-nil}
use Rattle.std.specs.Prelude.{nat_le, if◌then◌else◌}
use Rattle.std.specs.List.{AllByRecursion, Contains}
use Rattle.std.proofs.lemmas.Bool.Decides.{leb_tells}
use Rattle.std.proofs.lemmas.List.{map-append}
use Rattle.std.proofs.lemmas.List.Elements.{Contains-append_left}
use Rattle.std.proofs.lemmas.List.Sums.{sum_by-cons}
use Rattle.h5_bytes.specs.Bytes.{byte_at}
use Rattle.h5_bytes.specs.Texts.{text_at, pad8}
use Rattle.h5_bytes.specs.Blocks.{block, holds, cover, Inside, Separate}
use Rattle.h5_bytes.specs.declared.Block.{Block}
use Rattle.h5_bytes.proofs.BlockLaws.{holds_join, holds_none, holds-le, cover-append, all_append}
use Rattle.h5_model.specs.Format.Heap.{HasNames, KeyNames, span_of}
use Rattle.h5_model.specs.Format.Plain.{texts_bytes}
use Rattle.h5_model.specs.Format.Sizes.{text_span}
use Rattle.h5_model.specs.Format.Symbols as symbols
use Rattle.h5_heap.specs.Writing.Laws.{IsSpelled}
use Rattle.h5_heap.specs.Writing.Links.{Leads, ToGroup, ToArray, ToText, heap_texts}
use Rattle.h5_heap.specs.Writing.Written.{written_entry, links_with_offsets, texts_span, written_segment}
use Rattle.h5_heap.proofs.WriteLaws.Lengths.{links_span, length-used, used-le, segment_is}
use Rattle.h5_heap.proofs.WriteLaws.Standing.{StandFrom, stand_on, links_stand}

-- ---- the links from one on, whose name stands at this place

-- the offsets of their names, and those of the soft links' texts
abbrev pub names_from : ℕ → List (List ℕ × Leads) → List ℕ
names_from at links = map (λ (e : symbols.Entry). e.name) (map written_entry (links_with_offsets at links))

abbrev pub texts_from : ℕ → List (List ℕ × Leads) → List ℕ
texts_from at links = symbols.texts_of (map written_entry (links_with_offsets at links))

-- their spans hold each byte from the first name to the end of the last text once
cover_from : (links : List (List ℕ × Leads)) (segment : List ℕ) (at p : ℕ) → StandFrom segment at (heap_texts links)
    → cover p (map (span_of segment) (names_from at links)) + cover p (map (span_of segment) (texts_from at links)) ≡ holds p at (links_span links)
cover_from [] segment at p stand = sym (holds_none p at)
cover_from ((name, ToText text) ∷ links) segment at p stand =
    let first : holds p at (pad8 (length (text_at segment at) + 1)) ≡ holds p at (text_span name) = ap (λ t. holds p at (pad8 (length t + 1))) stand.0 in
    let second : holds p (at + text_span name) (pad8 (length (text_at segment (at + text_span name)) + 1)) ≡ holds p (at + text_span name) (text_span text)
    = ap (λ t. holds p (at + text_span name) (pad8 (length t + 1))) stand.1.0 in
    let more = cover_from links segment (at + (text_span name + text_span text)) p (stand_on segment at (text_span name) (text_span text) (heap_texts links) stand.1.1) in
    let whole : holds p at (links_span ((name, ToText text) ∷ links)) ≡ holds p at (text_span name + text_span text + links_span links)
    = ap (λ n. holds p at n) (sum_by-cons texts_span (name, ToText text) links) in
    let join = holds_join p at (text_span name + text_span text) (links_span links) in
    let split = holds_join p at (text_span name) (text_span text) in
    omega arith
cover_from ((name, ToGroup header tree heap) ∷ links) segment at p stand =
    let first : holds p at (pad8 (length (text_at segment at) + 1)) ≡ holds p at (text_span name) = ap (λ t. holds p at (pad8 (length t + 1))) stand.0 in
    let more = cover_from links segment (at + text_span name) p stand.1 in
    let whole : holds p at (links_span ((name, ToGroup header tree heap) ∷ links)) ≡ holds p at (text_span name + links_span links)
    = ap (λ n. holds p at n) (sum_by-cons texts_span (name, ToGroup header tree heap) links) in
    let join = holds_join p at (text_span name) (links_span links) in
    omega arith
cover_from ((name, ToArray header) ∷ links) segment at p stand =
    let first : holds p at (pad8 (length (text_at segment at) + 1)) ≡ holds p at (text_span name) = ap (λ t. holds p at (pad8 (length t + 1))) stand.0 in
    let more = cover_from links segment (at + text_span name) p stand.1 in
    let whole : holds p at (links_span ((name, ToArray header) ∷ links)) ≡ holds p at (text_span name + links_span links)
    = ap (λ n. holds p at n) (sum_by-cons texts_span (name, ToArray header) links) in
    let join = holds_join p at (text_span name) (links_span links) in
    omega arith

-- where they end at a place or before it, each of their spans does
inside_from : (links : List (List ℕ × Leads)) (segment : List ℕ) (at end : ℕ) → StandFrom segment at (heap_texts links) → at + links_span links ≤ end
    → Inside end (map (span_of segment) (names_from at links)) × Inside end (map (span_of segment) (texts_from at links))
inside_from [] segment at end stand low = (tt, tt)
inside_from ((name, ToText text) ∷ links) segment at end stand low =
    let first : pad8 (length (text_at segment at) + 1) ≡ text_span name = ap (λ t. pad8 (length t + 1)) stand.0 in
    let second : pad8 (length (text_at segment (at + text_span name)) + 1) ≡ text_span text = ap (λ t. pad8 (length t + 1)) stand.1.0 in
    let sum = sum_by-cons texts_span (name, ToText text) links in
    let more = inside_from links segment (at + (text_span name + text_span text)) end (stand_on segment at (text_span name) (text_span text) (heap_texts links) stand.1.1) (omega arith) in
    ((omega arith, more.0), (omega arith, more.1))
inside_from ((name, ToGroup header tree heap) ∷ links) segment at end stand low =
    let first : pad8 (length (text_at segment at) + 1) ≡ text_span name = ap (λ t. pad8 (length t + 1)) stand.0 in
    let sum = sum_by-cons texts_span (name, ToGroup header tree heap) links in
    let more = inside_from links segment (at + text_span name) end stand.1 (omega arith) in
    ((omega arith, more.0), more.1)
inside_from ((name, ToArray header) ∷ links) segment at end stand low =
    let first : pad8 (length (text_at segment at) + 1) ≡ text_span name = ap (λ t. pad8 (length t + 1)) stand.0 in
    let sum = sum_by-cons texts_span (name, ToArray header) links in
    let more = inside_from links segment (at + text_span name) end stand.1 (omega arith) in
    ((omega arith, more.0), more.1)

abbrev pub IsAligned : ℕ → Type 0
IsAligned offset = offset % 8 ≡ 0

aligned_from : (links : List (List ℕ × Leads)) (at : ℕ) → IsAligned at → AllByRecursion IsAligned (names_from at links) × AllByRecursion IsAligned (texts_from at links)
aligned_from [] at aligned = (tt, tt)
aligned_from ((name, ToText text) ∷ links) at aligned =
    let more = aligned_from links (at + (text_span name + text_span text)) (omega arith) in
    ((aligned, more.0), (omega arith, more.1))
aligned_from ((name, ToGroup header tree heap) ∷ links) at aligned =
    let more = aligned_from links (at + text_span name) (omega arith) in
    ((aligned, more.0), more.1)
aligned_from ((name, ToArray header) ∷ links) at aligned =
    let more = aligned_from links (at + text_span name) (omega arith) in
    ((aligned, more.0), more.1)

-- ---- names, and then texts

cover_listed : (f : ℕ → Block) (p : ℕ) (xs ys : List ℕ) → cover p (map f (xs ++ ys ++ [])) ≡ cover p (map f xs) + cover p (map f ys)
cover_listed f p xs ys =
    ap (λ zs. cover p (map f zs)) (append-nil (xs ++ ys)) ∙ ap (cover p) (map-append f xs ys) ∙ cover-append p (map f xs) (map f ys)

inside_listed : (f : ℕ → Block) (end : ℕ) (xs ys : List ℕ) → Inside end (map f xs) → Inside end (map f ys) → Inside end (map f (xs ++ ys ++ []))
inside_listed f end [] [] a b = tt
inside_listed f end [] (y ∷ ys) a b = (b.0, inside_listed f end [] ys tt b.1)
inside_listed f end (x ∷ xs) ys a b = (a.0, inside_listed f end xs ys a.1 b)

-- ---- the free block

-- what is free behind so many used bytes
abbrev pub free_of : ℕ → List Block
free_of used = if nat_le used 72 then block used (88 - used) ∷ [] else []

cover_free : (p used : ℕ) → holds p 0 used + cover p (free_of used) ≤ 1
cover_free p used = elim (leb_tells used 72) [
  | inl few ↦
      let front : 0 + used ≡ used = omega arith in
      let join = rw front at (holds_join p 0 used (88 - used)) in
      let least = holds-le p 0 (used + (88 - used)) in
      rw few.0 (omega arith)
  | inr many ↦ rw many.0 (omega (arith, holds-le p 0 used))
]

-- ---- the whole

abbrev pub free_blocks : List (List ℕ × Leads) → List Block
free_blocks links = free_of (length (texts_bytes (heap_texts links)))

apart_in : (links : List (List ℕ × Leads)) → AllByRecursion IsSpelled links
    → Separate (block 0 8 ∷ map (span_of (written_segment links)) (names_from 8 links ++ texts_from 8 links ++ []) ++ free_blocks links)
apart_in links is p =
    let texts = cover_listed (span_of (written_segment links)) p (names_from 8 links) (texts_from 8 links) in
    let spans = cover_from links (written_segment links) 8 p (links_stand links is) in
    let behind = cover-append p (map (span_of (written_segment links)) (names_from 8 links ++ texts_from 8 links ++ [])) (free_blocks links) in
    let join = holds_join p 0 8 (links_span links) in
    let used : holds p 0 (length (texts_bytes (heap_texts links))) ≡ holds p 0 (8 + links_span links) = ap (λ n. holds p 0 n) (length-used links) in
    let free = cover_free p (length (texts_bytes (heap_texts links))) in
    omega arith

first_zero : (links : List (List ℕ × Leads)) → byte_at (written_segment links) 0 ≡ 0
first_zero links = ap (λ bytes. byte_at bytes 0) (segment_is links)

all_names : (names texts keys : List ℕ) → AllByRecursion (λ key. (key ≡ 0) ⊎ Contains names key) keys → AllByRecursion (KeyNames (names ++ texts) []) keys
all_names names texts [] all = tt
all_names names texts (key ∷ keys) all = (
  elim all.0 [
    | inl empty ↦ inl empty
    | inr name ↦ inr (inl (Contains-append_left names texts key name))
  ],
  all_names names texts keys all.1,
)

pub spans_of : (links : List (List ℕ × Leads)) → AllByRecursion IsSpelled links → (keys : List ℕ)
    → AllByRecursion (λ key. (key ≡ 0) ⊎ Contains (names_from 8 links) key) keys
    → HasNames (written_segment links) (free_blocks links) (names_from 8 links) (texts_from 8 links) keys []
spans_of links is keys named =
    let stand = links_stand links is in
    let aligned = aligned_from links 8 refl in
    let inside = inside_from links (written_segment links) 8 (length (written_segment links)) stand (used-le links) in
    record {
      empty = first_zero links;
      aligned = all_append IsAligned (names_from 8 links ++ texts_from 8 links) []
          (all_append IsAligned (names_from 8 links) (texts_from 8 links) aligned.0 aligned.1) tt;
      apart = apart_in links is;
      within = inside_listed (span_of (written_segment links)) (length (written_segment links)) (names_from 8 links) (texts_from 8 links) inside.0 inside.1;
      keyed = all_names (names_from 8 links) (texts_from 8 links) keys named;
    }
