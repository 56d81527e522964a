-- Texts that stand one behind another, padded, are read back where they stand; and so are the links whose entries name them.
use Rattle.std.proofs.Common.{◌≡◌, ℕ, zero, suc, ◌+◌, ◌-◌, ◌≤◌, ◌==◌, List, [], ◌∷◌, ◌++◌, map, length, false, refl, sym, ap, ◌∙◌, subst, arith, append_assoc, length-append}
use Rattle.std.proofs.Math.Seq.{drop-append_seam}
use Rattle.std.specs.List.{AllByRecursion, flat_map}
use Rattle.std.proofs.lemmas.Bool.{or_parts}
use Rattle.h5_bytes.specs.Texts.{until_zero, text_at}
use Rattle.h5_bytes.specs.Numbers.{zeros}
use Rattle.h5_model.specs.Format.Plain.{padded_text}
use Rattle.h5_model.specs.Edits.Refusal.{has_zero}
use Rattle.h5_model.specs.Format.Sizes.{text_span}
use Rattle.h5_model.specs.Format.Symbols as symbols
use Rattle.h5_heap.specs.Writing.Parts.{free_rest}
use Rattle.h5_heap.specs.Writing.Laws.{IsSpelled}
use Rattle.h5_heap.specs.Writing.Links.{Leads, ToGroup, ToArray, ToText, heap_texts, target_link}
use Rattle.h5_heap.specs.Writing.Written.{written_entry, links_with_offsets, written_segment}
use Rattle.h5_heap.proofs.WriteLaws.Lengths.{link_texts, links_span, length-padded_text, segment_is}

-- ---- texts

abbrev pub HasNoZero : List ℕ → Type 0
HasNoZero text = has_zero text ≡ false

-- the first text is read back at this place, and each other one behind the span of the one before it
abbrev pub StandFrom : List ℕ → ℕ → List (List ℕ) → Type 0
StandFrom segment at [] = Unit {0}
StandFrom segment at (text ∷ texts) = (text_at segment at ≡ text) × StandFrom segment (at + text_span text) texts

-- a text that was padded is what stands before the first zero
pub until_padding : (text : List ℕ) (k : ℕ) (rest : List ℕ) → HasNoZero text → 1 ≤ k → until_zero ((text ++ zeros k) ++ rest) ≡ text
until_padding [] zero rest free some = absurd (omega arith)
until_padding [] (suc k) rest free some = refl
until_padding (c ∷ cs) k rest free some =
    let parts = or_parts (c == 0) (has_zero cs) free in
    let first : (c == 0) ≡ false = parts.0 in
    rw first (ap (λ t. c ∷ t) (until_padding cs k rest parts.1 some))

text_stands : (front text rest : List ℕ) → HasNoZero text → text_at (front ++ (padded_text text ++ rest)) (length front) ≡ text
unfolding text_at
text_stands front text rest free =
    let some : 1 ≤ text_span text - length text = omega arith in
    ap until_zero (drop-append_seam front (padded_text text ++ rest)) ∙ until_padding text (text_span text - length text) rest free some

pub texts_stand : (texts : List (List ℕ)) (segment front tail : List ℕ) (at : ℕ) → at ≡ length front
    → segment ≡ front ++ (flat_map padded_text texts ++ tail) → AllByRecursion HasNoZero texts → StandFrom segment at texts
texts_stand [] segment front tail at begins bytes free = tt
texts_stand (text ∷ texts) segment front tail at begins bytes free =
    let here : segment ≡ front ++ (padded_text text ++ (flat_map padded_text texts ++ tail))
    = bytes ∙ ap (λ more. front ++ more) (append_assoc (padded_text text) (flat_map padded_text texts) tail) in
    let behind : segment ≡ (front ++ padded_text text) ++ (flat_map padded_text texts ++ tail)
    = here ∙ sym (append_assoc front (padded_text text) (flat_map padded_text texts ++ tail)) in
    let next : at + text_span text ≡ length (front ++ padded_text text)
    = omega (arith, begins, length-append front (padded_text text), length-padded_text text) in (
      (λ i. text_at (here i) (begins i)) ∙ text_stands front text (flat_map padded_text texts ++ tail) free.0,
      texts_stand texts segment (front ++ padded_text text) tail (at + text_span text) next behind free.1,
    )

-- ---- links

spelled_free : (links : List (List ℕ × Leads)) → AllByRecursion IsSpelled links → AllByRecursion HasNoZero (heap_texts links)
spelled_free [] is = tt
spelled_free ((name, ToText text) ∷ links) is = (is.0.0, (is.0.1, spelled_free links is.1))
spelled_free ((name, ToGroup header tree heap) ∷ links) is = (is.0.0, spelled_free links is.1)
spelled_free ((name, ToArray header) ∷ links) is = (is.0.0, spelled_free links is.1)

-- the texts of links stand behind the empty name
pub links_stand : (links : List (List ℕ × Leads)) → AllByRecursion IsSpelled links → StandFrom (written_segment links) 8 (heap_texts links)
links_stand links is =
    let bytes : written_segment links ≡ zeros 8 ++ (link_texts links ++ free_rest (8 + links_span links))
    = segment_is links ∙ append_assoc (zeros 8) (link_texts links) (free_rest (8 + links_span links)) in
    texts_stand (heap_texts links) (written_segment links) (zeros 8) (free_rest (8 + links_span links)) 8 refl bytes (spelled_free links is)

-- behind two texts
pub stand_on : (segment : List ℕ) (at a b : ℕ) (texts : List (List ℕ)) → StandFrom segment (at + a + b) texts → StandFrom segment (at + (a + b)) texts
stand_on segment at a b texts stand =
    let same : at + a + b ≡ at + (a + b) = omega arith in
    subst (λ place. StandFrom segment place texts) same stand

-- each entry names its link
pub named_from : (links : List (List ℕ × Leads)) (segment : List ℕ) (at : ℕ) → StandFrom segment at (heap_texts links)
    → map (symbols.link_of segment) (map written_entry (links_with_offsets at links)) ≡ map target_link links
named_from [] segment at stand = refl
named_from ((name, ToText text) ∷ links) segment at stand =
    let first : text_at segment at ≡ name = stand.0 in
    let second : text_at segment (at + text_span name) ≡ text = stand.1.0 in
    let more = named_from links segment (at + (text_span name + text_span text)) (stand_on segment at (text_span name) (text_span text) (heap_texts links) stand.1.1) in
    λ i. (first i, symbols.Text (second i)) ∷ more i
named_from ((name, ToGroup header tree heap) ∷ links) segment at stand =
    let first : text_at segment at ≡ name = stand.0 in
    let more = named_from links segment (at + text_span name) stand.1 in
    λ i. (first i, symbols.Header header) ∷ more i
named_from ((name, ToArray header) ∷ links) segment at stand =
    let first : text_at segment at ≡ name = stand.0 in
    let more = named_from links segment (at + text_span name) stand.1 in
    λ i. (first i, symbols.Header header) ∷ more i
