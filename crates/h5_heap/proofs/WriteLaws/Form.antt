-- The header of a heap whose segment has so many used bytes, and the free block behind them.
use Rattle.std.proofs.Common.{◌≡◌, ℕ, ◌+◌, ◌-◌, ◌%◌, ◌^◌, ◌<◌, ◌≤◌, inl, List, [], ◌∷◌, ◌++◌, length, refl, sym, ◌∙◌, arith, Bool, true, false, length-append}
use Rattle.std.specs.Prelude.{if◌then◌else◌, nat_le}
use Rattle.std.proofs.lemmas.Bool.Decides.{nat_tests}
use Rattle.std.proofs.lemmas.List.{length-replicate}
use Rattle.h5_bytes.specs.Bytes.{number_at, part}
use Rattle.h5_bytes.specs.Blocks.{block}
use Rattle.h5_bytes.specs.declared.Block.{Block}
use Rattle.h5_bytes.proofs.BlockLaws.{holds-le}
use Rattle.h5_model.specs.Format.Heap.{IsHeap, segment_size, free_head, segment_place}
use Rattle.h5_bytes.specs.Numbers.{word, zeros}
use Rattle.h5_model.specs.Format.Plain.{heap_header_bytes, head_of, segment_with}
use Rattle.h5_model.proofs.NumberLaws.{number_at-append, reads_back}
use Rattle.h5_heap.proofs.WriteLaws.Spans.{free_of}

-- ---- its header

module _ (size head place : ℕ) (size_small : size < 2 ^ 64) (head_small : head < 2 ^ 64) (place_small : place < 2 ^ 64) where
  pub size_in_header : segment_size (heap_header_bytes size head place) ≡ size
  unfolding number_at
  size_in_header = reads_back 8 size (word head ++ word place) (omega arith)

  pub head_in_header : free_head (heap_header_bytes size head place) ≡ head
  unfolding number_at
  head_in_header = reads_back 8 head (word place) (omega arith)

  pub place_in_header : segment_place (heap_header_bytes size head place) ≡ place
  unfolding number_at
  place_in_header = reads_back 8 place [] (omega arith)

-- ---- its free block

module _ (used : List ℕ) (some : 8 ≤ length used) (aligned : length used % 8 ≡ 0) where
  abbrev rest : List ℕ
  rest = word 1 ++ (word (88 - length used) ++ zeros (72 - length used))

  -- with a free block at the end, or none
  abbrev segment_by : Bool → List ℕ
  segment_by b = if b then used ++ rest else used

  abbrev head_by : Bool → ℕ
  head_by b = if b then length used else 1

  abbrev free_by : Bool → List Block
  free_by b = if b then block (length used) (88 - length used) ∷ [] else []

  length-segment_true : length used ≤ 72 → length (segment_by true) ≡ 88
  length-segment_true low =
      let zeros_are : length (zeros (72 - length used)) ≡ 72 - length used = length-replicate (72 - length used) 0 in
      let whole = length-append used rest in
      omega arith

  next_is : number_at (segment_by true) (length used) 8 ≡ 1
  next_is =
      let none : length used + 0 ≡ length used = omega arith in
      rw none at (number_at-append used rest 0 8) ∙ reads_back 8 1 (word (88 - length used) ++ zeros (72 - length used)) (omega arith)

  behind_next : number_at rest 8 8 ≡ 88 - length used
  unfolding number_at
  behind_next = reads_back 8 (88 - length used) (zeros (72 - length used)) (omega arith)

  free_is : number_at (segment_by true) (length used + 8) 8 ≡ 88 - length used
  free_is = number_at-append used rest 8 8 ∙ behind_next

  heap_by : (b : Bool) → nat_le (length used) 72 ≡ b → (place : ℕ) → length used < 2 ^ 63 → place < 2 ^ 64
      → IsHeap (heap_header_bytes (length (segment_by b)) (head_by b) place) (segment_by b) (free_by b)
  unfolding part
  heap_by true h place small low =
      let under : length used ≤ 72 = grind (arith, nat_tests) in
      let long = length-segment_true under in
      let size : segment_size (heap_header_bytes (length (segment_by true)) (length used) place) ≡ 88
      = size_in_header (length (segment_by true)) (length used) place (omega arith) (omega arith) low ∙ long in
      let head : free_head (heap_header_bytes (length (segment_by true)) (length used) place) ≡ length used
      = head_in_header (length (segment_by true)) (length used) place (omega arith) (omega arith) low in
      record {
        signed = refl;
        version = refl;
        size = omega (arith, size);
        listed = inl (sym head, rw head (sym free_is), rw head next_is);
        each = (record { room = omega (arith, under); aligned = aligned }, tt);
        apart = λ p. omega (arith, holds-le p (length used) (88 - length used));
        within = (omega (arith, size, under), tt);
      }
  heap_by false h place small low =
      let over : 72 < length used = grind (arith, nat_tests) in
      let size : segment_size (heap_header_bytes (length used) 1 place) ≡ length used = size_in_header (length used) 1 place (omega arith) (omega arith) low in
      let head : free_head (heap_header_bytes (length used) 1 place) ≡ 1 = head_in_header (length used) 1 place (omega arith) (omega arith) low in
      record {
        signed = refl;
        version = refl;
        size = omega (arith, size, over);
        listed = inl head;
        each = tt;
        apart = λ p. omega arith;
        within = tt;
      }

  pub heap_form_of : (place : ℕ) → length used < 2 ^ 63 → place < 2 ^ 64
      → IsHeap (heap_header_bytes (length (segment_with used)) (head_of used) place) (segment_with used) (free_of (length used))
  heap_form_of = heap_by (nat_le (length used) 72) refl
