-- Messages of a header share no byte, so the field of a Continuation does not stand in another message.
use Rattle.std.proofs.Common.{◌≡◌, ◌≢◌, ℕ, ◌+◌, ◌-◌, ◌<◌, ◌≤◌, List, [], ◌∷◌, ◌++◌, length, refl, sym, ◌∙◌, ap, ap₂, subst, arith, Some, true, false, cond}
use Rattle.std.specs.Prelude.{map, ◌==◌}
use Rattle.std.specs.List.{AllByRecursion, find, flat_map}
use Rattle.std.proofs.lemmas.Option.{same_Some}
use Rattle.std.proofs.lemmas.List.Concat.{flat_map-append}
use Rattle.std.proofs.lemmas.Bool.Decides.{nat_tests}
use Rattle.h5_bytes.specs.Bytes.{number_at, part}
use Rattle.h5_bytes.specs.Blocks.{block, holds, cover}
use Rattle.h5_bytes.specs.declared.Block.{Block}
use Rattle.h5_bytes.proofs.PartLaws.{length-part}
use Rattle.h5_bytes.proofs.BlockLaws.{holds_in, holds_join, holds-inner, cover-append, all_append}
use Rattle.h5_model.specs.Format.MessageTypes.{continuation_kind}
use Rattle.h5_model.specs.Format.Messages.{Message, Fills, FillBlocks, HasMessages, continuation, continuations, first_block, prefix_at, first_size}
use Rattle.h5_model.specs.Format.Reached.{Named, naming_of, Continuation}
use Rattle.h5_header.proofs.MetLaws.{length-part-le}
use Rattle.h5_header.specs.Walk.Walked.{continuation_fields}
use Rattle.h5_header.proofs.WalkLaws.MessagePlaces.{IsPlacedMessage}

-- a message's head and body
abbrev pub span_of : Message → Block
span_of m = block (m.at - 8) (8 + length m.body)

cover-spans : (q : ℕ) (xs ys : List Message) → cover q (map span_of (xs ++ ys)) ≡ cover q (map span_of xs) + cover q (map span_of ys)
cover-spans q [] ys = omega arith
cover-spans q (x ∷ xs) ys = omega (arith, cover-spans q xs ys)

-- messages fill a block without sharing bytes
fills_spans : (q : ℕ) (b : Block) (bytes : List ℕ) (from : ℕ) (ms : List Message) → length bytes ≤ b.len → from ≤ b.len → Fills b.at bytes from ms
    → cover q (map span_of ms) ≤ holds q (b.at + from) (b.len - from)
fills_spans q b bytes from [] short low fills = omega arith
fills_spans q b bytes from (m ∷ ms) short low fills =
    let size = number_at bytes (from + 2) 2 in
    let inside : from + 8 + size ≤ b.len = omega (arith, fills.0.whole) in
    let rest : cover q (map span_of ms) ≤ holds q (b.at + (from + 8 + size)) (b.len - (from + 8 + size)) = fills_spans q b bytes (from + 8 + size) ms short inside fills.1 in
    let long : length m.body ≡ size = ap length fills.0.body ∙ length-part (from + 8) size bytes fills.0.whole in
    let head : m.at - 8 ≡ b.at + from = omega (arith, fills.0.place) in
    let here : holds q (m.at - 8) (8 + length m.body) ≡ holds q (b.at + from) (8 + size) = ap₂ (λ (p n : ℕ). holds q p (8 + n)) head long in
    let len : b.len - from ≡ 8 + size + (b.len - (from + 8 + size)) = omega arith in
    let place : b.at + (from + 8 + size) ≡ b.at + from + (8 + size) = omega arith in
    let joined = holds_join q (b.at + from) (8 + size) (b.len - (from + 8 + size)) in
    rw len (omega (arith, joined, rw place at rest, here))

blocks_spans : (image : List ℕ) (q : ℕ) (waiting : List Block) (parts : List (List Message)) → FillBlocks image waiting parts
    → cover q (map span_of (flat_map (λ (ms : List Message). ms) parts)) ≤ cover q waiting + cover q (continuations (flat_map (λ (ms : List Message). ms) parts))
blocks_spans image q [] [] fills = omega arith
blocks_spans image q [] (ms ∷ parts) fills = absurd fills
blocks_spans image q (b ∷ waiting) [] fills = absurd fills
blocks_spans image q (b ∷ waiting) (ms ∷ parts) fills =
    let xs = flat_map (λ (ms : List Message). ms) parts in
    let here : cover q (map span_of ms) ≤ holds q (b.at + 0) (b.len - 0) = fills_spans q b (part b.at b.len image) 0 ms (length-part-le b.at b.len image) (omega arith) fills.0 in
    let none : b.at + 0 ≡ b.at = omega arith in
    let all : b.len - 0 ≡ b.len = omega arith in
    let there = blocks_spans image q (waiting ++ continuations ms) parts fills.1 in
    let blocks : cover q (continuations (ms ++ xs)) ≡ cover q (continuations ms) + cover q (continuations xs)
    = ap (cover q) (flat_map-append continuation ms xs) ∙ cover-append q (continuations ms) (continuations xs) in
    omega (arith, rw (none, all) at here, there, cover-append q waiting (continuations ms), blocks, cover-spans q ms xs)

-- the messages lie in the header's blocks, each byte in one of them at most
pub header_spans : (image : List ℕ) (header : ℕ) (ms : List Message) (blocks : List Block) → HasMessages image header ms blocks → (q : ℕ)
    → cover q (map span_of ms) ≤ cover q blocks
header_spans image header ms blocks has q =
    let all = blocks_spans image q (first_block image header ∷ []) has.parts has.filled in
    let here : cover q (map span_of ms) ≤ cover q (first_block image header ∷ []) + cover q (continuations ms)
    = subst (λ (xs : List Message). cover q (map span_of xs) ≤ cover q (first_block image header ∷ []) + cover q (continuations xs)) (sym has.all) all in
    let within : holds q (header + 16) (first_size (prefix_at image header)) ≤ holds q header (16 + first_size (prefix_at image header))
    = holds-inner q (header + 16) (first_size (prefix_at image header)) header (16 + first_size (prefix_at image header)) (omega arith) (omega arith) in
    let covered : cover q blocks ≡ holds q header (16 + first_size (prefix_at image header)) + cover q (continuations ms) = ap (cover q) has.laid in
    omega (arith, here, within, covered)

-- ---- fields of Continuations, and a place in another message

pub all_low : (image : List ℕ) (header : ℕ) (ms : List Message) → AllByRecursion (IsPlacedMessage image header) ms → AllByRecursion (λ (m : Message). 8 ≤ m.at) ms
all_low image header [] all = tt
all_low image header (m ∷ ms) all = (omega (arith, ((all.0).1).place), all_low image header ms all.1)

head_in : (m : Message) → 8 ≤ m.at → holds (m.at - 8) (m.at - 8) (8 + length m.body) ≡ 1
head_in m low = holds_in (m.at - 8) (m.at - 8) (8 + length m.body) (omega arith) (omega arith)

module _ (header depth f : ℕ) where
  abbrev IsApart : Named → Type 0
  IsApart y = y.field ≢ f

  -- the fields of one message
  fields_apart : (m : Message) (bs : List Block) → m.at ≢ f → AllByRecursion IsApart (map (λ (b : Block). naming_of m.at (Continuation header) b.at depth) bs)
  fields_apart m [] other = tt
  fields_apart m (b ∷ bs) other = (other, fields_apart m bs other)

  none_there : (ms : List Message) → AllByRecursion (λ (m : Message). 8 ≤ m.at) ms → cover (f - 8) (map span_of ms) ≡ 0 → AllByRecursion IsApart (continuation_fields header depth ms)
  none_there [] low none = tt
  none_there (m ∷ ms) low none =
      let other : m.at ≢ f = λ e. let here : holds (f - 8) (m.at - 8) (8 + length m.body) ≡ 1 = subst (λ (g : ℕ). holds (g - 8) (m.at - 8) (8 + length m.body) ≡ 1) e (head_in m low.0) in omega (arith, here, none) in
      all_append IsApart (map (λ (b : Block). naming_of m.at (Continuation header) b.at depth) (continuation m)) (continuation_fields header depth ms)
      (fields_apart m (continuation m) other) (none_there ms low.1 (omega (arith, none)))

  pub found_covers : (k q : ℕ) (ms : List Message) (m : Message) → find (λ (x : Message). x.kind == k) ms ≡ Some m → holds q (m.at - 8) (8 + length m.body) ≤ cover q (map span_of ms)
  found_covers k q [] m is = absurd (cc)
  found_covers k q (x ∷ ms) m is = elim (x.kind == k) as (λ b. cond b (Some x) (find (λ (y : Message). y.kind == k) ms) ≡ Some m → holds q (m.at - 8) (8 + length m.body) ≤ cover q (map span_of (x ∷ ms))) [
    | true ↦ λ e. let same : x ≡ m = same_Some x m e in subst (λ (y : Message). holds q (y.at - 8) (8 + length y.body) ≤ cover q (map span_of (x ∷ ms))) same (omega arith)
    | false ↦ λ e. let rest = found_covers k q ms m e in omega (arith, rest)
  ] is

  -- a place inside the first message of a type other than a Continuation's is the field of none
  pub inside_apart : (k : ℕ) (ms : List Message) (m : Message) → (k == continuation_kind) ≡ false → AllByRecursion (λ (x : Message). 8 ≤ x.at) ms → ((q : ℕ) → cover q (map span_of ms) ≤ 1)
      → find (λ (x : Message). x.kind == k) ms ≡ Some m → m.at ≤ f → f < m.at + 8 + length m.body → 8 ≤ m.at → AllByRecursion IsApart (continuation_fields header depth ms)
  inside_apart k [] m other low once is from to least = tt
  inside_apart k (x ∷ ms) m other low once is from to least =
      let q = f - 8 in
      let hit : holds q (m.at - 8) (8 + length m.body) ≡ 1 = holds_in q (m.at - 8) (8 + length m.body) (omega (arith, from, least)) (omega (arith, from, to, least)) in
      elim (x.kind == k) as (λ b. (x.kind == k) ≡ b → cond b (Some x) (find (λ (y : Message). y.kind == k) ms) ≡ Some m → AllByRecursion IsApart (continuation_fields header depth (x ∷ ms))) [
        | true ↦ λ same e.
            let is_x : x ≡ m = same_Some x m e in
            let hit_x : holds q (x.at - 8) (8 + length x.body) ≡ 1 = subst (λ (y : Message). holds q (y.at - 8) (8 + length y.body) ≡ 1) (sym is_x) hit in
            let kind : x.kind ≡ k = grind (arith, nat_tests, same) in
            let no_continuation : (x.kind == continuation_kind) ≡ false = rw kind other in
            let names_none : continuation x ≡ [] = rw no_continuation refl in
            rw names_none (none_there ms low.1 (omega (arith, once q, hit_x)))
        | false ↦ λ same e.
            let rest = found_covers k q ms m e in
            let other_x : x.at ≢ f = λ at. let here : holds q (x.at - 8) (8 + length x.body) ≡ 1 = subst (λ (g : ℕ). holds (g - 8) (x.at - 8) (8 + length x.body) ≡ 1) at (head_in x low.0) in omega (arith, once q, here, hit, rest) in
            all_append IsApart (map (λ (b : Block). naming_of x.at (Continuation header) b.at depth) (continuation x)) (continuation_fields header depth ms)
            (fields_apart x (continuation x) other_x) (inside_apart k ms m other low.1 (λ p. omega (arith, once p)) e from to least)
      ] refl is
