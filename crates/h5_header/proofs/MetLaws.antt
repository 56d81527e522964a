-- Where messages of a header are met: in its own first block, and in blocks that its Continuations name.
use Rattle.std.proofs.Common.{◌≡◌, ℕ, ◌+◌, ◌≤◌, ◌⊎◌, inl, inr, List, [], ◌∷◌, ◌++◌, length, refl, sym, ◌∙◌, ap, ap₂, subst, arith, Option, Some, None, drop, length-drop}
use Rattle.std.specs.Prelude.{◌==◌, Bool, true, false}
use Rattle.std.proofs.lemmas.List.{length-take}
use Rattle.std.proofs.lemmas.Bool.Decides.{nat_tests}
use Rattle.std.specs.List.{AllByRecursion, flat_map}
use Rattle.h5_bytes.specs.Bytes.{number_at, part}
use Rattle.h5_bytes.specs.Blocks.{block}
use Rattle.h5_bytes.specs.declared.Block.{Block}
use Rattle.h5_bytes.proofs.PartLaws.{part-part}
use Rattle.h5_bytes.proofs.FieldLaws.{number_at-part}
use Rattle.h5_bytes.proofs.BlockLaws.{all_append}
use Rattle.h5_model.specs.Format.Addresses.{continuation_of}
use Rattle.h5_model.specs.Format.MessageTypes.{continuation_kind}
use Rattle.h5_model.specs.Format.Messages.{Message, IsMessage, Fills, FillBlocks, HasMessages, continuation, continuations, first_block}
use Rattle.h5_model.specs.Format.Reached.{Met, at_start, behind, in_continuation, kind_at, size_at}
use Rattle.h5_model.proofs.BodyLaws.{long_body}
use Rattle.h5_header.specs.Refused.{NamesBlock}
use Rattle.h5_header.specs.Progress.{FillsTo, FilledTo}

pub length-part-le : (at len : ℕ) (bytes : List ℕ) → length (part at len bytes) ≤ len
unfolding part
length-part-le at len bytes = omega (arith, length-take len (drop at bytes))

-- a part that has bytes ends in what it is a part of
pub part-there : (at len : ℕ) (bytes : List ℕ) → 1 ≤ length (part at len bytes) → at + length (part at len bytes) ≤ length bytes
unfolding part
part-there at len bytes some = omega (arith, some, length-take len (drop at bytes), length-drop at bytes)

-- a message names no block, or it is a Continuation whose body names one
pub continuation_cases : (m : Message) → (continuation m ≡ []) ⊎ ((b : Block) × (m.kind ≡ continuation_kind) × (continuation_of m.body ≡ Some b) × (continuation m ≡ b ∷ []))
continuation_cases m = go (m.kind == continuation_kind) refl (continuation_of m.body) refl where
  go : (t : Bool) → (m.kind == continuation_kind) ≡ t → (o : Option Block) → continuation_of m.body ≡ o
      → (continuation m ≡ []) ⊎ ((b : Block) × (m.kind ≡ continuation_kind) × (continuation_of m.body ≡ Some b) × (continuation m ≡ b ∷ []))
  go false other o is = inl (rw other refl)
  go true same None is = inl (rw (same, is) refl)
  go true same (Some b) is = let kind : m.kind ≡ continuation_kind = grind (arith, nat_tests, same) in inr (b, kind, is, rw (same, is) refl)

-- the message names the block, from its place in the header
abbrev pub IsNamedBy : List ℕ → ℕ → Message → Block → Type 0
IsNamedBy image header m b = (at : ℕ) × (m.at ≡ at + 8) × NamesBlock image header at b

abbrev pub IsNaming : List ℕ → ℕ → Message → Type 0
IsNaming image header m = AllByRecursion (IsNamedBy image header m) (continuation m)

-- a message of a block that is met, at its place in the image
module _ (image : List ℕ) (header : ℕ) (b : Block) (to : ℕ) (m : Message) (is : IsMessage b.at (part b.at b.len image) to m)
    (met : Met image header (b.at + to) (b.at + b.len)) where
  pub inside : to + 8 + number_at (part b.at b.len image) (to + 2) 2 ≤ b.len
  inside = omega (arith, is.whole, length-part-le b.at b.len image)

  pub size : number_at (part b.at b.len image) (to + 2) 2 ≡ size_at image (b.at + to)
  size = let over : b.at + (to + 2) ≡ b.at + to + 2 = omega arith in
      number_at-part (to + 2) 2 b.at b.len image (omega (arith, inside)) ∙ ap (λ (p : ℕ). number_at image p 2) over

  pub kind : m.kind ≡ kind_at image (b.at + to)
  kind = is.kind ∙ number_at-part to 2 b.at b.len image (omega (arith, inside))

  pub fits : b.at + to + 8 + size_at image (b.at + to) ≤ b.at + b.len
  fits = omega (arith, inside, size)

  pub next_met : Met image header (b.at + (to + 8 + number_at (part b.at b.len image) (to + 2) 2)) (b.at + b.len)
  next_met = behind met (omega (arith, fits)) (rw (← size) is.padded) (omega (arith, size)) (omega (arith, inside))

  pub body : m.body ≡ part (b.at + to + 8) (size_at image (b.at + to)) image
  body = let over : b.at + (to + 8) ≡ b.at + to + 8 = omega arith in
      is.body ∙ part-part (to + 8) (number_at (part b.at b.len image) (to + 2) 2) b.at b.len image (omega (arith, inside)) ∙ ap₂ (λ p n. part p n image) over size

  named : (c : Block) → m.kind ≡ continuation_kind → continuation_of m.body ≡ Some c → NamesBlock image header (b.at + to) c
  named c is_16 says =
      let at = b.at + to in
      let n = size_at image at in
      let long = long_body m.body c says in
      let len : length m.body ≤ n = rw body (length-part-le (at + 8) n image) in
      let none : at + 8 + 0 ≡ at + 8 = omega arith in
      let over : at + 8 + 8 ≡ at + 16 = omega arith in
      let first : number_at m.body 0 8 ≡ number_at image (at + 8) 8
      = ap (λ bs. number_at bs 0 8) body ∙ number_at-part 0 8 (at + 8) n image (omega (arith, long.0, len)) ∙ ap (λ (p : ℕ). number_at image p 8) none in
      let second : number_at m.body 8 8 ≡ number_at image (at + 16) 8
      = ap (λ bs. number_at bs 8 8) body ∙ number_at-part 8 8 (at + 8) n image (omega (arith, long.0, len)) ∙ ap (λ (p : ℕ). number_at image p 8) over in
      record {
        fits = (record { end = b.at + b.len; met = met; inside = omega (arith, fits) }, fits);
        kind = sym kind ∙ is_16;
        long = omega (arith, long.0, len);
        there = omega (arith, is.whole, size, long.0, len, part-there b.at b.len image (omega (arith, is.whole)));
        named = long.1 ∙ ap₂ block first second;
      }

  pub names : IsNaming image header m
  names =
      let place : m.at ≡ b.at + to + 8 = is.place in
      elim (continuation_cases m) [
        | inl none ↦ subst (AllByRecursion (IsNamedBy image header m)) (sym none) tt
        | inr some ↦ subst (AllByRecursion (IsNamedBy image header m)) (sym some.3) ((b.at + to, place, named some.0 some.1 some.2), tt)
      ]

-- a block that some Continuation of the header names
abbrev pub IsNamed : List ℕ → ℕ → Block → Type 0
IsNamed image header b = (at : ℕ) × NamesBlock image header at b

-- messages are met from the start of the block on
abbrev pub IsMet : List ℕ → ℕ → Block → Type 0
IsMet image header b = Met image header b.at (b.at + b.len)

module _ (image : List ℕ) (header : ℕ) where
  named_met : (b : Block) → IsNamed image header b → IsMet image header b
  named_met b (at, names) =
      let place : b.at ≡ number_at image (at + 8) 8 = ap (λ (x : Block). x.at) names.named in
      let len : b.len ≡ number_at image (at + 16) 8 = ap (λ (x : Block). x.len) names.named in
      in_continuation ((names.fits).0).met (names.fits).1 names.kind names.long place (ap (λ n. b.at + n) len)

  pub all_met : (bs : List Block) → AllByRecursion (IsNamed image header) bs → AllByRecursion (IsMet image header) bs
  all_met [] all = tt
  all_met (b ∷ bs) all = (named_met b all.0, all_met bs all.1)

  all_named : (m : Message) (bs : List Block) → AllByRecursion (IsNamedBy image header m) bs → AllByRecursion (IsNamed image header) bs
  all_named m [] all = tt
  all_named m (b ∷ bs) all = (((all.0).0, (all.0).2), all_named m bs all.1)

  -- the blocks that messages name
  pub all_naming : (ms : List Message) → AllByRecursion (IsNaming image header) ms → AllByRecursion (IsNamed image header) (continuations ms)
  all_naming [] all = tt
  all_naming (m ∷ ms) all = all_append (IsNamed image header) (continuation m) (continuations ms) (all_named m (continuation m) all.0) (all_naming ms all.1)

  first_met : IsMet image header (first_block image header)
  first_met = at_start refl refl

  -- the messages of a block name blocks from their places
  pub fills_naming : (b : Block) (from : ℕ) (ms : List Message) → Fills b.at (part b.at b.len image) from ms → Met image header (b.at + from) (b.at + b.len)
      → AllByRecursion (IsNaming image header) ms
  fills_naming b from [] fills met = tt
  fills_naming b from (m ∷ ms) fills met = (
    names image header b from m fills.0 met,
    fills_naming b (from + 8 + number_at (part b.at b.len image) (from + 2) 2) ms fills.1 (next_met image header b from m fills.0 met),
  )

  -- where the message behind those that were read begins
  pub fills_met : (b : Block) (from : ℕ) (ms : List Message) (to : ℕ) → FillsTo b.at (part b.at b.len image) from ms to
      → Met image header (b.at + from) (b.at + b.len) → Met image header (b.at + to) (b.at + b.len)
  fills_met b from [] to fills met = subst (λ (p : ℕ). Met image header (b.at + p) (b.at + b.len)) fills met
  fills_met b from (m ∷ ms) to fills met =
      fills_met b (from + 8 + number_at (part b.at b.len image) (from + 2) 2) ms to fills.1 (next_met image header b from m fills.0 met)

  pub start : (b : Block) → IsMet image header b → Met image header (b.at + 0) (b.at + b.len)
  start b met = let none : b.at + 0 ≡ b.at = omega arith in rw none met

  -- blocks that wait are met, and messages name blocks from their places
  pub filled_met : (waiting : List Block) (parts : List (List Message)) (rest : List Block) → FilledTo image waiting parts rest
      → AllByRecursion (IsMet image header) waiting
      → AllByRecursion (IsMet image header) rest × AllByRecursion (IsNaming image header) (flat_map (λ (ms : List Message). ms) parts)
  filled_met waiting [] rest filled met = (subst (AllByRecursion (IsMet image header)) filled met, tt)
  filled_met [] (ms ∷ parts) rest filled met = absurd filled
  filled_met (b ∷ waiting) (ms ∷ parts) rest filled met =
      let here = fills_naming b 0 ms filled.0 (start b met.0) in
      let there = filled_met (waiting ++ continuations ms) parts rest filled.1
      (all_append (IsMet image header) waiting (continuations ms) met.1 (all_met (continuations ms) (all_naming ms here))) in
      (there.0, all_append (IsNaming image header) ms (flat_map (λ (x : List Message). x) parts) here there.1)

  -- the place where a reading stops is met
  pub stop_met : (parts : List (List Message)) (b : Block) (rest : List Block) (before : List Message) (to : ℕ)
      → FilledTo image (first_block image header ∷ []) parts (b ∷ rest) → FillsTo b.at (part b.at b.len image) 0 before to
      → Met image header (b.at + to) (b.at + b.len)
  stop_met parts b rest before to filled fills =
      let all = filled_met (first_block image header ∷ []) parts (b ∷ rest) filled (first_met, tt) in
      fills_met b 0 before to fills (start b (all.0).0)

  pub parts_naming : (parts : List (List Message)) (rest : List Block) → FilledTo image (first_block image header ∷ []) parts rest
      → AllByRecursion (IsNaming image header) (flat_map (λ (ms : List Message). ms) parts)
  parts_naming parts rest filled = (filled_met (first_block image header ∷ []) parts rest filled (first_met, tt)).1

pub whole_filled : (image : List ℕ) (waiting : List Block) (parts : List (List Message)) → FillBlocks image waiting parts → FilledTo image waiting parts []
whole_filled image [] [] fills = refl
whole_filled image [] (ms ∷ parts) fills = fills
whole_filled image (b ∷ waiting) [] fills = absurd fills
whole_filled image (b ∷ waiting) (ms ∷ parts) fills = (fills.0, whole_filled image (waiting ++ continuations ms) parts fills.1)

-- messages of a header name their blocks from their places
pub has_naming : (image : List ℕ) (header : ℕ) (messages : List Message) (blocks : List Block) → HasMessages image header messages blocks
    → AllByRecursion (IsNaming image header) messages
has_naming image header messages blocks has = subst (AllByRecursion (IsNaming image header)) (sym has.all)
    (parts_naming image header has.parts [] (whole_filled image (first_block image header ∷ []) has.parts has.filled))
