-- Each message that a header is read with is met, at its place.
use Rattle.std.proofs.Common.{◌≡◌, inl, inr, ℕ, ◌+◌, ◌≤◌, List, [], ◌∷◌, ◌++◌, length, refl, sym, ap, ◌∙◌, subst, arith, Option, Some, None, true, false, Bool}
use Rattle.std.proofs.lemmas.Bool.Decides.{nat_tests}
use Rattle.std.specs.Prelude.{◌==◌, if◌then◌else◌}
use Rattle.std.specs.Option.{option_map_or}
use Rattle.std.specs.List.{AllByRecursion, flat_map}
use Rattle.h5_bytes.specs.Bytes.{number_at, part}
use Rattle.h5_bytes.specs.Blocks.{Inside}
use Rattle.h5_bytes.specs.declared.Block.{Block}
use Rattle.h5_bytes.proofs.PartLaws.{length-part}
use Rattle.h5_bytes.proofs.FieldLaws.{number_at-part}
use Rattle.h5_bytes.proofs.BlockLaws.{all_append, all_left, all_right}
use Rattle.h5_model.specs.Format.Addresses.{continuation_of}
use Rattle.h5_model.specs.Format.MessageTypes.{continuation_kind}
use Rattle.h5_model.specs.Format.Messages.{Message, Fills, FillBlocks, HasMessages, continuation, continuations, first_block, prefix_at, first_size}
use Rattle.h5_model.specs.Format.Reached.{Met, at_start, behind, in_continuation, FittingAt, kind_at, size_at}
use Rattle.h5_model.proofs.BodyLaws.{long_body}
use Rattle.h5_laws.proofs.Lists.{In, in_all, all_in, in_either, from_flat}
use Rattle.h5_laws.proofs.Heads.{fit, size, body}
use Rattle.h5_laws.proofs.Bodies.{parts_named}

-- where a message is met
pub record MetMessage (image : List ℕ) (header : ℕ) (m : Message) : Type 0 where
  pub at : ℕ
  pub fits : FittingAt image header at
  pub place : m.at ≡ at + 8
  pub kind : kind_at image at ≡ m.kind
  pub body : m.body ≡ part (at + 8) (size_at image at) image
  pub inside : at + 8 + size_at image at ≤ length image

-- what a message names
named_by : (m : Message) (b : Block) → In b (continuation m) → (m.kind ≡ continuation_kind) × (continuation_of m.body ≡ Some b)
named_by m b at = go (m.kind == continuation_kind) refl (continuation_of m.body) refl at where
  go : (t : Bool) → (m.kind == continuation_kind) ≡ t → (o : Option Block) → continuation_of m.body ≡ o → In b (if t then option_map_or (λ c. c ∷ []) o [] else [])
      → (m.kind ≡ continuation_kind) × (continuation_of m.body ≡ Some b)
  go false e o is there = absurd there
  go true e None is there = absurd there
  go true e (Some c) is (inl same) = (let kind : m.kind ≡ continuation_kind = grind (arith, nat_tests) in kind, is ∙ ap (λ (x : Block). Some x) same)
  go true e (Some c) is (inr none) = absurd none

module _ (image : List ℕ) (header : ℕ) where
  -- messages are met from the start of a block on
  abbrev IsMet : Block → Type 0
  IsMet b = Met image header b.at (b.at + b.len)

  block_met : (b : Block) (from : ℕ) (rest : List Message) → b.at + b.len ≤ length image → Fills b.at (part b.at b.len image) from rest
      → Met image header (b.at + from) (b.at + b.len) → (m : Message) → In m rest → MetMessage image header m
  block_met b from [] within fills met m at = absurd at
  block_met b from (x ∷ rest) within fills met m at =
      let low = fit image (x ∷ rest) b from x rest within fills.0 fills.1 (λ y at. at) in
      let same = size image (x ∷ rest) b from x rest within fills.0 fills.1 (λ y at. at) in
      let whole : b.at + from + 8 + size_at image (b.at + from) ≤ b.at + b.len = omega (arith, low, same) in
      let next : Met image header (b.at + (from + 8 + number_at (part b.at b.len image) (from + 2) 2)) (b.at + b.len)
      = behind met (omega (arith, whole)) (rw (← same) fills.0.padded) (omega (arith, same)) (omega (arith, low)) in
      let head : MetMessage image header x = record {
        at = b.at + from;
        fits = (record { end = b.at + b.len; met = met; inside = omega (arith, whole) }, whole);
        place = fills.0.place;
        kind = sym (fills.0.kind ∙ number_at-part from 2 b.at b.len image (omega (arith, low)));
        body = body image (x ∷ rest) b from x rest within fills.0 fills.1 (λ y at. at);
        inside = omega (arith, whole, within);
      } in
      first_or_rest x rest m at head (block_met b (from + 8 + number_at (part b.at b.len image) (from + 2) 2) rest within fills.1 next m) where
        first_or_rest : (x : Message) (rest : List Message) (m : Message) → In m (x ∷ rest) → MetMessage image header x → (In m rest → MetMessage image header m)
            → MetMessage image header m
        first_or_rest x rest m (inl e) head later = subst (MetMessage image header) e head
        first_or_rest x rest m (inr at) head later = later at

  -- a block that a message names is met
  named_met : (m : Message) (b : Block) → MetMessage image header m → m.kind ≡ continuation_kind → continuation_of m.body ≡ Some b → IsMet b
  named_met m b is kind says =
      let long = long_body m.body b says in
      let n = size_at image is.at in
      let len : length m.body ≡ n = ap length is.body ∙ length-part (is.at + 8) n image is.inside in
      let none : is.at + 8 + 0 ≡ is.at + 8 = omega arith in
      let over : is.at + 8 + 8 ≡ is.at + 16 = omega arith in
      let first : number_at m.body 0 8 ≡ number_at image (is.at + 8) 8
      = ap (λ bs. number_at bs 0 8) is.body ∙ number_at-part 0 8 (is.at + 8) n image (omega (arith, long.0, len)) ∙ ap (λ (p : ℕ). number_at image p 8) none in
      let second : number_at m.body 8 8 ≡ number_at image (is.at + 16) 8
      = ap (λ bs. number_at bs 8 8) is.body ∙ number_at-part 8 8 (is.at + 8) n image (omega (arith, long.0, len)) ∙ ap (λ (p : ℕ). number_at image p 8) over in
      let place : b.at ≡ number_at image (is.at + 8) 8 = ap (λ (c : Block). c.at) long.1 ∙ first in
      let length_is : b.len ≡ number_at image (is.at + 16) 8 = ap (λ (c : Block). c.len) long.1 ∙ second in
      in_continuation is.fits.0.met is.fits.1 (is.kind ∙ kind) (omega (arith, long.0, len)) place (ap (λ (k : ℕ). b.at + k) length_is)

  parts_met : (waiting : List Block) (parts : List (List Message)) → FillBlocks image waiting parts → AllByRecursion IsMet waiting → Inside (length image) waiting
      → Inside (length image) (flat_map continuations parts) → (m : Message) → In m (flat_map (λ (ms : List Message). ms) parts) → MetMessage image header m
  parts_met [] [] fills met inside more m at = absurd at
  parts_met [] (ms ∷ parts) fills met inside more m at = absurd fills
  parts_met (b ∷ waiting) [] fills met inside more m at = absurd fills
  parts_met (b ∷ waiting) (ms ∷ parts) fills met inside more m at =
      let none : b.at + 0 ≡ b.at = omega arith in
      let start : Met image header (b.at + 0) (b.at + b.len) = subst (λ (p : ℕ). Met image header p (b.at + b.len)) (sym none) met.0 in
      let here = block_met b 0 ms inside.0 fills.0 start in
      let next : AllByRecursion IsMet (continuations ms) = all_in IsMet (continuations ms) (λ c named.
      let by = from_flat continuation c ms named in
      let says = named_by by.0 c by.2 in
      named_met by.0 c (here by.0 by.1) says.0 says.1) in
      let later = parts_met (waiting ++ continuations ms) parts fills.1 (all_append IsMet waiting (continuations ms) met.1 next)
      (all_append (λ (c : Block). c.at + c.len ≤ length image) waiting (continuations ms) inside.1
      (all_left (λ (c : Block). c.at + c.len ≤ length image) (continuations ms) (flat_map continuations parts) more))
      (all_right (λ (c : Block). c.at + c.len ≤ length image) (continuations ms) (flat_map continuations parts) more) m in
      elim (in_either m ms (flat_map (λ (x : List Message). x) parts) at) [ inl first ↦ here m first | inr rest ↦ later rest ]

  -- each message of a header
  pub message_met : (messages : List Message) (blocks : List Block) → HasMessages image header messages blocks → Inside (length image) blocks
      → (m : Message) → In m messages → MetMessage image header m
  message_met messages blocks has inside m at =
      let laid = subst (Inside (length image)) has.laid inside in
      let first : first_size (prefix_at image header) + (header + 16) ≤ length image = omega (arith, laid.0) in
      parts_met (first_block image header ∷ []) has.parts has.filled (at_start refl refl, tt) (omega (arith, first), tt)
      (all_in (λ (c : Block). c.at + c.len ≤ length image) (flat_map continuations has.parts)
      (λ b named. in_all (λ (c : Block). c.at + c.len ≤ length image) b (continuations messages) laid.1
      (subst (λ (ms : List Message). In b (continuations ms)) (sym has.all) (parts_named b has.parts named))))
      m (subst (In m) has.all at)
