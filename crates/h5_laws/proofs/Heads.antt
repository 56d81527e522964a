-- Where a message of a header is met, a message of the header's list stands.
use Rattle.std.proofs.Common.{◌≡◌, ◌≢◌, ℕ, ◌+◌, ◌≤◌, ◌%◌, ◌⊎◌, inl, inr, List, [], ◌∷◌, ◌++◌, length, refl, sym, ap, ap₂, ◌∙◌, subst, arith, Some}
use Rattle.std.specs.Prelude.{bit_and, nat_le, true, ◌==◌}
use Rattle.std.specs.List.{flat_map}
use Rattle.std.proofs.lemmas.Bool.Decides.{nat_tests}
use Rattle.h5_bytes.specs.Bytes.{number_at, byte_at, part}
use Rattle.h5_bytes.specs.Blocks.{block, Inside}
use Rattle.h5_bytes.specs.declared.Block.{Block}
use Rattle.h5_bytes.proofs.PartLaws.{part-part, length-part}
use Rattle.h5_bytes.proofs.FieldLaws.{number_at-part}
use Rattle.h5_model.specs.Format.Addresses.{continuation_of}
use Rattle.h5_model.specs.Format.MessageTypes.{continuation_kind}
use Rattle.h5_model.specs.Format.Messages.{Message, IsMessage, Fills, FillBlocks, HasMessages, continuation, continuations, first_block, prefix_at, first_size}
use Rattle.h5_model.specs.Format.Reached.{Met, at_start, behind, in_continuation, kind_at, size_at}
use Rattle.h5_model.proofs.BodyLaws.{byte_at-part}
use Rattle.h5_laws.proofs.Lists.{In, in_all, in_left, in_right, in_flat, from_flat, in_either}

-- a block that waits, or that a message names, is filled by one of the parts
filled_by : (image : List ℕ) (waiting : List Block) (parts : List (List Message)) (b : Block) → FillBlocks image waiting parts
    → In b waiting ⊎ In b (flat_map continuations parts) → (ms : List Message) × In ms parts × Fills b.at (part b.at b.len image) 0 ms
filled_by image [] [] b fills (inl at) = absurd at
filled_by image [] [] b fills (inr at) = absurd at
filled_by image [] (ms ∷ parts) b fills at = absurd fills
filled_by image (c ∷ waiting) [] b fills at = absurd fills
filled_by image (c ∷ waiting) (ms ∷ parts) b fills (inl (inl e)) =
    (ms, inl refl, subst (λ (x : Block). Fills x.at (part x.at x.len image) 0 ms) e fills.0)
filled_by image (c ∷ waiting) (ms ∷ parts) b fills (inl (inr at)) =
    let rest = filled_by image (waiting ++ continuations ms) parts b fills.1 (inl (in_left b waiting (continuations ms) at)) in
    (rest.0, inr rest.1, rest.2)
filled_by image (c ∷ waiting) (ms ∷ parts) b fills (inr at) = elim (in_either b (continuations ms) (flat_map continuations parts) at) [
  | inl here ↦
      let rest = filled_by image (waiting ++ continuations ms) parts b fills.1 (inl (in_right b waiting (continuations ms) here)) in
      (rest.0, inr rest.1, rest.2)
  | inr later ↦
      let rest = filled_by image (waiting ++ continuations ms) parts b fills.1 (inr later) in
      (rest.0, inr rest.1, rest.2)
]

-- a block that some message of the list names is one of those that its parts name
named_in_parts : (b : Block) (parts : List (List Message)) → In b (continuations (flat_map (λ (ms : List Message). ms) parts)) → In b (flat_map continuations parts)
named_in_parts b parts at =
    let by = from_flat continuation b (flat_map (λ (ms : List Message). ms) parts) at in
    let of = from_flat (λ (ms : List Message). ms) by.0 parts by.1 in
    in_flat continuations of.0 b parts of.1 (in_flat continuation by.0 b of.0 of.2 by.2)

-- the rest of a block's messages stand from a place to an end
pub record Standing (image : List ℕ) (messages : List Message) (at end : ℕ) : Type 0 where
  pub b : Block
  pub from : ℕ
  pub rest : List Message
  pub place : at ≡ b.at + from
  pub ends : end ≡ b.at + b.len
  pub within : b.at + b.len ≤ length image
  pub fills : Fills b.at (part b.at b.len image) from rest
  pub among : (m : Message) → In m rest → In m messages

-- a message stands at a place, before an end
pub record Headed (image : List ℕ) (messages : List Message) (at end : ℕ) : Type 0 where
  pub m : Message
  pub member : In m messages
  pub kind : m.kind ≡ kind_at image at
  pub place : m.at ≡ at + 8
  pub body : m.body ≡ part (at + 8) (size_at image at) image
  pub fits : at + 8 + size_at image at ≤ end
  pub padded : size_at image at % 8 ≡ 0
  pub own : bit_and (byte_at image (at + 4)) 2 ≡ 0
  pub inside : end ≤ length image
  pub next : Standing image messages (at + 8 + size_at image at) end

module _ (image : List ℕ) (messages : List Message) (b : Block) (from : ℕ) (m : Message) (rest : List Message) (within : b.at + b.len ≤ length image)
    (is : IsMessage b.at (part b.at b.len image) from m) (fills : Fills b.at (part b.at b.len image) (from + 8 + number_at (part b.at b.len image) (from + 2) 2) rest)
    (among : (x : Message) → In x (m ∷ rest) → In x messages) where
  at : ℕ
  at = b.at + from

  pub fit : from + 8 + number_at (part b.at b.len image) (from + 2) 2 ≤ b.len
  fit = omega (arith, is.whole, length-part b.at b.len image within)

  pub size : number_at (part b.at b.len image) (from + 2) 2 ≡ size_at image (b.at + from)
  size =
      let over : b.at + (from + 2) ≡ b.at + from + 2 = omega arith in
      number_at-part (from + 2) 2 b.at b.len image (omega (arith, fit)) ∙ ap (λ (p : ℕ). number_at image p 2) over

  flags : byte_at (part b.at b.len image) (from + 4) ≡ byte_at image (b.at + from + 4)
  flags =
      let over : b.at + (from + 4) ≡ b.at + from + 4 = omega arith in
      byte_at-part (from + 4) b.at b.len image (omega (arith, fit)) ∙ ap (byte_at image) over

  pub body : m.body ≡ part (b.at + from + 8) (size_at image (b.at + from)) image
  body =
      let over : b.at + (from + 8) ≡ b.at + from + 8 = omega arith in
      is.body ∙ part-part (from + 8) (number_at (part b.at b.len image) (from + 2) 2) b.at b.len image (omega (arith, fit)) ∙ ap₂ (λ p n. part p n image) over size

  pub head_is : Headed image messages (b.at + from) (b.at + b.len)
  head_is = record {
    m = m;
    member = among m (inl refl);
    kind = is.kind ∙ number_at-part from 2 b.at b.len image (omega (arith, fit));
    place = is.place;
    body = body;
    fits = omega (arith, fit, size);
    padded = rw (← size) is.padded;
    own = rw (← flags) is.own;
    inside = within;
    next = record {
      b = b;
      from = from + 8 + number_at (part b.at b.len image) (from + 2) 2;
      rest = rest;
      place = omega (arith, size);
      ends = refl;
      within = within;
      fills = fills;
      among = λ x in_rest. among x (inr in_rest);
    };
  }

-- where a place is not the end of its block, a message stands there
pub headed : (image : List ℕ) (messages : List Message) (at end : ℕ) → Standing image messages at end → at ≢ end → Headed image messages at end
headed image messages at end s before =
    subst (λ (p : ℕ). Headed image messages p end) (sym s.place)
    (subst (λ (q : ℕ). Headed image messages (s.b.at + s.from) q) (sym s.ends) (go s.rest s.fills s.among)) where
      go : (rest : List Message) → Fills s.b.at (part s.b.at s.b.len image) s.from rest → ((m : Message) → In m rest → In m messages)
          → Headed image messages (s.b.at + s.from) (s.b.at + s.b.len)
      go [] fills among = absurd (before (omega (arith, s.place, s.ends, fills, length-part s.b.at s.b.len image s.within)))
      go (m ∷ rest) fills among = head_is image messages s.b s.from m rest s.within fills.0 fills.1 among

-- a body that stands in the image begins with two numbers of it
pub two_numbers : (image : List ℕ) (at size : ℕ) (body : List ℕ) → body ≡ part at size image → at + size ≤ length image → 16 ≤ size
    → (nat_le 16 (length body) ≡ true) × (number_at body 0 8 ≡ number_at image at 8) × (number_at body 8 8 ≡ number_at image (at + 8) 8)
two_numbers image at size body is inside long =
    let len : length body ≡ size = ap length is ∙ length-part at size image inside in
    let none : at + 0 ≡ at = omega arith in (
      grind (arith, nat_tests),
      ap (λ bs. number_at bs 0 8) is ∙ number_at-part 0 8 at size image (omega arith) ∙ ap (λ (p : ℕ). number_at image p 8) none,
      ap (λ bs. number_at bs 8 8) is ∙ number_at-part 8 8 at size image (omega arith),
    )

-- a Continuation with its two numbers names the block that they say
pub names_block : (image : List ℕ) (at size : ℕ) (body : List ℕ) → body ≡ part at size image → at + size ≤ length image → 16 ≤ size
    → continuation_of body ≡ Some (block (number_at image at 8) (number_at image (at + 8) 8))
unfolding continuation_of
names_block image at size body is inside long =
    let two = two_numbers image at size body is inside long in rw (two.0, two.1, two.2) refl

pub in_continuations : (m : Message) (b : Block) → m.kind ≡ continuation_kind → continuation_of m.body ≡ Some b → In b (continuation m)
in_continuations m b kind is = let same : (m.kind == continuation_kind) ≡ true = grind (arith, nat_tests) in rw (same, is) (inl refl)

module _ (image : List ℕ) (header : ℕ) (messages : List Message) (blocks : List Block) (has : HasMessages image header messages blocks)
    (inside : Inside (length image) blocks) where
  laid : Inside (length image) (block header (16 + first_size (prefix_at image header)) ∷ continuations messages)
  laid = subst (Inside (length image)) has.laid inside

  -- a block of messages is filled with messages of the list
  standing_block : (b : Block) → b.at + b.len ≤ length image → In b (first_block image header ∷ []) ⊎ In b (flat_map continuations has.parts)
      → Standing image messages b.at (b.at + b.len)
  standing_block b low at =
      let by = filled_by image (first_block image header ∷ []) has.parts b has.filled at in
      record {
        b = b;
        from = 0;
        rest = by.0;
        place = omega arith;
        ends = refl;
        within = low;
        fills = by.2;
        among = λ m of. subst (In m) (sym has.all) (in_flat (λ (ms : List Message). ms) by.0 m has.parts by.1 of);
      }

  first_standing : Standing image messages (header + 16) (header + 16 + first_size (prefix_at image header))
  first_standing = standing_block (first_block image header) (omega (arith, laid.0)) (inl (inl refl))

  -- the messages of a block that a message of the list names
  pub named_standing : (m : Message) (b : Block) → In m messages → m.kind ≡ continuation_kind → continuation_of m.body ≡ Some b → Standing image messages b.at (b.at + b.len)
  named_standing m b member kind is =
      let named : In b (continuations messages) = in_flat continuation m b messages member (in_continuations m b kind is) in
      standing_block b (in_all (λ (c : Block). c.at + c.len ≤ length image) b (continuations messages) laid.1 named)
      (inr (named_in_parts b has.parts (subst (λ ms. In b (continuations ms)) has.all named)))

  -- where a message is met, the rest of a block's messages stand
  pub standing : {at : ℕ} → {end : ℕ} → Met image header at end → Standing image messages at end
  standing (at_start {at = at} {end = end} start ends) =
      subst (λ (p : ℕ). Standing image messages p end) (sym start)
      (subst (λ (q : ℕ). Standing image messages (header + 16) q) (sym (ends ∙ ap (λ (p : ℕ). p + first_size (prefix_at image header)) start)) first_standing)
  standing (behind {before = before} {end = end} {at = at} met room padded next low) =
      let h : Headed image messages before end = headed image messages before end (standing met) (λ e. omega (arith, e, room)) in
      subst (λ (p : ℕ). Standing image messages p end) (sym next) h.next
  standing (in_continuation {from = from} {until = until} {at = at} {end = end} met fits kind long start ends) =
      let h : Headed image messages from until = headed image messages from until (standing met) (λ e. omega (arith, e, fits)) in
      let over : from + 8 + 8 ≡ from + 16 = omega arith in
      let names = names_block image (from + 8) (size_at image from) h.m.body h.body (omega (arith, h.fits, h.inside)) long in
      let s = named_standing h.m (block (number_at image (from + 8) 8) (number_at image (from + 8 + 8) 8)) h.member (h.kind ∙ kind) names in
      let last : number_at image (from + 8) 8 + number_at image (from + 8 + 8) 8 ≡ end
      = sym (ends ∙ ap₂ (λ (p q : ℕ). p + number_at image q 8) start (sym over)) in
      subst (λ (p : ℕ). Standing image messages p end) (sym start) (subst (λ (q : ℕ). Standing image messages (number_at image (from + 8) 8) q) last s)
