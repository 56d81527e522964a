-- The header of the plain layout has the messages that it was written with.
use Rattle.std.proofs.Common.{◌≡◌, ℕ, suc, ◌+◌, ◌%◌, ◌^◌, ◌<◌, ◌≤◌, true, false, List, [], ◌∷◌, ◌++◌, length, append-nil, append_assoc, refl, sym, ap, ◌∙◌, subst, arith, rules}
use Rattle.std.proofs.lemmas.List.{same_lists, places, length-append, take_all, get_or-append-add}
use Rattle.std.specs.Prelude.{◌==◌, bit_and}
use Rattle.std.specs.List.{AllByRecursion}
use Rattle.byteorder.specs.Numbers.{little_number-reads_back}
use Rattle.h5_bytes.specs.Bytes.{number_at, byte_at, part}
use Rattle.h5_bytes.specs.Blocks.{block}
use Rattle.h5_bytes.proofs.PartLaws.{part-part, part-appended}
use Rattle.h5_bytes.proofs.FieldLaws.{number_at-part}
use Rattle.h5_model.specs.Format.MessageTypes.{continuation_kind}
use Rattle.h5_model.specs.Format.Messages.{Message, IsMessage, Fills, FillBlocks, HasMessages, continuations, prefix_at, reference_count, first_size, total_in, IsContinued}
use Rattle.h5_bytes.specs.Numbers.{short, zeros}
use Rattle.h5_model.specs.Format.Plain.{message_bytes, messages_bytes, header_bytes}

-- ---- bytes one after another

-- a number behind other bytes
pub number_at-behind : (front rest : List ℕ) (k n : ℕ) → k + n ≤ length rest → number_at (front ++ rest) (length front + k) n ≡ number_at rest k n
number_at-behind front rest k n low =
    sym (number_at-part k n (length front) (length rest) (front ++ rest) low) ∙ ap (λ bs. number_at bs k n) (part-appended front rest)

-- bytes between others
pub part-between : (front bytes rest : List ℕ) → part (length front) (length bytes) (front ++ (bytes ++ rest)) ≡ bytes
unfolding part
part-between front bytes rest = same_lists _ _ (search (rules, places)) (λ k d l. grind (arith, places))

-- ---- messages one after another

-- a message that a header may have: a type of two bytes but no Continuation, and a body of a multiple of 8 bytes below 65536
pub record IsPlain (m : ℕ × List ℕ) : Type 0 where
  pub kind : m.0 < 65536
  pub own : (m.0 == continuation_kind) ≡ false
  pub padded : length m.1 % 8 ≡ 0
  pub low : length m.1 < 65536

-- the messages with the places of their bodies, where the first head stands at this place
abbrev pub messages_from : ℕ → List (ℕ × List ℕ) → List Message
messages_from at [] = []
messages_from at (m ∷ ms) = record { kind = m.0; at = at + 8; body = m.1 } ∷ messages_from (at + 8 + length m.1) ms

-- the head of a message and its body, behind other bytes
module _ (front rest : List ℕ) (m : ℕ × List ℕ) (plain : IsPlain m) where
  long : length (message_bytes m ++ rest) ≡ 8 + length m.1 + length rest
  long = simp length-append (omega arith)

  kind-read : number_at (front ++ (message_bytes m ++ rest)) (length front) 2 ≡ m.0
  unfolding number_at
  kind-read =
      let none : length front + 0 ≡ length front = omega arith in
      let low : m.0 < 256 ^ 2 = omega (arith, plain.kind) in
      let there : number_at (front ++ (message_bytes m ++ rest)) (length front + 0) 2 ≡ number_at (message_bytes m ++ rest) 0 2
      = number_at-behind front (message_bytes m ++ rest) 0 2 (omega (arith, long)) in
      ap (λ i. number_at (front ++ (message_bytes m ++ rest)) i 2) (sym none) ∙ there ∙ little_number-reads_back 2 m.0 [] low

  size-read : number_at (front ++ (message_bytes m ++ rest)) (length front + 2) 2 ≡ length m.1
  unfolding number_at
  size-read =
      let low : length m.1 < 256 ^ 2 = omega (arith, plain.low) in
      let there : number_at (front ++ (message_bytes m ++ rest)) (length front + 2) 2 ≡ number_at (message_bytes m ++ rest) 2 2
      = number_at-behind front (message_bytes m ++ rest) 2 2 (omega (arith, long)) in
      there ∙ little_number-reads_back 2 (length m.1) [] low

  flags-read : byte_at (front ++ (message_bytes m ++ rest)) (length front + 4) ≡ 0
  flags-read = get_or-append-add front (message_bytes m ++ rest) 4 0

  head : List ℕ
  head = short m.0 ++ (short (length m.1) ++ zeros 4)

  body-read : part (length front + 8) (length m.1) (front ++ (message_bytes m ++ rest)) ≡ m.1
  unfolding head
  body-read =
      let split : (front ++ head) ++ (m.1 ++ rest) ≡ front ++ (message_bytes m ++ rest) = append_assoc front head (m.1 ++ rest) in
      let over : length (front ++ head) ≡ length front + 8 = length-append front head in
      ap (λ i. part i (length m.1) (front ++ (message_bytes m ++ rest))) (sym over)
      ∙ ap (λ bs. part (length (front ++ head)) (length m.1) bs) (sym split)
      ∙ part-between (front ++ head) m.1 rest

  -- the same in bytes that are these
  module _ (bytes : List ℕ) (at : ℕ) (are : bytes ≡ front ++ (message_bytes m ++ rest)) (e : at ≡ length front) where
    pub size-is : number_at bytes (at + 2) 2 ≡ length m.1
    size-is = (λ i. number_at (are i) (e i + 2) 2) ∙ size-read

    pub is-message : (block_at : ℕ) → IsMessage block_at bytes at (record { kind = m.0; at = block_at + at + 8; body = m.1 })
    is-message block_at = record {
      kind = sym ((λ i. number_at (are i) (e i) 2) ∙ kind-read);
      place = refl;
      body = sym ((λ i. part (e i + 8) (size-is i) (are i)) ∙ body-read);
      whole = omega (arith, size-is, ap length are, length-append front (message_bytes m ++ rest), long, e);
      padded = ap (λ n. n % 8) size-is ∙ plain.padded;
      own = ap (λ n. bit_and n 2) ((λ i. byte_at (are i) (e i + 4)) ∙ flags-read);
    }

-- the messages fill the bytes from where they begin
pub fills-plain : (block_at at : ℕ) (bytes front : List ℕ) (ms : List (ℕ × List ℕ)) → bytes ≡ front ++ messages_bytes ms → at ≡ length front
    → AllByRecursion IsPlain ms → Fills block_at bytes at (messages_from (block_at + at) ms)
fills-plain block_at at bytes front [] are e all = omega (arith, ap length are, length-append front [])
fills-plain block_at at bytes front (m ∷ ms) are e all =
    let size : number_at bytes (at + 2) 2 ≡ length m.1 = size-is front (messages_bytes ms) m all.0 bytes at are e in
    let next : List ℕ = front ++ message_bytes m in
    let on : bytes ≡ (front ++ message_bytes m) ++ messages_bytes ms = are ∙ sym (append_assoc front (message_bytes m) (messages_bytes ms)) in
    let long : at + 8 + length m.1 ≡ length (front ++ message_bytes m) = simp length-append (omega arith) in
    let rest : Fills block_at bytes (at + 8 + length m.1) (messages_from (block_at + (at + 8 + length m.1)) ms)
    = fills-plain block_at (at + 8 + length m.1) bytes (front ++ message_bytes m) ms on long all.1 in
    let up : block_at + (at + 8 + length m.1) ≡ block_at + at + 8 + length m.1 = omega arith in (
      is-message front (messages_bytes ms) m all.0 bytes at are e block_at,
      subst (λ n. Fills block_at bytes (at + 8 + n) (messages_from (block_at + at + 8 + length m.1) ms)) (sym size)
          (subst (λ n. Fills block_at bytes (at + 8 + length m.1) (messages_from n ms)) up rest),
    )

pub length-messages_from : (at : ℕ) (ms : List (ℕ × List ℕ)) → length (messages_from at ms) ≡ length ms
length-messages_from at [] = refl
length-messages_from at (m ∷ ms) = ap (λ n. suc n) (length-messages_from (at + 8 + length m.1) ms)

pub no_continuations : (at : ℕ) (ms : List (ℕ × List ℕ)) → AllByRecursion IsPlain ms → continuations (messages_from at ms) ≡ []
no_continuations at [] all = refl
no_continuations at (m ∷ ms) all = rw (all.0.own, no_continuations (at + 8 + length m.1) ms all.1) refl

pub none_continued : (at : ℕ) (ms : List (ℕ × List ℕ)) → AllByRecursion IsPlain ms → AllByRecursion IsContinued (messages_from at ms)
none_continued at [] all = tt
none_continued at (m ∷ ms) all = (
  λ e. let other : (m.0 == continuation_kind) ≡ false = all.0.own in let same : (m.0 == continuation_kind) ≡ true = ap (λ k. k == continuation_kind) e in absurd (cc),
  none_continued (at + 8 + length m.1) ms all.1,
)

-- ---- the header

module _ (image : List ℕ) (at count : ℕ) (ms : List (ℕ × List ℕ)) (there : part at (length (header_bytes count ms)) image ≡ header_bytes count ms) where
  prefix-is : prefix_at image at ≡ part 0 16 (header_bytes count ms)
  prefix-is =
      let none : at + 0 ≡ at = omega arith in
      let inner : part 0 16 (part at (length (header_bytes count ms)) image) ≡ part (at + 0) 16 image
      = part-part 0 16 at (length (header_bytes count ms)) image (omega arith) in
      sym (inner ∙ ap (λ i. part i 16 image) none) ∙ ap (λ bs. part 0 16 bs) there

  -- the reference count
  pub header_counted : count < 2 ^ 32 → reference_count (prefix_at image at) ≡ count
  unfolding number_at part
  header_counted low = ap reference_count prefix-is ∙ little_number-reads_back 4 count [] low

  first_size-is : length (messages_bytes ms) < 2 ^ 32 → first_size (prefix_at image at) ≡ length (messages_bytes ms)
  unfolding number_at part
  first_size-is low = ap first_size prefix-is ∙ little_number-reads_back 4 (length (messages_bytes ms)) [] low

  total-is : length ms < 65536 → total_in (prefix_at image at) ≡ length ms
  unfolding number_at part
  total-is low = ap total_in prefix-is ∙ little_number-reads_back 2 (length ms) [] low

  body-is : part (at + 16) (length (messages_bytes ms)) image ≡ messages_bytes ms
  unfolding part
  body-is =
      sym (part-part 16 (length (messages_bytes ms)) at (length (header_bytes count ms)) image (omega arith))
      ∙ ap (λ bs. part 16 (length (messages_bytes ms)) bs) there
      ∙ take_all (length (messages_bytes ms)) (messages_bytes ms) (omega arith)

  version-is : byte_at (prefix_at image at) 0 ≡ 1
  unfolding part
  version-is = ap (λ bs. byte_at bs 0) prefix-is

  filled : AllByRecursion IsPlain ms → length (messages_bytes ms) < 2 ^ 32
      → Fills (at + 16) (part (at + 16) (first_size (prefix_at image at)) image) 0 (messages_from (at + 16) ms)
  filled all low =
      let none : at + 16 + 0 ≡ at + 16 = omega arith in
      let bytes : part (at + 16) (first_size (prefix_at image at)) image ≡ messages_bytes ms
      = ap (λ n. part (at + 16) n image) (first_size-is low) ∙ body-is in
      subst (λ n. Fills (at + 16) (part (at + 16) (first_size (prefix_at image at)) image) 0 (messages_from n ms)) none
      (fills-plain (at + 16) 0 (part (at + 16) (first_size (prefix_at image at)) image) [] ms bytes refl all)

  laid : AllByRecursion IsPlain ms → length (messages_bytes ms) < 2 ^ 32
      → block at (length (header_bytes count ms)) ∷ [] ≡ block at (16 + first_size (prefix_at image at)) ∷ continuations (messages_from (at + 16) ms)
  laid all low =
      let size : length (header_bytes count ms) ≡ 16 + first_size (prefix_at image at) = omega (arith, first_size-is low) in
      let none : continuations (messages_from (at + 16) ms) ≡ [] = no_continuations (at + 16) ms all in
      λ i. block at (size i) ∷ sym none i

  -- the header has the messages, in one block
  pub header_reads : AllByRecursion IsPlain ms → length ms < 65536 → length (messages_bytes ms) < 2 ^ 32
      → HasMessages image at (messages_from (at + 16) ms) (block at (length (header_bytes count ms)) ∷ [])
  header_reads all few low = record {
    version = version-is;
    parts = messages_from (at + 16) ms ∷ [];
    filled = (filled all low, subst (λ bs. FillBlocks image bs []) (sym (no_continuations (at + 16) ms all)) tt);
    all = sym (append-nil (messages_from (at + 16) ms));
    total = total-is few ∙ sym (length-messages_from (at + 16) ms);
    continued = none_continued (at + 16) ms all;
    laid = laid all low;
  }
