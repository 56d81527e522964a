-- How many bytes messages and blocks have, and so how many of the messages stand in the first blocks.
use Rattle.std.proofs.Common.{◌≡◌, ℕ, zero, suc, ◌+◌, ◌<◌, ◌≤◌, inl, inr, ◌==◌, cond, Bool, true, false, Option, Some, None, List, [], ◌∷◌, length, length-append, take, refl, sym, ◌∙◌, subst, arith, eqb-true, count_by}
use Rattle.std.specs.List.{AllByRecursion}
use Rattle.std.specs.Option.{IsSome}
use Rattle.std.proofs.lemmas.Bool.{cases_order}
use Rattle.std.proofs.lemmas.List.Sums.{sum_by-cons, sum_by-take-le}
use Rattle.h5_bytes.specs.Blocks.{Separate, Inside}
use Rattle.h5_bytes.specs.declared.Block.{Block}
use Rattle.h5_bytes.proofs.PartLaws.{length-part}
use Rattle.h5_space.proofs.Unheld.{unheld, unheld-claim, unheld-le}
use Rattle.h5_model.specs.Format.Addresses.{continuation_of}
use Rattle.h5_model.specs.Format.MessageTypes.{continuation_kind}
use Rattle.h5_model.specs.Format.Messages.{Message, IsContinued, continuation, continuations}
use Rattle.h5_header.specs.Added.{lengths, spans}
use Rattle.h5_header.specs.Listed.{Listed, message_in, messages_in, IsWithin}
use Rattle.h5_header.specs.Standing.{IsStanding}
use Rattle.h5_header.specs.declared.message.Message.{Message as Placed}
use Rattle.h5_header.proofs.FillInserts.{bytes_in, bytes_of}

pub spans-cons : (x : Placed) (xs : List Placed) → spans (x ∷ xs) ≡ 8 + x.size + spans xs
spans-cons x xs = sum_by-cons (λ (m : Placed). 8 + m.size) x xs

pub lengths-cons : (b : Block) (bs : List Block) → lengths (b ∷ bs) ≡ b.len + lengths bs
lengths-cons b bs = sum_by-cons (λ (x : Block). x.len) b bs

-- ---- the same of messages of the image, and of blocks

pub spans_said : (image : List ℕ) (xs : List Placed) → IsWithin (length image) xs → bytes_of (messages_in image xs) ≡ spans xs
spans_said image [] within = refl
spans_said image (x ∷ xs) within = omega (arith, spans-cons x xs, length-part x.at x.size image within.0, spans_said image xs within.1)

pub lengths_in : (bs : List Block) → bytes_in bs ≡ lengths bs
lengths_in [] = refl
lengths_in (b ∷ bs) = omega (arith, lengths-cons b bs, lengths_in bs)

-- ---- blocks that share no byte have no more bytes than the image

inside_unheld : (n : ℕ) (bs : List Block) → Separate bs → Inside n bs → unheld bs n + lengths bs ≤ n
inside_unheld n [] once inside = omega (arith, unheld-le [] n)
inside_unheld n (b ∷ bs) once inside =
    let rest : unheld bs n + lengths bs ≤ n = inside_unheld n bs (λ p. omega (arith, once p)) inside.1 in
    let here : unheld (b ∷ bs) n + b.len ≡ unheld bs n = unheld-claim bs (b ∷ bs) b.at b.len n (λ p. omega arith) once inside.0 in
    omega (arith, rest, here, lengths-cons b bs)

lengths_inside : (n : ℕ) (bs : List Block) (k : ℕ) → Separate bs → Inside n bs → lengths (take k bs) ≤ n
lengths_inside n bs k once inside = omega (arith, inside_unheld n bs once inside, sum_by-take-le (λ (b : Block). b.len) bs k)

pub standing_lengths : (image : List ℕ) (m : Listed) (k : ℕ) → IsStanding image m → lengths (take k m.blocks) ≤ length image
standing_lengths image m k is = lengths_inside (length image) m.blocks k is.separate is.inside

-- ---- more messages have more bytes

spans_rise : (xs : List Placed) (i j : ℕ) → i < j → j ≤ length xs → spans (take i xs) < spans (take j xs)
spans_rise xs i zero low high = absurd (omega (arith, low))
spans_rise [] i (suc j) low high = absurd (omega (arith, high))
spans_rise (x ∷ xs) zero (suc j) low high = omega (arith, spans-cons x (take j xs))
spans_rise (x ∷ xs) (suc i) (suc j) low high =
    omega (arith, spans-cons x (take i xs), spans-cons x (take j xs), spans_rise xs i j (omega (arith, low)) (omega (arith, high)))

-- so the bytes tell how many they are
pub one_place : (xs : List Placed) (i j : ℕ) → i ≤ length xs → j ≤ length xs → spans (take i xs) ≡ spans (take j xs) → i ≡ j
one_place xs i j low high same = elim (cases_order i j) [
  | inl is ↦ is
  | inr other ↦ elim other [
    | inl less ↦ absurd (omega (arith, same, spans_rise xs i j less high))
    | inr more ↦ absurd (omega (arith, same, spans_rise xs j i more low))
  ]
]

-- one that has fewer bytes than some first messages is followed by one of these
pub next_spans : (xs : List Placed) (i j : ℕ) → i ≤ length xs → j ≤ length xs → spans (take i xs) < spans (take j xs) → i < j
next_spans xs i j low high less = elim (cases_order i j) [
  | inl is ↦ absurd (omega (arith, less, subst (λ (n : ℕ). spans (take n xs) ≡ spans (take i xs)) is refl))
  | inr other ↦ elim other [
    | inl before ↦ before
    | inr behind ↦ absurd (omega (arith, less, spans_rise xs j i behind low))
  ]
]

pub spans-le : (xs : List Placed) (i j : ℕ) → i ≤ j → j ≤ length xs → spans (take i xs) ≤ spans (take j xs)
spans-le xs i j low high = elim (cases_order i j) [
  | inl is ↦ subst (λ (n : ℕ). spans (take i xs) ≤ spans (take n xs)) is (omega arith)
  | inr other ↦ elim other [
    | inl less ↦ omega (arith, spans_rise xs i j less high)
    | inr more ↦ absurd (omega (arith, low, more))
  ]
]

-- ---- each Continuation names one block, and no other message does

one_named : (m : Message) → IsContinued m → length (continuation m) ≡ cond (m.kind == continuation_kind) 1 0
one_named m continued = go (m.kind == continuation_kind) refl where
  names : (o : Option Block) → continuation_of m.body ≡ o → IsSome o → (m.kind == continuation_kind) ≡ true → length (continuation m) ≡ 1
  names None says some same = absurd (cc)
  names (Some b) says some same = rw (same, says) refl

  go : (t : Bool) → (m.kind == continuation_kind) ≡ t → length (continuation m) ≡ cond (m.kind == continuation_kind) 1 0
  go false other = rw other refl
  go true same = names (continuation_of m.body) refl (continued (eqb-true m.kind continuation_kind same)) same ∙ sym (rw same refl)

pub names_counted : (image : List ℕ) (xs : List Placed) → AllByRecursion IsContinued (messages_in image xs)
    → length (continuations (messages_in image xs)) ≡ count_by (λ (m : Placed). m.kind == continuation_kind) xs
names_counted image [] all = refl
names_counted image (x ∷ xs) all = omega (
  arith,
  one_named (message_in image x) all.0,
  names_counted image xs all.1,
  length-append (continuation (message_in image x)) (continuations (messages_in image xs)),
  sum_by-cons (λ (m : Placed). cond (m.kind == continuation_kind) 1 0) x xs,
)
