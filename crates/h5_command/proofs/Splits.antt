-- The parts round a byte.
use Rattle.std.proofs.Common.{◌≡◌, ℕ, ◌+◌, ◌<◌, Bool, true, false, List, [], ◌∷◌, ◌++◌, length, get_or, take, drop, All, cond, eqb, refl, sym, ap, ◌∙◌, take-append-drop, add-one, Bor, Option, Some, None, is_some}
use Rattle.std.proofs.lemmas.Bool.{false≢true}
use Rattle.std.specs.Option.{option_map_or}
use Rattle.h5_command.specs.Words.{parts_left}
use Rattle.h5_model.specs.Scripts.Lines.{size_from, words_ask}
use Rattle.std.proofs.Math.Seq.{drop-cons}
use Rattle.std.specs.List.{slice_split, onto_first}
use Rattle.std.proofs.lemmas.List.Splits.{slice_split_at}

-- the first part ends at the first byte sought
pub slice_split_read : (at i : ℕ) (xs : List ℕ) → i < length xs → eqb (get_or xs i 0) at ≡ true → All (λ b. eqb b at ≡ false) (take i xs) → slice_split (λ b. eqb b at) xs ≡ take i xs ∷ slice_split (λ b. eqb b at) (drop (i + 1) xs)
slice_split_read at i xs lt here before =
    let parts : xs ≡ take i xs ++ (get_or xs i 0 ∷ drop (i + 1) xs) = sym (take-append-drop i xs) ∙ ap (λ zs. take i xs ++ zs) (drop-cons xs i 0 lt ∙ rw add-one refl) in
    ap (slice_split (λ b. eqb b at)) parts ∙ slice_split_at (λ b. eqb b at) (take i xs) (get_or xs i 0) (drop (i + 1) xs) before here

pub onto_first_some : (x : ℕ) (parts : List (List ℕ)) → (first : List ℕ) × (rest : List (List ℕ)) × (onto_first x parts ≡ first ∷ rest)
onto_first_some x [] = (x ∷ [], [], refl)
onto_first_some x (part ∷ parts) = (x ∷ part, parts, refl)

-- there is a first part
pub slice_split_some : (p : ℕ → Bool) (xs : List ℕ) → (first : List ℕ) × (rest : List (List ℕ)) × (slice_split p xs ≡ first ∷ rest)
slice_split_some p [] = ([], [], refl)
slice_split_some p (x ∷ xs) = elim (p x) as (λ b. (first : List ℕ) × (rest : List (List ℕ)) × (cond b ([] ∷ slice_split p xs) (onto_first x (slice_split p xs)) ≡ first ∷ rest)) [
  | true ↦ ([], slice_split p xs, refl)
  | false ↦ onto_first_some x (slice_split p xs)
]

pub left_some : (p : ℕ → Bool) (left : Option (Bor (List ℕ))) → is_some left ≡ true → (first : List ℕ) × (rest : List (List ℕ)) × (option_map_or (λ w. slice_split p w.now) left [] ≡ first ∷ rest)
left_some p None h = absurd (false≢true h)
left_some p (Some w) h = slice_split_some p w.now

-- a size has one `/` at most
pub size_from_three : (word size most : List ℕ) (behind third : Option (Bor (List ℕ))) (rest : Bor (List ℕ)) → slice_split (λ b. eqb b 47) word ≡ size ∷ parts_left 47 behind → behind ≡ Some rest
    → slice_split (λ b. eqb b 47) rest.now ≡ most ∷ parts_left 47 third → is_some third ≡ true → None ≡ size_from word
size_from_three word size most behind third rest first some second more =
    let left = left_some (λ b. eqb b 47) third more in
    let parts : slice_split (λ b. eqb b 47) word ≡ size ∷ most ∷ left.0 ∷ left.1 = first ∙ ap (λ o. size ∷ parts_left 47 o) some ∙ ap (λ ps. size ∷ ps) (second ∙ ap (λ ps. most ∷ ps) left.2) in
    rw parts refl

-- one more part stands behind the first
pub part_more : (at : ℕ) (xs first : List ℕ) (left : Option (Bor (List ℕ))) (rest : Bor (List ℕ)) → slice_split (λ b. eqb b at) xs ≡ first ∷ parts_left at left → left ≡ Some rest → slice_split (λ b. eqb b at) xs ≡ first ∷ slice_split (λ b. eqb b at) rest.now
part_more at xs first left rest parts some = parts ∙ ap (λ o. first ∷ parts_left at o) some

-- no form has so many words
pub words_ask_many : (words : List (List ℕ)) (w a b c d e v : List ℕ) (left : Option (Bor (List ℕ))) → words ≡ w ∷ a ∷ b ∷ c ∷ d ∷ e ∷ v ∷ parts_left 32 left → is_some left ≡ true → None ≡ words_ask words
words_ask_many words w a b c d e v left parts more =
    let rest = left_some (λ b. eqb b 32) left more in
    let all : words ≡ w ∷ a ∷ b ∷ c ∷ d ∷ e ∷ v ∷ rest.0 ∷ rest.1 = parts ∙ ap (λ ps. w ∷ a ∷ b ∷ c ∷ d ∷ e ∷ v ∷ ps) rest.2 in
    rw all refl
