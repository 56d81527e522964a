-- The commands of bytes that stand one behind the other, and the part of a script that whole lines make.
use Rattle.std.proofs.Common.{◌≡◌, ℕ, zero, suc, ◌+◌, ◌-◌, ◌<◌, ◌≤◌, Bool, true, false, cond, not, eqb, List, [], ◌∷◌, ◌++◌, length, take, reverse, inl, inr, Option, Some, None, refl, sym, ap, ◌∙◌, append_assoc, append-nil, length-append, arith}
use Rattle.std.specs.List.{slice_split, onto_first, prefix_len, suffix_len, filter_map, cons_option}
use Rattle.std.specs.Option.{option_map_or}
use Rattle.std.proofs.lemmas.List.{reverse-append}
use Rattle.std.proofs.lemmas.List.Elements.{All-get_or, filter_map-append}
use Rattle.std.proofs.lemmas.List.Splits.{slice_split_none, length-slice_split}
use Rattle.std.proofs.lemmas.List.Sums.{suffix_len_is, suffix_len-le-length}
use Rattle.h5_model.specs.Scripts.Lines.{Command, line_asks, commands_of, finished_lines}
use Rattle.h5_script.specs.Pieces.{HasNoEnd, AreWholeLines, commands_of_line}

-- ---- commands

onto_first-append : (x : ℕ) (first others : List (List ℕ)) → 0 < length first → onto_first x (first ++ others) ≡ onto_first x first ++ others
onto_first-append x [] others some = absurd (omega (arith, some))
onto_first-append x (part ∷ parts) others some = refl

-- the lines before an end, and those behind it
slice_split-end : (xs ys : List ℕ) → slice_split (λ c. eqb c 10) (xs ++ 10 ∷ ys) ≡ slice_split (λ c. eqb c 10) xs ++ slice_split (λ c. eqb c 10) ys
slice_split-end [] ys = refl
slice_split-end (x ∷ xs) ys =
    let rest = slice_split-end xs ys in
    let some : 0 < length (slice_split (λ c. eqb c 10) xs) = omega (arith, length-slice_split (λ c. eqb c 10) xs) in
    elim (eqb x 10) as (λ b. cond b ([] ∷ slice_split (λ c. eqb c 10) (xs ++ 10 ∷ ys)) (onto_first x (slice_split (λ c. eqb c 10) (xs ++ 10 ∷ ys)))
    ≡ cond b ([] ∷ slice_split (λ c. eqb c 10) xs) (onto_first x (slice_split (λ c. eqb c 10) xs)) ++ slice_split (λ c. eqb c 10) ys) [
      | true ↦ ap (λ parts. [] ∷ parts) rest
      | false ↦ ap (onto_first x) rest ∙ onto_first-append x (slice_split (λ c. eqb c 10) xs) (slice_split (λ c. eqb c 10) ys) some
    ]

-- the commands of bytes before an end, and of those behind it
pub commands_of-end : (xs ys : List ℕ) → commands_of (xs ++ 10 ∷ ys) ≡ commands_of xs ++ commands_of ys
unfolding commands_of
commands_of-end xs ys = ap (filter_map line_asks) (slice_split-end xs ys) ∙ filter_map-append line_asks (slice_split (λ c. eqb c 10) xs) (slice_split (λ c. eqb c 10) ys)

pub commands_of-nil : commands_of [] ≡ []
unfolding commands_of line_asks
commands_of-nil = refl

-- a line asks for what it asks for without its end
pub commands_of-line : (line : List ℕ) → HasNoEnd line → commands_of line ≡ commands_of_line line
unfolding commands_of
commands_of-line line endless = ap (filter_map line_asks) (slice_split_none (λ c. eqb c 10) line endless) ∙ by (line_asks line) where
  by : (asked : Option Command) → cons_option asked [] ≡ option_map_or (λ command. command ∷ []) asked []
  by None = refl
  by (Some command) = refl

-- ---- whole lines

pub whole_none : AreWholeLines []
whole_none = inl refl

pub whole_line : (line : List ℕ) → AreWholeLines (line ++ 10 ∷ [])
whole_line line = inr (line, refl)

pub whole_append : (a b : List ℕ) → AreWholeLines a → AreWholeLines b → AreWholeLines (a ++ b)
whole_append a b first (inl none) = elim first [
  | inl nothing ↦ inl (ap (λ xs. xs ++ b) nothing ∙ none)
  | inr some ↦ inr (some.0, ap (λ xs. a ++ xs) none ∙ append-nil a ∙ some.1)
]
whole_append a b first (inr some) = inr (a ++ some.0, ap (λ xs. a ++ xs) some.1 ∙ sym (append_assoc a some.0 (10 ∷ [])))

-- the commands of whole lines, and of what stands behind them
pub commands_of-whole : (done rest : List ℕ) → AreWholeLines done → commands_of (done ++ rest) ≡ commands_of done ++ commands_of rest
commands_of-whole done rest (inl none) =
    ap (λ xs. commands_of (xs ++ rest)) none ∙ sym (ap (λ commands. commands ++ commands_of rest) (ap commands_of none ∙ commands_of-nil))
commands_of-whole done rest (inr some) =
    let one : commands_of done ≡ commands_of some.0 = ap commands_of some.1 ∙ commands_of-end some.0 [] ∙ ap (λ commands. commands_of some.0 ++ commands) commands_of-nil ∙ append-nil (commands_of some.0) in
    ap (λ xs. commands_of (xs ++ rest)) some.1 ∙ ap commands_of (append_assoc some.0 (10 ∷ []) rest) ∙ commands_of-end some.0 rest
    ∙ ap (λ commands. commands ++ commands_of rest) (sym one)

-- ---- the lines that bytes finish

abbrev inner : ℕ → Bool
inner c = not (eqb c 10)

prefix_behind : (xs ys : List ℕ) → prefix_len inner ys ≡ 0 → prefix_len inner (xs ++ ys) ≡ prefix_len inner xs
prefix_behind [] ys none = none
prefix_behind (x ∷ xs) ys none = elim (inner x) as (λ b. cond b (1 + prefix_len inner (xs ++ ys)) 0 ≡ cond b (1 + prefix_len inner xs) 0) [
  | true ↦ ap (λ n. 1 + n) (prefix_behind xs ys none)
  | false ↦ refl
]

whole_ends : (done : List ℕ) → AreWholeLines done → prefix_len inner (reverse done) ≡ 0
whole_ends done (inl none) = ap (λ xs. prefix_len inner (reverse xs)) none
whole_ends done (inr some) = ap (λ xs. prefix_len inner (reverse xs)) some.1 ∙ ap (prefix_len inner) (reverse-append some.0 (10 ∷ []))

take_behind : (a b : List ℕ) (n k : ℕ) → n ≡ length a + k → take n (a ++ b) ≡ a ++ take k b
take_behind [] b n k is = let same : n ≡ k = omega (arith, is) in ap (λ m. take m b) same
take_behind (x ∷ a) b zero k is = absurd (omega (arith, is))
take_behind (x ∷ a) b (suc n) k is = ap (λ xs. x ∷ xs) (take_behind a b n k (omega (arith, is)))

-- whole lines are finished, and then those of what stands behind them
pub finished-whole : (done rest : List ℕ) → AreWholeLines done → finished_lines (done ++ rest) ≡ done ++ finished_lines rest
finished-whole done rest whole =
    let same : suffix_len inner (done ++ rest) ≡ suffix_len inner rest
    = ap (prefix_len inner) (reverse-append done rest) ∙ prefix_behind (reverse rest) (reverse done) (whole_ends done whole) in
    let left : suffix_len inner rest ≤ length rest = suffix_len-le-length inner rest in
    let count : length (done ++ rest) - suffix_len inner (done ++ rest) ≡ length done + (length rest - suffix_len inner rest)
    = omega (arith, same, left, length-append done rest) in
    take_behind done rest (length (done ++ rest) - suffix_len inner (done ++ rest)) (length rest - suffix_len inner rest) count

-- without an end no line is finished
pub finished-none : (rest : List ℕ) → HasNoEnd rest → finished_lines rest ≡ []
finished-none rest endless =
    let all : suffix_len inner rest ≡ length rest - 0 = suffix_len_is inner rest 0 0 (omega arith)
    (λ k low below. ap not (All-get_or (λ b. eqb b 10 ≡ false) rest k 0 below endless)) (λ some. absurd (omega (arith, some))) in
    let none : length rest - suffix_len inner rest ≡ 0 = omega (arith, all) in
    ap (λ n. take n rest) none

pub finished_is : (done rest : List ℕ) → AreWholeLines done → HasNoEnd rest → finished_lines (done ++ rest) ≡ done
finished_is done rest whole endless = finished-whole done rest whole ∙ ap (λ xs. done ++ xs) (finished-none rest endless) ∙ append-nil done
