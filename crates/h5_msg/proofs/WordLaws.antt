-- Numbers of 8 bytes that were written one after another are read as those numbers.
use Rattle.std.proofs.Common.{◌≡◌, Option, map, length-append, ℕ, zero, suc, ◌+◌, ◌*◌, ◌^◌, ◌<◌, List, [], ◌∷◌, ◌++◌, length, get_or, drop, refl, sym, ap, ◌∙◌, arith}
use Rattle.std.proofs.lemmas.List.{get_or-drop}
use Rattle.byteorder.specs.Numbers.{little_number-reads_back}
use Rattle.h5_bytes.specs.Bytes.{number_at}
use Rattle.h5_model.specs.Format.Bodies.{words, or_undefined}
use Rattle.h5_model.proofs.ValueLaws.{little_moved}
pub use Rattle.h5_model.proofs.EditLaws.{length-are_maxima as as_many_maxima}

pub words_long : (xs : List ℕ) → length (words xs) ≡ 8 * length xs
words_long [] = omega arith
words_long (x ∷ xs) = omega (arith, words_long xs)

pub length-numbers : (maxima : List (Option ℕ)) → length (map or_undefined maxima) ≡ length maxima
length-numbers [] = refl
length-numbers (m ∷ ms) = omega (arith, length-numbers ms)

pub bounds_long : (sizes : List ℕ) (maxima : List (Option ℕ)) → length maxima ≡ length sizes → length (words sizes ++ words (map or_undefined maxima)) ≡ 16 * length sizes
bounds_long sizes maxima same = simp length-append (omega (arith, words_long sizes, words_long (map or_undefined maxima), length-numbers maxima))

-- a number behind the first bytes
pub number_at-drop : (bytes : List ℕ) (a k n : ℕ) → number_at bytes (a + k) n ≡ number_at (drop a bytes) k n
unfolding number_at
number_at-drop bytes a k n = little_moved n (drop a bytes) bytes k (a + k) (λ j low.
    let over : a + k + j ≡ a + (k + j) = omega arith in
    rw over (sym (get_or-drop a bytes (k + j) 0)))

pub number_at-words : (xs rest : List ℕ) (k : ℕ) → k < length xs → get_or xs k 0 < 2 ^ 64 → number_at (words xs ++ rest) (8 * k) 8 ≡ get_or xs k 0
unfolding number_at
number_at-words [] rest k low small = absurd (omega arith)
number_at-words (x ∷ xs) rest zero low small = little_number-reads_back 8 x (words xs ++ rest) small
number_at-words (x ∷ xs) rest (suc k) low small =
    let over : 8 * suc k ≡ 8 + 8 * k = omega arith in
    ap (λ (i : ℕ). number_at (words (x ∷ xs) ++ rest) i 8) over ∙ number_at-drop (words (x ∷ xs) ++ rest) 8 (8 * k) 8
    ∙ number_at-words xs rest k (omega arith) small
