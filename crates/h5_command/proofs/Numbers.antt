-- What digits stand for, digit by digit.
use Rattle.std.proofs.Common.{◌≡◌, ℕ, ◌+◌, ◌*◌, ◌-◌, ◌<◌, ◌≤◌, List, [], ◌∷◌, length, get_or, drop, None, refl, sym, ◌∙◌, arith, add-one}
use Rattle.std.proofs.Math.Seq.{drop-cons}
use Rattle.std.proofs.lemmas.Bool.Decides.{nat_tests}
use Rattle.h5_model.specs.Scripts.Lines.{number_on, number_upto}

pub number_on_least : (n : ℕ) (cs : List ℕ) → n ≤ number_on n cs
number_on_least n [] = omega arith
number_on_least n (c ∷ cs) = omega (arith, number_on_least (10 * n + (c - 48)) cs)

-- one more digit is read
pub number_on_more : (n i : ℕ) (word : List ℕ) → i < length word → number_on n (drop i word) ≡ number_on (10 * n + (get_or word i 0 - 48)) (drop (i + 1) word)
number_on_more n i word lt = rw (add-one, drop-cons word i 0 lt) refl

-- a part of the digits stands for too much already
pub number_upto_large : (most n : ℕ) (cs word : List ℕ) → number_on n cs ≡ number_on 0 word → most < n → number_upto most word ≡ None
number_upto_large most n cs word same large =
    let more : most < number_on 0 word = omega (arith, number_on_least n cs, same) in
    grind (arith, nat_tests)

-- the next digit makes it too much
pub number_upto_step : (most n i : ℕ) (word : List ℕ) → i < length word → number_on n (drop i word) ≡ number_on 0 word → most < 10 * n + (get_or word i 0 - 48) → None ≡ number_upto most word
number_upto_step most n i word lt same large = sym (number_upto_large most (10 * n + (get_or word i 0 - 48)) (drop (i + 1) word) word (sym (number_on_more n i word lt) ∙ same) large)
