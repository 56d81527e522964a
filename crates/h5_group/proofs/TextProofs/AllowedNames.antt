-- A text of two bytes or more without a slash is a name that a link may have.
use Rattle.std.proofs.Common.{◌≡◌, ◌≢◌, ℕ, suc, ◌-◌, ◌<◌, ◌≤◌, List, [], ◌∷◌, Bool, true, false, length, take, drop, get_or, refl, subst, arith, length-drop}
use Rattle.std.specs.Prelude.{◌==◌, ◌||◌, if◌then◌else◌}
use Rattle.std.specs.List.{list_any}
use Rattle.std.proofs.lemmas.Bool.Decides.{nat_tests}
use Rattle.std.proofs.lemmas.List.{take_all}
use Rattle.h5_bytes.specs.Texts.{text_at, until_zero}
use Rattle.h5_model.specs.Tree.Paths.{is_name}

abbrev separates : ℕ → Bool
separates c = (c == 0) || (c == 47)

-- the bytes up to a zero
none_separates : (xs : List ℕ) → ((k : ℕ) → k < length (until_zero xs) → get_or xs k 0 ≢ 47) → list_any separates (until_zero xs) ≡ false
none_separates [] other = refl
none_separates (x ∷ xs) other = by (x == 0) refl other (none_separates xs) where
  by : (ends : Bool) → (x == 0) ≡ ends → ((k : ℕ) → k < length (if ends then [] else x ∷ until_zero xs) → get_or (x ∷ xs) k 0 ≢ 47)
      → (((k : ℕ) → k < length (until_zero xs) → get_or xs k 0 ≢ 47) → list_any separates (until_zero xs) ≡ false)
      → list_any separates (if ends then [] else x ∷ until_zero xs) ≡ false
  by true e free rest = refl
  by false e free rest =
      let here : (x == 47) ≡ false = grind (arith, nat_tests, free 0 (omega arith)) in
      rw (e, here) (rest (λ k below. free (suc k) (omega arith)))

named : (name : List ℕ) → 2 ≤ length name → list_any separates name ≡ false → is_name name ≡ true
named name long none =
    let some : (length name == 0) ≡ false = grind (arith, nat_tests) in
    let more : (length name == 1) ≡ false = grind (arith, nat_tests) in
    rw (some, more, none) refl

text_named_from : (segment : List ℕ) (offset : ℕ) → 2 ≤ length (text_at segment offset)
    → ((k : ℕ) → k < length (text_at segment offset) → get_or (drop offset segment) k 0 ≢ 47) → is_name (text_at segment offset) ≡ true
unfolding text_at
text_named_from segment offset long other = named (until_zero (drop offset segment)) long (none_separates (drop offset segment) other)

pub text_named : (segment : List ℕ) (offset : ℕ) (name : List ℕ) → name ≡ text_at segment offset → offset ≤ length segment → 2 ≤ length name
    → ((k : ℕ) → k < length name → get_or (take (length segment - offset) (drop offset segment)) k 0 ≢ 47) → is_name name ≡ true
text_named segment offset name is within long other =
    let whole : take (length segment - offset) (drop offset segment) ≡ drop offset segment
    = take_all (length segment - offset) (drop offset segment) (omega (arith, length-drop offset segment)) in
    let free : (k : ℕ) → k < length name → get_or (drop offset segment) k 0 ≢ 47
    = subst (λ (xs : List ℕ). (k : ℕ) → k < length name → get_or xs k 0 ≢ 47) whole other in
    rw is (text_named_from segment offset (rw is at long) (rw is at free))
