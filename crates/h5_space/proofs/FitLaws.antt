-- Whether a free block is as long as a request, and which is the first.
use Rattle.std.proofs.Common.{◌≡◌, ◌∙◌, ℕ, ◌≤◌, Bool, true, false, Some, None, List, length, cond, position, get_or, arith, ap, inl, inr, nat_le}
use Rattle.std.specs.Prelude.{slice_get}
use Rattle.std.specs.List.{find, list_any, position_or_len}
use Rattle.std.proofs.lemmas.Bool.Decides.{nat_tests}
use Rattle.std.proofs.lemmas.List.Folds.{find_at, list_any_at, list_any_none}
use Rattle.std.proofs.lemmas.Option.{slice_get-get_or, slice_get_cases}
use Rattle.std.proofs.lemmas.List.Sums.{fails_before_first}
use Rattle.std.proofs.lemmas.List.Quantifiers.{position-Some}
use Rattle.h5_bytes.specs.declared.Block.{Block}
use Rattle.h5_space.specs.Space.{growth}

pub any_found : {X : Type 0} (p : X → Bool) (xs : List X) (k : ℕ) (d : X) → position p xs ≡ Some k → list_any p xs ≡ true
any_found p xs k d is = let found = position-Some p xs k d is in list_any_at p xs k d found.0 found.1

pub any_missing : {X : Type 0} (p : X → Bool) (xs : List X) → position p xs ≡ None → list_any p xs ≡ false
any_missing p xs is =
    let all : length xs ≤ position_or_len p xs = grind (arith, nat_tests, is) in
    list_any_none p xs (λ k d l. fails_before_first p xs k d (omega arith))

-- the end stays where a free block is as long, and else rises by all of the request
pub growth_found : (len : ℕ) (free : List Block) (k : ℕ) (d : Block) → position (λ (b : Block). nat_le len b.len) free ≡ Some k → growth len free ≡ 0
growth_found len free k d is = ap (λ b. cond b 0 len) (any_found (λ (b : Block). nat_le len b.len) free k d is)

pub growth_missing : (len : ℕ) (free : List Block) → position (λ (b : Block). nat_le len b.len) free ≡ None → growth len free ≡ len
growth_missing len free is = ap (λ b. cond b 0 len) (any_missing (λ (b : Block). nat_le len b.len) free is)

-- the first element that passes is the one at the first place
pub find_found : {X : Type 0} (p : X → Bool) (xs : List X) (k : ℕ) (d : X) → position p xs ≡ Some k → find p xs ≡ Some (get_or xs k d)
find_found p xs k d is =
    let first : position_or_len p xs ≡ k = grind (arith, nat_tests, is) in
    find_at p xs ∙ ap (slice_get xs) first ∙ slice_get-get_or xs k d (position-Some p xs k d is).0

pub find_missing : {X : Type 0} (p : X → Bool) (xs : List X) → position p xs ≡ None → find p xs ≡ None
find_missing p xs is =
    let all : length xs ≤ position_or_len p xs = grind (arith, nat_tests, is) in
    find_at p xs ∙ elim (slice_get_cases xs (position_or_len p xs)).1 [
      | inl (x, low, there, same) ↦ absurd (omega (arith, low, all))
      | inr (high, none) ↦ none
    ]
