-- How many bytes are not claimed yet: fewer after each claim.
use Rattle.std.proofs.Common.{◌≡◌, ℕ, zero, suc, ◌+◌, ◌-◌, ◌≤◌, List, min, refl, arith}
use Rattle.std.proofs.lemmas.Bool.Decides.{nat_tests}
use Rattle.h5_bytes.specs.Blocks.{holds, cover, Separate}
use Rattle.h5_bytes.specs.declared.Block.{Block}

-- how many of the bytes below n none of the blocks holds
pub unheld : List Block → ℕ → ℕ
unheld held zero = 0
unheld held (suc n) = unheld held n + (1 - cover n held)

pub unheld-le : (held : List Block) (n : ℕ) → unheld held n ≤ n
unfolding unheld
unheld-le held zero = omega arith
unheld-le held (suc n) = omega (arith, unheld-le held n)

-- how many of the bytes below n a block holds
span : ℕ → ℕ → ℕ → ℕ
span at len zero = 0
span at len (suc n) = span at len n + holds n at len

span-step : (p at len : ℕ) → holds p at len + (min (suc p) at + min p (at + len)) ≡ min (suc p) (at + len) + min p at
unfolding holds
span-step p at len = grind (arith, nat_tests)

span-is : (at len n : ℕ) → span at len n + min n at ≡ min n (at + len)
unfolding span
span-is at len zero = omega arith
span-is at len (suc n) = omega (arith, span-is at len n, span-step n at len)

unheld-more : (held held' : List Block) (at len n : ℕ) → ((p : ℕ) → cover p held' ≡ cover p held + holds p at len) → Separate held'
    → unheld held' n + span at len n ≡ unheld held n
unfolding unheld span
unheld-more held held' at len zero claimed once = refl
unheld-more held held' at len (suc n) claimed once =
    let rest : unheld held' n + span at len n ≡ unheld held n = unheld-more held held' at len n claimed once in
    omega (arith, rest, claimed n, once n)

pub unheld-claim : (held held' : List Block) (at len n : ℕ) → ((p : ℕ) → cover p held' ≡ cover p held + holds p at len) → Separate held'
    → at + len ≤ n → unheld held' n + len ≡ unheld held n
unheld-claim held held' at len n claimed once inside =
    omega (arith, unheld-more held held' at len n claimed once, span-is at len n)
