-- Blocks that lie in an image.
use Rattle.std.proofs.Common.{◌≡◌, inl, inr, ℕ, ◌+◌, ◌-◌, ◌≤◌, List, [], ◌∷◌, map, arith}
use Rattle.std.proofs.lemmas.Bool.{cases_lt}
use Rattle.std.specs.List.{AllByRecursion}
use Rattle.h5_bytes.specs.Blocks.{cover, holds, Inside}
use Rattle.h5_bytes.specs.declared.Block.{Block}
use Rattle.h5_bytes.proofs.BlockLaws.{holds_in, holds_past}

-- blocks that have bytes and hold none from an end on lie before it
pub inside_held : (end : ℕ) (bs : List Block) → ((p : ℕ) → cover p bs ≤ holds p 0 end) → AllByRecursion (λ (b : Block). 1 ≤ b.len) bs → Inside end bs
inside_held end [] held some = tt
inside_held end (b ∷ bs) held some =
    let last = b.at + (b.len - 1) in
    let here : holds last b.at b.len ≡ 1 = holds_in last b.at b.len (omega arith) (omega (arith, some.0)) in
    let first : b.at + b.len ≤ end = elim (cases_lt last end) [
      | inl low ↦ omega (arith, low)
      | inr past ↦ absurd (omega (arith, here, held last, holds_past last 0 end (omega (arith, past))))
    ] in
    (first, inside_held end bs (λ p. omega (arith, held p)) some.1)

-- of blocks made at addresses
pub made_long : (f : ℕ → Block) (xs : List ℕ) → ((x : ℕ) → 1 ≤ (f x).len) → AllByRecursion (λ (b : Block). 1 ≤ b.len) (map f xs)
made_long f [] some = tt
made_long f (x ∷ xs) some = (some x, made_long f xs some)
