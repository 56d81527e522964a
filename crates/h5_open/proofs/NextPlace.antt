-- Where a block stands that is taken next: at the end of the image, or in a free block, which ends within it.
use Rattle.std.proofs.Common.{◌≡◌, ◌⊎◌, inl, inr, ℕ, ◌+◌, ◌-◌, ◌<◌, ◌≤◌, Bool, true, false, cond, List, Some, [], ◌∷◌, length, refl, arith, nat_le}
use Rattle.std.specs.List.{find}
use Rattle.std.specs.Option.{option_map_or}
use Rattle.std.proofs.lemmas.Bool.{leb-true}
use Rattle.h5_bytes.specs.Blocks.{cover, holds}
use Rattle.h5_bytes.specs.declared.Block.{Block}
use Rattle.h5_bytes.proofs.BlockLaws.{held, holds_in}
use Rattle.h5_space.specs.Space.{Space, next_place}

abbrev in_free : ℕ → ℕ → List Block → ℕ
in_free len end free = option_map_or (λ b. b.at) (find (λ b. nat_le len b.len) free) end

-- the first free block that is as long, or else the end
abbrev IsWithin : ℕ → ℕ → ℕ → Type 0
IsWithin len end place = (place ≡ end) ⊎ (place + len ≤ end)

free_inside : (len end : ℕ) → 0 < len → (free : List Block) → ((p : ℕ) → cover p free ≤ holds p 0 end) → IsWithin len end (in_free len end free)
free_inside len end some [] apart = inl refl
free_inside len end some (b ∷ bs) apart = go (nat_le len b.len) refl (free_inside len end some bs (λ p. omega (arith, apart p))) where
  go : (fits : Bool) → nat_le len b.len ≡ fits → IsWithin len end (in_free len end bs)
      → IsWithin len end (option_map_or (λ (x : Block). x.at) (cond fits (Some b) (find (λ (x : Block). nat_le len x.len) bs)) end)
  go true is later =
      let long : len ≤ b.len = leb-true len b.len is in
      let last : ℕ = b.at + len - 1 in
      let here : holds last b.at b.len ≡ 1 = holds_in last b.at b.len (omega (arith, some)) (omega (arith, some, long)) in
      let low = (held last 0 end (omega (arith, here, apart last))).1 in
      inr (omega (arith, low, some))
  go false is later = later

pub next_inside : (s : Space) (len : ℕ) → 0 < len → ((p : ℕ) → cover p s.free ≤ holds p 0 (length s.bytes))
    → IsWithin len (length s.bytes) (next_place len s)
next_inside s len some apart = free_inside len (length s.bytes) some s.free apart

-- so where a block passes the largest image at its place, it does behind the image
pub past_end : (s : Space) (len : ℕ) → 0 < len → ((p : ℕ) → cover p s.free ≤ holds p 0 (length s.bytes)) → (most : ℕ) → length s.bytes ≤ most → most < next_place len s + len
    → most < length s.bytes + len
past_end s len some apart most small past = elim (next_inside s len some apart) [
  | inl end ↦ omega (arith, end, past)
  | inr inside ↦ absurd (omega (arith, inside, small, past))
]
