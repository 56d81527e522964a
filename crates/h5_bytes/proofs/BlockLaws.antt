-- Which bytes blocks hold.
use Rattle.std.proofs.Common.{◌≡◌, ℕ, ◌+◌, ◌-◌, ◌<◌, ◌≤◌, ◌⊎◌, inl, inr, List, [], ◌∷◌, ◌++◌, length, refl, sym, ap, ◌∙◌, arith}
use Rattle.std.proofs.lemmas.Bool.Decides.{nat_tests}
use Rattle.std.specs.List.{AllByRecursion}
use Rattle.h5_bytes.specs.Blocks.{holds, cover, Separate, Inside, CoverOnce, Run, Keeps}
use Rattle.h5_bytes.specs.declared.Block.{Block}
use Rattle.h5_bytes.proofs.PartLaws.{part-append}

-- ---- one block

pub holds_in : (p at len : ℕ) → at ≤ p → p < at + len → holds p at len ≡ 1
unfolding holds
holds_in p at len low high = grind (arith, nat_tests)

pub holds_before : (p at len : ℕ) → p < at → holds p at len ≡ 0
unfolding holds
holds_before p at len low = grind (arith, nat_tests)

pub holds_past : (p at len : ℕ) → at + len ≤ p → holds p at len ≡ 0
unfolding holds
holds_past p at len high = grind (arith, nat_tests)

pub holds-le : (p at len : ℕ) → holds p at len ≤ 1
unfolding holds
holds-le p at len = grind (arith, nat_tests)

-- an empty block holds nothing
pub holds_none : (p at : ℕ) → holds p at 0 ≡ 0
unfolding holds
holds_none p at = grind (arith, nat_tests)

-- a block and the one behind it are one block
pub holds_join : (p at a b : ℕ) → holds p at (a + b) ≡ holds p at a + holds p (at + a) b
unfolding holds
holds_join p at a b = grind (arith, nat_tests)

-- a byte that a block holds lies between its ends
pub held : (p at len : ℕ) → 1 ≤ holds p at len → (at ≤ p) × (p < at + len)
unfolding holds
held p at len h = grind (arith, nat_tests)

-- a byte of an inner block is one of the outer
pub holds-inner : (p at len from size : ℕ) → from ≤ at → at + len ≤ from + size → holds p at len ≤ holds p from size
unfolding holds
holds-inner p at len from size low high = grind (arith, nat_tests)

-- two blocks that share no byte, the second of which has bytes, lie one before the other
pub apart_of : (a n b m : ℕ) → ((p : ℕ) → holds p a n + holds p b m ≤ 1) → 0 < n → 0 < m → (a + n ≤ b) ⊎ (b + m ≤ a)
apart_of a n b m separate some more =
    let cases : ((a + n ≤ b) ⊎ (b + m ≤ a)) ⊎ ((b < a + n) × (a < b + m)) = grind arith in
    elim cases [
      | inl apart ↦ apart
      | inr meet ↦
          let first : (a ≤ b) ⊎ (b < a) = grind arith in
          elim first [
            | inl low ↦ absurd (omega (arith, separate b, holds_in b a n low meet.0, holds_in b b m (omega arith) (omega arith)))
            | inr high ↦ absurd (omega (arith, separate a, holds_in a a n (omega arith) (omega arith), holds_in a b m (omega arith) meet.1))
          ]
    ]

-- ---- lists of blocks

pub cover-append : (p : ℕ) (xs ys : List Block) → cover p (xs ++ ys) ≡ cover p xs + cover p ys
cover-append p [] ys = omega arith
cover-append p (x ∷ xs) ys = omega (arith, cover-append p xs ys)

-- what is inside an end holds no byte from it on
pub cover_past : (p end : ℕ) (bs : List Block) → Inside end bs → end ≤ p → cover p bs ≡ 0
cover_past p end [] inside high = refl
cover_past p end (b ∷ bs) inside high =
    omega (arith, holds_past p b.at b.len (omega (arith, inside.0)), cover_past p end bs inside.1 high)

-- what covers each byte below an end once is separate
pub once_separate : (end : ℕ) (bs : List Block) → CoverOnce end bs → Separate bs
once_separate end bs once p = omega (arith, once p, holds-le p 0 end)

pub run_rises : (from to : ℕ) (bs : List Block) → Run from bs to → from ≤ to
run_rises from to [] run = omega arith
run_rises from to (b ∷ bs) run = omega (arith, run_rises (from + b.len) to bs run.1)

pub cover-run : (p from to : ℕ) (bs : List Block) → Run from bs to → cover p bs ≡ holds p from (to - from)
cover-run p from to [] run =
    let none : to - from ≡ 0 = omega arith in
    rw none (sym (holds_none p from))
cover-run p from to (b ∷ bs) run =
    let rises = run_rises (from + b.len) to bs run.1 in
    let start : b.at ≡ from = run.0 in
    let split : to - from ≡ b.len + (to - (from + b.len)) = omega arith in
    rw (start, split) (ap (λ n. holds p from b.len + n) (cover-run p (from + b.len) to bs run.1) ∙ sym (holds_join p from b.len (to - (from + b.len))))

-- blocks without gaps cover each byte once
pub run_covers : (to : ℕ) (bs : List Block) → Run 0 bs to → CoverOnce to bs
run_covers to bs run p = let whole : to - 0 ≡ to = omega arith in rw whole at (cover-run p 0 to bs run)

pub run_separate : (to : ℕ) (bs : List Block) → Run 0 bs to → Separate bs
run_separate to bs run = once_separate to bs (run_covers to bs run)

-- ---- what stays

pub all_so : {X : Type 0} (P Q : X → Type 0) (xs : List X) → ((x : X) → P x → Q x) → AllByRecursion P xs → AllByRecursion Q xs
all_so P Q [] so all = tt
all_so P Q (x ∷ xs) so all = (so x all.0, all_so P Q xs so all.1)

pub all_append : {X : Type 0} (P : X → Type 0) (xs ys : List X) → AllByRecursion P xs → AllByRecursion P ys → AllByRecursion P (xs ++ ys)
all_append P [] ys a b = b
all_append P (x ∷ xs) ys a b = (a.0, all_append P xs ys a.1 b)

pub all_left : {X : Type 0} (P : X → Type 0) (xs ys : List X) → AllByRecursion P (xs ++ ys) → AllByRecursion P xs
all_left P [] ys a = tt
all_left P (x ∷ xs) ys a = (a.0, all_left P xs ys a.1)

pub all_right : {X : Type 0} (P : X → Type 0) (xs ys : List X) → AllByRecursion P (xs ++ ys) → AllByRecursion P ys
all_right P [] ys a = a
all_right P (x ∷ xs) ys a = all_right P xs ys a.1

-- blocks inside the old end keep their bytes where bytes are appended
pub keeps-append : (bytes more : List ℕ) (bs : List Block) → Inside (length bytes) bs → Keeps bytes (bytes ++ more) bs
keeps-append bytes more [] inside = tt
keeps-append bytes more (b ∷ bs) inside = (part-append b.at b.len bytes more inside.0, keeps-append bytes more bs inside.1)
