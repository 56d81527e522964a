-- Chains of free blocks: what a step along one meets, and what a write of some of its numbers leaves.
use Rattle.std.proofs.Common.{◌≡◌, ◌≢◌, ℕ, zero, suc, ◌+◌, ◌%◌, ◌<◌, ◌≤◌, ◌⊎◌, ◌==◌, Bool, Some, None, inl, inr, List, [], ◌∷◌, ◌++◌, length, true, false, cond, refl, sym, ◌∙◌, ap, ap₂, subst, arith, append_assoc}
use Rattle.std.specs.List.{AllByRecursion, find}
use Rattle.std.proofs.lemmas.Bool.Decides.{nat_tests}
use Rattle.h5_bytes.specs.Bytes.{number_at}
use Rattle.h5_bytes.specs.Blocks.{block, Separate, Inside}
use Rattle.h5_bytes.specs.declared.Block.{Block}
use Rattle.h5_model.specs.Format.Heap.{FreeFrom, IsFree}
use Rattle.h5_space.proofs.Unheld.{unheld, unheld-le, unheld-claim}
use Rattle.h5_heap.specs.Chain.{chain, free_from, IsChain, HasChain, Stands}

-- ---- there are fewer free blocks than bytes

few : (bs : List Block) (n : ℕ) → Separate bs → Inside n bs → AllByRecursion IsFree bs → length bs + unheld bs n ≤ n
few [] n separate inside each = omega (arith, unheld-le [] n)
few (b ∷ bs) n separate inside each =
    let more : unheld (b ∷ bs) n + b.len ≡ unheld bs n = unheld-claim bs (b ∷ bs) b.at b.len n (λ p. omega arith) separate inside.0 in
    let rest : length bs + unheld bs n ≤ n = few bs n (λ p. omega (arith, separate p)) inside.1 each.1 in
    omega (arith, more, rest, each.0.room)

no_end : (b : Block) (next : ℕ) → IsFree b → b.at ≡ next → (next == 1) ≡ false
no_end b next free at =
    let even : next % 8 ≡ 0 = ap (λ (m : ℕ). m % 8) (sym at) ∙ free.aligned in
    let other : next ≢ 1 = λ e. absurd (omega (arith, even, e)) in
    grind (arith, nat_tests, other)

chain_is : (n : ℕ) (segment : List ℕ) (next : ℕ) (rest : List Block) → FreeFrom segment next rest → AllByRecursion IsFree rest
    → length rest ≤ n → chain n segment next ≡ rest
unfolding chain
chain_is zero segment next [] listed each low = refl
chain_is zero segment next (b ∷ bs) listed each low = absurd (omega arith)
chain_is (suc n) segment next [] listed each low = rw listed refl
chain_is (suc n) segment next (b ∷ bs) listed each low =
    let more : chain n segment (number_at segment next 8) ≡ bs = chain_is n segment (number_at segment next 8) bs listed.2 each.1 (omega arith) in
    let here : block next (number_at segment (next + 8) 8) ≡ b = ap₂ block (sym listed.0) (sym listed.1) in
    rw (no_end b next each.0 listed.0) (ap₂ (λ (x : Block) (xs : List Block). x ∷ xs) here more)

pub free_from_is : (segment : List ℕ) (first : ℕ) (free : List Block) → IsChain segment first free → free_from segment first ≡ free
free_from_is segment first free c = chain_is (length segment) segment first free c.listed c.each
    (omega (arith, few free (length segment) c.apart c.within c.each))

pub has_chain : (segment : List ℕ) (first : ℕ) (free : List Block) → IsChain segment first free → HasChain segment first
has_chain segment first free c = rw (free_from_is segment first free c) c

-- ---- a step along a chain

-- the block that stands at an offset of the chain
abbrev pub free_block_at : List ℕ → ℕ → Block
free_block_at segment next = block next (number_at segment (next + 8) 8)

pub record IsStep (segment : List ℕ) (next : ℕ) : Type 0 where
  pub free : IsFree (free_block_at segment next)
  pub within : next + number_at segment (next + 8) 8 ≤ length segment
  pub split : free_from segment next ≡ free_block_at segment next ∷ free_from segment (number_at segment next 8)
  pub more : HasChain segment (number_at segment next 8)

pub step_at : (segment : List ℕ) (next : ℕ) → next ≢ 1 → HasChain segment next → IsStep segment next
step_at segment next going c = go (free_from segment next) c refl where
  go : (free : List Block) → IsChain segment next free → free_from segment next ≡ free → IsStep segment next
  go [] d is = absurd (going d.listed)
  go (b ∷ bs) d is =
      let here : b ≡ free_block_at segment next = ap₂ block d.listed.0 d.listed.1 in
      let rest : IsChain segment (number_at segment next 8) bs
      = record { listed = d.listed.2; each = d.each.1; apart = λ p. omega (arith, d.apart p); within = d.within.1 } in
      let len : b.len ≡ number_at segment (next + 8) 8 = d.listed.1 in
      let at : b.at ≡ next = d.listed.0 in
      record {
        free = subst IsFree here d.each.0;
        within = omega (arith, d.within.0, len, at);
        split = is ∙ ap₂ (λ (x : Block) (xs : List Block). x ∷ xs) here (sym (free_from_is segment (number_at segment next 8) bs rest));
        more = has_chain segment (number_at segment next 8) bs rest;
      }

pub fewer_at : (segment : List ℕ) (next : ℕ) → next ≢ 1 → HasChain segment next
    → length (free_from segment (number_at segment next 8)) < length (free_from segment next)
fewer_at segment next going c =
    let e : length (free_from segment next) ≡ suc (length (free_from segment (number_at segment next 8))) = ap length (step_at segment next going c).split in
    omega (arith, e)

-- ---- what is found along a chain

pub free_from_end : (n : ℕ) (segment : List ℕ) → chain n segment 1 ≡ []
unfolding chain
free_from_end zero segment = refl
free_from_end (suc n) segment = refl

pub find_end : (test : Block → Bool) (segment : List ℕ) (next : ℕ) → next ≡ 1 → find test (free_from segment next) ≡ None
find_end test segment next end = ap (λ (m : ℕ). find test (free_from segment m)) end ∙ ap (find test) (free_from_end (length segment) segment)

pub find_here : (test : Block → Bool) (segment : List ℕ) (next : ℕ) → next ≢ 1 → HasChain segment next → test (free_block_at segment next) ≡ true
    → find test (free_from segment next) ≡ Some (free_block_at segment next)
find_here test segment next going c is = ap (find test) (step_at segment next going c).split
    ∙ ap (λ (b : Bool). cond b (Some (free_block_at segment next)) (find test (free_from segment (number_at segment next 8)))) is

pub find_on : (test : Block → Bool) (segment : List ℕ) (next : ℕ) → next ≢ 1 → HasChain segment next → test (free_block_at segment next) ≡ false
    → find test (free_from segment next) ≡ find test (free_from segment (number_at segment next 8))
find_on test segment next going c is = ap (find test) (step_at segment next going c).split
    ∙ ap (λ (b : Bool). cond b (Some (free_block_at segment next)) (find test (free_from segment (number_at segment next 8)))) is

-- ---- a block that stands in a chain

pub stands_on : (segment : List ℕ) (next at : ℕ) → HasChain segment next → Stands at (free_from segment next)
    → (next ≢ 1) × (next ≢ at → Stands at (free_from segment (number_at segment next 8)))
stands_on segment next at c there = (going, on) where
  going : next ≢ 1
  going end = subst (Stands at) (ap (free_from segment) end ∙ free_from_end (length segment) segment) there

  on : next ≢ at → Stands at (free_from segment (number_at segment next 8))
  on other = go (subst (Stands at) (step_at segment next going c).split there) where
    go : (next ≡ at) ⊎ Stands at (free_from segment (number_at segment next 8)) → Stands at (free_from segment (number_at segment next 8))
    go (inl same) = absurd (other same)
    go (inr later) = later

pub front_more : (segment : List ℕ) (first place : ℕ) (front : List Block) → place ≢ 1 → HasChain segment place
    → free_from segment first ≡ front ++ free_from segment place
    → free_from segment first ≡ (front ++ free_block_at segment place ∷ []) ++ free_from segment (number_at segment place 8)
front_more segment first place front going c is =
    is ∙ ap (λ (bs : List Block). front ++ bs) (step_at segment place going c).split
    ∙ sym (append_assoc front (free_block_at segment place ∷ []) (free_from segment (number_at segment place 8)))

stands_room : (n at : ℕ) (bs : List Block) → AllByRecursion IsFree bs → Inside n bs → Stands at bs → at + 16 ≤ n
stands_room n at [] each inside none = elim none [ ]
stands_room n at (b ∷ bs) each inside (inl here) = omega (arith, here, each.0.room, inside.0)
stands_room n at (b ∷ bs) each inside (inr later) = stands_room n at bs each.1 inside.1 later

pub room_at : (segment : List ℕ) (first at : ℕ) → HasChain segment first → Stands at (free_from segment first) → at + 16 ≤ length segment
room_at segment first at c there = stands_room (length segment) at (free_from segment first) c.each c.within there

-- ---- a block that was found

pub record IsFound (test : Block → Bool) (segment : List ℕ) (free : List Block) (b : Block) : Type 0 where
  pub stands : Stands b.at free
  pub passes : test b ≡ true
  pub same : b ≡ free_block_at segment b.at
  pub form : IsFree b
  pub within : b.at + b.len ≤ length segment

found_in : (test : Block → Bool) (segment : List ℕ) (next : ℕ) (bs : List Block) (b : Block) → FreeFrom segment next bs → AllByRecursion IsFree bs
    → Inside (length segment) bs → find test bs ≡ Some b → IsFound test segment bs b
found_in test segment next [] b listed each inside is = absurd (cc)
found_in test segment next (x ∷ xs) b listed each inside is =
    go (test x) refl is (found_in test segment (number_at segment next 8) xs b listed.2 each.1 inside.1)
  where
    go : (r : Bool) → test x ≡ r → cond r (Some x) (find test xs) ≡ Some b → (find test xs ≡ Some b → IsFound test segment xs b)
        → IsFound test segment (x ∷ xs) b
    go true passes found later =
        let e : x ≡ b = cc in
        subst (IsFound test segment (x ∷ xs)) e (record {
          stands = inl refl;
          passes = passes;
          same = ap₂ block refl (listed.1 ∙ ap (λ (m : ℕ). number_at segment (m + 8) 8) (sym listed.0));
          form = each.0;
          within = inside.0;
        })
    go false fails found later =
        let more = later found in
        record { stands = inr more.stands; passes = more.passes; same = more.same; form = more.form; within = more.within }

pub found_free : (test : Block → Bool) (segment : List ℕ) (first : ℕ) (b : Block) → HasChain segment first
    → find test (free_from segment first) ≡ Some b → IsFound test segment (free_from segment first) b
found_free test segment first b c is = found_in test segment first (free_from segment first) b c.listed c.each c.within is
