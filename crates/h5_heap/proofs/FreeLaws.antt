-- The list of free blocks, as far as it has been followed.
use Rattle.std.proofs.Common.{◌≡◌, ◌≢◌, ℕ, ◌+◌, ◌%◌, ◌≤◌, ◌⊎◌, inl, inr, List, [], ◌∷◌, ◌++◌, length, refl, sym, ◌∙◌, ap, ap₂, subst, arith}
use Rattle.std.specs.List.{AllByRecursion}
use Rattle.h5_bytes.specs.Bytes.{number_at, undefined_address}
use Rattle.h5_bytes.specs.Blocks.{block, holds, cover, Separate, Inside}
use Rattle.h5_bytes.specs.declared.Block.{Block}
use Rattle.h5_bytes.proofs.BlockLaws.{cover-append, all_append, all_right}
use Rattle.h5_model.specs.Format.Heap.{FreeFrom, IsFree}
use Rattle.h5_heap.specs.FreeList.{IsFreeList, IsNext}

-- these blocks lead from one offset of the list to another
abbrev pub FreeTo : List ℕ → ℕ → List Block → ℕ → Type 0
FreeTo segment from [] to = from ≡ to
FreeTo segment from (b ∷ bs) to = (b.at ≡ from) × (b.len ≡ number_at segment (from + 8) 8) × FreeTo segment (number_at segment from 8) bs to

-- these blocks were followed, from the first offset to the next one, and hold the bytes that are held
pub record IsWalked (segment : List ℕ) (first next : ℕ) (done held : List Block) : Type 0 where
  pub leads : FreeTo segment first done next
  pub each : AllByRecursion IsFree done
  pub within : Inside (length segment) done
  pub covered : (p : ℕ) → cover p held ≡ cover p done

-- the offset that a head stands for: UNDEF stands for the end of the list
abbrev pub StandsFor : ℕ → ℕ → Type 0
StandsFor head first = ((head ≡ undefined_address) × (first ≡ 1)) ⊎ ((head ≢ undefined_address) × (first ≡ head))

leads_more : (segment : List ℕ) (first next : ℕ) (done : List Block) (b : Block) → FreeTo segment first done next
    → b.at ≡ next → b.len ≡ number_at segment (next + 8) 8 → FreeTo segment first (done ++ b ∷ []) (number_at segment next 8)
leads_more segment first next [] b leads place size = (place ∙ sym leads, size ∙ ap (λ (n : ℕ). number_at segment (n + 8) 8) (sym leads), ap (λ (n : ℕ). number_at segment n 8) leads)
leads_more segment first next (x ∷ xs) b leads place size = (leads.0, leads.1, leads_more segment (number_at segment first 8) next xs b leads.2 place size)

pub walked_more : (segment : List ℕ) (first next : ℕ) (done held held' : List Block) (b : Block) → IsWalked segment first next done held
    → IsNext segment held next b → ((p : ℕ) → cover p held' ≡ cover p held + holds p b.at b.len)
    → IsWalked segment first (number_at segment next 8) (done ++ b ∷ []) held'
walked_more segment first next done held held' b walked here claimed = record {
  leads = leads_more segment first next done b walked.leads here.place here.size;
  each = all_append IsFree done (b ∷ []) walked.each (here.free, tt);
  within = all_append (λ (x : Block). x.at + x.len ≤ length segment) done (b ∷ []) walked.within (here.within, tt);
  covered = λ p. omega (arith, claimed p, walked.covered p, cover-append p done (b ∷ []));
}

-- a free block does not begin at 1, nor at UNDEF
not_at : (b : Block) (n : ℕ) → IsFree b → b.at ≡ n → n % 8 ≡ 0
not_at b n free at = ap (λ (m : ℕ). m % 8) (sym at) ∙ free.aligned

odd_undefined : undefined_address % 8 ≡ 7
odd_undefined = refl

leads_end : (segment : List ℕ) (first : ℕ) (done : List Block) → FreeTo segment first done 1 → FreeFrom segment first done
leads_end segment first [] leads = leads
leads_end segment first (b ∷ bs) leads = (leads.0, leads.1, leads_end segment (number_at segment first 8) bs leads.2)

none_from_end : (segment : List ℕ) (done : List Block) → FreeTo segment 1 done 1 → AllByRecursion IsFree done → done ≡ []
none_from_end segment [] leads each = refl
none_from_end segment (b ∷ bs) leads each = absurd (let odd : 1 % 8 ≡ 0 = not_at b 1 each.0 leads.0 in omega arith)

-- the list was followed to its end
pub walked_end : (segment : List ℕ) (head first : ℕ) (done held : List Block) → StandsFor head first → IsWalked segment first 1 done held
    → Separate held → IsFreeList segment head done
walked_end segment head first done held stands walked separate = record {
  listed = by stands;
  each = walked.each;
  apart = λ p. omega (arith, walked.covered p, separate p);
  within = walked.within;
} where
  by : StandsFor head first → FreeFrom segment head done ⊎ ((head ≡ undefined_address) × (done ≡ []))
  by (inl none) = inr (none.0, none_from_end segment done (subst (λ (n : ℕ). FreeTo segment n done 1) none.1 walked.leads) walked.each)
  by (inr some) = inl (subst (λ (n : ℕ). FreeFrom segment n done) some.1 (leads_end segment first done walked.leads))

-- a whole list begins with what was followed of it
goes_on : (segment : List ℕ) (first next : ℕ) (done free : List Block) → FreeTo segment first done next → AllByRecursion IsFree done
    → FreeFrom segment first free → (more : List Block) × (free ≡ done ++ more) × FreeFrom segment next more
goes_on segment first next [] free leads each list = (free, refl, subst (λ (n : ℕ). FreeFrom segment n free) leads list)
goes_on segment first next (x ∷ xs) [] leads each list = absurd (let odd : 1 % 8 ≡ 0 = not_at x 1 each.0 (leads.0 ∙ list) in omega arith)
goes_on segment first next (x ∷ xs) (y ∷ ys) leads each list =
    let same : y ≡ x = ap₂ block (list.0 ∙ sym leads.0) (list.1 ∙ sym leads.1) in
    let on = goes_on segment (number_at segment first 8) next xs ys leads.2 each.1 list.2 in
    (on.0, ap₂ (λ (b : Block) (bs : List Block). b ∷ bs) same on.1, on.2)

-- a list from the head is one from the offset that it stands for
pub from_first : (segment : List ℕ) (head first : ℕ) (free : List Block) → StandsFor head first → IsFreeList segment head free → FreeFrom segment first free
from_first segment head first free (inl none) list = by free list.each list.listed where
  by : (free : List Block) → AllByRecursion IsFree free → FreeFrom segment head free ⊎ ((head ≡ undefined_address) × (free ≡ [])) → FreeFrom segment first free
  by [] each (inl from) = absurd (let same : undefined_address ≡ 1 = sym none.0 ∙ from in omega arith)
  by (b ∷ bs) each (inl from) = absurd (let odd : undefined_address % 8 ≡ 0 = not_at b undefined_address each.0 (from.0 ∙ none.0) in omega (arith, odd_undefined))
  by [] each (inr e) = none.1
  by (b ∷ bs) each (inr e) = absurd (let no : b ∷ bs ≡ [] = e.1 in cc)
from_first segment head first free (inr some) list = by list.listed where
  by : FreeFrom segment head free ⊎ ((head ≡ undefined_address) × (free ≡ [])) → FreeFrom segment first free
  by (inl from) = subst (λ (n : ℕ). FreeFrom segment n free) (sym some.1) from
  by (inr e) = absurd (some.0 e.0)

-- no list goes on where no free block stands next
pub walked_no_further : (segment : List ℕ) (head first next : ℕ) (done held : List Block) → StandsFor head first → IsWalked segment first next done held
    → next ≢ 1 → ((b : Block) → IsNext segment held next b → ⊥) → (free : List Block) → IsFreeList segment head free → ⊥
walked_no_further segment head first next done held stands walked more none free list = by on.0 on.1 on.2 where
  on : (more : List Block) × (free ≡ done ++ more) × FreeFrom segment next more
  on = goes_on segment first next done free walked.leads walked.each (from_first segment head first free stands list)

  by : (rest : List Block) → free ≡ done ++ rest → FreeFrom segment next rest → ⊥
  by [] split from = more from
  by (b ∷ rest) split from = none b (record {
    place = from.0;
    size = from.1;
    free = (all_right IsFree done (b ∷ rest) (subst (AllByRecursion IsFree) split list.each)).0;
    within = (all_right (λ (x : Block). x.at + x.len ≤ length segment) done (b ∷ rest) (subst (Inside (length segment)) split list.within)).0;
    apart = λ p. omega (arith, walked.covered p, list.apart p, ap (cover p) split, cover-append p done (b ∷ rest));
  })
