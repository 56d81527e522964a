-- What a map has after an edit of its runs.
use Rattle.std.proofs.Common.{◌≡◌, ℕ, zero, suc, ◌+◌, ◌<◌, Some, None, is_some, true, List, [], ◌∷◌, ◌++◌, length, get_or, refl, sym, ap, ◌∙◌, subst, arith}
use Rattle.std.specs.BTreeMap.{BTreeMap, Updates, get}
use Rattle.std.specs.Ordering.{nat_cmp}
use Rattle.h5_space.specs.Addresses.{run_entries, map_of, run_at, front, back, AreRuns, IsEntryAt, IsGapAt}
use Rattle.h5_space.specs.declared.addresses.Run.{Run}
use Rattle.h5_space.proofs.AddressLaws.{updates_put, updates_set, updates_cut, updates_none}
use Rattle.h5_space.proofs.RunLaws.{around, front_back, before, behind, got}

-- an element of a list
element : {X : Type 0} (xs : List X) (i : ℕ) → i < length xs → (x : X) × (x ≡ get_or xs i x)
element [] i low = absurd (omega (arith, low))
element (x ∷ xs) zero low = (x, refl)
element (x ∷ xs) (suc i) low = element xs i (omega (arith, low))

module _ {V : Type 0} (runs seen : List (Run V)) (m : BTreeMap ℕ V) (same : seen ≡ runs) (view : map_of runs ≡ m) (s : AreRuns runs) (address r i : ℕ) where
  entries_are : m.entries ≡ run_entries runs
  entries_are = ap (λ (n : BTreeMap ℕ V). n.entries) (sym view)

  module _ (seen_at : IsEntryAt seen address r i) where
    at : IsEntryAt runs address r i
    at = subst (λ (rs : List (Run V)). IsEntryAt rs address r i) same seen_at

    e : ℕ × V
    e = (element (run_at runs r) i at.inside).0

    is : e ≡ get_or (run_at runs r) i e
    unfolding e
    is = (element (run_at runs r) i at.inside).1

    address_is : e.0 ≡ address
    address_is = ap (λ (x : ℕ × V). x.0) is ∙ at.same e

    entries_around : m.entries ≡ front runs r i ++ e ∷ back runs r (i + 1)
    entries_around = entries_are ∙ around runs r i e at.inside is

    pub written : (new : List (Run V)) (v : V) → ((e : ℕ × V) → e ≡ get_or (run_at runs r) i e → run_entries new ≡ front runs r i ++ (e.0, v) ∷ back runs r (i + 1))
        → Updates nat_cmp m (map_of new) address (Some v)
    written new v entries = subst (λ (q : ℕ). Updates nat_cmp m (map_of new) q (Some v)) address_is
        (updates_set m (map_of new) (front runs r i) (back runs r (i + 1)) e v entries_around (entries e is) (before runs r i e s at.inside is))

    pub cut_out : (new : List (Run V)) → run_entries new ≡ front runs r i ++ back runs r (i + 1) → Updates nat_cmp m (map_of new) address None
    cut_out new entries = subst (λ (q : ℕ). Updates nat_cmp m (map_of new) q None) address_is
        (updates_cut m (map_of new) (front runs r i) (back runs r (i + 1)) e entries_around entries (before runs r i e s at.inside is) (behind runs r i e s at.inside is))

    pub is_there : is_some (get nat_cmp m address) ≡ true
    is_there = ap is_some (got runs seen m same view runs refl address r i e s seen_at is)

    pub has : (v : V) → ((d : ℕ × V) → v ≡ (get_or (run_at runs r) i d).1) → get nat_cmp m address ≡ Some v
    has v value = got runs seen m same view runs refl address r i e s seen_at is ∙ ap (λ (w : V). Some w) (ap (λ (x : ℕ × V). x.1) is ∙ sym (value e))

  module _ (seen_gap : IsGapAt seen address r i) where
    gap : IsGapAt runs address r i
    gap = subst (λ (rs : List (Run V)). IsGapAt rs address r i) same seen_gap

    pub put_into : (new : List (Run V)) (v : V) → run_entries new ≡ front runs r i ++ (address, v) ∷ back runs r i → Updates nat_cmp m (map_of new) address (Some v)
    put_into new v entries = updates_put m (map_of new) (front runs r i) (back runs r i) address v (entries_are ∙ sym (front_back runs r i)) entries gap.low

    pub left_out : Updates nat_cmp m m address None
    left_out = updates_none m m (front runs r i) (back runs r i) address (entries_are ∙ sym (front_back runs r i)) (entries_are ∙ sym (front_back runs r i)) gap.low gap.high
