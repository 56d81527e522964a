-- Entries in runs, and what a search among the runs finds.
use Rattle.std.proofs.Common.{◌≡◌, ℕ, zero, suc, ◌+◌, ◌<◌, ◌≤◌, inl, inr, Option, Some, None, is_some, IsSome, true≢false, List, [], ◌∷◌, ◌++◌, length, get_or, take, drop, refl, sym, ap, ◌∙◌, subst, arith}
use Rattle.std.specs.BTreeMap.{BTreeMap, get, is_at}
use Rattle.std.specs.List.{AllByRecursion}
use Rattle.std.specs.List.Sorted.{IsNonDecreasingBy}
use Rattle.std.specs.Map.{lookup}
use Rattle.std.specs.Ordering.{nat_cmp}
use Rattle.std.proofs.lemmas.Bool.{cases_lt}
use Rattle.std.proofs.lemmas.List.{get_or_read, append_assoc, take-append-drop, drop_more, take_more}
use Rattle.h5_bytes.proofs.BlockLaws.{all_append, all_right}
use Rattle.h5_space.specs.Addresses.{run_entries, run_at, front, back, BeginsAt, AreRuns, IsLastAt, IsGapAt, IsEntryAt, map_of}
use Rattle.h5_space.specs.declared.addresses.Run.{Run}
use Rattle.h5_space.proofs.AddressLaws.{Above, Below, Ascends, ascends_above, lookup_here, lookup_gap, above_less, below_more, ascends_below, sorted_from_ascends, ascends_from_sorted, ascends_front, ascends_back}

module _ {V : Type 0} where
  abbrev pub Filled : List (Run V) → Type 0
  Filled runs = AllByRecursion (λ run. BeginsAt run.first run.entries.items) runs

  pub ascends : (runs : List (Run V)) → AreRuns runs → Ascends (run_entries runs)
  ascends runs s = ascends_from_sorted (run_entries runs) s.ascending

  pub front_back : (runs : List (Run V)) (r i : ℕ) → front runs r i ++ back runs r i ≡ run_entries runs
  front_back [] r i = refl
  front_back (x ∷ xs) zero i = sym (append_assoc (take i x.entries.items) (drop i x.entries.items) (run_entries xs)) ∙ ap (λ es. es ++ run_entries xs) (take-append-drop i x.entries.items)
  front_back (x ∷ xs) (suc r) i = append_assoc x.entries.items (front xs r i) (back xs r i) ∙ ap (λ es. x.entries.items ++ es) (front_back xs r i)

  pub back_at : (runs : List (Run V)) (r i : ℕ) (e : ℕ × V) → i < length (run_at runs r) → e ≡ get_or (run_at runs r) i e → back runs r i ≡ e ∷ back runs r (i + 1)
  back_at [] r i e inside is = absurd (omega (arith, inside))
  back_at (x ∷ xs) zero i e inside is = ap (λ es. es ++ run_entries xs) (drop_more x.entries.items i e inside ∙ ap (λ y. y ∷ drop (i + 1) x.entries.items) (sym is))
  back_at (x ∷ xs) (suc r) i e inside is = back_at xs r i e inside is

  pub front_at : (runs : List (Run V)) (r i : ℕ) (e : ℕ × V) → i < length (run_at runs r) → e ≡ get_or (run_at runs r) i e → front runs r (i + 1) ≡ front runs r i ++ e ∷ []
  front_at [] r i e inside is = absurd (omega (arith, inside))
  front_at (x ∷ xs) zero i e inside is = take_more x.entries.items i e inside ∙ ap (λ y. take i x.entries.items ++ y ∷ []) (sym is)
  front_at (x ∷ xs) (suc r) i e inside is = ap (λ es. x.entries.items ++ es) (front_at xs r i e inside is) ∙ sym (append_assoc x.entries.items (front xs r i) (e ∷ []))

  -- an entry with those before it and behind it
  pub around : (runs : List (Run V)) (r i : ℕ) (e : ℕ × V) → i < length (run_at runs r) → e ≡ get_or (run_at runs r) i e → run_entries runs ≡ front runs r i ++ e ∷ back runs r (i + 1)
  around runs r i e inside is = sym (front_back runs r i) ∙ ap (λ es. front runs r i ++ es) (back_at runs r i e inside is)

  module _ (runs : List (Run V)) (r i : ℕ) (e : ℕ × V) (s : AreRuns runs) (inside : i < length (run_at runs r)) (is : e ≡ get_or (run_at runs r) i e) where
    pub before : Below e.0 (front runs r i)
    before = ascends_below (front runs r i) (back runs r (i + 1)) e (subst (λ (es : List (ℕ × V)). Ascends es) (around runs r i e inside is) (ascends runs s))

    pub behind : Above e.0 (back runs r (i + 1))
    behind = ascends_above (front runs r i) (back runs r (i + 1)) e (subst (λ (es : List (ℕ × V)). Ascends es) (around runs r i e inside is) (ascends runs s))

    -- an entry is found at its address
    pub found : lookup (is_at (nat_cmp e.0)) (run_entries runs) ≡ Some e.1
    found = ap (lookup (is_at (nat_cmp e.0))) (around runs r i e inside is) ∙ lookup_here (front runs r i) (back runs r (i + 1)) e before

  -- none is found at an address that has a gap
  pub absent : (runs : List (Run V)) (address r i : ℕ) → IsGapAt runs address r i → lookup (is_at (nat_cmp address)) (run_entries runs) ≡ None
  absent runs address r i gap = ap (lookup (is_at (nat_cmp address))) (sym (front_back runs r i)) ∙ lookup_gap address (front runs r i) (back runs r i) gap.low gap.high

  -- ---- one run

  pub run_at_is : (runs : List (Run V)) (r : ℕ) (x : Run V) → r < length runs → x ≡ get_or runs r x → run_at runs r ≡ x.entries.items
  run_at_is [] r x low is = absurd (omega (arith, low))
  run_at_is (y ∷ ys) zero x low is = ap (λ (z : Run V). z.entries.items) (sym is)
  run_at_is (y ∷ ys) (suc r) x low is = run_at_is ys r x (omega (arith, low)) is

  pub run_at_read : (runs : List (Run V)) (r : ℕ) (x : Run V) (es : List (ℕ × V)) → r < length runs → x ≡ get_or runs r x → es ≡ (get_or runs r x).entries.items → run_at runs r ≡ es
  run_at_read runs r x es low is read = run_at_is runs r x low is ∙ ap (λ (z : Run V). z.entries.items) is ∙ sym read

  -- an entry that was read from a run
  pub entry_read : (runs : List (Run V)) (r i : ℕ) (x : Run V) (e : ℕ × V) → r < length runs → x ≡ get_or runs r x → e ≡ get_or (get_or runs r x).entries.items i e → e ≡ get_or (run_at runs r) i e
  entry_read runs r i x e low is read = read ∙ ap (λ (es : List (ℕ × V)). get_or es i e) (sym (run_at_read runs r x (get_or runs r x).entries.items low is refl))

  pub run_filled : (runs : List (Run V)) (r : ℕ) (x : Run V) → Filled runs → r < length runs → x ≡ get_or runs r x → BeginsAt x.first x.entries.items
  run_filled [] r x filled low is = absurd (omega (arith, low))
  run_filled (y ∷ ys) zero x filled low is = subst (λ (z : Run V). BeginsAt z.first z.entries.items) (sym is) filled.0
  run_filled (y ∷ ys) (suc r) x filled low is = run_filled ys r x filled.1 (omega (arith, low)) is

  pub run_ascends : (runs : List (Run V)) (r : ℕ) (x : Run V) → Ascends (run_entries runs) → r < length runs → x ≡ get_or runs r x → Ascends x.entries.items
  run_ascends [] r x s low is = absurd (omega (arith, low))
  run_ascends (y ∷ ys) zero x s low is = subst (λ (z : Run V). Ascends z.entries.items) (sym is) (ascends_front y.entries.items (run_entries ys) s)
  run_ascends (y ∷ ys) (suc r) x s low is = run_ascends ys r x (ascends_back y.entries.items (run_entries ys) s) (omega (arith, low)) is

  -- ---- the order of the runs

  -- entries that begin behind a place are all behind it
  begins_above : (a first : ℕ) (es rest : List (ℕ × V)) → BeginsAt first es → Ascends (es ++ rest) → a < first → Above a (es ++ rest)
  begins_above a first [] rest begins s low = absurd begins
  begins_above a first (e ∷ es) rest begins s low = (omega (arith, begins, low), above_less e.0 a (es ++ rest) (omega (arith, begins, low)) s.0)

  pub above_all : (a : ℕ) (runs : List (Run V)) → Filled runs → Ascends (run_entries runs) → ((d : Run V) → 0 < length runs → a < (get_or runs 0 d).first) → Above a (run_entries runs)
  above_all a [] filled s low = tt
  above_all a (x ∷ xs) filled s low = begins_above a x.first x.entries.items (run_entries xs) filled.0 s (low x (omega arith))

  pub above_back : (a : ℕ) (runs : List (Run V)) (r i : ℕ) → Filled runs → Ascends (run_entries runs) → Above a (drop i (run_at runs r))
      → ((k : ℕ) (d : Run V) → r < k → k < length runs → a < (get_or runs k d).first) → Above a (back runs r i)
  above_back a [] r i filled s here behind = tt
  above_back a (x ∷ xs) zero i filled s here behind = all_append (λ e. a < e.0) (drop i x.entries.items) (run_entries xs) here
      (above_all a xs filled.1 (ascends_back x.entries.items (run_entries xs) s) (λ d some. behind 1 d (omega arith) (omega (arith, some))))
  above_back a (x ∷ xs) (suc r) i filled s here behind = above_back a xs r i filled.1 (ascends_back x.entries.items (run_entries xs) s) here
      (λ k d after low. behind (suc k) d (omega (arith, after)) (omega (arith, low)))

  -- what begins in entries behind a place is behind it
  first_above : (a first : ℕ) (es rest : List (ℕ × V)) → BeginsAt first es → Above a (es ++ rest) → a < first
  first_above a first [] rest begins above = absurd begins
  first_above a first (e ∷ es) rest begins above = omega (arith, begins, above.0)

  firsts_above : (a : ℕ) (runs : List (Run V)) → Filled runs → Above a (run_entries runs) → (k : ℕ) (d : Run V) → k < length runs → a < (get_or runs k d).first
  firsts_above a [] filled above k d low = absurd (omega (arith, low))
  firsts_above a (x ∷ xs) filled above zero d low = first_above a x.first x.entries.items (run_entries xs) filled.0 above
  firsts_above a (x ∷ xs) filled above (suc k) d low = firsts_above a xs filled.1 (all_right (λ e. a < e.0) x.entries.items (run_entries xs) above) k d (omega (arith, low))

  -- what is behind entries is behind their first
  behind_first : (first : ℕ) (es rest : List (ℕ × V)) → BeginsAt first es → Ascends (es ++ rest) → Above first rest
  behind_first first [] rest begins s = absurd begins
  behind_first first (e ∷ es) rest begins s = above_less e.0 first rest (omega (arith, begins)) (all_right (λ x. e.0 < x.0) es rest s.0)

  pub firsts_rise : (runs : List (Run V)) → Filled runs → Ascends (run_entries runs) → IsNonDecreasingBy (λ run. run.first) runs
  firsts_rise [] filled s i j d le low = absurd (omega (arith, low))
  firsts_rise (x ∷ xs) filled s zero zero d le low = omega arith
  firsts_rise (x ∷ xs) filled s zero (suc j) d le low =
      let above = behind_first x.first x.entries.items (run_entries xs) filled.0 s in
      omega (arith, firsts_above x.first xs filled.1 above j d (omega (arith, low)))
  firsts_rise (x ∷ xs) filled s (suc i) zero d le low = absurd (omega (arith, le))
  firsts_rise (x ∷ xs) filled s (suc i) (suc j) d le low = firsts_rise xs filled.1 (ascends_back x.entries.items (run_entries xs) s) i j d (omega (arith, le)) (omega (arith, low))

  pub are_none : (runs : List (Run V)) → runs ≡ [] → AreRuns runs
  are_none runs none = subst (λ (rs : List (Run V)). AreRuns rs) (sym none) (record { filled = tt; ascending = sorted_from_ascends {V = V} [] tt })

  -- ---- where an entry belongs

  -- before the first, where all are behind it
  pub gap_first : (runs : List (Run V)) (address : ℕ) → Above address (run_entries runs) → IsGapAt runs address 0 0
  gap_first [] address above = record { there = omega arith; inside = omega arith; low = tt; high = tt }
  gap_first (x ∷ xs) address above = record { there = omega arith; inside = omega arith; low = tt; high = above }

  -- behind the last one at its address or before it, where that has another address
  pub gap_behind : (runs : List (Run V)) (address r i : ℕ) (e : ℕ × V) → AreRuns runs → IsLastAt runs address r i → e ≡ get_or (run_at runs r) i e → (e.0 ≡ address → ⊥)
      → IsGapAt runs address r (i + 1)
  gap_behind runs address r i e s last is differ =
      let under : e.0 < address = let le = subst (λ (x : ℕ × V). x.0 ≤ address) (sym is) (last.low e) in grind (arith, differ) in
      record {
        there = omega (arith, last.there);
        inside = omega (arith, last.inside);
        low = subst (λ (es : List (ℕ × V)). Below address es) (sym (front_at runs r i e last.inside is))
            (all_append (λ x. x.0 < address) (front runs r i) (e ∷ []) (below_more e.0 address (front runs r i) (omega (arith, under)) (before runs r i e s last.inside is)) (under, tt));
        high = last.high;
      }

  -- ---- what a map has

  module _ (runs seen : List (Run V)) (m : BTreeMap ℕ V) (same : seen ≡ runs) (view : map_of runs ≡ m) where
    got_in : (q : ℕ) (o : Option V) → lookup (is_at (nat_cmp q)) (run_entries seen) ≡ o → get nat_cmp m q ≡ o
    got_in q o is = ap (λ (n : BTreeMap ℕ V). get nat_cmp n q) (sym view) ∙ ap (λ (rs : List (Run V)). lookup (is_at (nat_cmp q)) (run_entries rs)) (sym same) ∙ is

    pub got : (read : List (Run V)) → read ≡ runs → (address r i : ℕ) (e : ℕ × V) → AreRuns runs → IsEntryAt seen address r i → e ≡ get_or (run_at read r) i e
        → get nat_cmp m address ≡ Some e.1
    got read again address r i e s at was =
        let is : e ≡ get_or (run_at seen r) i e = subst (λ (rs : List (Run V)). e ≡ get_or (run_at rs r) i e) (again ∙ sym same) was in
        let address_is : e.0 ≡ address = ap (λ (x : ℕ × V). x.0) is ∙ at.same e in
        got_in address (Some e.1) (subst (λ (q : ℕ). lookup (is_at (nat_cmp q)) (run_entries seen) ≡ Some e.1) address_is
        (found seen r i e (subst (λ (rs : List (Run V)). AreRuns rs) (sym same) s) at.inside is))

    pub none_got : (address r i : ℕ) → IsGapAt seen address r i → get nat_cmp m address ≡ None
    none_got address r i gap = got_in address None (absent seen address r i gap)

    -- the last one at an address or before it
    pub got_last : (read : List (Run V)) → read ≡ runs → (address r i : ℕ) (e : ℕ × V) → AreRuns runs → IsLastAt seen address r i → e ≡ get_or (run_at read r) i e
        → (e.0 ≤ address) × (get nat_cmp m e.0 ≡ Some e.1) × ((q : ℕ) → q ≤ address → IsSome (get nat_cmp m q) → q ≤ e.0)
    got_last read again address r i e s last was =
        let is : e ≡ get_or (run_at seen r) i e = subst (λ (rs : List (Run V)). e ≡ get_or (run_at rs r) i e) (again ∙ sym same) was in
        let seen_runs : AreRuns seen = subst (λ (rs : List (Run V)). AreRuns rs) (sym same) s in
        let low : e.0 ≤ address = subst (λ (x : ℕ × V). x.0 ≤ address) (sym is) (last.low e) in (
          low,
          got_in e.0 (Some e.1) (found seen r i e seen_runs last.inside is),
          λ q le some. elim (cases_lt e.0 q) [
            | inr fine ↦ fine
            | inl over ↦ absurd (
                let at : IsLastAt seen q r i = record {
                  there = last.there;
                  inside = last.inside;
                  low = λ d. subst (λ (x : ℕ × V). x.0 ≤ q) (get_or_read (run_at seen r) i e last.inside is d) (omega (arith, over));
                  high = above_less address q (back seen r (i + 1)) le last.high;
                } in
                let none = none_got q r (i + 1) (gap_behind seen q r i e seen_runs at is (λ equal. omega (arith, over, equal))) in
                true≢false (sym some ∙ ap is_some none))
          ],
        )

    pub none_last : (address q : ℕ) → Above address (run_entries seen) → q ≤ address → get nat_cmp m q ≡ None
    none_last address q above le = none_got q 0 0 (gap_first seen q (above_less address q (run_entries seen) le above))
