-- Runs after an edit of one of them.
use Rattle.std.proofs.Common.{◌≡◌, ℕ, zero, suc, ◌+◌, ◌<◌, ◌≤◌, Result, Ok, Err, OnErr, OnOk, List, [], ◌∷◌, ◌++◌, length, get_or, set, take, drop, refl, sym, ap, ◌∙◌, subst, add-one, take-add, arith}
use Rattle.std.specs.List.{insert}
use Rattle.std.proofs.lemmas.List.{append_assoc, append-nil, append_cancel_left, set_split, drop_all, take-append-drop, take-take}
use Rattle.h5_space.specs.Addresses.{run_entries, run_at, front, back, BeginsAt, AreRuns, IsGapAt}
use Rattle.h5_space.specs.declared.addresses.Run.{Run}
use Rattle.h5_space.proofs.AddressLaws.{Below, Ascends, ascends_put, ascends_set, ascends_cut, sorted_from_ascends}
use Rattle.h5_space.proofs.RunLaws.{Filled, ascends, around, front_back, run_at_is}

module _ {V : Type 0} where
  pub entries_edit : (runs : List (Run V)) (r i j : ℕ) (y : Run V) (mid : List (ℕ × V)) → r < length runs → y.entries.items ≡ take i (run_at runs r) ++ (mid ++ drop j (run_at runs r))
      → run_entries (set runs r y) ≡ front runs r i ++ (mid ++ back runs r j)
  entries_edit [] r i j y mid low is = absurd (omega (arith, low))
  entries_edit (x ∷ xs) zero i j y mid low is =
      ap (λ (es : List (ℕ × V)). es ++ run_entries xs) is ∙ append_assoc (take i x.entries.items) (mid ++ drop j x.entries.items) (run_entries xs)
      ∙ ap (λ (es : List (ℕ × V)). take i x.entries.items ++ es) (append_assoc mid (drop j x.entries.items) (run_entries xs))
  entries_edit (x ∷ xs) (suc r) i j y mid low is =
      ap (λ (es : List (ℕ × V)). x.entries.items ++ es) (entries_edit xs r i j y mid (omega (arith, low)) is) ∙ sym (append_assoc x.entries.items (front xs r i) (mid ++ back xs r j))

  pub filled_set : (runs : List (Run V)) (r : ℕ) (y : Run V) → Filled runs → BeginsAt y.first y.entries.items → Filled (set runs r y)
  filled_set [] r y filled begins = tt
  filled_set (x ∷ xs) zero y filled begins = (begins, filled.1)
  filled_set (x ∷ xs) (suc r) y filled begins = (filled.0, filled_set xs r y filled.1 begins)

  pub are_runs : (runs : List (Run V)) (es : List (ℕ × V)) → Filled runs → run_entries runs ≡ es → Ascends es → AreRuns runs
  are_runs runs es filled is s = record { filled = filled; ascending = sorted_from_ascends (run_entries runs) (subst (λ (fs : List (ℕ × V)). Ascends fs) (sym is) s) }

  -- ---- an entry with another value

  pub begins_set : (first : ℕ) (es : List (ℕ × V)) (i : ℕ) (e : ℕ × V) (v : V) → BeginsAt first es → e ≡ get_or es i e → BeginsAt first (set es i (e.0, v))
  begins_set first [] i e v begins is = begins
  begins_set first (x ∷ xs) zero e v begins is = begins ∙ sym (ap (λ (y : ℕ × V). y.0) is)
  begins_set first (x ∷ xs) (suc i) e v begins is = begins

  module _ (runs : List (Run V)) (r i : ℕ) (e : ℕ × V) (v : V) (y : Run V) (s : AreRuns runs) (low : r < length runs) (inside : i < length (run_at runs r))
      (is : e ≡ get_or (run_at runs r) i e) (items : y.entries.items ≡ set (run_at runs r) i (e.0, v)) where
    pub entries_written : run_entries (set runs r y) ≡ front runs r i ++ (e.0, v) ∷ back runs r (i + 1)
    entries_written = entries_edit runs r i (i + 1) y ((e.0, v) ∷ []) low
        (items ∙ set_split (run_at runs r) i (e.0, v) inside ∙ ap (λ (k : ℕ). take i (run_at runs r) ++ (e.0, v) ∷ drop k (run_at runs r)) (sym (add-one i)))

    pub are_written : BeginsAt y.first y.entries.items → AreRuns (set runs r y)
    are_written begins = are_runs (set runs r y) (front runs r i ++ (e.0, v) ∷ back runs r (i + 1)) (filled_set runs r y s.filled begins) entries_written
        (ascends_set (front runs r i) (back runs r (i + 1)) e v (subst (λ (es : List (ℕ × V)). Ascends es) (around runs r i e inside is) (ascends runs s)))

  -- ---- an entry more

  pub begins_first : (es : List (ℕ × V)) (i : ℕ) (e : ℕ × V) → i ≡ 0 → BeginsAt e.0 (insert es i e)
  begins_first es i e is = subst (λ (k : ℕ). BeginsAt e.0 (insert es k e)) (sym is) refl

  pub begins_still : (first : ℕ) (es : List (ℕ × V)) (i : ℕ) (e : ℕ × V) → BeginsAt first es → (i ≡ 0 → ⊥) → BeginsAt first (insert es i e)
  begins_still first [] i e begins some = absurd begins
  begins_still first (x ∷ xs) zero e begins some = absurd (some refl)
  begins_still first (x ∷ xs) (suc i) e begins some = begins

  -- the same entries
  module _ (runs : List (Run V)) (r : ℕ) (y : Run V) (low : r < length runs) (items : y.entries.items ≡ run_at runs r) where
    pub entries_stay : run_entries (set runs r y) ≡ run_entries runs
    entries_stay = entries_edit runs r 0 0 y [] low items ∙ front_back runs r 0

    pub are_still : AreRuns runs → BeginsAt y.first y.entries.items → AreRuns (set runs r y)
    are_still s begins = are_runs (set runs r y) (run_entries runs) (filled_set runs r y s.filled begins) entries_stay (ascends runs s)

  -- ---- an entry less

  pub begins_at : (es : List (ℕ × V)) (e : ℕ × V) → 0 < length es → e ≡ get_or es 0 e → BeginsAt e.0 es
  begins_at [] e some is = absurd (omega (arith, some))
  begins_at (x ∷ xs) e some is = ap (λ (y : ℕ × V). y.0) is

  -- a run that has no entry
  pub entries_without : (runs : List (Run V)) (r : ℕ) (y : Run V) → y.entries.items ≡ [] → run_entries (take r (set runs r y) ++ drop (suc r) (set runs r y)) ≡ run_entries (set runs r y)
  entries_without [] zero y none = refl
  entries_without [] (suc r) y none = refl
  entries_without (x ∷ xs) zero y none = sym (ap (λ (es : List (ℕ × V)). es ++ run_entries xs) none)
  entries_without (x ∷ xs) (suc r) y none = ap (λ (es : List (ℕ × V)). x.entries.items ++ es) (entries_without xs r y none)

  pub filled_without : (runs : List (Run V)) (r : ℕ) (y : Run V) → Filled runs → Filled (take r (set runs r y) ++ drop (suc r) (set runs r y))
  filled_without [] zero y filled = tt
  filled_without [] (suc r) y filled = tt
  filled_without (x ∷ xs) zero y filled = filled.1
  filled_without (x ∷ xs) (suc r) y filled = (filled.0, filled_without xs r y filled.1)

  module _ (runs : List (Run V)) (r i : ℕ) (e : ℕ × V) (y : Run V) (s : AreRuns runs) (low : r < length runs) (inside : i < length (run_at runs r))
      (is : e ≡ get_or (run_at runs r) i e) (items : y.entries.items ≡ take i (run_at runs r) ++ drop (i + 1) (run_at runs r)) where
    pub entries_cut : run_entries (set runs r y) ≡ front runs r i ++ back runs r (i + 1)
    entries_cut = entries_edit runs r i (i + 1) y [] low items

    cut_ascends : Ascends (front runs r i ++ back runs r (i + 1))
    cut_ascends = ascends_cut (front runs r i) (back runs r (i + 1)) e (subst (λ (es : List (ℕ × V)). Ascends es) (around runs r i e inside is) (ascends runs s))

    pub are_cut : BeginsAt y.first y.entries.items → AreRuns (set runs r y)
    are_cut begins = are_runs (set runs r y) (front runs r i ++ back runs r (i + 1)) (filled_set runs r y s.filled begins) entries_cut cut_ascends

    -- and where the run has no entry left
    module _ (none : y.entries.items ≡ []) (new : List (Run V)) (without : new ≡ take r (set runs r y) ++ drop (r + 1) (set runs r y)) where
      without_is : new ≡ take r (set runs r y) ++ drop (suc r) (set runs r y)
      without_is = without ∙ ap (λ (k : ℕ). take r (set runs r y) ++ drop k (set runs r y)) (add-one r)

      pub entries_cut_out : run_entries new ≡ front runs r i ++ back runs r (i + 1)
      entries_cut_out = ap (λ (rs : List (Run V)). run_entries rs) without_is ∙ entries_without runs r y none ∙ entries_cut

      pub are_cut_out : AreRuns new
      are_cut_out = are_runs new (front runs r i ++ back runs r (i + 1)) (subst (λ (rs : List (Run V)). Filled rs) (sym without_is) (filled_without runs r y s.filled)) entries_cut_out cut_ascends

  -- ---- a run more

  pub entries_more : (runs : List (Run V)) (y : Run V) → run_entries (runs ++ y ∷ []) ≡ run_entries runs ++ y.entries.items
  entries_more [] y = append-nil y.entries.items
  entries_more (x ∷ xs) y = ap (λ (es : List (ℕ × V)). x.entries.items ++ es) (entries_more xs y) ∙ sym (append_assoc x.entries.items (run_entries xs) y.entries.items)

  filled_more : (runs : List (Run V)) (y : Run V) → Filled runs → BeginsAt y.first y.entries.items → Filled (runs ++ y ∷ [])
  filled_more [] y filled begins = (begins, tt)
  filled_more (x ∷ xs) y filled begins = (filled.0, filled_more xs y filled.1 begins)

  pub are_more : (runs : List (Run V)) (y : Run V) (e : ℕ × V) → AreRuns runs → y.first ≡ e.0 → y.entries.items ≡ e ∷ [] → Below e.0 (run_entries runs) → AreRuns (runs ++ y ∷ [])
  are_more runs y e s first items low = are_runs (runs ++ y ∷ []) (run_entries runs ++ e ∷ []) (filled_more runs y s.filled (subst (λ (es : List (ℕ × V)). BeginsAt y.first es) (sym items) first))
      (entries_more runs y ∙ ap (λ (es : List (ℕ × V)). run_entries runs ++ es) items)
      (ascends_put (run_entries runs) [] e (subst (λ (es : List (ℕ × V)). Ascends es) (sym (append-nil (run_entries runs))) (ascends runs s)) low tt)

  -- nothing is behind the last run
  pub back_end : (runs : List (Run V)) (r i : ℕ) (x : Run V) → r + 1 ≡ length runs → x ≡ get_or runs r x → i ≡ length x.entries.items → back runs r i ≡ []
  back_end [] r i x end is all = refl
  back_end (y ∷ []) zero i x end is all =
      ap (λ (es : List (ℕ × V)). es ++ []) (drop_all i y.entries.items (let same = ap (λ (z : Run V). length z.entries.items) is in omega (arith, all, same)))
  back_end (y ∷ (z ∷ zs)) zero i x end is all = absurd (omega (arith, end))
  back_end (y ∷ ys) (suc r) i x end is all = back_end ys r i x (omega (arith, end)) is all

  pub front_all : (runs : List (Run V)) (r i : ℕ) → back runs r i ≡ [] → front runs r i ≡ run_entries runs
  front_all runs r i none = sym (append-nil (front runs r i)) ∙ ap (λ (es : List (ℕ × V)). front runs r i ++ es) (sym none) ∙ front_back runs r i

  -- places of the same entries that have the same before them
  pub back_same : (runs new : List (Run V)) (r i s j : ℕ) → run_entries new ≡ run_entries runs → front new s j ≡ front runs r i → back new s j ≡ back runs r i
  back_same runs new r i s j same before = append_cancel_left (front runs r i) (back new s j) (back runs r i)
      (ap (λ (es : List (ℕ × V)). es ++ back new s j) (sym before) ∙ front_back new s j ∙ same ∙ sym (front_back runs r i))

  -- an entry more at the place of another one
  module _ (runs new : List (Run V)) (r i s j : ℕ) (e : ℕ × V) (x y : Run V) (same : run_entries new ≡ run_entries runs) (before : front new s j ≡ front runs r i) (there : s < length new)
      (is : x ≡ get_or new s x) (items : y.entries.items ≡ insert x.entries.items j e) where
    items_there : y.entries.items ≡ insert (run_at new s) j e
    items_there = items ∙ ap (λ (es : List (ℕ × V)). insert es j e) (sym (run_at_is new s x there is))

    pub entries_put : run_entries (set new s y) ≡ front runs r i ++ e ∷ back runs r i
    entries_put = entries_edit new s j j y (e ∷ []) there items_there
        ∙ ap (λ (es : List (ℕ × V)). es ++ e ∷ back new s j) before ∙ ap (λ (es : List (ℕ × V)). front runs r i ++ e ∷ es) (back_same runs new r i s j same before)

    pub are_put : AreRuns new → IsGapAt runs e.0 r i → BeginsAt y.first (insert x.entries.items j e) → AreRuns (set new s y)
    are_put are gap begins = are_runs (set new s y) (front runs r i ++ e ∷ back runs r i) (filled_set new s y are.filled (subst (λ (es : List (ℕ × V)). BeginsAt y.first es) (sym items) begins)) entries_put
        (ascends_put (front runs r i) (back runs r i) e (subst (λ (es : List (ℕ × V)). Ascends es) (sym (front_back runs r i ∙ sym same)) (ascends new are)) gap.low gap.high)

  -- ---- a run in two halves

  abbrev pub halved : List (Run V) → ℕ → Run V → Run V → List (Run V)
  halved runs r head tail = set (insert runs (suc r) tail) r head

  pub entries_halved : (runs : List (Run V)) (r n : ℕ) (head tail : Run V) → r < length runs → head.entries.items ≡ take n (run_at runs r) → tail.entries.items ≡ drop n (run_at runs r)
      → run_entries (halved runs r head tail) ≡ run_entries runs
  entries_halved [] r n head tail low h t = absurd (omega (arith, low))
  entries_halved (x ∷ xs) zero n head tail low h t =
      sym (append_assoc head.entries.items tail.entries.items (run_entries xs))
      ∙ ap (λ (es : List (ℕ × V)). es ++ run_entries xs) (ap (λ (es : List (ℕ × V)). es ++ tail.entries.items) h ∙ ap (λ (es : List (ℕ × V)). take n x.entries.items ++ es) t ∙ take-append-drop n x.entries.items)
  entries_halved (x ∷ xs) (suc r) n head tail low h t = ap (λ (es : List (ℕ × V)). x.entries.items ++ es) (entries_halved xs r n head tail (omega (arith, low)) h t)

  pub front_low : (runs : List (Run V)) (r n i : ℕ) (head tail : Run V) → r < length runs → head.entries.items ≡ take n (run_at runs r) → i ≤ n → front (halved runs r head tail) r i ≡ front runs r i
  front_low [] r n i head tail low h le = absurd (omega (arith, low))
  front_low (x ∷ xs) zero n i head tail low h le = ap (λ (es : List (ℕ × V)). take i es) h ∙ take-take i n x.entries.items le
  front_low (x ∷ xs) (suc r) n i head tail low h le = ap (λ (es : List (ℕ × V)). x.entries.items ++ es) (front_low xs r n i head tail (omega (arith, low)) h le)

  pub front_high : (runs : List (Run V)) (r n i : ℕ) (head tail : Run V) → r < length runs → head.entries.items ≡ take n (run_at runs r) → tail.entries.items ≡ drop n (run_at runs r)
      → front (halved runs r head tail) (suc r) i ≡ front runs r (n + i)
  front_high [] r n i head tail low h t = absurd (omega (arith, low))
  front_high (x ∷ xs) zero n i head tail low h t =
      ap (λ (es : List (ℕ × V)). es ++ take i tail.entries.items) h ∙ ap (λ (es : List (ℕ × V)). take n x.entries.items ++ take i es) t ∙ sym (take-add n i x.entries.items)
  front_high (x ∷ xs) (suc r) n i head tail low h t = ap (λ (es : List (ℕ × V)). x.entries.items ++ es) (front_high xs r n i head tail (omega (arith, low)) h t)

  pub run_head : (runs : List (Run V)) (r : ℕ) (head tail : Run V) → r < length runs → run_at (halved runs r head tail) r ≡ head.entries.items
  run_head [] r head tail low = absurd (omega (arith, low))
  run_head (x ∷ xs) zero head tail low = refl
  run_head (x ∷ xs) (suc r) head tail low = run_head xs r head tail (omega (arith, low))

  pub run_tail : (runs : List (Run V)) (r : ℕ) (head tail : Run V) → r < length runs → run_at (halved runs r head tail) (suc r) ≡ tail.entries.items
  run_tail [] r head tail low = absurd (omega (arith, low))
  run_tail (x ∷ xs) zero head tail low = refl
  run_tail (x ∷ xs) (suc r) head tail low = run_tail xs r head tail (omega (arith, low))

  filled_halved : (runs : List (Run V)) (r : ℕ) (head tail : Run V) → r < length runs → Filled runs → BeginsAt head.first head.entries.items → BeginsAt tail.first tail.entries.items → Filled (halved runs r head tail)
  filled_halved [] r head tail low filled h t = absurd (omega (arith, low))
  filled_halved (x ∷ xs) zero head tail low filled h t = (h, (t, filled.1))
  filled_halved (x ∷ xs) (suc r) head tail low filled h t = (filled.0, filled_halved xs r head tail (omega (arith, low)) filled.1 h t)

  pub are_halved : (runs : List (Run V)) (r n : ℕ) (head tail : Run V) → r < length runs → head.entries.items ≡ take n (run_at runs r) → tail.entries.items ≡ drop n (run_at runs r)
      → AreRuns runs → BeginsAt head.first head.entries.items → BeginsAt tail.first tail.entries.items → AreRuns (halved runs r head tail)
  are_halved runs r n head tail low h t s begins rest = are_runs (halved runs r head tail) (run_entries runs) (filled_halved runs r head tail low s.filled begins rest)
      (entries_halved runs r n head tail low h t) (ascends runs s)

  pub begins_take : (first : ℕ) (es : List (ℕ × V)) (n : ℕ) → BeginsAt first es → BeginsAt first (take (suc n) es)
  begins_take first [] n begins = begins
  begins_take first (x ∷ xs) n begins = begins

pub on_err : {T E P : Type 0} (r : Result T E) → P → OnErr r P
on_err (Ok v) fact = tt
on_err (Err e) fact = fact

pub on_ok_then : {T E P Q : Type 0} (r : Result T E) → OnOk r P → (P → Q) → OnOk r Q
on_ok_then (Ok v) fact follows = follows fact
on_ok_then (Err e) fact follows = tt
