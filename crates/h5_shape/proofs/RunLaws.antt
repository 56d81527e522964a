-- Runs of consecutive places.
use Rattle.std.proofs.Common.{◌≡◌, ℕ, zero, suc, ◌+◌, ◌<◌, List, [], ◌∷◌, ◌++◌, refl, sym, ap, ◌∙◌, arith, Bool, true, false, cond, ◌&&◌, not, Option, Some, None}
use Rattle.std.proofs.lemmas.Bool.Decides.{nat_tests}
use Rattle.std.specs.Prelude.{◌==◌}
use Rattle.std.specs.Option.{is_some}
use Rattle.std.specs.Iterator.{YieldsFirst}
use Rattle.h5_model.specs.Views.Selection.{rises_by_one, is_run}
use Rattle.h5_shape.specs.declared.runs.CellRun.{CellRun}
use Rattle.h5_shape.specs.SpacedPlaces.{spaced_places}
use Rattle.h5_shape.specs.Runs.{runs_with, cell_runs, places_in, AreMaximal}

-- the first run begins with the place that was put
put_first : (p : ℕ) (rs : List CellRun) → (r : CellRun) × (ss : List CellRun) × (r.place ≡ p) × (runs_with p rs ≡ r ∷ ss)
put_first p [] = (record { place = p; length = 1 }, [], refl, refl)
put_first p (r ∷ rs) = elim (r.place == p + 1) as (λ b. (s : CellRun) × (ss : List CellRun) × (s.place ≡ p)
    × (cond b (record { place = p; length = r.length + 1 } ∷ rs) (record { place = p; length = 1 } ∷ r ∷ rs) ≡ s ∷ ss)) [
      | true ↦ (record { place = p; length = r.length + 1 }, rs, refl, refl)
      | false ↦ (record { place = p; length = 1 }, r ∷ rs, refl, refl)
    ]

-- a list does not begin with this place
abbrev pub BeginsElse : ℕ → List ℕ → Type 0
BeginsElse place [] = Unit {0}
BeginsElse place (p ∷ ps) = (p == place) ≡ false

put_alone : (p : ℕ) (xs : List ℕ) → BeginsElse (p + 1) xs → runs_with p (cell_runs xs) ≡ record { place = p; length = 1 } ∷ cell_runs xs
put_alone p [] else = refl
put_alone p (x ∷ xs) else =
    let first : (r : CellRun) × (ss : List CellRun) × (r.place ≡ x) × (cell_runs (x ∷ xs) ≡ r ∷ ss) = put_first x (cell_runs xs) in
    let apart : (first.0.place == p + 1) ≡ false = rw first.2 else in
    ap (runs_with p) first.3
    ∙ ap (λ b. cond b (record { place = p; length = first.0.length + 1 } ∷ first.1) (record { place = p; length = 1 } ∷ first.0 ∷ first.1)) apart
    ∙ ap (λ (rs : List CellRun). record { place = p; length = 1 } ∷ rs) (sym first.3)

pub runs_spaced : (n p : ℕ) (xs : List ℕ) → 0 < n → BeginsElse (p + n) xs → cell_runs (spaced_places n 1 p ++ xs) ≡ record { place = p; length = n } ∷ cell_runs xs
runs_spaced zero p xs some else = absurd (omega arith)
runs_spaced (suc zero) p xs some else = put_alone p xs else
runs_spaced (suc (suc n)) p xs some else =
    let end : (p + 1) + suc n ≡ p + suc (suc n) = omega arith in
    let rest : cell_runs (spaced_places (suc n) 1 (p + 1) ++ xs) ≡ record { place = p + 1; length = suc n } ∷ cell_runs xs = runs_spaced (suc n) (p + 1) xs (omega arith) (rw end else) in
    let next : (p + 1 == p + 1) ≡ true = grind (arith, nat_tests) in
    let grown : suc n + 1 ≡ suc (suc n) = omega arith in
    ap (runs_with p) rest ∙ rw (next, grown) refl

-- there is exactly one
abbrev pub is_single : List CellRun → Bool
is_single [] = false
is_single (r ∷ []) = true
is_single (r ∷ s ∷ rs) = false

rises : (p : ℕ) (ps : List ℕ) → rises_by_one (p + 1) ps ≡ is_single (runs_with p (cell_runs ps))
rises p [] = refl
rises p (q ∷ qs) =
    let first : (r : CellRun) × (ss : List CellRun) × (r.place ≡ q) × (cell_runs (q ∷ qs) ≡ r ∷ ss) = put_first q (cell_runs qs) in
    let under : rises_by_one (q + 1) qs ≡ is_single (first.0 ∷ first.1) = rises q qs ∙ ap is_single first.3 in
    let same : (first.0.place == p + 1) ≡ (q == p + 1) = ap (λ n. n == p + 1) first.2 in
    let cases : ((q == p + 1) && rises_by_one (p + 1 + 1) qs)
    ≡ is_single (cond (q == p + 1) (record { place = p; length = first.0.length + 1 } ∷ first.1) (record { place = p; length = 1 } ∷ first.0 ∷ first.1)) =
    elim (q == p + 1) as (λ b. (q == p + 1) ≡ b → (b && rises_by_one (p + 1 + 1) qs)
    ≡ is_single (cond b (record { place = p; length = first.0.length + 1 } ∷ first.1) (record { place = p; length = 1 } ∷ first.0 ∷ first.1))) [
      | true ↦ λ e. let here : q ≡ p + 1 = grind (arith, nat_tests) in
          ap (λ n. rises_by_one (n + 1) qs) (sym here) ∙ under ∙ heads first.0 (record { place = p; length = first.0.length + 1 }) first.1
      | false ↦ λ _. refl
    ] refl in
    cases
    ∙ ap (λ b. is_single (cond b (record { place = p; length = first.0.length + 1 } ∷ first.1) (record { place = p; length = 1 } ∷ first.0 ∷ first.1))) (sym same)
    ∙ ap (λ (rs : List CellRun). is_single (runs_with p rs)) (sym first.3) where
      heads : (r s : CellRun) (rs : List CellRun) → is_single (r ∷ rs) ≡ is_single (s ∷ rs)
      heads r s [] = refl
      heads r s (t ∷ rs) = refl

-- the places are consecutive where they make one run
pub run-single : (ps : List ℕ) → is_run ps ≡ is_single (cell_runs ps)
run-single [] = refl
run-single (p ∷ ps) = rises p ps

-- two steps tell whether there is exactly one run
pub single-steps : (rs ss ts : List CellRun) (r s : Option CellRun) → YieldsFirst (λ (left : List CellRun). left) rs r ss → YieldsFirst (λ (left : List CellRun). left) ss s ts
    → is_some r ≡ true → (b : Bool) → is_some s ≡ not b → b ≡ is_single rs
single-steps rs ss ts None s first second some b h = absurd (cc)
single-steps rs ss ts (Some x) None first second some true h = sym (ap is_single (first ∙ ap (λ (l : List CellRun). x ∷ l) second.0))
single-steps rs ss ts (Some x) None first second some false h = absurd (cc)
single-steps rs ss ts (Some x) (Some y) first second some true h = absurd (cc)
single-steps rs ss ts (Some x) (Some y) first second some false h = sym (ap is_single (first ∙ ap (λ (l : List CellRun). x ∷ l) second))

put_places : (p : ℕ) (rs : List CellRun) → places_in (runs_with p rs) ≡ p ∷ places_in rs
put_places p [] = refl
put_places p (r ∷ rs) = elim (r.place == p + 1) as (λ b. (r.place == p + 1) ≡ b
    → places_in (cond b (record { place = p; length = r.length + 1 } ∷ rs) (record { place = p; length = 1 } ∷ r ∷ rs)) ≡ p ∷ places_in (r ∷ rs)) [
      | true ↦ λ e. let next : r.place ≡ p + 1 = grind (arith, nat_tests) in
          let grown : r.length + 1 ≡ suc (r.length) = omega arith in
          rw (next, grown) refl
      | false ↦ λ _. refl
    ] refl

-- the runs of places list these places
pub places_of_runs : (ps : List ℕ) → places_in (cell_runs ps) ≡ ps
places_of_runs [] = refl
places_of_runs (p ∷ ps) = put_places p (cell_runs ps) ∙ ap (λ (qs : List ℕ). p ∷ qs) (places_of_runs ps)

longer : (p : ℕ) (r : CellRun) (rs : List CellRun) → r.place ≡ p + 1 → AreMaximal (r ∷ rs) → AreMaximal (record { place = p; length = r.length + 1 } ∷ rs)
longer p r [] next h = omega arith
longer p r (s ∷ rs) next h = (omega arith, λ e. h.1 (omega arith), h.2)

put_maximal : (p : ℕ) (rs : List CellRun) → AreMaximal rs → AreMaximal (runs_with p rs)
put_maximal p [] h = omega arith
put_maximal p (r ∷ rs) h = elim (r.place == p + 1) as (λ b. (r.place == p + 1) ≡ b
    → AreMaximal (cond b (record { place = p; length = r.length + 1 } ∷ rs) (record { place = p; length = 1 } ∷ r ∷ rs))) [
      | true ↦ λ e. let next : r.place ≡ p + 1 = grind (arith, nat_tests) in longer p r rs next h
      | false ↦ λ e. (omega arith, λ (same : r.place ≡ p + 1). grind (arith, nat_tests), h)
    ] refl

pub runs-maximal : (ps : List ℕ) → AreMaximal (cell_runs ps)
runs-maximal [] = tt
runs-maximal (p ∷ ps) = put_maximal p (cell_runs ps) (runs-maximal ps)
