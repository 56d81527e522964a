-- What an iterator over runs has left, and the run that it makes of the first cells.
use Rattle.std.proofs.Common.{◌≡◌, ℕ, zero, suc, ◌+◌, ◌-◌, ◌*◌, ◌^◌, ◌<◌, ◌≤◌, List, ◌∷◌, ◌++◌, sym, ap, ◌∙◌, arith, false}
use Rattle.std.proofs.lemmas.Bool.Decides.{nat_tests}
use Rattle.std.proofs.lemmas.List.{append_assoc}
use Rattle.std.specs.Prelude.{◌==◌}
use Rattle.h5_shape.specs.SpacedPlaces.{spaced_places, ArePlacesBelow}
use Rattle.h5_shape.specs.Rows.{cells_at}
use Rattle.h5_shape.specs.Runs.{cell_runs}
use Rattle.h5_shape.proofs.SpacedLaws.{spaced-append, below-left, below_groups, last_below}
use Rattle.h5_shape.proofs.RunLaws.{BeginsElse, runs_spaced}

pub start_room : (b long p : ℕ) (xs : List ℕ) → 0 < long → ArePlacesBelow b (cells_at long (p ∷ xs)) → p + long ≤ b
start_room b long p xs some h = last_below b long p some (below-left b (spaced_places long 1 p) (cells_at long xs) h)

pub places_small : (long : ℕ) (xs : List ℕ) → 0 < long → ArePlacesBelow (2 ^ 41) (cells_at long xs) → ArePlacesBelow (2 ^ 64) xs
places_small long xs some h = below_groups (2 ^ 41) (2 ^ 64) long (omega arith) some xs h

pub join_cells : (long p e : ℕ) (xs : List ℕ) → p ≤ e
    → spaced_places (e - p) 1 p ++ cells_at long (e ∷ xs) ≡ spaced_places ((e + long) - p) 1 p ++ cells_at long xs
join_cells long p e xs low =
    let at : p + (e - p) * 1 ≡ e = omega arith in
    let all : (e - p) + long ≡ (e + long) - p = omega arith in
    sym (append_assoc (spaced_places (e - p) 1 p) (spaced_places long 1 e) (cells_at long xs))
    ∙ ap (λ (ys : List ℕ). ys ++ cells_at long xs) (ap (λ (q : ℕ). spaced_places (e - p) 1 p ++ spaced_places long 1 q) (sym at)
    ∙ spaced-append (e - p) long 1 p ∙ ap (λ (n : ℕ). spaced_places n 1 p) all)

pub begins : (long q at : ℕ) (ys : List ℕ) → 0 < long → (at == q) ≡ false → BeginsElse q (spaced_places long 1 at ++ ys)
begins zero q at ys some else = absurd (omega arith)
begins (suc long) q at ys some else = else

pub begins_else : (long p e n : ℕ) (xs : List ℕ) → 0 < long → p < e → (n == e) ≡ false → BeginsElse (p + (e - p)) (cells_at long (n ∷ xs))
begins_else long p e n xs some low else =
    let apart : (n == p + (e - p)) ≡ false = grind (arith, nat_tests) in
    begins long (p + (e - p)) n (cells_at long xs) some apart

pub run_end : (long p e : ℕ) (xs : List ℕ) → p < e → BeginsElse (p + (e - p)) (cells_at long xs)
    → cell_runs (spaced_places (e - p) 1 p ++ cells_at long xs) ≡ record { place = p; length = e - p } ∷ cell_runs (cells_at long xs)
run_end long p e xs low else = runs_spaced (e - p) p (cells_at long xs) (omega arith) else
