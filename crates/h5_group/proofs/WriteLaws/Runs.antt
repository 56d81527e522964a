-- The links of each symbol node: pieces of the list of all, none of them empty, none longer than a node has room for.
use Rattle.std.proofs.Common.{◌≡◌, ℕ, ◌+◌, ◌*◌, ◌≤◌, List, [], ◌∷◌, ◌++◌, length, take, drop, refl, sym, ap, ◌∙◌, arith, append-nil, length-append}
use Rattle.std.specs.Prelude.{min}
use Rattle.std.specs.List.{AllByRecursion, flat_map}
use Rattle.std.proofs.Math.Nat.{div-eq_of_lt-le}
use Rattle.std.proofs.lemmas.List.{take_at, drop_at}
use Rattle.h5_model.specs.Format.PlainLength.{rows_of}
use Rattle.h5_model.proofs.Members.{all_both}
use Rattle.h5_btree.specs.Writing.Written.{chunks}
use Rattle.h5_btree.proofs.WriteLaws.Pieces.{cut_one, flat-cut, short-cut, filled-cut, length-cut, chunks_more}
use Rattle.h5_group.specs.Writing.Written.{runs_of}
use Rattle.h5_group.proofs.WriteLaws.SymbolNodes.{Placed}

-- all runs, one behind another
abbrev pub joined : List (List Placed) → List Placed
joined runs = flat_map (λ (run : List Placed). run) runs

-- a run has a link, and at most as many as a node has room for
abbrev pub IsRun : ℕ → List Placed → Type 0
IsRun leaf run = (1 ≤ length run) × (length run ≤ 2 * leaf)

rows_none : (m : ℕ) → 1 ≤ m → rows_of m 0 ≡ 0
rows_none m some = div-eq_of_lt-le m (omega arith) (omega arith)

module _ (leaf : ℕ) where
  pub runs_joined : (links : List Placed) → joined (runs_of leaf links) ≡ links
  runs_joined [] = refl
  runs_joined (l ∷ links) = flat-cut (2 * leaf) (length (l ∷ links)) (l ∷ links)

  module _ (low : 1 ≤ leaf) where
    pub runs_pieces : (links : List Placed) → AllByRecursion (IsRun leaf) (runs_of leaf links)
    runs_pieces [] = tt
    runs_pieces (l ∷ links) = all_both (λ (run : List Placed). 1 ≤ length run) (λ (run : List Placed). length run ≤ 2 * leaf) (chunks (2 * leaf) (l ∷ links))
        (filled-cut (2 * leaf) (length (l ∷ links)) (l ∷ links) (omega arith) (omega arith))
        (short-cut (2 * leaf) (length (l ∷ links)) (l ∷ links) (omega arith) (omega arith))

    pub length-runs : (links : List Placed) → length (runs_of leaf links) ≡ rows_of (2 * leaf) (length links)
    length-runs [] = sym (rows_none (2 * leaf) (omega arith))
    length-runs (l ∷ links) = length-cut (2 * leaf) (length (l ∷ links)) (l ∷ links) (omega arith) (omega arith) (omega arith)

    -- ---- the first run, and the others

    some_runs : (links : List Placed) → 1 ≤ length links → runs_of leaf links ≡ chunks (2 * leaf) links
    some_runs [] some = absurd (omega arith)
    some_runs (l ∷ links) some = refl

    run_only : (links : List Placed) → 1 ≤ length links → length links ≤ 2 * leaf → runs_of leaf links ≡ links ∷ []
    run_only links some short = some_runs links some ∙ cut_one (2 * leaf) (length links) links short

    run_more : (run more : List Placed) → length run ≡ 2 * leaf → 1 ≤ length more → runs_of leaf (run ++ more) ≡ run ∷ runs_of leaf more
    run_more run more full some =
        let long : length (run ++ more) ≡ length run + length more = length-append run more in
        let front : take (2 * leaf) (run ++ more) ≡ run = take_at run more (2 * leaf) full in
        let behind : drop (2 * leaf) (run ++ more) ≡ more = drop_at run more (2 * leaf) full in
        some_runs (run ++ more) (omega arith) ∙ chunks_more (2 * leaf) (run ++ more) (omega arith) (omega arith)
        ∙ (λ i. front i ∷ chunks (2 * leaf) (behind i)) ∙ ap (λ rest. run ∷ rest) (sym (some_runs more some))

    -- a run is full, or the last
    pub runs_step : (run more : List Placed) → 1 ≤ length run → length run ≡ min (2 * leaf) (length run + length more)
        → runs_of leaf (run ++ more) ≡ run ∷ runs_of leaf more
    runs_step run [] some full = ap (runs_of leaf) (append-nil run) ∙ run_only run some (omega arith)
    runs_step run (l ∷ more) some full = run_more run (l ∷ more) (omega arith) (omega arith)
