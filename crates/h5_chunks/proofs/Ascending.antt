-- Chunks whose offsets rise from the first on ascend, and where they do not rise they fall.
use Rattle.std.proofs.Common.{◌≡◌, ℕ, ◌<◌, List, [], ◌∷◌, length, take, get_or, sym}
use Rattle.std.proofs.lemmas.Float.{T_from_true}
use Rattle.std.specs.Prelude.{Option, Some, None, T}
use Rattle.std.specs.Ordering.{nat_cmp}
use Rattle.std.specs.Cmp.Lexicographic.{slice_cmp}
use Rattle.std.specs.FinMap.{is_sorted}
use Rattle.std.specs.FinMap.Entries.{below_all}
use Rattle.h5_model.specs.Format.Links.{Before}
use Rattle.h5_laws.proofs.Ascending.{before_trans}
use Rattle.h5_laws.proofs.Numbered.{joined}
use Rattle.h5_btree.specs.Rising.{FallFrom, IsAbove, RiseFrom, last_value}
use Rattle.h5_chunks.specs.Between.{offsets_of}

below_from : (k last : List ℕ) (chunks : List (List ℕ × ℕ)) → Before k last → RiseFrom offsets_of Before (Some last) chunks → T (below_all (slice_cmp nat_cmp) k chunks)
below_from k last [] low rise = tt
below_from k last (chunk ∷ chunks) low rise =
    let here : Before k chunk.0 = before_trans k last chunk.0 low rise.0 in
    joined _ _ (T_from_true _ here) (below_from k chunk.0 chunks here rise.1)

sorted_on : (chunk : List ℕ × ℕ) (chunks : List (List ℕ × ℕ)) → RiseFrom offsets_of Before (Some chunk.0) chunks → T (is_sorted (slice_cmp nat_cmp) (chunk ∷ chunks))
sorted_on chunk [] rise = tt
sorted_on chunk (next ∷ chunks) rise =
    joined _ _ (joined _ _ (T_from_true _ rise.0) (below_from chunk.0 next.0 chunks rise.0 rise.1)) (sorted_on next chunks rise.1)

pub rise_sorted : (chunks : List (List ℕ × ℕ)) → RiseFrom offsets_of Before None chunks → T (is_sorted (slice_cmp nat_cmp) chunks)
rise_sorted [] rise = tt
rise_sorted (chunk ∷ chunks) rise = sorted_on chunk chunks rise.1

pub not_above : {X Y : Type 0} (value : X → Y) (Below : Y → Y → Type 0) (before last : Option Y) (xs : List X) (i : ℕ) (x : X) → i < length xs → get_or xs i x ≡ x
    → last ≡ last_value value before (take i xs) → (IsAbove Below last (value x) → ⊥) → FallFrom value Below before xs
not_above value Below before None xs i x low is last_is falls = absurd (falls tt)
not_above value Below before (Some y) xs i x low is last_is falls = (i, x, y, low, is, sym last_is, falls)
