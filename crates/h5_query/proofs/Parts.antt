-- The first part of a text that is cut at its slashes.
use Rattle.std.proofs.Common.{◌≡◌, ℕ, ◌+◌, ◌-◌, ◌<◌, ◌≤◌, Bool, List, [], ◌∷◌, length, take, drop, refl, sym, ap, ◌∙◌, arith, Some, None}
use Rattle.std.specs.Prelude.{◌==◌}
use Rattle.std.proofs.lemmas.List.{take_rest}
use Rattle.std.specs.List.{slice_split, position, position_or_len}
use Rattle.std.proofs.lemmas.List.Splits.{slice_split_first, slice_split_none}
use Rattle.std.proofs.lemmas.List.Sums.{fails_before_first}
use Rattle.std.proofs.lemmas.Grind.{common_steps}
use Rattle.h5_query.specs.Names.{parts}

abbrev pub is_slash : ℕ → Bool
is_slash c = c == 47

pub some_part : (parts : List (List ℕ)) (n : ℕ) → length parts ≡ n + 1 → (first : List ℕ) × (others : List (List ℕ)) × (parts ≡ first ∷ others)
some_part [] n h = absurd (omega arith)
some_part (part ∷ parts) n h = (part, parts, refl)

-- it ends at the first slash, and the other parts stand behind that
pub cut_first : (text : List ℕ) (end : ℕ) → position is_slash text ≡ Some end → parts text ≡ take end text ∷ parts (take (length text - (end + 1)) (drop (end + 1) text))
cut_first text end found =
    let at : position_or_len is_slash text ≡ end = grind (arith, common_steps) in
    let inside : position_or_len is_slash text < length text = grind (arith, common_steps) in
    slice_split_first is_slash text 0 inside
    ∙ ap (λ n. take n text ∷ slice_split is_slash (drop (n + 1) text)) at
    ∙ ap (λ (t : List ℕ). take end text ∷ slice_split is_slash t) (sym (take_rest text (end + 1)))

-- without a slash the text is the one part
pub only_part : (text : List ℕ) → position is_slash text ≡ None → parts text ≡ text ∷ []
only_part text none =
    let past : length text ≤ position_or_len is_slash text = grind (arith, common_steps) in
    slice_split_none is_slash text (λ k d inside. fails_before_first is_slash text k d (omega arith))
