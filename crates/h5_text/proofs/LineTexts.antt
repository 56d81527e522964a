-- A line, piece by piece.
use Rattle.std.proofs.Common.{◌≡◌, ℕ, List, ◌++◌, codes, ap, ◌∙◌, append_assoc}
use Rattle.std.specs.Prelude.{Result}
use Rattle.std.specs.declared.alloc.AllocError.{AllocError}
use Rattle.h5_model.specs.Scripts.Text.{line_of}
use Rattle.h5_text.specs.Appends.{Appends}
use Rattle.h5_text.proofs.Appending.{appends_more}

-- a text that was appended in two pieces
pub in_two_pieces : (old a b mid new : List ℕ) → mid ≡ old ++ a → new ≡ mid ++ b → new ≡ old ++ (a ++ b)
in_two_pieces old a b mid new first second = second ∙ ap (λ xs. xs ++ b) first ∙ append_assoc old a b

-- a path, a space and a text were appended, and the line's end comes behind them
pub appends_line : {T : Type 0} (result : Result T AllocError) (old path text one two mid new : List ℕ)
    → one ≡ old ++ path → two ≡ one ++ codes " " → mid ≡ two ++ text → Appends result mid new (codes "\n") → Appends result old new (line_of path text)
appends_line result old path text one two mid new first space behind end =
    appends_more result old (path ++ codes " " ++ text) mid new (codes "\n")
    (in_two_pieces old (path ++ codes " ") text two mid (in_two_pieces old path (codes " ") one two first space) behind) end
