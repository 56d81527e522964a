-- Text behind text.
use Rattle.std.proofs.Common.{◌≡◌, ℕ, List, ◌++◌, ap, ◌∙◌, append_assoc}
use Rattle.std.specs.Prelude.{IsErr, Result, Ok, Err}
use Rattle.std.specs.declared.alloc.AllocError.{AllocError}
use Rattle.std.proofs.lemmas.Bool.{false≢true}
use Rattle.h5_text.specs.Appends.{Extends, Appends}

pub extends_more : (old text mid new : List ℕ) → mid ≡ old ++ text → Extends mid new → Extends old new
extends_more old text mid new so_far behind = record {
  more = text ++ behind.more;
  whole = behind.whole ∙ ap (λ xs. xs ++ behind.more) so_far ∙ append_assoc old text behind.more;
}

-- the exit from a loop that had appended some of the text
pub appends_err : {T : Type 0} (result : Result T AllocError) (old text mid new whole : List ℕ) → IsErr result → mid ≡ old ++ text → Extends mid new → Appends result old new whole
appends_err (Ok x) old text mid new whole err so_far behind = absurd (false≢true err)
appends_err (Err e) old text mid new whole err so_far behind = extends_more old text mid new so_far behind

-- one more text behind what was appended
pub appends_more : {T : Type 0} (result : Result T AllocError) (old text mid new last : List ℕ) → mid ≡ old ++ text → Appends result mid new last → Appends result old new (text ++ last)
appends_more (Ok x) old text mid new last so_far is = is ∙ ap (λ xs. xs ++ last) so_far ∙ append_assoc old text last
appends_more (Err e) old text mid new last so_far behind = extends_more old text mid new so_far behind
