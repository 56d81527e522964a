-- Texts that are printed one behind the other.
use Rattle.std.proofs.Common.{◌≡◌, ℕ, ◌-◌, Option, List, [], ◌++◌, length, take, drop, refl, sym, ap, ◌∙◌, append_assoc, append-nil, take_all, take-append-drop, length-drop, subst, arith}
use Rattle.std.specs.Prelude.{IsErr, Result, Ok, Err}
use Rattle.std.specs.Io.KnownBytes.{Appends}
use Rattle.std.proofs.KnownBytes.{Appends-nil, Appends-trans}
use Rattle.std.proofs.lemmas.Bool.{false≢true}
use Rattle.h5_text.specs.Printed.{IsPrinted, Prints, WritesSome}
use Rattle.h5_text.specs.declared.streams.PrintFault.{PrintFault}

abbrev pub Known : Type 0
Known = Option (List ℕ)

-- ---- the writes of one text

-- a part of the text is written, the rest is not
abbrev pub IsToldUpTo : Option (List ℕ) → Option (List ℕ) → List ℕ → List ℕ → Type 0
IsToldUpTo old new text rest = (told : List ℕ) × (told ++ rest ≡ text) × Appends old new told

-- so many bytes of the rest were written
pub told_more : (old mid new : Option (List ℕ)) (text rest : List ℕ) (count n : ℕ) → n ≡ length rest → IsToldUpTo old mid text rest → Appends mid new (take count rest)
    → IsToldUpTo old new text (take (n - count) (drop count rest))
told_more old mid new text rest count n is so_far more =
    let all : take (n - count) (drop count rest) ≡ drop count rest = take_all (n - count) (drop count rest) (omega (arith, is, length-drop count rest)) in (
      so_far.0 ++ take count rest,
      ap (λ xs. (so_far.0 ++ take count rest) ++ xs) all ∙ append_assoc so_far.0 (take count rest) (drop count rest) ∙ ap (λ xs. so_far.0 ++ xs) (take-append-drop count rest) ∙ so_far.1,
      Appends-trans old mid new so_far.0 (take count rest) so_far.2 more,
    )

-- ---- texts behind texts

-- the text was put behind what was held back, and nothing was written
pub printed_kept : (known : Known) (held left text : List ℕ) → left ≡ held ++ text → IsPrinted known known held left text
printed_kept known held left text is = record { told = []; whole = is; written = Appends-nil known }

-- nothing was printed
pub printed_none : (known : Known) (held : List ℕ) → IsPrinted known known held held []
printed_none known held = printed_kept known held held [] (sym (append-nil held))

-- all that was held back was written
pub printed_out : (old new : Known) (held left : List ℕ) → left ≡ [] → Appends old new held → IsPrinted old new held left []
printed_out old new held left none written = record { told = held; whole = ap (λ xs. held ++ xs) none; written = written }

-- a text behind another
module _ (old mid new : Known) (held now text : List ℕ) (so_far : IsPrinted old mid held now text) where
  behind : (left more : List ℕ) (told : List ℕ) → told ++ left ≡ now ++ more → (so_far.told ++ told) ++ left ≡ held ++ (text ++ more)
  behind left more told is =
      append_assoc so_far.told told left ∙ ap (λ xs. so_far.told ++ xs) is ∙ sym (append_assoc so_far.told now more)
      ∙ ap (λ xs. xs ++ more) so_far.whole ∙ append_assoc held text more

  pub printed_more : (left more : List ℕ) → IsPrinted mid new now left more → IsPrinted old new held left (text ++ more)
  printed_more left more next = record {
    told = so_far.told ++ next.told;
    whole = behind left more next.told next.whole;
    written = Appends-trans old mid new so_far.told next.told so_far.written next.written;
  }

  -- a beginning of what follows was written
  pub cut_more : (more : List ℕ) → WritesSome mid new (now ++ more) → WritesSome old new (held ++ (text ++ more))
  cut_more more next = record {
    told = so_far.told ++ next.told;
    untold = next.untold;
    whole = behind next.untold more next.told next.whole;
    written = Appends-trans old mid new so_far.told next.told so_far.written next.written;
  }

-- ---- texts that are cut off

-- nothing was written
pub cut_first : (known : Known) (text : List ℕ) → WritesSome known known text
cut_first known text = record { told = []; untold = text; whole = refl; written = Appends-nil known }

-- a beginning of a text is one of a longer text
pub cut_longer : (old new : Known) (text more : List ℕ) → WritesSome old new text → WritesSome old new (text ++ more)
cut_longer old new text more some = record {
  told = some.told;
  untold = some.untold ++ more;
  whole = sym (append_assoc some.told some.untold more) ∙ ap (λ xs. xs ++ more) some.whole;
  written = some.written;
}

-- behind what was printed nothing more was written
pub cut_here : (old now : Known) (held left text more : List ℕ) → IsPrinted old now held left text → WritesSome old now (held ++ (text ++ more))
cut_here old now held left text more so_far = cut_more old now now held left text so_far more (cut_first now (left ++ more))

-- the exit with a fault
pub prints_err : {T : Type 0} (result : Result T PrintFault) (old new : Known) (held left text : List ℕ) → IsErr result → WritesSome old new (held ++ text) → Prints result old new held left text
prints_err (Ok x) old new held left text err some = absurd (false≢true err)
prints_err (Err f) old new held left text err some = some

-- what is held back is written last
pub printed_last : (old mid new : Known) (held now text : List ℕ) → IsPrinted old mid held now text → Appends mid new now → Appends old new (held ++ text)
printed_last old mid new held now text so_far written =
    subst (λ (xs : List ℕ). Appends old new xs) so_far.whole (Appends-trans old mid new so_far.told now so_far.written written)

-- of what is held back a beginning is written
pub cut_last : (old mid new : Known) (held now text : List ℕ) → IsPrinted old mid held now text → WritesSome mid new now → WritesSome old new (held ++ text)
cut_last old mid new held now text so_far some = record {
  told = so_far.told ++ some.told;
  untold = some.untold;
  whole = append_assoc so_far.told some.told some.untold ∙ ap (λ xs. so_far.told ++ xs) some.whole ∙ so_far.whole;
  written = Appends-trans old mid new so_far.told some.told so_far.written some.written;
}
