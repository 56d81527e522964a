-- Values that are printed one part behind the other, a space before each.
use Rattle.std.proofs.Common.{◌≡◌, ℕ, ℤ, Bool, List, [], ◌++◌, sym, ap, ◌∙◌, subst, append_assoc, append-nil}
use Rattle.std.specs.Fmt.{signed_decimal}
use Rattle.std.specs.Io.KnownBytes.{Appends}
use Rattle.std.specs.Prelude.{codes, if◌then◌else◌, Result, Ok, Err, IsErr, MatchResult}
use Rattle.std.proofs.lemmas.Bool.{false≢true}
use Rattle.std.proofs.lemmas.Grind.{flat_map-append}
use Rattle.h5_model.specs.Format.Fixed.{Fixed}
use Rattle.h5_model.specs.Scripts.Answers.{shown_text, stored_values}
use Rattle.h5_model.specs.Scripts.Text.{values_text}
use Rattle.h5_text.specs.Printed.{IsPrinted, WritesSome}
use Rattle.h5_text.specs.declared.streams.PrintFault.{PrintFault}
use Rattle.h5_text.specs.declared.streams.PrintFault.TheVariants.{WriteFailed}
use Rattle.h5_text.proofs.Printing.{Known, cut_first, cut_here, cut_last, cut_longer, cut_more, printed_kept, printed_last, printed_more}

pub values_append : (first others : List ℤ) → values_text (first ++ others) ≡ values_text first ++ values_text others
values_append first others = flat_map-append (λ v. codes " " ++ signed_decimal v) first others

module _ (old mid : Known) (held left : List ℕ) (values : List ℤ) (so_far : IsPrinted old mid held left (values_text values)) where
  -- the next values were put into the buffer, and so much of it was written
  pub values_printed : (part : List ℤ) (put : List ℕ) (new : Known) (kept : List ℕ) → put ≡ left ++ values_text part → IsPrinted mid new put kept []
      → IsPrinted old new held kept (values_text (values ++ part))
  values_printed part put new kept is written =
      subst (λ (text : List ℕ). IsPrinted old new held kept text) (sym (values_append values part))
      (printed_more old mid new held left (values_text values) so_far kept (values_text part)
      (subst (λ (text : List ℕ). IsPrinted mid new left kept text) (append-nil (values_text part))
      (printed_more mid mid new left put (values_text part) (printed_kept mid left put (values_text part) is) kept [] written)))

  -- a beginning of them was written, and others follow
  pub values_cut : (part rest all : List ℤ) (put : List ℕ) (new : Known) → all ≡ values ++ (part ++ rest) → put ≡ left ++ values_text part → WritesSome mid new (put ++ [])
      → WritesSome old new (held ++ values_text all)
  values_cut part rest all put new are is some =
      let begun : WritesSome mid new (left ++ values_text part) = subst (λ (text : List ℕ). WritesSome mid new text) (append-nil put ∙ is) some in
      let longer : WritesSome mid new (left ++ (values_text part ++ values_text rest)) =
      subst (λ (text : List ℕ). WritesSome mid new text) (append_assoc left (values_text part) (values_text rest))
      (cut_longer mid new (left ++ values_text part) (values_text rest) begun) in
      subst (λ (text : List ℕ). WritesSome old new (held ++ text))
      (ap (λ (text : List ℕ). values_text values ++ text) (sym (values_append part rest)) ∙ sym (values_append values (part ++ rest)) ∙ ap values_text (sym are))
      (cut_more old mid new held left (values_text values) so_far (values_text part ++ values_text rest) longer)

  -- nothing of what follows was written
  pub values_cut_here : (rest all : List ℤ) → all ≡ values ++ rest → WritesSome old mid (held ++ values_text all)
  values_cut_here rest all are =
      subst (λ (text : List ℕ). WritesSome old mid (held ++ text)) (sym (values_append values rest) ∙ ap values_text (sym are))
      (cut_here old mid held left (values_text values) (values_text rest) so_far)

-- ---- the answer that shows them

-- both ends of an answer that was printed or cut off
abbrev pub Writes : {T : Type 0} → Result T PrintFault → Known → Known → List ℕ → Type 0
Writes result old new text = MatchResult result (λ _. Appends old new text) (λ _. WritesSome old new text)

writes_err : {T : Type 0} (result : Result T PrintFault) (old new : Known) (text : List ℕ) → IsErr result → WritesSome old new text → Writes result old new text
writes_err (Ok x) old new text failed some = absurd (false≢true failed)
writes_err (Err f) old new text failed some = some

-- nothing was written
pub shown_none : {T : Type 0} (result : Result T PrintFault) (known : Known) (text : List ℕ) → IsErr result → Writes result known known text
shown_none result known text failed = writes_err result known known text failed (cut_first known text)

-- the word stands behind what was held back
module _ {T : Type 0} (result : Result T PrintFault) (old mid : Known) (held now : List ℕ) (lent : Bool) (fixed : Fixed) (bytes : List ℕ)
    (is : now ≡ held ++ (if lent then codes "lent" else codes "kept")) where
  abbrev values : List ℕ
  values = values_text (stored_values fixed bytes)

  abbrev all : List ℕ
  all = held ++ shown_text lent (record { fixed = fixed; bytes = bytes })

  whole : now ++ (values ++ codes "\n") ≡ all
  whole = ap (λ xs. xs ++ (values ++ codes "\n")) is ∙ append_assoc held (if lent then codes "lent" else codes "kept") (values ++ codes "\n")
      ∙ ap (λ xs. held ++ xs) (sym (append_assoc (if lent then codes "lent" else codes "kept") values (codes "\n")))

  -- a beginning of the values was written
  pub shown_cut : IsErr result → WritesSome old mid (now ++ values) → Writes result old mid all
  shown_cut failed some = writes_err result old mid all failed
      (subst (λ (text : List ℕ). WritesSome old mid text) (append_assoc now values (codes "\n") ∙ whole) (cut_longer old mid (now ++ values) (codes "\n") some))

  -- the line was not ended
  pub shown_unended : IsErr result → (left : List ℕ) → IsPrinted old mid now left values → Writes result old mid all
  shown_unended failed left so_far = writes_err result old mid all failed
      (subst (λ (text : List ℕ). WritesSome old mid text) whole (cut_here old mid now left values (codes "\n") so_far))

-- all of it stands in the buffer, which is written last
pub shown_all : {T : Type 0} (result : Result T PrintFault) (old mid new : Known) (held now : List ℕ) (lent : Bool) (fixed : Fixed) (bytes : List ℕ)
    → now ≡ held ++ (if lent then codes "lent" else codes "kept") → (left last : List ℕ) → last ≡ left ++ codes "\n"
    → IsPrinted old mid now left (values_text (stored_values fixed bytes))
    → MatchResult result (λ _. Appends mid new last) (λ e. (e ≡ WriteFailed) × WritesSome mid new last)
    → Writes result old new (held ++ shown_text lent (record { fixed = fixed; bytes = bytes }))
shown_all result old mid new held now lent fixed bytes is left last ended so_far written = by result written where
  values : List ℕ
  values = values_text (stored_values fixed bytes)

  whole : now ++ (values ++ codes "\n") ≡ held ++ shown_text lent (record { fixed = fixed; bytes = bytes })
  whole = ap (λ xs. xs ++ (values ++ codes "\n")) is ∙ append_assoc held (if lent then codes "lent" else codes "kept") (values ++ codes "\n")
      ∙ ap (λ xs. held ++ xs) (sym (append_assoc (if lent then codes "lent" else codes "kept") values (codes "\n")))

  printed : IsPrinted old mid now last (values ++ codes "\n")
  printed = printed_more old mid mid now left values so_far last (codes "\n") (printed_kept mid left last (codes "\n") ended)

  by : {T : Type 0} (r : Result T PrintFault) → MatchResult r (λ _. Appends mid new last) (λ e. (e ≡ WriteFailed) × WritesSome mid new last)
      → Writes r old new (held ++ shown_text lent (record { fixed = fixed; bytes = bytes }))
  by (Ok x) w = subst (λ (text : List ℕ). Appends old new text) whole (printed_last old mid new now last (values ++ codes "\n") printed w)
  by (Err f) w = subst (λ (text : List ℕ). WritesSome old new text) whole (cut_last old mid new now last (values ++ codes "\n") printed w.1)
