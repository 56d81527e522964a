-- Lines that end in a piece of a script.
use Rattle.std.proofs.Common.{◌≡◌, ℕ, Option, List, [], ◌∷◌, ◌++◌, refl, sym, ap, ◌∙◌, subst, append_assoc, append-nil, eqb, false, ◌<◌, ◌≤◌, ◌+◌, length, length-append, arith}
use Rattle.std.proofs.lemmas.List.Elements.{All-append}
use Rattle.h5_dump.specs.Session.{SessionState}
use Rattle.h5_model.specs.Scripts.Lines.{Command, commands_of}
use Rattle.h5_script.specs.Pieces.{HasNoEnd, IsFirstLine, AreWholeLines, HasRunLines, HasBegunLines, commands_of_line}
use Rattle.h5_script.specs.Runs.{HasCounted, HasBegun}
use Rattle.h5_script.specs.declared.ran.Ran.{Ran}
use Rattle.h5_script.proofs.LineLaws.{commands_of-end, commands_of-nil, commands_of-line, commands_of-whole, whole_none, whole_line, whole_append}
use Rattle.h5_script.proofs.RunLaws.{has_begun_all, has_begun_more, has_counted_none, has_counted_more}

abbrev Known : Type 0
Known = Option (List ℕ)

pub endless_more : (held line : List ℕ) → HasNoEnd held → HasNoEnd line → HasNoEnd (held ++ line)
endless_more held line first second = All-append (λ b. eqb b 10 ≡ false) held line first second

-- what stands behind a line's end is shorter
pub shorter : (bytes line rest : List ℕ) → IsFirstLine bytes line rest → length rest + 1 ≤ length bytes
shorter bytes line rest is = omega (arith, length-append line (10 ∷ rest), ap length is.whole)

-- a line with its end
commands_with_end : (line : List ℕ) → HasNoEnd line → commands_of (line ++ 10 ∷ []) ≡ commands_of_line line
commands_with_end line endless = commands_of-end line [] ∙ ap (λ commands. commands_of line ++ commands) commands_of-nil ∙ append-nil (commands_of line) ∙ commands_of-line line endless

-- whole lines, and one more
commands_and_line : (done line : List ℕ) → AreWholeLines done → HasNoEnd line → commands_of done ++ commands_of_line line ≡ commands_of (done ++ (line ++ 10 ∷ []))
commands_and_line done line whole endless = sym (commands_of-whole done (line ++ 10 ∷ []) whole ∙ ap (λ commands. commands_of done ++ commands) (commands_with_end line endless))

module _ (s : SessionState) (old : Known) (a : Ran) where
  -- nothing was run yet
  pub lines_none : (held : List ℕ) → HasNoEnd held → HasRunLines held held s s old old a a
  lines_none held endless = record {
    done = [];
    parts = refl;
    whole = whole_none;
    endless = endless;
    run = subst (λ (commands : List Command). HasCounted commands s s old old a a) (sym commands_of-nil) (has_counted_none s old a);
  }

  module _ (m : SessionState) (mid : Known) (b : Ran) (seen held : List ℕ) (so_far : HasRunLines seen held s m old mid a b) where
    -- the held bytes are the beginning of a line, which was run
    pub lines_more : (line : List ℕ) (t : SessionState) (new : Known) (c : Ran) → HasNoEnd line → HasCounted (commands_of_line (held ++ line)) m t mid new b c
        → HasRunLines (seen ++ (line ++ 10 ∷ [])) [] s t old new a c
    lines_more line t new c endless ran =
        let all = endless_more held line so_far.endless endless in
        let next = (held ++ line) ++ 10 ∷ [] in
        record {
          done = so_far.done ++ next;
          parts = append-nil (so_far.done ++ next) ∙ ap (λ xs. so_far.done ++ xs) (append_assoc held line (10 ∷ []))
              ∙ sym (append_assoc so_far.done held (line ++ 10 ∷ [])) ∙ ap (λ xs. xs ++ (line ++ 10 ∷ [])) so_far.parts;
          whole = whole_append so_far.done next so_far.whole (whole_line (held ++ line));
          endless = λ k d low. absurd (never k low);
          run = subst (λ (commands : List Command). HasCounted commands s t old new a c) (commands_and_line so_far.done (held ++ line) so_far.whole all)
              (has_counted_more (commands_of so_far.done) (commands_of_line (held ++ line)) s m t old mid new a b c so_far.run ran);
        } where
          never : (k : ℕ) → k < 0 → ⊥
          never k low = omega (arith, low)

    -- the line was begun
    pub lines_begun : (line rest bytes : List ℕ) (t : SessionState) (new : Known) → HasNoEnd line → seen ++ (line ++ 10 ∷ rest) ≡ bytes → HasBegun (commands_of_line (held ++ line)) m t mid new
        → HasBegunLines bytes s t old new
    lines_begun line rest bytes t new endless is begun =
        let all = endless_more held line so_far.endless endless in
        let next = (held ++ line) ++ 10 ∷ [] in
        record {
          done = so_far.done ++ next;
          others = rest;
          parts = append_assoc so_far.done next rest ∙ ap (λ xs. so_far.done ++ xs) (append_assoc (held ++ line) (10 ∷ []) rest ∙ append_assoc held line (10 ∷ rest))
              ∙ sym (append_assoc so_far.done held (line ++ 10 ∷ rest)) ∙ ap (λ xs. xs ++ (line ++ 10 ∷ rest)) so_far.parts ∙ is;
          whole = whole_append so_far.done next so_far.whole (whole_line (held ++ line));
          run = subst (λ (commands : List Command). HasBegun commands s t old new) (commands_and_line so_far.done (held ++ line) so_far.whole all)
              (has_begun_more (commands_of so_far.done) (commands_of_line (held ++ line)) s m t old mid new so_far.run.run begun);
        }

    -- the same where the line stands in a buffer, which is then cleared
    pub lines_next : (line shown after : List ℕ) (t : SessionState) (new : Known) (c : Ran) → HasNoEnd line → shown ≡ held ++ line → after ≡ []
        → HasCounted (commands_of_line shown) m t mid new b c → HasRunLines (seen ++ (line ++ 10 ∷ [])) after s t old new a c
    lines_next line shown after t new c endless is cleared ran =
        subst (λ (left : List ℕ). HasRunLines (seen ++ (line ++ 10 ∷ [])) left s t old new a c) (sym cleared)
        (lines_more line t new c endless (subst (λ (bytes : List ℕ). HasCounted (commands_of_line bytes) m t mid new b c) is ran))

    pub lines_stopped : (line shown rest bytes : List ℕ) (t : SessionState) (new : Known) → HasNoEnd line → shown ≡ held ++ line → seen ++ (line ++ 10 ∷ rest) ≡ bytes
        → HasBegun (commands_of_line shown) m t mid new → HasBegunLines bytes s t old new
    lines_stopped line shown rest bytes t new endless is parts begun =
        lines_begun line rest bytes t new endless parts (subst (λ (text : List ℕ). HasBegun (commands_of_line text) m t mid new) is begun)

    -- the lines were run, and no others are
    pub lines_left : (rest bytes : List ℕ) → seen ++ rest ≡ bytes → HasBegunLines bytes s m old mid
    lines_left rest bytes is = record {
      done = so_far.done;
      others = held ++ rest;
      parts = sym (append_assoc so_far.done held rest) ∙ ap (λ xs. xs ++ rest) so_far.parts ∙ is;
      whole = so_far.whole;
      run = subst (λ (commands : List Command). HasBegun commands s m old mid) (append-nil (commands_of so_far.done))
          (has_begun_all (commands_of so_far.done) [] s m old mid so_far.run.run);
    }
