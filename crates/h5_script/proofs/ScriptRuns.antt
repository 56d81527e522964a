-- A script that is read piece by piece, and how its run ends.
use Rattle.std.proofs.Common.{◌≡◌, ℕ, ◌+◌, ◌-◌, ◌<◌, ◌≤◌, Bool, true, false, cond, Option, List, [], ◌++◌, length, take, drop, take-append-drop, refl, sym, ap, ◌∙◌, subst, append_assoc, append-nil, length-append, length-take, min, inl, inr, arith}
use Rattle.std.specs.Prelude.{nat_lt, Result, Ok, Err, MatchResult, IsErrAnd}
use Rattle.std.specs.Io.KnownBytes.{Consumes, Keeps, IsAtEnd}
use Rattle.std.proofs.lemmas.Bool.Decides.{nat_tests}
use Rattle.std.proofs.lemmas.List.{take-take}
use Rattle.std.proofs.KnownBytes.{Appends-kept, Consumes-nil, Consumes-trans, Consumes-kept}
use Rattle.std.proofs.Math.Seq.{take-append_seam}
use Rattle.h5_model.specs.Format.Limits.{most_script_bytes}
use Rattle.h5_dump.specs.Session.{SessionState}
use Rattle.h5_model.specs.Scripts.Lines.{Command, commands_of, finished_lines, within_limit}
use Rattle.h5_script.specs.Pieces.{AreWholeLines, HasRunLines, HasBegunLines, IsUnderway, commands_of_line}
use Rattle.h5_script.specs.Runs.{HasRun, HasCounted, HasBegun, IsRunCut}
use Rattle.h5_script.specs.Script.{none_ran, IsDone, IsUnread, IsTooLong, IsCutOff, IsStopped}
use Rattle.h5_script.specs.Streams.{IsRead}
use Rattle.h5_script.specs.declared.fault.RunFault.{RunFault}
use Rattle.h5_script.specs.declared.fault.RunFault.TheVariants.{ScriptRead, ScriptWrite, ScriptTooLong, NoMemory}
use Rattle.h5_script.specs.declared.ran.Ran.{Ran}
use Rattle.h5_script.proofs.LineLaws.{commands_of-line, commands_of-whole, whole_append, finished-whole, finished_is}
use Rattle.h5_script.proofs.PieceLaws.{lines_none}
use Rattle.h5_script.proofs.RunLaws.{has_begun_none, has_begun_all, has_begun_of, has_begun_more, has_counted_more}

abbrev Known : Type 0
Known = Option (List ℕ)

abbrev limit : ℕ
limit = most_script_bytes

-- a run that ends early by a writer or by memory
pub cut_off : (s t : SessionState) (input left old new : Known) (f : RunFault) → IsRunCut f → IsCutOff s t input left old new → IsStopped s t input left old new f
cut_off s t input left old new ScriptRead is off = absurd is
cut_off s t input left old new ScriptWrite is off = off
cut_off s t input left old new ScriptTooLong is off = absurd is
cut_off s t input left old new NoMemory is off = off

pub by_stop : {T : Type 0} (result : Result T RunFault) (P : T → Type 0) (Q : RunFault → Type 0) (e f : RunFault) → IsErrAnd result (λ g. g ≡ e) → e ≡ f → Q f → MatchResult result P Q
by_stop (Ok x) P Q e f stopped is q = absurd stopped
by_stop (Err g) P Q e f stopped is q = subst Q (sym (stopped ∙ is)) q

-- ---- the part of a script that is run

within_short : (script : List ℕ) → length script ≤ limit → within_limit script ≡ script
within_short script short =
    let test : nat_lt limit (length script) ≡ false = grind (arith, nat_tests) in
    ap (λ b. cond b (finished_lines (take limit script)) script) test

take_front : (a b : List ℕ) (n : ℕ) → n ≡ length a → take n (a ++ b) ≡ a
take_front a b n is = ap (λ k. take k (a ++ b)) is ∙ take-append_seam a b

-- of a script that is too long the lines that its first bytes finish
within_long : (script front more : List ℕ) → script ≡ front ++ more → length front ≡ limit → limit < length script → within_limit script ≡ finished_lines front
within_long script front more is counted long =
    let test : nat_lt limit (length script) ≡ true = grind (arith, nat_tests) in
    ap (λ b. cond b (finished_lines (take limit script)) script) test
    ∙ ap (λ xs. finished_lines (take limit xs)) is ∙ ap finished_lines (take_front front more limit (sym counted))

-- whatever follows the lines that were run, the run of the whole has begun
begun_within : (done rest : List ℕ) (s t : SessionState) (old new : Known) → AreWholeLines done → HasBegun (commands_of done) s t old new → HasBegun (commands_of (done ++ rest)) s t old new
begun_within done rest s t old new whole begun =
    subst (λ (commands : List Command). HasBegun commands s t old new) (sym (commands_of-whole done rest whole)) (has_begun_of (commands_of done) (commands_of rest) s t old new begun)

-- ---- the run's state

module _ (s : SessionState) (input old : Known) where
  pub under_start : IsUnderway s s input input old old [] limit none_ran
  under_start = record {
    script = [];
    read = Consumes-nil input;
    limit = refl;
    run = lines_none s old none_ran [] (λ k d low. absurd (never k low));
  } where
    never : (k : ℕ) → k < 0 → ⊥
    never k low = omega (arith, low)

  pub under_begin : (held : List ℕ) (ran : Ran) → held ≡ [] → ran ≡ none_ran → IsUnderway s s input input old old held limit ran
  under_begin held ran none zero =
      subst (λ (bytes : List ℕ). IsUnderway s s input input old old bytes limit ran) (sym none)
      (subst (λ (counts : Ran). IsUnderway s s input input old old [] limit counts) (sym zero) under_start)

  -- nothing was read yet
  pub stopped_at_first : (f : RunFault) → IsRunCut f → IsStopped s s input input old old f
  stopped_at_first f is = cut_off s s input input old old f is (record {
    script = [];
    read = Consumes-nil input;
    run = inl (has_begun_none (commands_of (finished_lines (within_limit []))) s old);
  })

  module _ (m : SessionState) (mid : Known) (now : Known) (held : List ℕ) (room : ℕ) (a : Ran) (under : IsUnderway s m input mid old now held room a) where
    -- the lines of the script so far
    whole_run : HasCounted (commands_of under.run.done) s m old now none_ran a
    whole_run = under.run.run

    low : length under.script ≤ limit
    low = omega (arith, under.limit)

    -- the reader failed
    pub stopped_unread : (left : Known) → Keeps mid left → IsUnread s m input left old now
    stopped_unread left kept = record {
      script = under.script;
      read = Consumes-kept input mid left under.script under.read kept;
      short = low;
      run = subst (λ (bytes : List ℕ). HasRun (commands_of bytes) s m old now)
          (sym (ap finished_lines (sym under.run.parts) ∙ finished_is under.run.done held under.run.whole under.run.endless)) whole_run.run;
    }

    -- all commands of the script
    all_commands : commands_of under.run.done ++ commands_of_line held ≡ commands_of under.script
    all_commands =
        sym (ap commands_of (sym under.run.parts) ∙ commands_of-whole under.run.done held under.run.whole
        ∙ ap (λ commands. commands_of under.run.done ++ commands) (commands_of-line held under.run.endless))

    -- nothing was read: the script is at its end
    read_none : (left : Known) (bytes : List ℕ) → bytes ≡ [] → Consumes mid left bytes → Consumes input left under.script
    read_none left bytes none read =
        subst (λ (xs : List ℕ). Consumes input left xs) (ap (λ xs. under.script ++ xs) none ∙ append-nil under.script) (Consumes-trans input mid left under.script bytes under.read read)

    -- the last line was run
    pub done_all : (left : Known) (bytes : List ℕ) (t : SessionState) (new last : Known) (b : Ran) → bytes ≡ [] → Consumes mid left bytes → IsAtEnd left
        → HasCounted (commands_of_line held) m t now new a b → Keeps new last → IsDone s t input left old last b
    done_all left bytes t new last b none read ended ran kept =
        let all = subst (λ (commands : List Command). HasCounted commands s t old new none_ran b) all_commands
        (has_counted_more (commands_of under.run.done) (commands_of_line held) s m t old now new none_ran a b whole_run ran) in
        record {
          script = under.script;
          read = read_none left bytes none read;
          ended = ended;
          short = low;
          run = record {
            run = record {
              lines = all.run.lines;
              asked_are = all.run.asked_are;
              each = all.run.each;
              session_is = all.run.session_is;
              whole = all.run.whole;
              written = Appends-kept old new last _ all.run.written kept;
            };
            refused = all.refused;
            edits = all.edits;
          };
        }

    -- the last line was begun
    pub cut_last : (left : Known) (bytes : List ℕ) (t : SessionState) (new : Known) → bytes ≡ [] → Consumes mid left bytes → IsAtEnd left
        → HasBegun (commands_of_line held) m t now new → IsCutOff s t input left old new
    cut_last left bytes t new none read ended begun = record {
      script = under.script;
      read = read_none left bytes none read;
      run = inr (
        ended,
        subst (λ (commands : List Command). HasBegun commands s t old new) (all_commands ∙ ap commands_of (sym (within_short under.script low)))
            (has_begun_more (commands_of under.run.done) (commands_of_line held) s m t old now new whole_run.run begun),
      );
    }

    -- the last line was run, and what was held back could not be written
    pub cut_flush : (left : Known) (bytes : List ℕ) (t : SessionState) (new last : Known) (b : Ran) → bytes ≡ [] → Consumes mid left bytes → IsAtEnd left
        → HasCounted (commands_of_line held) m t now new a b → Keeps new last → IsCutOff s t input left old last
    cut_flush left bytes t new last b none read ended ran kept =
        cut_last left bytes t last none read ended (subst (λ (commands : List Command). HasBegun commands m t now last) (append-nil (commands_of_line held))
        (has_begun_all (commands_of_line held) [] m t now last (record {
          lines = ran.run.lines;
          asked_are = ran.run.asked_are;
          each = ran.run.each;
          session_is = ran.run.session_is;
          whole = ran.run.whole;
          written = Appends-kept now new last _ ran.run.written kept;
        })))

    -- ---- a piece

    module _ (left : Known) (piece : List ℕ) (count : ℕ) (read : IsRead mid left piece count) where
      abbrev grown : List ℕ
      grown = under.script ++ take count piece

      long_grown : length grown ≡ length under.script + count
      long_grown = omega (arith, length-append under.script (take count piece), length-take count piece, read.within)

      read_more : Consumes input left grown
      read_more = Consumes-trans input mid left under.script (take count piece) under.read read.read

      -- the lines of a part of the piece, behind those before it
      module _ (part : List ℕ) (t : SessionState) (new : Known) where
        lines_behind : (done others : List ℕ) → done ++ others ≡ held ++ part → under.script ++ part ≡ (under.run.done ++ done) ++ others
        lines_behind done others is =
            ap (λ xs. xs ++ part) (sym under.run.parts) ∙ append_assoc under.run.done held part ∙ ap (λ xs. under.run.done ++ xs) (sym is) ∙ sym (append_assoc under.run.done done others)

        lines_ran : (after : List ℕ) (b : Ran) → HasRunLines (held ++ part) after m t now new a b → HasRunLines (under.script ++ part) after s t old new none_ran b
        lines_ran after b more = record {
          done = under.run.done ++ more.done;
          parts = sym (lines_behind more.done after more.parts);
          whole = whole_append under.run.done more.done under.run.whole more.whole;
          endless = more.endless;
          run = subst (λ (commands : List Command). HasCounted commands s t old new none_ran b) (sym (commands_of-whole under.run.done more.done under.run.whole))
              (has_counted_more (commands_of under.run.done) (commands_of more.done) s m t old now new none_ran a b whole_run more.run);
        }

        lines_began : HasBegunLines (held ++ part) m t now new → HasBegunLines (under.script ++ part) s t old new
        lines_began more = record {
          done = under.run.done ++ more.done;
          others = more.others;
          parts = sym (lines_behind more.done more.others more.parts);
          whole = whole_append under.run.done more.done under.run.whole more.whole;
          run = subst (λ (commands : List Command). HasBegun commands s t old new) (sym (commands_of-whole under.run.done more.done under.run.whole))
              (has_begun_more (commands_of under.run.done) (commands_of more.done) s m t old now new whole_run.run more.run);
        }

      -- all of the piece is within the limit
      pub under_more : (part after : List ℕ) (t : SessionState) (new : Known) (b : Ran) → count ≤ room → part ≡ take count piece → HasRunLines (held ++ part) after m t now new a b
          → IsUnderway s t input left old new after (room - count) b
      under_more part after t new b enough is more = record {
        script = grown;
        read = read_more;
        limit = omega (arith, long_grown, under.limit, enough);
        run = subst (λ (xs : List ℕ). HasRunLines (under.script ++ xs) after s t old new none_ran b) is (lines_ran part t new after b more);
      }

      pub cut_within : (part : List ℕ) (t : SessionState) (new : Known) → count ≤ room → part ≡ take count piece → HasBegunLines (held ++ part) m t now new → IsCutOff s t input left old new
      cut_within part t new enough is more =
          let begun = lines_began part t new more in
          let short : length grown ≤ limit = omega (arith, long_grown, under.limit, enough) in
          record {
            script = grown;
            read = read_more;
            run = inl (subst (λ (xs : List ℕ). HasBegun (commands_of xs) s t old new)
                (sym (ap finished_lines (within_short grown short ∙ ap (λ xs. under.script ++ xs) (sym is) ∙ sym begun.parts) ∙ finished-whole begun.done begun.others begun.whole))
                (begun_within begun.done (finished_lines begun.others) s t old new begun.whole begun.run));
          }

      -- only a part of it is
      parted : (part : List ℕ) → room < count → part ≡ take room piece → (more : List ℕ) × (grown ≡ (under.script ++ part) ++ more)
      parted part over is = (
        drop room (take count piece),
        ap (λ xs. under.script ++ xs) (sym (take-append-drop room (take count piece))
            ∙ ap (λ xs. xs ++ drop room (take count piece)) (take-take room count piece (omega (arith, over)) ∙ sym is))
            ∙ sym (append_assoc under.script part (drop room (take count piece))),
      )

      front_long : (part : List ℕ) → room < count → part ≡ take room piece → length (under.script ++ part) ≡ limit
      front_long part over is =
          let taken : length part ≡ min room (length piece) = ap length is ∙ length-take room piece in
          omega (arith, length-append under.script part, taken, read.within, over, under.limit)

      within_front : (part : List ℕ) → room < count → part ≡ take room piece → within_limit grown ≡ finished_lines (under.script ++ part)
      within_front part over is =
          let more = parted part over is in
          within_long grown (under.script ++ part) more.0 more.1 (front_long part over is) (omega (arith, long_grown, under.limit, over))

      pub too_long : (part after : List ℕ) (t : SessionState) (new : Known) (b : Ran) → room < count → part ≡ take room piece → HasRunLines (held ++ part) after m t now new a b
          → IsTooLong s t input left old new
      too_long part after t new b over is more =
          let all = lines_ran part t new after b more in
          record {
            script = grown;
            read = read_more;
            long = omega (arith, long_grown, under.limit, over);
            run = subst (λ (xs : List ℕ). HasRun (commands_of xs) s t old new)
                (sym (within_front part over is ∙ ap finished_lines (sym all.parts) ∙ finished_is all.done after all.whole all.endless)) all.run.run;
          }

      pub cut_over : (part : List ℕ) (t : SessionState) (new : Known) → room < count → part ≡ take room piece → HasBegunLines (held ++ part) m t now new → IsCutOff s t input left old new
      cut_over part t new over is more =
          let begun = lines_began part t new more in
          record {
            script = grown;
            read = read_more;
            run = inl (subst (λ (xs : List ℕ). HasBegun (commands_of xs) s t old new)
                (sym (ap finished_lines (within_front part over is ∙ ap finished_lines (sym begun.parts) ∙ finished-whole begun.done begun.others begun.whole)
                ∙ finished-whole begun.done (finished_lines begun.others) begun.whole))
                (begun_within begun.done (finished_lines (finished_lines begun.others)) s t old new begun.whole begun.run));
          }

      pub cut_piece : (within : ℕ) (part : List ℕ) (t : SessionState) (new : Known) → within ≡ min count room → part ≡ take within piece → HasBegunLines (held ++ part) m t now new
          → IsCutOff s t input left old new
      cut_piece within part t new is parts more = by (nat_lt room count) refl where
        same : (n : ℕ) → within ≡ n → part ≡ take n piece
        same n equal = parts ∙ ap (λ k. take k piece) equal

        by : (b : Bool) → nat_lt room count ≡ b → IsCutOff s t input left old new
        by true test =
            let over : room < count = grind (arith, nat_tests) in
            cut_over part t new over (same room (omega (arith, is, over))) more
        by false test =
            let enough : count ≤ room = grind (arith, nat_tests) in
            cut_within part t new enough (same count (omega (arith, is, enough))) more
