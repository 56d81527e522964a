-- Lines that are run one after the other.
use Rattle.std.proofs.Common.{◌≡◌, ℕ, ◌+◌, Bool, Option, List, [], ◌∷◌, ◌++◌, refl, sym, ap, ◌∙◌, subst, append_assoc, inl, inr, arith}
use Rattle.std.specs.List.{count_by}
use Rattle.std.specs.Io.KnownBytes.{Appends}
use Rattle.std.proofs.lemmas.List.{map-append}
use Rattle.std.proofs.lemmas.List.Sums.{sum_by-append}
use Rattle.std.proofs.KnownBytes.{Appends-nil, Keeps-refl, Appends-trans}
use Rattle.h5_dump.specs.Session.{SessionState, session_of}
use Rattle.h5_model.specs.Scripts.Lines.{Command}
use Rattle.h5_model.specs.Scripts.Sessions.{Session}
use Rattle.h5_model.specs.Scripts.Answers.{Outcome, is_accepted, is_refused, outcomes_of, session_after, transcript_of}
use Rattle.h5_model.proofs.ScriptLaws.{outcomes_of-append, session_after-append, transcript_of-append}
use Rattle.h5_script.specs.Answered.{Line}
use Rattle.h5_script.specs.Runs.{commands_in, asked_in, AreRun, HasRun, HasCounted, HasBegun, IsPartlyTold}
use Rattle.h5_script.specs.declared.ran.Ran.{Ran}
use Rattle.h5_script.proofs.Wholes.{whole_after}

are_run-append : (s m t : SessionState) (first others : List Line) → AreRun s first m → AreRun m others t → AreRun s (first ++ others) t
unfolding AreRun
are_run-append s m t [] others each more = subst (λ (q : SessionState). AreRun q others t) each more
are_run-append s m t (line ∷ first) others each more = (each.0, are_run-append line.after m t first others each.1 more)

commands_in-append : (first others : List Line) → commands_in (first ++ others) ≡ commands_in first ++ commands_in others
commands_in-append first others = map-append (λ (line : Line). line.command) first others

asked_in-append : (first others : List Line) → asked_in (first ++ others) ≡ asked_in first ++ asked_in others
asked_in-append first others = map-append (λ (line : Line). (line.command, line.given)) first others

-- ---- runs behind runs

abbrev Known : Type 0
Known = Option (List ℕ)

pub has_run_none : (s : SessionState) (known : Known) → HasRun [] s s known known
unfolding AreRun session_after transcript_of
has_run_none s known = record { lines = []; asked_are = refl; each = refl; session_is = refl; whole = whole_after s s [] refl; written = Appends-nil known }

-- lines behind lines, the first of which led to this session
module _ (s m : SessionState) (first others : List Line) (is : session_of m ≡ session_after (session_of s) (asked_in first)) where
  session_more : session_after (session_of m) (asked_in others) ≡ session_after (session_of s) (asked_in (first ++ others))
  session_more =
      ap (λ (q : Session). session_after q (asked_in others)) is ∙ sym (session_after-append (session_of s) (asked_in first) (asked_in others))
      ∙ ap (session_after (session_of s)) (sym (asked_in-append first others))

  text_more : transcript_of (session_of s) (asked_in first) ++ transcript_of (session_of m) (asked_in others)
      ≡ transcript_of (session_of s) (asked_in (first ++ others))
  text_more =
      ap (λ (q : Session). transcript_of (session_of s) (asked_in first) ++ transcript_of q (asked_in others)) is
      ∙ sym (transcript_of-append (session_of s) (asked_in first) (asked_in others))
      ∙ ap (transcript_of (session_of s)) (sym (asked_in-append first others))

  outcomes_more : outcomes_of (session_of s) (asked_in (first ++ others))
      ≡ outcomes_of (session_of s) (asked_in first) ++ outcomes_of (session_of m) (asked_in others)
  outcomes_more =
      ap (outcomes_of (session_of s)) (asked_in-append first others)
      ∙ outcomes_of-append (session_of s) (asked_in first) (asked_in others)
      ∙ sym (ap (λ (q : Session). outcomes_of (session_of s) (asked_in first) ++ outcomes_of q (asked_in others)) is)

  counts_more : (p : Outcome → Bool) (a b c : ℕ) → b ≡ a + count_by p (outcomes_of (session_of s) (asked_in first))
      → c ≡ b + count_by p (outcomes_of (session_of m) (asked_in others)) → c ≡ a + count_by p (outcomes_of (session_of s) (asked_in (first ++ others)))
  counts_more p a b c one two =
      let all : count_by p (outcomes_of (session_of s) (asked_in (first ++ others)))
      ≡ count_by p (outcomes_of (session_of s) (asked_in first)) + count_by p (outcomes_of (session_of m) (asked_in others))
      = ap (count_by p) outcomes_more
      ∙ sum_by-append _ (outcomes_of (session_of s) (asked_in first)) (outcomes_of (session_of m) (asked_in others)) in
      omega (arith, all, one, two)

pub has_run_more : (asked more : List Command) (s m t : SessionState) (old mid new : Known) → HasRun asked s m old mid → HasRun more m t mid new → HasRun (asked ++ more) s t old new
has_run_more asked more s m t old mid new one two =
    let each = are_run-append s m t one.lines two.lines one.each two.each in
    record {
      lines = one.lines ++ two.lines;
      asked_are = commands_in-append one.lines two.lines ∙ ap (λ commands. commands ++ commands_in two.lines) one.asked_are ∙ ap (λ commands. asked ++ commands) two.asked_are;
      each = each;
      session_is = two.session_is ∙ session_more s m one.lines two.lines one.session_is;
      whole = whole_after s t (one.lines ++ two.lines) each;
      written = subst (λ (text : List ℕ). Appends old new text) (text_more s m one.lines two.lines one.session_is)
          (Appends-trans old mid new _ _ one.written two.written);
    }

pub has_counted_none : (s : SessionState) (known : Known) (counts : Ran) → HasCounted [] s s known known counts counts
unfolding has_run_none
has_counted_none s known counts = record { run = has_run_none s known; refused = omega arith; edits = omega arith }

pub has_counted_more : (asked more : List Command) (s m t : SessionState) (old mid new : Known) (a b c : Ran)
    → HasCounted asked s m old mid a b → HasCounted more m t mid new b c → HasCounted (asked ++ more) s t old new a c
unfolding has_run_more
has_counted_more asked more s m t old mid new a b c one two = record {
  run = has_run_more asked more s m t old mid new one.run two.run;
  refused = counts_more s m one.run.lines two.run.lines one.run.session_is is_refused a.refused b.refused c.refused one.refused two.refused;
  edits = counts_more s m one.run.lines two.run.lines one.run.session_is is_accepted a.edits b.edits c.edits one.edits two.edits;
}

-- no command was run yet
pub has_begun_none : (asked : List Command) (s : SessionState) (known : Known) → HasBegun asked s s known known
has_begun_none asked s known = record {
  first = [];
  others = asked;
  asked_are = refl;
  between = s;
  written = known;
  run = has_run_none s known;
  last = inl (refl, Keeps-refl known);
}

-- all commands were run
pub has_begun_all : (asked more : List Command) (s t : SessionState) (old new : Known) → HasRun asked s t old new → HasBegun (asked ++ more) s t old new
has_begun_all asked more s t old new all = record {
  first = asked;
  others = more;
  asked_are = refl;
  between = t;
  written = new;
  run = all;
  last = inl (refl, Keeps-refl new);
}

-- the first of the commands was run and told in part, whatever others follow
partly_of : (asked more : List Command) (s t : SessionState) (old new : Known) → IsPartlyTold asked s t old new → IsPartlyTold (asked ++ more) s t old new
partly_of asked more s t old new partly = record {
  line = partly.line;
  others = partly.others ++ more;
  asked_are = ap (λ commands. commands ++ more) partly.asked_are;
  run = partly.run;
  after_is = partly.after_is;
  whole = partly.whole;
  written = partly.written;
}

-- more commands may follow
pub has_begun_of : (asked more : List Command) (s t : SessionState) (old new : Known) → HasBegun asked s t old new → HasBegun (asked ++ more) s t old new
has_begun_of asked more s t old new begun = record {
  first = begun.first;
  others = begun.others ++ more;
  asked_are = sym (append_assoc begun.first begun.others more) ∙ ap (λ commands. commands ++ more) begun.asked_are;
  between = begun.between;
  written = begun.written;
  run = begun.run;
  last = elim begun.last [
    | inl none ↦ inl none
    | inr partly ↦ inr (partly_of begun.others more begun.between t begun.written new partly)
  ];
}

-- some commands were run whole, and others behind them were begun
pub has_begun_more : (asked more : List Command) (s m t : SessionState) (old mid new : Known) → HasRun asked s m old mid → HasBegun more m t mid new → HasBegun (asked ++ more) s t old new
has_begun_more asked more s m t old mid new one two = record {
  first = asked ++ two.first;
  others = two.others;
  asked_are = append_assoc asked two.first two.others ∙ ap (λ commands. asked ++ commands) two.asked_are;
  between = two.between;
  written = two.written;
  run = has_run_more asked two.first s m two.between old mid two.written one two.run;
  last = two.last;
}

-- the first command was run, and a beginning of its answer was written
pub has_begun_one : (asked : List Command) (s t : SessionState) (old new : Known) → IsPartlyTold asked s t old new → HasBegun asked s t old new
has_begun_one asked s t old new partly = record {
  first = [];
  others = asked;
  asked_are = refl;
  between = s;
  written = old;
  run = has_run_none s old;
  last = inr partly;
}
