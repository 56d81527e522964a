-- A script's answers, piece by piece.
use Rattle.std.proofs.Common.{◌≡◌, List, [], ◌∷◌, ◌++◌, refl, sym, ◌∙◌, ap, append_assoc, length, arith}
use Rattle.h5_model.specs.Scripts.Sessions.{Session}
use Rattle.h5_model.specs.Scripts.Lines.{Command}
use Rattle.h5_model.specs.Scripts.Answers.{Given, answer_of, transcript_of, session_after, outcomes_of}

-- the answers to lines and more lines are those to the first, and then those to the others in the session that the first lead to
pub transcript_of-append : (s : Session) (first others : List (Command × Given))
    → transcript_of s (first ++ others) ≡ transcript_of s first ++ transcript_of (session_after s first) others
unfolding transcript_of session_after
transcript_of-append s [] others = refl
transcript_of-append s (line ∷ first) others =
    ap (λ text. (answer_of s line.0 line.1).text ++ text) (transcript_of-append (answer_of s line.0 line.1).session first others)
    ∙ sym (append_assoc (answer_of s line.0 line.1).text _ _)

pub session_after-append : (s : Session) (first others : List (Command × Given))
    → session_after s (first ++ others) ≡ session_after (session_after s first) others
unfolding session_after
session_after-append s [] others = refl
session_after-append s (line ∷ first) others = session_after-append (answer_of s line.0 line.1).session first others

pub outcomes_of-append : (s : Session) (first others : List (Command × Given))
    → outcomes_of s (first ++ others) ≡ outcomes_of s first ++ outcomes_of (session_after s first) others
unfolding session_after
outcomes_of-append s [] others = refl
outcomes_of-append s (line ∷ first) others =
    ap (λ outcomes. (answer_of s line.0 line.1).outcome ∷ outcomes) (outcomes_of-append (answer_of s line.0 line.1).session first others)

-- one outcome for each line
pub length-outcomes_of : (s : Session) (lines : List (Command × Given)) → length (outcomes_of s lines) ≡ length lines
length-outcomes_of s [] = refl
length-outcomes_of s (line ∷ lines) = omega (arith, length-outcomes_of (answer_of s line.0 line.1).session lines)
