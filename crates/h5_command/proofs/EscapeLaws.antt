-- The bytes that a word stands for, byte by byte.
use Rattle.std.proofs.Common.{◌≡◌, ℕ, zero, suc, ◌+◌, ◌<◌, true, false, List, [], ◌∷◌, ◌++◌, length, get_or, drop, eqb, Some, None, option_map, refl, sym, ap, ◌∙◌, append-nil, ◌≤◌, arith}
use Rattle.std.proofs.lemmas.Bool.{cond-true, cond-false}
use Rattle.std.proofs.Math.Seq.{drop-nil}
use Rattle.std.proofs.lemmas.List.{drop-drop, drop_all, drop_more}
use Rattle.h5_model.specs.Scripts.Lines.{escape_from, unescaped_past}
use Rattle.h5_model.specs.Scripts.Text.{is_plain}
use Rattle.h5_command.proofs.Lists.{behind, behind_one}

pub past_drop : (n : ℕ) (cs : List ℕ) → unescaped_past n cs ≡ unescaped_past 0 (drop n cs)
past_drop n [] = rw (drop-nil {A = ℕ} n) refl
past_drop zero (c ∷ cs) = refl
past_drop (suc n) (c ∷ cs) = past_drop n cs

plain_first : (c : ℕ) (cs : List ℕ) → eqb c 92 ≡ false → is_plain c ≡ true → unescaped_past 0 (c ∷ cs) ≡ option_map (λ bs. c ∷ bs) (unescaped_past 0 cs)
plain_first c cs other plain = cond-false (eqb c 92) _ _ other ∙ cond-true (is_plain c) _ _ plain

other_first : (c : ℕ) (cs : List ℕ) → eqb c 92 ≡ false → is_plain c ≡ false → unescaped_past 0 (c ∷ cs) ≡ None
other_first c cs other plain = cond-false (eqb c 92) _ _ other ∙ cond-false (is_plain c) _ _ plain

escape_first : (c b : ℕ) (cs : List ℕ) → eqb c 92 ≡ true → escape_from cs ≡ Some b → unescaped_past 0 (c ∷ cs) ≡ option_map (λ bs. b ∷ bs) (unescaped_past 0 (drop 3 cs))
escape_first c b cs slash is = rw (slash, is, past_drop 3 cs) refl

wrong_first : (c : ℕ) (cs : List ℕ) → eqb c 92 ≡ true → escape_from cs ≡ None → unescaped_past 0 (c ∷ cs) ≡ None
wrong_first c cs slash is = rw (slash, is) refl

pub plain_step : (bytes : List ℕ) (at : ℕ) (word : List ℕ) → at < length word → eqb (get_or word at 0) 92 ≡ false → is_plain (get_or word at 0) ≡ true
    → behind (bytes ++ get_or word at 0 ∷ []) (unescaped_past 0 (drop (at + 1) word)) ≡ behind bytes (unescaped_past 0 (drop at word))
plain_step bytes at word lt other plain =
    behind_one bytes (get_or word at 0) (unescaped_past 0 (drop (at + 1) word))
    ∙ ap (behind bytes) (sym (ap (unescaped_past 0) (drop_more word at 0 lt) ∙ plain_first (get_or word at 0) (drop (at + 1) word) other plain))

pub escape_step : (bytes : List ℕ) (b at : ℕ) (word : List ℕ) → at < length word → eqb (get_or word at 0) 92 ≡ true → escape_from (drop (at + 1) word) ≡ Some b
    → behind (bytes ++ b ∷ []) (unescaped_past 0 (drop (at + 4) word)) ≡ behind bytes (unescaped_past 0 (drop at word))
escape_step bytes b at word lt slash is =
    let past : drop 3 (drop (at + 1) word) ≡ drop (at + 4) word = drop-drop 3 (at + 1) word ∙ (let sum : at + 1 + 3 ≡ at + 4 = omega arith in ap (λ n. drop n word) sum) in
    behind_one bytes b (unescaped_past 0 (drop (at + 4) word))
    ∙ ap (behind bytes) (sym (ap (unescaped_past 0) (drop_more word at 0 lt) ∙ escape_first (get_or word at 0) b (drop (at + 1) word) slash is ∙ ap (λ cs. option_map (λ bs. b ∷ bs) (unescaped_past 0 cs)) past))

pub other_none : (bytes : List ℕ) (at : ℕ) (word : List ℕ) → at < length word → eqb (get_or word at 0) 92 ≡ false → is_plain (get_or word at 0) ≡ false → behind bytes (unescaped_past 0 (drop at word)) ≡ None
other_none bytes at word lt other plain = ap (behind bytes) (ap (unescaped_past 0) (drop_more word at 0 lt) ∙ other_first (get_or word at 0) (drop (at + 1) word) other plain)

pub wrong_none : (bytes : List ℕ) (at : ℕ) (word : List ℕ) → at < length word → eqb (get_or word at 0) 92 ≡ true → escape_from (drop (at + 1) word) ≡ None → behind bytes (unescaped_past 0 (drop at word)) ≡ None
wrong_none bytes at word lt slash is = ap (behind bytes) (ap (unescaped_past 0) (drop_more word at 0 lt) ∙ wrong_first (get_or word at 0) (drop (at + 1) word) slash is)

pub all_read : (bytes : List ℕ) (at : ℕ) (word : List ℕ) → length word ≤ at → behind bytes (unescaped_past 0 (drop at word)) ≡ Some bytes
all_read bytes at word end = ap (λ cs. behind bytes (unescaped_past 0 cs)) (drop_all at word end) ∙ ap (λ bs. Some bs) (append-nil bytes)
