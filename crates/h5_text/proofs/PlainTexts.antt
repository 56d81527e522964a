-- Texts of bytes that are printed as they stand.
use Rattle.std.proofs.Common.{◌≡◌, ℕ, Bool, if◌then◌else◌, List, [], ◌∷◌, ◌++◌, true, refl, ap, ◌∙◌, ◌/◌, ◌%◌}
use Rattle.std.specs.List.{list_all}
use Rattle.std.proofs.lemmas.Bool.{and_parts}
use Rattle.h5_model.specs.Scripts.Text.{is_plain, escaped_text, escaped_byte, hex_digit}

plain_byte : (b : ℕ) → is_plain b ≡ true → escaped_byte b ≡ b ∷ []
plain_byte b is = ap (λ (p : Bool). if p then b ∷ [] else 92 ∷ 120 ∷ hex_digit (b / 16) ∷ hex_digit (b % 16) ∷ []) is

pub escaped_same : (bytes : List ℕ) → list_all is_plain bytes ≡ true → escaped_text bytes ≡ bytes
escaped_same [] all = refl
escaped_same (b ∷ bs) all =
    let each = and_parts (is_plain b) (list_all is_plain bs) all in
    ap (λ (text : List ℕ). text ++ escaped_text bs) (plain_byte b each.0) ∙ ap (λ (text : List ℕ). b ∷ text) (escaped_same bs each.1)
