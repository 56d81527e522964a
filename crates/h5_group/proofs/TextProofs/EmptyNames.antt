-- The empty name at the beginning of a heap's segment (File Format Specification 3.0, section III.D).
use Rattle.std.proofs.Common.{◌≡◌, ℕ, ◌+◌, ◌≤◌, List, [], ◌∷◌, length, refl, sym, ◌∙◌, ap, Bool, true, false, IsTrue, arith}
use Rattle.std.specs.Prelude.{◌==◌, ◌↔◌, if◌then◌else◌}
use Rattle.std.proofs.lemmas.Bool.Decides.{nat_tests}
use Rattle.h5_bytes.specs.Bytes.{byte_at}
use Rattle.h5_bytes.specs.Texts.{text_at, until_zero, pad8}
use Rattle.h5_heap.specs.Spans.{IsSpan}
use Rattle.h5_heap.proofs.RefusedLaws.{empty_text}

text_empty : (segment : List ℕ) → text_at segment 0 ≡ [] → byte_at segment 0 ≡ 0
unfolding text_at
text_empty [] none = refl
text_empty (b ∷ bs) none = go (b == 0) refl none where
  go : (t : Bool) → (b == 0) ≡ t → (if t then [] else b ∷ until_zero bs) ≡ [] → b ≡ 0
  go true is h = grind (arith, nat_tests, is)
  go false is h = absurd (cc)

none_in : (text : List ℕ) → (length text == 0) ≡ true → text ≡ []
none_in [] is = refl
none_in (b ∷ bs) is = let none : length bs + 1 ≡ 0 = grind (arith, nat_tests, is) in absurd (omega (arith, none))

-- the text that stands first is empty where its first byte is zero
pub is_empty_name : (segment text : List ℕ) (test : Bool) → text ≡ text_at segment 0 → test ≡ (length text == 0) → IsTrue test ↔ (byte_at segment 0 ≡ 0)
is_empty_name segment text test is tested = (
  λ yes_is. text_empty segment (sym is ∙ none_in text (sym tested ∙ yes_is)),
  λ zero_is. tested ∙ ap (λ (t : List ℕ). length t == 0) (is ∙ empty_text segment zero_is),
)

-- where no text stands first, its first byte is not zero
pub no_empty_name : (segment : List ℕ) → 8 ≤ length segment → (IsSpan segment 0 → ⊥) → IsTrue false ↔ (byte_at segment 0 ≡ 0)
no_empty_name segment room none = (
  λ never. absurd (cc),
  λ zero_is.
      let len : pad8 (length (text_at segment 0) + 1) ≡ 8 = ap (λ (t : List ℕ). pad8 (length t + 1)) (empty_text segment zero_is) in
      absurd (none (record { aligned = refl; within = omega (arith, len, room) })),
)
