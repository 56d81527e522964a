-- Maxima as they are shown.
use Rattle.std.proofs.Common.{◌≡◌, ℕ, suc, ◌<◌, List, [], ◌∷◌, ◌++◌, length, take, map, refl, sym, ap, ◌∙◌, ◌+◌, Option, Some, None, arith}
use Rattle.std.specs.Prelude.{slice_get, unwrap_or}
use Rattle.std.proofs.Math.ListN.{set}
use Rattle.std.proofs.Math.Seq.{take-suc}
use Rattle.std.proofs.lemmas.List.{map-append, take_more_set}
use Rattle.std.proofs.lemmas.Option.{slice_get_within, get_or_from_slice_get}
use Rattle.h5_model.specs.Scripts.Reading.{shown_maximum}

shown_is : (maximum : Option ℕ) → unwrap_or maximum 18446744073709551615 ≡ shown_maximum maximum
shown_is None = refl
shown_is (Some m) = refl

-- one more maximum is shown
pub next_shown : (maxima : List (Option ℕ)) (shown : List ℕ) (k : ℕ) (m : Option ℕ) (value : ℕ) → slice_get maxima k ≡ Some m → value ≡ unwrap_or m 18446744073709551615 → k < length shown
    → take k shown ≡ map shown_maximum (take k maxima) → take (k + 1) (set shown k value) ≡ map shown_maximum (take (k + 1) maxima)
next_shown maxima shown k m value got is low so =
    let one : suc k ≡ k + 1 = omega arith in
    let more : take (suc k) maxima ≡ take k maxima ++ m ∷ [] =
    take-suc maxima k m (slice_get_within maxima k m got) ∙ ap (λ (x : Option ℕ). take k maxima ++ x ∷ []) (get_or_from_slice_get maxima k m m got) in
    take_more_set shown k value low
    ∙ (λ i. so i ++ (is ∙ shown_is m) i ∷ [])
    ∙ sym (map-append shown_maximum (take k maxima) (m ∷ []))
    ∙ ap (map shown_maximum) (sym more)
    ∙ ap (λ (n : ℕ). map shown_maximum (take n maxima)) one
