-- Lists around one of their elements.
use Rattle.std.proofs.Common.{◌≡◌, ℕ, ◌+◌, ◌<◌, List, [], ◌∷◌, ◌++◌, length, take, drop, get_or, sym, ap, ◌∙◌, append-nil}
use Rattle.std.specs.List.{flat_map}
use Rattle.std.proofs.lemmas.List.{take_more, drop_more, take-append-drop}
use Rattle.std.proofs.lemmas.Grind.{flat_map-append}

pub around : {X : Type 0} (xs : List X) (i : ℕ) (d : X) → i < length xs → xs ≡ take i xs ++ get_or xs i d ∷ drop (i + 1) xs
around xs i d low = sym (take-append-drop i xs) ∙ ap (λ (ys : List _). take i xs ++ ys) (drop_more xs i d low)

module _ {X Y : Type 0} (f : X → List Y) (xs : List X) (i : ℕ) (d : X) (low : i < length xs) where
  -- one element more
  pub flat_step : flat_map f (take (i + 1) xs) ≡ flat_map f (take i xs) ++ f (get_or xs i d)
  flat_step = ap (flat_map f) (take_more xs i d low) ∙ flat_map-append f (take i xs) (get_or xs i d ∷ [])
      ∙ ap (λ (ys : List Y). flat_map f (take i xs) ++ ys) (append-nil (f (get_or xs i d)))

  -- what comes before the element, the element, and what comes behind it
  pub flat_around : flat_map f xs ≡ flat_map f (take i xs) ++ (f (get_or xs i d) ++ flat_map f (drop (i + 1) xs))
  flat_around = ap (flat_map f) (around xs i d low) ∙ flat_map-append f (take i xs) (get_or xs i d ∷ drop (i + 1) xs)
