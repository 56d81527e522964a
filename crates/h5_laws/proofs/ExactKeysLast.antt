-- The last of two lists, one behind the other; and lists that end alike.
use Rattle.std.proofs.Common.{◌≡◌, ◌⊎◌, inl, inr, List, [], ◌∷◌, ◌++◌, refl, sym, ap, ap₂, ◌∙◌, subst}
use Rattle.std.proofs.lemmas.List.{append_assoc}
use Rattle.h5_laws.specs.KeyEdits.{IsTaken}

module _ {X : Type 0} where
  pub none_left : (xs ys : List X) → xs ++ ys ≡ [] → xs ≡ []
  none_left [] ys none = refl
  none_left (x ∷ xs) ys none = absurd (cc)

  pub none_right : (xs ys : List X) → xs ++ ys ≡ [] → ys ≡ []
  none_right [] ys none = none
  none_right (x ∷ xs) ys none = absurd (cc)

  -- no list with something in it is empty
  pub some_there : (xs : List X) (y : X) (ys : List X) → xs ++ y ∷ ys ≡ [] → ⊥
  some_there xs y ys none = let no : y ∷ ys ≡ [] = none_right xs (y ∷ ys) none in cc

  -- this one is the last
  abbrev pub IsLast : List X → X → Type 0
  IsLast xs y = (front : List X) × (xs ≡ front ++ y ∷ [])

  pub last_behind : (xs ys : List X) (y : X) → IsLast ys y → IsLast (xs ++ ys) y
  last_behind xs ys y last = (xs ++ last.0, ap (λ (zs : List X). xs ++ zs) last.1 ∙ sym (append_assoc xs last.0 (y ∷ [])))

  pub last_front : (xs ys : List X) (y : X) → ys ≡ [] → IsLast xs y → IsLast (xs ++ ys) y
  last_front xs ys y none last =
      (last.0, ap₂ (λ (us vs : List X). us ++ vs) last.1 none ∙ append_assoc last.0 (y ∷ []) [])

  -- the last one is the second list's, if that has any
  pub last_of_two : (xs ys : List X) (y : X) (front : List X) → xs ++ ys ≡ front ++ y ∷ [] → ((ys ≡ []) × IsLast xs y) ⊎ IsLast ys y
  last_of_two [] ys y front is = inr (front, is)
  last_of_two (x ∷ xs) ys y [] is =
      let same : x ≡ y = cc in
      let rest : xs ++ ys ≡ [] = cc in
      inl (none_right xs ys rest, ([], ap₂ (λ (z : X) (zs : List X). z ∷ zs) same (none_left xs ys rest)))
  last_of_two (x ∷ xs) ys y (f ∷ front) is =
      let rest : xs ++ ys ≡ front ++ y ∷ [] = cc in
      elim (last_of_two xs ys y front rest) [
        | inl first ↦ inl (first.0, (x ∷ first.1.0, ap (λ (zs : List X). x ∷ zs) first.1.1))
        | inr second ↦ inr second
      ]

  pub last_same : (xs : List X) (y z : X) → IsLast xs y → IsLast xs z → y ≡ z
  last_same xs y z one two = go one.0 two.0 (sym one.1 ∙ two.1) where
    go : (f g : List X) → f ++ y ∷ [] ≡ g ++ z ∷ [] → y ≡ z
    go [] [] is = cc
    go [] (b ∷ g) is = let rest : [] ≡ g ++ z ∷ [] = cc in absurd (some_there g z [] (sym rest))
    go (a ∷ f) [] is = let rest : f ++ y ∷ [] ≡ [] = cc in absurd (some_there f y [] rest)
    go (a ∷ f) (b ∷ g) is = let rest : f ++ y ∷ [] ≡ g ++ z ∷ [] = cc in go f g rest

  -- a list with something in it has a last one
  pub some_last : (x : X) (xs : List X) → (y : X) × IsLast (x ∷ xs) y
  some_last x [] = (x, ([], refl))
  some_last x (z ∷ xs) = let rest = some_last z xs in (rest.0, (x ∷ rest.1.0, ap (λ (zs : List X). x ∷ zs) rest.1.1))

  -- ---- what is last of the new list was last of the old one, if it is not of those that are left

  pub record EndsAlike (Left : X → Type 0) (old new : List X) : Type 0 where
    pub none : old ≡ [] → new ≡ []
    pub last : (y : X) → IsLast old y → Left y ⊎ IsLast new y

  pub ends_same : (Left : X → Type 0) (old new : List X) → new ≡ old → EndsAlike Left old new
  ends_same Left old new same = record { none = λ no. same ∙ no; last = λ y last. inr (last.0, same ∙ last.1) }

  pub ends_append : (Left : X → Type 0) (xs xs' ys ys' : List X) → EndsAlike Left xs xs' → EndsAlike Left ys ys' → EndsAlike Left (xs ++ ys) (xs' ++ ys')
  ends_append Left xs xs' ys ys' a b = record {
    none = λ no. ap₂ (λ (us vs : List X). us ++ vs) (a.none (none_left xs ys no)) (b.none (none_right xs ys no));
    last = λ y last. elim (last_of_two xs ys y last.0 last.1) [
      | inl first ↦ elim (a.last y first.1) [ inl is ↦ inl is | inr there ↦ inr (last_front xs' ys' y (b.none first.0) there) ]
      | inr second ↦ elim (b.last y second) [ inl is ↦ inl is | inr there ↦ inr (last_behind xs' ys' y there) ]
    ];
  }

  -- an item that goes is left
  pub ends_taken : (Left : X → Type 0) (x : X) (old new : List X) → Left x → IsTaken x old new → EndsAlike Left old new
  ends_taken Left x old new own p = record {
    none = λ no. absurd (some_there p.front x p.back (sym p.before ∙ no));
    last = λ y last. elim (last_of_two p.front (x ∷ p.back) y last.0 (sym p.before ∙ last.1)) [
      | inl first ↦ absurd (let no = first.0 in cc)
      | inr second ↦ from y second.0 second.1
    ];
  } where
    from : (y : X) (front : List X) → x ∷ p.back ≡ front ++ y ∷ [] → Left y ⊎ IsLast new y
    from y [] is = let same : x ≡ y = cc in inl (subst Left same own)
    from y (f ∷ front) is =
        let rest : p.back ≡ front ++ y ∷ [] = cc in
        let there = last_behind p.front p.back y (front, rest) in
        inr (there.0, p.after ∙ there.1)
