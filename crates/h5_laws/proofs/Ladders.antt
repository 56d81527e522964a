-- Ladders by places, in two halves, with a child or an item more or less; and the one place at which something stands.
use Rattle.std.proofs.Common.{◌≡◌, ℕ, zero, suc, ◌+◌, ◌-◌, ◌<◌, ◌≤◌, List, [], ◌∷◌, ◌++◌, length, get_or, refl, subst, arith, inl, inr}
use Rattle.std.specs.List.{AllByRecursion}
use Rattle.std.proofs.lemmas.Bool.{cases_order}
use Rattle.h5_bytes.proofs.BlockLaws.{all_append, all_so}
use Rattle.h5_laws.specs.Ladders.{Sides, LieBetween, IsLadder, IsOrderly, AreBetween, all_of}

module _ {K X : Type 0} (sides : Sides K X) where
  -- ---- by places

  pub ladder_long : (keys : List K) (lists : List (List X)) → IsLadder sides keys lists → length keys ≡ length lists + 1
  ladder_long [] lists is = absurd is
  ladder_long (k ∷ []) [] is = refl
  ladder_long (k ∷ []) (xs ∷ lists) is = absurd is
  ladder_long (k ∷ l ∷ keys) [] is = absurd is
  ladder_long (k ∷ l ∷ keys) (xs ∷ lists) is = let rest = ladder_long (l ∷ keys) lists is.2 in omega (arith, rest)

  -- the keys and lists of a node, by their places
  abbrev pub ByPlaces : List K → List (List X) → K → Type 0
  ByPlaces keys lists none = AreBetween sides (λ i. get_or keys i none) (λ i. get_or lists i []) (length lists)

  module _ (none : K) where
    module _ (k l : K) (keys : List K) (xs : List X) (lists : List (List X)) where
      between_more : LieBetween sides k l xs → ByPlaces (l ∷ keys) lists none
          → (i : ℕ) → i < length (xs ∷ lists) → LieBetween sides (get_or (k ∷ l ∷ keys) i none) (get_or (k ∷ l ∷ keys) (i + 1) none) (get_or (xs ∷ lists) i [])
      between_more here rest zero low = here
      between_more here rest (suc i) low =
          let next : suc (i + 1) ≡ suc i + 1 = omega arith in
          subst (λ (n : ℕ). LieBetween sides (get_or (l ∷ keys) i none) (get_or (k ∷ l ∷ keys) n none) (get_or lists i [])) next (rest.between i (omega (arith, low)))

      rising_more : sides.Rise k l → ByPlaces (l ∷ keys) lists none
          → (i : ℕ) → i < length (xs ∷ lists) → sides.Rise (get_or (k ∷ l ∷ keys) i none) (get_or (k ∷ l ∷ keys) (i + 1) none)
      rising_more here rest zero low = here
      rising_more here rest (suc i) low =
          let next : suc (i + 1) ≡ suc i + 1 = omega arith in
          subst (λ (n : ℕ). sides.Rise (get_or (l ∷ keys) i none) (get_or (k ∷ l ∷ keys) n none)) next (rest.rising i (omega (arith, low)))

      fewer : ByPlaces (k ∷ l ∷ keys) (xs ∷ lists) none → ByPlaces (l ∷ keys) lists none
      fewer are = record {
        between = λ i low.
            let next : suc i + 1 ≡ suc (i + 1) = omega arith in
            subst (λ (n : ℕ). LieBetween sides (get_or (l ∷ keys) i none) (get_or (k ∷ l ∷ keys) n none) (get_or lists i [])) next (are.between (suc i) (omega (arith, low)));
        rising = λ i low.
            let next : suc i + 1 ≡ suc (i + 1) = omega arith in
            subst (λ (n : ℕ). sides.Rise (get_or (l ∷ keys) i none) (get_or (k ∷ l ∷ keys) n none)) next (are.rising (suc i) (omega (arith, low)));
      }

    pub ladder_places : (keys : List K) (lists : List (List X)) → IsLadder sides keys lists → ByPlaces keys lists none
    ladder_places [] lists is = absurd is
    ladder_places (k ∷ []) [] is = record { between = λ i low. absurd (omega (arith, low)); rising = λ i low. absurd (omega (arith, low)) }
    ladder_places (k ∷ []) (xs ∷ lists) is = absurd is
    ladder_places (k ∷ l ∷ keys) [] is = absurd is
    ladder_places (k ∷ l ∷ keys) (xs ∷ lists) is =
        let rest = ladder_places (l ∷ keys) lists is.2 in
        record { between = between_more k l keys xs lists is.0 rest; rising = rising_more k l keys xs lists is.1 rest }

    pub places_ladder : (keys : List K) (lists : List (List X)) → length keys ≡ length lists + 1 → ByPlaces keys lists none → IsLadder sides keys lists
    places_ladder [] lists long are = absurd (omega (arith, long))
    places_ladder (k ∷ []) [] long are = tt
    places_ladder (k ∷ []) (xs ∷ lists) long are = absurd (omega (arith, long))
    places_ladder (k ∷ l ∷ keys) [] long are = absurd (omega (arith, long))
    places_ladder (k ∷ l ∷ keys) (xs ∷ lists) long are =
        (are.between 0 (omega arith), are.rising 0 (omega arith), places_ladder (l ∷ keys) lists (omega (arith, long)) (fewer k l keys xs lists are))

  -- ---- in two halves, which share the key between them

  pub ladder_halves : (keys : List K) (k : K) (more : List K) (lists lists' : List (List X)) → length keys ≡ length lists
      → IsLadder sides (keys ++ k ∷ more) (lists ++ lists') → IsLadder sides (keys ++ k ∷ []) lists × IsLadder sides (k ∷ more) lists'
  ladder_halves [] k more [] lists' long is = (tt, is)
  ladder_halves [] k more (xs ∷ lists) lists' long is = absurd (omega (arith, long))
  ladder_halves (j ∷ keys) k more [] lists' long is = absurd (omega (arith, long))
  ladder_halves (j ∷ []) k more (xs ∷ lists) lists' long is =
      let rest = ladder_halves [] k more lists lists' (omega (arith, long)) is.2 in ((is.0, is.1, rest.0), rest.1)
  ladder_halves (j ∷ i ∷ keys) k more (xs ∷ lists) lists' long is =
      let rest = ladder_halves (i ∷ keys) k more lists lists' (omega (arith, long)) is.2 in ((is.0, is.1, rest.0), rest.1)

  pub halves_ladder : (keys : List K) (k : K) (more : List K) (lists lists' : List (List X)) → length keys ≡ length lists
      → IsLadder sides (keys ++ k ∷ []) lists → IsLadder sides (k ∷ more) lists' → IsLadder sides (keys ++ k ∷ more) (lists ++ lists')
  halves_ladder [] k more [] lists' long is next = next
  halves_ladder [] k more (xs ∷ lists) lists' long is next = absurd (omega (arith, long))
  halves_ladder (j ∷ keys) k more [] lists' long is next = absurd (omega (arith, long))
  halves_ladder (j ∷ []) k more (xs ∷ lists) lists' long is next = (is.0, is.1, halves_ladder [] k more lists lists' (omega (arith, long)) is.2 next)
  halves_ladder (j ∷ i ∷ keys) k more (xs ∷ lists) lists' long is next = (is.0, is.1, halves_ladder (i ∷ keys) k more lists lists' (omega (arith, long)) is.2 next)

  -- one item more between two keys, and one less
  pub item_more : (low high : K) (front : List X) (x : X) (back : List X) → sides.Right low x → sides.Left x high → LieBetween sides low high (front ++ back)
      → LieBetween sides low high (front ++ x ∷ back)
  item_more low high [] x back right left lie = ((right, left), lie)
  item_more low high (y ∷ front) x back right left lie = (lie.0, item_more low high front x back right left lie.1)

  pub item_less : (low high : K) (front : List X) (x : X) (back : List X) → LieBetween sides low high (front ++ x ∷ back) → LieBetween sides low high (front ++ back)
  item_less low high [] x back lie = lie.1
  item_less low high (y ∷ front) x back lie = (lie.0, item_less low high front x back lie.1)

  -- ---- around one child, between the keys l and h

  pub record IsAround (front : List K) (l h : K) (back : List K) (lists : List (List X)) (xs : List X) (lists' : List (List X)) : Type 0 where
    pub left : IsLadder sides (front ++ l ∷ []) lists
    pub lies : LieBetween sides l h xs
    pub rise : sides.Rise l h
    pub right : IsLadder sides (h ∷ back) lists'

  module _ (front : List K) (l h : K) (back : List K) (lists lists' : List (List X)) (long : length front ≡ length lists) where
    pub around_child : (xs : List X) → IsLadder sides (front ++ l ∷ h ∷ back) (lists ++ xs ∷ lists') → IsAround front l h back lists xs lists'
    around_child xs is =
        let parts = ladder_halves front l (h ∷ back) lists (xs ∷ lists') long is in
        record { left = parts.0; lies = parts.1.0; rise = parts.1.1; right = parts.1.2 }

    pub from_around_child : (xs : List X) → IsAround front l h back lists xs lists' → IsLadder sides (front ++ l ∷ h ∷ back) (lists ++ xs ∷ lists')
    from_around_child xs a = halves_ladder front l (h ∷ back) lists (xs ∷ lists') long a.left (a.lies, a.rise, a.right)

    -- other items below the child
    pub child_changed : (xs ys : List X) → LieBetween sides l h ys → IsLadder sides (front ++ l ∷ h ∷ back) (lists ++ xs ∷ lists')
        → IsLadder sides (front ++ l ∷ h ∷ back) (lists ++ ys ∷ lists')
    child_changed xs ys lies is = let a = around_child xs is in from_around_child ys (record { left = a.left; lies = lies; rise = a.rise; right = a.right })

    -- two children in its place, with a key between them
    pub child_more : (k : K) (xs ys zs : List X) → LieBetween sides l k ys → sides.Rise l k → LieBetween sides k h zs → sides.Rise k h
        → IsLadder sides (front ++ l ∷ h ∷ back) (lists ++ xs ∷ lists') → IsLadder sides (front ++ l ∷ k ∷ h ∷ back) (lists ++ ys ∷ zs ∷ lists')
    child_more k xs ys zs first low second high is =
        let a = around_child xs is in halves_ladder front l (k ∷ h ∷ back) lists (ys ∷ zs ∷ lists') long a.left (first, low, (second, high, a.right))

-- ---- where keys are in order

module _ {K X : Type 0} (sides : Sides K X) (orderly : IsOrderly sides) where
  pub wider : (k l h m : K) (xs : List X) → sides.Rise k l → sides.Rise h m → LieBetween sides l h xs → LieBetween sides k m xs
  wider k l h m xs low high lie = all_so (λ x. sides.Right l x × sides.Left x h) (λ x. sides.Right k x × sides.Left x m) xs
      (λ x is. (orderly.right k l x low is.0, orderly.left x h m is.1 high)) lie

  -- all that a ladder has stands between its first key and its last
  pub spanned : (k : K) (keys : List K) (m : K) (lists : List (List X)) → IsLadder sides (k ∷ keys ++ m ∷ []) lists
      → LieBetween sides k m (all_of lists) × sides.Rise k m
  spanned k [] m [] is = absurd is
  spanned k (l ∷ keys) m [] is = absurd is
  spanned k [] m (xs ∷ []) is = (all_append (λ x. sides.Right k x × sides.Left x m) xs [] is.0 tt, is.1)
  spanned k [] m (xs ∷ ys ∷ lists) is = absurd is.2
  spanned k (l ∷ keys) m (xs ∷ lists) is =
      let rest = spanned l keys m lists is.2 in (
        all_append (λ x. sides.Right k x × sides.Left x m) xs (all_of lists)
            (wider k k l m xs (orderly.itself k) rest.1 is.0) (wider k l m m (all_of lists) is.1 (orderly.itself m) rest.0),
        orderly.rises k l m is.1 rest.1,
      )

  -- a lower first key
  pub first_lower : (k l : K) (keys : List K) (lists : List (List X)) → sides.Rise k l → IsLadder sides (l ∷ keys) lists → IsLadder sides (k ∷ keys) lists
  first_lower k l [] [] low is = tt
  first_lower k l [] (xs ∷ lists) low is = absurd is
  first_lower k l (h ∷ keys) [] low is = absurd is
  first_lower k l (h ∷ keys) (xs ∷ lists) low is = (wider k l h h xs low (orderly.itself h) is.0, orderly.rises k l h low is.1, is.2)

  -- a higher last key
  pub last_higher : (front : List K) (h k : K) (lists : List (List X)) → sides.Rise h k → IsLadder sides (front ++ h ∷ []) lists → IsLadder sides (front ++ k ∷ []) lists
  last_higher [] h k [] high is = tt
  last_higher [] h k (xs ∷ lists) high is = absurd is
  last_higher (l ∷ []) h k [] high is = absurd is
  last_higher (l ∷ m ∷ front) h k [] high is = absurd is
  last_higher (l ∷ []) h k (xs ∷ lists) high is = (wider l l h k xs (orderly.itself l) high is.0, orderly.rises l h k is.1 high, last_higher [] h k lists high is.2)
  last_higher (l ∷ m ∷ front) h k (xs ∷ lists) high is = (is.0, is.1, last_higher (m ∷ front) h k lists high is.2)

  -- a child goes, with the key behind it
  pub child_less : (front : List K) (l h : K) (back : List K) (lists : List (List X)) (xs : List X) (lists' : List (List X)) → length front ≡ length lists
      → IsLadder sides (front ++ l ∷ h ∷ back) (lists ++ xs ∷ lists') → IsLadder sides (front ++ l ∷ back) (lists ++ lists')
  child_less front l h back lists xs lists' long is =
      let a = around_child sides front l h back lists lists' long xs is in
      halves_ladder sides front l back lists lists' long a.left (first_lower l h back lists' a.rise a.right)

  -- ---- the one place at which something stands

  module _ (key : ℕ → K) (count : ℕ) (rising : (i : ℕ) → i < count → sides.Rise (key i) (key (i + 1))) where
    keys_rise : (d j : ℕ) → j + d ≤ count → sides.Rise (key j) (key (j + d))
    keys_rise zero j high =
        let none : j ≡ j + 0 = omega arith in subst (λ (n : ℕ). sides.Rise (key j) (key n)) none (orderly.itself (key j))
    keys_rise (suc d) j high =
        let next : j + d + 1 ≡ j + suc d = omega arith in
        subst (λ (n : ℕ). sides.Rise (key j) (key n)) next
        (orderly.rises (key j) (key (j + d)) (key (j + d + 1)) (keys_rise d j (omega arith)) (rising (j + d) (omega arith)))

    -- the keys in order of their places
    pub in_order : (j i : ℕ) → j ≤ i → i ≤ count → sides.Rise (key j) (key i)
    in_order j i low high =
        let over : j + (i - j) ≡ i = omega arith in subst (λ (n : ℕ). sides.Rise (key j) (key n)) over (keys_rise (i - j) j (omega arith))

    -- what stands between keys j and j + 1 is not to the left of key i and not to the right of key i + 1: so i is j
    pub one_place : (x : X) (i j : ℕ) → i < count → j < count → (1 ≤ i → sides.Right (key i) x) → (i + 1 < count → sides.Right (key (i + 1)) x → ⊥)
        → sides.Right (key j) x → sides.Left x (key (j + 1)) → j ≡ i
    one_place x i j low_i low_j after before right left = elim (cases_order j i) [
      | inl eq ↦ eq
      | inr w ↦ elim w [
        | inl lt ↦ absurd (orderly.apart (key i) x (after (omega arith)) (orderly.left x (key (j + 1)) (key i) left (in_order (j + 1) i (omega arith) (omega arith))))
        | inr gt ↦ absurd (before (omega arith) (orderly.right (key (i + 1)) (key j) x (in_order (i + 1) j (omega arith) (omega arith)) right))
      ]
    ]

-- ---- keys of which nothing is said rise where something stands between any two of them

module _ {K X : Type 0} (sides : Sides K X) (Rise : K → K → Type 0) (so : (k l : K) (x : X) → sides.Right k x → sides.Left x l → Rise k l) where
  some_between : (k l : K) (xs : List X) → 1 ≤ length xs → LieBetween sides k l xs → Rise k l
  some_between k l [] some lie = absurd (omega (arith, some))
  some_between k l (x ∷ xs) some lie = so k l x lie.0.0 lie.0.1

  pub risen : (keys : List K) (lists : List (List X)) → AllByRecursion (λ (xs : List X). 1 ≤ length xs) lists → IsLadder sides keys lists
      → IsLadder (record sides { Rise = Rise }) keys lists
  risen [] lists some is = absurd is
  risen (k ∷ []) [] some is = tt
  risen (k ∷ []) (xs ∷ lists) some is = absurd is
  risen (k ∷ l ∷ keys) [] some is = absurd is
  risen (k ∷ l ∷ keys) (xs ∷ lists) some is = (is.0, some_between k l xs some.0 is.0, risen (l ∷ keys) lists some.1 is.2)
