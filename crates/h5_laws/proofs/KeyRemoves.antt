-- A tree of keys with one item less, and with keys retired, is in order.
use Rattle.std.proofs.Common.{◌≡◌, ℕ, zero, suc, ◌⊎◌, inl, inr, List, [], ◌∷◌, ◌++◌, map, refl, sym, ap, ap₂, ◌∙◌, subst}
use Rattle.std.specs.List.{flat_map, AllByRecursion}
use Rattle.std.proofs.lemmas.List.{append_assoc}
use Rattle.std.proofs.lemmas.Grind.{flat_map-append}
use Rattle.h5_bytes.proofs.BlockLaws.{all_append, all_left, all_right, all_so}
use Rattle.h5_laws.specs.Ladders.{Sides, LieBetween, IsLadder, IsOrderly}
use Rattle.h5_laws.specs.KeyTrees.{KeyTree, items_in, IsSorted}
use Rattle.h5_laws.specs.KeyEdits.{IsTaken, Enters, IsEmptied, Removes, AreRetired, RetiresKeys, AreAlike, Retires}
use Rattle.h5_laws.specs.ExactKeys.{EachKey}
use Rattle.h5_laws.proofs.KeyLadders.{Ladder, around, from_around, without}
use Rattle.h5_laws.proofs.Ladders.{wider}

module _ {X : Type 0} (x : X) where
  all_less : (Q : X → Type 0) (front back : List X) → AllByRecursion Q (front ++ x ∷ back) → AllByRecursion Q (front ++ back)
  all_less Q [] back all = all.1
  all_less Q (f ∷ front) back all = (all.0, all_less Q front back all.1)

  pub taken_all : (Q : X → Type 0) (old new : List X) → IsTaken x old new → AllByRecursion Q old → AllByRecursion Q new
  taken_all Q old new p all = subst (AllByRecursion Q) (sym p.after) (all_less Q p.front p.back (subst (AllByRecursion Q) p.before all))

  pub taken_between : (xs old new ys : List X) → IsTaken x old new → IsTaken x (xs ++ (old ++ ys)) (xs ++ (new ++ ys))
  taken_between xs old new ys p = record {
    front = xs ++ p.front;
    back = p.back ++ ys;
    before = ap (λ (o : List X). xs ++ (o ++ ys)) p.before ∙ ap (λ (o : List X). xs ++ o) (append_assoc p.front (x ∷ p.back) ys) ∙ sym (append_assoc xs p.front (x ∷ p.back ++ ys));
    after = ap (λ (o : List X). xs ++ (o ++ ys)) p.after ∙ ap (λ (o : List X). xs ++ o) (append_assoc p.front p.back ys) ∙ sym (append_assoc xs p.front (p.back ++ ys));
  }

module _ {K B X : Type 0} (sides : Sides K X) (orderly : IsOrderly sides) (items : B → List X) (Base : B → Type 0) where
  abbrev I : (height : ℕ) → KeyTree K B height → List X
  I = items_in K items

  abbrev S : (height : ℕ) → KeyTree K B height → Type 0
  S = IsSorted sides items Base

  -- ---- an item goes

  module _ (x : X) (Takes : B → B → Type 0) (Empty : B → Type 0) (none : (b : B) → Empty b → items b ≡ [])
      (base : (b c : B) → Base b → Takes b c → Base c × IsTaken x (items b) (items c)) where
    emptied_none : (height : ℕ) (t : KeyTree K B height) → IsEmptied K Empty height t → I height t ≡ []
    emptied_none zero b empty = none b empty
    emptied_none (suc height) t empty = ap (flat_map (I height)) empty

    module _ (height : ℕ) where
      abbrev T : Type 0
      T = KeyTree K B height

      node_removed : (node new : List K × List T) → S (suc height) node → (w : Enters node.0 node.1) (c : T)
          → S height c × IsTaken x (I height w.child) (I height c)
          → ((new.0 ≡ node.0) × (new.1 ≡ w.xs ++ c ∷ w.ys)) ⊎ (IsEmptied K Empty height c × (new.0 ≡ w.kb ++ w.j ∷ w.ka) × (new.1 ≡ w.xs ++ w.ys))
          → S (suc height) new × IsTaken x (I (suc height) node) (I (suc height) new)
      node_removed node new sorted w c below which =
          let ladder = subst (λ (ks : List K). Ladder sides (I height) ks (w.xs ++ w.child ∷ w.ys)) w.keys_are (subst (λ (cs : List T). Ladder sides (I height) node.0 cs) w.children_are sorted.0) in
          let a = around sides (I height) w.kb w.k w.j w.ka w.xs w.child w.ys w.place ladder in
          let each = subst (AllByRecursion (S height)) w.children_are sorted.1 in
          let before = all_left (S height) w.xs (w.child ∷ w.ys) each in
          let behind = (all_right (S height) w.xs (w.child ∷ w.ys) each).1 in
          let old : I (suc height) node ≡ flat_map (I height) w.xs ++ (I height w.child ++ flat_map (I height) w.ys)
          = ap (flat_map (I height)) w.children_are ∙ flat_map-append (I height) w.xs (w.child ∷ w.ys) in
          let taken = taken_between x (flat_map (I height) w.xs) (I height w.child) (I height c) (flat_map (I height) w.ys) below.1 in
          elim which [
            | inl stays ↦
                let lies = taken_all x (λ y. sides.Right w.k y × sides.Left y w.j) (I height w.child) (I height c) below.1 a.lies in
                let is = from_around sides (I height) w.kb w.k w.j w.ka w.xs c w.ys w.place (record { left = a.left; lies = lies; rise = a.rise; right = a.right }) in (
                  (
                    subst (λ (ks : List K). Ladder sides (I height) ks new.1) (sym (stays.0 ∙ w.keys_are))
                        (subst (λ (cs : List T). Ladder sides (I height) (w.kb ++ w.k ∷ w.j ∷ w.ka) cs) (sym stays.1) is),
                    subst (AllByRecursion (S height)) (sym stays.1) (all_append (S height) w.xs (c ∷ w.ys) before (below.0, behind)),
                  ),
                  subst (λ (o : List X). IsTaken x o (I (suc height) new)) (sym old)
                      (subst (IsTaken x (flat_map (I height) w.xs ++ (I height w.child ++ flat_map (I height) w.ys)))
                      (sym (ap (flat_map (I height)) stays.1 ∙ flat_map-append (I height) w.xs (c ∷ w.ys))) taken),
                )
            | inr goes ↦
                let is = without sides (I height) orderly w.kb w.k w.j w.ka w.xs w.child w.ys w.place ladder in
                let no : I height c ≡ [] = emptied_none height c goes.0 in (
                  (
                    subst (λ (ks : List K). Ladder sides (I height) ks new.1) (sym goes.1)
                        (subst (λ (cs : List T). Ladder sides (I height) (w.kb ++ w.j ∷ w.ka) cs) (sym goes.2) is),
                    subst (AllByRecursion (S height)) (sym goes.2) (all_append (S height) w.xs w.ys before behind),
                  ),
                  subst (λ (o : List X). IsTaken x o (I (suc height) new)) (sym old)
                      (subst (IsTaken x (flat_map (I height) w.xs ++ (I height w.child ++ flat_map (I height) w.ys)))
                      (sym (ap (flat_map (I height)) goes.2 ∙ flat_map-append (I height) w.xs w.ys
                      ∙ ap (λ (o : List X). flat_map (I height) w.xs ++ (o ++ flat_map (I height) w.ys)) (sym no))) taken),
                )
          ]

    -- A REMOVAL KEEPS THE ORDER
    pub removes_sorted : (height : ℕ) (t new : KeyTree K B height) → S height t → Removes K Takes Empty height t new → S height new × IsTaken x (I height t) (I height new)
    removes_sorted zero b c sorted takes = base b c sorted takes
    removes_sorted (suc height) node new sorted removes =
        let w = removes.0 in
        let each = subst (AllByRecursion (S height)) w.children_are sorted.1 in
        let here = (all_right (S height) w.xs (w.child ∷ w.ys) each).0 in
        node_removed height node new sorted w removes.1 (removes_sorted height w.child removes.1 here removes.2) removes.3

  -- ---- keys are retired

  module _ (Below : X → X → Type 0) (through : (l h : K) (y : X) → sides.Right l y → sides.Left y h → sides.Rise l h)
      (hit : K → Type 0) (key_of : X → K) (lowest : K)
      (own : (y : X) → sides.Left y (key_of y)) (under : (y z : X) → Below y z → sides.Left y (key_of z))
      (up_to : (y : X) (k : K) → sides.Left y k → sides.Rise (key_of y) k) (least : (k : K) → sides.Rise lowest k) where
    -- each item is below all behind it
    abbrev pub AreRising : List X → Type 0
    AreRising [] = Unit {0}
    AreRising (y ∷ ys) = AllByRecursion (Below y) ys × AreRising ys

    rising_left : (xs ys : List X) → AreRising (xs ++ ys) → AreRising xs
    rising_left [] ys rises = tt
    rising_left (x ∷ xs) ys rises = (all_left (Below x) xs ys rises.0, rising_left xs ys rises.1)

    rising_right : (xs ys : List X) → AreRising (xs ++ ys) → AreRising ys
    rising_right [] ys rises = rises
    rising_right (x ∷ xs) ys rises = rising_right xs ys rises.1

    -- all are to the left of the last one's key
    last_left : (front : List X) (y : X) → AreRising (front ++ y ∷ []) → AllByRecursion (λ z. sides.Left z (key_of y)) (front ++ y ∷ [])
    last_left [] y rises = (own y, tt)
    last_left (f ∷ front) y rises = (under f y (all_right (Below f) front (y ∷ []) rises.0).0, last_left front y rises.1)

    last_of : (P : X → Type 0) (front : List X) (y : X) → AllByRecursion P (front ++ y ∷ []) → P y
    last_of P front y all = (all_right P front (y ∷ []) all).0

    -- from a key that is k now and was `old`
    retired_ladder : (old k : K) (keys : List K) (lists : List (List X)) (new : List K) → sides.Rise k old → AllByRecursion AreRising lists
        → IsLadder sides (old ∷ keys) lists → AreRetired hit key_of k keys lists new → IsLadder sides (k ∷ new) lists
    retired_ladder old k [] [] new low rises is are = subst (λ (ks : List K). IsLadder sides (k ∷ ks) []) (sym are) tt
    retired_ladder old k [] (xs ∷ lists) new low rises is are = absurd is
    retired_ladder old k (l ∷ keys) [] new low rises is are = absurd is
    retired_ladder old k (l ∷ keys) (xs ∷ lists) [] low rises is are = absurd are
    retired_ladder old k (l ∷ keys) (xs ∷ lists) (l' ∷ new) low rises is are =
        let lies : LieBetween sides k l xs = wider sides orderly k old l l xs low (orderly.itself l) is.0 in
        let here : LieBetween sides k l' xs × sides.Rise k l' × sides.Rise l' l = elim are.0 [
          | inl same ↦ subst (λ n. LieBetween sides k n xs × sides.Rise k n × sides.Rise n l) (sym same.1) (lies, orderly.rises k old l low is.1, orderly.itself l)
          | inr gone ↦ elim gone [
            | inl none ↦ (
              subst (LieBetween sides k l') (sym none.1) tt,
              subst (sides.Rise k) (sym none.2) (orderly.itself k),
              subst (λ n. sides.Rise n l) (sym none.2) (orderly.rises k old l low is.1),
            )
            | inr some ↦
                let y = some.1.0 in
                let front = some.1.1 in
                let list = subst (LieBetween sides k l) some.1.2 lies in
                let left = last_left front y (subst AreRising some.1.2 rises.0) in
                let at : sides.Right k y × sides.Left y l = last_of (λ z. sides.Right k z × sides.Left z l) front y list in
                subst (λ n. LieBetween sides k n xs × sides.Rise k n × sides.Rise n l) (sym some.1.3) (
                  subst (LieBetween sides k (key_of y)) (sym some.1.2) (both (front ++ y ∷ []) (all_so (λ z. sides.Right k z × sides.Left z l) (sides.Right k) (front ++ y ∷ []) (λ z so. so.0) list) y left),
                  through k (key_of y) y at.0 (own y),
                  up_to y l at.1,
                )
          ]
        ] in
        (here.0, here.1, retired_ladder l l' keys lists new here.2 rises.1 is.2 are.1)
      where
        both : (zs : List X) → AllByRecursion (sides.Right k) zs → (y : X) → AllByRecursion (λ z. sides.Left z (key_of y)) zs → LieBetween sides k (key_of y) zs
        both [] right y left = tt
        both (z ∷ zs) right y left = ((right.0, left.0), both zs right.1 y left.1)

    -- the lists of a node's children rise where all its items do
    rising_lists : {Y : Type 0} (f : Y → List X) (ys : List Y) → AreRising (flat_map f ys) → AllByRecursion AreRising (map f ys)
    rising_lists f [] rises = tt
    rising_lists f (y ∷ ys) rises = (rising_left (f y) (flat_map f ys) rises, rising_lists f ys (rising_right (f y) (flat_map f ys) rises))

    -- THE ORDER STAYS where keys are retired, and so do the items
    abbrev pub IsSame : (height : ℕ) → KeyTree K B height → KeyTree K B height → Type 0
    IsSame height t new = S height new × (I height new ≡ I height t)

    each_same : (height : ℕ) (so : (t new : KeyTree K B height) → S height t → AreRising (I height t) → Retires hit key_of lowest items height t new → IsSame height t new)
        → (ts us : List (KeyTree K B height)) → AllByRecursion (S height) ts → AreRising (flat_map (I height) ts) → AreAlike (Retires hit key_of lowest items height) ts us
        → AllByRecursion (S height) us × (map (I height) us ≡ map (I height) ts) × (flat_map (I height) us ≡ flat_map (I height) ts)
    each_same height so [] [] sorted rises alike = (tt, refl, refl)
    each_same height so [] (u ∷ us) sorted rises alike = absurd alike
    each_same height so (t ∷ ts) [] sorted rises alike = absurd alike
    each_same height so (t ∷ ts) (u ∷ us) sorted rises alike =
        let one = so t u sorted.0 (rising_left (I height t) (flat_map (I height) ts) rises) alike.0 in
        let rest = each_same height so ts us sorted.1 (rising_right (I height t) (flat_map (I height) ts) rises) alike.1 in
        ((one.0, rest.0), ap₂ (λ (a : List X) (b : List (List X)). a ∷ b) one.1 rest.1, ap₂ (λ (a b : List X). a ++ b) one.1 rest.2)

    node_retired : (keys new : List K) (lists : List (List X)) → AllByRecursion AreRising lists → IsLadder sides keys lists → RetiresKeys hit key_of lowest keys lists new → IsLadder sides new lists
    node_retired [] new lists rises is retires = absurd is
    node_retired (k ∷ keys) [] lists rises is retires = absurd retires
    node_retired (k ∷ keys) (k' ∷ new) lists rises is retires =
        let low : sides.Rise k' k = elim retires.0 [
          | inl same ↦ subst (λ n. sides.Rise n k) (sym same.1) (orderly.itself k)
          | inr gone ↦ subst (λ n. sides.Rise n k) (sym gone.1) (least k)
        ] in
        retired_ladder k k' keys lists new low rises is retires.1

    pub retires_sorted : (height : ℕ) (t new : KeyTree K B height) → S height t → AreRising (I height t) → Retires hit key_of lowest items height t new → IsSame height t new
    retires_sorted zero b c sorted rises retires = (subst Base (sym retires) sorted, ap items retires)
    retires_sorted (suc height) node new sorted rises retires =
        let below = each_same height (retires_sorted height) node.1 new.1 sorted.1 rises retires.1 in
        let ladder = node_retired node.0 new.0 (map (I height) node.1) (rising_lists (I height) node.1 rises) sorted.0 retires.0 in
        ((subst (IsLadder sides new.0) (sym below.1) ladder, below.0), below.2)

    -- ---- no key is hit any more

    module _ (safe : hit lowest → ⊥) where
      -- each key of the tree is one of those
      abbrev pub AllKeys : (K → Type 0) → (height : ℕ) → KeyTree K B height → Type 0
      AllKeys P height t = EachKey B P height t

      abbrev Safe : K → Type 0
      Safe k = hit k → ⊥

      keys_safe : (before : K) (keys : List K) (lists : List (List X)) (new : List K) → Safe before → AllByRecursion (λ (xs : List X). AllByRecursion (λ y. Safe (key_of y)) xs) lists
          → AreRetired hit key_of before keys lists new → AllByRecursion Safe new
      keys_safe before [] lists new ok named are = subst (AllByRecursion Safe) (sym are) tt
      keys_safe before (k ∷ keys) [] new ok named are = absurd are
      keys_safe before (k ∷ keys) (xs ∷ lists) [] ok named are = absurd are
      keys_safe before (k ∷ keys) (xs ∷ lists) (k' ∷ new) ok named are =
          let here : Safe k' = elim are.0 [
            | inl same ↦ subst Safe (sym same.1) same.0
            | inr gone ↦ elim gone [
              | inl none ↦ subst Safe (sym none.2) ok
              | inr some ↦ subst Safe (sym some.1.3) ((all_right (λ y. Safe (key_of y)) some.1.1 (some.1.0 ∷ []) (subst (AllByRecursion (λ y. Safe (key_of y))) some.1.2 named.0)).0)
            ]
          ] in (here, keys_safe k' keys lists new here named.1 are.1)

      named_lists : {Y : Type 0} (P : X → Type 0) (f : Y → List X) (ys : List Y) → AllByRecursion P (flat_map f ys) → AllByRecursion (λ (xs : List X). AllByRecursion P xs) (map f ys)
      named_lists P f [] all = tt
      named_lists P f (y ∷ ys) all = (all_left P (f y) (flat_map f ys) all, named_lists P f ys (all_right P (f y) (flat_map f ys) all))

      node_safe : (keys new : List K) (lists : List (List X)) → AllByRecursion (λ (xs : List X). AllByRecursion (λ y. Safe (key_of y)) xs) lists → RetiresKeys hit key_of lowest keys lists new → AllByRecursion Safe new
      node_safe [] new lists named retires = subst (AllByRecursion Safe) (sym retires) tt
      node_safe (k ∷ keys) [] lists named retires = absurd retires
      node_safe (k ∷ keys) (k' ∷ new) lists named retires =
          let first : Safe k' = elim retires.0 [
            | inl same ↦ subst Safe (sym same.1) same.0
            | inr gone ↦ subst Safe (sym gone.1) safe
          ] in (first, keys_safe k' keys lists new first named retires.1)

      each_safe : (height : ℕ) (so : (t new : KeyTree K B height) → AllByRecursion (λ y. Safe (key_of y)) (I height t) → Retires hit key_of lowest items height t new → AllKeys Safe height new)
          → (ts us : List (KeyTree K B height)) → AllByRecursion (λ y. Safe (key_of y)) (flat_map (I height) ts) → AreAlike (Retires hit key_of lowest items height) ts us → AllByRecursion (AllKeys Safe height) us
      each_safe height so [] [] named alike = tt
      each_safe height so [] (u ∷ us) named alike = absurd alike
      each_safe height so (t ∷ ts) [] named alike = absurd alike
      each_safe height so (t ∷ ts) (u ∷ us) named alike = (
        so t u (all_left (λ y. Safe (key_of y)) (I height t) (flat_map (I height) ts) named) alike.0,
        each_safe height so ts us (all_right (λ y. Safe (key_of y)) (I height t) (flat_map (I height) ts) named) alike.1,
      )

      -- NO KEY IS HIT where no item's own key is
      pub retires_safe : (height : ℕ) (t new : KeyTree K B height) → AllByRecursion (λ y. Safe (key_of y)) (I height t) → Retires hit key_of lowest items height t new → AllKeys Safe height new
      retires_safe zero b c named retires = tt
      retires_safe (suc height) node new named retires = (
        node_safe node.0 new.0 (map (I height) node.1) (named_lists (λ y. Safe (key_of y)) (I height) node.1 named) retires.0,
        each_safe height (retires_safe height) node.1 new.1 named retires.1,
      )
