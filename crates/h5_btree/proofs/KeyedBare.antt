-- A child at which nothing stands is taken out of a tree: the keys stay in order, the items are the same, and each key was one before.
use Rattle.std.proofs.Common.{◌≡◌, inl, inr, ℕ, zero, suc, ◌^◌, ◌<◌, ◌⊎◌, List, [], ◌∷◌, ◌++◌, length, get_or, refl, sym, ap, ◌∙◌, subst}
use Rattle.std.specs.List.{AllByRecursion, remove, flat_map}
use Rattle.std.proofs.lemmas.Grind.{flat_map-append}
use Rattle.h5_bytes.proofs.BlockLaws.{all_append, all_left, all_right}
use Rattle.h5_model.specs.Format.Nodes.{Kind, node_at}
use Rattle.h5_laws.specs.Ladders.{Sides, IsOrderly}
use Rattle.h5_laws.specs.KeyTrees.{KeyTree, items_in, IsSorted}
use Rattle.h5_laws.specs.KeyEdits.{Enters, IsEmptied, Removes}
use Rattle.h5_laws.proofs.KeyLadders.{Ladder, around, from_around, without}
use Rattle.h5_space.specs.Space.{Space}
use Rattle.h5_btree.specs.Keyed.{AtChild, IsInOrder, items_of_tree}
use Rattle.h5_btree.specs.Removal.{EndsInTree, IsTakenAlong}
use Rattle.h5_btree.specs.declared.way.Step.{Step}
use Rattle.h5_btree.proofs.KeyedTakes.{along_sorted}

module _ {K B X : Type 0} (sides : Sides K X) (orderly : IsOrderly sides) (items : B → List X) (Base : B → Type 0) (Takes : B → B → Type 0) (Empty : B → Type 0)
    (none : (b : B) → Empty b → items b ≡ []) (base : (b c : B) → Base b → Takes b c → Base c × (items c ≡ items b)) where
  abbrev I : (height : ℕ) → KeyTree K B height → List X
  I = items_in K items

  abbrev S : (height : ℕ) → KeyTree K B height → Type 0
  S = IsSorted sides items Base

  emptied_none : (height : ℕ) (t : KeyTree K B height) → IsEmptied K Empty height t → I height t ≡ []
  emptied_none zero b empty = none b empty
  emptied_none (suc height) t empty = ap (flat_map (I height)) empty

  module _ (height : ℕ) where
    abbrev T : Type 0
    T = KeyTree K B height

    node_bare : (node new : List K × List T) → S (suc height) node → (w : Enters node.0 node.1) (c : T) → S height c × (I height c ≡ I height w.child)
        → ((new.0 ≡ node.0) × (new.1 ≡ w.xs ++ c ∷ w.ys)) ⊎ (IsEmptied K Empty height c × (new.0 ≡ w.kb ++ w.j ∷ w.ka) × (new.1 ≡ w.xs ++ w.ys))
        → S (suc height) new × (I (suc height) new ≡ I (suc height) node)
    node_bare node new sorted w c below which =
        let ladder = subst (λ (ks : List K). Ladder sides (I height) ks (w.xs ++ w.child ∷ w.ys)) w.keys_are (subst (λ (cs : List T). Ladder sides (I height) node.0 cs) w.children_are sorted.0) in
        let a = around sides (I height) w.kb w.k w.j w.ka w.xs w.child w.ys w.place ladder in
        let each = subst (AllByRecursion (S height)) w.children_are sorted.1 in
        let before = all_left (S height) w.xs (w.child ∷ w.ys) each in
        let behind = (all_right (S height) w.xs (w.child ∷ w.ys) each).1 in
        let old : I (suc height) node ≡ flat_map (I height) w.xs ++ (I height w.child ++ flat_map (I height) w.ys)
        = ap (flat_map (I height)) w.children_are ∙ flat_map-append (I height) w.xs (w.child ∷ w.ys) in
        elim which [
          | inl stays ↦
              let lies = subst (AllByRecursion (λ y. sides.Right w.k y × sides.Left y w.j)) (sym below.1) a.lies in
              let is = from_around sides (I height) w.kb w.k w.j w.ka w.xs c w.ys w.place (record { left = a.left; lies = lies; rise = a.rise; right = a.right }) in (
                (
                  subst (λ (ks : List K). Ladder sides (I height) ks new.1) (sym (stays.0 ∙ w.keys_are))
                      (subst (λ (cs : List T). Ladder sides (I height) (w.kb ++ w.k ∷ w.j ∷ w.ka) cs) (sym stays.1) is),
                  subst (AllByRecursion (S height)) (sym stays.1) (all_append (S height) w.xs (c ∷ w.ys) before (below.0, behind)),
                ),
                ap (flat_map (I height)) stays.1 ∙ flat_map-append (I height) w.xs (c ∷ w.ys)
                    ∙ ap (λ (o : List X). flat_map (I height) w.xs ++ (o ++ flat_map (I height) w.ys)) below.1 ∙ sym old,
              )
          | inr goes ↦
              let is = without sides (I height) orderly w.kb w.k w.j w.ka w.xs w.child w.ys w.place ladder in
              let no : I height w.child ≡ [] = sym below.1 ∙ emptied_none height c goes.0 in (
                (
                  subst (λ (ks : List K). Ladder sides (I height) ks new.1) (sym goes.1)
                      (subst (λ (cs : List T). Ladder sides (I height) (w.kb ++ w.j ∷ w.ka) cs) (sym goes.2) is),
                  subst (AllByRecursion (S height)) (sym goes.2) (all_append (S height) w.xs w.ys before behind),
                ),
                ap (flat_map (I height)) goes.2 ∙ flat_map-append (I height) w.xs w.ys
                    ∙ ap (λ (o : List X). flat_map (I height) w.xs ++ (o ++ flat_map (I height) w.ys)) (sym no) ∙ sym old,
              )
        ]

  -- a removal of what has no items keeps the order and the items
  pub removes_bare : (height : ℕ) (t new : KeyTree K B height) → S height t → Removes K Takes Empty height t new → S height new × (I height new ≡ I height t)
  removes_bare zero b c sorted takes = base b c sorted takes
  removes_bare (suc height) node new sorted removes =
      let w = removes.0 in
      let each = subst (AllByRecursion (S height)) w.children_are sorted.1 in
      let here = (all_right (S height) w.xs (w.child ∷ w.ys) each).0 in
      node_bare height node new sorted w removes.1 (removes_bare height w.child removes.1 here removes.2) removes.3

module _ {B X : Type 0} (sides : Sides (List ℕ) X) (orderly : IsOrderly sides) (items : B → List X) (Base : B → Type 0) (none : B) (nothing : items none ≡ []) (is_base : Base none) where
  abbrev Takes : B → B → Type 0
  Takes b c = (items b ≡ []) × (c ≡ none)

  abbrev Empty : B → Type 0
  Empty c = c ≡ none

  abbrev IsSame : List X → List X → Type 0
  IsSame old new = new ≡ old

  empty_items : (c : B) → Empty c → items c ≡ []
  empty_items c is = ap items is ∙ nothing

  takes_base : (b c : B) → Base b → Takes b c → Base c × (items c ≡ items b)
  takes_base b c base takes = (subst Base (sym takes.1) is_base, empty_items c takes.1 ∙ sym takes.0)

  module _ (s t : Space) (kind : Kind) (root level : ℕ) (way : List Step) (owned list : List ℕ) (k : ℕ) (e : EndsInTree s kind root level way owned list k)
      (taken : IsTakenAlong s t kind root way (remove list k) owned) (short : length t.bytes < 2 ^ 64)
      (was now : AtChild B) (same : AllByRecursion (λ c. (key : List ℕ) → now key c ≡ was key c) (remove list k))
      (bare : items (was (get_or (node_at s.bytes kind e.step.node).keys e.step.place []) (get_or (node_at s.bytes kind e.step.node).children e.step.place 0)) ≡ []) where
    -- THE KEYS STAY IN ORDER where a child at which nothing stands is taken out along a way, and the items are the same.
    pub bare_sorted : IsInOrder sides items Base s.bytes kind was level root
        → IsInOrder sides items Base t.bytes kind now taken.3 root × (items_of_tree items t.bytes kind now taken.3 root ≡ items_of_tree items s.bytes kind was level root)
    bare_sorted = along_sorted sides items Base none Takes Empty IsSame (removes_bare sides orderly items Base Takes Empty empty_items takes_base)
        s t kind root level way owned list k e taken short was now same (bare, refl) refl
