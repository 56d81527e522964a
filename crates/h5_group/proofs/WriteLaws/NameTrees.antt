-- The tree of a group in the plain layout: its keys are offsets of names, and it is ordered where the names below its children are (File
-- Format Specification 3.0, section III.A.1).
use Rattle.std.proofs.Common.{◌≡◌, ℕ, ◌+◌, ◌^◌, ◌<◌, List, [], ◌∷◌, length, map, refl, sym, ap, ◌∙◌, subst, arith}
use Rattle.std.specs.List.{AllByRecursion, Contains}
use Rattle.std.proofs.lemmas.List.Elements.{All-from_recursion, All-contains}
use Rattle.std.proofs.lemmas.Simd.{map-map}
use Rattle.h5_bytes.specs.Numbers.{word}
use Rattle.h5_bytes.specs.Texts.{text_at}
use Rattle.h5_bytes.proofs.BlockLaws.{all_append, all_so}
use Rattle.h5_model.specs.Format.Links.{IsOrdered, Symbols, key_offsets, names_in, offset_in}
use Rattle.h5_model.specs.Format.Nodes.{group_kind, reading_of}
use Rattle.h5_model.specs.Format.Rows.{Reading}
use Rattle.h5_laws.specs.Ladders.{IsLadder, IsOrderedBy}
use Rattle.h5_laws.specs.NameLadders.{key_text, name_lists, name_sides}
use Rattle.h5_laws.proofs.NameLadders.{ladder_texts, name_order, names_by}
use Rattle.h5_btree.specs.declared.write.child.Child.{Child}
use Rattle.h5_btree.specs.Writing.Laws.{HasPlainNodes, IsBeside, lists_beside}
use Rattle.h5_btree.specs.Writing.Written.{AllFit, keys_of, places_of}
use Rattle.h5_btree.proofs.WriteLaws.NodeReads.{one_more}
use Rattle.h5_btree.proofs.KeyedKeys.{all_mapped}
use Rattle.h5_group.proofs.NameKeys.{offset_is}

-- ---- keys

-- the offsets of the last names below these children
abbrev pub lasts_of : List (Child ℕ) → List ℕ
lasts_of children = map (λ (c : Child ℕ). c.key) children

-- each has eight bytes
pub lasts_fit : (k : ℕ) (children : List (Child ℕ)) → AllFit (group_kind k) word children
lasts_fit k [] = tt
lasts_fit k (c ∷ children) = (refl, lasts_fit k children)

-- ---- names

-- The names below the children form a ladder, with the name before them and the last name below each: those below a child are above the
-- last name before it, and not above its own last name.
abbrev pub AreOrdered : Symbols → List ℕ → ℕ → List (Child ℕ) → Type 0
AreOrdered S segment before children =
    IsLadder (name_sides (text_at segment)) (before ∷ lasts_of children) (map (λ (c : Child ℕ). names_in S segment (c.at ∷ [])) children)

-- the names in a symbol node; its address tells them, whatever key is before it
abbrev names_beside : Symbols → List ℕ → List ℕ → ℕ → List (List ℕ)
names_beside S segment key at = names_in S segment (at ∷ [])

module _ (S : Symbols) (segment : List ℕ) where
  each_beside : (keys : List (List ℕ)) (places : List ℕ) → length keys ≡ length places + 1
      → map (λ at. names_in S segment (at ∷ [])) places ≡ lists_beside (names_beside S segment) keys places
  each_beside [] places long = absurd (omega (arith, long))
  each_beside (key ∷ keys) [] long = refl
  each_beside (key ∷ keys) (at ∷ places) long =
      ap (λ (lists : List (List (List ℕ))). names_in S segment (at ∷ []) ∷ lists) (each_beside keys places (omega (arith, long)))

  is_beside : IsBeside (names_beside S segment) (name_lists S segment)
  is_beside node long = each_beside node.keys node.children long

  module _ (children : List (Child ℕ)) (small : AllByRecursion (λ n. n < 2 ^ 64) (lasts_of children)) where
    same_texts : (ns : List ℕ) → AllByRecursion (λ n. n < 2 ^ 64) ns → AllByRecursion (λ n. key_text segment (word n) ≡ text_at segment n) ns
    same_texts ns low = all_so (λ n. n < 2 ^ 64) (λ n. key_text segment (word n) ≡ text_at segment n) ns (λ n is. ap (text_at segment) (offset_is n is)) low

    -- so do the keys as they are written, with the names beside them
    by_words : AreOrdered S segment 0 children
        → IsLadder (name_sides (key_text segment)) (keys_of word 0 children) (lists_beside (names_beside S segment) (keys_of word 0 children) (places_of children))
    by_words are =
        let lists : List (List (List ℕ)) = map (λ (c : Child ℕ). names_in S segment (c.at ∷ [])) children in
        let beside : lists ≡ lists_beside (names_beside S segment) (keys_of word 0 children) (places_of children)
        = sym (map-map (λ at. names_in S segment (at ∷ [])) (λ (c : Child ℕ). c.at) children)
        ∙ each_beside (keys_of word 0 children) (places_of children) (one_more word 0 children) in
        let keys : map word (0 ∷ lasts_of children) ≡ keys_of word 0 children
        = ap (λ (ks : List (List ℕ)). word 0 ∷ ks) (map-map word (λ (c : Child ℕ). c.key) children) in
        subst (λ (ks : List (List ℕ)). IsLadder (name_sides (key_text segment)) ks (lists_beside (names_beside S segment) (keys_of word 0 children) (places_of children))) keys
        (subst (IsLadder (name_sides (key_text segment)) (map word (0 ∷ lasts_of children))) beside
        (ladder_texts (text_at segment) (key_text segment) word (0 ∷ lasts_of children) lists (same_texts (0 ∷ lasts_of children) (omega arith, small)) are))

module _ (image : List ℕ) (k at : ℕ) (children : List (Child ℕ)) (small : AllByRecursion (λ n. n < 2 ^ 64) (lasts_of children))
    (plain : HasPlainNodes image (group_kind k) word 0 at children) where
  abbrev V : Reading
  V = reading_of image (group_kind k) plain.owned

  -- the tree is ordered where the names below its children are
  pub names_ordered : (S : Symbols) (segment : List ℕ) → AreOrdered S segment 0 children → AllByRecursion (λ n. IsOrdered V S segment (V n)) plain.owned
  names_ordered S segment are =
      all_so (λ n. IsOrderedBy (name_sides (key_text segment)) V (name_lists S segment) (V n)) (λ n. IsOrdered V S segment (V n)) plain.owned
      (λ n is. names_by V S segment (V n) is)
      (plain.ordered (name_sides (key_text segment)) (names_beside S segment) (name_lists S segment) (name_order (key_text segment)) (is_beside S segment)
      (by_words S segment children small are))

  -- what holds of the empty name's offset and of those of last names, holds of the offset in each key
  module _ (Q : ℕ → Type 0) (first : Q 0) (lasts : AllByRecursion Q (lasts_of children)) where
    both : (ns : List ℕ) → AllByRecursion (λ n. n < 2 ^ 64) ns → AllByRecursion Q ns → AllByRecursion (λ n. Q (offset_in (word n))) ns
    both [] low all = tt
    both (n ∷ ns) low all = (subst Q (sym (offset_is n low.0)) all.0, both ns low.1 all.1)

    keys_so : AllByRecursion (λ key. Q (offset_in key)) (keys_of word 0 children)
    keys_so =
        subst (AllByRecursion (λ key. Q (offset_in key))) (ap (λ (ks : List (List ℕ)). word 0 ∷ ks) (map-map word (λ (c : Child ℕ). c.key) children))
        (all_mapped (λ key. Q (offset_in key)) word (0 ∷ lasts_of children) (both (0 ∷ lasts_of children) (omega arith, small) (first, lasts)))

    among : (key : List ℕ) → Contains (keys_of word 0 children) key → Q (offset_in key)
    among key is = All-contains (λ k. Q (offset_in k)) (keys_of word 0 children) key (All-from_recursion (λ k. Q (offset_in k)) (keys_of word 0 children) keys_so) is

    offsets_so : (owned : List ℕ) → AllByRecursion (λ n. AllByRecursion (Contains (keys_of word 0 children)) (V n).keys) owned → AllByRecursion Q (key_offsets V owned)
    offsets_so [] all = tt
    offsets_so (n ∷ owned) all =
        all_append Q (map offset_in (V n).keys) (key_offsets V owned)
        (all_mapped Q offset_in (V n).keys (all_so (Contains (keys_of word 0 children)) (λ key. Q (offset_in key)) (V n).keys among all.0)) (offsets_so owned all.1)

    pub offsets_named : AllByRecursion Q (key_offsets V plain.owned)
    offsets_named = offsets_so plain.owned plain.keyed
