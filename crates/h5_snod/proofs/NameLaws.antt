-- Names in a heap's segment, and their order in a symbol node.
use Rattle.std.proofs.Common.{◌≡◌, ℕ, zero, suc, ◌+◌, ◌-◌, ◌<◌, ◌≤◌, List, [], ◌∷◌, length, get_or, slice_get, take, drop, map, Some, refl, sym, ap, subst, ◌∙◌, arith, Less, Equal, Greater, inl, inr}
use Rattle.std.specs.Ordering.{nat_cmp, ordering_reverse}
use Rattle.std.specs.Cmp.Lexicographic.{slice_cmp, nat_list_cmp_total}
use Rattle.std.specs.FinMap.{nat_cmp-IsAntisymmetric, slice_cmp-IsAntisymmetric}
use Rattle.std.proofs.lemmas.Bool.{cases_order}
use Rattle.std.proofs.lemmas.List.{get_or-take, get_or-drop, length-take, length-drop}
use Rattle.std.proofs.lemmas.Option.{slice_get-get_or}
use Rattle.std.proofs.lemmas.List.Elements.{recursion_from_All, All-from_get_or}
use Rattle.h5_bytes.specs.Texts.{text_at}
use Rattle.h5_model.specs.Format.Links.{Ascend, Before}
use Rattle.h5_model.specs.Format.Symbols.{Entry, entries_of, link_of, symbols_in}
use Rattle.h5_model.proofs.TextOrder.{is_less}
use Rattle.h5_snod.specs.Names.{IsPlace, name_at, entry_names}
use Rattle.h5_snod.proofs.EntryLaws.{entry_in, length-entries, get_or-entries}

-- ---- two texts

pub before_less : (a b : List ℕ) → slice_cmp nat_cmp a b ≡ Less → Before a b
before_less a b h = rw h refl

less_before : (a b : List ℕ) → Before a b → slice_cmp nat_cmp a b ≡ Less
less_before a b = is_less (slice_cmp nat_cmp a b)

before_trans : (a b c : List ℕ) → Before a b → Before b c → Before a c
before_trans a b c h g = before_less a c (nat_list_cmp_total.trans a b c (less_before a b h) (less_before b c g))

pub before_greater : (a b : List ℕ) → slice_cmp nat_cmp a b ≡ Greater → Before b a
before_greater a b h = before_less b a (nat_list_cmp_total.antisymm b a ∙ ap ordering_reverse h)

pub same_text : (a b : List ℕ) → slice_cmp nat_cmp a b ≡ Equal → a ≡ b
same_text a b h = slice_cmp-IsAntisymmetric nat_cmp-IsAntisymmetric a b h

-- ---- the names of a node, which ascend

abbrev name_of : List ℕ → List Entry → ℕ → Entry → List ℕ
name_of segment es k d = text_at segment (get_or es k d).name

first_rises : (segment : List ℕ) (e : Entry) (es : List Entry) (k : ℕ) (d : Entry) → Ascend (map (link_of segment) (e ∷ es)) → k < length es
    → Before (text_at segment e.name) (name_of segment es k d)
first_rises segment e [] k d rising low = absurd (omega arith)
first_rises segment e (f ∷ es) zero d rising low = rising.0
first_rises segment e (f ∷ es) (suc k) d rising low =
    before_trans (text_at segment e.name) (text_at segment f.name) (name_of segment es k d) rising.0 (first_rises segment f es k d rising.1 (omega arith))

rest_rises : (segment : List ℕ) (e : Entry) (es : List Entry) → Ascend (map (link_of segment) (e ∷ es)) → Ascend (map (link_of segment) es)
rest_rises segment e [] rising = tt
rest_rises segment e (f ∷ es) rising = rising.1

rises : (segment : List ℕ) (es : List Entry) (j k : ℕ) (d : Entry) → Ascend (map (link_of segment) es) → j < k → k < length es
    → Before (name_of segment es j d) (name_of segment es k d)
rises segment [] j k d rising less low = absurd (omega arith)
rises segment (e ∷ es) j zero d rising less low = absurd (omega arith)
rises segment (e ∷ es) zero (suc k) d rising less low = first_rises segment e es k d rising (omega arith)
rises segment (e ∷ es) (suc j) (suc k) d rising less low = rises segment es j k d (rest_rises segment e es rising) (omega arith) (omega arith)

-- ---- a search

-- the names before `from` are below the name, and those from `to` on above it
pub record IsNarrowed (segment bytes name : List ℕ) (count from to : ℕ) : Type 0 where
  pub ordered : from ≤ to
  pub inside : to ≤ count
  pub below : (k : ℕ) → k < from → Before (name_at segment bytes k) name
  pub above : (k : ℕ) → to ≤ k → k < count → Before name (name_at segment bytes k)

module _ (segment bytes name : List ℕ) (rising : Ascend (map (link_of segment) (entries_of bytes))) where
  pub name_is : (k : ℕ) (d : Entry) → k < symbols_in bytes → name_of segment (entries_of bytes) k d ≡ name_at segment bytes k
  name_is k d low = ap (λ (e : Entry). text_at segment e.name) (get_or-entries bytes k d low)

  pub names_rise : (j k : ℕ) → j < k → k < symbols_in bytes → Before (name_at segment bytes j) (name_at segment bytes k)
  names_rise j k less low =
      let d : Entry = entry_in bytes 0 in
      let long = length-entries bytes in
      let up = rises segment (entries_of bytes) j k d rising less (omega arith) in
      rw (name_is j d (omega arith), name_is k d low) at up

  pub narrowed_up : (from to middle : ℕ) → IsNarrowed segment bytes name (symbols_in bytes) from to → from ≤ middle → middle < to
      → slice_cmp nat_cmp (name_at segment bytes middle) name ≡ Less → IsNarrowed segment bytes name (symbols_in bytes) (middle + 1) to
  narrowed_up from to middle n low high less = record {
    ordered = omega arith;
    inside = n.inside;
    below = λ k h. elim (cases_order k middle) [
      | inl eq ↦ subst (λ i. Before (name_at segment bytes i) name) (sym eq) (before_less (name_at segment bytes middle) name less)
      | inr w ↦ elim w [
        | inl lt ↦ before_trans (name_at segment bytes k) (name_at segment bytes middle) name (names_rise k middle lt (omega (arith, n.inside))) (before_less (name_at segment bytes middle) name less)
        | inr gt ↦ absurd (omega arith)
      ]
    ];
    above = n.above;
  }

  pub narrowed_down : (from to middle : ℕ) → IsNarrowed segment bytes name (symbols_in bytes) from to → from ≤ middle → middle < to
      → slice_cmp nat_cmp (name_at segment bytes middle) name ≡ Greater → IsNarrowed segment bytes name (symbols_in bytes) from middle
  narrowed_down from to middle n low high more = record {
    ordered = low;
    inside = omega (arith, n.inside);
    below = n.below;
    above = λ k h g. elim (cases_order k middle) [
      | inl eq ↦ subst (λ i. Before name (name_at segment bytes i)) (sym eq) (before_greater (name_at segment bytes middle) name more)
      | inr w ↦ elim w [
        | inl lt ↦ absurd (omega arith)
        | inr gt ↦ before_trans name (name_at segment bytes middle) (name_at segment bytes k) (before_greater (name_at segment bytes middle) name more) (names_rise middle k gt g)
      ]
    ];
  }

-- ---- what a search finds

length-names : (segment : List ℕ) (es : List Entry) → length (entry_names segment es) ≡ length es
length-names segment [] = refl
length-names segment (e ∷ es) = omega (arith, length-names segment es)

get_or-names : (segment : List ℕ) (es : List Entry) (k : ℕ) (d : Entry) (t : List ℕ) → k < length es → get_or (entry_names segment es) k t ≡ name_of segment es k d
get_or-names segment [] k d t low = absurd (omega arith)
get_or-names segment (e ∷ es) zero d t low = refl
get_or-names segment (e ∷ es) (suc k) d t low = get_or-names segment es k d t (omega arith)

module _ (segment bytes : List ℕ) where
  listed_name : (k : ℕ) (t : List ℕ) → k < symbols_in bytes → get_or (entry_names segment (entries_of bytes)) k t ≡ name_at segment bytes k
  listed_name k t low =
      let d : Entry = entry_in bytes 0 in
      let long = length-entries bytes in
      get_or-names segment (entries_of bytes) k d t (omega arith) ∙ ap (λ (e : Entry). text_at segment e.name) (get_or-entries bytes k d low)

  pub found : (name : List ℕ) (k : ℕ) → k < symbols_in bytes → name_at segment bytes k ≡ name → slice_get (entry_names segment (entries_of bytes)) k ≡ Some name
  found name k low is =
      let long = length-entries bytes in
      let listed = length-names segment (entries_of bytes) in
      slice_get-get_or (entry_names segment (entries_of bytes)) k [] (omega arith) ∙ ap (λ (t : List ℕ). Some t) (listed_name k [] low ∙ is)

  pub absent : (name : List ℕ) (from to : ℕ) → IsNarrowed segment bytes name (symbols_in bytes) from to → to ≤ from
      → IsPlace (entry_names segment (entries_of bytes)) name from
  absent name from to n done =
      let names : List (List ℕ) = entry_names segment (entries_of bytes) in
      let long = length-entries bytes in
      let listed : length names ≡ length (entries_of bytes) = length-names segment (entries_of bytes) in
      let ordered = n.ordered in
      let inside = n.inside in
      let front : length (take from names) ≡ from = omega (arith, length-take from names) in
      let back : length (drop from names) ≡ length names - from = length-drop from names in
      record {
        inside = omega arith;
        above = recursion_from_All (λ other. Before other name) (take from names) (All-from_get_or (λ other. Before other name) (take from names) [] (λ k low.
            let under : k < from = omega arith in
            subst (λ (t : List ℕ). Before t name) (sym (get_or-take from names k [] under ∙ listed_name k [] (omega arith))) (n.below k under)));
        below = recursion_from_All (λ other. Before name other) (drop from names) (All-from_get_or (λ other. Before name other) (drop from names) [] (λ k low.
            let over : from + k < symbols_in bytes = omega arith in
            subst (λ (t : List ℕ). Before name t) (sym (get_or-drop from names k [] ∙ listed_name (from + k) [] over)) (n.above (from + k) (omega arith) over)));
      }
