-- Names that ascend are above a bound exactly where the first one is, and none is above a bound exactly where the last one is not. They
-- stand in a row of symbol nodes, of which some may be empty.
use Rattle.std.proofs.Common.{◌≡◌, ℕ, ◌+◌, ◌<◌, ◌≤◌, List, [], ◌∷◌, ◌++◌, length, take, drop, get_or, sym, ap, ◌∙◌, subst, arith, append-nil, append_assoc}
use Rattle.std.specs.Prelude.{◌↔◌, map}
use Rattle.std.specs.List.{AllByRecursion, flat_map}
use Rattle.std.proofs.lemmas.List.{take_more, take_all, take-append-drop, drop_more, nil_from_length}
use Rattle.std.proofs.lemmas.Grind.{flat_map-append}
use Rattle.h5_model.specs.Format.Symbols.{Entry, link_of}
use Rattle.h5_model.specs.Format.Links.{Ascend, Before, NotAfter, Symbols, names_in}
use Rattle.h5_model.proofs.TextOrder.{before_le, not_after_trans}
use Rattle.h5_laws.proofs.Ascending.{before_trans}
use Rattle.h5_group.specs.Order.Between.{name_of_entry}

-- ---- entries

module _ (segment : List ℕ) where
  abbrev name : Entry → List ℕ
  name e = name_of_entry segment e

  abbrev Rises : List Entry → Type 0
  Rises es = Ascend (map (link_of segment) es)

  all_above : (low : List ℕ) (e : Entry) (es : List Entry) → Rises (e ∷ es) → Before low (name e) → AllByRecursion (Before low) (map name (e ∷ es))
  all_above low e [] rise here = (here, tt)
  all_above low e (f ∷ es) rise here = (here, all_above low f es rise.1 (before_trans low (name e) (name f) here rise.0))

  all_within : (high : List ℕ) (es : List Entry) (e : Entry) → Rises (es ++ e ∷ []) → NotAfter (name e) high
      → AllByRecursion (λ n. NotAfter n high) (map name (es ++ e ∷ []))
  all_within high [] e rise here = (here, tt)
  all_within high (f ∷ []) e rise here = (not_after_trans (name f) (name e) high (before_le (name f) (name e) rise.0) here, (here, tt))
  all_within high (f ∷ g ∷ es) e rise here =
      let later = all_within high (g ∷ es) e rise.1 here in
      (not_after_trans (name f) (name g) high (before_le (name f) (name g) rise.0) later.0, later)

  last_within : (high : List ℕ) (es : List Entry) (e : Entry) → AllByRecursion (λ n. NotAfter n high) (map name (es ++ e ∷ [])) → NotAfter (name e) high
  last_within high [] e all = all.0
  last_within high (f ∷ es) e all = last_within high es e all.1

  first_of_all : (P : List ℕ → Type 0) (es : List Entry) (e : Entry) → 0 < length es → get_or es 0 e ≡ e → AllByRecursion P (map name (es ++ [])) → P (name e)
  first_of_all P [] e some is all = absurd (omega (arith, some))
  first_of_all P (x ∷ es) e some is all = subst (λ (y : Entry). P (name y)) is all.0

  -- what holds of all names of a symbol node holds of its first
  pub first_named : (S : Symbols) (at : ℕ) (es : List Entry) → es ≡ S at → (P : List ℕ → Type 0) (e : Entry) → 0 < length es → get_or es 0 e ≡ e
      → AllByRecursion P (names_in S segment (at ∷ [])) → P (name e)
  first_named S at es stand P e some is all =
      first_of_all P es e some is (subst (λ (fs : List Entry). AllByRecursion P (map name (fs ++ []))) (sym stand) all)

-- ---- the entries around one that is the first, or the last

first_of_list : {X : Type 0} (xs : List X) (x : X) → 0 < length xs → get_or xs 0 x ≡ x → (more : List X) × (xs ≡ x ∷ more)
first_of_list [] x some is = absurd (omega (arith, some))
first_of_list {X} (y ∷ xs) x some is = (xs, ap (λ (z : X). z ∷ xs) is)

last_of_list : {X : Type 0} (xs : List X) (k : ℕ) (x : X) → k + 1 ≡ length xs → get_or xs k x ≡ x → xs ≡ take k xs ++ x ∷ []
last_of_list {X} xs k x last is =
    let low : k < length xs = omega arith in
    let end : length xs ≤ k + 1 = omega arith in
    sym (take_all (k + 1) xs end) ∙ take_more xs k x low ∙ ap (λ (z : X). take k xs ++ z ∷ []) is

-- ---- a row of symbol nodes, at one of which these entries stand

module _ (S : Symbols) (segment : List ℕ) (row : List ℕ) (i at : ℕ) (low : i < length row) (is : get_or row i at ≡ at) (es : List Entry) (stand : es ≡ S at) where
  abbrev before : List Entry
  before = flat_map S (take i row)

  abbrev after : List Entry
  after = flat_map S (drop (i + 1) row)

  behind : flat_map S (drop i row) ≡ es ++ after
  behind =
      ap (flat_map S) (drop_more row i at low ∙ ap (λ (n : ℕ). n ∷ drop (i + 1) row) is)
      ∙ ap (λ (fs : List Entry). fs ++ after) (sym stand)

  around : flat_map S row ≡ before ++ (es ++ after)
  around =
      ap (flat_map S) (sym (take-append-drop i row)) ∙ flat_map-append S (take i row) (drop i row)
      ∙ ap (λ (fs : List Entry). before ++ fs) behind

  -- there are none
  pub none_more : length es ≡ 0 → before ≡ [] → flat_map S (take (i + 1) row) ≡ []
  none_more none first =
      ap (flat_map S) (take_more row i at low ∙ ap (λ (n : ℕ). take i row ++ n ∷ []) is)
      ∙ flat_map-append S (take i row) (at ∷ [])
      ∙ ap (λ (fs : List Entry). fs ++ (S at ++ [])) first
      ∙ append-nil (S at) ∙ sym stand ∙ nil_from_length es none

  pub none_before : length es ≡ 0 → after ≡ [] → flat_map S (drop i row) ≡ []
  none_before none last = behind ∙ ap (λ (fs : List Entry). fs ++ after) (nil_from_length es none) ∙ last

  module _ (e : Entry) (rise : Rises segment (flat_map S row)) (bound : List ℕ) where
    -- the first of them, with none before it
    pub first_decides : 0 < length es → get_or es 0 e ≡ e → before ≡ [] → Before bound (name segment e) ↔ AllByRecursion (Before bound) (names_in S segment row)
    first_decides some first none =
        let start = first_of_list es e some first in
        let more : List Entry = start.0 ++ after in
        let all : flat_map S row ≡ e ∷ more
        = around ∙ ap (λ (fs : List Entry). fs ++ (es ++ after)) none ∙ ap (λ (fs : List Entry). fs ++ after) start.1 in
        let Above : List Entry → Type 0 = λ fs. AllByRecursion (Before bound) (map (name segment) fs) in (
          λ above. subst Above (sym all) (all_above segment bound e more (subst (Rises segment) all rise) above),
          λ above. (subst Above all above).0,
        )

    -- the last of them, with none behind it
    pub last_decides : (k : ℕ) → k + 1 ≡ length es → get_or es k e ≡ e → after ≡ []
        → NotAfter (name segment e) bound ↔ AllByRecursion (λ n. NotAfter n bound) (names_in S segment row)
    last_decides k end last none =
        let front : List Entry = take k es in
        let all : flat_map S row ≡ (before ++ front) ++ e ∷ []
        = around ∙ ap (λ (fs : List Entry). before ++ (es ++ fs)) none
        ∙ ap (λ (fs : List Entry). before ++ fs) (append-nil es ∙ last_of_list es k e end last)
        ∙ sym (append_assoc before front (e ∷ [])) in
        let Within : List Entry → Type 0 = λ fs. AllByRecursion (λ n. NotAfter n bound) (map (name segment) fs) in (
          λ within. subst Within (sym all) (all_within segment bound (before ++ front) e (subst (Rises segment) all rise) within),
          λ within. last_within segment bound (before ++ front) e (subst Within all within),
        )
