-- Counts of links, as one link after another is counted.
use Rattle.std.proofs.Common.{◌≡◌, ◌≢◌, ℕ, ◌+◌, ◌<◌, ◌≤◌, List, [], ◌∷◌, ◌++◌, Bool, true, false, cond, refl, sym, ap, ◌∙◌, subst, arith, length, length-set, get_or, set, take, drop, map, Option, get_or-set_same, get_or-set_other}
use Rattle.std.proofs.lemmas.Bool.Decides.{nat_tests}
use Rattle.std.proofs.lemmas.List.{take_more, append-nil, map-append, take-append-drop}
use Rattle.std.proofs.lemmas.List.Elements.{filter_map-append, Contains-get_or}
use Rattle.std.proofs.lemmas.List.Sums.{sum_by-append, sum_by_push, sum_by_more, sum_by_more_le}
use Rattle.std.specs.Borrow.{Bor}
use Rattle.std.specs.Prelude.{◌==◌}
use Rattle.std.specs.List.{Contains, cons_option, sum_by}
use Rattle.h5_repack.specs.declared.objects.object.NewObject.{NewObject}
use Rattle.h5_model.specs.declared.object_no.ObjectNo.{ObjectNo}
use Rattle.h5_model.specs.declared.link.Link.{Link}
use Rattle.h5_model.specs.declared.link.LinkTo.{LinkTo}
use Rattle.h5_model.specs.declared.link.LinkTo.TheVariants as target
use Rattle.h5_repack.specs.Objects.Targets.{object_in, targets, times}
use Rattle.h5_laws.proofs.Lists.{in_contains, contains_in}
use Rattle.h5_repack.proofs.ObjectLaws.Members.{in_filter_map}
use Rattle.h5_repack.proofs.ObjectLaws.Trees.{counted}

-- ---- one link more

module _ (ls : List (Link ObjectNo)) (i : ℕ) (d : Link ObjectNo) (low : i < length ls) where
  targets_push : targets (take (i + 1) ls) ≡ targets (take i ls) ++ cons_option (object_in (get_or ls i d).to) []
  targets_push = ap targets (take_more ls i d low) ∙ filter_map-append (λ (k : Link ObjectNo). object_in k.to) (take i ls) (get_or ls i d ∷ [])

  pub targets_more : (number : ObjectNo) → (get_or ls i d).to ≡ target.Object number → targets (take (i + 1) ls) ≡ targets (take i ls) ++ number.0 ∷ []
  targets_more number leads = targets_push ∙ ap (λ (t : LinkTo ObjectNo). targets (take i ls) ++ cons_option (object_in t) []) leads

  pub targets_same : (text : Bor (List ℕ)) → (get_or ls i d).to ≡ target.Soft text → targets (take (i + 1) ls) ≡ targets (take i ls)
  targets_same text leads = targets_push ∙ ap (λ (t : LinkTo ObjectNo). targets (take i ls) ++ cons_option (object_in t) []) leads ∙ append-nil (targets (take i ls))

  pub target_there : (number : ObjectNo) → (get_or ls i d).to ≡ target.Object number → Contains (targets ls) number.0
  target_there number leads =
      contains_in number.0 (targets ls) (in_filter_map (λ (k : Link ObjectNo). object_in k.to) (get_or ls i d) number.0 ls
      (in_contains (get_or ls i d) ls (Contains-get_or ls i d low)) (ap object_in leads))

  -- a count so far has room for the link
  pub times_room : (number : ObjectNo) → (get_or ls i d).to ≡ target.Object number → times number.0 (targets (take i ls)) + 1 ≤ times number.0 (targets ls)
  times_room number leads =
      let test : ℕ → ℕ = λ m. cond (number.0 == m) 1 0 in
      let itself : (number.0 == number.0) ≡ true = grind (arith, nat_tests) in
      let one : times number.0 (targets (take (i + 1) ls)) ≡ times number.0 (targets (take i ls)) + 1
      = ap (times number.0) (targets_more number leads) ∙ sum_by_push test (targets (take i ls)) number.0 ∙ ap (λ b. times number.0 (targets (take i ls)) + cond b 1 0) itself in
      let all : times number.0 (targets ls) ≡ times number.0 (targets (take (i + 1) ls)) + times number.0 (targets (drop (i + 1) ls))
      = ap (λ ks. times number.0 (targets ks)) (sym (take-append-drop (i + 1) ls))
      ∙ ap (times number.0) (filter_map-append (λ (k : Link ObjectNo). object_in k.to) (take (i + 1) ls) (drop (i + 1) ls))
      ∙ sum_by-append test (targets (take (i + 1) ls)) (targets (drop (i + 1) ls)) in
      omega (arith, one, all)

-- the links of a list of borrowed ones, and one more
pub pushed_more : (ls : List (Bor (Link ObjectNo))) (l : Bor (Link ObjectNo)) (number : ObjectNo) → (l.now).to ≡ target.Object number
    → targets (map (λ (k : Bor (Link ObjectNo)). k.now) (ls ++ l ∷ [])) ≡ targets (map (λ (k : Bor (Link ObjectNo)). k.now) ls) ++ number.0 ∷ []
pushed_more ls l number leads =
    ap targets (map-append (λ (k : Bor (Link ObjectNo)). k.now) ls (l ∷ []))
    ∙ filter_map-append (λ (k : Link ObjectNo). object_in k.to) (map (λ (k : Bor (Link ObjectNo)). k.now) ls) (l.now ∷ [])
    ∙ ap (λ (t : LinkTo ObjectNo). targets (map (λ (k : Bor (Link ObjectNo)). k.now) ls) ++ cons_option (object_in t) []) leads

pub pushed_same : (ls : List (Bor (Link ObjectNo))) (l : Bor (Link ObjectNo)) (text : Bor (List ℕ)) → (l.now).to ≡ target.Soft text
    → targets (map (λ (k : Bor (Link ObjectNo)). k.now) (ls ++ l ∷ [])) ≡ targets (map (λ (k : Bor (Link ObjectNo)). k.now) ls)
pushed_same ls l text leads =
    ap targets (map-append (λ (k : Bor (Link ObjectNo)). k.now) ls (l ∷ []))
    ∙ filter_map-append (λ (k : Link ObjectNo). object_in k.to) (map (λ (k : Bor (Link ObjectNo)). k.now) ls) (l.now ∷ [])
    ∙ ap (λ (t : LinkTo ObjectNo). targets (map (λ (k : Bor (Link ObjectNo)). k.now) ls) ++ cons_option (object_in t) []) leads
    ∙ append-nil (targets (map (λ (k : Bor (Link ObjectNo)). k.now) ls))

-- ---- counts of some numbers more

pub record AreCounted (old new others : List ℕ) : Type 0 where
  pub same : length new ≡ length old
  pub each : (number : ℕ) → number < length old → get_or new number 0 ≡ get_or old number 0 + times number others

pub counted_one : (old new others : List ℕ) (other : ℕ) → AreCounted old new others → other < length old
    → AreCounted old (set new other (get_or new other 0 + 1)) (others ++ other ∷ [])
counted_one old new others other are there = record {
  same = length-set new other (get_or new other 0 + 1) ∙ are.same;
  each = λ number low. sym (ap (λ n. get_or old number 0 + n) (sum_by_push (λ (m : ℕ). cond (number == m) 1 0) others other)
      ∙ sym (go number low (number == other) refl));
} where
  go : (number : ℕ) → number < length old → (b : Bool) → (number == other) ≡ b
      → get_or (set new other (get_or new other 0 + 1)) number 0 ≡ get_or old number 0 + (times number others + cond (number == other) 1 0)
  go number low true e =
      let place : other ≡ number = grind (arith, nat_tests, e) in
      let within : other < length new = omega (arith, are.same) in
      let here : get_or (set new other (get_or new other 0 + 1)) number 0 ≡ get_or new other 0 + 1
      = ap (λ n. get_or (set new other (get_or new other 0 + 1)) n 0) (sym place) ∙ get_or-set_same new other (get_or new other 0 + 1) 0 within in
      let old_count : get_or new other 0 ≡ get_or old number 0 + times number others = ap (λ n. get_or new n 0) place ∙ are.each number low in
      let one : ◌≡◌ {A = ℕ} (cond (number == other) 1 0) 1 = ap (λ b. cond b 1 0) e in
      omega (arith, here, old_count, one)
  go number low false e =
      let place : number ≢ other = grind (arith, nat_tests, e) in
      let here : get_or (set new other (get_or new other 0 + 1)) number 0 ≡ get_or new number 0 = get_or-set_other new other number (get_or new other 0 + 1) 0 place in
      let none : ◌≡◌ {A = ℕ} (cond (number == other) 1 0) 0 = ap (λ b. cond b 1 0) e in
      omega (arith, here, are.each number low, none)

-- ---- counts of the links of objects

pub record AreCountedTo (objects : List (Option NewObject)) (i : ℕ) (counts : List ℕ) : Type 0 where
  pub same : length counts ≡ length objects
  pub each : (number : ℕ) → number < length objects → get_or counts number 0 ≡ sum_by (counted number) (take i objects)

-- the links of one object more
pub objects_more : (objects : List (Option NewObject)) (i : ℕ) (x : Option NewObject) (old new : List ℕ) → i < length objects → x ≡ get_or objects i x → AreCountedTo objects i old
    → length new ≡ length old → ((number : ℕ) → number < length old → get_or new number 0 ≡ get_or old number 0 + counted number x) → AreCountedTo objects (i + 1) new
objects_more objects i x old new low is are same each = record {
  same = same ∙ are.same;
  each = λ number within.
      let more : sum_by (counted number) (take (i + 1) objects) ≡ sum_by (counted number) (take i objects) + counted number x
      = sum_by_more (counted number) objects i x low ∙ ap (λ y. sum_by (counted number) (take i objects) + counted number y) (sym is) in
      omega (arith, more, each number (omega (arith, within, are.same)), are.each number within);
}

-- a count so far has room for the links of the object
pub objects_room : (objects : List (Option NewObject)) (i : ℕ) (x : Option NewObject) (counts : List ℕ) (number : ℕ) → i < length objects → x ≡ get_or objects i x → AreCountedTo objects i counts
    → number < length objects → get_or counts number 0 + counted number x ≤ sum_by (counted number) objects
objects_room objects i x counts number low is are within =
    let room : sum_by (counted number) (take i objects) + counted number x ≤ sum_by (counted number) objects
    = subst (λ y. sum_by (counted number) (take i objects) + counted number y ≤ sum_by (counted number) objects) (sym is) (sum_by_more_le (counted number) objects i x low) in
    omega (arith, room, are.each number within)
