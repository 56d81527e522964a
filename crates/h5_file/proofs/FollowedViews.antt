-- The views of an array, followed one after the other in the order of their numbers.
use Rattle.std.proofs.Common.{◌≡◌, ◌≢◌, ℕ, zero, suc, ◌+◌, ◌<◌, ◌≤◌, ◌==◌, Bool, true, false, List, [], ◌∷◌, ◌++◌, map, length, get_or, set, drop, refl, sym, ap, ◌∙◌, subst, arith}
use Rattle.std.proofs.lemmas.Bool.Decides.{nat_tests}
use Rattle.std.proofs.lemmas.List.{append_assoc, map-append}
use Rattle.std.specs.List.{AllByRecursion}
use Rattle.h5_laws.specs.Rising.{RiseWithin}
use Rattle.h5_model.specs.Tree.Objects.{Dataset}
use Rattle.h5_file.specs.ByArray.{AreByArray, numbers_on}
use Rattle.h5_file.specs.OpenViews.{AreNumbered, AreViewsFollowed, AreViewsReady, IsKeptAfter, IsViewAt, IsViewFollowed, IsViewReady, numbered_view}
use Rattle.h5_file.specs.declared.by_array.ArrayView.{ArrayView}
use Rattle.h5_file.specs.declared.touched.Touched.{Touched}
use Rattle.h5_file.specs.declared.views.KeptView.{KeptView}
use Rattle.h5_file.proofs.ByArrayLaws.{above_low, under_first}
use Rattle.h5_file.proofs.ViewLaws.{number_of, rise_same}

-- ---- the views of an array among all

abbrev IsOther : ℕ → KeptView → Type 0
IsOther o v = v.object ≢ o

-- the first view of the array, and the others of its numbers behind it
record HasFirst (o : ℕ) (views : List KeptView) (n : ℕ) (rest : List ℕ) : Type 0 where
  pub before : List KeptView
  pub view : KeptView
  pub behind : List KeptView
  pub are : views ≡ before ++ view ∷ behind
  pub others : AllByRecursion (IsOther o) before
  pub own : view.object ≡ o
  pub number_is : view.number ≡ n
  pub rest_is : numbers_on o behind ≡ rest

first_of : (o : ℕ) (views : List KeptView) (n : ℕ) (rest : List ℕ) → numbers_on o views ≡ n ∷ rest → HasFirst o views n rest
first_of o [] n rest is = absurd (let never : [] ≡ n ∷ rest = is in cc)
first_of o (v ∷ vs) n rest is = by_test (v.object == o) refl (first_of o vs n rest) where
  by_test : (b : Bool) → (v.object == o) ≡ b → (numbers_on o vs ≡ n ∷ rest → HasFirst o vs n rest) → HasFirst o (v ∷ vs) n rest
  by_test true same _ =
      let all : v.number ∷ numbers_on o vs ≡ n ∷ rest = sym (under_first (λ (v : KeptView). v.object) (λ (v : KeptView). v.number) o v vs true same) ∙ is in
      record { before = []; view = v; behind = vs; are = refl; others = tt; own = grind (arith, nat_tests, same); number_is = cc; rest_is = cc }
  by_test false apart others =
      let more = others (sym (under_first (λ (v : KeptView). v.object) (λ (v : KeptView). v.number) o v vs false apart) ∙ is) in
      let other : v.object ≢ o = λ same. absurd (let never : (v.object == o) ≡ true = grind (arith, nat_tests, same) in let wrong : true ≡ false = sym never ∙ apart in cc) in
      record {
        before = v ∷ more.before;
        view = more.view;
        behind = more.behind;
        are = ap (λ ws. v ∷ ws) more.are;
        others = (other, more.others);
        own = more.own;
        number_is = more.number_is;
        rest_is = more.rest_is;
      }

none_of : (o : ℕ) (views : List KeptView) → numbers_on o views ≡ [] → AllByRecursion (IsOther o) views
none_of o [] is = tt
none_of o (v ∷ vs) is = by_test (v.object == o) refl (none_of o vs) where
  by_test : (b : Bool) → (v.object == o) ≡ b → (numbers_on o vs ≡ [] → AllByRecursion (IsOther o) vs) → AllByRecursion (IsOther o) (v ∷ vs)
  by_test true same _ = absurd (let never : v.number ∷ numbers_on o vs ≡ [] = sym (under_first (λ (v : KeptView). v.object) (λ (v : KeptView). v.number) o v vs true same) ∙ is in cc)
  by_test false apart others =
      let other : v.object ≢ o = λ same. absurd (let never : (v.object == o) ≡ true = grind (arith, nat_tests, same) in let wrong : true ≡ false = sym never ∙ apart in cc) in
      (other, others (sym (under_first (λ (v : KeptView). v.object) (λ (v : KeptView). v.number) o v vs false apart) ∙ is))

pub few_on : (o : ℕ) (views : List KeptView) → length (numbers_on o views) ≤ length views
few_on o [] = omega arith
few_on o (v ∷ vs) = by_test (v.object == o) refl (few_on o vs) where
  by_test : (b : Bool) → (v.object == o) ≡ b → length (numbers_on o vs) ≤ length vs → length (numbers_on o (v ∷ vs)) ≤ length (v ∷ vs)
  by_test true is less =
      let first : length (numbers_on o (v ∷ vs)) ≡ length (numbers_on o vs) + 1
      = ap length (under_first (λ (v : KeptView). v.object) (λ (v : KeptView). v.number) o v vs true is) ∙ omega arith in
      omega (arith, first, less)
  by_test false is less =
      let first : length (numbers_on o (v ∷ vs)) ≡ length (numbers_on o vs)
      = ap length (under_first (λ (v : KeptView). v.object) (λ (v : KeptView). v.number) o v vs false is) in
      omega (arith, first, less)

all_middle : (P : KeptView → Type 0) (front : List KeptView) (v : KeptView) (back : List KeptView) → AllByRecursion P (front ++ v ∷ back) → P v
all_middle P [] v back all = all.0
all_middle P (x ∷ front) v back all = all_middle P front v back all.1

-- ---- the view at the place of a number

low_middle : (front : List KeptView) (v : KeptView) (back : List KeptView) (low end : ℕ) → RiseWithin number_of low (front ++ v ∷ back) end → low ≤ v.number
low_middle [] v back low end rise = rise.0
low_middle (x ∷ front) v back low end rise = let more = low_middle front v back (x.number + 1) end rise.1 in omega (arith, rise.0, more)

-- what stands at the place, and what is there once it is set
there_is : (front : List KeptView) (v : KeptView) (back : List KeptView) (low end at : ℕ) → RiseWithin number_of low (front ++ v ∷ back) end → at < length (front ++ v ∷ back)
    → ((d : KeptView) → (get_or (front ++ v ∷ back) at d).number ≡ v.number)
    → ((d : KeptView) → get_or (front ++ v ∷ back) at d ≡ v) × ((w : KeptView) → set (front ++ v ∷ back) at w ≡ front ++ w ∷ back)
there_is [] v back low end zero rise there is = (λ d. refl, λ w. refl)
there_is [] v back low end (suc at) rise there is =
    let over = above_low (λ (v : KeptView). v.object) number_of back (v.number + 1) end at v rise.1 (omega (arith, there)) in
    absurd (omega (arith, over, is v))
there_is (x ∷ front) v back low end zero rise there is =
    let over = low_middle front v back (x.number + 1) end rise.1 in
    absurd (omega (arith, over, is v))
there_is (x ∷ front) v back low end (suc at) rise there is =
    let more = there_is front v back (x.number + 1) end at rise.1 (omega (arith, there)) is in
    (more.0, λ w. ap (λ ws. x ∷ ws) (more.1 w))

place_in : (front : List KeptView) (v : KeptView) (back : List KeptView) → (at : ℕ) × IsViewAt (front ++ v ∷ back) v.number at
place_in [] v back = (0, record { below = omega arith; number_is = λ d. refl })
place_in (x ∷ front) v back =
    let more = place_in front v back in
    (suc more.0, record { below = omega (arith, more.1.below); number_is = more.1.number_is })

-- ---- how far they followed

module _ (number : ℕ) (d : Dataset) (touched : Touched) where
  pub followed_append : (vs : List KeptView) (n : ℕ) (ws : List KeptView) (more : List KeptView) (k : ℕ) (then : List KeptView) → AreViewsFollowed number d touched vs n ws
      → AreViewsFollowed number d touched more k then → AreViewsFollowed number d touched (vs ++ more) (n + k) (ws ++ then)
  followed_append [] n [] more k then none rest = subst (λ m. AreViewsFollowed number d touched more m then) (omega (arith, none)) rest
  followed_append [] n (w ∷ ws) more k then none rest = absurd none
  followed_append (v ∷ vs) n [] more k then none rest = absurd none
  followed_append (v ∷ vs) n (w ∷ ws) more k then (a, b, sum, first, others) rest =
      (a, b + k, omega (arith, sum), first, followed_append vs b ws more k then others rest)

  stays : (vs : List KeptView) → AllByRecursion (IsOther number) vs → AreViewsFollowed number d touched vs 0 vs
  stays [] others = refl
  stays (v ∷ vs) others = (0, 0, refl, record { same = refl; own = λ is. absurd (others.0 is); other = λ _. (refl, refl) }, stays vs others.1)

  pub followed_same : (vs : List KeptView) (n : ℕ) (ws : List KeptView) → AreViewsFollowed number d touched vs n ws → map numbered_view ws ≡ map numbered_view vs
  followed_same [] n [] are = refl
  followed_same [] n (w ∷ ws) are = absurd are
  followed_same (v ∷ vs) n [] are = absurd are
  followed_same (v ∷ vs) n (w ∷ ws) (a, b, sum, first, others) = λ i. first.same i ∷ followed_same vs b ws others i

  -- The first views followed, and the others are as they were. The views of the array among these have the numbers that are left.
  pub record AreFollowedTo (views : List KeptView) (left : List ℕ) (count : ℕ) (then : List KeptView) : Type 0 where
    pub front : List KeptView
    pub after : List KeptView
    pub rest : List KeptView
    pub were : views ≡ front ++ rest
    pub are : then ≡ after ++ rest
    pub followed : AreViewsFollowed number d touched front count after
    pub left_is : numbers_on number rest ≡ left

  pub none_yet : (views : List KeptView) (left : List ℕ) → left ≡ numbers_on number views → AreFollowedTo views left 0 views
  none_yet views left is = record { front = []; after = []; rest = views; were = refl; are = refl; followed = refl; left_is = sym is }

  pub all_followed : (views : List KeptView) (left : List ℕ) (count : ℕ) (then : List KeptView) → AreFollowedTo views left count then → left ≡ [] → AreViewsFollowed number d touched views count then
  all_followed views left count then to none =
      let sum : count + 0 ≡ count = omega arith in
      let all = followed_append to.front count to.after to.rest 0 to.rest to.followed (stays to.rest (none_of number to.rest (to.left_is ∙ none))) in
      subst (λ (X : Type 0). X) (λ i. AreViewsFollowed number d touched (sym to.were i) (sum i) (sym to.are i)) all

  module _ (views : List KeptView) (left : List ℕ) (count : ℕ) (then : List KeptView) (to : AreFollowedTo views left count then) where
    pub still_numbered : (end : ℕ) → AreNumbered views end → AreNumbered then end
    still_numbered end rise =
        let same : map numbered_view then ≡ map numbered_view views
        = ap (map numbered_view) to.are ∙ map-append numbered_view to.after to.rest
        ∙ ap (λ es. es ++ map numbered_view to.rest) (followed_same to.front count to.after to.followed)
        ∙ sym (ap (map numbered_view) to.were ∙ map-append numbered_view to.front to.rest) in
        rise_same views then 0 end same rise

    module _ (n : ℕ) (more : List ℕ) (is : left ≡ n ∷ more) where
      first : HasFirst number to.rest n more
      first = first_of number to.rest n more (to.left_is ∙ is)

      -- all views now
      now : then ≡ (to.after ++ first.before) ++ first.view ∷ first.behind
      now = to.are ∙ ap (λ vs. to.after ++ vs) first.are ∙ sym (append_assoc to.after first.before (first.view ∷ first.behind))

      pub next_there : (at : ℕ) × IsViewAt then n at
      next_there =
          let place = place_in (to.after ++ first.before) first.view first.behind in
          (place.0, subst (λ (X : Type 0). X) (λ i. IsViewAt (sym now i) (first.number_is i) place.0) place.1)

      module _ (end : ℕ) (rise : AreNumbered views end) (at : ℕ) (there : IsViewAt then n at) where
        found : ((x : KeptView) → get_or ((to.after ++ first.before) ++ first.view ∷ first.behind) at x ≡ first.view)
            × ((w : KeptView) → set ((to.after ++ first.before) ++ first.view ∷ first.behind) at w ≡ (to.after ++ first.before) ++ w ∷ first.behind)
        found =
            let up : AreNumbered ((to.after ++ first.before) ++ first.view ∷ first.behind) end = subst (λ vs. AreNumbered vs end) now (still_numbered end rise) in
            let place : IsViewAt ((to.after ++ first.before) ++ first.view ∷ first.behind) first.view.number at
            = subst (λ (X : Type 0). X) (λ i. IsViewAt (now i) (sym first.number_is i) at) there in
            there_is (to.after ++ first.before) first.view first.behind 0 end at up place.below place.number_is

        is_view : (x : KeptView) → get_or then at x ≡ first.view
        is_view x = ap (λ vs. get_or vs at x) now ∙ found.0 x

        pub next_ready : AreViewsReady number d views → (x : KeptView) → IsViewReady d (get_or then at x)
        next_ready ready x =
            let all = subst (AreViewsReady number d) (to.were ∙ ap (λ vs. to.front ++ vs) first.are ∙ sym (append_assoc to.front first.before (first.view ∷ first.behind))) ready in
            subst (IsViewReady d) (sym (is_view x))
            (all_middle (λ (v : KeptView). v.object ≡ number → IsViewReady d v) (to.front ++ first.before) first.view first.behind all first.own)

        module _ (k : ℕ) (w : KeptView) (same : (x : KeptView) → numbered_view w ≡ numbered_view (get_or then at x))
            (kept : (x : KeptView) → IsKeptAfter d touched (get_or then at x).slab (get_or then at x).kept k w.kept) where
          one : IsViewFollowed number d touched first.view k w
          one = record {
            same = same first.view ∙ ap numbered_view (is_view first.view);
            own = λ _. subst (λ (v : KeptView). IsKeptAfter d touched v.slab v.kept k w.kept) (is_view first.view) (kept first.view);
            other = λ apart. absurd (apart first.own);
          }

          pub next_followed : AreFollowedTo views more (count + k) (set then at w)
          next_followed = record {
            front = to.front ++ (first.before ++ first.view ∷ []);
            after = to.after ++ (first.before ++ w ∷ []);
            rest = first.behind;
            were = to.were ∙ ap (λ vs. to.front ++ vs) first.are ∙ three to.front first.view;
            are = ap (λ vs. set vs at w) now ∙ found.1 w ∙ append_assoc to.after first.before (w ∷ first.behind) ∙ three to.after w;
            followed =
                let own : AreViewsFollowed number d touched (first.view ∷ []) k (w ∷ []) = (k, 0, omega arith, one, refl) in
                let both = followed_append first.before 0 first.before (first.view ∷ []) k (w ∷ []) (stays first.before first.others) own in
                let sum : count + (0 + k) ≡ count + k = omega arith in
                subst (λ m. AreViewsFollowed number d touched (to.front ++ (first.before ++ first.view ∷ [])) m (to.after ++ (first.before ++ w ∷ []))) sum
                (followed_append to.front count to.after (first.before ++ first.view ∷ []) (0 + k) (first.before ++ w ∷ []) to.followed both);
            left_is = first.rest_is;
          } where
            three : (front : List KeptView) (v : KeptView) → front ++ (first.before ++ v ∷ first.behind) ≡ (front ++ (first.before ++ v ∷ [])) ++ first.behind
            three front v =
                ap (λ vs. front ++ vs) (sym (append_assoc first.before (v ∷ []) first.behind)) ∙ sym (append_assoc front (first.before ++ v ∷ []) first.behind)

-- ---- what is listed, once they followed

numbers_same : (o : ℕ) (xs ys : List KeptView) → map numbered_view ys ≡ map numbered_view xs → numbers_on o ys ≡ numbers_on o xs
numbers_same o [] [] is = refl
numbers_same o [] (y ∷ ys) is = absurd (cc)
numbers_same o (x ∷ xs) [] is = absurd (cc)
numbers_same o (x ∷ xs) (y ∷ ys) is = by_test (x.object == o) refl (numbers_same o xs ys cc) where
  first : numbered_view y ≡ numbered_view x
  first = cc

  number_is : y.number ≡ x.number
  number_is = ap (λ e. e.0) first

  object_is : y.object ≡ x.object
  object_is = ap (λ e. (e.1).object) first

  by_test : (b : Bool) → (x.object == o) ≡ b → numbers_on o ys ≡ numbers_on o xs → numbers_on o (y ∷ ys) ≡ numbers_on o (x ∷ xs)
  by_test true same rest =
      under_first (λ (v : KeptView). v.object) (λ (v : KeptView). v.number) o y ys true (ap (λ m. m == o) object_is ∙ same) ∙ (λ i. number_is i ∷ rest i)
      ∙ sym (under_first (λ (v : KeptView). v.object) (λ (v : KeptView). v.number) o x xs true same)
  by_test false apart rest =
      under_first (λ (v : KeptView). v.object) (λ (v : KeptView). v.number) o y ys false (ap (λ m. m == o) object_is ∙ apart) ∙ rest
      ∙ sym (under_first (λ (v : KeptView). v.object) (λ (v : KeptView). v.number) o x xs false apart)

pub listed_same : (listed : List ArrayView) (xs ys : List KeptView) → AreByArray listed xs → map numbered_view ys ≡ map numbered_view xs → AreByArray listed ys
listed_same listed xs ys are same = record { ordered = are.ordered; each = λ object. are.each object ∙ sym (numbers_same object xs ys same) }

-- ---- the numbers that are left

pub left_next : (i : ℕ) (own : List ArrayView) (d : ArrayView) → i < length own
    → map (λ (v : ArrayView). v.number) (drop i own) ≡ (get_or own i d).number ∷ map (λ (v : ArrayView). v.number) (drop (i + 1) own)
left_next i [] d there = absurd (omega (arith, there))
left_next zero (x ∷ own) d there = refl
left_next (suc i) (x ∷ own) d there =
    let next : suc i + 1 ≡ suc (i + 1) = omega arith in
    left_next i own d (omega (arith, there)) ∙ ap (λ m. (get_or own i d).number ∷ map (λ (v : ArrayView). v.number) (drop m (x ∷ own))) (sym next)
