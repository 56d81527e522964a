-- Objects of a tree that lose links with a link, as the links of one after another are counted.
use Rattle.std.proofs.Common.{◌≡◌, inl, inr, ℕ, ◌+◌, ◌<◌, ◌≤◌, ◌==◌, Bool, false, List, [], ◌∷◌, ◌++◌, length, get_or, length-append, take, refl, sym, ap, ◌∙◌, subst, arith, Option, Some, None, IsSome}
use Rattle.std.specs.Prelude.{if◌then◌else◌}
use Rattle.std.proofs.lemmas.Bool.{cases_lt}
use Rattle.std.proofs.lemmas.List.{take_all, take_more, take-append-le}
use Rattle.std.proofs.lemmas.List.Sums.{sum_by-cons, sum_by_push}
use Rattle.std.specs.FinMap.{get}
use Rattle.std.specs.List.{Contains}
use Rattle.std.specs.Option.{option_map_or}
use Rattle.h5_model.specs.Format.Limits.{most_hard_links}
use Rattle.h5_model.specs.Tree.Objects.{Tree, Object, Link, ToObject, Soft, follow, hard_links, leads_to, link_in, links_to, object_of}
use Rattle.h5_laws.specs.Trees.Sound.{IsSoundTree}
use Rattle.h5_laws.specs.Trees.Unlinked.{AreReachedFrom, links_from, lost_links}
use Rattle.h5_laws.proofs.Lists.{In, contains_in, in_contains}
use Rattle.h5_laws.proofs.Objects.{follow-more}
use Rattle.h5_laws.proofs.Pigeonhole.{apart_of_distinct, distinct_of_apart}
use Rattle.h5_laws.proofs.SoundLaws.Applied.{follow_stands}
use Rattle.h5_laws.proofs.SoundLaws.Counts.{content_some, leads_or, some_named}
use Rattle.h5_laws.proofs.SoundLaws.Left.{lost_fits}
use Rattle.h5_laws.proofs.SoundLaws.LinksThere.{GroupAt, link_is}
use Rattle.h5_group.proofs.LinkLists.{in_take}
use Rattle.h5_open.specs.LostLinks.{HaveLostLinks, AreMoreLost, links_lost}
use Rattle.h5_open.specs.declared.opened.losses.LostLinks.{LostLinks}
use Rattle.h5_open.proofs.LostLaws.{apart_take}

module _ (tree : Tree) (link : Link) where
  -- a path leads to the object from the link
  abbrev pub HasWayTo : ℕ → Type 0
  HasWayTo n = (path : List (List ℕ)) × (follow tree link path ≡ Some (ToObject n))

  abbrev from_one : ℕ → ℕ → ℕ
  from_one n k = option_map_or (λ (o : Object). links_to n o.content) (get tree k) 0

  -- what a link of such an object leads to is led to as well
  led_next : (n k : ℕ) → HasWayTo k → 1 ≤ from_one n k → HasWayTo n
  led_next n k led some = go (get tree k) refl some where
    go : (found : Option Object) → get tree k ≡ found → 1 ≤ option_map_or (λ (o : Object). links_to n o.content) found 0 → HasWayTo n
    go None at many = absurd (omega (arith, many))
    go (Some o) at many =
        let c = content_some n o.content many in
        let g : GroupAt tree k = record { object = o; links = c.0; stands = at; is = c.2 } in
        (led.0 ++ c.1 ∷ [], follow-more tree link (ToObject n) led.0 c.1 k led.1 (link_is tree k g c.1 ∙ c.3))

  led_from : (n : ℕ) (done : List ℕ) → ((k : ℕ) → In k done → HasWayTo k) → 1 ≤ links_from tree done n → HasWayTo n
  led_from n [] led some = absurd (omega (arith, some))
  led_from n (k ∷ done) led some = elim (cases_lt 0 (from_one n k)) [
    | inl here ↦ led_next n k (led k (inl refl)) (omega (arith, here))
    | inr none ↦ led_from n done (λ m at. led m (inr at)) (let both = sum_by-cons (from_one n) k done in omega (arith, some, none, both))
  ]

  led_on : (done : List ℕ) → ((k : ℕ) → In k done → HasWayTo k) → (n : ℕ) → 1 ≤ lost_links tree link done n → HasWayTo n
  led_on done led n some = elim (leads_or n link) [
    | inl leads ↦ ([], ap (λ (l : Link). Some l) leads)
    | inr none ↦ led_from n done led (omega (arith, some, none))
  ]

  -- The first so many of the objects that lose links were gone through: what was counted are the link and their links.
  pub record IsGoneThrough (lost : LostLinks) (done : ℕ) : Type 0 where
    pub have : HaveLostLinks lost.numbers.items lost.counts
    pub low : done ≤ length lost.numbers.items
    pub counts : (n : ℕ) → links_lost lost.counts n ≡ lost_links tree link (take done lost.numbers.items) n
    pub led : (n : ℕ) → Contains lost.numbers.items n → HasWayTo n

  -- the link alone
  through_none : (lost : LostLinks) → HaveLostLinks lost.numbers.items lost.counts → ((n : ℕ) → links_lost lost.counts n ≡ (if leads_to n link then 1 else 0)) → IsGoneThrough lost 0
  through_none lost are counts =
      let all : (n : ℕ) → links_lost lost.counts n ≡ lost_links tree link [] n = λ n. omega (arith, counts n) in
      record {
        have = are;
        low = omega arith;
        counts = all;
        led = λ n at. led_on [] (λ k never. absurd never) n (let some = (are.each n).0 at in omega (arith, some, all n));
      }

  pub through_soft : None ≡ object_of link → (lost : LostLinks) → HaveLostLinks lost.numbers.items lost.counts → ((n : ℕ) → links_lost lost.counts n ≡ 0) → IsGoneThrough lost 0
  through_soft leads lost are none = through_none lost are (λ n. none n ∙ ap {B = ℕ} (λ (b : Bool). if b then 1 else 0) (sym (go link leads n))) where
    go : (l : Link) → None ≡ object_of l → (n : ℕ) → leads_to n l ≡ false
    go (Soft text) leads n = refl
    go (ToObject m) leads n = absurd (let never : None ≡ Some m = leads in cc)

  pub through_hard : (number : ℕ) → Some number ≡ object_of link → (empty lost : LostLinks) → ((n : ℕ) → links_lost empty.counts n ≡ 0)
      → AreMoreLost empty lost (λ n. if n == number then 1 else 0) → IsGoneThrough lost 0
  through_hard number leads empty lost none more =
      through_none lost more.lost (λ n. let one = ap {B = ℕ} (λ (b : Bool). if b then 1 else 0) (go link leads n) in omega (arith, more.counts n, none n, one)) where
        go : (l : Link) → Some number ≡ object_of l → (n : ℕ) → leads_to n l ≡ (n == number)
        go (Soft text) leads n = absurd (let never : Some number ≡ None = leads in cc)
        go (ToObject m) leads n = let same : number ≡ m = cc in ap (λ (k : ℕ). n == k) (sym same)

  -- one object more
  module _ (old new : LostLinks) (done number : ℕ) (through : IsGoneThrough old done) (low : done < length old.numbers.items) (at : number ≡ get_or old.numbers.items done number) where
    first_next : take (done + 1) old.numbers.items ≡ take done old.numbers.items ++ number ∷ []
    first_next = take_more old.numbers.items done number low ∙ ap (λ (k : ℕ). take done old.numbers.items ++ k ∷ []) (sym at)

    next_links : (n : ℕ) → links_lost old.counts n + links_from tree (number ∷ []) n ≡ lost_links tree link (take (done + 1) old.numbers.items) n
    next_links n =
        let more = ap (λ (ns : List ℕ). links_from tree ns n) first_next in
        let pushed = sum_by_push (from_one n) (take done old.numbers.items) number in
        let one = sum_by-cons (from_one n) number [] in
        omega (arith, through.counts n, more, pushed, one)

    pub through_next : AreMoreLost old new (links_from tree (number ∷ [])) → IsGoneThrough new (done + 1)
    through_next more =
        let same : take (done + 1) new.numbers.items ≡ take (done + 1) old.numbers.items =
        ap (take (done + 1)) more.numbers ∙ take-append-le (done + 1) old.numbers.items more.behind (omega (arith, low)) in
        let all : (n : ℕ) → links_lost new.counts n ≡ lost_links tree link (take (done + 1) new.numbers.items) n =
        λ n. more.counts n ∙ next_links n ∙ ap (λ (ns : List ℕ). lost_links tree link ns n) (sym same) in
        let long = ap length more.numbers in
        record {
          have = more.lost;
          low = omega (arith, low, long, length-append old.numbers.items more.behind);
          counts = all;
          led = λ n there.
              led_on (take (done + 1) new.numbers.items)
              (λ k first. through.led k (contains_in k old.numbers.items (in_take k old.numbers.items (done + 1) (subst (In k) same first))))
              n (let some = (more.lost.each n).0 there in omega (arith, some, all n));
        }

  -- all of them
  pub through_all : (lost : LostLinks) (done : ℕ) → IsGoneThrough lost done → length lost.numbers.items ≤ done → (n : ℕ) → links_lost lost.counts n ≡ lost_links tree link lost.numbers.items n
  through_all lost done through past n = through.counts n ∙ ap (λ (ns : List ℕ). lost_links tree link ns n) (take_all done lost.numbers.items past)

  pub through_reached : (lost : LostLinks) (done : ℕ) → IsGoneThrough lost done → length lost.numbers.items ≤ done → AreReachedFrom tree link lost.numbers.items
  through_reached lost done through past =
      let all = through_all lost done through past in
      record {
        once = through.have.once;
        each = λ n. (
          (λ there. let some = (through.have.each n).0 there in omega (arith, some, all n)),
          (λ some. (through.have.each n).1 (omega (arith, some, all n))),
        );
        led = through.led;
      }

  -- ---- what the links of a sound tree allow

  module _ (parent : ℕ) (name : List ℕ) (sound : IsSoundTree tree) (stands : link_in tree parent name ≡ Some link) where
    hard_few : (n : ℕ) → hard_links tree n ≤ most_hard_links
    hard_few n = elim (cases_lt 0 (hard_links tree n)) [
      | inl some ↦ let at = some_named tree n (omega (arith, some)) in sound.few n (sound.linked at.0 n at.1 at.2)
      | inr none ↦ omega (arith, none)
    ]

    led_there : (n : ℕ) → HasWayTo n → IsSome (get tree n)
    led_there n led = follow_stands tree sound led.0 link n (λ k leads. sound.linked parent k name (stands ∙ ap (λ (l : Link). Some l) leads)) led.1

    module _ (lost : LostLinks) (done : ℕ) (through : IsGoneThrough lost done) where
      first_fits : (k n : ℕ) → lost_links tree link (take k lost.numbers.items) n ≤ hard_links tree n
      first_fits k n =
          lost_fits tree parent name link (take k lost.numbers.items) sound stands
          (distinct_of_apart (take k lost.numbers.items) (apart_take k lost.numbers.items (apart_of_distinct lost.numbers.items through.have.once)))
          (λ m at. through.led m (contains_in m lost.numbers.items (in_take m lost.numbers.items k (in_contains m (take k lost.numbers.items) at)))) n

      pub through_fits : (n : ℕ) → links_lost lost.counts n ≤ hard_links tree n
      through_fits n = let fits = first_fits done n in omega (arith, through.counts n, fits)

      pub through_there : (n : ℕ) → Contains lost.numbers.items n → IsSome (get tree n)
      through_there n at = led_there n (through.led n at)

      pub next_few : (number : ℕ) → done < length lost.numbers.items → number ≡ get_or lost.numbers.items done number
          → (n : ℕ) → links_lost lost.counts n + links_from tree (number ∷ []) n ≤ most_hard_links
      next_few number low at n =
          let fits = first_fits (done + 1) n in
          let next = next_links lost lost done number through low at n in
          let most = hard_few n in
          omega (arith, next, fits, most)
