-- Lists of free blocks in their order: where a block comes in, which ones are left, and that they ascend.
use Rattle.std.proofs.Common.{◌≡◌, ◌≢◌, ℕ, ◌+◌, ◌-◌, ◌<◌, ◌≤◌, ◌⊎◌, ◌==◌, ◌&&◌, Bool, true, false, not, cond, Option, Some, None, max, inl, inr, List, [], ◌∷◌, ◌++◌, refl, sym, ◌∙◌, ap, subst, arith}
use Rattle.std.specs.Option.{IfSome, option_map_or}
use Rattle.std.specs.List.{AllByRecursion, find, filter}
use Rattle.std.proofs.lemmas.Bool.{cases_lt}
use Rattle.std.proofs.lemmas.Bool.Decides.{nat_tests}
use Rattle.h5_bytes.specs.Bytes.{number_at}
use Rattle.h5_bytes.specs.Blocks.{block, holds, cover, Separate}
use Rattle.h5_bytes.specs.declared.Block.{Block}
use Rattle.h5_bytes.proofs.BlockLaws.{cover-append, holds_in, all_left, all_right, all_append, all_so}
use Rattle.h5_model.specs.Format.Heap.{FreeFrom, IsFree}
use Rattle.h5_heap.specs.Chain.{free_from, HasChain, Stands, ListsAt, Ascends, IsPutIn, put_behind, IsGreatestBelow}
use Rattle.h5_heap.specs.Sought.{begins_at, ends_at}
use Rattle.h5_heap.specs.Released.{others, stop_of}
use Rattle.h5_heap.proofs.ChainLaws.{free_block_at}
use Rattle.h5_heap.proofs.RelistLaws.{behind}

-- ---- a block that comes in

is_at : (c : Block) (place : ℕ) → c.at ≡ place → (c.at == place) ≡ true
is_at c place is = grind (arith, nat_tests, is)

not_at : (c : Block) (place : ℕ) → c.at ≢ place → (c.at == place) ≡ false
not_at c place other = grind (arith, nat_tests, other)

pub begins_there : (c : Block) → IsFree c → holds c.at c.at c.len ≡ 1
begins_there c free = holds_in c.at c.at c.len (omega arith) (omega (arith, free.room))

-- behind the block that begins at the place
pub put_behind_is : (place : ℕ) (b y : Block) (front back : List Block) → AllByRecursion IsFree (front ++ y ∷ back) → Separate (front ++ y ∷ back)
    → y.at ≡ place → put_behind (Some place) b (front ++ y ∷ back) ≡ front ++ y ∷ b ∷ back
put_behind_is place b y [] back each apart is = rw (is_at y place is) refl
put_behind_is place b y (x ∷ xs) back each apart is =
    let other : x.at ≢ place = λ same. absurd (
    let here : holds x.at y.at y.len ≡ 1 = holds_in x.at y.at y.len (omega (arith, is, same)) (omega (arith, is, same, (all_right IsFree xs (y ∷ back) each.1).0.room)) in
    omega (arith, apart x.at, cover-append x.at xs (y ∷ back), begins_there x each.0, here)) in
    rw (not_at x place other) (ap (λ (bs : List Block). x ∷ bs) (put_behind_is place b y xs back each.1 (λ p. omega (arith, apart p)) is))

-- any block that comes in there
pub record IsSplitAt (place : Option ℕ) (bs : List Block) : Type 0 where
  pub front : List Block
  pub back : List Block
  pub split : bs ≡ front ++ back
  pub put : (b : Block) → put_behind place b bs ≡ front ++ b ∷ back

pub split_at : (place : Option ℕ) (bs : List Block) → IfSome place (λ p. Stands p bs) → IsSplitAt place bs
split_at None bs there = record { front = []; back = bs; split = refl; put = λ b. refl }
split_at (Some p) [] there = absurd there
split_at (Some p) (c ∷ cs) there = go (c.at == p) refl (λ later. split_at (Some p) cs later) where
  go : (r : Bool) → (c.at == p) ≡ r → (Stands p cs → IsSplitAt (Some p) cs) → IsSplitAt (Some p) (c ∷ cs)
  go true is later = record { front = c ∷ []; back = cs; split = refl; put = λ b. rw is refl }
  go false is later =
      let more : IsSplitAt (Some p) cs = elim there [
        | inl here ↦ absurd (let yes : (c.at == p) ≡ true = is_at c p here in cc)
        | inr on ↦ later on
      ] in
      record {
        front = c ∷ more.front;
        back = more.back;
        split = ap (λ (bs : List Block). c ∷ bs) more.split;
        put = λ b. rw is (ap (λ (bs : List Block). c ∷ bs) (more.put b));
      }

pub put_in : (place : Option ℕ) (bs : List Block) (b : Block) → IfSome place (λ p. Stands p bs) → IsPutIn b bs (put_behind place b bs)
put_in place bs b there =
    let s = split_at place bs there in
    record { front = s.front; back = s.back; before = s.split; after = s.put b }

pub stands_middle : (front back : List Block) (y : Block) → Stands y.at (front ++ y ∷ back)
stands_middle [] back y = inl refl
stands_middle (x ∷ xs) back y = inr (stands_middle xs back y)

pub lists_stands : (segment : List ℕ) (first : ℕ) (place : Option ℕ) → IfSome place (λ p. ListsAt segment first p) → IfSome place (λ p. Stands p (free_from segment first))
lists_stands segment first None at = tt
lists_stands segment first (Some p) at = subst (Stands p) (sym at.split) (stands_middle at.front at.back (block p (number_at segment (p + 8) 8)))

-- a block that stands between others is the one at its offset
pub between_is : (segment : List ℕ) (first : ℕ) (front back : List Block) (y : Block) → HasChain segment first
    → free_from segment first ≡ front ++ y ∷ back → y ≡ free_block_at segment y.at
between_is segment first front back y c is =
    let on = behind segment first front (y ∷ back) (subst (FreeFrom segment first) is c.listed) in
    ap (block y.at) (on.1.1 ∙ ap (λ (n : ℕ). number_at segment (n + 8) 8) (sym on.1.0))

-- the list has it
pub lists_at : (segment : List ℕ) (first : ℕ) (front back : List Block) (y : Block) → HasChain segment first
    → free_from segment first ≡ front ++ y ∷ back → ListsAt segment first y.at
lists_at segment first front back y c is = record {
  front = front;
  back = back;
  split = is ∙ ap (λ (b : Block). front ++ b ∷ back) (between_is segment first front back y c is);
}

pub stands_lists : (segment : List ℕ) (first : ℕ) (place : Option ℕ) → HasChain segment first → IfSome place (λ p. Stands p (free_from segment first))
    → IfSome place (λ p. ListsAt segment first p)
stands_lists segment first None c there = tt
stands_lists segment first (Some p) c there =
    let s = stands_split p (free_from segment first) there in
    subst (ListsAt segment first) s.4 (lists_at segment first s.0 s.1 s.2 c s.3)
  where
    stands_split : (q : ℕ) (bs : List Block) → Stands q bs → (front : List Block) × (back : List Block) × (y : Block) × (bs ≡ front ++ y ∷ back) × (y.at ≡ q)
    stands_split q [] none = absurd none
    stands_split q (b ∷ bs) (inl here) = ([], bs, b, refl, here)
    stands_split q (b ∷ bs) (inr later) =
        let m = stands_split q bs later in
        (b ∷ m.0, m.1, m.2, ap (λ (cs : List Block). b ∷ cs) m.3, m.4)

-- the list from which it was taken has it
pub put_back : (segment : List ℕ) (first : ℕ) (place : Option ℕ) (b : Block) (free : List Block) → free ≡ put_behind place b (free_from segment first)
    → IfSome place (λ p. ListsAt segment first p) → IsPutIn b (free_from segment first) free
put_back segment first place b free is still =
    subst (IsPutIn b (free_from segment first)) (sym is) (put_in place (free_from segment first) b (lists_stands segment first place still))

-- ---- blocks that are left

-- none is found: all are left
pub filter_none : (test : Block → Bool) (bs : List Block) → find test bs ≡ None → filter (λ b. not (test b)) bs ≡ bs
filter_none test [] none = refl
filter_none test (b ∷ bs) none = go (test b) none (filter_none test bs) where
  go : (r : Bool) → cond r (Some b) (find test bs) ≡ None → (find test bs ≡ None → filter (λ c. not (test c)) bs ≡ bs)
      → cond (not r) (b ∷ filter (λ c. not (test c)) bs) (filter (λ c. not (test c)) bs) ≡ b ∷ bs
  go true is later = absurd (cc)
  go false is later = ap (λ (cs : List Block). b ∷ cs) (later is)

-- each block that is looked for holds one byte
module _ (test : Block → Bool) (p : ℕ) (holding : (c : Block) → IsFree c → test c ≡ true → holds p c.at c.len ≡ 1) where
  pub find_far : (bs : List Block) → AllByRecursion IsFree bs → cover p bs ≡ 0 → find test bs ≡ None
  find_far [] each far = refl
  find_far (b ∷ bs) each far = go (test b) refl (find_far bs each.1 (omega (arith, far))) where
    go : (r : Bool) → test b ≡ r → find test bs ≡ None → cond r (Some b) (find test bs) ≡ None
    go true is later = absurd (omega (arith, far, holding b each.0 is))
    go false is later = later

  filter_far : (bs : List Block) → AllByRecursion IsFree bs → cover p bs ≡ 0 → filter (λ b. not (test b)) bs ≡ bs
  filter_far bs each far = filter_none test bs (find_far bs each far)

  -- the one that is looked for is left out
  pub filter_one : (front back : List Block) (b : Block) → test b ≡ true → AllByRecursion IsFree (front ++ b ∷ back) → Separate (front ++ b ∷ back)
      → filter (λ c. not (test c)) (front ++ b ∷ back) ≡ front ++ back
  filter_one [] back b is each apart = rw is (filter_far back each.1 (omega (arith, apart p, holding b each.0 is)))
  filter_one (x ∷ xs) back b is each apart = go (test x) refl (filter_one xs back b is each.1 (λ q. omega (arith, apart q))) where
    go : (r : Bool) → test x ≡ r → filter (λ c. not (test c)) (xs ++ b ∷ back) ≡ xs ++ back
        → cond (not r) (x ∷ filter (λ c. not (test c)) (xs ++ b ∷ back)) (filter (λ c. not (test c)) (xs ++ b ∷ back)) ≡ x ∷ xs ++ back
    go true here later = absurd (omega (
      arith,
      apart p,
      cover-append p xs (b ∷ back),
      holding x each.0 here,
      holding b (all_right IsFree xs (b ∷ back) each.1).0 is,
    ))
    go false other later = ap (λ (cs : List Block). x ∷ cs) later

pub filter_both : (p q : Block → Bool) (bs : List Block) → filter q (filter p bs) ≡ filter (λ b. p b && q b) bs
filter_both p q [] = refl
filter_both p q (b ∷ bs) = go (p b) (filter_both p q bs) where
  go : (r : Bool) → filter q (filter p bs) ≡ filter (λ c. p c && q c) bs
      → filter q (cond r (b ∷ filter p bs) (filter p bs)) ≡ cond (r && q b) (b ∷ filter (λ c. p c && q c) bs) (filter (λ c. p c && q c) bs)
  go true later = ap (λ (cs : List Block). cond (q b) (b ∷ cs) cs) later
  go false later = later

-- what is looked for is found among the blocks that are left, where it is left
pub find_left : (test p : Block → Bool) → ((b : Block) → test b ≡ true → p b ≡ true) → (bs : List Block) → find test (filter p bs) ≡ find test bs
find_left test p stays [] = refl
find_left test p stays (b ∷ bs) = go (test b) (p b) refl refl (find_left test p stays bs) where
  go : (r s : Bool) → test b ≡ r → p b ≡ s → find test (filter p bs) ≡ find test bs
      → find test (cond s (b ∷ filter p bs) (filter p bs)) ≡ cond r (Some b) (find test bs)
  go true true is left later = rw is refl
  go true false is left later = absurd (let yes = stays b is in cc)
  go false true is left later = rw is later
  go false false is left later = later

-- ---- ascending lists

pub all_filter : (P : Block → Type 0) (p : Block → Bool) (bs : List Block) → AllByRecursion P bs → AllByRecursion P (filter p bs)
all_filter P p [] all = tt
all_filter P p (b ∷ bs) all = go (p b) (all_filter P p bs all.1) where
  go : (r : Bool) → AllByRecursion P (filter p bs) → AllByRecursion P (cond r (b ∷ filter p bs) (filter p bs))
  go true later = (all.0, later)
  go false later = later

pub ascends_filter : (p : Block → Bool) (bs : List Block) → Ascends bs → Ascends (filter p bs)
ascends_filter p [] up = tt
ascends_filter p (b ∷ bs) up = go (p b) (ascends_filter p bs up.1) where
  go : (r : Bool) → Ascends (filter p bs) → Ascends (cond r (b ∷ filter p bs) (filter p bs))
  go true later = (all_filter (λ c. b.at < c.at) p bs up.0, later)
  go false later = later

-- blocks apart from one that do not begin before it begin behind it
beyond : (b : Block) (bs : List Block) → IsFree b → AllByRecursion IsFree bs → ((p : ℕ) → holds p b.at b.len + cover p bs ≤ 1)
    → AllByRecursion (λ c. b.at ≤ c.at) bs → AllByRecursion (λ c. b.at + b.len ≤ c.at) bs
beyond b [] free each apart after = tt
beyond b (c ∷ cs) free each apart after = (
  elim (cases_lt c.at (b.at + b.len)) [
    | inl within ↦ absurd (omega (arith, apart c.at, begins_there c each.0, holds_in c.at b.at b.len after.0 within))
    | inr past ↦ past
  ],
  beyond b cs free each.1 (λ p. omega (arith, apart p)) after.1,
)

all_put : (P : Block → Type 0) (place : Option ℕ) (b : Block) (bs : List Block) → P b → AllByRecursion P bs → AllByRecursion P (put_behind place b bs)
all_put P None b bs one all = (one, all)
all_put P (Some p) b [] one all = (one, tt)
all_put P (Some p) b (c ∷ cs) one all = (all.0, go (c.at == p) (all_put P (Some p) b cs one all.1)) where
  go : (r : Bool) → AllByRecursion P (put_behind (Some p) b cs) → AllByRecursion P (cond r (b ∷ cs) (put_behind (Some p) b cs))
  go true later = (one, all.1)
  go false later = later

stands_all : (P : ℕ → Type 0) (p : ℕ) (bs : List Block) → AllByRecursion (λ c. P c.at) bs → Stands p bs → P p
stands_all P p [] all there = absurd there
stands_all P p (c ∷ cs) all there = elim there [ inl here ↦ subst P here all.0 | inr later ↦ stands_all P p cs all.1 later ]

-- a block comes in behind the greatest below it
pub ascends_put : (place : Option ℕ) (b : Block) (bs : List Block) → IsFree b → AllByRecursion IsFree bs → ((p : ℕ) → holds p b.at b.len + cover p bs ≤ 1)
    → IfSome place (λ p. Stands p bs) → IsGreatestBelow bs b.at place → Ascends bs → Ascends (put_behind place b bs)
ascends_put None b bs free each apart there after up =
    (all_so (λ (c : Block). b.at + b.len ≤ c.at) (λ (c : Block). b.at < c.at) bs (λ c far. omega (arith, far, free.room)) (beyond b bs free each apart after), up)
ascends_put (Some p) b [] free each apart there after up = absurd there
ascends_put (Some p) b (c ∷ cs) free each apart there (below, after) up =
    go (c.at == p) refl (λ on. ascends_put (Some p) b cs free each.1 (λ q. omega (arith, apart q)) on (below, after.1) up.1)
  where
    not_below : (ds : List Block) → c.at ≡ p → AllByRecursion (λ d. c.at < d.at) ds → AllByRecursion (λ d. (d.at ≤ p) ⊎ (b.at ≤ d.at)) ds
        → AllByRecursion (λ d. b.at ≤ d.at) ds
    not_below [] here past either = tt
    not_below (d ∷ ds) here past either = (
      elim either.0 [ inl low ↦ absurd (omega (arith, low, past.0, here)) | inr high ↦ high ],
      not_below ds here past.1 either.1,
    )

    go : (r : Bool) → (c.at == p) ≡ r → (Stands p cs → Ascends (put_behind (Some p) b cs)) → Ascends (c ∷ cond r (b ∷ cs) (put_behind (Some p) b cs))
    go true is later =
        let here : c.at ≡ p = grind (arith, nat_tests, is) in
        let far = beyond b cs free each.1 (λ q. omega (arith, apart q)) (not_below cs here up.0 after.1) in (
          (omega (arith, here, below), up.0),
          (all_so (λ (d : Block). b.at + b.len ≤ d.at) (λ (d : Block). b.at < d.at) cs (λ d past. omega (arith, past, free.room)) far, up.1),
        )
    go false other later =
        let on : Stands p cs = elim there [
          | inl here ↦ absurd (let same : (c.at == p) ≡ true = is_at c p here in cc)
          | inr more ↦ more
        ] in
        let less : c.at < p = stands_all (λ (n : ℕ). c.at < n) p cs up.0 on in
        (all_put (λ (d : Block). c.at < d.at) (Some p) b cs (omega (arith, less, below)) up.0, later on)

-- a block gives way to one that begins in it
pub ascends_changed : (front back : List Block) (b r : Block) → b.at ≤ r.at → AllByRecursion (λ c. r.at < c.at) back
    → Ascends (front ++ b ∷ back) → Ascends (front ++ r ∷ back)
ascends_changed [] back b r from past up = (past, up.1)
ascends_changed (x ∷ xs) back b r from past up = (
  all_append (λ (c : Block). x.at < c.at) xs (r ∷ back)
      (all_left (λ (c : Block). x.at < c.at) xs (b ∷ back) up.0)
      (omega (arith, from, (all_right (λ (c : Block). x.at < c.at) xs (b ∷ back) up.0).0), (all_right (λ (c : Block). x.at < c.at) xs (b ∷ back) up.0).1),
  ascends_changed xs back b r from past up.1,
)

pub ascends_less : (front back : List Block) (b : Block) → Ascends (front ++ b ∷ back) → Ascends (front ++ back)
ascends_less [] back b up = up.1
ascends_less (x ∷ xs) back b up = (
  all_append (λ (c : Block). x.at < c.at) xs back
      (all_left (λ (c : Block). x.at < c.at) xs (b ∷ back) up.0) (all_right (λ (c : Block). x.at < c.at) xs (b ∷ back) up.0).1,
  ascends_less xs back b up.1,
)

-- what is behind a block in an ascending list begins behind its end
pub ascends_past : (front back : List Block) (b : Block) → AllByRecursion IsFree (front ++ b ∷ back) → Separate (front ++ b ∷ back)
    → Ascends (front ++ b ∷ back) → AllByRecursion (λ c. b.at + b.len ≤ c.at) back
ascends_past [] back b each apart up =
    beyond b back each.0 each.1 apart (all_so (λ (c : Block). b.at < c.at) (λ (c : Block). b.at ≤ c.at) back (λ c low. omega (arith, low)) up.0)
ascends_past (x ∷ xs) back b each apart up = ascends_past xs back b each.1 (λ p. omega (arith, apart p)) up.1

-- ---- the free blocks beside a place

pub ends_hold : (at : ℕ) (c : Block) → IsFree c → ends_at at c ≡ true → holds (at - 1) c.at c.len ≡ 1
ends_hold at c free is =
    let ends : c.at + c.len ≡ at = grind (arith, nat_tests, is) in
    holds_in (at - 1) c.at c.len (omega (arith, ends, free.room)) (omega (arith, ends, free.room))

pub begins_hold : (end : ℕ) (c : Block) → IsFree c → begins_at end c ≡ true → holds end c.at c.len ≡ 1
begins_hold end c free is =
    let begins : c.at ≡ end = grind (arith, nat_tests, is) in
    holds_in end c.at c.len (omega (arith, begins)) (omega (arith, begins, free.room))

left_out : (test : Block → Bool) (p : ℕ) (free rest : List Block) (b : Block) → ((c : Block) → IsFree c → test c ≡ true → holds p c.at c.len ≡ 1)
    → AllByRecursion IsFree free → Separate free → test b ≡ true → IsPutIn b rest free → rest ≡ filter (λ c. not (test c)) free
left_out test p free rest b holding each apart is put =
    put.before ∙ sym (ap (filter (λ c. not (test c))) put.after
    ∙ filter_one test p holding put.front put.back b is (subst (AllByRecursion IsFree) put.after each) (subst Separate put.after apart))

-- the block that ends at a place, or begins at it, is out of the list: all others are left
pub ends_out : (free rest : List Block) (b : Block) (at : ℕ) → AllByRecursion IsFree free → Separate free → ends_at at b ≡ true
    → IsPutIn b rest free → rest ≡ filter (λ c. not (ends_at at c)) free
ends_out free rest b at each apart is put = left_out (ends_at at) (at - 1) free rest b (ends_hold at) each apart is put

pub begins_out : (free rest : List Block) (b : Block) (end : ℕ) → AllByRecursion IsFree free → Separate free → begins_at end b ≡ true
    → IsPutIn b rest free → rest ≡ filter (λ c. not (begins_at end c)) free
begins_out free rest b end each apart is put = left_out (begins_at end) end free rest b (begins_hold end) each apart is put

-- both are out
module _ (free : List Block) (at end : ℕ) (filled : at < end) where
  abbrev left : List Block
  left = filter (λ b. not (ends_at at b)) free

  pub others_left : filter (λ b. not (begins_at end b)) left ≡ others free at end
  others_left = filter_both (λ b. not (ends_at at b)) (λ b. not (begins_at end b)) free

  stays : (b : Block) → begins_at end b ≡ true → not (ends_at at b) ≡ true
  stays b is =
      let begins : b.at ≡ end = grind (arith, nat_tests, is) in
      let no : (b.at + b.len == at) ≡ false = not_same (b.at + b.len) at (omega (arith, begins, filled)) in
      rw no refl
    where
      not_same : (m n : ℕ) → m ≢ n → (m == n) ≡ false
      not_same m n other = grind (arith, nat_tests, other)

  pub begins_left : find (begins_at end) left ≡ find (begins_at end) free
  begins_left = find_left (begins_at end) (λ b. not (ends_at at b)) stays free

  pub stop_left : stop_of left end ≡ stop_of free end
  stop_left = ap (λ (o : Option Block). option_map_or (λ b. b.at + b.len) o end) begins_left

-- ---- the greatest offset below a place

-- one block more is looked at
pub greatest_more : (front : List Block) (b : Block) (at : ℕ) (greatest : Option ℕ) → IsGreatestBelow front at greatest
    → at ≤ b.at → IsGreatestBelow (front ++ b ∷ []) at greatest
greatest_more front b at None old past = all_append (λ (c : Block). at ≤ c.at) front (b ∷ []) old (past, tt)
greatest_more front b at (Some place) old past =
    (old.0, all_append (λ (c : Block). (c.at ≤ place) ⊎ (at ≤ c.at)) front (b ∷ []) old.1 (inr past, tt))

pub greatest_new : (front : List Block) (b : Block) (at : ℕ) (greatest : Option ℕ) → IsGreatestBelow front at greatest
    → b.at < at → IsGreatestBelow (front ++ b ∷ []) at (Some (option_map_or (λ place. max place b.at) greatest b.at))
greatest_new front b at None old low = (
  low,
  all_append (λ (c : Block). (c.at ≤ b.at) ⊎ (at ≤ c.at)) front (b ∷ [])
      (all_so (λ (c : Block). at ≤ c.at) (λ (c : Block). (c.at ≤ b.at) ⊎ (at ≤ c.at)) front (λ c past. inr past) old) (inl (omega arith), tt),
)
greatest_new front b at (Some place) old low = (
  omega (arith, low, old.0),
  all_append (λ (c : Block). (c.at ≤ max place b.at) ⊎ (at ≤ c.at)) front (b ∷ [])
      (all_so (λ (c : Block). (c.at ≤ place) ⊎ (at ≤ c.at)) (λ (c : Block). (c.at ≤ max place b.at) ⊎ (at ≤ c.at)) front
      (λ c either. elim either [ inl less ↦ inl (omega (arith, less)) | inr past ↦ inr past ]) old.1)
      (inl (omega arith), tt),
)

-- the greater of two places is one of them
pub greater_is : (P : ℕ → Type 0) (greatest : Option ℕ) (next : ℕ) → IfSome greatest P → P next → P (option_map_or (λ place. max place next) greatest next)
greater_is P None next old here = here
greater_is P (Some place) next old here = elim (cases_lt place next) [
  | inl less ↦ let same : max place next ≡ next = omega (arith, less) in subst P (sym same) here
  | inr more ↦ let same : max place next ≡ place = omega (arith, more) in subst P (sym same) old
]
