-- What a list of free blocks has around some bytes, and where it leads to these blocks.
use Rattle.std.proofs.Common.{◌≡◌, ◌≢◌, ℕ, ◌+◌, ◌-◌, ◌<◌, ◌≤◌, Bool, true, false, not, Option, Some, None, max, inl, inr, List, [], ◌∷◌, ◌++◌, refl, sym, ◌∙◌, ap, subst, arith, append_assoc, append-nil}
use Rattle.std.specs.Option.{IfSome, option_map_or, option_or}
use Rattle.std.specs.List.{AllByRecursion, find}
use Rattle.std.proofs.lemmas.Bool.Decides.{nat_tests}
use Rattle.std.proofs.lemmas.List.Elements.{filter-append}
use Rattle.std.proofs.lemmas.List.Folds.{find-append}
use Rattle.h5_bytes.specs.Bytes.{number_at}
use Rattle.h5_bytes.specs.Blocks.{holds, cover, Separate}
use Rattle.h5_bytes.specs.declared.Block.{Block}
use Rattle.h5_bytes.proofs.BlockLaws.{cover-append, all_left, all_right}
use Rattle.h5_model.specs.Format.Heap.{FreeFrom, IsFree}
use Rattle.h5_heap.specs.Around.{IsNeighbour, IsAround, not_ending}
use Rattle.h5_heap.specs.Chain.{free_from, HasChain, Stands, ComesBehind, last_place}
use Rattle.h5_heap.specs.Sought.{begins_at, ends_at}
use Rattle.h5_heap.specs.declared.around.Around.{Around}
use Rattle.h5_heap.specs.declared.around.Neighbour.{Neighbour}
use Rattle.h5_heap.proofs.ChainLaws.{free_block_at, front_more}
use Rattle.h5_heap.proofs.OrderLaws.{between_is, stands_middle, filter_none, find_far, ends_hold, begins_hold, begins_left, greatest_more, greatest_new, greater_is}

-- ---- where a list leads to a block

pub last_new : (front : List Block) (b : Block) → last_place (front ++ b ∷ []) ≡ Some b.at
last_new [] b = refl
last_new (x ∷ []) b = refl
last_new (x ∷ y ∷ ys) b = last_new (y ∷ ys) b

last_none : (front : List Block) → last_place front ≡ None → front ≡ []
last_none [] none = refl
last_none (x ∷ []) none = absurd (cc)
last_none (x ∷ y ∷ ys) none = absurd (let more = last_none (y ∷ ys) none in cc)

last_split : (front : List Block) (place : ℕ) → last_place front ≡ Some place
    → (fore : List Block) × (y : Block) × (front ≡ fore ++ y ∷ []) × (y.at ≡ place)
last_split [] place is = absurd (cc)
last_split (x ∷ []) place is = ([], x, refl, cc)
last_split (x ∷ y ∷ ys) place is =
    let more = last_split (y ∷ ys) place is in
    (x ∷ more.0, more.1, ap (λ (bs : List Block). x ∷ bs) more.2, more.3)

pub led_stands : (free : List Block) (place : Option ℕ) (b : Block) → ComesBehind free place b → Stands b.at free
led_stands free place b led = subst (Stands b.at) (sym led.split) (stands_middle led.front led.back b)

-- the list begins with it
pub led_first : (segment : List ℕ) (first : ℕ) (b : Block) → HasChain segment first → ComesBehind (free_from segment first) None b → first ≡ b.at
led_first segment first b c led =
    let whole : free_from segment first ≡ b ∷ led.back = led.split ∙ ap (λ (bs : List Block). bs ++ b ∷ led.back) (last_none led.front led.before) in
    sym (subst (FreeFrom segment first) whole c.listed).0

-- the list has a block at the place, and this one behind it
pub record LeadsTo (segment : List ℕ) (first place : ℕ) (b : Block) : Type 0 where
  pub front : List Block
  pub back : List Block
  pub split : free_from segment first ≡ front ++ free_block_at segment place ∷ b ∷ back

pub led_behind : (segment : List ℕ) (first place : ℕ) (b : Block) → HasChain segment first → ComesBehind (free_from segment first) (Some place) b
    → LeadsTo segment first place b
led_behind segment first place b c led =
    let s = last_split led.front place led.before in
    let whole : free_from segment first ≡ s.0 ++ s.1 ∷ b ∷ led.back
    = led.split ∙ ap (λ (bs : List Block). bs ++ b ∷ led.back) s.2 ∙ append_assoc s.0 (s.1 ∷ []) (b ∷ led.back) in
    let same : s.1 ≡ free_block_at segment place
    = between_is segment first s.0 (b ∷ led.back) s.1 c whole ∙ ap (free_block_at segment) s.3 in
    record {
      front = s.0;
      back = led.back;
      split = whole ∙ ap (λ (y : Block). s.0 ++ y ∷ b ∷ led.back) same;
    }

-- ---- a block that is looked for, in a list with one more behind

led_more : (bs : List Block) (place : Option ℕ) (x b : Block) → ComesBehind bs place x → ComesBehind (bs ++ b ∷ []) place x
led_more bs place x b led = record {
  front = led.front;
  back = led.back ++ b ∷ [];
  split = ap (λ (cs : List Block). cs ++ b ∷ []) led.split ∙ append_assoc led.front (x ∷ led.back) (b ∷ []);
  before = led.before;
}

neighbour_more : (test : Block → Bool) (bs : List Block) (b : Block) (n : Option Neighbour) → test b ≡ false → IsNeighbour test bs n → IsNeighbour test (bs ++ b ∷ []) n
neighbour_more test bs b None fails old = find-append test bs (b ∷ []) ∙ rw (old, fails) refl
neighbour_more test bs b (Some n) fails old = (
  find-append test bs (b ∷ []) ∙ ap (λ (o : Option Block). option_or o (find test (b ∷ []))) old.0,
  led_more bs n.place n.block b old.1,
)

neighbour_new : (test : Block → Bool) (bs : List Block) (b : Block) (place : Option ℕ) → test b ≡ true → find test bs ≡ None → last_place bs ≡ place
    → IsNeighbour test (bs ++ b ∷ []) (Some (record { place = place; block = b }))
neighbour_new test bs b place passes none last = (
  find-append test bs (b ∷ []) ∙ rw (none, passes) refl,
  record { front = bs; back = []; split = refl; before = last },
)

stands_more : (place : Option ℕ) (bs : List Block) (b : Block) → IfSome place (λ p. Stands p bs) → IfSome place (λ p. Stands p (bs ++ b ∷ []))
stands_more None bs b there = tt
stands_more (Some p) bs b there = go bs there where
  go : (cs : List Block) → Stands p cs → Stands p (cs ++ b ∷ [])
  go [] none = absurd none
  go (c ∷ cs) (inl here) = inl here
  go (c ∷ cs) (inr later) = inr (go cs later)

-- ---- one block more is met

module _ (front : List Block) (b : Block) (at end : ℕ) (filled : at < end) (place : Option ℕ) (around : Around) (old : IsAround front at end around)
    (last : last_place (not_ending at front) ≡ place) (each : AllByRecursion IsFree (front ++ b ∷ [])) (apart : Separate (front ++ b ∷ [])) where
  -- it is alone in what it holds
  alone : (test : Block → Bool) (p : ℕ) → ((c : Block) → IsFree c → test c ≡ true → holds p c.at c.len ≡ 1) → test b ≡ true → find test front ≡ None
  alone test p holding passes =
      find_far test p holding front (all_left IsFree front (b ∷ []) each)
      (omega (arith, apart p, cover-append p front (b ∷ []), holding b (all_right IsFree front (b ∷ []) each).0 passes))

  -- it ends where the bytes begin
  module _ (ends : b.at + b.len ≡ at) where
    passes : ends_at at b ≡ true
    passes = grind (arith, nat_tests, ends)

    same : not_ending at (front ++ b ∷ []) ≡ not_ending at front
    same = filter-append (λ c. not (ends_at at c)) front (b ∷ []) ∙ rw passes (append-nil (not_ending at front))

    none : find (ends_at at) front ≡ None
    none = alone (ends_at at) (at - 1) (ends_hold at) passes

    pub around_left : IsAround (front ++ b ∷ []) at end (record { left = Some (record { place = place; block = b }); right = around.right; below = around.below })
    around_left = record {
      left = neighbour_new (ends_at at) front b place passes none (ap last_place (sym (filter_none (ends_at at) front none)) ∙ last);
      right = rw same old.right;
      listed = rw same old.listed;
      greatest = rw same old.greatest;
    }

    pub place_left : last_place (not_ending at (front ++ b ∷ [])) ≡ place
    place_left = ap last_place same ∙ last

  -- it ends elsewhere
  module _ (other : b.at + b.len ≢ at) where
    fails : ends_at at b ≡ false
    fails = grind (arith, nat_tests, other)

    more : not_ending at (front ++ b ∷ []) ≡ not_ending at front ++ b ∷ []
    more = filter-append (λ c. not (ends_at at c)) front (b ∷ []) ∙ rw fails refl

    left_more : IsNeighbour (ends_at at) (front ++ b ∷ []) around.left
    left_more = neighbour_more (ends_at at) front b around.left fails old.left

    listed_more : IfSome around.below (λ p. Stands p (not_ending at (front ++ b ∷ [])))
    listed_more = rw more (stands_more around.below (not_ending at front) b old.listed)

    right_more : b.at ≢ end → IsNeighbour (begins_at end) (not_ending at (front ++ b ∷ [])) around.right
    right_more before =
        let not_there : begins_at end b ≡ false = grind (arith, nat_tests, before) in
        rw more (neighbour_more (begins_at end) (not_ending at front) b around.right not_there old.right)

    pub place_more : last_place (not_ending at (front ++ b ∷ [])) ≡ Some b.at
    place_more = ap last_place more ∙ last_new (not_ending at front) b

    pub around_below : b.at < at
        → IsAround (front ++ b ∷ []) at end (record { left = around.left; right = around.right; below = Some (option_map_or (λ p. max p b.at) around.below b.at) })
    around_below low = record {
      left = left_more;
      right = right_more (omega (arith, low, filled));
      listed = greater_is (λ p. Stands p (not_ending at (front ++ b ∷ []))) around.below b.at listed_more
          (rw more (stands_middle (not_ending at front) [] b));
      greatest = rw more (greatest_new (not_ending at front) b at around.below old.greatest low);
    }

    pub around_right : at ≤ b.at → b.at ≡ end
        → IsAround (front ++ b ∷ []) at end (record { left = around.left; right = Some (record { place = place; block = b }); below = around.below })
    around_right past begins =
        let there : begins_at end b ≡ true = grind (arith, nat_tests, begins) in
        let none : find (begins_at end) (not_ending at front) ≡ None
        = begins_left front at end filled ∙ alone (begins_at end) end (begins_hold end) there in
        record {
          left = left_more;
          right = rw more (neighbour_new (begins_at end) (not_ending at front) b place there none last);
          listed = listed_more;
          greatest = rw more (greatest_more (not_ending at front) b at around.below old.greatest past);
        }

    pub around_past : at ≤ b.at → b.at ≢ end → IsAround (front ++ b ∷ []) at end around
    around_past past elsewhere = record {
      left = left_more;
      right = right_more elsewhere;
      listed = listed_more;
      greatest = rw more (greatest_more (not_ending at front) b at around.below old.greatest past);
    }

-- ---- a step of the walk

-- the blocks that were met, with the one at an offset
pub record HasWalked (segment : List ℕ) (first next : ℕ) (front : List Block) : Type 0 where
  pub more : free_from segment first ≡ (front ++ free_block_at segment next ∷ []) ++ free_from segment (number_at segment next 8)
  pub each : AllByRecursion IsFree (front ++ free_block_at segment next ∷ [])
  pub apart : Separate (front ++ free_block_at segment next ∷ [])

pub walked : (segment : List ℕ) (first next : ℕ) (front : List Block) → HasChain segment first → next ≢ 1 → HasChain segment next
    → free_from segment first ≡ front ++ free_from segment next → HasWalked segment first next front
walked segment first next front c going on is =
    let met : List Block = front ++ free_block_at segment next ∷ [] in
    let rest : List Block = free_from segment (number_at segment next 8) in
    let more : free_from segment first ≡ met ++ rest = front_more segment first next front going on is in
    record {
      more = more;
      each = all_left IsFree met rest (subst (AllByRecursion IsFree) more c.each);
      apart = λ p. omega (arith, c.apart p, ap (cover p) more, cover-append p met rest);
    }
