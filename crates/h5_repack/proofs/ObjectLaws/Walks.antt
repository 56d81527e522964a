-- Objects that are met one after another, with those that wait.
use Rattle.std.proofs.Common.{◌≡◌, ◌≢◌, ℕ, zero, suc, ◌+◌, ◌<◌, ◌⊎◌, inl, inr, List, [], ◌∷◌, ◌++◌, Bool, true, false, refl, sym, ap, ◌∙◌, subst, arith, length, length-set, get_or, set, Option, Some, replicate, get_or-set_same, get_or-set_other}
use Rattle.std.proofs.lemmas.Bool.Decides.{nat_tests}
use Rattle.std.proofs.lemmas.List.{get_or_read, length-replicate}
use Rattle.std.proofs.lemmas.Option.{same_Some, slice_get_within}
use Rattle.std.specs.Prelude.{◌==◌, IsSome, slice_get}
use Rattle.std.specs.FinMap.{get}
use Rattle.h5_model.specs.Tree.Objects.{Tree}
use Rattle.h5_laws.specs.Trees.Sound.{IsSoundTree}
use Rattle.h5_laws.proofs.SoundLaws.LinksThere.{group_stands}
use Rattle.h5_repack.specs.declared.objects.object.NewObject.{NewObject}
use Rattle.h5_repack.specs.Objects.Objects.{AreObjects, IsFilled}
use Rattle.h5_repack.specs.Objects.Order.{AreMet}
use Rattle.h5_repack.specs.Objects.Targets.{waiting_objects}
use Rattle.h5_laws.proofs.Lists.{In, all_in, in_left, in_either, in_right, in_contains, contains_in}
use Rattle.h5_laws.proofs.Pigeonhole.{Apart, distinct_of_apart, apart_push}
use Rattle.h5_repack.proofs.ObjectLaws.Members.{in_front, in_last}
use Rattle.h5_repack.proofs.ObjectLaws.Trees.{filled_of, link_waits, some_of}
use Rattle.h5_repack.proofs.ObjectLaws.Zips.{filled_below}

-- What is met is marked and has an object, and no number twice; what a met object's links lead to is met or waits; the root comes first.
pub record IsWalk (objects : List (Option NewObject)) (order stack : List ℕ) (marks : List Bool) : Type 0 where
  pub same : length marks ≡ length objects
  pub marked : (number : ℕ) → In number order → get_or marks number false ≡ true
  pub met : (number : ℕ) → get_or marks number false ≡ true → In number order
  pub filled : (number : ℕ) → In number order → IsFilled objects number
  pub waits_filled : (number : ℕ) → In number stack → IsFilled objects number
  pub apart : Apart order
  pub closed : (number other : ℕ) (x : Option NewObject) → In number order → slice_get objects number ≡ Some x → In other (waiting_objects x) → In other order ⊎ In other stack
  pub first : ((order ≡ []) × (stack ≡ 0 ∷ [])) ⊎ ((others : List ℕ) × (order ≡ 0 ∷ others))

-- ---- the root waits, and nothing is met

unmarked : (n number : ℕ) → get_or (replicate n false) number false ≡ false
unmarked zero number = refl
unmarked (suc n) zero = refl
unmarked (suc n) (suc number) = unmarked n number

pub walk_begun : (objects : List (Option NewObject)) (tree : Tree) → AreObjects objects tree → IsSoundTree tree → (marks : List Bool) → marks ≡ replicate (length objects) false
    → IsWalk objects [] (0 ∷ []) marks
walk_begun objects tree are sound marks none = record {
  same = ap length none ∙ length-replicate {A = Bool} (length objects) false;
  marked = λ number at. absurd at;
  met = λ number marked. absurd (let never : false ≡ true = sym (unmarked (length objects) number) ∙ ap (λ (ms : List Bool). get_or ms number false) (sym none) ∙ marked in cc);
  filled = λ number at. absurd at;
  waits_filled = λ number at. elim at [
    | inl is ↦ subst (λ (n : ℕ). IsFilled objects n) is (filled_of objects tree are 0 (group_stands tree 0 sound.rooted))
    | inr never ↦ absurd never
  ];
  apart = tt;
  closed = λ number other x at. absurd at;
  first = inl (refl, refl);
}

-- the number that is taken next has an object
pub last_below : (objects : List (Option NewObject)) (order stack rest : List ℕ) (marks : List Bool) (number : ℕ) → IsWalk objects order stack marks → stack ≡ rest ++ number ∷ []
    → number < length objects
last_below objects order stack rest marks number walk is =
    filled_below objects number (walk.waits_filled number (subst (λ (ns : List ℕ). In number ns) (sym is) (in_last number rest)))

-- a mark, as it was read
pub mark_read : (marks : List Bool) (number : ℕ) (read is : Bool) → number < length marks → read ≡ get_or marks number read → read ≡ is → get_or marks number false ≡ is
mark_read marks number read is low at same = sym (get_or_read marks number read low at false) ∙ same

-- the list before its last number, where all of it is one number
lone_last : (xs : List ℕ) (x y : ℕ) → xs ++ x ∷ [] ≡ y ∷ [] → x ≡ y
lone_last [] x y e = cc
lone_last (z ∷ []) x y e = absurd (cc)
lone_last (z ∷ w ∷ xs) x y e = absurd (cc)

-- a number that is met is left
pub walk_left : (objects : List (Option NewObject)) (order stack : List ℕ) (marks : List Bool) (number : ℕ) → IsWalk objects order (stack ++ number ∷ []) marks
    → get_or marks number false ≡ true → IsWalk objects order stack marks
walk_left objects order stack marks number walk marked = record {
  same = walk.same;
  marked = walk.marked;
  met = walk.met;
  filled = walk.filled;
  waits_filled = λ n at. walk.waits_filled n (in_left n stack (number ∷ []) at);
  apart = walk.apart;
  closed = λ n other x at is there. elim (walk.closed n other x at is there) [
    | inl here ↦ inl here
    | inr waits ↦ elim (in_front other number stack waits) [
      | inl still ↦ inr still
      | inr e ↦ inl (subst (λ (m : ℕ). In m order) e (walk.met number marked))
    ]
  ];
  first = elim walk.first [
    | inl begun ↦ absurd (subst (λ (ns : List ℕ). In number ns) begun.0 (walk.met number marked))
    | inr begun ↦ inr begun
  ];
}

-- a number that is not met yet is met now, and what its links lead to waits
module _ (objects : List (Option NewObject)) (order stack : List ℕ) (marks : List Bool) (number : ℕ) (x : Option NewObject) (walk : IsWalk objects order (stack ++ number ∷ []) marks)
    (unmarked : get_or marks number false ≡ false) (is : slice_get objects number ≡ Some x) (all_filled : (other : ℕ) → In other (waiting_objects x) → IsFilled objects other) where
  within : number < length marks
  within = omega (arith, walk.same, slice_get_within objects number x is)

  here_marked : (n : ℕ) → n ≡ number → get_or (set marks number true) n false ≡ true
  here_marked n e = ap (λ k. get_or (set marks number true) k false) e ∙ get_or-set_same marks number true false within

  still_marked : (n : ℕ) → In n order → get_or (set marks number true) n false ≡ true
  still_marked n at = go (n == number) refl where
    go : (b : Bool) → (n == number) ≡ b → get_or (set marks number true) n false ≡ true
    go true e = let place : n ≡ number = grind (arith, nat_tests, e) in here_marked n place
    go false e = let place : n ≢ number = grind (arith, nat_tests, e) in get_or-set_other marks number n true false place ∙ walk.marked n at

  marked_now : (n : ℕ) → In n (order ++ number ∷ []) → get_or (set marks number true) n false ≡ true
  marked_now n at = elim (in_front n number order at) [ inl before ↦ still_marked n before | inr e ↦ here_marked n (sym e) ]

  met_now : (n : ℕ) → get_or (set marks number true) n false ≡ true → In n (order ++ number ∷ [])
  met_now n marked = go (n == number) refl where
    go : (b : Bool) → (n == number) ≡ b → In n (order ++ number ∷ [])
    go true e = let place : number ≡ n = grind (arith, nat_tests, e) in subst (λ (k : ℕ). In k (order ++ number ∷ [])) place (in_last number order)
    go false e =
        let place : n ≢ number = grind (arith, nat_tests, e) in
        in_left n order (number ∷ []) (walk.met n (sym (get_or-set_other marks number n true false place) ∙ marked))

  filled_now : (n : ℕ) → In n (order ++ number ∷ []) → IsFilled objects n
  filled_now n at = elim (in_front n number order at) [
    | inl before ↦ walk.filled n before
    | inr e ↦ subst (λ (k : ℕ). IsFilled objects k) e (walk.waits_filled number (in_last number stack))
  ]

  waits_filled_now : (n : ℕ) → In n (stack ++ waiting_objects x) → IsFilled objects n
  waits_filled_now n at = elim (in_either n stack (waiting_objects x) at) [
    | inl before ↦ walk.waits_filled n (in_left n stack (number ∷ []) before)
    | inr new ↦ all_filled n new
  ]

  still_closed : (n other : ℕ) (y : Option NewObject) → In n order → slice_get objects n ≡ Some y → In other (waiting_objects y) → In other (order ++ number ∷ []) ⊎ In other (stack ++ waiting_objects x)
  still_closed n other y at there leads = elim (walk.closed n other y at there leads) [
    | inl before ↦ inl (in_left other order (number ∷ []) before)
    | inr waits ↦ elim (in_front other number stack waits) [
      | inl still ↦ inr (in_left other stack (waiting_objects x) still)
      | inr e ↦ inl (subst (λ (m : ℕ). In m (order ++ number ∷ [])) e (in_last number order))
    ]
  ]

  closed_now : (n other : ℕ) (y : Option NewObject) → In n (order ++ number ∷ []) → slice_get objects n ≡ Some y → In other (waiting_objects y) → In other (order ++ number ∷ []) ⊎ In other (stack ++ waiting_objects x)
  closed_now n other y at there leads = elim (in_front n number order at) [
    | inl before ↦ still_closed n other y before there leads
    | inr e ↦
        let same : y ≡ x = same_Some y x (sym there ∙ ap (slice_get objects) (sym e) ∙ is) in
        inr (in_right other stack (waiting_objects x) (subst (λ (z : Option NewObject). In other (waiting_objects z)) same leads))
  ]

  first_now : (others : List ℕ) × (order ++ number ∷ [] ≡ 0 ∷ others)
  first_now = elim walk.first [
    | inl begun ↦ ([], ap (λ (ns : List ℕ). ns ++ number ∷ []) begun.0 ∙ ap (λ (n : ℕ). n ∷ []) (lone_last stack number 0 begun.1))
    | inr begun ↦ (begun.0 ++ number ∷ [], ap (λ (ns : List ℕ). ns ++ number ∷ []) begun.1)
  ]

  pub walk_met : IsWalk objects (order ++ number ∷ []) (stack ++ waiting_objects x) (set marks number true)
  walk_met = record {
    same = length-set marks number true ∙ walk.same;
    marked = marked_now;
    met = met_now;
    filled = filled_now;
    waits_filled = waits_filled_now;
    apart = apart_push order number walk.apart (λ at. let yes : get_or marks number false ≡ true = walk.marked number at in cc);
    closed = closed_now;
    first = inr first_now;
  }

-- where nothing waits, all is met
pub walk_done : (objects : List (Option NewObject)) (order : List ℕ) (marks : List Bool) (tree : Tree) → IsWalk objects order [] marks → AreObjects objects tree
    → AreMet tree order
walk_done objects order marks tree walk are = record {
  others = begun.0;
  first = begun.1;
  there = all_in (λ (n : ℕ). IsSome (get tree n)) order (λ n at. some_of objects tree are n (walk.filled n at));
  distinct = distinct_of_apart order walk.apart;
  closed = λ number other name has leads.
      let from = link_waits objects tree are number other name leads in
      contains_in other order (elim (walk.closed number other from.0 (in_contains number order has) from.1 from.2) [
        | inl here ↦ here
        | inr never ↦ absurd never
      ]);
} where
  begun : (others : List ℕ) × (order ≡ 0 ∷ others)
  begun = elim walk.first [
    | inl none ↦ let never : ◌≡◌ {A = List ℕ} [] (0 ∷ []) = none.1 in absurd (cc)
    | inr some ↦ some
  ]

-- ---- what is left to do: each object that is not met, and the objects that it lets wait

abbrev pub left_over : List (Option NewObject) → List Bool → ℕ
left_over [] marks = 0
left_over (x ∷ xs) [] = 0
left_over (x ∷ xs) (true ∷ marks) = left_over xs marks
left_over (x ∷ xs) (false ∷ marks) = 1 + length (waiting_objects x) + left_over xs marks

pub left_met : (objects : List (Option NewObject)) (marks : List Bool) (number : ℕ) (x : Option NewObject) → number < length marks → slice_get objects number ≡ Some x
    → get_or marks number false ≡ false → left_over objects (set marks number true) + (1 + length (waiting_objects x)) ≡ left_over objects marks
left_met [] marks number x low is unmarked = absurd (cc)
left_met (y ∷ ys) [] number x low is unmarked = absurd (omega (arith, low))
left_met (y ∷ ys) (true ∷ marks) zero x low is unmarked = absurd (cc)
left_met (y ∷ ys) (false ∷ marks) zero x low is unmarked =
    let same : length (waiting_objects y) ≡ length (waiting_objects x) = ap (λ (z : Option NewObject). length (waiting_objects z)) (same_Some y x is) in omega (arith, same)
left_met (y ∷ ys) (true ∷ marks) (suc number) x low is unmarked = left_met ys marks number x (omega (arith, low)) is unmarked
left_met (y ∷ ys) (false ∷ marks) (suc number) x low is unmarked = omega (arith, left_met ys marks number x (omega (arith, low)) is unmarked)
