-- Slots of which there is one more, and trees of which one object is changed.
use Rattle.std.proofs.Common.{◌≡◌, ℕ, zero, suc, List, [], ◌∷◌, ◌++◌, length, Bool, true, false, cond, Option, Some, None, refl, sym, ap, ◌∙◌, arith}
use Rattle.std.specs.Prelude.{◌==◌, slice_get, option_map}
use Rattle.std.specs.Option.{option_flatten, option_map_or}
use Rattle.std.specs.List.{AllZip}
use Rattle.std.specs.Cmp.{nat_cmp_total, unsigned_tied}
use Rattle.std.specs.FinMap.{get, insert, get-insert}
use Rattle.std.proofs.lemmas.Bool.Decides.{nat_tests}
use Rattle.h5_model.specs.Tree.Objects.{Tree, Object, with_object}

-- ---- lists

next_same : (a b : ℕ) → (a == b) ≡ (suc a == suc b)
next_same a b = by_test (a == b) refl where
  by_test : (t : Bool) → (a == b) ≡ t → t ≡ (suc a == suc b)
  by_test true same = let next : (suc a == suc b) ≡ true = grind (arith, nat_tests) in sym next
  by_test false other = let next : (suc a == suc b) ≡ false = grind (arith, nat_tests) in sym next

slice_get-one_more : {X : Type 0} (xs : List X) (x : X) (k : ℕ) → slice_get (xs ++ x ∷ []) k ≡ cond (k == length xs) (Some x) (slice_get xs k)
slice_get-one_more [] x zero = refl
slice_get-one_more {X = X} [] x (suc k) = let past : (suc k == 0) ≡ false = grind (arith, nat_tests) in ap (λ (b : Bool). cond b (Some x) None) (sym past)
slice_get-one_more (y ∷ xs) x zero = let first : (0 == suc (length xs)) ≡ false = grind (arith, nat_tests) in ap (λ (b : Bool). cond b (Some x) (Some y)) (sym first)
slice_get-one_more (y ∷ xs) x (suc k) = slice_get-one_more xs x k ∙ ap (λ (b : Bool). cond b (Some x) (slice_get xs k)) (next_same k (length xs))

-- so what stands in a slot, with one slot more
pub found_one_more : {X : Type 0} (slots : List (Option X)) (slot : Option X) (k : ℕ)
    → option_flatten (slice_get (slots ++ slot ∷ []) k) ≡ cond (k == length slots) slot (option_flatten (slice_get slots k))
found_one_more slots slot k = ap option_flatten (slice_get-one_more slots slot k) ∙ by_test (k == length slots) where
  by_test : (b : Bool) → option_flatten (cond b (Some slot) (slice_get slots k)) ≡ cond b slot (option_flatten (slice_get slots k))
  by_test true = refl
  by_test false = refl

pub zip_append : {A B : Type 0} (R : A → B → Type 0) (xs us : List A) (ys vs : List B) → AllZip R xs ys → AllZip R us vs → AllZip R (xs ++ us) (ys ++ vs)
zip_append R [] us [] vs each more = more
zip_append R [] us (y ∷ ys) vs each more = absurd each
zip_append R (x ∷ xs) us [] vs each more = absurd each
zip_append R (x ∷ xs) us (y ∷ ys) vs each more = (each.0, zip_append R xs us ys vs each.1 more)

-- ---- trees

-- an object, where that of a number is changed
abbrev pub at_place : ℕ → ℕ → (Object → Object) → Object → Object
at_place n place change o = cond (n == place) (change o) o

module _ (tree : Tree) (place : ℕ) (change : Object → Object) where
  kept : (found : Option Object) → found ≡ option_map (λ (x : Object). x) found
  kept None = refl
  kept (Some x) = refl

  there : (k : ℕ) (o : Object) → get tree place ≡ Some o → get (insert tree place (change o)) k ≡ option_map (at_place k place change) (get tree k)
  there k o is = get-insert nat_cmp_total tree place (change o) k
      ∙ ap (λ b. cond b (Some (change o)) (get tree k)) (unsigned_tied k place)
      ∙ by_test (k == place) refl where
        by_test : (b : Bool) → (k == place) ≡ b → cond b (Some (change o)) (get tree k) ≡ option_map (λ x. cond b (change x) x) (get tree k)
        by_test true same =
            let here : k ≡ place = grind (arith, nat_tests) in
            let found : Some o ≡ get tree k = sym is ∙ ap (get tree) (sym here) in
            ap (option_map change) found
        by_test false other = kept (get tree k)

  not_there : (k : ℕ) → get tree place ≡ None → get tree k ≡ option_map (at_place k place change) (get tree k)
  not_there k is = by_test (k == place) refl where
    by_test : (b : Bool) → (k == place) ≡ b → get tree k ≡ option_map (λ x. cond b (change x) x) (get tree k)
    by_test true same =
        let here : k ≡ place = grind (arith, nat_tests) in
        let none : get tree k ≡ None = ap (get tree) here ∙ is in
        none ∙ ap (option_map change) (sym none)
    by_test false other = kept (get tree k)

  pub get-with_object : (k : ℕ) → get (with_object tree place change) k ≡ option_map (at_place k place change) (get tree k)
  get-with_object k = by_found (get tree place) refl where
    by_found : (found : Option Object) → get tree place ≡ found
        → get (option_map_or (λ o. insert tree place (change o)) found tree) k ≡ option_map (at_place k place change) (get tree k)
    by_found None is = not_there k is
    by_found (Some o) is = there k o is
