-- A list cut before and behind one of its places.
use Rattle.std.proofs.Common.{◌≡◌, ℕ, suc, ◌+◌, ◌-◌, ◌<◌, List, ◌∷◌, ◌++◌, length, take, drop, get_or, set, refl, sym, ap, ◌∙◌, arith}
use Rattle.std.specs.List.{insert}
use Rattle.std.proofs.lemmas.List.Edits.{insert-append_right}
use Rattle.std.proofs.lemmas.List.{take-append-drop, length-take}
use Rattle.std.proofs.Math.Seq.{drop-cons, set-append_seam}

-- what stands before and behind place k, and what the list is with another element there
pub record IsCut {X : Type 0} (xs : List X) (k : ℕ) (x : X) : Type 0 where
  pub front : List X
  pub back : List X
  pub whole : xs ≡ front ++ x ∷ back
  pub put : (y : X) → set xs k y ≡ front ++ y ∷ back
  pub long : length front ≡ k

pub cut_by_place : {X : Type 0} (xs : List X) (k : ℕ) (d : X) → k < length xs → IsCut xs k (get_or xs k d)
cut_by_place xs k d low =
    let whole : xs ≡ take k xs ++ get_or xs k d ∷ drop (suc k) xs = sym (take-append-drop k xs) ∙ ap (λ ys. take k xs ++ ys) (drop-cons xs k d low) in
    let long : length (take k xs) ≡ k = omega (arith, length-take k xs, low) in
    record {
      front = take k xs;
      back = drop (suc k) xs;
      whole = whole;
      put = λ y. ap (λ ys. set ys k y) whole ∙ ap (λ n. set (take k xs ++ get_or xs k d ∷ drop (suc k) xs) n y) (sym long)
          ∙ set-append_seam (take k xs) (get_or xs k d) (drop (suc k) xs) y;
      long = long;
    }

pub front_is : {X : Type 0} (xs : List X) (k : ℕ) (d : X) (low : k < length xs) → (cut_by_place xs k d low).front ≡ take k xs
unfolding cut_by_place
front_is xs k d low = refl

pub back_is : {X : Type 0} (xs : List X) (k : ℕ) (d : X) (low : k < length xs) → (cut_by_place xs k d low).back ≡ drop (suc k) xs
unfolding cut_by_place
back_is xs k d low = refl

-- another element at a place, and one more behind it
module _ {X : Type 0} (xs : List X) (k : ℕ) (low : k < length xs) (d y z : X) where
  next : k + 1 ≡ suc k
  next = omega arith

  pub set_between : set xs k y ≡ take k xs ++ y ∷ drop (k + 1) xs
  unfolding cut_by_place
  set_between = rw next ((cut_by_place xs k d low).put y)

  pub insert_behind : insert (set xs k y) (k + 1) z ≡ take k xs ++ y ∷ z ∷ drop (k + 1) xs
  insert_behind =
      let one : k + 1 - k ≡ 1 = omega arith in
      ap (λ (zs : List X). insert zs (k + 1) z) set_between
      ∙ insert-append_right (take k xs) (y ∷ drop (k + 1) xs) k (k + 1) z (omega (arith, length-take k xs, low)) (omega arith)
      ∙ ap (λ (n : ℕ). take k xs ++ insert (y ∷ drop (k + 1) xs) n z) one
