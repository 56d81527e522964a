-- Objects that lose links are parted, as one after another is put to those that go or to the others.
use Rattle.std.proofs.Common.{◌≡◌, inl, inr, ℕ, ◌+◌, ◌<◌, ◌≤◌, ◌==◌, Bool, true, false, List, [], ◌∷◌, ◌++◌, get_or, length, map, take, refl, sym, ap, ◌∙◌, subst, arith}
use Rattle.std.specs.Prelude.{if◌then◌else◌}
use Rattle.std.proofs.lemmas.Bool.Decides.{nat_tests}
use Rattle.std.proofs.lemmas.List.{map-append, append-nil, take_more}
use Rattle.std.proofs.lemmas.Grind.{flat_map-append}
use Rattle.std.specs.Ordering.{nat_cmp, eq_by_cmp}
use Rattle.std.specs.List.{Contains, IsDistinct, flat_map}
use Rattle.std.proofs.lemmas.List.Elements.{Contains-push, Contains-append_left, Contains-push_cases}
use Rattle.h5_bytes.specs.Blocks.{cover}
use Rattle.h5_bytes.specs.declared.Block.{Block}
use Rattle.h5_bytes.proofs.BlockLaws.{cover-append}
use Rattle.h5_laws.proofs.Lists.{In, contains_in, from_map, in_contains, in_right}
use Rattle.h5_laws.proofs.Pigeonhole.{Apart, apart_of_distinct, distinct_of_apart, apart_push}
use Rattle.h5_open.proofs.LostLaws.{apart_take}
use Rattle.h5_open.specs.LostLinks.{AreLossesParted}

-- ---- an element more at the end

distinct_push : (xs : List ℕ) (y : ℕ) → IsDistinct (eq_by_cmp nat_cmp) xs → (Contains xs y → ⊥) → IsDistinct (eq_by_cmp nat_cmp) (xs ++ y ∷ [])
distinct_push xs y once other = distinct_of_apart (xs ++ y ∷ []) (apart_push xs y (apart_of_distinct xs once) (λ at. other (contains_in y xs at)))

-- ---- the next of a list without doubles

apart_last : (xs : List ℕ) (y : ℕ) → Apart (xs ++ y ∷ []) → In y xs → ⊥
apart_last [] y apart at = at
apart_last (x ∷ xs) y apart (inl same) = apart.0 (in_right x xs (y ∷ []) (inl (sym same)))
apart_last (x ∷ xs) y apart (inr at) = apart_last xs y apart.1 at

pub next_other : (xs : List ℕ) (i : ℕ) → IsDistinct (eq_by_cmp nat_cmp) xs → i < length xs → Contains (take i xs) (get_or xs i 0) → ⊥
next_other xs i once low at =
    let next = subst Apart (take_more xs i 0 low) (apart_take (i + 1) xs (apart_of_distinct xs once)) in
    apart_last (take i xs) (get_or xs i 0) next (in_contains (get_or xs i 0) (take i xs) at)

module _ (links lost : ℕ → ℕ) (blocks : ℕ → List Block) where
  parted_none : AreLossesParted links lost blocks [] [] [] []
  parted_none = record {
    gone_once = distinct_of_apart [] tt;
    less_once = distinct_of_apart [] tt;
    goes = λ n at. absurd (in_contains n [] at);
    stays = λ n left at. absurd (in_contains (n, left) [] at);
    parted = λ n at. absurd (in_contains n [] at);
    covered = λ p. refl;
  }

  pub parted_empty : (gone : List ℕ) (less : List (ℕ × ℕ)) (held : List Block) → gone ≡ [] → less ≡ [] → held ≡ [] → AreLossesParted links lost blocks [] gone less held
  parted_empty gone less held g l h =
      subst (λ (bs : List Block). AreLossesParted links lost blocks [] gone less bs) (sym h)
      (subst (λ (xs : List (ℕ × ℕ)). AreLossesParted links lost blocks [] gone xs []) (sym l) (subst (λ (xs : List ℕ). AreLossesParted links lost blocks [] xs [] []) (sym g) parted_none))

  module _ (numbers gone : List ℕ) (less : List (ℕ × ℕ)) (held : List Block) (are : AreLossesParted links lost blocks numbers gone less held)
      (number left : ℕ) (other : Contains numbers number → ⊥) (is : left + lost number ≡ links number) (held' : List Block) where
    -- it goes
    put_gone : left ≡ 0 → ((p : ℕ) → cover p held' ≡ cover p held + cover p (blocks number)) → AreLossesParted links lost blocks (numbers ++ number ∷ []) (gone ++ number ∷ []) less held'
    put_gone none covers = record {
      gone_once = distinct_push gone number are.gone_once (λ at. other (are.goes number at).0);
      less_once = are.less_once;
      goes = λ n at. elim (Contains-push_cases gone number n at) [
        | inl there ↦ let g = are.goes n there in (Contains-append_left numbers (number ∷ []) n g.0, g.1)
        | inr same ↦ subst (λ (m : ℕ). Contains (numbers ++ number ∷ []) m × (lost m ≡ links m)) same (Contains-push numbers number, omega (arith, is, none))
      ];
      stays = λ n rest at. let s = are.stays n rest at in (Contains-append_left numbers (number ∷ []) n s.0, s.1, s.2);
      parted = λ n at. elim (Contains-push_cases numbers number n at) [
        | inl there ↦ elim (are.parted n there) [ inl goes ↦ inl (Contains-append_left gone (number ∷ []) n goes) | inr stays ↦ inr stays ]
        | inr same ↦ inl (subst (Contains (gone ++ number ∷ [])) same (Contains-push gone number))
      ];
      covered = λ p.
          let more = ap (cover p) (flat_map-append blocks gone (number ∷ []) ∙ ap (λ (bs : List Block). flat_map blocks gone ++ bs) (append-nil (blocks number))) in
          omega (arith, covers p, are.covered p, more, cover-append p (flat_map blocks gone) (blocks number));
    }

    -- some are left to it
    put_less : 1 ≤ left → ((p : ℕ) → cover p held' ≡ cover p held) → AreLossesParted links lost blocks (numbers ++ number ∷ []) gone (less ++ (number, left) ∷ []) held'
    put_less some covers = record {
      gone_once = are.gone_once;
      less_once = subst (IsDistinct (eq_by_cmp nat_cmp)) (sym (map-append (λ (l : ℕ × ℕ). l.0) less ((number, left) ∷ [])))
          (distinct_push (map (λ (l : ℕ × ℕ). l.0) less) number are.less_once (λ at.
          let one = from_map (λ (l : ℕ × ℕ). l.0) number less (in_contains number (map (λ (l : ℕ × ℕ). l.0) less) at) in
          other (subst (Contains numbers) one.2 (are.stays one.0.0 one.0.1 (contains_in one.0 less one.1)).0)));
      goes = λ n at. let g = are.goes n at in (Contains-append_left numbers (number ∷ []) n g.0, g.1);
      stays = λ n rest at. elim (Contains-push_cases less (number, left) (n, rest) at) [
        | inl there ↦ let s = are.stays n rest there in (Contains-append_left numbers (number ∷ []) n s.0, s.1, s.2)
        | inr same ↦
            subst (λ (l : ℕ × ℕ). Contains (numbers ++ number ∷ []) l.0 × (1 ≤ l.1) × (l.1 + lost l.0 ≡ links l.0)) same (Contains-push numbers number, some, is)
      ];
      parted = λ n at. elim (Contains-push_cases numbers number n at) [
        | inl there ↦ elim (are.parted n there) [ inl goes ↦ inl goes | inr stays ↦ inr (stays.0, Contains-append_left less ((number, left) ∷ []) (n, stays.0) stays.1) ]
        | inr same ↦ inr (left, subst (λ (m : ℕ). Contains (less ++ (number, left) ∷ []) (m, left)) same (Contains-push less (number, left)))
      ];
      covered = λ p. covers p ∙ are.covered p;
    }

    pub parted_put : (gone' : List ℕ) (less' : List (ℕ × ℕ)) → gone' ≡ (if left == 0 then gone ++ number ∷ [] else gone) → less' ≡ (if left == 0 then less else less ++ (number, left) ∷ [])
        → ((p : ℕ) → cover p held' ≡ cover p held + (if left == 0 then cover p (blocks number) else 0)) → AreLossesParted links lost blocks (numbers ++ number ∷ []) gone' less' held'
    parted_put gone' less' went stayed covers = go (left == 0) refl went stayed covers where
      go : (b : Bool) → (left == 0) ≡ b → gone' ≡ (if b then gone ++ number ∷ [] else gone) → less' ≡ (if b then less else less ++ (number, left) ∷ [])
          → ((p : ℕ) → cover p held' ≡ cover p held + (if b then cover p (blocks number) else 0)) → AreLossesParted links lost blocks (numbers ++ number ∷ []) gone' less' held'
      go true e g l c =
          let none : left ≡ 0 = grind (arith, nat_tests, e) in
          subst (λ (xs : List (ℕ × ℕ)). AreLossesParted links lost blocks (numbers ++ number ∷ []) gone' xs held') (sym l)
          (subst (λ (xs : List ℕ). AreLossesParted links lost blocks (numbers ++ number ∷ []) xs less held') (sym g) (put_gone none c))
      go false e g l c =
          let some : 1 ≤ left = grind (arith, nat_tests, e) in
          subst (λ (xs : List (ℕ × ℕ)). AreLossesParted links lost blocks (numbers ++ number ∷ []) gone' xs held') (sym l)
          (subst (λ (xs : List ℕ). AreLossesParted links lost blocks (numbers ++ number ∷ []) xs (less ++ (number, left) ∷ []) held') (sym g) (put_less some (λ p. omega (arith, c p))))
