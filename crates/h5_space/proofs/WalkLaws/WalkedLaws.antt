-- A block that shares a byte with what a walk has claimed overlaps the superblock or a block that another field names.
use Rattle.std.proofs.Common.{◌≡◌, ◌≢◌, ℕ, ◌-◌, ◌≤◌, inl, inr, List, [], ◌∷◌, refl, subst, arith, IsTrue}
use Rattle.std.specs.Prelude.{map, not, ◌&&◌, ◌==◌, Bool, true, false}
use Rattle.std.specs.List.{AllByRecursion}
use Rattle.std.proofs.lemmas.Bool.{cases_lt}
use Rattle.std.proofs.lemmas.Bool.Decides.{nat_tests}
use Rattle.h5_bytes.specs.Blocks.{holds, cover}
use Rattle.h5_bytes.specs.declared.Block.{Block}
use Rattle.h5_bytes.proofs.BlockLaws.{held, holds-le}
use Rattle.h5_model.specs.Format.Superblock.{superblock_length}
use Rattle.h5_model.specs.Format.Reached.{Named, block_of, length_of}
use Rattle.h5_model.specs.Faults.Breaches.{is_header, IsOverlap, Meets}
use Rattle.h5_model.proofs.Members.{all_both}
use Rattle.h5_space.specs.Claimed.{Shares}
use Rattle.h5_space.specs.Walk.Walked.{IsFollowed, IsWalked}

-- one of these blocks holds a byte that they cover
pub record IsHolder (image : List ℕ) (P : Named → Type 0) (p : ℕ) : Type 0 where
  pub y : Named
  pub is : P y
  pub here : holds p y.at (length_of image y) ≡ 1

pub find_holder : (image : List ℕ) (P : Named → Type 0) (p : ℕ) (ys : List Named) → AllByRecursion P ys → 1 ≤ cover p (map (block_of image) ys) → IsHolder image P p
find_holder image P p [] all some = absurd (omega (arith, some))
find_holder image P p (y ∷ ys) all some = elim (cases_lt 0 (holds p y.at (length_of image y))) [
  | inl here ↦ record { y = y; is = all.0; here = omega (arith, here, holds-le p y.at (length_of image y)) }
  | inr none ↦ find_holder image P p ys all.1 (omega (arith, some, none))
]

pub some_length : (p at len : ℕ) → holds p at len ≡ 1 → 1 ≤ len
some_length p at len here = let h = held p at len (omega (arith, here)) in omega (arith, h.0, h.1)

-- two fields that differ name blocks with a common byte, of which one at most is a header
pub meet_of : (image : List ℕ) (p : ℕ) (x y : Named) → holds p x.at (length_of image x) ≡ 1 → holds p y.at (length_of image y) ≡ 1
    → (y.at ≡ x.at → IsTrue (not (is_header x.role && is_header y.role))) → Meets image x y
meet_of image p x y here there one = go (y.at == x.at) refl where
  go : (b : Bool) → (y.at == x.at) ≡ b → Meets image x y
  go true same = let e : y.at ≡ x.at = grind (arith, nat_tests) in inr (e, one e)
  go false other = inl ((λ e. let same : (y.at == x.at) ≡ true = grind (arith, nat_tests) in cc), p, omega (arith, here, there))

-- what is new of a field beside those that were followed
abbrev pub IsOther : Named → Named → Type 0
IsOther x y = (y.field ≢ x.field) × (y.at ≡ x.at → IsTrue (not (is_header x.role && is_header y.role)))

module _ (image : List ℕ) (held' : List Block) (followed : List Named) (walked : IsWalked image held' followed) where
  pub overlap_of : (x : Named) → AllByRecursion (IsOther x) followed → Shares held' x.at (length_of image x) → IsOverlap image x
  overlap_of x others (p, here, taken) =
      let long = some_length p x.at (length_of image x) here in
      let all = all_both (IsFollowed image held') (IsOther x) followed walked.all others in
      elim (cases_lt 0 (holds p 0 (superblock_length image))) [
        | inl first ↦
            let under = held p 0 (superblock_length image) (omega (arith, first)) in
            let place = held p x.at (length_of image x) (omega (arith, here)) in
            (long, inl (omega (arith, under.1, place.0)))
        | inr none ↦
            let found : IsHolder image (λ y. IsFollowed image held' y × IsOther x y) p
            = find_holder image (λ y. IsFollowed image held' y × IsOther x y) p followed all (omega (arith, walked.covered p, taken, none)) in
            (long, inr (found.y, (found.is).0.reached, (found.is).1.0, some_length p (found.y).at (length_of image found.y) found.here, meet_of image p x found.y here found.here (found.is).1.1))
      ]

  -- a field in a block that holds nothing claimed was not followed
  pub not_followed : (field : ℕ) → 8 ≤ field → cover (field - 8) held' ≡ 0 → AllByRecursion (λ y. y.field ≢ field) followed
  not_followed field behind none = go followed walked.all where
    go : (ys : List Named) → AllByRecursion (IsFollowed image held') ys → AllByRecursion (λ y. y.field ≢ field) ys
    go [] all = tt
    go (y ∷ ys) all = (
      λ e. let some : 1 ≤ cover (field - 8) held' = subst (λ (f : ℕ). 1 ≤ cover (f - 8) held') e all.0.stands in omega (arith, some, none),
      go ys all.1,
    )
