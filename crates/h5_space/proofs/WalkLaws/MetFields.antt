-- A field that was met may be followed.
use Rattle.std.proofs.Common.{◌≡◌, ◌≢◌, ℕ, ◌+◌, ◌-◌, ◌<◌, ◌≤◌, List, [], ◌∷◌, length, refl, sym, subst, arith}
use Rattle.std.specs.Prelude.{false}
use Rattle.std.specs.List.{AllByRecursion}
use Rattle.h5_bytes.specs.Blocks.{holds, cover, Separate}
use Rattle.h5_bytes.specs.declared.Block.{Block}
use Rattle.h5_bytes.proofs.BlockLaws.{holds_in}
use Rattle.h5_model.specs.Format.Reached.{Named, Reached, length_of}
use Rattle.h5_model.specs.Faults.Breaches.{is_header}
use Rattle.h5_model.specs.declared.open_fault.Cause.TheVariants.{Truncated, Overlap}
use Rattle.h5_space.specs.Claimed.{Shares}
use Rattle.h5_space.specs.Walk.Walked.{IsWalked, Breaches}
use Rattle.h5_space.specs.Walk.Met.{IsMet}
use Rattle.h5_space.proofs.WalkLaws.WalkedLaws.{IsOther, not_followed}
use Rattle.h5_space.proofs.WalkLaws.FieldLaws.{field_truncated, field_overlaps, field_walked}

-- a field of no header differs from all that were followed
pub other_of : (y : Named) (followed : List Named) → is_header y.role ≡ false → AllByRecursion (λ (z : Named). z.field ≢ y.field) followed → AllByRecursion (IsOther y) followed
other_of y [] inner fresh = tt
other_of y (z ∷ zs) inner fresh = ((fresh.0, λ e. rw inner refl), other_of y zs inner fresh.1)

module _ (image : List ℕ) (held : List Block) (followed : List Named) (walked : IsWalked image held followed) (y : Named) (met : IsMet image held followed y)
    (inner : is_header y.role ≡ false) where
  -- its block cannot be claimed
  pub met_truncated : (address : ℕ) → address ≡ y.at → length image < y.at + length_of image y → Breaches image Truncated address
  met_truncated address e past = field_truncated image held followed walked y met.reached address e past

  pub met_overlaps : (address : ℕ) → address ≡ y.at → Shares held y.at (length_of image y) → Breaches image Overlap address
  met_overlaps address e shares = field_overlaps image held followed walked y met.reached address e (other_of y followed inner met.fresh) shares

module _ (image : List ℕ) (held : List Block) (followed : List Named) (walked : IsWalked image held followed) (y : Named) (met : IsMet image held followed y) where
  -- its block is claimed
  pub met_walked : (now : List Block) → ((p : ℕ) → cover p now ≡ cover p held + holds p y.at (length_of image y)) → IsWalked image now (y ∷ followed)
  met_walked now claimed = field_walked image held followed walked y met.reached now met.behind met.stands claimed

  -- another field that was met is still one that was not followed
  pub still_met : (now : List Block) → ((p : ℕ) → cover p held ≤ cover p now) → (z : Named) → IsMet image held followed z → y.field ≢ z.field → IsMet image now (y ∷ followed) z
  still_met now grown z that differ = record {
    reached = that.reached;
    behind = that.behind;
    stands = omega (arith, that.stands, grown (z.field - 8));
    fresh = (differ, that.fresh);
  }

-- a field in a block that was just claimed was not followed before
pub newly_met : (image : List ℕ) (held now : List Block) (followed : List Named) (z : Named) → IsWalked image held followed → Reached image z → 8 ≤ z.field
    → cover (z.field - 8) held ≡ 0 → 1 ≤ cover (z.field - 8) now → IsMet image now followed z
newly_met image held now followed z walked reached behind none some = record {
  reached = reached;
  behind = behind;
  stands = some;
  fresh = not_followed image held followed walked z.field behind none;
}

-- a field of the block that was claimed last is met
pub field_after : (image : List ℕ) (held : List Block) (followed : List Named) → IsWalked image held followed → (y : Named) → IsMet image held followed y
    → (now : List Block) → ((p : ℕ) → cover p now ≡ cover p held + holds p y.at (length_of image y)) → Separate now
    → (z : Named) → Reached image z → 8 ≤ z.field → y.at ≤ z.field - 8 → z.field - 8 < y.at + length_of image y → IsMet image now (y ∷ followed) z
field_after image held followed walked y met now claimed apart z reached behind from to =
    let p = z.field - 8 in
    let here : holds p y.at (length_of image y) ≡ 1 = holds_in p y.at (length_of image y) from to in
    let none : cover p held ≡ 0 = omega (arith, here, claimed p, apart p) in
    let some : 1 ≤ cover p now = omega (arith, here, claimed p) in
    let new = newly_met image held now followed z walked reached behind none some in
    record {
      reached = new.reached;
      behind = new.behind;
      stands = new.stands;
      fresh = (
        λ e. let one : 1 ≤ cover (z.field - 8) held = subst (λ (f : ℕ). 1 ≤ cover (f - 8) held) e met.stands in omega (arith, one, none),
        new.fresh,
      );
    }

-- a field that was met is none that stands in bytes that were not claimed then
pub other_field : (image : List ℕ) (held : List Block) (followed : List Named) (y : Named) → IsMet image held followed y
    → (field : ℕ) → cover (field - 8) held ≡ 0 → field ≢ y.field
other_field image held followed y met field none e =
    let one : 1 ≤ cover (field - 8) held = subst (λ (f : ℕ). 1 ≤ cover (f - 8) held) (sym e) met.stands in
    omega (arith, one, none)
