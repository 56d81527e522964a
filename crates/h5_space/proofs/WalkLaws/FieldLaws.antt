-- One field in a walk: why its block cannot be claimed is a breach, and a claimed block is followed.
use Rattle.std.proofs.Common.{◌≡◌, ℕ, ◌+◌, ◌-◌, ◌<◌, ◌≤◌, List, [], ◌∷◌, length, sym, arith}
use Rattle.std.specs.List.{AllByRecursion}
use Rattle.h5_bytes.specs.Blocks.{holds, cover}
use Rattle.h5_bytes.specs.declared.Block.{Block}
use Rattle.h5_model.specs.Format.Reached.{Named, Reached, length_of}
use Rattle.h5_model.specs.declared.open_fault.Cause.TheVariants.{Truncated, Overlap}
use Rattle.h5_space.specs.Claimed.{Shares}
use Rattle.h5_space.specs.Walk.Walked.{IsFollowed, IsWalked, Breaches}
use Rattle.h5_space.proofs.WalkLaws.WalkedLaws.{IsOther, overlap_of}

-- a followed field stays one when more is claimed
pub still_followed : (image : List ℕ) (old new : List Block) (ys : List Named) → ((p : ℕ) → cover p old ≤ cover p new)
    → AllByRecursion (IsFollowed image old) ys → AllByRecursion (IsFollowed image new) ys
still_followed image old new [] grown all = tt
still_followed image old new (y ∷ ys) grown all = (
  record { reached = all.0.reached; behind = all.0.behind; stands = omega (arith, all.0.stands, grown (y.field - 8)) },
  still_followed image old new ys grown all.1,
)

module _ (image : List ℕ) (held : List Block) (followed : List Named) (walked : IsWalked image held followed) (y : Named) (reached : Reached image y) where
  pub field_truncated : (address : ℕ) → address ≡ y.at → length image < y.at + length_of image y → Breaches image Truncated address
  field_truncated address e past = (y, reached, sym e, past)

  pub field_overlaps : (address : ℕ) → address ≡ y.at → AllByRecursion (IsOther y) followed → Shares held y.at (length_of image y) → Breaches image Overlap address
  field_overlaps address e others shares = (y, reached, sym e, overlap_of image held followed walked y others shares)

  pub field_walked : (now : List Block) → 8 ≤ y.field → 1 ≤ cover (y.field - 8) held → ((p : ℕ) → cover p now ≡ cover p held + holds p y.at (length_of image y))
      → IsWalked image now (y ∷ followed)
  field_walked now behind stands claimed = record {
    all = (
      record { reached = reached; behind = behind; stands = omega (arith, stands, claimed (y.field - 8)) },
      still_followed image held now followed (λ p. omega (arith, claimed p)) walked.all,
    );
    covered = λ p. omega (arith, claimed p, walked.covered p);
  }
