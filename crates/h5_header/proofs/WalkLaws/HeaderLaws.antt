-- A header in a walk: why it is refused is a breach at a block that is reached, and its blocks are named by its fields.
use Rattle.std.proofs.Common.{◌≡◌, ◌≢◌, ℕ, ◌+◌, ◌-◌, ◌<◌, ◌≤◌, inl, inr, List, [], ◌∷◌, length, refl, sym, ◌∙◌, ap, subst, arith, IsTrue}
use Rattle.std.specs.Prelude.{not, ◌&&◌, false}
use Rattle.std.specs.List.{AllByRecursion}
use Rattle.h5_bytes.specs.Bytes.{number_at}
use Rattle.h5_bytes.specs.Blocks.{block, holds, cover}
use Rattle.h5_bytes.specs.declared.Block.{Block}
use Rattle.h5_model.specs.Format.Messages.{prefix_at, first_size}
use Rattle.h5_model.specs.Format.Reached.{Named, naming_of, ObjectHeader, Continuation, Reached, by_block, block_of, length_of}
use Rattle.h5_model.specs.Faults.Breaches.{is_header, IsOverlap}
use Rattle.h5_model.specs.declared.open_fault.Cause.{Cause}
use Rattle.h5_model.specs.declared.open_fault.Cause.TheVariants.{Truncated, Overlap, MissingMessage, LinkCount, GroupLinkedTwice, TooLarge, NoMemory}
use Rattle.h5_model.proofs.Members.{all_both}
use Rattle.h5_space.specs.Claimed.{Shares}
use Rattle.h5_header.specs.Refused.{NamesBlock, header_block, IsHeaderRefused}
use Rattle.h5_header.specs.Walk.Walked.{IsWalked, Breaches}
use Rattle.h5_header.proofs.WalkLaws.WalkedLaws.{IsOther, overlap_of, not_followed, meet_of, some_length}

module _ (image : List ℕ) (held' : List Block) (followed : List Named) (walked : IsWalked image held' followed)
    (field header depth : ℕ) (reached : Reached image (naming_of field ObjectHeader header depth))
    (others : AllByRecursion (IsOther (naming_of field ObjectHeader header depth)) followed)
    (behind : 8 ≤ field) (stands : 1 ≤ cover (field - 8) held') where
  abbrev pub x : Named
  x = naming_of field ObjectHeader header depth

  -- ---- the block that a message names

  module _ (at : ℕ) (b : Block) (names : NamesBlock image header at b) where
    abbrev pub z : Named
    z = naming_of (at + 8) (Continuation header) b.at depth

    place : b.at ≡ number_at image (at + 8) 8
    place = ap (λ (c : Block). c.at) names.named

    pub z_block : block_of image z ≡ b
    z_block =
        let over : at + 8 + 8 ≡ at + 16 = omega arith in
        ap (λ (p : ℕ). block b.at (number_at image p 8)) over ∙ ap (λ (n : ℕ). block n (number_at image (at + 16) 8)) place ∙ sym names.named

    pub z_length : length_of image z ≡ b.len
    z_length = ap (λ (c : Block). c.len) z_block

    pub z_reached : Reached image z
    z_reached =
        let there = names.there in
        by_block {y = z} reached (inl (at, names.fits, names.long, inl (names.kind, ap (λ (n : ℕ). naming_of (at + 8) (Continuation header) n depth) place))) (omega arith)

    module _ (fresh : cover at held' ≡ 0) where
      none : cover (at + 8 - 8) held' ≡ 0
      none = let same : at + 8 - 8 ≡ at = omega arith in rw same fresh

      z_others : AllByRecursion (IsOther z) followed
      z_others = all_both (λ y. y.field ≢ at + 8) (λ y. y.at ≡ b.at → IsTrue (not (false && is_header y.role))) followed
          (not_followed image held' followed walked (at + 8) (omega arith) none) (all_single followed) where
            all_single : (ys : List Named) → AllByRecursion (λ y. y.at ≡ b.at → IsTrue (not (false && is_header y.role))) ys
            all_single [] = tt
            all_single (y ∷ ys) = (λ e. refl, all_single ys)

      x_other : field ≢ at + 8
      x_other e = let some : 1 ≤ cover (at + 8 - 8) held' = subst (λ (f : ℕ). 1 ≤ cover (f - 8) held') e stands in omega (arith, some, none)

      as_z : (p : ℕ) → holds p b.at b.len ≡ 1 → holds p b.at (length_of image z) ≡ 1
      as_z p here = rw z_length here

      pub over_held : Shares held' b.at b.len → IsOverlap image z
      over_held shares = overlap_of image held' followed walked z z_others (shares.0, as_z shares.0 shares.1, shares.2)

      pub over_own : Shares (header_block image header ∷ []) b.at b.len → IsOverlap image z
      over_own (p, here, own) =
          let hold : holds p header (16 + first_size (prefix_at image header)) ≡ 1 = omega (arith, own) in (
            some_length p b.at (length_of image z) (as_z p here),
            inr (
              x,
              reached,
              x_other,
              some_length p header (16 + first_size (prefix_at image header)) hold,
              meet_of image p z x (as_z p here) hold (λ e. refl),
            ),
          )

  over_other : (at other : ℕ) (b c : Block) (names : NamesBlock image header at b) (names' : NamesBlock image header other c) → other ≢ at
      → Shares (c ∷ []) b.at b.len → IsOverlap image (z at b names)
  over_other at other b c names names' differ (p, here, own) =
      let here' : holds p b.at (length_of image (z at b names)) ≡ 1 = rw (z_length at b names) here in
      let hold : holds p c.at (length_of image (z other c names')) ≡ 1 = rw (z_length other c names') (omega (arith, own)) in
      let apart : other + 8 ≢ at + 8 = λ e. differ (omega (arith, e)) in (
        some_length p b.at (length_of image (z at b names)) here',
        inr (
          z other c names',
          z_reached other c names',
          apart,
          some_length p c.at (length_of image (z other c names')) hold,
          meet_of image p (z at b names) (z other c names') here' hold (λ e. refl),
        ),
      )

  -- ---- refusals

  pub header_refused : (cause : Cause) (address : ℕ) → IsHeaderRefused image header held' cause address → cause ≢ NoMemory → Breaches image cause address
  header_refused Truncated address (b, inl own, e, past) other =
      (x, reached, sym (e ∙ ap (λ (c : Block). c.at) own), subst (λ (c : Block). length image < c.at + c.len) own past)
  header_refused Truncated address (b, inr (at, names), e, past) other =
      (z at b names, z_reached at b names, sym e, rw (z_length at b names) past)
  header_refused Overlap address (inl (e, shares)) other = (x, reached, sym e, overlap_of image held' followed walked x others shares)
  header_refused Overlap address (inr (at, b, names, e, fresh, inl shares)) other = (z at b names, z_reached at b names, sym e, over_held at b names fresh shares)
  header_refused Overlap address (inr (at, b, names, e, fresh, inr (inl shares))) other = (z at b names, z_reached at b names, sym e, over_own at b names fresh shares)
  header_refused Overlap address (inr (at, b, names, e, fresh, inr (inr (o, c, differ, names', shares)))) other =
      (z at b names, z_reached at b names, sym e, over_other at o b c names names' differ shares)
  header_refused NoMemory address h other = absurd (other refl)
  header_refused MissingMessage address (e, there, h) other = (x, reached, sym e, (there, inr h))
  header_refused TooLarge address (e, there, h) other = (x, reached, sym e, (there, inr h))
  header_refused LinkCount address (e, there, h) other = absurd h.2
  header_refused GroupLinkedTwice address (e, there, h) other = absurd h.2
  header_refused _ address h other = (x, reached, sym h.0, (h.1, h.2))
