-- Blocks of a reading are there, and share no byte.
use Rattle.std.proofs.Common.{◌≡◌, ◌≢◌, inl, inr, ℕ, ◌+◌, ◌<◌, ◌≤◌, List, [], ◌∷◌, ◌++◌, length, refl, sym, ap, ap₂, ◌∙◌, subst, arith, Some, None, true, false, Bool}
use Rattle.std.proofs.lemmas.List.{map-append}
use Rattle.std.specs.Prelude.{IsTrue, not, ◌&&◌, if◌then◌else◌}
use Rattle.std.specs.Ordering.{nat_cmp}
use Rattle.std.specs.FinMap.{FinMap}
use Rattle.std.specs.List.{AllByRecursion, flat_map}
use Rattle.h5_bytes.specs.Blocks.{holds, cover}
use Rattle.h5_bytes.specs.declared.Block.{Block}
use Rattle.h5_bytes.proofs.BlockLaws.{holds_in}
use Rattle.h5_model.specs.Format.Messages.{Message, HasMessages}
use Rattle.h5_model.specs.Format.Superblock.{superblock_length}
use Rattle.h5_model.specs.Tree.Objects.{Tree}
use Rattle.h5_model.specs.Format.Reads.{Placed, IsPlaced, HasObject, Holds}
use Rattle.h5_model.specs.Format.Reached.{Named, Role, ObjectHeader, Reached, length_of, block_of}
use Rattle.h5_model.specs.Faults.Breaches.{is_header, IsOverlap}
use Rattle.h5_model.proofs.OneReading.{one_messages}
use Rattle.h5_laws.proofs.Lists.{In, in_all, in_left, in_right, in_map}
use Rattle.h5_laws.proofs.Tags.{Tagged, blocks_in, tagged}
use Rattle.h5_laws.proofs.ObjectBlocks.{object-blocks}
use Rattle.h5_laws.proofs.Entered.{tag_of, Entered, entered}
use Rattle.h5_laws.proofs.Steps.{located, blocks_inside}

-- ---- members of a list that are not one

held_in : (p : ℕ) (u : Tagged) (xs : List Tagged) → In u xs → holds p u.1.at u.1.len ≤ cover p (blocks_in xs)
held_in p u [] at = absurd at
held_in p u (z ∷ xs) (inl e) = let same : holds p z.1.at z.1.len ≡ holds p u.1.at u.1.len = ap (λ (x : Tagged). holds p x.1.at x.1.len) e in omega arith
held_in p u (z ∷ xs) (inr at) = let rest = held_in p u xs at in omega (arith, rest)

two_held : (p : ℕ) (u v : Tagged) (xs : List Tagged) → In u xs → In v xs → (u ≡ v → ⊥) → holds p u.1.at u.1.len + holds p v.1.at v.1.len ≤ cover p (blocks_in xs)
two_held p u v [] at there differ = absurd at
two_held p u v (z ∷ xs) (inl e) (inl f) differ = absurd (differ (sym e ∙ f))
two_held p u v (z ∷ xs) (inl e) (inr there) differ =
    let same : holds p z.1.at z.1.len ≡ holds p u.1.at u.1.len = ap (λ (x : Tagged). holds p x.1.at x.1.len) e in
    let rest = held_in p v xs there in
    omega (arith, same, rest)
two_held p u v (z ∷ xs) (inr at) (inl f) differ =
    let same : holds p z.1.at z.1.len ≡ holds p v.1.at v.1.len = ap (λ (x : Tagged). holds p x.1.at x.1.len) f in
    let rest = held_in p u xs at in
    omega (arith, same, rest)
two_held p u v (z ∷ xs) (inr at) (inr there) differ = let rest = two_held p u v xs at there differ in omega (arith, rest)

-- ---- the blocks of all objects

abbrev all_tags : (image : List ℕ) (table : FinMap nat_cmp ℕ) (placed : List Placed) → AllByRecursion (IsPlaced image table) placed → List Tagged
all_tags image table [] each = []
all_tags image table (x ∷ placed) each = tagged image x.header each.0.messages ++ all_tags image table placed each.1

all_tags-blocks : (image : List ℕ) (table : FinMap nat_cmp ℕ) (placed : List Placed) (each : AllByRecursion (IsPlaced image table) placed)
    → blocks_in (all_tags image table placed each) ≡ flat_map (λ (x : Placed). x.blocks) placed
all_tags-blocks image table [] each = refl
all_tags-blocks image table (x ∷ placed) each =
    map-append (λ (z : Tagged). z.1) (tagged image x.header each.0.messages) (all_tags image table placed each.1)
    ∙ ap₂ (λ (a b : List Block). a ++ b) (object-blocks image table x.header x.object x.blocks each.0) (all_tags-blocks image table placed each.1)

in_all_tags : (image : List ℕ) (table : FinMap nat_cmp ℕ) (placed : List Placed) (each : AllByRecursion (IsPlaced image table) placed) (o : Placed) (z : Tagged)
    → In o placed → (has : HasObject image table o.header o.object o.blocks) → In z (tagged image o.header has.messages) → In z (all_tags image table placed each)
in_all_tags image table [] each o z at has there = absurd at
in_all_tags image table (x ∷ placed) each o z (inl e) has there =
    let header : o.header ≡ x.header = ap (λ (y : Placed). y.header) (sym e) in
    let listed : HasMessages image x.header has.messages has.header_blocks = subst (λ (h : ℕ). HasMessages image h has.messages has.header_blocks) header has.listed in
    let same : has.messages ≡ each.0.messages = one_messages image x.header has.messages each.0.messages has.header_blocks each.0.header_blocks listed each.0.listed in
    in_left z (tagged image x.header each.0.messages) (all_tags image table placed each.1)
    (subst (λ (ms : List Message). In z (tagged image x.header ms)) same (subst (λ (h : ℕ). In z (tagged image h has.messages)) header there))
in_all_tags image table (x ∷ placed) each o z (inr at) has there =
    in_right z (tagged image x.header each.0.messages) (all_tags image table placed each.1) (in_all_tags image table placed each.1 o z at has there)

-- ---- tags of different fields

tag_by : (field : ℕ) (role : Role) → tag_of field role ≡ (if is_header role then None else Some field)
tag_by field ObjectHeader = refl
tag_by field _ = refl

tags_differ : (f g : ℕ) (r s : Role) → IsTrue (not (is_header r && is_header s)) → g ≢ f → tag_of f r ≡ tag_of g s → ⊥
tags_differ f g r s tested other e = go (is_header r) (is_header s) tested (sym (tag_by f r) ∙ e ∙ tag_by g s) where
  go : (a b : Bool) → IsTrue (not (a && b)) → (if a then None else Some f) ≡ (if b then None else Some g) → ⊥
  go true true tested e = absurd (let never : false ≡ true = tested in cc)
  go true false tested e = absurd (let never : None ≡ Some g = e in cc)
  go false true tested e = absurd (let never : Some f ≡ None = e in cc)
  go false false tested e = other (let both : Some f ≡ Some g = e in let same : g ≡ f = cc in same)

module _ (image : List ℕ) (table : FinMap nat_cmp ℕ) (tree : Tree) (placed : List Placed) (reads : Holds image table tree placed) where
  tags : List Tagged
  tags = all_tags image table placed reads.each

  abbrev tag : Named → Tagged
  tag x = (tag_of x.field x.role, block_of image x)

  among : (x : Named) → Reached image x → Entered image table tree placed (tag x)
  among x reached = entered image table tree placed reads x.role x (located image table tree placed reads reached)

  there : (x : Named) → Reached image x → In (tag x) tags
  unfolding tags
  there x reached =
      let a = among x reached in
      in_all_tags image table placed reads.each a.k.o (tag x) a.k.member a.k.has a.there

  apart : (p : ℕ) → holds p 0 (superblock_length image) + cover p (blocks_in tags) ≤ 1
  unfolding tags
  apart p = let same : cover p (blocks_in tags) ≡ cover p (flat_map (λ (x : Placed). x.blocks) placed) = ap (cover p) (all_tags-blocks image table placed reads.each) in omega (arith, reads.apart p)

  -- a block that is reached is there
  pub truncated_excluded : (x : Named) → Reached image x → length image < x.at + length_of image x → ⊥
  truncated_excluded x reached past =
      let a = among x reached in
      let named : In (block_of image x) (blocks_in (tagged image a.k.o.header a.k.has.messages))
      = in_map (λ (z : Tagged). z.1) (tag x) (tagged image a.k.o.header a.k.has.messages) a.there in
      let member : In (block_of image x) a.k.o.blocks
      = subst (In (block_of image x)) (object-blocks image table a.k.o.header a.k.o.object a.k.o.blocks a.k.has) named in
      let low : x.at + length_of image x ≤ length image
      = in_all (λ (b : Block). b.at + b.len ≤ length image) (block_of image x) a.k.o.blocks (blocks_inside image table tree placed reads a.k.o a.k.member) member in
      absurd (omega (arith, past, low))

  -- and shares no byte with another
  pub overlap_excluded : (x : Named) → Reached image x → IsOverlap image x → ⊥
  overlap_excluded x reached (some, inl low) =
      let here = holds_in x.at x.at (length_of image x) (omega arith) (omega (arith, some)) in
      let super = holds_in x.at 0 (superblock_length image) (omega arith) (omega (arith, low)) in
      let held = held_in x.at (tag x) tags (there x reached) in
      absurd (omega (arith, here, super, held, apart x.at))
  overlap_excluded x reached (some, inr (y, reached_y, other, some_y, inl (elsewhere, p, both))) =
      let two = two_held p (tag x) (tag y) tags (there x reached) (there y reached_y)
      (λ e. elsewhere (sym (ap (λ (z : Tagged). z.1.at) e))) in
      absurd (omega (arith, two, both, apart p))
  overlap_excluded x reached (some, inr (y, reached_y, other, some_y, inr (same, tested))) =
      let two = two_held x.at (tag x) (tag y) tags (there x reached) (there y reached_y)
      (λ e. tags_differ x.field y.field x.role y.role tested other (ap (λ (z : Tagged). z.0) e)) in
      let here = holds_in x.at x.at (length_of image x) (omega arith) (omega (arith, some)) in
      let its = holds_in x.at y.at (length_of image y) (omega (arith, same)) (omega (arith, same, some_y)) in
      absurd (omega (arith, two, here, its, apart x.at))
