-- What an edit in place makes of a reading: the new image reads as the new tree, no free block meets one in use, nothing leaks where
-- nothing leaked, and no other byte changes.
use Rattle.std.proofs.Common.{◌≡◌, inl, inr, ◌⊎◌, ℕ, ◌+◌, ◌<◌, ◌≤◌, Bool, true, false, List, [], ◌∷◌, ◌++◌, length, refl, sym, ap, ◌∙◌, subst, arith, Some}
use Rattle.std.specs.Ordering.{nat_cmp}
use Rattle.std.specs.FinMap.{FinMap}
use Rattle.std.specs.List.{flat_map}
use Rattle.h5_bytes.specs.Bytes.{byte_at, number_at}
use Rattle.h5_bytes.specs.Blocks.{block, holds, cover, Inside, Keeps}
use Rattle.h5_bytes.specs.declared.Block.{Block}
use Rattle.h5_bytes.proofs.BlockLaws.{holds_in, holds-le, holds_before, cover-append, all_append, all_so}
use Rattle.h5_bytes.proofs.FieldLaws.{number_at-same}
use Rattle.h5_model.specs.Format.Superblock.{IsSuperblock, base_place, chunk_field, end_field, has_chunk_k, k_values, root_header, superblock_length}
use Rattle.h5_model.specs.Format.Reads.{Placed, ReadsAs, all_blocks}
use Rattle.h5_model.specs.Tree.Objects.{Tree}
use Rattle.h5_model.proofs.Frames.{front-same}
use Rattle.h5_model.proofs.KLaws.{k_values_stay, same_chunk, same_end_field, same_internal, same_leaf, same_length, same_version}
use Rattle.h5_laws.specs.InPlace.{IsUntouched, IsMade, IsStep}
use Rattle.h5_laws.specs.Trees.Sound.{IsSoundTree}
use Rattle.h5_laws.proofs.Lists.{In, in_all, all_in, in_flat, in_contains, contains_in}
use Rattle.h5_laws.proofs.InPlace.StepReads.{step_reads}
use Rattle.h5_laws.proofs.InPlace.StillThere.{kept_each}
use Rattle.h5_space.specs.Space.{Space}
use Rattle.h5_space.specs.Whole.{IsApart, IsWhole}
use Rattle.h5_space.proofs.MovesLaws.{moves_apart, moves_whole, moves_kept, moves_local_used}
use Rattle.h5_open.specs.InPlace.{chosen_objects, other_objects, touched_blocks, IsLeft, IsRemade, IsInPlace}
use Rattle.h5_open.proofs.SuperblockKept.{end_split, front_number}

-- ---- the objects of some numbers, and the others

abbrev blocks_of : List Placed → List Block
blocks_of placed = flat_map (λ x. x.blocks) placed

-- an object is among the chosen ones or among the others
module _ (touched : ℕ → Bool) (y : Placed) (placed : List Placed) where
  chosen_here : touched y.number ≡ true → chosen_objects touched (y ∷ placed) ≡ y ∷ chosen_objects touched placed
  chosen_here is = rw is refl

  chosen_not : touched y.number ≡ false → chosen_objects touched (y ∷ placed) ≡ chosen_objects touched placed
  chosen_not is = rw is refl

  others_here : touched y.number ≡ false → other_objects touched (y ∷ placed) ≡ y ∷ other_objects touched placed
  others_here is = rw is refl

  others_not : touched y.number ≡ true → other_objects touched (y ∷ placed) ≡ other_objects touched placed
  others_not is = rw is refl

in_chosen : (touched : ℕ → Bool) (x : Placed) (placed : List Placed) → In x placed → touched x.number ≡ true → In x (chosen_objects touched placed)
in_chosen touched x [] at is = absurd at
in_chosen touched x (y ∷ placed) (inl e) is = subst (In x) (sym (chosen_here touched y placed (ap (λ (z : Placed). touched z.number) e ∙ is))) (inl e)
in_chosen touched x (y ∷ placed) (inr at) is = go (touched y.number) refl (in_chosen touched x placed at is) where
  go : (b : Bool) → touched y.number ≡ b → In x (chosen_objects touched placed) → In x (chosen_objects touched (y ∷ placed))
  go true e there = subst (In x) (sym (chosen_here touched y placed e)) (inr there)
  go false e there = subst (In x) (sym (chosen_not touched y placed e)) there

pub in_others : (touched : ℕ → Bool) (x : Placed) (placed : List Placed) → In x placed → touched x.number ≡ false → In x (other_objects touched placed)
in_others touched x [] at is = absurd at
in_others touched x (y ∷ placed) (inl e) is = subst (In x) (sym (others_here touched y placed (ap (λ (z : Placed). touched z.number) e ∙ is))) (inl e)
in_others touched x (y ∷ placed) (inr at) is = go (touched y.number) refl (in_others touched x placed at is) where
  go : (b : Bool) → touched y.number ≡ b → In x (other_objects touched placed) → In x (other_objects touched (y ∷ placed))
  go false e there = subst (In x) (sym (others_here touched y placed e)) (inr there)
  go true e there = subst (In x) (sym (others_not touched y placed e)) there

pub others_in : (touched : ℕ → Bool) (x : Placed) (placed : List Placed) → In x (other_objects touched placed) → In x placed
others_in touched x [] at = absurd at
others_in touched x (y ∷ placed) at = go (touched y.number) refl (others_in touched x placed) where
  first : (In x (other_objects touched placed) → In x placed) → In x (y ∷ other_objects touched placed) → In x (y ∷ placed)
  first more (inl e) = inl e
  first more (inr there) = inr (more there)

  go : (b : Bool) → touched y.number ≡ b → (In x (other_objects touched placed) → In x placed) → In x (y ∷ placed)
  go false e more = first more (subst (In x) (others_here touched y placed e) at)
  go true e more = inr (more (subst (In x) (others_not touched y placed e) at))

-- their blocks are those of the chosen ones and of the others
pub cover-split : (touched : ℕ → Bool) (p : ℕ) (placed : List Placed)
    → cover p (blocks_of placed) ≡ cover p (touched_blocks touched placed) + cover p (blocks_of (other_objects touched placed))
cover-split touched p [] = refl
cover-split touched p (x ∷ placed) = go (touched x.number) refl (cover-split touched p placed) where
  all : cover p (blocks_of (x ∷ placed)) ≡ cover p x.blocks + cover p (blocks_of placed)
  all = cover-append p x.blocks (blocks_of placed)

  go : (b : Bool) → touched x.number ≡ b
      → cover p (blocks_of placed) ≡ cover p (touched_blocks touched placed) + cover p (blocks_of (other_objects touched placed))
      → cover p (blocks_of (x ∷ placed)) ≡ cover p (touched_blocks touched (x ∷ placed)) + cover p (blocks_of (other_objects touched (x ∷ placed)))
  go true e more =
      let mine = ap (λ (xs : List Placed). cover p (blocks_of xs)) (chosen_here touched x placed e) in
      let rest = ap (λ (xs : List Placed). cover p (blocks_of xs)) (others_not touched x placed e) in
      let first = cover-append p x.blocks (touched_blocks touched placed) in
      omega (arith, mine, rest, first, all, more)
  go false e more =
      let mine = ap (λ (xs : List Placed). cover p (blocks_of xs)) (chosen_not touched x placed e) in
      let rest = ap (λ (xs : List Placed). cover p (blocks_of xs)) (others_here touched x placed e) in
      let first = cover-append p x.blocks (blocks_of (other_objects touched placed)) in
      omega (arith, mine, rest, first, all, more)

inside_one : (end : ℕ) (placed : List Placed) (x : Placed) → Inside end (blocks_of placed) → In x placed → Inside end x.blocks
inside_one end placed x inside at =
    all_in (λ b. b.at + b.len ≤ end) x.blocks (λ b there. in_all (λ c. c.at + c.len ≤ end) b (blocks_of placed) inside (in_flat (λ (y : Placed). y.blocks) x b placed at there))

inside-split : (touched : ℕ → Bool) (end : ℕ) (placed : List Placed) → ((x : Placed) → In x placed → Inside end x.blocks) → Inside end (blocks_of placed)
inside-split touched end [] each = tt
inside-split touched end (x ∷ placed) each =
    all_append (λ b. b.at + b.len ≤ end) x.blocks (blocks_of placed) (each x (inl refl)) (inside-split touched end placed (λ y at. each y (inr at)))

-- ---- what stays of the superblock

module _ (old new : Space) (table table' : FinMap nat_cmp ℕ) (tree tree' : Tree) (placed placed' : List Placed) (touched : ℕ → Bool)
    (reads : ReadsAs old.bytes table tree placed) (apart : IsApart (all_blocks old.bytes placed) old.free (length old.bytes))
    (is : IsInPlace old new table table' tree tree' placed placed' touched) where
  abbrev has : Bool
  has = has_chunk_k old.bytes

  -- the superblock but for the end of file address, and the objects that are not touched
  abbrev others : List Block
  others = block 0 (end_field old.bytes).at ∷ block (48 + chunk_field has) 48 ∷ blocks_of (other_objects touched placed)

  used : (p : ℕ) → cover p ((end_field old.bytes ∷ touched_blocks touched placed) ++ others) ≡ cover p (all_blocks old.bytes placed)
  used p = omega (arith, end_split old.bytes p, cover-split touched p placed, cover-append p (touched_blocks touched placed) others)

  apart_before : IsApart ((end_field old.bytes ∷ touched_blocks touched placed) ++ others) old.free (length old.bytes)
  apart_before p = omega (arith, apart p, used p)

  -- each byte that is not as before is of the end of file address, of an object that is touched, or was in no block
  pub in_place_local : (p : ℕ) → p < length old.bytes
      → (byte_at new.bytes p ≡ byte_at old.bytes p) ⊎ ((1 ≤ cover p (end_field old.bytes ∷ touched_blocks touched placed)) ⊎ (cover p (all_blocks old.bytes placed) ≡ 0))
  in_place_local p low = elim (moves_local_used old new (end_field old.bytes ∷ touched_blocks touched placed) (end_field new.bytes ∷ touched_blocks touched placed') others is.moves apart_before p low) [
    | inl same ↦ inl same
    | inr (inl moved) ↦ inr (inl moved)
    | inr (inr free) ↦ inr (inr (sym (used p) ∙ free))
  ]

  -- ---- what stays

  inside_all : Inside (length old.bytes) (blocks_of placed)
  inside_all = reads.holds.within.1

  long : superblock_length old.bytes ≤ length old.bytes
  long = reads.holds.superblock.whole

  inside_others : Inside (length old.bytes) others
  inside_others = (
    omega (arith, long),
    (
      omega (arith, long),
      inside-split touched (length old.bytes) (other_objects touched placed) (λ x at. inside_one (length old.bytes) placed x inside_all (others_in touched x placed at)),
    ),
  )

  pub keeps : Keeps old.bytes new.bytes others
  keeps = moves_kept old new (end_field old.bytes ∷ touched_blocks touched placed) (end_field new.bytes ∷ touched_blocks touched placed') others is.moves apart_before inside_others

  pub k_stays : k_values new.bytes ≡ k_values old.bytes
  k_stays = k_values_stay old.bytes new.bytes (end_field old.bytes).at (omega arith) keeps.0

  version_stays : has_chunk_k new.bytes ≡ has
  version_stays = same_version new.bytes old.bytes k_stays

  length_stays : superblock_length new.bytes ≡ superblock_length old.bytes
  length_stays = same_length new.bytes old.bytes k_stays

  byte_stays : (p : ℕ) → p < 40 → byte_at new.bytes p ≡ byte_at old.bytes p
  byte_stays p low =
      let here = holds_in p 0 (superblock_length old.bytes) (omega (arith, low)) (omega (arith, low)) in
      let field = holds_before p (end_field old.bytes).at 8 (omega (arith, low)) in
      let end = holds-le p 0 (length old.bytes) in
      is.moves.kept p (omega (arith, low, long))
      (omega (arith, apart p, here, field, end, cover-split touched p placed)) (omega (arith, apart p, here, end))

  -- an address behind that of the end of file
  behind_stays : (k : ℕ) → k + 8 ≤ 48 → number_at new.bytes (48 + k + chunk_field has) 8 ≡ number_at old.bytes (48 + k + chunk_field has) 8
  behind_stays k low =
      let place : 48 + chunk_field has + k ≡ 48 + k + chunk_field has = omega arith in
      rw place at (number_at-same old.bytes new.bytes (48 + chunk_field has) 48 k 8 keeps.1.0 low)

  root_stays : root_header new.bytes ≡ root_header old.bytes
  root_stays = ap (λ b. number_at new.bytes (64 + chunk_field b) 8) version_stays ∙ behind_stays 16 (omega arith)

  superblock : IsSuperblock new.bytes
  superblock =
      let was = reads.holds.superblock in
      let leaf = same_leaf new.bytes old.bytes k_stays in
      let internal = same_internal new.bytes old.bytes k_stays in
      let chunk = same_chunk new.bytes old.bytes k_stays in
      record {
        whole = omega (arith, long, length_stays, is.moves.grown);
        signed = front-same old.bytes new.bytes 0 (end_field old.bytes).at 8 (omega arith) keeps.0 ∙ was.signed;
        version = omega (arith, byte_stays 8 (omega arith), was.version);
        free_space_version = byte_stays 9 (omega arith) ∙ was.free_space_version;
        root_version = byte_stays 10 (omega arith) ∙ was.root_version;
        shared_version = byte_stays 12 (omega arith) ∙ was.shared_version;
        offset_size = byte_stays 13 (omega arith) ∙ was.offset_size;
        length_size = byte_stays 14 (omega arith) ∙ was.length_size;
        leaf_low = omega (arith, leaf, was.leaf_low);
        leaf_high = omega (arith, leaf, was.leaf_high);
        internal_low = omega (arith, internal, was.internal_low);
        internal_high = omega (arith, internal, was.internal_high);
        chunk_low = omega (arith, chunk, was.chunk_low);
        chunk_high = omega (arith, chunk, was.chunk_high);
        base = ap (λ b. number_at new.bytes (24 + chunk_field b) 8) version_stays ∙ front_number old.bytes new.bytes (end_field old.bytes).at (base_place old.bytes) 8 keeps.0 (omega arith) ∙ was.base;
        driver = ap (λ b. number_at new.bytes (48 + chunk_field b) 8) version_stays ∙ behind_stays 0 (omega arith) ∙ was.driver;
        small = omega (arith, is.end, is.small);
        end_low = omega (arith, is.end, long, length_stays, is.moves.grown);
        end_high = omega (arith, is.end);
      }

  -- ---- no block is shared, and none is lost

  used' : (p : ℕ) → cover p ((end_field new.bytes ∷ touched_blocks touched placed') ++ others) ≡ cover p (all_blocks new.bytes placed')
  used' p =
      let same = ap (λ (xs : List Placed). cover p (blocks_of xs)) is.others in
      let field = ap (λ (b : Block). holds p b.at b.len) (same_end_field new.bytes old.bytes k_stays) in
      let whole = ap (holds p 0) length_stays in
      omega (arith, field, whole, end_split old.bytes p, cover-split touched p placed', cover-append p (touched_blocks touched placed') others, same)

  -- no free block meets one in use
  pub in_place_apart : IsApart (all_blocks new.bytes placed') new.free (length new.bytes)
  in_place_apart p =
      let after = moves_apart old new (end_field old.bytes ∷ touched_blocks touched placed) (end_field new.bytes ∷ touched_blocks touched placed') others is.moves apart_before p in
      omega (arith, after, used' p)

  -- nothing leaks where nothing leaked
  pub in_place_whole : IsWhole (all_blocks old.bytes placed) old.free (length old.bytes) → IsWhole (all_blocks new.bytes placed') new.free (length new.bytes)
  in_place_whole whole p =
      let before : IsWhole ((end_field old.bytes ∷ touched_blocks touched placed) ++ others) old.free (length old.bytes) = λ q. omega (arith, whole q, used q) in
      let after = moves_whole old new (end_field old.bytes ∷ touched_blocks touched placed) (end_field new.bytes ∷ touched_blocks touched placed') others is.moves before p in
      omega (arith, after, used' p)

  -- ---- the objects

  untouched : (x : Placed) → In x placed' → touched x.number ≡ false → IsUntouched old.bytes new.bytes table table' tree tree' placed x
  untouched x at not_touched =
      let there : In x (other_objects touched placed') = in_others touched x placed' at not_touched in
      let was : In x (other_objects touched placed) = subst (In x) is.others there in
      let left = in_all (IsLeft table table' tree tree') x (other_objects touched placed') is.left there in
      record {
        before = contains_in x placed (others_in touched x placed was);
        kept = kept_each old.bytes new.bytes (other_objects touched placed) x keeps.1.1 was;
        linked = left.linked;
        counts = left.counts;
      }

  remade : (x : Placed) → In x placed' → touched x.number ≡ true → IsRemade new.bytes table' tree' x
  remade x at is_touched = in_all (IsRemade new.bytes table' tree') x (chosen_objects touched placed') is.remade (in_chosen touched x placed' at is_touched)

  each : (x : Placed) → In x placed' → (b : Bool) → touched x.number ≡ b → IsUntouched old.bytes new.bytes table table' tree tree' placed x ⊎ IsMade new.bytes table' tree' x
  each x at true is_touched = inr (remade x at is_touched).made
  each x at false not_touched = inl (untouched x at not_touched)

  inside_each : (x : Placed) → In x placed' → (b : Bool) → touched x.number ≡ b → Inside (length new.bytes) x.blocks
  inside_each x at true is_touched = (remade x at is_touched).inside
  inside_each x at false not_touched =
      let was = in_contains x placed (untouched x at not_touched).before in
      all_so (λ b. b.at + b.len ≤ length old.bytes) (λ b. b.at + b.len ≤ length new.bytes) x.blocks (λ b low. omega (arith, low, is.moves.grown))
      (inside_one (length old.bytes) placed x inside_all was)

  step : IsStep old.bytes new.bytes table table' tree tree' placed placed'
  step = record {
    superblock = superblock;
    whole = is.end;
    k = k_stays;
    root = is.root ∙ reads.holds.root ∙ ap Some (sym root_stays);
    numbered = is.numbered;
    objects = is.objects;
    each = all_in (λ x. IsUntouched old.bytes new.bytes table table' tree tree' placed x ⊎ IsMade new.bytes table' tree' x) placed' (λ x at. each x at (touched x.number) refl);
    apart = λ p. omega (arith, in_place_apart p, holds-le p 0 (length new.bytes));
    within = (omega (arith, long, length_stays, is.moves.grown), inside-split touched (length new.bytes) placed' (λ x at. inside_each x at (touched x.number) refl));
  }

  -- the new image reads as the new tree
  pub in_place_reads : IsSoundTree tree' → ReadsAs new.bytes table' tree' placed'
  in_place_reads sound = step_reads old.bytes new.bytes table table' tree tree' placed placed' reads step sound
