-- An object that is made, and a link to it that is put into a group, are an edit in place.
use Rattle.std.proofs.Common.{◌≡◌, ◌⊎◌, inl, inr, ℕ, ◌<◌, Bool, true, false, List, [], ◌∷◌, ◌++◌, length, refl, sym, ap, ◌∙◌, subst, arith, Option, Some, None}
use Rattle.std.specs.Prelude.{slice_get, ◌==◌, ◌||◌}
use Rattle.std.specs.Option.{option_flatten, option_map_or}
use Rattle.std.specs.List.{flat_map}
use Rattle.std.proofs.lemmas.Bool.Decides.{nat_tests}
use Rattle.std.proofs.lemmas.Option.{same_Some, slice_get_past, slice_get_within}
use Rattle.h5_bytes.specs.Blocks.{cover}
use Rattle.h5_bytes.proofs.BlockLaws.{cover-append}
use Rattle.h5_model.specs.Tree.Objects.{Tree}
use Rattle.h5_model.specs.Format.Superblock.{end_field}
use Rattle.h5_space.specs.Space.{Space}
use Rattle.h5_space.proofs.MovesLaws.{moves_same}
use Rattle.h5_open.specs.declared.opened.object.OpenedObject.{OpenedObject}
use Rattle.h5_open.specs.ChangedInPlace.{is_among}
use Rattle.h5_open.specs.Opened.Objects.{object_blocks, table_of}
use Rattle.h5_open.specs.SlotsInPlace.{AreOnce, IsObjectMade, IsSlotsInPlace, IsTouchedObject, blocks_at}
use Rattle.h5_open.proofs.PlacedLaws.Places.{place_before, place_next}
use Rattle.h5_open.proofs.SlotEdits.{slots_pushed}
use Rattle.h5_open.proofs.TouchedBlocks.{touched_moves}

-- a number that is among two
pub among_two : (m a n : ℕ) → is_among (m ∷ a ∷ []) n ≡ true → (m ≡ n) ⊎ (a ≡ n)
among_two m a n mine = go (m == n) refl (a == n) refl mine where
  go : (b : Bool) → (m == n) ≡ b → (c : Bool) → (a == n) ≡ c → (b || (c || false)) ≡ true → (m ≡ n) ⊎ (a ≡ n)
  go true first c second is = inl (grind (arith, nat_tests, first))
  go false first true second is = inr (grind (arith, nat_tests, second))
  go false first false second is = absurd (let never : false ≡ true = is in cc)

pub not_two : (m a n : ℕ) → is_among (m ∷ a ∷ []) n ≡ false → ((m == n) ≡ false) × ((a == n) ≡ false)
not_two m a n out = go (m == n) (a == n) out where
  go : (b c : Bool) → (b || (c || false)) ≡ false → (b ≡ false) × (c ≡ false)
  go true c is = absurd (let never : true ≡ false = is in cc)
  go false true is = absurd (let never : true ≡ false = is in cc)
  go false false is = (refl, refl)

module _ (old new : Space) (slots : List (Option OpenedObject)) (tree tree' : Tree) (a : ℕ) (p o : OpenedObject) (is : IsObjectMade old new slots tree tree' a p o) where
  abbrev slots' : List (Option OpenedObject)
  slots' = slots ++ Some o ∷ []

  abbrev next : ℕ
  next = length slots

  at_next : slice_get slots' next ≡ Some (Some o)
  at_next = place_next slots (Some o) []

  at_group : slice_get slots' a ≡ Some (Some p)
  at_group = place_before slots (Some o ∷ []) a (Some p) is.group

  low : a < next
  low = slice_get_within slots a (Some p) is.group

  once : AreOnce (next ∷ a ∷ [])
  once =
      let other : (a == next) ≡ false = let l = low in grind (arith, nat_tests, l) in
      (ap (λ (b : Bool). b || false) other, (refl, tt))

  before : (q : ℕ) → cover q (end_field old.bytes ∷ flat_map (blocks_at old.bytes slots) (next ∷ a ∷ [])) ≡ cover q (end_field old.bytes ∷ object_blocks old.bytes p)
  before q =
      let none = ap (λ (s : Option (Option OpenedObject)). cover q (option_map_or (object_blocks old.bytes) (option_flatten s) [])) (slice_get_past slots next (omega arith)) in
      let one = ap (λ (s : Option (Option OpenedObject)). cover q (option_map_or (object_blocks old.bytes) (option_flatten s) [])) is.group in
      omega (arith, none, one, cover-append q (blocks_at old.bytes slots next) (blocks_at old.bytes slots a ++ []), cover-append q (blocks_at old.bytes slots a) [])

  after : (q : ℕ) → cover q (end_field new.bytes ∷ flat_map (blocks_at new.bytes slots') (next ∷ a ∷ [])) ≡ cover q (end_field new.bytes ∷ object_blocks new.bytes o ++ object_blocks new.bytes p)
  after q =
      let first = ap (λ (s : Option (Option OpenedObject)). cover q (option_map_or (object_blocks new.bytes) (option_flatten s) [])) at_next in
      let second = ap (λ (s : Option (Option OpenedObject)). cover q (option_map_or (object_blocks new.bytes) (option_flatten s) [])) at_group in
      omega (
        arith,
        first,
        second,
        cover-append q (blocks_at new.bytes slots' next) (blocks_at new.bytes slots' a ++ []),
        cover-append q (blocks_at new.bytes slots' a) [],
        cover-append q (object_blocks new.bytes o) (object_blocks new.bytes p),
      )

  its : (n : ℕ) (x : OpenedObject) → is_among (next ∷ a ∷ []) n ≡ true → slice_get slots' n ≡ Some (Some x) → IsTouchedObject new.bytes (table_of slots') tree' n x
  its n x mine at = elim (among_two next a n mine) [
    | inl here ↦
        let one : o ≡ x = same_Some o x (same_Some (Some o) (Some x) (sym at_next ∙ ap (slice_get slots') here ∙ at)) in
        subst (IsTouchedObject new.bytes (table_of slots') tree' n) one (subst (λ (k : ℕ). IsTouchedObject new.bytes (table_of slots') tree' k o) here is.made)
    | inr here ↦
        let one : p ≡ x = same_Some p x (same_Some (Some p) (Some x) (sym at_group ∙ ap (slice_get slots') here ∙ at)) in
        subst (IsTouchedObject new.bytes (table_of slots') tree' n) one (subst (λ (k : ℕ). IsTouchedObject new.bytes (table_of slots') tree' k p) here is.remade)
  ]

  full : (n : ℕ) → is_among (next ∷ a ∷ []) n ≡ true → option_flatten (slice_get slots' n) ≡ None → ⊥
  full n mine none = elim (among_two next a n mine) [
    | inl here ↦ (let never : Some o ≡ None = ap option_flatten (sym at_next ∙ ap (slice_get slots') here) ∙ none in cc)
    | inr here ↦ (let never : Some p ≡ None = ap option_flatten (sym at_group ∙ ap (slice_get slots') here) ∙ none in cc)
  ]

  pub made_in_place : IsSlotsInPlace old new slots slots' tree tree' (is_among (next ∷ a ∷ []))
  made_in_place = record {
    moves = touched_moves old new slots slots' (next ∷ a ∷ []) once
        (moves_same old new (end_field old.bytes ∷ object_blocks old.bytes p) (end_field new.bytes ∷ object_blocks new.bytes o ++ object_blocks new.bytes p)
        (end_field old.bytes ∷ flat_map (blocks_at old.bytes slots) (next ∷ a ∷ [])) (end_field new.bytes ∷ flat_map (blocks_at new.bytes slots') (next ∷ a ∷ [])) before after is.moves);
    end = is.end;
    small = is.small;
    slots_moved = slots_pushed slots o (is_among (next ∷ a ∷ []))
        (let here : (next == next) ≡ true = grind (arith, nat_tests) in ap (λ (b : Bool). b || is_among (a ∷ []) next) here) is.few;
    same = λ n out. is.same n (not_two next a n out).0 (not_two next a n out).1;
    counts = λ n out some. is.counts n (not_two next a n out).0 (not_two next a n out).1;
    remade = its;
    gone = λ n mine none. absurd (full n mine none);
  }
