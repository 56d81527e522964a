-- The blocks of the objects that are touched, number by number: so an edit says what it moves by a list of numbers.
use Rattle.std.proofs.Common.{◌≡◌, ℕ, zero, suc, ◌+◌, ◌<◌, Bool, true, false, List, [], ◌∷◌, ◌++◌, refl, ap, ◌∙◌, arith, Option, Some, None}
use Rattle.std.specs.Prelude.{slice_get, ◌==◌, ◌||◌}
use Rattle.std.specs.Option.{option_flatten, option_map_or}
use Rattle.std.specs.List.{flat_map}
use Rattle.std.proofs.lemmas.Bool.Decides.{nat_tests}
use Rattle.h5_bytes.specs.Blocks.{cover}
use Rattle.h5_bytes.proofs.BlockLaws.{cover-append}
use Rattle.h5_model.specs.Format.Addresses.{SymbolTable}
use Rattle.h5_model.specs.Format.Superblock.{end_field}
use Rattle.h5_space.specs.Space.{Space}
use Rattle.h5_space.specs.Moves.{Moves}
use Rattle.h5_space.proofs.MovesLaws.{moves_same}
use Rattle.h5_header.specs.Listed.{messages_in}
use Rattle.h5_group.specs.Told.{blocks_told}
use Rattle.h5_open.specs.declared.opened.object.OpenedObject.{OpenedObject}
use Rattle.h5_open.specs.declared.opened.object.OpenedContent.{OpenedContent}
use Rattle.h5_open.specs.declared.opened.object.OpenedContent.TheVariants as content
use Rattle.h5_open.specs.ChangedInPlace.{is_among}
use Rattle.h5_open.specs.Opened.Objects.{content_blocks, object_blocks}
use Rattle.h5_open.specs.SlotsInPlace.{AreOnce, blocks_at, chosen_slots, slot_blocks}

-- the blocks of the object in a slot
pub blocks_of_slot : (image : List ℕ) (slots : List (Option OpenedObject)) (n : ℕ) (o : OpenedObject) → slice_get slots n ≡ Some (Some o) → blocks_at image slots n ≡ object_blocks image o
blocks_of_slot image slots n o at = ap (λ (s : Option (Option OpenedObject)). option_map_or (object_blocks image) (option_flatten s) []) at

-- the blocks of a group
pub group_blocks : (image : List ℕ) (p : OpenedObject) (t : SymbolTable) → p.content ≡ content.Group t → object_blocks image p ≡ p.messages.blocks ++ blocks_told image t
group_blocks image p t kind = ap (λ (c : OpenedContent). p.messages.blocks ++ content_blocks image (messages_in image p.messages.list) c) kind

module _ (image : List ℕ) (q : ℕ) where
  abbrev covered : List OpenedObject → ℕ
  covered objects = cover q (flat_map (object_blocks image) objects)

  abbrev slot_covered : Option OpenedObject → ℕ
  slot_covered slot = cover q (option_map_or (object_blocks image) slot [])

  none_touched : (n : ℕ) (slots : List (Option OpenedObject)) → covered (chosen_slots (is_among []) n slots) ≡ 0
  none_touched n [] = refl
  none_touched n (None ∷ slots) = none_touched (n + 1) slots
  none_touched n (Some o ∷ slots) = none_touched (n + 1) slots

  module _ (m : ℕ) (numbers : List ℕ) (out : is_among numbers m ≡ false) where
    abbrev more : ℕ → List (Option OpenedObject) → ℕ
    more n slots = covered (chosen_slots (is_among (m ∷ numbers)) n slots)

    abbrev less : ℕ → List (Option OpenedObject) → ℕ
    less n slots = covered (chosen_slots (is_among numbers) n slots)

    -- at another number
    beside : (n : ℕ) (o : OpenedObject) (slots : List (Option OpenedObject)) (d : ℕ) → (m == n) ≡ false → more (n + 1) slots ≡ d + less (n + 1) slots
        → more n (Some o ∷ slots) ≡ d + less n (Some o ∷ slots)
    beside n o slots d other rest = go (is_among numbers n) refl where
      go : (b : Bool) → is_among numbers n ≡ b → more n (Some o ∷ slots) ≡ d + less n (Some o ∷ slots)
      go true is =
          let both : is_among (m ∷ numbers) n ≡ true = ap (λ (c : Bool). c || is_among numbers n) other ∙ is in
          rw (both, is) (omega (arith, rest, cover-append q (object_blocks image o) (flat_map (object_blocks image) (chosen_slots (is_among (m ∷ numbers)) (n + 1) slots)), cover-append q (object_blocks image o) (flat_map (object_blocks image) (chosen_slots (is_among numbers) (n + 1) slots))))
      go false is =
          let both : is_among (m ∷ numbers) n ≡ false = ap (λ (c : Bool). c || is_among numbers n) other ∙ is in
          rw (both, is) rest

    behind : (n : ℕ) (slots : List (Option OpenedObject)) → m < n → more n slots ≡ 0 + less n slots
    behind n [] low = refl
    behind n (None ∷ slots) low = behind (n + 1) slots (omega (arith, low))
    behind n (Some o ∷ slots) low = let other : (m == n) ≡ false = grind (arith, nat_tests, low) in beside n o slots 0 other (behind (n + 1) slots (omega (arith, low)))

    one_more : (n k : ℕ) (slots : List (Option OpenedObject)) → n + k ≡ m → more n slots ≡ slot_covered (option_flatten (slice_get slots k)) + less n slots
    one_more n k [] is = refl
    one_more n zero (None ∷ slots) is = behind (n + 1) slots (omega (arith, is))
    one_more n zero (Some o ∷ slots) is =
        let here : n ≡ m = omega (arith, is) in
        let tested : (m == n) ≡ true = grind (arith, nat_tests, here) in
        let both : is_among (m ∷ numbers) n ≡ true = ap (λ (c : Bool). c || is_among numbers n) tested in
        let without : is_among numbers n ≡ false = ap (is_among numbers) here ∙ out in
        rw (both, without) (omega (arith, behind (n + 1) slots (omega (arith, is)), cover-append q (object_blocks image o) (flat_map (object_blocks image) (chosen_slots (is_among (m ∷ numbers)) (n + 1) slots))))
    one_more n (suc k) (None ∷ slots) is = one_more (n + 1) k slots (omega (arith, is))
    one_more n (suc k) (Some o ∷ slots) is =
        let other : (m == n) ≡ false = grind (arith, nat_tests, is) in
        beside n o slots (slot_covered (option_flatten (slice_get slots k))) other (one_more (n + 1) k slots (omega (arith, is)))

  pub touched_cover : (numbers : List ℕ) (slots : List (Option OpenedObject)) → AreOnce numbers
      → cover q (slot_blocks image (is_among numbers) slots) ≡ cover q (flat_map (blocks_at image slots) numbers)
  touched_cover [] slots once = none_touched 0 slots
  touched_cover (m ∷ numbers) slots once =
      let first = one_more m numbers once.0 0 m slots (omega arith) in
      let rest = touched_cover numbers slots once.1 in
      omega (arith, first, rest, cover-append q (blocks_at image slots m) (flat_map (blocks_at image slots) numbers))

-- what an edit moves, by a list of numbers of which none stands twice
pub touched_moves : (old new : Space) (slots slots' : List (Option OpenedObject)) (numbers : List ℕ) → AreOnce numbers
    → Moves old new (end_field old.bytes ∷ flat_map (blocks_at old.bytes slots) numbers) (end_field new.bytes ∷ flat_map (blocks_at new.bytes slots') numbers)
    → Moves old new (end_field old.bytes ∷ slot_blocks old.bytes (is_among numbers) slots) (end_field new.bytes ∷ slot_blocks new.bytes (is_among numbers) slots')
touched_moves old new slots slots' numbers once moves =
    moves_same old new (end_field old.bytes ∷ flat_map (blocks_at old.bytes slots) numbers) (end_field new.bytes ∷ flat_map (blocks_at new.bytes slots') numbers)
    (end_field old.bytes ∷ slot_blocks old.bytes (is_among numbers) slots) (end_field new.bytes ∷ slot_blocks new.bytes (is_among numbers) slots')
    (λ q. omega (arith, touched_cover old.bytes q numbers slots once)) (λ q. omega (arith, touched_cover new.bytes q numbers slots' once)) moves
