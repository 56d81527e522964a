-- An array of an opened image to which one link more leads, or one less: its header counts them, and all else of it stays.
use Rattle.std.proofs.Common.{◌≡◌, ℕ, ◌+◌, ◌≤◌, ◌==◌, true, false, Bool, List, [], ◌∷◌, ◌++◌, length, refl, sym, ap, ◌∙◌, subst, arith, Option, Some, None}
use Rattle.std.specs.Prelude.{slice_get, ◌||◌}
use Rattle.std.specs.Ordering.{nat_cmp}
use Rattle.std.specs.BTreeMap.{BTreeMap}
use Rattle.std.specs.FinMap.{FinMap}
use Rattle.std.specs.List.{flat_map}
use Rattle.std.proofs.lemmas.Bool.Decides.{nat_tests}
use Rattle.h5_bytes.specs.Blocks.{block, cover, Keeps}
use Rattle.h5_bytes.specs.declared.Block.{Block}
use Rattle.h5_bytes.proofs.BlockLaws.{cover-append}
use Rattle.h5_model.specs.Format.Addresses.{SymbolTable}
use Rattle.h5_model.specs.Format.Messages.{Message, prefix_at, reference_count}
use Rattle.h5_model.specs.Format.Superblock.{end_field, k_values, superblock_length}
use Rattle.h5_model.specs.Tree.Objects.{Links}
use Rattle.h5_model.proofs.KLaws.{same_length}
use Rattle.h5_space.specs.Moves.{Moves}
use Rattle.h5_space.specs.Space.{Space}
use Rattle.h5_space.specs.Whole.{IsApart}
use Rattle.h5_space.proofs.MovesLaws.{moves_apart, moves_beside, moves_kept, moves_same, moves_then}
use Rattle.h5_header.specs.Listed.{messages_in}
use Rattle.h5_header.specs.Standing.{IsStanding}
use Rattle.h5_header.proofs.BlockPuts.{count_kept, standing_kept}
use Rattle.h5_header.proofs.KeptLaws.{listed-same}
use Rattle.h5_group.specs.Told.{blocks_told}
use Rattle.h5_open.specs.declared.opened.object.OpenedObject.{OpenedObject}
use Rattle.h5_open.specs.declared.opened.object.OpenedContent.TheVariants as content
use Rattle.h5_open.specs.ChangedInPlace.{is_among}
use Rattle.h5_open.specs.Opened.Kept.{IsObjectKept, IsOpened}
use Rattle.h5_open.specs.Opened.Objects.{header_of, object_blocks, object_in, objects_of}
use Rattle.h5_open.specs.SlotsInPlace.{blocks_at, chosen_slots}
use Rattle.h5_open.proofs.ArrayStays.{array_blocks, array_data, array_kept, array_parts, array_same, data_of}
use Rattle.h5_open.proofs.GroupRelinked.{IsGroupRelinked, both_moves, linked_grown, linked_k}
use Rattle.h5_open.proofs.HeaderInPlace.{header_standing}
use Rattle.h5_open.proofs.OpenedLaws.Sounds.{object_of}
use Rattle.h5_open.proofs.SuperblockKept.{apart_left, end_inside, superblock_in}
use Rattle.h5_open.proofs.TouchedBlocks.{blocks_of_slot, group_blocks, touched_cover}

-- ---- two objects

pub chosen_cover : (image : List ℕ) (q : ℕ) (touched : ℕ → Bool) (n : ℕ) (slots : List (Option OpenedObject))
    → cover q (flat_map (object_blocks image) (chosen_slots touched n slots)) ≤ cover q (flat_map (object_blocks image) (objects_of slots))
chosen_cover image q touched n [] = omega arith
chosen_cover image q touched n (None ∷ slots) = chosen_cover image q touched (n + 1) slots
chosen_cover image q touched n (Some o ∷ slots) = go (touched n) refl (chosen_cover image q touched (n + 1) slots) where
  go : (b : Bool) → touched n ≡ b → cover q (flat_map (object_blocks image) (chosen_slots touched (n + 1) slots)) ≤ cover q (flat_map (object_blocks image) (objects_of slots))
      → cover q (flat_map (object_blocks image) (chosen_slots touched n (Some o ∷ slots))) ≤ cover q (flat_map (object_blocks image) (objects_of (Some o ∷ slots)))
  go true is more = rw is (omega (
    arith,
    more,
    cover-append q (object_blocks image o) (flat_map (object_blocks image) (chosen_slots touched (n + 1) slots)),
    cover-append q (object_blocks image o) (flat_map (object_blocks image) (objects_of slots)),
  ))
  go false is more = rw is (omega (arith, more, cover-append q (object_blocks image o) (flat_map (object_blocks image) (objects_of slots))))

-- the blocks of two objects are among those of all
pub two_cover : (image : List ℕ) (q : ℕ) (slots : List (Option OpenedObject)) (m n : ℕ) (a b : OpenedObject) → slice_get slots m ≡ Some (Some a) → slice_get slots n ≡ Some (Some b) → (n ≡ m → ⊥)
    → cover q (object_blocks image a) + cover q (object_blocks image b) ≤ cover q (flat_map (object_blocks image) (objects_of slots))
two_cover image q slots m n a b at there apart =
    let other : (n == m) ≡ false = grind (arith, nat_tests, apart) in
    let out : is_among (n ∷ []) m ≡ false = ap (λ (c : Bool). c || false) other in
    let all = touched_cover image q (m ∷ n ∷ []) slots (out, (refl, tt)) in
    let first = ap (cover q) (blocks_of_slot image slots m a at) in
    let second = ap (cover q) (blocks_of_slot image slots n b there) in
    omega (
      arith,
      all,
      first,
      second,
      chosen_cover image q (is_among (m ∷ n ∷ [])) 0 slots,
      cover-append q (blocks_at image slots m) (blocks_at image slots n ++ []),
      cover-append q (blocks_at image slots n) [],
    )

-- ---- the array

-- The links to an array are counted anew in its header, and then the end of file address is written.
pub record IsTargetRecounted (mid set new : Space) (slots : List (Option OpenedObject)) (number : ℕ) (o : OpenedObject) (count : ℕ) : Type 0 where
  pub target : slice_get slots number ≡ Some (Some o)
  pub array : o.content ≡ content.Array
  pub standing : IsStanding set.bytes o.messages
  pub messages : messages_in set.bytes o.messages.list ≡ messages_in mid.bytes o.messages.list
  pub counted : reference_count (prefix_at set.bytes (header_of o)) ≡ count
  pub marked : Moves mid set o.messages.blocks o.messages.blocks
  pub ended : Moves set new (end_field set.bytes ∷ []) (end_field new.bytes ∷ [])

-- A link more is counted in the header of an array, and then the end of file address is written.
pub record IsTargetCounted (mid set new : Space) (slots : List (Option OpenedObject)) (number : ℕ) (o : OpenedObject) : Type 0 where
  pub target : slice_get slots number ≡ Some (Some o)
  pub array : o.content ≡ content.Array
  pub standing : IsStanding set.bytes o.messages
  pub messages : messages_in set.bytes o.messages.list ≡ messages_in mid.bytes o.messages.list
  pub counted : reference_count (prefix_at set.bytes (header_of o)) ≡ reference_count (prefix_at mid.bytes (header_of o)) + 1
  pub marked : Moves mid set o.messages.blocks o.messages.blocks
  pub ended : Moves set new (end_field set.bytes ∷ []) (end_field new.bytes ∷ [])

pub recounted : (mid set new : Space) (slots : List (Option OpenedObject)) (number : ℕ) (o : OpenedObject) → IsTargetCounted mid set new slots number o
    → IsTargetRecounted mid set new slots number o (reference_count (prefix_at mid.bytes (header_of o)) + 1)
recounted mid set new slots number o is = record {
  target = is.target;
  array = is.array;
  standing = is.standing;
  messages = is.messages;
  counted = is.counted;
  marked = is.marked;
  ended = is.ended;
}

-- what is written is the header and the end of file address
pub marked_moves : (mid set new : Space) (header : List Block) → end_field set.bytes ≡ end_field mid.bytes → Moves mid set header header → Moves set new (end_field set.bytes ∷ []) (end_field new.bytes ∷ [])
    → Moves mid new (end_field mid.bytes ∷ header) (end_field new.bytes ∷ header)
marked_moves mid set new header field marked ended =
    let turned : (q : ℕ) → cover q (end_field mid.bytes ∷ header) ≡ cover q (header ++ end_field mid.bytes ∷ []) = λ q. omega (arith, cover-append q header (end_field mid.bytes ∷ [])) in
    moves_then mid set new (end_field mid.bytes ∷ header) (end_field mid.bytes ∷ header) (end_field new.bytes ∷ header)
    (moves_same mid set (header ++ end_field mid.bytes ∷ []) (header ++ end_field mid.bytes ∷ []) (end_field mid.bytes ∷ header) (end_field mid.bytes ∷ header) turned turned
    (moves_beside mid set header header (end_field mid.bytes ∷ []) marked))
    (subst (λ (b : Block). Moves set new (b ∷ header) (end_field new.bytes ∷ header)) field (moves_beside set new (end_field set.bytes ∷ []) (end_field new.bytes ∷ []) header ended))

module _ (old mid set new : Space) (slots : List (Option OpenedObject)) (numbers : BTreeMap ℕ ℕ) (opened : IsOpened old slots numbers) (parent : ℕ) (p : OpenedObject) (t : SymbolTable)
    (change : Links → Links) (number : ℕ) (o : OpenedObject) (count : ℕ) (is : IsGroupRelinked old mid new slots parent p t o.messages.blocks change)
    (its : IsTargetRecounted mid set new slots number o count) (apart_from : number ≡ parent → ⊥) where
  abbrev ms : List Message
  ms = messages_in old.bytes o.messages.list

  abbrev ms' : List Message
  ms' = messages_in new.bytes o.messages.list

  abbrev header : List Block
  header = o.messages.blocks

  abbrev cells : List Block
  cells = data_of old.bytes o

  abbrev links : List Block
  links = blocks_told old.bytes t

  kept : IsObjectKept old.bytes o
  kept = (object_of old slots numbers opened number o its.target).kept

  pub target_parts : object_blocks old.bytes o ≡ header ++ cells
  target_parts = array_parts old.bytes o kept its.array

  group_before : object_blocks old.bytes p ≡ p.messages.blocks ++ links
  group_before = group_blocks old.bytes p t is.kind

  -- ---- what stays

  apart : IsApart (links ++ ((header ++ cells) ++ superblock_in old.bytes ∷ [])) old.free (length old.bytes)
  apart q =
      let two = two_cover old.bytes q slots parent number p o is.group its.target apart_from in
      let first = ap (cover q) group_before in
      let second = ap (cover q) target_parts in
      omega (
        arith,
        opened.apart q,
        two,
        first,
        second,
        cover-append q p.messages.blocks links,
        cover-append q links ((header ++ cells) ++ superblock_in old.bytes ∷ []),
        cover-append q (header ++ cells) (superblock_in old.bytes ∷ []),
        cover-append q header cells,
      )

  header_mid : Keeps old.bytes mid.bytes header
  header_mid = moves_kept old mid links (blocks_told mid.bytes t) header is.moves
      (λ q. omega (
        arith,
        apart q,
        cover-append q links header,
        cover-append q links ((header ++ cells) ++ superblock_in old.bytes ∷ []),
        cover-append q (header ++ cells) (superblock_in old.bytes ∷ []),
        cover-append q header cells,
      ))
      kept.header.inside

  apart_links : IsApart (blocks_told mid.bytes t ++ (header ++ superblock_in old.bytes ∷ [])) mid.free (length mid.bytes)
  apart_links = moves_apart old mid links (blocks_told mid.bytes t) (header ++ superblock_in old.bytes ∷ []) is.moves
      (λ q. omega (
        arith,
        apart q,
        cover-append q links (header ++ superblock_in old.bytes ∷ []),
        cover-append q header (superblock_in old.bytes ∷ []),
        cover-append q links ((header ++ cells) ++ superblock_in old.bytes ∷ []),
        cover-append q (header ++ cells) (superblock_in old.bytes ∷ []),
        cover-append q header cells,
      ))

  same_size : superblock_length mid.bytes ≡ superblock_length old.bytes
  same_size = same_length mid.bytes old.bytes is.k

  apart_mid : IsApart (header ++ superblock_in mid.bytes ∷ []) mid.free (length mid.bytes)
  apart_mid = subst (λ (n : ℕ). IsApart (header ++ block 0 n ∷ []) mid.free (length mid.bytes)) (sym same_size)
      (λ q. omega (arith, apart_links q, cover-append q (blocks_told mid.bytes t) (header ++ superblock_in old.bytes ∷ [])))

  apart_set : IsApart ((end_field set.bytes ∷ []) ++ header) set.free (length set.bytes)
  apart_set q =
      let whole = opened.reads.1.holds.superblock.whole in
      let long : superblock_length mid.bytes ≤ length mid.bytes = omega (arith, same_size, whole, is.moves.grown) in
      omega (arith, apart_left mid set header header its.marked long apart_mid q, end_inside set.bytes q, cover-append q header (superblock_in set.bytes ∷ []))

  header_new : Keeps set.bytes new.bytes header
  header_new = moves_kept set new (end_field set.bytes ∷ []) (end_field new.bytes ∷ []) header its.ended apart_set its.standing.inside

  data_new : Keeps old.bytes new.bytes cells
  data_new =
      let rest : List Block = end_field old.bytes ∷ header in
      moves_kept old new (links ++ rest) (blocks_told mid.bytes t ++ (end_field new.bytes ∷ header)) cells (both_moves old mid new slots numbers opened parent p t header change is)
      (λ q. omega (
        arith,
        apart q,
        cover-append q (links ++ rest) cells,
        cover-append q links rest,
        end_inside old.bytes q,
        cover-append q links ((header ++ cells) ++ superblock_in old.bytes ∷ []),
        cover-append q (header ++ cells) (superblock_in old.bytes ∷ []),
        cover-append q header cells,
      ))
      (array_data old.bytes o kept its.array)

  grown : length old.bytes ≤ length new.bytes
  grown = linked_grown old mid new slots numbers opened parent p t header change is

  k : k_values new.bytes ≡ k_values old.bytes
  k = linked_k old mid new slots numbers opened parent p t header change is

  -- ---- the header

  list_stays : ms' ≡ ms
  list_stays =
      listed-same set.bytes new.bytes o.messages its.standing.has its.standing.within header_new
      ∙ its.messages
      ∙ listed-same old.bytes mid.bytes o.messages kept.header.has kept.header.within header_mid

  standing_now : IsStanding new.bytes o.messages
  standing_now = standing_kept set.bytes new.bytes o.messages its.ended.grown its.standing header_new

  pub count_mid : reference_count (prefix_at mid.bytes (header_of o)) ≡ reference_count (prefix_at old.bytes (header_of o))
  count_mid = count_kept old.bytes mid.bytes o.messages (header_standing old slots numbers opened number o its.target) header_mid

  pub target_counts : reference_count (prefix_at new.bytes (header_of o)) ≡ count
  target_counts = count_kept set.bytes new.bytes o.messages its.standing header_new ∙ its.counted

  -- ---- the object

  pub target_kept : IsObjectKept new.bytes o
  target_kept = array_kept old.bytes o kept its.array new.bytes k grown standing_now list_stays data_new

  pub target_blocks : object_blocks new.bytes o ≡ object_blocks old.bytes o
  target_blocks = array_blocks old.bytes o kept its.array new.bytes k grown standing_now list_stays data_new

  pub target_same : (table : FinMap nat_cmp ℕ) → object_in new.bytes table o ≡ object_in old.bytes table o
  target_same = array_same old.bytes o kept its.array new.bytes k grown standing_now list_stays data_new
