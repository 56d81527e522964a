-- A link that is taken out of a group of an opened image where the group stands, and with it all that no path reaches then, is an edit in
-- place.
use Rattle.std.proofs.Common.{◌≡◌, ◌⊎◌, inl, inr, ℕ, zero, suc, ◌+◌, ◌-◌, ◌≤◌, ◌==◌, true, false, Bool, List, [], ◌∷◌, ◌++◌, length, refl, sym, ap, ◌∙◌, subst, arith, Option, Some, None, IsSome}
use Rattle.std.specs.Prelude.{slice_get, option_map, if◌then◌else◌}
use Rattle.std.specs.Option.{option_flatten, option_map_or}
use Rattle.std.specs.Ordering.{nat_cmp}
use Rattle.std.specs.BTreeMap.{BTreeMap}
use Rattle.std.specs.FinMap.{FinMap, from_entries, get, remove}
use Rattle.std.specs.List.{Contains, flat_map}
use Rattle.std.proofs.lemmas.Bool.Decides.{nat_tests}
use Rattle.std.proofs.lemmas.Option.{same_Some}
use Rattle.h5_bytes.specs.Bytes.{byte_at}
use Rattle.h5_bytes.specs.Blocks.{cover, Keeps}
use Rattle.h5_bytes.specs.declared.Block.{Block}
use Rattle.h5_bytes.proofs.BlockLaws.{cover-append, holds_none}
use Rattle.h5_model.specs.Format.Addresses.{SymbolTable}
use Rattle.h5_model.specs.Format.Limits.{most_bytes}
use Rattle.h5_model.specs.Format.Superblock.{end_field, end_of_file, k_values}
use Rattle.h5_model.specs.Format.Symbols.{Target, Header, Text}
use Rattle.h5_model.specs.Tree.Objects.{Tree, Object, Link, Links, ToObject, hard_links, link_in}
use Rattle.h5_model.proofs.KLaws.{same_end_field}
use Rattle.h5_space.specs.Moves.{Moves}
use Rattle.h5_space.specs.Space.{Space}
use Rattle.h5_space.proofs.MovesLaws.{moves_beside, moves_kept, moves_none, moves_same, moves_then}
use Rattle.h5_header.specs.Listed.{messages_in}
use Rattle.h5_group.specs.Told.{blocks_told, links_told}
use Rattle.h5_laws.specs.Trees.Unlinked.{IsTreeLeft, lost_links, tree_left, without_link}
use Rattle.h5_laws.proofs.Lists.{In, contains_in, in_contains, in_either, in_left, in_map, in_right}
use Rattle.h5_laws.proofs.SoundLaws.LinksThere.{GroupAt, link_is}
use Rattle.h5_open.specs.declared.opened.object.OpenedObject.{OpenedObject}
use Rattle.h5_open.specs.declared.opened.object.OpenedContent.{OpenedContent}
use Rattle.h5_open.specs.declared.opened.object.OpenedContent.TheVariants as content
use Rattle.h5_open.specs.ChangedInPlace.{IsChangedInPlace, is_among}
use Rattle.h5_open.specs.LinkTaken.{AreCountsLowered, AreSlotsCleared, IsCountLeft, IsLinkTaken, lowered_blocks}
use Rattle.h5_open.specs.Losses.{AreLosses}
use Rattle.h5_open.specs.Opened.Headers.{object_with}
use Rattle.h5_open.specs.Opened.Kept.{IsIndex, IsObjectKept, IsOpened}
use Rattle.h5_open.specs.Opened.Objects.{content_blocks, content_in, content_links, header_of, link_to, links_by, number_in, object_blocks, object_in, objects_of, table_of, tree_of}
use Rattle.h5_open.specs.Opened.Sound.{IsHeaderIn, IsObjectOf}
use Rattle.h5_open.specs.Opened.State.{opened_state}
use Rattle.h5_open.specs.SlotsInPlace.{IsSlotsInPlace, IsTouchedObject, blocks_at}
use Rattle.h5_open.proofs.Among.{among_in, in_among, none_among}
use Rattle.h5_open.proofs.ArrayStays.{array_blocks, array_data, array_kept, array_same, data_of}
use Rattle.h5_open.proofs.EndKept.{end_kept, k_kept}
use Rattle.h5_open.proofs.GroupRelinked.{IsGroupRelinked, both_moves, linked_moves, linked_object, relinked_written}
use Rattle.h5_open.proofs.GroupUnlinked.{unlinked}
use Rattle.h5_open.proofs.GroupWritten.{links_later, written_object}
use Rattle.h5_open.proofs.ListCovers.{covers_append, covers_none, covers_same, member_cover}
use Rattle.h5_open.proofs.LossesTaken.{all_beside, cells_at, group_cover, less_array, less_cover, less_left, less_slot, losses_apart, not_both, not_group, numbers_less, once, touched_numbers, touched_old}
use Rattle.h5_open.proofs.OpenedLaws.Entries.{get_link, get_table, named_links, names_ascend}
use Rattle.h5_open.proofs.OpenedLaws.HeaderNumbers.{number_is}
use Rattle.h5_open.proofs.OpenedLaws.Sounds.{object_of, image_short}
use Rattle.h5_open.proofs.RelinkedTree.{relinked_here, relinked_others, written_touched}
use Rattle.h5_open.proofs.SlotEdits.{slots_cleared, table_same}
use Rattle.h5_open.proofs.SlotsInPlace.{slots_changed, slots_opened}
use Rattle.h5_open.proofs.TargetCounted.{marked_moves}
use Rattle.h5_open.proofs.TargetStands.{still_listed}
use Rattle.h5_open.proofs.ToldObject.{told_object}
use Rattle.h5_open.proofs.TouchedBlocks.{blocks_of_slot, touched_moves}

-- What goes is no more: its blocks are free, its slots are empty, and its headers have no numbers. Before that the counts of what stays were
-- lowered.
pub record IsUnlinkDone (mid low new : Space) (slots slots' : List (Option OpenedObject)) (numbers' : BTreeMap ℕ ℕ) (gone : List ℕ) (less : List (ℕ × ℕ)) (held : List Block) : Type 0 where
  pub lowered : AreCountsLowered mid low slots less
  pub bytes : new.bytes ≡ low.bytes
  pub given : (q : ℕ) → cover q new.free ≡ cover q low.free + cover q held
  pub cleared : AreSlotsCleared slots slots' gone
  pub index : IsIndex (table_of slots') numbers'

-- blocks that are given back
gives : (low new : Space) (bs : List Block) → new.bytes ≡ low.bytes → ((q : ℕ) → cover q new.free ≡ cover q low.free + cover q bs) → Moves low new bs []
gives low new bs bytes given =
    let long : length new.bytes ≡ length low.bytes = ap (λ (b : List ℕ). length b) bytes in
    let more : length new.bytes - length low.bytes ≡ 0 = omega (arith, long) in
    record {
      grown = omega (arith, long);
      kept = λ q used free low. ap (λ (b : List ℕ). byte_at b q) bytes;
      moved = λ q. rw (more, holds_none q (length low.bytes)) (omega (arith, given q));
    }

-- two tables that have the headers of some links at the same numbers
links_same : (table table' : FinMap nat_cmp ℕ) (found : List (List ℕ × Target)) → ((name : List ℕ) (h : ℕ) → In (name, Header h) found → number_in table' h ≡ number_in table h)
    → named_links table' found ≡ named_links table found
links_same table table' [] same = refl
links_same table table' ((name, Header h) ∷ found) same =
    ap (λ (n : ℕ). let first : List ℕ × Link = (name, ToObject n) in first ∷ named_links table' found) (same name h (inl refl))
    ∙ ap (λ (ls : List (List ℕ × Link)). (name, ToObject (number_in table h)) ∷ ls) (links_same table table' found (λ x k at. same x k (inr at)))
links_same table table' ((name, Text text) ∷ found) same =
    ap (λ (ls : List (List ℕ × Link)). (name, link_to table (Text text)) ∷ ls) (links_same table table' found (λ x k at. same x k (inr at)))

module _ (old : Space) (slots : List (Option OpenedObject)) (numbers : BTreeMap ℕ ℕ) (opened : IsOpened old slots numbers) (parent : ℕ) (p : OpenedObject) (t : SymbolTable)
    (at : slice_get slots parent ≡ Some (Some p)) (kind : p.content ≡ content.Group t) (name : List ℕ) (link : Link) (there : link_in (tree_of old.bytes slots) parent name ≡ Some link)
    (gone : List ℕ) (less : List (ℕ × ℕ)) (held : List Block) (losses : AreLosses old.bytes slots link gone less held)
    (left : IsTreeLeft (tree_of old.bytes slots) parent name link losses.numbers) (mid : Space) (taken : IsLinkTaken old mid t name)
    (low new : Space) (slots' : List (Option OpenedObject)) (numbers' : BTreeMap ℕ ℕ) (its : IsUnlinkDone mid low new slots slots' numbers' gone less held) where
  abbrev table : FinMap nat_cmp ℕ
  table = table_of slots

  abbrev table' : FinMap nat_cmp ℕ
  table' = table_of slots'

  abbrev tree : Tree
  tree = tree_of old.bytes slots

  abbrev change : Links → Links
  change links = remove links name

  abbrev rest : Tree
  rest = without_link tree parent name

  abbrev tree' : Tree
  tree' = tree_left tree parent name

  abbrev touched : List ℕ
  touched = touched_numbers parent gone less

  abbrev headers : List Block
  headers = lowered_blocks slots less

  abbrev cells : List Block
  cells = flat_map (λ (l : ℕ × ℕ). cells_at old.bytes slots l.0) less

  abbrev blocks : List Block
  blocks = flat_map (blocks_at old.bytes slots) gone

  abbrev links : List Block
  links = blocks_told old.bytes t

  -- ---- what moves before blocks are given back

  beside : (q : ℕ) → cover q (object_blocks old.bytes p) + (cover q blocks + (cover q headers + cover q cells)) ≤ cover q (flat_map (object_blocks old.bytes) (objects_of slots))
  beside = all_beside old slots numbers opened parent p t at kind name link gone less held losses left

  turned : (now before : List Block) (q : ℕ) → cover q (before ++ now) ≡ cover q (now ++ before)
  turned now before q = omega (arith, cover-append q before now, cover-append q now before)

  moved : Moves old low (links ++ headers) (blocks_told mid.bytes t ++ headers)
  moved = moves_then old mid low (links ++ headers) (blocks_told mid.bytes t ++ headers) (blocks_told mid.bytes t ++ headers)
      (moves_beside old mid links (blocks_told mid.bytes t) headers taken.moves)
      (moves_same mid low (headers ++ blocks_told mid.bytes t) (headers ++ blocks_told mid.bytes t) (blocks_told mid.bytes t ++ headers) (blocks_told mid.bytes t ++ headers)
      (turned headers (blocks_told mid.bytes t)) (turned headers (blocks_told mid.bytes t)) (moves_beside mid low headers headers (blocks_told mid.bytes t) its.lowered.moves))

  long : length low.bytes ≡ length old.bytes
  long = its.lowered.as_long ∙ taken.as_long

  moved_among : (q : ℕ) → cover q (links ++ headers) ≤ cover q (flat_map (object_blocks old.bytes) (objects_of slots))
  moved_among q = omega (arith, beside q, group_cover old slots numbers opened parent p t at kind name link gone less held losses left q, cover-append q links headers)

  end_now : end_of_file low.bytes ≡ length low.bytes
  end_now = end_kept old slots numbers opened low (links ++ headers) (blocks_told mid.bytes t ++ headers) moved moved_among long

  k_now : k_values low.bytes ≡ k_values old.bytes
  k_now = k_kept old slots numbers opened low (links ++ headers) (blocks_told mid.bytes t ++ headers) moved moved_among

  short : length low.bytes ≤ most_bytes
  short = omega (arith, long, image_short old slots numbers opened)

  is : IsGroupRelinked old mid low slots parent p t headers change
  is = unlinked old slots numbers opened parent p t at kind name link there mid taken low headers
      (marked_moves mid low low headers (same_end_field low.bytes mid.bytes (k_now ∙ sym taken.k)) its.lowered.moves (moves_none low (end_field low.bytes ∷ []))) (λ q. omega (arith, beside q)) end_now short

  -- ---- the tree

  abbrev lost : ℕ → ℕ
  lost n = lost_links tree link losses.numbers n

  not_there : (n : ℕ) → (In n gone → ⊥) → (In n (numbers_less less) → ⊥) → Contains losses.numbers n → ⊥
  not_there n out other mine = elim (losses.parted n mine) [
    | inl goes ↦ out (in_contains n gone goes)
    | inr stays ↦ other (in_map (λ (l : ℕ × ℕ). l.0) (n, stays.0) less (in_contains (n, stays.0) less stays.1))
  ]

  none_lost : (n : ℕ) → (Contains losses.numbers n → ⊥) → hard_links tree' n ≡ hard_links tree n
  none_lost n out =
      let all = left.counts n in
      let none : lost n ≡ 0 = go (lost n) refl in
      omega (arith, all, none) where
        go : (k : ℕ) → lost n ≡ k → lost n ≡ 0
        go zero same = same
        go (suc k) same = absurd (out ((losses.reached.each n).1 (omega (arith, same))))

  got_parent : get tree' parent ≡ Some (object_in low.bytes table p)
  got_parent = left.stays parent (λ among all. left.not_parent among) ∙ relinked_here old mid low slots numbers opened parent p t headers change is

  got_gone : (n : ℕ) → In n gone → get tree' n ≡ None
  got_gone n mine = let goes = losses.goes n (contains_in n gone mine) in left.goes n goes.0 goes.1

  got_less : (n k : ℕ) → Contains less (n, k) → get tree' n ≡ get tree n
  got_less n k mine =
      let stays = losses.stays n k mine in
      let some = stays.1 in
      let sum = stays.2 in
      left.stays n (λ among all. omega (arith, all, some, sum))
      ∙ relinked_others old mid low slots numbers opened parent p t headers change is n
      (not_group old slots numbers opened parent p t at kind name link gone less held losses left n
      (in_right n gone (numbers_less less) (in_map (λ (l : ℕ × ℕ). l.0) (n, k) less (in_contains (n, k) less mine))))

  got_other : (n : ℕ) → (Contains losses.numbers n → ⊥) → (n ≡ parent → ⊥) → get tree' n ≡ get tree n
  got_other n out apart = left.stays n (λ among all. out among) ∙ relinked_others old mid low slots numbers opened parent p t headers change is n apart

  -- ---- slots and headers

  slot_gone : (n : ℕ) → In n gone → slice_get slots' n ≡ Some None
  slot_gone n mine = its.cleared.cleared n (contains_in n gone mine)

  slot_stays : (n : ℕ) → (In n gone → ⊥) → slice_get slots' n ≡ slice_get slots n
  slot_stays n out = its.cleared.others n (λ mine. out (in_contains n gone mine))

  parent_stays : In parent gone → ⊥
  parent_stays mine = left.not_parent (losses.goes parent (contains_in parent gone mine)).0

  group_stays : slice_get slots' parent ≡ Some (Some p)
  group_stays = slot_stays parent parent_stays ∙ at

  table_stays : (n : ℕ) → (In n gone → ⊥) → get table' n ≡ get table n
  table_stays n out = table_same slots slots' n (ap option_flatten (slot_stays n out))

  table_gone : (n h : ℕ) → get table' n ≡ Some h → In n gone → ⊥
  table_gone n h found mine =
      let none : get table' n ≡ None = get_table slots' n ∙ ap (λ (s : Option (Option OpenedObject)). option_map header_of (option_flatten s)) (slot_gone n mine) in
      let never : None ≡ Some h = sym none ∙ found in
      absurd (cc)

  own : (a b h : ℕ) → get table a ≡ Some h → get table b ≡ Some h → a ≡ b
  own = opened.reads.1.holds.own

  own_left : (a b h : ℕ) → get table' a ≡ Some h → get table' b ≡ Some h → a ≡ b
  own_left a b h here other = own a b h (sym (table_stays a (table_gone a h here)) ∙ here) (sym (table_stays b (table_gone b h other)) ∙ other)

  -- ---- the group

  abbrev told : List (List ℕ × Target)
  told = links_told mid.bytes t

  told_now : links_told low.bytes t ≡ told
  told_now = links_later old mid low slots numbers opened parent p t [] headers (relinked_written old mid low slots numbers opened parent p t headers change is)

  -- the group in the tree that is left
  abbrev group_left : GroupAt tree' parent
  group_left = record {
    object = object_in low.bytes table p;
    links = links_by table (links_told low.bytes t);
    stands = got_parent;
    is = ap (content_in low.bytes table (messages_in low.bytes p.messages.list)) kind;
  }

  -- no link that is left leads to an object that goes
  leads_on : (x : List ℕ) (h : ℕ) → In (x, Header h) told → (n : ℕ) × (get table n ≡ Some h) × (In n gone → ⊥)
  leads_on x h standing =
      let led = is.led x h (contains_in (x, Header h) told standing) in (
        led.0,
        led.1,
        λ mine.
            let to : link_to table (Header h) ≡ ToObject led.0 = ap (λ (k : ℕ). ToObject k) (number_is table own led.0 h led.1) in
            let got : get (links_by table told) x ≡ Some (ToObject led.0)
            = get_link table told (names_ascend mid.bytes t is.read) x (Header h) standing ∙ ap (λ (l : Link). Some l) to in
            let leads : link_in tree' parent x ≡ Some (ToObject led.0)
            = link_is tree' parent group_left x ∙ ap (λ (ls : List (List ℕ × Target)). get (links_by table ls) x) told_now ∙ got in
            let some : IsSome (get tree' led.0) = left.good.linked parent led.0 x leads in
            let never : IsSome {T = Object} None = subst (λ (o : Option Object). IsSome o) (got_gone led.0 mine) some in
            absurd (cc),
      )

  same_number : (x : List ℕ) (h : ℕ) → In (x, Header h) told → number_in table' h ≡ number_in table h
  same_number x h standing =
      let on = leads_on x h standing in
      number_is table' own_left on.0 h (table_stays on.0 on.2 ∙ on.1) ∙ sym (number_is table own on.0 h on.1)

  links_stay : links_by table' told ≡ links_by table told
  links_stay = ap (λ (es : List (List ℕ × Link)). from_entries es) (links_same table table' told same_number)

  object_stays : object_in low.bytes table' p ≡ object_in low.bytes table p
  object_stays =
      written_object old mid low slots numbers opened parent p t [] headers (relinked_written old mid low slots numbers opened parent p t headers change is)
      table table' change (links_stay ∙ is.links)
      ∙ sym (linked_object old mid low slots numbers opened parent p t headers change is)

  group_led : (x : List ℕ) (h : ℕ) → Contains told (x, Header h) → IsHeaderIn table' h
  group_led x h here =
      let on = leads_on x h (in_contains (x, Header h) told here) in
      (on.0, table_stays on.0 on.2 ∙ on.1)

  group_now : IsTouchedObject low.bytes table' tree' parent p
  group_now = written_touched old mid low slots numbers opened parent p t [] headers (relinked_written old mid low slots numbers opened parent p t headers change is)
      table' tree' group_led (got_parent ∙ ap (λ (o : Object). Some o) (sym object_stays)) (none_lost parent left.not_parent)

  -- ---- an array to which links are left

  module _ (n k : ℕ) (o : OpenedObject) (mine : Contains less (n, k)) (stands : slice_get slots n ≡ Some (Some o)) where
    array : o.content ≡ content.Array
    array = less_array old slots numbers opened parent p t at kind name link gone less held losses left n k o mine stands

    of : IsObjectOf (opened_state old slots) n o
    of = object_of old slots numbers opened n o stands

    count : IsCountLeft mid.bytes low.bytes o k
    count = its.lowered.each n k o mine stands

    list_stays : messages_in low.bytes o.messages.list ≡ messages_in old.bytes o.messages.list
    list_stays = count.messages ∙ still_listed old slots numbers opened parent p t at kind mid taken.moves n o stands array

    cells_are : cells_at old.bytes slots n ≡ data_of old.bytes o
    cells_are =
        ap (λ (s : Option (Option OpenedObject)). option_map_or (λ (x : OpenedObject). content_blocks old.bytes (messages_in old.bytes x.messages.list) x.content) (option_flatten s) []) stands
        ∙ ap (content_blocks old.bytes (messages_in old.bytes o.messages.list)) array

    among_cells : (q : ℕ) → cover q (data_of old.bytes o) ≤ cover q cells
    among_cells q =
        let same = ap (cover q) cells_are in
        omega (arith, same, member_cover (λ (l : ℕ × ℕ). cells_at old.bytes slots l.0) q less (n, k) (in_contains (n, k) less mine))

    data_stay : Keeps old.bytes low.bytes (data_of old.bytes o)
    data_stay =
        let written : List Block = end_field old.bytes ∷ headers in
        moves_kept old low (links ++ written) (blocks_told mid.bytes t ++ (end_field low.bytes ∷ headers)) (data_of old.bytes o) (both_moves old mid low slots numbers opened parent p t headers change is)
        (λ q. omega (
          arith,
          losses_apart old slots numbers opened parent p t at kind name link gone less held losses left q,
          among_cells q,
          cover-append q (links ++ written) (data_of old.bytes o),
          cover-append q links written,
          cover-append q links (headers ++ (cells ++ (blocks ++ end_field old.bytes ∷ []))),
          cover-append q headers (cells ++ (blocks ++ end_field old.bytes ∷ [])),
          cover-append q cells (blocks ++ end_field old.bytes ∷ []),
          cover-append q blocks (end_field old.bytes ∷ []),
        ))
        (array_data old.bytes o of.kept array)

    grown : length old.bytes ≤ length low.bytes
    grown = omega (arith, long)

    kept_now : IsObjectKept low.bytes o
    kept_now = array_kept old.bytes o of.kept array low.bytes k_now grown count.standing list_stays data_stay

    blocks_now : object_blocks low.bytes o ≡ object_blocks old.bytes o
    blocks_now = array_blocks old.bytes o of.kept array low.bytes k_now grown count.standing list_stays data_stay

    -- it has no links that a table would tell
    no_table : object_in old.bytes table' o ≡ object_in old.bytes table o
    no_table =
        let ms = messages_in old.bytes o.messages.list in
        ap (λ (c : OpenedContent). object_with (content_in old.bytes table' ms c) ms) array ∙ sym (ap (λ (c : OpenedContent). object_with (content_in old.bytes table ms c) ms) array)

    no_links : (x : List ℕ) (h : ℕ) → Contains (content_links low.bytes o.content) (x, Header h) → IsHeaderIn table' h
    no_links x h found =
        absurd (in_contains (x, Header h) [] (subst (λ (ls : List (List ℕ × Target)). Contains ls (x, Header h)) (ap (content_links low.bytes) array) found))

    counted : k ≡ hard_links tree' n + (if n == 0 then 1 else 0)
    counted =
        let stays = losses.stays n k mine in
        let sum = stays.2 in
        let all = left.counts n in
        let other : (n == 0) ≡ false = apart_root stays.0 in
        let none : (if n == 0 then 1 else 0) ≡ 0 = ap {B = ℕ} (λ (b : Bool). if b then 1 else 0) other in
        omega (arith, sum, all, none) where
          apart_root : Contains losses.numbers n → (n == 0) ≡ false
          apart_root among = go (n == 0) refl where
            go : (b : Bool) → (n == 0) ≡ b → (n == 0) ≡ false
            go false is_other = is_other
            go true root =
                let zero : n ≡ 0 = grind (arith, nat_tests, root) in
                absurd (left.not_root (subst (Contains losses.numbers) zero among))

    array_now : IsTouchedObject low.bytes table' tree' n o
    array_now = record {
      kept = kept_now;
      object = object_in low.bytes table' o;
      there = got_less n k mine ∙ of.there
          ∙ ap (λ (x : Object). Some x) (sym (array_same old.bytes o of.kept array low.bytes k_now grown count.standing list_stays data_stay table' ∙ no_table));
      blocks = object_blocks low.bytes o;
      has = told_object low.bytes table' o kept_now no_links;
      counted = count.count ∙ counted;
    }

  -- ---- the slots that are touched

  stays_there : (n : ℕ) → In n (numbers_less less) → slice_get slots' n ≡ slice_get slots n
  stays_there n mine = slot_stays n (λ goes. not_both old slots numbers opened parent p t at kind name link gone less held losses left n goes mine)

  touched_now : (n : ℕ) (x : OpenedObject) → is_among touched n ≡ true → slice_get slots' n ≡ Some (Some x) → IsTouchedObject low.bytes table' tree' n x
  touched_now n x mine found = elim (among_in touched n mine) [
    | inl here ↦
        let one : p ≡ x = same_Some p x (same_Some (Some p) (Some x) (sym group_stays ∙ ap (slice_get slots') here ∙ found)) in
        subst (IsTouchedObject low.bytes table' tree' n) one (subst (λ (k : ℕ). IsTouchedObject low.bytes table' tree' k p) here group_now)
    | inr among ↦ elim (in_either n gone (numbers_less less) among) [
      | inl goes ↦ absurd (let never : None ≡ Some x = same_Some None (Some x) (sym (slot_gone n goes) ∙ found) in cc)
      | inr stays ↦
          let one = less_left old slots numbers opened parent p t at kind name link gone less held losses left n stays in
          array_now n one.0 x one.1 (sym (stays_there n stays) ∙ found)
    ]
  ]

  empty_now : (n : ℕ) → is_among touched n ≡ true → option_flatten (slice_get slots' n) ≡ None → get tree' n ≡ None
  empty_now n mine none = elim (among_in touched n mine) [
    | inl here ↦ absurd (let never : Some p ≡ None = ap option_flatten (sym group_stays ∙ ap (slice_get slots') here) ∙ none in cc)
    | inr among ↦ elim (in_either n gone (numbers_less less) among) [
      | inl goes ↦ got_gone n goes
      | inr stays ↦
          let one = less_left old slots numbers opened parent p t at kind name link gone less held losses left n stays in
          let full = less_slot old slots numbers opened parent p t at kind name link gone less held losses left n one.0 one.1 in
          absurd (let never : Some full.0 ≡ None = ap option_flatten (sym (stays_there n stays ∙ full.1)) ∙ none in cc)
    ]
  ]

  each_slot : (n : ℕ) → (slice_get slots' n ≡ slice_get slots n) ⊎ ((is_among touched n ≡ true) × (slice_get slots' n ≡ Some None))
  each_slot n = go (is_among gone n) refl where
    go : (b : Bool) → is_among gone n ≡ b → (slice_get slots' n ≡ slice_get slots n) ⊎ ((is_among touched n ≡ true) × (slice_get slots' n ≡ Some None))
    go true mine =
        let goes = among_in gone n mine in
        inr (in_among touched n (inr (in_left n gone (numbers_less less) goes)), slot_gone n goes)
    go false out = inl (slot_stays n (none_among gone n out))

  -- the others
  module _ (n : ℕ) (out : is_among touched n ≡ false) where
    not_touched : In n touched → ⊥
    not_touched = none_among touched n out

    not_lost : Contains losses.numbers n → ⊥
    not_lost = not_there n (λ goes. not_touched (inr (in_left n gone (numbers_less less) goes))) (λ stays. not_touched (inr (in_right n gone (numbers_less less) stays)))

    other_same : get tree' n ≡ get tree n
    other_same = got_other n not_lost (λ here. not_touched (inl (sym here)))

  -- ---- what moves

  abbrev before : List Block
  before = end_field old.bytes ∷ (object_blocks old.bytes p ++ headers)

  abbrev after : List Block
  after = end_field low.bytes ∷ (object_blocks low.bytes p ++ headers)

  all_moves : Moves old new (before ++ (cells ++ blocks)) (after ++ cells)
  all_moves = moves_then old low new (before ++ (cells ++ blocks)) (after ++ (cells ++ blocks)) (after ++ cells)
      (moves_beside old low before after (cells ++ blocks) (linked_moves old mid low slots numbers opened parent p t headers change is))
      (moves_same low new (blocks ++ (after ++ cells)) (after ++ cells) (after ++ (cells ++ blocks)) (after ++ cells)
      (λ q. omega (arith, cover-append q blocks (after ++ cells), cover-append q after cells, cover-append q after (cells ++ blocks), cover-append q cells blocks)) (λ q. refl)
      (moves_beside low new blocks [] (after ++ cells) (gives low new blocks its.bytes (λ q. omega (arith, its.given q, losses.blocks q)))))

  covered_before : (q : ℕ) → cover q (end_field old.bytes ∷ flat_map (blocks_at old.bytes slots) touched) ≡ cover q (before ++ (cells ++ blocks))
  covered_before q = omega (
    arith,
    touched_old old slots numbers opened parent p t at kind name link gone less held losses left q,
    cover-append q (object_blocks old.bytes p) headers,
    cover-append q before (cells ++ blocks),
    cover-append q cells blocks,
  )

  blocks_stay : (n : ℕ) → In n (numbers_less less) → blocks_at new.bytes slots' n ≡ blocks_at old.bytes slots n
  blocks_stay n mine =
      let one = less_left old slots numbers opened parent p t at kind name link gone less held losses left n mine in
      let full = less_slot old slots numbers opened parent p t at kind name link gone less held losses left n one.0 one.1 in
      blocks_of_slot new.bytes slots' n full.0 (stays_there n mine ∙ full.1)
      ∙ ap (λ (image : List ℕ). object_blocks image full.0) its.bytes
      ∙ blocks_now n one.0 full.0 one.1 full.1
      ∙ sym (blocks_of_slot old.bytes slots n full.0 full.1)

  none_left : (n : ℕ) → In n gone → blocks_at new.bytes slots' n ≡ []
  none_left n mine = ap (λ (s : Option (Option OpenedObject)). option_map_or (object_blocks new.bytes) (option_flatten s) []) (slot_gone n mine)

  covered_after : (q : ℕ) → cover q (end_field new.bytes ∷ flat_map (blocks_at new.bytes slots') touched) ≡ cover q (after ++ cells)
  covered_after q =
      let group = ap (cover q) (blocks_of_slot new.bytes slots' parent p group_stays) in
      let blocks_are = ap (λ (image : List ℕ). cover q (object_blocks image p)) its.bytes in
      let field = ap (λ (image : List ℕ). cover q (end_field image ∷ [])) its.bytes in
      omega (
        arith,
        group,
        blocks_are,
        field,
        covers_none (blocks_at new.bytes slots') q gone none_left,
        covers_same (blocks_at new.bytes slots') q (blocks_at old.bytes slots) (numbers_less less) blocks_stay,
        less_cover old slots numbers opened parent p t at kind name link gone less held losses left q,
        covers_append (blocks_at new.bytes slots') q gone (numbers_less less),
        cover-append q (blocks_at new.bytes slots' parent) (flat_map (blocks_at new.bytes slots') (gone ++ numbers_less less)),
        cover-append q (object_blocks low.bytes p) headers,
        cover-append q after cells,
      )

  -- ---- so

  in_place : IsSlotsInPlace old new slots slots' tree tree' (is_among touched)
  in_place = record {
    moves = touched_moves old new slots slots' touched (once old slots numbers opened parent p t at kind name link gone less held losses left)
        (moves_same old new (before ++ (cells ++ blocks)) (after ++ cells) (end_field old.bytes ∷ flat_map (blocks_at old.bytes slots) touched)
        (end_field new.bytes ∷ flat_map (blocks_at new.bytes slots') touched) covered_before covered_after all_moves);
    end = subst (λ (image : List ℕ). end_of_file image ≡ length image) (sym its.bytes) end_now;
    small = subst (λ (image : List ℕ). length image ≤ most_bytes) (sym its.bytes) short;
    slots_moved = slots_cleared slots slots' (is_among touched) its.cleared.as_many opened.low each_slot;
    same = other_same;
    counts = λ n out some. none_lost n (not_lost n out);
    remade = λ n o mine found. subst (λ (image : List ℕ). IsTouchedObject image table' tree' n o) (sym its.bytes) (touched_now n o mine found);
    gone = empty_now;
  }

  pub unlinked_opened : IsOpened new slots' numbers'
  unlinked_opened = slots_opened old new slots slots' numbers numbers' opened tree' (is_among touched) left.good in_place its.index

  pub unlinked_changed : IsChangedInPlace (opened_state old slots) (opened_state new slots') tree' (length slots) touched 0
  unlinked_changed =
      let same = ap (λ (image : List ℕ). length image) its.bytes in
      subst (λ (next : ℕ). IsChangedInPlace (opened_state old slots) (opened_state new slots') tree' next touched 0) its.cleared.as_many
      (slots_changed old new slots slots' numbers numbers' opened tree' touched 0 left.good in_place its.index (omega (arith, same, long)))
