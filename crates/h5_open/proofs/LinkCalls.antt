-- A link that is to be put into a group of an opened image: what is known of the group and of the link before, and of the header of an array
-- to which it leads when it is put.
use Rattle.std.proofs.Common.{◌≡◌, ℕ, ◌+◌, ◌≤◌, true, false, IsSome, List, [], ◌∷◌, ◌++◌, length, refl, sym, ap, ◌∙◌, subst, arith, Option, Some, None}
use Rattle.std.specs.Prelude.{slice_get}
use Rattle.std.specs.Option.{option_map_or}
use Rattle.std.specs.Ordering.{nat_cmp}
use Rattle.std.specs.BTreeMap.{BTreeMap}
use Rattle.std.specs.FinMap.{FinMap, get, insert}
use Rattle.std.specs.List.{flat_map}
use Rattle.h5_bytes.specs.Blocks.{cover}
use Rattle.h5_bytes.proofs.BlockLaws.{cover-append}
use Rattle.h5_model.specs.Edits.Applied.{with_links}
use Rattle.h5_model.specs.Edits.Refusal.{has_zero}
use Rattle.h5_model.specs.Format.Addresses.{SymbolTable}
use Rattle.h5_model.specs.Format.Limits.{most_bytes, most_hard_links}
use Rattle.h5_model.specs.Format.Messages.{prefix_at, reference_count}
use Rattle.h5_model.specs.Format.Superblock.{AreK, leaf_k, internal_k, k_values, end_of_file, end_field}
use Rattle.h5_model.specs.Format.Symbols.{Target, Header, Text}
use Rattle.h5_model.specs.Tree.Objects.{Tree, Object, Link, Soft, link_in, with_object}
use Rattle.h5_model.specs.Tree.Paths.{is_name}
use Rattle.h5_space.specs.Moves.{Moves}
use Rattle.h5_space.specs.Space.{Space}
use Rattle.h5_space.specs.Whole.{IsApart}
use Rattle.h5_header.specs.Listed.{messages_in}
use Rattle.h5_group.specs.Exact.{HasExactKeys}
use Rattle.h5_group.specs.LinkEdits.{IsGroupApart}
use Rattle.h5_group.specs.Links.{HasNone, IsGroupRead}
use Rattle.h5_group.specs.Told.{blocks_told, links_told}
use Rattle.h5_laws.specs.Trees.Sound.{IsSoundTree}
use Rattle.h5_laws.proofs.Lists.{in_contains}
use Rattle.h5_laws.proofs.SoundLaws.Linked.{linked_one_more, one_more}
use Rattle.h5_laws.proofs.SoundLaws.LinksThere.{GroupAt, link_is}
use Rattle.h5_open.specs.declared.opened.object.OpenedObject.{OpenedObject}
use Rattle.h5_open.specs.declared.opened.object.OpenedContent.TheVariants as content
use Rattle.h5_open.specs.Opened.Kept.{IsContentKept, IsOpened}
use Rattle.h5_open.specs.Opened.Objects.{content_blocks, header_of, link_to, object_blocks, objects_of, table_of, tree_of}
use Rattle.h5_open.specs.Opened.Sound.{IsObjectOf}
use Rattle.h5_open.specs.Opened.State.{opened_state}
use Rattle.h5_open.proofs.GroupLinked.{IsGroupLinked}
use Rattle.h5_open.proofs.HardLinkAdded.{kinds_differ}
use Rattle.h5_open.proofs.LinkSlots.{count_few}
use Rattle.h5_open.proofs.OneRemade.{one_cover}
use Rattle.h5_open.proofs.OpenedLaws.Entries.{get_link, names_ascend}
use Rattle.h5_open.proofs.OpenedLaws.Sounds.{object_of, superblock_whole}
use Rattle.h5_open.proofs.RelinkedTree.{group_there}
use Rattle.h5_open.proofs.SuperblockKept.{superblock_in}
use Rattle.h5_open.proofs.TargetCounted.{IsTargetCounted, marked_moves, two_cover}
use Rattle.h5_open.proofs.TargetStands.{marked_field, still_counted}
use Rattle.h5_open.proofs.TouchedBlocks.{group_blocks}

module _ (old : Space) (slots : List (Option OpenedObject)) (numbers : BTreeMap ℕ ℕ) (opened : IsOpened old slots numbers) (parent : ℕ) (p : OpenedObject) (t : SymbolTable)
    (at : slice_get slots parent ≡ Some (Some p)) (kind : p.content ≡ content.Group t) where
  abbrev table : FinMap nat_cmp ℕ
  table = table_of slots

  abbrev tree : Tree
  tree = tree_of old.bytes slots

  abbrev of : IsObjectOf (opened_state old slots) parent p
  of = object_of old slots numbers opened parent p at

  -- ---- the group

  kept_group : IsContentKept old.bytes (messages_in old.bytes p.messages.list) (content.Group t)
  kept_group = subst (IsContentKept old.bytes (messages_in old.bytes p.messages.list)) kind of.kept.content

  pub group_read : IsGroupRead old.bytes t
  group_read = kept_group.2

  pub group_apart : IsApart (superblock_in old.bytes ∷ blocks_told old.bytes t) old.free (length old.bytes)
  group_apart q =
      let same = ap (cover q) (group_blocks old.bytes p t kind) in
      omega (arith, opened.apart q, one_cover q (object_blocks old.bytes) slots parent p at, same, cover-append q p.messages.blocks (blocks_told old.bytes t))

  pub group_k : AreK (leaf_k old.bytes) (internal_k old.bytes)
  group_k =
      let s = opened.reads.1.holds.superblock in
      record { leaf_low = s.leaf_low; leaf_high = s.leaf_high; internal_low = s.internal_low; internal_high = s.internal_high }

  -- it stands apart from free blocks
  pub group_stood : IsGroupApart old t
  group_stood = record { read = group_read; apart = group_apart; long = superblock_whole old slots numbers opened; k = group_k }

  -- ---- the link

  abbrev group_at : GroupAt tree parent
  group_at = group_there old slots numbers opened parent p t at kind

  module _ (name : List ℕ) (free : link_in tree parent name ≡ None) where
    free_name : get group_at.links name ≡ None
    free_name = sym (link_is tree parent group_at name) ∙ free

    -- no link of the group has its name
    pub name_is_new : HasNone old.bytes t name
    name_is_new target there =
        let found = get_link table (links_told old.bytes t) (names_ascend old.bytes t group_read) name target (in_contains (name, target) (links_told old.bytes t) there) in
        let never : None ≡ Some (link_to table target) = sym free_name ∙ found in
        absurd (cc)

    module _ (link : Link) (good : IsSoundTree (with_object tree parent (with_links (λ links. insert links name link)))) where
      tree_is : with_object tree parent (with_links (λ links. insert links name link)) ≡ one_more tree parent name link group_at free_name
      tree_is = ap (λ (found : Option Object). option_map_or (λ (o : Object). insert tree parent (with_links (λ links. insert links name link) o)) found tree) of.there

      sound_more : IsSoundTree (one_more tree parent name link group_at free_name)
      sound_more = subst IsSoundTree tree_is good

      there : link_in (one_more tree parent name link group_at free_name) parent name ≡ Some link
      there = (linked_one_more tree parent name link group_at free_name).new

      -- its name is one, as the tree with it is sound
      pub name_is_one : is_name name ≡ true
      name_is_one = sound_more.named parent name (subst (λ (found : Option Link). IsSome found) (sym there) refl)

      pub text_is_plain : (text : List ℕ) → link ≡ Soft text → has_zero text ≡ false
      text_is_plain text is = sound_more.spelled parent name text (there ∙ ap (λ (l : Link). Some l) is)

  -- ---- when it is put

  module _ (mid : Space) (name : List ℕ) (target : Target) (front back : List (List ℕ × Target)) (was : links_told old.bytes t ≡ front ++ back)
      (put : links_told mid.bytes t ≡ front ++ (name, target) ∷ back) (read : IsGroupRead mid.bytes t) (k : k_values mid.bytes ≡ k_values old.bytes)
      (moves : Moves old mid (blocks_told old.bytes t) (blocks_told mid.bytes t)) (exact : HasExactKeys old.bytes t → HasExactKeys mid.bytes t) where
    -- a soft link, and then the end of file address
    pub soft_put : (text : List ℕ) → target ≡ Text text → (new : Space) → Moves mid new (end_field mid.bytes ∷ []) (end_field new.bytes ∷ [])
        → end_of_file new.bytes ≡ length new.bytes → length new.bytes ≤ most_bytes → IsGroupLinked old mid new slots parent p t name target []
    soft_put text soft new ended end small = record {
      group = at;
      kind = kind;
      front = front;
      back = back;
      was = was;
      put = put;
      read = read;
      exact = exact;
      k = k;
      moves = moves;
      later = ended;
      beside = λ q. omega (arith, one_cover q (object_blocks old.bytes) slots parent p at);
      led = λ h hard. let never : Text text ≡ Header h = sym soft ∙ hard in absurd (cc);
      end = end;
      small = small;
    }

    module _ (number : ℕ) (o : OpenedObject) (stands : slice_get slots number ≡ Some (Some o)) (array : o.content ≡ content.Array) where
      target_of : IsObjectOf (opened_state old slots) number o
      target_of = object_of old slots numbers opened number o stands

      two : (q : ℕ) → cover q (object_blocks old.bytes p) + cover q (object_blocks old.bytes o) ≤ cover q (flat_map (object_blocks old.bytes) (objects_of slots))
      two q = two_cover old.bytes q slots parent number p o at stands (kinds_differ slots parent number p o t at stands kind array)

      -- the header of the array counts few links
      pub target_few : reference_count (prefix_at mid.bytes (header_of o)) ≤ most_hard_links + 1
      target_few =
          let same = still_counted old slots numbers opened parent p t at kind mid moves number o stands array in
          let few = count_few old slots numbers opened number o stands in
          omega (arith, same, few)

      -- a hard link to it, and then the count in its header and the end of file address
      pub hard_put : target ≡ Header (header_of o) → (set new : Space) → IsTargetCounted mid set new slots number o → end_of_file new.bytes ≡ length new.bytes → length new.bytes ≤ most_bytes
          → IsGroupLinked old mid new slots parent p t name target o.messages.blocks
      hard_put hard set new its end small = record {
        group = at;
        kind = kind;
        front = front;
        back = back;
        was = was;
        put = put;
        read = read;
        exact = exact;
        k = k;
        moves = moves;
        later = marked_moves mid set new o.messages.blocks (marked_field old slots numbers opened parent p t at kind mid moves number o stands array set its.marked) its.marked its.ended;
        beside = λ q. omega (arith, two q, cover-append q o.messages.blocks (content_blocks old.bytes (messages_in old.bytes o.messages.list) o.content));
        led = λ h is. let same : header_of o ≡ h = let both : Header (header_of o) ≡ Header h = sym hard ∙ is in cc in (number, target_of.header ∙ ap (λ (x : ℕ). Some x) same);
        end = end;
        small = small;
      }
