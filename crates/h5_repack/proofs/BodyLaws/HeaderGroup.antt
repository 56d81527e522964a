-- The header of a group in the plain layout reads as that group, where its links stand in the tree and the heap that it names (File
-- Format Specification 3.0, sections IV.A.1.a and IV.A.2.r).
use Rattle.std.proofs.Common.{◌≡◌, ℕ, ◌+◌, ◌^◌, ◌<◌, ◌≤◌, ◌==◌, ◌||◌, List, [], ◌∷◌, ◌++◌, length, refl, sym, subst, arith, Bool, true, Some}
use Rattle.std.proofs.lemmas.Bool.Decides.{nat_tests}
use Rattle.std.specs.Ordering.{nat_cmp}
use Rattle.std.specs.List.{AllByRecursion, AllZip}
use Rattle.std.specs.FinMap.{FinMap, entries}
use Rattle.h5_bytes.specs.Bytes.{number_at, part}
use Rattle.h5_bytes.specs.Blocks.{block}
use Rattle.h5_bytes.specs.declared.Block.{Block}
use Rattle.h5_model.specs.Format.Addresses.{symbol_table_of}
use Rattle.h5_model.specs.Format.Limits.{most_bytes}
use Rattle.h5_model.specs.Format.Links.{HasLinks}
use Rattle.h5_model.specs.Format.MessageTypes.{nil_kind, attribute_kind, continuation_kind, symbol_table_kind}
use Rattle.h5_model.specs.Format.Messages.{Message, HasMessages, prefix_at, reference_count, most_messages}
use Rattle.h5_model.specs.Format.Bodies.{pair_bytes}
use Rattle.h5_model.specs.Format.Plain.{messages_bytes}
use Rattle.h5_model.specs.Format.Reads.{HasObject, HasContent, HasGroup, InGroup, IsSame}
use Rattle.h5_model.specs.Format.Sizes.{header_size}
use Rattle.h5_model.specs.Format.Superblock.{leaf_k, internal_k}
use Rattle.h5_model.specs.Format.Symbols.{Target}
use Rattle.h5_model.specs.Tree.Objects.{Object, Content, Group, Links}
use Rattle.h5_model.proofs.PlainMessages.{messages_from, header_reads, header_counted}
use Rattle.h5_msg.proofs.AddressLaws.{first_back, second_back}
use Rattle.h5_repack.specs.Bodies.Bodies.{others_of}
use Rattle.h5_repack.specs.Bodies.Headers.{group_header}
use Rattle.h5_repack.specs.Bodies.Sound.{IsPlainObject}
use Rattle.h5_repack.proofs.BodyLaws.HeaderOthers.{IsContentMessage, is_other_kind, is_kept_kind, each_message, others_pass, all_plain, has_attributes, has_kept, count_of-content, length-others}

-- a Symbol Table is read back
pub symbol_table_back : (tree heap : ℕ) → tree < 2 ^ 64 → heap < 2 ^ 64 → symbol_table_of (pair_bytes tree heap) ≡ Some (record { tree = tree; heap = heap })
unfolding symbol_table_of
symbol_table_back tree heap tree_low heap_low =
    let first : number_at (pair_bytes tree heap) 0 8 ≡ tree = first_back tree heap 16 (pair_bytes tree heap) tree_low refl in
    let second : number_at (pair_bytes tree heap) 8 8 ≡ heap = second_back tree heap 16 (pair_bytes tree heap) heap_low refl in
    λ i. Some (record { tree = first i; heap = second i })

-- a prefix of 16 bytes, a Symbol Table of 24, and the other messages
pub length-group_header : (tree heap : ℕ) (os : List (ℕ × List ℕ)) → length (group_header tree heap os) ≡ 40 + length (messages_bytes os)
length-group_header tree heap os = omega arith

-- as many as are counted
pub group_header-size : (o : Object) (links : Links) → IsPlainObject o → o.content ≡ Group links → 16 + 24 + length (messages_bytes (others_of o)) ≡ header_size o
group_header-size o links plain e = let counted = length-others o plain in rw e (omega (arith, counted))

-- what a group's header may hold, by its type
in_group : ℕ → Bool
in_group kind = kind == symbol_table_kind || ((kind == nil_kind || kind == continuation_kind) || (kind == attribute_kind || is_kept_kind kind))

other_in_group : (kind : ℕ) → is_other_kind kind ≡ true → in_group kind ≡ true
unfolding in_group
other_in_group kind is = grind (arith, nat_tests)

module _ (image : List ℕ) (table : FinMap nat_cmp ℕ) (at leaf internal tree heap : ℕ) (o : Object) (links : Links) (found : List (List ℕ × Target)) (blocks : List Block)
    (plain : IsPlainObject o) where
  abbrev cs : List (ℕ × List ℕ)
  cs = (symbol_table_kind, pair_bytes tree heap) ∷ []

  abbrev ms : List Message
  ms = messages_from (at + 16) (cs ++ others_of o)

  content : AllByRecursion IsContentMessage cs
  content = (record { plain = record { kind = omega arith; own = refl; padded = refl; low = omega arith }; kind = refl }, tt)

  known : AllByRecursion InGroup ms
  unfolding in_group
  known = each_message in_group (at + 16) (cs ++ others_of o) (refl, others_pass o plain in_group other_in_group)

  module _ (few : 1 + length (others_of o) ≤ most_messages) (low : length (messages_bytes (others_of o)) < most_bytes)
      (there : part at (length (group_header tree heap (others_of o))) image ≡ group_header tree heap (others_of o)) where
    listed : HasMessages image at ms (block at (length (group_header tree heap (others_of o))) ∷ [])
    listed = header_reads image at 1 (cs ++ others_of o) there (all_plain o plain (at + 16) cs content) (omega (arith, few)) (omega (arith, low))

    counted_once : reference_count (prefix_at image at) ≡ 1
    counted_once = header_counted image at 1 (cs ++ others_of o) there (omega arith)

    has_group : tree < 2 ^ 64 → heap < 2 ^ 64 → leaf_k image ≡ leaf → internal_k image ≡ internal → HasLinks image leaf internal tree heap found blocks
        → HasGroup image ms found blocks
    has_group tree_low heap_low leaf_is internal_is linked = record {
      known = known;
      once = count_of-content o plain (at + 16) cs content symbol_table_kind refl;
      symbol_table = record { tree = tree; heap = heap };
      chosen = symbol_table_back tree heap tree_low heap_low;
      linked = rw (leaf_is, internal_is) linked;
    }

    reads : o.content ≡ Group links → HasGroup image ms found blocks → AllZip (IsSame table) (entries links) found
        → HasObject image table at o (block at (length (group_header tree heap (others_of o))) ∷ blocks)
    reads e has same = record {
      messages = ms;
      header_blocks = block at (length (group_header tree heap (others_of o))) ∷ [];
      listed = listed;
      content_blocks = blocks;
      content = subst (λ (c : Content). HasContent image table ms c blocks) (sym e) (found, has, same);
      attributes = has_attributes o plain (at + 16) cs content;
      kept = has_kept o plain (at + 16) cs content;
      laid = refl;
    }

-- A group's header is that of the group, and is counted once.
pub group_object : (image : List ℕ) (table : FinMap nat_cmp ℕ) (at leaf internal tree heap : ℕ) (o : Object) (links : Links)
    (found : List (List ℕ × Target)) (blocks : List Block) → IsPlainObject o → o.content ≡ Group links
    → 1 + length (others_of o) ≤ most_messages → length (messages_bytes (others_of o)) < most_bytes → tree < 2 ^ 64 → heap < 2 ^ 64
    → part at (length (group_header tree heap (others_of o))) image ≡ group_header tree heap (others_of o)
    → leaf_k image ≡ leaf → internal_k image ≡ internal → HasLinks image leaf internal tree heap found blocks
    → AllZip (IsSame table) (entries links) found
    → HasObject image table at o (block at (length (group_header tree heap (others_of o))) ∷ blocks) × (reference_count (prefix_at image at) ≡ 1)
group_object image table at leaf internal tree heap o links found blocks plain e few low tree_low heap_low there leaf_is internal_is linked same = (
  reads image table at leaf internal tree heap o links found blocks plain few low there e
      (has_group image table at leaf internal tree heap o links found blocks plain few low there tree_low heap_low leaf_is internal_is linked) same,
  counted_once image table at leaf internal tree heap o links found blocks plain few low there,
)
