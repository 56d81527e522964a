-- An object that was written into a block, the link to it that was put into a group, and the end of file address that was written: the room
-- for them, and what the image is then.
use Rattle.std.proofs.Common.{◌≡◌, ℕ, ◌+◌, ◌≤◌, List, [], ◌∷◌, length, refl, ap, ◌∙◌, subst, arith}
use Rattle.h5_bytes.specs.Blocks.{block}
use Rattle.h5_bytes.specs.Bytes.{part}
use Rattle.h5_model.specs.Format.Addresses.{SymbolTable}
use Rattle.h5_model.specs.Format.Limits.{most_bytes}
use Rattle.h5_model.specs.Format.Sizes.{text_span}
use Rattle.h5_model.specs.Format.Superblock.{k_values, end_of_file, end_field}
use Rattle.h5_model.specs.Format.Symbols.{Target, Header}
use Rattle.h5_space.specs.Moves.{Moves, Spends}
use Rattle.h5_space.specs.Space.{Space}
use Rattle.h5_group.specs.Exact.{HasExactKeys}
use Rattle.h5_group.specs.Edited.{IsLinkPut}
use Rattle.h5_group.specs.Heap.Links.{Leads, target_link, target_of_leads}
use Rattle.h5_group.specs.Heap.Written.{texts_span}
use Rattle.h5_group.specs.LinkEdits.{IsGroupApart, IsPlainLead, link_room}
use Rattle.h5_group.specs.Told.{blocks_told, links_told}
use Rattle.h5_open.specs.declared.opened.added.ContentBytes.{ContentBytes}
use Rattle.h5_open.specs.declared.opened.added.ContentBytes.TheVariants as bytes
use Rattle.h5_open.specs.declared.opened.added.ObjectBytes.{ObjectBytes}
use Rattle.h5_open.specs.ObjectAdded.{IsObjectStored, lead_at, object_bytes}
use Rattle.h5_open.proofs.GroupBeside.{room_beside}

-- ---- the link leads to the header, and takes the room of its name

lead_target : (at : ℕ) (c : ContentBytes) → target_of_leads (lead_at at c) ≡ Header at
lead_target at (bytes.Group table bs) = refl
lead_target at (bytes.Cells fixed fill count) = refl

lead_span : (name : List ℕ) (at : ℕ) (c : ContentBytes) → texts_span (name, lead_at at c) ≡ text_span name
lead_span name at (bytes.Group table bs) = refl
lead_span name at (bytes.Cells fixed fill count) = refl

lead_at_plain : (at : ℕ) (c : ContentBytes) → IsPlainLead (lead_at at c)
lead_at_plain at (bytes.Group table bs) = tt
lead_at_plain at (bytes.Cells fixed fill count) = tt

module _ (at : ℕ) (c : ContentBytes) (lead : Leads) (leads : lead ≡ lead_at at c) where
  pub object_target : target_of_leads lead ≡ Header at
  object_target = ap target_of_leads leads ∙ lead_target at c

  pub object_span : (name : List ℕ) → texts_span (name, lead) ≡ text_span name
  object_span name = ap (λ (l : Leads). texts_span (name, l)) leads ∙ lead_span name at c

module _ (old taken : Space) (t : SymbolTable) (group : IsGroupApart old t) (name : List ℕ) (at len : ℕ) (b : ObjectBytes) (lead : Leads) (leads : lead ≡ lead_at at b.content)
    (took : Moves old taken [] (block at len ∷ [])) (spends : Spends old taken len 1) where
  abbrev room : ℕ
  room = link_room old.bytes t (text_span name)

  abbrev now : ℕ
  now = link_room taken.bytes t (texts_span (name, lead))

  room_same : now ≡ room
  room_same = ap (λ (n : ℕ). link_room taken.bytes t n) (object_span at b.content lead leads name) ∙ room_beside old taken (block at len ∷ []) t group took (text_span name)

  -- there is room for the link
  pub room_left : room + len ≤ old.room_bytes → now ≤ taken.room_bytes
  room_left enough = let same : now ≡ room = room_same in let left = spends.bytes_left in omega (arith, same, left, enough)

  pub room_short : length old.bytes + (room + len) ≤ most_bytes → length taken.bytes + now ≤ most_bytes
  room_short short = let same : now ≡ room = room_same in let grown = spends.grown in omega (arith, same, grown, short)

  module _ (linked : Space) (spent : Spends taken linked now 20) where
    pub linked_grown : length linked.bytes ≤ length old.bytes + (room + len)
    linked_grown = let same : now ≡ room = room_same in let grown = spends.grown in let more = spent.grown in omega (arith, same, grown, more)

    module _ (new : Space) (size : len ≡ length (object_bytes b)) (there : part at len taken.bytes ≡ object_bytes b) (inside : at + len ≤ length taken.bytes)
        (put : IsLinkPut (target_link (name, lead)) (links_told taken.bytes t) (links_told linked.bytes t)) (apart : IsGroupApart linked t)
        (moves : Moves taken linked (blocks_told taken.bytes t) (blocks_told linked.bytes t)) (k : k_values linked.bytes ≡ k_values taken.bytes)
        (exact : HasExactKeys taken.bytes t → HasExactKeys linked.bytes t) (later : Moves linked new (end_field linked.bytes ∷ []) (end_field new.bytes ∷ []))
        (end : end_of_file new.bytes ≡ length new.bytes) (long : length new.bytes ≡ length linked.bytes) (short : length old.bytes + (room + len) ≤ most_bytes) where
      pub object_stored : IsObjectStored old taken linked new t name at b
      object_stored = record {
        took = subst (λ (n : ℕ). Moves old taken [] (block at n ∷ [])) size took;
        there = subst (λ (n : ℕ). part at n taken.bytes ≡ object_bytes b) size there;
        inside = omega (arith, size, inside);
        put = subst (λ (target : Target). IsLinkPut (name, target) (links_told taken.bytes t) (links_told linked.bytes t)) (object_target at b.content lead leads) put;
        apart = apart;
        exact = exact;
        moves = moves;
        k = k;
        later = later;
        end = end;
        small = let grown = linked_grown in omega (arith, long, grown, short);
      }
