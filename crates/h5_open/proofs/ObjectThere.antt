-- An object that was put where it was to stand is there: what is kept of it stands in the image, is the object that was to be made, and
-- takes the block that was taken.
use Rattle.std.proofs.Common.{◌≡◌, ℕ, ◌+◌, ◌-◌, ◌≤◌, List, [], ◌∷◌, length, refl, sym, ap, ◌∙◌, subst, arith, Option, Some, IsTrue, true}
use Rattle.std.specs.Ordering.{nat_cmp}
use Rattle.std.specs.BTreeMap.{BTreeMap}
use Rattle.std.specs.FinMap.{FinMap, empty, get, get-empty, get-from_entries, same_map}
use Rattle.std.specs.Cmp.Lexicographic.{nat_list_cmp_total}
use Rattle.std.specs.List.{AllByRecursion, Contains}
use Rattle.std.proofs.lemmas.List.{length-append}
use Rattle.h5_bytes.specs.Bytes.{part}
use Rattle.h5_bytes.specs.Blocks.{block, cover, holds, Inside, Run}
use Rattle.h5_bytes.specs.declared.Block.{Block}
use Rattle.h5_bytes.proofs.BlockLaws.{all_so, cover-append, cover-run, held, holds_in, holds_join}
use Rattle.h5_model.specs.Format.Addresses.{SymbolTable}
use Rattle.h5_model.specs.Format.Messages.{Message, HasMessages, first_size, prefix_at, reference_count}
use Rattle.h5_model.specs.Format.Reads.{HasAttributes}
use Rattle.h5_model.specs.Format.Symbols.{Target, Header}
use Rattle.h5_model.specs.Tree.Objects.{Content, Group, Links, Object}
use Rattle.h5_model.proofs.KLaws.{same_internal, same_leaf}
use Rattle.h5_space.specs.Space.{Space}
use Rattle.h5_header.specs.Heads.{is_read}
use Rattle.h5_header.specs.Laid.{IsHeaderBytes}
use Rattle.h5_header.specs.Listed.{messages_in}
use Rattle.h5_attr.specs.Attributes.{HasNamesOnce, attributes_of}
use Rattle.h5_laws.proofs.Lists.{in_contains}
use Rattle.h5_layout.specs.Told.{array_told, layout_told, type_told}
use Rattle.h5_laws.proofs.SoundLaws.Counts.{no_links}
use Rattle.h5_laws.proofs.SoundLaws.Inserted.{names_differ}
use Rattle.h5_laws.proofs.SoundLaws.Linked.{IsBare}
use Rattle.h5_open.specs.declared.opened.added.ContentBytes.{ContentBytes}
use Rattle.h5_open.specs.declared.opened.added.ContentBytes.TheVariants as bytes
use Rattle.h5_open.specs.declared.opened.added.ObjectBytes.{ObjectBytes}
use Rattle.h5_open.specs.declared.opened.object.OpenedObject.{OpenedObject}
use Rattle.h5_open.specs.declared.opened.object.OpenedContent.{OpenedContent}
use Rattle.h5_open.specs.declared.opened.object.OpenedContent.TheVariants as content
use Rattle.h5_open.specs.ObjectAdded.{HasExactContent, IsContentMade, IsTidyNew, IsToBeMade, stored_content, content_of, object_bytes, object_place}
use Rattle.h5_open.specs.Opened.Headers.{object_with}
use Rattle.h5_open.specs.Opened.Kept.{IsContentKept, IsContentTidy, IsObjectKept, IsOpened}
use Rattle.h5_open.specs.Opened.Objects.{content_blocks, content_in, content_links, header_of, links_by, object_blocks, object_in, table_of}
use Rattle.h5_open.specs.Opened.Sound.{IsHeaderIn}
use Rattle.h5_open.specs.Opened.State.{opened_state}
use Rattle.h5_open.proofs.GroupWritten.{written_k}
use Rattle.h5_open.proofs.ObjectBlock.{block_inside, bytes_there, header_there, place_is_new, put_block, put_written}
use Rattle.h5_open.proofs.ObjectPut.{IsObjectPut}
use Rattle.h5_open.proofs.StillTold.{types_said}
use Rattle.h5_open.proofs.TrimmedKept.{trimmed_new}

-- ---- an object without links

no_names : (table : FinMap nat_cmp ℕ) → links_by table [] ≡ empty
no_names table = same_map nat_list_cmp_total names_differ (links_by table []) empty (λ q. get-from_entries nat_list_cmp_total [] q ∙ sym (get-empty _ q))

bare_as : (o : Object) (c : Content) → o.content ≡ c → IsBare (record { content = c; attributes = o.attributes; kept = o.kept }) → IsBare o
bare_as o c is bare = subst (λ (d : Content). IsBare (record { content = d; attributes = o.attributes; kept = o.kept })) (sym is) bare

bare_by : (image : List ℕ) (ms : List Message) (c : OpenedContent) (o : Object) → content_links image c ≡ [] → ((table : FinMap nat_cmp ℕ) → content_in image table ms c ≡ o.content) → IsBare o
bare_by image ms (content.Group t) o none told =
    bare_as o (Group empty)
    (sym (told (table_of [])) ∙ ap (λ (ls : List (List ℕ × Target)). Group (links_by (table_of []) ls)) none ∙ ap (λ (ls : Links). Group ls) (no_names (table_of [])))
    (record { links = λ name. get-empty _ name; none = no_links })
bare_by image ms content.Array o none told =
    bare_as o (content_in image (table_of []) ms content.Array) (sym (told (table_of []))) (record { links = λ name. refl; none = λ n. refl })

module _ (old taken linked new : Space) (slots : List (Option OpenedObject)) (numbers : BTreeMap ℕ ℕ) (opened : IsOpened old slots numbers) (parent : ℕ) (p o : OpenedObject)
    (t : SymbolTable) (name : List ℕ) (at : ℕ) (b : ObjectBytes) (is : IsObjectPut old taken linked new slots parent p o t name at b) (object : Object)
    (to_be : IsToBeMade (opened_state old slots) b object) (place : at ≡ object_place (opened_state old slots) b) where
  abbrev ms : List Message
  ms = to_be.messages

  -- its header, and all its bytes
  abbrev head : ℕ
  head = length b.header.now

  abbrev long : ℕ
  long = length (object_bytes b)

  long_is : long ≡ head + length (stored_content b.content)
  long_is = length-append b.header.now (stored_content b.content)

  header : IsHeaderBytes b.header.now at ms
  header = subst (λ (k : ℕ). IsHeaderBytes b.header.now k ms) (sym place) to_be.header

  front : part at head new.bytes ≡ b.header.now
  front = header_there old taken linked new slots numbers opened parent p o t name at b is

  has : HasMessages new.bytes at ms (block at head ∷ [])
  has = header new.bytes front

  messages_are : messages_in new.bytes o.messages.list ≡ ms
  messages_are = is.kept.messages ms header new.bytes front

  content_made : IsContentMade new.bytes ms (content_of b.content) (at + head) (at + long) object.content
  content_made =
      let written = put_written old taken linked new slots numbers opened parent p o t name at b is in
      let k = written_k old linked new slots numbers opened parent p t (put_block at b) [] written in
      subst (λ (k : ℕ). IsContentMade new.bytes ms (content_of b.content) (k + head) (k + long) object.content) (sym place)
      (to_be.content new.bytes (same_leaf new.bytes old.bytes k) (same_internal new.bytes old.bytes k)
      (subst (λ (k : ℕ). part k long new.bytes ≡ object_bytes b) place (bytes_there old taken linked new slots numbers opened parent p o t name at b is)))

  -- ---- where it stands

  inside : at + head ≤ length new.bytes
  inside = omega (arith, long_is, block_inside old taken linked new slots numbers opened parent p o t name at b is)

  some : 1 ≤ long
  some =
      let laid = ap (cover at) has.laid in
      let first : ℕ = 16 + first_size (prefix_at new.bytes at) in
      let here : holds at at first ≡ 1 = holds_in at at first (omega arith) (omega arith) in
      let its = held at at head (omega (arith, laid, here)) in
      omega (arith, its.1, long_is)

  -- no object of the image had its header there
  pub its_place_new : (n : ℕ) → get (table_of slots) n ≡ Some (header_of o) → ⊥
  its_place_new n got = place_is_new old taken linked new slots numbers opened parent p o t name at b is some n (got ∙ ap (λ (h : ℕ). Some h) is.kept.header)

  -- ---- what is kept of it

  made_tidy : (c : ContentBytes) → IsTidyNew c → IsContentKept new.bytes ms (content_of c) → HasExactContent new.bytes (content_of c)
      → Run (at + head) (content_blocks new.bytes ms (content_of c)) (at + (head + length (stored_content c))) → IsContentTidy new.bytes ms (content_of c)
  made_tidy (bytes.Group table bs) known kept exact run = exact
  made_tidy (bytes.Cells fixed fill count) known kept exact run =
      let none = ap length known in
      let short : at + (head + length (stored_content (bytes.Cells fixed fill count))) ≡ at + head = omega (arith, none) in
      trimmed_new new.bytes (type_told ms) (array_told ms).sizes (array_told ms).maxima (array_told ms).fill (at + head) (layout_told ms) kept.1
      (subst (Run (at + head) (content_blocks new.bytes ms content.Array)) short run)

  its_tidy : o.tidy ≡ true → IsContentTidy new.bytes (messages_in new.bytes o.messages.list) o.content
  its_tidy known =
      subst (IsContentTidy new.bytes (messages_in new.bytes o.messages.list)) (sym is.kept.content)
      (subst (λ (l : List Message). IsContentTidy new.bytes l (content_of b.content)) (sym messages_are)
      (made_tidy b.content (is.kept.tidy known) content_made.kept content_made.exact
      (subst (λ (n : ℕ). Run (at + head) (content_blocks new.bytes ms (content_of b.content)) (at + n)) long_is content_made.blocks)))

  pub its_kept : IsObjectKept new.bytes o
  its_kept = record {
    header = record {
      has = subst (λ (bs : List Block). HasMessages new.bytes (header_of o) (messages_in new.bytes o.messages.list) bs) (sym is.kept.blocks)
          (subst (λ (h : ℕ). HasMessages new.bytes h (messages_in new.bytes o.messages.list) (block at head ∷ [])) (sym is.kept.header)
          (subst (λ (l : List Message). HasMessages new.bytes at l (block at head ∷ [])) (sym messages_are) has));
      inside = subst (Inside (length new.bytes)) (sym is.kept.blocks) (inside, tt);
      within = all_so (λ m. m.at + m.size ≤ at + head) (λ m. m.at + m.size ≤ length new.bytes) o.messages.list (λ m low. omega (arith, low, inside)) is.kept.within;
      names = subst HasNamesOnce (sym messages_are) to_be.names;
      attributes = subst (λ (l : List Message). HasAttributes l (attributes_of l)) (sym messages_are) to_be.attributes;
    };
    known = types_said is_read new.bytes o.messages.list (subst (AllByRecursion (λ (m : Message). IsTrue (is_read m.kind))) (sym messages_are) to_be.known);
    content = subst (IsContentKept new.bytes (messages_in new.bytes o.messages.list)) (sym is.kept.content)
        (subst (λ (l : List Message). IsContentKept new.bytes l (content_of b.content)) (sym messages_are) content_made.kept);
    tidy = its_tidy;
  }

  -- it is the object that was to be made, by any table
  pub its_object : (table : FinMap nat_cmp ℕ) → object_in new.bytes table o ≡ object
  its_object table =
      ap (λ (l : List Message). object_with (content_in new.bytes table l o.content) l) messages_are
      ∙ ap (λ (c : OpenedContent). object_with (content_in new.bytes table ms c) ms) is.kept.content
      ∙ ap (λ (c : Content). object_with c ms) (content_made.told table)
      ∙ sym to_be.told

  -- no link leads from it
  pub its_bare : IsBare object
  its_bare = bare_by new.bytes ms (content_of b.content) object content_made.none content_made.told

  pub its_led : (table : FinMap nat_cmp ℕ) (x : List ℕ) (h : ℕ) → Contains (content_links new.bytes o.content) (x, Header h) → IsHeaderIn table h
  its_led table x h there =
      absurd (in_contains (x, Header h) []
      (subst (λ (ls : List (List ℕ × Target)). Contains ls (x, Header h)) (ap (content_links new.bytes) is.kept.content ∙ content_made.none) there))

  -- its header counts one link
  pub its_count : reference_count (prefix_at new.bytes (header_of o)) ≡ 1
  its_count =
      ap (λ (h : ℕ). reference_count (prefix_at new.bytes h)) (is.kept.header ∙ place)
      ∙ to_be.counted new.bytes (subst (λ (k : ℕ). part k head new.bytes ≡ b.header.now) place front)

  -- its blocks are the one that was taken
  pub its_blocks : (q : ℕ) → cover q (object_blocks new.bytes o) ≡ holds q at long
  its_blocks q =
      let own = ap (cover q) is.kept.blocks in
      let rest : content_blocks new.bytes (messages_in new.bytes o.messages.list) o.content ≡ content_blocks new.bytes ms (content_of b.content)
      = ap (λ (l : List Message). content_blocks new.bytes l o.content) messages_are ∙ ap (content_blocks new.bytes ms) is.kept.content in
      let same = ap (cover q) rest in
      let run = cover-run q (at + head) (at + long) (content_blocks new.bytes ms (content_of b.content)) content_made.blocks in
      let size : (at + long) - (at + head) ≡ length (stored_content b.content) = omega (arith, long_is) in
      let tail : cover q (content_blocks new.bytes ms (content_of b.content)) ≡ holds q (at + head) (length (stored_content b.content)) = rw size at run in
      let whole : holds q at long ≡ holds q at head + holds q (at + head) (length (stored_content b.content)) = rw long_is (holds_join q at head (length (stored_content b.content))) in
      omega (arith, own, same, tail, whole, cover-append q o.messages.blocks (content_blocks new.bytes (messages_in new.bytes o.messages.list) o.content))
