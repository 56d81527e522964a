-- The tree that an image reads as is sound.
use Rattle.std.proofs.Common.{◌≡◌, ℕ, ◌+◌, ◌≤◌, Bool, true, false, List, [], ◌∷◌, map, refl, sym, ap, ◌∙◌, subst, Option, Some, None, inl, inr}
use Rattle.std.specs.Prelude.{drop, IsSome, is_some, IsTrue, ◌==◌, if◌then◌else◌}
use Rattle.std.specs.Ordering.{nat_cmp}
use Rattle.std.specs.FinMap.{FinMap, get, entries, get-entries}
use Rattle.h5_bytes.specs.Texts.{text_at, until_zero}
use Rattle.h5_bytes.specs.declared.Block.{Block}
use Rattle.h5_model.specs.Format.Limits.{most_hard_links}
use Rattle.h5_model.specs.Format.Messages.{Message}
use Rattle.h5_model.specs.Tree.Paths.{is_name}
use Rattle.h5_model.specs.Format.Reads.{Placed, IsPlaced, HasObject, HasGroup, IsSame, IsCounted, IsGroup, ReadsAs}
use Rattle.h5_model.specs.Edits.Refusal.{has_zero}
use Rattle.h5_model.specs.Format.Symbols.{Entry, Target, Header, Text, link_of, target_of}
use Rattle.h5_model.specs.Tree.Objects.{Tree, Object, Content, Group, Array, Links, Link, ToObject, Soft, links_of, link_in, hard_links}
use Rattle.h5_laws.proofs.Lists.{In, in_all, from_map}
use Rattle.h5_laws.proofs.Maps.{found_entry, entry_of_get, tied_right}
use Rattle.h5_laws.proofs.Objects.{content_cases, object_at, in_tree}
use Rattle.h5_laws.specs.Trees.Laws.{ReadsSound}
use Rattle.h5_laws.specs.Trees.Sound.{IsSoundTree}
use Rattle.h5_laws.proofs.SoundLaws.Inserted.{names_differ}
use Rattle.h5_laws.proofs.SoundLaws.LinksThere.{some_group, link_at}

-- ---- what a name looks up is the value of an entry

name_entry : (links : Links) (name : List ℕ) (link : Link) → get links name ≡ Some link → In (name, link) (entries links)
name_entry links name link is = found_entry names_differ (entries links) name link (sym (get-entries links name) ∙ is)

-- ---- texts

pub until_no_zero : (bytes : List ℕ) → has_zero (until_zero bytes) ≡ false
until_no_zero [] = refl
until_no_zero (b ∷ bytes) = elim (b == 0) as (λ t. (b == 0) ≡ t → has_zero (if t then [] else b ∷ until_zero bytes) ≡ false) [
  | true ↦ λ is. refl
  | false ↦ λ is. rw is (until_no_zero bytes)
] refl

text_no_zero : (bytes : List ℕ) (at : ℕ) → has_zero (text_at bytes at) ≡ false
unfolding text_at
text_no_zero bytes at = until_no_zero (drop at bytes)

text_of : (segment text : List ℕ) (e : Entry) → target_of segment e ≡ Text text → has_zero text ≡ false
text_of segment text e is = go (e.cache == 2) is where
  go : (b : Bool) → (if b then Text (text_at segment e.text) else Header e.header) ≡ Text text → has_zero text ≡ false
  go true here = let same : text_at segment e.text ≡ text = cc in ap has_zero (sym same) ∙ text_no_zero segment e.text
  go false here = absurd (let never : Header e.header ≡ Text text = here in cc)

-- ---- links of the tree, and of the file

same_name : (table : FinMap nat_cmp ℕ) (name : List ℕ) (link : Link) (y : List ℕ × Target) → IsSame table (name, link) y → name ≡ y.0
same_name table name (ToObject n) (other, Header h) same = same.0
same_name table name (ToObject n) (other, Text t) same = absurd same
same_name table name (Soft text) (other, Header h) same = absurd same
same_name table name (Soft text) (other, Text t) same = same.0

same_header : (table : FinMap nat_cmp ℕ) (name : List ℕ) (n : ℕ) (y : List ℕ × Target) → IsSame table (name, ToObject n) y → (h : ℕ) × (get table n ≡ Some h)
same_header table name n (other, Header h) same = (h, same.1)
same_header table name n (other, Text t) same = absurd same

same_text : (table : FinMap nat_cmp ℕ) (name text : List ℕ) (y : List ℕ × Target) → IsSame table (name, Soft text) y → y.1 ≡ Text text
same_text table name text (other, Header h) same = absurd same
same_text table name text (other, Text t) same = ap (λ (x : List ℕ). Text x) (sym same.1)

-- a link of the tree, and the one of the file that it is
record IsListed (image : List ℕ) (table : FinMap nat_cmp ℕ) (name : List ℕ) (link : Link) : Type 0 where
  messages : List Message
  found : List (List ℕ × Target)
  blocks : List Block
  group : HasGroup image messages found blocks
  target : List ℕ × Target
  member : In target found
  same : IsSame table (name, link) target

module _ (image : List ℕ) (table : FinMap nat_cmp ℕ) (tree : Tree) (placed : List Placed) (reads : ReadsAs image table tree placed) where
  -- an object of the tree is placed
  pub placed_at : (n : ℕ) (o : Object) → get tree n ≡ Some o → (x : Placed) × In x placed × (x.number ≡ n) × (x.object ≡ o)
  placed_at n o stands =
      let there : In (n, o) (map (λ (x : Placed). (x.number, x.object)) placed) = subst (In (n, o)) reads.holds.objects (entry_of_get tree n o stands) in
      let by = from_map (λ (x : Placed). (x.number, x.object)) (n, o) placed there in
      (by.0, by.1, ap (λ (p : ℕ × Object). p.0) by.2, ap (λ (p : ℕ × Object). p.1) by.2)

  listed : (n : ℕ) (name : List ℕ) (link : Link) → link_in tree n name ≡ Some link → IsListed image table name link
  listed n name link is =
      let l = link_at tree n name link is in
      let by = placed_at n l.group.object l.group.stands in
      let x = by.0 in
      let has : HasObject image table x.header x.object x.blocks = in_all (IsPlaced image table) x placed reads.holds.each by.1 in
      let content : x.object.content ≡ Group l.group.links = ap (λ (o : Object). o.content) by.3 ∙ l.group.is in
      elim (content_cases image table has.messages x.object.content has.content_blocks has.content) [
        | inl (links, e, found, group, zip) ↦
            let same : links ≡ l.group.links = let both : Group links ≡ Group l.group.links = sym e ∙ content in cc in
            let entry : In (name, link) (entries links) = name_entry links name link (ap (λ (ls : Links). get ls name) same ∙ l.is) in
            let tied = tied_right (IsSame table) (entries links) found (name, link) zip entry in
            record { messages = has.messages; found = found; blocks = has.content_blocks; group = group; target = tied.0; member = tied.1; same = tied.2 }
        | inr (d, e, array) ↦ absurd (let never : Array d ≡ Group l.group.links = sym e ∙ content in cc)
      ]

  named : (n : ℕ) (name : List ℕ) → IsSome (link_in tree n name) → is_name name ≡ true
  named n name some = go (link_in tree n name) refl some where
    go : (o : Option Link) → link_in tree n name ≡ o → IsSome o → is_name name ≡ true
    go None is none = let never : false ≡ true = none in absurd (cc)
    go (Some link) is there =
        let l = listed n name link is in
        let good : IsTrue (is_name l.target.0) = in_all (λ (y : List ℕ × Target). IsTrue (is_name y.0)) l.target l.found l.group.linked.listed.named l.member in
        ap is_name (same_name table name link l.target l.same) ∙ good

  linked : (n other : ℕ) (name : List ℕ) → link_in tree n name ≡ Some (ToObject other) → IsSome (get tree other)
  linked n other name is =
      let l = listed n name (ToObject other) is in
      let header = same_header table name other l.target l.same in
      let o = object_at image table tree placed reads.holds other header.0 header.1 in
      let stands = in_tree image table tree placed reads.holds o.0 o.1 in
      subst (λ (k : ℕ). IsSome (get tree k)) o.2 (ap (λ (x : Option Object). is_some x) stands)

  spelled : (n : ℕ) (name text : List ℕ) → link_in tree n name ≡ Some (Soft text) → has_zero text ≡ false
  spelled n name text is =
      let l = listed n name (Soft text) is in
      let links = l.group.linked.listed in
      let by = from_map (link_of _) l.target _ (subst (In l.target) links.all l.member) in
      text_of _ text by.0 (ap (λ (y : List ℕ × Target). y.1) by.2 ∙ same_text table name text l.target l.same)

  -- ---- counts

  counted : (n : ℕ) (o : Object) → get tree n ≡ Some o → (x : Placed) × IsCounted image tree x × (x.number ≡ n) × (x.object ≡ o)
  counted n o stands = let by = placed_at n o stands in (by.0, in_all (IsCounted image tree) by.0 placed reads.counted by.1, by.2, by.3)

  is_group : (c : Content) (links : Links) → c ≡ Group links → IsGroup c
  is_group (Group ls) links is = tt
  is_group (Array d) links is = absurd (let never : Array d ≡ Group links = is in cc)

  once : (n : ℕ) → IsSome (links_of tree n) → hard_links tree n + (if n == 0 then 1 else 0) ≡ 1
  once n some =
      let g = some_group tree n some in
      let by = counted n g.object g.stands in
      let x = by.0 in
      let group = is_group x.object.content g.links (ap (λ (o : Object). o.content) by.3 ∙ g.is) in
      subst (λ (k : ℕ). hard_links tree k + (if k == 0 then 1 else 0) ≡ 1) by.2 (sym (by.1).counted ∙ (by.1).once group)

  few : (n : ℕ) → IsSome (get tree n) → hard_links tree n ≤ most_hard_links
  few n some = go (get tree n) refl some where
    go : (o : Option Object) → get tree n ≡ o → IsSome o → hard_links tree n ≤ most_hard_links
    go None is none = let never : false ≡ true = none in absurd (cc)
    go (Some o) is there = let by = counted n o is in subst (λ (k : ℕ). hard_links tree k ≤ most_hard_links) by.2 (by.1).limit

  pub sound_reading : IsSoundTree tree
  sound_reading = record {
    rooted = reads.holds.root_group;
    named = named;
    linked = linked;
    spelled = spelled;
    reached = reads.holds.reached;
    shallow = reads.holds.shallow;
    once = once;
    few = few;
  }

pub reads_sound : ReadsSound
reads_sound image table tree (placed, reads) = sound_reading image table tree placed reads
