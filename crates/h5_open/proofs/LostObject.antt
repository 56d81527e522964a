-- The links that are lost with an object of an opened image, as the tree counts them.
use Rattle.std.proofs.Common.{◌≡◌, ℕ, ◌+◌, ◌<◌, ◌≤◌, ◌==◌, Bool, cond, inl, List, [], ◌∷◌, ◌++◌, map, append_assoc, append-nil, refl, sym, ap, ◌∙◌, subst, arith, Option, Some, None, IsSome}
use Rattle.std.specs.Prelude.{MatchOption, if◌then◌else◌, slice_get}
use Rattle.std.proofs.lemmas.List.Sums.{sum_by-append, sum_by-cons, sum_by_push}
use Rattle.std.specs.BTreeMap.{BTreeMap, get as lookup}
use Rattle.std.specs.FinMap.{FinMap, get}
use Rattle.std.specs.List.{count_by}
use Rattle.std.specs.Option.{option_map_or}
use Rattle.std.specs.Ordering.{nat_cmp}
use Rattle.h5_laws.specs.Trees.Unlinked.{links_from}
use Rattle.h5_laws.proofs.Lists.{In, in_right}
use Rattle.h5_model.specs.Format.Limits.{most_hard_links}
use Rattle.h5_model.specs.Format.Messages.{Message}
use Rattle.h5_model.specs.Format.Symbols.{Target, Header, Text}
use Rattle.h5_model.specs.Tree.Objects.{Link, Object, Tree, leads_to, links_to}
use Rattle.h5_space.specs.Space.{Space}
use Rattle.h5_header.specs.Listed.{messages_in}
use Rattle.h5_open.specs.declared.opened.losses.LostLinks.{LostLinks}
use Rattle.h5_open.specs.declared.opened.object.OpenedObject.{OpenedObject}
use Rattle.h5_open.specs.declared.opened.object.OpenedContent.{OpenedContent}
use Rattle.h5_open.specs.declared.opened.object.OpenedContent.TheVariants as content
use Rattle.h5_open.specs.LostLinks.{AreMoreLost, links_lost}
use Rattle.h5_open.specs.Opened.Kept.{IsContentKept, IsOpened}
use Rattle.h5_open.specs.Opened.Objects.{content_in, content_links, link_to, table_of, tree_of}
use Rattle.h5_open.specs.Opened.Sound.{IsHeaderIn, IsObjectOf}
use Rattle.h5_open.specs.Opened.State.{opened_state}
use Rattle.h5_open.proofs.LostLaws.{at_itself, more_is, more_then}
use Rattle.h5_open.proofs.OpenedLaws.Entries.{group_entries}
use Rattle.h5_open.proofs.OpenedLaws.HeaderNumbers.{number_is}
use Rattle.h5_open.proofs.OpenedLaws.LinkedHeaders.{linked_header}
use Rattle.h5_open.proofs.OpenedLaws.Sounds.{object_of, sound}

-- the link of the file leads to this object
abbrev leads_by : FinMap nat_cmp ℕ → ℕ → List ℕ × Target → Bool
leads_by table n l = leads_to n (link_to table l.1)

-- how many of them do
abbrev pub found_links_to : FinMap nat_cmp ℕ → List (List ℕ × Target) → ℕ → ℕ
found_links_to table found n = count_by (leads_by table n) found

pub led_more : (table : FinMap nat_cmp ℕ) (before : List (List ℕ × Target)) (l : List ℕ × Target) (n : ℕ)
    → found_links_to table (before ++ l ∷ []) n ≡ found_links_to table before n + (if leads_by table n l then 1 else 0)
led_more table before l n = sum_by_push (λ (x : List ℕ × Target). cond (leads_by table n x) 1 0) before l

counted_named : (table : FinMap nat_cmp ℕ) (n : ℕ) (found : List (List ℕ × Target))
    → count_by (leads_to n) (map (λ (e : List ℕ × Link). e.1) (map (λ (l : List ℕ × Target). (l.0, link_to table l.1)) found)) ≡ found_links_to table found n
counted_named table n [] = refl
counted_named table n (l ∷ found) =
    let rest = counted_named table n found in
    let one = sum_by-cons (λ (x : List ℕ × Target). cond (leads_by table n x) 1 0) l found in
    let other = sum_by-cons (λ (x : Link). cond (leads_to n x) 1 0) (link_to table l.1) (map (λ (e : List ℕ × Link). e.1) (map (λ (l : List ℕ × Target). (l.0, link_to table l.1)) found)) in
    omega (arith, rest, one, other)

-- the links of an object, in the file and in the tree
content_counted : (image : List ℕ) (table : FinMap nat_cmp ℕ) (ms : List Message) (c : OpenedContent) → IsContentKept image ms c
    → (n : ℕ) → links_to n (content_in image table ms c) ≡ found_links_to table (content_links image c) n
content_counted image table ms (content.Group t) kept n =
    ap (λ (es : List (List ℕ × Link)). count_by (leads_to n) (map (λ (e : List ℕ × Link). e.1) es)) (group_entries image table t kept.2)
    ∙ counted_named table n (content_links image (content.Group t))
content_counted image table ms content.Array kept n = refl

module _ (image : Space) (slots : List (Option OpenedObject)) (numbers : BTreeMap ℕ ℕ) (opened : IsOpened image slots numbers) where
  abbrev table : FinMap nat_cmp ℕ
  table = table_of slots

  abbrev tree : Tree
  tree = tree_of image.bytes slots

  -- the number that is looked up is the one to which the link leads
  found_leads : (header number : ℕ) → lookup nat_cmp numbers header ≡ Some number → (n : ℕ) → leads_to n (link_to table (Header header)) ≡ (n == number)
  found_leads header number found n =
      let there : get table number ≡ Some header = subst (λ (o : Option ℕ). MatchOption o ((k : ℕ) → get table k ≡ Some header → ⊥) (λ k. get table k ≡ Some header)) found (opened.index header) in
      ap (λ (k : ℕ). n == k) (number_is table opened.reads.1.holds.own number header there)

  module _ (number : ℕ) (p : OpenedObject) (at : slice_get slots number ≡ Some (Some p)) where
    abbrev of : IsObjectOf (opened_state image slots) number p
    of = object_of image slots numbers opened number p at

    -- the links that are lost with it
    pub object_loses : (n : ℕ) → links_from tree (number ∷ []) n ≡ found_links_to table (content_links image.bytes p.content) n
    object_loses n =
        let from_one : ℕ → ℕ = λ k. option_map_or (λ (o : Object). links_to n o.content) (get tree k) 0 in
        let one = sum_by-cons from_one number [] in
        let stands = ap (λ (found : Option Object). option_map_or (λ (o : Object). links_to n o.content) found 0) of.there in
        omega (arith, one, stands, content_counted image.bytes table (messages_in image.bytes p.messages.list) p.content of.kept.content n)

    -- a header that one of its links names is known
    pub link_known : (name : List ℕ) (header : ℕ) → In (name, Header header) (content_links image.bytes p.content) → IsSome (lookup nat_cmp numbers header)
    link_known name header there = go p.content refl there where
      known : IsHeaderIn table header → (o : Option ℕ) → MatchOption o ((k : ℕ) → get table k ≡ Some header → ⊥) (λ k. get table k ≡ Some header) → IsSome o
      known has None none = absurd (none has.0 has.1)
      known has (Some k) is = refl

      go : (c : OpenedContent) → p.content ≡ c → In (name, Header header) (content_links image.bytes c) → IsSome (lookup nat_cmp numbers header)
      go (content.Group t) kind there =
          known (linked_header (opened_state image slots) (sound image slots numbers opened) number p of t kind name header there)
          (lookup nat_cmp numbers header) (opened.index header)
      go content.Array kind there = absurd there

    -- ---- its links, one by one

    -- these are the first of its links, this one is the next, and the others are left
    module _ (first left : List (List ℕ × Target)) (here : List ℕ × Target) (are : content_links image.bytes p.content ≡ first ++ here ∷ left) where
      next_far : (n : ℕ) → found_links_to table (first ++ here ∷ []) n ≡ found_links_to table first n + (if leads_to n (link_to table here.1) then 1 else 0)
      next_far n = led_more table first here n

      all_far : (n : ℕ) → found_links_to table (first ++ here ∷ []) n ≤ links_from tree (number ∷ []) n
      all_far n =
          let both = are ∙ sym (append_assoc first (here ∷ []) left) in
          let whole = ap (λ (ls : List (List ℕ × Target)). found_links_to table ls n) both in
          let parts = sum_by-append (λ (x : List ℕ × Target). cond (leads_by table n x) 1 0) (first ++ here ∷ []) left in
          omega (arith, whole, parts, object_loses n)

      module _ (header : ℕ) (leads : here.1 ≡ Header header) where
        pub target_known : IsSome (lookup nat_cmp numbers header)
        target_known =
            link_known here.0 header
            (subst (λ (t : Target). In (here.0, t) (content_links image.bytes p.content)) leads
            (subst (In here) (sym are) (in_right here first (here ∷ left) (inl refl))))

        module _ (target : ℕ) (found : lookup nat_cmp numbers header ≡ Some target) where
          target_far : (n : ℕ) → found_links_to table (first ++ here ∷ []) n ≡ found_links_to table first n + (if n == target then 1 else 0)
          target_far n =
              next_far n ∙ ap (λ (t : Target). found_links_to table first n + (if leads_to n (link_to table t) then 1 else 0)) leads
              ∙ ap (λ (b : Bool). found_links_to table first n + (if b then 1 else 0)) (found_leads header target found n)

          pub target_few : (old lost : LostLinks) → AreMoreLost old lost (found_links_to table first) → ((n : ℕ) → links_lost old.counts n + links_from tree (number ∷ []) n ≤ most_hard_links)
              → links_lost lost.counts target < most_hard_links
          target_few old lost is few =
              let one = at_itself target in
              omega (arith, is.counts target, few target, all_far target, target_far target, one)

          pub target_lost : (old lost new : LostLinks) → AreMoreLost old lost (found_links_to table first) → AreMoreLost lost new (λ n. if n == target then 1 else 0)
              → AreMoreLost old new (found_links_to table (first ++ here ∷ []))
          target_lost old lost new is more =
              more_is old new (λ n. found_links_to table first n + (if n == target then 1 else 0)) (found_links_to table (first ++ here ∷ [])) (λ n. sym (target_far n))
              (more_then old lost new (found_links_to table first) (λ n. if n == target then 1 else 0) is more)

      -- a text leads to no object
      pub text_passed : ((header : ℕ) → here.1 ≡ Header header → ⊥) → (old lost : LostLinks) → AreMoreLost old lost (found_links_to table first)
          → AreMoreLost old lost (found_links_to table (first ++ here ∷ []))
      text_passed soft old lost is = more_is old lost (found_links_to table first) (found_links_to table (first ++ here ∷ [])) (λ n. let none = go here.1 refl n in omega (arith, next_far n, none)) is where
        go : (t : Target) → here.1 ≡ t → (n : ℕ) → ◌≡◌ {A = ℕ} (if leads_to n (link_to table t) then 1 else 0) 0
        go (Header header) leads n = absurd (soft header leads)
        go (Text text) leads n = refl

    pub all_lost : (first : List (List ℕ × Target)) → content_links image.bytes p.content ≡ first ++ [] → (old lost : LostLinks) → AreMoreLost old lost (found_links_to table first)
        → AreMoreLost old lost (links_from tree (number ∷ []))
    all_lost first are old lost is =
        more_is old lost (found_links_to table first) (links_from tree (number ∷ []))
        (λ n. ap (λ (ls : List (List ℕ × Target)). found_links_to table ls n) (sym (are ∙ append-nil first)) ∙ sym (object_loses n)) is
