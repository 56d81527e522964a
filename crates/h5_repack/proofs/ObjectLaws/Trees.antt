-- The tree that objects make: its objects by their numbers, its links, and where these lead.
use Rattle.std.proofs.Common.{◌≡◌, ℕ, zero, suc, ◌+◌, ◌<◌, ◌≤◌, inl, inr, List, [], ◌∷◌, true, false, cond, refl, sym, ap, ◌∙◌, subst, arith, map, reverse, Some, None, Option, Less}
use Rattle.std.proofs.lemmas.List.Sums.{sum_by-cons}
use Rattle.std.proofs.lemmas.Bool.Decides.{nat_tests}
use Rattle.std.proofs.lemmas.Option.{same_Some}
use Rattle.std.specs.Prelude.{T, slice_get, ◌==◌, is_some, IsSome}
use Rattle.std.specs.Cmp.{nat_cmp_is, nat_cmp_total, unsigned_tied}
use Rattle.std.specs.Cmp.Lexicographic.{slice_cmp, nat_list_cmp_total}
use Rattle.std.specs.FinMap.{get, entries, find, is_sorted, values, get-entries, entries_sorted, nat_cmp-IsAntisymmetric}
use Rattle.std.specs.FinMap.Entries.{below_all, same_entries}
use Rattle.std.specs.List.{AllZip, sum_by, count_by, cons_option, filter_map}
use Rattle.std.specs.Option.{option_and_then, option_flatten}
use Rattle.std.specs.Ordering.{nat_cmp, eq_by_cmp}
use Rattle.h5_model.specs.Format.Limits.{most_hard_links}
use Rattle.h5_model.proofs.ReachLaws.{Entry, find_entry}
use Rattle.h5_model.specs.Tree.Objects.{Tree, Object, Content, Group, Array, Link, ToObject, links_in, link_in, leads_to, links_to, hard_links}
use Rattle.h5_laws.specs.Trees.Sound.{IsSoundTree}
use Rattle.h5_repack.specs.declared.objects.object.NewContent.{NewContent}
use Rattle.h5_repack.specs.declared.objects.object.NewContent.TheVariants as content
use Rattle.h5_repack.specs.declared.objects.object.NewObject.{NewObject}
use Rattle.h5_model.specs.declared.object_no.ObjectNo.{ObjectNo}
use Rattle.h5_model.specs.declared.link.Link.{Link as LinkOf}
use Rattle.h5_model.specs.declared.link.LinkTo.{LinkTo}
use Rattle.h5_model.specs.declared.link.LinkTo.TheVariants as target
use Rattle.h5_model.specs.Tree.Links.{tree_link, tree_target}
use Rattle.h5_repack.specs.Objects.Objects.{IsFilled, IsNewContent, IsNewObject, AreObjects, SlotsHold}
use Rattle.h5_repack.specs.Objects.Targets.{new_links, object_in, slot_links, targets, waiting_objects, times}
use Rattle.h5_laws.proofs.Lists.{In}
use Rattle.h5_laws.proofs.Maps.{value_of}
use Rattle.h5_laws.proofs.Numbered.{joined, less_holds}
use Rattle.h5_repack.proofs.ObjectLaws.Zips.{filled_at, flat_some, held_some, slots_left, slots_right}
use Rattle.h5_repack.proofs.ObjectLaws.Members.{in_reverse, from_reverse, in_given, in_rest, in_filter_map, from_filter_map}

-- ---- entries by number

-- what slots have with their numbers, from n on
slot_entries : {X : Type 0} → ℕ → List (Option X) → List (ℕ × X)
slot_entries n [] = []
slot_entries n (None ∷ slots) = slot_entries (n + 1) slots
slot_entries n (Some x ∷ slots) = (n, x) ∷ slot_entries (n + 1) slots

below_slots : {X : Type 0} (m n : ℕ) (slots : List (Option X)) → m < n → T (below_all nat_cmp m (slot_entries n slots))
unfolding slot_entries
below_slots m n [] low = tt
below_slots m n (None ∷ slots) low = below_slots m (n + 1) slots (omega (arith, low))
below_slots m n (Some x ∷ slots) low = joined _ _ (less_holds (nat_cmp m n) (sym (nat_cmp_is m n Less low))) (below_slots m (n + 1) slots (omega (arith, low)))

sorted_slots : {X : Type 0} (n : ℕ) (slots : List (Option X)) → T (is_sorted nat_cmp (slot_entries n slots))
unfolding slot_entries
sorted_slots n [] = tt
sorted_slots n (None ∷ slots) = sorted_slots (n + 1) slots
sorted_slots n (Some x ∷ slots) = joined _ _ (below_slots n (n + 1) slots (omega arith)) (sorted_slots (n + 1) slots)

none_before : {X : Type 0} (m n : ℕ) (slots : List (Option X)) → m < n → find nat_cmp m (slot_entries n slots) ≡ None
unfolding slot_entries
none_before m n [] low = refl
none_before m n (None ∷ slots) low = none_before m (n + 1) slots (omega (arith, low))
none_before m n (Some x ∷ slots) low =
    let other : (m == n) ≡ false = grind (arith, nat_tests, low) in
    ap (λ b. cond b (Some x) (find nat_cmp m (slot_entries (n + 1) slots))) (unsigned_tied m n ∙ other) ∙ none_before m (n + 1) slots (omega (arith, low))

found_slots : {X : Type 0} (m n k : ℕ) (slots : List (Option X)) → n + k ≡ m → find nat_cmp m (slot_entries n slots) ≡ option_flatten (slice_get slots k)
unfolding slot_entries
found_slots m n k [] is = refl
found_slots m n zero (None ∷ slots) is = none_before m (n + 1) slots (omega (arith, is))
found_slots m n zero (Some x ∷ slots) is =
    let same : (m == n) ≡ true = grind (arith, nat_tests, is) in
    ap (λ b. cond b (Some x) (find nat_cmp m (slot_entries (n + 1) slots))) (unsigned_tied m n ∙ same)
found_slots m n (suc k) (None ∷ slots) is = found_slots m (n + 1) k slots (omega (arith, is))
found_slots m n (suc k) (Some x ∷ slots) is =
    let other : (m == n) ≡ false = grind (arith, nat_tests, is) in
    ap (λ b. cond b (Some x) (find nat_cmp m (slot_entries (n + 1) slots))) (unsigned_tied m n ∙ other) ∙ found_slots m (n + 1) k slots (omega (arith, is))

slot_values : {X : Type 0} (n : ℕ) (slots : List (Option X)) → map (λ (e : ℕ × X). e.1) (slot_entries n slots) ≡ filter_map (λ x. x) slots
unfolding slot_entries
slot_values n [] = refl
slot_values n (None ∷ slots) = slot_values (n + 1) slots
slot_values {X = X} n (Some x ∷ slots) = ap (λ (ys : List X). x ∷ ys) (slot_values (n + 1) slots)

-- the entries of the tree are the objects' by their numbers
entries_listed : (objects : List (Option NewObject)) (tree : Tree) (are : AreObjects objects tree) → entries tree ≡ slot_entries 0 are.listed
entries_listed objects tree are =
    same_entries nat_cmp nat_cmp_total nat_cmp-IsAntisymmetric (entries tree) (slot_entries 0 are.listed) (entries_sorted tree) (sorted_slots 0 are.listed)
    (λ q. sym (get-entries tree q) ∙ are.numbered q ∙ sym (found_slots q 0 q are.listed (omega arith)))

pub values_listed : (objects : List (Option NewObject)) (tree : Tree) (are : AreObjects objects tree) → values tree ≡ filter_map (λ o. o) are.listed
values_listed objects tree are =
    ap (λ (es : List (ℕ × Object)). map (λ (e : ℕ × Object). e.1) es) (entries_listed objects tree are) ∙ slot_values 0 are.listed

-- ---- a number has an object exactly where its slot is filled

-- the object that a number's is made from, and the one that is made of it
pub object_from : (objects : List (Option NewObject)) (tree : Tree) → AreObjects objects tree → (number : ℕ) (o : Object) → get tree number ≡ Some o
    → (x : NewObject) × (slice_get objects number ≡ Some (Some x)) × IsNewObject x o
object_from objects tree are number o is =
    slots_left IsNewObject objects are.listed number o are.each (flat_some (slice_get are.listed number) o (sym (are.numbered number) ∙ is))

pub object_made : (objects : List (Option NewObject)) (tree : Tree) → AreObjects objects tree → (number : ℕ) (x : NewObject) → slice_get objects number ≡ Some (Some x)
    → (o : Object) × (get tree number ≡ Some o) × IsNewObject x o
object_made objects tree are number x is =
    let made = slots_right IsNewObject objects are.listed number x are.each is in
    (made.0, are.numbered number ∙ ap option_flatten made.1, made.2)

pub filled_of : (objects : List (Option NewObject)) (tree : Tree) → AreObjects objects tree → (number : ℕ) → IsSome (get tree number) → IsFilled objects number
filled_of objects tree are number some =
    let o = value_of (get tree number) some in
    let x = object_from objects tree are number o.0 o.1 in
    filled_at objects number x.0 x.1

pub some_of : (objects : List (Option NewObject)) (tree : Tree) → AreObjects objects tree → (number : ℕ) → IsFilled objects number → IsSome (get tree number)
some_of objects tree are number filled =
    let x = held_some (slice_get objects number) filled in
    let o = object_made objects tree are number x.0 x.1 in
    ap is_some o.1

-- ---- links

object_of_link : (t : LinkTo ObjectNo) (other : ℕ) → tree_target t ≡ ToObject other → object_in t ≡ Some other
object_of_link (target.Object number) other is = let same : number.0 ≡ other = cc in ap (λ (n : ℕ). Some n) same
object_of_link (target.Soft text) other is = absurd (cc)

link_of_object : (t : LinkTo ObjectNo) (other : ℕ) → object_in t ≡ Some other → tree_target t ≡ ToObject other
link_of_object (target.Object number) other is = ap (λ (n : ℕ). ToObject n) (same_Some number.0 other is)
link_of_object (target.Soft text) other is = absurd (cc)

-- what a name stands for is where a link leads
found_target : (ls : List (LinkOf ObjectNo)) (name : List ℕ) (other : ℕ) → find (slice_cmp nat_cmp) name (map tree_link ls) ≡ Some (ToObject other) → In other (targets ls)
found_target [] name other is = absurd (cc)
found_target (l ∷ ls) name other is = elim (eq_by_cmp (slice_cmp nat_cmp) name l.name.now) as (λ b.
    cond b (Some (tree_target l.to)) (find (slice_cmp nat_cmp) name (map tree_link ls)) ≡ Some (ToObject other) → In other (targets (l ∷ ls))) [
      | true ↦ λ here. in_given (object_in l.to) other (targets ls) (object_of_link l.to other (same_Some _ _ here))
      | false ↦ λ later. in_rest (object_in l.to) other (targets ls) (found_target ls name other later)
    ] is

-- and a link stands under its name
link_entry : (l : LinkOf ObjectNo) (ls : List (LinkOf ObjectNo)) (other : ℕ) → In l ls → object_in l.to ≡ Some other → Entry (map tree_link ls) l.name.now (ToObject other)
link_entry l [] other at is = absurd at
link_entry l (k ∷ ls) other (inl e) is =
    inl (ap (λ (t : LinkOf ObjectNo). t.name.now) e, ap (λ (t : LinkOf ObjectNo). tree_target t.to) e ∙ link_of_object l.to other is)
link_entry l (k ∷ ls) other (inr at) is = inr (link_entry l ls other at is)

content_target : (c : NewContent) (d : Content) (name : List ℕ) (other : ℕ) → IsNewContent c d
    → option_and_then (λ links. get links name) (links_in d) ≡ Some (ToObject other) → In other (targets (new_links c))
content_target (content.Group links) (Group named) name other is there =
    found_target links.items name other (ap (find (slice_cmp nat_cmp) name) is ∙ sym (get-entries named name) ∙ there)
content_target (content.Group links) (Array d) name other is there = absurd is
content_target (content.Array a cells) (Group named) name other is there = absurd is
content_target (content.Array a cells) (Array d) name other is there = absurd (cc)

content_link : (c : NewContent) (d : Content) (other : ℕ) → IsNewContent c d → In other (targets (new_links c))
    → (name : List ℕ) × (option_and_then (λ links. get links name) (links_in d) ≡ Some (ToObject other))
content_link (content.Group links) (Group named) other is at =
    let l = from_filter_map (λ (k : LinkOf ObjectNo). object_in k.to) other links.items at in
    let entry = link_entry l.0 links.items other l.1 l.2 in
    let there : Entry (entries named) (l.0).name.now (ToObject other) = subst (λ (es : List (List ℕ × Link)). Entry es (l.0).name.now (ToObject other)) is entry in (
      (l.0).name.now,
      get-entries named (l.0).name.now
          ∙ find_entry nat_list_cmp_total (entries named) (l.0).name.now (ToObject other) (entries_sorted named) there,
    )
content_link (content.Group links) (Array d) other is at = absurd is
content_link (content.Array a cells) (Group named) other is at = absurd is
content_link (content.Array a cells) (Array d) other is at = absurd at

-- the order of links does not matter for where they lead
turned : (ls : List (LinkOf ObjectNo)) (other : ℕ) → In other (targets ls) → In other (targets (reverse ls))
turned ls other at =
    let l = from_filter_map (λ (k : LinkOf ObjectNo). object_in k.to) other ls at in
    in_filter_map (λ (k : LinkOf ObjectNo). object_in k.to) l.0 other (reverse ls) (in_reverse l.0 ls l.1) l.2

unturned : (ls : List (LinkOf ObjectNo)) (other : ℕ) → In other (targets (reverse ls)) → In other (targets ls)
unturned ls other at =
    let l = from_filter_map (λ (k : LinkOf ObjectNo). object_in k.to) other (reverse ls) at in
    in_filter_map (λ (k : LinkOf ObjectNo). object_in k.to) l.0 other ls (from_reverse l.0 ls l.1) l.2

-- a link of the tree leads where one of the slot does
pub link_waits : (objects : List (Option NewObject)) (tree : Tree) → AreObjects objects tree → (number other : ℕ) (name : List ℕ)
    → link_in tree number name ≡ Some (ToObject other) → (x : Option NewObject) × (slice_get objects number ≡ Some x) × In other (waiting_objects x)
link_waits objects tree are number other name is = elim (get tree number) as (λ found. get tree number ≡ found
    → option_and_then (λ links. get links name) (option_and_then (λ o. links_in o.content) found) ≡ Some (ToObject other)
    → (x : Option NewObject) × (slice_get objects number ≡ Some x) × In other (waiting_objects x)) [
      | None ↦ λ _ no. absurd (cc)
      | Some o ↦ λ found there.
          let x = object_from objects tree are number o found in
          (Some x.0, x.1, turned (new_links (x.0).content) other (content_target (x.0).content o.content name other (x.2).content there))
    ] refl is

-- and a link of a slot is one of the tree
pub waits_linked : (objects : List (Option NewObject)) (tree : Tree) → AreObjects objects tree → (number other : ℕ) (x : Option NewObject)
    → slice_get objects number ≡ Some x → In other (targets (slot_links x)) → (name : List ℕ) × (link_in tree number name ≡ Some (ToObject other))
waits_linked objects tree are number other None is at = absurd at
waits_linked objects tree are number other (Some x) is at =
    let made = object_made objects tree are number x is in
    let named = content_link x.content (made.0).content other (made.2).content at in
    (named.0, ap (λ (found : Option Object). option_and_then (λ links. get links named.0) (option_and_then (λ o. links_in o.content) found)) made.1 ∙ named.1)

-- a link leads to one of the objects
pub target_filled : (objects : List (Option NewObject)) (tree : Tree) → AreObjects objects tree → IsSoundTree tree → (number other : ℕ) (x : Option NewObject)
    → slice_get objects number ≡ Some x → In other (targets (slot_links x)) → IsFilled objects other
target_filled objects tree are sound number other x is at =
    let linked = waits_linked objects tree are number other x is at in
    filled_of objects tree are other (sound.linked number other linked.0 linked.1)

pub waiting_filled : (objects : List (Option NewObject)) (tree : Tree) → AreObjects objects tree → IsSoundTree tree → (number other : ℕ) (x : Option NewObject)
    → slice_get objects number ≡ Some x → In other (waiting_objects x) → IsFilled objects other
waiting_filled objects tree are sound number other x is at =
    target_filled objects tree are sound number other x is (unturned (slot_links x) other at)

-- ---- how many links lead to an object

link_counted : (number : ℕ) (l : LinkOf ObjectNo) (ls : List (LinkOf ObjectNo)) → times number (targets (l ∷ ls)) ≡ cond (leads_to number (tree_target l.to)) 1 0 + times number (targets ls)
link_counted number l ls = go l.to where
  go : (t : LinkTo ObjectNo) → times number (cons_option (object_in t) (targets ls)) ≡ cond (leads_to number (tree_target t)) 1 0 + times number (targets ls)
  go (target.Object other) = sum_by-cons (λ (m : ℕ). cond (number == m) 1 0) other.0 (targets ls)
  go (target.Soft text) = omega arith

links_counted : (number : ℕ) (ls : List (LinkOf ObjectNo)) → count_by (leads_to number) (map (λ (e : List ℕ × Link). e.1) (map tree_link ls)) ≡ times number (targets ls)
links_counted number [] = refl
links_counted number (l ∷ ls) =
    sum_by-cons (λ (k : Link). cond (leads_to number k) 1 0) (tree_target l.to) (map (λ (e : List ℕ × Link). e.1) (map tree_link ls))
    ∙ ap (λ (n : ℕ). cond (leads_to number (tree_target l.to)) 1 0 + n) (links_counted number ls) ∙ sym (link_counted number l ls)

-- how many links of the slot lead to the number
abbrev pub counted : ℕ → Option NewObject → ℕ
counted number slot = times number (targets (slot_links slot))

content_counted : (number : ℕ) (c : NewContent) (d : Content) → IsNewContent c d → links_to number d ≡ times number (targets (new_links c))
content_counted number (content.Group links) (Group named) is =
    ap (λ (es : List (List ℕ × Link)). count_by (leads_to number) (map (λ (e : List ℕ × Link). e.1) es)) (sym is) ∙ links_counted number links.items
content_counted number (content.Group links) (Array d) is = absurd is
content_counted number (content.Array a cells) (Group named) is = absurd is
content_counted number (content.Array a cells) (Array d) is = refl

each_counted : (number : ℕ) (objects : List (Option NewObject)) (listed : List (Option Object)) → AllZip (SlotsHold IsNewObject) objects listed
    → sum_by (λ (o : Object). links_to number o.content) (filter_map (λ o. o) listed) ≡ sum_by (counted number) objects
each_counted number [] [] all = refl
each_counted number [] (o ∷ os) all = absurd all
each_counted number (x ∷ xs) [] all = absurd all
each_counted number (None ∷ xs) (Some o ∷ os) all = absurd all.0
each_counted number (Some x ∷ xs) (None ∷ os) all = absurd all.0
each_counted number (None ∷ xs) (None ∷ os) all =
    let none : counted number None ≡ 0 = refl in
    omega (arith, each_counted number xs os all.1, sum_by-cons (counted number) None xs, none)
each_counted number (Some x ∷ xs) (Some o ∷ os) all =
    let first : links_to number o.content ≡ counted number (Some x) = content_counted number x.content o.content (all.0).content in
    let rest = each_counted number xs os all.1 in
    let others : List Object = filter_map (λ p. p) os in
    sum_by-cons (λ (p : Object). links_to number p.content) o others ∙ ap (λ (n : ℕ). n + sum_by (λ (p : Object). links_to number p.content) others) first
    ∙ ap (λ (n : ℕ). counted number (Some x) + n) rest ∙ sym (sum_by-cons (counted number) (Some x) xs)

-- the hard links of the tree are those of the objects
pub hard_links_counted : (objects : List (Option NewObject)) (tree : Tree) → AreObjects objects tree → (number : ℕ) → hard_links tree number ≡ sum_by (counted number) objects
hard_links_counted objects tree are number =
    ap (sum_by (λ (o : Object). links_to number o.content)) (values_listed objects tree are) ∙ each_counted number objects are.listed are.each

-- few enough for a number of 32 bits
pub counted_few : (objects : List (Option NewObject)) (tree : Tree) → AreObjects objects tree → IsSoundTree tree → (number : ℕ) → IsFilled objects number
    → sum_by (counted number) objects ≤ most_hard_links
counted_few objects tree are sound number filled =
    omega (arith, hard_links_counted objects tree are number, sound.few number (some_of objects tree are number filled))
