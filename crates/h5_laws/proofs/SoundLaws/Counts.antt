-- How many hard links lead to an object: a link more, an object more, and what the count says of the links.
use Rattle.std.proofs.Common.{◌≡◌, ℕ, ◌+◌, ◌≤◌, Bool, true, false, cond, List, [], refl, sym, ap, ◌∙◌, Some, None, ◌⊎◌, inl, inr, arith}
use Rattle.std.proofs.lemmas.Bool.Decides.{nat_tests}
use Rattle.std.specs.Prelude.{◌==◌}
use Rattle.std.specs.Cmp.{nat_cmp_total}
use Rattle.std.specs.Cmp.Lexicographic.{nat_list_cmp_total}
use Rattle.std.specs.FinMap.{get, insert, remove, empty, get-empty, nat_cmp-IsAntisymmetric}
use Rattle.h5_model.specs.Tree.Objects.{Tree, Object, Content, Group, Array, Links, Link, ToObject, Soft, link_in, leads_to, links_to, hard_links}
use Rattle.h5_model.specs.Edits.Applied.{new_object}
use Rattle.h5_laws.proofs.SoundLaws.Sums.{weight, sum_insert, sum_none, sum_least, sum_two, sum_fewer, sum_remove, sum_some}
use Rattle.h5_laws.proofs.SoundLaws.Inserted.{names_differ, removed_was}
use Rattle.h5_laws.proofs.SoundLaws.LinksThere.{GroupAt, LinkAt, link_at, link_is}

-- 1 for a link to the object, and 0 for any other
abbrev pub adds : ℕ → Link → ℕ
adds n link = cond (leads_to n link) 1 0

abbrev led_by : ℕ → Object → ℕ
led_by n o = links_to n o.content

-- an object that no link leads from
abbrev pub empty_group : Object
empty_group = new_object (Group empty)

-- ---- a link more, an object more

pub more_links : (n : ℕ) (links : Links) (name : List ℕ) (link : Link) → get links name ≡ None → links_to n (Group (insert links name link)) ≡ links_to n (Group links) + adds n link
more_links n links name link free = omega (arith, sum_insert nat_list_cmp_total (adds n) links name link, ap (weight (adds n)) free)

-- an object that is put at a number counts for what stood there
pub object_put : (n : ℕ) (tree : Tree) (k : ℕ) (o : Object) → hard_links (insert tree k o) n + weight (led_by n) (get tree k) ≡ hard_links tree n + links_to n o.content
object_put n tree k o = sum_insert nat_cmp_total (led_by n) tree k o

pub no_links : (n : ℕ) → links_to n (Group empty) ≡ 0
no_links n = sum_none nat_list_cmp_total (adds n) empty (λ name link is. absurd (let never : None ≡ Some link = sym (get-empty _ name) ∙ is in cc))

-- where no object has more links to it than before, there are no more of them
pub fewer_links : (n : ℕ) (tree fewer : Tree) → ((k : ℕ) (o : Object) → get fewer k ≡ Some o → links_to n o.content ≤ weight (led_by n) (get tree k))
    → hard_links fewer n ≤ hard_links tree n
fewer_links n tree fewer low = sum_fewer nat_cmp_total (led_by n) nat_cmp-IsAntisymmetric empty_group (no_links n) tree fewer low

pub fewer_removed : (n : ℕ) (links : Links) (name : List ℕ) → links_to n (Group (remove links name)) ≤ links_to n (Group links)
fewer_removed n links name =
    sum_fewer nat_list_cmp_total (adds n) names_differ (Soft []) refl links (remove links name)
    (λ x l is. let was = ap (weight (adds n)) (removed_was links name x l is) in omega (arith, was))

-- a link less is one less of those that lead where it led
pub less_links : (n : ℕ) (links : Links) (name : List ℕ) (link : Link) → get links name ≡ Some link
    → links_to n (Group links) ≡ links_to n (Group (remove links name)) + adds n link
less_links n links name link there = sum_remove nat_list_cmp_total (adds n) names_differ links name link there

-- ---- what a count says

pub leads_itself : (n : ℕ) → adds n (ToObject n) ≡ 1
leads_itself n = let same : (n == n) ≡ true = grind (arith, nat_tests) in ap (λ (b : Bool). cond b 1 0) same

-- a group has a link to the object, which it counts
pub group_counts : (tree : Tree) (n a : ℕ) (name : List ℕ) (l : LinkAt tree a name (ToObject n)) → 1 ≤ links_to n l.group.object.content
group_counts tree n a name l =
    let least = sum_least nat_list_cmp_total (adds n) (Soft []) refl l.group.links name (ToObject n) l.is in
    let one = leads_itself n in
    let is = ap (links_to n) l.group.is in
    omega (arith, least, one, is)

pub link_counts : (tree : Tree) (n a : ℕ) (name : List ℕ) → link_in tree a name ≡ Some (ToObject n) → 1 ≤ hard_links tree n
link_counts tree n a name is =
    let l = link_at tree a name (ToObject n) is in
    let group = group_counts tree n a name l in
    let whole = sum_least nat_cmp_total (led_by n) empty_group (no_links n) tree a l.group.object l.group.stands in
    omega (arith, group, whole)

-- what has one hard link is named by one group
pub one_parent : (tree : Tree) (n a b : ℕ) (x y : List ℕ) → hard_links tree n ≤ 1 → link_in tree a x ≡ Some (ToObject n) → link_in tree b y ≡ Some (ToObject n)
    → (b ≡ a → ⊥) → ⊥
one_parent tree n a b x y one first second other =
    let l = link_at tree a x (ToObject n) first in
    let m = link_at tree b y (ToObject n) second in
    let both = sum_two nat_cmp_total (led_by n) nat_cmp-IsAntisymmetric empty_group (no_links n) tree a b l.group.object m.group.object other l.group.stands m.group.stands in
    omega (arith, one, both, group_counts tree n a x l, group_counts tree n b y m)

-- a link leads to the object, or it does not
pub leads_or : (n : ℕ) (link : Link) → (link ≡ ToObject n) ⊎ (adds n link ≡ 0)
leads_or n (Soft text) = inr refl
leads_or n (ToObject m) = go (n == m) refl where
  go : (b : Bool) → (n == m) ≡ b → (ToObject m ≡ ToObject n) ⊎ (◌≡◌ {A = ℕ} (cond b 1 0) 0)
  go false is = inr refl
  go true is = inl (ap (λ (k : ℕ). ToObject k) (let same : m ≡ n = grind (arith, nat_tests) in same))

pub unled : (n : ℕ) (link : Link) → (link ≡ ToObject n → ⊥) → adds n link ≡ 0
unled n link other = elim (leads_or n link) [ inl e ↦ absurd (other e) | inr none ↦ none ]

-- ---- an object that no link names

content_none : (n : ℕ) (c : Content) → ((links : Links) → c ≡ Group links → (name : List ℕ) → get links name ≡ Some (ToObject n) → ⊥) → links_to n c ≡ 0
content_none n (Array d) none = refl
content_none n (Group links) none =
    sum_none nat_list_cmp_total (adds n) links (λ name link is. unled n link (λ e. none links refl name (is ∙ ap (λ (l : Link). Some l) e)))

-- a number that no link names has no hard link
pub none_named : (tree : Tree) (n : ℕ) → ((a : ℕ) (name : List ℕ) → link_in tree a name ≡ Some (ToObject n) → ⊥) → hard_links tree n ≡ 0
none_named tree n none =
    sum_none nat_cmp_total (led_by n) tree (λ a o stands. content_none n o.content (λ links is name there.
    let g : GroupAt tree a = record { object = o; links = links; stands = stands; is = is } in
    none a name (link_is tree a g name ∙ there)))

-- ---- an object that some link names

pub content_some : (n : ℕ) (c : Content) → 1 ≤ links_to n c → (links : Links) × (name : List ℕ) × (c ≡ Group links) × (get links name ≡ Some (ToObject n))
content_some n (Array d) many = absurd (omega (arith, many))
content_some n (Group links) many =
    let one = sum_some nat_list_cmp_total (adds n) links many in
    elim (leads_or n one.1) [
      | inl leads ↦ (links, one.0, refl, one.2 ∙ ap (λ (l : Link). Some l) leads)
      | inr none ↦ absurd (let some = one.3 in omega (arith, none, some))
    ]

-- a number that has a hard link is named by a link
pub some_named : (tree : Tree) (n : ℕ) → 1 ≤ hard_links tree n → (a : ℕ) × (name : List ℕ) × (link_in tree a name ≡ Some (ToObject n))
some_named tree n many =
    let at = sum_some nat_cmp_total (led_by n) tree many in
    let c = content_some n (at.1).content at.3 in
    let g : GroupAt tree at.0 = record { object = at.1; links = c.0; stands = at.2; is = c.2 } in
    (at.0, c.1, link_is tree at.0 g c.1 ∙ c.3)
