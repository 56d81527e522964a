-- The tree with a link more in one of its groups, and with the object that the link names.
use Rattle.std.proofs.Common.{◌≡◌, ℕ, ◌+◌, true, false, List, refl, sym, ap, ◌∙◌, subst, Option, Some, None, ◌⊎◌, inl, inr, arith}
use Rattle.std.proofs.lemmas.Bool.{cases_eq}
use Rattle.std.specs.Prelude.{IsSome, is_some}
use Rattle.std.specs.Option.{option_and_then}
use Rattle.std.specs.FinMap.{get, insert}
use Rattle.h5_model.specs.Edits.Applied.{with_links}
use Rattle.h5_model.specs.Tree.Objects.{Tree, Object, Content, Group, Links, Link, ToObject, links_in, links_of, link_in, links_to, hard_links}
use Rattle.h5_laws.proofs.SoundLaws.Counts.{adds, more_links, object_put}
use Rattle.h5_laws.proofs.SoundLaws.Grown.{IsGrown}
use Rattle.h5_laws.proofs.SoundLaws.Inserted.{same_name_or_other, number_here, number_other, name_here, name_other}
use Rattle.h5_laws.proofs.SoundLaws.LinksThere.{GroupAt, links_are, link_is}
use Rattle.h5_laws.proofs.SoundLaws.Sums.{weight}

pub none_some : {X : Type 0} (o : Option X) → o ≡ None → IsSome o → ⊥
none_some None is some = let never : false ≡ true = some in absurd (cc)
none_some (Some x) is some = absurd (cc)

pub not_some : {X : Type 0} (o : Option X) → (IsSome o → ⊥) → o ≡ None
not_some None none = refl
not_some (Some x) none = absurd (none refl)

-- the second tree has the same objects, of which one group has this link more
pub record IsLinked (tree linked : Tree) (parent : ℕ) (name : List ℕ) (link : Link) : Type 0 where
  pub group : IsSome (links_of tree parent)
  pub new : link_in linked parent name ≡ Some link
  pub old : (n : ℕ) (x : List ℕ) (l : Link) → link_in tree n x ≡ Some l → link_in linked n x ≡ Some l
  pub only : (n : ℕ) (x : List ℕ) (l : Link) → link_in linked n x ≡ Some l → (link_in tree n x ≡ Some l) ⊎ ((n ≡ parent) × (x ≡ name) × (l ≡ link))
  pub counts : (n : ℕ) → hard_links linked n ≡ hard_links tree n + adds n link
  pub objects : (n : ℕ) → is_some (get linked n) ≡ is_some (get tree n)
  pub groups : (n : ℕ) → is_some (links_of linked n) ≡ is_some (links_of tree n)

changed_content : (change : Links → Links) (o : Object) (links : Links) → o.content ≡ Group links → (with_links change o).content ≡ Group (change links)
changed_content change o links is = ap (λ (c : Content). (with_links change (record o { content = c })).content) is

module _ (tree : Tree) (parent : ℕ) (name : List ℕ) (link : Link) (g : GroupAt tree parent) (free : get g.links name ≡ None) where
  abbrev changed : Object
  changed = with_links (λ links. insert links name link) g.object

  abbrev pub one_more : Tree
  one_more = insert tree parent changed

  content : changed.content ≡ Group (insert g.links name link)
  content = changed_content (λ links. insert links name link) g.object g.links g.is

  abbrev after : GroupAt one_more parent
  after = record { object = changed; links = insert g.links name link; stands = number_here tree parent changed; is = content }

  same_links : (n : ℕ) → (n ≡ parent → ⊥) → links_of one_more n ≡ links_of tree n
  same_links n other = ap (option_and_then (λ (o : Object). links_in o.content)) (number_other tree parent changed n other)

  same_link : (n : ℕ) (x : List ℕ) → (n ≡ parent → ⊥) → link_in one_more n x ≡ link_in tree n x
  same_link n x other = ap (option_and_then (λ (links : Links). get links x)) (same_links n other)

  -- a name of the group
  by_name : (x : List ℕ) → link_in one_more parent x ≡ get (insert g.links name link) x
  by_name x = link_is one_more parent after x

  other_name : (x : List ℕ) → (x ≡ name → ⊥) → link_in one_more parent x ≡ link_in tree parent x
  other_name x other = by_name x ∙ name_other g.links name link x other ∙ sym (link_is tree parent g x)

  new_name : link_in one_more parent name ≡ Some link
  new_name = by_name name ∙ name_here g.links name link

  name_free : link_in tree parent name ≡ None
  name_free = link_is tree parent g name ∙ free

  old : (n : ℕ) (x : List ℕ) (l : Link) → link_in tree n x ≡ Some l → link_in one_more n x ≡ Some l
  old n x l is = elim (cases_eq n parent) [
    | inr other ↦ same_link n x other ∙ is
    | inl here ↦ elim (same_name_or_other x name) [
      | inr other ↦ ap (λ (k : ℕ). link_in one_more k x) here ∙ other_name x other ∙ ap (λ (k : ℕ). link_in tree k x) (sym here) ∙ is
      | inl same ↦
          let never : None ≡ Some l = sym name_free ∙ ap (link_in tree parent) (sym same) ∙ ap (λ (k : ℕ). link_in tree k x) (sym here) ∙ is in
          absurd (cc)
    ]
  ]

  only : (n : ℕ) (x : List ℕ) (l : Link) → link_in one_more n x ≡ Some l → (link_in tree n x ≡ Some l) ⊎ ((n ≡ parent) × (x ≡ name) × (l ≡ link))
  only n x l is = elim (cases_eq n parent) [
    | inr other ↦ inl (sym (same_link n x other) ∙ is)
    | inl here ↦ elim (same_name_or_other x name) [
      | inr other ↦ inl (ap (λ (k : ℕ). link_in tree k x) here ∙ sym (other_name x other) ∙ ap (λ (k : ℕ). link_in one_more k x) (sym here) ∙ is)
      | inl same ↦
          let both : Some link ≡ Some l = sym new_name ∙ ap (link_in one_more parent) (sym same) ∙ ap (λ (k : ℕ). link_in one_more k x) (sym here) ∙ is in
          inr (here, same, cc)
    ]
  ]

  counts : (n : ℕ) → hard_links one_more n ≡ hard_links tree n + adds n link
  counts n =
      let put = object_put n tree parent changed in
      let before = ap (weight (λ (o : Object). links_to n o.content)) g.stands in
      let was = ap (links_to n) g.is in
      let now = ap (links_to n) content in
      let more = more_links n g.links name link free in
      omega (arith, put, before, was, now, more)

  pub linked_one_more : IsLinked tree one_more parent name link
  linked_one_more = record {
    group = ap (λ (o : Option Links). is_some o) (links_are tree parent g);
    new = new_name;
    old = old;
    only = only;
    counts = counts;
    objects = objects;
    groups = groups;
  } where
    objects : (n : ℕ) → is_some (get one_more n) ≡ is_some (get tree n)
    objects n = elim (cases_eq n parent) [
      | inr other ↦ ap (λ (o : Option Object). is_some o) (number_other tree parent changed n other)
      | inl here ↦ ap (λ (k : ℕ). is_some (get one_more k)) here ∙ ap (λ (o : Option Object). is_some o) (number_here tree parent changed)
          ∙ sym (ap (λ (o : Option Object). is_some o) g.stands) ∙ ap (λ (k : ℕ). is_some (get tree k)) (sym here)
    ]

    groups : (n : ℕ) → is_some (links_of one_more n) ≡ is_some (links_of tree n)
    groups n = elim (cases_eq n parent) [
      | inr other ↦ ap (λ (o : Option Links). is_some o) (same_links n other)
      | inl here ↦ ap (λ (k : ℕ). is_some (links_of one_more k)) here ∙ ap (λ (o : Option Links). is_some o) (links_are one_more parent after)
          ∙ sym (ap (λ (o : Option Links). is_some o) (links_are tree parent g)) ∙ ap (λ (k : ℕ). is_some (links_of tree k)) (sym here)
    ]

-- ---- with no new object, and with one

pub grown_linked : (tree linked : Tree) (parent : ℕ) (name : List ℕ) (link : Link) → IsLinked tree linked parent name link → IsGrown tree linked parent name link
grown_linked tree linked parent name link is = record {
  group = is.group;
  new = is.new;
  old = is.old;
  only = is.only;
  counts = is.counts;
  kept = λ n some. is.objects n ∙ some;
  got = λ n some. inl (sym (is.objects n) ∙ some);
  groups = λ n some. is.groups n ∙ some;
  new_group = λ n some. inl (sym (is.groups n) ∙ some);
}

-- an object that no link leads from
pub record IsBare (o : Object) : Type 0 where
  pub links : (name : List ℕ) → option_and_then (λ (ls : Links). get ls name) (links_in o.content) ≡ None
  pub none : (n : ℕ) → links_to n o.content ≡ 0

module _ (tree linked : Tree) (parent : ℕ) (name : List ℕ) (number : ℕ) (o : Object) (is : IsLinked tree linked parent name (ToObject number))
    (fresh : get tree number ≡ None) (bare : IsBare o) where
  abbrev pub with_new : Tree
  with_new = insert linked number o

  unused : get linked number ≡ None
  unused = not_some (get linked number) (λ some. none_some (get tree number) fresh (sym (is.objects number) ∙ some))

  -- the new object has no link, as none stood there
  alike : (n : ℕ) (x : List ℕ) → link_in with_new n x ≡ link_in linked n x
  alike n x = elim (cases_eq n number) [
    | inr other ↦ ap (option_and_then (λ (links : Links). get links x)) (ap (option_and_then (λ (p : Object). links_in p.content)) (number_other linked number o n other))
    | inl here ↦
        let now : link_in with_new number x ≡ None
        = ap (option_and_then (λ (links : Links). get links x)) (ap (option_and_then (λ (p : Object). links_in p.content)) (number_here linked number o)) ∙ bare.links x in
        let before : link_in linked number x ≡ None
        = ap (option_and_then (λ (links : Links). get links x)) (ap (option_and_then (λ (p : Object). links_in p.content)) unused) in
        ap (λ (k : ℕ). link_in with_new k x) here ∙ now ∙ sym before ∙ ap (λ (k : ℕ). link_in linked k x) (sym here)
  ]

  other_links : (n : ℕ) → (n ≡ number → ⊥) → links_of with_new n ≡ links_of linked n
  other_links n other = ap (option_and_then (λ (p : Object). links_in p.content)) (number_other linked number o n other)

  no_group : (n : ℕ) → n ≡ number → IsSome (links_of linked n) → ⊥
  no_group n here some =
      none_some (links_of linked number) (ap (option_and_then (λ (p : Object). links_in p.content)) unused) (subst (λ (k : ℕ). IsSome (links_of linked k)) here some)

  pub new_stands : IsSome (get with_new number)
  new_stands = ap (λ (x : Option Object). is_some x) (number_here linked number o)

  more_counts : (n : ℕ) → hard_links with_new n ≡ hard_links tree n + adds n (ToObject number)
  more_counts n =
      let put = object_put n linked number o in
      let before = ap (weight (λ (p : Object). links_to n p.content)) unused in
      let none = bare.none n in
      let all = is.counts n in
      omega (arith, put, before, none, all)

  pub grown_new : IsGrown tree with_new parent name (ToObject number)
  grown_new = record {
    group = is.group;
    new = alike parent name ∙ is.new;
    old = λ n x l there. alike n x ∙ is.old n x l there;
    only = λ n x l there. is.only n x l (sym (alike n x) ∙ there);
    counts = more_counts;
    kept = kept;
    got = got;
    groups = groups;
    new_group = new_group;
  } where
    kept : (n : ℕ) → IsSome (get tree n) → IsSome (get with_new n)
    kept n some = elim (cases_eq n number) [
      | inr other ↦ ap (λ (x : Option Object). is_some x) (number_other linked number o n other) ∙ is.objects n ∙ some
      | inl here ↦ subst (λ (k : ℕ). IsSome (get with_new k)) (sym here) new_stands
    ]

    got : (n : ℕ) → IsSome (get with_new n) → IsSome (get tree n) ⊎ (ToObject number ≡ ToObject n)
    got n some = elim (cases_eq n number) [
      | inr other ↦ inl (sym (is.objects n) ∙ sym (ap (λ (x : Option Object). is_some x) (number_other linked number o n other)) ∙ some)
      | inl here ↦ inr (ap (λ (k : ℕ). ToObject k) (sym here))
    ]

    groups : (n : ℕ) → IsSome (links_of tree n) → IsSome (links_of with_new n)
    groups n some = elim (cases_eq n number) [
      | inr other ↦ ap (λ (x : Option Links). is_some x) (other_links n other) ∙ is.groups n ∙ some
      | inl here ↦ absurd (no_group n here (is.groups n ∙ some))
    ]

    new_group : (n : ℕ) → IsSome (links_of with_new n) → IsSome (links_of tree n) ⊎ ((ToObject number ≡ ToObject n) × (get tree n ≡ None))
    new_group n some = elim (cases_eq n number) [
      | inr other ↦ inl (sym (is.groups n) ∙ sym (ap (λ (x : Option Links). is_some x) (other_links n other)) ∙ some)
      | inl here ↦ inr (ap (λ (k : ℕ). ToObject k) (sym here), ap (get tree) here ∙ fresh)
    ]
