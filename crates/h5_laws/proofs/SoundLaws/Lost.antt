-- How many hard links of some objects lead to an object: no more than there are, and where there are more, another object has one.
use Rattle.std.proofs.Common.{◌≡◌, ℕ, ◌+◌, ◌≤◌, ◌<◌, List, [], ◌∷◌, refl, sym, ap, ◌∙◌, Option, Some, None, ◌⊎◌, inl, inr, arith}
use Rattle.std.proofs.lemmas.Bool.{cases_eq}
use Rattle.std.specs.Option.{option_and_then}
use Rattle.std.specs.FinMap.{get, insert, get-empty}
use Rattle.std.proofs.lemmas.List.Sums.{sum_by-cons}
use Rattle.h5_model.specs.Tree.Objects.{Tree, Object, Links, ToObject, links_in, link_in, links_to, hard_links}
use Rattle.h5_laws.proofs.Lists.{In}
use Rattle.h5_laws.proofs.Pigeonhole.{Apart}
use Rattle.h5_laws.specs.Trees.Unlinked.{links_from}
use Rattle.h5_laws.proofs.SoundLaws.Counts.{empty_group, no_links, object_put, some_named}
use Rattle.h5_laws.proofs.SoundLaws.Inserted.{number_here, number_other}
use Rattle.h5_laws.proofs.SoundLaws.Sums.{weight}

-- a thing is one of them, or it is not, where one thing is another or it is not
pub in_or_out : {X : Type 0} → ((x y : X) → (x ≡ y) ⊎ (x ≡ y → ⊥)) → (q : X) (ks : List X) → In q ks ⊎ (In q ks → ⊥)
in_or_out same q [] = inr (λ at. at)
in_or_out same q (k ∷ ks) = elim (same k q) [
  | inl here ↦ inl (inl here)
  | inr other ↦ elim (in_or_out same q ks) [
    | inl later ↦ inl (inr later)
    | inr out ↦ inr (λ at. elim at [ inl here ↦ other here | inr later ↦ out later ])
  ]
]

-- how many links of an object lead to another
abbrev pub held : Tree → ℕ → ℕ → ℕ
held t n k = weight (λ (o : Object). links_to n o.content) (get t k)

pub from_more : (t : Tree) (n k : ℕ) (ks : List ℕ) → links_from t (k ∷ ks) n ≡ held t n k + links_from t ks n
from_more t n k ks = sum_by-cons (held t n) k ks

pub from_least : (t : Tree) (n k : ℕ) (ks : List ℕ) → In k ks → held t n k ≤ links_from t ks n
from_least t n k [] at = absurd at
from_least t n k (x ∷ ks) (inl here) =
    let same = ap (held t n) here in omega (arith, same, from_more t n x ks)
from_least t n k (x ∷ ks) (inr later) = let rest = from_least t n k ks later in omega (arith, rest, from_more t n x ks)

-- of objects that are the same in another tree
pub from_same : (one other : Tree) (n : ℕ) (ks : List ℕ) → ((k : ℕ) → In k ks → get one k ≡ get other k) → links_from one ks n ≡ links_from other ks n
from_same one other n [] same = refl
from_same one other n (k ∷ ks) same =
    let here = ap (weight (λ (o : Object). links_to n o.content)) (same k (inl refl)) in
    let rest = from_same one other n ks (λ q at. same q (inr at)) in
    omega (arith, here, rest, from_more one n k ks, from_more other n k ks)

-- ---- the tree with these objects as empty groups

abbrev pub emptied : Tree → List ℕ → Tree
emptied t [] = t
emptied t (k ∷ ks) = insert (emptied t ks) k empty_group

pub emptied_other : (t : Tree) (ks : List ℕ) (q : ℕ) → (In q ks → ⊥) → get (emptied t ks) q ≡ get t q
emptied_other t [] q out = refl
emptied_other t (k ∷ ks) q out =
    number_other (emptied t ks) k empty_group q (λ e. out (inl (sym e))) ∙ emptied_other t ks q (λ at. out (inr at))

pub emptied_here : (t : Tree) (ks : List ℕ) (q : ℕ) → In q ks → get (emptied t ks) q ≡ Some empty_group
emptied_here t [] q at = absurd at
emptied_here t (k ∷ ks) q at = elim (cases_eq q k) [
  | inl here ↦ ap (get (insert (emptied t ks) k empty_group)) here ∙ number_here (emptied t ks) k empty_group
  | inr other ↦ number_other (emptied t ks) k empty_group q other ∙ emptied_here t ks q (elim at [ inl e ↦ absurd (other (sym e)) | inr later ↦ later ])
]

-- their links are not counted there
pub emptied_counts : (t : Tree) (n : ℕ) (ks : List ℕ) → Apart ks → hard_links (emptied t ks) n + links_from t ks n ≡ hard_links t n
emptied_counts t n [] apart = omega arith
emptied_counts t n (k ∷ ks) apart =
    let put = object_put n (emptied t ks) k empty_group in
    let same = ap (weight (λ (o : Object). links_to n o.content)) (emptied_other t ks k apart.0) in
    let rest = emptied_counts t n ks apart.1 in
    omega (arith, put, same, rest, no_links n, from_more t n k ks)

-- another object has a link too, where not all are theirs
pub named_outside : (t : Tree) (n : ℕ) (ks : List ℕ) → Apart ks → links_from t ks n < hard_links t n
    → (a : ℕ) × (x : List ℕ) × (In a ks → ⊥) × (link_in t a x ≡ Some (ToObject n))
named_outside t n ks apart low =
    let some = some_named (emptied t ks) n (omega (arith, low, emptied_counts t n ks apart)) in
    let link_of = λ (o : Option Object). option_and_then (λ (ls : Links). get ls some.1) (option_and_then (λ (p : Object). links_in p.content) o) in
    let out : In some.0 ks → ⊥ = λ at.
    let none : None ≡ Some (ToObject n) = sym (ap link_of (emptied_here t ks some.0 at) ∙ get-empty _ some.1) ∙ some.2 in
    absurd (cc) in
    (some.0, some.1, out, sym (ap link_of (emptied_other t ks some.0 out)) ∙ some.2)
