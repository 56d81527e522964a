-- Paths of two trees of which one has the links of the other, paths one behind the other, and the last link of a path.
use Rattle.std.proofs.Common.{◌≡◌, ℕ, List, [], ◌∷◌, ◌++◌, sym, ap, subst, ◌∙◌, refl, Some, None, ◌⊎◌, inl, inr}
use Rattle.std.specs.Option.{option_and_then}
use Rattle.h5_model.specs.Tree.Objects.{Tree, Link, ToObject, Soft, link_in, follow}
use Rattle.h5_laws.proofs.AllReached.{soft_leads}

-- where each link of the one is a link of the other, a path leads where it led to
pub same_way : (one other : Tree) → ((n : ℕ) (x : List ℕ) (l : Link) → link_in one n x ≡ Some l → link_in other n x ≡ Some l)
    → (path : List (List ℕ)) (from to : Link) → follow one from path ≡ Some to → follow other from path ≡ Some to
same_way one other has [] from to is = is
same_way one other has (x ∷ path) (Soft text) to is = is
same_way one other has (x ∷ path) (ToObject n) to is = elim (link_in one n x) as (λ o. link_in one n x ≡ o → option_and_then (λ l. follow one l path) o ≡ Some to
    → follow other (ToObject n) (x ∷ path) ≡ Some to) [
      | None ↦ λ there no. absurd (let never : None ≡ Some to = no in cc)
      | Some l ↦ λ there rest. ap (option_and_then (λ (y : Link). follow other y path)) (has n x l there) ∙ same_way one other has path l to rest
    ] refl is

-- a path, and another from where it leads
pub follow-append : (tree : Tree) (path more : List (List ℕ)) (from mid to : Link) → follow tree from path ≡ Some mid → follow tree mid more ≡ Some to
    → follow tree from (path ++ more) ≡ Some to
follow-append tree [] more from mid to is next =
    let same : from ≡ mid = cc in subst (λ (l : Link). follow tree l more ≡ Some to) (sym same) next
follow-append tree (x ∷ path) more (Soft text) mid to is next = absurd (let never : None ≡ Some mid = is in cc)
follow-append tree (x ∷ path) more (ToObject n) mid to is next = elim (link_in tree n x) as (λ o. option_and_then (λ l. follow tree l path) o ≡ Some mid
    → option_and_then (λ l. follow tree l (path ++ more)) o ≡ Some to) [
      | None ↦ λ no. absurd (let never : None ≡ Some mid = no in cc)
      | Some l ↦ λ rest. follow-append tree path more l mid to rest next
    ] is

-- a path to another object ends with a link to it
pub last_link : (tree : Tree) (path : List (List ℕ)) (from number : ℕ) → follow tree (ToObject from) path ≡ Some (ToObject number)
    → (from ≡ number) ⊎ ((parent : ℕ) × (name : List ℕ) × (link_in tree parent name ≡ Some (ToObject number)))
last_link tree [] from number is = inl (let same : Some (ToObject from) ≡ Some (ToObject number) = is in cc)
last_link tree (x ∷ path) from number is = elim (link_in tree from x) as (λ o. link_in tree from x ≡ o → option_and_then (λ l. follow tree l path) o ≡ Some (ToObject number)
    → (from ≡ number) ⊎ ((parent : ℕ) × (name : List ℕ) × (link_in tree parent name ≡ Some (ToObject number)))) [
      | None ↦ λ there no. absurd (let never : None ≡ Some (ToObject number) = no in cc)
      | Some l ↦ elim l as (λ k. link_in tree from x ≡ Some k → follow tree k path ≡ Some (ToObject number)
          → (from ≡ number) ⊎ ((parent : ℕ) × (name : List ℕ) × (link_in tree parent name ≡ Some (ToObject number)))) [
            | ToObject other ↦ λ there rest. elim (last_link tree path other number rest) [
              | inl same ↦ inr (from, x, there ∙ ap (λ (k : ℕ). Some (ToObject k)) same)
              | inr later ↦ inr later
            ]
            | Soft text ↦ λ there rest. absurd (soft_leads tree text path number rest)
          ]
    ] refl is
