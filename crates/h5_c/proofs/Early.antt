-- What an edit answers where memory was refused before the library was asked, or no edit was asked for.
use Rattle.std.proofs.Common.{◌≡◌, ℕ, Bool, true, false, Option, Some, None, Result, Ok, Err, List, sym, ap, ◌∙◌, subst, inl, inr}
use Rattle.h5_model.specs.Format.Fixed.{Fixed}
use Rattle.h5_model.specs.declared.attribute.AttrSpec.{AttrSpec}
use Rattle.h5_model.specs.declared.dataset.Spec.{Spec}
use Rattle.h5_model.specs.declared.dataset.Store.{Store}
use Rattle.h5_model.specs.declared.edits.Edit.{Edit}
use Rattle.h5_model.specs.declared.edits.Edit.TheVariants.{CreateDataset, SetAttr}
use Rattle.h5_c.specs.Calls.{HasEdited, HasMadeAndEdited, IsRefusedEarly}
use Rattle.h5_c.specs.Given.{ByTest, IsArrayMadeWith, IsMadeOf, IsMadeWith, IsStorageThere, array_edit, given_array, given_attribute, is_one, is_whole, number_of, attribute_edit}
use Rattle.h5_c.specs.declared.given.Unmade.{Unmade}
use Rattle.h5_c.specs.declared.given.Unmade.TheVariants.{NoMemory, NoSuchType, WrongRoom}
use Rattle.h5_c.specs.declared.held.Held.{Held}

-- ---- what holds where there is such a type and such a storage, by what else holds there

by_test : {P Q R S : Type 0} → (P → Q) → (R → S) → (b : Bool) → ByTest b P R → ByTest b Q S
by_test passes fails true is = passes is
by_test passes fails false is = fails is

made_as : {P Q : Fixed → Type 0} {R S : Unmade → Type 0} → ((t : Fixed) → P t → Q t) → ((u : Unmade) → R u → S u) → (fixed : Option Fixed) (test : Fixed → Bool)
    → IsMadeWith fixed test P R → IsMadeWith fixed test Q S
made_as holds refused None test is = refused NoSuchType is
made_as holds refused (Some t) test is = by_test (holds t) (refused WrongRoom) (test t) is

there_as : {P Q : Store (List ℕ) → Type 0} {R S : Unmade → Type 0} → ((s : Store (List ℕ)) → P s → Q s) → ((u : Unmade) → R u → S u) → (store : Option (Store (List ℕ))) → IsStorageThere store P R
    → IsStorageThere store Q S
there_as holds refused None is = refused NoSuchType is
there_as holds refused (Some s) is = holds s is

array_made_as : {P Q : Fixed → Store (List ℕ) → Type 0} {R S : Unmade → Type 0} → ((t : Fixed) (s : Store (List ℕ)) → P t s → Q t s) → ((u : Unmade) → R u → S u)
    → (fixed : Option Fixed) (fill : List ℕ) (store : Option (Store (List ℕ))) → IsArrayMadeWith fixed fill store P R → IsArrayMadeWith fixed fill store Q S
array_made_as {P} {Q} {R} {S} holds refused fixed fill store =
    made_as {P = λ t. IsStorageThere store (P t) R} {Q = λ t. IsStorageThere store (Q t) S} {R = R} {S = S} (λ t. there_as {P = P t} {Q = Q t} {R = R} {S = S} (holds t) refused store) refused fixed (is_one fill)

-- ---- the answers

module _ (before after : Held) (status : ℕ) where
  -- no edit was asked for, for this reason
  module _ {A : Type 0} (u : Unmade) (made : Result A Unmade) (is : made ≡ Err u) (same : after ≡ before) (number : status ≡ number_of u) where
    short : (edit : Edit) (wanted : A) → IsMadeOf wanted made → HasMadeAndEdited before edit after status
    short edit wanted of =
        let none : u ≡ NoMemory = subst (IsMadeOf wanted) is of in
        inr (same, number ∙ ap number_of none)

    early : (v : Unmade) → made ≡ Err v → IsRefusedEarly before after (number_of v) status
    early v other = (same, number ∙ ap number_of (let both = sym is ∙ other in cc))

  pub unset : (u : Unmade) (made : Result AttrSpec Unmade) → made ≡ Err u → after ≡ before → status ≡ number_of u → (path name dims bytes : List ℕ) (fixed : Option Fixed)
      → IsMadeWith fixed (is_whole bytes) (λ t. IsMadeOf (given_attribute name t dims bytes) made) (λ v. made ≡ Err v)
      → IsMadeWith fixed (is_whole bytes) (λ t. HasMadeAndEdited before (attribute_edit path name t dims bytes) after status) (λ v. IsRefusedEarly before after (number_of v) status)
  unset u made is same number path name dims bytes fixed =
      made_as (λ t. short u made is same number (attribute_edit path name t dims bytes) (given_attribute name t dims bytes)) (early u made is same number) fixed (is_whole bytes)

  -- an attribute was to be set
  pub set : (attr : AttrSpec) (made : Result AttrSpec Unmade) → made ≡ Ok attr → (path name dims bytes : List ℕ) (fixed : Option Fixed)
      → IsMadeWith fixed (is_whole bytes) (λ t. IsMadeOf (given_attribute name t dims bytes) made) (λ v. made ≡ Err v) → HasEdited before (SetAttr path attr) after status
      → IsMadeWith fixed (is_whole bytes) (λ t. HasMadeAndEdited before (attribute_edit path name t dims bytes) after status) (λ v. IsRefusedEarly before after (number_of v) status)
  set attr made is path name dims bytes fixed asked edited =
      let gives = λ (t : Fixed) (of : IsMadeOf (given_attribute name t dims bytes) made).
      inl (subst (λ (x : AttrSpec). HasEdited before (SetAttr path x) after status) (subst (IsMadeOf (given_attribute name t dims bytes)) is of) edited)
      in
      made_as gives (λ v no. absurd (let both = sym is ∙ no in cc)) fixed (is_whole bytes) asked

  module _ (path dims maxima fill : List ℕ) (fixed : Option Fixed) (store : Option (Store (List ℕ))) (made : Result Spec Unmade)
      (asked : IsArrayMadeWith fixed fill store (λ t s. IsMadeOf (given_array t dims maxima s fill) made) (λ v. made ≡ Err v)) where
    pub uncreated : (u : Unmade) → made ≡ Err u → after ≡ before → status ≡ number_of u
        → IsArrayMadeWith fixed fill store (λ t s. HasMadeAndEdited before (array_edit path t dims maxima s fill) after status) (λ v. IsRefusedEarly before after (number_of v) status)
    uncreated u is same number =
        array_made_as (λ t s. short u made is same number (array_edit path t dims maxima s fill) (given_array t dims maxima s fill)) (early u made is same number) fixed fill store asked

    -- an array was asked for
    pub created : (spec : Spec) → made ≡ Ok spec → HasEdited before (CreateDataset path spec) after status
        → IsArrayMadeWith fixed fill store (λ t s. HasMadeAndEdited before (array_edit path t dims maxima s fill) after status) (λ v. IsRefusedEarly before after (number_of v) status)
    created spec is edited =
        let gives = λ (t : Fixed) (s : Store (List ℕ)) (of : IsMadeOf (given_array t dims maxima s fill) made).
        inl (subst (λ (x : Spec). HasEdited before (CreateDataset path x) after status) (subst (IsMadeOf (given_array t dims maxima s fill)) is of) edited)
        in
        array_made_as gives (λ v no. absurd (let both = sym is ∙ no in cc)) fixed fill store asked
