-- What the first fault of a header says of its attributes.
use Rattle.std.proofs.Common.{◌≡◌, ℕ, ◌<◌, ◌≤◌, inl, inr, List, [], ◌∷◌, Option, Some, None, suc, ◌⊎◌, eqb-true, true, false, cond, refl, sym, ◌∙◌, ap, subst, arith}
use Rattle.std.specs.Prelude.{if◌then◌else◌, nat_le}
use Rattle.std.specs.Option.{option_or}
use Rattle.std.specs.List.{AllByRecursion, AllZip, cons_option, filter, filter_map}
use Rattle.std.proofs.lemmas.Bool.Decides.{nat_tests}
use Rattle.h5_model.specs.Format.Limits.{most_cells}
use Rattle.h5_model.specs.Format.MessageTypes.{attribute_kind}
use Rattle.h5_model.specs.Format.Messages.{Message}
use Rattle.h5_model.specs.Tree.Places.{extent_cells}
use Rattle.h5_model.specs.Format.AttributeBody.{attribute_of}
use Rattle.h5_model.specs.Tree.Objects.{Attribute, Attributes}
use Rattle.h5_model.specs.Format.Reads.{HasAttributes, is_attribute_message}
use Rattle.h5_model.specs.Faults.HeaderFaults.{SomeBody, ListBreach}
use Rattle.h5_model.specs.declared.open_fault.Cause.{Cause}
use Rattle.h5_model.specs.declared.open_fault.Cause.TheVariants.{AttributeForm, TooLarge}
use Rattle.h5_attr.specs.Attributes.{attributes_in, attributes_of, HasNamesOnce, fault_of, first_fault}

-- an attribute message that is read, and whose extent is small
abbrev IsGood : Message → Type 0
IsGood m = (a : List ℕ × Attribute) × (attribute_of m.body ≡ Some a) × (extent_cells (a.1).sizes ≤ most_cells)

-- the body has another form, or its extent is large
abbrev BodyBreach : Cause → List ℕ → Type 0
BodyBreach AttributeForm body = attribute_of body ≡ None
BodyBreach TooLarge body = (a : List ℕ × Attribute) × (attribute_of body ≡ Some a) × (most_cells < extent_cells (a.1).sizes)
BodyBreach _ body = ⊥

small_test : (n : ℕ) → nat_le n most_cells ≡ true → n ≤ most_cells
small_test n h = grind (arith, nat_tests)

large_test : (n : ℕ) → nat_le n most_cells ≡ false → most_cells < n
large_test n h = grind (arith, nat_tests)

small_passes : (n : ℕ) → n ≤ most_cells → nat_le n most_cells ≡ true
small_passes n h = grind (arith, nat_tests)

good_by : (m : Message) (o : Option (List ℕ × Attribute)) → attribute_of m.body ≡ o → fault_of o ≡ None → IsGood m
good_by m None is none = cc
good_by m (Some a) is none =
    elim (nat_le (extent_cells (a.1).sizes) most_cells) as (λ b. nat_le (extent_cells (a.1).sizes) most_cells ≡ b → (if b then None else Some TooLarge) ≡ None → IsGood m) [
      | true ↦ λ small _. (a, is, small_test (extent_cells (a.1).sizes) small)
      | false ↦ λ large no. cc
    ] refl none

broken_by : (m : Message) (cause : Cause) (o : Option (List ℕ × Attribute)) → attribute_of m.body ≡ o → fault_of o ≡ Some cause → BodyBreach cause m.body
broken_by m cause None is e = let form : AttributeForm ≡ cause = cc in subst (λ (x : Cause). BodyBreach x m.body) form is
broken_by m cause (Some a) is e =
    elim (nat_le (extent_cells (a.1).sizes) most_cells) as (λ b. nat_le (extent_cells (a.1).sizes) most_cells ≡ b → (if b then None else Some TooLarge) ≡ Some cause → BodyBreach cause m.body) [
      | true ↦ λ small no. cc
      | false ↦ λ large so. let form : TooLarge ≡ cause = cc in subst (λ (x : Cause). BodyBreach x m.body) form (a, is, large_test (extent_cells (a.1).sizes) large)
    ] refl e

-- ---- no fault

both_none : (o later : Option Cause) → option_or o later ≡ None → (o ≡ None) × (later ≡ None)
both_none None later e = (refl, e)
both_none (Some cause) later e = cc

all_good : (ms : List Message) → first_fault ms ≡ None → AllByRecursion IsGood (filter is_attribute_message ms)
all_good [] e = tt
all_good (m ∷ ms) e =
    let rest = filter is_attribute_message ms in
    elim (is_attribute_message m) as (λ b. option_or (if b then fault_of (attribute_of m.body) else None) (first_fault ms) ≡ None → AllByRecursion IsGood (cond b (m ∷ rest) rest)) [
      | true ↦ λ none. let both = both_none (fault_of (attribute_of m.body)) (first_fault ms) none in (good_by m (attribute_of m.body) refl both.0, all_good ms both.1)
      | false ↦ λ none. all_good ms none
    ] e

abbrev IsRead : Message → List ℕ × Attribute → Type 0
IsRead m a = attribute_of m.body ≡ Some a

abbrev IsSmall : List ℕ × Attribute → Type 0
IsSmall a = extent_cells (a.1).sizes ≤ most_cells

each_read : (ms : List Message) → AllByRecursion IsGood ms → AllZip IsRead ms (filter_map (λ (m : Message). attribute_of m.body) ms)
each_read [] good = tt
each_read (m ∷ ms) good =
    let rest = filter_map (λ (x : Message). attribute_of x.body) ms in
    subst (λ (o : Option (List ℕ × Attribute)). AllZip IsRead (m ∷ ms) (cons_option o rest)) (sym good.0.1) (good.0.1, each_read ms good.1)

each_small : (ms : List Message) → AllByRecursion IsGood ms → AllByRecursion IsSmall (filter_map (λ (m : Message). attribute_of m.body) ms)
each_small [] good = tt
each_small (m ∷ ms) good =
    let rest = filter_map (λ (x : Message). attribute_of x.body) ms in
    subst (λ (o : Option (List ℕ × Attribute)). AllByRecursion IsSmall (cons_option o rest)) (sym good.0.1) (good.0.2, each_small ms good.1)

-- attributes that are all read and small, of different names, are those of the header
pub has_attributes : (ms : List Message) → first_fault ms ≡ None → HasNamesOnce ms → HasAttributes ms (attributes_of ms)
has_attributes ms none once =
    let good = all_good ms none in record {
      listed = attributes_in ms;
      each = each_read (filter is_attribute_message ms) good;
      distinct = once;
      small = each_small (filter is_attribute_message ms) good;
      all = refl;
    }

-- ---- and back

no_fault_here : (m : Message) (later : Option Cause) (ms : List Message) (listed : List (List ℕ × Attribute)) → AllZip IsRead (m ∷ ms) listed → AllByRecursion IsSmall listed
    → ((rest : List (List ℕ × Attribute)) → AllZip IsRead ms rest → AllByRecursion IsSmall rest → later ≡ None)
    → option_or (fault_of (attribute_of m.body)) later ≡ None
no_fault_here m later ms [] each small next = absurd each
no_fault_here m later ms (a ∷ rest) each small next =
    let passes = small_passes (extent_cells (a.1).sizes) small.0 in
    ap (λ o. option_or (fault_of o) later) each.0 ∙ ap (λ b. option_or (if b then None else Some TooLarge) later) passes ∙ next rest each.1 small.1

no_fault_by : (ms : List Message) (listed : List (List ℕ × Attribute)) → AllZip IsRead (filter is_attribute_message ms) listed → AllByRecursion IsSmall listed → first_fault ms ≡ None
no_fault_by [] listed each small = refl
no_fault_by (m ∷ ms) listed each small =
    let rest = filter is_attribute_message ms in
    elim (is_attribute_message m) as (λ b. AllZip IsRead (cond b (m ∷ rest) rest) listed → option_or (if b then fault_of (attribute_of m.body) else None) (first_fault ms) ≡ None) [
      | true ↦ λ zip. no_fault_here m (first_fault ms) rest listed zip small (λ others. no_fault_by ms others)
      | false ↦ λ zip. no_fault_by ms listed zip small
    ] each

-- a header that has attributes has no fault
pub no_fault : (ms : List Message) (attributes : Attributes) → HasAttributes ms attributes → first_fault ms ≡ None
no_fault ms attributes has = no_fault_by ms has.listed has.each has.small

-- ---- a fault

some_of : (o later : Option Cause) (cause : Cause) → option_or o later ≡ Some cause → (o ≡ Some cause) ⊎ (later ≡ Some cause)
some_of None later cause e = inr e
some_of (Some x) later cause e = inl e

behind : (m : Message) (ms : List Message) (Fails : List ℕ → Type 0) → SomeBody attribute_kind ms Fails → SomeBody attribute_kind (m ∷ ms) Fails
behind m ms Fails (x, there, kind, fails) = (x, (suc there.0, omega (arith, there.1), there.2), kind, fails)

some_body : (ms : List Message) (cause : Cause) → first_fault ms ≡ Some cause → SomeBody attribute_kind ms (BodyBreach cause)
some_body [] cause e = cc
some_body (m ∷ ms) cause e =
    elim (is_attribute_message m) as (λ b. is_attribute_message m ≡ b → option_or (if b then fault_of (attribute_of m.body) else None) (first_fault ms) ≡ Some cause → SomeBody attribute_kind (m ∷ ms) (BodyBreach cause)) [
      | true ↦ λ is e. elim (some_of (fault_of (attribute_of m.body)) (first_fault ms) cause e) [
        | inl here ↦ (m, (0, omega arith, refl), eqb-true m.kind attribute_kind is, broken_by m cause (attribute_of m.body) refl here)
        | inr later ↦ behind m ms (BodyBreach cause) (some_body ms cause later)
      ]
      | false ↦ λ is later. behind m ms (BodyBreach cause) (some_body ms cause later)
    ] refl e

list_breach : (image : List ℕ) (header : ℕ) (ms : List Message) (cause : Cause) → SomeBody attribute_kind ms (BodyBreach cause) → ListBreach image header ms cause
list_breach image header ms AttributeForm some = some
list_breach image header ms TooLarge some = inr (inl some)
list_breach image header ms _ (m, there, kind, fails) = absurd fails

-- the first fault is a rule that the header breaks
pub fault_breaks : (image : List ℕ) (header : ℕ) (ms : List Message) (cause : Cause) → first_fault ms ≡ Some cause → ListBreach image header ms cause
fault_breaks image header ms cause e = list_breach image header ms cause (some_body ms cause e)
