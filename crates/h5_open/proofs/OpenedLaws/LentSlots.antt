-- A slot that is lent, of a number that has an object.
use Rattle.std.proofs.Common.{◌≡◌, ◌<◌, ◌∙◌, ℕ, Bor, MutBor, IsSome, List, Option, Some, None, get_or, length, refl, sym, ap}
use Rattle.std.specs.Prelude.{slice_get}
use Rattle.std.specs.Option.{option_copied, option_copied_mut}
use Rattle.std.proofs.lemmas.Option.{same_Some, slice_get_read, slice_get_within}
use Rattle.h5_open.specs.declared.opened.object.OpenedObject.{OpenedObject}

-- what was read there is the object
pub slot_read : (slots : List (Option OpenedObject)) (n : ℕ) (o : OpenedObject) → slice_get slots n ≡ Some (Some o) → (slot : Option OpenedObject) → slot ≡ get_or slots n slot → slot ≡ Some o
slot_read slots n o at slot is =
    let low : n < length slots = slice_get_within slots n (Some o) at in
    same_Some slot (Some o) (sym (slice_get_read slots (length slots) n slot refl low is) ∙ at)

pub lent_some : (r : Option (Bor OpenedObject)) (o : OpenedObject) → option_copied r ≡ Some o → IsSome r
lent_some None o is = absurd (let never : None ≡ Some o = is in cc)
lent_some (Some x) o is = refl

-- and what is lent
pub slot_lent : (slots : List (Option OpenedObject)) (n : ℕ) (o : OpenedObject) → slice_get slots n ≡ Some (Some o) → (slot : Option OpenedObject) → slot ≡ get_or slots n slot
    → (r : Option (Bor OpenedObject)) → option_copied r ≡ slot → (b : Bor OpenedObject) → r ≡ Some b → slice_get slots n ≡ Some (Some b.now)
slot_lent slots n o at slot read r lent b is =
    let found = lent ∙ slot_read slots n o at slot read in
    let here = ap (λ (x : Option (Bor OpenedObject)). option_copied x) is in
    let same : o ≡ b.now = same_Some o b.now (sym found ∙ here) in
    at ∙ ap (λ (x : OpenedObject). Some (Some x)) same

-- the same where it is lent to be changed
pub lent_some_mut : (r : Option (MutBor OpenedObject)) (o : OpenedObject) → option_copied_mut r ≡ Some o → IsSome r
lent_some_mut None o is = absurd (let never : None ≡ Some o = is in cc)
lent_some_mut (Some x) o is = refl

pub slot_lent_mut : (slots : List (Option OpenedObject)) (n : ℕ) (o : OpenedObject) → slice_get slots n ≡ Some (Some o) → (slot : Option OpenedObject) → slot ≡ get_or slots n slot
    → (r : Option (MutBor OpenedObject)) → option_copied_mut r ≡ slot → (b : MutBor OpenedObject) → r ≡ Some b → slice_get slots n ≡ Some (Some b.now)
slot_lent_mut slots n o at slot read r lent b is =
    let found = lent ∙ slot_read slots n o at slot read in
    let here = ap (λ (x : Option (MutBor OpenedObject)). option_copied_mut x) is in
    let same : o ≡ b.now = same_Some o b.now (sym found ∙ here) in
    at ∙ ap (λ (x : OpenedObject). Some (Some x)) same
