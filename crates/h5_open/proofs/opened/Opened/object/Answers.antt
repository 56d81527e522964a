use Rattle.std.proofs.Common.{◌≡◌, ◌<◌, ◌≤◌, ◌∙◌, ℕ, Bor, List, Option, Some, None, length, refl, sym, ap, subst, arith}
use Rattle.std.specs.Prelude.{MatchOption, slice_get}
use Rattle.std.specs.FinMap.{get}
use Rattle.std.specs.Option.{option_copied, option_flatten}
use Rattle.std.specs.Slice.{IsItemAt}
use Rattle.std.proofs.lemmas.Bool.Decides.{nat_tests}
use Rattle.std.proofs.lemmas.Option.{slice_get_past, slice_get_read}
use Rattle.h5_open.specs.declared.opened.object.OpenedObject.{OpenedObject}
use Rattle.h5_open.specs.Opened.Sound.{IsSound, IsObjectOf}
use Rattle.h5_open.specs.Opened.State.{FileState}
use Rattle.h5_open.proofs.OpenedLaws.Sounds.{none_found, object_of, sound}
use Rattle.h5_open.proofs.opened.Opened.object.Goals as goal

-- a slot that was lent
got_none : (slots items : List (Option OpenedObject)) (n : ℕ) → items ≡ slots → IsItemAt items n None → slice_get slots n ≡ None
got_none slots items n same none =
    let past : length items ≤ n = grind (arith, nat_tests, none.0) in
    ap (λ (s : List (Option OpenedObject)). slice_get s n) (sym same) ∙ slice_get_past items n past

got_some : (slots items : List (Option OpenedObject)) (n : ℕ) (slot : Bor (Option OpenedObject)) → items ≡ slots → IsItemAt items n (Some slot) → slice_get slots n ≡ Some slot.now
got_some slots items n slot same some =
    let inside : n < length items = grind (arith, nat_tests, some.0) in
    ap (λ (s : List (Option OpenedObject)). slice_get s n) (sym same) ∙ slice_get_read items (length items) n slot.now refl inside some.1

pub returns-in_err-get-clause-found : goal.returns-in_err-get-clause-found
returns-in_err-get-clause-found c =
    let kept = c.self.inside.index in
    let n = c.args.number in
    let none = got_none kept.objects.items c.deref.result.now n c.deref.ensures.value c.in_err-get.ensures.lookup in
    rw c.from_residual.ensures (subst (λ (f : FileState). get f.table n ≡ None) c.self.view_is
    (none_found c.self.inside.image kept.objects.items kept.numbers c.self.invariant n (ap option_flatten none)))

pub returns-in_err-get-clause-sound : goal.returns-in_err-get-clause-sound
returns-in_err-get-clause-sound c = subst IsSound c.self.view_is (sound c.self.inside.image c.self.inside.index.objects.items c.self.inside.index.numbers c.self.invariant)

pub returns-clause-found : goal.returns-clause-found
returns-clause-found c = go c.as_ref.result c.as_ref.ensures.value where
  slots : List (Option OpenedObject)
  slots = c.self.inside.index.objects.items

  here : slice_get slots c.args.number ≡ Some c.in_ok-get.field-0.now
  here = got_some slots c.deref.result.now c.args.number c.in_ok-get.field-0 c.deref.ensures.value c.in_ok-get.ensures.lookup

  go : (r : Option (Bor OpenedObject)) → option_copied r ≡ c.in_ok-get.field-0.now
      → MatchOption r (get c.args.self.now.table c.args.number ≡ None) (λ o. IsObjectOf c.args.self.now c.args.number o.now)
  go None is =
      subst (λ (f : FileState). get f.table c.args.number ≡ None) c.self.view_is
      (none_found c.self.inside.image slots c.self.inside.index.numbers c.self.invariant c.args.number (ap option_flatten here ∙ sym is))
  go (Some o) is =
      subst (λ (f : FileState). IsObjectOf f c.args.number o.now) c.self.view_is
      (object_of c.self.inside.image slots c.self.inside.index.numbers c.self.invariant c.args.number o.now (here ∙ ap (λ (s : Option OpenedObject). Some s) (sym is)))

pub returns-clause-sound : goal.returns-clause-sound
returns-clause-sound c = subst IsSound c.self.view_is (sound c.self.inside.image c.self.inside.index.objects.items c.self.inside.index.numbers c.self.invariant)
