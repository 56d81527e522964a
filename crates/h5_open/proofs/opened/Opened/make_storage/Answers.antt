use Rattle.std.proofs.Common.{◌≡◌, ℕ, Bor, get_or, ◌+◌, ◌≤◌, ◌∙◌, length, List, Option, Some, sym, subst, arith}
use Rattle.std.specs.Prelude.{slice_get}
use Rattle.std.specs.BTreeMap.{BTreeMap}
use Rattle.std.specs.Option.{option_copied}
use Rattle.std.proofs.lemmas.Option.{slice_get_within}
use Rattle.std.proofs.lemmas.Result.{err_from_is_err_and}
use Rattle.h5_model.specs.Format.Limits.{most_bytes}
use Rattle.h5_space.specs.Space.{Space}
use Rattle.h5_layout.specs.declared.lacking.Missing.{Missing}
use Rattle.h5_open.specs.declared.opened.object.OpenedObject.{OpenedObject}
use Rattle.h5_layout.specs.ArrayEdits.{described_in}
use Rattle.h5_layout.specs.Storage.{storage_bytes}
use Rattle.h5_open.specs.Opened.Kept.{IsOpened}
use Rattle.h5_open.specs.Opened.State.{FileState, opened_state}
use Rattle.h5_open.proofs.LinkWritten.{fits_by, no_fault}
use Rattle.h5_open.proofs.OpenedLaws.LentSlots.{lent_some, slot_lent, slot_read}
use Rattle.h5_open.proofs.OpenedLaws.Sounds.{sound}
use Rattle.h5_open.proofs.StorageCalls.{IsLacking, apart_here, deep_first_said, deep_said, full_said}
use Rattle.h5_open.proofs.StorageCalls.{made_changed, made_opened, made_placed, made_stored, missing_here, slot, superblock_there}
use Rattle.h5_open.proofs.opened.Opened.make_storage.Goals as goal
use Rattle.h5_open.proofs.opened.Opened.make_storage.Goals.{After-write_end}

-- the slot that is lent is the array's
lent : (image : Space) (slots : List (Option OpenedObject)) (numbers : BTreeMap ℕ ℕ) (opened : IsOpened image slots numbers)
    (f : FileState) (view : opened_state image slots ≡ f) (number : ℕ) (missing : Missing) (lacking : IsLacking f number missing)
    (read : Option OpenedObject) → read ≡ get_or slots number read
    → (r : Option (Bor OpenedObject)) → option_copied r ≡ read → (b : Bor OpenedObject) → r ≡ Some b → slice_get slots number ≡ Some (Some b.now)
lent image slots numbers opened f view number missing lacking =
    let there = slot image slots numbers opened f view number missing lacking in
    slot_lent slots number there.0 there.1

pub index-requires : goal.index-requires
index-requires c =
    let there = slot c.self.inside.image c.self.inside.index.objects.items c.self.inside.index.numbers c.self.invariant c.args.self.now c.self.view_is
    c.args.number c.args.missing.now c.requires.missing in
    omega (arith, slice_get_within c.self.inside.index.objects.items c.args.number (Some there.0) there.1)

pub unwrap-object-requires : goal.unwrap-object-requires
unwrap-object-requires c =
    let there = slot c.self.inside.image c.self.inside.index.objects.items c.self.inside.index.numbers c.self.invariant c.args.self.now c.self.view_is
    c.args.number c.args.missing.now c.requires.missing in
    lent_some c.as_ref.result there.0
    (c.as_ref.ensures.value ∙ slot_read c.self.inside.index.objects.items c.args.number there.0 there.1 c.index.result.now c.index.ensures)

pub make_all_or_none-requires-clause-array : goal.make_all_or_none-requires-clause-array
make_all_or_none-requires-clause-array c =
    let at = lent c.self.inside.image c.self.inside.index.objects.items c.self.inside.index.numbers c.self.invariant c.args.self.now c.self.view_is
    c.args.number c.args.missing.now c.requires.missing
    c.index.result.now c.index.ensures c.as_ref.result c.as_ref.ensures.value c.unwrap-object.result c.unwrap-object.ensures in
    apart_here c.self.inside.image c.self.inside.index.objects.items c.self.inside.index.numbers c.self.invariant c.args.self.now c.self.view_is
    c.args.number c.args.missing.now c.requires.missing c.unwrap-object.result.now at

pub make_all_or_none-requires-clause-missing : goal.make_all_or_none-requires-clause-missing
make_all_or_none-requires-clause-missing c =
    let at = lent c.self.inside.image c.self.inside.index.objects.items c.self.inside.index.numbers c.self.invariant c.args.self.now c.self.view_is
    c.args.number c.args.missing.now c.requires.missing
    c.index.result.now c.index.ensures c.as_ref.result c.as_ref.ensures.value c.unwrap-object.result c.unwrap-object.ensures in
    missing_here c.self.inside.image c.self.inside.index.objects.items c.self.inside.index.numbers c.self.invariant c.args.self.now c.self.view_is
    c.args.number c.args.missing.now c.requires.missing c.unwrap-object.result.now at

-- ---- refused

pub returns-in_err-at-clause-sound : goal.returns-in_err-at-clause-sound
returns-in_err-at-clause-sound c =
    let opened : IsOpened c.make_all_or_none.new.image c.self.inside.index.objects.items c.self.inside.index.numbers
    = subst (λ (s : Space). IsOpened s c.self.inside.index.objects.items c.self.inside.index.numbers) (sym c.in_err-at.ensures.refused) c.self.invariant in
    sound c.make_all_or_none.new.image c.self.inside.index.objects.items c.self.inside.index.numbers opened

pub returns-in_err-at-clause-deep : goal.returns-in_err-at-clause-deep
returns-in_err-at-clause-deep c a is =
    let answered = err_from_is_err_and c.from_residual.result c.from_residual.ensures.1 in
    let at = lent c.self.inside.image c.self.inside.index.objects.items c.self.inside.index.numbers c.self.invariant c.args.self.now c.self.view_is
    c.args.number c.args.missing.now c.requires.missing
    c.index.result.now c.index.ensures c.as_ref.result c.as_ref.ensures.value c.unwrap-object.result c.unwrap-object.ensures in
    rw (answered.1, answered.2)
    (deep_said c.self.inside.image c.self.inside.index.objects.items c.self.inside.index.numbers c.self.invariant c.args.self.now c.self.view_is
    c.args.number c.args.missing.now c.requires.missing c.unwrap-object.result.now at _ c.in_err-at.ensures.deep a is)

pub returns-in_err-at-clause-deep_first : goal.returns-in_err-at-clause-deep_first
returns-in_err-at-clause-deep_first c a is =
    let answered = err_from_is_err_and c.from_residual.result c.from_residual.ensures.1 in
    let at = lent c.self.inside.image c.self.inside.index.objects.items c.self.inside.index.numbers c.self.invariant c.args.self.now c.self.view_is
    c.args.number c.args.missing.now c.requires.missing
    c.index.result.now c.index.ensures c.as_ref.result c.as_ref.ensures.value c.unwrap-object.result c.unwrap-object.ensures in
    rw (answered.1, answered.2)
    (deep_first_said c.self.inside.image c.self.inside.index.objects.items c.self.inside.index.numbers c.self.invariant c.args.self.now c.self.view_is
    c.args.number c.args.missing.now c.requires.missing c.unwrap-object.result.now at _ c.in_err-at.ensures.deep_first a is)

pub returns-in_err-at-clause-full : goal.returns-in_err-at-clause-full
returns-in_err-at-clause-full c a is =
    let answered = err_from_is_err_and c.from_residual.result c.from_residual.ensures.1 in
    let at = lent c.self.inside.image c.self.inside.index.objects.items c.self.inside.index.numbers c.self.invariant c.args.self.now c.self.view_is
    c.args.number c.args.missing.now c.requires.missing
    c.index.result.now c.index.ensures c.as_ref.result c.as_ref.ensures.value c.unwrap-object.result c.unwrap-object.ensures in
    rw (answered.1, answered.2)
    (full_said c.self.inside.image c.self.inside.index.objects.items c.self.inside.index.numbers c.self.invariant c.args.self.now c.self.view_is
    c.args.number c.args.missing.now c.requires.missing c.unwrap-object.result.now at _ c.in_err-at.ensures.full a is)

-- ---- made

pub write_end-requires-clause-superblock : goal.write_end-requires-clause-superblock
write_end-requires-clause-superblock c =
    let at = lent c.self.inside.image c.self.inside.index.objects.items c.self.inside.index.numbers c.self.invariant c.args.self.now c.self.view_is
    c.args.number c.args.missing.now c.requires.missing
    c.index.result.now c.index.ensures c.as_ref.result c.as_ref.ensures.value c.unwrap-object.result c.unwrap-object.ensures in
    superblock_there c.self.inside.image c.self.inside.index.objects.items c.self.inside.index.numbers c.self.invariant c.args.self.now c.self.view_is
    c.args.number c.args.missing.now c.requires.missing c.unwrap-object.result.now at c.make_all_or_none.new.image c.in_ok-at.ensures.made

at_end : (c : After-write_end) → slice_get c.self.inside.index.objects.items c.args.number ≡ Some (Some c.unwrap-object.result.now)
at_end c = lent c.self.inside.image c.self.inside.index.objects.items c.self.inside.index.numbers c.self.invariant c.args.self.now c.self.view_is
    c.args.number c.args.missing.now c.requires.missing
    c.index.result.now c.index.ensures c.as_ref.result c.as_ref.ensures.value c.unwrap-object.result c.unwrap-object.ensures

fits : (c : After-write_end) → length c.self.inside.image.bytes
    + storage_bytes c.self.inside.image.bytes (described_in c.self.inside.image.bytes c.unwrap-object.result.now.messages) c.args.missing.now ≤ most_bytes
fits c =
    let e = c.in_ok-at.ensures in
    fits_by _ _ _ _ (λ deep. no_fault _ _ (e.deep_first deep)) (no_fault _ _) ((λ deep. deep), (λ deep. deep)) e.full

opened_now : (c : After-write_end) → IsOpened c.write_end.new.image c.self.inside.index.objects.items c.self.inside.index.numbers
opened_now c =
    let e = c.in_ok-at.ensures in
    let t = c.write_end.ensures in
    made_opened c.self.inside.image c.self.inside.index.objects.items c.self.inside.index.numbers c.self.invariant c.args.self.now c.self.view_is
    c.args.number c.args.missing.now c.requires.missing c.unwrap-object.result.now (at_end c)
    c.make_all_or_none.new.image c.write_end.new.image e.made e.spends (fits c) t.moves t.end t.length

pub invariant_of-self-2 : goal.invariant_of-self-2
invariant_of-self-2 c = opened_now c

pub returns-clause-changed : goal.returns-clause-changed
returns-clause-changed c =
    let e = c.in_ok-at.ensures in
    let t = c.write_end.ensures in
    made_changed c.self.inside.image c.self.inside.index.objects.items c.self.inside.index.numbers c.self.invariant c.args.self.now c.self.view_is
    c.args.number c.args.missing.now c.requires.missing c.unwrap-object.result.now (at_end c)
    c.make_all_or_none.new.image c.write_end.new.image e.made e.spends (fits c) t.moves t.end t.length

pub returns-clause-sound : goal.returns-clause-sound
returns-clause-sound c = sound c.write_end.new.image c.self.inside.index.objects.items c.self.inside.index.numbers (opened_now c)

pub returns-clause-stored : goal.returns-clause-stored
returns-clause-stored c =
    let e = c.in_ok-at.ensures in
    let t = c.write_end.ensures in
    made_stored c.self.inside.image c.self.inside.index.objects.items c.self.inside.index.numbers c.self.invariant c.args.self.now c.self.view_is
    c.args.number c.args.missing.now c.requires.missing c.unwrap-object.result.now (at_end c)
    c.make_all_or_none.new.image c.write_end.new.image e.made e.spends (fits c) t.moves t.end t.length

pub returns-clause-placed : goal.returns-clause-placed
returns-clause-placed c =
    let e = c.in_ok-at.ensures in
    let t = c.write_end.ensures in
    made_placed c.self.inside.image c.self.inside.index.objects.items c.self.inside.index.numbers c.self.invariant c.args.self.now c.self.view_is
    c.args.number c.args.missing.now c.requires.missing c.unwrap-object.result.now (at_end c)
    c.make_all_or_none.new.image c.write_end.new.image e.made e.spends (fits c) t.moves t.end t.length _ e.placed

pub returns-clause-deep_first : goal.returns-clause-deep_first
returns-clause-deep_first c =
    deep_first_said c.self.inside.image c.self.inside.index.objects.items c.self.inside.index.numbers c.self.invariant c.args.self.now c.self.view_is
    c.args.number c.args.missing.now c.requires.missing c.unwrap-object.result.now (at_end c) _ c.in_ok-at.ensures.deep_first

pub returns-clause-full : goal.returns-clause-full
returns-clause-full c =
    full_said c.self.inside.image c.self.inside.index.objects.items c.self.inside.index.numbers c.self.invariant c.args.self.now c.self.view_is
    c.args.number c.args.missing.now c.requires.missing c.unwrap-object.result.now (at_end c) _ c.in_ok-at.ensures.full
