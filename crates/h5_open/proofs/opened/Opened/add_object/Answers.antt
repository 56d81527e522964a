use Rattle.std.proofs.Common.{◌≡◌, ℕ, ◌+◌, ◌≤◌, ◌∙◌, List, Option, length, length-append, sym, ap, subst, arith}
use Rattle.std.specs.BTreeMap.{BTreeMap}
use Rattle.std.proofs.lemmas.Result.{err_from_is_err_and}
use Rattle.h5_model.specs.Format.Addresses.{SymbolTable}
use Rattle.h5_model.specs.Format.Limits.{most_bytes}
use Rattle.h5_model.specs.Format.Sizes.{text_span}
use Rattle.h5_space.specs.Space.{Space, next_place}
use Rattle.h5_group.specs.Heap.Links.{Leads, object_leads}
use Rattle.h5_group.specs.Heap.Written.{texts_span}
use Rattle.h5_group.specs.LinkEdits.{link_room}
use Rattle.h5_open.specs.declared.opened.added.ContentBytes.{ContentBytes}
use Rattle.h5_open.specs.declared.opened.added.ObjectBytes.{ObjectBytes}
use Rattle.h5_open.specs.declared.opened.object.OpenedObject.{OpenedObject}
use Rattle.h5_open.specs.ObjectAdded.{lead_at, object_bytes, stored_content}
use Rattle.h5_open.specs.Opened.Kept.{IsOpened}
use Rattle.h5_open.specs.Opened.State.{FileState, opened_state}
use Rattle.h5_open.proofs.AttributeEdits.{room_opened}
use Rattle.h5_open.proofs.GroupOf.{group_found, group_here, group_lent}
use Rattle.h5_open.proofs.LinkWritten.{fits_by, no_fault}
use Rattle.h5_open.proofs.ObjectCalls.{header_laid, object_changed, object_deep, object_full, object_name_new, object_name_one, object_opened, place_told, still_opened, told_neither}
use Rattle.h5_open.proofs.ObjectStored.{object_span}
use Rattle.h5_open.proofs.OpenedLaws.Sounds.{sound}
use Rattle.h5_open.proofs.opened.Opened.add_object.Goals as goal
use Rattle.h5_open.proofs.opened.Opened.add_object.Goals.{After-put_object, In_default}

-- the image when room was made
roomy : (old new : Space) (slots : List (Option OpenedObject)) (numbers : BTreeMap ℕ ℕ) → IsOpened old slots numbers → (bytes blocks : ℕ)
    → new ≡ record old { room_bytes = bytes; room_blocks = blocks } → IsOpened new slots numbers
roomy old new slots numbers opened bytes blocks is = room_opened old new slots numbers (ap (λ (s : Space). s.bytes) is) (ap (λ (s : Space). s.free) is) opened

roomy_view : (old new : Space) (slots : List (Option OpenedObject)) (f : FileState) → opened_state old slots ≡ f → (bytes blocks : ℕ)
    → new ≡ record old { room_bytes = bytes; room_blocks = blocks } → opened_state new slots ≡ f
roomy_view old new slots f view bytes blocks is = ap (λ (s : Space). opened_state s slots) is ∙ view

roomy_place : (old new : Space) (len at : ℕ) → at ≡ next_place len old → (bytes blocks : ℕ) → new ≡ record old { room_bytes = bytes; room_blocks = blocks } → at ≡ next_place len new
roomy_place old new len at place bytes blocks is = place ∙ sym (ap (next_place len) is)

roomy_short : (old new : Space) (t : SymbolTable) (name : List ℕ) (at : ℕ) (c : ContentBytes) (lead : Leads) → lead ≡ lead_at at c → (len bytes blocks : ℕ)
    → new ≡ record old { room_bytes = bytes; room_blocks = blocks } → length old.bytes + (link_room old.bytes t (texts_span (name, lead)) + len) ≤ most_bytes
    → length new.bytes + (link_room new.bytes t (text_span name) + len) ≤ most_bytes
roomy_short old new t name at c lead leads len bytes blocks is fits =
    subst (λ (image : List ℕ). length image + (link_room image t (text_span name) + len) ≤ most_bytes) (sym (ap (λ (s : Space). s.bytes) is))
    (subst (λ (n : ℕ). length old.bytes + (link_room old.bytes t n + len) ≤ most_bytes) (object_span at c lead leads name) fits)

-- how many bytes the object has
size_is : (b : ObjectBytes) (behind : ℕ) → behind ≡ length (stored_content b.content) → length b.header.now + behind ≡ length (object_bytes b)
size_is b behind is = omega (arith, is, length-append b.header.now (stored_content b.content))

roomy_grown : (old new : Space) (t : SymbolTable) (name : List ℕ) (b : ObjectBytes) (len : ℕ) → len ≡ length (object_bytes b)
    → length new.bytes ≤ length old.bytes + (link_room old.bytes t (text_span name) + len)
    → length new.bytes ≤ length old.bytes + (link_room old.bytes t (text_span name) + length (object_bytes b))
roomy_grown old new t name b len size = subst (λ (n : ℕ). length new.bytes ≤ length old.bytes + (link_room old.bytes t (text_span name) + n)) size

pub group_table-table-requires : goal.group_table-table-requires
group_table-table-requires c =
    let there = group_found c.self.inside.image c.self.inside.index.objects.items c.self.inside.index.numbers c.self.invariant c.args.self.now c.self.view_is c.args.parent c.requires.group in
    record { there = (there.0, group_lent c.self.inside.index.objects.items c.deref.result.now c.args.parent there.0 (sym c.deref.ensures.value) there.1) }

pub reserve_link-requires-clause-group : goal.reserve_link-requires-clause-group
reserve_link-requires-clause-group c =
    group_here c.self.inside.image c.self.inside.index.objects.items c.self.inside.index.numbers c.self.invariant c.args.self.now c.self.view_is c.args.parent c.group_table-table.result
    (group_lent c.deref.result.now c.self.inside.index.objects.items c.args.parent c.group_table-table.result c.deref.ensures.value c.group_table-table.ensures.table)

-- ---- there is no room

pub returns-in_err-reserve_link-clause-sound : goal.returns-in_err-reserve_link-clause-sound
returns-in_err-reserve_link-clause-sound c =
    let opened : IsOpened c.reserve_link.new.image c.self.inside.index.objects.items c.self.inside.index.numbers
    = subst (λ (s : Space). IsOpened s c.self.inside.index.objects.items c.self.inside.index.numbers) (sym c.in_err-reserve_link.ensures.err) c.self.invariant in
    sound c.reserve_link.new.image c.self.inside.index.objects.items c.self.inside.index.numbers opened

pub returns-in_err-reserve_link-clause-refused : goal.returns-in_err-reserve_link-clause-refused
returns-in_err-reserve_link-clause-refused c =
    let answered = err_from_is_err_and c.from_residual.result c.from_residual.ensures.1 in
    rw answered.1 (ap (λ (s : Space). opened_state s c.self.inside.index.objects.items) c.in_err-reserve_link.ensures.err ∙ c.self.view_is)

pub returns-in_err-reserve_link-clause-deep : goal.returns-in_err-reserve_link-clause-deep
returns-in_err-reserve_link-clause-deep c table is =
    let answered = err_from_is_err_and c.from_residual.result c.from_residual.ensures.1 in
    rw (answered.1, answered.2) (object_deep c.self.inside.image c.self.inside.index.objects.items c.self.inside.index.numbers c.self.invariant c.args.self.now c.self.view_is c.args.parent
    c.args.name.now c.requires.free c.group_table-table.result
    (group_lent c.deref.result.now c.self.inside.index.objects.items c.args.parent c.group_table-table.result c.deref.ensures.value c.group_table-table.ensures.table)
    _ c.in_err-reserve_link.ensures.deep table is)

pub returns-in_err-reserve_link-clause-full : goal.returns-in_err-reserve_link-clause-full
returns-in_err-reserve_link-clause-full c table is =
    let answered = err_from_is_err_and c.from_residual.result c.from_residual.ensures.1 in
    rw (answered.1, answered.2) (object_full c.self.inside.image c.self.inside.index.objects.items c.self.inside.index.numbers c.self.invariant c.args.self.now c.self.view_is c.args.parent
    c.args.name.now c.requires.free c.group_table-table.result
    (group_lent c.deref.result.now c.self.inside.index.objects.items c.args.parent c.group_table-table.result c.deref.ensures.value c.group_table-table.ensures.table)
    _ c.place_for-at.result c.args.object.now.content (object_leads c.place_of.result) c.place_of.ensures (length c.args.object.now.header.now + c.content_length.result)
    (length (object_bytes c.args.object.now)) (size_is c.args.object.now c.content_length.result c.content_length.ensures)
    c.in_err-reserve_link.ensures.full table is)

-- ---- there is no memory for what is kept

pub keep_laid-requires-clause-header : goal.keep_laid-requires-clause-header
keep_laid-requires-clause-header c =
    header_laid c.args.self.now c.args.object.now c.requires.good.0 c.requires.good.1 c.place_for-at.result
    (place_told c.self.inside.image c.self.inside.index.objects.items c.args.self.now c.self.view_is c.args.object.now (length c.args.object.now.header.now + c.content_length.result) c.place_for-at.result
    (size_is c.args.object.now c.content_length.result c.content_length.ensures) c.place_for-at.ensures)

kept_opened : (c : In_default) → IsOpened c.reserve_link.new.image c.keep_laid.new.index.objects.items c.keep_laid.new.index.numbers
kept_opened c = still_opened c.reserve_link.new.image c.self.inside.index.objects.items c.keep_laid.new.index.objects.items c.self.inside.index.numbers c.keep_laid.new.index.numbers
    (roomy c.self.inside.image c.reserve_link.new.image c.self.inside.index.objects.items c.self.inside.index.numbers c.self.invariant _ _ c.in_ok-reserve_link.ensures.room)
    c.in_default.ensures.same_slots c.in_default.ensures.same_numbers

pub invariant_of-self-in_default : goal.invariant_of-self-in_default
invariant_of-self-in_default c = kept_opened c

pub returns-in_default-clause-sound : goal.returns-in_default-clause-sound
returns-in_default-clause-sound c = sound c.reserve_link.new.image c.keep_laid.new.index.objects.items c.keep_laid.new.index.numbers (kept_opened c)

pub returns-in_default-clause-refused : goal.returns-in_default-clause-refused
returns-in_default-clause-refused c =
    ap (λ (xs : List (Option OpenedObject)). opened_state c.reserve_link.new.image xs) c.in_default.ensures.same_slots
    ∙ roomy_view c.self.inside.image c.reserve_link.new.image c.self.inside.index.objects.items c.args.self.now c.self.view_is _ _ c.in_ok-reserve_link.ensures.room

pub returns-in_default-clause-deep : goal.returns-in_default-clause-deep
returns-in_default-clause-deep c =
    object_deep c.self.inside.image c.self.inside.index.objects.items c.self.inside.index.numbers c.self.invariant c.args.self.now c.self.view_is c.args.parent
    c.args.name.now c.requires.free c.group_table-table.result
    (group_lent c.deref.result.now c.self.inside.index.objects.items c.args.parent c.group_table-table.result c.deref.ensures.value c.group_table-table.ensures.table)
    _ (told_neither _ _ _ (no_fault _ _) (λ is. absurd (cc)) c.in_ok-reserve_link.ensures.deep)

pub returns-in_default-clause-full : goal.returns-in_default-clause-full
returns-in_default-clause-full c =
    object_full c.self.inside.image c.self.inside.index.objects.items c.self.inside.index.numbers c.self.invariant c.args.self.now c.self.view_is c.args.parent
    c.args.name.now c.requires.free c.group_table-table.result
    (group_lent c.deref.result.now c.self.inside.index.objects.items c.args.parent c.group_table-table.result c.deref.ensures.value c.group_table-table.ensures.table)
    _ c.place_for-at.result c.args.object.now.content (object_leads c.place_of.result) c.place_of.ensures (length c.args.object.now.header.now + c.content_length.result)
    (length (object_bytes c.args.object.now)) (size_is c.args.object.now c.content_length.result c.content_length.ensures)
    (told_neither _ _ _ (no_fault _ _) (λ is. absurd (cc)) c.in_ok-reserve_link.ensures.full)

-- ---- the object and the link are put

pub put_object-requires-clause-group : goal.put_object-requires-clause-group
put_object-requires-clause-group c =
    group_here c.reserve_link.new.image c.self.inside.index.objects.items c.self.inside.index.numbers (roomy c.self.inside.image c.reserve_link.new.image c.self.inside.index.objects.items c.self.inside.index.numbers c.self.invariant _ _ c.in_ok-reserve_link.ensures.room)
    c.args.self.now (roomy_view c.self.inside.image c.reserve_link.new.image c.self.inside.index.objects.items c.args.self.now c.self.view_is _ _ c.in_ok-reserve_link.ensures.room) c.args.parent c.group_table-table.result
    (group_lent c.deref.result.now c.self.inside.index.objects.items c.args.parent c.group_table-table.result c.deref.ensures.value c.group_table-table.ensures.table)

pub put_object-requires-clause-new_name : goal.put_object-requires-clause-new_name
put_object-requires-clause-new_name c =
    object_name_new c.reserve_link.new.image c.self.inside.index.objects.items c.self.inside.index.numbers (roomy c.self.inside.image c.reserve_link.new.image c.self.inside.index.objects.items c.self.inside.index.numbers c.self.invariant _ _ c.in_ok-reserve_link.ensures.room)
    c.args.self.now (roomy_view c.self.inside.image c.reserve_link.new.image c.self.inside.index.objects.items c.args.self.now c.self.view_is _ _ c.in_ok-reserve_link.ensures.room) c.args.parent
    c.args.name.now c.requires.free c.group_table-table.result
    (group_lent c.deref.result.now c.self.inside.index.objects.items c.args.parent c.group_table-table.result c.deref.ensures.value c.group_table-table.ensures.table)

pub put_object-requires-clause-named : goal.put_object-requires-clause-named
put_object-requires-clause-named c =
    object_name_one c.self.inside.image c.self.inside.index.objects.items c.self.inside.index.numbers c.self.invariant c.args.self.now c.self.view_is c.args.parent
    c.args.name.now c.requires.free c.group_table-table.result
    (group_lent c.deref.result.now c.self.inside.index.objects.items c.args.parent c.group_table-table.result c.deref.ensures.value c.group_table-table.ensures.table)
    c.requires.good.0 c.requires.good.2

pub put_object-requires-clause-lead : goal.put_object-requires-clause-lead
put_object-requires-clause-lead c =
    c.place_of.ensures ∙ ap (λ (at : ℕ). lead_at at c.args.object.now.content) (roomy_place c.self.inside.image c.reserve_link.new.image (length c.args.object.now.header.now + c.content_length.result) c.place_for-at.result
    c.place_for-at.ensures _ _ c.in_ok-reserve_link.ensures.room)

pub put_object-requires-clause-short : goal.put_object-requires-clause-short
put_object-requires-clause-short c =
    let fits = fits_by _ _ _ _ (no_fault _ _) (no_fault _ _) c.in_ok-reserve_link.ensures.deep c.in_ok-reserve_link.ensures.full in
    roomy_short c.self.inside.image c.reserve_link.new.image c.group_table-table.result c.args.name.now c.place_for-at.result c.args.object.now.content (object_leads c.place_of.result) c.place_of.ensures
    (length c.args.object.now.header.now + c.content_length.result) _ _ c.in_ok-reserve_link.ensures.room fits

opened_now : (c : After-put_object) → IsOpened c.put_object.new.image c.keep_laid.new.index.objects.items c.keep_laid.new.index.numbers
opened_now c =
    object_opened c.reserve_link.new.image c.self.inside.index.objects.items c.self.inside.index.numbers (roomy c.self.inside.image c.reserve_link.new.image c.self.inside.index.objects.items c.self.inside.index.numbers c.self.invariant _ _ c.in_ok-reserve_link.ensures.room)
    c.args.self.now (roomy_view c.self.inside.image c.reserve_link.new.image c.self.inside.index.objects.items c.args.self.now c.self.view_is _ _ c.in_ok-reserve_link.ensures.room) c.args.parent
    c.args.name.now c.requires.free c.group_table-table.result
    (group_lent c.deref.result.now c.self.inside.index.objects.items c.args.parent c.group_table-table.result c.deref.ensures.value c.group_table-table.ensures.table)
    c.args.object.now c.place_for-at.result
    (place_told c.self.inside.image c.self.inside.index.objects.items c.args.self.now c.self.view_is c.args.object.now (length c.args.object.now.header.now + c.content_length.result) c.place_for-at.result
    (size_is c.args.object.now c.content_length.result c.content_length.ensures) c.place_for-at.ensures)
    c.requires.few c.in-Ok.ensures.kept.0 c.in-Ok.ensures.kept.1 c.keep_laid.new.index.objects.items c.in-Ok.ensures.kept.2 (next_place (length c.args.object.now.header.now + c.content_length.result) c.reserve_link.new.image)
    (sym (roomy_place c.self.inside.image c.reserve_link.new.image (length c.args.object.now.header.now + c.content_length.result) c.place_for-at.result c.place_for-at.ensures _ _ c.in_ok-reserve_link.ensures.room))
    c.put_object.ensures.stored.0 c.put_object.ensures.stored.1 c.put_object.new.image c.put_object.ensures.stored.2
    c.requires.good.0 c.requires.good.1 c.requires.good.2 c.keep_laid.new.index.numbers c.in-Ok.ensures.numbers.0

pub invariant_of-self-2 : goal.invariant_of-self-2
invariant_of-self-2 c = opened_now c

pub returns-clause-changed : goal.returns-clause-changed
returns-clause-changed c table object is to_be good =
    object_changed c.reserve_link.new.image c.self.inside.index.objects.items c.self.inside.index.numbers (roomy c.self.inside.image c.reserve_link.new.image c.self.inside.index.objects.items c.self.inside.index.numbers c.self.invariant _ _ c.in_ok-reserve_link.ensures.room)
    c.args.self.now (roomy_view c.self.inside.image c.reserve_link.new.image c.self.inside.index.objects.items c.args.self.now c.self.view_is _ _ c.in_ok-reserve_link.ensures.room) c.args.parent
    c.args.name.now c.requires.free c.group_table-table.result
    (group_lent c.deref.result.now c.self.inside.index.objects.items c.args.parent c.group_table-table.result c.deref.ensures.value c.group_table-table.ensures.table)
    c.args.object.now c.place_for-at.result
    (place_told c.self.inside.image c.self.inside.index.objects.items c.args.self.now c.self.view_is c.args.object.now (length c.args.object.now.header.now + c.content_length.result) c.place_for-at.result
    (size_is c.args.object.now c.content_length.result c.content_length.ensures) c.place_for-at.ensures)
    c.requires.few c.in-Ok.ensures.kept.0 c.in-Ok.ensures.kept.1 c.keep_laid.new.index.objects.items c.in-Ok.ensures.kept.2 (next_place (length c.args.object.now.header.now + c.content_length.result) c.reserve_link.new.image)
    (sym (roomy_place c.self.inside.image c.reserve_link.new.image (length c.args.object.now.header.now + c.content_length.result) c.place_for-at.result c.place_for-at.ensures _ _ c.in_ok-reserve_link.ensures.room))
    c.put_object.ensures.stored.0 c.put_object.ensures.stored.1 c.put_object.new.image c.put_object.ensures.stored.2
    object to_be good c.keep_laid.new.index.numbers c.in-Ok.ensures.numbers.0
    (roomy_grown c.reserve_link.new.image c.put_object.new.image c.group_table-table.result c.args.name.now c.args.object.now (length c.args.object.now.header.now + c.content_length.result) (size_is c.args.object.now c.content_length.result c.content_length.ensures) c.put_object.ensures.grown) table is

pub returns-clause-sound : goal.returns-clause-sound
returns-clause-sound c = sound c.put_object.new.image c.keep_laid.new.index.objects.items c.keep_laid.new.index.numbers (opened_now c)

pub returns-clause-deep : goal.returns-clause-deep
returns-clause-deep c =
    object_deep c.self.inside.image c.self.inside.index.objects.items c.self.inside.index.numbers c.self.invariant c.args.self.now c.self.view_is c.args.parent
    c.args.name.now c.requires.free c.group_table-table.result
    (group_lent c.deref.result.now c.self.inside.index.objects.items c.args.parent c.group_table-table.result c.deref.ensures.value c.group_table-table.ensures.table)
    _ c.in_ok-reserve_link.ensures.deep

pub returns-clause-full : goal.returns-clause-full
returns-clause-full c =
    object_full c.self.inside.image c.self.inside.index.objects.items c.self.inside.index.numbers c.self.invariant c.args.self.now c.self.view_is c.args.parent
    c.args.name.now c.requires.free c.group_table-table.result
    (group_lent c.deref.result.now c.self.inside.index.objects.items c.args.parent c.group_table-table.result c.deref.ensures.value c.group_table-table.ensures.table)
    _ c.place_for-at.result c.args.object.now.content (object_leads c.place_of.result) c.place_of.ensures (length c.args.object.now.header.now + c.content_length.result)
    (length (object_bytes c.args.object.now)) (size_is c.args.object.now c.content_length.result c.content_length.ensures)
    c.in_ok-reserve_link.ensures.full
