use Rattle.std.proofs.Common.{◌≡◌, ℕ, ◌+◌, ◌≤◌, ◌∙◌, List, Option, Some, length, sym, ap, subst, arith}
use Rattle.std.specs.Prelude.{slice_get}
use Rattle.std.proofs.lemmas.Option.{same_Some, slice_get_within}
use Rattle.std.proofs.lemmas.Result.{err_from_is_err_and}
use Rattle.h5_model.specs.Format.Limits.{most_bytes}
use Rattle.h5_model.specs.declared.link.LinkTo.{LinkTo}
use Rattle.h5_model.specs.declared.link.LinkTo.TheVariants as to
use Rattle.h5_model.specs.declared.object_no.ObjectNo.{ObjectNo}
use Rattle.h5_model.specs.Format.PlainLength.{link_span}
use Rattle.h5_model.specs.Format.Superblock.{superblock_length}
use Rattle.h5_model.specs.Tree.Links.{tree_link, tree_target}
use Rattle.h5_space.specs.Space.{Space}
use Rattle.h5_group.specs.Heap.Links.{Leads, leads_of}
use Rattle.h5_group.specs.Heap.Written.{texts_span}
use Rattle.h5_group.specs.LinkEdits.{link_room}
use Rattle.h5_open.specs.declared.index.Index.{Index}
use Rattle.h5_open.specs.declared.opened.Opened.TheInside.{Inside}
use Rattle.h5_open.specs.declared.opened.object.OpenedObject.{OpenedObject}
use Rattle.h5_open.specs.ChangedInPlace.{IsChangedInPlace}
use Rattle.h5_open.specs.LinkAdded.{IsArraySlot, IsLeadOf, IsTargetSlot, ends_of, with_link}
use Rattle.h5_open.specs.Opened.Kept.{IsOpened}
use Rattle.h5_open.specs.Opened.State.{opened_state}
use Rattle.h5_open.proofs.GroupOf.{group_lent}
use Rattle.h5_open.proofs.LinkWritten.{IsCountedAt, IsHeaderCounted, added_changed, added_opened, array_few, array_standing, deep_told, fits_by, full_told, group_stands, group_there, lead_plain, name_new, name_one, no_fault, superblock_there, target_there}
use Rattle.h5_open.proofs.OpenedLaws.LentSlots.{lent_some, slot_lent, slot_read}
use Rattle.h5_open.proofs.OpenedLaws.Sounds.{sound}
use Rattle.h5_open.proofs.opened.Opened.add_link.Goals as goal
use Rattle.h5_open.proofs.opened.Opened.add_link.Goals.{After-write_end, in-Object, in_default}

-- the slots that were lent
lead_there : (slots items : List (Option OpenedObject)) (target : LinkTo ObjectNo) (lead : Leads) → items ≡ slots → IsLeadOf items target lead → IsLeadOf slots target lead
lead_there slots items target lead same = subst (λ (xs : List (Option OpenedObject)). IsLeadOf xs target lead) same

-- the array to which the link leads
array_there : (slots : List (Option OpenedObject)) (target : LinkTo ObjectNo) (number : ObjectNo) → target ≡ to.Object number → IsTargetSlot slots target → (o : OpenedObject) × IsArraySlot slots number.0 o
array_there slots target number is = subst (IsTargetSlot slots) is

array_lent : (slots : List (Option OpenedObject)) (n : ℕ) (there : (o : OpenedObject) × IsArraySlot slots n o) (o : OpenedObject) → slice_get slots n ≡ Some (Some o) → IsArraySlot slots n o
array_lent slots n there o at =
    let one : there.0 ≡ o = same_Some there.0 o (same_Some (Some there.0) (Some o) (sym there.1.0 ∙ at)) in
    subst (IsArraySlot slots n) one there.1

pub group_table-table-requires : goal.group_table-table-requires
group_table-table-requires c =
    let there = group_there c.self.inside.image c.self.inside.index.objects.items c.self.inside.index.numbers c.self.invariant c.args.self.now c.self.view_is c.args.parent c.args.link.now
    c.requires.group c.requires.free c.requires.target c.requires.good in
    record { there = (there.0, group_lent c.self.inside.index.objects.items c.deref.result.now c.args.parent there.0 (sym c.deref.ensures.value) there.1) }

pub place_of-to-requires : goal.place_of-to-requires
place_of-to-requires c =
    let there = target_there c.self.inside.image c.self.inside.index.objects.items c.self.inside.index.numbers c.self.invariant c.args.self.now c.self.view_is c.args.parent c.args.link.now
    c.requires.group c.requires.free c.requires.target c.requires.good in
    record { there = subst (λ (slots : List (Option OpenedObject)). IsTargetSlot slots c.args.link.now.to) (sym c.deref-2.ensures.value) there }

pub put_link-requires-clause-group : goal.put_link-requires-clause-group
put_link-requires-clause-group c =
    group_stands c.self.inside.image c.self.inside.index.objects.items c.self.inside.index.numbers c.self.invariant c.args.self.now c.self.view_is c.args.parent c.args.link.now
    c.requires.group c.requires.free c.requires.target c.requires.good
    c.group_table-table.result (group_lent c.deref.result.now c.self.inside.index.objects.items c.args.parent c.group_table-table.result c.deref.ensures.value c.group_table-table.ensures.table)

pub put_link-requires-clause-new_name : goal.put_link-requires-clause-new_name
put_link-requires-clause-new_name c =
    name_new c.self.inside.image c.self.inside.index.objects.items c.self.inside.index.numbers c.self.invariant c.args.self.now c.self.view_is c.args.parent c.args.link.now
    c.requires.group c.requires.free c.requires.target c.requires.good
    c.group_table-table.result (group_lent c.deref.result.now c.self.inside.index.objects.items c.args.parent c.group_table-table.result c.deref.ensures.value c.group_table-table.ensures.table)

pub put_link-requires-clause-named : goal.put_link-requires-clause-named
put_link-requires-clause-named c =
    name_one c.self.inside.image c.self.inside.index.objects.items c.self.inside.index.numbers c.self.invariant c.args.self.now c.self.view_is c.args.parent c.args.link.now
    c.requires.group c.requires.free c.requires.target c.requires.good
    c.group_table-table.result (group_lent c.deref.result.now c.self.inside.index.objects.items c.args.parent c.group_table-table.result c.deref.ensures.value c.group_table-table.ensures.table)

pub put_link-requires-clause-plain : goal.put_link-requires-clause-plain
put_link-requires-clause-plain c =
    lead_plain c.self.inside.image c.self.inside.index.objects.items c.self.inside.index.numbers c.self.invariant c.args.self.now c.self.view_is c.args.parent c.args.link.now
    c.requires.group c.requires.free c.requires.target c.requires.good
    c.group_table-table.result (group_lent c.deref.result.now c.self.inside.index.objects.items c.args.parent c.group_table-table.result c.deref.ensures.value c.group_table-table.ensures.table)
    (leads_of c.place_of-to.result) (lead_there c.self.inside.index.objects.items c.deref-2.result.now c.args.link.now.to (leads_of c.place_of-to.result) c.deref-2.ensures.value c.place_of-to.ensures.place)

-- ---- refused

pub returns-in_err-put_link-clause-sound : goal.returns-in_err-put_link-clause-sound
returns-in_err-put_link-clause-sound c =
    let opened : IsOpened c.put_link.new.image c.self.inside.index.objects.items c.self.inside.index.numbers
    = subst (λ (s : Space). IsOpened s c.self.inside.index.objects.items c.self.inside.index.numbers) (sym c.in_err-put_link.ensures.err) c.self.invariant in
    sound c.put_link.new.image c.self.inside.index.objects.items c.self.inside.index.numbers opened

pub returns-in_err-put_link-clause-refused : goal.returns-in_err-put_link-clause-refused
returns-in_err-put_link-clause-refused c =
    let answered = err_from_is_err_and c.from_residual.result c.from_residual.ensures.1 in
    rw answered.1 (ap (λ (s : Space). opened_state s c.self.inside.index.objects.items) c.in_err-put_link.ensures.err ∙ c.self.view_is)

pub returns-in_err-put_link-clause-deep : goal.returns-in_err-put_link-clause-deep
returns-in_err-put_link-clause-deep c table is =
    let answered = err_from_is_err_and c.from_residual.result c.from_residual.ensures.1 in
    rw (answered.1, answered.2) (deep_told c.self.inside.image c.self.inside.index.objects.items c.self.inside.index.numbers c.self.invariant c.args.self.now c.self.view_is c.args.parent c.args.link.now
    c.requires.group c.requires.free c.requires.target c.requires.good
    c.group_table-table.result (group_lent c.deref.result.now c.self.inside.index.objects.items c.args.parent c.group_table-table.result c.deref.ensures.value c.group_table-table.ensures.table)
    _ c.in_err-put_link.ensures.deep table is)

pub returns-in_err-put_link-clause-full : goal.returns-in_err-put_link-clause-full
returns-in_err-put_link-clause-full c table is =
    let answered = err_from_is_err_and c.from_residual.result c.from_residual.ensures.1 in
    rw (answered.1, answered.2) (full_told c.self.inside.image c.self.inside.index.objects.items c.self.inside.index.numbers c.self.invariant c.args.self.now c.self.view_is c.args.parent c.args.link.now
    c.requires.group c.requires.free c.requires.target c.requires.good
    c.group_table-table.result (group_lent c.deref.result.now c.self.inside.index.objects.items c.args.parent c.group_table-table.result c.deref.ensures.value c.group_table-table.ensures.table)
    (leads_of c.place_of-to.result) (lead_there c.self.inside.index.objects.items c.deref-2.result.now c.args.link.now.to (leads_of c.place_of-to.result) c.deref-2.ensures.value c.place_of-to.ensures.place)
    _ c.in_err-put_link.ensures.full table is)

-- ---- counted

pub index-requires : goal.index-requires
index-requires c =
    let slots = c.self.inside.index.objects.items in
    let number = c.in-Object.number in
    let there = array_there slots c.args.link.now.to number c.in-Object.is (target_there c.self.inside.image c.self.inside.index.objects.items c.self.inside.index.numbers c.self.invariant c.args.self.now c.self.view_is c.args.parent c.args.link.now
    c.requires.group c.requires.free c.requires.target c.requires.good) in
    omega (arith, slice_get_within slots number.0 (Some there.0) there.1.0)

pub unwrap-target-requires : goal.unwrap-target-requires
unwrap-target-requires c =
    let slots = c.self.inside.index.objects.items in
    let number = c.in-Object.number in
    let there = array_there slots c.args.link.now.to number c.in-Object.is (target_there c.self.inside.image c.self.inside.index.objects.items c.self.inside.index.numbers c.self.invariant c.args.self.now c.self.view_is c.args.parent c.args.link.now
    c.requires.group c.requires.free c.requires.target c.requires.good) in
    lent_some c.as_ref.result there.0 (c.as_ref.ensures.value ∙ slot_read slots number.0 there.0 there.1.0 c.index.result.now c.index.ensures)

pub count_link-requires-clause-standing : goal.count_link-requires-clause-standing
count_link-requires-clause-standing c =
    let slots = c.self.inside.index.objects.items in
    let number = c.in-Object.number in
    let there = array_there slots c.args.link.now.to number c.in-Object.is (target_there c.self.inside.image c.self.inside.index.objects.items c.self.inside.index.numbers c.self.invariant c.args.self.now c.self.view_is c.args.parent c.args.link.now
    c.requires.group c.requires.free c.requires.target c.requires.good) in
    let at = slot_lent slots number.0 there.0 there.1.0 c.index.result.now c.index.ensures c.as_ref.result c.as_ref.ensures.value c.unwrap-target.result c.unwrap-target.ensures in
    let e = c.in_ok-put_link.ensures in
    array_standing c.self.inside.image c.self.inside.index.objects.items c.self.inside.index.numbers c.self.invariant c.args.self.now c.self.view_is c.args.parent c.args.link.now
    c.requires.group c.requires.free c.requires.target c.requires.good
    c.group_table-table.result (group_lent c.deref.result.now c.self.inside.index.objects.items c.args.parent c.group_table-table.result c.deref.ensures.value c.group_table-table.ensures.table)
    (leads_of c.place_of-to.result) (lead_there c.self.inside.index.objects.items c.deref-2.result.now c.args.link.now.to (leads_of c.place_of-to.result) c.deref-2.ensures.value c.place_of-to.ensures.place)
    c.put_link.new.image e.put e.group e.moves e.k e.exact number.0 c.unwrap-target.result.now (array_lent slots number.0 there c.unwrap-target.result.now at)

pub count_link-requires-clause-few : goal.count_link-requires-clause-few
count_link-requires-clause-few c =
    let slots = c.self.inside.index.objects.items in
    let number = c.in-Object.number in
    let there = array_there slots c.args.link.now.to number c.in-Object.is (target_there c.self.inside.image c.self.inside.index.objects.items c.self.inside.index.numbers c.self.invariant c.args.self.now c.self.view_is c.args.parent c.args.link.now
    c.requires.group c.requires.free c.requires.target c.requires.good) in
    let at = slot_lent slots number.0 there.0 there.1.0 c.index.result.now c.index.ensures c.as_ref.result c.as_ref.ensures.value c.unwrap-target.result c.unwrap-target.ensures in
    let e = c.in_ok-put_link.ensures in
    array_few c.self.inside.image c.self.inside.index.objects.items c.self.inside.index.numbers c.self.invariant c.args.self.now c.self.view_is c.args.parent c.args.link.now
    c.requires.group c.requires.free c.requires.target c.requires.good
    c.group_table-table.result (group_lent c.deref.result.now c.self.inside.index.objects.items c.args.parent c.group_table-table.result c.deref.ensures.value c.group_table-table.ensures.table)
    (leads_of c.place_of-to.result) (lead_there c.self.inside.index.objects.items c.deref-2.result.now c.args.link.now.to (leads_of c.place_of-to.result) c.deref-2.ensures.value c.place_of-to.ensures.place)
    c.put_link.new.image e.put e.group e.moves e.k e.exact number.0 c.unwrap-target.result.now (array_lent slots number.0 there c.unwrap-target.result.now at)

-- ---- written

pub write_end-requires-clause-superblock : goal.write_end-requires-clause-superblock
write_end-requires-clause-superblock c =
    let e = c.in_ok-put_link.ensures in
    elim c.match-link.branch [
      | in-Object w ↦
          let slots = c.self.inside.index.objects.items in
          let number = w.in-Object.number in
          let there = array_there slots c.args.link.now.to number w.in-Object.is (target_there c.self.inside.image c.self.inside.index.objects.items c.self.inside.index.numbers c.self.invariant c.args.self.now c.self.view_is c.args.parent c.args.link.now
          c.requires.group c.requires.free c.requires.target c.requires.good) in
          let at = slot_lent slots number.0 there.0 there.1.0 w.index.result.now w.index.ensures w.as_ref.result w.as_ref.ensures.value w.unwrap-target.result w.unwrap-target.ensures in
          let long = superblock_there c.self.inside.image c.self.inside.index.objects.items c.self.inside.index.numbers c.self.invariant c.args.self.now c.self.view_is c.args.parent c.args.link.now
          c.requires.group c.requires.free c.requires.target c.requires.good
          c.group_table-table.result (group_lent c.deref.result.now c.self.inside.index.objects.items c.args.parent c.group_table-table.result c.deref.ensures.value c.group_table-table.ensures.table)
          (leads_of c.place_of-to.result) (lead_there c.self.inside.index.objects.items c.deref-2.result.now c.args.link.now.to (leads_of c.place_of-to.result) c.deref-2.ensures.value c.place_of-to.ensures.place)
          c.put_link.new.image e.put e.group e.moves e.k e.exact number.0 w.unwrap-target.result.now (array_lent slots number.0 there w.unwrap-target.result.now at) w.count_link.new.image w.count_link.ensures.moves in
          subst (λ (i : Inside). superblock_length i.image.bytes ≤ length i.image.bytes) (sym w.self-inside-is) long
      | in_default w ↦ subst (λ (i : Inside). superblock_length i.image.bytes ≤ length i.image.bytes) (sym w.self-inside-is) e.group.long
    ]

pub write_end-requires-clause-small : goal.write_end-requires-clause-small
write_end-requires-clause-small c =
    let e = c.in_ok-put_link.ensures in
    let room = fits_by _ _ _ _ (no_fault _ _) (no_fault _ _) e.deep e.full in
    let grown = e.spends.grown in
    let long : length c.match-link.self-inside.image.bytes ≡ length c.put_link.new.image.bytes = elim c.match-link.branch [
      | in-Object w ↦ ap (λ (i : Inside). length i.image.bytes) w.self-inside-is ∙ w.count_link.ensures.length
      | in_default w ↦ ap (λ (i : Inside). length i.image.bytes) w.self-inside-is
    ] in
    omega (arith, room, grown, long)

counted : (c : After-write_end) → IsCountedAt c.put_link.new.image c.match-link.self-inside.image c.self.inside.index.objects.items c.args.link.now.to
counted c = elim c.match-link.branch [
  | in-Object w ↦
      let slots = c.self.inside.index.objects.items in
      let number = w.in-Object.number in
      let there = array_there slots c.args.link.now.to number w.in-Object.is (target_there c.self.inside.image c.self.inside.index.objects.items c.self.inside.index.numbers c.self.invariant c.args.self.now c.self.view_is c.args.parent c.args.link.now
      c.requires.group c.requires.free c.requires.target c.requires.good) in
      let at = slot_lent slots number.0 there.0 there.1.0 w.index.result.now w.index.ensures w.as_ref.result w.as_ref.ensures.value w.unwrap-target.result w.unwrap-target.ensures in
      let o : OpenedObject = w.unwrap-target.result.now in
      let done : IsHeaderCounted c.put_link.new.image w.count_link.new.image o = record {
        standing = w.count_link.ensures.standing;
        messages = w.count_link.ensures.messages;
        counted = w.count_link.ensures.count;
        moves = w.count_link.ensures.moves;
        long = w.count_link.ensures.length;
      } in
      let here : IsHeaderCounted c.put_link.new.image c.match-link.self-inside.image o
      = subst (λ (s : Space). IsHeaderCounted c.put_link.new.image s o) (sym (ap (λ (i : Inside). i.image) w.self-inside-is)) done in
      subst (IsCountedAt c.put_link.new.image c.match-link.self-inside.image slots) (sym w.in-Object.is) (o, array_lent slots number.0 there o at, here)
  | in_default w ↦ subst (IsCountedAt c.put_link.new.image c.match-link.self-inside.image c.self.inside.index.objects.items) (sym w.in_default.is)
      (ap (λ (i : Inside). i.image) w.self-inside-is)
]

index_same : (c : After-write_end) → c.match-link.self-inside.index ≡ c.self.inside.index
index_same c = elim c.match-link.branch [
  | in-Object w ↦ ap (λ (i : Inside). i.index) w.self-inside-is
  | in_default w ↦ ap (λ (i : Inside). i.index) w.self-inside-is
]

fits : (c : After-write_end) → length c.self.inside.image.bytes + link_room c.self.inside.image.bytes c.group_table-table.result (texts_span (c.args.link.now.name.now, leads_of c.place_of-to.result)) ≤ most_bytes
fits c = fits_by _ _ _ _ (no_fault _ _) (no_fault _ _) c.in_ok-put_link.ensures.deep c.in_ok-put_link.ensures.full

opened_now : (c : After-write_end) → IsOpened c.write_end.new.image c.self.inside.index.objects.items c.self.inside.index.numbers
opened_now c =
    let e = c.in_ok-put_link.ensures in
    let t = c.write_end.ensures in
    added_opened c.self.inside.image c.self.inside.index.objects.items c.self.inside.index.numbers c.self.invariant c.args.self.now c.self.view_is c.args.parent c.args.link.now
    c.requires.group c.requires.free c.requires.target c.requires.good
    c.group_table-table.result (group_lent c.deref.result.now c.self.inside.index.objects.items c.args.parent c.group_table-table.result c.deref.ensures.value c.group_table-table.ensures.table)
    (leads_of c.place_of-to.result) (lead_there c.self.inside.index.objects.items c.deref-2.result.now c.args.link.now.to (leads_of c.place_of-to.result) c.deref-2.ensures.value c.place_of-to.ensures.place)
    c.put_link.new.image e.put e.group e.moves e.k e.exact c.match-link.self-inside.image c.write_end.new.image 20 e.spends (fits c) (counted c) t.moves t.end t.length

opened_so : (c : After-write_end) → IsOpened c.write_end.new.image c.match-link.self-inside.index.objects.items c.match-link.self-inside.index.numbers
opened_so c = subst (λ (i : Index). IsOpened c.write_end.new.image i.objects.items i.numbers) (sym (index_same c)) (opened_now c)

pub invariant_of-self-2 : goal.invariant_of-self-2
invariant_of-self-2 c = opened_so c

pub returns-clause-changed : goal.returns-clause-changed
returns-clause-changed c table is =
    let e = c.in_ok-put_link.ensures in
    let t = c.write_end.ensures in
    let changed = added_changed c.self.inside.image c.self.inside.index.objects.items c.self.inside.index.numbers c.self.invariant c.args.self.now c.self.view_is c.args.parent c.args.link.now
    c.requires.group c.requires.free c.requires.target c.requires.good
    c.group_table-table.result (group_lent c.deref.result.now c.self.inside.index.objects.items c.args.parent c.group_table-table.result c.deref.ensures.value c.group_table-table.ensures.table)
    (leads_of c.place_of-to.result) (lead_there c.self.inside.index.objects.items c.deref-2.result.now c.args.link.now.to (leads_of c.place_of-to.result) c.deref-2.ensures.value c.place_of-to.ensures.place)
    c.put_link.new.image e.put e.group e.moves e.k e.exact c.match-link.self-inside.image c.write_end.new.image 20 e.spends (fits c) (counted c) t.moves t.end t.length table is in
    subst (λ (i : Index). IsChangedInPlace c.args.self.now (opened_state c.write_end.new.image i.objects.items)
    (with_link c.args.self.now.tree c.args.parent c.args.link.now.name.now (tree_target c.args.link.now.to)) c.args.self.now.next
    (ends_of c.args.parent (tree_target c.args.link.now.to))
    (link_room c.args.self.now.image table (link_span (tree_link c.args.link.now)))) (sym (index_same c)) changed

pub returns-clause-sound : goal.returns-clause-sound
returns-clause-sound c = sound c.write_end.new.image c.match-link.self-inside.index.objects.items c.match-link.self-inside.index.numbers (opened_so c)

pub returns-clause-deep : goal.returns-clause-deep
returns-clause-deep c = deep_told c.self.inside.image c.self.inside.index.objects.items c.self.inside.index.numbers c.self.invariant c.args.self.now c.self.view_is c.args.parent c.args.link.now
    c.requires.group c.requires.free c.requires.target c.requires.good
    c.group_table-table.result (group_lent c.deref.result.now c.self.inside.index.objects.items c.args.parent c.group_table-table.result c.deref.ensures.value c.group_table-table.ensures.table)
    _ c.in_ok-put_link.ensures.deep

pub returns-clause-full : goal.returns-clause-full
returns-clause-full c = full_told c.self.inside.image c.self.inside.index.objects.items c.self.inside.index.numbers c.self.invariant c.args.self.now c.self.view_is c.args.parent c.args.link.now
    c.requires.group c.requires.free c.requires.target c.requires.good
    c.group_table-table.result (group_lent c.deref.result.now c.self.inside.index.objects.items c.args.parent c.group_table-table.result c.deref.ensures.value c.group_table-table.ensures.table)
    (leads_of c.place_of-to.result) (lead_there c.self.inside.index.objects.items c.deref-2.result.now c.args.link.now.to (leads_of c.place_of-to.result) c.deref-2.ensures.value c.place_of-to.ensures.place)
    _ c.in_ok-put_link.ensures.full
