use Rattle.std.proofs.Common.{◌≡◌, ℕ, List, Option, Some, length, sym, ap, subst, arith}
use Rattle.std.specs.Prelude.{slice_get}
use Rattle.std.specs.List.{Contains}
use Rattle.h5_bytes.specs.Blocks.{cover}
use Rattle.h5_space.specs.Space.{Space}
use Rattle.h5_space.specs.Whole.{IsApart}
use Rattle.h5_open.specs.declared.opened.object.OpenedObject.{OpenedObject}
use Rattle.h5_open.specs.LinkTaken.{AreCountsLowered, AreHeadersStanding, AreSlotsCleared, lowered_blocks}
use Rattle.h5_open.specs.Opened.Sound.{IsSound}
use Rattle.h5_open.specs.Opened.State.{opened_state}
use Rattle.h5_open.proofs.GroupOf.{group_lent, group_here}
use Rattle.h5_open.proofs.OpenedLaws.Sounds.{sound}
use Rattle.h5_open.proofs.UnlinkCalls as calls
use Rattle.h5_open.proofs.opened.Opened.unlink.Goals as goal

pub group_table-table-requires : goal.group_table-table-requires
group_table-table-requires c =
    let there = calls.parent_slot c.self.inside.image c.self.inside.index.objects.items c.self.inside.index.numbers c.self.invariant c.args.self.now c.self.view_is
    c.args.parent c.args.name.now c.args.object c.requires.there in
    record { there = (there.0, group_lent c.self.inside.index.objects.items c.deref.result.now c.args.parent there.0 (sym c.deref.ensures.value) there.1) }

pub losses_of-requires-clause-there : goal.losses_of-requires-clause-there
losses_of-requires-clause-there c = (
  c.args.parent,
  c.args.name.now,
  calls.here c.self.inside.image c.self.inside.index.objects.items c.self.inside.index.numbers c.self.invariant c.args.self.now c.self.view_is
      c.args.parent c.args.name.now c.args.object c.requires.there,
)

pub returns-in_err-losses-clause-sound : goal.returns-in_err-losses-clause-sound
returns-in_err-losses-clause-sound c =
    subst IsSound c.self.view_is (sound c.self.inside.image c.self.inside.index.objects.items c.self.inside.index.numbers c.self.invariant)

pub take_link-requires-clause-group : goal.take_link-requires-clause-group
take_link-requires-clause-group c =
    group_here c.self.inside.image c.self.inside.index.objects.items c.self.inside.index.numbers c.self.invariant c.args.self.now c.self.view_is
    c.args.parent c.group_table-table.result
    (group_lent c.deref.result.now c.self.inside.index.objects.items c.args.parent c.group_table-table.result c.deref.ensures.value c.group_table-table.ensures.table)

pub is_tidy-exact-requires : goal.is_tidy-exact-requires
is_tidy-exact-requires c =
    let there = calls.parent_slot c.self.inside.image c.self.inside.index.objects.items c.self.inside.index.numbers c.self.invariant c.args.self.now c.self.view_is
    c.args.parent c.args.name.now c.args.object c.requires.there in
    record { there = (there.1.0, subst (λ (ss : List (Option OpenedObject)). slice_get ss c.args.parent ≡ Some (Some there.1.0)) (sym c.deref-2.ensures.value) there.1.1) }

pub take_link-requires-clause-exact : goal.take_link-requires-clause-exact
take_link-requires-clause-exact c =
    calls.unlink_exact c.self.inside.image c.self.inside.index.objects.items c.self.inside.index.numbers c.self.invariant c.args.self.now c.self.view_is
    c.args.parent c.args.name.now c.args.object c.requires.there
    c.group_table-table.result
    (group_lent c.deref.result.now c.self.inside.index.objects.items c.args.parent c.group_table-table.result c.deref.ensures.value c.group_table-table.ensures.table)
    c.deref-2.result.now c.is_tidy-exact.result c.deref-2.ensures.value c.is_tidy-exact.ensures

pub take_link-requires-clause-there : goal.take_link-requires-clause-there
take_link-requires-clause-there c =
    calls.unlink_there c.self.inside.image c.self.inside.index.objects.items c.self.inside.index.numbers c.self.invariant c.args.self.now c.self.view_is
    c.args.parent c.args.name.now c.args.object c.requires.there
    c.group_table-table.result
    (group_lent c.deref.result.now c.self.inside.index.objects.items c.args.parent c.group_table-table.result c.deref.ensures.value c.group_table-table.ensures.table)

pub returns-in_err-take_link-clause-sound : goal.returns-in_err-take_link-clause-sound
returns-in_err-take_link-clause-sound c =
    subst (λ (i : Space). IsSound (opened_state i c.self.inside.index.objects.items)) (sym c.in_err-take_link.ensures.refused)
    (sound c.self.inside.image c.self.inside.index.objects.items c.self.inside.index.numbers c.self.invariant)

-- what is lent is what is kept
standing_lent : (image : List ℕ) (lent slots : List (Option OpenedObject)) (given less : List (ℕ × ℕ)) → lent ≡ slots → given ≡ less → AreHeadersStanding image slots less
    → AreHeadersStanding image lent given
standing_lent image lent slots given less same alike standing =
    subst (λ (ss : List (Option OpenedObject)). AreHeadersStanding image ss given) (sym same) (subst (AreHeadersStanding image slots) (sym alike) standing)

apart_lent : (image : Space) (lent slots : List (Option OpenedObject)) (given less : List (ℕ × ℕ)) → lent ≡ slots → given ≡ less
    → IsApart (lowered_blocks slots less) image.free (length image.bytes) → IsApart (lowered_blocks lent given) image.free (length image.bytes)
apart_lent image lent slots given less same alike apart q =
    let first = ap (λ (ss : List (Option OpenedObject)). cover q (lowered_blocks ss given)) same in
    let second = ap (λ (ls : List (ℕ × ℕ)). cover q (lowered_blocks slots ls)) alike in
    omega (arith, apart q, first, second)

lowered_there : (mid low : Space) (lent slots : List (Option OpenedObject)) (given less : List (ℕ × ℕ)) → lent ≡ slots → given ≡ less → AreCountsLowered mid low lent given
    → AreCountsLowered mid low slots less
lowered_there mid low lent slots given less same alike lowered =
    subst (λ (ss : List (Option OpenedObject)). AreCountsLowered mid low ss less) same (subst (AreCountsLowered mid low lent) alike lowered)

pub lower_counts-requires-clause-standing : goal.lower_counts-requires-clause-standing
lower_counts-requires-clause-standing c =
    standing_lent c.take_link.new.image.bytes c.deref-3.result.now c.self.inside.index.objects.items c.deref-4.result.now c.in_ok-losses.losses.less.items
    c.deref-3.ensures.value c.deref-4.ensures.value
    (calls.lower_standing c.self.inside.image c.self.inside.index.objects.items c.self.inside.index.numbers c.self.invariant c.args.self.now c.self.view_is
    c.args.parent c.args.name.now c.args.object c.requires.there
    c.group_table-table.result
    (group_lent c.deref.result.now c.self.inside.index.objects.items c.args.parent c.group_table-table.result c.deref.ensures.value c.group_table-table.ensures.table)
    c.in_ok-losses.losses.gone.items c.in_ok-losses.losses.less.items c.in_ok-losses.losses.blocks.held c.in_ok-losses.ensures.losses
    c.take_link.new.image c.in_ok-take_link.ensures.taken)

pub lower_counts-requires-clause-apart : goal.lower_counts-requires-clause-apart
lower_counts-requires-clause-apart c =
    apart_lent c.take_link.new.image c.deref-3.result.now c.self.inside.index.objects.items c.deref-4.result.now c.in_ok-losses.losses.less.items
    c.deref-3.ensures.value c.deref-4.ensures.value
    (calls.lower_apart c.self.inside.image c.self.inside.index.objects.items c.self.inside.index.numbers c.self.invariant c.args.self.now c.self.view_is
    c.args.parent c.args.name.now c.args.object c.requires.there
    c.group_table-table.result
    (group_lent c.deref.result.now c.self.inside.index.objects.items c.args.parent c.group_table-table.result c.deref.ensures.value c.group_table-table.ensures.table)
    c.in_ok-losses.losses.gone.items c.in_ok-losses.losses.less.items c.in_ok-losses.losses.blocks.held c.in_ok-losses.ensures.losses
    c.take_link.new.image c.in_ok-take_link.ensures.taken)

pub give_all-requires-clause-held : goal.give_all-requires-clause-held
give_all-requires-clause-held c =
    calls.not_free c.self.inside.image c.self.inside.index.objects.items c.self.inside.index.numbers c.self.invariant c.args.self.now c.self.view_is
    c.args.parent c.args.name.now c.args.object c.requires.there
    c.group_table-table.result
    (group_lent c.deref.result.now c.self.inside.index.objects.items c.args.parent c.group_table-table.result c.deref.ensures.value c.group_table-table.ensures.table)
    c.in_ok-losses.losses.gone.items c.in_ok-losses.losses.less.items c.in_ok-losses.losses.blocks.held c.in_ok-losses.ensures.losses
    c.take_link.new.image c.in_ok-take_link.ensures.taken c.lower_counts.new.image
    (lowered_there c.take_link.new.image c.lower_counts.new.image c.deref-3.result.now c.self.inside.index.objects.items c.deref-4.result.now c.in_ok-losses.losses.less.items
    c.deref-3.ensures.value c.deref-4.ensures.value c.lower_counts.ensures.lowered)

pub clear_all-requires-clause-there : goal.clear_all-requires-clause-there
clear_all-requires-clause-there c =
    let there = calls.goes_there c.self.inside.image c.self.inside.index.objects.items c.self.inside.index.numbers c.self.invariant c.args.self.now c.self.view_is
    c.args.parent c.args.name.now c.args.object c.requires.there
    c.group_table-table.result
    (group_lent c.deref.result.now c.self.inside.index.objects.items c.args.parent c.group_table-table.result c.deref.ensures.value c.group_table-table.ensures.table)
    c.in_ok-losses.losses.gone.items c.in_ok-losses.losses.less.items c.in_ok-losses.losses.blocks.held c.in_ok-losses.ensures.losses in
    λ n mine. there n (subst (λ (ns : List ℕ). Contains ns n) c.deref-5.ensures.value mine)

pub invariant_of-self-2 : goal.invariant_of-self-2
invariant_of-self-2 c =
    calls.gone_opened c.self.inside.image c.self.inside.index.objects.items c.self.inside.index.numbers c.self.invariant c.args.self.now c.self.view_is
    c.args.parent c.args.name.now c.args.object c.requires.there
    c.group_table-table.result
    (group_lent c.deref.result.now c.self.inside.index.objects.items c.args.parent c.group_table-table.result c.deref.ensures.value c.group_table-table.ensures.table)
    c.in_ok-losses.losses.gone.items c.in_ok-losses.losses.less.items c.in_ok-losses.losses.blocks.held c.in_ok-losses.ensures.losses
    c.take_link.new.image c.in_ok-take_link.ensures.taken c.lower_counts.new.image
    c.give_all.new.image c.clear_all.new.index.objects.items c.clear_all.new.index.numbers
    (record {
      lowered = (lowered_there c.take_link.new.image c.lower_counts.new.image c.deref-3.result.now c.self.inside.index.objects.items c.deref-4.result.now c.in_ok-losses.losses.less.items
          c.deref-3.ensures.value c.deref-4.ensures.value c.lower_counts.ensures.lowered);
      bytes = c.give_all.ensures.bytes;
      given = c.give_all.ensures.given;
      cleared = subst (AreSlotsCleared c.self.inside.index.objects.items c.clear_all.new.index.objects.items) c.deref-5.ensures.value c.clear_all.ensures.slots;
      index = c.clear_all.ensures.index;
    })

pub returns-clause-changed : goal.returns-clause-changed
returns-clause-changed c =
    calls.gone_changed c.self.inside.image c.self.inside.index.objects.items c.self.inside.index.numbers c.self.invariant c.args.self.now c.self.view_is
    c.args.parent c.args.name.now c.args.object c.requires.there
    c.group_table-table.result
    (group_lent c.deref.result.now c.self.inside.index.objects.items c.args.parent c.group_table-table.result c.deref.ensures.value c.group_table-table.ensures.table)
    c.in_ok-losses.losses.gone.items c.in_ok-losses.losses.less.items c.in_ok-losses.losses.blocks.held c.in_ok-losses.ensures.losses
    c.take_link.new.image c.in_ok-take_link.ensures.taken c.lower_counts.new.image
    c.give_all.new.image c.clear_all.new.index.objects.items c.clear_all.new.index.numbers
    (record {
      lowered = (lowered_there c.take_link.new.image c.lower_counts.new.image c.deref-3.result.now c.self.inside.index.objects.items c.deref-4.result.now c.in_ok-losses.losses.less.items
          c.deref-3.ensures.value c.deref-4.ensures.value c.lower_counts.ensures.lowered);
      bytes = c.give_all.ensures.bytes;
      given = c.give_all.ensures.given;
      cleared = subst (AreSlotsCleared c.self.inside.index.objects.items c.clear_all.new.index.objects.items) c.deref-5.ensures.value c.clear_all.ensures.slots;
      index = c.clear_all.ensures.index;
    })

pub returns-clause-sound : goal.returns-clause-sound
returns-clause-sound c =
    let opened = calls.gone_opened c.self.inside.image c.self.inside.index.objects.items c.self.inside.index.numbers c.self.invariant c.args.self.now c.self.view_is
    c.args.parent c.args.name.now c.args.object c.requires.there
    c.group_table-table.result
    (group_lent c.deref.result.now c.self.inside.index.objects.items c.args.parent c.group_table-table.result c.deref.ensures.value c.group_table-table.ensures.table)
    c.in_ok-losses.losses.gone.items c.in_ok-losses.losses.less.items c.in_ok-losses.losses.blocks.held c.in_ok-losses.ensures.losses
    c.take_link.new.image c.in_ok-take_link.ensures.taken c.lower_counts.new.image
    c.give_all.new.image c.clear_all.new.index.objects.items c.clear_all.new.index.numbers
    (record {
      lowered = (lowered_there c.take_link.new.image c.lower_counts.new.image c.deref-3.result.now c.self.inside.index.objects.items c.deref-4.result.now c.in_ok-losses.losses.less.items
          c.deref-3.ensures.value c.deref-4.ensures.value c.lower_counts.ensures.lowered);
      bytes = c.give_all.ensures.bytes;
      given = c.give_all.ensures.given;
      cleared = subst (AreSlotsCleared c.self.inside.index.objects.items c.clear_all.new.index.objects.items) c.deref-5.ensures.value c.clear_all.ensures.slots;
      index = c.clear_all.ensures.index;
    }) in
    sound c.give_all.new.image c.clear_all.new.index.objects.items c.clear_all.new.index.numbers opened
