use Rattle.std.proofs.Common.{◌≡◌, ◌<◌, ℕ, List, ◌∙◌, ap, sym, length, get_or, swap, arith, Option, Some, None, refl}
use Rattle.std.specs.Prelude.{option_map, slice_get}
use Rattle.std.specs.Option.{option_flatten}
use Rattle.std.specs.Ordering.{nat_cmp}
use Rattle.std.specs.BTreeMap.{BTreeMap, get as lookup}
use Rattle.std.specs.List.{SwappedAt}
use Rattle.std.specs.FinMap.{get}
use Rattle.std.proofs.lemmas.List.Edits.{length-swap}
use Rattle.std.proofs.lemmas.Option.{slice_get_read, slice_get_within}
use Rattle.h5_open.specs.declared.opened.object.OpenedObject.{OpenedObject}
use Rattle.h5_open.specs.Opened.Kept.{IsIndex}
use Rattle.h5_open.specs.Opened.Objects.{header_of, table_of}
use Rattle.h5_open.specs.Renumbered.Exchanged.{IsExchanged}
use Rattle.h5_open.proofs.OpenedLaws.Entries.{get_table, slot_of}
use Rattle.h5_open.proofs.RenumberedLaws.ExchangedIndex.{found_at, is_found, is_found_still, index_exchanged, index_moved}
use Rattle.h5_open.proofs.RenumberedLaws.Exchanges.{exchanged, exchanged_headers}
use Rattle.h5_open.proofs.numbers.order.give_number.Goals as goal

-- a number that the table has is that of a slot
number_given : (slots : List (Option OpenedObject)) (n header : ℕ) → get (table_of slots) n ≡ Some header → n < length slots
number_given slots n header at = let slot = slot_of slots n header at in slice_get_within slots n (Some slot.0) slot.1

-- what the table has of a slot
header_there : (slots : List (Option OpenedObject)) (n : ℕ) (slot : Option OpenedObject) → slice_get slots n ≡ Some slot → get (table_of slots) n ≡ option_map header_of slot
header_there slots n slot at = get_table slots n ∙ ap (λ (s : Option (Option OpenedObject)). option_map header_of (option_flatten s)) at

-- what stands before an exchange
record Before (slots after : List (Option OpenedObject)) (number before header : ℕ) : Type 0 where
  pub there : get (table_of slots) before ≡ Some header
  pub low : before < length slots
  pub long : length after ≡ length slots
  pub exchanged_slots : IsExchanged (slice_get slots) (slice_get after) number before

before_swap : (slots after : List (Option OpenedObject)) (numbers : BTreeMap ℕ ℕ) → IsIndex (table_of slots) numbers → (number before header : ℕ) → number < length slots
    → lookup nat_cmp numbers header ≡ Some before → after ≡ swap slots number before → SwappedAt slots after number before → Before slots after number before header
before_swap slots after numbers index number before header low got items swapped =
    let there = found_at (table_of slots) numbers index header before got in
    let within = number_given slots before header there in
    let long = ap (λ (l : List (Option OpenedObject)). length l) items ∙ length-swap slots number before in
    record { there = there; low = within; long = long; exchanged_slots = exchanged slots after number before None low within long swapped }

-- what the slot of the header had is what the slot of the number had before
other_slot : (slots after : List (Option OpenedObject)) (number before header : ℕ) → Before slots after number before header → (slot : Option OpenedObject)
    → slot ≡ get_or after before slot → get (table_of slots) number ≡ option_map header_of slot
other_slot slots after number before header b slot is =
    let low : before < length after = omega (arith, b.low, b.long) in
    let here : slice_get after before ≡ Some slot = slice_get_read after (length after) before slot refl low is in
    header_there slots number slot (sym (b.exchanged_slots).second ∙ here)

pub swap-requires-clause-j_in_bounds : goal.swap-requires-clause-j_in_bounds
swap-requires-clause-j_in_bounds c =
    let objects = c.args.index.now.objects in
    let numbers = c.args.index.now.numbers in
    let before = c.unwrap-before.result in
    let got : lookup nat_cmp numbers c.args.header ≡ Some before = sym c.get.ensures ∙ c.unwrap-before.ensures in
    let there = found_at (table_of objects.items) numbers c.requires.index c.args.header before got in
    omega (arith, objects.ok.0, number_given objects.items before c.args.header there)

pub index-requires : goal.index-requires
index-requires c =
    let slots = c.args.index.now.objects.items in
    let before = c.unwrap-before.result in
    let got : lookup nat_cmp c.args.index.now.numbers c.args.header ≡ Some before = sym c.get.ensures ∙ c.unwrap-before.ensures in
    let b = before_swap slots c.swap.new.self.items c.args.index.now.numbers c.requires.index c.args.number before c.args.header c.requires.number got c.swap.ensures.items c.swap.ensures.by_index in
    omega (arith, c.swap.new.self.ok.0, b.low, b.long)

pub returns-in-Some-clause-index : goal.returns-in-Some-clause-index
returns-in-Some-clause-index c =
    let slots = c.args.index.now.objects.items in
    let after = c.swap.new.self.items in
    let numbers = c.args.index.now.numbers in
    let number = c.args.number in
    let before = c.unwrap-before.result in
    let other = c.header.result in
    let got : lookup nat_cmp numbers c.args.header ≡ Some before = sym c.get.ensures ∙ c.unwrap-before.ensures in
    let b = before_swap slots after numbers c.requires.index number before c.args.header c.requires.number got c.swap.ensures.items c.swap.ensures.by_index in
    let at : get (table_of slots) number ≡ Some other =
    other_slot slots after number before c.args.header b c.index.result.now c.index.ensures ∙ ap (option_map header_of) c.in-Some.is ∙ ap (λ (h : ℕ). Some h) (sym c.header.ensures) in
    let middle = c.replace.new.self in
    let first = (c.replace.ensures.updates (c.replace.ensures.there ∙ is_found (table_of slots) numbers c.requires.index before c.args.header b.there)).0 in
    let still = is_found_still numbers middle c.args.header number other first (is_found (table_of slots) numbers c.requires.index number other at) in
    let second = (c.replace-in-Some.ensures.updates (c.replace-in-Some.ensures.there ∙ still)).0 in
    index_exchanged (table_of slots) (table_of after) number before (exchanged_headers slots after number before b.exchanged_slots) c.args.header b.there other at numbers middle
    c.replace-in-Some.new.self c.requires.index first second

pub returns-in-Some-clause-given : goal.returns-in-Some-clause-given
returns-in-Some-clause-given c =
    let before = c.unwrap-before.result in
    let got : lookup nat_cmp c.args.index.now.numbers c.args.header ≡ Some before
    = sym c.get.ensures ∙ c.unwrap-before.ensures in
    let b = before_swap c.args.index.now.objects.items c.swap.new.self.items c.args.index.now.numbers c.requires.index c.args.number before c.args.header c.requires.number got
    c.swap.ensures.items c.swap.ensures.by_index in
    (before, b.there, b.exchanged_slots)

pub returns-in_default-clause-index : goal.returns-in_default-clause-index
returns-in_default-clause-index c =
    let slots = c.args.index.now.objects.items in
    let after = c.swap.new.self.items in
    let numbers = c.args.index.now.numbers in
    let number = c.args.number in
    let before = c.unwrap-before.result in
    let got : lookup nat_cmp numbers c.args.header ≡ Some before = sym c.get.ensures ∙ c.unwrap-before.ensures in
    let b = before_swap slots after numbers c.requires.index number before c.args.header c.requires.number got c.swap.ensures.items c.swap.ensures.by_index in
    let empty : get (table_of slots) number ≡ None =
    other_slot slots after number before c.args.header b c.index.result.now c.index.ensures ∙ ap (option_map header_of) c.in_default.is in
    let first = (c.replace.ensures.updates (c.replace.ensures.there ∙ is_found (table_of slots) numbers c.requires.index before c.args.header b.there)).0 in
    index_moved (table_of slots) (table_of after) number before (exchanged_headers slots after number before b.exchanged_slots) c.args.header b.there empty numbers
    c.replace.new.self c.requires.index first

pub returns-in_default-clause-given : goal.returns-in_default-clause-given
returns-in_default-clause-given c =
    let before = c.unwrap-before.result in
    let got : lookup nat_cmp c.args.index.now.numbers c.args.header ≡ Some before
    = sym c.get.ensures ∙ c.unwrap-before.ensures in
    let b = before_swap c.args.index.now.objects.items c.swap.new.self.items c.args.index.now.numbers c.requires.index c.args.number before c.args.header c.requires.number got
    c.swap.ensures.items c.swap.ensures.by_index in
    (before, b.there, b.exchanged_slots)
