use Rattle.std.proofs.Common.{◌≡◌, ◌<◌, ◌+◌, ◌-◌, ◌∙◌, [], ◌∷◌, List, ℕ, length, refl, sym, ap, arith}
use Rattle.std.specs.Prelude.{◌↔◌}
use Rattle.std.specs.List.{AllByRecursion}
use Rattle.h5_bytes.specs.Texts.{text_at}
use Rattle.h5_bytes.proofs.BlockLaws.{all_so}
use Rattle.h5_model.specs.Format.Superblock.{leaf_k}
use Rattle.h5_model.specs.Format.Symbols.{Entry, symbols_at}
use Rattle.h5_model.specs.Format.Links.{Before, NotAfter, Symbols}
use Rattle.h5_model.proofs.TextOrder.{before_le, not_after_trans}
use Rattle.h5_model.proofs.Members.{all_both}
use Rattle.h5_group.specs.Order.Between.{LiesBetween, name_of_entry, names_at}
use Rattle.h5_group.proofs.OrderProofs.EntryNames.{entry_offset}
use Rattle.h5_group.proofs.OrderProofs.NameEnds.{first_decides, first_named, last_decides}
use Rattle.h5_group.proofs.order.keys.is_child_ordered.Goals as goal

pub returns-then-is_before : goal.returns-then-is_before
returns-then-is_before c =
    let image : List ℕ = c.args.image.now.bytes in
    let segment : List ℕ = c.args.segment.now in
    let S : Symbols = symbols_at image (leaf_k image) in
    let row : List ℕ = c.args.at ∷ [] in
    let es : List Entry = c.symbol_node-symbols.result in
    let low : List ℕ = text_at segment c.args.bounds.low in
    let high : List ℕ = text_at segment c.args.bounds.high in
    let one : 0 < length row = omega arith in
    let some : 0 < length es = omega arith in
    let k : ℕ = c.len-count.result - 1 in
    let end : k + 1 ≡ length es = omega arith in
    let last : k < length es = omega arith in
    let e = entry_offset es 0 c.entry.result some c.entry.ensures in
    let f = entry_offset es k c.entry-then-is_before.result last c.entry-then-is_before.ensures in
    let start = first_decides S segment row 0 c.args.at one refl es c.symbol_node-symbols.ensures e.0 c.requires.ascend low some e.1 refl in
    let stop = last_decides S segment row 0 c.args.at one refl es c.symbol_node-symbols.ensures f.0 c.requires.ascend high k end f.1 refl in
    let above : Before low (text_at segment c.entry.result.name) ↔ AllByRecursion (Before low) (names_at image segment row) = rw (ap (text_at segment) e.2) at start in
    let within : NotAfter (text_at segment c.entry-then-is_before.result.name) high ↔ AllByRecursion (λ (n : List ℕ). NotAfter n high) (names_at image segment row)
    = rw (ap (text_at segment) f.2) at stop in (
      λ yes.
          let all : AllByRecursion (LiesBetween low high) (names_at image segment row)
          = all_both (Before low) (λ n. NotAfter n high) (names_at image segment row)
          (above.0 (sym c.is_before.ensures ∙ c.if-is_before.true)) (within.0 (sym c.is_not_after-then-is_before.ensures ∙ yes)) in
          let lies : LiesBetween low high (name_of_entry segment e.0)
          = first_named segment S c.args.at es c.symbol_node-symbols.ensures (LiesBetween low high) e.0 some e.1 all in
          (not_after_trans low (name_of_entry segment e.0) high (before_le low (name_of_entry segment e.0) lies.0) lies.1, all),
      λ both. c.is_not_after-then-is_before.ensures ∙ within.1
          (all_so (LiesBetween low high) (λ n. NotAfter n high) (names_at image segment row) (λ n lies. lies.1) both.1),
    )
