use Rattle.std.proofs.Common.{◌≡◌, ◌+◌, ◌-◌, ◌<◌, nat_lt, true, false, List, length, slice_index_or, sym, ap, ◌∙◌, arith}
use Rattle.std.proofs.lemmas.Bool.Decides.{nat_tests}
use Rattle.std.proofs.lemmas.List.{get_or_default}
use Rattle.h5_model.specs.Format.MessageTypes.{nil_kind}
use Rattle.h5_header.specs.Listed.{Listed}
use Rattle.h5_header.specs.Standing.{nowhere}
use Rattle.h5_header.specs.declared.message.Message.{Message as Placed}
use Rattle.h5_header.proofs.CutLaws.{set_between, insert_behind}
use Rattle.h5_header.proofs.header.Messages.keep_in.Goals as goal
use Rattle.h5_header.proofs.header.Messages.keep_in.Goals.{then-size-old, else-size-old}

pub returns : goal.returns
returns c =
    let xs = c.self.inside.list.items in
    let k = c.args.k in
    let old = c.index-old.result.now in
    let long : length xs ≡ length c.args.self.now.list = ap (λ (s : Listed). length s.list) c.self.view_is in
    let low : k < length xs = omega (arith, long, c.requires.known) in
    let here : slice_index_or xs k nowhere ≡ old = get_or_default xs k nowhere old low ∙ sym c.index-old.ensures in
    let now : Placed = record { kind = c.args.kind; at = old.at; size = c.args.size } in
    let whole : List Placed → Listed = λ ys. record { header = c.self.inside.header; list = ys; blocks = c.self.inside.blocks.items; room = c.self.inside.room - 1 } in
    elim c.if-size-old.branch [
      | then-size-old w ↦
          let rest : Placed = record { kind = nil_kind; at = old.at + c.args.size + 8; size = old.size - c.args.size - 8 } in
          let test : nat_lt c.args.size old.size ≡ true = grind (arith, nat_tests, w.if-size-old.true) in
          let ok = w.insert.ensures.succeeds (omega (arith, c.self.invariant.list_fits, c.requires.room, ap (λ (s : Listed). s.room) c.self.view_is)) in
          rw (← c.self.view_is, w.self-inside-is, here, test) (ap whole (rw (w.insert.ensures.items, ok) (insert_behind xs k low nowhere now rest)))
      | else-size-old w ↦
          let test : nat_lt c.args.size old.size ≡ false = grind (arith, nat_tests, w.if-size-old.false) in
          rw (← c.self.view_is, w.self-inside-is, here, test) (ap whole (set_between xs k low nowhere now nowhere))
    ]
