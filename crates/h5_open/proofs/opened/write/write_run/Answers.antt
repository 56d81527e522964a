use Rattle.std.proofs.Common.{◌≡◌, ◌≤◌, ℕ, ℤ, List, Option, [], ◌++◌, length, ap, sym, ◌∙◌, length-append, append_assoc, arith, rules}
use Rattle.std.specs.BTreeMap.{BTreeMap}
use Rattle.std.proofs.lemmas.List.{append-nil, length-take-le, nil_from_length, take-append-drop}
use Rattle.h5_header.specs.Listed.{messages_in}
use Rattle.h5_header.specs.declared.message.Message.{Message}
use Rattle.h5_layout.specs.CellPlaces.{IsStoredAmong}
use Rattle.h5_layout.specs.Told.{array_told}
use Rattle.h5_model.specs.Format.Fixed.{IsFixed}
use Rattle.h5_model.specs.Format.Described.{Described}
use Rattle.h5_open.specs.declared.opened.object.OpenedObject.{OpenedObject}
use Rattle.h5_open.specs.WrittenRun.{IsRunMade, IsRunReady}
use Rattle.h5_open.proofs.PieceWritten.{next_low, next_stored, none_made, piece_inside, piece_made, piece_of_type}
use Rattle.h5_open.proofs.opened.write.write_run.Goals as goal
use Rattle.h5_open.proofs.opened.write.write_run.Goals.{After-fixed, After-len-in-loop-left}

pub loop-left-init : goal.loop-left-init
loop-left-init c = record {
  first = [];
  whole = sym c.lend-left.ensures;
  behind = omega arith;
  made = λ slots numbers number ready. none_made ready;
}

-- ---- one piece

-- the first cell that is left is stored
module _ (c : After-len-in-loop-left) (slots : List (Option OpenedObject)) (numbers : BTreeMap ℕ ℕ) (number : ℕ)
    (ready : IsRunReady c.args.image.now slots numbers number c.args.places.now c.args.place c.args.values.now) where
  abbrev made : IsRunMade c.args.image.now slots numbers number c.args.place c.loop-left.invariant.first c.loop-left.image c.loop-left.places
  made = c.loop-left.invariant.made slots numbers number ready

  abbrev list : List Message
  list = made.its.object.messages.list

  abbrev a : Described
  a = array_told (messages_in c.loop-left.image.bytes list)

  among : IsStoredAmong c.loop-left.image.bytes list a c.loop-left.places c.loop-left.next c.len-in-loop-left.result
  among =
      let i = c.loop-left.invariant in
      next_stored ready i.first c.loop-left.left i.whole c.loop-left.image c.loop-left.places made c.loop-left.next i.behind c.len-in-loop-left.result
      c.len-in-loop-left.ensures (omega arith)

pub run_at-run-requires : goal.run_at-run-requires
run_at-run-requires c =
    let r = c.requires in
    let after = (goal.at.run_at-run-requires c).After-len-in-loop-left in
    (list after r.0 r.1 r.2 r.3, a after r.0 r.1 r.2 r.3, among after r.0 r.1 r.2 r.3)

few : (c : After-fixed) → c.run_at-run.result.cells ≤ length c.loop-left.left
few c = omega (arith, c.run_at-run.ensures.few, c.len-in-loop-left.ensures)

known : (c : After-fixed) → IsFixed c.fixed.result
known c = search rules

pub write_stored-requires : goal.write_stored-requires
write_stored-requires c =
    let r = c.requires in
    let ready = r.3 in
    let i = c.loop-left.invariant in
    let image = c.loop-left.image in
    let after = (goal.at.write_stored-requires c).After-len-in-loop-left in
    let found = (goal.at.write_stored-requires c).After-fixed in
    let run = c.run_at-run.result in
    let so = made after r.0 r.1 r.2 ready in
    let some = c.run_at-run.ensures.some in
    let stand = c.run_at-run.ensures.stand (list after r.0 r.1 r.2 ready) (a after r.0 r.1 r.2 ready) (among after r.0 r.1 r.2 ready) in
    let are = c.run_at-run.ensures.kept (list after r.0 r.1 r.2 ready) (a after r.0 r.1 r.2 ready) so.its.stand in
    record {
      inside = piece_inside ready i.first c.loop-left.left i.whole image c.loop-left.places so c.loop-left.next i.behind run.cells run.at some (few found) stand
          c.run_at-run.new.self are c.fixed.result (known found) c.fixed.ensures c.split_at-piece.result.0 c.split_at-piece.ensures.front;
      of_type = piece_of_type ready i.first c.loop-left.left i.whole image c.loop-left.places so c.loop-left.next i.behind run.cells run.at some (few found) stand
          c.run_at-run.new.self are c.fixed.result (known found) c.fixed.ensures c.split_at-piece.result.0 c.split_at-piece.ensures.front;
    }

-- no place is above 2^40
pub overflow_add-next : goal.overflow_add-next
overflow_add-next c =
    let r = c.requires in
    let i = c.loop-left.invariant in
    let after = (goal.at.overflow_add-next c).After-len-in-loop-left in
    let so = made after r.0 r.1 r.2 r.3 in
    let low = next_low r.3 i.first c.loop-left.left i.whole c.loop-left.image c.loop-left.places so c.loop-left.next i.behind in
    omega (arith, low, few (goal.at.overflow_add-next c).After-fixed)

pub loop-left-preserved : goal.loop-left-preserved
loop-left-preserved c =
    let i = c.loop-left.invariant in
    let image = c.loop-left.image in
    let after = (goal.at.loop-left-preserved c).After-len-in-loop-left in
    let found = (goal.at.loop-left-preserved c).After-fixed in
    let run = c.run_at-run.result in
    let piece = c.split_at-piece.result.0 in
    let front = c.split_at-piece.ensures.front in
    let back = c.split_at-piece.ensures.back in
    let long : length piece ≡ run.cells = ap length front ∙ length-take-le run.cells c.loop-left.left (few found) in
    record {
      first = i.first ++ piece;
      whole = i.whole
          ∙ ap (λ (vs : List ℤ). i.first ++ vs) (sym (take-append-drop run.cells c.loop-left.left) ∙ (λ j. sym front j ++ sym back j))
          ∙ sym (append_assoc i.first piece c.split_at-piece.result.1);
      behind = omega (arith, i.behind, long, length-append i.first piece);
      made = λ slots numbers number ready.
          let so = made after slots numbers number ready in
          let stored = among after slots numbers number ready in
          let stand = c.run_at-run.ensures.stand (list after slots numbers number ready) (a after slots numbers number ready) stored in
          let are = c.run_at-run.ensures.kept (list after slots numbers number ready) (a after slots numbers number ready) so.its.stand in
          piece_made ready i.first c.loop-left.left i.whole image c.loop-left.places so c.loop-left.next i.behind run.cells run.at c.run_at-run.ensures.some (few found) stand
          c.run_at-run.new.self are c.fixed.result (known found) c.fixed.ensures piece front c.write_stored.new.image c.write_stored.ensures;
    }

-- ---- all of them

pub returns : goal.returns
returns c slots numbers number ready =
    let i = c.loop-left.invariant in
    let none = nil_from_length c.loop-left.left (omega (arith, c.loop-left-test.false, c.len.ensures)) in
    let all : c.args.values.now ≡ i.first = i.whole ∙ ap (λ (vs : List ℤ). i.first ++ vs) none ∙ append-nil i.first in
    rw all (i.made slots numbers number ready)
