use Rattle.std.proofs.Common.{◌≡◌, ◌∙◌, ◌+◌, ◌*◌, ◌<◌, ◌≤◌, true, ℕ, ℤ, List, Option, Some, length, take, sym, ap, subst, arith}
use Rattle.std.specs.Prelude.{slice_get}
use Rattle.std.specs.BTreeMap.{BTreeMap}
use Rattle.std.specs.List.{list_all}
use Rattle.std.proofs.lemmas.List.{take_all}
use Rattle.std.proofs.lemmas.Option.{option_and_then_some}
use Rattle.h5_model.specs.Format.MessageTypes.{datatype_kind}
use Rattle.h5_model.specs.Format.Fixed.{Fixed, IsFixed, fits}
use Rattle.h5_model.specs.Format.Plain.{cells_bytes}
use Rattle.h5_model.specs.Format.Messages.{first_body}
use Rattle.h5_model.specs.Format.Described.{Described}
use Rattle.h5_model.specs.Tree.Objects.{Dataset}
use Rattle.h5_space.specs.Lending.{with_bytes_at}
use Rattle.h5_space.specs.Space.{Space}
use Rattle.h5_layout.specs.Standing.{IsStandingAt}
use Rattle.h5_layout.proofs.FillLaws.{type_sound}
use Rattle.h5_open.specs.declared.opened.object.OpenedObject.{OpenedObject}
use Rattle.h5_open.specs.declared.opened.write.StandingCells.{StandingCells}
use Rattle.h5_open.specs.Opened.Kept.{IsOpened}
use Rattle.h5_open.specs.Opened.State.{FileState, opened_state}
use Rattle.h5_open.specs.Written.{AreCellsWritten, AreStanding, IsArrayThere, IsStoredRun}
use Rattle.h5_open.proofs.StandingOpened.{all_of_type, array_there, first_inside, first_written, it, kind, run_in, slot}
use Rattle.h5_open.proofs.OpenedLaws.Sounds.{sound}
use Rattle.h5_open.proofs.opened.Opened.write_standing.Goals as goal

-- the cells, by what is kept of the image
module _ (image : Space) (slots : List (Option OpenedObject)) (numbers : BTreeMap ℕ ℕ) (opened : IsOpened image slots numbers) (f : FileState) (view : opened_state image slots ≡ f)
    (number : ℕ) (cells : StandingCells) (values : List ℤ) (run : (d : Dataset) × IsStoredRun f number cells.place values d) (some : 0 < length values)
    (standing : AreStanding f number cells (length values)) where
  there : (d : Dataset) × IsStoredRun (opened_state image slots) number cells.place values d
  there = run_in image slots f view number cells.place values run

  p : (o : OpenedObject) × (slice_get slots number ≡ Some (Some o))
  p = slot image slots f view number cells.place values run

  abbrev a : Described
  a = it image slots numbers opened number p.0 p.1 there.0 cells.place values there.1

  described : IsArrayThere (opened_state image slots) number a
  described = array_there image slots numbers opened number p.0 p.1 (kind image slots numbers opened number p.0 p.1 there.0 cells.place values there.1)

  stand : (cells.fixed ≡ a.fixed) × IsStandingAt image.bytes a cells.place (length values) cells.at
  stand = subst (λ (g : FileState). AreStanding g number cells (length values)) (sym view) standing a described

  fixed : IsFixed a.fixed
  fixed = option_and_then_some _ (first_body datatype_kind (described).messages) a.fixed (described).described.type (λ body there is. type_sound body a.fixed is)

  all : take (length values) values ≡ values
  all = take_all (length values) values (omega arith)

  of_type : list_all (fits cells.fixed) values ≡ true
  of_type = rw stand.0 (all_of_type image slots numbers opened number p.0 p.1 there.0 cells.place values there.1)

  inside : cells.at + length values * cells.fixed.size ≤ length image.bytes
  inside =
      let first = first_inside image slots numbers opened number p.0 p.1 there.0 cells.place values there.1 (length values) cells.at some (omega arith) stand.1 fixed in
      subst (λ (t : Fixed). cells.at + length values * t.size ≤ length image.bytes) (sym stand.0)
      (subst (λ (vs : List ℤ). cells.at + length vs * a.fixed.size ≤ length image.bytes) all first)

  module _ (new : Space) (wrote : new ≡ with_bytes_at image cells.at (cells_bytes cells.fixed values)) where
    written : IsOpened new slots numbers × AreCellsWritten f number cells.place values (opened_state new slots)
    written =
        let put : new ≡ with_bytes_at image cells.at (cells_bytes a.fixed (take (length values) values))
        = wrote ∙ ap (λ (t : Fixed). with_bytes_at image cells.at (cells_bytes t values)) stand.0
        ∙ ap (λ (vs : List ℤ). with_bytes_at image cells.at (cells_bytes a.fixed vs)) (sym all) in
        let first = first_written image slots numbers opened number p.0 p.1 there.0 cells.place values there.1 (length values) cells.at some (omega arith) stand.1 fixed new put in (
          first.opened_now,
          subst (λ (g : FileState). AreCellsWritten g number cells.place values (opened_state new slots)) view
              (subst (λ (vs : List ℤ). AreCellsWritten (opened_state image slots) number cells.place vs (opened_state new slots)) all first.written),
        )

pub write_stored-requires : goal.write_stored-requires
write_stored-requires c =
    let index = c.self.inside.index in
    record {
      inside = inside c.self.inside.image index.objects.items index.numbers c.self.invariant c.args.self.now c.self.view_is c.args.number c.args.cells.now c.args.values.now
          c.requires.run c.requires.some c.requires.standing;
      of_type = of_type c.self.inside.image index.objects.items index.numbers c.self.invariant c.args.self.now c.self.view_is c.args.number c.args.cells.now c.args.values.now
          c.requires.run c.requires.some c.requires.standing;
    }

-- what was written
after : (c : goal.After-write_stored) → IsOpened c.write_stored.new.image c.self.inside.index.objects.items c.self.inside.index.numbers
    × AreCellsWritten c.args.self.now c.args.number c.args.cells.now.place c.args.values.now (opened_state c.write_stored.new.image c.self.inside.index.objects.items)
after c =
    let index = c.self.inside.index in
    written c.self.inside.image index.objects.items index.numbers c.self.invariant c.args.self.now c.self.view_is c.args.number c.args.cells.now c.args.values.now
    c.requires.run c.requires.some c.requires.standing c.write_stored.new.image c.write_stored.ensures

pub invariant_of-self : goal.invariant_of-self
invariant_of-self c = (after c).0

pub returns-clause-changed : goal.returns-clause-changed
returns-clause-changed c = (after c).1.changed

pub returns-clause-k : goal.returns-clause-k
returns-clause-k c = (after c).1.k

pub returns-clause-sound : goal.returns-clause-sound
returns-clause-sound c = sound c.write_stored.new.image c.self.inside.index.objects.items c.self.inside.index.numbers (after c).0

pub returns-clause-whole : goal.returns-clause-whole
returns-clause-whole c = (after c).1.whole

pub returns-clause-stored : goal.returns-clause-stored
returns-clause-stored c = (after c).1.stored

pub returns-clause-in_place : goal.returns-clause-in_place
returns-clause-in_place c = (after c).1.in_place

pub returns-clause-local : goal.returns-clause-local
returns-clause-local c = (after c).1.local
