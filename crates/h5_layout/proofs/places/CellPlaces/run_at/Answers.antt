use Rattle.std.proofs.Common.{◌≡◌, ℕ, ◌+◌, ◌*◌, ◌≤◌, inr, List, Some, sym, ap, ◌∙◌, subst, arith}
use Rattle.h5_header.specs.declared.message.Message.{Message as Placed}
use Rattle.h5_model.specs.Format.Fixed.{Fixed}
use Rattle.h5_model.specs.Format.Described.{Described}
use Rattle.h5_layout.specs.CellPlaces.{DoStandAs, IsIndexOf, IsLineAt, IsStoredAmong, KeptPlaces}
use Rattle.h5_layout.specs.ChunkCells.{chunk_of}
use Rattle.h5_layout.specs.Compact.{IsRunAt}
use Rattle.h5_layout.specs.GridKept.{grid_in}
use Rattle.h5_layout.specs.declared.address.StoredRun.{StoredRun}
use Rattle.h5_layout.proofs.BesideLaws.{fewer_beside}
use Rattle.h5_layout.proofs.PlacesAt.{index_stands, line_stands, unstored_not}
use Rattle.h5_layout.proofs.places.CellPlaces.run_at.Goals as goal
use Rattle.h5_layout.proofs.places.CellPlaces.run_at.Goals.{in-InLine, in-InIndex}

pub unreachable-requires : goal.unreachable-requires
unreachable-requires c =
    let image = c.args.image.now.bytes in
    let list = c.requires.0 in
    let a = c.requires.1 in
    let asked : IsStoredAmong image list a c.args.self.now c.args.place c.args.most = c.requires.2 in
    unstored_not image a.fixed a.layout _
    (subst (DoStandAs image list a) (ap (λ (p : KeptPlaces). p.stand) (sym c.self.view_is) ∙ c.in-Nowhere.is) asked.places_of.stand) asked.stored

-- an array whose cells stand so
module _ (c : goal.Joined-self) (list : List Placed) (a : Described) (asked : IsStoredAmong c.args.image.now.bytes list a c.args.self.now c.args.place c.args.most) where
  stand : DoStandAs c.args.image.now.bytes list a c.self.inside.stand
  stand = subst (λ (p : KeptPlaces). DoStandAs c.args.image.now.bytes list a p.stand) (sym c.self.view_is) asked.places_of.stand

  size : c.size-size.result ≡ a.fixed.size
  size = c.size-size.ensures.size ∙ ap (λ (p : KeptPlaces). p.fixed.size) c.self.view_is ∙ ap (λ (t : Fixed). t.size) asked.places_of.fixed

pub returns-clause-stand : goal.returns-clause-stand
returns-clause-stand c =
    let image = c.args.image.now.bytes in
    let place = c.args.place in
    elim c.match-self.branch [
      | in-InLine w ↦ λ list a asked.
          let line : IsLineAt list a.layout w.in-InLine.at = (subst (DoStandAs image list a) w.in-InLine.is (stand c list a asked)).0 in
          subst (λ (r : StoredRun). IsRunAt image list a place r.cells r.at) (sym w.result-is)
          (subst (λ (n : ℕ). IsRunAt image list a place c.args.most (w.in-InLine.at + place * n)) (sym (size c list a asked))
          (line_stands image list a w.in-InLine.at line place c.args.most asked.room))
      | in-InIndex w ↦ λ list a asked.
          let g = w.in-InIndex.index in
          let row = w.row_at-row in
          let of : IsIndexOf image a g = subst (DoStandAs image list a) w.in-InIndex.is (stand c list a asked) in
          let few : w.min.result ≤ row.result.cells = omega (arith, w.min.ensures) in
          let found : chunk_of (grid_in image g) place ≡ Some w.unwrap.result = sym row.ensures.at ∙ w.unwrap.ensures in
          subst (λ (r : StoredRun). IsRunAt image list a place r.cells r.at) (sym w.result-is)
          (subst (λ (n : ℕ). IsRunAt image list a place w.min.result (w.unwrap.result + row.result.place * n)) (sym (size c list a asked))
          (inr (index_stands image a g of place w.min.result w.unwrap.result row.result.place
          (fewer_beside g.sizes g.shape.sizes place row.result.cells w.min.result few row.ensures.beside) row.ensures.place found)))
    ]
