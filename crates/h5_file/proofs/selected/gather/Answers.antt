use Rattle.std.proofs.Common.{◌≡◌, ◌+◌, ◌*◌, ◌++◌, ℤ, List, length, take, to_z, of_z, sym, ap, ◌∙◌, append_assoc, rules}
use Rattle.std.specs.Int.{w128}
use Rattle.std.proofs.lemmas.Int.{to_z-of_z}
use Rattle.h5_model.specs.Format.Plain.{cells_bytes}
use Rattle.h5_edit.specs.Pieces.{piece_values}
use Rattle.h5_file.proofs.GatherLaws.{piece_more, place_more}
use Rattle.h5_file.proofs.selected.gather.Goals as goal

pub loop-piece-preserved : goal.loop-piece-preserved
loop-piece-preserved c =
    let d = c.args.array.now in
    let so_far = c.loop-piece.invariant in
    let left = c.loop-piece.piece-iterator in
    let step = c.in-Some.ensures.steps in
    let piece = c.in-Some.piece in
    let part : List ℤ = piece_values d.fixed d.fill piece in
    let type_is : c.fixed-fixed.result ≡ d.fixed = c.fixed-fixed.ensures ∙ c.array-told.ensures.fixed in
    let fill_is : to_z w128 (of_z w128 c.fill-fill.result) ≡ d.fill
    = to_z-of_z w128 c.fill-fill.result (search rules) ∙ c.fill-fill.ensures.value ∙ c.array-told.ensures.fill in
    let told : piece_values c.fixed-fixed.result (to_z w128 (of_z w128 c.fill-fill.result)) piece ≡ part = (λ i. piece_values (type_is i) (fill_is i) piece) in
    let taken : piece_values left.fixed left.fill piece ≡ part = (λ i. piece_values (so_far.fixed i) (so_far.fill i) piece) in
    record {
      values = so_far.values ++ part;
      parts = so_far.parts ∙ ap (λ vs. so_far.values ++ vs) (step.values ∙ ap (λ vs. vs ++ c.next.new.self.values) taken)
          ∙ sym (append_assoc so_far.values part c.next.new.self.values);
      fixed = step.fixed ∙ so_far.fixed;
      fill = step.fill ∙ so_far.fill;
      place = place_more d.fixed c.loop-piece.at c.write_piece-at.result so_far.values part so_far.place
          (c.write_piece-at.ensures.end ∙ (λ i. c.loop-piece.at + length (told i) * (type_is i).size));
      written = piece_more d.fixed c.loop-piece.at c.write_piece-at.result c.loop-piece.room c.write_piece-at.new.room so_far.values part so_far.place so_far.written
          (c.write_piece-at.ensures.written ∙ (λ i. take c.loop-piece.at c.loop-piece.room ++ cells_bytes (type_is i) (told i)));
    }
