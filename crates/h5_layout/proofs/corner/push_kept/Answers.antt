use Rattle.std.proofs.Common.{◌≡◌, ◌++◌, ℕ, List, refl, sym, ap, ◌∙◌, subst}
use Rattle.std.specs.Prelude.{OnOk}
use Rattle.h5_model.specs.Format.Plain.{cells_bytes}
use Rattle.h5_layout.specs.Kept.{corner_values}
use Rattle.h5_layout.specs.Spans.{span_sizes, span_slices}
use Rattle.h5_layout.specs.declared.corner.Span.{Span}
use Rattle.h5_layout.proofs.CornerLaws.{corner_whole}
use Rattle.h5_layout.proofs.corner.push_kept.Goals as goal

pub returns-then-are_whole : goal.returns-then-are_whole
returns-then-are_whole c =
    let t = c.args.fixed in
    let fill = c.args.fill in
    let spans : List Span = c.args.spans.now in
    let bytes : List ℕ = c.args.bytes.now in
    let same : span_slices spans ≡ span_sizes spans = c.if-are_whole.ensures.0 refl in
    let whole : cells_bytes t (corner_values t fill (span_sizes spans) (span_slices spans) bytes) ≡ bytes
    = ap (λ (ss : List ℕ). cells_bytes t (corner_values t fill (span_sizes spans) ss bytes)) same
    ∙ corner_whole t fill bytes (span_sizes spans) c.requires.sound (λ i. (c.type_inv.bytes i).fits) c.requires.long in
    subst (λ (xs : List ℕ). OnOk c.push_bytes.result (c.push_bytes.new.out.items ≡ c.args.out.now.items ++ xs)) (sym whole) c.push_bytes.ensures
