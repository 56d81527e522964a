use Rattle.std.proofs.Common.{rules, ◌≡◌, ℕ, ◌-◌, ◌*◌, ◌+◌, ◌/◌, ◌≤◌, ℤ, List, length, get_or, drop, replicate, to_z, of_z, refl, sym, ap, ◌∙◌, subst, arith}
use mir.Syntax.{w128}
use borrow.Rule.Slice.PartMut.{put_mid}
use Rattle.h5_model.specs.Format.Fixed.{Fixed, IsFixed}
use Rattle.h5_model.specs.Format.Limits.{most_chunk_bytes}
use Rattle.h5_model.specs.Format.Plain.{cells_bytes}
use Rattle.h5_msg.proofs.ValueBytes.{AreBytes, AreBytes-drop, AreBytes-take}
use Rattle.h5_layout.specs.Kept.{corner_values}
use Rattle.h5_layout.specs.Spans.{span_sizes, span_slices}
use Rattle.h5_layout.specs.declared.corner.Span.{Span}
use Rattle.h5_layout.proofs.CornerLaws.{corner_bare}
use Rattle.h5_layout.proofs.FilledCorner.{all_filled, row_filled, slice_filled, slice_still, tail_room}
use Rattle.h5_layout.proofs.PushedCorner.{inner_kept, length-slice, no_span, slice_small}
use Rattle.h5_layout.proofs.corner.+fill_corner.Goals as goal

pub returns-in_default : goal.returns-in_default
returns-in_default t c =
    sym (corner_bare c.args.fixed.now c.args.fill c.args.bytes.now c.args.spans.now (omega (arith, c.in_default.len_below)) c.size-cell.ensures.one_of c.requires.bytes c.requires.long)

pub fill_cells-requires-clause-room : goal.fill_cells-requires-clause-room
fill_cells-requires-clause-room t c =
    tail_room c.args.fixed.now c.args.fill c.args.spans.now c.args.bytes.now c.size-cell.ensures.one_of c.in-len1-up.len_at_least c.requires.spans c.requires.long
    c.args.bytes.now c.size-cell.result c.size-cell.ensures.size refl

pub returns-then-are_whole : goal.returns-then-are_whole
returns-then-are_whole t c =
    let f : Fixed = c.args.fixed.now in
    let spans : List Span = c.args.spans.now in
    let bytes : List ℕ = c.args.bytes.now in
    let first : Span = get_or spans 0 no_span in
    let at : ℕ = first.kept * (length bytes / first.size) in
    let passed : to_z w128 (of_z w128 c.args.fill) ≡ c.args.fill = search rules in
    let wrote = c.fill_cells.ensures ∙ ap (λ (v : ℤ). cells_bytes f (replicate ((length bytes - at) / c.size-cell.result) v)) passed in
    row_filled f c.args.fill spans bytes c.size-cell.ensures.one_of c.in-len1-up.len_at_least c.requires.spans c.requires.long c.size-cell.result c.size-cell.ensures.size
    (put_mid at (length bytes - at) bytes c.fill_cells.new.bytes) c.requires.bytes (c.if-are_whole.ensures.0 refl)
    (ap (λ (xs : List ℕ). put_mid at (length bytes - at) bytes xs) wrote)

pub fill_corner-requires : goal.fill_corner-requires
fill_corner-requires t c =
    let f : Fixed = c.args.fixed.now in
    let v : ℤ = to_z w128 (of_z w128 c.args.fill) in
    let spans : List Span = c.args.spans.now in
    let bytes : List ℕ = c.args.bytes.now in
    let some : 1 ≤ length spans = c.in-len1-up.len_at_least in
    let sound : IsFixed f = c.size-cell.ensures.one_of in
    let i : ℕ = c.loop-i.i in
    let still = slice_still f v spans bytes sound some c.requires.spans c.requires.long i c.loop-i.bytes c.loop-i.invariant in
    let small = slice_small f v spans bytes sound some c.requires.spans c.requires.long c.requires.small i c.loop-i-test.true in
    let slice : ℕ = length bytes / (get_or spans 0 no_span).size in
    let low = AreBytes-take ((i + 1) * slice - i * slice) (drop (i * slice) bytes) (AreBytes-drop (i * slice) bytes c.requires.bytes) in (
      search rules,
      (
        subst AreBytes (sym still) low,
        (
          search rules,
          (
            inner_kept f v spans bytes sound some c.requires.spans c.requires.long,
            (
              ap length still ∙ length-slice f v spans bytes sound some c.requires.spans c.requires.long i c.loop-i-test.true,
              subst (λ (xs : List ℕ). length xs ≤ most_chunk_bytes) (sym still) small,
            ),
          ),
        ),
      ),
    )

pub loop-i-preserved : goal.loop-i-preserved
loop-i-preserved t c =
    let f : Fixed = c.args.fixed.now in
    let v : ℤ = to_z w128 (of_z w128 c.args.fill) in
    let spans : List Span = c.args.spans.now in
    let bytes : List ℕ = c.args.bytes.now in
    let some : 1 ≤ length spans = c.in-len1-up.len_at_least in
    let i : ℕ = c.loop-i.i in
    let slice : ℕ = length bytes / (get_or spans 0 no_span).size in
    slice_filled f v spans bytes c.size-cell.ensures.one_of some c.requires.spans c.requires.long i c.loop-i.bytes
    (put_mid (i * slice) ((i + 1) * slice - i * slice) c.loop-i.bytes c.fill_corner.new.bytes) c.fill_corner.new.bytes c.loop-i-test.true c.loop-i.invariant c.fill_corner.ensures refl

pub fill_cells-requires-2-clause-room : goal.fill_cells-requires-2-clause-room
fill_cells-requires-2-clause-room t c =
    let wide : length c.loop-i.bytes ≡ length c.args.bytes.now = omega (arith, c.loop-i.auto.bytes) in
    tail_room c.args.fixed.now c.args.fill c.args.spans.now c.args.bytes.now c.size-cell.ensures.one_of c.in-len1-up.len_at_least c.requires.spans c.requires.long
    c.loop-i.bytes c.size-cell.result c.size-cell.ensures.size wide

pub returns : goal.returns
returns t c =
    let f : Fixed = c.args.fixed.now in
    let v : ℤ = to_z w128 (of_z w128 c.args.fill) in
    let spans : List Span = c.args.spans.now in
    let bytes : List ℕ = c.args.bytes.now in
    let now : List ℕ = c.loop-i.bytes in
    let first : Span = get_or spans 0 no_span in
    let at : ℕ = first.kept * (length bytes / first.size) in
    let passed : v ≡ c.args.fill = search rules in
    let done : c.loop-i.i ≡ first.kept = omega (arith, c.loop-i-test.false, c.loop-i.auto.i-end) in
    all_filled f v spans bytes c.size-cell.ensures.one_of c.in-len1-up.len_at_least c.requires.spans c.requires.long c.size-cell.result c.size-cell.ensures.size
    c.loop-i.i now (put_mid at (length now - at) now c.fill_cells-2.new.bytes) done c.loop-i.invariant
    (ap (λ (xs : List ℕ). put_mid at (length now - at) now xs) c.fill_cells-2.ensures)
    ∙ ap (λ (x : ℤ). cells_bytes f (corner_values f x (span_sizes spans) (span_slices spans) bytes)) passed
