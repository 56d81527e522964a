use Rattle.std.proofs.Common.{rules, ◌≡◌, ℕ, ◌≤◌, ◌++◌, List, length, get_or, refl, sym, ap, ◌∙◌, append_assoc, subst, arith}
use Rattle.std.specs.Prelude.{OnOk}
use Rattle.h5_model.specs.Format.Fixed.{IsFixed}
use Rattle.h5_layout.specs.Spans.{CellFill}
use Rattle.h5_layout.specs.declared.corner.Span.{Span}
use Rattle.h5_layout.proofs.CornerLaws.{corner_bare}
use Rattle.h5_layout.proofs.PushedCorner.{inner_kept, length-slice, no_span, pushed_all, pushed_row, pushed_slice, slice_small}
use Rattle.h5_layout.proofs.corner.+push_corner.Goals as goal

-- appended to what stood there
joined : (old front rest : List ℕ) {mid whole : List ℕ} → mid ≡ old ++ front → front ++ rest ≡ whole → mid ++ rest ≡ old ++ whole
joined old front rest so is =
    ap (λ (xs : List ℕ). xs ++ rest) so ∙ append_assoc old front rest ∙ ap (λ (xs : List ℕ). old ++ xs) is

pub returns-in_default : goal.returns-in_default
returns-in_default t c =
    let f : CellFill = c.args.fill.now in
    let whole = corner_bare f.fixed f.fill c.args.bytes.now c.args.spans.now (omega (arith, c.in_default.len_below)) c.size-cell.ensures.sound (λ i. (c.type_inv.bytes i).fits) c.requires.long in
    subst (λ (xs : List ℕ). OnOk c.push_bytes.result (c.push_bytes.new.out.items ≡ c.args.out.now.items ++ xs)) (sym whole) c.push_bytes.ensures

pub returns-then-are_whole : goal.returns-then-are_whole
returns-then-are_whole t c =
    let f : CellFill = c.args.fill.now in
    let spans : List Span = c.args.spans.now in
    let bytes : List ℕ = c.args.bytes.now in
    let some : 1 ≤ length spans = c.in-len1-up.len_at_least in
    let same = c.if-are_whole.ensures.0 refl in
    subst (λ (xs : List ℕ). OnOk c.push.result (c.push.new.out.items ≡ xs))
    (joined c.args.out.now.items _ _ c.in_ok-push_bytes.ensures
    (pushed_row f.fixed f.fill spans bytes c.size-cell.ensures.sound some c.requires.spans c.requires.long c.size-cell.result c.size-cell.ensures.exact (λ i. (c.type_inv.bytes i).fits) same))
    c.push.ensures

pub push_corner-requires : goal.push_corner-requires
push_corner-requires t c =
    let f : CellFill = c.args.fill.now in
    let spans : List Span = c.args.spans.now in
    let bytes : List ℕ = c.args.bytes.now in
    let some : 1 ≤ length spans = c.in-len1-up.len_at_least in
    let sound : IsFixed f.fixed = c.size-cell.ensures.sound in
    let long = length-slice f.fixed f.fill spans bytes sound some c.requires.spans c.requires.long c.loop-i.i c.loop-i-test.true in (
      search rules,
      (
        inner_kept f.fixed f.fill spans bytes sound some c.requires.spans c.requires.long,
        (
          long,
          slice_small f.fixed f.fill spans bytes sound some c.requires.spans c.requires.long c.requires.small c.loop-i.i c.loop-i-test.true,
        ),
      ),
    )

pub loop-i-preserved : goal.loop-i-preserved
loop-i-preserved t c =
    let f : CellFill = c.args.fill.now in
    let spans : List Span = c.args.spans.now in
    let bytes : List ℕ = c.args.bytes.now in
    let some : 1 ≤ length spans = c.in-len1-up.len_at_least in
    c.in_ok-push_corner.ensures
    ∙ joined c.args.out.now.items _ _ c.loop-i.invariant
    (pushed_slice f.fixed f.fill spans bytes c.size-cell.ensures.sound some c.requires.spans c.requires.long c.loop-i.i c.loop-i-test.true)

pub returns : goal.returns
returns t c =
    let f : CellFill = c.args.fill.now in
    let spans : List Span = c.args.spans.now in
    let bytes : List ℕ = c.args.bytes.now in
    let some : 1 ≤ length spans = c.in-len1-up.len_at_least in
    let done : c.loop-i.i ≡ (get_or spans 0 no_span).kept = omega (arith, c.loop-i-test.false) in
    subst (λ (xs : List ℕ). OnOk c.push-2.result (c.push-2.new.out.items ≡ xs))
    (joined c.args.out.now.items _ _ c.loop-i.invariant
    (pushed_all f.fixed f.fill spans bytes c.size-cell.ensures.sound some c.requires.spans c.requires.long c.size-cell.result c.loop-i.i c.size-cell.ensures.exact done))
    c.push-2.ensures
