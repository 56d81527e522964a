use Rattle.std.proofs.Common.{length, not, sym, ap, ◌∙◌}
use Rattle.h5_model.specs.Edits.Refusal.{some_above}
use Rattle.h5_query.specs.StoredExtent.{StoredExtent}
use Rattle.h5_edit.proofs.RuleLaws.Exits.{passed_on}
use Rattle.h5_edit.proofs.RuleLaws.Resizes.{above_refused, many_of, many_refused, rank_refused, resize_allowed, resize_refused, same_rank, store_refused}
use Rattle.h5_edit.proofs.rules.resize.check_resize.Goals as goal

pub returns-in_err-number-clause-at : goal.returns-in_err-number-clause-at
returns-in_err-number-clause-at c =
    passed_on _ _ c.from_residual.result _ c.from_residual.ensures.1 (resize_refused _ _ c.args.path.now c.args.dims.now _ c.in_err-number.ensures.there)

pub returns-then-dims-rank-clause-at : goal.returns-then-dims-rank-clause-at
returns-then-dims-rank-clause-at c =
    let x = c.in_ok-number.ensures.there in
    rank_refused _ _ c.args.path.now c.args.dims.now _ x.there.accepted x.there.found c.rank.result
    (c.rank.ensures.sizes ∙ ap (λ (e : StoredExtent). length e.sizes) x.extent) c.if-dims-rank.true

pub returns-then-not-is_chunked-clause-at : goal.returns-then-not-is_chunked-clause-at
returns-then-not-is_chunked-clause-at c =
    let x = c.in_ok-number.ensures.there in
    let ranked = same_rank c.args.dims.now _ c.rank.result (c.rank.ensures.sizes ∙ ap (λ (e : StoredExtent). length e.sizes) x.extent) c.if-dims-rank.false in
    store_refused _ _ c.args.path.now c.args.dims.now _ x.there.accepted x.there.found ranked
    (sym (ap (λ (e : StoredExtent). e.chunked) x.extent) ∙ sym c.is_chunked.ensures ∙ c.if-not-is_chunked.true)

pub returns-then-is_above-clause-at : goal.returns-then-is_above-clause-at
returns-then-is_above-clause-at c =
    let x = c.in_ok-number.ensures.there in
    let ranked = same_rank c.args.dims.now _ c.rank.result (c.rank.ensures.sizes ∙ ap (λ (e : StoredExtent). length e.sizes) x.extent) c.if-dims-rank.false in
    let chunked = sym (ap (λ (e : StoredExtent). e.chunked) x.extent) ∙ sym c.is_chunked.ensures ∙ c.if-not-is_chunked.false in
    above_refused _ _ c.args.path.now c.args.dims.now _ x.there.accepted x.there.found ranked chunked
    (sym (ap (λ (e : StoredExtent). some_above c.args.dims.now e.maxima) x.extent) ∙ sym c.is_above.ensures ∙ c.if-is_above.true)

pub returns-then-not-is_small-clause-at : goal.returns-then-not-is_small-clause-at
returns-then-not-is_small-clause-at c =
    let x = c.in_ok-number.ensures.there in
    let ranked = same_rank c.args.dims.now _ c.rank.result (c.rank.ensures.sizes ∙ ap (λ (e : StoredExtent). length e.sizes) x.extent) c.if-dims-rank.false in
    let chunked = sym (ap (λ (e : StoredExtent). e.chunked) x.extent) ∙ sym c.is_chunked.ensures ∙ c.if-not-is_chunked.false in
    let within = sym (ap (λ (e : StoredExtent). some_above c.args.dims.now e.maxima) x.extent) ∙ sym c.is_above.ensures ∙ c.if-is_above.false in
    many_refused _ _ c.args.path.now c.args.dims.now _ x.there.accepted x.there.found ranked chunked within
    (many_of c.args.dims.now c.unwrap.result c.is_small.result (rw c.unwrap.ensures at c.new.ensures.numbers) c.is_small.ensures.product
    ∙ ap not c.if-not-is_small.true)

pub returns-clause-at : goal.returns-clause-at
returns-clause-at c =
    let x = c.in_ok-number.ensures.there in
    let ranked = same_rank c.args.dims.now _ c.rank.result (c.rank.ensures.sizes ∙ ap (λ (e : StoredExtent). length e.sizes) x.extent) c.if-dims-rank.false in
    let chunked = sym (ap (λ (e : StoredExtent). e.chunked) x.extent) ∙ sym c.is_chunked.ensures ∙ c.if-not-is_chunked.false in
    let within = sym (ap (λ (e : StoredExtent). some_above c.args.dims.now e.maxima) x.extent) ∙ sym c.is_above.ensures ∙ c.if-is_above.false in (
      record {
        allowed = resize_allowed _ _ c.args.path.now c.args.dims.now _ x.there.accepted x.there.found ranked chunked within
            (many_of c.args.dims.now c.unwrap.result c.is_small.result (rw c.unwrap.ensures at c.new.ensures.numbers) c.is_small.ensures.product
            ∙ ap not c.if-not-is_small.false);
        object = x.there.number;
      },
      _,
      x.there.found,
    )
