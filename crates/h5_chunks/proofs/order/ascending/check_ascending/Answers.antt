use Rattle.std.proofs.Common.{◌<◌, ◌∙◌, List, ℕ, length, get_or, sym, ap, subst, arith}
use Rattle.std.specs.Prelude.{Option}
use Rattle.std.proofs.lemmas.Option.{get_or_from_slice_get, slice_get-get_or}
use Rattle.std.proofs.lemmas.Result.{err_from_is_err_and}
use Rattle.h5_model.specs.Format.Chunks.{chunks_in}
use Rattle.h5_model.specs.Format.Links.{Before}
use Rattle.h5_btree.specs.Rising.{FallFrom, RiseFrom, last_value}
use Rattle.h5_btree.specs.Walk.Below.{reading_in}
use Rattle.h5_btree.specs.Walk.Forms.{OfChunks}
use Rattle.h5_btree.proofs.RisingLaws.{fall_next, last_next, rise_next}
use Rattle.h5_chunks.specs.Between.{offsets_of}
use Rattle.h5_chunks.proofs.order.ascending.check_ascending.Goals as goal

pub returns-in_err-last-clause-falls : goal.returns-in_err-last-clause-falls
returns-in_err-last-clause-falls c =
    let items : ℕ → List (List ℕ × ℕ) = λ n. chunks_in (length c.args.shape.now.sizes) (reading_in c.args.image.now.bytes (OfChunks c.args.shape.now) n) in
    let row : List ℕ = c.args.row.now in
    let k : ℕ = c.loop-at.at-index in
    let at : ℕ = get_or row k 0 in
    let low : k < length row = omega arith in
    let here = get_or_from_slice_get row k at at (slice_get-get_or row k 0 low) in
    let falls = subst (λ (o : Option (List ℕ)). FallFrom offsets_of Before o (items at)) c.loop-at.invariant.1 c.in_err-last.ensures.falls in
    let p = err_from_is_err_and c.from_residual.result c.from_residual.ensures.1 in
    rw (p.1, p.2, c.in_err-last.ensures.refused) (fall_next offsets_of Before items row k at low here falls)

pub loop-at-preserved : goal.loop-at-preserved
loop-at-preserved c =
    let items : ℕ → List (List ℕ × ℕ) = λ n. chunks_in (length c.args.shape.now.sizes) (reading_in c.args.image.now.bytes (OfChunks c.args.shape.now) n) in
    let row : List ℕ = c.args.row.now in
    let k : ℕ = c.loop-at.at-index in
    let at : ℕ = get_or row k 0 in
    let low : k < length row = omega arith in
    let here = get_or_from_slice_get row k at at (slice_get-get_or row k 0 low) in
    let rise = subst (λ (o : Option (List ℕ)). RiseFrom offsets_of Before o (items at)) c.loop-at.invariant.1 c.in_ok-last.ensures.rise in (
      rise_next offsets_of Before items row k at low here c.loop-at.invariant.0 rise,
      c.in_ok-last.ensures.last ∙ ap (λ (o : Option (List ℕ)). last_value offsets_of o (items at)) c.loop-at.invariant.1
          ∙ sym (last_next offsets_of Before items row k at low here),
    )
