use Rattle.std.proofs.Common.{◌≡◌, true, sym}
use Rattle.h5_model.specs.Edits.Refusal.{are_maxima, is_store}
use Rattle.h5_edit.proofs.FitLaws.NewArrays.{store_sizes}
use Rattle.h5_edit.proofs.rules.array.check_spec.Goals as goal

pub is_chunk_large-requires : goal.is_chunk_large-requires
is_chunk_large-requires c =
    let sizes = c.in-Some.dims in
    let maxima = c.as_slice-maxima.result.now in
    let bounded : are_maxima sizes maxima ≡ true = rw c.sizes.ensures.numbers at (sym c.if-not-are_maxima.ensures.rule) in
    let shaped : is_store c.args.spec.now.store sizes maxima ≡ true = rw c.sizes-else-not-are_maxima.ensures.numbers at (sym c.if-not-is_store.ensures) in
    store_sizes sizes maxima c.args.spec.now.store c.sizes.ensures.rank bounded shaped
