use Rattle.std.proofs.Common.{rules, ◌≡◌, ◌*◌, ◌≤◌, ℕ, List, ◌∷◌, sym, ap, ◌∙◌, subst, arith, length, get_or, take, drop, ◌-◌}
use Rattle.h5_model.specs.Format.Limits.{most_chunk_bytes}
use Rattle.h5_model.specs.Tree.Places.{cells}
use Rattle.h5_chunks.specs.Shapes.{AreChunkSizes}
use Rattle.h5_layout.proofs.GridLaws.{bytes_behind, front_rest, sizes_behind}
use Rattle.h5_layout.proofs.grid.+bytes_of.Goals as goal

pub bytes_of-requires : goal.bytes_of-requires
bytes_of-requires t c =
    let chunk = c.args.chunk.now in
    let rest = take (length chunk - 1) (drop 1 chunk) in
    let split = front_rest chunk c.in-len1-up.len_at_least in
    let sizes : AreChunkSizes (get_or chunk 0 0 ∷ rest) = subst AreChunkSizes split c.requires.sizes in
    let small = subst (λ (ds : List ℕ). cells ds * c.args.size ≤ most_chunk_bytes) split c.requires.small in
    (search rules, (c.requires.cell, (sizes_behind (get_or chunk 0 0) rest sizes, bytes_behind (get_or chunk 0 0) rest c.args.size most_chunk_bytes sizes small)))

pub overflow_mul-result : goal.overflow_mul-result
overflow_mul-result t c =
    let chunk = c.args.chunk.now in
    let rest = take (length chunk - 1) (drop 1 chunk) in
    let small = subst (λ (ds : List ℕ). cells ds * c.args.size ≤ most_chunk_bytes) (front_rest chunk c.in-len1-up.len_at_least) c.requires.small in
    let whole : get_or chunk 0 0 * c.bytes_of.result ≡ get_or chunk 0 0 * (cells rest * c.args.size) = ap (λ n. get_or chunk 0 0 * n) c.bytes_of.ensures in
    let turned : get_or chunk 0 0 * (cells rest * c.args.size) ≡ get_or chunk 0 0 * cells rest * c.args.size = omega arith in
    omega (arith, whole, turned, small)

pub returns : goal.returns
returns t c =
    let chunk = c.args.chunk.now in
    let rest = take (length chunk - 1) (drop 1 chunk) in
    let whole : get_or chunk 0 0 * c.bytes_of.result ≡ get_or chunk 0 0 * (cells rest * c.args.size) = ap (λ n. get_or chunk 0 0 * n) c.bytes_of.ensures in
    let turned : get_or chunk 0 0 * (cells rest * c.args.size) ≡ get_or chunk 0 0 * cells rest * c.args.size = omega arith in
    whole ∙ turned ∙ sym (ap (λ ds. cells ds * c.args.size) (front_rest chunk c.in-len1-up.len_at_least))
