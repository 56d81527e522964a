use Rattle.std.proofs.Common.{◌+◌, ◌*◌, ◌<◌, ◌≤◌, refl, arith, sym, ◌∙◌, length}
use Rattle.h5_model.specs.Format.Layout.{short_numbers_at}
use Rattle.h5_model.specs.Format.Limits.{most_dimensions}
use Rattle.h5_msg.proofs.LayoutLaws.{chunk_size_at, length-chunk}
use Rattle.h5_msg.proofs.layout.size_at.Goals as goal

pub overflow_mul-k : goal.overflow_mul-k
overflow_mul-k c =
    let there : 11 + 4 * c.in-Body.rank ≤ length c.in-Body.body.now = rw c.in-Body.is at c.requires.there in
    let low : c.args.k < length (short_numbers_at c.in-Body.body.now 11 c.in-Body.rank) = rw c.in-Body.is at c.requires.within in
    let few : length (short_numbers_at c.in-Body.body.now 11 c.in-Body.rank) ≤ most_dimensions = rw c.in-Body.is at c.requires.few in
    let long = length-chunk c.in-Body.body.now _ c.in-Body.rank refl in
    omega arith

pub overflow_add-k : goal.overflow_add-k
overflow_add-k c =
    let there : 11 + 4 * c.in-Body.rank ≤ length c.in-Body.body.now = rw c.in-Body.is at c.requires.there in
    let low : c.args.k < length (short_numbers_at c.in-Body.body.now 11 c.in-Body.rank) = rw c.in-Body.is at c.requires.within in
    let few : length (short_numbers_at c.in-Body.body.now 11 c.in-Body.rank) ≤ most_dimensions = rw c.in-Body.is at c.requires.few in
    let long = length-chunk c.in-Body.body.now _ c.in-Body.rank refl in
    omega arith

pub u32_at-requires : goal.u32_at-requires
u32_at-requires c =
    let there : 11 + 4 * c.in-Body.rank ≤ length c.in-Body.body.now = rw c.in-Body.is at c.requires.there in
    let low : c.args.k < length (short_numbers_at c.in-Body.body.now 11 c.in-Body.rank) = rw c.in-Body.is at c.requires.within in
    let few : length (short_numbers_at c.in-Body.body.now 11 c.in-Body.rank) ≤ most_dimensions = rw c.in-Body.is at c.requires.few in
    let long = length-chunk c.in-Body.body.now _ c.in-Body.rank refl in
    omega arith

pub returns-in-Body : goal.returns-in-Body
returns-in-Body c =
    let low : c.args.k < length (short_numbers_at c.in-Body.body.now 11 c.in-Body.rank) = rw c.in-Body.is at c.requires.within in
    rw c.in-Body.is (c.u32_at.ensures ∙ sym (chunk_size_at c.in-Body.body.now _ c.in-Body.rank c.args.k refl low))
