use Rattle.std.proofs.Common.{◌≡◌, inl, inr, length, sym, ap, ◌∙◌, subst, arith}
use Rattle.std.proofs.lemmas.Bool.{cases_lt}
use Rattle.h5_model.specs.Format.Layout.{InChunks}
use Rattle.h5_model.proofs.CountLaws.{length-selection}
use Rattle.h5_model.proofs.WithinLaws.{to_is_within}
use Rattle.h5_msg.specs.Layouts.{layout_in}
use Rattle.h5_layout.specs.Lacking.{IsFound}
use Rattle.h5_layout.proofs.LackingLaws.{block_found, chunks_found, compact_found, none_lacks}
use Rattle.h5_layout.proofs.lacking.missing_of.Goals as goal

pub returns-in-Compact : goal.returns-in-Compact
returns-in-Compact c = compact_found c.args.image.now.bytes c.args.array.now c.args.slab.now _ (sym c.layout.ensures.layout ∙ ap layout_in c.in-Compact.is)

pub returns-in-Contiguous : goal.returns-in-Contiguous
returns-in-Contiguous c =
    let image = c.args.image.now.bytes in
    let a = c.args.array.now in
    let slab = c.args.slab.now in
    let counted = length-selection a.sizes slab (sym c.requires.rank) (to_is_within a.sizes slab c.requires.within) c.axes-axes.ensures.sound.apart in
    subst (IsFound image a slab) (sym c.missing_block.ensures)
    (block_found image a slab _ (sym c.layout.ensures.layout ∙ ap layout_in c.in-Contiguous.is) counted)

pub returns-in_ok-new-in-Chunked : goal.returns-in_ok-new-in-Chunked
returns-in_ok-new-in-Chunked c =
    let image = c.args.image.now.bytes in
    let a = c.args.array.now in
    let layout : a.layout ≡ InChunks c.in-Chunked.sizes c.in-Chunked.tree = sym c.layout.ensures.layout ∙ ap layout_in c.in-Chunked.is in
    let new = c.in_ok-new-in-Chunked.new in
    let are = c.in_ok-new-in-Chunked.ensures c.in-Chunked.sizes c.in-Chunked.tree layout in
    elim (cases_lt 0 (length new.offsets)) [
      | inl some ↦
          let part = c.missing_part.ensures.some some in
          subst (IsFound image a c.args.slab.now) (sym part.2) (chunks_found image a c.args.slab.now c.in-Chunked.sizes c.in-Chunked.tree layout new are some part.0 part.1)
      | inr few ↦
          let none : length new.offsets ≡ 0 = omega (arith, few) in
          subst (IsFound image a c.args.slab.now) (sym (c.missing_part.ensures.none none)) (none_lacks image a c.args.slab.now c.in-Chunked.sizes c.in-Chunked.tree layout new are none)
    ]
