use Rattle.std.proofs.Common.{rules, ◌≡◌, ◌++◌, ◌*◌, ℕ, ℤ, List, length, take, drop, replicate, to_z, of_z, false, sym, ap, ◌∙◌, subst}
use mir.Syntax.{w128}
use Rattle.std.proofs.lemmas.List.{take_at}
use Rattle.h5_model.specs.Format.Fixed.{Fixed, fits}
use Rattle.h5_model.specs.Format.Layout.{InChunks, Layout}
use Rattle.h5_model.specs.Format.Described.{Described}
use Rattle.h5_model.specs.Tree.Places.{cells}
use Rattle.h5_msg.specs.Layouts.{layout_in}
use Rattle.h5_layout.specs.ArrayChunks.{AreSoundChunks}
use Rattle.h5_layout.specs.Judged.{is_chunk_large}
use Rattle.h5_layout.proofs.KeptValues.{chunk_rank}
use Rattle.h5_layout.proofs.OutsideChunks.{sound_chunks}
use Rattle.h5_layout.proofs.chunked.ChunkedArray.of.Goals as goal
use Rattle.h5_layout.proofs.chunked.ChunkedArray.of.Goals.{After-fill}

module _ (c : After-fill) where
  abbrev a : Described
  a = c.args.array.now

  abbrev chunk : List ℕ
  chunk = c.in-Chunked.chunk_sizes

  abbrev rest : List ℕ
  rest = drop c.rank-rank.result (replicate 32 0)

  known : a.layout ≡ InChunks chunk c.in-Chunked.tree
  known = sym (ap layout_in (sym c.in-Chunked.is) ∙ c.layout.ensures.layout)

  lent : take c.rank-rank.result (c.copy_sizes.new.to ++ rest) ≡ chunk
  lent = take_at c.copy_sizes.new.to rest c.rank-rank.result (ap length c.copy_sizes.ensures.same ∙ sym c.rank-rank.ensures.rank) ∙ c.copy_sizes.ensures.same

  small : is_chunk_large c.fixed-fixed.result (InChunks chunk c.in-Chunked.tree) ≡ false
  small =
      subst (λ (t : Fixed). is_chunk_large t (InChunks chunk c.in-Chunked.tree) ≡ false) (sym c.fixed-fixed.ensures)
      (subst (λ (l : Layout). is_chunk_large a.fixed l ≡ false) known c.layout.ensures.sound.chunk_small)

  abbrev fill : ℤ
  fill = to_z w128 (of_z w128 c.fill.result)

  sound : AreSoundChunks (record { fixed = c.fixed-fixed.result; fill = fill; chunk = take c.rank-rank.result (c.copy_sizes.new.to ++ rest); root = c.in-Chunked.tree })
  sound =
      sound_chunks c.fixed-fixed.result fill chunk
      (take c.rank-rank.result (c.copy_sizes.new.to ++ rest)) c.in-Chunked.tree lent c.copy_sizes.ensures.sound c.copy_sizes.ensures.short c.size.ensures.one_of
      (let passed : fill ≡ c.fill.result = search rules in
      let value : fill ≡ a.fill = passed ∙ c.fill.ensures.value in
      (λ i. fits (c.fixed-fixed.ensures i) (value i)) ∙ c.fill.ensures.of_type) small

pub invariant_of-result : goal.invariant_of-result
invariant_of-result c = (c.rank-rank.ensures.most, c.bytes_of-chunk_length.ensures ∙ ap (λ (n : ℕ). cells (take c.rank-rank.result (c.copy_sizes.new.to ++ drop c.rank-rank.result (replicate 32 0))) * n) c.size.ensures.size, sound (goal.at.invariant_of-result c).After-fill)

pub returns-clause-chunks : goal.returns-clause-chunks
returns-clause-chunks c =
    let d = (goal.at.returns-clause-chunks c).After-fill in
    let passed : to_z w128 (of_z w128 c.fill.result) ≡ c.fill.result = search rules in
    record {
      fixed = c.fixed-fixed.ensures;
      fill = passed ∙ c.fill.ensures.value;
      layout = known d ∙ ap (λ (xs : List ℕ). InChunks xs c.in-Chunked.tree) (sym (lent d));
      rank = ap length (lent d) ∙ chunk_rank c.args.array.now c.in-Chunked.chunk_sizes c.in-Chunked.tree (known d) c.layout.ensures.sound;
    }

pub returns-clause-sound : goal.returns-clause-sound
returns-clause-sound c = sound (goal.at.returns-clause-sound c).After-fill
