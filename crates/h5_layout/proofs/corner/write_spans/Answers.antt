use Rattle.std.proofs.Common.{◌≡◌, ◌+◌, ◌-◌, ◌*◌, ◌<◌, ◌++◌, ◌∷◌, [], ℕ, List, length, get_or, set, take, sym, ap, ap₂, ◌∙◌, subst, arith}
use Rattle.std.proofs.lemmas.List.{map-append, take_all, take_more, take_more_set}
use Rattle.std.proofs.lemmas.List.FromFn.{get_or-map-range_with_len}
use Rattle.std.specs.List.{AllByRecursion}
use Rattle.std.specs.Prelude.{min}
use Rattle.h5_bytes.specs.Bytes.{number_at}
use Rattle.h5_bytes.proofs.BlockLaws.{all_append}
use Rattle.h5_model.specs.Format.Chunks.{offsets_in}
use Rattle.h5_chunks.proofs.ReachLaws.{offsets_long}
use Rattle.h5_layout.specs.Kept.{slices_kept}
use Rattle.h5_layout.specs.Spans.{IsKeptSpan, span_sizes, span_slices}
use Rattle.h5_layout.specs.declared.corner.Span.{Span}
use Rattle.h5_layout.proofs.KeptLaws.{get_or-slices, length-slices}
use Rattle.h5_layout.proofs.corner.write_spans.Goals as goal

pub loop-d-preserved : goal.loop-d-preserved
loop-d-preserved c =
    let chunk : List ℕ = c.args.chunk.now in
    let kept : List ℕ = c.args.kept.now in
    let key : List ℕ = c.args.key.now in
    let d : ℕ = c.loop-d.d in
    let old : List Span = take d c.loop-d.spans in
    let x : Span = record { size = get_or chunk d 0; kept = c.min.result } in
    let offsets : List ℕ = offsets_in (length chunk) key in
    let slices : List ℕ = slices_kept kept chunk offsets in
    let ranks : length offsets ≡ length chunk = offsets_long (length chunk) key in
    let room : d < length c.loop-d.spans = omega (arith, c.loop-d-test.true, c.loop-d.auto.spans) in
    let low : d < length chunk = omega (arith, c.loop-d-test.true, c.requires.room) in
    let under : d < length slices = omega (arith, low, length-slices kept chunk offsets c.requires.rank ranks) in
    let more : take (d + 1) (set c.loop-d.spans d x) ≡ old ++ x ∷ [] = take_more_set c.loop-d.spans d x room in
    let offset : get_or offsets d 0 ≡ c.u64_at-offset.result
    = get_or-map-range_with_len (λ i. number_at key (8 + 8 * i) 8) 0 (length chunk) d d 0 low (omega arith) ∙ sym c.u64_at-offset.ensures in
    let here : c.min.result ≡ get_or slices d 0
    = c.min.ensures ∙ ap (min (get_or chunk d 0)) (c.saturating_sub.ensures ∙ ap (λ n. get_or kept d 0 - n) (sym offset))
    ∙ sym (get_or-slices kept chunk offsets d c.requires.rank ranks low) in
    record {
      sizes = ap span_sizes more ∙ map-append (λ (s : Span). s.size) old (x ∷ []) ∙ ap (λ (xs : List ℕ). xs ++ get_or chunk d 0 ∷ []) c.loop-d.invariant.sizes
          ∙ sym (take_more chunk d 0 low);
      slices = ap span_slices more ∙ map-append (λ (s : Span). s.kept) old (x ∷ []) ∙ ap₂ (λ (xs : List ℕ) (n : ℕ). xs ++ n ∷ []) c.loop-d.invariant.slices here
          ∙ sym (take_more slices d 0 under);
      sound = subst (AllByRecursion IsKeptSpan) (sym more) (all_append IsKeptSpan old (x ∷ []) c.loop-d.invariant.sound
          (record { some = c.requires.sizes.some d low; within = omega (arith, c.min.ensures) }, tt));
    }

pub returns-clause-slices : goal.returns-clause-slices
returns-clause-slices c =
    let chunk : List ℕ = c.args.chunk.now in
    let kept : List ℕ = c.args.kept.now in
    let offsets : List ℕ = offsets_in (length chunk) c.args.key.now in
    let slices : List ℕ = slices_kept kept chunk offsets in
    let d : ℕ = c.loop-d.d in
    let long : length slices ≡ length chunk = length-slices kept chunk offsets c.requires.rank (offsets_long (length chunk) c.args.key.now) in
    ap span_slices (sym (take_all d c.loop-d.spans (omega (arith, c.loop-d-test.false, c.loop-d.auto.spans)))) ∙ c.loop-d.invariant.slices
    ∙ take_all d slices (omega (arith, c.loop-d-test.false, long, c.requires.room))
