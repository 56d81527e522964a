use Rattle.std.proofs.Common.{◌≡◌, ◌+◌, ◌-◌, ◌*◌, ◌^◌, ◌<◌, ◌++◌, [], ◌∷◌, ℕ, ℤ, List, take, set, length, drop, get_or, ap, sym, ◌∙◌, arith, rules}
use Rattle.std.proofs.lemmas.List.{length-set, take_more_set}
use Rattle.h5_model.specs.declared.hyperslab.Axis.{Axis}
use Rattle.h5_model.specs.Views.Selection.{Slab}
use Rattle.h5_shape.specs.declared.parts.Span.{Span}
use Rattle.h5_shape.specs.InBox.{number_along}
use Rattle.h5_file.specs.Patched.{writes_in, with_writes}
use Rattle.h5_file.proofs.Writes.{first_span, spans_left, width_low, room_behind, place_low, one_more, front_back}
use Rattle.h5_file.proofs.patch.+patch_from.Goals as goal

abbrev no_span : Span
no_span = record { corner = 0; from = 0; length = 0 }

pub overflow_mul-cells : goal.overflow_mul-cells
overflow_mul-cells t c =
    let whole : c.args.axes.now ≡ c.in-Some.axis ∷ c.rest-inner.result = c.in-Some.ensures ∙ ap (λ (s : Slab). c.in-Some.axis ∷ s) (sym c.rest-inner.ensures) in
    record { fits = width_low c.in-Some.axis c.rest-inner.result c.args.spans.now no_span c.in-len1-up.len_at_least (rw whole at c.requires.spans) }

pub overflow_add-t-end : goal.overflow_add-t-end
overflow_add-t-end t c =
    let whole : c.args.axes.now ≡ c.in-Some.axis ∷ c.rest-inner.result = c.in-Some.ensures ∙ ap (λ (s : Slab). c.in-Some.axis ∷ s) (sym c.rest-inner.ensures) in
    let is = first_span c.in-Some.axis c.rest-inner.result c.args.spans.now no_span c.in-len1-up.len_at_least (rw whole at c.requires.spans) in
    let low = width_low c.in-Some.axis c.rest-inner.result c.args.spans.now no_span c.in-len1-up.len_at_least (rw whole at c.requires.spans) in
    record { fits = omega (arith, is.inside, low) }

pub overflow_mul-place : goal.overflow_mul-place
overflow_mul-place t c =
    let whole : c.args.axes.now ≡ c.in-Some.axis ∷ c.rest-inner.result = c.in-Some.ensures ∙ ap (λ (s : Slab). c.in-Some.axis ∷ s) (sym c.rest-inner.ensures) in
    let is = first_span c.in-Some.axis c.rest-inner.result c.args.spans.now no_span c.in-len1-up.len_at_least (rw whole at c.requires.spans) in
    let low = place_low c.in-Some.axis c.rest-inner.result c.args.spans.now no_span c.in-len1-up.len_at_least (rw whole at c.requires.spans)
    c.args.place c.loop-t.t c.args.array.now.fixed.size (length c.args.bytes.now) (omega (arith, is.inside, c.loop-t-test.true)) (rw whole at c.requires.room) c.requires.sized in
    let long : length c.args.bytes.now < 2 ^ 64 = search rules in
    record { fits = omega (arith, low, long) }

pub overflow_add-place : goal.overflow_add-place
overflow_add-place t c =
    let whole : c.args.axes.now ≡ c.in-Some.axis ∷ c.rest-inner.result = c.in-Some.ensures ∙ ap (λ (s : Slab). c.in-Some.axis ∷ s) (sym c.rest-inner.ensures) in
    let is = first_span c.in-Some.axis c.rest-inner.result c.args.spans.now no_span c.in-len1-up.len_at_least (rw whole at c.requires.spans) in
    let low = place_low c.in-Some.axis c.rest-inner.result c.args.spans.now no_span c.in-len1-up.len_at_least (rw whole at c.requires.spans)
    c.args.place c.loop-t.t c.args.array.now.fixed.size (length c.args.bytes.now) (omega (arith, is.inside, c.loop-t-test.true)) (rw whole at c.requires.room) c.requires.sized in
    let long : length c.args.bytes.now < 2 ^ 64 = search rules in
    record { fits = omega (arith, low, long) }

pub patch_from-requires : goal.patch_from-requires
patch_from-requires t c =
    let whole : c.args.axes.now ≡ c.in-Some.axis ∷ c.rest-inner.result = c.in-Some.ensures ∙ ap (λ (s : Slab). c.in-Some.axis ∷ s) (sym c.rest-inner.ensures) in
    let is = first_span c.in-Some.axis c.rest-inner.result c.args.spans.now no_span c.in-len1-up.len_at_least (rw whole at c.requires.spans) in
    let bytes : length c.loop-t.bytes ≡ length c.args.bytes.now = c.loop-t.auto.bytes in
    let room = room_behind c.in-Some.axis c.rest-inner.result c.args.spans.now no_span c.in-len1-up.len_at_least (rw whole at c.requires.spans)
    c.args.place c.loop-t.t c.args.array.now.fixed.size (length c.args.bytes.now) (omega (arith, is.inside, c.loop-t-test.true)) (rw whole at c.requires.room) in
    let long : length (set c.loop-t.index c.args.k c.number_at.result) ≡ length c.args.index.now = length-set c.loop-t.index c.args.k c.number_at.result ∙ c.loop-t.auto.index in (
      search rules,
      (
        c.requires.of_type,
        (
          long ∙ c.requires.rank,
          (
            omega (arith, long, ap (λ (s : Slab). length s) whole, c.requires.left),
            (spans_left c.in-Some.axis c.rest-inner.result c.args.spans.now no_span c.in-len1-up.len_at_least (rw whole at c.requires.spans), (c.requires.sized, omega (arith, room, bytes))),
          ),
        ),
      ),
    )

pub loop-t-preserved : goal.loop-t-preserved
loop-t-preserved t c =
    let whole : c.args.axes.now ≡ c.in-Some.axis ∷ c.rest-inner.result = c.in-Some.ensures ∙ ap (λ (s : Slab). c.in-Some.axis ∷ s) (sym c.rest-inner.ensures) in
    let there : c.args.k < length c.loop-t.index = omega (arith, c.loop-t.auto.index, ap (λ (s : Slab). length s) whole, c.requires.left) in
    let a : Axis = c.in-Some.axis in
    let d = c.args.array.now in
    let front : take (c.args.k + 1) (set c.loop-t.index c.args.k c.number_at.result) ≡ take c.args.k c.args.index.now ++ number_along a c.loop-t.t ∷ []
    = take_more_set c.loop-t.index c.args.k c.number_at.result there ∙ (λ i. c.loop-t.invariant.index i ++ c.number_at.ensures i ∷ []) in
    let g : ℕ → List (ℕ × ℤ) = λ u. writes_in d c.rest-inner.result (take (length c.args.spans.now - 1) (drop 1 c.args.spans.now))
    (c.args.place * (a.count * a.block) + u) (take c.args.k c.args.index.now ++ number_along a u ∷ []) in
    record {
      from = omega (arith, c.loop-t.invariant.from);
      index = front_back c.patch_from.new.index c.loop-t.index c.args.index.now c.args.k c.number_at.result c.patch_from.ensures.index c.loop-t.invariant.index;
      bytes = one_more d.fixed g (get_or c.args.spans.now 0 no_span).from c.loop-t.t c.args.bytes.now c.loop-t.bytes c.patch_from.new.bytes c.loop-t.invariant.from c.loop-t.invariant.bytes
          (c.patch_from.ensures.bytes
          ∙ ap (λ (fs : List ℕ). with_writes d.fixed (writes_in d c.rest-inner.result (take (length c.args.spans.now - 1) (drop 1 c.args.spans.now))
          (c.args.place * (a.count * a.block) + c.loop-t.t) fs) c.loop-t.bytes) front);
    }
