use Rattle.std.proofs.Common.{rules, ◌≡◌, ◌*◌, ◌/◌, ◌<◌, pos, length, take, get_or, true, false, ap, sym, ◌∙◌, arith, to_z, of_z}
use mir.Syntax.{w128}
use Rattle.std.specs.List.{list_all}
use Rattle.std.proofs.lemmas.List.{take_all}
use Rattle.h5_model.specs.Format.Fixed.{fits, value_at}
use Rattle.h5_model.specs.Scripts.Answers.{stored_values}
use Rattle.h5_model.proofs.PlainValues.{size-low}
use Rattle.h5_model.proofs.StoredValues.{index-stored, length-stored}
use Rattle.h5_layout.proofs.BufferLaws.{all_more, cell_within, counted, not_all}
use Rattle.h5_layout.proofs.buffer.are_cells_of_type.Goals as goal
use Rattle.h5_layout.proofs.buffer.are_cells_of_type.Goals.{After-fits}

-- there is a value at this place
low : (c : After-fits) → c.loop-k.k < length (stored_values c.args.own.now c.args.bytes.now)
low c =
    let counts : length c.args.bytes.now / c.size-size.result ≡ length c.args.bytes.now / c.args.own.now.size = ap (λ n. length c.args.bytes.now / n) c.size-size.ensures.size in
    omega (arith, c.loop-k-test.true, counts, length-stored c.args.own.now c.args.bytes.now)

-- whether it is one of the type
tested : (c : After-fits) → c.fits.result ≡ fits c.args.fixed.now (get_or (stored_values c.args.own.now c.args.bytes.now) c.loop-k.k (pos 0))
tested c =
    let own = c.args.own.now in
    let bytes = c.args.bytes.now in
    let some = size-low own c.size-size.ensures.one_of in
    let exact : to_z w128 (of_z w128 c.value_at.result) ≡ c.value_at.result = search rules in
    let below : c.loop-k.k < length bytes / own.size = omega (arith, low c, length-stored own bytes) in
    let room = cell_within c.loop-k.k (length bytes / own.size) own.size (length bytes) below (counted own some bytes c.requires) in
    let place : c.loop-k.k * c.size-size.result ≡ c.loop-k.k * own.size = ap (λ n. c.loop-k.k * n) c.size-size.ensures.size in
    let value : c.value_at.result ≡ get_or (stored_values own bytes) c.loop-k.k (pos 0)
    = c.value_at.ensures ∙ ap (value_at own bytes) place ∙ sym (index-stored own bytes c.loop-k.k (pos 0) some room) in
    c.fits.ensures ∙ ap (fits c.args.fixed.now) (exact ∙ value)

pub returns-then-not-fits : goal.returns-then-not-fits
returns-then-not-fits c =
    let a = (goal.at.returns-then-not-fits c).After-fits in
    let unfit : c.fits.result ≡ false = search rules in
    sym (not_all c.args.fixed.now (stored_values c.args.own.now c.args.bytes.now) c.loop-k.k (low a) (sym (tested a) ∙ unfit))

pub loop-k-preserved : goal.loop-k-preserved
loop-k-preserved c =
    let a = (goal.at.loop-k-preserved c).After-fits in
    let fit : c.fits.result ≡ true = search rules in
    all_more c.args.fixed.now (stored_values c.args.own.now c.args.bytes.now) c.loop-k.k (low a) c.loop-k.invariant (sym (tested a) ∙ fit)

pub returns : goal.returns
returns c =
    let own = c.args.own.now in
    let bytes = c.args.bytes.now in
    let counts : length bytes / c.size-size.result ≡ length bytes / own.size = ap (λ n. length bytes / n) c.size-size.ensures.size in
    let all : take c.loop-k.k (stored_values own bytes) ≡ stored_values own bytes
    = take_all c.loop-k.k (stored_values own bytes) (omega (arith, c.loop-k-test.false, counts, length-stored own bytes)) in
    sym c.loop-k.invariant ∙ ap (list_all (fits c.args.fixed.now)) all
