use Rattle.std.proofs.Common.{ℕ, ◌-◌, ◌++◌, take, List, length, drop, sym, ap, ◌∙◌, arith}
use Rattle.std.proofs.lemmas.List.{take_rest, get_or-drop, length-drop}
use Rattle.h5_space.specs.Addresses.{BeginsAt}
use Rattle.h5_space.proofs.RunEdits.{begins_at}
use Rattle.h5_space.proofs.addresses.second_half.Goals as goal

pub returns-clause-entries : goal.returns-clause-entries
returns-clause-entries g c = c.in_ok-extend_from_slice.ensures.items ∙ ap (λ (es : List (ℕ × g.row.V.Denot)). es ++ take (length c.args.entries.now - 128) (drop 128 c.args.entries.now)) c.in_ok-rest.ensures.items ∙ take_rest c.args.entries.now 128

pub returns-clause-first : goal.returns-clause-first
returns-clause-first g c =
    let items = c.in_ok-extend_from_slice.ensures.items ∙ ap (λ (es : List (ℕ × g.row.V.Denot)). es ++ take (length c.args.entries.now - 128) (drop 128 c.args.entries.now)) c.in_ok-rest.ensures.items ∙ take_rest c.args.entries.now 128 in
    let e : ℕ × g.row.V.Denot = c.index-entries-128.result in
    let begins : BeginsAt e.0 (drop 128 c.args.entries.now) = begins_at (drop 128 c.args.entries.now) e (omega (arith, c.requires, length-drop 128 c.args.entries.now))
    (c.index-entries-128.is ∙ sym (get_or-drop 128 c.args.entries.now 0 e)) in
    rw (← c.index-entries-128.is, items) begins
