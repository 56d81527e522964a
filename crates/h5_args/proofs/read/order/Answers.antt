use Rattle.std.proofs.Common.{◌≡◌, ◌∙◌, ap, is_some, subst, sym, map, true, true≢false}
use Rattle.clap.specs.Words.{App, HasKind, fault_of, is_simple, is_simple_and_free, kind_of, subcommand_of, takes}
use Rattle.clap.proofs.CallerLemmas.{some_of_text}
use Rattle.h5_args.specs.Order.{wanted_by_order}
use Rattle.h5_args.specs.Words.{wanted_by_words, faults, wanted_in}
use Rattle.h5_args.proofs.FaultLaws.{fault_told}
use Rattle.h5_args.proofs.FaultlessLaws.{faultless_asked}
use Rattle.h5_args.proofs.read.order.Goals as goal

pub unreachable-requires : goal.unreachable-requires
unreachable-requires g c =
    let words = map g.S.AsStr.text c.args.words.now in
    let app_is = c.in_ok-command.ensures in
    let none = ap (λ (a : App). fault_of a words) (sym app_is) ∙ c.in-Ok.ensures.kinds (ap is_simple_and_free app_is) in
    let found = (c.in-Ok.ensures.matches (ap is_simple app_is)).1 ∙ ap (λ (a : App). subcommand_of a words) app_is in
    let given = some_of_text wanted_by_order c.order_in.result (wanted_by_words words) (c.order_in.ensures ∙ ap wanted_in found) (faultless_asked words none) in
    absurd (true≢false (sym given ∙ ap is_some c.in-None.is))

pub returns-in-Some-clause-faults : goal.returns-in-Some-clause-faults
returns-in-Some-clause-faults g c =
    let app_is = c.in_ok-command.ensures in
    ap (λ (a : App). fault_of a (map g.S.AsStr.text c.args.words.now)) (sym app_is) ∙ c.in-Ok.ensures.kinds (ap is_simple_and_free app_is)

pub returns-in-Err-clause-only : goal.returns-in-Err-clause-only
returns-in-Err-clause-only g c = λ taken.
    c.fault_of.ensures.memory (c.in-Err.ensures.passes (subst (λ (a : App). takes a (map g.S.AsStr.text c.args.words.now) ≡ true) (sym c.in_ok-command.ensures) taken))

pub returns-in-Err-clause-faults : goal.returns-in-Err-clause-faults
returns-in-Err-clause-faults g c =
    let words = map g.S.AsStr.text c.args.words.now in
    let app_is = c.in_ok-command.ensures in
    let kind_is = subst (λ (a : App). HasKind (fault_of a words) c.in-Err.error) app_is (c.in-Err.ensures.kinds (ap is_simple_and_free app_is)) in
    fault_told (faults words) (kind_of c.in-Err.error) c.fault_of.result kind_is c.fault_of.ensures.memory c.fault_of.ensures.kind
