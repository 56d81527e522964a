use Rattle.std.proofs.Common.{◌≡◌, inr, sym, ap, ◌∙◌, subst}
use Rattle.std.proofs.lemmas.Result.{MatchResult-weaker}
use Rattle.h5_header.specs.Listed.{messages_in}
use Rattle.h5_model.specs.Faults.HeaderFaults.{ListBreach}
use Rattle.h5_open.proofs.judge.judge_kind.Goals as goal

pub returns-clause-refused : goal.returns-clause-refused
returns-clause-refused c =
    let header = c.args.header.now in
    let same : messages_in header.image c.messages.result.now.list ≡ header.messages = ap (messages_in header.image) c.messages.ensures.list ∙ sym c.messages.ensures.messages in
    MatchResult-weaker c.object_kind.result (c.object_kind.ensures.refused header.image) (λ _ h. h)
    (λ fault breach. inr (subst (λ (X : Type 0). X) (λ i. ListBreach header.image (c.messages.ensures.header i) (same i) fault.cause) breach))
