use Rattle.std.proofs.Common.{sym, subst, ◌≡◌, ℕ, List, arith}
use Rattle.std.specs.Prelude.{IfErr}
use Rattle.std.proofs.lemmas.Result.{err_from_is_err_and, MatchResult-weaker}
use Rattle.h5_model.specs.Format.Messages.{HasMessages, Message}
use Rattle.h5_model.specs.declared.open_fault.Cause.{Cause}
use Rattle.h5_model.proofs.OneReading.{one_messages}
use Rattle.h5_header.specs.Kinds.{IsOfGroup, IsOfDataset}
use Rattle.h5_header.specs.Listed.{messages_in}
use Rattle.h5_header.specs.Walk.Met.{IsHeaderMet}
use Rattle.h5_open.specs.Opened.Judged.{array_breach, group_breach}
use Rattle.h5_open.specs.Read.{IsFirstIfSome, IsObjectRead, NamesFirst}
use Rattle.h5_open.proofs.RefusedLaws.{met_refused}
use Rattle.h5_open.proofs.GroupReadLaws.{kind_fault}
use Rattle.h5_open.proofs.object.read_object.Goals as goal

pub returns-in_err-messages-clause-refused : goal.returns-in_err-messages-clause-refused
returns-in_err-messages-clause-refused c =
    let p = err_from_is_err_and c.from_residual.result c.from_residual.ensures.1 in
    rw (p.1, p.2) (λ followed field met. met_refused c.args.image.now.bytes c.args.claims.now.held followed field c.args.header c.args.depth met _ _ c.in_err-messages.ensures.refused)

pub returns-in_err-judge_kind-clause-refused : goal.returns-in_err-judge_kind-clause-refused
returns-in_err-judge_kind-clause-refused c =
    let image = c.args.image.now.bytes in
    let m = c.in_ok-messages.messages in
    let same : m.header ≡ c.args.header = c.in_ok-messages.ensures.header in
    let p = err_from_is_err_and c.from_residual-in_err-judge_kind.result c.from_residual-in_err-judge_kind.ensures.1 in
    rw (p.1, p.2) (λ followed field met. kind_fault image m
    (subst (λ (h : ℕ). HasMessages image h (messages_in image m.list) m.blocks) (sym same) c.in_ok-messages.ensures.read) c.in_ok-messages.ensures.inside
    c.args.claims.now.held followed field c.args.depth (subst (λ (h : ℕ). IsHeaderMet image c.args.claims.now.held followed field h c.args.depth) (sym same) met) _ _
    (rw c.new.ensures at c.in_err-judge_kind.ensures.address) (rw c.new.ensures at c.in_err-judge_kind.ensures.refused))

pub returns-in-Dataset-clause-read : goal.returns-in-Dataset-clause-read
returns-in-Dataset-clause-read c =
    let image = c.args.image.now.bytes in
    let inner = ((rw c.new.ensures at c.in_ok-judge_kind.ensures.dataset).0 (cc)).0 in
    MatchResult-weaker c.read_array_object.result c.read_array_object.ensures.read
    (λ o read. subst (λ (h : ℕ). IsObjectRead image c.args.claims.now.held c.read_array_object.new.claims.held h c.args.depth o) c.in_ok-messages.ensures.header
    (read c.args.depth inner c.args.claims.now.held c.in_ok-messages.ensures.claimed.covered)) (λ _ h. h)

-- ---- what is named first

-- no object is both
group_no_array : (ms : List Message) → IsOfGroup ms → IsOfDataset ms → ⊥
group_no_array ms group dataset = omega (arith, group.table, dataset.no_table)

group_first : (ms : List Message) (depth : ℕ) (cause : Cause) → IsOfGroup ms → IsFirstIfSome ms (group_breach ms) cause → NamesFirst ms depth cause
group_first ms depth cause group first = (λ _. first, λ _ dataset. absurd (group_no_array ms group dataset))

array_first : (ms : List Message) (depth : ℕ) (cause : Cause) → IsOfDataset ms → IsFirstIfSome ms (array_breach ms) cause → NamesFirst ms depth cause
array_first ms depth cause dataset first = (λ group. absurd (group_no_array ms group dataset), λ _ _. first)

pub returns-in_err-judge_kind-clause-first : goal.returns-in_err-judge_kind-clause-first
returns-in_err-judge_kind-clause-first c =
    let image = c.args.image.now.bytes in
    let m = c.in_ok-messages.messages in
    let p = err_from_is_err_and c.from_residual-in_err-judge_kind.result c.from_residual-in_err-judge_kind.ensures.1 in
    rw (p.1, p.2) (λ r.
    let same = one_messages image c.args.header r.messages (messages_in image m.list) r.blocks m.blocks r.has c.in_ok-messages.ensures.read in (
      λ group. absurd (let never = (rw c.new.ensures at c.in_err-judge_kind.ensures.group).1 (subst IsOfGroup same group) in cc),
      λ inner dataset. absurd (let never = (rw c.new.ensures at c.in_err-judge_kind.ensures.dataset).1 (inner, subst IsOfDataset same dataset) in cc),
    ))

pub returns-in-Group-clause-first : goal.returns-in-Group-clause-first
returns-in-Group-clause-first c = λ r.
    let image = c.args.image.now.bytes in
    let m = c.in_ok-messages.messages in
    let result = c.read_group_object.result in
    subst (λ (ms : List Message). IfErr result (λ fault. NamesFirst ms c.args.depth fault.cause))
    (one_messages image c.args.header (messages_in image m.list) r.messages m.blocks r.blocks c.in_ok-messages.ensures.read r.has)
    (MatchResult-weaker result c.read_group_object.ensures.first (λ _ h. h)
    (λ fault first. group_first (messages_in image m.list) c.args.depth fault.cause ((rw c.new.ensures at c.in_ok-judge_kind.ensures.group).0 (cc)) first))

pub returns-in-Dataset-clause-first : goal.returns-in-Dataset-clause-first
returns-in-Dataset-clause-first c = λ r.
    let image = c.args.image.now.bytes in
    let m = c.in_ok-messages.messages in
    let result = c.read_array_object.result in
    subst (λ (ms : List Message). IfErr result (λ fault. NamesFirst ms c.args.depth fault.cause))
    (one_messages image c.args.header (messages_in image m.list) r.messages m.blocks r.blocks c.in_ok-messages.ensures.read r.has)
    (MatchResult-weaker result c.read_array_object.ensures.first (λ _ h. h)
    (λ fault first. array_first (messages_in image m.list) c.args.depth fault.cause ((rw c.new.ensures at c.in_ok-judge_kind.ensures.dataset).0 (cc)).1 first))
