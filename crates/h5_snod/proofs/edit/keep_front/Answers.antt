use Rattle.std.proofs.Common.{◌∙◌, refl, ap, arith, List, ℕ}
use Rattle.h5_bytes.specs.Bytes.{part}
use Rattle.h5_model.specs.Format.Symbols.{entries_of}
use Rattle.h5_snod.specs.Raw.{raw_entries}
use Rattle.h5_snod.proofs.EditLaws.{raw-cut, entries_of-cut, head-counted}
use Rattle.h5_snod.proofs.edit.keep_front.Goals as goal

pub returns-clause-entries : goal.returns-clause-entries
returns-clause-entries c =
    ap entries_of c.put_u16.ensures ∙ entries_of-cut c.args.node.now c.args.k _ refl (omega (arith, c.requires.place)) (omega (arith, c.requires.head)) (omega (arith, c.requires.small))

pub returns-clause-head : goal.returns-clause-head
returns-clause-head c = ap (λ (b : List ℕ). part 0 6 b) c.put_u16.ensures ∙ head-counted c.args.node.now c.args.k (omega (arith, c.requires.head))

pub returns-clause-bytes : goal.returns-clause-bytes
returns-clause-bytes c =
    ap raw_entries c.put_u16.ensures ∙ raw-cut c.args.node.now c.args.k _ refl (omega (arith, c.requires.place)) (omega (arith, c.requires.head)) (omega (arith, c.requires.small))
