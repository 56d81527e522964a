use Rattle.std.proofs.Common.{◌≡◌, Some, None}
use Rattle.h5_model.specs.Format.MessageTypes.{symbol_table_kind}
use Rattle.h5_model.specs.Format.Addresses.{symbol_table_of}
use Rattle.h5_model.specs.Format.Messages.{first_body}
use Rattle.h5_header.proofs.FoundLaws.{one_stands}
use Rattle.h5_open.proofs.JudgeLaws.{first_fails, none_read}
use Rattle.h5_open.proofs.judge.judge_group.Goals as goal

pub unwrap-body-requires : goal.unwrap-body-requires
unwrap-body-requires c =
    one_stands 17 c.args.header.now.messages c.find_body.result c.find_body.ensures c.requires.table

pub returns-in_default-clause-refused : goal.returns-in_default-clause-refused
returns-in_default-clause-refused c =
    let ms = c.args.header.now.messages in
    let body : Some c.unwrap-body.result.now ≡ first_body symbol_table_kind ms = rw c.unwrap-body.ensures at c.find_body.ensures in
    let none : symbol_table_of c.unwrap-body.result.now ≡ None = none_read (symbol_table_of c.unwrap-body.result.now) _ _ c.in_default.ensures in
    rw c.fault.ensures (first_fails symbol_table_of 17 ms c.unwrap-body.result.now body none)
