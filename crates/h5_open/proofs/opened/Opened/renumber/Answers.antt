use Rattle.std.proofs.Common.{List, Option, length, sym, ap, ◌∙◌, subst}
use Rattle.std.proofs.lemmas.Result.{on_err_weaker, on_ok_weaker}
use Rattle.h5_model.specs.Format.Reads.{Reads}
use Rattle.h5_open.specs.declared.opened.object.OpenedObject.{OpenedObject}
use Rattle.h5_open.specs.Opened.State.{FileState, opened_state}
use Rattle.h5_open.specs.Renumbered.Headers.{IsReadAt, table_with}
use Rattle.h5_open.proofs.RenumberedLaws.Renumbered.{on_ok_both, renumbered}
use Rattle.h5_open.proofs.opened.Opened.renumber.Goals as goal

pub renumber-requires-clause-read : goal.renumber-requires-clause-read
renumber-requires-clause-read c = subst (λ (f : FileState). IsReadAt f.image c.args.headers.now) (sym c.self.view_is) c.requires.read

pub returns-clause-renumbered : goal.returns-clause-renumbered
returns-clause-renumbered c =
    on_ok_weaker c.renumber.result (λ made tree reads.
    let image = c.self.inside.image in
    let before = c.self.inside.index in
    let now = c.renumber.new.index in
    let hs = c.args.headers.now in
    let here = subst (λ (f : FileState). Reads f.image (table_with hs) tree) (sym c.self.view_is) reads in
    renumbered image before.objects.items now.objects.items now.numbers hs made.0 made.1.0 made.1.1 tree here
    ∙ ap (λ (f : FileState). record f { table = table_with hs; next = length hs; tree = tree }) c.self.view_is)
    (on_ok_both _ _ c.renumber.result c.renumber.ensures.opened (on_ok_both _ _ c.renumber.result c.renumber.ensures.table c.renumber.ensures.length))

pub returns-clause-same : goal.returns-clause-same
returns-clause-same c =
    on_err_weaker c.renumber.result (λ same.
    ap (λ (slots : List (Option OpenedObject)). opened_state c.self.inside.image slots) same ∙ c.self.view_is) c.renumber.ensures.objects
