use Rattle.std.proofs.Common.{◌≡◌, ◌∙◌, sym, refl, ap, ap₂, codes, Some}
use Rattle.clap.specs.Words.{subcommand_rows_of, rows_of, found_of}
use Rattle.clap.proofs.WalkLemmas.{first_value-rows}
use Rattle.h5_args.specs.Words.{wanted_in, wanted_by}
use Rattle.h5_args.proofs.Pairs.{both_halves}
use Rattle.h5_args.proofs.read.order_in.Goals as goal

pub returns : goal.returns
returns c =
    let found : subcommand_rows_of c.args.matches.now ≡ Some (c.in_ok-name.name.now, rows_of (found_of c.in_ok-name.inner.now))
    = both_halves _ _ _ _ _ (λ a. refl) c.in_ok-name.ensures.name c.in_ok-name.ensures.rows in
    let file = c.get_str.ensures ∙ first_value-rows (found_of c.in_ok-name.inner.now) (codes "FILE") in
    let path = c.get_str-2.ensures ∙ first_value-rows (found_of c.in_ok-name.inner.now) (codes "PATH") in
    c.order_of.ensures ∙ ap₂ (wanted_by c.in_ok-name.name.now) file path ∙ sym (ap wanted_in found)
