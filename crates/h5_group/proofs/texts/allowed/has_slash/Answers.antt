use Rattle.std.proofs.Common.{eqb, sym, ◌∙◌, arith, w8}
use Rattle.std.proofs.lemmas.Bool.{eqb-true, eqb-false, not-false}
use Rattle.std.proofs.lemmas.Simd.{length-chunk, bitmask_splat, none_from_empty_mask}
use lib.Lanes.{chunk}
use Rattle.h5_group.proofs.texts.allowed.has_slash.Goals as goal

pub returns : goal.returns
returns c = λ none k low high here.
    let bytes = c.args.bytes.now in
    let at = c.args.at in
    let slashes = bitmask_splat w8 eqb (chunk at 16 bytes) 16 47 (length-chunk at 16 bytes c.requires) (omega arith) in
    eqb-false _ 47 (none_from_empty_mask (λ x. eqb x 47) bytes at 16 0 c.requires (sym slashes ∙ eqb-true _ 0 (not-false _ none)) k low high) here
