use Rattle.std.proofs.Common.{◌≡◌, ◌∙◌, None, sym}
use Rattle.std.specs.Result.{result_ok}
use Rattle.h5_file.proofs.AcceptedEdits.{some_slab}
use Rattle.h5_file.proofs.touched.Touched.written.Goals as goal

pub returns-in_err-slab : goal.returns-in_err-slab
returns-in_err-slab c =
    let f = c.args.file.now in
    let none : result_ok c.new.result ≡ None = sym c.ok.ensures.value ∙ c.in_err-slab.was in
    rw (c.from_residual.ensures) (λ path values allowed.
    absurd (some_slab f c.image-image.ensures.low c.image-image.ensures.sound path c.args.hyper.now values c.new.result c.new.ensures none allowed))
