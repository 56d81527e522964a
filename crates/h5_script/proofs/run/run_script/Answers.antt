use Rattle.std.proofs.Common.{length, subst}
use Rattle.h5_dump.specs.Opened.Sound.{IsSound}
use Rattle.h5_dump.specs.Opened.State.{FileState}
use Rattle.h5_dump.specs.Space.{IsSpaced}
use Rattle.h5_script.proofs.Wholes.{run_whole}
use Rattle.h5_script.proofs.run.run_script.Goals as goal

pub returns-clause-sound : goal.returns-clause-sound
returns-clause-sound g c = subst IsSound c.file.ensures.file c.image-image.ensures.sound

pub returns-clause-joined : goal.returns-clause-joined
returns-clause-joined g c = subst (λ (f : FileState). IsSpaced f.free (length f.image)) c.file.ensures.file c.image-image.ensures.joined

pub returns-clause-whole : goal.returns-clause-whole
returns-clause-whole g c =
    run_whole c.run_buffered-ran.result c.args.session.now c.run_buffered-ran.new.session (g.R.Read.remaining c.args.input.now) (g.R.Read.remaining c.run_buffered-ran.new.input)
    (g.W.Write.contents c.args.output.now) (g.W.Write.contents c.run_buffered-ran.new.output) c.run_buffered-ran.ensures
