use Rattle.std.proofs.Common.{subst}
use Rattle.h5_model.specs.Scripts.Sessions.{IsSession}
use Rattle.h5_file.specs.Session.{session_of, SessionState}
use Rattle.h5_file.proofs.ViewLaws.{session_sound}
use Rattle.h5_file.proofs.session.Session.file.Goals as goal

pub returns-clause-sound : goal.returns-clause-sound
returns-clause-sound c =
    let s = c.self.inside in
    subst (λ (v : SessionState). IsSession (session_of v)) c.self.view_is (session_sound s.file s.views s.next c.image-image.ensures.sound c.self.invariant)
