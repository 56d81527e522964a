use Rattle.h5_file.proofs.file.File.repack.Goals as goal

pub open_made-requires : goal.open_made-requires
open_made-requires c = (c.args.self.now, rw (← c.self.view_is, c.deref.ensures.value) c.in_ok-made.ensures.repacked.anew)

pub returns : goal.returns
returns c =
    let made = c.in_ok-made.ensures.repacked in
    let here = c.in_ok-self-inside.ensures in
    let kept = here.anew c.args.self.now (rw (← c.self.view_is, c.deref.ensures.value) made.anew) in
    record {
      state = kept.0;
      sound = here.whole.0;
      whole = here.whole.1;
      free = here.whole.2;
      k = kept.1;
      long = rw (← c.self.view_is, here.image) made.long;
      few = rw here.image made.few;
    }
