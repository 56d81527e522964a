use Rattle.std.proofs.Common.{◌≡◌, Option, length, ap, sym, ◌∙◌, arith, nat_le}
use Rattle.std.specs.Option.{option_map_or}
use Rattle.h5_bytes.specs.declared.Block.{Block}
use Rattle.h5_space.specs.Space.{Space, next_place}
use Rattle.h5_space.proofs.FitLaws.{find_found, find_missing}
use Rattle.h5_space.proofs.image.Image.place_for.Goals as goal

pub returns-in-Some : goal.returns-in-Some
returns-in-Some c =
    let free = c.self.inside.free.items in
    let first = find_found (λ (b : Block). nat_le c.args.len b.len) free c.in-Some.k c.index.result.now (rw (← c.as_slice.ensures.value) (sym c.first_fit-fit.ensures ∙ c.in-Some.is)) in
    ap (λ (b : Block). b.at) c.index.ensures ∙ sym (ap (λ (s : Space). next_place c.args.len s) (sym c.self.view_is)
    ∙ ap (λ (o : Option Block). option_map_or (λ (b : Block). b.at) o (length c.self.inside.bytes.items)) first)

pub returns-in-None : goal.returns-in-None
returns-in-None c =
    let free = c.self.inside.free.items in
    let end : c.len.result ≡ length c.self.inside.bytes.items = omega (arith, c.len.ensures, c.self.inside.bytes.ok.0) in
    let first = find_missing (λ (b : Block). nat_le c.args.len b.len) free (rw (← c.as_slice.ensures.value) (sym c.first_fit-fit.ensures ∙ c.in-None.is)) in
    end ∙ sym (ap (λ (s : Space). next_place c.args.len s) (sym c.self.view_is)
    ∙ ap (λ (o : Option Block). option_map_or (λ (b : Block). b.at) o (length c.self.inside.bytes.items)) first)
