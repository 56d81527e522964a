use Rattle.std.proofs.Common.{◌≡◌, ◌+◌, ◌-◌, ◌++◌, arith, length, take, replicate, vec_len, ap, refl, sym, ◌∙◌, position, Option, Some, nat_le, append-nil}
use Rattle.std.specs.Option.{option_map_or}
use Rattle.std.proofs.lemmas.List.Quantifiers.{position-Some}
use Rattle.std.proofs.lemmas.Bool.{leb-true}
use Rattle.std.proofs.lemmas.List.{take_all}
use Rattle.h5_bytes.specs.declared.Block.{Block}
use Rattle.h5_bytes.specs.Blocks.{holds, cover}
use Rattle.h5_bytes.proofs.BlockLaws.{holds_none}
use Rattle.h5_space.specs.Space.{Space, growth, next_place}
use Rattle.h5_space.proofs.FitLaws.{find_found, find_missing, growth_found, growth_missing}
use Rattle.h5_space.proofs.image.Image.take.Goals as goal
use Rattle.h5_space.proofs.image.Image.take.Goals.{In-Some, In-None}

found : (c : In-Some) → position (λ (b : Block). nat_le c.args.len b.len) c.self.inside.free.items ≡ Some c.in-Some.k
found c = rw (← c.as_slice.ensures.value) (sym c.first_fit.ensures ∙ c.in-Some.is)

stays : (c : In-Some) → growth c.args.len c.args.self.now.free ≡ 0
stays c = ap (λ (s : Space). growth c.args.len s.free) (sym c.self.view_is) ∙ growth_found c.args.len c.self.inside.free.items c.in-Some.k (record { at = 0; len = 0 }) (found c)

pub returns-in-Some-clause-place : goal.returns-in-Some-clause-place
returns-in-Some-clause-place c =
    let k = (goal.at.returns-in-Some-clause-place c).In-Some in
    let free = c.self.inside.free.items in
    let none : Block = record { at = 0; len = 0 } in
    let first = find_found (λ (b : Block). nat_le c.args.len b.len) free k.in-Some.k none (found k) in
    c.cut.ensures.place none ∙ sym (ap (λ (s : Space). next_place c.args.len s) (sym c.self.view_is)
    ∙ ap (λ (o : Option Block). option_map_or (λ (b : Block). b.at) o (length c.self.inside.bytes.items)) first)

pub returns-in-None-clause-place : goal.returns-in-None-clause-place
returns-in-None-clause-place c =
    let k = (goal.at.returns-in-None-clause-place c).In-None in
    let free = c.self.inside.free.items in
    let end : c.len-end.result ≡ length c.self.inside.bytes.items = omega (arith, c.len-end.ensures, c.self.inside.bytes.ok.0) in
    let first = find_missing (λ (b : Block). nat_le c.args.len b.len) free (rw (← c.as_slice.ensures.value) (sym c.first_fit.ensures ∙ k.in-None.is)) in
    end ∙ sym (ap (λ (s : Space). next_place c.args.len s) (sym c.self.view_is)
    ∙ ap (λ (o : Option Block). option_map_or (λ (b : Block). b.at) o (length c.self.inside.bytes.items)) first)

pub cut-requires-clause-fits : goal.cut-requires-clause-fits
cut-requires-clause-fits c d = leb-true _ _ (position-Some (λ (b : Block). nat_le c.args.len b.len) c.self.inside.free.items _ d (found (goal.at.cut-requires-clause-fits c).In-Some)).1

pub returns-in-Some-clause-taken : goal.returns-in-Some-clause-taken
returns-in-Some-clause-taken c p =
    let t = c.cut.ensures.taken p in
    let g = stays (goal.at.returns-in-Some-clause-taken c).In-Some in
    let e = ap (λ (s : Space). cover p s.free) c.self.view_is in
    let z : holds p (length c.args.self.now.bytes) (growth c.args.len c.args.self.now.free) ≡ 0 = rw g (holds_none p _) in
    omega arith

pub returns-in-Some-clause-bytes : goal.returns-in-Some-clause-bytes
returns-in-Some-clause-bytes c =
    let b = ap (λ (s : Space). s.bytes) c.self.view_is in
    rw (stays (goal.at.returns-in-Some-clause-bytes c).In-Some, append-nil) b

grows : (c : In-None) → growth c.args.len c.args.self.now.free ≡ c.args.len
grows c = ap (λ (s : Space). growth c.args.len s.free) (sym c.self.view_is)
    ∙ growth_missing c.args.len c.self.inside.free.items (rw (← c.as_slice.ensures.value) (sym c.first_fit.ensures ∙ c.in-None.is))

pub returns-in-None-clause-bytes : goal.returns-in-None-clause-bytes
returns-in-None-clause-bytes c =
    let k = (goal.at.returns-in-None-clause-bytes c).In-None in
    let items = c.self.inside.bytes.items in
    let end : c.len-end.result ≡ length items = omega (arith, c.len-end.ensures, c.self.inside.bytes.ok.0) in
    let room : c.self.inside.room_bytes ≡ c.args.self.now.room_bytes = ap (λ (s : Space). s.room_bytes) c.self.view_is in
    let o = c.resize.ensures.succeeds (omega (arith, c.self.invariant.bytes_fit, c.len-end.ensures, c.requires.bytes)) in
    let more : c.len-end.result + c.args.len - vec_len c.self.inside.bytes ≡ c.args.len = omega (arith, c.len-end.ensures) in
    let all : take (c.len-end.result + c.args.len) items ≡ items = take_all _ _ (omega arith) in
    rw (grows k, c.resize.ensures.items, o, more, all) (ap (λ (s : Space). s.bytes ++ replicate c.args.len 0) c.self.view_is)

pub returns-in-None-clause-taken : goal.returns-in-None-clause-taken
returns-in-None-clause-taken c p =
    let k = (goal.at.returns-in-None-clause-taken c).In-None in
    let free : cover p c.self.inside.free.items ≡ cover p c.args.self.now.free = ap (λ (s : Space). cover p s.free) c.self.view_is in
    let bytes : length c.self.inside.bytes.items ≡ length c.args.self.now.bytes = ap (λ (s : Space). length s.bytes) c.self.view_is in
    let end : c.len-end.result ≡ length c.args.self.now.bytes = omega (arith, c.len-end.ensures, c.self.inside.bytes.ok.0) in
    rw (grows k, end, free) refl
