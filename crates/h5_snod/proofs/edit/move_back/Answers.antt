use Rattle.std.proofs.Common.{◌≡◌, List, ℕ, ◌+◌, ◌-◌, ◌*◌, ◌∙◌, take, drop, ap, arith}
use Rattle.h5_bytes.specs.Bytes.{part}
use Rattle.h5_model.specs.Format.Symbols.{entries_of}
use Rattle.h5_snod.specs.Raw.{raw_entries}
use Rattle.h5_snod.proofs.EditLaws.{raw-received, entries_of-received, head-received, received_is}
use Rattle.h5_snod.proofs.edit.move_back.Goals as goal

pub returns-clause-back : goal.returns-clause-back
unfolding part
returns-clause-back c =
    let node = c.args.node.now in
    let other = c.args.other.now in
    let k = c.args.k in
    let n = c.args.n in
    let w : 8 + 40 * n - (8 + 40 * k) ≡ 40 * (n - k) = omega (arith, c.requires.place) in
    let body : c.copy_from_slice-2.new.self ≡ part (8 + 40 * k) (40 * (n - k)) node = c.copy_from_slice-2.ensures.after ∙ ap (λ (m : ℕ). take m (drop (8 + 40 * k) node)) w in
    ap entries_of (received_is node other k n c.requires.count c.requires.place c.requires.room c.requires.small c.requires.fits
    c.copy_from_slice.new.self c.copy_from_slice-2.new.self c.put_u16.new.bytes c.copy_from_slice.ensures.after c.put_u16.ensures body)
    ∙ entries_of-received node other k n c.requires.count c.requires.place c.requires.room c.requires.small c.requires.fits

pub returns-clause-head : goal.returns-clause-head
unfolding part
returns-clause-head c =
    let node = c.args.node.now in
    let other = c.args.other.now in
    let k = c.args.k in
    let n = c.args.n in
    let w : 8 + 40 * n - (8 + 40 * k) ≡ 40 * (n - k) = omega (arith, c.requires.place) in
    let body : c.copy_from_slice-2.new.self ≡ part (8 + 40 * k) (40 * (n - k)) node = c.copy_from_slice-2.ensures.after ∙ ap (λ (m : ℕ). take m (drop (8 + 40 * k) node)) w in
    ap (λ (b : List ℕ). part 0 6 b) (received_is node other k n c.requires.count c.requires.place c.requires.room c.requires.small c.requires.fits
    c.copy_from_slice.new.self c.copy_from_slice-2.new.self c.put_u16.new.bytes c.copy_from_slice.ensures.after c.put_u16.ensures body)
    ∙ head-received node other k n c.requires.count c.requires.place c.requires.room c.requires.small c.requires.fits

pub returns-clause-bytes : goal.returns-clause-bytes
unfolding part
returns-clause-bytes c =
    let node = c.args.node.now in
    let other = c.args.other.now in
    let k = c.args.k in
    let n = c.args.n in
    let w : 8 + 40 * n - (8 + 40 * k) ≡ 40 * (n - k) = omega (arith, c.requires.place) in
    let body : c.copy_from_slice-2.new.self ≡ part (8 + 40 * k) (40 * (n - k)) node = c.copy_from_slice-2.ensures.after ∙ ap (λ (m : ℕ). take m (drop (8 + 40 * k) node)) w in
    ap raw_entries (received_is node other k n c.requires.count c.requires.place c.requires.room c.requires.small c.requires.fits
    c.copy_from_slice.new.self c.copy_from_slice-2.new.self c.put_u16.new.bytes c.copy_from_slice.ensures.after c.put_u16.ensures body)
    ∙ raw-received node other k n c.requires.count c.requires.place c.requires.room c.requires.small c.requires.fits
