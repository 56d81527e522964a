use Rattle.std.proofs.Common.{ℕ, ◌-◌, ◌<◌, ◌≤◌, arith, length, get_or}
use Rattle.h5_bytes.specs.declared.Block.{Block}
use Rattle.h5_bytes.proofs.CoverLaws.{cover-insert}
use Rattle.h5_space.proofs.GivingLaws.{cover_before, cover_after, cover_both, spaced_alone, spaced_before, spaced_after, spaced_both}
use Rattle.h5_space.proofs.free_list.put_back.Goals as goal
use Rattle.h5_space.proofs.free_list.put_back.Goals.{After-place_of-k}

within : (c : After-place_of-k) → c.place_of-k.result ≤ length c.args.free.now.items
within c = rw c.as_slice.ensures.value at c.place_of-k.ensures.bound

below : (c : After-place_of-k) → (j : ℕ) (d : Block) → j < c.place_of-k.result → (get_or c.args.free.now.items j d).at < c.args.at
below c = rw c.as_slice.ensures.value at c.place_of-k.ensures.before

above : (c : After-place_of-k) → (j : ℕ) (d : Block) → c.place_of-k.result ≤ j → j < length c.args.free.now.items → c.args.at ≤ (get_or c.args.free.now.items j d).at
above c = rw c.as_slice.ensures.value at c.place_of-k.ensures.after

pub returns-in-Some-after-clause-given : goal.returns-in-Some-after-clause-given
returns-in-Some-after-clause-given c p =
    let b = rw c.as_slice-2.ensures.value at c.in-Some.ensures in
    let a = rw c.as_slice-3.ensures.value at c.in-Some-after.ensures in
    rw c.remove.ensures.items (cover_both p c.args.free.now.items c.place_of-k.result c.args.at c.args.len c.in-Some.before c.in-Some-after.after b.0 b.1 b.2 a.0 a.1 a.2)

pub returns-in-Some-after-clause-joined : goal.returns-in-Some-after-clause-joined
returns-in-Some-after-clause-joined c =
    let b = rw c.as_slice-2.ensures.value at c.in-Some.ensures in
    let a = rw c.as_slice-3.ensures.value at c.in-Some-after.ensures in
    let q = (goal.at.returns-in-Some-after-clause-joined c).After-place_of-k in
    rw c.remove.ensures.items (spaced_both c.args.free.now.items c.args.end c.place_of-k.result c.args.at c.args.len c.requires.spaced (within q) (below q) (above q) c.requires.filled c.requires.inside c.requires.held
    c.in-Some.before c.in-Some-after.after b.0 b.1 b.2 a.0 a.1 a.2)

pub returns-in-None-after-clause-given : goal.returns-in-None-after-clause-given
returns-in-None-after-clause-given c p =
    let b = rw c.as_slice-2.ensures.value at c.in-Some.ensures in
    let q = (goal.at.returns-in-None-after-clause-given c).After-place_of-k in
    let w = within q in
    let h : c.place_of-k.result - 1 < length c.args.free.now.items = omega (arith, b.0) in
    cover_before p c.args.free.now.items (c.place_of-k.result - 1) c.args.at c.args.len c.in-Some.before h b.1 b.2

pub returns-in-None-after-clause-joined : goal.returns-in-None-after-clause-joined
returns-in-None-after-clause-joined c =
    let b = rw c.as_slice-2.ensures.value at c.in-Some.ensures in
    let a = rw c.as_slice-3.ensures.value at c.in-None-after.ensures in
    let q = (goal.at.returns-in-None-after-clause-joined c).After-place_of-k in
    spaced_before c.args.free.now.items c.args.end c.place_of-k.result c.args.at c.args.len c.requires.spaced (within q) (below q) (above q) c.requires.filled c.requires.inside c.requires.held
    c.in-Some.before b.0 b.1 b.2 a

pub returns-in-Some-after-2-clause-given : goal.returns-in-Some-after-2-clause-given
returns-in-Some-after-2-clause-given c p =
    let a = rw c.as_slice-3.ensures.value at c.in-Some-after-2.ensures in
    cover_after p c.args.free.now.items c.place_of-k.result c.args.at c.args.len c.in-Some-after-2.after a.0 a.1 a.2

pub returns-in-Some-after-2-clause-joined : goal.returns-in-Some-after-2-clause-joined
returns-in-Some-after-2-clause-joined c =
    let a = rw c.as_slice-3.ensures.value at c.in-Some-after-2.ensures in
    let b = rw c.as_slice-2.ensures.value at c.in-None.ensures in
    let q = (goal.at.returns-in-Some-after-2-clause-joined c).After-place_of-k in
    spaced_after c.args.free.now.items c.args.end c.place_of-k.result c.args.at c.args.len c.requires.spaced (within q) (below q) (above q) c.requires.filled c.requires.inside c.requires.held
    c.in-Some-after-2.after a.0 a.1 a.2 b

pub returns-in-None-after-2-clause-joined : goal.returns-in-None-after-2-clause-joined
returns-in-None-after-2-clause-joined c =
    let a = rw c.as_slice-3.ensures.value at c.in-None-after-2.ensures in
    let b = rw c.as_slice-2.ensures.value at c.in-None.ensures in
    let q = (goal.at.returns-in-None-after-2-clause-joined c).After-place_of-k in
    let s = spaced_alone c.args.free.now.items c.args.end c.place_of-k.result c.args.at c.args.len c.requires.spaced (within q) (below q) (above q) c.requires.filled c.requires.inside c.requires.held b a in
    let o = c.insert.ensures.succeeds (omega (arith, c.requires.room)) in
    rw (c.insert.ensures.items, o) s

pub returns-in-None-after-2-clause-given : goal.returns-in-None-after-2-clause-given
returns-in-None-after-2-clause-given c p =
    let o = c.insert.ensures.succeeds (omega (arith, c.requires.room)) in
    rw (c.insert.ensures.items, o) (cover-insert p c.args.free.now.items c.place_of-k.result (record { at = c.args.at; len = c.args.len }))
