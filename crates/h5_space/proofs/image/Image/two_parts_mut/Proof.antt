-- `two_parts_mut` asks `has_apart` of the image, which comes back, and hands on the parts that `around_mut` lends.
use Rattle.h5_space.proofs.Steps.{◌≡◌, ℕ, ◌+◌, ◌≤◌, List, [], ◌∷◌, length, Bool, true, false, not, T, IsTrue, ◌↔◌, Some, None, refl, sym, ap, lit<, true≢false, ◌∙◌, w64, Bor, arith, proved, full_share, emp, id⊢, snd∗, ex_e, Fml, GName, ftrue, flft, fres, named, erased, Val, vint, vptr, of_list, fact, fact_i, tables, sem, ‵, raw, ◌⊛◌, some, later, prop, at_ret, Sq, ◌$◌, ◌∵◌, !, qed, done, move, keep, drop, use0, use1, use2, use3, split, join, fsplit, fsplit3, fjoin, feq_i, feq_l, pick, await, rewrite, suffices, frame, live, whole, sub, agg, enter, of_opd, lit, un, bin, addr, from, fld, hop, stop, no_more, and_then, first, branches, skips, exec, returns, returns_within, alloc_all, pass_all, free_all, look_at, look_in_at, get, get_in, through, sets, sets_last, lands_as, env, lft_new, lft_end, u8, u64, bool, yes, no, Array, Is, shows, lends_again, comes_back, LentAgain, uint_Makes, owns, MutRef, mut_vals, mut_Tells, Shares-less, plain, mut_ref_to, MutSlice, mut_slice_vals, nothing, owned, heard, facts, peeks, only, calls_at, ensured, lasts, triple_of, framed, Stays, walk_of, stay_dropped, Goes-dropped, Goes-spent_ref, ends_at, ref_Share}
use borrow.Table.Owned.{ShrRef}
use denote.Follow.{follows_both, both_if_by}
use Rattle.std.proofs.Common.{◌<◌, ◌^◌, leb, leb→le, le-leb, if◌then◌else◌}
use Rattle.std.proofs.lemmas.Bool.{lt-leb}
use lib.Dec.{nleb→lt}
use Rattle.std.specs.Prelude.{IsSome, IfSome}
use Rattle.std.specs.contracts.option.Option as option
use Rattle.h5_bytes.specs.Bytes.{part}
use Rattle.h5_bytes.specs.contracts.Block as block
use Rattle.h5_bytes.proofs.Block.TheLaws as block-laws
use Rattle.h5_space.specs.Lending.{with_bytes_around, with_two_parts, StandApart, gap}
use Rattle.h5_space.proofs.OptionSteps.{some_of, none_of}
use Rattle.h5_space.proofs.PairSteps.{Two, Pair, pair_val, pair_of, pair_apart, both_swapped}
use Rattle.h5_space.proofs.AroundLaws.{gap_low, gap_high, part_low, part_high}
use Rattle.h5_space.specs.contracts.image.Image.two_parts_mut as f
use Rattle.h5_space.proofs.image.Image.two_parts_mut.Statement.{statement}
use Rattle.h5_space.proofs.image.Image.two_parts_mut.Code as code
use Rattle.h5_space.specs.contracts.image.Image.{the_row as R}
use Rattle.h5_space.proofs.image.Image.TheLaws.{the_row_laws as laws, the_within}
use Rattle.h5_space.specs.contracts.image.Image.has_apart as g
use Rattle.h5_space.proofs.image.Image.has_apart.Met.{met as g-met}
use Rattle.h5_space.specs.contracts.image.gap_between as gp
use Rattle.h5_space.proofs.image.gap_between.Met.{met as gp-met}
use Rattle.h5_space.specs.contracts.image.Image.around_mut as p
use Rattle.h5_space.proofs.image.Image.around_mut.Met.{met as p-met}

abbrev stayed : Stays f.ended.signature.params f.ended.kept
stayed = let part = stay_dropped (plain (λ _. block.the_row)) yes in (stay_dropped (mut_ref_to (0 ∷ []) tt (plain (λ _. R))) no, (part, (part, tt)))

is_false : (r : Bool) → T (not r) → r ≡ false
is_false true t = elim t [ ]
is_false false t = refl

is_true : (r : Bool) → T (not (not r)) → r ≡ true
is_true true t = refl
is_true false t = elim t [ ]

abbrev word : ℕ → List Val
word n = vint w64 n ∷ []

pub two_parts_mut_spec : {M : Type 1} → statement M
unfolding both_if_by
two_parts_mut_spec 𝓤 𝓛 𝓜 𝓡 wired =
    let c = f.clauses 𝓛 𝓜.mem 𝓡.returns in let W = walk_of 𝓛 f.ended stayed c in let 𝓣 = tables 𝓤 𝓛.H 𝓜 𝓡 𝓡.env in
    let goes = Goes-dropped 𝓛 1 (plain (λ _. block.the_row)) yes (λ κs x w. refl) in
    proved 𝓛 f.ended stayed c 𝓜 𝓡 (Goes-spent_ref 𝓛 1 (0 ∷ []) tt (plain (λ _. R)), (goes, (goes, tt)))
    f.Key.name code.function (code.unfolded 𝓤 𝓛.H 𝓜 𝓡 wired)
    (λ κs. (mut_vals, ((λ x. block-laws.lowers.lowered x ∷ []), ((λ x. block-laws.lowers.lowered x ∷ []), tt)))) (λ κs. (mut_Tells (named 0) κs.0 R, (block-laws.lowers.val_is, (block-laws.lowers.val_is, tt)))) (λ κs qs bounds a _ are.
    let κ = κs.0 in let q = qs.0 in let b = a.0.ref_ptr.0 in let o = a.0.ref_ptr.1 in let γ = a.0.ghost_name in let h = a.0.now in
    let d = a.1.0 in let e = a.1.1.0 in
    let vs : List Val × (List Val × (List Val × Unit {0})) = (vptr b o ∷ [], (block-laws.lowers.lowered d ∷ [], (block-laws.lowers.lowered e ∷ [], tt))) in
    let td = ((block-laws.the_row_laws.lawful 𝓛).typed d _ are.1.0).0 in let te = ((block-laws.the_row_laws.lawful 𝓛).typed e _ are.1.1.0).0 in
    let da : d.at < 2 ^ 64 = td.1.0.fits in let dl : d.len < 2 ^ 64 = td.1.1.0.fits in let ea : e.at < 2 ^ 64 = te.1.0.fits in let el : e.len < 2 ^ 64 = te.1.1.0.fits in
    let Lent = MutSlice (named 0) κ u8 in
    let y : W.Ghost = ((κs, qs, bounds, a, vs), tt) in
    let between : ℕ = gap d.at d.len e.at e.len in
    let out : (apart : StandApart d.at d.len e.at e.len (length h.bytes)) (r : Two) → r.0.now ≡ part d.at d.len h.bytes → r.1.now ≡ part e.at e.len h.bytes
    → Sq 𝓛 (‵ ((Pair 𝓛 κ).own_val r (pair_val r ∷ [])) ∷ ‵ (follows_both R (Array u8 0) (Array u8 0) γ r.0.ghost_name r.1.ghost_name (with_two_parts h d e)) ∷ ‵ (flft κ q) ∷ []) (prop (W.post y (live 1 (of_list (pair_val r ∷ []))))) = λ apart r one two.
    use1 𝓛 (‵ ((option.the_row (Pair 𝓛 κ)).own_val (Some r) (live 1 (of_list (pair_val r ∷ [])) ∷ []))) (some_of 𝓛 (Pair 𝓛 κ) r (pair_val r)) $
    suffices ! _ (ends_at 𝓛 f.ended stayed c y (live 1 (of_list (pair_val r ∷ []))) (Some r) (tt, (tt, (tt, tt))) (tt, (tt, (tt, tt)))) $
    nothing ! $ nothing ! $ fjoin ! $ nothing ! $ fjoin ! $ nothing ! $ fjoin ! $ join ! $ nothing ! $ move ! (3 ∷ 0 ∷ []) $ join ! $ join ! $ frame ! $ frame ! $
    use0 𝓛 (raw (fact 𝓤 (IfSome (Some r) (λ (x : Two). x.1.now ≡ part e.at e.len h.bytes)))) (fact_i 𝓤 _ (emp 𝓤) two) $
    use0 𝓛 (raw (fact 𝓤 (IfSome (Some r) (λ (x : Two). x.0.now ≡ part d.at d.len h.bytes)))) (fact_i 𝓤 _ (emp 𝓤) one) $ join ! $
    use0 𝓛 (raw (fact 𝓤 (IsSome (Some r) ↔ StandApart d.at d.len e.at e.len (length h.bytes)))) (fact_i 𝓤 _ (emp 𝓤) ((λ _. apart), (λ _. refl))) $ join ! $ done ! in
    let Both : Two → (List ℕ → List ℕ → R.Denot) → Fml = λ r F. follows_both R (Array u8 0) (Array u8 0) γ r.0.ghost_name r.1.ghost_name F in
    qed 𝓛 (((‵ (flft κ q) ⊛ ‵ ftrue) ⊛ ‵ (owns (MutRef (named 0) κ R ∷ block.the_row ∷ block.the_row ∷ []) a vs)) ∷ ‵ ftrue ∷ []) ∵
    split ! $ split ! $ move ! (2 ∷ []) $ fsplit ! $ keep ! (0 ∷ 2 ∷ []) $
    enter ! _ _ _ _ _ $ alloc_all ! (λ l. pass_all ! refl ((tt, tt), (td, (te, tt))) $
    -- [self; the token of κ; the locals]
    sets ! (addr ! (through ! refl (stop !))) refl (tt, tt) $
    lft_new ! tt (λ α. let κ' = α ∷ [] in move ! (1 ∷ 2 ∷ []) $
    use2 𝓛 (later (some (λ (δ : GName). ‵ ((MutRef (named 0) κ' R).own_val (record a.0 { ghost_name = δ }) (vptr b o ∷ [])) ⊛ ‵ (LentAgain R κ κ' q γ b o δ h))))
    (lends_again 𝓛 R (named 0) κ κ' q γ b o (named 0) h) $ await ! tt $ pick ! (λ δ. split ! $ fsplit ! $ feq_l ! (λ _. move ! (0 ∷ 2 ∷ []) $
    use2 𝓛 (later (‵ ((ShrRef erased κ' R).own_val (record { ref_ptr = (b, o); now = h })) ⊛ (‵ (fres δ (R.coded.code h)) ⊛ ‵ (flft κ' full_share))))
    (ref_Share 𝓛 R b o δ h laws.shr_laws κ' full_share (Shares-less 𝓛 R R.lives κ' (the_within κ') (laws.shares 𝓛))) $ await ! tt $ split ! $ move ! (1 ∷ []) $ split ! $ move ! (2 ∷ []) $
    feq_i ! (List Val) (vptr b o ∷ []) (vptr b o ∷ []) refl $ fjoin ! $
    -- [the image, shared; what its last value is; the token of κ'; what the lender keeps; the locals]
    let G = triple_of 𝓛 g.signature (g.spec 𝓛 𝓜.mem 𝓡.returns) in
    let s : Bor R.Denot = record { ref_ptr = (b, o); now = h } in
    let z : G.Ghost = (((κ', tt), (full_share, tt), tt, (s, (d.at, (d.len, (e.at, (e.len, tt))))), (vptr b o ∷ [], (word d.at, (word d.len, (word e.at, (word e.len, tt)))))), tt) in
    nothing ! $ owned ! u64 (Is u64) (uint_Makes 𝓛 w64) e.len _ (refl, el) $ fjoin ! $ owned ! u64 (Is u64) (uint_Makes 𝓛 w64) e.at _ (refl, ea) $ fjoin ! $
    owned ! u64 (Is u64) (uint_Makes 𝓛 w64) d.len _ (refl, dl) $ fjoin ! $ owned ! u64 (Is u64) (uint_Makes 𝓛 w64) d.at _ (refl, da) $ fjoin ! $ move ! (1 ∷ 0 ∷ []) $ fjoin ! $
    nothing ! $ move ! (3 ∷ 0 ∷ []) $ join ! $ join ! $ nothing ! $ move ! (1 ∷ 0 ∷ []) $ use2 𝓛 (raw (G.pre z)) (id⊢ 𝓤 _) $
    calls_at ! (framed 𝓤 𝓛.H 𝓜 𝓣) G (g-met 𝓤 𝓛 𝓜 𝓡 (code.calls-h5_space::image::Image::has_apart 𝓡.env wired)) z
    (and_then ! (get ! refl) (and_then ! (get_in ! (fld ! refl (stop !)) (sub ! 0 refl (whole !))) (and_then ! (get_in ! (fld ! refl (stop !)) (sub ! 1 refl (whole !)))
    (and_then ! (get_in ! (fld ! refl (stop !)) (sub ! 0 refl (whole !))) (and_then ! (get_in ! (fld ! refl (stop !)) (sub ! 1 refl (whole !))) (no_more !)))))) (λ v.
    use1 𝓛 (later (some (λ (r : Bool). ((‵ (flft κ' full_share) ⊛ ‵ ftrue) ⊛ ‵ (bool.own_val r (v ∷ []))) ⊛ raw (ensured 𝓛 g.ended (g.clauses 𝓛 𝓜.mem 𝓡.returns) (κ', tt) (s, (d.at, (d.len, (e.at, (e.len, tt))))) tt r)))) (id⊢ 𝓤 _) $ await ! tt $ pick ! (λ r.
    split ! $ split ! $ split ! $ lft_end ! tt $ move ! (2 ∷ []) $ facts ! bool (Is bool) (shows 𝓛 bool) r (v ∷ []) (λ is. move ! (2 ∷ []) $
    use1 𝓛 (raw (fact 𝓤 (length h.bytes < 2 ^ 64)) ⊛ raw (fact 𝓤 (IsTrue r ↔ StandApart d.at d.len e.at e.len (length h.bytes)))) (ex_e 𝓤 _ (λ ws. snd∗ 𝓤 (sem 𝓛 (lasts g.ended (κ', tt) (s, (d.at, (d.len, (e.at, (e.len, tt))))) ws)) _)) $
    split ! $ heard ! _ (λ small. heard ! _ (λ told.
    move ! (0 ∷ 3 ∷ 2 ∷ []) $
    use3 𝓛 (later (‵ ((MutRef (named 0) κ R).own_val a.0 (vptr b o ∷ [])) ⊛ ‵ (flft κ q))) (comes_back 𝓛 R (named 0) κ κ' q γ b o δ h h) $ await ! tt $ split ! $
    -- [self; the token of κ; nothing; the locals]
    lands_as ! (ap only is) refl (tt, tt) $
    sets ! (un ! (get ! refl) tt) refl (tt, tt) $
    first ! $ branches ! (get ! refl)
    (λ beyond. sets ! (agg ! (and_then ! (lit ! tt) (no_more !))) refl (tt, (record { fits = lit< tt }, tt)) $
    returns_within ! (W.post y) refl (look_at ! 0 refl) $ free_all ! refl $ keep ! (0 ∷ 1 ∷ []) $
    let apart : StandApart d.at d.len e.at e.len (length h.bytes) → IsTrue r = told.1 in let failed = is_false r beyond in
    fsplit3 ! $ feq_l ! (λ _. use1 𝓛 (‵ (fres γ (R.coded.code h))) (𝓛.names.obs-res γ (R.coded.code h)) $ move ! (1 ∷ []) $ drop ! $
    use0 𝓛 (‵ ((option.the_row (Pair 𝓛 κ)).own_val None (live 0 (of_list []) ∷ []))) (none_of 𝓛 (Pair 𝓛 κ)) $
    suffices ! _ (ends_at 𝓛 f.ended stayed c y (live 0 (of_list [])) None (tt, (tt, (tt, tt))) (tt, (tt, (tt, tt)))) $
    nothing ! $ nothing ! $ fjoin ! $ nothing ! $ fjoin ! $ nothing ! $ fjoin ! $ join ! $ nothing ! $ move ! (3 ∷ 0 ∷ []) $ join ! $ join ! $ frame ! $ frame ! $
    use0 𝓛 (raw (fact 𝓤 (IfSome None (λ (x : Two). x.1.now ≡ part e.at e.len h.bytes)))) (fact_i 𝓤 _ (emp 𝓤) tt) $
    use0 𝓛 (raw (fact 𝓤 (IfSome None (λ (x : Two). x.0.now ≡ part d.at d.len h.bytes)))) (fact_i 𝓤 _ (emp 𝓤) tt) $ join ! $
    use0 𝓛 (raw (fact 𝓤 (IsSome {T = Two} None ↔ StandApart d.at d.len e.at e.len (length h.bytes)))) (fact_i 𝓤 _ (emp 𝓤) ((λ x. absurd (true≢false (sym x))), (λ within. absurd (true≢false (sym (apart within) ∙ failed))))) $ join ! $ done !))
    (λ fits. let apart : StandApart d.at d.len e.at e.len (length h.bytes) = told.0 (is_true r fits) in
    let ends : d.at + d.len < 2 ^ 64 = omega (arith, apart.0, small) in let ends' : e.at + e.len < 2 ^ 64 = omega (arith, apart.1, small) in
    skips ! $ exec ! 𝓣.C 𝓣.Λ (env code.Mir.locals l) code.Mir.t-5 (at_ret (env (code.function).locals l) (W.post y)) $
    let B = triple_of 𝓛 gp.signature (gp.spec 𝓛 𝓜.mem 𝓡.returns) in
    let x : B.Ghost = ((tt, tt, tt, (d.at, (d.len, (e.at, (e.len, tt)))), (word d.at, (word d.len, (word e.at, (word e.len, tt))))), tt) in
    nothing ! $ owned ! u64 (Is u64) (uint_Makes 𝓛 w64) e.len _ (refl, el) $ fjoin ! $ owned ! u64 (Is u64) (uint_Makes 𝓛 w64) e.at _ (refl, ea) $ fjoin ! $
    owned ! u64 (Is u64) (uint_Makes 𝓛 w64) d.len _ (refl, dl) $ fjoin ! $ owned ! u64 (Is u64) (uint_Makes 𝓛 w64) d.at _ (refl, da) $ fjoin ! $
    nothing ! $ join ! $ use0 𝓛 (raw (fact 𝓤 (e.at + e.len < 2 ^ 64))) (fact_i 𝓤 _ (emp 𝓤) ends') $ use0 𝓛 (raw (fact 𝓤 (d.at + d.len < 2 ^ 64))) (fact_i 𝓤 _ (emp 𝓤) ends) $ join ! $ move ! (1 ∷ 0 ∷ []) $ use2 𝓛 (raw (B.pre x)) (id⊢ 𝓤 _) $
    calls_at ! (framed 𝓤 𝓛.H 𝓜 𝓣) B (gp-met 𝓤 𝓛 𝓜 𝓡 (code.calls-h5_space::image::gap_between 𝓡.env wired)) x
    (and_then ! (get_in ! (fld ! refl (stop !)) (sub ! 0 refl (whole !))) (and_then ! (get_in ! (fld ! refl (stop !)) (sub ! 1 refl (whole !)))
    (and_then ! (get_in ! (fld ! refl (stop !)) (sub ! 0 refl (whole !))) (and_then ! (get_in ! (fld ! refl (stop !)) (sub ! 1 refl (whole !))) (no_more !))))) (λ w.
    use1 𝓛 (later (some (λ (n : ℕ). (‵ ftrue ⊛ ‵ (u64.own_val n (w ∷ []))) ⊛ raw (ensured 𝓛 gp.ended (gp.clauses 𝓛 𝓜.mem 𝓡.returns) tt (d.at, (d.len, (e.at, (e.len, tt)))) tt n)))) (id⊢ 𝓤 _) $ await ! tt $ pick ! (λ n.
    split ! $ split ! $ drop ! $ facts ! u64 (Is u64) (shows 𝓛 u64) n (w ∷ []) (λ at_gap.
    use1 𝓛 (raw (fact 𝓤 (n ≡ between))) (ex_e 𝓤 _ (λ ws. snd∗ 𝓤 (sem 𝓛 (lasts gp.ended tt (d.at, (d.len, (e.at, (e.len, tt)))) ws)) _)) $ heard ! _ (λ is_gap.
    -- [self; the token of κ; nothing; the locals]
    lands_as ! (ap only at_gap.0) refl (tt, record { fits = at_gap.1 }) $
    sets ! (bin ! (get_in ! (fld ! refl (stop !)) (sub ! 0 refl (whole !))) (get_in ! (fld ! refl (stop !)) (sub ! 0 refl (whole !))) tt) refl (tt, tt) $
    let P = triple_of 𝓛 p.signature (p.spec 𝓛 𝓜.mem 𝓡.returns) in
    first ! $ branches ! (get ! refl)
    (λ low. let under : d.at ≤ e.at = leb→le d.at e.at low in let tested : leb d.at e.at ≡ true = le-leb d.at e.at under in
    let u : P.Ghost = ((κs, qs, tt, (a.0, (d.at, (d.len, (n, (e.len, tt))))), (vptr b o ∷ [], (word d.at, (word d.len, (word n, (word e.len, tt)))))), tt) in
    let room : d.at + (d.len + (n + e.len)) ≤ length h.bytes = omega (arith, is_gap, gap_low d.at d.len e.at e.len (length h.bytes) apart under) in
    let less : d.len + (n + e.len) < 2 ^ 64 = omega (arith, room, small) in
    sets ! (addr ! (through ! refl (stop !))) refl (tt, tt) $
    nothing ! $ owned ! u64 (Is u64) (uint_Makes 𝓛 w64) e.len _ (refl, el) $ fjoin ! $ owned ! u64 (Is u64) (uint_Makes 𝓛 w64) n _ (refl, at_gap.1) $ fjoin ! $
    owned ! u64 (Is u64) (uint_Makes 𝓛 w64) d.len _ (refl, dl) $ fjoin ! $ owned ! u64 (Is u64) (uint_Makes 𝓛 w64) d.at _ (refl, da) $ fjoin ! $ move ! (1 ∷ 0 ∷ []) $ fjoin ! $
    move ! (1 ∷ 2 ∷ []) $ join ! $ join ! $ use0 𝓛 (raw (fact 𝓤 (d.len + (n + e.len) < 2 ^ 64))) (fact_i 𝓤 _ (emp 𝓤) less) $ use0 𝓛 (raw (fact 𝓤 (d.at + (d.len + (n + e.len)) ≤ length h.bytes))) (fact_i 𝓤 _ (emp 𝓤) room) $ join ! $
    move ! (1 ∷ 0 ∷ []) $ use2 𝓛 (raw (P.pre u)) (id⊢ 𝓤 _) $
    calls_at ! (framed 𝓤 𝓛.H 𝓜 𝓣) P (p-met 𝓤 𝓛 𝓜 𝓡 (code.calls-h5_space::image::Image::around_mut 𝓡.env wired)) u
    (and_then ! (get ! refl) (and_then ! (get_in ! (fld ! refl (stop !)) (sub ! 0 refl (whole !))) (and_then ! (get_in ! (fld ! refl (stop !)) (sub ! 1 refl (whole !)))
    (and_then ! (get ! refl) (and_then ! (get_in ! (fld ! refl (stop !)) (sub ! 1 refl (whole !))) (no_more !)))))) (λ w'.
    use1 𝓛 (later (some (λ (m : Two). ((‵ (flft κ q) ⊛ ‵ ftrue) ⊛ ‵ ((Pair 𝓛 κ).own_val m (w' ∷ []))) ⊛ raw (ensured 𝓛 p.ended (p.clauses 𝓛 𝓜.mem 𝓡.returns) κs (a.0, (d.at, (d.len, (n, (e.len, tt))))) tt m)))) (id⊢ 𝓤 _) $ await ! tt $ pick ! (λ m.
    split ! $ split ! $ split ! $ move ! (3 ∷ []) $
    use1 𝓛 (‵ (Both m (with_bytes_around h d.at d.len n)) ⊛ (raw (fact 𝓤 (m.0.now ≡ part d.at d.len h.bytes)) ⊛ raw (fact 𝓤 (m.1.now ≡ part (d.at + d.len + n) e.len h.bytes)))) (ex_e 𝓤 _ (λ ws. snd∗ 𝓤 (sem 𝓛 (lasts p.ended κs (a.0, (d.at, (d.len, (n, (e.len, tt))))) ws)) _)) $
    split ! $ move ! (1 ∷ []) $ split ! $ heard ! _ (λ one. heard ! _ (λ two.
    -- [what the image ends as; the token; nothing; the two parts; the locals]
    move ! (3 ∷ []) $ use1 𝓛 (raw (fact 𝓤 (w' ≡ pair_val m)) ⊛ (‵ (Lent.own_val m.0 (mut_slice_vals m.0)) ⊛ ‵ (Lent.own_val m.1 (mut_slice_vals m.1)))) (pair_apart 𝓛 κ m w') $
    split ! $ heard ! _ (λ lies. split ! $ peeks ! Lent (Is Lent) (shows 𝓛 Lent) m.0 (mut_slice_vals m.0) (λ is₀. move ! (1 ∷ []) $ peeks ! Lent (Is Lent) (shows 𝓛 Lent) m.1 (mut_slice_vals m.1) (λ is₁.
    lands_as ! lies refl (tt, ((tt, (record { fits = is₀.0.1.0 }, tt)), ((tt, (record { fits = is₁.0.1.0 }, tt)), tt))) $
    sets_last ! (agg ! (and_then ! (lit ! tt) (and_then ! (get ! refl) (no_more !)))) refl (tt, (record { fits = lit< tt }, (((tt, (record { fits = is₀.0.1.0 }, tt)), ((tt, (record { fits = is₁.0.1.0 }, tt)), tt)), tt))) $
    exec ! 𝓣.C 𝓣.Λ (env code.Mir.locals l) code.Mir.t-8 (at_ret (env (code.function).locals l) (W.post y)) $
    sets ! (of_opd ! (get ! refl)) refl (tt, (record { fits = lit< tt }, (((tt, (record { fits = is₀.0.1.0 }, tt)), ((tt, (record { fits = is₁.0.1.0 }, tt)), tt)), tt))) $
    returns ! (look_at ! 0 refl) $ free_all ! refl $ keep ! (0 ∷ 1 ∷ 2 ∷ 3 ∷ []) $
    move ! (1 ∷ 0 ∷ []) $ use2 𝓛 (‵ ((Pair 𝓛 κ).own_val m (pair_val m ∷ []))) (pair_of 𝓛 κ m) $
    rewrite ! 1 (λ (j : ℕ). ‵ (Both m (with_bytes_around h d.at d.len j))) is_gap refl $
    rewrite ! 1 (λ (t : Bool). ‵ (Both m (λ x x'. if t then with_bytes_around h d.at d.len between x x' else with_bytes_around h e.at e.len between x' x))) (sym tested) refl $
    out apart m one (two ∙ ap (λ j. part (d.at + d.len + j) e.len h.bytes) is_gap ∙ part_low d.at d.len e.at e.len (length h.bytes) h.bytes apart under)))))))))
    (λ high. let over : e.at < d.at = nleb→lt d.at e.at high in let tested : leb d.at e.at ≡ false = lt-leb d.at e.at over in
    let u : P.Ghost = ((κs, qs, tt, (a.0, (e.at, (e.len, (n, (d.len, tt))))), (vptr b o ∷ [], (word e.at, (word e.len, (word n, (word d.len, tt)))))), tt) in
    let room : e.at + (e.len + (n + d.len)) ≤ length h.bytes = omega (arith, is_gap, gap_high d.at d.len e.at e.len (length h.bytes) apart over) in
    let less : e.len + (n + d.len) < 2 ^ 64 = omega (arith, room, small) in
    sets ! (addr ! (through ! refl (stop !))) refl (tt, tt) $
    nothing ! $ owned ! u64 (Is u64) (uint_Makes 𝓛 w64) d.len _ (refl, dl) $ fjoin ! $ owned ! u64 (Is u64) (uint_Makes 𝓛 w64) n _ (refl, at_gap.1) $ fjoin ! $
    owned ! u64 (Is u64) (uint_Makes 𝓛 w64) e.len _ (refl, el) $ fjoin ! $ owned ! u64 (Is u64) (uint_Makes 𝓛 w64) e.at _ (refl, ea) $ fjoin ! $ move ! (1 ∷ 0 ∷ []) $ fjoin ! $
    move ! (1 ∷ 2 ∷ []) $ join ! $ join ! $ use0 𝓛 (raw (fact 𝓤 (e.len + (n + d.len) < 2 ^ 64))) (fact_i 𝓤 _ (emp 𝓤) less) $ use0 𝓛 (raw (fact 𝓤 (e.at + (e.len + (n + d.len)) ≤ length h.bytes))) (fact_i 𝓤 _ (emp 𝓤) room) $ join ! $
    move ! (1 ∷ 0 ∷ []) $ use2 𝓛 (raw (P.pre u)) (id⊢ 𝓤 _) $
    calls_at ! (framed 𝓤 𝓛.H 𝓜 𝓣) P (p-met 𝓤 𝓛 𝓜 𝓡 (code.calls-h5_space::image::Image::around_mut 𝓡.env wired)) u
    (and_then ! (get ! refl) (and_then ! (get_in ! (fld ! refl (stop !)) (sub ! 0 refl (whole !))) (and_then ! (get_in ! (fld ! refl (stop !)) (sub ! 1 refl (whole !)))
    (and_then ! (get ! refl) (and_then ! (get_in ! (fld ! refl (stop !)) (sub ! 1 refl (whole !))) (no_more !)))))) (λ w'.
    use1 𝓛 (later (some (λ (m : Two). ((‵ (flft κ q) ⊛ ‵ ftrue) ⊛ ‵ ((Pair 𝓛 κ).own_val m (w' ∷ []))) ⊛ raw (ensured 𝓛 p.ended (p.clauses 𝓛 𝓜.mem 𝓡.returns) κs (a.0, (e.at, (e.len, (n, (d.len, tt))))) tt m)))) (id⊢ 𝓤 _) $ await ! tt $ pick ! (λ m.
    split ! $ split ! $ split ! $ move ! (3 ∷ []) $
    use1 𝓛 (‵ (Both m (with_bytes_around h e.at e.len n)) ⊛ (raw (fact 𝓤 (m.0.now ≡ part e.at e.len h.bytes)) ⊛ raw (fact 𝓤 (m.1.now ≡ part (e.at + e.len + n) d.len h.bytes)))) (ex_e 𝓤 _ (λ ws. snd∗ 𝓤 (sem 𝓛 (lasts p.ended κs (a.0, (e.at, (e.len, (n, (d.len, tt))))) ws)) _)) $
    split ! $ move ! (1 ∷ []) $ split ! $ heard ! _ (λ two. heard ! _ (λ one.
    -- [what the image ends as; the token; nothing; the two parts; the locals]
    move ! (3 ∷ []) $ use1 𝓛 (raw (fact 𝓤 (w' ≡ pair_val m)) ⊛ (‵ (Lent.own_val m.0 (mut_slice_vals m.0)) ⊛ ‵ (Lent.own_val m.1 (mut_slice_vals m.1)))) (pair_apart 𝓛 κ m w') $
    split ! $ heard ! _ (λ lies. split ! $ peeks ! Lent (Is Lent) (shows 𝓛 Lent) m.0 (mut_slice_vals m.0) (λ is₀. move ! (1 ∷ []) $ peeks ! Lent (Is Lent) (shows 𝓛 Lent) m.1 (mut_slice_vals m.1) (λ is₁.
    lands_as ! lies refl (tt, ((tt, (record { fits = is₀.0.1.0 }, tt)), ((tt, (record { fits = is₁.0.1.0 }, tt)), tt))) $
    sets ! (of_opd ! (get_in ! (fld ! refl (stop !)) (sub ! 0 refl (whole !)))) refl (tt, (tt, (record { fits = is₀.0.1.0 }, tt))) $
    sets ! (of_opd ! (get_in ! (fld ! refl (stop !)) (sub ! 1 refl (whole !)))) refl (tt, (tt, (record { fits = is₁.0.1.0 }, tt))) $
    sets ! (addr ! (from ! (fld ! refl (hop ! (look_in_at ! 6 (sub ! 0 refl (whole !))) (stop !))))) refl (tt, tt) $
    sets ! (agg ! (and_then ! (get ! refl) (and_then ! (get_in ! (fld ! refl (stop !)) (sub ! 1 refl (whole !))) (no_more !)))) refl (tt, (tt, (record { fits = is₁.0.1.0 }, tt))) $
    sets ! (addr ! (from ! (fld ! refl (hop ! (look_in_at ! 5 (sub ! 0 refl (whole !))) (stop !))))) refl (tt, tt) $
    sets ! (agg ! (and_then ! (get ! refl) (and_then ! (get_in ! (fld ! refl (stop !)) (sub ! 1 refl (whole !))) (no_more !)))) refl (tt, (tt, (record { fits = is₀.0.1.0 }, tt))) $
    sets ! (agg ! (and_then ! (get ! refl) (and_then ! (get ! refl) (no_more !)))) refl (tt, ((tt, (record { fits = is₁.0.1.0 }, tt)), ((tt, (record { fits = is₀.0.1.0 }, tt)), tt))) $
    sets_last ! (agg ! (and_then ! (lit ! tt) (and_then ! (get ! refl) (no_more !)))) refl (tt, (record { fits = lit< tt }, (((tt, (record { fits = is₁.0.1.0 }, tt)), ((tt, (record { fits = is₀.0.1.0 }, tt)), tt)), tt))) $
    exec ! 𝓣.C 𝓣.Λ (env code.Mir.locals l) code.Mir.t-8 (at_ret (env (code.function).locals l) (W.post y)) $
    sets ! (of_opd ! (get ! refl)) refl (tt, (record { fits = lit< tt }, (((tt, (record { fits = is₁.0.1.0 }, tt)), ((tt, (record { fits = is₀.0.1.0 }, tt)), tt)), tt))) $
    returns ! (look_at ! 0 refl) $ free_all ! refl $ keep ! (0 ∷ 1 ∷ 2 ∷ 3 ∷ []) $
    use2 𝓛 (‵ ((Pair 𝓛 κ).own_val (m.1, m.0) (pair_val (m.1, m.0) ∷ []))) (pair_of 𝓛 κ (m.1, m.0)) $
    rewrite ! 1 (λ (j : ℕ). ‵ (Both m (with_bytes_around h e.at e.len j))) is_gap refl $ move ! (1 ∷ []) $
    use1 𝓛 (‵ (Both (m.1, m.0) (λ x x'. with_bytes_around h e.at e.len between x' x))) (both_swapped 𝓛 R (with_bytes_around h e.at e.len between) γ m.0.ghost_name m.1.ghost_name) $
    rewrite ! 0 (λ (t : Bool). ‵ (Both (m.1, m.0) (λ x x'. if t then with_bytes_around h d.at d.len between x x' else with_bytes_around h e.at e.len between x' x))) (sym tested) refl $ move ! (1 ∷ []) $
    out apart (m.1, m.0) (one ∙ ap (λ j. part (e.at + e.len + j) d.len h.bytes) is_gap ∙ part_high d.at d.len e.at e.len (length h.bytes) h.bytes apart over) two)))))))))))))))))))))))
