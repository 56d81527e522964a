-- `part_mut` asks `has` of the image, which comes back, and hands on the part that `part_at_mut` lends.
use Rattle.h5_space.proofs.Steps.{◌≡◌, ℕ, ◌+◌, ◌≤◌, List, [], ◌∷◌, length, Bool, true, false, not, T, IsTrue, ◌↔◌, Some, None, refl, sym, ap, lit<, true≢false, ◌∙◌, w64, Bor, MutBor, proved, full_share, emp, id⊢, snd∗, ex_e, GName, ftrue, flft, fres, named, erased, Val, vint, vptr, of_list, fact, fact_i, tables, sem, ‵, raw, ◌⊛◌, some, later, at_ret, ◌$◌, ◌∵◌, !, qed, done, move, keep, drop, use0, use1, use2, use3, split, join, fsplit, fsplit3, fjoin, feq_i, feq_l, pick, await, rewrite, suffices, frame, live, agg, enter, lit, un, addr, stop, no_more, and_then, first, branches, skips, exec, returns, returns_within, alloc_all, pass_all, free_all, look_at, get, through, sets, lands_as, env, lft_new, lft_end, u8, u64, bool, yes, no, follows, Is, shows, lends_again, comes_back, LentAgain, uint_vals, uint_Tells, uint_Makes, owns, MutRef, mut_vals, mut_Tells, Shares-less, plain, mut_ref_to, MutSlice, slice_val, nothing, owned, heard, facts, peeks, only, calls_at, ensured, lasts, triple_of, framed, Stays, walk_of, stay_dropped, Goes-dropped, Goes-spent_ref, ends_at, ref_Share}
use borrow.Table.Owned.{ShrRef}
use denote.Follow.{follows_by}
use Rattle.h5_space.specs.contracts.image.Image.part_mut as f
use Rattle.h5_space.proofs.image.Image.part_mut.Statement.{statement}
use Rattle.h5_space.proofs.image.Image.part_mut.Code as code
use Rattle.h5_space.specs.contracts.image.Image.{the_row as R}
use Rattle.h5_space.proofs.image.Image.TheLaws.{the_row_laws as laws, the_within}
use Rattle.h5_space.proofs.OptionSteps.{some_of, none_of}
use Rattle.h5_bytes.specs.Bytes.{part}
use Rattle.h5_space.specs.Lending.{with_bytes_at}
use Rattle.std.specs.Prelude.{IsSome, IfSome}
use Rattle.std.specs.Borrow.{Array}
use Rattle.std.specs.contracts.option.Option as option
use Rattle.h5_space.specs.contracts.image.Image.part_at_mut as p
use Rattle.h5_space.proofs.image.Image.part_at_mut.Met.{met as p-met}
use Rattle.h5_space.specs.contracts.image.Image.has as g
use Rattle.h5_space.proofs.image.Image.has.Met.{met as g-met}

is_false : (r : Bool) → T (not r) → r ≡ false
is_false true t = elim t [ ]
is_false false t = refl

is_true : (r : Bool) → T (not (not r)) → r ≡ true
is_true true t = refl
is_true false t = elim t [ ]

abbrev stayed : Stays f.ended.signature.params f.ended.kept
stayed = (stay_dropped (mut_ref_to (0 ∷ []) tt (plain (λ _. R))) no, (stay_dropped (plain (λ _. u64)) yes, (stay_dropped (plain (λ _. u64)) yes, tt)))

pub part_mut_spec : {M : Type 1} → statement M
unfolding follows_by
part_mut_spec 𝓤 𝓛 𝓜 𝓡 wired =
    let c = f.clauses 𝓛 𝓜.mem 𝓡.returns in let W = walk_of 𝓛 f.ended stayed c in let 𝓣 = tables 𝓤 𝓛.H 𝓜 𝓡 𝓡.env in
    proved 𝓛 f.ended stayed c 𝓜 𝓡 (Goes-spent_ref 𝓛 1 (0 ∷ []) tt (plain (λ _. R)), (Goes-dropped 𝓛 1 (plain (λ _. u64)) yes (λ κs x w. refl), (Goes-dropped 𝓛 1 (plain (λ _. u64)) yes (λ κs x w. refl), tt)))
    f.Key.name code.function (code.unfolded 𝓤 𝓛.H 𝓜 𝓡 wired)
    (λ κs. (mut_vals, (uint_vals w64, (uint_vals w64, tt)))) (λ κs. (mut_Tells (named 0) κs.0 R, (uint_Tells w64, (uint_Tells w64, tt)))) (λ κs qs bounds a _ are.
    let κ = κs.0 in let q = qs.0 in let b = a.0.ref_ptr.0 in let o = a.0.ref_ptr.1 in let γ = a.0.ghost_name in let h = a.0.now in
    let at = a.1.0 in let len = a.1.1.0 in let low = are.1.0.1 in let few = are.1.1.0.1 in
    let vs : List Val × (List Val × (List Val × Unit {0})) = (vptr b o ∷ [], (vint w64 at ∷ [], (vint w64 len ∷ [], tt))) in
    let Lent = MutSlice (named 0) κ u8 in
    let y : W.Ghost = ((κs, qs, bounds, a, vs), tt) in
    qed 𝓛 (((‵ (flft κ q) ⊛ ‵ ftrue) ⊛ ‵ (owns (MutRef (named 0) κ R ∷ u64 ∷ u64 ∷ []) a vs)) ∷ ‵ ftrue ∷ []) ∵
    split ! $ split ! $ move ! (2 ∷ []) $ fsplit ! $ keep ! (0 ∷ 2 ∷ []) $
    enter ! _ _ _ _ _ $ alloc_all ! (λ l. pass_all ! refl ((tt, tt), ((tt, record { fits = low }), ((tt, record { fits = few }), tt))) $
    -- [self; the token of κ; the locals]
    sets ! (addr ! (through ! refl (stop !))) refl (tt, tt) $
    lft_new ! tt (λ α. let κ' = α ∷ [] in move ! (1 ∷ 2 ∷ []) $
    use2 𝓛 (later (some (λ (δ : GName). ‵ ((MutRef (named 0) κ' R).own_val (record a.0 { ghost_name = δ }) (vptr b o ∷ [])) ⊛ ‵ (LentAgain R κ κ' q γ b o δ h))))
    (lends_again 𝓛 R (named 0) κ κ' q γ b o (named 0) h) $ await ! tt $ pick ! (λ δ. split ! $ fsplit ! $ feq_l ! (λ _. move ! (0 ∷ 2 ∷ []) $
    use2 𝓛 (later (‵ ((ShrRef erased κ' R).own_val (record { ref_ptr = (b, o); now = h })) ⊛ (‵ (fres δ (R.coded.code h)) ⊛ ‵ (flft κ' full_share))))
    (ref_Share 𝓛 R b o δ h laws.shr_laws κ' full_share (Shares-less 𝓛 R R.lives κ' (the_within κ') (laws.shares 𝓛))) $ await ! tt $ split ! $ move ! (1 ∷ []) $ split ! $ move ! (2 ∷ []) $
    feq_i ! (List Val) (vptr b o ∷ []) (vptr b o ∷ []) refl $ fjoin ! $
    -- [the image, shared; what its last value is; the token of κ'; what the lender keeps; the locals]
    let G = triple_of 𝓛 g.signature (g.spec 𝓛 𝓜.mem 𝓡.returns) in
    let s : Bor R.Denot = record { ref_ptr = (b, o); now = h } in
    let z : G.Ghost = (((κ', tt), (full_share, tt), tt, (s, (at, (len, tt))), vs), tt) in
    nothing ! $ owned ! u64 (Is u64) (uint_Makes 𝓛 w64) len _ (refl, few) $ fjoin ! $ owned ! u64 (Is u64) (uint_Makes 𝓛 w64) at _ (refl, low) $ fjoin ! $ move ! (1 ∷ 0 ∷ []) $ fjoin ! $
    nothing ! $ move ! (3 ∷ 0 ∷ []) $ join ! $ join ! $ nothing ! $ move ! (1 ∷ 0 ∷ []) $ use2 𝓛 (raw (G.pre z)) (id⊢ 𝓤 _) $
    calls_at ! (framed 𝓤 𝓛.H 𝓜 𝓣) G (g-met 𝓤 𝓛 𝓜 𝓡 (code.calls-h5_space::image::Image::has 𝓡.env wired)) z
    (and_then ! (get ! refl) (and_then ! (get ! refl) (and_then ! (get ! refl) (no_more !)))) (λ v.
    use1 𝓛 (later (some (λ (r : Bool). ((‵ (flft κ' full_share) ⊛ ‵ ftrue) ⊛ ‵ (bool.own_val r (v ∷ []))) ⊛ raw (ensured 𝓛 g.ended (g.clauses 𝓛 𝓜.mem 𝓡.returns) (κ', tt) (s, (at, (len, tt))) tt r)))) (id⊢ 𝓤 _) $ await ! tt $ pick ! (λ r.
    split ! $ split ! $ split ! $ lft_end ! tt $ move ! (2 ∷ []) $ facts ! bool (Is bool) (shows 𝓛 bool) r (v ∷ []) (λ is. move ! (2 ∷ []) $
    use1 𝓛 (raw (fact 𝓤 (IsTrue r ↔ (at + len ≤ length h.bytes)))) (ex_e 𝓤 _ (λ ws. snd∗ 𝓤 (sem 𝓛 (lasts g.ended (κ', tt) (s, (at, (len, tt))) ws)) _)) $ heard ! _ (λ told.
    move ! (0 ∷ 3 ∷ 2 ∷ []) $
    use3 𝓛 (later (‵ ((MutRef (named 0) κ R).own_val a.0 (vptr b o ∷ [])) ⊛ ‵ (flft κ q))) (comes_back 𝓛 R (named 0) κ κ' q γ b o δ h h) $ await ! tt $ split ! $
    -- [self; the token of κ; the locals]
    lands_as ! (ap only is) refl (tt, tt) $
    sets ! (un ! (get ! refl) tt) refl (tt, tt) $
    first ! $ branches ! (get ! refl)
    (λ beyond. sets ! (agg ! (and_then ! (lit ! tt) (no_more !))) refl (tt, (record { fits = lit< tt }, tt)) $
    returns_within ! (W.post y) refl (look_at ! 0 refl) $ free_all ! refl $ keep ! (0 ∷ 1 ∷ []) $
    let outside : at + len ≤ length h.bytes → IsTrue r = told.1 in let failed = is_false r beyond in
    fsplit3 ! $ feq_l ! (λ _. use1 𝓛 (‵ (fres γ (R.coded.code h))) (𝓛.names.obs-res γ (R.coded.code h)) $ move ! (1 ∷ []) $ drop ! $
    use0 𝓛 (‵ ((option.the_row Lent).own_val None (live 0 (of_list []) ∷ []))) (none_of 𝓛 Lent) $
    suffices ! _ (ends_at 𝓛 f.ended stayed c y (live 0 (of_list [])) None (tt, (tt, (tt, tt))) (tt, (tt, (tt, tt)))) $
    nothing ! $ nothing ! $ fjoin ! $ nothing ! $ fjoin ! $ nothing ! $ fjoin ! $ join ! $ nothing ! $ move ! (3 ∷ 0 ∷ []) $ join ! $ join ! $ frame ! $ frame ! $
    use0 𝓛 (raw (fact 𝓤 (IfSome None (λ (x : MutBor (List ℕ)). length x.now ≡ len)))) (fact_i 𝓤 _ (emp 𝓤) tt) $
    use0 𝓛 (raw (fact 𝓤 (IfSome None (λ (x : MutBor (List ℕ)). x.now ≡ part at len h.bytes)))) (fact_i 𝓤 _ (emp 𝓤) tt) $ join ! $
    use0 𝓛 (raw (fact 𝓤 (IsSome {T = MutBor (List ℕ)} None ↔ (at + len ≤ length h.bytes)))) (fact_i 𝓤 _ (emp 𝓤) ((λ e. absurd (true≢false (sym e))), (λ within. absurd (true≢false (sym (outside within) ∙ failed))))) $ join ! $ done !))
    (λ fits. let inside : at + len ≤ length h.bytes = told.0 (is_true r fits) in
    skips ! $ exec ! 𝓣.C 𝓣.Λ (env code.Mir.locals l) code.Mir.t-5 (at_ret _ (W.post y)) $
    sets ! (addr ! (through ! refl (stop !))) refl (tt, tt) $
    let P = triple_of 𝓛 p.signature (p.spec 𝓛 𝓜.mem 𝓡.returns) in
    let x : P.Ghost = ((κs, qs, tt, a, vs), tt) in
    nothing ! $ owned ! u64 (Is u64) (uint_Makes 𝓛 w64) len _ (refl, few) $ fjoin ! $ owned ! u64 (Is u64) (uint_Makes 𝓛 w64) at _ (refl, low) $ fjoin ! $ move ! (1 ∷ 0 ∷ []) $ fjoin ! $
    move ! (1 ∷ 2 ∷ []) $ join ! $ join ! $ use0 𝓛 (raw (fact 𝓤 (at + len ≤ length h.bytes))) (fact_i 𝓤 _ (emp 𝓤) inside) $ move ! (1 ∷ 0 ∷ []) $ use2 𝓛 (raw (P.pre x)) (id⊢ 𝓤 _) $
    calls_at ! (framed 𝓤 𝓛.H 𝓜 𝓣) P (p-met 𝓤 𝓛 𝓜 𝓡 (code.calls-h5_space::image::Image::part_at_mut 𝓡.env wired)) x
    (and_then ! (get ! refl) (and_then ! (get ! refl) (and_then ! (get ! refl) (no_more !)))) (λ w.
    use1 𝓛 (later (some (λ (m : MutBor (List ℕ)). ((‵ (flft κ q) ⊛ ‵ ftrue) ⊛ ‵ (Lent.own_val m (w ∷ []))) ⊛ raw (ensured 𝓛 p.ended (p.clauses 𝓛 𝓜.mem 𝓡.returns) κs a tt m)))) (id⊢ 𝓤 _) $ await ! tt $ pick ! (λ m.
    split ! $ split ! $ split ! $ move ! (3 ∷ []) $
    use1 𝓛 (‵ (follows R (Array u8 0) γ m.ghost_name (with_bytes_at h at)) ⊛ (raw (fact 𝓤 (m.now ≡ part at len h.bytes)) ⊛ raw (fact 𝓤 (length m.now ≡ len)))) (ex_e 𝓤 _ (λ ws. snd∗ 𝓤 (sem 𝓛 (lasts p.ended κs a ws)) _)) $
    split ! $ move ! (1 ∷ []) $ split ! $ heard ! _ (λ value. heard ! _ (λ size.
    -- [what the image ends as; the token of κ; nothing; the part; the locals]
    move ! (3 ∷ []) $ peeks ! Lent (Is Lent) (shows 𝓛 Lent) m (w ∷ []) (λ at_place.
    let v' : Val = slice_val m.ref_ptr (length m.now) in
    rewrite ! 0 (λ (us : List Val). ‵ (Lent.own_val m us)) at_place.0.0 refl $
    lands_as ! (ap only at_place.0.0) refl (tt, (tt, (record { fits = at_place.0.1.0 }, tt))) $
    sets ! (agg ! (and_then ! (lit ! tt) (and_then ! (get ! refl) (no_more !)))) refl (tt, (record { fits = lit< tt }, ((tt, (record { fits = at_place.0.1.0 }, tt)), tt))) $
    returns ! (look_at ! 0 refl) $ free_all ! refl $ keep ! (0 ∷ 1 ∷ 2 ∷ []) $
    use1 𝓛 (‵ ((option.the_row Lent).own_val (Some m) (live 1 (of_list (v' ∷ [])) ∷ []))) (some_of 𝓛 Lent m v') $
    suffices ! _ (ends_at 𝓛 f.ended stayed c y (live 1 (of_list (v' ∷ []))) (Some m) (tt, (tt, (tt, tt))) (tt, (tt, (tt, tt)))) $
    nothing ! $ nothing ! $ fjoin ! $ nothing ! $ fjoin ! $ nothing ! $ fjoin ! $ join ! $ nothing ! $ move ! (3 ∷ 0 ∷ []) $ join ! $ join ! $ frame ! $ frame ! $
    use0 𝓛 (raw (fact 𝓤 (IfSome (Some m) (λ (x : MutBor (List ℕ)). length x.now ≡ len)))) (fact_i 𝓤 _ (emp 𝓤) size) $
    use0 𝓛 (raw (fact 𝓤 (IfSome (Some m) (λ (x : MutBor (List ℕ)). x.now ≡ part at len h.bytes)))) (fact_i 𝓤 _ (emp 𝓤) value) $ join ! $
    use0 𝓛 (raw (fact 𝓤 (IsSome (Some m) ↔ (at + len ≤ length h.bytes)))) (fact_i 𝓤 _ (emp 𝓤) ((λ _. inside), (λ _. refl))) $ join ! $ done !)))))))))))))))
