-- `around_mut` lends the range from the one part to the other, cuts it in three, and hands on the first and the last.
use Rattle.h5_space.proofs.Steps.{◌≡◌, ℕ, ◌+◌, ◌≤◌, List, [], ◌∷◌, ◌++◌, length, take, refl, ap, ◌∙◌, w64, MutBor, arith, proved, fobs, emp, id⊢, snd∗, ex_e, ftrue, flft, fres, named, Val, vint, vptr, fact, fact_i, tables, sem, ‵, raw, ◌⊛◌, some, later, ◌$◌, ◌∵◌, !, qed, done, move, keep, use0, use1, use2, split, join, fsplit, fsplit3, fjoin, pick, await, rewrite, suffices, frame, group, whole, sub, agg, enter, of_opd, bin, addr, from, fld, hop, stop, no_more, and_then, returns, alloc_all, pass_all, free_all, look_at, look_in_at, get, get_in, through, sets, lands_as, u8, u64, usize, yes, no, follows, heres_id, Array, Is, shows, uint_vals, uint_Tells, uint_Makes, owns, MutRef, mut_vals, mut_Tells, plain, mut_ref_to, MutSlice, mut_slice_vals, nothing, owned, heard, peeks, only, calls_at, ensured, lasts, triple_of, framed, Stays, walk_of, stay_dropped, Goes-dropped, Goes-spent_ref, ends_at}
use denote.Follow.{follows_both}
use Rattle.std.proofs.Common.{◌<◌, ◌^◌, ◌-◌, length-drop}
use Rattle.std.specs.Prelude.{drop as behind}
use Rattle.h5_bytes.specs.Bytes.{part}
use Rattle.h5_space.specs.Lending.{with_bytes_at, with_bytes_around}
use Rattle.h5_space.proofs.PairSteps.{Two, Pair, pair_val, pair_of, pair_apart, both_around}
use Rattle.h5_space.proofs.AroundLaws.{front_of, gap_of, back_of}
use Rattle.h5_space.specs.contracts.image.Image.around_mut as f
use Rattle.h5_space.proofs.image.Image.around_mut.Statement.{statement}
use Rattle.h5_space.proofs.image.Image.around_mut.Code as code
use Rattle.h5_space.specs.contracts.image.Image.{the_row as R}
use Rattle.h5_space.specs.contracts.image.Image.part_at_mut as p
use Rattle.h5_space.proofs.image.Image.part_at_mut.Met.{met as p-met}
use Rattle.h5_space.specs.contracts.image.halves as hv
use Rattle.h5_space.proofs.image.halves.Met.{met as hv-met}

abbrev stayed : Stays f.ended.signature.params f.ended.kept
stayed = let word = stay_dropped (plain (λ _. u64)) yes in (stay_dropped (mut_ref_to (0 ∷ []) tt (plain (λ _. R))) no, (word, (word, (word, (word, tt)))))

pub around_mut_spec : {M : Type 1} → statement M
around_mut_spec 𝓤 𝓛 𝓜 𝓡 wired =
    let c = f.clauses 𝓛 𝓜.mem 𝓡.returns in let W = walk_of 𝓛 f.ended stayed c in let 𝓣 = tables 𝓤 𝓛.H 𝓜 𝓡 𝓡.env in
    let goes = Goes-dropped 𝓛 1 (plain (λ _. u64)) yes (λ κs x w. refl) in
    proved 𝓛 f.ended stayed c 𝓜 𝓡 (Goes-spent_ref 𝓛 1 (0 ∷ []) tt (plain (λ _. R)), (goes, (goes, (goes, (goes, tt)))))
    f.Key.name code.function (code.unfolded 𝓤 𝓛.H 𝓜 𝓡 wired)
    (λ κs. (mut_vals, (uint_vals w64, (uint_vals w64, (uint_vals w64, (uint_vals w64, tt)))))) (λ κs. (mut_Tells (named 0) κs.0 R, (uint_Tells w64, (uint_Tells w64, (uint_Tells w64, (uint_Tells w64, tt)))))) (λ κs qs bounds a _ are.
    let κ = κs.0 in let q = qs.0 in let b = a.0.ref_ptr.0 in let o = a.0.ref_ptr.1 in let γ = a.0.ghost_name in let h = a.0.now in
    let at = a.1.0 in let n = a.1.1.0 in let g = a.1.1.1.0 in let k = a.1.1.1.1.0 in
    let vs : List Val × (List Val × (List Val × (List Val × (List Val × Unit {0})))) = (vptr b o ∷ [], (vint w64 at ∷ [], (vint w64 n ∷ [], (vint w64 g ∷ [], (vint w64 k ∷ [], tt))))) in
    let Lent = MutSlice (named 0) κ u8 in
    let y : W.Ghost = ((κs, qs, bounds, a, vs), tt) in
    qed 𝓛 (((‵ (flft κ q) ⊛ ‵ ftrue) ⊛ ‵ (owns (MutRef (named 0) κ R ∷ u64 ∷ u64 ∷ u64 ∷ u64 ∷ []) a vs)) ∷ (raw (fact 𝓤 (at + (n + (g + k)) ≤ length h.bytes)) ⊛ raw (fact 𝓤 (n + (g + k) < 2 ^ 64))) ∷ []) ∵
    move ! (1 ∷ []) $ split ! $ heard ! _ (λ inside. heard ! _ (λ small.
    split ! $ split ! $ move ! (2 ∷ []) $ fsplit ! $ keep ! (0 ∷ 2 ∷ 3 ∷ []) $
    enter ! _ _ _ _ _ $ alloc_all ! (λ l. pass_all ! refl ((tt, tt), ((tt, record { fits = are.1.0.1 }), ((tt, record { fits = are.1.1.0.1 }), ((tt, record { fits = are.1.1.1.0.1 }), ((tt, record { fits = are.1.1.1.1.0.1 }), tt))))) $
    -- [self; the token; nothing; the locals]
    let one : n + g < 2 ^ 64 = omega (arith, small) in let all : n + g + k < 2 ^ 64 = omega (arith, small) in let ends : at + (n + g + k) ≤ length h.bytes = omega (arith, inside) in
    sets ! (addr ! (through ! refl (stop !))) refl (tt, tt) $
    sets ! (bin ! (get ! refl) (get ! refl) (record { fits = one })) refl (tt, record { fits = one }) $
    sets ! (bin ! (get ! refl) (get ! refl) (record { fits = all })) refl (tt, record { fits = all }) $
    let P = triple_of 𝓛 p.signature (p.spec 𝓛 𝓜.mem 𝓡.returns) in
    let x : P.Ghost = ((κs, qs, tt, (a.0, (at, (n + g + k, tt))), (vptr b o ∷ [], (vint w64 at ∷ [], (vint w64 (n + g + k) ∷ [], tt)))), tt) in
    nothing ! $ owned ! u64 (Is u64) (uint_Makes 𝓛 w64) (n + g + k) _ (refl, all) $ fjoin ! $ owned ! u64 (Is u64) (uint_Makes 𝓛 w64) at _ (refl, are.1.0.1) $ fjoin ! $ move ! (1 ∷ 0 ∷ []) $ fjoin ! $
    move ! (1 ∷ 2 ∷ []) $ join ! $ join ! $ use0 𝓛 (raw (fact 𝓤 (at + (n + g + k) ≤ length h.bytes))) (fact_i 𝓤 _ (emp 𝓤) ends) $ move ! (1 ∷ 0 ∷ []) $ use2 𝓛 (raw (P.pre x)) (id⊢ 𝓤 _) $
    calls_at ! (framed 𝓤 𝓛.H 𝓜 𝓣) P (p-met 𝓤 𝓛 𝓜 𝓡 (code.calls-h5_space::image::Image::part_at_mut 𝓡.env wired)) x
    (and_then ! (get ! refl) (and_then ! (get ! refl) (and_then ! (get ! refl) (no_more !)))) (λ w.
    use1 𝓛 (later (some (λ (m : MutBor (List ℕ)). ((‵ (flft κ q) ⊛ ‵ ftrue) ⊛ ‵ (Lent.own_val m (w ∷ []))) ⊛ raw (ensured 𝓛 p.ended (p.clauses 𝓛 𝓜.mem 𝓡.returns) κs (a.0, (at, (n + g + k, tt))) tt m)))) (id⊢ 𝓤 _) $ await ! tt $ pick ! (λ m.
    split ! $ split ! $ split ! $ move ! (3 ∷ []) $
    use1 𝓛 (‵ (follows R (Array u8 0) γ m.ghost_name (with_bytes_at h at)) ⊛ (raw (fact 𝓤 (m.now ≡ part at (n + g + k) h.bytes)) ⊛ raw (fact 𝓤 (length m.now ≡ n + g + k)))) (ex_e 𝓤 _ (λ ws. snd∗ 𝓤 (sem 𝓛 (lasts p.ended κs (a.0, (at, (n + g + k, tt))) ws)) _)) $
    split ! $ move ! (1 ∷ []) $ split ! $ heard ! _ (λ value. heard ! _ (λ size.
    -- [what the image ends as; the token; nothing; the range; the locals]
    move ! (3 ∷ []) $ peeks ! Lent (Is Lent) (shows 𝓛 Lent) m (w ∷ []) (λ is.
    rewrite ! 0 (λ (us : List Val). ‵ (Lent.own_val m us)) is.0.0 refl $
    lands_as ! (ap only is.0.0) refl (tt, (tt, (record { fits = is.0.1.0 }, tt))) $
    sets ! (addr ! (from ! (fld ! refl (hop ! (look_in_at ! 6 (sub ! 0 refl (whole !))) (stop !))))) refl (tt, tt) $
    sets ! (agg ! (and_then ! (get ! refl) (and_then ! (get_in ! (fld ! refl (stop !)) (sub ! 1 refl (whole !))) (no_more !)))) refl (tt, (tt, (record { fits = is.0.1.0 }, tt))) $
    sets ! (of_opd ! (get ! refl)) refl (tt, record { fits = are.1.1.0.1 }) $
    let V = triple_of 𝓛 hv.signature (hv.spec 𝓛 𝓜.mem 𝓡.returns) in
    let z : V.Ghost = ((κs, qs, tt, (m, (n, tt)), (mut_slice_vals m, (vint w64 n ∷ [], tt))), tt) in
    nothing ! $ owned ! usize (Is usize) (uint_Makes 𝓛 w64) n _ (refl, are.1.1.0.1) $ fjoin ! $ move ! (1 ∷ 0 ∷ []) $ fjoin ! $
    move ! (2 ∷ 3 ∷ []) $ join ! $ join ! $ use0 𝓛 (raw (fact 𝓤 (n ≤ length m.now))) (fact_i 𝓤 _ (emp 𝓤) (omega (arith, size))) $ move ! (1 ∷ 0 ∷ []) $ use2 𝓛 (raw (V.pre z)) (id⊢ 𝓤 _) $
    calls_at ! (framed 𝓤 𝓛.H 𝓜 𝓣) V (hv-met 𝓤 𝓛 𝓜 𝓡 (code.calls-h5_space::image::halves 𝓡.env wired)) z
    (and_then ! (get ! refl) (and_then ! (get ! refl) (no_more !))) (λ w₁.
    use1 𝓛 (later (some (λ (r : Two). ((‵ (flft κ q) ⊛ ‵ ftrue) ⊛ ‵ ((Pair 𝓛 κ).own_val r (w₁ ∷ []))) ⊛ raw (ensured 𝓛 hv.ended (hv.clauses 𝓛 𝓜.mem 𝓡.returns) κs (m, (n, tt)) tt r)))) (id⊢ 𝓤 _) $ await ! tt $ pick ! (λ r.
    split ! $ split ! $ split ! $ move ! (3 ∷ []) $
    use1 𝓛 (‵ (follows_both (Array u8 0) (Array u8 0) (Array u8 0) m.ghost_name r.0.ghost_name r.1.ghost_name ◌++◌) ⊛ (raw (fact 𝓤 (r.0.now ≡ take n m.now)) ⊛ raw (fact 𝓤 (r.1.now ≡ behind n m.now)))) (ex_e 𝓤 _ (λ ws. snd∗ 𝓤 (sem 𝓛 (lasts hv.ended κs (m, (n, tt)) ws)) _)) $
    split ! $ move ! (1 ∷ []) $ split ! $ heard ! _ (λ front. heard ! _ (λ back.
    -- [what the range ends as; the token; nothing; the two; what the image ends as; the locals]
    move ! (3 ∷ []) $ use1 𝓛 (raw (fact 𝓤 (w₁ ≡ pair_val r)) ⊛ (‵ (Lent.own_val r.0 (mut_slice_vals r.0)) ⊛ ‵ (Lent.own_val r.1 (mut_slice_vals r.1)))) (pair_apart 𝓛 κ r w₁) $
    split ! $ heard ! _ (λ lies. split ! $ peeks ! Lent (Is Lent) (shows 𝓛 Lent) r.0 (mut_slice_vals r.0) (λ is₀. move ! (1 ∷ []) $ peeks ! Lent (Is Lent) (shows 𝓛 Lent) r.1 (mut_slice_vals r.1) (λ is₁.
    -- [what is behind the first part; the first part; what the range ends as; the token; nothing; what the image ends as; the locals]
    lands_as ! lies refl (tt, ((tt, (record { fits = is₀.0.1.0 }, tt)), ((tt, (record { fits = is₁.0.1.0 }, tt)), tt))) $
    sets ! (of_opd ! (get_in ! (fld ! refl (stop !)) (sub ! 0 refl (whole !)))) refl (tt, (tt, (record { fits = is₀.0.1.0 }, tt))) $
    sets ! (of_opd ! (get_in ! (fld ! refl (stop !)) (sub ! 1 refl (whole !)))) refl (tt, (tt, (record { fits = is₁.0.1.0 }, tt))) $
    sets ! (addr ! (from ! (fld ! refl (hop ! (look_in_at ! 8 (sub ! 0 refl (whole !))) (stop !))))) refl (tt, tt) $
    sets ! (agg ! (and_then ! (get ! refl) (and_then ! (get_in ! (fld ! refl (stop !)) (sub ! 1 refl (whole !))) (no_more !)))) refl (tt, (tt, (record { fits = is₁.0.1.0 }, tt))) $
    sets ! (of_opd ! (get ! refl)) refl (tt, record { fits = are.1.1.1.0.1 }) $
    let z' : V.Ghost = ((κs, qs, tt, (r.1, (g, tt)), (mut_slice_vals r.1, (vint w64 g ∷ [], tt))), tt) in
    let long : length r.1.now ≡ length m.now - n = ap length back ∙ length-drop n m.now in
    nothing ! $ owned ! usize (Is usize) (uint_Makes 𝓛 w64) g _ (refl, are.1.1.1.0.1) $ fjoin ! $ move ! (1 ∷ 0 ∷ []) $ fjoin ! $
    move ! (3 ∷ 4 ∷ []) $ join ! $ join ! $ use0 𝓛 (raw (fact 𝓤 (g ≤ length r.1.now))) (fact_i 𝓤 _ (emp 𝓤) (omega (arith, size, long))) $ move ! (1 ∷ 0 ∷ []) $ use2 𝓛 (raw (V.pre z')) (id⊢ 𝓤 _) $
    calls_at ! (framed 𝓤 𝓛.H 𝓜 𝓣) V (hv-met 𝓤 𝓛 𝓜 𝓡 (code.calls-h5_space::image::halves 𝓡.env wired)) z'
    (and_then ! (get ! refl) (and_then ! (get ! refl) (no_more !))) (λ w₂.
    use1 𝓛 (later (some (λ (t : Two). ((‵ (flft κ q) ⊛ ‵ ftrue) ⊛ ‵ ((Pair 𝓛 κ).own_val t (w₂ ∷ []))) ⊛ raw (ensured 𝓛 hv.ended (hv.clauses 𝓛 𝓜.mem 𝓡.returns) κs (r.1, (g, tt)) tt t)))) (id⊢ 𝓤 _) $ await ! tt $ pick ! (λ t.
    split ! $ split ! $ split ! $ move ! (3 ∷ []) $
    use1 𝓛 (‵ (follows_both (Array u8 0) (Array u8 0) (Array u8 0) r.1.ghost_name t.0.ghost_name t.1.ghost_name ◌++◌) ⊛ (raw (fact 𝓤 (t.0.now ≡ take g r.1.now)) ⊛ raw (fact 𝓤 (t.1.now ≡ behind g r.1.now)))) (ex_e 𝓤 _ (λ ws. snd∗ 𝓤 (sem 𝓛 (lasts hv.ended κs (r.1, (g, tt)) ws)) _)) $
    split ! $ move ! (1 ∷ []) $ split ! $ heard ! _ (λ middle. heard ! _ (λ last.
    -- [what is behind the first part ends as; the token; nothing; the two; the first part; what the range ends as; what the image ends as; the locals]
    move ! (3 ∷ []) $ use1 𝓛 (raw (fact 𝓤 (w₂ ≡ pair_val t)) ⊛ (‵ (Lent.own_val t.0 (mut_slice_vals t.0)) ⊛ ‵ (Lent.own_val t.1 (mut_slice_vals t.1)))) (pair_apart 𝓛 κ t w₂) $
    split ! $ heard ! _ (λ lies'. split ! $ peeks ! Lent (Is Lent) (shows 𝓛 Lent) t.0 (mut_slice_vals t.0) (λ is₂. move ! (1 ∷ []) $ peeks ! Lent (Is Lent) (shows 𝓛 Lent) t.1 (mut_slice_vals t.1) (λ is₃.
    lands_as ! lies' refl (tt, ((tt, (record { fits = is₂.0.1.0 }, tt)), ((tt, (record { fits = is₃.0.1.0 }, tt)), tt))) $
    sets ! (of_opd ! (get_in ! (fld ! refl (stop !)) (sub ! 1 refl (whole !)))) refl (tt, (tt, (record { fits = is₃.0.1.0 }, tt))) $
    sets ! (addr ! (from ! (fld ! refl (hop ! (look_in_at ! 7 (sub ! 0 refl (whole !))) (stop !))))) refl (tt, tt) $
    sets ! (agg ! (and_then ! (get ! refl) (and_then ! (get_in ! (fld ! refl (stop !)) (sub ! 1 refl (whole !))) (no_more !)))) refl (tt, (tt, (record { fits = is₀.0.1.0 }, tt))) $
    sets ! (addr ! (from ! (fld ! refl (hop ! (look_in_at ! 9 (sub ! 0 refl (whole !))) (stop !))))) refl (tt, tt) $
    sets ! (agg ! (and_then ! (get ! refl) (and_then ! (get_in ! (fld ! refl (stop !)) (sub ! 1 refl (whole !))) (no_more !)))) refl (tt, (tt, (record { fits = is₃.0.1.0 }, tt))) $
    sets ! (agg ! (and_then ! (get ! refl) (and_then ! (get ! refl) (no_more !)))) refl (tt, ((tt, (record { fits = is₀.0.1.0 }, tt)), ((tt, (record { fits = is₃.0.1.0 }, tt)), tt))) $
    returns ! (look_at ! 0 refl) $ free_all ! refl $ keep ! (0 ∷ 1 ∷ 2 ∷ 3 ∷ 5 ∷ 6 ∷ 7 ∷ []) $
    let rest : r.1.now ≡ behind n (part at (n + g + k) h.bytes) = back ∙ ap (behind n) value in
    let between : t.0.now ≡ part (at + n) g h.bytes = middle ∙ ap (take g) rest ∙ gap_of at n g k h.bytes inside in
    -- [the last part; what stands between; two ends; the token; the first part; two ends]
    move ! (1 ∷ []) $ fsplit3 ! $ keep ! (1 ∷ 3 ∷ 4 ∷ 5 ∷ 6 ∷ 7 ∷ 8 ∷ []) $
    rewrite ! 0 (λ (ws : List ℕ). ‵ (fobs t.0.ghost_name ((Array u8 0).coded.code ws))) (heres_id u8 t.0.now ∙ between) refl $
    use1 𝓛 (‵ (fres t.0.ghost_name ((Array u8 0).coded.code (part (at + n) g h.bytes)))) (𝓛.names.obs-res t.0.ghost_name _) $
    move ! (6 ∷ 5 ∷ 2 ∷ 0 ∷ []) $ group ! 4 $
    use1 𝓛 (‵ (follows_both R (Array u8 0) (Array u8 0) γ r.0.ghost_name t.1.ghost_name (with_bytes_around h at n g)))
    (both_around 𝓛 R (with_bytes_at h at) γ m.ghost_name r.0.ghost_name r.1.ghost_name t.0.ghost_name t.1.ghost_name (part (at + n) g h.bytes)) $
    move ! (3 ∷ 1 ∷ []) $ use2 𝓛 (‵ ((Pair 𝓛 κ).own_val (r.0, t.1) (pair_val (r.0, t.1) ∷ []))) (pair_of 𝓛 κ (r.0, t.1)) $
    suffices ! _ (ends_at 𝓛 f.ended stayed c y (pair_val (r.0, t.1)) (r.0, t.1) (tt, (tt, (tt, (tt, (tt, tt))))) (tt, (tt, (tt, (tt, (tt, tt)))))) $
    nothing ! $ nothing ! $ fjoin ! $ nothing ! $ fjoin ! $ nothing ! $ fjoin ! $ nothing ! $ fjoin ! $ nothing ! $ fjoin ! $ join ! $ nothing ! $ move ! (3 ∷ 0 ∷ []) $ join ! $ join ! $ frame ! $ frame ! $
    use0 𝓛 (raw (fact 𝓤 (t.1.now ≡ part (at + n + g) k h.bytes))) (fact_i 𝓤 _ (emp 𝓤) (last ∙ ap (behind g) rest ∙ back_of at n g k h.bytes inside)) $
    use0 𝓛 (raw (fact 𝓤 (r.0.now ≡ part at n h.bytes))) (fact_i 𝓤 _ (emp 𝓤) (front ∙ ap (take n) value ∙ front_of at n g k h.bytes inside)) $ join ! $ done !)))))))))))))))))))))))
