-- Two parts of a slice are a pair, and what a value ends as follows both, for a proof by hand.
use Rattle.h5_space.proofs.Steps.{◌≡◌, ℕ, List, [], ◌∷◌, ◌++◌, length, refl, ap, ◌∙◌, MutBor, SProp, ent, sep, emp, wand, apply∗, all_e, Lft, GName, named, Val, vstruct, vcons, vnil, of_list, fact, fact_i, Logic, sem, Ura, ‵, raw, ◌⊛◌, ◌$◌, ◌∵◌, !, qed, by, done, move, drop, use0, use1, use2, split, join, fsplit, fjoin, feq_i, feq_l, fpick, fpack, each, assume, rewrite, u8, Is, shows, follows, followed, MutSlice, slice_val, mut_slice_vals, nothing, peeks, only, Array}
use denote.Follow.{follows_both, both_by}
use denote.RattleType.{RattleType, Valss}
use denote.Struct.Struct.{within}
use denote.Struct.Tuple.{Tuple, tuple_type}
use denote.Struct.Declared.{shape}

abbrev pub Two : Type 0
Two = MutBor (List ℕ) × MutBor (List ℕ)

abbrev pub pair_val : Two → Val
pair_val r = vstruct (vcons (slice_val r.0.ref_ptr (length r.0.now)) (vcons (slice_val r.1.ref_ptr (length r.1.now)) vnil))

module _ {M : Type 1} {𝓤 : Ura M} (𝓛 : Logic 𝓤) (κ : Lft) where
  open 𝓛 use {A}

  abbrev pub Part : RattleType
  Part = MutSlice (named 0) κ u8

  abbrev pub Pair : RattleType
  Pair = Tuple (Part ∷ Part ∷ [])

  pub pair_of : (r : Two) → ent 𝓤 (sep 𝓤 (sem 𝓛 (Part.own_val r.0 (mut_slice_vals r.0))) (sem 𝓛 (Part.own_val r.1 (mut_slice_vals r.1)))) (sem 𝓛 (Pair.own_val r (pair_val r ∷ [])))
  pair_of r =
      qed 𝓛 (‵ (Part.own_val r.0 (mut_slice_vals r.0)) ∷ ‵ (Part.own_val r.1 (mut_slice_vals r.1)) ∷ []) ∵
      nothing ! $ move ! (2 ∷ 0 ∷ []) $ fjoin ! $ move ! (1 ∷ 0 ∷ []) $ fjoin ! $ feq_i ! (List Val) (pair_val r ∷ []) (pair_val r ∷ []) refl $ fjoin ! $
      fpack ! (Valss (Part ∷ Part ∷ [])) (within (shape (tuple_type (Part ∷ Part ∷ []))) (r.0, (r.1, tt)) (pair_val r ∷ [])) (mut_slice_vals r.0, (mut_slice_vals r.1, tt)) $ done !

  pub pair_apart : (r : Two) (v : Val) → ent 𝓤 (sem 𝓛 (Pair.own_val r (v ∷ []))) (sep 𝓤 (fact 𝓤 (v ≡ pair_val r)) (sep 𝓤 (sem 𝓛 (Part.own_val r.0 (mut_slice_vals r.0))) (sem 𝓛 (Part.own_val r.1 (mut_slice_vals r.1)))))
  pair_apart r v =
      qed 𝓛 (‵ (Pair.own_val r (v ∷ [])) ∷ []) ∵ fpick ! (λ us. fsplit ! $ feq_l ! (λ e. fsplit ! $ move ! (1 ∷ []) $ fsplit ! $ move ! (1 ∷ []) $ drop ! $
      peeks ! Part (Is Part) (shows 𝓛 Part) r.1 us.1.0 (λ i. move ! (1 ∷ []) $ peeks ! Part (Is Part) (shows 𝓛 Part) r.0 us.0 (λ j.
      rewrite ! 0 (λ (xs : List Val). ‵ (Part.own_val r.0 xs)) j.0.0 refl $ rewrite ! 1 (λ (xs : List Val). ‵ (Part.own_val r.1 xs)) i.0.0 refl $
      use0 𝓛 (raw (fact 𝓤 (v ≡ pair_val r))) (fact_i 𝓤 _ (emp 𝓤) (ap only e ∙ (λ t. vstruct (of_list (j.0.0 t ++ (i.0.0 t ++ [])))))) $ done !))))

module _ {M : Type 1} {𝓤 : Ura M} (𝓛 : Logic 𝓤) (R : RattleType) (F : List ℕ → R.Denot) (γ γm γ₁ γr γg γ₂ : GName) (gap : List ℕ) where
  open 𝓛 use {A}

  abbrev ends : GName → List ℕ → SProp 𝓤
  ends δ ws = A.res δ ((Array u8 0).coded.code ws)

  -- a value that follows a range, which was cut in three, follows the first and the last, if the middle stays
  pub both_around : ent 𝓤 (sep 𝓤 (sem 𝓛 (follows R (Array u8 0) γ γm F)) (sep 𝓤 (sem 𝓛 (follows_both (Array u8 0) (Array u8 0) (Array u8 0) γm γ₁ γr ◌++◌))
      (sep 𝓤 (sem 𝓛 (follows_both (Array u8 0) (Array u8 0) (Array u8 0) γr γg γ₂ ◌++◌)) (ends γg gap)))) (sem 𝓛 (follows_both R (Array u8 0) (Array u8 0) γ γ₁ γ₂ (λ x y. F (x ++ (gap ++ y)))))
  unfolding both_by
  both_around =
      qed 𝓛 (‵ (follows R (Array u8 0) γ γm F) ∷ ‵ (follows_both (Array u8 0) (Array u8 0) (Array u8 0) γm γ₁ γr ◌++◌) ∷ ‵ (follows_both (Array u8 0) (Array u8 0) (Array u8 0) γr γg γ₂ ◌++◌) ∷ raw (ends γg gap) ∷ []) ∵
      each ! (λ (w : List ℕ × List ℕ). wand 𝓤 (sep 𝓤 (ends γ₁ w.0) (ends γ₂ w.1)) (A.res γ (R.coded.code (F (w.0 ++ (gap ++ w.1)))))) (λ w. assume ! (raw (ends γ₁ w.0) ⊛ raw (ends γ₂ w.1)) $ split ! $
      -- [the first; the last; the value follows the range; the range; what is behind the first; the middle]
      move ! (4 ∷ 5 ∷ 1 ∷ []) $ use1 𝓛 (raw (wand 𝓤 (sep 𝓤 (ends γg gap) (ends γ₂ w.1)) (ends γr (gap ++ w.1)))) (all_e 𝓤 (λ (z : List ℕ × List ℕ). wand 𝓤 (sep 𝓤 (ends γg z.0) (ends γ₂ z.1)) (ends γr (z.0 ++ z.1))) (gap, w.1)) $
      move ! (1 ∷ 2 ∷ 0 ∷ []) $ join ! $ use2 𝓛 (raw (ends γr (gap ++ w.1))) (apply∗ 𝓤 (sep 𝓤 (ends γg gap) (ends γ₂ w.1)) (ends γr (gap ++ w.1))) $
      -- [what is behind the first; the first; the value follows the range; the range]
      move ! (3 ∷ []) $ use1 𝓛 (raw (wand 𝓤 (sep 𝓤 (ends γ₁ w.0) (ends γr (gap ++ w.1))) (ends γm (w.0 ++ (gap ++ w.1))))) (all_e 𝓤 (λ (z : List ℕ × List ℕ). wand 𝓤 (sep 𝓤 (ends γ₁ z.0) (ends γr z.1)) (ends γm (z.0 ++ z.1))) (w.0, gap ++ w.1)) $
      move ! (2 ∷ 1 ∷ 0 ∷ []) $ join ! $ use2 𝓛 (raw (ends γm (w.0 ++ (gap ++ w.1)))) (apply∗ 𝓤 (sep 𝓤 (ends γ₁ w.0) (ends γr (gap ++ w.1))) (ends γm (w.0 ++ (gap ++ w.1)))) $
      move ! (1 ∷ 0 ∷ []) $ by ! (followed 𝓛 R (Array u8 0) F γ γm (w.0 ++ (gap ++ w.1))))

-- what follows two parts follows them in the other order
module _ {M : Type 1} {𝓤 : Ura M} (𝓛 : Logic 𝓤) (R : RattleType) (F : List ℕ → List ℕ → R.Denot) (γ γ₁ γ₂ : GName) where
  open 𝓛 use {A}

  pub both_swapped : ent 𝓤 (sem 𝓛 (follows_both R (Array u8 0) (Array u8 0) γ γ₁ γ₂ F)) (sem 𝓛 (follows_both R (Array u8 0) (Array u8 0) γ γ₂ γ₁ (λ x y. F y x)))
  unfolding both_by
  both_swapped =
      let last : GName → List ℕ → SProp 𝓤 = λ δ ws. A.res δ ((Array u8 0).coded.code ws) in
      qed 𝓛 (‵ (follows_both R (Array u8 0) (Array u8 0) γ γ₁ γ₂ F) ∷ []) ∵
      each ! (λ (w : List ℕ × List ℕ). wand 𝓤 (sep 𝓤 (last γ₂ w.0) (last γ₁ w.1)) (A.res γ (R.coded.code (F w.1 w.0)))) (λ w. assume ! (raw (last γ₂ w.0) ⊛ raw (last γ₁ w.1)) $ split ! $
      move ! (2 ∷ []) $ use1 𝓛 (raw (wand 𝓤 (sep 𝓤 (last γ₁ w.1) (last γ₂ w.0)) (A.res γ (R.coded.code (F w.1 w.0))))) (all_e 𝓤 (λ (z : List ℕ × List ℕ). wand 𝓤 (sep 𝓤 (last γ₁ z.0) (last γ₂ z.1)) (A.res γ (R.coded.code (F z.0 z.1)))) (w.1, w.0)) $
      move ! (2 ∷ 1 ∷ 0 ∷ []) $ join ! $ by ! (apply∗ 𝓤 (sep 𝓤 (last γ₁ w.1) (last γ₂ w.0)) (A.res γ (R.coded.code (F w.1 w.0)))))
