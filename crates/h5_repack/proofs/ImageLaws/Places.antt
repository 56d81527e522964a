-- Where the headers of objects stand that follow each other without gaps: each has a place of its own, and the places are those of the
-- table.
use Rattle.std.proofs.Common.{◌≡◌, ℕ, ◌+◌, ◌-◌, ◌≤◌, List, [], ◌∷◌, map, refl, sym, ap, ap₂, ◌∙◌, subst, arith, inl, inr, cond, eqb, true, false, Bool, Option, Some}
use Rattle.std.proofs.lemmas.Bool.Decides.{nat_tests}
use Rattle.std.specs.Ordering.{nat_cmp}
use Rattle.std.specs.Cmp.{nat_cmp_total, unsigned_tied}
use Rattle.std.specs.FinMap.{nat_cmp-IsAntisymmetric, get, find, get-from_entries}
use Rattle.h5_bytes.specs.Blocks.{holds}
use Rattle.h5_bytes.proofs.BlockLaws.{holds_join, holds_none}
use Rattle.h5_model.specs.Tree.Objects.{Object}
use Rattle.h5_laws.proofs.Lists.{In}
use Rattle.h5_laws.proofs.Maps.{found_entry}
use Rattle.h5_laws.proofs.Pigeonhole.{Apart}
use Rattle.h5_repack.specs.Image.Written.{object_length, headers_from, end_from, table_of}
use Rattle.h5_repack.proofs.ImageLaws.Totals.{total}
use Rattle.h5_model.specs.declared.k_values.KValues.{KValues}
use Rattle.h5_model.specs.Format.Plain.{plain_superblock_length}

abbrev pub Objects : Type 0
Objects = List (ℕ × Object)

abbrev pub numbers : Objects → List ℕ
numbers es = map (λ (e : ℕ × Object). e.0) es

-- ---- what is found by a number

-- the first entry is found by its number
pub found_first : {X : Type 0} (n : ℕ) (v : X) (es : List (ℕ × X)) → find nat_cmp n ((n, v) ∷ es) ≡ Some v
found_first {X = X} n v es =
    let same : eqb n n ≡ true = grind (arith, nat_tests) in
    ap (λ (b : Bool). cond b (Some v) (find nat_cmp n es)) (unsigned_tied n n ∙ same)

-- and the others behind it
pub found_later : {X : Type 0} (m n : ℕ) (v : X) (es : List (ℕ × X)) → (m ≡ n → ⊥) → find nat_cmp m ((n, v) ∷ es) ≡ find nat_cmp m es
found_later {X = X} m n v es other =
    let differs : eqb m n ≡ false = grind (arith, nat_tests, other) in
    ap (λ (b : Bool). cond b (Some v) (find nat_cmp m es)) (unsigned_tied m n ∙ differs)

module _ (k : KValues) (counts : ℕ → ℕ) where
  abbrev long : ℕ × Object → ℕ
  long e = object_length k (counts e.0) e.1

  -- each object has bytes
  pub some_bytes : (e : ℕ × Object) → 16 ≤ long e
  some_bytes e = omega arith

  -- ---- facts about each object at its place

  -- P holds of each object and its place, the first of which is this one
  abbrev pub Along : (ℕ → ℕ × Object → Type 0) → ℕ → Objects → Type 0
  Along P at [] = Unit {0}
  Along P at (e ∷ es) = P at e × Along P (at + long e) es

  pub along_in : (P : ℕ → ℕ × Object → Type 0) (at : ℕ) (es : Objects) (e : ℕ × Object) → Along P at es → In e es → (place : ℕ) × P place e
  along_in P at [] e along there = absurd there
  along_in P at (x ∷ es) e along (inl is) = (at, subst (P at) is along.0)
  along_in P at (x ∷ es) e along (inr there) = along_in P (at + long x) es e along.1 there

  pub along_both : (P Q : ℕ → ℕ × Object → Type 0) (at : ℕ) (es : Objects) → Along P at es → Along Q at es → Along (λ place e. P place e × Q place e) at es
  along_both P Q at [] p q = tt
  along_both P Q at (e ∷ es) p q = ((p.0, q.0), along_both P Q (at + long e) es p.1 q.1)

  -- the same where the places follow from others
  pub along_more : (P Q : ℕ → ℕ × Object → Type 0) (at : ℕ) (es : Objects) → ((place : ℕ) (e : ℕ × Object) → In e es → P place e → Q place e) → Along P at es → Along Q at es
  along_more P Q at [] f p = tt
  along_more P Q at (e ∷ es) f p = (f at e (inl refl) p.0, along_more P Q (at + long e) es (λ place x there. f place x (inr there)) p.1)

  -- ---- ends

  pub end_rises : (at : ℕ) (es : Objects) → at ≤ end_from k counts at es
  end_rises at [] = omega arith
  end_rises at (e ∷ es) = omega (arith, end_rises (at + long e) es)

  -- the end lies behind all lengths
  pub end-total : (at : ℕ) (es : Objects) → end_from k counts at es ≡ at + total (λ (e : ℕ × Object). long e) es
  end-total at [] = omega arith
  end-total at (e ∷ es) = omega (arith, end-total (at + long e) es)

  -- an object ends where the next begins, or at the end
  abbrev pub IsBelow : ℕ → ℕ → ℕ × Object → Type 0
  IsBelow end place e = (plain_superblock_length k ≤ place) × (place + long e ≤ end)

  pub along_below : (at : ℕ) (es : Objects) → plain_superblock_length k ≤ at → Along (IsBelow (end_from k counts at es)) at es
  along_below at [] high = tt
  along_below at (e ∷ es) high = ((high, end_rises (at + long e) es), along_below (at + long e) es (omega (arith, high)))

  -- ---- the table

  abbrev pub IsFound : (ℕ → Option ℕ) → ℕ → ℕ × Object → Type 0
  IsFound t place e = t e.0 ≡ Some place

  pub along_found : (t : ℕ → Option ℕ) (at : ℕ) (es : Objects) → Apart (numbers es)
      → ((n : ℕ) → In n (numbers es) → t n ≡ find nat_cmp n (headers_from k counts at es)) → Along (IsFound t) at es
  along_found t at [] apart same = tt
  along_found t at ((n, o) ∷ es) apart same = (
    same n (inl refl) ∙ found_first n at (headers_from k counts (at + long (n, o)) es),
    along_found t (at + long (n, o)) es apart.1
        (λ m there. same m (inr there) ∙ found_later m n at (headers_from k counts (at + long (n, o)) es) (λ e. apart.0 (subst (λ (y : ℕ). In y (numbers es)) e there))),
  )

  -- a header is that of an object
  pub header_of : (at : ℕ) (es : Objects) (n h : ℕ) → In (n, h) (headers_from k counts at es) → (o : Object) × In (n, o) es × (at ≤ h)
  header_of at [] n h there = absurd there
  header_of at ((m, o) ∷ es) n h (inl e) =
      let number : m ≡ n = ap (λ (x : ℕ × ℕ). x.0) e in
      let place : at ≡ h = ap (λ (x : ℕ × ℕ). x.1) e in
      (o, inl (ap (λ (y : ℕ). (y, o)) number), omega arith)
  header_of at ((m, o) ∷ es) n h (inr there) = let rest = header_of (at + long (m, o)) es n h there in (rest.0, inr rest.1, omega (arith, rest.2))

  -- and of one object alone
  pub one_header : (at : ℕ) (es : Objects) (a b h : ℕ) → In (a, h) (headers_from k counts at es) → In (b, h) (headers_from k counts at es) → a ≡ b
  one_header at [] a b h p q = absurd p
  one_header at ((m, o) ∷ es) a b h (inl e) (inl f) = sym (ap (λ (x : ℕ × ℕ). x.0) e) ∙ ap (λ (x : ℕ × ℕ). x.0) f
  one_header at ((m, o) ∷ es) a b h (inl e) (inr q) =
      let place : at ≡ h = ap (λ (x : ℕ × ℕ). x.1) e in
      let later = header_of (at + long (m, o)) es b h q in absurd (omega (arith, place, later.2, some_bytes (m, o)))
  one_header at ((m, o) ∷ es) a b h (inr p) (inl f) =
      let place : at ≡ h = ap (λ (x : ℕ × ℕ). x.1) f in
      let later = header_of (at + long (m, o)) es a h p in absurd (omega (arith, place, later.2, some_bytes (m, o)))
  one_header at ((m, o) ∷ es) a b h (inr p) (inr q) = one_header (at + long (m, o)) es a b h p q

  -- ---- bytes

  -- the objects hold the bytes from the first place to the end, each once
  pub along_cover : (p : ℕ) (g : ℕ → ℕ) (at : ℕ) (es : Objects) → Along (λ place e. g e.0 ≡ place) at es
      → total (λ (e : ℕ × Object). holds p (g e.0) (long e)) es ≡ holds p at (end_from k counts at es - at)
  along_cover p g at [] along = let none : at - at ≡ 0 = omega arith in sym (ap (holds p at) none ∙ holds_none p at)
  along_cover p g at (e ∷ es) along =
      let behind : end_from k counts at (e ∷ es) - at ≡ long e + (end_from k counts (at + long e) es - (at + long e)) = omega (arith, end_rises (at + long e) es) in
      ap₂ (λ (a b : ℕ). a + b) (ap (λ y. holds p y (long e)) along.0) (along_cover p g (at + long e) es along.1)
      ∙ sym (holds_join p at (long e) (end_from k counts (at + long e) es - (at + long e))) ∙ sym (ap (holds p at) behind)

-- ---- the table of an order

pub table_find : (k : KValues) (counts : ℕ → ℕ) (order : Objects) (n : ℕ) → get (table_of k counts order) n ≡ find nat_cmp n (headers_from k counts (plain_superblock_length k) order)
table_find k counts order n = get-from_entries nat_cmp_total (headers_from k counts (plain_superblock_length k) order) n

-- each header is that of one number
pub table_own : (k : KValues) (counts : ℕ → ℕ) (order : Objects) (a b h : ℕ) → get (table_of k counts order) a ≡ Some h → get (table_of k counts order) b ≡ Some h → a ≡ b
table_own k counts order a b h p q = one_header k counts (plain_superblock_length k) order a b h
    (found_entry nat_cmp-IsAntisymmetric (headers_from k counts (plain_superblock_length k) order) a h (sym (table_find k counts order a) ∙ p))
    (found_entry nat_cmp-IsAntisymmetric (headers_from k counts (plain_superblock_length k) order) b h (sym (table_find k counts order b) ∙ q))

-- what the table has is an object
pub table_object : (k : KValues) (counts : ℕ → ℕ) (order : Objects) (n h : ℕ) → get (table_of k counts order) n ≡ Some h → (o : Object) × In (n, o) order
table_object k counts order n h p =
    let found = header_of k counts (plain_superblock_length k) order n h (found_entry nat_cmp-IsAntisymmetric (headers_from k counts (plain_superblock_length k) order) n h (sym (table_find k counts order n) ∙ p)) in
    (found.0, found.1)
