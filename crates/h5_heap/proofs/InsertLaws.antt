-- A text is written into a segment: over the first bytes of a free block, or behind the old bytes.
use Rattle.std.proofs.Common.{◌≡◌, ℕ, ◌+◌, ◌-◌, ◌<◌, ◌≤◌, ◌%◌, inl, inr, Some, None, List, [], ◌∷◌, length, refl, sym, ◌∙◌, ap, ap₂, subst, arith}
use Rattle.std.specs.List.{AllByRecursion, find}
use Rattle.std.proofs.lemmas.Bool.{cases_lt}
use Rattle.std.proofs.lemmas.Bool.Decides.{nat_tests}
use Rattle.h5_bytes.specs.Bytes.{number_at, byte_at, part, with_part}
use Rattle.h5_bytes.specs.Texts.{pad8}
use Rattle.h5_bytes.specs.Blocks.{block, holds, cover, Inside}
use Rattle.h5_bytes.specs.declared.Block.{Block}
use Rattle.h5_bytes.proofs.BlockLaws.{cover-append, holds-inner, holds_join, holds_in, holds-le, holds_before, cover_past, all_so}
use Rattle.h5_bytes.proofs.FieldLaws.{number_at-part}
use Rattle.h5_bytes.proofs.PartLaws.{length-part, length-with_part, part-with_part_same}
use Rattle.h5_model.specs.Format.Heap.{FreeFrom, IsFree}
use Rattle.h5_model.specs.Format.Plain.{padded_text}
use Rattle.h5_model.specs.Format.Sizes.{text_span}
use Rattle.h5_model.proofs.OneReading.{some_same}
use Rattle.h5_model.proofs.BodyLaws.{byte_at-part}
use Rattle.h5_space.proofs.MovesLaws.{byte-with_part}
use Rattle.h5_heap.specs.Chain.{free_from, IsChain, HasChain, Relists, Ascends, IsPutIn}
use Rattle.h5_heap.specs.Inserted.{InsertsText, IsFront, rest_of, grown_length}
use Rattle.h5_heap.specs.Sought.{is_enough}
use Rattle.h5_heap.proofs.ChainLaws.{IsFound, found_free, free_from_is, has_chain}
use Rattle.h5_heap.proofs.FrontLaws.{rest_none, rest_one}
use Rattle.h5_heap.proofs.RelistLaws.{chain_kept}
use Rattle.h5_heap.proofs.WriteLaws.Lengths.{length-padded_text}

some_span : (text : List ℕ) → 0 < text_span text
some_span text = omega arith

pub even_span : (text : List ℕ) → text_span text % 8 ≡ 0
even_span text = omega arith

-- a text is written where no free block is
module _ (t : List ℕ) (g : ℕ) (c : HasChain t g) (text : List ℕ) (at : ℕ) (within : at + text_span text ≤ length t)
    (apart : (p : ℕ) → cover p (free_from t g) + holds p at (text_span text) ≤ 1) where
  abbrev pub after_text : List ℕ
  after_text = with_part at (padded_text text) t

  fits : at + length (padded_text text) ≤ length t
  fits = omega (arith, length-padded_text text, within)

  chain : IsChain after_text g (free_from t g)
  chain = chain_kept t g (free_from t g) c at (text_span text) (padded_text text) (length-padded_text text) (some_span text) within
      (λ p. omega (arith, apart p))

  pub text_chain : HasChain after_text g
  text_chain = has_chain after_text g (free_from t g) chain

  pub text_list : free_from after_text g ≡ free_from t g
  text_list = free_from_is after_text g (free_from t g) chain

  pub text_long : length after_text ≡ length t
  text_long = length-with_part at (padded_text text) t fits

  pub text_written : part at (text_span text) after_text ≡ padded_text text
  text_written = part-with_part_same at (text_span text) (padded_text text) t (sym (length-padded_text text)) fits

  pub text_bytes : (p : ℕ) → holds p at (text_span text) ≡ 0 → byte_at after_text p ≡ byte_at t p
  text_bytes p none = byte-with_part at (padded_text text) t p fits (elim (cases_lt p at) [
    | inl low ↦ inl low
    | inr high ↦ elim (cases_lt p (at + text_span text)) [
      | inl inner ↦ absurd (omega (arith, none, holds_in p at (text_span text) high inner))
      | inr past ↦ inr (omega (arith, past, length-padded_text text))
    ]
  ])

-- in the first bytes of a free block
module _ (s t : List ℕ) (first g : ℕ) (text : List ℕ) (b : Block) (c : HasChain s first)
    (found : find (is_enough (text_span text)) (free_from s first) ≡ Some b)
    (taken : Relists s t first g (b ∷ []) (rest_of (text_span text) b)) (front : IsFront (free_from s first) (free_from t g) b.at (text_span text))
    (ascending : Ascends (free_from s first) → Ascends (free_from t g)) where
  free : IsFound (is_enough (text_span text)) s (free_from s first) b
  free = found_free (is_enough (text_span text)) s first b c found

  enough : text_span text ≤ b.len
  enough = grind (arith, nat_tests, free.passes)

  pub front_inner : b.at + text_span text ≤ length t
  front_inner = omega (arith, enough, free.within, taken.size)

  -- the text and what is left of the block are in the block
  parts : (p : ℕ) → cover p (rest_of (text_span text) b) + holds p b.at (text_span text) ≤ holds p b.at b.len
  parts p = elim (cases_lt (b.len - text_span text) 16) [
    | inl short ↦ omega (arith, ap (cover p) (rest_none (text_span text) b short), holds-inner p b.at (text_span text) b.at b.len (omega arith) (omega (arith, enough)))
    | inr long ↦
        let size : text_span text + (b.len - text_span text) ≡ b.len = omega (arith, enough) in
        let both : holds p b.at b.len ≡ holds p b.at (text_span text) + holds p (b.at + text_span text) (b.len - text_span text)
        = rw size at (holds_join p b.at (text_span text) (b.len - text_span text)) in
        omega (arith, ap (cover p) (rest_one (text_span text) b long), both)
  ]

  front_apart : (p : ℕ) → cover p (free_from t g) + holds p b.at (text_span text) ≤ 1
  front_apart p = omega (arith, taken.covered p, parts p, c.apart p)

  pub front_long : length (with_part b.at (padded_text text) t) ≡ length s
  front_long = text_long t g taken.chain text b.at front_inner front_apart ∙ taken.size

  pub inserts_front : (room : ℕ) → InsertsText s (with_part b.at (padded_text text) t) first g text room b.at
  inserts_front room =
      let list = text_list t g taken.chain text b.at front_inner front_apart in
      let long = front_long in
      record {
        chain = text_chain t g taken.chain text b.at front_inner front_apart;
        written = text_written t g taken.chain text b.at front_inner front_apart;
        aligned = free.form.aligned;
        within = omega (arith, long, front_inner, taken.size);
        placed = inl (subst (λ (bs : List Block). IsFront (free_from s first) bs b.at (text_span text)) (sym list) front, long);
        covered = λ p. omega (arith, ap (cover p) list, taken.covered p, parts p);
        ascending = λ up. subst Ascends (sym list) (ascending up);
        kept = λ p low none.
            let out : holds p b.at b.len ≡ 0 = omega (arith, taken.covered p, parts p, none, holds_of p) in
            text_bytes t g taken.chain text b.at front_inner front_apart p (omega (arith, parts p, out))
            ∙ taken.kept p none (omega (arith, parts p, out));
      }
    where
      holds_of : (p : ℕ) → holds p b.at b.len ≤ cover p (free_from s first)
      holds_of p = omega (
        arith,
        ap (cover p) front.before,
        cover-append p front.front (front.whole ∷ front.back),
        ap (λ (x : Block). holds p x.at x.len) (some_same (find (is_enough (text_span text)) (free_from s first)) front.whole b front.first found),
      )

-- behind the old bytes
zero_more : (n : ℕ) → 0 + n ≡ n
zero_more n = omega arith

longer_from : (o : List ℕ) (size next : ℕ) (bs : List Block) (l : List ℕ) → o ≡ part 0 size l → size ≤ length l → Inside size bs → AllByRecursion IsFree bs
    → FreeFrom o next bs → FreeFrom l next bs
longer_from o size next [] l is low inside each listed = listed
longer_from o size next (b ∷ bs) l is low inside each listed =
    let one : number_at o next 8 ≡ number_at l next 8
    = ap (λ (x : List ℕ). number_at x next 8) is ∙ number_at-part next 8 0 size l (omega (arith, listed.0, each.0.room, inside.0))
    ∙ ap (λ (n : ℕ). number_at l n 8) (zero_more next) in
    let two : number_at o (next + 8) 8 ≡ number_at l (next + 8) 8
    = ap (λ (x : List ℕ). number_at x (next + 8) 8) is ∙ number_at-part (next + 8) 8 0 size l (omega (arith, listed.0, each.0.room, inside.0))
    ∙ ap (λ (n : ℕ). number_at l n 8) (zero_more (next + 8)) in
    (listed.0, listed.1 ∙ two, subst (λ (n : ℕ). FreeFrom l n bs) one (longer_from o size (number_at o next 8) bs l is low inside.1 each.1 listed.2))

module _ (l : List ℕ) (size first : ℕ) (low : size ≤ length l) (c : HasChain (part 0 size l) first) where
  pub old_long : length (part 0 size l) ≡ size
  old_long = length-part 0 size l (omega (arith, low))

  inside_old : Inside size (free_from (part 0 size l) first)
  inside_old = subst (λ (n : ℕ). Inside n (free_from (part 0 size l) first)) old_long c.within

  longer : IsChain l first (free_from (part 0 size l) first)
  longer = record {
    listed = longer_from (part 0 size l) size first (free_from (part 0 size l) first) l refl low inside_old c.each c.listed;
    each = c.each;
    apart = c.apart;
    within = all_so (λ (b : Block). b.at + b.len ≤ size) (λ (b : Block). b.at + b.len ≤ length l) (free_from (part 0 size l) first)
        (λ b is. omega (arith, is, low)) inside_old;
  }

  pub longer_chain : HasChain l first
  longer_chain = has_chain l first (free_from (part 0 size l) first) longer

  pub longer_list : free_from l first ≡ free_from (part 0 size l) first
  longer_list = free_from_is l first (free_from (part 0 size l) first) longer

  pub nothing_past : (p : ℕ) → size ≤ p → cover p (free_from l first) ≡ 0
  nothing_past p past = ap (cover p) longer_list ∙ cover_past p size (free_from (part 0 size l) first) inside_old past

  -- bytes behind them are in no free block
  pub apart_past : (at len : ℕ) → size ≤ at → (p : ℕ) → cover p (free_from l first) + holds p at len ≤ 1
  apart_past at len behind p = elim (cases_lt p size) [
    | inl below ↦ omega (arith, longer_chain.apart p, holds_before p at len (omega (arith, below, behind)))
    | inr past ↦ omega (arith, nothing_past p past, holds-le p at len)
  ]

  -- the text stands behind them, and what is behind it is free
  module _ (text : List ℕ) (m : List ℕ) (g : ℕ) (none : find (is_enough (text_span text)) (free_from (part 0 size l) first) ≡ None)
      (fits : pad8 size + text_span text + 16 ≤ length l)
      (given : Relists l m first g [] (block (pad8 size + text_span text) (length l - (pad8 size + text_span text)) ∷ []))
      (put : IsPutIn (block (pad8 size + text_span text) (length l - (pad8 size + text_span text))) (free_from l first) (free_from m g))
      (ascending : Ascends (free_from l first) → Ascends (free_from m g)) where
    pub behind_inner : pad8 size + text_span text ≤ length m
    behind_inner = omega (arith, given.size, fits)

    pub behind_apart : (p : ℕ) → cover p (free_from m g) + holds p (pad8 size) (text_span text) ≤ 1
    behind_apart p = elim (cases_lt p size) [
      | inl below ↦ omega (
        arith,
        given.covered p,
        longer_chain.apart p,
        holds_before p (pad8 size) (text_span text) (omega (arith, below)),
        holds_before p (pad8 size + text_span text) (length l - (pad8 size + text_span text)) (omega (arith, below)),
      )
      | inr past ↦ omega (
        arith,
        given.covered p,
        nothing_past p past,
        holds_join p (pad8 size) (text_span text) (length l - (pad8 size + text_span text)),
        holds-le p (pad8 size) (text_span text + (length l - (pad8 size + text_span text))),
      )
    ]

    pub behind_long : length (with_part (pad8 size) (padded_text text) m) ≡ length l
    behind_long = text_long m g given.chain text (pad8 size) behind_inner behind_apart ∙ given.size

    pub inserts_behind : (more : ℕ) → length l ≡ grown_length size (text_span text) more
        → InsertsText (part 0 size l) (with_part (pad8 size) (padded_text text) m) first g text more (pad8 size)
    inserts_behind more is =
        let list = text_list m g given.chain text (pad8 size) behind_inner behind_apart in
        let long = behind_long in
        record {
          chain = text_chain m g given.chain text (pad8 size) behind_inner behind_apart;
          written = text_written m g given.chain text (pad8 size) behind_inner behind_apart;
          aligned = omega arith;
          within = omega (arith, long, fits);
          placed = inr (record {
            none = none;
            long = long ∙ is ∙ ap (λ (n : ℕ). grown_length n (text_span text) more) (sym old_long);
            begins = ap pad8 (sym old_long);
            rest = put_there list long;
          });
          covered = λ p. by_place p list long;
          ascending = λ up. subst Ascends (sym list) (ascending (subst Ascends (sym longer_list) up));
          kept = λ p below free.
              let low' : p < size = omega (arith, below, old_long) in
              text_bytes m g given.chain text (pad8 size) behind_inner behind_apart p (holds_before p (pad8 size) (text_span text) (omega (arith, low')))
              ∙ given.kept p (ap (cover p) longer_list ∙ free)
              (omega (arith, holds_before p (pad8 size + text_span text) (length l - (pad8 size + text_span text)) (omega (arith, low'))))
              ∙ sym (byte_at-part p 0 size l low' ∙ ap (byte_at l) (zero_more p));
        }
      where
        put_there : free_from (with_part (pad8 size) (padded_text text) m) g ≡ free_from m g
            → length (with_part (pad8 size) (padded_text text) m) ≡ length l
            → IsPutIn (block (pad8 size + text_span text) (length (with_part (pad8 size) (padded_text text) m) - (pad8 size + text_span text)))
            (free_from (part 0 size l) first) (free_from (with_part (pad8 size) (padded_text text) m) g)
        put_there list long =
            subst (λ (n : ℕ). IsPutIn (block (pad8 size + text_span text) (n - (pad8 size + text_span text))) (free_from (part 0 size l) first)
            (free_from (with_part (pad8 size) (padded_text text) m) g)) (sym long)
            (subst (λ (bs : List Block). IsPutIn (block (pad8 size + text_span text) (length l - (pad8 size + text_span text))) (free_from (part 0 size l) first) bs) (sym list)
            (subst (λ (bs : List Block). IsPutIn (block (pad8 size + text_span text) (length l - (pad8 size + text_span text))) bs (free_from m g)) longer_list put))

        by_place : (p : ℕ) → free_from (with_part (pad8 size) (padded_text text) m) g ≡ free_from m g
            → length (with_part (pad8 size) (padded_text text) m) ≡ length l
            → cover p (free_from (with_part (pad8 size) (padded_text text) m) g) + holds p (pad8 size) (text_span text)
            ≤ cover p (free_from (part 0 size l) first) + holds p (length (part 0 size l)) (length (with_part (pad8 size) (padded_text text) m) - length (part 0 size l))
        by_place p list long = omega (
          arith,
          ap (cover p) list,
          ap (cover p) longer_list,
          ap₂ (λ (a b : ℕ). holds p a (b - a)) old_long long,
          given.covered p,
          holds_join p (pad8 size) (text_span text) (length l - (pad8 size + text_span text)),
          holds-inner p (pad8 size) (text_span text + (length l - (pad8 size + text_span text))) size (length l - size) (omega arith) (omega (arith, fits)),
        )
