-- Objects that lose hard links with a link, while they are looked for, and how they are parted then (File Format Specification 3.0, sections
-- III.C and IV.A.1.a).
use Rattle.std.specs.Prelude.{◌≡◌, ◌⊎◌, ◌↔◌, ℕ, ◌+◌, ◌≤◌, ◌==◌, if◌then◌else◌, List, [], ◌∷◌, ◌++◌, map, unwrap_or}
use Rattle.std.specs.BTreeMap.{BTreeMap, get}
use Rattle.std.specs.List.{Contains, IsDistinct, flat_map}
use Rattle.std.specs.Ordering.{nat_cmp, eq_by_cmp}
use Rattle.h5_bytes.specs.Blocks.{cover}
use Rattle.h5_bytes.specs.declared.Block.{Block}
use Rattle.h5_open.specs.declared.opened.losses.Losses.{Losses}
use Rattle.h5_open.specs.declared.opened.losses.LostLinks.{LostLinks}

-- how many links an object has lost
abbrev pub links_lost : BTreeMap ℕ ℕ → ℕ → ℕ
links_lost counts n = unwrap_or (get nat_cmp counts n) 0

-- These are the objects that have lost a link, each once.
pub record HaveLostLinks (numbers : List ℕ) (counts : BTreeMap ℕ ℕ) : Type 0 where
  pub once : IsDistinct (eq_by_cmp nat_cmp) numbers
  pub each : (n : ℕ) → Contains numbers n ↔ (1 ≤ links_lost counts n)

-- Each object has lost so many links more; those that had lost none before stand behind the others.
pub record AreMoreLost (old new : LostLinks) (more : ℕ → ℕ) : Type 0 where
  pub lost : HaveLostLinks new.numbers.items new.counts
  pub counts : (n : ℕ) → links_lost new.counts n ≡ links_lost old.counts n + more n
  pub behind : List ℕ
  pub numbers : new.numbers.items ≡ old.numbers.items ++ behind

-- An object with these blocks, to which so many links are left, is put to those that go or to the others.
pub record IsLossPut (old new : Losses) (number left : ℕ) (blocks : List Block) : Type 0 where
  pub gone : new.gone.items ≡ (if left == 0 then old.gone.items ++ number ∷ [] else old.gone.items)
  pub less : new.less.items ≡ (if left == 0 then old.less.items else old.less.items ++ (number, left) ∷ [])
  pub covered : (p : ℕ) → cover p new.blocks.held ≡ cover p old.blocks.held + (if left == 0 then cover p blocks else 0)

-- Objects that lose so many of their links are parted: those that lose all, whose blocks are held; and the others, each with how many are
-- left to it.
pub record AreLossesParted (links lost : ℕ → ℕ) (blocks : ℕ → List Block) (numbers gone : List ℕ) (less : List (ℕ × ℕ)) (held : List Block) : Type 0 where
  pub gone_once : IsDistinct (eq_by_cmp nat_cmp) gone
  pub less_once : IsDistinct (eq_by_cmp nat_cmp) (map (λ (l : ℕ × ℕ). l.0) less)
  pub goes : (n : ℕ) → Contains gone n → Contains numbers n × (lost n ≡ links n)
  pub stays : (n left : ℕ) → Contains less (n, left) → Contains numbers n × (1 ≤ left) × (left + lost n ≡ links n)
  pub parted : (n : ℕ) → Contains numbers n → Contains gone n ⊎ ((left : ℕ) × Contains less (n, left))
  pub covered : (p : ℕ) → cover p held ≡ cover p (flat_map blocks gone)
