-- The ladders of groups: between two keys, which stand for names, stand the names of the symbol nodes below a child (File Format
-- Specification 3.0, sections III.A.1 and III.B).
use Rattle.std.specs.Prelude.{List, ℕ, [], ◌∷◌, map}
use Rattle.h5_bytes.specs.Texts.{text_at}
use Rattle.h5_model.specs.Format.Links.{Before, NotAfter, Symbols, names_in, offset_in}
use Rattle.h5_laws.specs.Ladders.{Bottom, Sides}

-- a name is above the key to its left and not above the one to its right, where each key stands for a text; no key is above the next
abbrev pub name_sides : {K : Type 0} → (K → List ℕ) → Sides K (List ℕ)
name_sides text = record {
  Right = λ key name. Before (text key) name;
  Left = λ name key. NotAfter name (text key);
  Rise = λ key next. NotAfter (text key) (text next);
}

-- a key beside another one, each by the text for which it stands
abbrev pub key_sides : {K : Type 0} → (K → List ℕ) → Sides K K
key_sides text = record {
  Right = λ key y. Before (text key) (text y);
  Left = λ y key. NotAfter (text y) (text key);
  Rise = λ key next. NotAfter (text key) (text next);
}

-- the text for which a key of a group's tree stands
abbrev pub key_text : List ℕ → List ℕ → List ℕ
key_text segment key = text_at segment (offset_in key)

-- the names in each symbol node to which a node of level 0 leads
abbrev pub name_lists : Symbols → List ℕ → Bottom (List ℕ)
name_lists S segment node = map (λ at. names_in S segment (at ∷ [])) node.children
