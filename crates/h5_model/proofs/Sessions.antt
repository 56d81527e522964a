-- Sessions of known entries, and what a script leads to in them: for the worked transcripts.
use Rattle.std.proofs.Common.{◌≡◌, ℕ, List, [], ◌∷◌, true, false, Some, None, ℤ, pos}
use Rattle.std.specs.Prelude.{unwrap_or}
use Rattle.std.specs.FinMap.{from_sorted}
use Rattle.h5_model.specs.Format.Fixed.{Fixed}
use Rattle.h5_model.specs.Tree.Objects.{Link, Object, Content, Group, Array, Dataset, Storage}
use Rattle.h5_model.specs.Views.Shown.{View}
use Rattle.h5_model.specs.Scripts.Sessions.{Session}
use Rattle.h5_model.specs.Scripts.Lines.{line_asks, Command, Unread}
use Rattle.h5_model.specs.Scripts.Answers.{Answer, answer_of}

-- a session whose tree and views have these entries
abbrev pub session_of : List (ℕ × Object) → ℕ → List (ℕ × View) → ℕ → Session
session_of objects next views next_view =
    record { state = record { tree = from_sorted objects; next = next }; views = from_sorted views; next_view = next_view }

abbrev pub plain_object : Content → Object
plain_object content = record { content = content; attributes = from_sorted []; kept = [] }

abbrev pub group_at : ℕ → List (List ℕ × Link) → (ℕ × Object)
group_at number links = (number, plain_object (Group (from_sorted links)))

abbrev pub array_at : ℕ → Dataset → (ℕ × Object)
array_at number d = (number, plain_object (Array d))

-- a row of cells that cannot grow
abbrev pub row_of : Fixed → Storage → List ℤ → ℕ → Dataset
row_of type storage cells size =
    record { fixed = type; sizes = size ∷ []; maxima = Some size ∷ []; storage = storage; fill = pos 0; cells = cells }

abbrev pub i8 : Fixed
i8 = record { size = 1; signed = true; big = false }

abbrev pub u8 : Fixed
u8 = record { size = 1; signed = false; big = false }

abbrev pub i16le : Fixed
i16le = record { size = 2; signed = true; big = false }

abbrev pub u16be : Fixed
u16be = record { size = 2; signed = false; big = true }

abbrev pub i32le : Fixed
i32le = record { size = 4; signed = true; big = false }

abbrev pub i64be : Fixed
i64be = record { size = 8; signed = true; big = true }

-- the empty file
abbrev pub new_file : Session
new_file = session_of (group_at 0 [] ∷ []) 1 [] 0

-- what a line is answered where memory and the image refuse nothing, and the session after it
abbrev pub asked_by : List ℕ → Command
asked_by line = unwrap_or (line_asks line) Unread

abbrev pub answer : Session → List ℕ → Answer
answer s line = answer_of s (asked_by line) None

-- a line and its answer, and then the session is the last one; two lines, and three
abbrev pub OneLine : Session → List ℕ → List ℕ → Session → Type 0
OneLine s line text after = ((answer s line).text ≡ text) × ((answer s line).session ≡ after)

abbrev pub TwoLines : Session → List ℕ → List ℕ → List ℕ → List ℕ → Session → Type 0
TwoLines s line text line' text' after =
    ((answer s line).text ≡ text) × ((answer (answer s line).session line').text ≡ text')
    × ((answer (answer s line).session line').session ≡ after)

abbrev pub ThreeLines : Session → List ℕ → List ℕ → List ℕ → List ℕ → List ℕ → List ℕ → Session → Type 0
ThreeLines s line text line' text' line'' text'' after =
    ((answer s line).text ≡ text) × ((answer (answer s line).session line').text ≡ text')
    × ((answer (answer (answer s line).session line').session line'').text ≡ text'')
    × ((answer (answer (answer s line).session line').session line'').session ≡ after)
