-- The project's own limits, which no section of the format sets: what goes past one is refused.
use Rattle.std.specs.Prelude.{ℕ, ◌^◌}

-- the dimensions of an array or an attribute
abbrev pub most_dimensions : ℕ
most_dimensions = 32

-- the cells of an array or an attribute, counted by its extent
abbrev pub most_cells : ℕ
most_cells = 2 ^ 40

-- the bytes of a chunk
abbrev pub most_chunk_bytes : ℕ
most_chunk_bytes = 2 ^ 30

-- the names of a path
abbrev pub most_names : ℕ
most_names = 64

-- the hard links that lead to one object
abbrev pub most_hard_links : ℕ
most_hard_links = 65535

-- the bytes of an image
abbrev pub most_bytes : ℕ
most_bytes = 2 ^ 31

-- the views that a session has open
abbrev pub most_views : ℕ
most_views = 1024

-- the numbers that are given out to objects while a file is open, and those that are given out to views
abbrev pub most_numbers : ℕ
most_numbers = 4294967295

-- the bytes of a link's or an attribute's name, and of the text of a soft link
abbrev pub most_name_bytes : ℕ
most_name_bytes = 1023

-- the level of a tree's root
abbrev pub highest_level : ℕ
highest_level = 15

-- the bytes of a line of a script
abbrev pub most_line_bytes : ℕ
most_line_bytes = 2 ^ 20

-- the bytes of a script
abbrev pub most_script_bytes : ℕ
most_script_bytes = 2 ^ 24
