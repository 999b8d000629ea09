-- The lines of a plan's canonical text, counted from 1.
use Rattle.std.specs.Prelude.{ℕ, ◌+◌, List, [], ◌∷◌, ◌++◌, take}
use Rattle.plan.specs.Plan.{Statement, Seq, For, Let, First, Guard, Alloc, Fetch, Store, Publish, Statements, Empty, Then, Group, Plan}

-- how many lines a statement takes: a body stands between its first line and an `end`, and a `first` has an `else`
abbrev mutual
  pub lines : Statement → ℕ
  lines (Seq all) = block_lines all
  lines (For i x kind body) = lines body + 2
  lines (Let i pick forms) = 1
  lines (First i a b) = lines a + lines b + 3
  lines (Guard low high body) = lines body + 2
  lines (Alloc b f places) = 1
  lines (Fetch b g region) = 1
  lines (Store b k at e) = 1
  lines (Publish c) = 1

  pub block_lines : Statements → ℕ
  block_lines Empty = 0
  block_lines (Then a rest) = lines a + block_lines rest

-- the lines at which the statements inside one begin, itself first, where it begins at the line
abbrev mutual
  pub first_lines : Statement → ℕ → List ℕ
  first_lines (Seq all) line = block_first_lines all line
  first_lines (For i x kind body) line = line ∷ first_lines body (line + 1)
  first_lines (First i a b) line = line ∷ (first_lines a (line + 1) ++ first_lines b (line + 2 + lines a))
  first_lines (Guard low high body) line = line ∷ first_lines body (line + 1)
  first_lines _ line = line ∷ []

  pub block_first_lines : Statements → ℕ → List ℕ
  block_first_lines Empty line = []
  block_first_lines (Then a rest) line = first_lines a line ++ block_first_lines rest (line + lines a)

-- a group's lines: the line `group`, then its body
abbrev pub group_lines : Group → ℕ
group_lines g = lines g.body + 1

abbrev pub groups_lines : List Group → ℕ
groups_lines [] = 0
groups_lines (g ∷ rest) = group_lines g + groups_lines rest

-- the line `group` of the group of this number: three lines and the groups before it come first
abbrev pub group_line : Plan → ℕ → ℕ
group_line p g = groups_lines (take g p.groups) + 4

-- the line at which a group's body begins
abbrev pub body_line : Plan → ℕ → ℕ
body_line p g = group_line p g + 1

-- the line `cert`
abbrev pub certificate_line : Plan → ℕ
certificate_line p = groups_lines p.groups + 4
