-- The lines of a plan, one after another.
use Rattle.std.specs.Prelude.{ℕ, ◌+◌, List, [], ◌∷◌, ◌++◌}
use Rattle.plan.specs.Plan.{Statement, Seq, For, Let, First, Guard, Alloc, Fetch, Store, Publish, Statements, Empty, Then, Group, Plan}
use Rattle.nest.specs.Blocks.Line.{Line, PlanLine, InputLine, OutputLine, GroupLine, ForLine, LetLine, FirstLine, ElseLine, GuardLine, EndLine, AllocLine, FetchLine, StoreLine, PublishLine}

-- a body stands between its first line and an `end`, and the two arms of a `first` have an `else` between them
abbrev mutual
  pub statement_lines : Statement → List Line
  statement_lines (Seq all) = block_lines all
  statement_lines (For i x kind body) = ForLine i x kind ∷ (statement_lines body ++ EndLine ∷ [])
  statement_lines (Let i pick forms) = LetLine i pick forms ∷ []
  statement_lines (First i a b) = FirstLine i ∷ (statement_lines a ++ (ElseLine ∷ (statement_lines b ++ EndLine ∷ [])))
  statement_lines (Guard low high body) = GuardLine low high ∷ (statement_lines body ++ EndLine ∷ [])
  statement_lines (Alloc b f places) = AllocLine b f places ∷ []
  statement_lines (Fetch b g region) = FetchLine b g region ∷ []
  statement_lines (Store b k at e) = StoreLine b k at e ∷ []
  statement_lines (Publish c) = PublishLine c ∷ []

  pub block_lines : Statements → List Line
  block_lines Empty = []
  block_lines (Then a rest) = statement_lines a ++ block_lines rest

-- a group of this number
abbrev pub group_lines : ℕ → Group → List Line
group_lines n g = GroupLine n g.function g.region g.grid ∷ statement_lines g.body

-- groups, numbered from n on
abbrev pub groups_lines : ℕ → List Group → List Line
groups_lines n [] = []
groups_lines n (g ∷ rest) = group_lines n g ++ groups_lines (n + 1) rest

-- the head, then the groups
abbrev pub plan_lines : Plan → List Line
plan_lines p = PlanLine p.name ∷ InputLine p.input ∷ OutputLine p.output ∷ groups_lines 0 p.groups
