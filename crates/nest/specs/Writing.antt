-- How statements, groups and plans are written: their lines, each with its line feed.
use Rattle.std.specs.Prelude.{ℕ, ◌+◌, List, [], ◌∷◌, ◌++◌, codes}
use Rattle.plan.specs.Plan.{Statement, Seq, For, Let, First, Guard, Alloc, Fetch, Store, Publish, Statements, Empty, Then, Group, Plan}
use Rattle.nest.specs.Spelling.{input_text, output_text, group_text, for_text, let_text, first_text, guard_text, alloc_text, fetch_text, store_text, publish_text}

-- the line of a statement that has no body, without its line feed
abbrev pub simple_text : Statement → List ℕ
simple_text (Let i pick forms) = let_text i pick forms
simple_text (Alloc b f places) = alloc_text b f places
simple_text (Fetch b g region) = fetch_text b g region
simple_text (Store b k at e) = store_text b k at e
simple_text (Publish c) = publish_text c
simple_text _ = []

abbrev mutual
  pub statement_text : Statement → List ℕ
  statement_text (Seq all) = block_text all
  statement_text (For i x kind body) = for_text i x kind ++ (codes "\n" ++ (statement_text body ++ codes "end\n"))
  statement_text (Let i pick forms) = let_text i pick forms ++ codes "\n"
  statement_text (First i a b) = first_text i ++ (codes "\n" ++ (statement_text a ++ (codes "else\n" ++ (statement_text b ++ codes "end\n"))))
  statement_text (Guard low high body) = guard_text low high ++ (codes "\n" ++ (statement_text body ++ codes "end\n"))
  statement_text (Alloc b f places) = alloc_text b f places ++ codes "\n"
  statement_text (Fetch b g region) = fetch_text b g region ++ codes "\n"
  statement_text (Store b k at e) = store_text b k at e ++ codes "\n"
  statement_text (Publish c) = publish_text c ++ codes "\n"

  pub block_text : Statements → List ℕ
  block_text Empty = []
  block_text (Then a rest) = statement_text a ++ block_text rest

abbrev pub whole_group_text : ℕ → Group → List ℕ
whole_group_text n g = group_text n g.function g.region g.grid ++ (codes "\n" ++ statement_text g.body)

-- groups, numbered from n on
abbrev pub groups_text : ℕ → List Group → List ℕ
groups_text n [] = []
groups_text n (g ∷ rest) = whole_group_text n g ++ groups_text (n + 1) rest

abbrev pub head_text : Plan → List ℕ
head_text p = codes "plan 1 " ++ (p.name ++ (codes "\n" ++ (input_text p.input ++ (codes "\n" ++ (output_text p.output ++ codes "\n")))))

abbrev pub plan_text : Plan → List ℕ
plan_text p = head_text p ++ groups_text 0 p.groups
