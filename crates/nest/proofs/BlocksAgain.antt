-- The lines of a plan are put together as that plan.
use Rattle.std.proofs.Common.{◌≡◌, ℕ, ◌+◌, Bool, true, false, ◌&&◌, List, [], ◌∷◌, ◌++◌, length, Option, Some, refl, sym, ap, ◌∙◌, arith, append_assoc, length-append, eq-eqb}
use Rattle.std.specs.Prelude.{option_map}
use Rattle.std.specs.List.{list_all}
use Rattle.std.proofs.lemmas.List.{append-nil}
use Rattle.plan.specs.Plan.{Statement, Seq, For, Let, First, Guard, Alloc, Fetch, Store, Publish, Statements, Empty, Then, Declaration, Group, Plan, block}
use Rattle.nest.specs.Blocks.Line.{Line, GroupLine, ElseLine, EndLine}
use Rattle.nest.specs.Blocks.Flat.{statement_lines, block_lines, group_lines, groups_lines, plan_lines}
use Rattle.nest.specs.Blocks.Shape.{is_block, is_single, are_single, has_block, is_canonical}
use Rattle.nest.specs.Blocks.Nesting.{OpenGroup, OpenFor, OpenFirst, OpenElse, OpenGuard, Level, level, body, whole_groups, Draft, Nothing, Headed, finished, drafted}

pub both : (a b : Bool) → (a && b) ≡ true → (a ≡ true) × (b ≡ true)
both true b h = (refl, h)
both false b h = absurd cc

abbrev listed : Statements → List Statement
listed Empty = []
listed (Then a rest) = a ∷ listed rest

block_listed : (all : Statements) → block (listed all) ≡ all
block_listed Empty = refl
block_listed (Then a rest) = ap (Then a) (block_listed rest)

-- the statements of a block
abbrev items : Statement → List Statement
items (Seq all) = listed all
items _ = []

body_items : (s : Statement) → is_block s ≡ true → body (items s) ≡ s
body_items (Seq all) h = ap Seq (block_listed all)
body_items (For i x kind b) h = absurd cc
body_items (Let i pick forms) h = absurd cc
body_items (First i a b) h = absurd cc
body_items (Guard low high b) h = absurd cc
body_items (Alloc n f places) h = absurd cc
body_items (Fetch n g region) h = absurd cc
body_items (Store n k at e) h = absurd cc
body_items (Publish c) h = absurd cc

-- a plan whose groups and open blocks are these
pub record Head : Type 0 where
  pub name : List ℕ
  pub input : Declaration
  pub output : Declaration

abbrev pub within : Head → List Group → List Level → Draft
within h gs ls = Headed h.name h.input h.output (record { groups = gs; levels = ls })

-- statements more in a block
abbrev more_in : Level → List Statement → Level
more_in l all = level l.open_by (l.inside ++ all)

mutual
  one_again : (s : Statement) → is_single s ≡ true → (h : Head) (gs : List Group) (l : Level) (ls : List Level) (rest : List Line)
      → drafted (within h gs (l ∷ ls)) (statement_lines s ++ rest) ≡ drafted (within h gs (more_in l (s ∷ []) ∷ ls)) rest
  one_again (Seq all) fine h gs l ls rest = absurd cc
  one_again (For i x kind b) fine h gs l ls rest =
      ap (drafted (within h gs (level (OpenFor i x kind) [] ∷ l ∷ ls))) (append_assoc (statement_lines b) (EndLine ∷ []) rest)
      ∙ body_again b fine h gs (level (OpenFor i x kind) []) (l ∷ ls) (EndLine ∷ rest)
      ∙ ap (λ s. drafted (within h gs (more_in l (For i x kind s ∷ []) ∷ ls)) rest) (body_items b fine)
  one_again (Let i pick forms) fine h gs l ls rest = refl
  one_again (First i a b) fine h gs l ls rest =
      let parts = both (is_block a) (is_block b) fine in
      let second = statement_lines b ++ EndLine ∷ [] in
      ap (drafted (within h gs (level (OpenFirst i) [] ∷ l ∷ ls))) (append_assoc (statement_lines a) (ElseLine ∷ second) rest)
      ∙ body_again a parts.0 h gs (level (OpenFirst i) []) (l ∷ ls) (ElseLine ∷ (second ++ rest))
      ∙ ap (drafted (within h gs (level (OpenElse i (items a)) [] ∷ l ∷ ls))) (append_assoc (statement_lines b) (EndLine ∷ []) rest)
      ∙ body_again b parts.1 h gs (level (OpenElse i (items a)) []) (l ∷ ls) (EndLine ∷ rest)
      ∙ ap (λ s. drafted (within h gs (more_in l (First i s (body (items b)) ∷ []) ∷ ls)) rest) (body_items a parts.0)
      ∙ ap (λ s. drafted (within h gs (more_in l (First i a s ∷ []) ∷ ls)) rest) (body_items b parts.1)
  one_again (Guard low high b) fine h gs l ls rest =
      ap (drafted (within h gs (level (OpenGuard low high) [] ∷ l ∷ ls))) (append_assoc (statement_lines b) (EndLine ∷ []) rest)
      ∙ body_again b fine h gs (level (OpenGuard low high) []) (l ∷ ls) (EndLine ∷ rest)
      ∙ ap (λ s. drafted (within h gs (more_in l (Guard low high s ∷ []) ∷ ls)) rest) (body_items b fine)
  one_again (Alloc n f places) fine h gs l ls rest = refl
  one_again (Fetch n g region) fine h gs l ls rest = refl
  one_again (Store n k at e) fine h gs l ls rest = refl
  one_again (Publish c) fine h gs l ls rest = refl

  body_again : (s : Statement) → is_block s ≡ true → (h : Head) (gs : List Group) (l : Level) (ls : List Level) (rest : List Line)
      → drafted (within h gs (l ∷ ls)) (statement_lines s ++ rest) ≡ drafted (within h gs (more_in l (items s) ∷ ls)) rest
  body_again (Seq all) fine h gs l ls rest = all_again all fine h gs l ls rest
  body_again (For i x kind b) fine h gs l ls rest = absurd cc
  body_again (Let i pick forms) fine h gs l ls rest = absurd cc
  body_again (First i a b) fine h gs l ls rest = absurd cc
  body_again (Guard low high b) fine h gs l ls rest = absurd cc
  body_again (Alloc n f places) fine h gs l ls rest = absurd cc
  body_again (Fetch n g region) fine h gs l ls rest = absurd cc
  body_again (Store n k at e) fine h gs l ls rest = absurd cc
  body_again (Publish c) fine h gs l ls rest = absurd cc

  all_again : (all : Statements) → are_single all ≡ true → (h : Head) (gs : List Group) (l : Level) (ls : List Level) (rest : List Line)
      → drafted (within h gs (l ∷ ls)) (block_lines all ++ rest) ≡ drafted (within h gs (more_in l (listed all) ∷ ls)) rest
  all_again Empty fine h gs l ls rest = ap (λ w. drafted (within h gs (level l.open_by w ∷ ls)) rest) (sym (append-nil l.inside))
  all_again (Then a more) fine h gs l ls rest =
      let parts = both (is_single a) (are_single more) fine in
      ap (drafted (within h gs (l ∷ ls))) (append_assoc (statement_lines a) (block_lines more) rest)
      ∙ one_again a parts.0 h gs l ls (block_lines more ++ rest)
      ∙ all_again more parts.1 h gs (more_in l (a ∷ [])) ls rest
      ∙ ap (λ w. drafted (within h gs (level l.open_by w ∷ ls)) rest) (append_assoc l.inside (a ∷ []) (listed more))

-- ---- groups

abbrev planned : Head → List Group → Plan
planned h gs = record { name = h.name; input = h.input; output = h.output; groups = gs }

-- some draft comes about, which is whole with these groups
record Ends (h : Head) (start : Option Draft) (gs : List Group) : Type 0 where
  draft : Draft
  made : start ≡ Some draft
  whole : finished draft ≡ Some (planned h gs)

finished_within : (h : Head) (gs : List Group) (ls : List Level) (made : Option (List Group)) (whole : List Group) → whole_groups gs ls ≡ made → made ≡ Some whole → finished (within h gs ls) ≡ Some (planned h whole)
finished_within h gs ls made whole is e = ap (option_map (planned h)) (is ∙ e)

group_next : (h : Head) (g : Group) (n : ℕ) (gs whole : List Group) (ls : List Level) (rest : List Line) → whole_groups gs ls ≡ Some whole → n ≡ length whole
    → drafted (within h gs ls) (GroupLine n g.function g.region g.grid ∷ rest) ≡ drafted (within h whole (level (OpenGroup g.function g.region g.grid) [] ∷ [])) rest
group_next h g n gs whole ls rest is count = rw (is, eq-eqb n (length whole) count) refl

groups_again : (more : List Group) (h : Head) (n : ℕ) (gs whole : List Group) (ls : List Level) → list_all has_block more ≡ true → whole_groups gs ls ≡ Some whole → n ≡ length whole
    → Ends h (drafted (within h gs ls) (groups_lines n more)) (whole ++ more)
groups_again [] h n gs whole ls fine is count =
    record { draft = within h gs ls; made = refl; whole = ap (option_map (planned h)) is ∙ ap (λ w. Some (planned h w)) (sym (append-nil whole)) }
groups_again (g ∷ more) h n gs whole ls fine is count =
    let parts = both (has_block g) (list_all has_block more) fine in
    let open_by = OpenGroup g.function g.region g.grid in
    let next_level = level open_by (items g.body) in
    let grown : whole_groups whole (next_level ∷ []) ≡ Some (whole ++ g ∷ []) = ap (λ s. Some (whole ++ record { function = g.function; region = g.region; grid = g.grid; body = s } ∷ [])) (body_items g.body parts.0) in
    let one : drafted (within h gs ls) (group_lines n g ++ groups_lines (n + 1) more) ≡ drafted (within h whole (next_level ∷ [])) (groups_lines (n + 1) more) =
    group_next h g n gs whole ls (statement_lines g.body ++ groups_lines (n + 1) more) is count
    ∙ body_again g.body parts.0 h whole (level open_by []) [] (groups_lines (n + 1) more) in
    let after = groups_again more h (n + 1) whole (whole ++ g ∷ []) (next_level ∷ []) parts.1 grown (omega (arith, count, length-append whole (g ∷ []))) in
    record { draft = after.draft; made = one ∙ after.made; whole = after.whole ∙ ap (λ w. Some (planned h w)) (append_assoc whole (g ∷ []) more) }

-- the lines of a canonical plan are put together as the plan
pub record IsDrafted (p : Plan) : Type 0 where
  pub draft : Draft
  pub made : drafted Nothing (plan_lines p) ≡ Some draft
  pub whole : finished draft ≡ Some p

pub plan_again : (p : Plan) → is_canonical p ≡ true → IsDrafted p
plan_again p fine =
    let after = groups_again p.groups (record { name = p.name; input = p.input; output = p.output }) 0 [] [] [] fine refl (omega arith) in
    record { draft = after.draft; made = after.made; whole = after.whole }
