-- Plans put together line by line: the groups that are whole, and the blocks that are open, the innermost first.
use Rattle.std.specs.Prelude.{ℕ, ◌==◌, if◌then◌else◌, List, [], ◌∷◌, ◌++◌, length, Option, Some, None, option_map, option_and_then}
use Rattle.lin.specs.Forms.{Form}
use Rattle.lin.specs.declared.span.Span1.{Span1}
use Rattle.plan.specs.declared.stmt.Kind.{Kind}
use Rattle.plan.specs.Plan.{Statement, Seq, For, Let, First, Guard, Alloc, Fetch, Store, Publish, Declaration, Group, Plan, block}
use Rattle.nest.specs.Blocks.Line.{Line, PlanLine, InputLine, OutputLine, GroupLine, ForLine, LetLine, FirstLine, ElseLine, GuardLine, EndLine, AllocLine, FetchLine, StoreLine, PublishLine}

-- a block that is open: by its first line, and in a second arm with the first one
pub data Open : Type 0 where
  OpenGroup : (function : List ℕ) (region : List Span1) (grid : List ℕ) → Open
  OpenFor : (symbol : ℕ) (span : Span1) (kind : Kind) → Open
  OpenFirst : (symbol : ℕ) → Open
  OpenElse : (symbol : ℕ) (first : List Statement) → Open
  OpenGuard : (low high : Form) → Open

-- with the statements that stand in it so far
pub record Level : Type 0 where
  pub open_by : Open
  pub inside : List Statement

abbrev pub level : Open → List Statement → Level
level o inside = record { open_by = o; inside = inside }

abbrev pub body : List Statement → Statement
body all = Seq (block all)

-- one statement more in the innermost block
abbrev pub put : Statement → List Level → Option (List Level)
put s [] = None
put s (l ∷ ls) = Some (level l.open_by (l.inside ++ s ∷ []) ∷ ls)

-- a block more, inside the innermost
abbrev pub opened : Open → List Level → Option (List Level)
opened o [] = None
opened o (l ∷ ls) = Some (level o [] ∷ l ∷ ls)

-- the second arm in place of the first
abbrev pub turned : Open → List Statement → List Level → Option (List Level)
turned (OpenFirst i) inside ls = Some (level (OpenElse i inside) [] ∷ ls)
turned _ inside ls = None

abbrev pub second_arm : List Level → Option (List Level)
second_arm [] = None
second_arm (l ∷ ls) = turned l.open_by l.inside ls

-- what a block is that ends
abbrev pub ended : Open → List Statement → Option Statement
ended (OpenGroup f region grid) inside = None
ended (OpenFor i x kind) inside = Some (For i x kind (body inside))
ended (OpenFirst i) inside = None
ended (OpenElse i first) inside = Some (First i (body first) (body inside))
ended (OpenGuard low high) inside = Some (Guard low high (body inside))

abbrev pub closed : List Level → Option (List Level)
closed [] = None
closed (l ∷ ls) = option_and_then (λ s. put s ls) (ended l.open_by l.inside)

-- groups and the last one, which is whole where no block inside it is open; none stands before the first
abbrev pub with_group : List Group → Open → List Statement → Option (List Group)
with_group groups (OpenGroup f region grid) inside = Some (groups ++ record { function = f; region = region; grid = grid; body = body inside } ∷ [])
with_group groups _ inside = None

abbrev pub whole_groups : List Group → List Level → Option (List Group)
whole_groups groups [] = Some groups
whole_groups groups (l ∷ []) = with_group groups l.open_by l.inside
whole_groups groups (l ∷ m ∷ ls) = None

pub record Blocks : Type 0 where
  pub groups : List Group
  pub levels : List Level

-- the blocks after a line that is none of the head's, unless it cannot stand there
abbrev pub with_levels : List Group → Option (List Level) → Option Blocks
with_levels groups levels = option_map (λ ls. record { groups = groups; levels = ls }) levels

abbrev pub numbered_group : ℕ → List Group → Open → Option Blocks
numbered_group n groups o = if n == length groups then Some (record { groups = groups; levels = level o [] ∷ [] }) else None

-- a group after those that are whole, if the number is its own
abbrev pub next_group : ℕ → Open → List Group → List Level → Option Blocks
next_group n o groups levels = option_and_then (λ whole. numbered_group n whole o) (whole_groups groups levels)

-- the statement that a line about a buffer is
abbrev pub buffer_statement : Line → Option Statement
buffer_statement (AllocLine n f places) = Some (Alloc n f places)
buffer_statement (FetchLine n g region) = Some (Fetch n g region)
buffer_statement (StoreLine n k at e) = Some (Store n k at e)
buffer_statement _ = None

abbrev pub with_buffer_statement : Line → List Level → Option (List Level)
with_buffer_statement l levels = option_and_then (λ s. put s levels) (buffer_statement l)

-- the open blocks after a line inside a group
abbrev pub next_levels : Line → List Level → Option (List Level)
next_levels (ForLine i x kind) levels = opened (OpenFor i x kind) levels
next_levels (LetLine i pick forms) levels = put (Let i pick forms) levels
next_levels (FirstLine i) levels = opened (OpenFirst i) levels
next_levels ElseLine levels = second_arm levels
next_levels (GuardLine low high) levels = opened (OpenGuard low high) levels
next_levels EndLine levels = closed levels
next_levels (PublishLine c) levels = put (Publish c) levels
next_levels l levels = with_buffer_statement l levels

abbrev pub next_blocks : Line → Blocks → Option Blocks
next_blocks (GroupLine n f region grid) b = next_group n (OpenGroup f region grid) b.groups b.levels
next_blocks l b = with_levels b.groups (next_levels l b.levels)

-- the head's lines come first, in order
pub data Draft : Type 0 where
  Nothing : Draft
  Named : (name : List ℕ) → Draft
  Fed : (name : List ℕ) (input : Declaration) → Draft
  Headed : (name : List ℕ) (input output : Declaration) (blocks : Blocks) → Draft

abbrev pub next : Line → Draft → Option Draft
next (PlanLine name) Nothing = Some (Named name)
next _ Nothing = None
next (InputLine input) (Named name) = Some (Fed name input)
next _ (Named name) = None
next (OutputLine output) (Fed name input) = Some (Headed name input output (record { groups = []; levels = [] }))
next _ (Fed name input) = None
next l (Headed name input output b) = option_map (Headed name input output) (next_blocks l b)

-- the plan, where nothing is open
abbrev pub finished : Draft → Option Plan
finished (Headed name input output b) = option_map (λ groups. record { name = name; input = input; output = output; groups = groups }) (whole_groups b.groups b.levels)
finished _ = None

-- the lines one after another
abbrev pub drafted : Draft → List Line → Option Draft
drafted d [] = Some d
drafted d (l ∷ ls) = option_and_then (λ e. drafted e ls) (next l d)
