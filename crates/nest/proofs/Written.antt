-- Lines that are put together are those of what was made of them.
use Rattle.std.proofs.Common.{◌≡◌, ℕ, ◌+◌, ◌==◌, Bool, true, false, List, [], ◌∷◌, ◌++◌, length, Option, Some, None, refl, sym, ap, ◌∙◌, arith, append_assoc}
use Rattle.std.specs.Prelude.{option_map, option_and_then}
use Rattle.std.proofs.lemmas.List.{append-nil}
use Rattle.std.specs.Prelude.{if◌then◌else◌}
use Rattle.std.proofs.lemmas.Bool.{eqb-true}
use Rattle.lin.specs.declared.span.Span1.{Span1}
use Rattle.plan.specs.Plan.{Statement, Let, Alloc, Fetch, Store, Publish, Declaration, Group, Plan, block}
use Rattle.nest.specs.Blocks.Line.{Line, PlanLine, InputLine, OutputLine, GroupLine, ForLine, LetLine, FirstLine, ElseLine, GuardLine, EndLine, AllocLine, FetchLine, StoreLine, PublishLine}
use Rattle.nest.specs.Blocks.Flat.{statement_lines, block_lines, group_lines, groups_lines, plan_lines}
use Rattle.nest.specs.Blocks.Nesting.{Open, OpenGroup, OpenFor, OpenFirst, OpenElse, OpenGuard, Level, level, body, put, opened, turned, second_arm, ended, closed, with_group, whole_groups, Blocks, with_levels, numbered_group, next_blocks, Draft, Nothing, Named, Fed, Headed, next, finished, drafted}

-- ---- the lines of what is open

abbrev pub inside_lines : List Statement → List Line
inside_lines all = block_lines (block all)

-- what stands before a block's statements; n groups are whole
abbrev pub open_lines : ℕ → Open → List Line
open_lines n (OpenGroup f region grid) = GroupLine n f region grid ∷ []
open_lines n (OpenFor i x kind) = ForLine i x kind ∷ []
open_lines n (OpenFirst i) = FirstLine i ∷ []
open_lines n (OpenElse i first) = FirstLine i ∷ (inside_lines first ++ ElseLine ∷ [])
open_lines n (OpenGuard low high) = GuardLine low high ∷ []

abbrev pub level_lines : ℕ → Level → List Line
level_lines n l = open_lines n l.open_by ++ inside_lines l.inside

abbrev pub levels_lines : ℕ → List Level → List Line
levels_lines n [] = []
levels_lines n (l ∷ ls) = levels_lines n ls ++ level_lines n l

abbrev pub blocks_lines : Blocks → List Line
blocks_lines b = groups_lines 0 b.groups ++ levels_lines (length b.groups) b.levels

abbrev pub draft_lines : Draft → List Line
draft_lines Nothing = []
draft_lines (Named name) = PlanLine name ∷ []
draft_lines (Fed name input) = PlanLine name ∷ InputLine input ∷ []
draft_lines (Headed name input output b) = PlanLine name ∷ InputLine input ∷ OutputLine output ∷ blocks_lines b

-- ---- one statement more

inside_put : (all : List Statement) (s : Statement) → inside_lines (all ++ s ∷ []) ≡ inside_lines all ++ statement_lines s
inside_put [] s = append-nil (statement_lines s)
inside_put (a ∷ all) s = ap (λ ls. statement_lines a ++ ls) (inside_put all s) ∙ sym (append_assoc (statement_lines a) (inside_lines all) (statement_lines s))

some_is : {X : Type 0} (x y : X) → Some x ≡ Some y → x ≡ y
some_is x y e = cc

put_lines : (n : ℕ) (s : Statement) (ls after : List Level) → put s ls ≡ Some after → levels_lines n after ≡ levels_lines n ls ++ statement_lines s
put_lines n s [] after e = absurd cc
put_lines n s (l ∷ ls) after e =
    ap (levels_lines n) (sym (some_is _ after e))
    ∙ ap (λ w. levels_lines n ls ++ (open_lines n l.open_by ++ w)) (inside_put l.inside s)
    ∙ ap (λ w. levels_lines n ls ++ w) (sym (append_assoc (open_lines n l.open_by) (inside_lines l.inside) (statement_lines s)))
    ∙ sym (append_assoc (levels_lines n ls) (level_lines n l) (statement_lines s))

opened_lines : (n : ℕ) (o : Open) (ls after : List Level) → opened o ls ≡ Some after → levels_lines n after ≡ levels_lines n ls ++ open_lines n o
opened_lines n o [] after e = absurd cc
opened_lines n o (l ∷ ls) after e =
    ap (levels_lines n) (sym (some_is _ after e)) ∙ ap (λ w. levels_lines n (l ∷ ls) ++ w) (append-nil (open_lines n o))

turned_lines : (n : ℕ) (o : Open) (inside : List Statement) (ls after : List Level) → turned o inside ls ≡ Some after
    → levels_lines n after ≡ (levels_lines n ls ++ (open_lines n o ++ inside_lines inside)) ++ ElseLine ∷ []
turned_lines n (OpenGroup f region grid) inside ls after e = absurd cc
turned_lines n (OpenFor i x kind) inside ls after e = absurd cc
turned_lines n (OpenFirst i) inside ls after e =
    ap (levels_lines n) (sym (some_is _ after e))
    ∙ ap (λ w. levels_lines n ls ++ w) (append-nil (FirstLine i ∷ (inside_lines inside ++ ElseLine ∷ [])))
    ∙ sym (append_assoc (levels_lines n ls) (FirstLine i ∷ inside_lines inside) (ElseLine ∷ []))
turned_lines n (OpenElse i first) inside ls after e = absurd cc
turned_lines n (OpenGuard low high) inside ls after e = absurd cc

second_arm_lines : (n : ℕ) (ls after : List Level) → second_arm ls ≡ Some after → levels_lines n after ≡ levels_lines n ls ++ ElseLine ∷ []
second_arm_lines n [] after e = absurd cc
second_arm_lines n (l ∷ ls) after e = turned_lines n l.open_by l.inside ls after e

ended_lines : (n : ℕ) (o : Open) (inside : List Statement) (s : Statement) → ended o inside ≡ Some s
    → statement_lines s ≡ (open_lines n o ++ inside_lines inside) ++ EndLine ∷ []
ended_lines n (OpenGroup f region grid) inside s e = absurd cc
ended_lines n (OpenFor i x kind) inside s e = ap statement_lines (sym (some_is _ s e))
ended_lines n (OpenFirst i) inside s e = absurd cc
ended_lines n (OpenElse i first) inside s e =
    ap statement_lines (sym (some_is _ s e))
    ∙ ap (λ w. FirstLine i ∷ w) (sym (append_assoc (inside_lines first) (ElseLine ∷ []) (inside_lines inside ++ EndLine ∷ [])))
    ∙ ap (λ w. FirstLine i ∷ w) (sym (append_assoc (inside_lines first ++ ElseLine ∷ []) (inside_lines inside) (EndLine ∷ [])))
ended_lines n (OpenGuard low high) inside s e = ap statement_lines (sym (some_is _ s e))

closed_by : (n : ℕ) (l : Level) (ls after : List Level) (made : Option Statement) → ended l.open_by l.inside ≡ made → option_and_then (λ s. put s ls) made ≡ Some after
    → levels_lines n after ≡ (levels_lines n ls ++ level_lines n l) ++ EndLine ∷ []
closed_by n l ls after None made e = absurd cc
closed_by n l ls after (Some s) made e =
    put_lines n s ls after e
    ∙ ap (λ w. levels_lines n ls ++ w) (ended_lines n l.open_by l.inside s made)
    ∙ sym (append_assoc (levels_lines n ls) (level_lines n l) (EndLine ∷ []))

closed_lines : (n : ℕ) (ls after : List Level) → closed ls ≡ Some after → levels_lines n after ≡ levels_lines n ls ++ EndLine ∷ []
closed_lines n [] after e = absurd cc
closed_lines n (l ∷ ls) after e = closed_by n l ls after (ended l.open_by l.inside) refl e

-- ---- groups

groups_put : (n : ℕ) (gs : List Group) (g : Group) → groups_lines n (gs ++ g ∷ []) ≡ groups_lines n gs ++ group_lines (n + length gs) g
groups_put n [] g = append-nil (group_lines n g) ∙ ap (λ k. group_lines k g) (omega arith)
groups_put n (x ∷ gs) g =
    ap (λ w. group_lines n x ++ w) (groups_put (n + 1) gs g)
    ∙ sym (append_assoc (group_lines n x) (groups_lines (n + 1) gs) (group_lines (n + 1 + length gs) g))
    ∙ ap (λ k. (group_lines n x ++ groups_lines (n + 1) gs) ++ group_lines k g) (omega arith)

with_group_lines : (gs : List Group) (o : Open) (inside : List Statement) (whole : List Group) → with_group gs o inside ≡ Some whole
    → groups_lines 0 whole ≡ groups_lines 0 gs ++ (open_lines (length gs) o ++ inside_lines inside)
with_group_lines gs (OpenGroup f region grid) inside whole e =
    ap (groups_lines 0) (sym (some_is _ whole e)) ∙ groups_put 0 gs _ ∙ ap (λ k. groups_lines 0 gs ++ group_lines k (record { function = f; region = region; grid = grid; body = body inside })) (omega arith)
with_group_lines gs (OpenFor i x kind) inside whole e = absurd cc
with_group_lines gs (OpenFirst i) inside whole e = absurd cc
with_group_lines gs (OpenElse i first) inside whole e = absurd cc
with_group_lines gs (OpenGuard low high) inside whole e = absurd cc

whole_lines : (gs : List Group) (ls : List Level) (whole : List Group) → whole_groups gs ls ≡ Some whole → groups_lines 0 whole ≡ groups_lines 0 gs ++ levels_lines (length gs) ls
whole_lines gs [] whole e = ap (groups_lines 0) (sym (some_is gs whole e)) ∙ sym (append-nil (groups_lines 0 gs))
whole_lines gs (l ∷ []) whole e = with_group_lines gs l.open_by l.inside whole e
whole_lines gs (l ∷ m ∷ ls) whole e = absurd cc

-- ---- a line more

with_levels_lines : (gs : List Group) (l : Line) (ls : List Level) (made : Option (List Level)) (b after : Blocks)
    → ((found : List Level) → made ≡ Some found → levels_lines (length gs) found ≡ levels_lines (length gs) ls ++ l ∷ [])
    → b ≡ record { groups = gs; levels = ls } → with_levels gs made ≡ Some after → blocks_lines after ≡ blocks_lines b ++ l ∷ []
with_levels_lines gs l ls None b after grown is e = absurd cc
with_levels_lines gs l ls (Some found) b after grown is e =
    ap blocks_lines (sym (some_is _ after e))
    ∙ ap (λ w. groups_lines 0 gs ++ w) (grown found refl)
    ∙ sym (append_assoc (groups_lines 0 gs) (levels_lines (length gs) ls) (l ∷ []))
    ∙ ap (λ x. blocks_lines x ++ l ∷ []) (sym is)

numbered_by : (b : Bool) (n : ℕ) (whole : List Group) (f : List ℕ) (region : List Span1) (grid : List ℕ) (after : Blocks) → (n == length whole) ≡ b
    → (if b then Some (record { groups = whole; levels = level (OpenGroup f region grid) [] ∷ [] }) else None) ≡ Some after
    → blocks_lines after ≡ groups_lines 0 whole ++ GroupLine n f region grid ∷ []
numbered_by false n whole f region grid after is e = absurd cc
numbered_by true n whole f region grid after is e =
    let same : n ≡ length whole = eqb-true n (length whole) is in
    ap blocks_lines (sym (some_is _ after e)) ∙ ap (λ k. groups_lines 0 whole ++ GroupLine k f region grid ∷ []) (sym same)

numbered_lines : (n : ℕ) (whole : List Group) (f : List ℕ) (region : List Span1) (grid : List ℕ) (after : Blocks) → numbered_group n whole (OpenGroup f region grid) ≡ Some after
    → blocks_lines after ≡ groups_lines 0 whole ++ GroupLine n f region grid ∷ []
numbered_lines n whole f region grid after e = numbered_by (n == length whole) n whole f region grid after refl e

next_group_lines : (n : ℕ) (f : List ℕ) (region : List Span1) (grid : List ℕ) (b after : Blocks) (made : Option (List Group)) → whole_groups b.groups b.levels ≡ made
    → option_and_then (λ whole. numbered_group n whole (OpenGroup f region grid)) made ≡ Some after → blocks_lines after ≡ blocks_lines b ++ GroupLine n f region grid ∷ []
next_group_lines n f region grid b after None made e = absurd cc
next_group_lines n f region grid b after (Some whole) made e =
    numbered_lines n whole f region grid after e ∙ ap (λ w. w ++ GroupLine n f region grid ∷ []) (whole_lines b.groups b.levels whole made)

pub next_blocks_lines : (l : Line) (b after : Blocks) → next_blocks l b ≡ Some after → blocks_lines after ≡ blocks_lines b ++ l ∷ []
next_blocks_lines (PlanLine name) b after e = absurd cc
next_blocks_lines (InputLine d) b after e = absurd cc
next_blocks_lines (OutputLine d) b after e = absurd cc
next_blocks_lines (GroupLine n f region grid) b after e = next_group_lines n f region grid b after (whole_groups b.groups b.levels) refl e
next_blocks_lines (ForLine i x kind) b after e = with_levels_lines b.groups (ForLine i x kind) b.levels _ b after (opened_lines (length b.groups) (OpenFor i x kind) b.levels) refl e
next_blocks_lines (LetLine i pick forms) b after e = with_levels_lines b.groups (LetLine i pick forms) b.levels _ b after (put_lines (length b.groups) (Let i pick forms) b.levels) refl e
next_blocks_lines (FirstLine i) b after e = with_levels_lines b.groups (FirstLine i) b.levels _ b after (opened_lines (length b.groups) (OpenFirst i) b.levels) refl e
next_blocks_lines ElseLine b after e = with_levels_lines b.groups ElseLine b.levels _ b after (second_arm_lines (length b.groups) b.levels) refl e
next_blocks_lines (GuardLine low high) b after e = with_levels_lines b.groups (GuardLine low high) b.levels _ b after (opened_lines (length b.groups) (OpenGuard low high) b.levels) refl e
next_blocks_lines EndLine b after e = with_levels_lines b.groups EndLine b.levels _ b after (closed_lines (length b.groups) b.levels) refl e
next_blocks_lines (AllocLine n f places) b after e = with_levels_lines b.groups (AllocLine n f places) b.levels _ b after (put_lines (length b.groups) (Alloc n f places) b.levels) refl e
next_blocks_lines (FetchLine n g region) b after e = with_levels_lines b.groups (FetchLine n g region) b.levels _ b after (put_lines (length b.groups) (Fetch n g region) b.levels) refl e
next_blocks_lines (StoreLine n k at v) b after e = with_levels_lines b.groups (StoreLine n k at v) b.levels _ b after (put_lines (length b.groups) (Store n k at v) b.levels) refl e
next_blocks_lines (PublishLine c) b after e = with_levels_lines b.groups (PublishLine c) b.levels _ b after (put_lines (length b.groups) (Publish c) b.levels) refl e

headed_lines : (name : List ℕ) (input output : Declaration) (l : Line) (b : Blocks) (made : Option Blocks) (after : Draft) → next_blocks l b ≡ made
    → option_map (Headed name input output) made ≡ Some after → draft_lines after ≡ draft_lines (Headed name input output b) ++ l ∷ []
headed_lines name input output l b None after made e = absurd cc
headed_lines name input output l b (Some found) after made e =
    ap draft_lines (sym (some_is _ after e)) ∙ ap (λ w. PlanLine name ∷ InputLine input ∷ OutputLine output ∷ w) (next_blocks_lines l b found made)

-- a line more is a line more of the draft
pub next_lines : (l : Line) (d after : Draft) → next l d ≡ Some after → draft_lines after ≡ draft_lines d ++ l ∷ []
next_lines (PlanLine name) Nothing after e = ap draft_lines (sym (some_is _ after e))
next_lines (InputLine input) Nothing after e = absurd cc
next_lines (OutputLine output) Nothing after e = absurd cc
next_lines (GroupLine n f region grid) Nothing after e = absurd cc
next_lines (ForLine i x kind) Nothing after e = absurd cc
next_lines (LetLine i pick forms) Nothing after e = absurd cc
next_lines (FirstLine i) Nothing after e = absurd cc
next_lines ElseLine Nothing after e = absurd cc
next_lines (GuardLine low high) Nothing after e = absurd cc
next_lines EndLine Nothing after e = absurd cc
next_lines (AllocLine n f places) Nothing after e = absurd cc
next_lines (FetchLine n g region) Nothing after e = absurd cc
next_lines (StoreLine n k at v) Nothing after e = absurd cc
next_lines (PublishLine c) Nothing after e = absurd cc
next_lines (PlanLine other) (Named name) after e = absurd cc
next_lines (InputLine input) (Named name) after e = ap draft_lines (sym (some_is _ after e))
next_lines (OutputLine output) (Named name) after e = absurd cc
next_lines (GroupLine n f region grid) (Named name) after e = absurd cc
next_lines (ForLine i x kind) (Named name) after e = absurd cc
next_lines (LetLine i pick forms) (Named name) after e = absurd cc
next_lines (FirstLine i) (Named name) after e = absurd cc
next_lines ElseLine (Named name) after e = absurd cc
next_lines (GuardLine low high) (Named name) after e = absurd cc
next_lines EndLine (Named name) after e = absurd cc
next_lines (AllocLine n f places) (Named name) after e = absurd cc
next_lines (FetchLine n g region) (Named name) after e = absurd cc
next_lines (StoreLine n k at v) (Named name) after e = absurd cc
next_lines (PublishLine c) (Named name) after e = absurd cc
next_lines (PlanLine other) (Fed name input) after e = absurd cc
next_lines (InputLine other) (Fed name input) after e = absurd cc
next_lines (OutputLine output) (Fed name input) after e = ap draft_lines (sym (some_is _ after e))
next_lines (GroupLine n f region grid) (Fed name input) after e = absurd cc
next_lines (ForLine i x kind) (Fed name input) after e = absurd cc
next_lines (LetLine i pick forms) (Fed name input) after e = absurd cc
next_lines (FirstLine i) (Fed name input) after e = absurd cc
next_lines ElseLine (Fed name input) after e = absurd cc
next_lines (GuardLine low high) (Fed name input) after e = absurd cc
next_lines EndLine (Fed name input) after e = absurd cc
next_lines (AllocLine n f places) (Fed name input) after e = absurd cc
next_lines (FetchLine n g region) (Fed name input) after e = absurd cc
next_lines (StoreLine n k at v) (Fed name input) after e = absurd cc
next_lines (PublishLine c) (Fed name input) after e = absurd cc
next_lines l (Headed name input output b) after e = headed_lines name input output l b (next_blocks l b) after refl e

finished_by : (name : List ℕ) (input output : Declaration) (b : Blocks) (made : Option (List Group)) (p : Plan) → whole_groups b.groups b.levels ≡ made
    → option_map (λ groups. let q : Plan = record { name = name; input = input; output = output; groups = groups } in q) made ≡ Some p → plan_lines p ≡ draft_lines (Headed name input output b)
finished_by name input output b None p made e = absurd cc
finished_by name input output b (Some whole) p made e =
    ap plan_lines (sym (some_is _ p e)) ∙ ap (λ w. PlanLine name ∷ InputLine input ∷ OutputLine output ∷ w) (whole_lines b.groups b.levels whole made)

-- a plan's lines are those of its draft
pub finished_lines : (d : Draft) (p : Plan) → finished d ≡ Some p → plan_lines p ≡ draft_lines d
finished_lines Nothing p e = absurd cc
finished_lines (Named name) p e = absurd cc
finished_lines (Fed name input) p e = absurd cc
finished_lines (Headed name input output b) p e = finished_by name input output b (whole_groups b.groups b.levels) p refl e

drafted_by : (d : Draft) (l : Line) (ls : List Line) (made : Option Draft) (after : Draft) → next l d ≡ made → option_and_then (λ e. drafted e ls) made ≡ Some after → (e : Draft) × (next l d ≡ Some e) × (drafted e ls ≡ Some after)
drafted_by d l ls None after made e = absurd cc
drafted_by d l ls (Some x) after made e = (x, made, e)

-- the lines put together are those of the draft
pub drafted_lines : (d : Draft) (ls : List Line) (after : Draft) → drafted d ls ≡ Some after → draft_lines after ≡ draft_lines d ++ ls
drafted_lines d [] after e = ap draft_lines (sym (some_is d after e)) ∙ sym (append-nil (draft_lines d))
drafted_lines d (l ∷ ls) after e =
    let step = drafted_by d l ls (next l d) after refl e in
    drafted_lines step.0 ls after step.2 ∙ ap (λ w. w ++ ls) (next_lines l d step.0 step.1) ∙ append_assoc (draft_lines d) (l ∷ []) ls
