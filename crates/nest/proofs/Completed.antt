-- Drafts keep the shape of plans, and the blocks that are open can be closed.
use Rattle.std.proofs.Common.{◌≡◌, ℕ, ◌==◌, Bool, true, false, ◌&&◌, List, [], ◌∷◌, ◌++◌, length, Option, Some, None, refl, sym, ap, ◌∙◌}
use Rattle.std.specs.Prelude.{option_map, option_and_then, if◌then◌else◌}
use Rattle.std.specs.List.{list_all}
use Rattle.lin.specs.declared.span.Span1.{Span1}
use Rattle.plan.specs.Plan.{Statement, For, Let, First, Guard, Alloc, Fetch, Store, Publish, Declaration, Group, Plan, block}
use Rattle.nest.specs.Blocks.Line.{Line, PlanLine, InputLine, OutputLine, GroupLine, ForLine, LetLine, FirstLine, ElseLine, GuardLine, EndLine, AllocLine, FetchLine, StoreLine, PublishLine}
use Rattle.nest.specs.Blocks.Shape.{is_single, are_single, has_block, is_canonical}
use Rattle.nest.specs.Blocks.Nesting.{Open, OpenGroup, OpenFor, OpenFirst, OpenElse, OpenGuard, Level, level, body, put, opened, turned, second_arm, ended, closed, with_group, whole_groups, Blocks, with_levels, numbered_group, next_blocks, Draft, Nothing, Named, Fed, Headed, next, finished, drafted}
use Rattle.nest.proofs.BlocksAgain.{both, Head, within}

some_is : {X : Type 0} (x y : X) → Some x ≡ Some y → x ≡ y
some_is x y e = cc

-- ---- shape

abbrev opens_fine : Open → Bool
opens_fine (OpenElse i first) = list_all is_single first
opens_fine _ = true

abbrev is_fine : Level → Bool
is_fine l = opens_fine l.open_by && list_all is_single l.inside

-- a group stands outermost and nowhere else
abbrev is_group : Open → Bool
is_group (OpenGroup f region grid) = true
is_group _ = false

abbrev not_group : Open → Bool
not_group (OpenGroup f region grid) = false
not_group _ = true

abbrev are_nested : List Level → Bool
are_nested [] = true
are_nested (l ∷ []) = is_fine l && is_group l.open_by
are_nested (l ∷ m ∷ ls) = is_fine l && (not_group l.open_by && are_nested (m ∷ ls))

abbrev pub is_fine_draft : Draft → Bool
is_fine_draft (Headed name input output b) = list_all has_block b.groups && are_nested b.levels
is_fine_draft _ = true

single_block : (all : List Statement) → list_all is_single all ≡ true → are_single (block all) ≡ true
single_block [] h = refl
single_block (a ∷ all) h = let p = both (is_single a) (list_all is_single all) h in rw (p.0, single_block all p.1) refl

all_put : {X : Type 0} (f : X → Bool) (all : List X) (x : X) → list_all f all ≡ true → f x ≡ true → list_all f (all ++ x ∷ []) ≡ true
all_put f [] x h k = rw k refl
all_put f (a ∷ all) x h k = let p = both (f a) (list_all f all) h in rw (p.0, all_put f all x p.1 k) refl

fine_put : (s : Statement) (l : Level) → is_single s ≡ true → is_fine l ≡ true → is_fine (level l.open_by (l.inside ++ s ∷ [])) ≡ true
fine_put s l one h = let p = both (opens_fine l.open_by) (list_all is_single l.inside) h in rw (p.0, all_put is_single l.inside s p.1 one) refl

nested_put : (s : Statement) (ls after : List Level) → is_single s ≡ true → are_nested ls ≡ true → put s ls ≡ Some after → are_nested after ≡ true
nested_put s [] after one h e = absurd cc
nested_put s (l ∷ []) after one h e =
    let p = both (is_fine l) (is_group l.open_by) h in
    ap are_nested (sym (some_is _ after e)) ∙ rw (fine_put s l one p.0, p.1) refl
nested_put s (l ∷ m ∷ ls) after one h e =
    let p = both (is_fine l) (not_group l.open_by && are_nested (m ∷ ls)) h in
    ap are_nested (sym (some_is _ after e)) ∙ rw (fine_put s l one p.0, p.1) refl

nested_opened : (o : Open) (ls after : List Level) → opens_fine o ≡ true → not_group o ≡ true → are_nested ls ≡ true → opened o ls ≡ Some after → are_nested after ≡ true
nested_opened o [] after fine other h e = absurd cc
nested_opened o (l ∷ ls) after fine other h e = ap are_nested (sym (some_is _ after e)) ∙ rw (fine, other, h) refl

-- what stands below the innermost block
below : (l : Level) (ls : List Level) → are_nested (l ∷ ls) ≡ true → is_group l.open_by ≡ false → is_fine l ≡ true
below l [] h other = (both (is_fine l) (is_group l.open_by) h).0
below l (m ∷ ls) h other = (both (is_fine l) (not_group l.open_by && are_nested (m ∷ ls)) h).0

rest_nested : (l : Level) (ls : List Level) → are_nested (l ∷ ls) ≡ true → are_nested ls ≡ true
rest_nested l [] h = refl
rest_nested l (m ∷ ls) h = (both (not_group l.open_by) (are_nested (m ∷ ls)) (both (is_fine l) (not_group l.open_by && are_nested (m ∷ ls)) h).1).1

level_fine : (l : Level) (ls : List Level) → are_nested (l ∷ ls) ≡ true → is_fine l ≡ true
level_fine l [] h = (both (is_fine l) (is_group l.open_by) h).0
level_fine l (m ∷ ls) h = (both (is_fine l) (not_group l.open_by && are_nested (m ∷ ls)) h).0

nested_in : (o p : Open) (a b : List Statement) (ls : List Level) → is_group o ≡ false → not_group p ≡ true → is_fine (level p b) ≡ true → are_nested (level o a ∷ ls) ≡ true → are_nested (level p b ∷ ls) ≡ true
nested_in o p a b [] g other fine h = let q = both (is_fine (level o a)) (is_group o) h in absurd (let u = sym q.1 ∙ g in cc)
nested_in o p a b (m ∷ ls) g other fine h = rw (fine, other, rest_nested (level o a) (m ∷ ls) h) refl

nested_turned : (o : Open) (inside : List Statement) (ls after : List Level) → are_nested (level o inside ∷ ls) ≡ true → turned o inside ls ≡ Some after → are_nested after ≡ true
nested_turned (OpenGroup f region grid) inside ls after h e = absurd cc
nested_turned (OpenFor i x kind) inside ls after h e = absurd cc
nested_turned (OpenFirst i) inside ls after h e =
    let fine = both true (list_all is_single inside) (level_fine (level (OpenFirst i) inside) ls h) in
    ap are_nested (sym (some_is _ after e)) ∙ nested_in (OpenFirst i) (OpenElse i inside) inside [] ls refl refl (rw fine.1 refl) h
nested_turned (OpenElse i first) inside ls after h e = absurd cc
nested_turned (OpenGuard low high) inside ls after h e = absurd cc

ended_single : (o : Open) (inside : List Statement) (s : Statement) → is_fine (level o inside) ≡ true → ended o inside ≡ Some s → is_single s ≡ true
ended_single (OpenGroup f region grid) inside s h e = absurd cc
ended_single (OpenFor i x kind) inside s h e = ap is_single (sym (some_is _ s e)) ∙ single_block inside h
ended_single (OpenFirst i) inside s h e = absurd cc
ended_single (OpenElse i first) inside s h e =
    let p = both (list_all is_single first) (list_all is_single inside) h in
    ap is_single (sym (some_is _ s e)) ∙ rw (single_block first p.0, single_block inside p.1) refl
ended_single (OpenGuard low high) inside s h e = ap is_single (sym (some_is _ s e)) ∙ single_block inside h

nested_closed_by : (l : Level) (ls after : List Level) (made : Option Statement) → are_nested (l ∷ ls) ≡ true → ended l.open_by l.inside ≡ made → option_and_then (λ s. put s ls) made ≡ Some after → are_nested after ≡ true
nested_closed_by l ls after None h made e = absurd cc
nested_closed_by l ls after (Some s) h made e = nested_put s ls after (ended_single l.open_by l.inside s (level_fine l ls h) made) (rest_nested l ls h) e

nested_second : (ls after : List Level) → are_nested ls ≡ true → second_arm ls ≡ Some after → are_nested after ≡ true
nested_second [] after h e = absurd cc
nested_second (l ∷ ls) after h e = nested_turned l.open_by l.inside ls after h e

nested_closed : (ls after : List Level) → are_nested ls ≡ true → closed ls ≡ Some after → are_nested after ≡ true
nested_closed [] after h e = absurd cc
nested_closed (l ∷ ls) after h e = nested_closed_by l ls after (ended l.open_by l.inside) h refl e

-- ---- groups

with_group_fine : (gs : List Group) (o : Open) (inside : List Statement) (whole : List Group) → list_all has_block gs ≡ true → list_all is_single inside ≡ true → with_group gs o inside ≡ Some whole → list_all has_block whole ≡ true
with_group_fine gs (OpenGroup f region grid) inside whole h one e = ap (list_all has_block) (sym (some_is _ whole e)) ∙ all_put has_block gs _ h (single_block inside one)
with_group_fine gs (OpenFor i x kind) inside whole h one e = absurd cc
with_group_fine gs (OpenFirst i) inside whole h one e = absurd cc
with_group_fine gs (OpenElse i first) inside whole h one e = absurd cc
with_group_fine gs (OpenGuard low high) inside whole h one e = absurd cc

whole_fine : (gs : List Group) (ls : List Level) (whole : List Group) → list_all has_block gs ≡ true → are_nested ls ≡ true → whole_groups gs ls ≡ Some whole → list_all has_block whole ≡ true
whole_fine gs [] whole h n e = ap (list_all has_block) (sym (some_is gs whole e)) ∙ h
whole_fine gs (l ∷ []) whole h n e = with_group_fine gs l.open_by l.inside whole h (both (opens_fine l.open_by) (list_all is_single l.inside) (level_fine l [] n)).1 e
whole_fine gs (l ∷ m ∷ ls) whole h n e = absurd cc

abbrev is_fine_blocks : Blocks → Bool
is_fine_blocks b = list_all has_block b.groups && are_nested b.levels

with_levels_fine : (gs : List Group) (ls : List Level) (made : Option (List Level)) (after : Blocks) → list_all has_block gs ≡ true
    → ((found : List Level) → made ≡ Some found → are_nested found ≡ true) → with_levels gs made ≡ Some after → is_fine_blocks after ≡ true
with_levels_fine gs ls None after h n e = absurd cc
with_levels_fine gs ls (Some found) after h n e = ap is_fine_blocks (sym (some_is _ after e)) ∙ rw (h, n found refl) refl

numbered_fine : (b : Bool) (n : ℕ) (whole : List Group) (f : List ℕ) (region : List Span1) (grid : List ℕ) (after : Blocks) → list_all has_block whole ≡ true
    → (if b then Some (record { groups = whole; levels = level (OpenGroup f region grid) [] ∷ [] }) else None) ≡ Some after → is_fine_blocks after ≡ true
numbered_fine false n whole f region grid after h e = absurd cc
numbered_fine true n whole f region grid after h e = ap is_fine_blocks (sym (some_is _ after e)) ∙ rw h refl

next_group_fine : (n : ℕ) (f : List ℕ) (region : List Span1) (grid : List ℕ) (b after : Blocks) (made : Option (List Group)) → is_fine_blocks b ≡ true → whole_groups b.groups b.levels ≡ made
    → option_and_then (λ whole. numbered_group n whole (OpenGroup f region grid)) made ≡ Some after → is_fine_blocks after ≡ true
next_group_fine n f region grid b after None h made e = absurd cc
next_group_fine n f region grid b after (Some whole) h made e =
    let p = both (list_all has_block b.groups) (are_nested b.levels) h in
    numbered_fine (n == length whole) n whole f region grid after (whole_fine b.groups b.levels whole p.0 p.1 made) e

next_blocks_fine : (l : Line) (b after : Blocks) → is_fine_blocks b ≡ true → next_blocks l b ≡ Some after → is_fine_blocks after ≡ true
next_blocks_fine (PlanLine name) b after h e = absurd cc
next_blocks_fine (InputLine d) b after h e = absurd cc
next_blocks_fine (OutputLine d) b after h e = absurd cc
next_blocks_fine (GroupLine n f region grid) b after h e = next_group_fine n f region grid b after (whole_groups b.groups b.levels) h refl e
next_blocks_fine (ForLine i x kind) b after h e = let p = both (list_all has_block b.groups) (are_nested b.levels) h in with_levels_fine b.groups b.levels _ after p.0 (λ found. nested_opened (OpenFor i x kind) b.levels found refl refl p.1) e
next_blocks_fine (LetLine i pick forms) b after h e = let p = both (list_all has_block b.groups) (are_nested b.levels) h in with_levels_fine b.groups b.levels _ after p.0 (λ found. nested_put (Let i pick forms) b.levels found refl p.1) e
next_blocks_fine (FirstLine i) b after h e = let p = both (list_all has_block b.groups) (are_nested b.levels) h in with_levels_fine b.groups b.levels _ after p.0 (λ found. nested_opened (OpenFirst i) b.levels found refl refl p.1) e
next_blocks_fine ElseLine b after h e = let p = both (list_all has_block b.groups) (are_nested b.levels) h in with_levels_fine b.groups b.levels _ after p.0 (λ found. nested_second b.levels found p.1) e
next_blocks_fine (GuardLine low high) b after h e = let p = both (list_all has_block b.groups) (are_nested b.levels) h in with_levels_fine b.groups b.levels _ after p.0 (λ found. nested_opened (OpenGuard low high) b.levels found refl refl p.1) e
next_blocks_fine EndLine b after h e = let p = both (list_all has_block b.groups) (are_nested b.levels) h in with_levels_fine b.groups b.levels _ after p.0 (λ found. nested_closed b.levels found p.1) e
next_blocks_fine (AllocLine n f places) b after h e = let p = both (list_all has_block b.groups) (are_nested b.levels) h in with_levels_fine b.groups b.levels _ after p.0 (λ found. nested_put (Alloc n f places) b.levels found refl p.1) e
next_blocks_fine (FetchLine n g region) b after h e = let p = both (list_all has_block b.groups) (are_nested b.levels) h in with_levels_fine b.groups b.levels _ after p.0 (λ found. nested_put (Fetch n g region) b.levels found refl p.1) e
next_blocks_fine (StoreLine n k at v) b after h e = let p = both (list_all has_block b.groups) (are_nested b.levels) h in with_levels_fine b.groups b.levels _ after p.0 (λ found. nested_put (Store n k at v) b.levels found refl p.1) e
next_blocks_fine (PublishLine c) b after h e = let p = both (list_all has_block b.groups) (are_nested b.levels) h in with_levels_fine b.groups b.levels _ after p.0 (λ found. nested_put (Publish c) b.levels found refl p.1) e

headed_fine : (name : List ℕ) (input output : Declaration) (l : Line) (b : Blocks) (made : Option Blocks) (after : Draft) → is_fine_blocks b ≡ true → next_blocks l b ≡ made
    → option_map (Headed name input output) made ≡ Some after → is_fine_draft after ≡ true
headed_fine name input output l b None after h made e = absurd cc
headed_fine name input output l b (Some found) after h made e = ap is_fine_draft (sym (some_is _ after e)) ∙ next_blocks_fine l b found h made

pub next_fine : (l : Line) (d after : Draft) → is_fine_draft d ≡ true → next l d ≡ Some after → is_fine_draft after ≡ true
next_fine (PlanLine name) Nothing after h e = ap is_fine_draft (sym (some_is _ after e))
next_fine (InputLine d) Nothing after h e = absurd cc
next_fine (OutputLine d) Nothing after h e = absurd cc
next_fine (GroupLine n f region grid) Nothing after h e = absurd cc
next_fine (ForLine i x kind) Nothing after h e = absurd cc
next_fine (LetLine i pick forms) Nothing after h e = absurd cc
next_fine (FirstLine i) Nothing after h e = absurd cc
next_fine ElseLine Nothing after h e = absurd cc
next_fine (GuardLine low high) Nothing after h e = absurd cc
next_fine EndLine Nothing after h e = absurd cc
next_fine (AllocLine n f places) Nothing after h e = absurd cc
next_fine (FetchLine n g region) Nothing after h e = absurd cc
next_fine (StoreLine n k at v) Nothing after h e = absurd cc
next_fine (PublishLine c) Nothing after h e = absurd cc
next_fine (PlanLine name) (Named m) after h e = absurd cc
next_fine (InputLine d) (Named m) after h e = ap is_fine_draft (sym (some_is _ after e))
next_fine (OutputLine d) (Named m) after h e = absurd cc
next_fine (GroupLine n f region grid) (Named m) after h e = absurd cc
next_fine (ForLine i x kind) (Named m) after h e = absurd cc
next_fine (LetLine i pick forms) (Named m) after h e = absurd cc
next_fine (FirstLine i) (Named m) after h e = absurd cc
next_fine ElseLine (Named m) after h e = absurd cc
next_fine (GuardLine low high) (Named m) after h e = absurd cc
next_fine EndLine (Named m) after h e = absurd cc
next_fine (AllocLine n f places) (Named m) after h e = absurd cc
next_fine (FetchLine n g region) (Named m) after h e = absurd cc
next_fine (StoreLine n k at v) (Named m) after h e = absurd cc
next_fine (PublishLine c) (Named m) after h e = absurd cc
next_fine (PlanLine name) (Fed m t) after h e = absurd cc
next_fine (InputLine d) (Fed m t) after h e = absurd cc
next_fine (OutputLine d) (Fed m t) after h e = ap is_fine_draft (sym (some_is _ after e))
next_fine (GroupLine n f region grid) (Fed m t) after h e = absurd cc
next_fine (ForLine i x kind) (Fed m t) after h e = absurd cc
next_fine (LetLine i pick forms) (Fed m t) after h e = absurd cc
next_fine (FirstLine i) (Fed m t) after h e = absurd cc
next_fine ElseLine (Fed m t) after h e = absurd cc
next_fine (GuardLine low high) (Fed m t) after h e = absurd cc
next_fine EndLine (Fed m t) after h e = absurd cc
next_fine (AllocLine n f places) (Fed m t) after h e = absurd cc
next_fine (FetchLine n g region) (Fed m t) after h e = absurd cc
next_fine (StoreLine n k at v) (Fed m t) after h e = absurd cc
next_fine (PublishLine c) (Fed m t) after h e = absurd cc
next_fine l (Headed name input output b) after h e = headed_fine name input output l b (next_blocks l b) after h refl e

finished_fine_by : (name : List ℕ) (input output : Declaration) (b : Blocks) (made : Option (List Group)) (p : Plan) → is_fine_blocks b ≡ true → whole_groups b.groups b.levels ≡ made
    → option_map (λ groups. let q : Plan = record { name = name; input = input; output = output; groups = groups } in q) made ≡ Some p → is_canonical p ≡ true
finished_fine_by name input output b None p h made e = absurd cc
finished_fine_by name input output b (Some whole) p h made e =
    let parts = both (list_all has_block b.groups) (are_nested b.levels) h in
    ap is_canonical (sym (some_is _ p e)) ∙ whole_fine b.groups b.levels whole parts.0 parts.1 made

-- a draft that is finished is a canonical plan
pub finished_fine : (d : Draft) (p : Plan) → is_fine_draft d ≡ true → finished d ≡ Some p → is_canonical p ≡ true
finished_fine Nothing p h e = absurd cc
finished_fine (Named name) p h e = absurd cc
finished_fine (Fed name input) p h e = absurd cc
finished_fine (Headed name input output b) p h e = finished_fine_by name input output b (whole_groups b.groups b.levels) p h refl e

drafted_fine_by : (d : Draft) (l : Line) (ls : List Line) (made : Option Draft) (after : Draft) → is_fine_draft d ≡ true → next l d ≡ made → option_and_then (λ e. drafted e ls) made ≡ Some after
    → (e : Draft) × (is_fine_draft e ≡ true) × (drafted e ls ≡ Some after)
drafted_fine_by d l ls None after h made e = absurd cc
drafted_fine_by d l ls (Some x) after h made e = (x, next_fine l d x h made, e)

pub drafted_fine : (d : Draft) (ls : List Line) (after : Draft) → is_fine_draft d ≡ true → drafted d ls ≡ Some after → is_fine_draft after ≡ true
drafted_fine d [] after h e = ap is_fine_draft (sym (some_is d after e)) ∙ h
drafted_fine d (l ∷ ls) after h e = let step = drafted_fine_by d l ls (next l d) after h refl e in drafted_fine step.0 ls after step.1 step.2

-- ---- closing what is open

all_joined : {X : Type 0} (f : X → Bool) (xs ys : List X) → list_all f xs ≡ true → list_all f ys ≡ true → list_all f (xs ++ ys) ≡ true
all_joined f [] ys h k = k
all_joined f (x ∷ xs) ys h k = let p = both (f x) (list_all f xs) h in rw (p.0, all_joined f xs ys p.1 k) refl

-- the lines that close a block
abbrev pub is_closer : Line → Bool
is_closer ElseLine = true
is_closer EndLine = true
is_closer _ = false

-- lines that close all blocks, and the plan that they leave
pub record Completes (start : Draft) : Type 0 where
  pub more : List Line
  pub draft : Draft
  pub plan : Plan
  pub closers : list_all is_closer more ≡ true
  pub made : drafted start more ≡ Some draft
  pub whole : finished draft ≡ Some plan

abbrev closers_of : Open → List Line
closers_of (OpenFirst i) = ElseLine ∷ EndLine ∷ []
closers_of _ = EndLine ∷ []

-- a completion after closing lines
after_closers : (start next_start : Draft) (front : List Line) → list_all is_closer front ≡ true → ((rest : List Line) → drafted start (front ++ rest) ≡ drafted next_start rest) → Completes next_start → Completes start
after_closers start next_start front fine step c =
    record {
      more = front ++ c.more;
      draft = c.draft;
      plan = c.plan;
      closers = all_joined is_closer front c.more fine c.closers;
      made = step c.more ∙ c.made;
      whole = c.whole;
    }

complete_group : (h : Head) (gs : List Group) (o : Open) (inside : List Statement) → is_group o ≡ true → Completes (within h gs (level o inside ∷ []))
complete_group h gs (OpenGroup f region grid) inside g = record { more = []; draft = within h gs (level (OpenGroup f region grid) inside ∷ []); plan = _; closers = refl; made = refl; whole = refl }
complete_group h gs (OpenFor i x kind) inside g = absurd cc
complete_group h gs (OpenFirst i) inside g = absurd cc
complete_group h gs (OpenElse i first) inside g = absurd cc
complete_group h gs (OpenGuard low high) inside g = absurd cc

-- how the innermost block is closed: by these lines it becomes a statement of the one around it
record Closes (h : Head) (gs : List Group) (o : Open) (inside : List Statement) (m : Level) (ls : List Level) : Type 0 where
  statement : Statement
  front : List Line
  closers : list_all is_closer front ≡ true
  step : (rest : List Line) → drafted (within h gs (level o inside ∷ m ∷ ls)) (front ++ rest) ≡ drafted (within h gs (level m.open_by (m.inside ++ statement ∷ []) ∷ ls)) rest

closes : (h : Head) (gs : List Group) (o : Open) (inside : List Statement) (m : Level) (ls : List Level) → not_group o ≡ true → Closes h gs o inside m ls
closes h gs (OpenGroup f region grid) inside m ls other = absurd cc
closes h gs (OpenFor i x kind) inside m ls other = record { statement = For i x kind (body inside); front = EndLine ∷ []; closers = refl; step = λ rest. refl }
closes h gs (OpenFirst i) inside m ls other = record { statement = First i (body inside) (body []); front = ElseLine ∷ EndLine ∷ []; closers = refl; step = λ rest. refl }
closes h gs (OpenElse i first) inside m ls other = record { statement = First i (body first) (body inside); front = EndLine ∷ []; closers = refl; step = λ rest. refl }
closes h gs (OpenGuard low high) inside m ls other = record { statement = Guard low high (body inside); front = EndLine ∷ []; closers = refl; step = λ rest. refl }

-- blocks in one another, of which only the outermost is a group
abbrev are_stacked : Level → List Level → Bool
are_stacked l [] = is_group l.open_by
are_stacked l (m ∷ ls) = not_group l.open_by && are_stacked m ls

stacked : (l : Level) (ls : List Level) → are_nested (l ∷ ls) ≡ true → are_stacked l ls ≡ true
stacked l [] h = (both (is_fine l) (is_group l.open_by) h).1
stacked l (m ∷ ls) h =
    let p = both (not_group l.open_by) (are_nested (m ∷ ls)) (both (is_fine l) (not_group l.open_by && are_nested (m ∷ ls)) h).1 in
    rw (p.0, stacked m ls p.1) refl

other_inside : (o : Open) (a b : List Statement) (ls : List Level) → are_stacked (level o a) ls ≡ true → are_stacked (level o b) ls ≡ true
other_inside o a b [] h = h
other_inside o a b (m ∷ ls) h = h

complete_in : (ls : List Level) (h : Head) (gs : List Group) (o : Open) (inside : List Statement) → are_stacked (level o inside) ls ≡ true → Completes (within h gs (level o inside ∷ ls))
complete_in [] h gs o inside fine = complete_group h gs o inside fine
complete_in (m ∷ ls) h gs o inside fine =
    let p = both (not_group o) (are_stacked m ls) fine in
    let c = closes h gs o inside m ls p.0 in
    after_closers (within h gs (level o inside ∷ m ∷ ls)) (within h gs (level m.open_by (m.inside ++ c.statement ∷ []) ∷ ls)) c.front c.closers c.step
    (complete_in ls h gs m.open_by (m.inside ++ c.statement ∷ []) (other_inside m.open_by m.inside (m.inside ++ c.statement ∷ []) ls p.1))

complete_blocks : (h : Head) (gs : List Group) (ls : List Level) → are_nested ls ≡ true → Completes (within h gs ls)
complete_blocks h gs [] fine = record { more = []; draft = within h gs []; plan = _; closers = refl; made = refl; whole = refl }
complete_blocks h gs (l ∷ ls) fine = complete_in ls h gs l.open_by l.inside (stacked l ls fine)

-- what is open behind a head can be closed
pub completes : (name : List ℕ) (input output : Declaration) (b : Blocks) → is_fine_draft (Headed name input output b) ≡ true → Completes (Headed name input output b)
completes name input output b fine =
    complete_blocks (record { name = name; input = input; output = output }) b.groups b.levels (both (list_all has_block b.groups) (are_nested b.levels) fine).1
