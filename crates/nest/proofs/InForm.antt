-- The groups of a plan have their form where its lines stand where they may, and nowhere else.
use Rattle.std.proofs.Common.{◌≡◌, ℕ, ◌+◌, ◌-◌, ◌==◌, Bool, true, false, ◌&&◌, List, [], ◌∷◌, ◌++◌, refl, sym, ap, ◌∙◌, arith, append_assoc}
use Rattle.std.specs.List.{list_all}
use Rattle.std.proofs.lemmas.Bool.Decides.{nat_tests}
use Rattle.plan.specs.Plan.{Statement, Seq, For, Let, First, Guard, Alloc, Fetch, Store, Publish, Statements, Empty, Then, Group, Plan}
use Rattle.nest.specs.Blocks.Line.{Line, PlanLine, InputLine, OutputLine, GroupLine, ForLine, LetLine, FirstLine, ElseLine, GuardLine, EndLine, AllocLine, FetchLine, StoreLine, PublishLine}
use Rattle.nest.specs.Blocks.Flat.{statement_lines, block_lines, group_lines, groups_lines, plan_lines}
use Rattle.nest.specs.Blocks.Shape.{is_block, is_single, are_single, has_block, is_canonical}
use Rattle.nest.specs.Blocks.Form.{is_work, are_work, end_in_publish, are_in_form, is_body, has_form, is_in_form}
use Rattle.nest.specs.Blocks.Stages.{Stage, outside, entered, may_stand, deeper, stage_after}
use Rattle.nest.proofs.BlocksAgain.{both}

-- the lines stand where they may, one after another, and the last group has its `publish`
abbrev pub placed : Stage → List Line → Bool
placed s [] = s.published
placed s (l ∷ ls) = may_stand l s && placed (stage_after l s) ls

-- inside so many blocks of a group, where no fetch may come
abbrev working : ℕ → Stage
working d = record { depth = d; published = false; may_fetch = false }

and_assoc : (a b c : Bool) → (a && (b && c)) ≡ ((a && b) && c)
and_assoc true b c = refl
and_assoc false b c = refl

and_false : (a : Bool) → (a && false) ≡ false
and_false true = refl
and_false false = refl

abbrev is_publish : Statement → Bool
is_publish (Publish c) = true
is_publish _ = false

-- a block, and the line that ends it
block_ended : (b : Statement) (d : ℕ) (rest : List Line) → placed (working (d + 1)) (statement_lines b ++ EndLine ∷ rest) ≡ (is_work b && placed (working (d + 1)) (EndLine ∷ rest))
    → placed (working (d + 1)) ((statement_lines b ++ EndLine ∷ []) ++ rest) ≡ (is_work b && placed (working d) rest)
block_ended b d rest inside =
    let depth : d + 1 - 1 ≡ d = omega arith in
    ap (placed (working (d + 1))) (append_assoc (statement_lines b) (EndLine ∷ []) rest) ∙ inside ∙ ap (λ k. is_work b && placed (working k) rest) depth

inside_some : (d : ℕ) → (d + 1 == 0) ≡ false
inside_some d = grind (arith, nat_tests)

mutual
  one_placed : (s : Statement) → is_single s ≡ true → (d : ℕ) → (is_publish s && d == 0) ≡ false → (rest : List Line) → placed (working d) (statement_lines s ++ rest) ≡ (is_work s && placed (working d) rest)
  one_placed (Seq all) fine d other rest = absurd cc
  one_placed (For i x kind b) fine d other rest = block_ended b d rest (block_placed b fine (d + 1) (inside_some d) (EndLine ∷ rest))
  one_placed (Let i pick forms) fine d other rest = refl
  one_placed (First i a b) fine d other rest =
      let parts = both (is_block a) (is_block b) fine in
      let second = statement_lines b ++ EndLine ∷ [] in
      ap (placed (working (d + 1))) (append_assoc (statement_lines a) (ElseLine ∷ second) rest)
      ∙ block_placed a parts.0 (d + 1) (inside_some d) (ElseLine ∷ (second ++ rest))
      ∙ ap (λ x. is_work a && x) (block_ended b d rest (block_placed b parts.1 (d + 1) (inside_some d) (EndLine ∷ rest)))
      ∙ and_assoc (is_work a) (is_work b) (placed (working d) rest)
  one_placed (Guard low high b) fine d other rest = block_ended b d rest (block_placed b fine (d + 1) (inside_some d) (EndLine ∷ rest))
  one_placed (Alloc n f places) fine d other rest = refl
  one_placed (Fetch n g region) fine d other rest = refl
  one_placed (Store n k at e) fine d other rest = refl
  one_placed (Publish c) fine d other rest = ap (λ b. b && placed (stage_after (PublishLine c) (working d)) rest) other

  block_placed : (s : Statement) → is_block s ≡ true → (d : ℕ) → (d == 0) ≡ false → (rest : List Line) → placed (working d) (statement_lines s ++ rest) ≡ (is_work s && placed (working d) rest)
  block_placed (Seq all) fine d deep rest = all_placed all fine d deep rest
  block_placed (For i x kind b) fine d deep rest = absurd cc
  block_placed (Let i pick forms) fine d deep rest = absurd cc
  block_placed (First i a b) fine d deep rest = absurd cc
  block_placed (Guard low high b) fine d deep rest = absurd cc
  block_placed (Alloc n f places) fine d deep rest = absurd cc
  block_placed (Fetch n g region) fine d deep rest = absurd cc
  block_placed (Store n k at e) fine d deep rest = absurd cc
  block_placed (Publish c) fine d deep rest = absurd cc

  all_placed : (all : Statements) → are_single all ≡ true → (d : ℕ) → (d == 0) ≡ false → (rest : List Line) → placed (working d) (block_lines all ++ rest) ≡ (are_work all && placed (working d) rest)
  all_placed Empty fine d deep rest = refl
  all_placed (Then a more) fine d deep rest =
      let parts = both (is_single a) (are_single more) fine in
      ap (placed (working d)) (append_assoc (statement_lines a) (block_lines more) rest)
      ∙ one_placed a parts.0 d (ap (λ b. is_publish a && b) deep ∙ and_false (is_publish a)) (block_lines more ++ rest)
      ∙ ap (λ x. is_work a && x) (all_placed more parts.1 d deep rest)
      ∙ and_assoc (is_work a) (are_work more) (placed (working d) rest)

-- ---- a group

-- behind a `publish` nothing of the group stands
none_behind : (a : Statement) → is_single a ≡ true → (rest : List Line) → placed outside (statement_lines a ++ rest) ≡ false
none_behind (Seq all) fine rest = absurd cc
none_behind (For i x kind b) fine rest = refl
none_behind (Let i pick forms) fine rest = refl
none_behind (First i a b) fine rest = refl
none_behind (Guard low high b) fine rest = refl
none_behind (Alloc n f places) fine rest = refl
none_behind (Fetch n g region) fine rest = refl
none_behind (Store n k at e) fine rest = refl
none_behind (Publish c) fine rest = refl

-- before it no group begins, and the text does not end
none_before : (s : Stage) → s.published ≡ false → (n : ℕ) (gs : List Group) → placed s (groups_lines n gs) ≡ false
none_before s open_still n [] = open_still
none_before s open_still n (g ∷ gs) = rw open_still refl

module _ (n : ℕ) (gs : List Group) where
  work_step : (s : Statement) (more : Statements) → (is_single s && are_single more) ≡ true → is_publish s ≡ false
      → placed (working 0) (block_lines more ++ groups_lines n gs) ≡ (end_in_publish more && placed outside (groups_lines n gs))
      → placed (working 0) (block_lines (Then s more) ++ groups_lines n gs) ≡ ((is_work s && end_in_publish more) && placed outside (groups_lines n gs))
  work_step s more fine other rest =
      let single = (both (is_single s) (are_single more) fine).0 in
      ap (placed (working 0)) (append_assoc (statement_lines s) (block_lines more) (groups_lines n gs))
      ∙ one_placed s single 0 (ap (λ b. b && (0 == 0)) other) (block_lines more ++ groups_lines n gs)
      ∙ ap (λ x. is_work s && x) rest
      ∙ and_assoc (is_work s) (end_in_publish more) (placed outside (groups_lines n gs))

  rest_single : (s : Statement) (more : Statements) → (is_single s && are_single more) ≡ true → are_single more ≡ true
  rest_single s more fine = (both (is_single s) (are_single more) fine).1

  work_placed : (all : Statements) → are_single all ≡ true → placed (working 0) (block_lines all ++ groups_lines n gs) ≡ (end_in_publish all && placed outside (groups_lines n gs))
  work_placed Empty fine = none_before (working 0) refl n gs
  work_placed (Then (Publish c) Empty) fine = refl
  work_placed (Then (Publish c) (Then a more)) fine =
      ap (placed outside) (append_assoc (statement_lines a) (block_lines more) (groups_lines n gs)) ∙ none_behind a (both (is_single a) (are_single more) fine).0 (block_lines more ++ groups_lines n gs)
  work_placed (Then (Seq all) more) fine = absurd cc
  work_placed (Then (For i x kind b) more) fine = work_step (For i x kind b) more fine refl (work_placed more (rest_single (For i x kind b) more fine))
  work_placed (Then (Let i pick forms) more) fine = work_step (Let i pick forms) more fine refl (work_placed more (rest_single (Let i pick forms) more fine))
  work_placed (Then (First i a b) more) fine = work_step (First i a b) more fine refl (work_placed more (rest_single (First i a b) more fine))
  work_placed (Then (Guard low high b) more) fine = work_step (Guard low high b) more fine refl (work_placed more (rest_single (Guard low high b) more fine))
  work_placed (Then (Alloc m f places) more) fine = work_step (Alloc m f places) more fine refl (work_placed more (rest_single (Alloc m f places) more fine))
  work_placed (Then (Fetch m g region) more) fine = refl
  work_placed (Then (Store m k at e) more) fine = work_step (Store m k at e) more fine refl (work_placed more (rest_single (Store m k at e) more fine))

  form_placed : (all : Statements) → are_single all ≡ true → placed entered (block_lines all ++ groups_lines n gs) ≡ (are_in_form all && placed outside (groups_lines n gs))
  form_placed Empty fine = none_before entered refl n gs
  form_placed (Then (Seq all) more) fine = absurd cc
  form_placed (Then (For i x kind b) more) fine = work_placed (Then (For i x kind b) more) fine
  form_placed (Then (Let i pick forms) more) fine = form_placed more fine
  form_placed (Then (First i a b) more) fine = work_placed (Then (First i a b) more) fine
  form_placed (Then (Guard low high b) more) fine = work_placed (Then (Guard low high b) more) fine
  form_placed (Then (Alloc m f places) more) fine = form_placed more fine
  form_placed (Then (Fetch m g region) more) fine = form_placed more fine
  form_placed (Then (Store m k at e) more) fine = work_placed (Then (Store m k at e) more) fine
  form_placed (Then (Publish c) more) fine = work_placed (Then (Publish c) more) fine

  body_placed : (b : Statement) → is_block b ≡ true → placed entered (statement_lines b ++ groups_lines n gs) ≡ (is_body b && placed outside (groups_lines n gs))
  body_placed (Seq all) fine = form_placed all fine
  body_placed (For i x kind b) fine = absurd cc
  body_placed (Let i pick forms) fine = absurd cc
  body_placed (First i a b) fine = absurd cc
  body_placed (Guard low high b) fine = absurd cc
  body_placed (Alloc m f places) fine = absurd cc
  body_placed (Fetch m g region) fine = absurd cc
  body_placed (Store m k at e) fine = absurd cc
  body_placed (Publish c) fine = absurd cc

groups_placed : (gs : List Group) → list_all has_block gs ≡ true → (n : ℕ) → placed outside (groups_lines n gs) ≡ list_all has_form gs
groups_placed [] fine n = refl
groups_placed (g ∷ gs) fine n =
    let parts = both (has_block g) (list_all has_block gs) fine in
    body_placed (n + 1) gs g.body parts.0 ∙ ap (λ x. has_form g && x) (groups_placed gs parts.1 (n + 1))

-- of a plan whose bodies are blocks
pub plan_placed : (p : Plan) → is_canonical p ≡ true → placed outside (plan_lines p) ≡ is_in_form p
plan_placed p fine = groups_placed p.groups fine 0

-- ---- where lines end

abbrev pub stage_behind : Stage → List Line → Stage
stage_behind s [] = s
stage_behind s (l ∷ ls) = stage_behind (stage_after l s) ls

pub stage_join : (s : Stage) (a b : List Line) → stage_behind s (a ++ b) ≡ stage_behind (stage_behind s a) b
stage_join s [] b = refl
stage_join s (l ∷ a) b = stage_join (stage_after l s) a b

one_less : (d : ℕ) → d + 1 - 1 ≡ d
one_less d = omega arith

ended_depth : (s : Stage) (b : List Line) → (stage_behind (deeper s) b).depth ≡ s.depth + 1 → (stage_behind (deeper s) (b ++ EndLine ∷ [])).depth ≡ s.depth
ended_depth s b inside = ap (λ (t : Stage). t.depth) (stage_join (deeper s) b (EndLine ∷ [])) ∙ ap (λ k. k - 1) inside ∙ one_less s.depth

mutual
  statement_depth : (s : Statement) (t : Stage) → (stage_behind t (statement_lines s)).depth ≡ t.depth
  statement_depth (Seq all) t = block_depth all t
  statement_depth (For i x kind b) t = ended_depth t (statement_lines b) (statement_depth b (deeper t))
  statement_depth (Let i pick forms) t = refl
  statement_depth (First i a b) t =
      let second = statement_lines b ++ EndLine ∷ [] in
      let middle = stage_behind (deeper t) (statement_lines a) in
      ap (λ (u : Stage). u.depth) (stage_join (deeper t) (statement_lines a) (ElseLine ∷ second) ∙ stage_join middle (statement_lines b) (EndLine ∷ []))
      ∙ ap (λ k. k - 1) (statement_depth b middle ∙ statement_depth a (deeper t)) ∙ one_less t.depth
  statement_depth (Guard low high b) t = ended_depth t (statement_lines b) (statement_depth b (deeper t))
  statement_depth (Alloc n f places) t = refl
  statement_depth (Fetch n g region) t = refl
  statement_depth (Store n k at e) t = refl
  statement_depth (Publish c) t = refl

  block_depth : (all : Statements) (t : Stage) → (stage_behind t (block_lines all)).depth ≡ t.depth
  block_depth Empty t = refl
  block_depth (Then a more) t = ap (λ (u : Stage). u.depth) (stage_join t (statement_lines a) (block_lines more)) ∙ block_depth more (stage_behind t (statement_lines a)) ∙ statement_depth a t

groups_depth : (n : ℕ) (gs : List Group) (t : Stage) → t.depth ≡ 0 → (stage_behind t (groups_lines n gs)).depth ≡ 0
groups_depth n [] t none = none
groups_depth n (g ∷ gs) t none =
    ap (λ (u : Stage). u.depth) (stage_join t (group_lines n g) (groups_lines (n + 1) gs)) ∙ groups_depth (n + 1) gs (stage_behind t (group_lines n g)) (statement_depth g.body entered)

-- behind a plan's lines no block is open
pub plan_depth : (p : Plan) → (stage_behind outside (plan_lines p)).depth ≡ 0
plan_depth p = groups_depth 0 p.groups outside refl

-- ---- a `publish` more

abbrev appended : Statements → Statements
appended Empty = Then (Publish 0) Empty
appended (Then a more) = Then a (appended more)

abbrev published_body : Statement → Statement
published_body (Seq all) = Seq (appended all)
published_body s = s

-- behind the last group
abbrev pub published : List Group → List Group
published [] = []
published (g ∷ []) = record { function = g.function; region = g.region; grid = g.grid; body = published_body g.body } ∷ []
published (g ∷ h ∷ gs) = g ∷ published (h ∷ gs)

appended_lines : (all : Statements) → block_lines (appended all) ≡ block_lines all ++ PublishLine 0 ∷ []
appended_lines Empty = refl
appended_lines (Then a more) = ap (λ ls. statement_lines a ++ ls) (appended_lines more) ∙ sym (append_assoc (statement_lines a) (block_lines more) (PublishLine 0 ∷ []))

appended_single : (all : Statements) → are_single all ≡ true → are_single (appended all) ≡ true
appended_single Empty fine = refl
appended_single (Then a more) fine = let parts = both (is_single a) (are_single more) fine in rw (parts.0, appended_single more parts.1) refl

record BodyPublished (b : Statement) : Type 0 where
  lines : statement_lines (published_body b) ≡ statement_lines b ++ PublishLine 0 ∷ []
  block : is_block (published_body b) ≡ true

body_published : (b : Statement) → is_block b ≡ true → BodyPublished b
body_published (Seq all) fine = record { lines = appended_lines all; block = appended_single all fine }
body_published (For i x kind b) fine = absurd cc
body_published (Let i pick forms) fine = absurd cc
body_published (First i a b) fine = absurd cc
body_published (Guard low high b) fine = absurd cc
body_published (Alloc m f places) fine = absurd cc
body_published (Fetch m g region) fine = absurd cc
body_published (Store m k at e) fine = absurd cc
body_published (Publish c) fine = absurd cc

pub record GroupsPublished (n : ℕ) (gs : List Group) : Type 0 where
  pub lines : groups_lines n (published gs) ≡ groups_lines n gs ++ PublishLine 0 ∷ []
  pub blocks : list_all has_block (published gs) ≡ true

pub groups_published : (n : ℕ) (g : Group) (gs : List Group) → list_all has_block (g ∷ gs) ≡ true → GroupsPublished n (g ∷ gs)
groups_published n g [] fine =
    let b = body_published g.body (both (has_block g) true fine).0 in
    let first = GroupLine n g.function g.region g.grid in
    record {
      lines = ap (λ ls. (first ∷ ls) ++ []) b.lines ∙ append_assoc (first ∷ statement_lines g.body) (PublishLine 0 ∷ []) [] ∙ sym (append_assoc (first ∷ statement_lines g.body) [] (PublishLine 0 ∷ []));
      blocks = rw b.block refl;
    }
groups_published n g (h ∷ gs) fine =
    let parts = both (has_block g) (list_all has_block (h ∷ gs)) fine in
    let more = groups_published (n + 1) h gs parts.1 in
    record {
      lines = ap (λ ls. group_lines n g ++ ls) more.lines ∙ sym (append_assoc (group_lines n g) (groups_lines (n + 1) (h ∷ gs)) (PublishLine 0 ∷ []));
      blocks = rw (parts.0, more.blocks) refl;
    }

-- ---- lines that may stand anywhere

abbrev pub is_steady : Line → Bool
is_steady (PlanLine name) = true
is_steady (InputLine d) = true
is_steady (OutputLine d) = true
is_steady ElseLine = true
is_steady EndLine = true
is_steady _ = false

pub steady_placed : (ls : List Line) → list_all is_steady ls ≡ true → (s : Stage) (more : List Line) → placed s (ls ++ more) ≡ placed (stage_behind s ls) more
steady_placed [] h s more = refl
steady_placed (PlanLine name ∷ ls) h s more = steady_placed ls h s more
steady_placed (InputLine d ∷ ls) h s more = steady_placed ls h s more
steady_placed (OutputLine d ∷ ls) h s more = steady_placed ls h s more
steady_placed (GroupLine n f region grid ∷ ls) h s more = absurd cc
steady_placed (ForLine i x kind ∷ ls) h s more = absurd cc
steady_placed (LetLine i pick forms ∷ ls) h s more = absurd cc
steady_placed (FirstLine i ∷ ls) h s more = absurd cc
steady_placed (ElseLine ∷ ls) h s more = steady_placed ls h s more
steady_placed (GuardLine low high ∷ ls) h s more = absurd cc
steady_placed (EndLine ∷ ls) h s more = steady_placed ls h (stage_after EndLine s) more
steady_placed (AllocLine m f places ∷ ls) h s more = absurd cc
steady_placed (FetchLine m g region ∷ ls) h s more = absurd cc
steady_placed (StoreLine m k at v ∷ ls) h s more = absurd cc
steady_placed (PublishLine c ∷ ls) h s more = absurd cc
