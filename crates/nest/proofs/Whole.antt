-- What is written of a plan is its lines.
use Rattle.std.proofs.Common.{◌≡◌, ℕ, zero, suc, ◌+◌, ◌<◌, List, [], ◌∷◌, ◌++◌, length, map, take, get_or, refl, sym, ap, ◌∙◌, append_assoc, arith}
use Rattle.std.specs.Prelude.{codes}
use Rattle.std.proofs.lemmas.List.{append-nil, map-append, take_more}
use Rattle.plan.specs.declared.stmt.Stmt.{Stmt}
use Rattle.plan.specs.declared.plan.Group.{Group as CodeGroup}
use Rattle.plan.specs.View.{statement_of, group_of}
use Rattle.plan.specs.Lists.{list_statements, list_groups}
use Rattle.plan.specs.Plan.{Statement, Seq, For, Let, First, Guard, Alloc, Fetch, Store, Publish, Statements, Empty, Then, Group, Plan, block}
use Rattle.spelling.specs.Lines.Lines.{whole_line, lines_text}
use Rattle.nest.specs.Blocks.Line.{Line, ElseLine, EndLine}
use Rattle.nest.specs.Blocks.Flat.{statement_lines, block_lines, group_lines, groups_lines, plan_lines}
use Rattle.nest.specs.Spelling.{line_text, input_text, output_text, group_text, for_text, let_text, first_text, guard_text, alloc_text, fetch_text, store_text, publish_text}
use Rattle.nest.specs.Writing as w

abbrev written : List Line → List ℕ
written ls = lines_text (map line_text ls)

written_join : (a b : List Line) → written (a ++ b) ≡ written a ++ written b
written_join [] b = refl
written_join (l ∷ a) b = ap (λ (x : List ℕ). whole_line (line_text l) ++ x) (written_join a b) ∙ sym (append_assoc (whole_line (line_text l)) (written a) (written b))

-- a line before others
line_first : (text rest : List ℕ) → whole_line text ++ rest ≡ text ++ (codes "\n" ++ rest)
line_first text rest = append_assoc text (10 ∷ []) rest

mutual
  pub statement_written : (s : Statement) → written (statement_lines s) ≡ w.statement_text s
  statement_written (Seq all) = block_written all
  statement_written (For i x kind b) =
      line_first (for_text i x kind) (written (statement_lines b ++ EndLine ∷ []))
      ∙ ap (λ (t : List ℕ). for_text i x kind ++ (codes "\n" ++ t)) (written_join (statement_lines b) (EndLine ∷ []) ∙ ap (λ (t : List ℕ). t ++ codes "end\n") (statement_written b))
  statement_written (Let i pick forms) = append-nil (let_text i pick forms ++ codes "\n")
  statement_written (First i a b) =
      line_first (first_text i) (written (statement_lines a ++ (ElseLine ∷ (statement_lines b ++ EndLine ∷ []))))
      ∙ ap (λ (t : List ℕ). first_text i ++ (codes "\n" ++ t))
      (written_join (statement_lines a) (ElseLine ∷ (statement_lines b ++ EndLine ∷ []))
      ∙ ap (λ (t : List ℕ). t ++ (codes "else\n" ++ written (statement_lines b ++ EndLine ∷ []))) (statement_written a)
      ∙ ap (λ (t : List ℕ). w.statement_text a ++ (codes "else\n" ++ t)) (written_join (statement_lines b) (EndLine ∷ []) ∙ ap (λ (t : List ℕ). t ++ codes "end\n") (statement_written b)))
  statement_written (Guard low high b) =
      line_first (guard_text low high) (written (statement_lines b ++ EndLine ∷ []))
      ∙ ap (λ (t : List ℕ). guard_text low high ++ (codes "\n" ++ t)) (written_join (statement_lines b) (EndLine ∷ []) ∙ ap (λ (t : List ℕ). t ++ codes "end\n") (statement_written b))
  statement_written (Alloc b f places) = append-nil (alloc_text b f places ++ codes "\n")
  statement_written (Fetch b g region) = append-nil (fetch_text b g region ++ codes "\n")
  statement_written (Store b k at e) = append-nil (store_text b k at e ++ codes "\n")
  statement_written (Publish c) = append-nil (publish_text c ++ codes "\n")

  pub block_written : (all : Statements) → written (block_lines all) ≡ w.block_text all
  block_written Empty = refl
  block_written (Then a rest) =
      written_join (statement_lines a) (block_lines rest) ∙ ap (λ (t : List ℕ). t ++ written (block_lines rest)) (statement_written a) ∙ ap (λ (t : List ℕ). w.statement_text a ++ t) (block_written rest)

pub groups_written : (n : ℕ) (gs : List Group) → written (groups_lines n gs) ≡ w.groups_text n gs
groups_written n [] = refl
groups_written n (g ∷ gs) =
    written_join (group_lines n g) (groups_lines (n + 1) gs)
    ∙ ap (λ (t : List ℕ). t ++ written (groups_lines (n + 1) gs)) (line_first (group_text n g.function g.region g.grid) (written (statement_lines g.body)) ∙ ap (λ (t : List ℕ). group_text n g.function g.region g.grid ++ (codes "\n" ++ t)) (statement_written g.body))
    ∙ ap (λ (t : List ℕ). w.whole_group_text n g ++ t) (groups_written (n + 1) gs)

-- the head before the groups
head_and_groups : (p : Plan) → w.plan_text p ≡ codes "plan 1 " ++ (p.name ++ (codes "\n" ++ (input_text p.input ++ (codes "\n" ++ (output_text p.output ++ (codes "\n" ++ w.groups_text 0 p.groups))))))
head_and_groups p =
    let groups = w.groups_text 0 p.groups in
    let four = output_text p.output ++ codes "\n" in
    let three = input_text p.input ++ (codes "\n" ++ four) in
    append_assoc (codes "plan 1 ") (p.name ++ (codes "\n" ++ three)) groups
    ∙ ap (λ (t : List ℕ). codes "plan 1 " ++ t) (append_assoc p.name (codes "\n" ++ three) groups)
    ∙ ap (λ (t : List ℕ). codes "plan 1 " ++ (p.name ++ (codes "\n" ++ t))) (append_assoc (input_text p.input) (codes "\n" ++ four) groups ∙ ap (λ (t : List ℕ). input_text p.input ++ (codes "\n" ++ t)) (append_assoc (output_text p.output) (codes "\n") groups))

-- one more of a list
block_more : (xs : List Statement) (s : Statement) → w.block_text (block (xs ++ s ∷ [])) ≡ w.block_text (block xs) ++ w.statement_text s
block_more [] s = append-nil (w.statement_text s)
block_more (x ∷ xs) s = ap (λ (t : List ℕ). w.statement_text x ++ t) (block_more xs s) ∙ sym (append_assoc (w.statement_text x) (w.block_text (block xs)) (w.statement_text s))

pub more_statements : (xs : List Stmt) (i : ℕ) (x : Stmt) → i < length xs → x ≡ get_or xs i x →
    w.block_text (block (list_statements (take (i + 1) xs))) ≡ w.block_text (block (list_statements (take i xs))) ++ w.statement_text (statement_of x)
more_statements xs i x h is =
    ap (λ l. w.block_text (block (list_statements l))) (take_more xs i x h ∙ ap (λ y. take i xs ++ y ∷ []) (sym is))
    ∙ ap (λ l. w.block_text (block l)) (map-append statement_of (take i xs) (x ∷ []))
    ∙ block_more (list_statements (take i xs)) (statement_of x)

groups_more : (n : ℕ) (xs : List Group) (g : Group) → w.groups_text n (xs ++ g ∷ []) ≡ w.groups_text n xs ++ w.whole_group_text (n + length xs) g
groups_more n [] g = append-nil (w.whole_group_text n g) ∙ ap (λ k. w.whole_group_text k g) (omega arith)
groups_more n (x ∷ xs) g =
    ap (λ (t : List ℕ). w.whole_group_text n x ++ t) (groups_more (n + 1) xs g)
    ∙ sym (append_assoc (w.whole_group_text n x) (w.groups_text (n + 1) xs) (w.whole_group_text (n + 1 + length xs) g))
    ∙ ap (λ k. (w.whole_group_text n x ++ w.groups_text (n + 1) xs) ++ w.whole_group_text k g) (omega arith)

taken_count : (xs : List CodeGroup) (i : ℕ) → i < length xs → length (list_groups (take i xs)) ≡ i
taken_count [] zero h = absurd (omega arith)
taken_count [] (suc i) h = absurd (omega arith)
taken_count (x ∷ xs) zero h = refl
taken_count (x ∷ xs) (suc i) h = ap suc (taken_count xs i (omega arith))

pub more_groups : (xs : List CodeGroup) (i : ℕ) (x : CodeGroup) → i < length xs → x ≡ get_or xs i x →
    w.groups_text 0 (list_groups (take (i + 1) xs)) ≡ w.groups_text 0 (list_groups (take i xs)) ++ w.whole_group_text i (group_of x)
more_groups xs i x h is =
    ap (λ l. w.groups_text 0 (list_groups l)) (take_more xs i x h ∙ ap (λ y. take i xs ++ y ∷ []) (sym is))
    ∙ ap (w.groups_text 0) (map-append group_of (take i xs) (x ∷ []))
    ∙ groups_more 0 (list_groups (take i xs)) (group_of x)
    ∙ ap (λ k. w.groups_text 0 (list_groups (take i xs)) ++ w.whole_group_text k (group_of x)) (omega (arith, taken_count xs i h))

-- a plan's lines, as they are written
pub plan_written : (p : Plan) → written (plan_lines p) ≡ w.plan_text p
plan_written p =
    line_first (codes "plan 1 " ++ p.name) (whole_line (input_text p.input) ++ (whole_line (output_text p.output) ++ written (groups_lines 0 p.groups)))
    ∙ append_assoc (codes "plan 1 ") p.name (codes "\n" ++ (whole_line (input_text p.input) ++ (whole_line (output_text p.output) ++ written (groups_lines 0 p.groups))))
    ∙ ap (λ (t : List ℕ). codes "plan 1 " ++ (p.name ++ (codes "\n" ++ t)))
    (line_first (input_text p.input) (whole_line (output_text p.output) ++ written (groups_lines 0 p.groups))
    ∙ ap (λ (t : List ℕ). input_text p.input ++ (codes "\n" ++ t)) (line_first (output_text p.output) (written (groups_lines 0 p.groups)) ∙ ap (λ (t : List ℕ). output_text p.output ++ (codes "\n" ++ t)) (groups_written 0 p.groups)))
    ∙ sym (head_and_groups p)
