-- The lines of a plan whose names and expressions a text can say fit the texts of plans, as far as these go.
use Rattle.std.proofs.Common.{◌≡◌, ℕ, suc, ◌+◌, ◌<◌, inl, inr, Bool, true, false, List, [], ◌∷◌, ◌++◌, length, Some, refl, sym, subst, ◌∙◌, arith}
use Rattle.std.specs.Prelude.{◌&&◌, nat_lt, slice_get}
use Rattle.std.specs.List.{AllByRecursion, list_all}
use Rattle.std.proofs.lemmas.List.Folds.{list_all-append}
use Rattle.plan.specs.Plan.{Index, At, Found, Coordinate, Statement, Seq, For, Let, First, Guard, Alloc, Fetch, Store, Publish, Statements, Empty, Then, Group, Plan}
use Rattle.plan.specs.Certificate.Certificate.{Certificate}
use Rattle.spelling.specs.Words.Fitting.{fits_count, fits_form, fits_region, is_name}
use Rattle.spelling.specs.Sizes.Sizes.{fits_size, fits_sizes}
use Rattle.spelling.specs.Terms.Fitting.{is_called, max_brackets, fits_term}
use Rattle.nest.specs.Blocks.Line.{Line, PlanLine, InputLine, OutputLine, GroupLine, ForLine, LetLine, FirstLine, ElseLine, GuardLine, EndLine, AllocLine, FetchLine, StoreLine, PublishLine}
use Rattle.nest.specs.Blocks.Flat.{statement_lines, block_lines, groups_lines, plan_lines}
use Rattle.nest.specs.Fitting.{fits_place, fits_index, fits_coordinate, fits_line}
use Rattle.completeness.specs.SaidLines.{is_index_said, is_coordinate_said, is_line_said, has_index_numbers, has_line_numbers, PlansFitByNumbers}
use Rattle.completeness.specs.Said.{IsCalledBy, IsSaid, IsIndexSaid, IsCoordinateSaid, IsStatementSaid, AreStatementsSaid, IsGroupSaid, IsPlanSaid}
use Rattle.completeness.proofs.TermFits.{name_fits, name_is_called, load_is_called, written_fits}

-- ---- names, expressions and numbers are all that a line asks

both : (a b : Bool) → (a && b) ≡ true → (a ≡ true) × (b ≡ true)
both true b h = (refl, h)
both false b h = absurd (cc h)

index_fits : (i : Index) → is_index_said i ≡ true → elim i [ At form ↦ fits_form form | Found e ↦ true ] ≡ true → fits_index i ≡ true
index_fits (At form) said numbers = numbers
index_fits (Found e) said numbers = said

coordinates_fit : (cs : List Coordinate) → list_all is_coordinate_said cs ≡ true → list_all has_index_numbers cs ≡ true → list_all fits_coordinate cs ≡ true
coordinates_fit [] said numbers = refl
coordinates_fit (c ∷ cs) said numbers =
    let s = both (is_coordinate_said c) (list_all is_coordinate_said cs) said in
    let n = both (has_index_numbers c) (list_all has_index_numbers cs) numbers in
    let own = both (is_name c.variable) (is_index_said c.index) s.0 in
    let index = index_fits c.index own.1 n.0 in
    let rest = coordinates_fit cs s.1 n.1 in
    λ i. (own.0 i && index i) && rest i

pub line_fits : (l : Line) → is_line_said l ≡ true → has_line_numbers l ≡ true → fits_line l ≡ true
line_fits (PlanLine name) said numbers = said
line_fits (InputLine d) said numbers = λ i. said i && numbers i
line_fits (OutputLine d) said numbers = λ i. said i && numbers i
line_fits (GroupLine n f region grid) said numbers =
    let sizes = both (fits_count n && fits_region region && nat_lt 0 (length grid)) (fits_sizes grid) numbers in
    let some = both (fits_count n && fits_region region) (nat_lt 0 (length grid)) sizes.0 in
    let own = both (fits_count n) (fits_region region) some.0 in
    λ i. own.0 i && said i && own.1 i && some.1 i && sizes.1 i
line_fits (ForLine i span k) said numbers = numbers
line_fits (LetLine i p forms) said numbers = numbers
line_fits (FirstLine i) said numbers = numbers
line_fits ElseLine said numbers = refl
line_fits (GuardLine low high) said numbers = numbers
line_fits EndLine said numbers = refl
line_fits (AllocLine b f all) said numbers =
    let one = both (fits_size b) (list_all fits_place all) numbers in
    λ i. one.0 i && said i && one.1 i
line_fits (FetchLine b g region) said numbers = numbers
line_fits (StoreLine b k at e) said numbers =
    let s = both (list_all is_coordinate_said at) (fits_term e) said in
    let own = both (fits_size b && fits_size k) (list_all has_index_numbers at) numbers in
    let coordinates = coordinates_fit at s.0 own.1 in
    λ i. own.0 i && coordinates i && s.1 i
line_fits (PublishLine c) said numbers = numbers

-- ---- the lines of a plan

joined : (xs ys : List Line) → list_all is_line_said xs ≡ true → list_all is_line_said ys ≡ true → list_all is_line_said (xs ++ ys) ≡ true
joined xs ys h k = list_all-append is_line_said xs ys ∙ (λ i. h i && k i)

module _ (count : ℕ) (few : count < 10000) where
  called : (x : List ℕ) → IsCalledBy count x → is_called x ≡ true
  called x (inl h) = name_is_called x h
  called x (inr h) = subst (λ (y : List ℕ). is_called y ≡ true) (sym h.2) (load_is_called h.0 (let less : h.0 < count = h.1 in omega (arith, few, less)))

  term_fits : (e : _) → IsSaid count e → fits_term e ≡ true
  term_fits e h = written_fits (IsCalledBy count) called e max_brackets h.written h.levels

  index_is_said : (i : Index) → IsIndexSaid count i → is_index_said i ≡ true
  index_is_said (At form) h = refl
  index_is_said (Found e) h = term_fits e h

  coordinates_are_said : (cs : List Coordinate) → AllByRecursion (IsCoordinateSaid count) cs → list_all is_coordinate_said cs ≡ true
  coordinates_are_said [] h = refl
  coordinates_are_said (c ∷ cs) h =
      let variable = name_fits c.variable h.0.variable in
      let index = index_is_said c.index h.0.index in
      let rest = coordinates_are_said cs h.1 in
      λ i. (variable i && index i) && rest i

  mutual
    statement_said : (s : Statement) → IsStatementSaid count s → list_all is_line_said (statement_lines s) ≡ true
    statement_said (Seq all) h = block_said all h
    statement_said (For i x kind body) h = joined (statement_lines body) (EndLine ∷ []) (statement_said body h) refl
    statement_said (Let i pick forms) h = refl
    statement_said (First i a b) h =
        joined (statement_lines a) (ElseLine ∷ (statement_lines b ++ EndLine ∷ [])) (statement_said a h.0) (joined (statement_lines b) (EndLine ∷ []) (statement_said b h.1) refl)
    statement_said (Guard low high body) h = joined (statement_lines body) (EndLine ∷ []) (statement_said body h) refl
    statement_said (Alloc b f places) h = let name = name_fits f h in λ i. name i && true
    statement_said (Fetch b g region) h = refl
    statement_said (Store b k at e) h =
        let coordinates = coordinates_are_said at h.0 in
        let value = term_fits e h.1 in
        λ i. (coordinates i && value i) && true
    statement_said (Publish k) h = refl

    block_said : (all : Statements) → AreStatementsSaid count all → list_all is_line_said (block_lines all) ≡ true
    block_said Empty h = refl
    block_said (Then a rest) h = joined (statement_lines a) (block_lines rest) (statement_said a h.0) (block_said rest h.1)

  groups_said : (n : ℕ) (gs : List Group) → ((k : ℕ) (g : Group) → slice_get gs k ≡ Some g → IsGroupSaid count g) → list_all is_line_said (groups_lines n gs) ≡ true
  groups_said n [] h = refl
  groups_said n (g ∷ gs) h =
      let own = h 0 g refl in
      let name = name_fits g.function own.function in
      let body = statement_said g.body own.body in
      joined (GroupLine n g.function g.region g.grid ∷ statement_lines g.body) (groups_lines (n + 1) gs) (λ i. name i && body i) (groups_said (n + 1) gs (λ k u at. h (suc k) u at))

-- the names and the expressions in the plan's lines fit
pub plan_lines_said : (p : Plan) (c : Certificate) → IsPlanSaid p c → list_all is_line_said (plan_lines p) ≡ true
plan_lines_said p c h =
    let name = name_fits p.name h.name in
    let input = name_fits p.input.name h.input in
    let output = name_fits p.output.name h.output in
    let groups = groups_said (length c.claims) h.few 0 p.groups h.groups in
    λ i. name i && (input i && (output i && groups i))

lines_fit : (ls : List Line) → list_all is_line_said ls ≡ true → list_all has_line_numbers ls ≡ true → list_all fits_line ls ≡ true
lines_fit [] said numbers = refl
lines_fit (l ∷ ls) said numbers =
    let s = both (is_line_said l) (list_all is_line_said ls) said in
    let n = both (has_line_numbers l) (list_all has_line_numbers ls) numbers in
    let first = line_fits l s.0 n.0 in
    let rest = lines_fit ls s.1 n.1 in
    λ i. first i && rest i

pub plans_fit_by_numbers : PlansFitByNumbers
plans_fit_by_numbers p c shape said numbers =
    let blocks = shape.blocks in
    let form = shape.form in
    let numbered = shape.numbered in
    let lines = lines_fit (plan_lines p) (plan_lines_said p c said) numbers in
    λ i. blocks i && form i && numbered i && lines i
