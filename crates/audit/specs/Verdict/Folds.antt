-- Greater folds: the same plan where buffers that are folded have more places, and its windows say so.
use Rattle.std.specs.Prelude.{◌≡◌, ℕ, zero, suc, ◌+◌, ◌-◌, ◌^◌, ◌≤◌, ◌&&◌, not, Bool, true, if◌then◌else◌, List, [], ◌∷◌, map, nat_le, nat_lt, slice_get, pos, ◌-ℤ◌}
use Rattle.std.specs.List.{list_all}
use Rattle.std.specs.Int.RustNames.{unsigned_abs}
use Rattle.lin.specs.Forms.{Form, is_zero}
use Rattle.lin.specs.declared.form.Multiple.{Multiple}
use Rattle.lin.specs.declared.span.Span1.{Span1}
use Rattle.plan.specs.declared.stmt.Places.{Places}
use Rattle.plan.specs.declared.stmt.Places.TheVariants.{From, Folded}
use Rattle.plan.specs.declared.certificate.cert.Window.{Window}
use Rattle.plan.specs.Plan.{Index, At, Found, Statement, Seq, For, Let, First, Guard, Alloc, Fetch, Store, Publish, Statements, Empty, Then, Group, Plan}
use Rattle.plan.specs.Lines.{group_lines, group_line, certificate_line}
use Rattle.plan.specs.Certificate.Certificate.{Claim, Certificate}
use Rattle.plan.specs.Certificate.Cells.{cells, pieces}
use Rattle.rules.specs.Bounding.Scopes.{most_symbols}
use Rattle.soundness.specs.Given.{claim_or_none}
use Rattle.soundness.specs.Obligations.{Binder, Ranged, Picked, Passed, Rules}
use Rattle.soundness.specs.Shown.{raised as plus}

-- ---- more places

-- a fold with so many places more; 0, which a window has whose dimension is not folded, stays 0
abbrev pub risen : ℕ → ℕ → ℕ
risen k zero = zero
risen k (suc n) = suc n + k

abbrev pub place_raised : ℕ → Places → Places
place_raised k (From l n) = From l n
place_raised k (Folded n) = Folded (risen k n)

-- in each dimension, if it is folded, so many places more
abbrev pub places_raised : (ℕ → ℕ) → List Places → List Places
places_raised more [] = []
places_raised more (x ∷ xs) = place_raised (more zero) x ∷ places_raised (λ d. more (suc d)) xs

-- the same statement with other places of its buffers
abbrev mutual
  pub with_places : (places_of : ℕ → List Places → List Places) → Statement → Statement
  with_places spots (Seq all) = Seq (block_with_places spots all)
  with_places spots (For i x kind body) = For i x kind (with_places spots body)
  with_places spots (Let i pick forms) = Let i pick forms
  with_places spots (First i a b) = First i (with_places spots a) (with_places spots b)
  with_places spots (Guard low high body) = Guard low high (with_places spots body)
  with_places spots (Alloc b f places) = Alloc b f (spots b places)
  with_places spots (Fetch b g region) = Fetch b g region
  with_places spots (Store b k at e) = Store b k at e
  with_places spots (Publish c) = Publish c

  pub block_with_places : (places_of : ℕ → List Places → List Places) → Statements → Statements
  block_with_places spots Empty = Empty
  block_with_places spots (Then a rest) = Then (with_places spots a) (block_with_places spots rest)

-- of a buffer's number and a dimension's: so many places more
abbrev pub by_more : (ℕ → ℕ → ℕ) → ℕ → List Places → List Places
by_more more b places = places_raised (more b) places

abbrev pub raised : (ℕ → ℕ → ℕ) → Statement → Statement
raised more a = with_places (by_more more) a

abbrev pub block_raised : (ℕ → ℕ → ℕ) → Statements → Statements
block_raised more all = block_with_places (by_more more) all

-- the same group, groups and plan: of a group's number, a buffer's and a dimension's, so many places more
abbrev pub group_raised : (ℕ → ℕ → ℕ) → Group → Group
group_raised more g = record { function = g.function; region = g.region; grid = g.grid; body = raised more g.body }

abbrev pub groups_raised : (ℕ → ℕ → ℕ → ℕ) → List Group → List Group
groups_raised more [] = []
groups_raised more (g ∷ gs) = group_raised (more zero) g ∷ groups_raised (λ n. more (suc n)) gs

abbrev pub plan_raised : (ℕ → ℕ → ℕ → ℕ) → Plan → Plan
plan_raised more p = record { name = p.name; input = p.input; output = p.output; groups = groups_raised more p.groups }

-- the number of the group that has the line, counted from the line of the first of these groups
abbrev pub group_with : List Group → ℕ → ℕ
group_with [] line = zero
group_with (g ∷ gs) line = if nat_lt line (group_lines g) then zero else suc (group_with gs (line - group_lines g))

-- how many places more the fold of a window has: those of its claim's buffer, in the group of the claim's line
abbrev pub window_more : (ℕ → ℕ → ℕ → ℕ) → Plan → Certificate → Window → ℕ
window_more more p c w =
    let claim = claim_or_none (slice_get c.claims w.claim) in more (group_with p.groups (claim.line - 4)) claim.buffer w.dimension

abbrev pub window_raised : (Window → ℕ) → Window → Window
window_raised by w = record { claim = w.claim; symbol = w.symbol; dimension = w.dimension; fold = risen (by w) w.fold; span = w.span }

abbrev pub certificate_raised : (ℕ → ℕ → ℕ → ℕ) → Plan → Certificate → Certificate
certificate_raised more p c = record { own = c.own; needs = c.needs; claims = c.claims; windows = map (window_raised (window_more more p c)) c.windows }

-- two plans with their certificates that differ in nothing but that folds of the second are greater, or the same: those of its lines
-- `alloc`, and with them those of the windows over these buffers
pub record IsRaised (p : Plan) (c : Certificate) (q : Plan) (d : Certificate) : Type 0 where
  pub more : (group buffer dimension : ℕ) → ℕ
  pub plan : plan_raised more p ≡ q
  pub certificate : certificate_raised more p c ≡ d

-- ---- what stays

-- both have the same cells, pieces and lines
pub record HaveTheSame (p q : Plan) : Type 0 where
  pub cells : cells p ≡ cells q
  pub pieces : pieces p ≡ pieces q
  pub lines : (n : ℕ) → group_line p n ≡ group_line q n
  pub certificate : certificate_line p ≡ certificate_line q

abbrev pub RaisedHaveTheSame : Type 0
RaisedHaveTheSame = (p : Plan) (c : Certificate) (q : Plan) (d : Certificate) → IsRaised p c q d → HaveTheSame p q

-- ---- the forms of a group's lines

-- each form passes the test
module _ (test : Form → Bool) where
  abbrev pub span_passes : Span1 → Bool
  span_passes x = list_all test x.lower && list_all test x.upper

  abbrev pub index_passes : Index → Bool
  index_passes (At l) = test l
  index_passes (Found e) = true

  -- those of claims and of windows
  abbrev pub claims_pass : Certificate → Bool
  claims_pass c = list_all (λ (k : Claim). list_all span_passes k.region) c.claims && list_all (λ (w : Window). span_passes w.span) c.windows

-- each binder of the lines passes one test, and each form of spans and places another
module _ (pass : Binder → Bool) (test : Form → Bool) where
  abbrev mutual
    pub statement_passes : Statement → Bool
    statement_passes (Seq all) = block_passes all
    statement_passes (For i x kind body) = (pass (Ranged i x) && span_passes test x) && statement_passes body
    statement_passes (Let i pick ls) = pass (Picked i pick ls)
    statement_passes (First i a b) = statement_passes a && statement_passes b
    statement_passes (Guard low high body) = pass (Passed low high) && statement_passes body
    statement_passes (Alloc b f places) = true
    statement_passes (Fetch b g region) = list_all (span_passes test) region
    statement_passes (Store b k at e) = list_all (λ c. index_passes test c.index) at
    statement_passes (Publish c) = true

    pub block_passes : Statements → Bool
    block_passes Empty = true
    block_passes (Then a rest) = statement_passes a && block_passes rest

-- ---- the numbers of folds

-- no fold has more than so many places
module _ (limit : ℕ) where
  abbrev pub place_within : Places → Bool
  place_within (From l n) = true
  place_within (Folded n) = nat_le n limit

  abbrev mutual
    pub folds_within : Statement → Bool
    folds_within (Seq all) = block_within all
    folds_within (For i x kind body) = folds_within body
    folds_within (Let i pick forms) = true
    folds_within (First i a b) = folds_within a && folds_within b
    folds_within (Guard low high body) = folds_within body
    folds_within (Alloc b f places) = list_all place_within places
    folds_within (Fetch b g region) = true
    folds_within (Store b k at e) = true
    folds_within (Publish c) = true

    pub block_within : Statements → Bool
    block_within Empty = true
    block_within (Then a rest) = folds_within a && block_within rest

  abbrev pub windows_within : Certificate → Bool
  windows_within c = list_all (λ (w : Window). nat_le w.fold limit) c.windows

-- ---- rules

-- the symbols rise, and no factor is 0
abbrev pub symbols_rise : List Multiple → Bool
symbols_rise [] = true
symbols_rise (t ∷ ts) = not (is_zero t.factor) && (list_all (λ u. nat_lt t.symbol u.symbol) ts && symbols_rise ts)

-- so it is, and the constant is at most 2^20 on either side of 0
abbrev pub is_small_form : Form → Bool
is_small_form f = symbols_rise f.terms && nat_le (unsigned_abs f.constant) (2 ^ 20)

-- the constant is at most so far from 0
abbrev pub is_near : ℕ → Form → Bool
is_near most f = nat_le (unsigned_abs f.constant) most

-- the constants of a binder's forms are, as far as is allowed of its symbol; of a guard nothing is asked
abbrev pub is_near_binder : (ℕ → ℕ) → Binder → Bool
is_near_binder most (Ranged i x) = span_passes (is_near (most i)) x
is_near_binder most (Picked i pick ls) = list_all (is_near (most i)) ls
is_near_binder most (Passed low high) = true

-- what is allowed of the first symbols together
abbrev pub together : (ℕ → ℕ) → ℕ → ℕ
together most zero = 0
together most (suc n) = together most n + most n

-- what is allowed of the constants of each symbol's binders is little together: at most 2^20 - 8 for the 256 symbols that there are
abbrev pub IsLittle : (ℕ → ℕ) → Type 0
IsLittle most = together most most_symbols ≤ 2 ^ 20 - 8

-- under binders that pass a test, of forms that pass another, and of numbers up to a limit: what is shown to be at most the last of so
-- many numbers from a form on is shown to be at most the last of more
abbrev pub Rises : ℕ → (Binder → Bool) → (Form → Bool) → Rules → Type 0
Rises limit pass test rules =
    (bs : List Binder) (a l : Form) (n k : ℕ) → list_all pass bs ≡ true → test a ≡ true → test l ≡ true → n + k ≤ limit →
    rules.at_most bs a (plus l (pos n -ℤ pos 1)) ≡ true → rules.at_most bs a (plus l (pos (n + k) -ℤ pos 1)) ≡ true
