-- What a piece does where functions are computed inside its loops: at each place of a nest the buffers of those that are stored there, then the nests of
-- those that are computed there, and then what the nest itself does. Symbols, buffers and claims are numbered in the order of the lines.
use Rattle.std.specs.Prelude.{ℕ, ◌+◌, ◌-◌, ◌==◌, Bool, true, false, List, [], ◌∷◌, ◌++◌, length, map, Option, Some, None, slice_get}
use Rattle.std.specs.Option.{option_map}
use Rattle.tree.specs.Term.{Term}
use Rattle.tree.specs.Substitution.{with_calls}
use Rattle.lin.specs.Forms.{Form}
use Rattle.lin.specs.declared.scope.Binding.{Binding}
use Rattle.lin.specs.declared.span.Span1.{Span1}
use Rattle.plan.specs.declared.stmt.Places.{Places}
use Rattle.plan.specs.declared.certificate.cert.Need.{Need}
use Rattle.plan.specs.declared.certificate.cert.Window.{Window}
use Rattle.plan.specs.Certificate.Certificate.{Claim}
use Rattle.plan.specs.Plan.{Index, At, Found, Coordinate, Statement, Seq, For, Let, Guard, Store, block}
use Rattle.sched.specs.declared.skeleton.Step.{Step}
use Rattle.sched.specs.declared.skeleton.Step.TheVariants.{Turns, Named, Tested}
use Rattle.sched.specs.Skeleton.{NestText, nest_seen}
use Rattle.sched.specs.Standing.{◌>>=◌}
use Rattle.sched.specs.declared.hosts.Host.{Host}
use Rattle.sched.specs.declared.hosts.Host.TheVariants.{Own, Inner as Inside, Later as Anew}
use Rattle.sched.specs.declared.hosts.Spot.{Spot}
use Rattle.sched.specs.declared.hosts.Inner.{Inner}
use Rattle.sched.specs.declared.hosts.Later.{Later}
use Rattle.sched.specs.Stored.{FormulaText, StoredText, formula_of, stored_of}
use Rattle.sched.specs.Loading.{Loads, as_load}
use Rattle.sched.specs.Around.{names_with}
use Rattle.sched.specs.Bodies.{first_left, other_lefts}
use Rattle.sched.specs.Renamed.{Pairs, region_renamed, step_renamed, coordinates_renamed}

-- ---- what is placed

-- the turns after the first one of a function that slides: the symbol of the loop and the dimension along which it does, the forms of which the least is the first
-- new number, the symbol that stands for that, what stands around its nests over what is new, what that is, and these
pub record LaterText : Type 0 where
  pub symbol : ℕ
  pub dimension : ℕ
  pub first_new : List Form
  pub new : ℕ
  pub scope : List Binding
  pub region : List Span1
  pub nests : List NestText

-- a function that is computed inside loops: where, and where its buffer stands, with its places; what is needed of it there, and of what its claims speak; the lets
-- before its nests, what stands around these, and the nests
pub record PlacedText : Type 0 where
  pub function : StoredText
  pub formulas : List FormulaText
  pub home : Spot
  pub store : Spot
  pub places : List Places
  pub region : List Span1
  pub claimed : List Span1
  pub lets : List Step
  pub scope : List Binding
  pub nests : List NestText
  pub later : Option LaterText
  pub fits : Bool
  pub is_small : Bool

-- the function whose nests are made: which of the nests they are, of what its claims speak, and its buffer
pub record OwnerText : Type 0 where
  pub host : Host
  pub function : StoredText
  pub formulas : List FormulaText
  pub claimed : List Span1
  pub buffer : ℕ

-- ---- what is made so far

-- the line of the next statement, the next symbol, buffer and claim, by which claims functions are loaded, the buffers of placed functions, and what the
-- certificate says
pub record SoFar : Type 0 where
  pub line : ℕ
  pub symbol : ℕ
  pub buffer : ℕ
  pub claim : ℕ
  pub loads : Loads
  pub seats : Pairs
  pub needs : List Need
  pub claims : List Claim
  pub windows : List Window

-- statements, and what is made with them; None where forms leave their limits
abbrev pub Made : Type 0
Made = Option (List Statement × SoFar)

abbrev pub with_lines : ℕ → SoFar → SoFar
with_lines n p = record p { line = p.line + n }

-- the next symbol is the name of one that is bound
abbrev pub with_symbol : Option ℕ → SoFar → SoFar
with_symbol None p = p
with_symbol (Some s) p = record p { symbol = p.symbol + 1 }

abbrev pub with_name : Option ℕ → ℕ → Pairs → Pairs
with_name None name m = m
with_name (Some s) name m = m ++ (s, name) ∷ []

-- ---- statements

abbrev pub bound_by : Step → Option ℕ
bound_by (Turns i x kind) = Some i
bound_by (Named i pick forms) = Some i
bound_by (Tested low high) = None

-- a loop or a guard around what follows, or a let in front of it
abbrev pub around : Step → List Statement → List Statement
around (Turns i x kind) xs = For i x kind (Seq (block xs)) ∷ []
around (Named i pick forms) xs = Let i pick forms ∷ xs
around (Tested low high) xs = Guard low high (Seq (block xs)) ∷ []

-- a coordinate: the nest's form, or the left index with its calls as loads where that has none
abbrev pub index_by : Loads → Option Form → Option Term → Option Index
index_by ls (Some f) a = Some (At f)
index_by ls None (Some a) = Some (Found (with_calls (as_load ls) a))
index_by ls None None = None

abbrev pub coordinates_by : Loads → List (List ℕ) → List (Option Form) → List (Option Term) → Option (List Coordinate)
coordinates_by ls xs [] lefts = Some []
coordinates_by ls [] (o ∷ os) lefts = None
coordinates_by ls (x ∷ xs) (o ∷ os) lefts =
    index_by ls o (first_left lefts) >>= λ i. coordinates_by ls xs os (other_lefts lefts) >>= λ cs. Some (record { variable = x; index = i } ∷ cs)

-- the store of a definition in a buffer at these coordinates, its calls as loads
abbrev pub store_by : Loads → ℕ → List (List ℕ) → ℕ → FormulaText → List (Option Form) → Option Statement
store_by ls b xs d f at = coordinates_by ls xs at f.at >>= λ cs. Some (Store b d cs (with_calls (as_load ls) f.value))

-- of the definition of this number of a function
abbrev pub store_in : OwnerText → Loads → ℕ → List (Option Form) → Option Statement
store_in o ls d at = slice_get o.formulas d >>= λ f. store_by ls o.buffer (names_with o.function.variables o.function.changes d) d f at

abbrev pub stored : OwnerText → ℕ → NestText → Pairs → SoFar → Made
stored o d n m p = coordinates_renamed m n.at >>= λ at. store_in o p.loads d at >>= λ s. Some (s ∷ [], with_lines 1 p)

-- a claim of what the statements so far have made of a definition, by which the function is loaded from there on
abbrev pub with_claim : OwnerText → ℕ → List Span1 → SoFar → SoFar
with_claim o d r p = record p {
  claims = p.claims ++ record { line = p.line - 1; buffer = o.buffer; function = o.function.subject.name; definition = d; region = r } ∷ [];
  claim = p.claim + 1;
  loads = p.loads ++ (o.function.subject.name, p.claim) ∷ [];
}

abbrev pub claimed : OwnerText → ℕ → Pairs → SoFar → Option SoFar
claimed o d m p = region_renamed m o.claimed >>= λ r. Some (with_claim o d r p)

-- ---- places

abbrev pub same_host : Host → Host → Bool
same_host Own Own = true
same_host (Inside a) (Inside b) = a == b
same_host (Anew a) (Anew b) = a == b
same_host _ _ = false

abbrev pub same_number : Option ℕ → Option ℕ → Bool
same_number None None = true
same_number (Some a) (Some b) = a == b
same_number _ _ = false

-- ---- nests

abbrev pub spot : Host → ℕ → ℕ → Spot
spot h d depth = record { host = h; definition = Some d; depth = depth }

-- ---- functions inside

-- some lets, with the names behind them
abbrev pub lets : List Step → Pairs → SoFar → Option (List Statement × (Pairs × SoFar))
lets [] m p = Some ([], (m, p))
lets (s ∷ steps) m p = step_renamed (with_name (bound_by s) p.symbol m) s >>= λ t.
    lets steps (with_name (bound_by s) p.symbol m) (with_lines 1 (with_symbol (bound_by s) p)) >>= λ x. Some (around t x.0, x.1)

-- ---- the group's own function

-- the place before all nests of a function
abbrev pub over_grid_of : Host → Spot
over_grid_of h = record { host = h; definition = None; depth = 0 }

-- ---- as memory keeps them

abbrev pub later_seen : Later → LaterText
later_seen l = record { symbol = l.symbol; dimension = l.dimension; first_new = l.first_new; new = length l.scope - 1; scope = l.scope; region = l.region; nests = map nest_seen l.nests.items }

abbrev pub inner_seen : Inner → PlacedText
inner_seen i = record {
  function = stored_of i.root.stored.now;
  formulas = map formula_of i.root.formulas.now;
  home = i.home;
  store = i.store;
  places = i.places.items;
  region = i.region;
  claimed = i.claimed;
  lets = i.lets.items;
  scope = i.scope;
  nests = map nest_seen i.nests.items;
  later = option_map later_seen i.later;
  fits = i.fits;
  is_small = i.is_small;
}
