-- What is wrong with the lines of groups, in the words of the file format.
use Rattle.std.specs.Prelude.{◌≡◌, ℕ, suc, ◌+◌, ◌^◌, ◌<◌, ◌≤◌, true, false, List, [], ◌∷◌, take, drop, map, length, MatchOption, Contains, slice_get, ◌⊎◌}
use Rattle.std.specs.List.{Any, list_all}
use Rattle.tree.specs.Term.{Term, Number, Name, Call, Minus, Binary, Clamp, Cast, Choice, Terms, End, More, Test, Compares, Fails, Both, Either}
use Rattle.tree.specs.Typing.{index_count}
use Rattle.meaning.specs.Algorithm.{Algorithm}
use Rattle.meaning.specs.Conditions.{is_variable}
use Rattle.meaning.specs.Inlining.PutIn.{put_in, calls_updates}
use Rattle.plan.specs.declared.stmt.Places.{Places}
use Rattle.plan.specs.declared.stmt.Places.TheVariants.{From, Folded}
use Rattle.plan.specs.Plan.{Index, At, Found, Coordinate, Statement, Seq, For, Let, First, Guard, Alloc, Fetch, Store, Publish, Group, Plan}
use Rattle.plan.specs.Certificate.Certificate.{Certificate}
use Rattle.plan.specs.Certificate.Cells.{piece_count}
use Rattle.headline.specs.Sound.{publishes}
use Rattle.lin.specs.declared.span.Span1.{Span1}
use Rattle.plan.specs.Semantics.Run.{Source, Input, ByClaim, Unknown}
use Rattle.soundness.specs.Origins.{Outline}
use Rattle.soundness.specs.Given.{outline_of}
use Rattle.soundness.specs.Obligations.{is_form}
use Rattle.validation.specs.Stored.Sizes.{is_small}
use Rattle.validation.specs.Stored.Definitions.{parts_named, Definition, Pure, Step, definition_in, function_in, stored_in}
use Rattle.validation.specs.Stored.Stored.{as_read, index_is_small}
use Rattle.validation.specs.Groups.Inside.{Begins, StandsIn}
use Rattle.validation.specs.Groups.Lines.{Here}
use Rattle.validation.specs.Groups.Sizes.{product, place_count, extent_of}
use Rattle.validation.specs.Wide.{IsWide, SpanIsWide, RegionIsWide, IsUnlisted, SpanIsUnlisted, RegionIsUnlisted, NamesOther, SpanNamesOther, RegionNamesOther, IsLarge}
use Rattle.validation.specs.declared.stored.lines.GroupLines.{GroupLines}

-- ---- K2

-- no function has this name, or it has another number of variables
abbrev pub LacksVariables : Algorithm → List ℕ → ℕ → Type 0
LacksVariables a name n = MatchOption (parts_named a name) (Unit {0}) (λ f. ¬ (length f.variables ≡ n))

-- a symbol of a buffer's origin, or of the form of a coordinate, is none of these
abbrev pub OriginNamesOther : List ℕ → Places → Type 0
OriginNamesOther symbols (From form n) = NamesOther symbols form
OriginNamesOther symbols (Folded n) = ⊥

abbrev pub IndexNamesOther : List ℕ → Index → Type 0
IndexNamesOther symbols (At form) = NamesOther symbols form
IndexNamesOther symbols (Found e) = ⊥

-- the line is not behind the line `group` and before the next group
abbrev pub IsOutside : GroupLines → ℕ → Type 0
IsOutside group line = (line ≤ group.first) ⊎ (group.behind ≤ line)

-- the coordinates are for the function's variables, in their order, and then for the update's reduction variables
abbrev pub HasNames : Definition → List Coordinate → Type 0
HasNames (Pure f) at = map (λ x. x.variable) at ≡ f.variables
HasNames (Step f u) at = (map (λ x. x.variable) (take (length f.variables) at) ≡ f.variables) × (map (λ x. x.variable) (drop (length f.variables) at) ≡ map (λ d. d.variable) u.ranges)

-- an expression has a variable of this kind, or a call by a name and with a number of indices of that kind
module _ (IsName : List ℕ → Type 0) (IsCall : List ℕ → ℕ → Type 0) where
  abbrev mutual
    pub Mentions : Term → Type 0
    Mentions (Number t n) = ⊥
    Mentions (Name name) = IsName name
    Mentions (Call name at) = IsCall name (index_count at) ⊎ SomeMentions at
    Mentions (Minus a) = Mentions a
    Mentions (Binary op a b) = Mentions a ⊎ Mentions b
    Mentions (Clamp a l h) = Mentions a ⊎ (Mentions l ⊎ Mentions h)
    Mentions (Cast t a) = Mentions a
    Mentions (Choice c a b) = TestMentions c ⊎ (Mentions a ⊎ Mentions b)

    pub TestMentions : Test → Type 0
    TestMentions (Compares by a b) = Mentions a ⊎ Mentions b
    TestMentions (Fails c) = TestMentions c
    TestMentions (Both c d) = TestMentions c ⊎ TestMentions d
    TestMentions (Either c d) = TestMentions c ⊎ TestMentions d

    pub SomeMentions : Terms → Type 0
    SomeMentions End = ⊥
    SomeMentions (More a rest) = Mentions a ⊎ SomeMentions rest

  abbrev pub IndexMentions : Index → Type 0
  IndexMentions (At form) = ⊥
  IndexMentions (Found e) = Mentions e

-- no coordinate is for the variable
abbrev pub IsUnnamed : List Coordinate → List ℕ → Type 0
IsUnnamed at name = ¬ Any (λ x. x.variable ≡ name) at

module _ (a : Algorithm) (p : Plan) (c : Certificate) (g : Group) (outline : Outline) where
  -- what is called is neither the input with its number of extents, nor by a claim of the group, of a function with so many variables
  abbrev pub IsUnknownSource : GroupLines → Source → ℕ → Type 0
  IsUnknownSource group Input n = ¬ (length p.input.extents ≡ n)
  IsUnknownSource group (ByClaim k) n = IsOutside group (outline.claim k).line ⊎ LacksVariables a (outline.claim k).function n
  IsUnknownSource group Unknown n = Unit {0}

  abbrev pub IsUnknownCall : GroupLines → List ℕ → ℕ → Type 0
  IsUnknownCall group name n = IsUnknownSource group (outline.source name) n

  -- of a known definition: its variables, the buffer's dimensions, symbols, and variables and calls of the expressions
  abbrev pub StoresUnknown : Here → ℕ → List Coordinate → Term → Definition → Type 0
  StoresUnknown here b at e d =
      ¬ HasNames d at ⊎ (¬ (outline.setting.dimensions b ≡ length (function_in d).variables)
      ⊎ (Any (λ x. IndexNamesOther here.symbols x.index) at
      ⊎ (Any (λ x. IndexMentions (IsUnnamed at) (IsUnknownCall here.group) x.index) at ⊎ Mentions (IsUnnamed at) (IsUnknownCall here.group) e)))

  -- A symbol is bound that is in scope, or named that is not; a loop is none around; a buffer is not in scope; a group, function,
  -- definition or claim is unknown, or of another function or group than it is to be.
  abbrev pub NamesUnknown : Statement → Here → Type 0
  NamesUnknown (Seq all) here = ⊥
  NamesUnknown (For i x kind body) here = Contains here.symbols i ⊎ SpanNamesOther here.symbols x
  NamesUnknown (Let i pick forms) here = Contains here.symbols i ⊎ Any (NamesOther here.symbols) forms
  NamesUnknown (First i b d) here = ¬ Contains here.loops i
  NamesUnknown (Guard low high body) here = NamesOther here.symbols low ⊎ NamesOther here.symbols high
  NamesUnknown (Alloc b f places) here = LacksVariables a f (length places) ⊎ Any (OriginNamesOther here.symbols) places
  NamesUnknown (Fetch b h region) here =
      ¬ Contains here.buffers b ⊎ ((length p.groups ≤ h) ⊎ (¬ (outline.setting.group_function h ≡ outline.setting.buffer_function b)
      ⊎ (LacksVariables a (outline.setting.group_function h) (length region) ⊎ RegionNamesOther here.symbols region)))
  NamesUnknown (Store b k at e) here =
      ¬ Contains here.buffers b ⊎ MatchOption (definition_in (parts_named a (outline.setting.buffer_function b)) k) (Unit {0}) (StoresUnknown here b at e)
  NamesUnknown (Publish k) here = MatchOption (slice_get c.claims k) (Unit {0}) (λ x. IsOutside here.group x.line ⊎ ¬ (x.function ≡ g.function))

-- an earlier group is of the function; that is unknown, or has another number of variables; or the region names a symbol
abbrev pub GroupNamesUnknown : Algorithm → Plan → ℕ → Group → Type 0
GroupNamesUnknown a p n g = Any (λ h. h.function ≡ g.function) (take n p.groups) ⊎ (LacksVariables a g.function (length g.region) ⊎ RegionNamesOther [] g.region)

-- what the line names is unknown or out of scope
abbrev pub IsUnknownAt : Algorithm → Plan → Certificate → ℕ → Type 0
IsUnknownAt a p c line = Begins p (GroupNamesUnknown a p) line ⊎ StandsIn p (λ n g s here. NamesUnknown a p c g (outline_of p c n g) s here) line

-- ---- K3

-- a buffer's origin, and the form of a coordinate
abbrev pub OriginIsWide : Places → Type 0
OriginIsWide (From form n) = IsWide form
OriginIsWide (Folded n) = ⊥

abbrev pub IndexIsWide : Index → Type 0
IndexIsWide (At form) = IsWide form
IndexIsWide (Found e) = ⊥

-- one of the line's forms is out of the limits of linear forms
abbrev pub HasWide : Statement → Type 0
HasWide (For i x kind body) = SpanIsWide x
HasWide (Let i pick forms) = Any IsWide forms
HasWide (Guard low high body) = IsWide low ⊎ IsWide high
HasWide (Alloc b f places) = Any OriginIsWide places
HasWide (Fetch b g region) = RegionIsWide region
HasWide (Store b k at e) = Any (λ x. IndexIsWide x.index) at
HasWide _ = ⊥

-- a form of the line is out of the limits: of a line `group`, or of a line behind one
abbrev pub IsWideAt : Plan → ℕ → Type 0
IsWideAt p line = Begins p (λ n g. RegionIsWide g.region) line ⊎ StandsIn p (λ n g s here. HasWide s) line

-- ---- K14

-- an expression by which a coordinate is found
abbrev pub IndexIsLarge : Index → Type 0
IndexIsLarge (At form) = ⊥
IndexIsLarge (Found e) = IsLarge e

-- folded by none
abbrev pub FoldsNone : Places → Type 0
FoldsNone (From form n) = ⊥
FoldsNone (Folded n) = n ≡ 0

-- Each end of a span has one to four forms. Folds are by one or more, and buffers up to a line have 2^22 places at most. A
-- symbol or a buffer is one of 256. A fetch stands before loops, choices, guards and stores. Stored expressions are small. What
-- publishes is the last line of its group.
abbrev pub PassesLimit : Statement → Here → Type 0
PassesLimit (For i x kind body) here = SpanIsUnlisted x ⊎ (256 ≤ here.bound)
PassesLimit (Let i pick forms) here = IsUnlisted forms ⊎ (256 ≤ here.bound)
PassesLimit (Alloc b f places) here = Any FoldsNone places ⊎ ((2 ^ 22 < here.used + product (map place_count places)) ⊎ (256 ≤ here.held))
PassesLimit (Fetch b h region) here = (here.fetching ≡ false) ⊎ RegionIsUnlisted region
PassesLimit (Store b k at e) here = IsLarge e ⊎ Any (λ x. IndexIsLarge x.index) at
PassesLimit (Publish k) here = here.last ≡ false
PassesLimit _ here = ⊥

-- an end of a group's region has no form or more than four, or the span has no number or more than 8192
abbrev pub PassesExtent : Span1 → Type 0
PassesExtent x = SpanIsUnlisted x ⊎ ((extent_of x ≡ 0) ⊎ (8192 < extent_of x))

-- how many cells and pieces groups have
abbrev pub cells_of : List Group → ℕ
cells_of [] = 0
cells_of (g ∷ rest) = product (map extent_of g.region) + cells_of rest

abbrev pub pieces_of : List Group → ℕ
pieces_of [] = 0
pieces_of (g ∷ rest) = piece_count g.grid + pieces_of rest

-- groups up to the one of this number have 2^24 cells and 2^20 pieces at most, and each publishes; its grid has 256 symbols at most
abbrev pub GroupPassesLimit : Plan → ℕ → Group → Type 0
GroupPassesLimit p n g =
    Any PassesExtent g.region ⊎ ((2 ^ 24 < cells_of (take (suc n) p.groups)) ⊎ ((2 ^ 20 < pieces_of (take (suc n) p.groups)) ⊎ ((publishes g.body ≡ false) ⊎ (256 < length g.grid))))

-- a limit of the format is passed at the line
abbrev pub PassesLimitAt : Plan → ℕ → Type 0
PassesLimitAt p line = Begins p (GroupPassesLimit p) line ⊎ StandsIn p (λ n g. PassesLimit) line

-- ---- K12

module _ (a : Algorithm) (p : Plan) (outline : Outline) where
  -- with each load read as a call of its claim's function, the expression is the other one with the calls of unstored functions put
  -- in, none of which has updates
  pub record IsPutIn (d e : Term) : Type 0 where
    pub plain : calls_updates a (stored_in a p) d ≡ false
    pub same : as_read outline e ≡ put_in a (stored_in a p) d

  -- a coordinate is given as the left index asks: by a form where that is the variable alone, else by the index
  abbrev pub IsLeft : List ℕ → Term → Index → Type 0
  IsLeft v d (At l) = is_variable v d ≡ true
  IsLeft v d (Found e) = (is_variable v d ≡ false) × IsPutIn d e

  abbrev pub AreLeft : List (List ℕ) → List Term → List Coordinate → Type 0
  AreLeft [] [] [] = Unit {0}
  AreLeft (v ∷ vs) (d ∷ ds) (c ∷ cs) = IsLeft v d c.index × AreLeft vs ds cs
  AreLeft _ _ _ = ⊥

  -- each coordinate is given by a form
  abbrev pub AreForms : List Coordinate → Type 0
  AreForms at = list_all is_form at ≡ true

  -- what is stored is the definition: a pure one at forms, an update at its left side and a form for each reduction variable
  abbrev pub IsDefinition : Definition → List Coordinate → Term → Type 0
  IsDefinition (Pure f) at e = AreForms at × IsPutIn f.value e
  IsDefinition (Step f u) at e = AreLeft f.variables u.at (take (length f.variables) at) × (AreForms (drop (length f.variables) at) × IsPutIn u.value e)

  -- the line stores small expressions at the number of a known definition, which they are not
  abbrev pub StoresAnother : Statement → Type 0
  StoresAnother (Store b k at e) =
      (is_small e ≡ true) × (list_all (λ x. index_is_small x.index) at ≡ true)
      × MatchOption (definition_in (parts_named a (outline.setting.buffer_function b)) k) ⊥ (λ d. ¬ IsDefinition d at e)
  StoresAnother _ = ⊥

-- at the line something else is stored than the definition
abbrev pub IsNotDefinitionAt : Algorithm → Plan → Certificate → ℕ → Type 0
IsNotDefinitionAt a p c line = StandsIn p (λ n g s here. StoresAnother a p (outline_of p c n g) s) line
