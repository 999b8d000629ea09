-- The groups of a plan: one for each stored root function, in the order of declaration, over its region, with a piece for each turn of
-- its parallel loops.
-- What crates below need of it stands there: `sched`, `blocks`.
use Rattle.std.specs.Prelude.{◌≡◌, ◌⊎◌, ℕ, zero, suc, ◌+◌, Bool, true, false, not, ◌&&◌, if◌then◌else◌, List, [], ◌∷◌, ◌++◌, length, map, Option, Some, None, Result, Ok, Err}
use Rattle.std.specs.Prelude.{string_bytes}
use Rattle.std.specs.List.{list_any}
use Rattle.std.specs.Option.{option_map}
use Rattle.std.specs.Global.{Vec}
use Rattle.lin.specs.Regions.{IsInside}
use Rattle.lin.specs.declared.span.Span1.{Span1}
use Rattle.plan.specs.declared.plan.Group.{Group}
use Rattle.plan.specs.declared.certificate.cert.Own.{Own}
use Rattle.plan.specs.declared.certificate.cert.Claim.{Claim}
use Rattle.plan.specs.declared.certificate.cert.Need.{Need}
use Rattle.plan.specs.declared.certificate.cert.Window.{Window}
use Rattle.plan.specs.declared.certificate.cert.Cert.{Cert}
use Rattle.plan.specs.Plan.{Statement}
use Rattle.plan.specs.View.{statement_of}
use Rattle.plan.specs.Lines.{lines}
use Rattle.meaning.specs.Algorithm.{Algorithm}
use Rattle.sched.specs.Schedule.{Schedule}
use Rattle.sched.specs.declared.numbers.Extent.{Extent}
use Rattle.sched.specs.Skeleton.{SkeletonText}
use Rattle.lower.specs.declared.lowering.Lowered.{Lowered}
use Rattle.sched.specs.declared.hosts.Inner.{Inner}
use Rattle.lower.specs.declared.parties.Party.{Party}
use Rattle.sched.specs.declared.roots.Laid.{Laid}
use Rattle.sched.specs.Stored.{FormulaText, StoredText}
use Rattle.lower.specs.Stored.{stored_functions}
use Rattle.sched.specs.Regions.{LaidText, laid_of}
use Rattle.regions.specs.Regions.{laid_functions, skeleton_of}
use Rattle.sched.specs.Fetches.{Entry}
use Rattle.lower.specs.Asked.{laid_each, unless_same, unless}
use Rattle.lower.specs.Broken.{Inside, first_over}
use Rattle.blocks.specs.Blocks.{dimensions_of, owned_region}
use Rattle.lower.specs.Bodies.{IsBody}
use Rattle.lower.specs.Computed.{AreAllFound, AreFoundIf, AreFoundIn}
use Rattle.lower.specs.Homes.{AreAllAtHome}
use Rattle.sched.specs.Placed.{PlacedText, inner_seen}
use Rattle.lower.specs.Placed.{IsMixedBody}
use Rattle.sched.specs.Around.{grid_scope}
use Rattle.lower.specs.Heads.{IsHeadOf}
use Rattle.sched.specs.Bounded.{whole}
use Rattle.regions.specs.Faults.{are_whole}
use Rattle.blocks.specs.Groups.{grid_over, IsOver}
use Rattle.sched.specs.Groups.{root_of}

-- the group of a function: its name, the numbers of its region, and as many pieces as its parallel loops have turns over that
pub record IsGroupOf (g : StoredText) (p : Group) : Type 0 where
  pub extents : List Extent
  pub named : string_bytes p.function ≡ g.subject.name
  pub region : p.region ≡ map whole extents
  pub grid : p.grid.items ≡ grid_over g extents

-- one for each of these functions, in their order
abbrev pub AreGroupsOf : List StoredText → List Group → Type 0
AreGroupsOf [] [] = Unit {0}
AreGroupsOf [] (p ∷ ps) = ⊥
AreGroupsOf (g ∷ gs) [] = ⊥
AreGroupsOf (g ∷ gs) (p ∷ ps) = IsGroupOf g p × AreGroupsOf gs ps

-- the line of the group of this number: each point that a piece owns is one of the group's region
pub record IsOwnOf (n : ℕ) (p : Group) (o : Own) : Type 0 where
  pub numbered : o.group ≡ n
  pub inside : IsInside (grid_scope p.grid.items) o.region p.region

-- one line for each of these groups, from this number on
abbrev pub AreOwned : ℕ → List Group → List Own → Type 0
AreOwned n [] [] = Unit {0}
AreOwned n [] (o ∷ os) = ⊥
AreOwned n (p ∷ ps) [] = ⊥
AreOwned n (p ∷ ps) (o ∷ os) = IsOwnOf n p o × AreOwned (n + 1) ps os

-- what its pieces do, as the group n of these functions, whose line is this one, with its claims, of which the first has the number c, and its need lines
pub record HasBody (a : Algorithm) (all : List Entry) (n c line : ℕ) (g : StoredText) (p : Group) (claims : List Claim) (needs : List Need) : Type 0 where
  pub formulas : List FormulaText
  pub extents : List Extent
  pub skeleton : SkeletonText
  pub defined : g.formulas ≡ Some formulas
  pub region : p.region ≡ map whole extents
  pub laid : skeleton_of g formulas extents ≡ Some skeleton
  pub body : IsBody a all n c line g formulas skeleton (dimensions_of g extents skeleton) claims needs (statement_of p.body)

-- by its line a piece of the group owns its block of the region
pub record HasBlock (g : StoredText) (p : Group) (o : Own) : Type 0 where
  pub formulas : List FormulaText
  pub extents : List Extent
  pub skeleton : SkeletonText
  pub defined : g.formulas ≡ Some formulas
  pub region : p.region ≡ map whole extents
  pub laid : skeleton_of g formulas extents ≡ Some skeleton
  pub owned : o.region ≡ owned_region (dimensions_of g extents skeleton)

abbrev pub HaveBlocks : List StoredText → List Group → List Own → Type 0
HaveBlocks [] ps os = Unit {0}
HaveBlocks (g ∷ gs) [] os = ⊥
HaveBlocks (g ∷ gs) (p ∷ ps) [] = ⊥
HaveBlocks (g ∷ gs) (p ∷ ps) (o ∷ os) = HasBlock g p o × HaveBlocks gs ps os

-- the claims and need lines of a group, and behind them those of others, which are told how many claims the group has
pub record AreLines (P : List Claim → List Need → Type 0) (Q : ℕ → List Claim → List Need → Type 0) (claims : List Claim) (needs : List Need) : Type 0 where
  pub own_claims : List Claim
  pub own_needs : List Need
  pub other_claims : List Claim
  pub other_needs : List Need
  pub claimed : claims ≡ own_claims ++ other_claims
  pub needed : needs ≡ own_needs ++ other_needs
  pub here : P own_claims own_needs
  pub behind : Q (length own_claims) other_claims other_needs

-- the line behind a group, whose line is this one: it has those of its body too
abbrev pub line_behind : ℕ → Group → ℕ
line_behind line p = line + (lines (statement_of p.body) + 1)

-- each of these functions' groups, from the number n on, with all claims and need lines of theirs, one group behind another; the first claim has the number c
abbrev pub HaveBodies : Algorithm → List Entry → ℕ → ℕ → ℕ → List StoredText → List Group → List Claim → List Need → Type 0
HaveBodies a all n c line [] [] claims needs = (claims ≡ []) × (needs ≡ [])
HaveBodies a all n c line [] (p ∷ ps) claims needs = ⊥
HaveBodies a all n c line (g ∷ gs) [] claims needs = ⊥
HaveBodies a all n c line (g ∷ gs) (p ∷ ps) claims needs =
    AreLines (HasBody a all n c line g p) (λ m. HaveBodies a all (n + 1) (c + m) (line_behind line p) gs ps) claims needs

-- ---- all of them

-- those that are root functions
abbrev pub root_functions : List StoredText → List StoredText
root_functions [] = []
root_functions (g ∷ gs) = if g.subject.is_root then g ∷ root_functions gs else root_functions gs

-- all numbers of a region; none where there is no region
abbrev pub region_of : Option LaidText → List Span1
region_of None = []
region_of (Some l) = map whole l.region

abbrev pub is_same : Bool → Bool → Bool
is_same b true = b
is_same b false = not b

-- a function before others, where it is one of those that are asked for
abbrev pub rooted_if : Bool → StoredText → Option (List FormulaText) → Option LaidText → List Entry → List Entry
rooted_if b g (Some fs) (Some l) rest = if b then (g, l, fs) ∷ rest else rest
rooted_if b g (Some fs) None rest = rest
rooted_if b g None l rest = rest

abbrev pub rooted_by : Bool → StoredText → Option (List FormulaText) → Option LaidText → List Entry → List Entry
rooted_by is g o l rest = rooted_if (is_same g.subject.is_root is) g o l rest

-- those that are root functions, or those that are not, of the ones that have definitions and a region
abbrev pub rooted : Bool → List StoredText → List (Option LaidText) → List Entry
rooted is (g ∷ gs) (l ∷ ls) = rooted_by is g g.formulas l (rooted is gs ls)
rooted is (g ∷ gs) [] = []
rooted is [] ls = []

-- the root functions over the regions that are needed
abbrev pub roots_over : Algorithm → List StoredText → List Entry
roots_over a gs = rooted true gs (laid_functions a gs)

pub record IsOwnOver (e : Entry) (n : ℕ) (o : Own) : Type 0 where
  pub numbered : o.group ≡ n
  pub inside : IsInside (grid_scope (grid_over e.0 e.1.region)) o.region (map whole e.1.region)
  pub owned : o.region ≡ owned_region (dimensions_of e.0 e.1.region e.1.skeleton)

-- one for each of these, with a line for each, from this number on
abbrev pub AreMade : List Entry → ℕ → List Group → List Own → Type 0
AreMade [] n [] [] = Unit {0}
AreMade [] n [] (o ∷ os) = ⊥
AreMade [] n (p ∷ ps) os = ⊥
AreMade (e ∷ es) n [] os = ⊥
AreMade (e ∷ es) n (p ∷ ps) [] = ⊥
AreMade (e ∷ es) n (p ∷ ps) (o ∷ os) = IsOver e p × IsOwnOver e n o × AreMade es (n + 1) ps os

-- its pieces do what the skeleton over the region says
abbrev pub IsBodyOf : Algorithm → List Entry → ℕ → ℕ → ℕ → Entry → Group → List Claim → List Need → Type 0
IsBodyOf a all n c line e p claims needs = IsBody a all n c line e.0 e.2 e.1.skeleton (dimensions_of e.0 e.1.region e.1.skeleton) claims needs (statement_of p.body)

-- each root function has definitions and a region
abbrev pub has_region : Option (List FormulaText) → Option LaidText → Bool
has_region (Some fs) (Some l) = true
has_region (Some fs) None = false
has_region None l = false

abbrev pub AreLaid : List StoredText → List (Option LaidText) → Type 0
AreLaid [] ls = Unit {0}
AreLaid (g ∷ gs) [] = ⊥
AreLaid (g ∷ gs) (l ∷ ls) = (g.subject.is_root ≡ true → has_region g.formulas l ≡ true) × AreLaid gs ls

-- the loops over a region are those of the skeleton over it
abbrev pub IsOverRegion : StoredText → Option LaidText → Option (List FormulaText) → Type 0
IsOverRegion g None o = Unit {0}
IsOverRegion g (Some l) None = Unit {0}
IsOverRegion g (Some l) (Some fs) = skeleton_of g fs l.region ≡ Some l.skeleton

-- of each function that has definitions and a region
abbrev pub AreOverRegions : List StoredText → List (Option LaidText) → Type 0
AreOverRegions [] ls = Unit {0}
AreOverRegions (g ∷ gs) [] = Unit {0}
AreOverRegions (g ∷ gs) (l ∷ ls) = IsOverRegion g l g.formulas × AreOverRegions gs ls

-- ---- whatever is computed inside loops

-- the body of the group n of these functions, where these are computed inside its loops, with its claims, need lines and windows; the next group has this line
abbrev pub IsBodyBy : Algorithm → List Entry → ℕ → ℕ → ℕ → ℕ → List PlacedText → Entry → Group → List Claim → List Need → List Window → Type 0
IsBodyBy a all n c line next [] e p claims needs windows = IsBodyOf a all n c line e p claims needs × (next ≡ line_behind line p) × (windows ≡ [])
IsBodyBy a all n c line next (i ∷ is) e p claims needs windows = IsMixedBody all n c line next (i ∷ is) e claims needs windows (statement_of p.body)

-- the claims, need lines and windows of a group, and behind them those of others, which are told the line of the next group, and how many claims this one has
pub record AreAllLines (P : ℕ → List Claim → List Need → List Window → Type 0) (Q : ℕ → ℕ → List Claim → List Need → List Window → Type 0) (claims : List Claim) (needs : List Need)
    (windows : List Window) : Type 0 where
  pub next : ℕ
  pub own_claims : List Claim
  pub own_needs : List Need
  pub own_windows : List Window
  pub other_claims : List Claim
  pub other_needs : List Need
  pub other_windows : List Window
  pub claimed : claims ≡ own_claims ++ other_claims
  pub needed : needs ≡ own_needs ++ other_needs
  pub held : windows ≡ own_windows ++ other_windows
  pub here : P next own_claims own_needs own_windows
  pub behind : Q next (length own_claims) other_claims other_needs other_windows

-- each of these groups, with the functions that are computed inside its loops, one behind another, from the number n on; the first claim has the number c
abbrev pub AreBodiesBy : Algorithm → List Entry → ℕ → ℕ → ℕ → List (List PlacedText) → List Entry → List Group → List Claim → List Need → List Window → Type 0
AreBodiesBy a all n c line [] [] [] claims needs windows = (claims ≡ []) × (needs ≡ []) × (windows ≡ [])
AreBodiesBy a all n c line (is ∷ others) (e ∷ es) (p ∷ ps) claims needs windows =
    AreAllLines (λ next. IsBodyBy a all n c line next is e p) (λ next m. AreBodiesBy a all (n + 1) (c + m) next others es ps) claims needs windows
AreBodiesBy a all n c line _ _ _ claims needs windows = ⊥

-- ---- the regions

-- over these regions, which functions are computed inside the loops of each group, at the places of their loops, at all of those at which they are called, over what is
-- needed of them there
pub record AreInside (a : Algorithm) (gs : List StoredText) (regions : List (Option LaidText)) (placed : List (List PlacedText)) : Type 0 where
  pub homes : AreAllAtHome (rooted true gs regions) (rooted false gs regions) placed
  pub found : AreAllFound a (length (rooted false gs regions)) (rooted true gs regions) (rooted false gs regions) placed

-- the other regions for which the turns of these groups ask, where those are computed inside; None where they ask for the same
abbrev pub asked : Algorithm → List StoredText → List (Option LaidText) → List (List PlacedText) → Option (List (Option LaidText))
asked a gs regions placed = unless_same regions (laid_each a (rooted true gs regions) placed gs regions)

-- over these regions the turns ask for others, of which this is said
pub record Round (a : Algorithm) (gs : List StoredText) (regions : List (Option LaidText)) (P : List (Option LaidText) → Type 0) : Type 0 where
  pub placed : List (List PlacedText)
  pub inside : AreInside a gs regions placed
  pub others : List (Option LaidText)
  pub asks : asked a gs regions placed ≡ Some others
  pub further : P others

-- what is computed inside the loops of a group; nothing where a bound is missing
abbrev pub placed_in : Inside → List PlacedText
placed_in (Ok is) = is
placed_in (Err x) = []

abbrev pub is_missing : Inside → Bool
is_missing (Ok is) = false
is_missing (Err x) = true

abbrev pub all_known : List (List PlacedText) → List Inside
all_known placed = map (λ is. Ok is) placed

-- Rounds come from these regions, the first, to those, the last, where these functions are computed inside: as many as may be, or fewer, where over the last ones the turns
-- ask for no others, or a bound is missing.
abbrev pub Come : Algorithm → List StoredText → ℕ → List (Option LaidText) → List (Option LaidText) → List Inside → Type 0
Come a gs zero first last inside = last ≡ first
Come a gs (suc n) first last inside =
    ((last ≡ first) × (unless (list_any is_missing inside) (asked a gs first (map placed_in inside)) ≡ None)) ⊎ Round a gs first (λ others. Come a gs n others last inside)

-- of each group that are computed inside which are; where a bound is missing, of which function
abbrev pub AreAllFoundIf : Algorithm → ℕ → List Entry → List Entry → List Inside → Type 0
AreAllFoundIf a n [] es inside = Unit {0}
AreAllFoundIf a n (e ∷ rest) es [] = ⊥
AreAllFoundIf a n (e ∷ rest) es (i ∷ inside) = AreFoundIn a e es n [] i × AreAllFoundIf a n rest es inside

-- how many rounds there may be: as many as there are stored functions, but none where each is a root function
abbrev pub all_rooted : List StoredText → Bool
all_rooted [] = true
all_rooted (g ∷ gs) = g.subject.is_root && all_rooted gs

abbrev pub rounds : List StoredText → ℕ
rounds gs = if all_rooted gs then 0 else length gs

-- ---- what the groups do

-- over these regions, which functions are computed inside the loops of each group; and each group's body, claims, need lines and windows are those of a group in whose loops
-- these are computed
pub record ArePlacedOver (a : Algorithm) (gs : List StoredText) (regions : List (Option LaidText)) (l : Lowered) : Type 0 where
  pub placed : List (List PlacedText)
  pub stand : AreInside a gs regions placed
  pub bodies : AreBodiesBy a (rooted true gs regions) 0 0 4 placed (rooted true gs regions) l.plan.groups.items l.certificate.claims.items l.certificate.needs.items
      l.certificate.windows.items

-- over some regions, to which rounds come from these ones, and over which no function breaks a rule, with the loops of the skeletons over them, of which the pieces of each
-- group own their blocks
pub record ArePlacedFrom (a : Algorithm) (gs : List StoredText) (n : ℕ) (first : List (Option LaidText)) (l : Lowered) : Type 0 where
  pub regions : List (Option LaidText)
  pub laid : AreLaid gs regions
  pub around : AreOverRegions gs regions
  pub over : AreMade (rooted true gs regions) 0 l.plan.groups.items l.certificate.own.items
  pub inside : ArePlacedOver a gs regions l
  pub come : Come a gs n first regions (all_known inside.placed)
  pub kept : first_over a gs None regions (all_known inside.placed) ≡ None

-- ---- the plan

-- the plan's head is the algorithm's; the stored root functions have the groups, and the certificate tells of each what its pieces own; where each stored function is a root function
-- that is computed at no loop, the regions are those that are needed, the pieces own the blocks of their parallel loops and do what the skeletons say, the claims
-- and need lines are theirs, and there are no windows; and whatever is computed inside loops, each group is that of some functions that are, over the regions for which all
-- turns ask: rounds, at most so many, come to them from these ones
pub record HasGroupsFrom (a : Algorithm) (gs : List StoredText) (n : ℕ) (first : List (Option LaidText)) (l : Lowered) : Type 0 where
  pub head : IsHeadOf a l.plan
  pub each : AreGroupsOf (root_functions gs) l.plan.groups.items
  pub owned : AreOwned 0 l.plan.groups.items l.certificate.own.items
  pub needed : are_whole gs ≡ true → map (λ p. p.region) l.plan.groups.items ≡ map region_of (laid_functions a gs)
  pub blocks : are_whole gs ≡ true → HaveBlocks gs l.plan.groups.items l.certificate.own.items
  pub bodies : are_whole gs ≡ true → HaveBodies a (roots_over a gs) 0 0 4 gs l.plan.groups.items l.certificate.claims.items l.certificate.needs.items
  pub windows : are_whole gs ≡ true → l.certificate.windows.items ≡ []
  pub placed : ArePlacedFrom a gs n first l

-- from the regions that are needed of the loops over whole functions on
abbrev pub HasGroups : Algorithm → List StoredText → Lowered → Type 0
HasGroups a gs l = HasGroupsFrom a gs (rounds gs) (laid_functions a gs) l

abbrev pub AreGroupsMade : Algorithm → Schedule → Lowered → Type 0
AreGroupsMade a s l = HasGroups a (stored_functions a s) l

abbrev pub party_of : Party → Entry
party_of p = root_of p.root

abbrev pub all_laid : Vec (Option Laid) → List (Option LaidText)
all_laid v = map (option_map laid_of) v.items

-- nothing is computed inside its loops
abbrev pub HasNone : Result (Vec Inner) (List ℕ) → Type 0
HasNone (Err x) = ⊥
HasNone (Ok v) = v.items ≡ []

abbrev pub IsAlone : Party → Type 0
IsAlone p = HasNone p.inners

abbrev pub AreAlone : List Party → Type 0
AreAlone [] = Unit {0}
AreAlone (p ∷ ps) = IsAlone p × AreAlone ps

abbrev pub AreBodies : Algorithm → List Entry → ℕ → ℕ → ℕ → List Entry → List Group → List Claim → List Need → Type 0
AreBodies a all n c line [] ps claims needs = (claims ≡ []) × (needs ≡ [])
AreBodies a all n c line (e ∷ es) [] claims needs = ⊥
AreBodies a all n c line (e ∷ es) (p ∷ ps) claims needs =
    AreLines (IsBodyOf a all n c line e p) (λ m. AreBodies a all (n + 1) (c + m) (line_behind line p) es ps) claims needs

-- these stand behind the lines of other groups
pub record BodiesMade (a : Algorithm) (all : List Entry) (n c line : ℕ) (es : List Entry) (ps : List Group) (old new : List Claim) (before behind : List Need) : Type 0 where
  pub claims : List Claim
  pub needs : List Need
  pub claimed : new ≡ old ++ claims
  pub needed : behind ≡ before ++ needs
  pub are : AreBodies a all n c line es ps claims needs

-- the functions that are computed inside a group's loops
abbrev pub inners_of : Result (Vec Inner) (List ℕ) → List PlacedText
inners_of (Err x) = []
inners_of (Ok v) = map inner_seen v.items

abbrev pub placed_of : Party → List PlacedText
placed_of p = inners_of p.inners

-- no bound is missing of what is computed inside its loops
abbrev pub IsKnown : Result (Vec Inner) (List ℕ) → Type 0
IsKnown (Err x) = ⊥
IsKnown (Ok v) = Unit {0}

abbrev pub AreKnown : List Party → Type 0
AreKnown [] = Unit {0}
AreKnown (p ∷ ps) = IsKnown p.inners × AreKnown ps

-- the same, or the name of a function of which a bound is missing
abbrev pub inside_of : Result (Vec Inner) (List ℕ) → Inside
inside_of (Err x) = Err x
inside_of (Ok v) = Ok (map inner_seen v.items)

abbrev pub inside_at : Party → Inside
inside_at p = inside_of p.inners

-- of each party those of these functions, so many, that are computed inside its loops
abbrev pub AreFoundOf : Algorithm → ℕ → List Entry → List Party → Type 0
AreFoundOf a n es [] = Unit {0}
AreFoundOf a n es (p ∷ ps) = AreFoundIf a (party_of p) es n [] p.inners × AreFoundOf a n es ps

-- a body in whose loops functions are computed; its claims, need lines and windows stand behind those of other groups
pub record MixedMade (all : List Entry) (n c line next : ℕ) (is : List PlacedText) (e : Entry) (old new : Cert) (body : Statement) : Type 0 where
  pub claims : List Claim
  pub needs : List Need
  pub windows : List Window
  pub claimed : new.claims.items ≡ old.claims.items ++ claims
  pub needed : new.needs.items ≡ old.needs.items ++ needs
  pub held : new.windows.items ≡ old.windows.items ++ windows
  pub made : IsMixedBody all n c line next is e claims needs windows body

-- the group has this body; its claims, need lines and windows stand behind those of other groups
pub record GroupBy (a : Algorithm) (all : List Entry) (n c line next : ℕ) (is : List PlacedText) (e : Entry) (p : Group) (old new : Cert) : Type 0 where
  pub claims : List Claim
  pub needs : List Need
  pub windows : List Window
  pub claimed : new.claims.items ≡ old.claims.items ++ claims
  pub needed : new.needs.items ≡ old.needs.items ++ needs
  pub held : new.windows.items ≡ old.windows.items ++ windows
  pub made : IsBodyBy a all n c line next is e p claims needs windows

pub record GroupsBy (a : Algorithm) (all : List Entry) (n c line : ℕ) (placed : List (List PlacedText)) (es : List Entry) (ps : List Group) (old new : Cert) : Type 0 where
  pub claims : List Claim
  pub needs : List Need
  pub windows : List Window
  pub claimed : new.claims.items ≡ old.claims.items ++ claims
  pub needed : new.needs.items ≡ old.needs.items ++ needs
  pub held : new.windows.items ≡ old.windows.items ++ windows
  pub are : AreBodiesBy a all n c line placed es ps claims needs windows

-- the plan of these functions over these regions, in whose groups these are computed inside
pub record IsPlanOf (a : Algorithm) (gs : List StoredText) (ls : List (Option LaidText)) (ps : List Party) (l : Lowered) : Type 0 where
  pub known : AreKnown ps
  pub head : IsHeadOf a l.plan
  pub laid : AreLaid gs ls
  pub around : AreOverRegions gs ls
  pub made : AreMade (rooted true gs ls) 0 l.plan.groups.items l.certificate.own.items
  pub bodies : are_whole gs ≡ true → AreBodies a (rooted true gs ls) 0 0 4 (rooted true gs ls) l.plan.groups.items l.certificate.claims.items l.certificate.needs.items
  pub windows : are_whole gs ≡ true → l.certificate.windows.items ≡ []
  pub placed : ArePlacedOver a gs ls l
  pub are : placed.placed ≡ map placed_of ps

-- it has these groups, and no function breaks a rule over these regions
pub record IsKeptPlan (a : Algorithm) (gs : List StoredText) (ls : List (Option LaidText)) (ps : List Party) (l : Lowered) : Type 0 where
  pub plan : IsPlanOf a gs ls ps l
  pub kept : first_over a gs None ls (map inside_at ps) ≡ None
