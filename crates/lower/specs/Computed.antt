-- Which functions are computed inside a group's loops: the last declared first, each at those places of its loop at which it is called, over what is needed of it there.
use Rattle.std.specs.Prelude.{◌≡◌, ◌⊎◌, ℕ, zero, suc, ◌+◌, Bool, true, false, ◌&&◌, if◌then◌else◌, List, [], ◌∷◌, ◌++◌, length, map, Option, Some, None, Result, Ok, Err, slice_get}
use Rattle.std.specs.List.{AllByRecursion}
use Rattle.std.specs.Global.{Vec}
use Rattle.lin.specs.declared.scope.Binding.{Binding}
use Rattle.lin.specs.declared.span.Span1.{Span1}
use Rattle.plan.specs.declared.stmt.Places.{Places}
use Rattle.sched.specs.Standing.{◌>>=◌}
use Rattle.meaning.specs.Algorithm.{Algorithm}
use Rattle.meaning.specs.Names.{same_name}
use Rattle.sched.specs.declared.schedule.Home.{Home}
use Rattle.sched.specs.Skeleton.{NestText}
use Rattle.sched.specs.declared.hosts.Inner.{Inner}
use Rattle.sched.specs.declared.hosts.Host.{Host}
use Rattle.sched.specs.declared.hosts.Spot.{Spot}
use Rattle.sched.specs.Stored.{StoredText}
use Rattle.sched.specs.Around.{bind_steps}
use Rattle.sched.specs.Taken.{SiteText}
use Rattle.sched.specs.Fetches.{Entry}
use Rattle.regions.specs.Uses.{first_home}
use Rattle.sched.specs.Placed.{LaterText, PlacedText, inner_seen}
use Rattle.blocks.specs.Placed.{fold_of}
use Rattle.blocks.specs.Seats.{add_places}
use Rattle.regions.specs.Seats.{folded}
use Rattle.regions.specs.Homes.{HostText, host_at, hosts_named, is_over_grid, spot_in, store_spot}
use Rattle.lower.specs.Homes.{put_before}
use Rattle.regions.specs.Demanded.{scope_at, sites_at}
use Rattle.lower.specs.Guarded.{needed_at}
use Rattle.blocks.specs.Parted.{kept_region}
use Rattle.lower.specs.Rounded.{LainText, lain_kept, lain_over}
use Rattle.blocks.specs.Rounded.{claim_of}
use Rattle.lower.specs.Broken.{Inside}
use Rattle.regions.specs.Broken.{is_small}
use Rattle.regions.specs.Slid.{TrackText, folds_fit}
use Rattle.lower.specs.Slid.{dimension_along, sliding_at, turns_of, Holds}

-- ---- the places of a function's loop

abbrev pub before : Option Spot → List Spot → List Spot
before None ss = ss
before (Some s) ss = s ∷ ss

-- in the nests of a host, from that of this definition on, one in each that has the loop; over the grid there is one for all
abbrev pub spots_in : Host → HostText → List ℕ → ℕ → List NestText → List Spot
spots_in h t x d [] = []
spots_in h t x d (n ∷ ns) = before (spot_in h t d x) (if is_over_grid t.function.placed.loops x then [] else spots_in h t x (d + 1) ns)

abbrev pub spots_by : Home → Host → Option HostText → List Spot
spots_by home h None = []
spots_by home h (Some t) = if same_name t.function.subject.name home.function then spots_in h t home.turn 0 t.nests else []

-- of the function that has the loop, wherever it stands in the group
abbrev pub spots_of_hosts : Entry → List PlacedText → Home → List Host → List Spot
spots_of_hosts e is home [] = []
spots_of_hosts e is home (h ∷ hs) = spots_by home h (host_at e is h) ++ spots_of_hosts e is home hs

abbrev pub spots_at : Entry → List PlacedText → Option Home → List Spot
spots_at e is None = []
spots_at e is (Some home) = spots_of_hosts e is home (hosts_named e is home.function)

-- of the first loop at which the function is computed
abbrev pub spots_of : Entry → List PlacedText → StoredText → List Spot
spots_of e is g = spots_at e is (first_home g.placed.homes)

-- ---- the places at which it is computed

abbrev pub is_called : Option (List SiteText) → Bool
is_called (Some (t ∷ ts)) = true
is_called (Some []) = false
is_called None = false

abbrev pub if_called : Bool → Spot → List Spot
if_called b s = if b then s ∷ [] else []

-- those of the places at which the function of this name is called
abbrev pub called_spots : Algorithm → Entry → List PlacedText → List ℕ → List Spot → List Spot
called_spots a e is x [] = []
called_spots a e is x (s ∷ ss) = if_called (is_called (sites_at a e is s x)) s ++ called_spots a e is x ss

-- ---- what is computed there

-- its lets and nests are these, and its claims speak of what it holds and of what blocks of updates make past its end
pub record IsLain (o : Option LainText) (i : PlacedText) : Type 0 where
  pub lain : LainText
  pub laid : o ≡ Some lain
  pub lets : i.lets ≡ lain.begun.lets
  pub nests : i.nests ≡ lain.nests
  pub claims : claim_of i.function i.scope lain.begun lain.nests i.region ≡ Some i.claimed

-- one turn needs no more numbers of it than a function may have, nor do all for which its buffer stands
abbrev pub are_small : List Binding → List Span1 → List Binding → Option (List Span1) → Bool
are_small scope r outer None = false
are_small scope r outer (Some kept) = is_small scope r && is_small outer kept

-- whether its folds have places for the window of this region, along which it may slide, and whether it is small, is told so
pub record IsJudged (g : StoredText) (outer around : List Binding) (r : List Span1) (along : Option (TrackText × ℕ)) (i : PlacedText) : Type 0 where
  pub fits : i.fits ≡ folds_fit g i.scope r (dimension_along along)
  pub small : i.is_small ≡ are_small i.scope r outer (kept_region (length outer) around i.region)

-- the places of its buffer: in each dimension of what is kept of what its nests are made of, folded where it slides
abbrev pub seated : StoredText → List Binding → List Binding → LainText → Option LaterText → List SiteText → Option ℕ → Option (List Places)
seated g outer scope l later ss along =
    kept_region (length outer) scope l.begun.region >>= λ kept. add_places outer (record { scope = scope; nests = l.nests; later = later }) ss 0 kept [] >>=
    λ ps. Some (folded along (fold_of g.placed.folds) ps)

abbrev pub seats_of : StoredText → List Binding → List Binding → Option LaterText → List SiteText → Option ℕ → Option LainText → Option (List Places)
seats_of g outer scope later ss along None = None
seats_of g outer scope later ss along (Some l) = seated g outer scope l later ss along

pub record IsSeated (g : StoredText) (outer : List Binding) (ss : List SiteText) (along : Option (TrackText × ℕ)) (o : Option LainText) (i : PlacedText) : Type 0 where
  pub is : seats_of g outer i.scope i.later ss (dimension_along along) o ≡ Some i.places

-- what is computed there: around its nests is what stands around the place, and its own lets; of it is made what the calls at the place need, in each turn or, where it
-- slides, as far as it is new; its nests are those over that, with what is named before them
pub record IsComputed (a : Algorithm) (e : Entry) (es : List Entry) (is : List PlacedText) (c : Entry) (i : PlacedText) : Type 0 where
  pub function : i.function ≡ c.0
  pub formulas : i.formulas ≡ c.2
  pub scoped : i.scope ≡ bind_steps (scope_at e is i.home) i.lets
  pub sites : List SiteText
  pub called : sites_at a e is i.home c.0.subject.name ≡ Some sites
  pub region : List Span1
  pub needed : needed_at a e is i.home (scope_at e is i.home) sites c.0 c.1.region ≡ Some region
  pub holds : Holds es c.0 c.2 (length (scope_at e is i.store)) (scope_at e is i.home) region (sliding_at e is c.0 i.home i.store region) i.region i.later
  pub lain : IsLain (lain_kept a c.0 c.2 (scope_at e is i.home) i.region (kept_region (length (scope_at e is i.store)) (scope_at e is i.home) i.region)) i
  pub judged : IsJudged c.0 (scope_at e is i.store) (scope_at e is i.home) region (sliding_at e is c.0 i.home i.store region) i
  pub seated : IsSeated c.0 (scope_at e is i.store) sites (sliding_at e is c.0 i.home i.store region)
      (lain_kept a c.0 c.2 (scope_at e is i.home) i.region (kept_region (length (scope_at e is i.store)) (scope_at e is i.home) i.region)) i

-- these are all of a function's in a group in which those are computed that are declared later
pub record AreComputed (a : Algorithm) (e : Entry) (es : List Entry) (is : List PlacedText) (c : Entry) (js : List PlacedText) : Type 0 where
  pub places : map (λ i. i.home) js ≡ called_spots a e is c.0.subject.name (spots_of e is c.0)
  pub each : AllByRecursion (IsComputed a e es is c) js

-- ---- the same as one answer

-- the function at these places, over what is needed of it there; None where a bound is missing
module _ (a : Algorithm) (es : List Entry) (c : Entry) (home store : Spot) (outer around : List Binding) (r : List Span1) (along : Option (TrackText × ℕ)) (ss : List SiteText) where
  -- with these turns, of which this is kept
  abbrev pub laid_inner : List Span1 × Option LaterText → List Span1 → LainText → Option PlacedText
  laid_inner t kept l =
      let scope = bind_steps around l.begun.lets in
      seated c.0 outer scope l t.1 ss (dimension_along along) >>= λ places. claim_of c.0 scope l.begun l.nests t.0 >>= λ claimed. Some (record {
        function = c.0;
        formulas = c.2;
        home = home;
        store = store;
        places = places;
        region = t.0;
        claimed = claimed;
        lets = l.begun.lets;
        scope = scope;
        nests = l.nests;
        later = t.1;
        fits = folds_fit c.0 scope r (dimension_along along);
        is_small = are_small scope r outer (Some kept);
      })

  abbrev pub kept_inner : List Span1 × Option LaterText → List Span1 → Option PlacedText
  kept_inner t kept = lain_over a c.0 c.2 around t.0 kept >>= laid_inner t kept

  abbrev pub turned_inner : List Span1 × Option LaterText → Option PlacedText
  turned_inner t = kept_region (length outer) around t.0 >>= kept_inner t

  abbrev pub inner_over : Option PlacedText
  inner_over = turns_of c.0 c.2 (length outer) around r es along >>= turned_inner

module _ (a : Algorithm) (e : Entry) (es : List Entry) (is : List PlacedText) (c : Entry) where
  abbrev pub inner_needed : Spot → Spot → List SiteText → List Span1 → Option PlacedText
  inner_needed home store ss r = inner_over a es c home store (scope_at e is store) (scope_at e is home) r (sliding_at e is c.0 home store r) ss

  -- at a place in the nests of this host, where these sites call it
  abbrev pub inner_called : HostText → Spot → List SiteText → Option PlacedText
  inner_called t home ss = needed_at a e is home (scope_at e is home) ss c.0 c.1.region >>= inner_needed home (store_spot t c.0.placed.stores home) ss

  -- none where nothing calls it there
  abbrev pub inner_if : HostText → Spot → List SiteText → Option (Option PlacedText)
  inner_if t home [] = Some None
  inner_if t home (s ∷ ss) = inner_called t home (s ∷ ss) >>= λ i. Some (Some i)

  abbrev pub inner_at : HostText → Spot → Option (Option PlacedText)
  inner_at t home = sites_at a e is home c.0.subject.name >>= inner_if t home

  -- where there is such a place
  abbrev pub inner_by : HostText → Option Spot → Option (Option PlacedText)
  inner_by t None = Some None
  inner_by t (Some s) = inner_at t s

  -- in the nests of a host, from that of this definition on
  abbrev pub inners_in : Host → HostText → List ℕ → ℕ → List NestText → Option (List PlacedText)
  inners_in h t x d [] = Some []
  inners_in h t x d (n ∷ ns) =
      inner_by t (spot_in h t d x) >>= λ i. (if is_over_grid t.function.placed.loops x then Some [] else inners_in h t x (d + 1) ns) >>= λ js. Some (put_before i js)

  abbrev pub inners_by : Home → Host → Option HostText → Option (List PlacedText)
  inners_by home h None = Some []
  inners_by home h (Some t) = if same_name t.function.subject.name home.function then inners_in h t home.turn 0 t.nests else Some []

  abbrev pub inners_of_hosts : Home → List Host → Option (List PlacedText)
  inners_of_hosts home [] = Some []
  inners_of_hosts home (h ∷ hs) = inners_by home h (host_at e is h) >>= λ js. inners_of_hosts home hs >>= λ ks. Some (js ++ ks)

  abbrev pub inners_at : Option Home → Option (List PlacedText)
  inners_at None = Some []
  inners_at (Some home) = inners_of_hosts home (hosts_named e is home.function)

  -- all of a function's; None where a bound is missing at one of its places
  abbrev pub inners_of : Option (List PlacedText)
  inners_of = inners_at (first_home c.0.placed.homes)

-- ---- one after another

abbrev pub AreComputedIf : Algorithm → Entry → List Entry → List PlacedText → Option Entry → List PlacedText → Type 0
AreComputedIf a e es is None js = js ≡ []
AreComputedIf a e es is (Some c) js = AreComputed a e es is c js

-- some of which this is said, and behind them others
pub record Behind (P : List PlacedText → Type 0) (Q : List PlacedText → Type 0) : Type 0 where
  pub found : List PlacedText
  pub these : P found
  pub others : Q found

-- all that are computed in a group: these, and behind them those of the functions before this number
abbrev pub AreFound : Algorithm → Entry → List Entry → ℕ → List PlacedText → List PlacedText → Type 0
AreFound a e es zero is all = all ≡ is
AreFound a e es (suc n) is all = Behind (AreComputedIf a e es is (slice_get es n)) (λ js. AreFound a e es n (is ++ js) all)

-- the function has this name, and a bound of it is missing in the group, in which those are computed that are declared later
abbrev pub IsUnbounded : Algorithm → Entry → List Entry → List PlacedText → Option Entry → List ℕ → Type 0
IsUnbounded a e es is None x = ⊥
IsUnbounded a e es is (Some c) x = (c.0.subject.name ≡ x) × (inners_of a e es is c ≡ None)

-- one of the functions before this number has this name, and a bound of it is missing; those behind it are computed in the group
abbrev pub IsMissing : Algorithm → Entry → List Entry → ℕ → List PlacedText → List ℕ → Type 0
IsMissing a e es zero is x = ⊥
IsMissing a e es (suc n) is x = IsUnbounded a e es is (slice_get es n) x ⊎ Behind (AreComputedIf a e es is (slice_get es n)) (λ js. IsMissing a e es n (is ++ js) x)

-- all that are computed in a group, or the name of one of which a bound is missing there
abbrev pub AreFoundIn : Algorithm → Entry → List Entry → ℕ → List PlacedText → Inside → Type 0
AreFoundIn a e es n is (Ok all) = AreFound a e es n is all
AreFoundIn a e es n is (Err x) = IsMissing a e es n is x

-- of each group
abbrev pub AreAllFound : Algorithm → ℕ → List Entry → List Entry → List (List PlacedText) → Type 0
AreAllFound a n [] es placed = Unit {0}
AreAllFound a n (e ∷ rest) es [] = ⊥
AreAllFound a n (e ∷ rest) es (is ∷ placed) = AreFound a e es n [] is × AreAllFound a n rest es placed

-- ---- while they are found

-- at one place
abbrev pub IsComputedAt : Algorithm → Entry → List Entry → List PlacedText → Entry → Spot → Option PlacedText → Type 0
IsComputedAt a e es is c s None = is_called (sites_at a e is s c.0.subject.name) ≡ false
IsComputedAt a e es is c s (Some i) = (is_called (sites_at a e is s c.0.subject.name) ≡ true) × (i.home ≡ s) × IsComputed a e es is c i

abbrev pub IsComputedBy : Algorithm → Entry → List Entry → List PlacedText → Entry → Option Spot → Option PlacedText → Type 0
IsComputedBy a e es is c None o = o ≡ None
IsComputedBy a e es is c (Some s) o = IsComputedAt a e es is c s o

-- at some places
pub record AreComputedAt (a : Algorithm) (e : Entry) (es : List Entry) (is : List PlacedText) (c : Entry) (ss : List Spot) (js : List PlacedText) : Type 0 where
  pub places : map (λ i. i.home) js ≡ called_spots a e is c.0.subject.name ss
  pub each : AllByRecursion (IsComputed a e es is c) js

-- those of the group's, or the name of one of which a bound is missing
abbrev pub AreFoundIf : Algorithm → Entry → List Entry → ℕ → List PlacedText → Result (Vec Inner) (List ℕ) → Type 0
AreFoundIf a e es n is (Err x) = IsMissing a e es n is x
AreFoundIf a e es n is (Ok v) = AreFound a e es n is (map inner_seen v.items)
