-- Along which loop a function slides, what it holds in each turn, and which functions are computed at the places of a loop, part by part.
-- What crates below need of it stands there: `sched`, `regions`.
use Rattle.std.proofs.Common.{◌≡◌, ℕ, zero, suc, ◌+◌, ◌-◌, ◌<◌, ◌==◌, Bool, true, false, List, [], ◌∷◌, ◌++◌, length, map, Option, Some, None, Result, Ok, Err, refl, sym, ap, subst, ◌∙◌}
use Rattle.std.proofs.Common.{arith, inl, inr}
use Rattle.std.specs.Prelude.{slice_get, if◌then◌else◌, IfOk}
use Rattle.std.specs.List.{AllByRecursion}
use Rattle.std.specs.Option.{option_map}
use Rattle.std.specs.Global.{Vec}
use Rattle.std.proofs.lemmas.Option.{slice_get-map}
use Rattle.std.proofs.lemmas.List.{append_assoc, append-nil, map-append}
use Rattle.lin.specs.Forms.{Form}
use Rattle.lin.specs.declared.scope.Binding.{Binding}
use Rattle.lin.specs.declared.scope.Binding.TheVariants.{LetMin}
use Rattle.lin.specs.declared.span.Span1.{Span1}
use Rattle.meaning.specs.Algorithm.{Algorithm}
use Rattle.meaning.specs.Names.{same_name}
use Rattle.sched.specs.declared.schedule.Home.{Home}
use Rattle.sched.specs.Skeleton.{NestText, nest_seen}
use Rattle.sched.specs.Standing.{◌>>=◌}
use Rattle.sched.specs.declared.stop.Stop.{Stop}
use Rattle.sched.specs.declared.stop.Stop.TheVariants as stop
use Rattle.sched.specs.declared.roots.Root.{Root}
use Rattle.sched.specs.declared.roots.Site.{Site}
use Rattle.sched.specs.declared.hosts.Inner.{Inner}
use Rattle.blocks.specs.declared.rounded.Lain.{Lain}
use Rattle.sched.specs.declared.hosts.Later.{Later}
use Rattle.regions.specs.declared.sliding.Sliding.{Sliding}
use Rattle.sched.specs.declared.hosts.Host.{Host}
use Rattle.sched.specs.declared.hosts.Spot.{Spot}
use Rattle.sched.specs.Stored.{FormulaText, StoredText}
use Rattle.sched.specs.Around.{bind_steps}
use Rattle.sched.specs.Taken.{SiteText, site_of}
use Rattle.sched.specs.Fetches.{Entry}
use Rattle.sched.specs.Groups.{root_of}
use Rattle.sched.specs.Limited.{Gives}
use Rattle.regions.specs.Uses.{first_home}
use Rattle.sched.specs.Placed.{LaterText, PlacedText, inner_seen, later_seen}
use Rattle.regions.specs.Homes.{HostText, host_at, hosts_named, is_over_grid, spot_in}
use Rattle.lower.specs.Homes.{put_before}
use Rattle.regions.specs.Demanded.{scope_at, sites_at}
use Rattle.lower.specs.Guarded.{needed_at}
use Rattle.lower.specs.Slid.{later_from, later_along, later_turns, turns_held, turns_of, sliding_at, held_along, IsLater, HasLater, HoldsBy, Holds}
use Rattle.regions.specs.Slid.{TrackText, sliding_seen, new_from, new_region}
use Rattle.blocks.specs.Parted.{kept_region}
use Rattle.lower.specs.Parted.{nests_over}
use Rattle.lower.specs.Rounded.{LainText, lain_over, lain_kept, lain_seen}
use Rattle.blocks.specs.Rounded.{claim_of, begun_seen}
use Rattle.lower.specs.Computed.{before, spots_in, spots_by, spots_of_hosts, spots_at, spots_of, is_called, called_spots, IsLain, IsComputed, AreComputed, AreComputedIf, AreFound}
use Rattle.lower.specs.Computed.{AreFoundIf, IsMissing, IsUnbounded, IsComputedAt, IsComputedBy, AreComputedAt, IsJudged, IsSeated, inner_called, inner_if, inner_at, inner_by, inners_in}
use Rattle.lower.specs.Computed.{inners_by, inners_of_hosts, inners_at, inners_of}

-- ---- what it holds

pub later_made : (g : StoredText) (fs : List FormulaText) (k : List Span1) (x : TrackText × ℕ) (scope : List Binding) (h r : List Span1) (s : Span1) (l : LaterText) → slice_get h x.1 ≡ Some s
    → l.symbol ≡ x.0.symbol → l.dimension ≡ x.1 → new_from x.0.symbol s ≡ Some l.first_new → l.scope ≡ scope ++ LetMin l.first_new ∷ [] → r ≡ new_region scope x.1 0 h
    → l.region ≡ r → nests_over g fs l.scope r k ≡ Some l.nests → IsLater g fs (Some k) x scope h l
later_made g fs k x scope h r s l along symbol dimension first scoped new over nests =
    record {
      symbol = symbol;
      dimension = dimension;
      span = s;
      along = along;
      first_new = first;
      scoped = scoped;
      new = over ∙ new;
      nested = ap (λ (q : List Span1). nests_over g fs l.scope q k) (sym new) ∙ nests;
    }

-- the same as one answer
module _ (g : StoredText) (fs : List FormulaText) (k : List Span1) (x : TrackText × ℕ) (scope : List Binding) (h : List Span1) where
  pub later_nowhere : slice_get h x.1 ≡ None → later_turns g fs k x scope h ≡ Some None
  later_nowhere e = ap (later_along g fs k x scope h) e

  pub later_unnamed : (s : Span1) → slice_get h x.1 ≡ Some s → new_from x.0.symbol s ≡ None → later_turns g fs k x scope h ≡ None
  later_unnamed s e none = ap (later_along g fs k x scope h) e ∙ ap (λ (o : Option (List Form)). o >>= λ new. later_from g fs k x scope h new >>= λ l. Some (Some l)) none

  later_by : (s : Span1) (new : List Form) → slice_get h x.1 ≡ Some s → new_from x.0.symbol s ≡ Some new
      → later_turns g fs k x scope h ≡ (later_from g fs k x scope h new >>= λ l. Some (Some l))
  later_by s new e some = ap (later_along g fs k x scope h) e ∙ ap (λ (o : Option (List Form)). o >>= λ ns. later_from g fs k x scope h ns >>= λ l. Some (Some l)) some

  abbrev made_of : List Form → List NestText → LaterText
  made_of new nests = record {
    symbol = x.0.symbol;
    dimension = x.1;
    first_new = new;
    new = length (scope ++ LetMin new ∷ []) - 1;
    scope = scope ++ LetMin new ∷ [];
    region = new_region scope x.1 0 h;
    nests = nests;
  }

  from_nests : (new : List Form) (inner : List Binding) (r : List Span1) (o : Option (List NestText)) → inner ≡ scope ++ LetMin new ∷ [] → r ≡ new_region scope x.1 0 h
      → nests_over g fs inner r k ≡ o → later_from g fs k x scope h new ≡ (o >>= λ ns. Some (made_of new ns))
  from_nests new inner r o scoped region nests =
      ap (λ (q : Option (List NestText)). q >>= λ ns. Some (made_of new ns)) (sym (λ i. nests_over g fs (scoped i) (region i) k) ∙ nests)

  pub later_unnested : (s : Span1) (new : List Form) (inner : List Binding) (r : List Span1) → slice_get h x.1 ≡ Some s → new_from x.0.symbol s ≡ Some new
      → inner ≡ scope ++ LetMin new ∷ [] → r ≡ new_region scope x.1 0 h → nests_over g fs inner r k ≡ None → later_turns g fs k x scope h ≡ None
  later_unnested s new inner r e some scoped region none =
      later_by s new e some ∙ ap (λ (o : Option LaterText). o >>= λ l. Some (Some l)) (from_nests new inner r None scoped region none)

  same_later : (l : LaterText) → l.symbol ≡ x.0.symbol → l.dimension ≡ x.1 → l.new ≡ length l.scope - 1 → l.scope ≡ scope ++ LetMin l.first_new ∷ []
      → l.region ≡ new_region scope x.1 0 h → made_of l.first_new l.nests ≡ l
  same_later l symbol dimension new scoped region = λ i. record {
    symbol = sym symbol i;
    dimension = sym dimension i;
    first_new = l.first_new;
    new = sym (new ∙ ap (λ (b : List Binding). length b - 1) scoped) i;
    scope = sym scoped i;
    region = sym region i;
    nests = l.nests;
  }

  pub later_told : (s : Span1) (r : List Span1) (l : LaterText) → slice_get h x.1 ≡ Some s → l.symbol ≡ x.0.symbol → l.dimension ≡ x.1 → new_from x.0.symbol s ≡ Some l.first_new
      → l.scope ≡ scope ++ LetMin l.first_new ∷ [] → r ≡ new_region scope x.1 0 h → l.region ≡ r → l.new ≡ length l.scope - 1 → nests_over g fs l.scope r k ≡ Some l.nests
      → later_turns g fs k x scope h ≡ Some (Some l)
  later_told s r l e symbol dimension some scoped region over new nests =
      later_by s l.first_new e some
      ∙ ap (λ (o : Option LaterText). o >>= λ m. Some (Some m)) (from_nests l.first_new l.scope r (Some l.nests) scoped region nests)
      ∙ ap (λ (m : LaterText). Some (Some m)) (same_later l symbol dimension new scoped (over ∙ region))

module _ (g : StoredText) (fs : List FormulaText) (n : ℕ) (scope : List Binding) (r : List Span1) (x : TrackText × ℕ) (o q : Option (List Span1)) where
  pub held_none : o ≡ q → o ≡ None → turns_held g fs n scope r x q ≡ Some (r, None)
  held_none by none = ap (turns_held g fs n scope r x) (sym by ∙ none)

  held_by : (h : List Span1) → o ≡ q → o ≡ Some h → turns_held g fs n scope r x q ≡ (kept_region n scope h >>= λ kept. later_turns g fs kept x scope h >>= λ l. Some (h, l))
  held_by h by some = ap (turns_held g fs n scope r x) (sym by ∙ some)

  pub held_unkept : (h : List Span1) → o ≡ q → o ≡ Some h → kept_region n scope h ≡ None → turns_held g fs n scope r x q ≡ None
  held_unkept h by some none = held_by h by some ∙ ap (λ (k : Option (List Span1)). k >>= λ kept. later_turns g fs kept x scope h >>= λ l. Some (h, l)) none

  held_kept : (h kept : List Span1) → o ≡ q → o ≡ Some h → kept_region n scope h ≡ Some kept
      → turns_held g fs n scope r x q ≡ (later_turns g fs kept x scope h >>= λ l. Some (h, l))
  held_kept h kept by some told = held_by h by some ∙ ap (λ (k : Option (List Span1)). k >>= λ ks. later_turns g fs ks x scope h >>= λ l. Some (h, l)) told

  pub held_unmade : (h kept : List Span1) → o ≡ q → o ≡ Some h → kept_region n scope h ≡ Some kept → later_turns g fs kept x scope h ≡ None → turns_held g fs n scope r x q ≡ None
  held_unmade h kept by some told none = held_kept h kept by some told ∙ ap (λ (l : Option (Option LaterText)). l >>= λ m. Some (h, m)) none

  pub held_made : (h kept : List Span1) (l : Option LaterText) → o ≡ q → o ≡ Some h → kept_region n scope h ≡ Some kept → later_turns g fs kept x scope h ≡ Some l
      → turns_held g fs n scope r x q ≡ Some (h, l)
  held_made h kept l by some told made = held_kept h kept by some told ∙ ap (λ (p : Option (Option LaterText)). p >>= λ m. Some (h, m)) made

module _ (es : List Entry) (g : StoredText) (fs : List FormulaText) (n : ℕ) (scope : List Binding) (r : List Span1) where
  pub told_all : (o : Option Sliding) → o ≡ None → turns_of g fs n scope r es (option_map sliding_seen o) ≡ Some (r, None)
  told_all o e = ap (λ (q : Option Sliding). turns_of g fs n scope r es (option_map sliding_seen q)) e

  pub told_along : (o : Option Sliding) (s : Sliding) (t : Result (List Span1 × Option Later) Stop) → o ≡ Some s
      → Gives t (λ v. (v.0, option_map later_seen v.1)) (turns_held g fs n scope r (sliding_seen s) (held_along es g fs scope r (sliding_seen s)))
      → Gives t (λ v. (v.0, option_map later_seen v.1)) (turns_of g fs n scope r es (option_map sliding_seen o))
  told_along o s t e h =
      subst (λ (q : Option Sliding). Gives t (λ v. (v.0, option_map later_seen v.1)) (turns_of g fs n scope r es (option_map sliding_seen q))) (sym e) h

module _ (es : List Entry) (g : StoredText) (fs : List FormulaText) (n : ℕ) (scope : List Binding) (r : List Span1) (held : List Span1) (later : Option LaterText) where
  pub holds_all : (o : Option (TrackText × ℕ)) → o ≡ None → held ≡ r → later ≡ None → Holds es g fs n scope r o held later
  holds_all o e h k = subst (λ (p : Option (TrackText × ℕ)). Holds es g fs n scope r p held later) (sym e) (record { is = h; none = k })

  module _ (x : TrackText × ℕ) (o : Option (List Span1)) where
    pub holds_each : o ≡ held_along es g fs scope r x → o ≡ None → held ≡ r → later ≡ None → HoldsBy g fs n x scope r (held_along es g fs scope r x) held later
    holds_each by none h k = subst (λ (q : Option (List Span1)). HoldsBy g fs n x scope r q held later) (sym none ∙ by) (record { is = h; none = k })

    pub holds_some : (h kept : List Span1) → o ≡ held_along es g fs scope r x → o ≡ Some h → held ≡ h → kept_region n scope h ≡ Some kept → HasLater g fs (Some kept) x scope h later
        → HoldsBy g fs n x scope r (held_along es g fs scope r x) held later
    holds_some h kept by some is told k =
        subst (λ (q : Option (List Span1)). HoldsBy g fs n x scope r q held later) (sym some ∙ by)
        (record { is = is; turns = subst (λ (q : Option (List Span1)). HasLater g fs q x scope h later) (sym told) k })

module _ (es : List Entry) (g : StoredText) (fs : List FormulaText) (n : ℕ) (scope : List Binding) (r : List Span1) where
  pub holds_along : (o : Option Sliding) (s : Sliding) (t : Result (List Span1 × Option Later) Stop) → o ≡ Some s
      → IfOk t (λ v. HoldsBy g fs n (sliding_seen s) scope r (held_along es g fs scope r (sliding_seen s)) v.0 (option_map later_seen v.1))
      → IfOk t (λ v. Holds es g fs n scope r (option_map sliding_seen o) v.0 (option_map later_seen v.1))
  holds_along o s t e h =
      subst (λ (q : Option Sliding). IfOk t (λ v. Holds es g fs n scope r (option_map sliding_seen q) v.0 (option_map later_seen v.1))) (sym e) h

-- ---- its nests

pub is_lain : (a : Algorithm) (g : StoredText) (fs : List FormulaText) (around : List Binding) (region kept : List Span1) (o : Option (List Span1)) (l : Lain) (i : PlacedText) → o ≡ Some kept
    → lain_over a g fs around region kept ≡ Some (lain_seen l) → i.lets ≡ l.begun.lets.items → i.nests ≡ map nest_seen l.nests.items
    → claim_of i.function i.scope (begun_seen l.begun) (map nest_seen l.nests.items) i.region ≡ Some i.claimed → IsLain (lain_kept a g fs around region o) i
is_lain a g fs around region kept o l i told laid lets nests claims =
    record { lain = lain_seen l; laid = ap (lain_kept a g fs around region) told ∙ laid; lets = lets; nests = nests; claims = claims }

-- ---- one place

module _ (a : Algorithm) (e : Entry) (es : List Entry) (is : List PlacedText) (c : Entry) where
  pub is_computed : (home store : Spot) (sites : List SiteText) (outer around : List Binding) (needed : List Span1) (o : Option (TrackText × ℕ)) (i : PlacedText) → i.function ≡ c.0 → i.formulas ≡ c.2
      → i.home ≡ home → i.store ≡ store → outer ≡ scope_at e is store → around ≡ scope_at e is home → i.scope ≡ bind_steps around i.lets → sites_at a e is home c.0.subject.name ≡ Some sites
      → needed_at a e is home around sites c.0 c.1.region ≡ Some needed → o ≡ sliding_at e is c.0 home store needed → Holds es c.0 c.2 (length outer) around needed o i.region i.later
      → IsLain (lain_kept a c.0 c.2 around i.region (kept_region (length outer) around i.region)) i → IsJudged c.0 outer around needed o i
      → IsSeated c.0 outer sites o (lain_kept a c.0 c.2 around i.region (kept_region (length outer) around i.region)) i → IsComputed a e es is c i
  is_computed home store sites outer around needed o i function formulas at stored is_outer is_around scoped called is_needed slides holds lain judged seats =
      let there : around ≡ scope_at e is i.home = is_around ∙ ap (scope_at e is) (sym at) in
      let beside : outer ≡ scope_at e is i.store = is_outer ∙ ap (scope_at e is) (sym stored) in
      let sliding : o ≡ sliding_at e is c.0 i.home i.store needed = slides ∙ (λ j. sliding_at e is c.0 (sym at j) (sym stored j) needed) in
      let by : Holds es c.0 c.2 (length outer) around needed (sliding_at e is c.0 i.home i.store needed) i.region i.later =
      subst (λ (p : Option (TrackText × ℕ)). Holds es c.0 c.2 (length outer) around needed p i.region i.later) sliding holds in
      let behind : Holds es c.0 c.2 (length (scope_at e is i.store)) around needed (sliding_at e is c.0 i.home i.store needed) i.region i.later =
      subst (λ (b : List Binding). Holds es c.0 c.2 (length b) around needed (sliding_at e is c.0 i.home i.store needed) i.region i.later) beside by in
      record {
        function = function;
        formulas = formulas;
        scoped = scoped ∙ ap (λ (b : List Binding). bind_steps b i.lets) there;
        sites = sites;
        called = ap (λ (s : Spot). sites_at a e is s c.0.subject.name) at ∙ called;
        region = needed;
        needed = (λ j. needed_at a e is (at j) (sym there j) sites c.0 c.1.region) ∙ is_needed;
        holds = subst (λ (b : List Binding). Holds es c.0 c.2 (length (scope_at e is i.store)) b needed (sliding_at e is c.0 i.home i.store needed) i.region i.later) there behind;
        lain = subst (λ (b : List Binding). IsLain (lain_kept a c.0 c.2 b i.region (kept_region (length (scope_at e is i.store)) b i.region)) i) there
            (subst (λ (b : List Binding). IsLain (lain_kept a c.0 c.2 around i.region (kept_region (length b) around i.region)) i) beside lain);
        judged = subst (λ (b : List Binding). IsJudged c.0 (scope_at e is i.store) b needed (sliding_at e is c.0 i.home i.store needed) i) there
            (subst (λ (b : List Binding). IsJudged c.0 b around needed (sliding_at e is c.0 i.home i.store needed) i) beside
            (subst (λ (p : Option (TrackText × ℕ)). IsJudged c.0 outer around needed p i) sliding judged));
        seated =
            let kept : List Binding → List Binding → Option LainText = λ b d. lain_kept a c.0 c.2 d i.region (kept_region (length b) d i.region) in
            subst (λ (b : List Binding). IsSeated c.0 (scope_at e is i.store) sites (sliding_at e is c.0 i.home i.store needed) (kept (scope_at e is i.store) b) i) there
            (subst (λ (b : List Binding). IsSeated c.0 b sites (sliding_at e is c.0 i.home i.store needed) (kept b around) i) beside
            (subst (λ (p : Option (TrackText × ℕ)). IsSeated c.0 outer sites p (kept outer around) i) sliding seats));
      }

  pub nothing_calls : (s : Spot) (sites : List Site) → sites_at a e is s c.0.subject.name ≡ Some (map site_of sites) → sites ≡ [] → IsComputedAt a e es is c s None
  nothing_calls s sites called none = ap is_called (called ∙ ap (λ (l : List Site). Some (map site_of l)) none)

  some_call : (sites : List Site) → (sites ≡ [] → ⊥) → is_called (Some (map site_of sites)) ≡ true
  some_call [] h = absurd (h refl)
  some_call (t ∷ ts) h = refl

  none_left : (n : ℕ) (b : Bool) → b ≡ (n == 0) → b ≡ false → n ≡ 0 → ⊥
  none_left zero b told isnt h = cc (sym told ∙ isnt)
  none_left (suc n) b told isnt h = omega (arith, h)

  some_left : (v : Vec Site) (b : Bool) → b ≡ (v.len == 0) → b ≡ false → v.items ≡ [] → ⊥
  some_left v b told isnt none = let empty : length v.items ≡ 0 = ap length none in none_left v.len b told isnt (omega (arith, v.ok.0, empty))

  pub computed_there : (s : Spot) (sites : Vec Site) (b : Bool) (i : Inner) → sites_at a e is s c.0.subject.name ≡ Some (map site_of sites.items) → b ≡ (sites.len == 0) → b ≡ false
      → i.home ≡ s → IsComputed a e es is c (inner_seen i) → IsComputedAt a e es is c s (Some (inner_seen i))
  computed_there s sites b i called empty some at is_so = (ap is_called called ∙ some_call sites.items (some_left sites b empty some), at, is_so)

  -- where nothing calls it
  pub told_uncalled : (t : HostText) (s : Spot) (sites : List Site) → sites_at a e is s c.0.subject.name ≡ Some (map site_of sites) → sites ≡ [] → inner_at a e es is c t s ≡ Some None
  told_uncalled t s sites called none =
      ap (λ (o : Option (List SiteText)). o >>= inner_if a e es is c t s) (called ∙ ap (λ (l : List Site). Some (map site_of l)) none)

  pub told_unknown : (t : HostText) (s : Spot) → sites_at a e is s c.0.subject.name ≡ None → inner_at a e es is c t s ≡ None
  told_unknown t s none = ap (λ (o : Option (List SiteText)). o >>= inner_if a e es is c t s) none

  called_by : (t : HostText) (s : Spot) (sites : List Site) → (sites ≡ [] → ⊥)
      → inner_if a e es is c t s (map site_of sites) ≡ (inner_called a e es is c t s (map site_of sites) >>= λ i. Some (Some i))
  called_by t s [] some = absurd (some refl)
  called_by t s (u ∷ us) some = refl

  pub told_called : (t : HostText) (s : Spot) (sites : Vec Site) (b : Bool) (o : Option PlacedText) → sites_at a e is s c.0.subject.name ≡ Some (map site_of sites.items)
      → b ≡ (sites.len == 0) → b ≡ false → inner_called a e es is c t s (map site_of sites.items) ≡ o → inner_at a e es is c t s ≡ (o >>= λ i. Some (Some i))
  told_called t s sites b o called empty some made =
      ap (λ (q : Option (List SiteText)). q >>= inner_if a e es is c t s) called ∙ called_by t s sites.items (some_left sites b empty some)
      ∙ ap (λ (q : Option PlacedText). q >>= λ i. Some (Some i)) made

  -- ---- several places

  homes_of : List PlacedText → List Spot
  homes_of js = map (λ i. i.home) js

  none_called : (s : Spot) (ss : List Spot) → is_called (sites_at a e is s c.0.subject.name) ≡ false → called_spots a e is c.0.subject.name ss ≡ called_spots a e is c.0.subject.name (s ∷ ss)
  none_called s ss h = ap (λ (b : Bool). (if b then s ∷ [] else []) ++ called_spots a e is c.0.subject.name ss) (sym h)

  one_called : (s : Spot) (ss : List Spot) → is_called (sites_at a e is s c.0.subject.name) ≡ true → s ∷ called_spots a e is c.0.subject.name ss ≡ called_spots a e is c.0.subject.name (s ∷ ss)
  one_called s ss h = ap (λ (b : Bool). (if b then s ∷ [] else []) ++ called_spots a e is c.0.subject.name ss) (sym h)

  computed_at : (s : Spot) (o : Option PlacedText) (ss : List Spot) (js : List PlacedText) → IsComputedAt a e es is c s o → AreComputedAt a e es is c ss js
      → AreComputedAt a e es is c (s ∷ ss) (put_before o js)
  computed_at s None ss js h k = record { places = k.places ∙ none_called s ss h; each = k.each }
  computed_at s (Some i) ss js h k = record {
    places = (λ j. h.1 j ∷ k.places j) ∙ one_called s ss h.0;
    each = (h.2, k.each);
  }

  pub computed_first : (p : Option Spot) (o : Option PlacedText) (ss : List Spot) (js : List PlacedText) → IsComputedBy a e es is c p o → AreComputedAt a e es is c ss js
      → AreComputedAt a e es is c (before p ss) (put_before o js)
  computed_first None o ss js h k = subst (λ (q : Option PlacedText). AreComputedAt a e es is c ss (put_before q js)) (sym h) k
  computed_first (Some s) o ss js h k = computed_at s o ss js h k

  pub computed_nowhere : AreComputedAt a e es is c [] []
  computed_nowhere = record { places = refl; each = tt }

  called_both : (ss ts : List Spot) → called_spots a e is c.0.subject.name ss ++ called_spots a e is c.0.subject.name ts ≡ called_spots a e is c.0.subject.name (ss ++ ts)
  called_both [] ts = refl
  called_both (s ∷ ss) ts =
      let x = c.0.subject.name in
      let here : List Spot = if is_called (sites_at a e is s x) then s ∷ [] else [] in
      append_assoc here (called_spots a e is x ss) (called_spots a e is x ts) ∙ ap (λ (l : List Spot). here ++ l) (called_both ss ts)

  each_both : (xs ys : List PlacedText) → AllByRecursion (IsComputed a e es is c) xs → AllByRecursion (IsComputed a e es is c) ys → AllByRecursion (IsComputed a e es is c) (xs ++ ys)
  each_both [] ys h k = k
  each_both (x ∷ xs) ys h k = (h.0, each_both xs ys h.1 k)

  pub computed_both : (ss ts : List Spot) (xs ys : List PlacedText) → AreComputedAt a e es is c ss xs → AreComputedAt a e es is c ts ys → AreComputedAt a e es is c (ss ++ ts) (xs ++ ys)
  computed_both ss ts xs ys h k = record {
    places = map-append (λ i. i.home) xs ys ∙ ((λ j. h.places j ++ k.places j) ∙ called_both ss ts);
    each = each_both xs ys h.each k.each;
  }

  nothing_at : (ss : List Spot) → ss ≡ [] → AreComputedAt a e es is c ss []
  nothing_at ss h = subst (λ (l : List Spot). AreComputedAt a e es is c l []) (sym h) computed_nowhere

  -- ---- hosts

  pub computed_none : (p : Option Spot) → None ≡ p → IsComputedBy a e es is c p None
  computed_none p h = subst (λ (q : Option Spot). IsComputedBy a e es is c q None) h refl

  pub computed_where : {E : Type 0} (p : Option Spot) (s : Spot) (r : Result (Option Inner) E) → Some s ≡ p → IfOk r (λ v. IsComputedAt a e es is c s (option_map inner_seen v))
      → IfOk r (λ v. IsComputedBy a e es is c p (option_map inner_seen v))
  computed_where p s r same h = subst (λ (q : Option Spot). IfOk r (λ v. IsComputedBy a e es is c q (option_map inner_seen v))) same h

  put_seen : (o : Option Inner) (xs : List Inner) → map inner_seen (put_before o xs) ≡ put_before (option_map inner_seen o) (map inner_seen xs)
  put_seen None xs = refl
  put_seen (Some i) xs = refl

  put_computed : (p : Option Spot) (ss : List Spot) (o : Option Inner) (xs all : List Inner) → IsComputedBy a e es is c p (option_map inner_seen o)
      → AreComputedAt a e es is c ss (map inner_seen xs) → all ≡ put_before o xs → AreComputedAt a e es is c (before p ss) (map inner_seen all)
  put_computed p ss o xs all h k z =
      subst (λ (l : List PlacedText). AreComputedAt a e es is c (before p ss) l) (sym (ap (map inner_seen) z ∙ put_seen o xs)) (computed_first p (option_map inner_seen o) ss (map inner_seen xs) h k)

  pub told_nowhere : (t : HostText) (p : Option Spot) → None ≡ p → inner_by a e es is c t p ≡ Some None
  told_nowhere t p h = ap (inner_by a e es is c t) (sym h)

  pub told_where : (t : HostText) (p : Option Spot) (s : Spot) (r : Result (Option Inner) Stop) → Some s ≡ p → Gives r (option_map inner_seen) (inner_at a e es is c t s)
      → Gives r (option_map inner_seen) (inner_by a e es is c t p)
  told_where t p s r same h = subst (λ (q : Option Spot). Gives r (option_map inner_seen) (inner_by a e es is c t q)) same h

  -- in the nests of a host, one after another
  module _ (h : Host) (t : HostText) (x : List ℕ) (d : ℕ) (n : NestText) (ns : List NestText) where
    abbrev behind_first : Bool → Option PlacedText → Option (List PlacedText)
    behind_first b i = (if b then Some [] else inners_in a e es is c h t x (d + 1) ns) >>= λ js. Some (put_before i js)

    in_nests : (o : Option (Option PlacedText)) (b : Bool) → inner_by a e es is c t (spot_in h t d x) ≡ o → is_over_grid t.function.placed.loops x ≡ b
        → inners_in a e es is c h t x d (n ∷ ns) ≡ (o >>= behind_first b)
    in_nests o b first grid = λ i. first i >>= behind_first (grid i)

    pub told_first_missing : inner_by a e es is c t (spot_in h t d x) ≡ None → inners_in a e es is c h t x d (n ∷ ns) ≡ None
    told_first_missing none = in_nests None (is_over_grid t.function.placed.loops x) none refl

    pub told_over_grid : (o : Option Inner) (xs all : List Inner) → inner_by a e es is c t (spot_in h t d x) ≡ Some (option_map inner_seen o)
        → is_over_grid t.function.placed.loops x ≡ true → xs ≡ [] → all ≡ put_before o xs → inners_in a e es is c h t x d (n ∷ ns) ≡ Some (map inner_seen all)
    told_over_grid o xs all first grid none z =
        in_nests (Some (option_map inner_seen o)) true first grid ∙ ap Some (sym (ap (map inner_seen) (z ∙ ap (put_before o) none) ∙ put_seen o []))

    others_by : (o : Option PlacedText) (m : ℕ) (q : Option (List PlacedText)) → m ≡ d + 1 → inners_in a e es is c h t x m ns ≡ q
        → behind_first false o ≡ (q >>= λ js. Some (put_before o js))
    others_by o m q next others =
        ap (λ (p : Option (List PlacedText)). p >>= λ js. Some (put_before o js)) (ap (λ (k : ℕ). inners_in a e es is c h t x k ns) (sym next) ∙ others)

    pub told_others_missing : (o : Option Inner) (m : ℕ) → inner_by a e es is c t (spot_in h t d x) ≡ Some (option_map inner_seen o) → is_over_grid t.function.placed.loops x ≡ false
        → m ≡ d + 1 → inners_in a e es is c h t x m ns ≡ None → inners_in a e es is c h t x d (n ∷ ns) ≡ None
    told_others_missing o m first grid next none =
        in_nests (Some (option_map inner_seen o)) false first grid ∙ others_by (option_map inner_seen o) m None next none

    pub told_in_nests : (o : Option Inner) (xs all : List Inner) (m : ℕ) → inner_by a e es is c t (spot_in h t d x) ≡ Some (option_map inner_seen o)
        → is_over_grid t.function.placed.loops x ≡ false → m ≡ d + 1 → inners_in a e es is c h t x m ns ≡ Some (map inner_seen xs) → all ≡ put_before o xs
        → inners_in a e es is c h t x d (n ∷ ns) ≡ Some (map inner_seen all)
    told_in_nests o xs all m first grid next others z =
        in_nests (Some (option_map inner_seen o)) false first grid ∙ others_by (option_map inner_seen o) m (Some (map inner_seen xs)) next others
        ∙ ap Some (sym (ap (map inner_seen) z ∙ put_seen o xs))

  module _ (home : Home) (h : Host) where
    pub told_no_host : None ≡ host_at e is h → inners_by a e es is c home h (host_at e is h) ≡ Some []
    told_no_host none = ap (inners_by a e es is c home h) (sym none)

    by_host : (t : HostText) (b : Bool) → Some t ≡ host_at e is h → same_name t.function.subject.name home.function ≡ b
        → inners_by a e es is c home h (host_at e is h) ≡ (if b then inners_in a e es is c h t home.turn 0 t.nests else Some [])
    by_host t b some same =
        ap (inners_by a e es is c home h) (sym some) ∙ ap (λ (q : Bool). if q then inners_in a e es is c h t home.turn 0 t.nests else Some []) same

    pub told_other : (t : HostText) → Some t ≡ host_at e is h → same_name t.function.subject.name home.function ≡ false
        → inners_by a e es is c home h (host_at e is h) ≡ Some []
    told_other t some other = by_host t false some other

    pub told_by_host : (t : HostText) (o : Option (List PlacedText)) → Some t ≡ host_at e is h → same_name t.function.subject.name home.function ≡ true
        → inners_in a e es is c h t home.turn 0 t.nests ≡ o → inners_by a e es is c home h (host_at e is h) ≡ o
    told_by_host t o some same told = by_host t true some same ∙ told

  module _ (home : Home) (h : Host) (hs : List Host) where
    abbrev behind_host : Option (List PlacedText) → List PlacedText → Option (List PlacedText)
    behind_host o js = o >>= λ ks. Some (js ++ ks)

    hosts_by : (o q : Option (List PlacedText)) → inners_by a e es is c home h (host_at e is h) ≡ o → inners_of_hosts a e es is c home hs ≡ q
        → inners_of_hosts a e es is c home (h ∷ hs) ≡ (o >>= behind_host q)
    hosts_by o q first others = λ i. first i >>= behind_host (others i)

    pub told_host_missing : inners_by a e es is c home h (host_at e is h) ≡ None → inners_of_hosts a e es is c home (h ∷ hs) ≡ None
    told_host_missing none = hosts_by None (inners_of_hosts a e es is c home hs) none refl

    pub told_hosts_missing : (js : List PlacedText) → inners_by a e es is c home h (host_at e is h) ≡ Some js → inners_of_hosts a e es is c home hs ≡ None
        → inners_of_hosts a e es is c home (h ∷ hs) ≡ None
    told_hosts_missing js first none = hosts_by (Some js) None first none

    pub told_hosts : (xs ys all : List Inner) → inners_by a e es is c home h (host_at e is h) ≡ Some (map inner_seen xs)
        → inners_of_hosts a e es is c home hs ≡ Some (map inner_seen ys) → all ≡ xs ++ ys → inners_of_hosts a e es is c home (h ∷ hs) ≡ Some (map inner_seen all)
    told_hosts xs ys all first others z =
        hosts_by (Some (map inner_seen xs)) (Some (map inner_seen ys)) first others ∙ ap Some (sym (ap (map inner_seen) z ∙ map-append inner_seen xs ys))

  pub told_homeless : None ≡ first_home c.0.placed.homes → inners_of a e es is c ≡ Some []
  told_homeless none = ap (inners_at a e es is c) (sym none)

  pub told_home : (home : Home) (hs : List Host) (o : Option (List PlacedText)) → Some home ≡ first_home c.0.placed.homes → hs ≡ hosts_named e is home.function
      → inners_of_hosts a e es is c home hs ≡ o → inners_of a e es is c ≡ o
  told_home home hs o some hosts told = ap (inners_at a e es is c) (sym some) ∙ ap (inners_of_hosts a e es is c home) (sym hosts) ∙ told

  module _ (h : Host) (t : HostText) (x : List ℕ) (d : ℕ) (n : NestText) (ns : List NestText) where
    spots_with : (b : Bool) → is_over_grid t.function.placed.loops x ≡ b → before (spot_in h t d x) (if b then [] else spots_in h t x (d + 1) ns) ≡ spots_in h t x d (n ∷ ns)
    spots_with b is_so = ap (λ (q : Bool). before (spot_in h t d x) (if q then [] else spots_in h t x (d + 1) ns)) (sym is_so)

    pub computed_over_grid : (o : Option Inner) (xs all : List Inner) → IsComputedBy a e es is c (spot_in h t d x) (option_map inner_seen o)
        → is_over_grid t.function.placed.loops x ≡ true → xs ≡ [] → all ≡ put_before o xs → AreComputedAt a e es is c (spots_in h t x d (n ∷ ns)) (map inner_seen all)
    computed_over_grid o xs all first grid none z =
        let others : AreComputedAt a e es is c [] (map inner_seen xs) =
        subst (λ (l : List Inner). AreComputedAt a e es is c [] (map inner_seen l)) (sym none) computed_nowhere in
        subst (λ (l : List Spot). AreComputedAt a e es is c l (map inner_seen all)) (spots_with true grid) (put_computed (spot_in h t d x) [] o xs all first others z)

    pub computed_in_nests : (m : ℕ) (o : Option Inner) (xs all : List Inner) → IsComputedBy a e es is c (spot_in h t d x) (option_map inner_seen o)
        → is_over_grid t.function.placed.loops x ≡ false → m ≡ d + 1 → AreComputedAt a e es is c (spots_in h t x m ns) (map inner_seen xs) → all ≡ put_before o xs
        → AreComputedAt a e es is c (spots_in h t x d (n ∷ ns)) (map inner_seen all)
    computed_in_nests m o xs all first grid next others z =
        let rest : AreComputedAt a e es is c (spots_in h t x (d + 1) ns) (map inner_seen xs) =
        subst (λ (k : ℕ). AreComputedAt a e es is c (spots_in h t x k ns) (map inner_seen xs)) next others in
        subst (λ (l : List Spot). AreComputedAt a e es is c l (map inner_seen all)) (spots_with false grid)
        (put_computed (spot_in h t d x) (spots_in h t x (d + 1) ns) o xs all first rest z)

  module _ (home : Home) (h : Host) where
    pub computed_no_host : None ≡ host_at e is h → AreComputedAt a e es is c (spots_by home h (host_at e is h)) []
    computed_no_host none = nothing_at (spots_by home h (host_at e is h)) (ap (spots_by home h) (sym none))

    pub computed_other : (t : HostText) → Some t ≡ host_at e is h → same_name t.function.subject.name home.function ≡ false
        → AreComputedAt a e es is c (spots_by home h (host_at e is h)) []
    computed_other t some other =
        nothing_at (spots_by home h (host_at e is h)) (ap (spots_by home h) (sym some) ∙ ap (λ (b : Bool). if b then spots_in h t home.turn 0 t.nests else []) other)

    pub computed_by_host : (t : HostText) (js : List PlacedText) → Some t ≡ host_at e is h → same_name t.function.subject.name home.function ≡ true
        → AreComputedAt a e es is c (spots_in h t home.turn 0 t.nests) js → AreComputedAt a e es is c (spots_by home h (host_at e is h)) js
    computed_by_host t js some same at =
        let all : spots_in h t home.turn 0 t.nests ≡ spots_by home h (host_at e is h) =
        ap (λ (b : Bool). if b then spots_in h t home.turn 0 t.nests else []) (sym same) ∙ ap (spots_by home h) some in
        subst (λ (l : List Spot). AreComputedAt a e es is c l js) all at

  pub computed_hosts : (home : Home) (h : Host) (hs : List Host) (xs ys all : List Inner) → AreComputedAt a e es is c (spots_by home h (host_at e is h)) (map inner_seen xs)
      → AreComputedAt a e es is c (spots_of_hosts e is home hs) (map inner_seen ys) → all ≡ xs ++ ys
      → AreComputedAt a e es is c (spots_of_hosts e is home (h ∷ hs)) (map inner_seen all)
  computed_hosts home h hs xs ys all first others z =
      subst (λ (l : List PlacedText). AreComputedAt a e es is c (spots_of_hosts e is home (h ∷ hs)) l) (sym (ap (map inner_seen) z ∙ map-append inner_seen xs ys))
      (computed_both (spots_by home h (host_at e is h)) (spots_of_hosts e is home hs) (map inner_seen xs) (map inner_seen ys) first others)

  -- ---- all places

  pub found_nowhere : None ≡ first_home c.0.placed.homes → AreComputed a e es is c []
  found_nowhere none = record { places = ap (λ (o : Option Home). called_spots a e is c.0.subject.name (spots_at e is o)) none; each = tt }

  pub found_everywhere : (home : Home) (hs : List Host) (js : List PlacedText) → Some home ≡ first_home c.0.placed.homes → hs ≡ hosts_named e is home.function
      → AreComputedAt a e es is c (spots_of_hosts e is home hs) js → AreComputed a e es is c js
  found_everywhere home hs js some hosts at =
      let all : spots_of_hosts e is home hs ≡ spots_of e is c.0 = ap (spots_of_hosts e is home) hosts ∙ ap (spots_at e is) some in
      record { places = at.places ∙ ap (called_spots a e is c.0.subject.name) all; each = at.each }

-- a bound is missing
pub limit_told : {X A : Type 0} (seen : X → A) (s : Stop) (o : Option A) → s ≡ stop.Limit → Gives (Err s) seen o → o ≡ None
limit_told seen s o e h = subst (λ (t : Stop). Gives (Err t) seen o) e h

-- ---- one function after another

module _ (a : Algorithm) (e : Entry) (es : List Entry) where
  zero_found : (n : ℕ) (is all : List PlacedText) → n < 1 → all ≡ is → AreFound a e es n is all
  zero_found zero is all h same = same
  zero_found (suc n) is all h same = absurd (omega (arith, h))

  next_found : (n last : ℕ) (o : Option Entry) (js is all : List PlacedText) → n ≡ suc last → slice_get es last ≡ o → AreComputedIf a e es is o js → AreFound a e es last (is ++ js) all
      → AreFound a e es n is all
  next_found n last o js is all next at these others =
      let first : AreComputedIf a e es is (slice_get es last) js = subst (λ (p : Option Entry). AreComputedIf a e es is p js) (sym at) these in
      subst (λ (k : ℕ). AreFound a e es k is all) (sym next) (record { found = js; these = first; others = others })

  next_missing : (n last : ℕ) (o : Option Entry) (js is : List PlacedText) (x : List ℕ) → n ≡ suc last → slice_get es last ≡ o → AreComputedIf a e es is o js
      → IsMissing a e es last (is ++ js) x → IsMissing a e es n is x
  next_missing n last o js is x next at these others =
      let first : AreComputedIf a e es is (slice_get es last) js = subst (λ (p : Option Entry). AreComputedIf a e es is p js) (sym at) these in
      subst (λ (k : ℕ). IsMissing a e es k is x) (sym next) (inr (record { found = js; these = first; others = others }))

  this_missing : (n last : ℕ) (c : Entry) (is : List PlacedText) (x : List ℕ) → n ≡ suc last → slice_get es last ≡ Some c → c.0.subject.name ≡ x → inners_of a e es is c ≡ None
      → IsMissing a e es n is x
  this_missing n last c is x next at named none =
      subst (λ (k : ℕ). IsMissing a e es k is x) (sym next) (inl (subst (λ (p : Option Entry). IsUnbounded a e es is p x) (sym at) (named, none)))

  next_if : (n last : ℕ) (o : Option Entry) (js is : List PlacedText) (r : Result (Vec Inner) (List ℕ)) → n ≡ suc last → slice_get es last ≡ o → AreComputedIf a e es is o js
      → AreFoundIf a e es last (is ++ js) r → AreFoundIf a e es n is r
  next_if n last o js is (Ok v) next at these others = next_found n last o js is (map inner_seen v.items) next at these others
  next_if n last o js is (Err x) next at these others = next_missing n last o js is x next at these others

  pub found_last : (n : ℕ) (xs : List Inner) (v : Vec Inner) → n < 1 → v.items ≡ xs → AreFoundIf a e es n (map inner_seen xs) (Ok v)
  found_last n xs v h is_so = zero_found n (map inner_seen xs) (map inner_seen v.items) h (ap (map inner_seen) is_so)

module _ (a : Algorithm) (e : Entry) (functions : List Root) (n last : ℕ) (xs : List Inner) where
  pub none_more : (r : Result (Vec Inner) (List ℕ)) → n ≡ last + 1 → slice_get functions last ≡ None → AreFoundIf a e (map root_of functions) last (map inner_seen xs) r
      → AreFoundIf a e (map root_of functions) n (map inner_seen xs) r
  none_more r next none others =
      let at : slice_get (map root_of functions) last ≡ None = slice_get-map root_of functions last ∙ ap (option_map root_of) none in
      let rest : AreFoundIf a e (map root_of functions) last (map inner_seen xs ++ []) r =
      subst (λ (l : List PlacedText). AreFoundIf a e (map root_of functions) last l r) (sym (append-nil (map inner_seen xs))) others in
      next_if a e (map root_of functions) n last None [] (map inner_seen xs) r (omega (arith, next)) at refl rest

  pub found_more : (c : Root) (ys all : List Inner) (r : Result (Vec Inner) (List ℕ)) → n ≡ last + 1 → slice_get functions last ≡ Some c
      → AreComputed a e (map root_of functions) (map inner_seen xs) (root_of c) (map inner_seen ys) → all ≡ xs ++ ys
      → AreFoundIf a e (map root_of functions) last (map inner_seen all) r → AreFoundIf a e (map root_of functions) n (map inner_seen xs) r
  found_more c ys all r next some these z others =
      let at : slice_get (map root_of functions) last ≡ Some (root_of c) = slice_get-map root_of functions last ∙ ap (option_map root_of) some in
      let rest : AreFoundIf a e (map root_of functions) last (map inner_seen xs ++ map inner_seen ys) r =
      subst (λ (l : List PlacedText). AreFoundIf a e (map root_of functions) last l r) (ap (map inner_seen) z ∙ map-append inner_seen xs ys) others in
      next_if a e (map root_of functions) n last (Some (root_of c)) (map inner_seen ys) (map inner_seen xs) r (omega (arith, next)) at these rest

  pub found_missing : (c : Root) (x : List ℕ) → n ≡ last + 1 → slice_get functions last ≡ Some c → x ≡ (root_of c).0.subject.name
      → inners_of a e (map root_of functions) (map inner_seen xs) (root_of c) ≡ None → AreFoundIf a e (map root_of functions) n (map inner_seen xs) (Err x)
  found_missing c x next some named none =
      let at : slice_get (map root_of functions) last ≡ Some (root_of c) = slice_get-map root_of functions last ∙ ap (option_map root_of) some in
      this_missing a e (map root_of functions) n last (root_of c) (map inner_seen xs) x (omega (arith, next)) at (sym named) none

pub found_without : (a : Algorithm) (e : Entry) (functions : List Root) (v : Vec Inner) → functions ≡ [] → v.items ≡ []
    → AreFoundIf a e (map root_of functions) (length functions) [] (Ok v)
found_without a e functions v none nothing =
    subst (λ (l : List Root). AreFoundIf a e (map root_of l) (length l) [] (Ok v)) (sym none) (ap (map inner_seen) nothing)
