-- Of functions whose loops are split once, by blocks that need no line of their own: all that the lines of their groups owe is shown, where what is fetched holds the calls, and left indices
-- that are no variables lie in their dimensions.
use Rattle.std.proofs.Common.{◌≡◌, ℕ, ◌+◌, ◌<◌, ◌≤◌, Bool, true, false, ◌&&◌, ◌∷◌, List, [], length, map, Some, None, sym, ap, ◌∙◌, subst, arith, ◌||◌, refl, inl, inr, ◌⊎◌}
use Rattle.std.specs.Prelude.{string_bytes, slice_get, ◌==◌}
use Rattle.std.specs.List.{AllByRecursion, list_any, list_all}
use Rattle.lin.specs.declared.span.Span1.{Span1}
use Rattle.plan.specs.declared.plan.Group.{Group as CodeGroup}
use Rattle.plan.specs.declared.stmt.Places.{Places}
use Rattle.plan.specs.declared.certificate.cert.Claim.{Claim as CodeClaim}
use Rattle.plan.specs.declared.certificate.cert.Need.{Need}
use Rattle.plan.specs.Plan.{Statement, Group, Plan, Seq, For, Let, First, Guard, Alloc, Fetch, Store, Publish}
use Rattle.plan.specs.View.{group_of, plan_of, statement_of}
use Rattle.plan.specs.Lines.{body_line, lines}
use Rattle.plan.specs.Certificate.Certificate.{Certificate, certificate_of}
use Rattle.meaning.specs.Algorithm.{Function, Algorithm}
use Rattle.meaning.specs.Conditions.{IsAlgorithm}
use Rattle.soundness.specs.Origins.{Outline}
use Rattle.soundness.specs.Given.{outline_of}
use Rattle.soundness.specs.Obligations.{Known, Rules, Obligation, obligations, is_member}
use Rattle.soundness.specs.Shown.{Nests, is_shown, start}
use Rattle.soundness.specs.Binders.View.{grid_binders}
use Rattle.soundness.specs.Claims.{In}
use Rattle.soundness.specs.Nests.Laws.{domains_of}
use Rattle.rules.specs.Bounding.Scopes.{most_symbols}
use Rattle.rules.specs.Bounding.Rules.{rules_of}
use Rattle.headline.proofs.Lists.{at_map, from_map}
use Rattle.headline.proofs.Regions.{at_in}
use Rattle.sched.specs.Schedule.{Schedule}
use Rattle.sched.specs.Legal.{IsLegal, said, loops_after}
use Rattle.sched.specs.declared.schedule.Split.{Split}
use Rattle.sched.specs.declared.numbers.Extent.{Extent}
use Rattle.sched.specs.declared.numbers.Numbers.{Numbers}
use Rattle.sched.specs.Numbers.{loop_numbers, is_too_short}
use Rattle.sched.specs.Skeleton.{SkeletonText}
use Rattle.tails.specs.Steps.{spine_of}
use Rattle.tails.specs.Nests.{makes_by}
use Rattle.lower.specs.declared.lowering.Lowered.{Lowered}
use Rattle.sched.specs.Stored.{FormulaText, StoredText}
use Rattle.lower.specs.Stored.{stored_functions, has_large}
use Rattle.regions.specs.Faults.{are_whole}
use Rattle.lower.specs.Faults.{calls_of_large, region_fault, no_totals}
use Rattle.sched.specs.Regions.{LaidText}
use Rattle.regions.specs.Regions.{laid_functions}
use Rattle.sched.specs.Around.{head_scope}
use Rattle.sched.specs.Bounded.{whole}
use Rattle.blocks.specs.Bounded.{is_bounded}
use Rattle.lower.specs.Owning.{IsLaidBy}
use Rattle.blocks.specs.Blocks.{dimensions_of, own_places, dimension_of, lay_over}
use Rattle.sched.specs.Fetches.{Entry}
use Rattle.lower.specs.Groups.{HasBody, HasGroups, AreGroupsMade}
use Rattle.blocks.proofs.Laying.{same}
use Rattle.completeness.specs.Laws.{NamesNoLoad, AreLinesTold, IsStore as IsStoreLine, IsFetch, AreSplitOnce}
use Rattle.completeness.specs.Owed.{EachLine, BindBelow, AreGridsFew, AreSymbolsFew, IsNameTest, EachClaim, TakePlain, AreClaimsNear}
use Rattle.completeness.specs.Stores.{AreHeld, GroupShown}
use Rattle.completeness.proofs.Laid.{found}
use Rattle.completeness.proofs.Owned.{same_extents, same_skeleton, some_same}
use Rattle.completeness.proofs.Served.{made_at}
use Rattle.completeness.proofs.Scoped.{own_grid}
use Rattle.completeness.proofs.Held.{held}
use Rattle.completeness.proofs.StoreLines.{ours, roots, lines_of, Holding, st, text}
use Rattle.completeness.proofs.StoreNames.{lines_weaker}
use Rattle.completeness.proofs.Left.{rest_left, lines_paired, rest_met}
use Rattle.completeness.proofs.GridCounts.{IsShort, grid_few}
use Rattle.completeness.proofs.Limited.{IsLimited}
use Rattle.completeness.proofs.LimitedLines.{limited as skeleton_limited}
use Rattle.completeness.proofs.RegionBounds.{IsEnded, region_ends, root_bounded}
use Rattle.completeness.proofs.StoreBounds.{Shows}
use Rattle.completeness.specs.Parted.{KeepsInner}
use Rattle.completeness.specs.Nested.{SayYes, TakeSplit}
use Rattle.completeness.specs.Fitting.{IsSplitOnce}
use Rattle.completeness.specs.Filled.{AreEndsShort, BlockedGroupsOweShown, IsShownElsewhere, stores_to}
use Rattle.completeness.proofs.NamedClaims.{alone_body}
use Rattle.completeness.proofs.NestWalk.{LetsFirst}
use Rattle.completeness.proofs.Joined.{claims_paired}
use Rattle.completeness.specs.Placed.{GoesOn, AreLeftsHeld, AreOwnHeld}
use Rattle.completeness.proofs.StoreScopes.{body_bound}
use Rattle.tree.specs.Term.{Term}
use Rattle.lin.specs.Forms.{number}
use Rattle.plan.specs.declared.stmt.Places.TheVariants.{From}
use Rattle.sched.specs.declared.placing.Loop.{Loop}
use Rattle.sched.specs.Placing.{is_parallel, is_scattered}
use Rattle.sched.specs.Subjects.{lacks, scattered_from}
use Rattle.completeness.proofs.PureNests.{all_in}
use Rattle.completeness.proofs.RangedLefts.{left_of_update}
use Rattle.completeness.proofs.Unparallel.{apart, scattered_there}
use Rattle.completeness.proofs.WholeDims.{whole_dimension}
use Rattle.completeness.proofs.TailShown.{yes_at}
use Rattle.sched.specs.declared.schedule.Tail.TheVariants.{Guard}
use Rattle.completeness.proofs.ShortShifts.{long_shifts}
use Rattle.completeness.proofs.StoreShapes as nests_of
use Rattle.completeness.proofs.StoreTails as tails_of
use Rattle.completeness.proofs.PlacedStores as stores_of
use Rattle.soundness.proofs.Refines.{eq_refl}
use Rattle.rules.specs.Widths.Widths.{wide_lines}
use Rattle.tails.specs.Windows.Nests.{slid_nests}
use Rattle.audit.specs.Verdict.Left.{leaves}
use Rattle.lower.specs.Refused.{AreSmall, AreRegionsKept}
use Rattle.completeness.proofs.TakenSites.{Has}
use Rattle.completeness.proofs.WideLines.{IsWideStore, StoresIntoOwn, own_stores, wide_each}
use Rattle.completeness.proofs.StoreDebts.{store_line}
use Rattle.completeness.proofs.FarPlaces.{early_or}
use Rattle.completeness.proofs.NearBoxes.{IsFew, regions_few}

-- no store of the group is told to leave its buffer
abbrev StaysIn : Group → Type 0
StaysIn g = (b k : ℕ) → stores_to b g.body ≡ true → leaves b k g.body ≡ false

has_member : (i : ℕ) (ns : List ℕ) → Has i ns → is_member i ns ≡ true
has_member i [] h = absurd h
has_member i (n ∷ ns) (inl e) = ap (λ (b : Bool). b || is_member i ns) (ap (λ (m : ℕ). m == i) (sym e) ∙ eq_refl i)
has_member i (n ∷ ns) (inr h) = or_later (n == i) (is_member i ns) (has_member i ns h)
  where
    or_later : (b c : Bool) → c ≡ true → (b || c) ≡ true
    or_later true c k = refl
    or_later false c k = k

-- ---- groups

module _ (a : Algorithm) (sch : Schedule) (l : Lowered) (well : IsAlgorithm a) (legal : IsLegal a sch) (small : has_large (stored_functions a sch) ≡ false)
    (kept : region_fault a (stored_functions a sch) ≡ None) (all : are_whole (stored_functions a sch) ≡ true) (groups : HasGroups a (stored_functions a sch) l) (told : AreLinesTold (plan_of l.plan))
    (free : NamesNoLoad a) (grids : AreGridsFew (plan_of l.plan)) (few : AreSymbolsFew (plan_of l.plan)) where
  abbrev mine : List CodeClaim
  mine = ours a sch l well legal small kept all groups told free

  abbrev entries : List Entry
  entries = roots a sch l well legal small kept all groups told free

  abbrev IsHolding : ℕ → CodeGroup → List ℕ → ℕ → Type 0
  IsHolding n q = Holding a sch l well legal small kept all groups told free (lines_of a sch l well legal small kept all groups told free n q)

  abbrev texts : Function → StoredText
  texts f = text a sch l well legal small kept all groups told free f

  abbrev flags_of : List Bool
  flags_of = st a sch l well legal small kept all groups told free

  abbrev plan : Plan
  plan = plan_of l.plan

  abbrev cert : Certificate
  cert = certificate_of l.certificate

  module _ (n : ℕ) (q : CodeGroup) (place : ℕ) (f : Function) (at : slice_get a.functions place ≡ Some f) (there : slice_get (stored_functions a sch) n ≡ Some (texts f)) (first line : ℕ)
      (claims : List CodeClaim) (needs : List Need) (theirs : slice_get l.plan.groups.items n ≡ Some q) (h : HasBody a entries n first line (texts f) q claims needs)
      (hold : (j : ℕ) (w : CodeClaim) → slice_get claims j ≡ Some w → IsHolding n q (string_bytes w.function) (first + j))
      (numbered : (j : ℕ) (v : CodeClaim) → slice_get claims j ≡ Some v → slice_get mine (first + j) ≡ Some v) (lined : body_line plan n ≡ line + 1)
      (alone_here : (j : ℕ) (w : CodeClaim) → slice_get mine j ≡ Some w → line < w.line → w.line < line + (lines (statement_of q.body) + 1) → In w claims)
      (limits : IsLimited h.skeleton) (grid : q.grid.items ≡ h.skeleton.grid) (short : AllByRecursion IsShort h.skeleton.grid) (narrow : length h.skeleton.grid ≤ most_symbols)
      (few_here : BindBelow most_symbols (statement_of q.body)) (laid : IsLaidBy (texts f) h.extents h.skeleton) (split_alone : AreSplitOnce (texts f).placed.cuts)
      (keeps : KeepsInner (texts f).placed.loops (texts f).placed.cuts)
      (roomy_all : AllByRecursion (λ c. is_too_short (loop_numbers (texts f).subject.variables (texts f).placed.cuts h.extents) c ≡ false) (texts f).placed.cuts)
      (lefts : AreLeftsHeld a (texts f) h.formulas h.extents h.skeleton) (own_indices : AreOwnHeld a (texts f) h.formulas h.extents h.skeleton)
      (bounded : is_bounded a (texts f) (head_scope h.skeleton) (map whole h.extents) 0 h.formulas h.skeleton.nests ≡ Some true) (ended : AllByRecursion IsEnded h.extents)
      (few_numbers : AllByRecursion IsFew h.extents) (held_parts : AreHeld a (stored_functions a sch) n (texts f) h.formulas h.skeleton) where
    abbrev k : SkeletonText
    k = h.skeleton

    abbrev fs : List FormulaText
    fs = h.formulas

    abbrev g : StoredText
    g = texts f

    abbrev places : List Places
    places = own_places (dimensions_of g h.extents k)

    abbrev O : Outline
    O = outline_of plan cert n (group_of q)

    abbrev R : Rules
    R = rules_of a plan cert n

    abbrev rs : List Numbers
    rs = loop_numbers f.variables (loops_after (said sch) f).cuts h.extents

    abbrev cuts : List Split
    cuts = g.placed.cuts

    abbrev place_named : List ℕ → Places
    place_named x = (dimension_of (lay_over g h.extents k) cuts x).places

    abbrev claim_of_name : List ℕ → Span1
    claim_of_name x = (dimension_of (lay_over g h.extents k) cuts x).claim

    bare : AllByRecursion (λ w. LetsFirst (λ i pick forms. ⊥) w.steps) k.nests
    bare = nests_of.bare_nests a sch l well legal small kept all groups n first line g q claims needs there theirs h lined numbered alone_here laid split_alone keeps

    abbrev More : Obligation → Type 0
    More o = IsNameTest o.wanted → ⊥

    abbrev AllShown : Statement → ℕ → Known → Type 0
    AllShown s at_line known = IsStoreLine s → (nests : Nests) → Shows O R nests More (obligations O R s at_line known)

    -- a dimension that a left index sets has no parallel loop, and each piece has all of it
    dims_whole : (j d : ℕ) (u : FormulaText) (e : Term) (x : List ℕ) (z : Extent) → slice_get fs d ≡ Some u → slice_get u.at j ≡ Some (Some e) → slice_get f.variables j ≡ Some x →
        slice_get h.extents j ≡ Some z → (y : Extent) × GoesOn z y × (place_named x ≡ From (number y.low) y.count) × (claim_of_name x ≡ whole y)
    dims_whole j d u e x z at_u at_e at_x at_z =
        whole_dimension a sch l well legal small kept all groups n first line g q claims needs there theirs h lined numbered alone_here laid split_alone keeps j x at_x apart_here
        ended z at_z
      where
        apart_here : (o : Loop) → In o g.placed.loops → is_parallel o ≡ true → o.dimension ≡ j → ⊥
        apart_here o m parallel dimension =
            let y = left_of_update a well place f at flags_of fs h.defined d u at_u j e at_e in
            let none : 0 + j ≡ j = omega arith in
            let variable : x ≡ y.2.variable = some_same x y.2.variable (sym at_x ∙ y.2.named) in
            let lacking : lacks x (0 + j) y.2.change ≡ true = (λ i. lacks (variable i) (none i) y.2.change) ∙ y.2.lacking in
            let there_too = scattered_there f.changes 0 f.variables j x at_x y.0 y.2.change y.2.changes lacking in
            let scattered : is_scattered g.subject o ≡ true =
            ap (λ (m : ℕ). list_any (λ d. d == m) (scattered_from f.changes 0 f.variables)) (dimension ∙ sym none) ∙ there_too in
            let clear : is_scattered g.subject o ≡ false =
            all_in (λ o. is_parallel o ≡ true → is_scattered g.subject o ≡ false) g.placed.loops o (apart g.subject laid.directives g.placed laid.placed) m parallel in
            let clash : true ≡ false = sym scattered ∙ clear in
            cc clash

    abbrev Early : Type 0
    Early = AreEndsShort rs cuts

    body_shows : Early → EachLine O R AllShown (statement_of q.body) (body_line plan n) (start (grid_binders q.grid.items))
    body_shows =
        stores_of.body_shows a sch l well legal small kept all groups told free n q place f at there first line claims needs theirs h hold numbered lined alone_here bounded lefts
        own_indices held_parts
        place_named claim_of_name (nests_of.own_places_are a sch l well legal small kept all groups n first line g q claims needs there theirs h lined numbered alone_here laid split_alone
        keeps) (nests_of.own_claim_is a sch l well legal small kept all groups n first line g q claims needs there theirs h lined numbered alone_here laid split_alone keeps)
        dims_whole laid.long (nests_of.dims a sch l well legal small kept all groups n first line g q claims needs there theirs h lined numbered alone_here laid split_alone keeps)
        Early
        (λ d w stands known scoped. tails_of.ready_here a sch l well legal small kept all groups n first line g q claims needs there theirs h lined numbered alone_here laid split_alone
        keeps roomy_all ended d w stands known scoped) (body_bound a sch l well legal small kept all groups few n q f first line claims needs h laid limits grid short narrow bare few_here)

    abbrev AllTold : Statement → ℕ → Known → Type 0
    AllTold s at_line known = IsStoreLine s → (nests : Nests) → Shows O R nests More (obligations O R s at_line known) ⊎ IsWideStore R s known

    body_told : EachLine O R AllTold (statement_of q.body) (body_line plan n) (start (grid_binders q.grid.items))
    body_told =
        stores_of.body_told a sch l well legal small kept all groups told free n q place f at there first line claims needs theirs h hold numbered lined alone_here bounded lefts
        own_indices held_parts
        place_named claim_of_name (nests_of.own_places_are a sch l well legal small kept all groups n first line g q claims needs there theirs h lined numbered alone_here laid split_alone
        keeps) (nests_of.own_claim_is a sch l well legal small kept all groups n first line g q claims needs there theirs h lined numbered alone_here laid split_alone keeps)
        dims_whole laid.long (nests_of.dims a sch l well legal small kept all groups n first line g q claims needs there theirs h lined numbered alone_here laid split_alone keeps)
        Early
        (λ d w stands known scoped. tails_of.ready_here a sch l well legal small kept all groups n first line g q claims needs there theirs h lined numbered alone_here laid split_alone
        keeps roomy_all ended d w stands known scoped) (body_bound a sch l well legal small kept all groups few n q f first line claims needs h laid limits grid short narrow bare few_here)

    body_own : EachLine O R (λ s at_line known. StoresIntoOwn s) (statement_of q.body) (body_line plan n) (start (grid_binders q.grid.items))
    body_own =
        stores_of.own_told a sch l well legal small kept all groups told free n q place f at there first line claims needs theirs h hold numbered lined alone_here bounded lefts
        own_indices held_parts
        place_named claim_of_name (nests_of.own_places_are a sch l well legal small kept all groups n first line g q claims needs there theirs h lined numbered alone_here laid split_alone
        keeps) (nests_of.own_claim_is a sch l well legal small kept all groups n first line g q claims needs there theirs h lined numbered alone_here laid split_alone keeps)
        dims_whole laid.long (nests_of.dims a sch l well legal small kept all groups n first line g q claims needs there theirs h lined numbered alone_here laid split_alone keeps)
        Early
        (λ d w stands known scoped. tails_of.ready_here a sch l well legal small kept all groups n first line g q claims needs there theirs h lined numbered alone_here laid split_alone
        keeps roomy_all ended d w stands known scoped) (body_bound a sch l well legal small kept all groups few n q f first line claims needs h laid limits grid short narrow bare few_here)

    -- blocks end within 32 bits, or no store is told to leave its buffer
    body_stays : Early ⊎ StaysIn (group_of q)
    body_stays = elim (early_or a sch l well legal small kept all groups n first line g q claims needs there theirs h lined numbered alone_here laid split_alone keeps few_numbers) [
      | inl early ↦ inl early
      | inr far ↦ inr (λ b m e.
          let none = own_stores O R b (statement_of q.body) (body_line plan n) (start (grid_binders q.grid.items)) body_own e in
          ap (λ (i : ℕ). leaves i m (statement_of q.body)) none ∙ far m)
    ]

  -- what the stores of a group owe
  abbrev pub StoresAreShown : ℕ → Group → Type 0
  StoresAreShown n x =
      EachLine (outline_of plan cert n x) (rules_of a plan cert n)
      (λ s at_line known. IsStoreLine s → (nests : Nests) →
      Shows (outline_of plan cert n x) (rules_of a plan cert n) nests (λ o. IsNameTest o.wanted → ⊥) (obligations (outline_of plan cert n x) (rules_of a plan cert n) s at_line known))
      x.body (body_line plan n) (start (grid_binders x.grid))

  -- or a coordinate is not shown to be an i32
  abbrev StoresAreTold : ℕ → Group → Type 0
  StoresAreTold n x =
      EachLine (outline_of plan cert n x) (rules_of a plan cert n)
      (λ s at_line known. IsStoreLine s → (nests : Nests) →
      Shows (outline_of plan cert n x) (rules_of a plan cert n) nests (λ o. IsNameTest o.wanted → ⊥) (obligations (outline_of plan cert n x) (rules_of a plan cert n) s at_line known)
      ⊎ IsWideStore (rules_of a plan cert n) s known)
      x.body (body_line plan n) (start (grid_binders x.grid))

  -- what stores owe is shown where blocks end within 32 bits; else it is but where a coordinate is not shown to be an i32, and no store is told to leave its buffer
  pub record IsStoring (n : ℕ) (x : Group) (v : StoredText) (es : List Extent) : Type 0 where
    pub all_shown : AreEndsShort (loop_numbers v.subject.variables v.placed.cuts es) v.placed.cuts → StoresAreShown n x
    pub all_told : StoresAreTold n x
    pub all_stay : AreEndsShort (loop_numbers v.subject.variables v.placed.cuts es) v.placed.cuts ⊎ StaysIn x

  pub group_at : (n : ℕ) (q : CodeGroup) → slice_get l.plan.groups.items n ≡ Some q → (v : StoredText) → slice_get (stored_functions a sch) n ≡ Some v → AreSplitOnce v.placed.cuts →
      KeepsInner v.placed.loops v.placed.cuts → (us : List FormulaText) → v.formulas ≡ Some us → (r : LaidText)
      → slice_get (laid_functions a (stored_functions a sch)) n ≡ Some (Some r) →
      AreLeftsHeld a v us r.region r.skeleton → AreOwnHeld a v us r.region r.skeleton → AreHeld a (stored_functions a sch) n v us r.skeleton → IsStoring n (group_of q) v r.region
  group_at n q theirs v stands once_only inners_only us defined r found_there lefts own_indices held_parts =
      let me = made_at a sch l well legal small kept all groups n q theirs in
      let w = found a sch flags_of me.stored a.functions n me.is in
      let p = alone_body a entries mine 0 0 4 (stored_functions a sch) l.plan.groups.items mine l.certificate.needs.items (groups.bodies all)
      (λ j v e. let none : 0 + j ≡ j = omega arith in ap (slice_get mine) none ∙ e) n me.stored q me.is theirs in
      let b = p.placed in
      let counted : 0 + n ≡ n = omega arith in
      let there : slice_get (stored_functions a sch) n ≡ Some (texts w.function) = me.is ∙ ap (λ (u : StoredText). Some u) w.is in
      let body = subst (λ (u : StoredText). HasBody a entries n b.first_claim b.line u q b.claims b.needs) w.is
      (subst (λ (i : ℕ). HasBody a entries i b.first_claim b.line me.stored q b.claims b.needs) counted b.body) in
      let lined = b.lined in
      let begins : body_line plan n ≡ b.line + 1 = omega (arith, lined) in
      let own : (j : ℕ) (w : CodeClaim) → slice_get mine j ≡ Some w → b.line < w.line → w.line < b.line + (lines (statement_of q.body) + 1) → In w b.claims =
      λ j w e low less. let x = p.alone j w e (omega (arith, lined, low)) (omega (arith, lined, less)) in at_in b.claims x.0 w x.2 in
      let extents : me.laid.region ≡ body.extents = same_extents a sch l well legal small kept all groups n q me.laid body.extents theirs me.found body.region in
      let skeleton : me.laid.skeleton ≡ body.skeleton =
      same_skeleton a sch l well legal small kept all groups n (texts w.function) me.laid body.formulas body.extents body.skeleton there me.found body.defined extents body.laid in
      let laid : IsLaidBy (texts w.function) body.extents body.skeleton =
      subst (λ (u : StoredText). IsLaidBy u body.extents body.skeleton) w.is
      (subst (λ (k : SkeletonText). IsLaidBy me.stored body.extents k) skeleton (subst (λ (es : List Extent). IsLaidBy me.stored es me.laid.skeleton) extents me.laid_by)) in
      let grid : q.grid.items ≡ body.skeleton.grid = own_grid a sch l well legal small kept all groups n b.first_claim b.line (texts w.function) q b.claims b.needs there theirs body in
      let short : AllByRecursion IsShort body.skeleton.grid = subst (AllByRecursion IsShort) (sym me.grid ∙ grid) (grid_few me.stored me.laid.region me.laid.skeleton me.laid_by) in
      let narrow : length body.skeleton.grid ≤ most_symbols = subst (λ (ns : List ℕ). length ns ≤ most_symbols) grid (grids n (group_of q) (at_map group_of l.plan.groups.items n q theirs)) in
      let limits = skeleton_limited a sch l well legal small kept all groups n q w.place w.function w.at there b.first_claim b.line b.claims b.needs theirs body in
      let this : v ≡ texts w.function = some_same v (texts w.function) (sym stands ∙ there) in
      let once_here : AreSplitOnce (texts w.function).placed.cuts = subst (λ (u : StoredText). AreSplitOnce u.placed.cuts) this once_only in
      let inners_here : KeepsInner (texts w.function).placed.loops (texts w.function).placed.cuts = subst (λ (u : StoredText). KeepsInner u.placed.loops u.placed.cuts) this inners_only in
      let roomy : AllByRecursion (λ c. is_too_short (loop_numbers (texts w.function).subject.variables (texts w.function).placed.cuts body.extents) c ≡ false) (texts w.function).placed.cuts =
      subst (λ (es : List Extent). AllByRecursion (λ c. is_too_short (loop_numbers (texts w.function).subject.variables (texts w.function).placed.cuts es) c ≡ false) (texts w.function).placed.cuts)
      extents
      (long_shifts a sch kept n (texts w.function) me.laid there me.found) in
      let root = root_bounded a (calls_of_large a (stored_functions a sch)) no_totals (stored_functions a sch) (laid_functions a (stored_functions a sch)) kept n (texts w.function)
      body.formulas me.laid
      there body.defined me.found in
      let bounded : is_bounded a (texts w.function) (head_scope body.skeleton) (map whole body.extents) 0 body.formulas body.skeleton.nests ≡ Some true =
      subst (λ (es : List Extent). is_bounded a (texts w.function) (head_scope body.skeleton) (map whole es) 0 body.formulas body.skeleton.nests ≡ Some true) extents
      (subst (λ (k : SkeletonText). is_bounded a (texts w.function) (head_scope k) (map whole me.laid.region) 0 body.formulas k.nests ≡ Some true) skeleton root) in
      let region = subst (AllByRecursion IsEnded) extents (region_ends a (stored_functions a sch) n me.stored me.laid me.is me.found) in
      let holding = held a sch l well legal small kept all groups told n b.first_claim b.line (texts w.function) q b.claims b.needs there theirs body b.numbered b.lined in
      let texts_same : us ≡ body.formulas = same us body.formulas (sym defined ∙ ap (λ (u : StoredText). u.formulas) this ∙ body.defined) in
      let laid_same : r ≡ me.laid = some_same r me.laid (some_same (Some r) (Some me.laid) (sym found_there ∙ me.found)) in
      let skeletons : r.skeleton ≡ body.skeleton = ap (λ (y : LaidText). y.skeleton) laid_same ∙ skeleton in
      let regions_same : r.region ≡ body.extents = ap (λ (y : LaidText). y.region) laid_same ∙ extents in
      let held_there = subst (λ (k : SkeletonText). AreHeld a (stored_functions a sch) n (texts w.function) body.formulas k) skeletons
      (subst (λ (fs : List FormulaText). AreHeld a (stored_functions a sch) n (texts w.function) fs r.skeleton) texts_same
      (subst (λ (u : StoredText). AreHeld a (stored_functions a sch) n u us r.skeleton) this held_parts)) in
      let few_there : AllByRecursion IsFew body.extents = subst (AllByRecursion IsFew) extents (regions_few a (stored_functions a sch) n me.laid all me.found) in
      let lefts_there : AreLeftsHeld a (texts w.function) body.formulas body.extents body.skeleton =
      subst (λ (k : SkeletonText). AreLeftsHeld a (texts w.function) body.formulas body.extents k) skeletons
      (subst (λ (es : List Extent). AreLeftsHeld a (texts w.function) body.formulas es r.skeleton) regions_same
      (subst (λ (fs : List FormulaText). AreLeftsHeld a (texts w.function) fs r.region r.skeleton) texts_same
      (subst (λ (u : StoredText). AreLeftsHeld a u us r.region r.skeleton) this lefts))) in
      let own_there : AreOwnHeld a (texts w.function) body.formulas body.extents body.skeleton =
      subst (λ (k : SkeletonText). AreOwnHeld a (texts w.function) body.formulas body.extents k) skeletons
      (subst (λ (es : List Extent). AreOwnHeld a (texts w.function) body.formulas es r.skeleton) regions_same
      (subst (λ (fs : List FormulaText). AreOwnHeld a (texts w.function) fs r.region r.skeleton) texts_same
      (subst (λ (u : StoredText). AreOwnHeld a u us r.region r.skeleton) this own_indices))) in
      let symbols = few n (group_of q) (at_map group_of l.plan.groups.items n q theirs) in
      subst (IsStoring n (group_of q) v) (sym regions_same) (subst (λ (u : StoredText). IsStoring n (group_of q) u body.extents) (sym this) (record {
        all_shown = body_shows n q w.place w.function w.at there b.first_claim b.line b.claims b.needs theirs body holding b.numbered begins own limits grid short narrow symbols laid once_here
            inners_here roomy lefts_there own_there bounded region few_there held_there;
        all_told = body_told n q w.place w.function w.at there b.first_claim b.line b.claims b.needs theirs body holding b.numbered begins own limits grid short narrow symbols laid once_here
            inners_here roomy lefts_there own_there bounded region few_there held_there;
        all_stay = body_stays n q w.place w.function w.at there b.first_claim b.line b.claims b.needs theirs body holding b.numbered begins own limits grid short narrow symbols laid once_here
            inners_here roomy lefts_there own_there bounded region few_there held_there;
      }))

or_true : (b d : Bool) → b ≡ true → (b || d) ≡ true
or_true b d e = ap (λ (v : Bool). v || d) e

-- the checker's tests of nests say yes to what those of split nests do
pub slid_take : (a : Algorithm) (p : Plan) (c : Certificate) (n : ℕ) (g : Group) → TakeSplit a p c n g (slid_nests (outline_of p c n g) (rules_of a p c n) (domains_of a))
slid_take a p c n g = ((λ bs m from places t e. or_true _ _ e), (λ bs m t e. e))

-- the tests of nests say yes to the claims of nests
claims_say : (a : Algorithm) (s : Schedule) (l : Lowered) → IsAlgorithm a → IsLegal a s → AreSmall a s → AreRegionsKept a s → AreGroupsMade a s l → are_whole (stored_functions a s) ≡ true →
    (n : ℕ) (g : Group) → slice_get (plan_of l.plan).groups n ≡ Some g → (u : StoredText) → slice_get (stored_functions a s) n ≡ Some u → IsSplitOnce u →
    (nests : Nests) → TakeSplit a (plan_of l.plan) (certificate_of l.certificate) n g nests →
    EachClaim (outline_of (plan_of l.plan) (certificate_of l.certificate) n g) (rules_of a (plan_of l.plan) (certificate_of l.certificate) n)
    (λ kept begin last k t m. (IsFetch t → ⊥) → SayYes (outline_of (plan_of l.plan) (certificate_of l.certificate) n g) (rules_of a (plan_of l.plan) (certificate_of l.certificate) n) nests k t m)
    [] g.body (body_line (plan_of l.plan) n) (start (grid_binders g.grid))
claims_say a s l well legal small regions groups all n g at u there split_once nests takes =
    let p = plan_of l.plan in
    let c = certificate_of l.certificate in
    let rules = rules_of a p c n in
    let x = from_map group_of l.plan.groups.items n g at in
    let here = yes_at a s l well legal small (regions all).0 all groups n x.0 x.1 u there split_once in
    let yes = subst (λ (v : Group). EachClaim (outline_of p c n v) rules
    (λ kept begin last k t m. (IsFetch t → ⊥) → (tests : Nests) → TakeSplit a p c n v tests → SayYes (outline_of p c n v) rules tests k t m) [] v.body (body_line p n)
    (start (grid_binders v.grid))) (sym x.2) here in
    claims_paired (outline_of p c n g) rules (λ kept begin last k t m. (IsFetch t → ⊥) → (tests : Nests) → TakeSplit a p c n g tests → SayYes (outline_of p c n g) rules tests k t m)
    (λ kept begin last k t m. (IsFetch t → ⊥) → (tests : Nests) → TakeSplit a p c n g tests → SayYes (outline_of p c n g) rules tests k t m)
    (λ kept begin last k t m. (IsFetch t → ⊥) → SayYes (outline_of p c n g) rules nests k t m) (λ kept begin last k t m h q none. h none nests takes) [] g.body (body_line p n)
    (start (grid_binders g.grid)) yes yes

pub blocked_owed : BlockedGroupsOweShown
blocked_owed a s l well legal small regions groups all free told grids few near n g at u there split_once fs defined r laid lefts own_indices held_parts early nests takes =
    let p = plan_of l.plan in
    let c = certificate_of l.certificate in
    let o = outline_of p c n g in
    let rules = rules_of a p c n in
    let x = from_map group_of l.plan.groups.items n g at in
    let at_group = group_at a s l well legal small (regions all).0 all groups told free grids few n x.0 x.1 u there split_once.once split_once.inners fs defined r laid lefts own_indices held_parts in
    let shown = subst (λ (y : Group). StoresAreShown a s l well legal small (regions all).0 all groups told free grids few n y) (sym x.2) (at_group.all_shown early) in
    let stores = lines_weaker o rules (λ t i y. IsStoreLine t → (tests : Nests) → Shows o rules tests (λ o'. IsNameTest o'.wanted → ⊥) (obligations o rules t i y))
    (λ t i y. IsStoreLine t → AllByRecursion (λ o'. (IsNameTest o'.wanted → ⊥) → is_shown rules nests o' ≡ true) (obligations o rules t i y)) (λ t i y z one. z one nests) g.body (body_line p n)
    (start (grid_binders g.grid)) shown in
    let plain : TakePlain a p c n g nests = λ bs m from places t e. takes.0 bs m from places t
    (ap (λ (b : Bool). b || makes_by o.setting rules (domains_of a) bs (o.claim m) from places (spine_of t (o.claim m).buffer)) e) in
    rest_left a s l well legal small regions groups all (grids, near, told) n g at free nests plain stores
    (claims_say a s l well legal small regions groups all n g at u there split_once nests takes)

-- what is owed at a line of a store whose coordinate is not shown to be an i32
met_at : (rules : Rules) (nests : Nests) (wide : List ℕ) (os : List Obligation) (i : ℕ) → AllByRecursion (λ x. x.line ≡ i) os → is_member i wide ≡ true →
    list_all (λ x. is_shown rules nests x || is_member x.line wide) os ≡ true
met_at rules nests wide [] i h e = refl
met_at rules nests wide (o ∷ os) i h e =
    let here : (is_shown rules nests o || is_member o.line wide) ≡ true = or_second (is_shown rules nests o) (is_member o.line wide) (ap (λ (m : ℕ). is_member m wide) h.0 ∙ e) in
    let rest = met_at rules nests wide os i h.1 e in
    λ j. here j && rest j
  where
    or_second : (b c : Bool) → c ≡ true → (b || c) ≡ true
    or_second true c k = refl
    or_second false c k = k

wide_met : (o : Outline) (rules : Rules) (nests : Nests) (wide : List ℕ) (t : Statement) (i : ℕ) (y : Known) → IsWideStore rules t y → is_member i wide ≡ true →
    list_all (λ x. is_shown rules nests x || is_member x.line wide) (obligations o rules t i y) ≡ true
wide_met o rules nests wide (Store b k cs e) i y w h = met_at rules nests wide (obligations o rules (Store b k cs e) i y) i (store_line o rules i y b k cs e) h
wide_met o rules nests wide (Seq all) i y w h = absurd w
wide_met o rules nests wide (For j x kind body) i y w h = absurd w
wide_met o rules nests wide (Let j pick ls) i y w h = absurd w
wide_met o rules nests wide (First j b c) i y w h = absurd w
wide_met o rules nests wide (Guard low high body) i y w h = absurd w
wide_met o rules nests wide (Alloc b f seats) i y w h = absurd w
wide_met o rules nests wide (Fetch b f region) i y w h = absurd w
wide_met o rules nests wide (Publish c) i y w h = absurd w

-- all that the lines of a group owe is shown, or what is not is owed at such lines
pub blocked_either : (a : Algorithm) (s : Schedule) (l : Lowered) → IsAlgorithm a → IsLegal a s → AreSmall a s → AreRegionsKept a s → AreGroupsMade a s l →
    are_whole (stored_functions a s) ≡ true → NamesNoLoad a → AreLinesTold (plan_of l.plan) → AreGridsFew (plan_of l.plan) → AreSymbolsFew (plan_of l.plan) →
    AreClaimsNear (certificate_of l.certificate) → (n : ℕ) (g : Group) → slice_get (plan_of l.plan).groups n ≡ Some g → (u : StoredText) → slice_get (stored_functions a s) n ≡ Some u →
    IsSplitOnce u → (fs : List FormulaText) → u.formulas ≡ Some fs → (r : LaidText) → slice_get (laid_functions a (stored_functions a s)) n ≡ Some (Some r) →
    AreLeftsHeld a u fs r.region r.skeleton → AreOwnHeld a u fs r.region r.skeleton → AreHeld a (stored_functions a s) n u fs r.skeleton →
    GroupShown TakeSplit a (plan_of l.plan) (certificate_of l.certificate) n g ⊎ IsShownElsewhere a (plan_of l.plan) (certificate_of l.certificate) n g
blocked_either a s l well legal small regions groups all free told grids few near n g at u there split_once fs defined r laid lefts own_indices held_parts =
    elim at_group.all_stay [
      | inl early ↦ inl (λ nests takes. blocked_owed a s l well legal small regions groups all free told grids few near n g at u there split_once fs defined r laid lefts own_indices held_parts
          early nests takes)
      | inr stays ↦ inr (record { shown = elsewhere; stays = λ b k e. subst StaysIn (sym x.2) stays b k e })
    ]
  where
    p : Plan
    p = plan_of l.plan

    c : Certificate
    c = certificate_of l.certificate

    o : Outline
    o = outline_of p c n g

    rules : Rules
    rules = rules_of a p c n

    x : (q : CodeGroup) × (slice_get l.plan.groups.items n ≡ Some q) × (g ≡ group_of q)
    x = from_map group_of l.plan.groups.items n g at

    at_group : IsStoring a s l well legal small (regions all).0 all groups told free grids few n (group_of x.0) u r.region
    at_group = group_at a s l well legal small (regions all).0 all groups told free grids few n x.0 x.1 u there split_once.once split_once.inners fs defined r laid lefts own_indices held_parts

    nests : Nests
    nests = slid_nests o rules (domains_of a)

    takes : TakeSplit a p c n g nests
    takes = slid_take a p c n g

    wide : List ℕ
    wide = wide_lines rules (grid_binders g.grid) (body_line p n) g.body

    met : Obligation → Bool
    met y = is_shown rules nests y || is_member y.line wide

    Told : Statement → ℕ → Known → Type 0
    Told t i y = IsStoreLine t → (tests : Nests) → Shows o rules tests (λ z. IsNameTest z.wanted → ⊥) (obligations o rules t i y) ⊎ IsWideStore rules t y

    told_here : EachLine o rules Told g.body (body_line p n) (start (grid_binders g.grid))
    told_here = subst (λ (v : Group). StoresAreTold a s l well legal small (regions all).0 all groups told free grids few n v) (sym x.2) at_group.all_told

    at_lines : EachLine o rules (λ t i y. IsWideStore rules t y → is_member i wide ≡ true) g.body (body_line p n) (start (grid_binders g.grid))
    at_lines = wide_each o rules (λ i. is_member i wide ≡ true) g.body (body_line p n) (start (grid_binders g.grid)) (λ i has. has_member i wide has)

    stores : EachLine o rules (λ t i y. IsStoreLine t → AllByRecursion (λ z. (IsNameTest z.wanted → ⊥) → is_shown rules nests z ≡ true) (obligations o rules t i y)
        ⊎ (list_all met (obligations o rules t i y) ≡ true)) g.body (body_line p n) (start (grid_binders g.grid))
    stores = lines_paired o rules Told (λ t i y. IsWideStore rules t y → is_member i wide ≡ true)
        (λ t i y. IsStoreLine t → AllByRecursion (λ z. (IsNameTest z.wanted → ⊥) → is_shown rules nests z ≡ true) (obligations o rules t i y) ⊎ (list_all met (obligations o rules t i y) ≡ true))
        (λ t i y one w is. elim (one is nests) [ inl so ↦ inl so | inr far ↦ inr (wide_met o rules nests wide t i y far (w far)) ]) g.body (body_line p n) (start (grid_binders g.grid)) told_here
        at_lines

    plain : TakePlain a p c n g nests
    plain = λ bs m from places t e. takes.0 bs m from places t
        (ap (λ (b : Bool). b || makes_by o.setting rules (domains_of a) bs (o.claim m) from places (spine_of t (o.claim m).buffer)) e)

    shown_met : (y : Obligation) → is_shown rules nests y ≡ true → met y ≡ true
    shown_met y e = ap (λ (b : Bool). b || is_member y.line wide) e

    elsewhere : list_all met (obligations o rules g.body (body_line p n) (start (grid_binders g.grid))) ≡ true
    elsewhere =
        rest_met a s l well legal small regions groups all grids near told n g at free nests plain met shown_met stores
        (claims_say a s l well legal small regions groups all n g at u there split_once nests takes)
