-- Each choice inside the groups of whatever plan `lower` makes is over the symbol of a loop around it: along that the function slides whose lines it chooses.
use Rattle.std.proofs.Common.{◌≡◌, ℕ, zero, suc, ◌+◌, ◌-◌, Bool, true, false, List, [], ◌∷◌, ◌++◌, length, take, Option, Some, None, refl, sym, ap, ◌∙◌, subst, inl, inr, ◌⊎◌, arith}
use Rattle.std.specs.Prelude.{◌==◌, ◌&&◌, nat_le, if◌then◌else◌, slice_get}
use Rattle.std.specs.List.{AllByRecursion}
use Rattle.std.proofs.lemmas.Bool.Decides.{nat_tests}
use Rattle.lin.specs.declared.scope.Binding.{Binding}
use Rattle.lin.specs.declared.span.Span1.{Span1}
use Rattle.soundness.proofs.Refines.{and_parts}
use Rattle.plan.specs.declared.plan.Group.{Group as CodeGroup}
use Rattle.plan.specs.declared.stmt.Places.{Places}
use Rattle.plan.specs.declared.certificate.cert.Claim.{Claim as CodeClaim}
use Rattle.plan.specs.declared.certificate.cert.Need.{Need}
use Rattle.plan.specs.declared.certificate.cert.Window.{Window}
use Rattle.plan.specs.Plan.{Statement, Seq, For, Let, First, Guard, Alloc, Fetch, Store, Publish, Statements, Empty, Then, Group, Plan, block}
use Rattle.plan.specs.View.{group_of, plan_of, statement_of}
use Rattle.plan.specs.Lines.{block_lines, group_line}
use Rattle.plan.specs.Certificate.Certificate.{Certificate, certificate_of}
use Rattle.meaning.specs.Algorithm.{Algorithm}
use Rattle.meaning.specs.Conditions.{IsAlgorithm}
use Rattle.soundness.specs.Given.{outline_of}
use Rattle.soundness.specs.Outline.Flaws.{line_told}
use Rattle.headline.proofs.Lists.{from_map, at_left, parted}
use Rattle.sched.specs.Schedule.{Schedule}
use Rattle.sched.specs.declared.skeleton.Step.{Step}
use Rattle.sched.specs.declared.skeleton.Step.TheVariants.{Turns, Named, Tested}
use Rattle.sched.specs.Runs.{lines_to}
use Rattle.sched.specs.Skeleton.{NestText, SkeletonText}
use Rattle.sched.specs.Standing.{◌>>=◌}
use Rattle.sched.proofs.Arriving.{skeletal}
use Rattle.validation.specs.Groups.Lines.{Here, in_loop, inside, in_later, before, after, is_empty, start}
use Rattle.validation.specs.Groups.Inside.{Inside, InsideOne, StandsIn}
use Rattle.validation.specs.Groups.Wrong.{NamesUnknown}
use Rattle.validation.proofs.Wide.{contains_is}
use Rattle.lower.specs.declared.lowering.Lowered.{Lowered}
use Rattle.sched.specs.declared.hosts.Host.{Host}
use Rattle.sched.specs.declared.hosts.Host.TheVariants.{Own, Inner as Within, Later as Anew}
use Rattle.sched.specs.declared.hosts.Spot.{Spot}
use Rattle.sched.specs.Stored.{FormulaText, StoredText}
use Rattle.lower.specs.Stored.{stored_functions}
use Rattle.regions.specs.Regions.{bodies_from, skeleton_of}
use Rattle.sched.specs.Loading.{Loads}
use Rattle.blocks.specs.Blocks.{dimensions_of, claimed_region}
use Rattle.blocks.specs.Bodies.{IsStore, AreNests, IsBodyWith}
use Rattle.sched.specs.Fetches.{Entry}
use Rattle.blocks.specs.Fetches.{FetchText, with_fetches}
use Rattle.regions.specs.Homes.{HostText, host_at, with_nests}
use Rattle.regions.specs.Demanded.{scope_at, nest_at, first_steps, steps_at}
use Rattle.regions.specs.Slid.{TrackText, track_here, or_here, track_of, sliding_dimension}
use Rattle.lower.specs.Slid.{unless_scattered, sliding_in, sliding_at, held_along, HasLater, HoldsBy, Holds}
use Rattle.lower.specs.Computed.{IsComputed, AreComputedIf, AreFound, AreAllFound}
use Rattle.sched.specs.Placed.{LaterText, PlacedText, OwnerText, same_host, same_number, spot}
use Rattle.lower.specs.Placed.{IsMixedBody, with_fetched}
use Rattle.blocks.specs.Placed.{begun, names_over, group_owner, owner, same_spot, over_grid}
use Rattle.lower.specs.Groups.{rooted, HasGroups, IsBodyBy}
use Rattle.blocks.proofs.Laying.{bound, same}
use Rattle.completeness.specs.Inside.{IsFirst, ChoiceLinesAreKnown}
use Rattle.completeness.proofs.Walked.{AreFine, AreSteps, StandsAt, group_done}
use Rattle.completeness.proofs.WalkedTurns.{IsLoopOf, IsApart, rises_apart, Chooses, ChooseAll, joined_choose, Choosing, choosing_each}
use Rattle.completeness.proofs.InnerLets.{IsNamed}
use Rattle.completeness.proofs.InnerShapes.{IsInner}
use Rattle.completeness.proofs.InnerBodies.{over_region}
use Rattle.completeness.proofs.InnerStored.{IsGroupAt, all_found, group_there, gs, ordered_rise}

-- ---- places

hosts_same : (a b : Host) → same_host a b ≡ true → a ≡ b
hosts_same Own Own e = refl
hosts_same Own (Within m) e = absurd (cc e)
hosts_same Own (Anew m) e = absurd (cc e)
hosts_same (Within n) Own e = absurd (cc e)
hosts_same (Within n) (Within m) e = ap Within (let is : n ≡ m = grind (arith, nat_tests, e) in is)
hosts_same (Within n) (Anew m) e = absurd (cc e)
hosts_same (Anew n) Own e = absurd (cc e)
hosts_same (Anew n) (Within m) e = absurd (cc e)
hosts_same (Anew n) (Anew m) e = ap Anew (let is : n ≡ m = grind (arith, nat_tests, e) in is)

numbers_same : (a b : Option ℕ) → same_number a b ≡ true → a ≡ b
numbers_same None None e = refl
numbers_same None (Some m) e = absurd (cc e)
numbers_same (Some n) None e = absurd (cc e)
numbers_same (Some n) (Some m) e = ap (λ (k : ℕ). Some k) (let is : n ≡ m = grind (arith, nat_tests, e) in is)

record AreSame (a b : Spot) : Type 0 where
  host : a.host ≡ b.host
  definition : a.definition ≡ b.definition
  depth : a.depth ≡ b.depth

spots_same : (a b : Spot) → same_spot a b ≡ true → AreSame a b
spots_same a b e =
    let one = and_parts (same_host a.host b.host && same_number a.definition b.definition) (a.depth == b.depth) e in
    let two = and_parts (same_host a.host b.host) (same_number a.definition b.definition) one.0 in
    let deep = one.1 in
    record { host = hosts_same a.host b.host two.0; definition = numbers_same a.definition b.definition two.1; depth = grind (arith, nat_tests, deep) }

-- ---- the loop along which a function slides

loop_on : (s : Step) (steps : List Step) (k : ℕ) → IsLoopOf steps k → IsLoopOf (s ∷ steps) k
loop_on (Turns i x kind) steps k h = inr h
loop_on (Named i pick fs) steps k h = h
loop_on (Tested low high) steps k h = h

tracks_loop : (steps : List Step) (t : TrackText) → track_of steps ≡ Some t → IsLoopOf steps t.symbol
tracks_loop [] t e = absurd (cc e)
tracks_loop (s ∷ steps) t e = of (track_of steps) refl e (tracks_loop steps)
  where
    here : (s : Step) → track_here s steps ≡ Some t → IsLoopOf (s ∷ steps) t.symbol
    here (Turns i x kind) q = inl (ap (λ (u : TrackText). u.symbol) (same _ t q))
    here (Named i pick fs) q = absurd (cc q)
    here (Tested low high) q = absurd (cc q)

    of : (o : Option TrackText) → track_of steps ≡ o → or_here o (track_here s steps) ≡ Some t → ((u : TrackText) → track_of steps ≡ Some u → IsLoopOf steps u.symbol) → IsLoopOf (s ∷ steps) t.symbol
    of (Some u) h q rest = loop_on s steps t.symbol (subst (λ (v : TrackText). IsLoopOf steps v.symbol) (same u t q) (rest u h))
    of None h q rest = here s q

sliding_loop : (g : StoredText) (r : List Span1) (steps : List Step) (x : TrackText × ℕ) → sliding_in g r steps ≡ Some x → IsLoopOf steps x.0.symbol
sliding_loop g r steps x e =
    let t = bound (track_of steps) (λ t. sliding_dimension t r >>= unless_scattered g t) x e in
    let d = bound (sliding_dimension t.value r) (unless_scattered g t.value) x t.comes in
    subst (λ (u : TrackText). IsLoopOf steps u.symbol) (of _ t.value d.value d.comes) (tracks_loop steps t.value t.is)
  where
    of : (b : Bool) (t : TrackText) (d : ℕ) → (if b then None else Some (t, d)) ≡ Some x → t ≡ x.0
    of true t d q = absurd (cc q)
    of false t d q = ap (λ (y : TrackText × ℕ). y.0) (same (t, d) x q)

record IsAlong (e : Entry) (is : List PlacedText) (home : Spot) (x : TrackText × ℕ) : Type 0 where
  steps : List Step
  around : steps_at e is home ≡ Some steps
  loop : IsLoopOf steps x.0.symbol

slides_along : (e : Entry) (is : List PlacedText) (g : StoredText) (home store : Spot) (r : List Span1) (x : TrackText × ℕ) → sliding_at e is g home store r ≡ Some x → IsAlong e is home x
slides_along e is g home store r x q = of (same_spot home store) q
  where
    of : (b : Bool) → (if b then None else (steps_at e is home >>= sliding_in g r)) ≡ Some x → IsAlong e is home x
    of true q = absurd (cc q)
    of false q = (let s = bound (steps_at e is home) (sliding_in g r) x q in record { steps = s.value; around = s.is; loop = sliding_loop g r s.value x s.comes })

-- ---- its later turns

record IsLaterOf (o : Option (TrackText × ℕ)) (l : LaterText) : Type 0 where
  along : TrackText × ℕ
  is : o ≡ Some along
  symbol : l.symbol ≡ along.0.symbol

no_later : {A : Type 0} (o : Option LaterText) (l : LaterText) → o ≡ None → o ≡ Some l → A
no_later o l e f = absurd (cc (e, f))

has_symbol : (g : StoredText) (fs : List FormulaText) (kept : Option (List Span1)) (x : TrackText × ℕ) (scope : List Binding) (h : List Span1) (o : Option LaterText) → HasLater g fs kept x scope h o →
    (l : LaterText) → o ≡ Some l → l.symbol ≡ x.0.symbol
has_symbol g fs kept x scope h None has l e = absurd (cc e)
has_symbol g fs kept x scope h (Some k) has l e = sym (ap (λ (u : LaterText). u.symbol) (same k l e)) ∙ has.symbol

by_symbol : (g : StoredText) (fs : List FormulaText) (n : ℕ) (x : TrackText × ℕ) (scope : List Binding) (r : List Span1) (o : Option (List Span1)) (held : List Span1) (later : Option LaterText) →
    HoldsBy g fs n x scope r o held later → (l : LaterText) → later ≡ Some l → l.symbol ≡ x.0.symbol
by_symbol g fs n x scope r None held later h l e = no_later later l h.none e
by_symbol g fs n x scope r (Some k) held later h l e = has_symbol g fs _ x scope k later h.turns l e

holds_symbol : (es : List Entry) (g : StoredText) (fs : List FormulaText) (n : ℕ) (scope : List Binding) (r : List Span1) (o : Option (TrackText × ℕ)) (held : List Span1) (later : Option LaterText) →
    Holds es g fs n scope r o held later → (l : LaterText) → later ≡ Some l → IsLaterOf o l
holds_symbol es g fs n scope r None held later h l e = no_later later l h.none e
holds_symbol es g fs n scope r (Some x) held later h l e = record { along = x; is = refl; symbol = by_symbol g fs n x scope r (held_along es g fs scope r x) held later h l e }

-- ---- what is computed in a group

-- over those that were found before it
record IsComputedIn (a : Algorithm) (e : Entry) (es : List Entry) (all : List PlacedText) (i : PlacedText) : Type 0 where
  found : List PlacedText
  entry : Entry
  computed : IsComputed a e es found entry i
  first : (k : ℕ) (j : PlacedText) → slice_get found k ≡ Some j → slice_get all k ≡ Some j

module _ (a : Algorithm) (e : Entry) (es : List Entry) where
  stay_first : (n : ℕ) (is all : List PlacedText) → AreFound a e es n is all → (k : ℕ) (j : PlacedText) → slice_get is k ≡ Some j → slice_get all k ≡ Some j
  stay_first zero is all h k j at = ap (λ (xs : List PlacedText). slice_get xs k) h ∙ at
  stay_first (suc n) is all h k j at = stay_first n (is ++ h.found) all h.others k j (at_left is h.found k j at)

  these_computed : (is all : List PlacedText) (c : Entry) → ((k : ℕ) (j : PlacedText) → slice_get is k ≡ Some j → slice_get all k ≡ Some j) → (js : List PlacedText) →
      AllByRecursion (IsComputed a e es is c) js → (k : ℕ) (i : PlacedText) → slice_get js k ≡ Some i → IsComputedIn a e es all i
  these_computed is all c stay [] h k i at = absurd (cc at)
  these_computed is all c stay (j ∷ js) h zero i at = subst (IsComputedIn a e es all) (same j i at) (record { found = is; entry = c; computed = h.0; first = stay })
  these_computed is all c stay (j ∷ js) h (suc k) i at = these_computed is all c stay js h.1 k i at

  if_computed : (is all : List PlacedText) (o : Option Entry) → ((k : ℕ) (j : PlacedText) → slice_get is k ≡ Some j → slice_get all k ≡ Some j) → (js : List PlacedText) →
      AreComputedIf a e es is o js → (k : ℕ) (i : PlacedText) → slice_get js k ≡ Some i → IsComputedIn a e es all i
  if_computed is all None stay js h k i at = absurd (nothing (ap (λ (xs : List PlacedText). slice_get xs k) (sym h) ∙ at))
    where
      nothing : None ≡ Some i → ⊥
      nothing q = cc
  if_computed is all (Some c) stay js h k i at = these_computed is all c stay js h.each k i at

  all_computed : (n : ℕ) (is all : List PlacedText) → AreFound a e es n is all → ((k : ℕ) (i : PlacedText) → slice_get is k ≡ Some i → IsComputedIn a e es all i) → (k : ℕ) (i : PlacedText) →
      slice_get all k ≡ Some i → IsComputedIn a e es all i
  all_computed zero is all h so k i at = so k i (ap (λ (xs : List PlacedText). slice_get xs k) (sym h) ∙ at)
  all_computed (suc n) is all h so k i at = all_computed n (is ++ h.found) all h.others (λ j w q. of j w (parted is h.found j w q)) k i at
    where
      of : (j : ℕ) (w : PlacedText) → (slice_get is j ≡ Some w) ⊎ ((m : ℕ) × (j ≡ length is + m) × (slice_get h.found m ≡ Some w)) → IsComputedIn a e es all w
      of j w (inl one) = so j w one
      of j w (inr two) = if_computed is all (slice_get es n) (stay_first (suc n) is all h) h.found h.these two.0 w two.2

-- ---- who owns nests

module _ (e : Entry) (inners : List PlacedText) where
  -- they are those of the host
  abbrev Hosts : OwnerText → List NestText → Type 0
  Hosts o ns = (t : HostText) × (host_at e inners o.host ≡ Some t) × (t.nests ≡ ns)

  inner_hosts : (n : ℕ) (i : PlacedText) (b : ℕ) → slice_get inners n ≡ Some i → Hosts (owner (Within n) i b) i.nests
  inner_hosts n i b at = (with_nests i i.nests, ap (λ (o : Option PlacedText). o >>= λ i. Some (with_nests i i.nests)) at, refl)

  later_hosts : (n : ℕ) (i : PlacedText) (b : ℕ) (l : LaterText) → slice_get inners n ≡ Some i → i.later ≡ Some l → Hosts (owner (Anew n) i b) l.nests
  later_hosts n i b l at later = (
    with_nests i l.nests,
    ap (λ (o : Option PlacedText). o >>= λ i. i.later >>= λ l. Some (with_nests i l.nests)) at ∙ ap (λ (o : Option LaterText). o >>= λ l. Some (with_nests i l.nests)) later,
    refl,
  )

  -- one that is found before is the same among all
  host_more : (found : List PlacedText) → ((k : ℕ) (j : PlacedText) → slice_get found k ≡ Some j → slice_get inners k ≡ Some j) → (h : Host) (t : HostText) → host_at e found h ≡ Some t →
      host_at e inners h ≡ Some t
  host_more found first Own t q = q
  host_more found first (Within n) t q =
      let b = bound (slice_get found n) (λ i. Some (with_nests i i.nests)) t q in
      ap (λ (o : Option PlacedText). o >>= λ i. Some (with_nests i i.nests)) (first n b.value b.is) ∙ b.comes
  host_more found first (Anew n) t q =
      let b = bound (slice_get found n) (λ i. i.later >>= λ l. Some (with_nests i l.nests)) t q in
      ap (λ (o : Option PlacedText). o >>= λ i. i.later >>= λ l. Some (with_nests i l.nests)) (first n b.value b.is) ∙ b.comes

  take_first : (f ss : List Step) → take (length f) (f ++ ss) ≡ f
  take_first [] ss = refl
  take_first (s ∷ f) ss = ap (λ (ts : List Step). s ∷ ts) (take_first f ss)

  taken : (k : ℕ) (steps got : List Step) → first_steps k steps ≡ Some got → take k steps ≡ got
  taken k steps got q = of (nat_le k (length steps)) q
    where
      of : (b : Bool) → (if b then Some (take k steps) else None) ≡ Some got → take k steps ≡ got
      of true q = same (take k steps) got q
      of false q = absurd (cc q)

  -- the steps around a place are those that were passed
  passed : (found : List PlacedText) → ((k : ℕ) (j : PlacedText) → slice_get found k ≡ Some j → slice_get inners k ≡ Some j) → (home : Spot) (f steps : List Step) → StandsAt Hosts home f →
      steps_at e found home ≡ Some steps → steps ≡ f
  passed found first home f steps stand q =
      let n = bound (nest_at e found home) (λ n. first_steps home.depth n.steps) steps q in
      let d = bound home.definition (λ d. host_at e found home.host >>= λ t. slice_get t.nests d) n.value n.is in
      let t = bound (host_at e found home.host) (λ t. slice_get t.nests d.value) n.value d.comes in
      of stand d.value d.is t.value (host_more found first home.host t.value t.is) n.value t.comes (taken home.depth n.value.steps steps n.comes)
    where
      of : StandsAt Hosts home f → (d : ℕ) → home.definition ≡ Some d → (t : HostText) → host_at e inners home.host ≡ Some t → (w : NestText) → slice_get t.nests d ≡ Some w →
          take home.depth w.steps ≡ steps → steps ≡ f
      of (inl over) d is t host w at got = (let s = spots_same home over_grid over in let none = s.definition in absurd (cc (none, is)))
      of (inr h) d is t host w at got =
          let s = spots_same home (spot h.owner.host h.definition h.depth) h.home_is in
          let same_d : d ≡ h.definition = same d h.definition (sym is ∙ s.definition) in
          let same_t : t ≡ h.owns.0 = same t h.owns.0 (sym host ∙ ap (host_at e inners) s.host ∙ h.owns.1) in
          let same_w : w ≡ h.nest = same w h.nest (sym at ∙ ap (λ (u : HostText). slice_get u.nests d) same_t ∙ ap (λ (ns : List NestText). slice_get ns d) h.owns.2 ∙ ap (slice_get h.nests)
          same_d ∙ h.at) in
          let deep : home.depth ≡ length f = s.depth ∙ sym h.deep in
          sym got ∙ ap (λ (k : ℕ). take k w.steps) deep ∙ ap (λ (u : NestText). take (length f) u.steps) same_w ∙ ap (take (length f)) (sym h.stands) ∙ take_first f h.steps

  slid : (a : Algorithm) (es : List Entry) → ((k : ℕ) (i : PlacedText) → slice_get inners k ≡ Some i → IsComputedIn a e es inners i) → (n : ℕ) (i : PlacedText) (l : LaterText) (f : List Step) →
      slice_get inners n ≡ Some i → i.later ≡ Some l → StandsAt Hosts i.home f → IsLoopOf f l.symbol
  slid a es known n i l f at later stand =
      let c = known n i at in
      let h = c.computed in
      let r = holds_symbol es c.entry.0 c.entry.2 (length (scope_at e c.found i.store)) (scope_at e c.found i.home) h.region (sliding_at e c.found c.entry.0 i.home i.store h.region)
      i.region i.later h.holds l later in
      let s = slides_along e c.found c.entry.0 i.home i.store h.region r.along r.is in
      subst (λ (k : ℕ). IsLoopOf f k) (sym r.symbol) (subst (λ (g : List Step). IsLoopOf g r.along.0.symbol) (passed c.found c.first i.home f s.steps stand s.around) s.loop)

found_there : (a : Algorithm) (n : ℕ) (es others : List Entry) (placed : List (List PlacedText)) → AreAllFound a n es others placed → (g : ℕ) (e : Entry) (js : List PlacedText) → slice_get
    es g ≡ Some e →
    slice_get placed g ≡ Some js → AreFound a e others n [] js
found_there a n [] others placed h g e js one at = absurd (cc one)
found_there a n (u ∷ es) others [] h g e js one at = absurd h
found_there a n (u ∷ es) others (us ∷ placed) h zero e js one at =
    subst (λ (w : Entry). AreFound a w others n [] js) (same u e one) (subst (AreFound a u others n []) (same us js at) h.0)
found_there a n (u ∷ es) others (us ∷ placed) h (suc g) e js one at = found_there a n es others placed h.1 g e js one at

-- ---- lines around

lines_choose : (ss : List Step) (inner : Statements) → ((ls : List ℕ) → ChooseAll inner ls) → (ls : List ℕ) → ChooseAll (lines_to ss inner) ls
lines_choose [] inner h ls = h ls
lines_choose (Turns i x kind ∷ ss) inner h ls = (lines_choose ss inner h (ls ++ i ∷ []), tt)
lines_choose (Named i pick fs ∷ ss) inner h ls = (tt, lines_choose ss inner h ls)
lines_choose (Tested low high ∷ ss) inner h ls = (lines_choose ss inner h ls, tt)

fetches_choose : (fs : List FetchText) (rest : List Statement) (ls : List ℕ) → ChooseAll (block rest) ls → ChooseAll (block (with_fetches fs rest)) ls
fetches_choose [] rest ls h = h
fetches_choose (f ∷ fs) rest ls h = (tt, (tt, fetches_choose fs rest ls h))

store_choose : (g : StoredText) (fs : List FormulaText) (ms : Loads) (d : ℕ) (w : NestText) (s : Statement) → IsStore g fs ms d w s → (ls : List ℕ) → ChooseAll (Then s Empty) ls
store_choose g fs ms d w (Store b k at e) h ls = (tt, tt)
store_choose g fs ms d w (Seq all) h ls = absurd h
store_choose g fs ms d w (For i x kind body) h ls = absurd h
store_choose g fs ms d w (Let i pick forms) h ls = absurd h
store_choose g fs ms d w (First i a b) h ls = absurd h
store_choose g fs ms d w (Guard low high body) h ls = absurd h
store_choose g fs ms d w (Alloc b f places) h ls = absurd h
store_choose g fs ms d w (Fetch b f region) h ls = absurd h
store_choose g fs ms d w (Publish c) h ls = absurd h

nests_choose : (g : StoredText) (fs : List FormulaText) (r : List Span1) (ms : Loads) (c line d : ℕ) (ns : List NestText) (xs : List Statement) (cs : List CodeClaim) →
    AreNests g fs r ms c line d ns xs cs → (ls : List ℕ) → ChooseAll (block xs) ls
nests_choose g fs r ms c line d [] xs cs h ls = subst (λ (ys : List Statement). ChooseAll (block ys) ls) (sym h.0) tt
nests_choose g fs r ms c line d (w ∷ ns) xs [] h ls = absurd h
nests_choose g fs r ms c line d (w ∷ ns) xs (v ∷ cs) h ls =
    let nest = h.here.nest in
    let here : ChooseAll (block h.first) ls =
    subst (λ (s : Statements). ChooseAll s ls) (sym nest.comes) (lines_choose w.steps (Then nest.store Empty) (λ us. store_choose g fs ms d w nest.store nest.stores us) ls) in
    let rest = nests_choose g fs r (ms ++ (g.subject.name, c) ∷ []) (c + 1) (line + block_lines (block h.first)) (d + 1) ns h.others cs h.behind ls in
    subst (λ (ys : List Statement). ChooseAll (block ys) ls) (sym h.are) (joined_choose h.first h.others ls here rest)

body_chooses : (g : StoredText) (k : SkeletonText) (places : List Places) (fs : List FetchText) (nests : List Statement) (claim : ℕ) (body : Statement) → IsBodyWith g k places fs nests claim body →
    ((ls : List ℕ) → ChooseAll (block nests) ls) → Chooses body []
body_chooses g k places fs nests claim body with h =
    subst (λ (s : Statement). Chooses s []) (sym with.is)
    (lines_choose k.head (block (Alloc 0 g.subject.name places ∷ with_fetches fs (nests ++ Publish claim ∷ [])))
    (λ ls. (tt, fetches_choose fs (nests ++ Publish claim ∷ []) ls (joined_choose nests (Publish claim ∷ []) ls (h ls) (tt, tt)))) [])

-- ---- of a line inside the group

module _ (a : Algorithm) (p : Plan) (c : Certificate) (n : ℕ) (g : Group) (line : ℕ) where
  abbrev Flawed : Statement → Here → Type 0
  Flawed s here = (line_told here.line ≡ line) × (IsFirst s × NamesUnknown a p c g (outline_of p c n g) s here)

  mutual
    none_inside : (s : Statement) (here : Here) → Chooses s here.loops → Inside Flawed s here → ⊥
    none_inside (Seq all) here h k = none_in_all all here h k
    none_inside (For i x kind body) here h (inl k) = k.1.0
    none_inside (For i x kind body) here h (inr k) = none_inside body (in_loop i here) h k
    none_inside (Let i pick fs) here h k = k.1.0
    none_inside (First i b d) here h (inl k) = k.1.1 (contains_is here.loops i h.0)
    none_inside (First i b d) here h (inr (inl k)) = none_inside b (inside here) h.1 k
    none_inside (First i b d) here h (inr (inr k)) = none_inside d (in_later b here) h.2 k
    none_inside (Guard low high body) here h (inl k) = k.1.0
    none_inside (Guard low high body) here h (inr k) = none_inside body (inside here) h k
    none_inside (Alloc b f places) here h k = k.1.0
    none_inside (Fetch b u region) here h k = k.1.0
    none_inside (Store b q at e) here h k = k.1.0
    none_inside (Publish q) here h k = k.1.0

    none_in_all : (all : Statements) (here : Here) → ChooseAll all here.loops → InsideOne Flawed all here → ⊥
    none_in_all Empty here h k = k
    none_in_all (Then s rest) here h (inl k) = none_inside s (before (is_empty rest) here) h.0 k
    none_in_all (Then s rest) here h (inr k) = none_in_all rest (after s here) h.1 k

module _ (a : Algorithm) (sch : Schedule) (l : Lowered) (well : IsAlgorithm a) (groups : HasGroups a (stored_functions a sch) l) where
  abbrev p : Plan
  p = plan_of l.plan

  abbrev c : Certificate
  c = certificate_of l.certificate

  abbrev entries : List Entry
  entries = rooted true (gs a sch l well groups) groups.placed.regions

  abbrev others : List Entry
  others = rooted false (gs a sch l well groups) groups.placed.regions

  module _ (h : ℕ) (q : CodeGroup) (g : IsGroupAt a sch l well groups h q) where
    abbrev e : Entry
    e = g.body.entry

    abbrev k : SkeletonText
    k = e.1.skeleton

    laid : skeleton_of e.0 e.2 e.1.region ≡ Some k
    laid = over_region true (gs a sch l well groups) groups.placed.regions h e groups.placed.around g.body.at

    mixed_chooses : (inners : List PlacedText) → slice_get groups.placed.inside.placed h ≡ Some inners → ((j : ℕ) (i : PlacedText) → slice_get inners j ≡ Some i → IsInner (gs a sch l well groups) i) →
        (n first line next : ℕ) (claims : List CodeClaim) (needs : List Need) (windows : List Window) → IsMixedBody entries n first line next inners e claims needs windows (statement_of q.body) →
        Chooses (statement_of q.body) []
    mixed_chooses inners inside known n first line next claims needs windows b =
        let s0 = with_fetched b.fetches b.lines_of b.fetched (begun first line k) in
        let o = group_owner e (claimed_region (dimensions_of e.0 e.1.region k)) in
        let found = found_there a (length others) entries others groups.placed.inside.placed (all_found a sch l well groups) h e inners g.body.at inside in
        let computed = all_computed a e others (length others) [] inners found (λ j i at. absurd (cc at)) in
        let steps : (j : ℕ) (i : PlacedText) → slice_get inners j ≡ Some i → AreSteps IsApart IsNamed i =
        λ j i at. let u = known j i at in record {
          lets = u.lets;
          nests = λ d w there. let r = u.shapes d w there in rises_apart [] r.from r.to w.steps (λ j w. absurd w) r.rises;
          later = λ l later d w there. let r = u.later l later d w there in rises_apart [] r.from r.to w.steps (λ j w. absurd w) r.rises;
        } in
        let order = skeletal e.0.subject.variables (bodies_from e.0.changes 0 e.0.subject.reductions e.2) e.0.placed e.1.region k laid in
        let own : (d : ℕ) (w : NestText) → slice_get k.nests d ≡ Some w → AreFine IsApart [] w.steps =
        λ d w there. let r = order.nests d w there in rises_apart [] r.from r.to w.steps (λ j w. absurd w) (ordered_rise r.from r.to w.steps r.steps) in
        let choosing = group_done inners IsApart IsNamed (Hosts e inners) Choosing
        (choosing_each inners (Hosts e inners) (λ n i b at. inner_hosts e inners n i b at) (λ n i b l at later. later_hosts e inners n i b l at later) (slid e inners a others computed)) steps
        (length inners) o k.nests (host_own, refl, refl) own (names_over k) s0 b.done b.nests b.made in
        body_chooses e.0 k _ b.fetches b.nests (b.done.claim - 1) (statement_of q.body) b.with (λ ls. choosing ls (λ j v w. absurd w))
      where
        host_own : HostText
        host_own = record { function = e.0; formulas = e.2; nests = e.1.skeleton.nests }

    group_chooses : Chooses (statement_of q.body) []
    group_chooses = of g.body.inners g.body.inside g.body.body g.inside
      where
        of : (inners : List PlacedText) → slice_get groups.placed.inside.placed h ≡ Some inners →
            IsBodyBy a entries (0 + h) g.body.first g.body.line g.body.next inners e q g.body.claims g.body.needs g.body.windows →
            ((j : ℕ) (i : PlacedText) → slice_get inners j ≡ Some i → IsInner (gs a sch l well groups) i) → Chooses (statement_of q.body) []
        of [] inside w known = (let b = w.0 in body_chooses e.0 k _ b.fetches b.nests _ (statement_of q.body) b.with (λ ls. nests_choose e.0 e.2 _ _ _ _ 0 k.nests b.nests b.own b.nested ls))
        of (i ∷ is) inside b known = mixed_chooses (i ∷ is) inside known (0 + h) g.body.first g.body.line g.body.next g.body.claims g.body.needs g.body.windows b

  none_at : (line : ℕ) → StandsIn p (λ n g s here. IsFirst s × NamesUnknown a p c g (outline_of p c n g) s here) line → ⊥
  none_at line h =
      let x = from_map group_of l.plan.groups.items h.number h.group h.there in
      let q = x.0 in
      let g = group_there a sch l well groups h.number q x.1 in
      let first : Group → Here = λ u. start (line_told (group_line p h.number)) u in
      let stands = subst (λ (u : Group). Inside (λ s here. (line_told here.line ≡ line) × (IsFirst s × NamesUnknown a p c u (outline_of p c h.number u) s here)) u.body (first u)) x.2 h.stands in
      none_inside a p c h.number (group_of q) line (statement_of q.body) (first (group_of q)) (group_chooses h.number q g) stands

pub known : ChoiceLinesAreKnown
known a s l well legal groups line h = none_at a s l well groups line h
