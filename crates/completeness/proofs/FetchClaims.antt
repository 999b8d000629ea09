-- What the claims of the lines `fetch` of whole functions owe is shown: they are made there.
use Rattle.std.proofs.Common.{◌≡◌, ℕ, suc, ◌+◌, ◌-◌, ◌*◌, ◌<◌, ◌≤◌, Bool, true, false, ◌&&◌, ◌||◌, not, List, [], ◌∷◌, ◌++◌, length, map}
use Rattle.std.proofs.Common.{Option, Some, None, refl, sym, ap, ◌∙◌, subst, inl, inr, ◌⊎◌, arith}
use Rattle.std.specs.Prelude.{ℤ, ◌==◌, if◌then◌else◌, slice_get}
use Rattle.std.specs.List.{AllByRecursion, list_all}
use Rattle.std.proofs.lemmas.Bool.Decides.{nat_tests}
use Rattle.lin.specs.Forms.{Form}
use Rattle.lin.specs.Search.{is_empty}
use Rattle.lin.specs.declared.span.Span1.{Span1}
use Rattle.lin.specs.declared.scope.Binding.{Binding}
use Rattle.plan.specs.declared.plan.Group.{Group as CodeGroup}
use Rattle.plan.specs.declared.stmt.Places.{Places}
use Rattle.plan.specs.declared.stmt.Places.TheVariants.{From}
use Rattle.plan.specs.declared.certificate.cert.Claim.{Claim as CodeClaim}
use Rattle.plan.specs.declared.certificate.cert.Need.{Need}
use Rattle.plan.specs.declared.certificate.cert.Window.{Window}
use Rattle.plan.specs.Plan.{Statement, Seq, For, Let, First, Guard, Alloc, Fetch, Store, Publish, Statements, Empty, Then, Group, Plan, block}
use Rattle.plan.specs.View.{group_of, plan_of, statement_of}
use Rattle.plan.specs.Lines.{lines, block_lines, body_line}
use Rattle.plan.specs.Semantics.Setting.{group_name}
use Rattle.plan.specs.Certificate.Certificate.{Claim, Certificate, certificate_of, claim_of}
use Rattle.meaning.specs.Algorithm.{Range, Algorithm}
use Rattle.meaning.specs.Conditions.{IsAlgorithm}
use Rattle.meaning.specs.Names.{same_name}
use Rattle.soundness.specs.Claims.{In, updates, writes}
use Rattle.soundness.specs.Origins.{Outline}
use Rattle.soundness.specs.Given.{claim_or_none, outline_of}
use Rattle.soundness.specs.Obligations.{Binder, Known, Rules, is_member, places_of, made, claim_obligations, earlier_obligations}
use Rattle.soundness.specs.Shown.{Nests, is_within, are_within, are_seated, shows, all_shown, start}
use Rattle.soundness.specs.Binders.View.{grid_binders}
use Rattle.soundness.specs.Nests.Laws.{domains_of}
use Rattle.soundness.specs.Nests.Nest.{alone}
use Rattle.soundness.specs.Nests.Tests.{has_ends, fits_fold, fold_holds, is_fetched, makes, plain_nests}
use Rattle.soundness.proofs.Refines.{eq_refl, name_refl}
use Rattle.rules.specs.Bounding.Called.{update_count}
use Rattle.rules.specs.Bounding.Rules.{rules_of}
use Rattle.rules.specs.Bounding.Scopes.{most_symbols, scope_of}
use Rattle.headline.proofs.Lists.{at_map, from_map}
use Rattle.headline.proofs.Regions.{at_in}
use Rattle.sched.specs.Schedule.{Schedule}
use Rattle.sched.specs.Legal.{IsLegal}
use Rattle.sched.specs.declared.numbers.Extent.{Extent}
use Rattle.sched.specs.declared.skeleton.Step.{Step}
use Rattle.sched.specs.declared.skeleton.Step.TheVariants.{Turns, Named, Tested}
use Rattle.sched.specs.Runs.{lines_to}
use Rattle.sched.specs.Skeleton.{NestText, SkeletonText}
use Rattle.sched.specs.Standing.{◌>>=◌}
use Rattle.sched.proofs.Arriving.{skeletal}
use Rattle.lower.specs.declared.lowering.Lowered.{Lowered}
use Rattle.sched.specs.Stored.{FormulaText, StoredText}
use Rattle.lower.specs.Stored.{stored_functions, has_large}
use Rattle.regions.specs.Faults.{are_whole}
use Rattle.lower.specs.Faults.{region_fault}
use Rattle.sched.specs.Regions.{LaidText}
use Rattle.regions.specs.Regions.{bodies_from}
use Rattle.sched.specs.Around.{grid_scope}
use Rattle.lower.specs.Owning.{IsExtent}
use Rattle.sched.specs.Taken.{SiteText, shortest, run_of, places_count}
use Rattle.regions.specs.Taken.{sites_of, or_all, is_shown, shown, seated, needed_part, tight, part_of, taken_region, taken_places}
use Rattle.sched.specs.Loading.{Loads}
use Rattle.blocks.specs.Blocks.{dimensions_of, own_places}
use Rattle.blocks.specs.Bodies.{step_lines, first_lines, IsStore, AreNests}
use Rattle.lower.specs.Bodies.{last_claim}
use Rattle.sched.specs.Fetches.{Entry}
use Rattle.blocks.specs.Fetches.{FetchText, with_fetches}
use Rattle.lower.specs.Fetches.{Calls, IsFetched, IsPart, AreFetched, fetched_groups}
use Rattle.lower.specs.Groups.{HasBody, HasGroups}
use Rattle.lower.proofs.Gridded.{AreBetween, taken_between}
use Rattle.blocks.proofs.Laying.{bound, same}
use Rattle.completeness.specs.Laws.{IsFetch}
use Rattle.completeness.specs.Owed.{EachClaim, ClaimsOf, ClaimsOweShown, IsWithinSpan, AreGridsFew, AreClaimsNear, FetchClaimsOweShown}
use Rattle.completeness.proofs.Standing.{AreLets, Rises, NamesOwn, names_own}
use Rattle.completeness.proofs.Sited.{taken_over, seats_over}
use Rattle.completeness.proofs.Bodies.{other_at, entry_at}
use Rattle.completeness.proofs.Owned.{each, some_same}
use Rattle.completeness.proofs.Output.{group_at}
use Rattle.completeness.proofs.Served.{ls as regions_found, roots, ready, made_at}
use Rattle.completeness.proofs.ClaimLines.{known_stored}
use Rattle.completeness.proofs.Scoped.{own_grid}
use Rattle.completeness.proofs.RisingForms.{cut_low}
use Rattle.completeness.proofs.GridCounts.{IsShort, grid_few}
use Rattle.completeness.proofs.GridScope.{TellsGrid, grid_tells, let_tells}
use Rattle.completeness.proofs.FetchSeats.{taken_seated}
use Rattle.completeness.proofs.OwnClaimed.{Among, above_within, below_within, more_among}
use Rattle.completeness.proofs.NamedClaims.{member_named, in_either, body_lines, fetched_range, nests_range, alone_body}
use Rattle.completeness.proofs.PublishShown.{named_alike}

-- a dimension of what is fetched, with its places
abbrev Given : (A B : Type 0) → (A → Option B) → Type 0
Given A B f = B

abbrev Part : Type 0
Part = Given _ _ (λ s. seated [] [] 0 s)

-- ---- claim by claim

pub all_members : (Q : ℕ → Type 0) (cs : List ℕ) → ((c : ℕ) → is_member c cs ≡ true → Q c) → AllByRecursion Q cs
all_members Q [] h = tt
all_members Q (c ∷ cs) h = (
  h c (ap (λ (b : Bool). b || is_member c cs) (eq_refl c)),
  all_members Q cs (λ d m. h d (ap (λ (b : Bool). (c == d) || b) m ∙ either (c == d))),
)
  where
    either : (b : Bool) → (b || true) ≡ true
    either true = refl
    either false = refl

module _ (outline : Outline) (rules : Rules) (P : List Window → ℕ → ℕ → Known → Statement → ℕ → Type 0)
    (other : (kept : List Window) (begin last : ℕ) (known : Known) (s : Statement) (c : ℕ) → (IsFetch s → ⊥) → P kept begin last known s c) where
  none_named : (kept : List Window) (begin last : ℕ) (known : Known) (s : Statement) → (IsFetch s → ⊥) → (cs : List ℕ) → AllByRecursion (λ c. P kept begin last known s c) cs
  none_named kept begin last known s none [] = tt
  none_named kept begin last known s none (c ∷ cs) = (other kept begin last known s c none, none_named kept begin last known s none cs)

  abbrev Each : List Window → Statements → ℕ → Known → Type 0
  Each kept code line known = ClaimsOf outline rules P kept code line known

  abbrev AllWays : Statements → Type 0
  AllWays code = (kept : List Window) (line : ℕ) (known : Known) → Each kept code line known

  joined_each : (xs ys : List Statement) (kept : List Window) (line : ℕ) (known : Known) → Each kept (block xs) line known → AllWays (block ys) → Each kept (block (xs ++ ys)) line known
  joined_each [] ys kept line known h k = k kept line known
  joined_each (a ∷ xs) ys kept line known h k = (h.0, h.1, joined_each xs ys _ _ _ h.2 k)

  steps_each : (ts : List Step) (inner : Statements) → AllWays inner → AllWays (lines_to ts inner)
  steps_each [] inner k kept line known = k kept line known
  steps_each (Turns i x kind ∷ ts) inner k kept line known = (steps_each ts inner k _ _ _, none_named _ _ _ _ (For i x kind (Seq (lines_to ts inner))) (λ f. f) _, tt)
  steps_each (Named i pick fs ∷ ts) inner k kept line known = (tt, none_named _ _ _ _ (Let i pick fs) (λ f. f) _, steps_each ts inner k _ _ _)
  steps_each (Tested low high ∷ ts) inner k kept line known = (steps_each ts inner k _ _ _, none_named _ _ _ _ (Guard low high (Seq (lines_to ts inner))) (λ f. f) _, tt)

  store_each : (g : StoredText) (fs : List FormulaText) (ls : Loads) (d : ℕ) (w : NestText) (s : Statement) → IsStore g fs ls d w s → AllWays (Then s Empty)
  store_each g fs ls d w (Store b k at e) is kept line known = (tt, none_named _ _ _ _ (Store b k at e) (λ f. f) _, tt)
  store_each g fs ls d w (Seq xs) is kept line known = absurd is
  store_each g fs ls d w (For j x kind body) is kept line known = absurd is
  store_each g fs ls d w (Let j pick forms) is kept line known = absurd is
  store_each g fs ls d w (First j x y) is kept line known = absurd is
  store_each g fs ls d w (Guard low high body) is kept line known = absurd is
  store_each g fs ls d w (Alloc b x places) is kept line known = absurd is
  store_each g fs ls d w (Fetch b x region) is kept line known = absurd is
  store_each g fs ls d w (Publish x) is kept line known = absurd is

  nests_each : (g : StoredText) (fs : List FormulaText) (r : List Span1) (claim : ℕ) (ms : Loads) (m at_line d : ℕ) (ns : List NestText) (xs : List Statement) (cs : List CodeClaim) →
      AreNests g fs r ms m at_line d ns xs cs → AllWays (block (xs ++ Publish claim ∷ []))
  nests_each g fs r claim ms m at_line d [] xs cs is kept line known =
      subst (λ (ys : List Statement). Each kept (block (ys ++ Publish claim ∷ [])) line known) (sym is.0) (tt, none_named _ _ _ _ (Publish claim) (λ f. f) _, tt)
  nests_each g fs r claim ms m at_line d (w ∷ ns) xs [] is kept line known = absurd is
  nests_each g fs r claim ms m at_line d (w ∷ ns) xs (v ∷ cs) is kept line known =
      let nest = is.here.nest in
      let here : Each kept (block is.first) line known = subst (λ (code : Statements). Each kept code line known) (sym nest.comes)
      (steps_each w.steps (Then nest.store Empty) (store_each g fs ms d w nest.store nest.stores) kept line known) in
      let joined = joined_each is.first (is.others ++ Publish claim ∷ []) kept line known here
      (nests_each g fs r claim (ms ++ (g.subject.name, m) ∷ []) (m + 1) (at_line + block_lines (block is.first)) (d + 1) ns is.others cs is.behind) in
      let are : xs ++ Publish claim ∷ [] ≡ is.first ++ (is.others ++ Publish claim ∷ []) =
      ap (λ (ys : List Statement). ys ++ Publish claim ∷ []) is.are ∙ joined_twice is.first is.others (Publish claim ∷ []) in
      subst (λ (ys : List Statement). Each kept (block ys) line known) (sym are) joined
    where
      joined_twice : (xs ys zs : List Statement) → (xs ++ ys) ++ zs ≡ xs ++ (ys ++ zs)
      joined_twice [] ys zs = refl
      joined_twice (a ∷ xs) ys zs = (let rest = joined_twice xs ys zs in ap (λ (r : List Statement). a ∷ r) rest)

  -- ---- at a line, where the binders tell of a grid and no window is kept

  module _ (grid : List ℕ) where
    abbrev Over : ℕ → Statements → Type 0
    Over line code = (known : Known) → TellsGrid grid known.binders → Each [] code line known

    lets_each : (ts : List Step) (n to : ℕ) (inner : Statements) (line next : ℕ) → AreLets ts → Rises n ts to → length grid ≤ n → next ≡ line + step_lines ts →
        Over next inner → Over line (lines_to ts inner)
    lets_each [] n to inner line next lets rises le e k known tells = (let is : next ≡ line = omega (arith, e) in subst (λ (m : ℕ). Each [] inner m known) is (k known tells))
    lets_each (Turns i x kind ∷ ts) n to inner line next lets rises le e k known tells = absurd lets
    lets_each (Named i pick fs ∷ ts) n to inner line next lets rises le e k known tells =
        let first = rises.0 in (
          tt,
          none_named _ _ _ _ (Let i pick fs) (λ f. f) _,
          lets_each ts (n + 1) to inner (line + 1) next lets rises.1 (omega (arith, le)) (omega (arith, e)) k _ (let_tells grid known.binders i pick fs (omega (arith, le, first)) tells),
        )
    lets_each (Tested low high ∷ ts) n to inner line next lets rises le e k known tells = absurd lets

    alloc_each : (x : List ℕ) (places : List Places) (rest : Statements) (line : ℕ) → Over (line + 1) rest → Over line (Then (Alloc 0 x places) rest)
    alloc_each x places rest line k known tells = (tt, none_named _ _ _ _ (Alloc 0 x places) (λ f. f) _, k _ tells)

    -- these are the plan's claims
    module _ (items : List CodeClaim) (named_is : (j line : ℕ) → is_member j (outline.named line) ≡ true → (w : CodeClaim) × (slice_get items j ≡ Some w) × (w.line ≡ line)) (nests_line : ℕ) where
      -- of the lines from this one on, before the nests, these are all claims
      abbrev Lone : ℕ → List CodeClaim → Type 0
      Lone at_line cs = (j : ℕ) (w : CodeClaim) → slice_get items j ≡ Some w → at_line < w.line → w.line < nests_line → In w cs

      abbrev FitsOne : FetchText → CodeClaim → Type 0
      FitsOne f v = (j : ℕ) → slice_get items j ≡ Some v → (begin last : ℕ) (known : Known) → places_of known.buffers f.buffer ≡ Some f.places → TellsGrid grid known.binders →
          P [] begin last known (Fetch f.buffer f.group f.region) j

      abbrev FitAll : List FetchText → List CodeClaim → Type 0
      FitAll [] cs = Unit {0}
      FitAll (f ∷ fs) [] = Unit {0}
      FitAll (f ∷ fs) (v ∷ cs) = FitsOne f v × FitAll fs cs

      fetches_each : (calls : Calls) (scope : List Binding) (n b at_line : ℕ) (xs : List (ℕ × Entry)) (fs : List FetchText) (ws : List Need) (cs : List CodeClaim) →
          AreFetched calls scope n b at_line xs fs ws cs → FitAll fs cs → Lone at_line cs → nests_line ≡ at_line + 2 * length fs → (rest : List Statement) → AllWays (block rest) →
          Over at_line (block (with_fetches fs rest))
      fetches_each calls scope n b at_line [] [] [] [] is fit lone e rest k known tells = k [] at_line known
      fetches_each calls scope n b at_line [] [] [] (v ∷ cs) is fit lone e rest k known tells = absurd is
      fetches_each calls scope n b at_line [] [] (w ∷ ws) cs is fit lone e rest k known tells = absurd is
      fetches_each calls scope n b at_line [] (f ∷ fs) ws cs is fit lone e rest k known tells = absurd is
      fetches_each calls scope n b at_line (x ∷ xs) [] ws cs is fit lone e rest k known tells = absurd is
      fetches_each calls scope n b at_line (x ∷ xs) (f ∷ fs) [] cs is fit lone e rest k known tells = absurd is
      fetches_each calls scope n b at_line (x ∷ xs) (f ∷ fs) (w ∷ ws) [] is fit lone e rest k known tells = absurd is
      fetches_each calls scope n b at_line (x ∷ xs) (f ∷ fs) (w ∷ ws) (v ∷ cs) is fit lone e rest k known tells = (
        tt,
        none_named _ _ _ _ (Alloc f.buffer f.function f.places) (λ f. f) _,
        (
          tt,
          all_members _ _ (λ c m. here c (named_is c _ m) fit.0 _ _ _ (ap (λ (b : Bool). if b then Some f.places else places_of known.buffers f.buffer) (eq_refl f.buffer)) tells),
          fetches_each calls scope n (b + 1) (at_line + 1 + 1) xs fs ws cs (subst (λ (m : ℕ). AreFetched calls scope n (b + 1) m xs fs ws cs) two is.2) fit.1 later (omega (arith, e)) rest k _ tells,
        ),
      )
        where
          two : at_line + 2 ≡ at_line + 1 + 1
          two = omega arith

          here : (c : ℕ) → (w : CodeClaim) × (slice_get items c ≡ Some w) × (w.line ≡ at_line + 1 + 1 - 1) → FitsOne f v → (begin last : ℕ) (known : Known) →
              places_of known.buffers f.buffer ≡ Some f.places → TellsGrid grid known.binders → P [] begin last known (Fetch f.buffer f.group f.region) c
          here c r one begin last known held told = of (lone c r.0 r.1 (omega (arith, line)) (omega (arith, line, e)))
            where
              line : r.0.line ≡ at_line + 1 + 1 - 1
              line = r.2

              of : In r.0 (v ∷ cs) → P [] begin last known (Fetch f.buffer f.group f.region) c
              of (inl same) = one c (r.1 ∙ ap (λ (u : CodeClaim). Some u) same) begin last known held told
              of (inr m) = (let low = (fetched_range calls scope n (b + 1) (at_line + 2) xs fs ws cs is.2 r.0 m).0 in absurd (omega (arith, low, line)))

          later : Lone (at_line + 1 + 1) cs
          later j u at low less = of (lone j u at (omega (arith, low)) less)
            where
              of : In u (v ∷ cs) → In u cs
              of (inl same) = (let after : u.line ≡ at_line + 1 = ap (λ (c : CodeClaim). c.line) same ∙ is.0.claimed.after in absurd (omega (arith, after, low)))
              of (inr m) = m

-- ---- what the claim of a fetch owes

nothing_else : {A : Type 0} (u : Bool) (xs : List A) → u ≡ false → (if u then xs else []) ≡ []
nothing_else true xs e = absurd (cc e)
nothing_else false xs e = refl

module _ (O : Outline) (R : Rules) (nests : Nests) (b h : ℕ) (r : List Span1) (places : List Places) (c : ℕ) (buffered : (O.claim c).buffer ≡ b)
    (named : same_name (O.setting.group_function h) (O.claim c).function ≡ true) where
  abbrev fetch : Statement
  fetch = Fetch b h r

  test : (b == (O.claim c).buffer) ≡ true
  test = ap (λ (x : ℕ). b == x) buffered ∙ eq_refl b

  not_updated : updates O.setting fetch (O.claim c).buffer (O.claim c).function ≡ false
  not_updated = ap (λ (t : Bool). if t then false else true) test

  claim_shown : (begin last : ℕ) (known : Known) → places_of known.buffers b ≡ Some places → nests.is_made known.binders c None places fetch ≡ true →
      all_shown R nests (claim_obligations O R [] begin last known fetch c) ≡ true
  claim_shown begin last known held is_made =
      let writing : writes O.setting fetch (O.claim c).buffer (O.claim c).function ≡ true =
      ap (λ (t : Bool). if t then same_name (O.setting.group_function h) (O.claim c).function else true) test ∙ named in
      let seats : places_of known.buffers (O.claim c).buffer ≡ Some places = ap (places_of known.buffers) buffered ∙ held in
      let making : shows R nests known.binders (made O R (places_of known.buffers (O.claim c).buffer) c fetch) ≡ true =
      ap (λ (o : Option (List Places)). shows R nests known.binders (made O R o c fetch)) seats
      ∙ ap (λ (u : Bool). nests.is_made known.binders c (if u then Some ((O.claim c).definition - 1) else None) places fetch) not_updated ∙ is_made in
      let earlier : earlier_obligations O R begin last known fetch c ≡ [] =
      nothing_else (updates O.setting fetch (O.claim c).buffer (O.claim c).function) _ not_updated in
      let rest = ap (all_shown R nests) earlier in
      λ i. writing i && (making i && rest i)

  plain_made : (domain : List ℕ → ℕ → Option (List Range)) (bs : List Binder) → is_fetched O.setting R bs (O.claim c) places [] fetch ≡ true →
      (plain_nests O R domain).is_made bs c None places fetch ≡ true
  plain_made domain bs fetched = ap (λ (t : Bool). makes O.setting R domain bs (O.claim c) None places (if t then Some (alone fetch) else None)) test ∙ fetched

-- ---- spans and places

among_self : (xs : List Form) → Among xs xs
among_self [] = tt
among_self (x ∷ xs) = (inl refl, more_among xs xs x (among_self xs))

some_form : (xs : List Form) (k : ℕ) (f : Form) → slice_get xs k ≡ Some f → is_empty xs ≡ false
some_form [] k f e = absurd (cc e)
some_form (x ∷ xs) k f e = refl

between_ends : (es : List Extent) (ts : List Span1) → AreBetween es ts → list_all has_ends ts ≡ true
between_ends [] [] h = refl
between_ends [] (t ∷ ts) h = absurd h
between_ends (e ∷ es) [] h = absurd h
between_ends (e ∷ es) (t ∷ ts) h =
    let low = some_form t.lower h.0.from.place _ h.0.from.at in
    let high = some_form t.upper h.0.to.place _ h.0.to.at in
    let rest = between_ends es ts h.1 in
    λ i. (not (low i) && not (high i)) && rest i

module _ (a : Algorithm) (p : Plan) (c : Certificate) (n : ℕ) (bs : List Binder) where
  within_self : (x : Span1) → IsWithinSpan x → is_within (rules_of a p c n) bs x x ≡ true
  within_self x near =
      let low = below_within (scope_of bs) x.lower x.lower (among_self x.lower) near.0 in
      let high = above_within (scope_of bs) x.upper x.upper (among_self x.upper) near.1 in
      λ i. low i && high i

  all_within : (xs : List Span1) → AllByRecursion IsWithinSpan xs → are_within (rules_of a p c n) bs xs xs ≡ true
  all_within [] near = refl
  all_within (x ∷ xs) near = (let here = within_self x near.0 in let rest = all_within xs near.1 in λ i. here i && rest i)

  module _ (grid : List Binding) (ss : List SiteText) where
    part_fits : (d : ℕ) (e : Extent) → fits_fold (rules_of a p c n) bs (part_of grid ss d e).span (part_of grid ss d e).places ≡ true
    part_fits d e = of (tight grid ss d e) refl
      where
        of : (o : Option Part) → tight grid ss d e ≡ o → fits_fold (rules_of a p c n) bs (or_all e o).span (or_all e o).places ≡ true
        of None q = refl
        of (Some r) q =
            let b = bound (needed_part grid ss d e) (seated grid ss d) r q in
            let s = b.value in
            let x = bound (shortest grid s) (λ b. slice_get s.lower b.0 >>= λ origin. run_of origin b.1 >>= λ seats. shown grid ss d s origin b.1 seats) r b.comes in
            let f = bound (slice_get s.lower x.value.0) (λ origin. run_of origin x.value.1 >>= λ seats. shown grid ss d s origin x.value.1 seats) r x.comes in
            let w = bound (run_of f.value x.value.1) (λ seats. shown grid ss d s f.value x.value.1 seats) r f.comes in
            by s f.value x.value.1 (is_shown grid ss d s w.value) w.comes
          where
            by : (s : Span1) (origin : Form) (n' : ℤ) (v : Bool) → (if v then Some (record { span = s; places = From origin (places_count n') }) else None) ≡ Some r →
                fits_fold (rules_of a p c n) bs r.span r.places ≡ true
            by s origin n' true i =
                subst (λ (z : Part). fits_fold (rules_of a p c n) bs z.span z.places ≡ true) (same (record { span = s; places = From origin (places_count n') }) r i) refl
            by s origin n' false i = absurd (cc i)

    taken_folds : (d : ℕ) (es : List Extent) → fold_holds (rules_of a p c n) bs (taken_region grid ss d es) (taken_places grid ss d es) ≡ true
    taken_folds d [] = refl
    taken_folds d (e ∷ es) = (let here = part_fits d e in let rest = taken_folds (d + 1) es in λ i. here i && rest i)

-- ---- groups

module _ (a : Algorithm) (sch : Schedule) (l : Lowered) (well : IsAlgorithm a) (legal : IsLegal a sch) (small : has_large (stored_functions a sch) ≡ false)
    (kept : region_fault a (stored_functions a sch) ≡ None) (all : are_whole (stored_functions a sch) ≡ true) (groups : HasGroups a (stored_functions a sch) l)
    (few : AreGridsFew (plan_of l.plan)) (near : AreClaimsNear (certificate_of l.certificate)) where
  abbrev entries : List Entry
  entries = roots a sch l well legal small kept all groups

  abbrev stored : List StoredText
  stored = stored_functions a sch

  abbrev made_groups : List CodeGroup
  made_groups = l.plan.groups.items

  abbrev items : List CodeClaim
  items = l.certificate.claims.items

  abbrev plan : Plan
  plan = plan_of l.plan

  abbrev cert : Certificate
  cert = certificate_of l.certificate

  named_claims : (n : ℕ) (g : Group) (j line : ℕ) → is_member j ((outline_of plan cert n g).named line) ≡ true → (w : CodeClaim) × (slice_get items j ≡ Some w) × (w.line ≡ line)
  named_claims n g j line m =
      let r = member_named 0 cert.claims line j m in
      let x = from_map claim_of items r.place r.claim r.at in
      let number = r.numbered in
      let is : r.place ≡ j = omega (arith, number) in
      (x.0, sym (ap (slice_get items) is) ∙ x.1, ap (λ (c : Claim). c.line) (sym x.2) ∙ r.stands)

  module _ (n first line : ℕ) (g : StoredText) (p : CodeGroup) (claims : List CodeClaim) (needs : List Need) (at : slice_get stored n ≡ Some g) (there : slice_get made_groups n ≡ Some p)
      (h : HasBody a entries n first line g p claims needs) (lined : body_line plan n ≡ line + 1) (short : AllByRecursion IsShort h.skeleton.grid) (narrow : length h.skeleton.grid ≤ most_symbols)
      (alone_here : (j : ℕ) (w : CodeClaim) → slice_get items j ≡ Some w → line < w.line → w.line < line + (lines (statement_of p.body) + 1) → In w claims) where
    abbrev k : SkeletonText
    k = h.skeleton

    abbrev fs : List FormulaText
    fs = h.formulas

    abbrev rest : List Statement
    rest = h.body.nests ++ Publish (last_claim first h.body.fetches k) ∷ []

    abbrev places : List Places
    places = own_places (dimensions_of g h.extents k)

    abbrev code : Statements
    code = lines_to k.head (block (Alloc 0 g.subject.name places ∷ with_fetches h.body.fetches rest))

    abbrev listed_groups : List (ℕ × Entry)
    listed_groups = fetched_groups fs n 0 entries

    abbrev O : Outline
    O = outline_of plan cert n (group_of p)

    abbrev R : Rules
    R = rules_of a plan cert n

    abbrev nests_line : ℕ
    nests_line = line + first_lines k + 2 * length h.body.fetches

    abbrev Shown : List Window → ℕ → ℕ → Known → Statement → ℕ → Type 0
    Shown windows begin last known s c = IsFetch s → (nests : Nests) →
        ((bs : List Binder) (c : ℕ) (from : Option ℕ) (places : List Places) (s : Statement) →
        (plain_nests O R (domains_of a)).is_made bs c from places s ≡ true → nests.is_made bs c from places s ≡ true) →
        all_shown R nests (claim_obligations O R windows begin last known s c) ≡ true

    not_fetch : (windows : List Window) (begin last : ℕ) (known : Known) (s : Statement) (c : ℕ) → (IsFetch s → ⊥) → Shown windows begin last known s c
    not_fetch windows begin last known s c none is = absurd (none is)

    names : NamesOwn k
    names = names_own g.subject.variables (bodies_from g.changes 0 g.subject.reductions fs) g.placed h.extents k h.laid

    abbrev Fits : FetchText → CodeClaim → Type 0
    Fits f v = FitsOne O R Shown not_fetch k.grid items (named_claims n (group_of p)) nests_line f v

    fit_one : (i : ℕ) (x : ℕ × Entry) → slice_get listed_groups i ≡ Some x → (f : FetchText) (w : Need) (v : CodeClaim) (b own_line : ℕ) → IsFetched n b own_line x.0 x.1 f w v →
        IsPart (sites_of a g fs k) (grid_scope k.grid) x.1 f → Fits f v
    fit_one i x listed f w v b own_line is part j found begin last known held tells fetched nests takes =
        let e = x.1 in
        let other = other_at fs n 0 entries i x listed in
        let entry = entry_at stored (regions_found a sch l well legal small kept all groups) all (ready a sch l well legal small kept all groups) other.place e other.at in
        let there_group = group_at stored made_groups (each a sch l well legal small kept all groups) other.place e.0 entry.is in
        let m = made_at a sch l well legal small kept all groups other.place there_group.group there_group.at in
        let m_laid : m.laid ≡ e.1 = some_same m.laid e.1 (some_same (Some m.laid) (Some e.1) (sym m.found ∙ entry.laid)) in
        let extents : AllByRecursion IsExtent e.1.region = subst (λ (x : LaidText). AllByRecursion IsExtent x.region) m_laid m.laid_by.extents in
        let known_function = known_stored a sch well other.place e.0 entry.is in
        let number = other.numbered in
        let group_is : f.group ≡ other.place = is.grouped ∙ omega (arith, number) in
        let group_function : O.setting.group_function f.group ≡ e.0.subject.name =
        ap group_name (ap (slice_get (map group_of made_groups)) group_is ∙ at_map group_of made_groups other.place there_group.group there_group.at) ∙ there_group.is.named in
        let stands : slice_get cert.claims j ≡ Some (claim_of v) = at_map claim_of items j v found in
        let claim_is : O.claim j ≡ claim_of v = ap claim_or_none stands in
        let buffered : (O.claim j).buffer ≡ f.buffer = ap (λ (c : Claim). c.buffer) claim_is ∙ is.claimed.buffered ∙ sym is.buffered in
        let name : (O.claim j).function ≡ e.0.subject.name = ap (λ (c : Claim). c.function) claim_is ∙ is.claimed.named in
        let named : same_name (O.setting.group_function f.group) (O.claim j).function ≡ true = (λ t. same_name (group_function t) (name t)) ∙ name_refl e.0.subject.name in
        let formulas = known_function.formulas e.2 entry.defined in
        let definition : (O.claim j).definition ≡ length e.2 - 1 = ap (λ (c : Claim). c.definition) claim_is ∙ is.claimed.defined in
        let last_is : R.last (O.claim j).function ≡ length known_function.function.changes =
        ap R.last name ∙ ap update_count (named_alike a.functions e.0.subject.name ∙ known_function.named) in
        let equal : (O.claim j).definition ≡ R.last (O.claim j).function = omega (arith, definition, last_is, formulas) in
        let defined : ((O.claim j).definition == R.last (O.claim j).function) ≡ true = grind (arith, nat_tests) in
        let ss = part.taken.sites in
        let ends : list_all has_ends f.region ≡ true =
        ap (list_all has_ends) part.taken.region ∙ between_ends e.1.region (taken_region (grid_scope k.grid) ss 0 e.1.region) (taken_between (grid_scope k.grid) ss 0 e.1.region) in
        let over : (O.claim j).region ≡ f.region = ap (λ (c : Claim). c.region) claim_is ∙ is.claimed.over in
        let told : AllByRecursion IsWithinSpan f.region = subst (AllByRecursion IsWithinSpan) is.claimed.over (near j (claim_of v) stands).0 in
        let within : are_within R known.binders (O.claim j).region f.region ≡ true = ap (λ (xs : List Span1). are_within R known.binders xs f.region) over
        ∙ all_within a plan cert n known.binders f.region told in
        let folds : fold_holds R known.binders f.region f.places ≡ true = (λ t. fold_holds R known.binders (part.taken.region t) (part.taken.places t))
        ∙ taken_folds a plan cert n known.binders (grid_scope k.grid) ss 0 e.1.region in
        let bodies = bodies_from g.changes 0 g.subject.reductions fs in
        let order = skeletal g.subject.variables bodies g.placed h.extents k h.laid in
        let test = taken_seated a plan cert n k.grid narrow known.binders tells ss
        (λ d s e needed. cut_low a g fs g.subject.variables bodies g.placed h.extents k h.laid x.1.0.subject.name ss part.taken.called (grid_scope k.grid) d s e needed)
        0 e.1.region extents (taken_over a g fs k e.0.subject.name ss order names part.taken.called 0 e.1.region)
        (seats_over a g fs k e.0.subject.name ss order names part.taken.called 0 e.1.region) in
        let seats : are_seated R known.binders f.region f.places ≡ true = (λ t. are_seated R known.binders (part.taken.region t) (part.taken.places t)) ∙ test in
        let all_tests : is_fetched O.setting R known.binders (O.claim j) f.places [] (Fetch f.buffer f.group f.region) ≡ true =
        λ t. named t && (defined t && (ends t && (within t && (folds t && seats t)))) in
        let plain = plain_made O R nests f.buffer f.group f.region f.places j buffered named (domains_of a) known.binders all_tests in
        claim_shown O R nests f.buffer f.group f.region f.places j buffered named begin last known held (takes known.binders j None f.places (Fetch f.buffer f.group f.region) plain)

    abbrev AllFit : List FetchText → List CodeClaim → Type 0
    AllFit ts cs = FitAll O R Shown not_fetch k.grid items (named_claims n (group_of p)) nests_line ts cs

    all_fit : (d b own_line : ℕ) (xs : List (ℕ × Entry)) (ts : List FetchText) (ws : List Need) (cs : List CodeClaim) →
        AreFetched (sites_of a g fs k) (grid_scope k.grid) n b own_line xs ts ws cs → ((j : ℕ) (x : ℕ × Entry) → slice_get xs j ≡ Some x → slice_get listed_groups (d + j) ≡ Some x) → AllFit ts cs
    all_fit d b own_line [] [] [] [] is listed = tt
    all_fit d b own_line [] [] [] (w ∷ cs) is listed = absurd is
    all_fit d b own_line [] [] (w ∷ ws) cs is listed = absurd is
    all_fit d b own_line [] (f ∷ ts) ws cs is listed = absurd is
    all_fit d b own_line (x ∷ xs) [] ws cs is listed = absurd is
    all_fit d b own_line (x ∷ xs) (f ∷ ts) [] cs is listed = absurd is
    all_fit d b own_line (x ∷ xs) (f ∷ ts) (w ∷ ws) [] is listed = absurd is
    all_fit d b own_line (x ∷ xs) (f ∷ ts) (w ∷ ws) (v ∷ cs) is listed = (
      fit_one (d + 0) x (listed 0 x refl) f w v b own_line is.0 is.1,
      all_fit (d + 1) (b + 1) (own_line + 2) xs ts ws cs is.2 (λ j y e. let next : d + suc j ≡ (d + 1) + j = omega arith in ap (slice_get listed_groups) (sym next) ∙ listed (suc j) y e),
    )

    lone : (j : ℕ) (w : CodeClaim) → slice_get items j ≡ Some w → line + first_lines k < w.line → w.line < nests_line → In w h.body.fetched
    lone j w found low less =
        let count = body_lines a entries items n first line g p claims needs h in
        let own = alone_here j w found (omega (arith, low)) (omega (arith, less, count)) in
        of (in_either w h.body.fetched h.body.own (subst (In w) h.body.claimed own))
      where
        of : In w h.body.fetched ⊎ In w h.body.own → In w h.body.fetched
        of (inl m) = m
        of (inr m) = (let r = (nests_range g fs _ _ _ nests_line 0 k.nests h.body.nests h.body.own h.body.nested w m).0 in absurd (omega (arith, r, less)))

    body_shown : EachClaim O R Shown [] (statement_of p.body) (body_line plan n) (start (grid_binders p.grid.items))
    body_shown =
        let b = h.body in
        let claim = last_claim first b.fetches k in
        let every = all_fit 0 1 (line + first_lines k) listed_groups b.fetches needs b.fetched b.fetching (λ j x e. let none : 0 + j ≡ j = omega arith in ap (slice_get listed_groups) none ∙ e) in
        let nests = nests_each O R Shown not_fetch g fs _ claim _ _ _ 0 k.nests b.nests b.own b.nested in
        let fetches : Over O R Shown not_fetch k.grid (line + first_lines k) (block (with_fetches b.fetches rest)) =
        fetches_each O R Shown not_fetch k.grid items (named_claims n (group_of p)) nests_line (sites_of a g fs k) (grid_scope k.grid) n 1 (line + first_lines k) listed_groups b.fetches needs
        b.fetched b.fetching every lone refl rest nests in
        let second : line + first_lines k ≡ ((line + 1) + step_lines k.head) + 1 = omega arith in
        let inner : Over O R Shown not_fetch k.grid ((line + 1) + step_lines k.head) (block (Alloc 0 g.subject.name places ∷ with_fetches b.fetches rest)) =
        alloc_each O R Shown not_fetch k.grid g.subject.name places (block (with_fetches b.fetches rest)) ((line + 1) + step_lines k.head)
        (subst (λ (m : ℕ). Over O R Shown not_fetch k.grid m (block (with_fetches b.fetches rest))) second fetches) in
        let tells : TellsGrid k.grid (grid_binders k.grid) = grid_tells k.grid short in
        let shown : ClaimsOf O R Shown [] code (line + 1) (start (grid_binders k.grid)) =
        lets_each O R Shown not_fetch k.grid k.head (length k.grid) names.next (block (Alloc 0 g.subject.name places ∷ with_fetches b.fetches rest)) (line + 1) ((line + 1) + step_lines k.head)
        names.lets names.rises (omega arith) refl inner (start (grid_binders k.grid)) tells in
        subst (λ (s : Statement). EachClaim O R Shown [] s (body_line plan n) (start (grid_binders p.grid.items))) (sym b.with.is)
        (subst (λ (m : ℕ). ClaimsOf O R Shown [] code m (start (grid_binders p.grid.items))) (sym lined)
        (subst (λ (counts : List ℕ). ClaimsOf O R Shown [] code (line + 1) (start (grid_binders counts)))
        (sym (own_grid a sch l well legal small kept all groups n first line g p claims needs at there h)) shown))

  shown_at : (n : ℕ) (q : CodeGroup) → slice_get made_groups n ≡ Some q → ClaimsOweShown IsFetch a plan cert n (group_of q)
  shown_at n q there =
      let me = made_at a sch l well legal small kept all groups n q there in
      let r = alone_body a entries items 0 0 4 stored made_groups items l.certificate.needs.items (groups.bodies all)
      (λ j v e. let none : 0 + j ≡ j = omega arith in ap (slice_get items) none ∙ e) n me.stored q me.is there in
      let b = r.placed in
      let counted : 0 + n ≡ n = omega arith in
      let body = subst (λ (i : ℕ). HasBody a entries i b.first_claim b.line me.stored q b.claims b.needs) counted b.body in
      let lined = b.lined in
      let begins : body_line plan n ≡ b.line + 1 = omega (arith, lined) in
      let grid : q.grid.items ≡ body.skeleton.grid = own_grid a sch l well legal small kept all groups n b.first_claim b.line me.stored q b.claims b.needs me.is there body in
      let short : AllByRecursion IsShort body.skeleton.grid = subst (AllByRecursion IsShort) (sym me.grid ∙ grid) (grid_few me.stored me.laid.region me.laid.skeleton me.laid_by) in
      let narrow : length body.skeleton.grid ≤ most_symbols =
      subst (λ (ns : List ℕ). length ns ≤ most_symbols) grid (few n (group_of q) (at_map group_of made_groups n q there)) in
      let own : (j : ℕ) (w : CodeClaim) → slice_get items j ≡ Some w → b.line < w.line → w.line < b.line + (lines (statement_of q.body) + 1) → In w b.claims =
      λ j w e low less. let x = r.alone j w e (omega (arith, lined, low)) (omega (arith, lined, less)) in at_in b.claims x.0 w x.2 in
      body_shown n b.first_claim b.line me.stored q b.claims b.needs me.is there body begins short narrow own

pub all_made : FetchClaimsOweShown
all_made a s l well legal small regions groups all asked n g at =
    let x = from_map group_of l.plan.groups.items n g at in
    subst (λ (u : Group). ClaimsOweShown IsFetch a (plan_of l.plan) (certificate_of l.certificate) n u) (sym x.2)
    (shown_at a s l well legal small (regions all).0 all groups asked.0 asked.1 n x.0 x.1)
