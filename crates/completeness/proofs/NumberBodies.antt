-- The numbers in the lines of the bodies of groups have a text, in plans whose loops are split once, by whatever tails.
use Rattle.std.proofs.Common.{◌≡◌, ℕ, zero, suc, ◌+◌, ◌*◌, ◌<◌, ◌≤◌, ◌^◌, true, false, List, [], ◌∷◌, ◌++◌, length, Some, None, refl, sym, ap, ◌∙◌, subst, arith}
use Rattle.std.specs.Prelude.{◌-◌, slice_get}
use Rattle.std.specs.List.{AllByRecursion}
use Rattle.std.proofs.lemmas.Option.{slice_get_within}
use Rattle.lin.specs.declared.span.Span1.{Span1}
use Rattle.lin.proofs.TermLemmas.{all_weaker}
use Rattle.meaning.specs.Algorithm.{Function, Algorithm}
use Rattle.meaning.specs.Conditions.{IsAlgorithm}
use Rattle.plan.specs.declared.plan.Group.{Group as CodeGroup}
use Rattle.plan.specs.declared.stmt.Places.{Places}
use Rattle.plan.specs.declared.certificate.cert.Claim.{Claim as CodeClaim}
use Rattle.plan.specs.declared.certificate.cert.Need.{Need}
use Rattle.plan.specs.Plan.{Statement, Alloc, Publish, block}
use Rattle.plan.specs.View.{statement_of}
use Rattle.nest.specs.Blocks.Line.{PublishLine}
use Rattle.nest.specs.Blocks.Flat.{statement_lines, block_lines}
use Rattle.sched.specs.Schedule.{Schedule}
use Rattle.sched.specs.Legal.{IsLegal}
use Rattle.sched.specs.Runs.{lines_to}
use Rattle.sched.specs.Skeleton.{NestText}
use Rattle.lower.specs.declared.lowering.Lowered.{Lowered}
use Rattle.sched.specs.Stored.{StoredText}
use Rattle.lower.specs.Stored.{stored_functions, has_large}
use Rattle.sched.specs.Around.{grid_scope}
use Rattle.regions.specs.Faults.{are_whole}
use Rattle.lower.specs.Faults.{region_fault}
use Rattle.lower.specs.Planned.{unplanned}
use Rattle.regions.specs.Regions.{bodies_from}
use Rattle.sched.specs.Loading.{Loads}
use Rattle.blocks.specs.Blocks.{dimensions_of, claimed_region, own_places}
use Rattle.lower.specs.Bodies.{last_claim}
use Rattle.blocks.specs.Bodies.{first_lines}
use Rattle.regions.specs.Taken.{sites_of}
use Rattle.sched.specs.Fetches.{Entry}
use Rattle.blocks.specs.Fetches.{FetchText, with_fetches}
use Rattle.lower.specs.Fetches.{IsPart, AreFetched, fetched_groups, loads_from}
use Rattle.lower.specs.Groups.{HasBody, HasGroups}
use Rattle.completeness.specs.Fitting.{IsSplitOnce}
use Rattle.completeness.proofs.AllocForms.{own_places_limited}
use Rattle.completeness.proofs.Bodies.{other_at}
use Rattle.completeness.proofs.ClaimLines.{known_stored}
use Rattle.completeness.proofs.Counts.{fetches_few, roots_few, few_claims, fetches_claim, nests_claim, bodies_many}
use Rattle.completeness.proofs.FetchForms.{entry_extents}
use Rattle.completeness.proofs.FewLines.{rises_to}
use Rattle.completeness.proofs.FewLoops.{IsShortNest}
use Rattle.completeness.proofs.FetchTexts.{region_has_text, places_have_text}
use Rattle.completeness.proofs.Limited.{StepIs, IsNestLimited}
use Rattle.completeness.proofs.LimitedLines.{text, limited}
use Rattle.completeness.proofs.Needed.{PlaceLimited, seated_within}
use Rattle.completeness.proofs.NumberLines.{both, less, Numbered, joined, FitsIf, over_below, nest_forms, steps_numbered, lines_both, nests_numbered, places_fit, IsNumbered, fetches_numbered}
use Rattle.completeness.proofs.Served.{roots}
use Rattle.completeness.proofs.Standing.{Here, OnlyIf, OverGrid, NestsRise, nests_long}
use Rattle.completeness.proofs.StoodTexts.{stood_text}
use Rattle.completeness.proofs.Unlike.{Numbered as AreNumbered, get_second}

-- ---- coordinates

-- those of each nest
forms_fit : (P : ℕ → Type 0) → ((s : ℕ) → P s → s < 1000) → (next : ℕ) (ns : List NestText) → NestsRise next ns → AllByRecursion IsShortNest ns → next + 27 * length ns ≤ 256 →
    AllByRecursion IsNestLimited ns → ((i : ℕ) (w : NestText) → slice_get ns i ≡ Some w → AllByRecursion (OnlyIf (Here P w.steps)) w.at) → AllByRecursion (λ w. AllByRecursion FitsIf w.at) ns
forms_fit P few next [] rises short le limits only = tt
forms_fit P few next (w ∷ ns) rises short le limits only =
    let to = rises.0 in
    let is = rises_to next to w.steps rises.1 in
    let symbols = short.0.few_symbols in (
      nest_forms P few next to w rises.1 (omega (arith, is, symbols, le)) limits.0.at short.0.at (only 0 w refl),
      forms_fit P few to ns rises.2 short.1 (omega (arith, is, symbols, le)) limits.1 (λ i u at. only (suc i) u at),
    )

module _ (a : Algorithm) (sch : Schedule) (l : Lowered) (well : IsAlgorithm a) (legal : IsLegal a sch) (small : has_large (stored_functions a sch) ≡ false)
    (kept : region_fault a (stored_functions a sch) ≡ None) (all : are_whole (stored_functions a sch) ≡ true) (groups : HasGroups a (stored_functions a sch) l) where
  abbrev entries : List Entry
  entries = roots a sch l well legal small kept all groups

  -- ---- what is fetched

  module _ (n first line : ℕ) (g : StoredText) (q : CodeGroup) (claims : List CodeClaim) (needs : List Need) (h : HasBody a entries n first line g q claims needs)
      (few : length h.skeleton.grid ≤ 10) where
    abbrev listed : List (ℕ × Entry)
    listed = fetched_groups h.formulas n 0 entries

    one_numbered : (j : ℕ) (x : ℕ × Entry) → slice_get listed j ≡ Some x → (b : ℕ) → b < 1000 → (f : FetchText) → f.buffer ≡ b → f.group ≡ x.0 →
        IsPart (sites_of a g h.formulas h.skeleton) (grid_scope h.skeleton.grid) x.1 f → IsNumbered f
    one_numbered j x there b below f buffered grouped part =
        let other = other_at h.formulas n 0 entries j x there in
        let place = slice_get_within entries other.place x.1 other.at in
        let most = roots_few a sch l well legal small kept all groups in
        let numbered = other.numbered in
        let extents = entry_extents a sch l well legal small kept all groups other.place x.1 other.at in
        let seats = seated_within a g h.formulas h.skeleton x.1.0.subject.name part.taken.sites part.taken.called (grid_scope h.skeleton.grid) 0 x.1.1.region extents in
        let limits : AllByRecursion PlaceLimited f.places = subst (AllByRecursion PlaceLimited) (sym part.taken.places) seats in
        record {
          buffer = omega (arith, below, buffered);
          group = omega (arith, place, most, numbered, grouped);
          region = region_has_text a sch l well legal small kept all groups n first line g q claims needs h few j x there f part;
          places = places_fit f.places (places_have_text a sch l well legal small kept all groups n first line g q claims needs h few j x there f part) limits;
        }

    all_numbered : (d b own_line : ℕ) (xs : List (ℕ × Entry)) (ts : List FetchText) (ws : List Need) (cs : List CodeClaim) → b + length ts ≤ 1000 →
        AreFetched (sites_of a g h.formulas h.skeleton) (grid_scope h.skeleton.grid) n b own_line xs ts ws cs →
        ((j : ℕ) (x : ℕ × Entry) → slice_get xs j ≡ Some x → slice_get listed (d + j) ≡ Some x) → AllByRecursion IsNumbered ts
    all_numbered d b own_line [] [] [] [] le is there = tt
    all_numbered d b own_line [] [] [] (w ∷ cs) le is there = absurd is
    all_numbered d b own_line [] [] (w ∷ ws) cs le is there = absurd is
    all_numbered d b own_line [] (f ∷ ts) ws cs le is there = absurd is
    all_numbered d b own_line (x ∷ xs) [] ws cs le is there = absurd is
    all_numbered d b own_line (x ∷ xs) (f ∷ ts) [] cs le is there = absurd is
    all_numbered d b own_line (x ∷ xs) (f ∷ ts) (w ∷ ws) [] le is there = absurd is
    all_numbered d b own_line (x ∷ xs) (f ∷ ts) (w ∷ ws) (v ∷ cs) le is there = (
      one_numbered (d + 0) x (there 0 x refl) b (omega (arith, le)) f is.0.buffered is.0.grouped is.1,
      all_numbered (d + 1) (b + 1) (own_line + 2) xs ts ws cs (omega (arith, le)) is.2
          (λ j y e. let next : d + suc j ≡ (d + 1) + j = omega arith in ap (slice_get listed) (sym next) ∙ there (suc j) y e),
    )

    fetches_have_numbers : AllByRecursion IsNumbered h.body.fetches
    fetches_have_numbers =
        let b = h.body in
        let most = fetches_few a entries (roots_few a sch l well legal small kept all groups) n first line g q claims needs h in
        all_numbered 0 1 (line + first_lines h.skeleton) listed b.fetches needs b.fetched (omega (arith, most)) b.fetching
        (λ j x e. let none : 0 + j ≡ j = omega arith in ap (slice_get listed) none ∙ e)

  -- ---- by which claim a group publishes

  module _ (n first line : ℕ) (g : StoredText) (q : CodeGroup) (claims : List CodeClaim) (needs : List Need) (at : slice_get (stored_functions a sch) n ≡ Some g)
      (h : HasBody a entries n first line g q claims needs) (numbered : AreNumbered a entries l.certificate.claims.items first claims) where
    last_small : last_claim first h.body.fetches h.skeleton < 10000
    last_small =
        let b = h.body in
        let k = h.skeleton in
        let fs = h.formulas in
        let nests = nests_claim g fs _ _ _ _ 0 k.nests b.nests b.own b.nested in
        let many = nests_long g.subject.variables (bodies_from g.changes 0 g.subject.reductions fs) g.placed h.extents k h.laid in
        let bodies = bodies_many g.changes 0 g.subject.reductions fs in
        let formulas = (known_stored a sch well n g at).formulas fs h.defined in
        let last = some_there b.own (length b.own - 1) (omega (arith, nests, many, bodies, formulas)) in
        let place : slice_get claims (length b.fetched + (length b.own - 1)) ≡ Some last.0 =
        ap (λ (ws : List CodeClaim). slice_get ws (length b.fetched + (length b.own - 1))) b.claimed
        ∙ get_second a entries l.certificate.claims.items b.fetched b.own (length b.own - 1) ∙ last.1 in
        let held = numbered (length b.fetched + (length b.own - 1)) last.0 place in
        let within = slice_get_within l.certificate.claims.items (first + (length b.fetched + (length b.own - 1))) last.0 held in
        let long = fetches_claim (sites_of a g fs k) (grid_scope k.grid) n 1 (line + first_lines k) (fetched_groups fs n 0 entries) b.fetches needs b.fetched b.fetching in
        let total = few_claims a sch l well legal small kept all groups in
        omega (arith, nests, many, bodies, formulas, long, within, total)
      where
        some_there : {A : Type 0} (xs : List A) (j : ℕ) → j < length xs → (x : A) × (slice_get xs j ≡ Some x)
        some_there [] j below = absurd (omega (arith, below))
        some_there (x ∷ xs) zero below = (x, refl)
        some_there (x ∷ xs) (suc j) below = some_there xs j (omega (arith, below))

  -- ---- bodies

  module _ (planned : unplanned a (stored_functions a sch) ≡ None)
      (once : (n : ℕ) (u : StoredText) → slice_get (stored_functions a sch) n ≡ Some u → IsSplitOnce u) where
    abbrev T : Function → StoredText
    T f = text a sch l well legal small kept all groups f

    pub body_numbered : (n : ℕ) (q : CodeGroup) (place : ℕ) (f : Function) → slice_get a.functions place ≡ Some f → slice_get (stored_functions a sch) n ≡ Some (T f) → (first line : ℕ)
        (claims : List CodeClaim) (needs : List Need) → slice_get l.plan.groups.items n ≡ Some q → HasBody a entries n first line (T f) q claims needs →
        AreNumbered a entries l.certificate.claims.items first claims → Numbered (statement_lines (statement_of q.body))
    body_numbered n q place f at there first line claims needs theirs h count =
        let g : StoredText = T f in
        let b = h.body in
        let fs = h.formulas in
        let k = h.skeleton in
        let x = stood_text a sch l well legal small kept all groups once n g q there theirs n first line claims needs h in
        let short = x.short in
        let few = short.grid in
        let limits = limited a sch l well legal small kept all groups n q place f at there first line claims needs theirs h in
        let own_limits = own_places_limited a sch l well legal small kept all groups planned n q place f at there first line claims needs theirs h in
        let region : List Span1 = claimed_region (dimensions_of g h.extents k) in
        let places : List Places = own_places (dimensions_of g h.extents k) in
        let ms : Loads = loads_from first b.fetches in
        let last : ℕ = last_claim first b.fetches k in
        let rest : List Statement = b.nests ++ Publish last ∷ [] in
        let inside : List Statement = Alloc 0 g.subject.name places ∷ with_fetches b.fetches rest in
        let own = short.own in
        let next : ℕ = own.next in
        let definitions = short.definitions in
        let head_symbols = short.few_symbols in
        let behind_head = rises_to (length k.grid) next k.head own.rises in
        let room : next + 27 * length k.nests ≤ 256 = omega (arith, few, head_symbols, behind_head, definitions) in
        let over = over_below k few next own.rises (omega (arith, few, head_symbols, behind_head)) in
        let forms = forms_fit (OverGrid k) over next k.nests own.nests_rise short.nests room limits.nests own.nests in
        let steps = all_weaker IsNestLimited (λ w. AllByRecursion StepIs w.steps) (λ w s. s.steps) k.nests limits.nests in
        let nests : Numbered (block_lines (block b.nests)) =
        nests_numbered (OverGrid k) over next k.nests own.nests_rise short.nests room steps own.steps_over forms g fs region ms (first + length b.fetches)
        (line + first_lines k + 2 * length b.fetches) 0 b.nests b.own (omega (arith, definitions)) b.nested in
        let small_last = last_small n first line g q claims needs there h count in
        let publish : Numbered (PublishLine last ∷ []) = both _ _ (less last (2 ^ 63) (omega (arith, small_last))) refl in
        let behind : Numbered (block_lines (block rest)) =
        subst Numbered (sym (lines_both b.nests (Publish last ∷ []))) (joined (block_lines (block b.nests)) (PublishLine last ∷ []) nests publish) in
        let fetched = fetches_numbered b.fetches rest (fetches_have_numbers n first line g q claims needs h few) behind in
        let whole : Numbered (block_lines (block inside)) = both _ _ (both _ _ refl (places_fit places x.places own_limits)) fetched in
        let over_grid : (s : ℕ) → s < length k.grid → s < 1000 = λ s less_so. omega (arith, few, less_so) in
        let lines : Numbered (block_lines (lines_to k.head (block inside))) =
        steps_numbered (λ s. s < length k.grid) over_grid (length k.grid) next k.head (block inside) own.rises (omega (arith, few, head_symbols, behind_head)) short.head limits.head own.over whole in
        subst (λ (s : Statement). Numbered (statement_lines s)) (sym b.with.is) lines
