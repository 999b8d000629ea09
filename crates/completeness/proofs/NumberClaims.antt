-- The numbers in claims and need lines have a text, in plans whose loops are split once, by whatever tails; and the claims are few.
use Rattle.std.proofs.Common.{◌≡◌, ℕ, suc, ◌+◌, ◌*◌, ◌<◌, ◌≤◌, ◌^◌, Bool, true, false, List, [], ◌∷◌, ◌++◌, length, Some, None, refl, sym, ap, ◌∙◌, subst, arith}
use Rattle.std.specs.Prelude.{◌-◌, ◌==◌, not, if◌then◌else◌, slice_get}
use Rattle.std.specs.List.{AllByRecursion}
use Rattle.std.proofs.lemmas.List.{length-append}
use Rattle.std.proofs.lemmas.Option.{slice_get_within}
use Rattle.lin.specs.declared.span.Span1.{Span1}
use Rattle.lin.specs.declared.scope.Binding.{Binding}
use Rattle.bounds.proofs.ListSound.{all-append}
use Rattle.meaning.specs.Algorithm.{Algorithm}
use Rattle.meaning.specs.Conditions.{IsAlgorithm}
use Rattle.plan.specs.declared.plan.Group.{Group as CodeGroup}
use Rattle.plan.specs.declared.certificate.cert.Claim.{Claim as CodeClaim}
use Rattle.plan.specs.declared.certificate.cert.Need.{Need}
use Rattle.plan.specs.Plan.{Statement, block}
use Rattle.plan.specs.Lines.{block_lines}
use Rattle.spelling.specs.Words.Fitting.{fits_region}
use Rattle.cert.specs.Lines.{NeedLine}
use Rattle.soundness.proofs.Refines.{and_parts, eq_refl}
use Rattle.sched.specs.Schedule.{Schedule}
use Rattle.sched.specs.Legal.{IsLegal}
use Rattle.sched.specs.declared.numbers.Extent.{Extent}
use Rattle.sched.specs.Skeleton.{BodyText, NestText}
use Rattle.sched.proofs.Arriving.{skeletal}
use Rattle.lower.specs.declared.lowering.Lowered.{Lowered}
use Rattle.sched.specs.Stored.{FormulaText, StoredText}
use Rattle.regions.specs.Stored.{some_calls}
use Rattle.lower.specs.Stored.{stored_functions, has_large}
use Rattle.sched.specs.Around.{grid_scope}
use Rattle.regions.specs.Faults.{are_whole}
use Rattle.lower.specs.Faults.{region_fault}
use Rattle.regions.specs.Regions.{bodies_from}
use Rattle.sched.specs.Loading.{Loads}
use Rattle.blocks.specs.Blocks.{dimensions_of, claimed_region}
use Rattle.blocks.specs.Bodies.{first_lines, AreNests}
use Rattle.regions.specs.Taken.{sites_of, taken_region}
use Rattle.regions.specs.Needs.{pieces_needed}
use Rattle.sched.specs.Fetches.{Entry}
use Rattle.blocks.specs.Fetches.{FetchText}
use Rattle.lower.specs.Fetches.{IsPart, IsFetched, AreFetched, is_fetched, fetched_groups, loads_from, Calls}
use Rattle.lower.specs.Groups.{HasBody, HasGroups}
use Rattle.completeness.specs.Fitting.{IsSplitOnce}
use Rattle.completeness.specs.SaidCertificates.{has_numbers}
use Rattle.completeness.proofs.Bodies.{other_at, entry_at}
use Rattle.completeness.proofs.Counts.{five, fetched_many, fetches_few, roots_few, functions_few, nests_claim}
use Rattle.completeness.proofs.Earlier.{called_before}
use Rattle.completeness.proofs.FetchTexts.{region_has_text}
use Rattle.completeness.proofs.FewLines.{lines_both, rises_to, nests_small}
use Rattle.completeness.proofs.NeedForms.{entry_short}
use Rattle.completeness.proofs.NeedTexts.{needs_fit}
use Rattle.completeness.proofs.NumberLines.{both, less}
use Rattle.completeness.proofs.RisingSpans.{IsTextSpan, taken_text}
use Rattle.completeness.proofs.Served.{ls as regions_found, ready, roots}
use Rattle.completeness.proofs.Sited.{taken_over}
use Rattle.completeness.proofs.Standing.{names_own}
use Rattle.completeness.proofs.StoodTexts.{stood_text}

-- ---- claims

pub record IsClaimSmall (v : CodeClaim) : Type 0 where
  pub line : v.line < 100000
  pub buffer : v.buffer < 1000
  pub definition : v.definition < 1000
  pub region : fits_region v.region ≡ true

abbrev pub IsNeedNumbered : Need → Type 0
IsNeedNumbered w = has_numbers (NeedLine w) ≡ true

-- a group's own claims
own_small : (g : StoredText) (fs : List FormulaText) (r : List Span1) (ms : Loads) (c line d : ℕ) (ns : List NestText) (ys : List Statement) (cs : List CodeClaim) → fits_region r ≡ true →
    d + length ns ≤ 1000 → line + block_lines (block ys) < 100000 → AreNests g fs r ms c line d ns ys cs → AllByRecursion IsClaimSmall cs
own_small g fs r ms c line d [] ys cs region few under h = subst (AllByRecursion IsClaimSmall) (sym h.1) tt
own_small g fs r ms c line d (n ∷ ns) ys [] region few under h = absurd h
own_small g fs r ms c line d (n ∷ ns) ys (w ∷ cs) region few under h =
    let says = h.here.claims in
    let after = says.after in
    let buffered = says.buffered in
    let defined = says.defined in
    let lines : block_lines (block ys) ≡ block_lines (block h.first) + block_lines (block h.others) = ap (λ (ys : List Statement). block_lines (block ys)) h.are ∙ lines_both h.first h.others in (
      record {
        line = omega (arith, after, lines, under);
        buffer = omega (arith, buffered);
        definition = omega (arith, defined, few);
        region = ap fits_region says.over ∙ region;
      },
      own_small g fs r (ms ++ (g.subject.name, c) ∷ []) (c + 1) (line + block_lines (block h.first)) (d + 1) ns h.others cs region (omega (arith, few)) (omega (arith, lines, under)) h.behind,
    )

-- ---- groups fetch of earlier ones

needs_many : (calls : Calls) (grid : List Binding) (n b line : ℕ) (xs : List (ℕ × Entry)) (fs : List FetchText) (ws : List Need) (cs : List CodeClaim) → AreFetched calls grid n b line xs fs ws cs →
    length ws ≡ length xs
needs_many calls grid n b line [] [] [] [] h = refl
needs_many calls grid n b line [] [] [] (c ∷ cs) h = absurd h
needs_many calls grid n b line [] [] (w ∷ ws) cs h = absurd h
needs_many calls grid n b line [] (f ∷ fs) ws cs h = absurd h
needs_many calls grid n b line (x ∷ xs) [] ws cs h = absurd h
needs_many calls grid n b line (x ∷ xs) (f ∷ fs) [] cs h = absurd h
needs_many calls grid n b line (x ∷ xs) (f ∷ fs) (w ∷ ws) [] h = absurd h
needs_many calls grid n b line (x ∷ xs) (f ∷ fs) (w ∷ ws) (c ∷ cs) h = ap suc (needs_many calls grid n (b + 1) (line + 2) xs fs ws cs h.2)

fetched_before : (us : List FormulaText) (n from : ℕ) (es : List Entry) → ((i : ℕ) (e : Entry) → slice_get es i ≡ Some e → is_fetched us n (from + i) e ≡ true → from + i < n) →
    length (fetched_groups us n from es) ≤ n - from
fetched_before us n from [] before = omega arith
fetched_before us n from (e ∷ es) before =
    of (is_fetched us n from e) refl (fetched_before us n (from + 1) es (λ i u at f.
    let next : (from + 1) + i ≡ from + suc i = omega arith in
    let below = before (suc i) u at (ap (λ (h : ℕ). is_fetched us n h u) (sym next) ∙ f) in
    omega (arith, below, next)))
  where
    of : (b : Bool) → is_fetched us n from e ≡ b → length (fetched_groups us n (from + 1) es) ≤ n - (from + 1) →
        length (if b then (from, e) ∷ fetched_groups us n (from + 1) es else fetched_groups us n (from + 1) es) ≤ n - from
    of true f rest =
        let none : from + 0 ≡ from = omega arith in
        let below = before 0 e refl (ap (λ (h : ℕ). is_fetched us n h e) none ∙ f) in
        omega (arith, rest, below, none)
    of false f rest = omega (arith, rest)

module _ (a : Algorithm) (sch : Schedule) (l : Lowered) (well : IsAlgorithm a) (legal : IsLegal a sch) (small : has_large (stored_functions a sch) ≡ false)
    (kept : region_fault a (stored_functions a sch) ≡ None) (all : are_whole (stored_functions a sch) ≡ true) (groups : HasGroups a (stored_functions a sch) l) where
  abbrev gs : List StoredText
  gs = stored_functions a sch

  abbrev entries : List Entry
  entries = roots a sch l well legal small kept all groups

  -- so many claims of what is fetched
  listed_few : (n : ℕ) (g : StoredText) → slice_get gs n ≡ Some g → (fs : List FormulaText) → g.formulas ≡ Some fs → length (fetched_groups fs n 0 entries) ≤ n
  listed_few n g at fs defined =
      let most = fetched_before fs n 0 entries (λ i e there f.
      let none : 0 + i ≡ i = omega arith in
      let tests = and_parts (not (0 + i == n)) (some_calls e.0.subject.name fs) f in
      let entry = entry_at gs (regions_found a sch l well legal small kept all groups) all (ready a sch l well legal small kept all groups) i e there in
      let differs : (i ≡ n → ⊥) = λ same. no (0 + i == n) (ap (λ (m : ℕ). m == n) (none ∙ same) ∙ eq_refl n) tests.0 in
      let below = called_before a sch well i n e.0 g fs entry.is at defined tests.1 differs in
      omega (arith, below)) in
      omega (arith, most)
    where
      no : (b : Bool) → b ≡ true → not b ≡ true → ⊥
      no true x y = absurd (cc y)
      no false x y = absurd (cc x)

  -- ---- bodies

  module _ (n first line : ℕ) (g : StoredText) (q : CodeGroup) (claims : List CodeClaim) (needs : List Need) (h : HasBody a entries n first line g q claims needs)
      (few : length h.skeleton.grid ≤ 10) (below : n < 64) where
    abbrev listed : List (ℕ × Entry)
    listed = fetched_groups h.formulas n 0 entries

    abbrev grid : List Binding
    grid = grid_scope h.skeleton.grid

    one_needs : (j : ℕ) (x : ℕ × Entry) → slice_get listed j ≡ Some x → (b own_line : ℕ) (f : FetchText) (w : Need) (v : CodeClaim) → IsFetched n b own_line x.0 x.1 f w v →
        IsPart (sites_of a g h.formulas h.skeleton) grid x.1 f → IsNeedNumbered w
    one_needs j x there b own_line f w v is part =
        let other = other_at h.formulas n 0 entries j x there in
        let place = slice_get_within entries other.place x.1 other.at in
        let most = roots_few a sch l well legal small kept all groups in
        let numbered = other.numbered in
        let bodies : List BodyText = bodies_from g.changes 0 g.subject.reductions h.formulas in
        let order = skeletal g.subject.variables bodies g.placed h.extents h.skeleton h.laid in
        let names = names_own g.subject.variables bodies g.placed h.extents h.skeleton h.laid in
        let name = x.1.0.subject.name in
        let es : List Extent = x.1.1.region in
        let text : AllByRecursion IsTextSpan (taken_region grid part.taken.sites 0 es) =
        taken_text a g h.formulas g.subject.variables bodies g.placed h.extents h.skeleton h.laid name part.taken.sites part.taken.called grid 0 es in
        let only = taken_over a g h.formulas h.skeleton name part.taken.sites order names part.taken.called 0 es in
        let region : fits_region (pieces_needed x.1.0 es x.1.1.skeleton.grid f.region) ≡ true =
        subst (λ (ss : List Span1). fits_region (pieces_needed x.1.0 es x.1.1.skeleton.grid ss) ≡ true) (sym part.taken.region)
        (needs_fit x.1.0 es (taken_region grid part.taken.sites 0 es) text (length h.skeleton.grid) (omega (arith, few)) only x.1.1.skeleton.grid
        (entry_short a sch l well legal small kept all groups other.place x.1 other.at)) in
        let needing = is.needing in
        let needed = is.needed in
        both _ _ (both _ _ (less w.group (2 ^ 63) (omega (arith, needing, below))) (less w.needed (2 ^ 63) (omega (arith, needed, numbered, place, most)))) (ap fits_region is.pieces ∙ region)

    one_claim : (j : ℕ) (x : ℕ × Entry) → slice_get listed j ≡ Some x → (b own_line : ℕ) (f : FetchText) (w : Need) (v : CodeClaim) → b < 1000 → own_line < 90000 →
        IsFetched n b own_line x.0 x.1 f w v → IsPart (sites_of a g h.formulas h.skeleton) grid x.1 f → IsClaimSmall v
    one_claim j x there b own_line f w v buffer under is part =
        let other = other_at h.formulas n 0 entries j x there in
        let entry = entry_at gs (regions_found a sch l well legal small kept all groups) all (ready a sch l well legal small kept all groups) other.place x.1 other.at in
        let most = five a sch l well legal small kept all groups other.place x.1.0 entry.is x.1.2 entry.defined in
        let says = is.claimed in
        let after = says.after in
        let buffered = says.buffered in
        let defined = says.defined in
        record {
          line = omega (arith, after, under);
          buffer = omega (arith, buffered, buffer);
          definition = omega (arith, defined, most);
          region = ap fits_region says.over ∙ region_has_text a sch l well legal small kept all groups n first line g q claims needs h few j x there f part;
        }

    fetched_small : (d b own_line : ℕ) (xs : List (ℕ × Entry)) (ts : List FetchText) (ws : List Need) (cs : List CodeClaim) → b + length ts ≤ 1000 → own_line + 2 * length ts < 90000 →
        AreFetched (sites_of a g h.formulas h.skeleton) grid n b own_line xs ts ws cs → ((j : ℕ) (x : ℕ × Entry) → slice_get xs j ≡ Some x → slice_get listed (d + j) ≡ Some x) →
        AllByRecursion IsNeedNumbered ws × AllByRecursion IsClaimSmall cs
    fetched_small d b own_line [] [] [] [] le under is there = (tt, tt)
    fetched_small d b own_line [] [] [] (w ∷ cs) le under is there = absurd is
    fetched_small d b own_line [] [] (w ∷ ws) cs le under is there = absurd is
    fetched_small d b own_line [] (f ∷ ts) ws cs le under is there = absurd is
    fetched_small d b own_line (x ∷ xs) [] ws cs le under is there = absurd is
    fetched_small d b own_line (x ∷ xs) (f ∷ ts) [] cs le under is there = absurd is
    fetched_small d b own_line (x ∷ xs) (f ∷ ts) (w ∷ ws) [] le under is there = absurd is
    fetched_small d b own_line (x ∷ xs) (f ∷ ts) (w ∷ ws) (v ∷ cs) le under is there =
        let rest = fetched_small (d + 1) (b + 1) (own_line + 2) xs ts ws cs (omega (arith, le)) (omega (arith, under)) is.2
        (λ j y e. let next : d + suc j ≡ (d + 1) + j = omega arith in ap (slice_get listed) (sym next) ∙ there (suc j) y e) in (
          (one_needs (d + 0) x (there 0 x refl) b own_line f w v is.0 is.1, rest.0),
          (one_claim (d + 0) x (there 0 x refl) b own_line f w v (omega (arith, le)) (omega (arith, under)) is.0 is.1, rest.1),
        )

  module _ (once : (n : ℕ) (u : StoredText) → slice_get (stored_functions a sch) n ≡ Some u → IsSplitOnce u) where
    -- of a body of the group n, from this line on
    pub record IsBodySmall (n : ℕ) (claims : List CodeClaim) (needs : List Need) : Type 0 where
      pub claimed : AllByRecursion IsClaimSmall claims
      pub needed : AllByRecursion IsNeedNumbered needs
      pub few : length claims ≤ n + 5
      pub needs_few : length needs ≤ n

    pub body_claims : (n first line : ℕ) (g : StoredText) (q : CodeGroup) (claims : List CodeClaim) (needs : List Need) → slice_get gs n ≡ Some g → slice_get l.plan.groups.items n ≡ Some q →
        line ≤ 50000 → HasBody a entries n first line g q claims needs → IsBodySmall n claims needs
    body_claims n first line g q claims needs at theirs under h =
        let b = h.body in
        let fs = h.formulas in
        let k = h.skeleton in
        let place = slice_get_within gs n g at in
        let functions = functions_few a sch l well legal small kept all groups in
        let x = stood_text a sch l well legal small kept all groups once n g q at theirs n first line claims needs h in
        let short = x.short in
        let few = short.grid in
        let definitions = short.definitions in
        let head_symbols = short.few_symbols in
        let head_lines = short.few_lines in
        let own = short.own in
        let behind_head = rises_to (length k.grid) own.next k.head own.rises in
        let buffers = fetches_few a entries (roots_few a sch l well legal small kept all groups) n first line g q claims needs h in
        let fetched = fetched_small n first line g q claims needs h few (omega (arith, place, functions)) 0 1 (line + first_lines k) (fetched_groups fs n 0 entries) b.fetches needs b.fetched
        (omega (arith, buffers)) (omega (arith, buffers, under, head_lines)) b.fetching (λ j y e. let none : 0 + j ≡ j = omega arith in ap (slice_get (fetched_groups fs n 0 entries)) none ∙ e) in
        let region : List Span1 = claimed_region (dimensions_of g h.extents k) in
        let ms : Loads = loads_from first b.fetches in
        let nests = nests_small own.next k.nests own.nests_rise short.nests (omega (arith, few, head_symbols, behind_head, definitions)) g fs region ms (first + length b.fetches)
        (line + first_lines k + 2 * length b.fetches) 0 b.nests b.own b.nested in
        let lines = nests.few in
        let claimed = own_small g fs region ms (first + length b.fetches) (line + first_lines k + 2 * length b.fetches) 0 k.nests b.nests b.own x.claimed (omega (arith, definitions))
        (omega (arith, lines, definitions, under, head_lines, buffers)) b.nested in
        let most = listed_few n g at fs h.defined in
        let many = fetched_many (sites_of a g fs k) grid_here n 1 (line + first_lines k) (fetched_groups fs n 0 entries) b.fetches needs b.fetched b.fetching in
        let many_needs = needs_many (sites_of a g fs k) grid_here n 1 (line + first_lines k) (fetched_groups fs n 0 entries) b.fetches needs b.fetched b.fetching in
        let own_many = nests_claim g fs region ms (first + length b.fetches) (line + first_lines k + 2 * length b.fetches) 0 k.nests b.nests b.own b.nested in
        let whole = ap length b.claimed in
        let parts = length-append b.fetched b.own in
        record {
          claimed = subst (AllByRecursion IsClaimSmall) (sym b.claimed) (all-append IsClaimSmall b.fetched b.own fetched.1 claimed);
          needed = fetched.0;
          few = omega (arith, most, many, own_many, whole, parts, definitions);
          needs_few = omega (arith, most, many_needs);
        }
      where
        grid_here : List Binding
        grid_here = grid_scope h.skeleton.grid
