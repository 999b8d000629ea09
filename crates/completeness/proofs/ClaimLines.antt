-- What a claim names is known: a statement ends at its line, behind which its buffer is in scope, and its region names symbols of its group's grid alone.
use Rattle.std.proofs.Common.{◌≡◌, ℕ, zero, suc, ◌+◌, ◌-◌, ◌*◌, ◌<◌, ◌≤◌, Bool, true, false, List, [], ◌∷◌}
use Rattle.std.proofs.Common.{◌++◌, length, map, Option, Some, None, refl, sym, ap, ◌∙◌, subst, inl, inr, ◌⊎◌, arith}
use Rattle.std.specs.Prelude.{◌==◌, ◌&&◌, nat_le, nat_lt, if◌then◌else◌, string_bytes, slice_get, IsSomeAnd}
use Rattle.std.specs.List.{AllByRecursion, list_all, list_any}
use Rattle.std.proofs.lemmas.Bool.Decides.{nat_tests}
use Rattle.std.proofs.lemmas.Option.{slice_get_within}
use Rattle.tree.specs.Term.{Term}
use Rattle.lin.specs.Forms.{Form}
use Rattle.lin.specs.declared.form.Multiple.{Multiple}
use Rattle.lin.specs.declared.scope.Binding.{Binding}
use Rattle.lin.specs.declared.span.Span1.{Span1}
use Rattle.plan.specs.declared.plan.Group.{Group as CodeGroup}
use Rattle.plan.specs.declared.stmt.Places.{Places}
use Rattle.plan.specs.declared.certificate.cert.Claim.{Claim as CodeClaim}
use Rattle.plan.specs.declared.certificate.cert.Need.{Need}
use Rattle.plan.specs.Plan.{Statement, Seq, For, Let, First, Guard, Alloc, Fetch, Store, Publish, Statements, block}
use Rattle.plan.specs.View.{group_of, plan_of, statement_of}
use Rattle.plan.specs.Lines.{lines, block_lines}
use Rattle.plan.specs.Certificate.Certificate.{claim_of}
use Rattle.plan.specs.Semantics.Setting.{Buffer, allocated}
use Rattle.meaning.specs.Algorithm.{Change, Function, Algorithm}
use Rattle.meaning.specs.Names.{same_name}
use Rattle.meaning.specs.Conditions.{IsAlgorithm, function_named}
use Rattle.soundness.specs.Claims.{In}
use Rattle.soundness.specs.Outline.Forms.{are_over, spans_are_over}
use Rattle.soundness.proofs.Refines.{eq_refl, name_refl, name_true}
use Rattle.headline.proofs.Lists.{at_map}
use Rattle.sched.specs.Schedule.{Schedule}
use Rattle.sched.specs.Legal.{IsLegal}
use Rattle.sched.specs.declared.numbers.Extent.{Extent}
use Rattle.sched.specs.Skeleton.{NestText, SkeletonText}
use Rattle.sched.specs.Standing.{◌>>=◌}
use Rattle.sched.specs.Runs.{lines_to}
use Rattle.sched.proofs.Arriving.{skeletal}
use Rattle.validation.specs.Certificate.Placing.{Spot, Place, past, spot_at, group_spot, group_spot_at, place_with, place_in, place_at}
use Rattle.validation.specs.Certificate.Certificate.{is_of_buffer, is_of_function, is_at, claim_is_known}
use Rattle.lower.specs.declared.lowering.Lowered.{Lowered}
use Rattle.sched.specs.Stored.{FormulaText, StoredText}
use Rattle.blocks.specs.Stored.{pure_put, change_put, changes_put, formulas_put, flags}
use Rattle.lower.specs.Stored.{stored_functions, has_large}
use Rattle.sched.specs.Regions.{LaidText}
use Rattle.regions.specs.Regions.{bodies_from, skeleton_of}
use Rattle.sched.specs.Around.{grid_scope}
use Rattle.regions.specs.Faults.{are_whole}
use Rattle.lower.specs.Faults.{region_fault}
use Rattle.sched.specs.Taken.{SiteText}
use Rattle.regions.specs.Taken.{sites_of, taken_region}
use Rattle.sched.specs.Loading.{Loads}
use Rattle.blocks.specs.Blocks.{dimensions_of, claimed_region, own_places}
use Rattle.blocks.specs.Bodies.{step_lines, first_lines, IsStore, AreNests}
use Rattle.lower.specs.Bodies.{last_claim}
use Rattle.sched.specs.Fetches.{Entry}
use Rattle.blocks.specs.Fetches.{FetchText, with_fetches}
use Rattle.lower.specs.Fetches.{Calls, IsFetched, IsPart, AreFetched, fetched_groups, loads_from}
use Rattle.lower.specs.Groups.{HasBody, line_behind, HaveBodies, HasGroups}
use Rattle.blocks.proofs.Laying.{bound, same}
use Rattle.completeness.proofs.Only.{AreOnly, SpanOnly}
use Rattle.completeness.proofs.Standing.{AreLets, names_own}
use Rattle.completeness.proofs.Sited.{taken_over}
use Rattle.completeness.proofs.Gridded.{among, claimed_over, claimed_long}
use Rattle.completeness.proofs.Laid.{subjects, found}
use Rattle.completeness.proofs.Bodies.{other_at, entry_at}
use Rattle.completeness.proofs.Owned.{each, same_extents, same_skeleton}
use Rattle.completeness.proofs.Output.{group_at}
use Rattle.completeness.proofs.Served.{ls as regions_found, roots, ready, made_at}
use Rattle.completeness.proofs.Spots.{Has, Stands, IsBufferOf, past_lets, past_fetches, fetches_grow, has_last}
use Rattle.completeness.proofs.Spots.{stands_in_lets, stands_past, stands_fetched, stands_fetch, stands_nest, own_allotted, fetch_has}

some_same : {A : Type 0} (x y : A) → Some x ≡ Some y → x ≡ y
some_same x y e = cc e

-- ---- the function

of_name : (fs : List Function) (k : ℕ) (f : Function) → slice_get fs k ≡ Some f → ((i : ℕ) (g : Function) → slice_get fs i ≡ Some g → g.name ≡ f.name → i ≡ k) → function_named fs f.name ≡ Some f
of_name [] k f at one = absurd (cc at)
of_name (g ∷ fs) k f at one = of (same_name g.name f.name) refl k at one (λ j q once. of_name fs j f q once)
  where
    of : (b : Bool) → same_name g.name f.name ≡ b → (k : ℕ) → slice_get (g ∷ fs) k ≡ Some f → ((i : ℕ) (h : Function) → slice_get (g ∷ fs) i ≡ Some h → h.name ≡ f.name → i ≡ k) →
        ((k : ℕ) → slice_get fs k ≡ Some f → ((i : ℕ) (h : Function) → slice_get fs i ≡ Some h → h.name ≡ f.name → i ≡ k) → function_named fs f.name ≡ Some f) →
        elim b [ true ↦ Some g | false ↦ function_named fs f.name ] ≡ Some f
    of true t zero q once rest = q
    of true t (suc k) q once rest = (let first : 0 ≡ suc k = once 0 g refl (name_true g.name f.name t) in absurd (omega (arith, first)))
    of false t zero q once rest = (let here : g ≡ f = cc q in
        let named : same_name g.name f.name ≡ true = ap (λ (h : Function). same_name h.name f.name) here ∙ name_refl f.name in absurd (cc (t, named)))
    of false t (suc k) q once rest = rest k q (λ i h p e. let next : suc i ≡ suc k = once (suc i) h p e in omega (arith, next))

pub named_here : (a : Algorithm) → IsAlgorithm a → (k : ℕ) (f : Function) → slice_get a.functions k ≡ Some f → function_named a.functions f.name ≡ Some f
named_here a well k f at = of_name a.functions k f at once
  where
    once : (i : ℕ) (g : Function) → slice_get a.functions i ≡ Some g → g.name ≡ f.name → i ≡ k
    once i g there e =
        let one = at_map (λ (f : Function). f.name) a.functions i g there ∙ ap (λ (x : List ℕ). Some x) e in
        let two = at_map (λ (f : Function). f.name) a.functions k f at in
        let next : suc i ≡ suc k = well.names (suc i) (suc k) f.name one two in
        omega (arith, next)

changes_long : (a : Algorithm) (stored : List Bool) (xs : List (List ℕ)) (us : List Change) (fs : List FormulaText) → changes_put a stored xs us ≡ Some fs → length fs ≡ length us
changes_long a stored xs [] fs e = sym (ap length (same [] fs e))
changes_long a stored xs (u ∷ us) fs e =
    let b = bound (change_put a stored xs u) (λ f. changes_put a stored xs us >>= λ fs. Some (f ∷ fs)) fs e in
    let c = bound (changes_put a stored xs us) (λ fs. Some (b.value ∷ fs)) fs b.comes in
    let rest = changes_long a stored xs us c.value c.is in
    sym (ap length (same (b.value ∷ c.value) fs c.comes)) ∙ ap suc rest

pub formulas_long : (a : Algorithm) (stored : List Bool) (xs : List (List ℕ)) (e : Term) (us : List Change) (fs : List FormulaText) → formulas_put a stored xs e us ≡ Some fs →
    length fs ≡ suc (length us)
formulas_long a stored xs e us fs h =
    let b = bound (pure_put a stored xs e) (λ f. changes_put a stored xs us >>= λ fs. Some (f ∷ fs)) fs h in
    let c = bound (changes_put a stored xs us) (λ fs. Some (b.value ∷ fs)) fs b.comes in
    sym (ap length (same (b.value ∷ c.value) fs c.comes)) ∙ ap suc (changes_long a stored xs us c.value c.is)

-- a stored function is one of the algorithm's
pub record IsKnown (a : Algorithm) (g : StoredText) : Type 0 where
  pub function : Function
  pub named : function_named a.functions g.subject.name ≡ Some function
  pub variables : length g.subject.variables ≡ length function.variables
  pub formulas : (fs : List FormulaText) → g.formulas ≡ Some fs → length fs ≡ suc (length function.changes)

pub known_stored : (a : Algorithm) (s : Schedule) → IsAlgorithm a → (n : ℕ) (g : StoredText) → slice_get (stored_functions a s) n ≡ Some g → IsKnown a g
known_stored a s well n g at =
    let w = found a s (flags (subjects a s)) g a.functions n at in
    let f = w.function in
    subst (IsKnown a) (sym w.is) (record {
      function = f;
      named = named_here a well w.place f w.at;
      variables = refl;
      formulas = λ fs e. formulas_long a (flags (subjects a s)) f.variables f.value f.changes fs e;
    })

-- ---- the region

module _ (n : ℕ) (symbols : List ℕ) (has : (s : ℕ) → s < n → Has symbols s) where
  terms_within : (ts : List Multiple) → AllByRecursion (λ t. t.symbol < n) ts → list_all (λ t. list_any (λ s. s == t.symbol) symbols) ts ≡ true
  terms_within [] h = refl
  terms_within (t ∷ ts) h = ap (λ (b : Bool). b && list_all (λ t. list_any (λ s. s == t.symbol) symbols) ts) (has t.symbol h.0) ∙ terms_within ts h.1

  forms_within : (fs : List Form) → AreOnly (λ s. s < n) fs → are_over symbols fs ≡ true
  forms_within [] h = refl
  forms_within (f ∷ fs) h = ap (λ (b : Bool). b && are_over symbols fs) (terms_within f.terms h.0) ∙ forms_within fs h.1

  spans_within : (xs : List Span1) → AllByRecursion (SpanOnly (λ s. s < n)) xs → spans_are_over symbols xs ≡ true
  spans_within [] h = refl
  spans_within (x ∷ xs) h =
      ap (λ (b : Bool). (b && are_over symbols x.upper) && spans_are_over symbols xs) (forms_within x.lower h.0.0)
      ∙ ap (λ (b : Bool). b && spans_are_over symbols xs) (forms_within x.upper h.0.1) ∙ spans_within xs h.1

-- ---- a claim of a fetch, and one of a nest

record IsFetchOf (calls : Calls) (grid : List Binding) (n : ℕ) (xs : List (ℕ × Entry)) (claim : CodeClaim) : Type 0 where
  place : ℕ
  group : ℕ × Entry
  listed : slice_get xs place ≡ Some group
  fetch : FetchText
  need : Need
  buffer : ℕ
  line : ℕ
  fetched : IsFetched n buffer line group.0 group.1 fetch need claim
  part : IsPart calls grid group.1 fetch

module _ (calls : Calls) (grid : List Binding) (n : ℕ) where
  later_fetch : (x : ℕ × Entry) (xs : List (ℕ × Entry)) (claim : CodeClaim) → IsFetchOf calls grid n xs claim → IsFetchOf calls grid n (x ∷ xs) claim
  later_fetch x xs claim r = record {
    place = suc r.place;
    group = r.group;
    listed = r.listed;
    fetch = r.fetch;
    need = r.need;
    buffer = r.buffer;
    line = r.line;
    fetched = r.fetched;
    part = r.part;
  }

  claim_fetched : (b line : ℕ) (xs : List (ℕ × Entry)) (fs : List FetchText) (ws : List Need) (cs : List CodeClaim) → AreFetched calls grid n b line xs fs ws cs → (claim : CodeClaim) → In claim cs →
      IsFetchOf calls grid n xs claim
  claim_fetched b line [] [] [] [] h claim m = absurd m
  claim_fetched b line [] [] [] (c ∷ cs) h claim m = absurd h
  claim_fetched b line [] [] (w ∷ ws) cs h claim m = absurd h
  claim_fetched b line [] (f ∷ fs) ws cs h claim m = absurd h
  claim_fetched b line (x ∷ xs) [] ws cs h claim m = absurd h
  claim_fetched b line (x ∷ xs) (f ∷ fs) [] cs h claim m = absurd h
  claim_fetched b line (x ∷ xs) (f ∷ fs) (w ∷ ws) [] h claim m = absurd h
  claim_fetched b line (x ∷ xs) (f ∷ fs) (w ∷ ws) (c ∷ cs) h claim (inl e) =
      subst (IsFetchOf calls grid n (x ∷ xs)) (sym e) (record {
        place = 0;
        group = x;
        listed = refl;
        fetch = f;
        need = w;
        buffer = b;
        line = line;
        fetched = h.0;
        part = h.1;
      })
  claim_fetched b line (x ∷ xs) (f ∷ fs) (w ∷ ws) (c ∷ cs) h claim (inr m) = later_fetch x xs claim (claim_fetched (b + 1) (line + 2) xs fs ws cs h.2 claim m)

some_below : {A : Type 0} (P : A → Type 0) (xs : List A) (d : ℕ) → IsSomeAnd (slice_get xs d) P → d < length xs
some_below P xs d h = of (slice_get xs d) refl h
  where
    of : (o : Option _) → slice_get xs d ≡ o → IsSomeAnd o P → d < length xs
    of None e k = absurd k
    of (Some x) e k = slice_get_within xs d x e

store_below : (g : StoredText) (fs : List FormulaText) (ls : Loads) (d : ℕ) (n : NestText) (store : Statement) → IsStore g fs ls d n store → d < length fs
store_below g fs ls d n (Store b k cs e) h = some_below _ fs d h.2
store_below g fs ls d n (Seq all) h = absurd h
store_below g fs ls d n (For i span kind body) h = absurd h
store_below g fs ls d n (Let i pick forms) h = absurd h
store_below g fs ls d n (First i a b) h = absurd h
store_below g fs ls d n (Guard low high body) h = absurd h
store_below g fs ls d n (Alloc b f places) h = absurd h
store_below g fs ls d n (Fetch b f region) h = absurd h
store_below g fs ls d n (Publish c) h = absurd h

pub record IsNestOf (g : StoredText) (fs : List FormulaText) (r : List Span1) (claim : CodeClaim) : Type 0 where
  pub definition : claim.definition < length fs
  pub region : claim.region ≡ r
  pub named : string_bytes claim.function ≡ g.subject.name
  pub buffer : claim.buffer ≡ 0

pub claim_nest : (g : StoredText) (fs : List FormulaText) (r : List Span1) (ls : Loads) (c line d : ℕ) (ns : List NestText) (xs : List Statement) (cs : List CodeClaim) →
    AreNests g fs r ls c line d ns xs cs → (claim : CodeClaim) → In claim cs → IsNestOf g fs r claim
claim_nest g fs r ls c line d [] xs cs h claim m = absurd (subst (In claim) h.1 m)
claim_nest g fs r ls c line d (n ∷ ns) xs [] h claim m = absurd h
claim_nest g fs r ls c line d (n ∷ ns) xs (w ∷ cs) h claim (inl e) =
    let k = h.here.claims in
    let below = store_below g fs ls d n h.here.nest.store h.here.nest.stores in
    let defined = k.defined in
    subst (IsNestOf g fs r) (sym e) (record { definition = omega (arith, below, defined); region = k.over; named = k.named; buffer = k.buffered })
claim_nest g fs r ls c line d (n ∷ ns) xs (w ∷ cs) h claim (inr m) =
    claim_nest g fs r (ls ++ (g.subject.name, c) ∷ []) (c + 1) (line + block_lines (block h.first)) (d + 1) ns h.others cs h.behind claim m

-- ---- whose claim it is

in_either : {A : Type 0} (x : A) (xs ys : List A) → In x (xs ++ ys) → In x xs ⊎ In x ys
in_either x [] ys h = inr h
in_either x (y ∷ xs) ys (inl e) = inl (inl e)
in_either x (y ∷ xs) ys (inr h) = elim (in_either x xs ys h) [ inl k ↦ inl (inr k) | inr k ↦ inr k ]

module _ (a : Algorithm) (all : List Entry) where
  -- and where its group stands among these, of which the first has this line
  record IsClaimOf (n line : ℕ) (gs : List StoredText) (ps : List CodeGroup) (claim : CodeClaim) : Type 0 where
    place : ℕ
    stored : StoredText
    group : CodeGroup
    at : slice_get gs place ≡ Some stored
    there : slice_get ps place ≡ Some group
    first_claim : ℕ
    own_line : ℕ
    own_claims : List CodeClaim
    own_needs : List Need
    body : HasBody a all (n + place) first_claim own_line stored group own_claims own_needs
    among : In claim own_claims
    low : line ≤ own_line
    stands : (k : ℕ) → own_line ≤ k → k < own_line + (lines (statement_of group.body) + 1) →
        place_in (map group_of ps) (k - line) ≡ place_with (group_of group) (group_spot_at (group_of group) (k - own_line))

  claim_of_group : (n c line : ℕ) (gs : List StoredText) (ps : List CodeGroup) (claims : List CodeClaim) (needs : List Need) → HaveBodies a all n c line gs ps claims needs →
      (claim : CodeClaim) → In claim claims → IsClaimOf n line gs ps claim
  claim_of_group n c line [] [] claims needs h claim m = absurd (subst (In claim) h.0 m)
  claim_of_group n c line [] (p ∷ ps) claims needs h claim m = absurd h
  claim_of_group n c line (g ∷ gs) [] claims needs h claim m = absurd h
  claim_of_group n c line (g ∷ gs) (p ∷ ps) claims needs h claim m = of (in_either claim h.own_claims h.other_claims (subst (In claim) h.claimed m))
      (claim_of_group (n + 1) (c + length h.own_claims) (line_behind line p) gs ps h.other_claims h.other_needs h.behind claim)
    where
      count : ℕ
      count = lines (statement_of p.body) + 1

      here : (k : ℕ) → line ≤ k → k < line + count → place_in (map group_of (p ∷ ps)) (k - line) ≡ place_with (group_of p) (group_spot_at (group_of p) (k - line))
      here k low high =
          let less : k - line < count = omega (arith, low, high) in
          let test : nat_lt (k - line) count ≡ true = grind (arith, nat_tests) in
          ap (λ (b : Bool). if b then place_with (group_of p) (group_spot_at (group_of p) (k - line)) else place_in (map group_of ps) ((k - line) - count)) test

      there : (k : ℕ) → line + count ≤ k → place_in (map group_of (p ∷ ps)) (k - line) ≡ place_in (map group_of ps) (k - (line + count))
      there k low =
          let most : count ≤ k - line = omega (arith, low) in
          let test : nat_lt (k - line) count ≡ false = grind (arith, nat_tests) in
          let less : (k - line) - count ≡ k - (line + count) = omega (arith, low) in
          ap (λ (b : Bool). if b then place_with (group_of p) (group_spot_at (group_of p) (k - line)) else place_in (map group_of ps) ((k - line) - count)) test
          ∙ ap (place_in (map group_of ps)) less

      of : In claim h.own_claims ⊎ In claim h.other_claims → (In claim h.other_claims → IsClaimOf (n + 1) (line_behind line p) gs ps claim) → IsClaimOf n line (g ∷ gs) (p ∷ ps) claim
      of (inl k) rest = record {
        place = 0;
        stored = g;
        group = p;
        at = refl;
        there = refl;
        first_claim = c;
        own_line = line;
        own_claims = h.own_claims;
        own_needs = h.own_needs;
        body = (let none : n ≡ n + 0 = omega arith in subst (λ (i : ℕ). HasBody a all i c line g p h.own_claims h.own_needs) none h.here);
        among = k;
        low = omega arith;
        stands = here;
      }
      of (inr k) rest =
          let r = rest k in
          let low = r.low in
          record {
            place = suc r.place;
            stored = r.stored;
            group = r.group;
            at = r.at;
            there = r.there;
            first_claim = r.first_claim;
            own_line = r.own_line;
            own_claims = r.own_claims;
            own_needs = r.own_needs;
            body = (let next : (n + 1) + r.place ≡ n + suc r.place = omega arith in
                subst (λ (i : ℕ). HasBody a all i r.first_claim r.own_line r.stored r.group r.own_claims r.own_needs) next r.body);
            among = r.among;
            low = omega (arith, low);
            stands = λ k least most. there k (omega (arith, low, least)) ∙ r.stands k least most;
          }

-- ---- claims

module _ (a : Algorithm) (sch : Schedule) (l : Lowered) (well : IsAlgorithm a) (legal : IsLegal a sch) (small : has_large (stored_functions a sch) ≡ false)
    (kept : region_fault a (stored_functions a sch) ≡ None) (all : are_whole (stored_functions a sch) ≡ true) (groups : HasGroups a (stored_functions a sch) l) where
  abbrev stored : List StoredText
  stored = stored_functions a sch

  abbrev made : List CodeGroup
  made = l.plan.groups.items

  abbrev entries : List Entry
  entries = roots a sch l well legal small kept all groups

  -- what is so of a claim that one group has
  pub record IsSound (grid : ℕ) (group : CodeGroup) (line : ℕ) (claim : CodeClaim) : Type 0 where
    pub code : Statements
    pub body : statement_of group.body ≡ Seq code
    pub stands : Stands (group_spot (group_of group)) code (line + 1) claim
    pub buffer : IsBufferOf (allocated (statement_of group.body) claim.buffer) (string_bytes claim.function)
    pub function : Function
    pub named : function_named a.functions (string_bytes claim.function) ≡ Some function
    pub definition : claim.definition ≤ length function.changes
    pub long : length claim.region ≡ length function.variables
    pub only : AllByRecursion (SpanOnly (λ s. s < grid)) claim.region

  module _ (n c line : ℕ) (g : StoredText) (p : CodeGroup) (claims : List CodeClaim) (needs : List Need) (at : slice_get stored n ≡ Some g) (there : slice_get made n ≡ Some p)
      (h : HasBody a entries n c line g p claims needs) where
    abbrev k : SkeletonText
    k = h.skeleton

    abbrev fs : List FormulaText
    fs = h.formulas

    abbrev rest : List Statement
    rest = h.body.nests ++ Publish (last_claim c h.body.fetches k) ∷ []

    abbrev places : List Places
    places = own_places (dimensions_of g h.extents k)

    abbrev code : Statements
    code = lines_to k.head (block (Alloc 0 g.subject.name places ∷ with_fetches h.body.fetches rest))

    abbrev start : Spot
    start = group_spot (group_of p)

    abbrev begun : Spot
    begun = past (Alloc 0 g.subject.name places) (past_lets k.head start)

    lets : AreLets k.head
    lets = (names_own g.subject.variables (bodies_from g.changes 0 g.subject.reductions fs) g.placed h.extents k h.laid).lets

    -- behind the piece's own buffer
    stands_begun : (claim : CodeClaim) → Stands begun (block (with_fetches h.body.fetches rest)) (line + first_lines k) claim → Stands start code (line + 1) claim
    stands_begun claim s =
        stands_in_lets k.head (block (Alloc 0 g.subject.name places ∷ with_fetches h.body.fetches rest)) start (line + 1) ((line + 1) + step_lines k.head) claim lets refl
        (stands_past (Alloc 0 g.subject.name places) (block (with_fetches h.body.fetches rest)) (past_lets k.head start) ((line + 1) + step_lines k.head) (line + first_lines k) claim (omega arith) s)

    of_fetch : (claim : CodeClaim) → In claim h.body.fetched → IsSound (length k.grid) p line claim
    of_fetch claim m =
        let b = h.body in
        let r = claim_fetched (sites_of a g fs k) (grid_scope k.grid) n 1 (line + first_lines k) (fetched_groups fs n 0 entries) b.fetches needs b.fetched b.fetching claim m in
        let e = r.group.1 in
        let other = other_at fs n 0 entries r.place r.group r.listed in
        let entry = entry_at stored (regions_found a sch l well legal small kept all groups) all (ready a sch l well legal small kept all groups) other.place e other.at in
        let there_group = group_at stored made (each a sch l well legal small kept all groups) other.place e.0 entry.is in
        let w = made_at a sch l well legal small kept all groups other.place there_group.group there_group.at in
        let w_stored : w.stored ≡ e.0 = some_same w.stored e.0 (sym w.is ∙ entry.is) in
        let w_laid : w.laid ≡ e.1 = some_same w.laid e.1 (some_same (Some w.laid) (Some e.1) (sym w.found ∙ entry.laid)) in
        let known = known_stored a sch well other.place e.0 entry.is in
        let claimed = r.fetched.claimed in
        let many = known.formulas e.2 entry.defined in
        let last = claimed.defined in
        let region : claim.region ≡ taken_region (grid_scope k.grid) r.part.taken.sites 0 e.1.region = claimed.over ∙ r.part.taken.region in
        let order = skeletal g.subject.variables (bodies_from g.changes 0 g.subject.reductions fs) g.placed h.extents k h.laid in
        let names = names_own g.subject.variables (bodies_from g.changes 0 g.subject.reductions fs) g.placed h.extents k h.laid in
        let long : length e.1.region ≡ length e.0.subject.variables =
        ap (λ (x : LaidText). length x.region) (sym w_laid) ∙ w.laid_by.long ∙ ap (λ (u : StoredText). length u.subject.variables) w_stored in
        record {
          code = code;
          body = b.with.is;
          stands = stands_begun claim
              (stands_fetch (sites_of a g fs k) (grid_scope k.grid) n rest 1 (line + first_lines k) (fetched_groups fs n 0 entries) b.fetches needs b.fetched b.fetching begun claim m);
          buffer = subst (λ (s : Statement). IsBufferOf (allocated s claim.buffer) (string_bytes claim.function)) (sym b.with.is)
              (fetch_has (sites_of a g fs k) (grid_scope k.grid) n rest k.head g.subject.name places (line + first_lines k)
              (fetched_groups fs n 0 entries) b.fetches needs b.fetched lets b.fetching claim m);
          function = known.function;
          named = ap (function_named a.functions) claimed.named ∙ known.named;
          definition = omega (arith, last, many);
          long = ap length region ∙ taken_long (grid_scope k.grid) r.part.taken.sites 0 e.1.region ∙ long ∙ known.variables;
          only = subst (AllByRecursion (SpanOnly (λ s. s < length k.grid))) (sym region) (taken_over a g fs k e.0.subject.name r.part.taken.sites order names r.part.taken.called 0 e.1.region);
        }
      where
        taken_long : (grid : List Binding) (ss : List SiteText) (d : ℕ) (es : List Extent) → length (taken_region grid ss d es) ≡ length es
        taken_long grid ss d [] = refl
        taken_long grid ss d (e ∷ es) = ap suc (taken_long grid ss (d + 1) es)

    of_nest : (claim : CodeClaim) → In claim h.body.own → IsSound (length k.grid) p line claim
    of_nest claim m =
        let b = h.body in
        let r = claimed_region (dimensions_of g h.extents k) in
        let ms = loads_from c b.fetches in
        let first = line + first_lines k + 2 * length b.fetches in
        let w = claim_nest g fs r ms (c + length b.fetches) first 0 k.nests b.nests b.own b.nested claim m in
        let me = made_at a sch l well legal small kept all groups n p there in
        let same_stored : me.stored ≡ g = some_same me.stored g (sym me.is ∙ at) in
        let defined : me.stored.formulas ≡ Some fs = ap (λ (u : StoredText). u.formulas) same_stored ∙ h.defined in
        let laid : skeleton_of me.stored fs h.extents ≡ Some k = ap (λ (u : StoredText). skeleton_of u fs h.extents) same_stored ∙ h.laid in
        let extents = same_extents a sch l well legal small kept all groups n p me.laid h.extents there me.found h.region in
        let skeleton = same_skeleton a sch l well legal small kept all groups n me.stored me.laid fs h.extents k me.is me.found defined extents laid in
        let same_region : claimed_region (dimensions_of me.stored me.laid.region me.laid.skeleton) ≡ r =
        (λ i. claimed_region (dimensions_of (same_stored i) (extents i) (skeleton i))) in
        let over : AllByRecursion (SpanOnly (λ s. s < length k.grid)) r = subst (AllByRecursion (SpanOnly (λ s. s < length k.grid))) same_region
        (subst (λ (x : SkeletonText). AllByRecursion (SpanOnly (λ s. s < length x.grid)) (claimed_region (dimensions_of me.stored me.laid.region me.laid.skeleton))) skeleton
        (claimed_over me.stored me.laid.region me.laid.skeleton me.laid_by)) in
        let long : length r ≡ length g.subject.variables =
        ap length (sym same_region) ∙ claimed_long me.stored me.laid.region me.laid.skeleton me.laid_by ∙ ap (λ (u : StoredText). length u.subject.variables) same_stored in
        let known = known_stored a sch well n g at in
        let many = known.formulas fs h.defined in
        let below = w.definition in
        let own = has_last (past_lets k.head start).buffers 0 in
        let held = (fetches_grow b.fetches begun).buffers 0 own in
        record {
          code = code;
          body = b.with.is;
          stands = stands_begun claim (stands_fetched b.fetches rest begun (line + first_lines k) first claim refl
              (stands_nest g fs r (Publish (last_claim c b.fetches k) ∷ []) ms (c + length b.fetches) first 0 k.nests b.nests b.own b.nested (past_fetches b.fetches begun) held claim m));
          buffer = subst (λ (s : Statement). IsBufferOf (allocated s claim.buffer) (string_bytes claim.function)) (sym b.with.is)
              (subst (λ (i : ℕ). IsBufferOf (allocated (Seq code) i) (string_bytes claim.function)) (sym w.buffer)
              (subst (IsBufferOf (allocated (Seq code) 0)) (sym w.named) (own_allotted k.head g.subject.name places (block (with_fetches b.fetches rest)) lets)));
          function = known.function;
          named = ap (function_named a.functions) w.named ∙ known.named;
          definition = omega (arith, below, many);
          long = ap length w.region ∙ long ∙ known.variables;
          only = subst (AllByRecursion (SpanOnly (λ s. s < length k.grid))) (sym w.region) over;
        }

    own_grid : p.grid.items ≡ k.grid
    own_grid =
        let me = made_at a sch l well legal small kept all groups n p there in
        let same_stored : me.stored ≡ g = some_same me.stored g (sym me.is ∙ at) in
        let defined : me.stored.formulas ≡ Some fs = ap (λ (u : StoredText). u.formulas) same_stored ∙ h.defined in
        let laid : skeleton_of me.stored fs h.extents ≡ Some k = ap (λ (u : StoredText). skeleton_of u fs h.extents) same_stored ∙ h.laid in
        let extents = same_extents a sch l well legal small kept all groups n p me.laid h.extents there me.found h.region in
        let skeleton = same_skeleton a sch l well legal small kept all groups n me.stored me.laid fs h.extents k me.is me.found defined extents laid in
        me.grid ∙ ap (λ (x : SkeletonText). x.grid) skeleton

    pub of_group : (claim : CodeClaim) → In claim claims → IsSound (length p.grid.items) p line claim
    of_group claim m = subst (λ (ms : List ℕ). IsSound (length ms) p line claim) (sym own_grid)
        (elim (in_either claim h.body.fetched h.body.own (subst (In claim) h.body.claimed m)) [ inl x ↦ of_fetch claim x | inr x ↦ of_nest claim x ])

  pub claim_known : (claim : CodeClaim) → In claim l.certificate.claims.items → claim_is_known a.functions (plan_of l.plan).groups (claim_of claim) ≡ true
  claim_known claim m =
      let o = claim_of_group a entries 0 0 4 stored made l.certificate.claims.items l.certificate.needs.items (groups.bodies all) claim m in
      let counted : 0 + o.place ≡ o.place = omega arith in
      let p = o.group in
      let w = of_group (0 + o.place) o.first_claim o.own_line o.stored p o.own_claims o.own_needs (ap (slice_get stored) counted ∙ o.at) (ap (slice_get made) counted ∙ o.there) o.body claim o.among in
      let s = w.stands in
      let low = s.low in
      let less = s.less in
      let least = o.low in
      let many : lines (statement_of p.body) ≡ block_lines w.code = ap lines w.body in
      let late : nat_lt claim.line 4 ≡ false = grind (arith, nat_tests, low, least) in
      let count : claim.line - o.own_line ≡ suc (claim.line - (o.own_line + 1)) = omega (arith, low) in
      let spot : group_spot_at (group_of p) (claim.line - o.own_line) ≡ Some s.spot =
      ap (group_spot_at (group_of p)) count ∙ ap (λ (b : Statement). spot_at b (group_spot (group_of p)) (claim.line - (o.own_line + 1))) w.body ∙ s.at in
      let place : place_at (map group_of made) claim.line ≡ Some (record { group = group_of p; spot = s.spot }) =
      ap (λ (b : Bool). if b then None else place_in (map group_of made) (claim.line - 4)) late ∙ o.stands claim.line (omega (arith, low)) (omega (arith, low, less, many))
      ∙ ap (place_with (group_of p)) spot in
      let named : is_of_function (function_named a.functions (string_bytes claim.function)) (claim_of claim) ≡ true =
      ap (λ (f : Option Function). is_of_function f (claim_of claim)) w.named ∙ function_takes claim w.function w.definition w.long in
      let buffer : is_of_buffer (allocated (statement_of p.body) claim.buffer) (claim_of claim) ≡ true =
      ap (λ (b : Option Buffer). is_of_buffer b (claim_of claim)) w.buffer.is
      ∙ ap (λ (x : List ℕ). same_name x (string_bytes claim.function)) w.buffer.named ∙ name_refl (string_bytes claim.function) in
      let has : (i : ℕ) → i < length p.grid.items → Has s.spot.symbols i =
      λ i below. s.grows.symbols i (let first : 0 ≤ i = omega arith in among 0 (length p.grid.items) i first (omega (arith, below))) in
      let over : spans_are_over s.spot.symbols claim.region ≡ true = spans_within (length p.grid.items) s.spot.symbols has claim.region w.only in
      ap (λ (b : Bool). b && is_at (place_at (map group_of made) claim.line) (claim_of claim)) named
      ∙ ap (λ (x : Option Place). is_at x (claim_of claim)) place
      ∙ ap (λ (b : Bool). b && (is_of_buffer (allocated (statement_of p.body) claim.buffer) (claim_of claim) && spans_are_over s.spot.symbols claim.region)) s.buffer
      ∙ ap (λ (b : Bool). b && spans_are_over s.spot.symbols claim.region) buffer ∙ over
    where
      function_takes : (claim : CodeClaim) (f : Function) → claim.definition ≤ length f.changes → length claim.region ≡ length f.variables → is_of_function (Some f) (claim_of claim) ≡ true
      function_takes claim f most long =
          let test : nat_le claim.definition (length f.changes) ≡ true = grind (arith, nat_tests) in
          ap (λ (b : Bool). b && (length claim.region == length f.variables)) test ∙ ap (λ (n : ℕ). n == length f.variables) long ∙ eq_refl (length f.variables)
