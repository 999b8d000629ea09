-- What the lines `store` of whole functions name is known and in scope.
use Rattle.std.proofs.Common.{◌≡◌, ℕ, suc, ◌+◌, ◌<◌, Bool, true, false, ◌&&◌, not, List, [], ◌∷◌, ◌++◌, length, map, Option, Some, None, IsSome, refl, sym, ap, ◌∙◌, subst, inl, inr, ◌⊎◌, arith}
use Rattle.std.specs.Prelude.{◌==◌, if◌then◌else◌, string_bytes, slice_get, Contains, IsSomeAnd, MatchOption}
use Rattle.std.specs.List.{AllByRecursion, Any}
use Rattle.std.specs.Option.{option_map}
use Rattle.std.specs.Fmt.{decimal}
use Rattle.std.proofs.lemmas.List.{length-map, length-append}
use Rattle.std.proofs.lemmas.Option.{slice_get_within, get_or_from_slice_get}
use Rattle.numeric.specs.declared.ty.Ty.{Ty}
use Rattle.tree.specs.Term.{Term}
use Rattle.tree.specs.Substitution.{with_calls}
use Rattle.lin.specs.Forms.{Form}
use Rattle.bounds.proofs.ListSound.{all-append}
use Rattle.plan.specs.declared.plan.Group.{Group as CodeGroup}
use Rattle.plan.specs.declared.stmt.Places.{Places}
use Rattle.plan.specs.declared.certificate.cert.Claim.{Claim as CodeClaim}
use Rattle.plan.specs.declared.certificate.cert.Need.{Need}
use Rattle.plan.specs.Plan.{Index, At, Found, Coordinate, Statement, Seq, For, Let, First, Guard, Alloc, Fetch, Store, Publish, Statements, Then, Plan, block}
use Rattle.plan.specs.View.{group_of, plan_of, statement_of}
use Rattle.plan.specs.Certificate.Certificate.{Claim, Certificate, certificate_of, claim_of}
use Rattle.plan.specs.Semantics.Run.{Source, Input, claim_source, source_of}
use Rattle.plan.specs.Claimed.{claim_of as claim_named}
use Rattle.plan.specs.Semantics.Setting.{Buffer, allocated, function_in, dimensions_in}
use Rattle.meaning.specs.Algorithm.{Function, Algorithm}
use Rattle.meaning.specs.Names.{same_name, is_among}
use Rattle.meaning.specs.Conditions.{IsAlgorithm, function_named, callable}
use Rattle.meaning.specs.Inlining.Laws.{StaysCalled}
use Rattle.meaning.proofs.Calls.{NoneNamed, none_is_input, callable_hit, callable_miss, callable_input, callable_found}
use Rattle.meaning.proofs.Cases.{name_differs}
use Rattle.soundness.specs.Origins.{Outline}
use Rattle.soundness.specs.Given.{claim_or_none, outline_of}
use Rattle.soundness.specs.Outline.Forms.{grid_symbols}
use Rattle.soundness.proofs.Refines.{name_refl, eq_true}
use Rattle.algo.proofs.Doubles.{among_stands}
use Rattle.algo.specs.Scoping.Standing.{calls_of}
use Rattle.headline.proofs.Lists.{at_map, from_map}
use Rattle.headline.proofs.Regions.{at_in}
use Rattle.sched.specs.Schedule.{Schedule}
use Rattle.sched.specs.Legal.{IsLegal, said, loops_after}
use Rattle.sched.specs.Subjects.{subject_said, reductions_of}
use Rattle.sched.specs.Runs.{lines_to}
use Rattle.sched.specs.declared.skeleton.Known.{Known}
use Rattle.sched.specs.declared.nest.Turning.{Turning}
use Rattle.sched.specs.Skeleton.{NestText, SkeletonText, variables_at, ranges_at}
use Rattle.validation.specs.declared.stored.lines.GroupLines.{GroupLines}
use Rattle.validation.specs.Stored.Definitions.{Parts, parts_of, parts_named, Definition, definition_in}
use Rattle.validation.specs.Groups.Wrong.{IsOutside, LacksVariables, IndexNamesOther, Mentions, IndexMentions, IsUnnamed, IsUnknownSource, IsUnknownCall, StoresUnknown}
use Rattle.validation.proofs.Wide.{contains_is}
use Rattle.lower.specs.declared.lowering.Lowered.{Lowered}
use Rattle.sched.specs.Stored.{FormulaText, StoredText, calls_in, are_calls_of}
use Rattle.regions.specs.Stored.{some_calls}
use Rattle.blocks.specs.Stored.{stored_by, flags}
use Rattle.lower.specs.Stored.{stored_functions, has_large}
use Rattle.regions.specs.Regions.{bodies_from}
use Rattle.regions.specs.Faults.{are_whole}
use Rattle.lower.specs.Faults.{region_fault}
use Rattle.sched.specs.Around.{range_names, ranges_of, grid_scope, names_with}
use Rattle.regions.specs.Taken.{sites_of}
use Rattle.sched.specs.Loading.{Loads, last_of, name_by, loaded_name, as_load}
use Rattle.blocks.specs.Blocks.{lay_over, dimensions_of, own_places}
use Rattle.sched.specs.Bodies.{first_left, other_lefts}
use Rattle.blocks.specs.Bodies.{IsIndex, AreCoordinates, IsStored, first_lines}
use Rattle.lower.specs.Bodies.{last_claim}
use Rattle.sched.specs.Fetches.{Entry}
use Rattle.lower.specs.Fetches.{is_fetched, fetched_groups, loads_from}
use Rattle.blocks.specs.Fetches.{with_fetches}
use Rattle.lower.specs.Groups.{HasBody, HasGroups}
use Rattle.completeness.specs.Laws.{IsStore, NamesNoLoad, AreLinesTold, StoreLinesAreKnown}
use Rattle.completeness.proofs.Standing.{OnlyIf, OverGrid, names_own, nest_shape}
use Rattle.completeness.proofs.Standing.{Here as Bound}
use Rattle.completeness.proofs.Laid.{subjects, found, stored_is}
use Rattle.completeness.proofs.Bodies.{entry_there}
use Rattle.completeness.proofs.Served.{ls as regions_found, ready, made_at}
use Rattle.completeness.proofs.Spots.{Has, has_last, lets_allot}
use Rattle.completeness.proofs.ClaimLines.{claim_nest, named_here}
use Rattle.completeness.proofs.ReadBack.{HasIf, last_has, source_is}
use Rattle.completeness.proofs.Counts.{few_claims, fetches_claim}
use Rattle.completeness.proofs.Earlier.{before}
use Rattle.completeness.proofs.Unlike.{get_first, get_second, placed_body}
use Rattle.completeness.proofs.Scoped.{any_none, form_none, grid_begins, own_grid}
use Rattle.completeness.proofs.Origins.{places_long}
use Rattle.completeness.proofs.Leaves.{IsLeaf, FitAll, StoreFits, Fits, steps_fit, fetches_fit, nests_fit, spot, Wrong, none_at}
use Rattle.completeness.proofs.Held.{items, entries, group, IsHeld, held}
use Rattle.completeness.proofs.Loaded.{Names, names_first, names_last, not_named, fetched_there, fetched_named, fetched_so, some_of, value_calls, left_calls}
use Rattle.completeness.proofs.Mentioned.{none as none_mentioned, each_written, each_called}
use Rattle.completeness.proofs.Written.{BackIf, IsOver, LeftIsOver, IsWritten, written, variables_long, ranges_long}

-- ---- what can be called, and how many indices it takes

pub named_callable : (a : Algorithm) (fs : List Function) (x : List ℕ) (f : Function) → function_named fs x ≡ Some f → callable a fs x ≡ Some (f.ty, length f.variables)
named_callable a [] x f e = absurd (cc e)
named_callable a (g ∷ fs) x f e = of (same_name g.name x) refl e (named_callable a fs x f)
  where
    of : (b : Bool) → same_name g.name x ≡ b → elim b [ true ↦ Some g | false ↦ function_named fs x ] ≡ Some f → (function_named fs x ≡ Some f → callable a fs x ≡ Some (f.ty, length f.variables)) →
        callable a (g ∷ fs) x ≡ Some (f.ty, length f.variables)
    of true t q rest = callable_hit a g fs x t ∙ (let same : g ≡ f = cc q in ap (λ (u : Function). Some (u.ty, length u.variables)) same)
    of false t q rest = callable_miss a g fs x t ∙ rest q

pub input_callable : (a : Algorithm) (fs : List Function) → NoneNamed a.input fs → callable a fs a.input ≡ Some (a.input_ty, length a.input_extents)
input_callable a [] none = callable_input a a.input (name_refl a.input)
input_callable a (g ∷ fs) none = callable_miss a g fs a.input (name_differs g.name a.input (none 0 g refl)) ∙ input_callable a fs (λ k u e. none (suc k) u e)

-- ---- coordinates

module _ (ms : Loads) where
  pub variables_are : (xs : List (List ℕ)) (os : List (Option Form)) (lefts : List (Option Term)) (cs : List Coordinate) → AreCoordinates ms xs os lefts cs → length os ≡ length xs →
      map (λ c. c.variable) cs ≡ xs
  variables_are [] [] lefts [] h long = refl
  variables_are (x ∷ xs) [] lefts [] h long = absurd (omega (arith, long))
  variables_are xs [] lefts (c ∷ cs) h long = absurd h
  variables_are [] (o ∷ os) lefts cs h long = absurd h
  variables_are (x ∷ xs) (o ∷ os) lefts [] h long = absurd h
  variables_are (x ∷ xs) (o ∷ os) lefts (c ∷ cs) h long =
      let rest = variables_are xs os (other_lefts lefts) cs h.2 (omega (arith, long)) in
      (λ i. h.0 i ∷ rest i)

  -- their forms name symbols in scope
  module _ (P : ℕ → Type 0) (ss : List ℕ) (has : (s : ℕ) → P s → Has ss s) where
    index_over : (o : Option Form) (left : Option Term) (i : Index) → OnlyIf P o → IsIndex ms o left i → IndexNamesOther ss i → ⊥
    index_over (Some f) left (At g) h e k = form_none P ss has f h (subst (Any (λ t. ¬ Contains ss t.symbol)) (ap (λ (u : Form). u.terms) e) k)
    index_over (Some f) left (Found e) h q k = k
    index_over None left (At g) h e k = absurd e
    index_over None left (Found e) h q k = k

    indices_over : (xs : List (List ℕ)) (os : List (Option Form)) (lefts : List (Option Term)) (cs : List Coordinate) → AreCoordinates ms xs os lefts cs → AllByRecursion (OnlyIf P) os →
        AllByRecursion (λ c. IndexNamesOther ss c.index → ⊥) cs
    indices_over xs [] lefts [] h over = tt
    indices_over xs [] lefts (c ∷ cs) h over = absurd h
    indices_over [] (o ∷ os) lefts cs h over = absurd h
    indices_over (x ∷ xs) (o ∷ os) lefts [] h over = absurd h
    indices_over (x ∷ xs) (o ∷ os) lefts (c ∷ cs) h over = (index_over o (first_left lefts) c.index over.0 h.1, indices_over xs os (other_lefts lefts) cs h.2 over.1)

  -- their expressions mention nothing of these kinds, where left indices do not
  module _ (IsName : List ℕ → Type 0) (IsCall : List ℕ → ℕ → Type 0) where
    abbrev LeftIsClear : Option Term → Type 0
    LeftIsClear None = Unit {0}
    LeftIsClear (Some e) = Mentions IsName IsCall (with_calls (as_load ms) e) → ⊥

    index_clear : (o : Option Form) (left : Option Term) (i : Index) → LeftIsClear left → IsIndex ms o left i → IndexMentions IsName IsCall i → ⊥
    index_clear o left (At g) h e k = k
    index_clear (Some f) left (Found e) h q k = absurd q
    index_clear None None (Found e) h q k = absurd q
    index_clear None (Some d) (Found e) h q k = h (subst (Mentions IsName IsCall) q k)

    first_clear : (lefts : List (Option Term)) → AllByRecursion LeftIsClear lefts → LeftIsClear (first_left lefts)
    first_clear [] h = tt
    first_clear (o ∷ lefts) h = h.0

    others_clear : (lefts : List (Option Term)) → AllByRecursion LeftIsClear lefts → AllByRecursion LeftIsClear (other_lefts lefts)
    others_clear [] h = tt
    others_clear (o ∷ lefts) h = h.1

    indices_clear : (xs : List (List ℕ)) (os : List (Option Form)) (lefts : List (Option Term)) (cs : List Coordinate) → AreCoordinates ms xs os lefts cs → AllByRecursion LeftIsClear lefts →
        AllByRecursion (λ c. IndexMentions IsName IsCall c.index → ⊥) cs
    indices_clear xs [] lefts [] h clear = tt
    indices_clear xs [] lefts (c ∷ cs) h clear = absurd h
    indices_clear [] (o ∷ os) lefts cs h clear = absurd h
    indices_clear (x ∷ xs) (o ∷ os) lefts [] h clear = absurd h
    indices_clear (x ∷ xs) (o ∷ os) lefts (c ∷ cs) h clear =
        (index_clear o (first_left lefts) c.index (first_clear lefts clear) h.1, indices_clear xs os (other_lefts lefts) cs h.2 (others_clear lefts clear))

-- each of these names has a coordinate
all_named : (at : List Coordinate) (names : List (List ℕ)) → map (λ c. c.variable) at ≡ names → (x : List ℕ) → is_among names x ≡ true → IsUnnamed at x → ⊥
all_named at names are x h unnamed =
    let m = among_stands names x h in
    let c = from_map (λ (c : Coordinate). c.variable) at m.0 x (ap (λ (xs : List (List ℕ)). slice_get xs m.0) are ∙ m.1) in
    unnamed (m.0, c.0, slice_get_within at m.0 c.0 c.1, get_or_from_slice_get at m.0 c.0 c.0 c.1, sym c.2)

none_in : {A : Type 0} (R : A → Type 0) (xs : List A) → AllByRecursion (λ x. R x → ⊥) xs → Any R xs → ⊥
none_in R xs h k = any_none (λ x. R x → ⊥) R (λ x p r. p r) xs h k

pub some_and : {A : Type 0} (P : A → Type 0) (o : Option A) → IsSomeAnd o P → (x : A) × (o ≡ Some x) × P x
some_and P None h = absurd h
some_and P (Some x) h = (x, refl, h)

only : (s : Statement) → IsStore s → IsLeaf s
only (Store b k at e) h = tt
only (Seq all) h = absurd h
only (For i x kind body) h = absurd h
only (Let i pick forms) h = absurd h
only (First i x y) h = absurd h
only (Guard low high body) h = absurd h
only (Alloc b f places) h = absurd h
only (Fetch b g region) h = absurd h
only (Publish k) h = absurd h

module _ (a : Algorithm) (sch : Schedule) (l : Lowered) (well : IsAlgorithm a) (legal : IsLegal a sch) (small : has_large (stored_functions a sch) ≡ false)
    (kept : region_fault a (stored_functions a sch) ≡ None) (all : are_whole (stored_functions a sch) ≡ true) (groups : HasGroups a (stored_functions a sch) l) (told : AreLinesTold (plan_of l.plan))
    (free : NamesNoLoad a) where
  abbrev pub ours : List CodeClaim
  ours = items a sch l well legal small kept all groups told

  abbrev pub roots : List Entry
  roots = entries a sch l well legal small kept all groups told

  abbrev pub lines_of : ℕ → CodeGroup → GroupLines
  lines_of n q = group a sch l well legal small kept all groups told n q

  abbrev pub Holding : GroupLines → List ℕ → ℕ → Type 0
  Holding = IsHeld a sch l well legal small kept all groups told

  abbrev p : Plan
  p = plan_of l.plan

  abbrev c : Certificate
  c = certificate_of l.certificate

  abbrev pub st : List Bool
  st = flags (subjects a sch)

  abbrev pub text : Function → StoredText
  text f = stored_by a st f.variables f.value f.changes (subject_said a sch f) (loops_after (said sch) f)

  -- a function of which a call stays is a stored one
  stays_stored : (j : ℕ) (g : Function) → slice_get a.functions j ≡ Some g → StaysCalled a st g.name → (subject_said a sch g).is_stored ≡ true
  stays_stored j g at stays = of (subject_said a sch g).is_stored refl
    where
      flag : slice_get st j ≡ Some (subject_said a sch g).is_stored
      flag = at_map (λ u. u.is_stored) (subjects a sch) j (subject_said a sch g) (at_map (subject_said a sch) a.functions j g at)

      of : (b : Bool) → (subject_said a sch g).is_stored ≡ b → (subject_said a sch g).is_stored ≡ true
      of true e = e
      of false e = absurd (stays j g at (flag ∙ ap (λ (b : Bool). Some b) e) refl)

  -- the group n, of this function
  module _ (n : ℕ) (q : CodeGroup) (place : ℕ) (f : Function) (at : slice_get a.functions place ≡ Some f) (there : slice_get (stored_functions a sch) n ≡ Some (text f)) (first line : ℕ)
      (claims : List CodeClaim) (needs : List Need) (theirs : slice_get l.plan.groups.items n ≡ Some q) (h : HasBody a roots n first line (text f) q claims needs)
      (hold : (j : ℕ) (w : CodeClaim) → slice_get claims j ≡ Some w → Holding (lines_of n q) (string_bytes w.function) (first + j)) where
    abbrev k : SkeletonText
    k = h.skeleton

    abbrev fs : List FormulaText
    fs = h.formulas

    abbrev lines : GroupLines
    lines = lines_of n q

    abbrev outline : Outline
    outline = outline_of p c n (group_of q)

    abbrev F : Statement → List ℕ → List ℕ → Type 0
    F = Wrong a p c IsStore only n (group_of q) lines

    abbrev Holds : List ℕ → ℕ → Type 0
    Holds = Holding lines

    -- at the store of the definition of this number
    pub record Ready (d : ℕ) (ms : Loads) : Type 0 where
      pub holds : AllByRecursion (λ m. Holds m.0 m.1) ms
      pub others : (h : ℕ) (e : Entry) → slice_get roots h ≡ Some e → is_fetched fs n h e ≡ true → Names ms e.0.subject.name
      pub own : (d ≡ 0) ⊎ Names ms f.name

    -- what a load by a claim of the group tells is known
    claim_known : (x : List ℕ) (s : Ty × ℕ) (m k : ℕ) → callable a a.functions x ≡ Some s → s.1 ≡ m → Holds x k →
        IsUnknownSource a p c (group_of q) outline lines (source_of p.input.name (length c.claims) (64 ∷ decimal k)) m → ⊥
    claim_known x s m k can count w wrong =
        let source = source_is a free p c n (group_of q) groups.head.input.named ours refl (let few = few_claims a sch l well legal small kept all groups in omega (arith, few)) [] tt k
        (slice_get_within ours k w.claim w.at) in
        let claim : slice_get c.claims k ≡ Some (claim_of w.claim) = at_map claim_of ours k w.claim w.at in
        let by = subst (λ (y : Source). IsUnknownSource a p c (group_of q) outline lines y m) source wrong in
        let parts : parts_named a (string_bytes w.claim.function) ≡ Some (parts_of w.function) =
        ap (parts_named a) w.named ∙ ap (λ (o : Option Function). option_map parts_of o) w.known in
        let takes : Some (w.function.ty, length w.function.variables) ≡ Some s = sym (named_callable a a.functions x w.function w.known) ∙ can in
        of w.claim w.function w.inside parts (second w.function.ty (length w.function.variables) s takes ∙ count)
        (subst (λ (o : Option Claim). IsOutside lines (claim_or_none o).line ⊎ LacksVariables a (claim_or_none o).function m) claim by)
      where
        second : (t : Ty) (n : ℕ) (s : Ty × ℕ) → Some (t, n) ≡ Some s → n ≡ s.1
        second t n s e = (let same : (t, n) ≡ s = cc e in ap (λ (y : Ty × ℕ). y.1) same)

        of : (w : CodeClaim) (u : Function) → (IsOutside lines w.line → ⊥) → parts_named a (string_bytes w.function) ≡ Some (parts_of u) → length u.variables ≡ m →
            IsOutside lines w.line ⊎ LacksVariables a (string_bytes w.function) m → ⊥
        of w u inside parts long (inl out) = inside out
        of w u inside parts long (inr lacks) = (subst (λ (o : Option Parts). MatchOption o (Unit {0}) (λ u. ¬ (length u.variables ≡ m))) parts lacks) long

    -- so is the input
    input_known : (x : List ℕ) (s : Ty × ℕ) (m : ℕ) → callable a a.functions x ≡ Some s → s.1 ≡ m → x ≡ a.input →
        IsUnknownSource a p c (group_of q) outline lines (source_of p.input.name (length c.claims) x) m → ⊥
    input_known x s m can count input wrong =
        let named : same_name x p.input.name ≡ true = ap (λ (y : List ℕ). same_name y p.input.name) (input ∙ sym groups.head.input.named) ∙ name_refl p.input.name in
        let by : ¬ (length p.input.extents ≡ m) = subst (λ (y : Source). IsUnknownSource a p c (group_of q) outline lines y m)
        (ap (λ (b : Bool). if b then Input else claim_source (length c.claims) (claim_named x)) named) wrong in
        let takes : Some (a.input_ty, length a.input_extents) ≡ Some s = sym (input_callable a a.functions (none_is_input a well.names)) ∙ ap (callable a a.functions) (sym input) ∙ can in
        by (ap length groups.head.input.extents ∙ second a.input_ty (length a.input_extents) s takes ∙ count)
      where
        second : (t : Ty) (n : ℕ) (s : Ty × ℕ) → Some (t, n) ≡ Some s → n ≡ s.1
        second t n s e = (let same : (t, n) ≡ s = cc e in ap (λ (y : Ty × ℕ). y.1) same)

    -- a function that a definition calls is loaded
    pub loaded : (d : ℕ) (ms : Loads) → Ready d ms → (j : ℕ) (g : Function) → slice_get a.functions j ≡ Some g → StaysCalled a st g.name → some_calls g.name fs ≡ true →
        BackIf a well st place f at d g.name → Names ms g.name
    loaded d ms r j g there_g stays called back =
        let stored = stored_is a sch j g there_g (stays_stored j g there_g stays) in
        let e = entry_there (stored_functions a sch) (regions_found a sch l well legal small kept all groups) all (ready a sch l well legal small kept all groups) stored.0 (text g) stored.1 in
        let named : e.0.0.subject.name ≡ g.name = ap (λ (u : StoredText). u.subject.name) e.2 in
        of stored.0 (stored.0 == n) refl (λ differs. subst (Names ms) named (r.others stored.0 e.0 e.1 (fetched (stored.0 == n) differs (some_calls e.0.0.subject.name fs)
        (ap (λ (x : List ℕ). some_calls x fs) named ∙ called)))) (λ same. own stored.0 stored.1 same r.own)
      where
        fetched : (b : Bool) → b ≡ false → (d : Bool) → d ≡ true → (not b && d) ≡ true
        fetched true e d k = absurd (cc e)
        fetched false e d k = k

        own : (h : ℕ) → slice_get (stored_functions a sch) h ≡ Some (text g) → h ≡ n → (d ≡ 0) ⊎ Names ms f.name → Names ms g.name
        own h at_h same_place k =
            let same : Some (text g) ≡ Some (text f) = sym at_h ∙ ap (slice_get (stored_functions a sch)) same_place ∙ there in
            let name : g.name ≡ f.name = some_name (text g) (text f) same in
            elim k [
              | inl none ↦ (let less = before a well place place f g.name at (sym name) (back none) in absurd (omega (arith, less)))
              | inr names ↦ subst (Names ms) (sym name) names
            ]
          where
            some_name : (u v : StoredText) → Some u ≡ Some v → u.subject.name ≡ v.subject.name
            some_name u v e = (let same : u ≡ v = cc e in ap (λ (w : StoredText). w.subject.name) same)

        of : (h : ℕ) (b : Bool) → (h == n) ≡ b → ((h == n) ≡ false → Names ms g.name) → (h ≡ n → Names ms g.name) → Names ms g.name
        of h true e one two = two (eq_true h n e)
        of h false e one two = one e

    -- each call is of what is known
    call_known : (d : ℕ) (ms : Loads) → Ready d ms → (x : List ℕ) (s : Ty × ℕ) (m : ℕ) → callable a a.functions x ≡ Some s → s.1 ≡ m → StaysCalled a st x → some_calls x fs ≡ true →
        BackIf a well st place f at d x → IsUnknownCall a p c (group_of q) outline lines (loaded_name ms x) m → ⊥
    call_known d ms r x s m can count stays called back wrong = of (last_of None ms x) refl (last_has Holds x ms None r.holds tt) wrong
      where
        of : (o : Option ℕ) → last_of None ms x ≡ o → HasIf Holds x o → IsUnknownCall a p c (group_of q) outline lines (name_by o x) m → ⊥
        of (Some k) e w bad = claim_known x s m k can count w bad
        of None e w bad = elim (callable_found a a.functions x (subst IsSome (sym can) refl)) [
          | inl input ↦ input_known x s m can count input bad
          | inr g ↦ not_named ms x e (subst (Names ms) g.3 (loaded d ms r g.0 g.1 g.2 (subst (StaysCalled a st) (sym g.3) stays) (ap (λ (y : List ℕ). some_calls y fs) g.3 ∙ called)
              (subst (BackIf a well st place f at d) (sym g.3) back)))
        ]

    -- ---- a store

    pub long_at : (d : ℕ) (w : NestText) → slice_get k.nests d ≡ Some w → length w.at ≡ length (names_with f.variables f.changes d)
    long_at d w stands =
        let shape = nest_shape f.variables (bodies_from f.changes 0 (reductions_of f.changes) fs) (loops_after (said sch) f) h.extents k h.laid d w stands in
        let b = shape.body in
        let ks = shape.standing.known in
        let ranges = ranges_long f.changes fs d b shape.at in
        let whole = ap (λ (z : NestText). length z.at) shape.is in
        let parts = length-append (variables_at b 0 f.variables ks) (ranges_at b.ranges ks) in
        let first_part = variables_long b 0 f.variables ks in
        let second_part = turned b.ranges ks in
        let names = length-append f.variables (range_names (ranges_of f.changes d)) in
        let others = length-map (ranges_of f.changes d) (λ r. r.variable) in
        omega (arith, ranges, whole, parts, first_part, second_part, names, others)
      where
        turned : (ds : List Turning) (ks : List Known) → length (ranges_at ds ks) ≡ length ds
        turned [] ks = refl
        turned (d ∷ ds) ks = ap suc (turned ds ks)

    -- the expressions of a definition, with each call as a load
    module _ (d : ℕ) (ms : Loads) (r : Ready d ms) (u : FormulaText) (defined : slice_get fs d ≡ Some u) (w : IsWritten a well st place f at d u) (cs : List Coordinate)
        (are : map (λ c. c.variable) cs ≡ w.names) where
      abbrev Unknown : List ℕ → ℕ → Type 0
      Unknown = IsUnknownCall a p c (group_of q) outline lines

      clear : (e : Term) → IsOver a well st place f at w.names d e → ((x : List ℕ) → are_calls_of x (calls_of e) ≡ true → are_calls_of x (calls_in u) ≡ true) →
          Mentions (IsUnnamed cs) Unknown (with_calls (as_load ms) e) → ⊥
      clear e over inside =
          let P : List ℕ → Type 0 = λ x. some_calls x fs ≡ true in
          none_mentioned (is_among w.names) (callable a a.functions) ms (IsUnnamed cs) Unknown (StaysCalled a st) P (BackIf a well st place f at d) (all_named cs w.names are)
          (call_known d ms r) e over.ty over.typed over.stays (each_written P e (each_called P (calls_of e) (λ x y. some_of x fs d u defined (inside x y)))) over.back

      lefts_clear : (os : List (Option Term)) →
          ((j : ℕ) (e : Term) → slice_get os j ≡ Some (Some e) → (x : List ℕ) → are_calls_of x (calls_of e) ≡ true → are_calls_of x (calls_in u) ≡ true) →
          AllByRecursion (LeftIsOver a well st place f at w.names d) os → AllByRecursion (LeftIsClear ms (IsUnnamed cs) Unknown) os
      lefts_clear [] m o = tt
      lefts_clear (None ∷ os) m o = (tt, lefts_clear os (λ j e y. m (suc j) e y) o.1)
      lefts_clear (Some e ∷ os) m o = (clear e o.0 (m 0 e refl), lefts_clear os (λ j e y. m (suc j) e y) o.1)

    own_places_long : length (own_places (dimensions_of (text f) h.extents k)) ≡ length f.variables
    own_places_long = places_long (lay_over (text f) h.extents k) (loops_after (said sch) f).cuts f.variables

    -- the piece's own buffer
    pub own_is : (buffer : Buffer) × (allocated (statement_of q.body) 0 ≡ Some buffer) × (buffer.function ≡ f.name) × (length buffer.places ≡ length f.variables)
    own_is =
        let places : List Places = own_places (dimensions_of (text f) h.extents k) in
        let rest : Statements = block (with_fetches h.body.fetches (h.body.nests ++ Publish (last_claim first h.body.fetches k) ∷ [])) in
        let lets = (names_own f.variables (bodies_from f.changes 0 (reductions_of f.changes) fs) (loops_after (said sch) f) h.extents k h.laid).lets in (
          record { function = f.name; places = places },
          ap (λ (s : Statement). allocated s 0) h.body.with.is ∙ lets_allot k.head (Then (Alloc 0 f.name places) rest) 0 lets,
          refl,
          own_places_long,
        )

    -- what is stored names what is known
    module _ (ms : Loads) (d : ℕ) (w : NestText) (r : Ready d ms) (stands : slice_get k.nests d ≡ Some w) (cs : List Coordinate) (e : Term) (u : FormulaText) (defined : slice_get fs d ≡ Some u)
        (is : IsStored ms (names_with f.variables f.changes d) w cs e u) (us vs : List ℕ) (has : (s : ℕ) → Bound (OverGrid k) w.steps s → Has us s) where
      y : IsWritten a well st place f at d u
      y = written a well st place f at fs h.defined d u defined

      are : map (λ c. c.variable) cs ≡ y.names
      are = variables_are ms (names_with f.variables f.changes d) w.at u.at cs is.at (long_at d w stands) ∙ y.are

      forms_over : AllByRecursion (λ x. IndexNamesOther us x.index → ⊥) cs
      forms_over =
          let names = names_own f.variables (bodies_from f.changes 0 (reductions_of f.changes) fs) (loops_after (said sch) f) h.extents k h.laid in
          indices_over ms (Bound (OverGrid k) w.steps) us has (names_with f.variables f.changes d) w.at u.at cs is.at (names.nests d w stands)

      indices_known : AllByRecursion (λ x. IndexMentions (IsUnnamed cs) (IsUnknownCall a p c (group_of q) outline lines) x.index → ⊥) cs
      indices_known =
          indices_clear ms (IsUnnamed cs) (IsUnknownCall a p c (group_of q) outline lines) (names_with f.variables f.changes d) w.at u.at cs is.at
          (lefts_clear d ms r u defined y cs are u.at (λ j e at_j x. left_calls x u j e at_j) y.lefts)

      value_known : Mentions (IsUnnamed cs) (IsUnknownCall a p c (group_of q) outline lines) e → ⊥
      value_known m = clear d ms r u defined y cs are u.value y.value (λ x. value_calls x u) (subst (Mentions (IsUnnamed cs) (IsUnknownCall a p c (group_of q) outline lines)) is.value m)

      right : StoresUnknown a p c (group_of q) outline (spot lines us vs) 0 cs e y.definition → ⊥
      right (inl names) = names (y.fits cs are)
      right (inr (inl differs)) = differs (ap dimensions_in own_is.1 ∙ own_is.3 ∙ sym (ap length y.variables))
      right (inr (inr (inl other))) = none_in (λ x. IndexNamesOther us x.index) cs forms_over other
      right (inr (inr (inr (inl m)))) = none_in (λ x. IndexMentions (IsUnnamed cs) (IsUnknownCall a p c (group_of q) outline lines) x.index) cs indices_known m
      right (inr (inr (inr (inr m)))) = value_known m

      store_right : MatchOption (definition_in (parts_named a (function_in (allocated (statement_of q.body) 0))) d) (Unit {0}) (StoresUnknown a p c (group_of q) outline (spot lines us vs) 0 cs e) → ⊥
      store_right wrong =
          let named : function_in (allocated (statement_of q.body) 0) ≡ f.name = ap function_in own_is.1 ∙ own_is.2 in
          let parts : parts_named a f.name ≡ Some (parts_of f) = ap (λ (o : Option Function). option_map parts_of o) (named_here a well place f at) in
          let definition : definition_in (parts_named a (function_in (allocated (statement_of q.body) 0))) d ≡ Some y.definition =
          ap (λ (x : List ℕ). definition_in (parts_named a x) d) named ∙ ap (λ (o : Option Parts). definition_in o d) parts ∙ y.is in
          right (subst (λ (o : Option Definition). MatchOption o (Unit {0}) (StoresUnknown a p c (group_of q) outline (spot lines us vs) 0 cs e)) definition wrong)

    -- the definition of this number is unknown, or what its store names
    abbrev Stores : List ℕ → List ℕ → List Coordinate → Term → ℕ → ℕ → Type 0
    Stores us vs cs e b m =
        MatchOption (definition_in (parts_named a (function_in (allocated (statement_of q.body) b))) m) (Unit {0}) (StoresUnknown a p c (group_of q) outline (spot lines us vs) b cs e)

    store_fits : (ms : Loads) (d : ℕ) (w : NestText) → Ready d ms → slice_get k.nests d ≡ Some w → StoreFits F (text f) fs (OverGrid k) ms d w
    store_fits ms d w r stands (Store b m cs e) is us vs has own = (λ wrong. of wrong.1, tt)
      where
        of : ¬ Contains vs b ⊎ Stores us vs cs e b m → ⊥
        of (inl lacks) = lacks (contains_is vs b (subst (Has vs) (sym is.0) own))
        of (inr bad) =
            let x = some_and _ (slice_get fs d) is.2 in
            let own_bad = subst (λ (j : ℕ). Stores us vs cs e j d) is.0 (subst (λ (j : ℕ). Stores us vs cs e b j) is.1 bad) in
            store_right ms d w r stands cs e x.0 x.1 x.2 us vs has own_bad
    store_fits ms d w r stands (Seq xs) is us vs has own = absurd is
    store_fits ms d w r stands (For j x kind body) is us vs has own = absurd is
    store_fits ms d w r stands (Let j pick forms) is us vs has own = absurd is
    store_fits ms d w r stands (First j x y) is us vs has own = absurd is
    store_fits ms d w r stands (Guard low high body) is us vs has own = absurd is
    store_fits ms d w r stands (Alloc b x places) is us vs has own = absurd is
    store_fits ms d w r stands (Fetch b x region) is us vs has own = absurd is
    store_fits ms d w r stands (Publish x) is us vs has own = absurd is

    -- ---- the body

    long : length h.body.fetched ≡ length h.body.fetches
    long = fetches_claim (sites_of a (text f) fs k) (grid_scope k.grid) n 1 (line + first_lines k) (fetched_groups fs n 0 roots) h.body.fetches needs h.body.fetched h.body.fetching

    pub ready_first : Ready 0 (loads_from first h.body.fetches)
    ready_first =
        let b = h.body in
        let groups_of = fetched_groups fs n 0 roots in
        record {
          holds = fetched_so (sites_of a (text f) fs k) (grid_scope k.grid) n Holds 1 (line + first_lines k) groups_of b.fetches needs b.fetched b.fetching first
              (λ j w stands. hold j w (ap (λ (ws : List CodeClaim). slice_get ws j) b.claimed ∙ get_first a roots ours b.fetched b.own j w stands));
          others = λ i e there_e called.
              let none : 0 + i ≡ i = omega arith in
              let there = fetched_there fs n 0 roots i e there_e (ap (λ (m : ℕ). is_fetched fs n m e) none ∙ called) in
              fetched_named (sites_of a (text f) fs k) (grid_scope k.grid) n 1 (line + first_lines k) groups_of b.fetches needs b.fetched b.fetching first there.0 (0 + i, e) there.1;
          own = inl refl;
        }

    pub ready_next : (d m : ℕ) (v : CodeClaim) (ms : Loads) → m ≡ (first + length h.body.fetches) + d → slice_get h.body.own d ≡ Some v → Ready d ms → Ready (d + 1) (ms ++ (f.name, m) ∷ [])
    ready_next d m v ms e stands r =
        let b = h.body in
        let nest = claim_nest (text f) fs _ _ _ _ 0 k.nests b.nests b.own b.nested v (at_in b.own d v stands) in
        let there_v : slice_get claims (length b.fetched + d) ≡ Some v =
        ap (λ (ws : List CodeClaim). slice_get ws (length b.fetched + d)) b.claimed ∙ get_second a roots ours b.fetched b.own d ∙ stands in
        let one = hold (length b.fetched + d) v there_v in
        let same_long = long in
        let count : first + (length b.fetched + d) ≡ m = omega (arith, e, same_long) in
        let here : Holds f.name m = subst (λ (x : List ℕ). Holds x m) nest.named (subst (Holds (string_bytes v.function)) count one) in
        record {
          holds = all-append (λ (x : List ℕ × ℕ). Holds x.0 x.1) ms ((f.name, m) ∷ []) r.holds (here, tt);
          others = λ i u there_u called. names_first ms ((f.name, m) ∷ []) u.0.subject.name (r.others i u there_u called);
          own = inr (names_last ms f.name m);
        }

    body_fits : Fits F (statement_of q.body) (grid_symbols (length q.grid.items)) []
    body_fits =
        let b = h.body in
        let claim = last_claim first b.fetches k in
        let rest = b.nests ++ Publish claim ∷ [] in
        let inner : List Statement = Alloc 0 f.name (own_places (dimensions_of (text f) h.extents k)) ∷ with_fetches b.fetches rest in
        let nests : (us vs : List ℕ) → ((s : ℕ) → OverGrid k s → Has us s) → Has vs 0 → FitAll F (block rest) us vs =
        λ us vs over own. nests_fit F (text f) fs _ (OverGrid k) k.nests b.own (first + length b.fetches) Ready ready_next store_fits claim (λ us vs wrong. wrong.0)
        (loads_from first b.fetches) (first + length b.fetches) _ 0 k.nests b.nests b.own b.nested (omega arith) ready_first
        (λ j w e. let none : 0 + j ≡ j = omega arith in ap (slice_get k.nests) none ∙ e) (λ j w e. let none : 0 + j ≡ j = omega arith in ap (slice_get b.own) none ∙ e) us vs over own in
        let fits : FitAll F (lines_to k.head (block inner)) (grid_symbols (length k.grid)) [] = steps_fit F (λ s. s < length k.grid) k.head (block inner) []
        (λ us over. (tt, fetches_fit F b.fetches rest us (0 ∷ []) (has_last [] 0) (λ vs own. nests us vs over own))) (grid_symbols (length k.grid)) (grid_begins (length k.grid)).has in
        subst (λ (s : Statement). Fits F s (grid_symbols (length q.grid.items)) []) (sym b.with.is)
        (subst (λ (counts : List ℕ). FitAll F (lines_to k.head (block inner)) (grid_symbols (length counts)) [])
        (sym (own_grid a sch l well legal small kept all groups n first line (text f) q claims needs there theirs h)) fits)

  clear_group : (n : ℕ) (q : CodeGroup) → slice_get l.plan.groups.items n ≡ Some q →
      Fits (Wrong a p c IsStore only n (group_of q) (lines_of n q)) (statement_of q.body) (grid_symbols (length q.grid.items)) []
  clear_group n q theirs =
      let me = made_at a sch l well legal small kept all groups n q theirs in
      let w = found a sch st me.stored a.functions n me.is in
      let b = placed_body a roots ours 0 0 4 (stored_functions a sch) l.plan.groups.items ours l.certificate.needs.items (groups.bodies all)
      (λ j v e. let none : 0 + j ≡ j = omega arith in ap (slice_get ours) none ∙ e) n me.stored q me.is theirs in
      let counted : 0 + n ≡ n = omega arith in
      let there : slice_get (stored_functions a sch) n ≡ Some (text w.function) = me.is ∙ ap (λ (u : StoredText). Some u) w.is in
      let body = subst (λ (u : StoredText). HasBody a roots n b.first_claim b.line u q b.claims b.needs) w.is
      (subst (λ (i : ℕ). HasBody a roots i b.first_claim b.line me.stored q b.claims b.needs) counted b.body) in
      body_fits n q w.place w.function w.at there b.first_claim b.line b.claims b.needs theirs body
      (held a sch l well legal small kept all groups told n b.first_claim b.line (text w.function) q b.claims b.needs there theirs body b.numbered b.lined)

pub known : StoreLinesAreKnown
known a s l well legal small regions groups all free told line h =
    none_at a (plan_of l.plan) (certificate_of l.certificate) IsStore only l.plan.groups.items refl (clear_group a s l well legal small (regions all).0 all groups told free) line h
