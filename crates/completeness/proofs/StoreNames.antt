-- Of what the stores of whole functions owe, the tests of names alone say yes: buffers are in scope, claims in force, and the updates of nests under way.
use Rattle.std.proofs.Common.{◌≡◌, ℕ, zero, suc, ◌+◌, ◌-◌, ◌*◌, ◌<◌, Bool, true, false, ◌&&◌, List, [], ◌∷◌, ◌++◌, length, map, take, drop}
use Rattle.std.proofs.Common.{Option, Some, None, IsSome, refl, sym, ap, ◌∙◌, subst, inl, inr, ◌⊎◌, arith}
use Rattle.std.specs.Prelude.{◌==◌, if◌then◌else◌, filter, string_bytes, slice_get}
use Rattle.std.specs.List.{AllByRecursion, list_any, flat_map}
use Rattle.std.proofs.lemmas.Option.{slice_get_within}
use Rattle.tree.specs.Term.{Term, Number, Name, Call, Minus, Binary, Clamp, Cast, Choice, Terms, End, More, Test, Compares, Fails, Both, Either}
use Rattle.tree.specs.Uses.{EachCall, EachCallOfTest, EachCallOfAll}
use Rattle.tree.specs.Substitution.{with_calls, test_with_calls, all_with_calls}
use Rattle.lin.specs.Forms.{Form}
use Rattle.lin.specs.declared.span.Span1.{Span1}
use Rattle.lin.specs.declared.scope.Binding.{Binding}
use Rattle.bounds.proofs.ListSound.{all-append}
use Rattle.plan.specs.declared.plan.Group.{Group as CodeGroup}
use Rattle.plan.specs.declared.stmt.Places.{Places}
use Rattle.plan.specs.declared.certificate.cert.Claim.{Claim as CodeClaim}
use Rattle.plan.specs.declared.certificate.cert.Need.{Need}
use Rattle.plan.specs.Plan.{Index, At, Found, Coordinate, Statement, Seq, For, Let, First, Guard, Alloc, Fetch, Store, Publish, Statements, Empty, Then, Group, Plan, block}
use Rattle.plan.specs.View.{group_of, plan_of, statement_of}
use Rattle.plan.specs.Lines.{lines, body_line}
use Rattle.plan.specs.Certificate.Certificate.{Claim, Certificate, certificate_of, claim_of}
use Rattle.plan.specs.Claimed.{claim_of as claim_named}
use Rattle.plan.specs.Semantics.Run.{Source, Input, ByClaim, Unknown, claim_source}
use Rattle.plan.specs.Semantics.Setting.{function_in}
use Rattle.meaning.specs.Algorithm.{Function, Algorithm}
use Rattle.meaning.specs.Names.{same_name, is_among}
use Rattle.meaning.specs.Conditions.{IsAlgorithm, callable}
use Rattle.meaning.specs.Inlining.Laws.{StaysCalled}
use Rattle.meaning.proofs.Calls.{callable_found}
use Rattle.soundness.specs.Origins.{Outline}
use Rattle.soundness.specs.Given.{claim_or_none, outline_of}
use Rattle.soundness.specs.Obligations.{Known, Rules, Updating, NotClaimed, NotTheDefinition, Inside, Obligation, obligation, seated, is_usable, serves, may_load, met}
use Rattle.soundness.specs.Obligations.{region_of, load_obligations, loads, loads_of_test, loads_of_all, intervals, index_loads, coordinate_loads, is_begun, claimed, variable_span, target_span}
use Rattle.soundness.specs.Obligations.{is_member, places_of, within, onwards, in_block, in_loop, in_guard, obligations}
use Rattle.soundness.specs.Shown.{Nests, is_shown, shows, start}
use Rattle.soundness.specs.Binders.View.{grid_binders}
use Rattle.soundness.proofs.Refines.{name_refl, name_true, eq_refl, eq_true}
use Rattle.algo.specs.Scoping.Standing.{calls_of}
use Rattle.rules.specs.Bounding.Called.{update_count}
use Rattle.rules.specs.Bounding.Rules.{rules_of}
use Rattle.headline.proofs.Lists.{at_map, from_map}
use Rattle.sched.specs.Schedule.{Schedule}
use Rattle.sched.specs.Legal.{IsLegal}
use Rattle.sched.specs.Subjects.{reductions_of}
use Rattle.sched.specs.Runs.{lines_to}
use Rattle.sched.specs.Skeleton.{NestText, SkeletonText}
use Rattle.lower.specs.declared.lowering.Lowered.{Lowered}
use Rattle.sched.specs.Stored.{FormulaText, StoredText, calls_in, are_calls_of}
use Rattle.regions.specs.Stored.{some_calls}
use Rattle.lower.specs.Stored.{stored_functions, has_large}
use Rattle.regions.specs.Regions.{bodies_from}
use Rattle.regions.specs.Faults.{are_whole}
use Rattle.lower.specs.Faults.{region_fault}
use Rattle.sched.specs.Around.{grid_scope, names_with}
use Rattle.regions.specs.Taken.{sites_of}
use Rattle.sched.specs.Loading.{Loads, last_of, name_by, loaded_name, as_load}
use Rattle.blocks.specs.Blocks.{dimensions_of, claimed_region, own_places}
use Rattle.sched.specs.Bodies.{first_left, other_lefts}
use Rattle.blocks.specs.Bodies.{IsIndex, AreCoordinates, IsStored, step_lines, first_lines, IsStore, AreNests}
use Rattle.lower.specs.Bodies.{last_claim}
use Rattle.sched.specs.Fetches.{Entry}
use Rattle.blocks.specs.Fetches.{FetchText, with_fetches}
use Rattle.lower.specs.Fetches.{Calls, IsFetched, AreFetched, fetched_groups, loads_from}
use Rattle.lower.specs.Groups.{HasBody, HasGroups}
use Rattle.completeness.specs.Laws.{NamesNoLoad, AreLinesTold}
use Rattle.completeness.specs.Laws.{IsStore as IsStoreLine}
use Rattle.completeness.specs.Owed.{EachLine, EachOf, IsNameTest, NameTestsHold, StoreNamesHold, StoreNamesAreShown}
use Rattle.completeness.proofs.Standing.{names_own}
use Rattle.completeness.proofs.Laid.{found}
use Rattle.completeness.proofs.Bodies.{other_at, entry_at}
use Rattle.completeness.proofs.Served.{ls as regions_found, ready as all_ready, made_at}
use Rattle.completeness.proofs.ClaimLines.{known_stored}
use Rattle.completeness.proofs.ReadBack.{HasIf, last_has, source_is, calls_can}
use Rattle.completeness.proofs.Counts.{few_claims, fetches_claim, nests_claim}
use Rattle.completeness.proofs.Unlike.{get_first, get_second, placed_body}
use Rattle.completeness.proofs.Held.{held}
use Rattle.completeness.proofs.Loaded.{Names, not_named, some_of, value_calls, left_calls}
use Rattle.completeness.proofs.Mentioned.{each_written, each_called}
use Rattle.completeness.proofs.Written.{BackIf, IsOver, LeftIsOver, IsWritten, written}
use Rattle.completeness.proofs.PublishShown.{named_has, named_alike}
use Rattle.completeness.proofs.StoreLines.{ours, roots, lines_of, Holding, st, text, Ready, loaded, ready_first, ready_next, own_is, some_and}
use Rattle.completeness.proofs.Fresh.{all_flat}
use Rattle.completeness.proofs.InForce.{any_weaker, all_loads, Held as AreLoaded, HasOwn, Under, StoreAt, StoreHere, nests_each, fetches_each, lets_at, alloc_at}

-- ---- loads

-- the last of more loads
last_more : (ms : Loads) (o : Option ℕ) (y x : List ℕ) (k : ℕ) → last_of o (ms ++ (y, k) ∷ []) x ≡ (if same_name y x then Some k else last_of o ms x)
last_more [] o y x k = refl
last_more (m ∷ ms) o y x k = last_more ms (if same_name m.0 x then Some m.1 else o) y x k

-- one of what is fetched, by its claim
abbrev pub FetchedBy : List FetchText → ℕ → List ℕ → ℕ → Type 0
FetchedBy fetches first x c = (j : ℕ) × (f : FetchText) × (slice_get fetches j ≡ Some f) × (f.function ≡ x) × (c ≡ first + j)

pub all_fetched : (fetches : List FetchText) (first : ℕ) (ts : List FetchText) (i : ℕ) → ((j : ℕ) (f : FetchText) → slice_get ts j ≡ Some f → slice_get fetches (i + j) ≡ Some f) → (c : ℕ) →
    c ≡ first + i →
    AllByRecursion (λ m. FetchedBy fetches first m.0 m.1) (loads_from c ts)
all_fetched fetches first [] i there c e = tt
all_fetched fetches first (t ∷ ts) i there c e =
    let none : i + 0 ≡ i = omega arith in (
      (i, t, ap (slice_get fetches) (sym none) ∙ there 0 t refl, refl, e),
      all_fetched fetches first ts (i + 1) (λ j f at. let next : i + suc j ≡ (i + 1) + j = omega arith in ap (slice_get fetches) (sym next) ∙ there (suc j) f at) (c + 1) (omega (arith, e)),
    )

-- the fetch of this place, with its group, need line and claim
fetch_at : (calls : Calls) (grid : List Binding) (n b line : ℕ) (xs : List (ℕ × Entry)) (ts : List FetchText) (ws : List Need) (cs : List CodeClaim) → AreFetched calls grid n b line xs ts ws cs →
    (j : ℕ) (f : FetchText) → slice_get ts j ≡ Some f →
    (x : ℕ × Entry) × (w : Need) × (v : CodeClaim) × (slice_get xs j ≡ Some x) × (slice_get cs j ≡ Some v) × IsFetched n (b + j) (line + 2 * j) x.0 x.1 f w v
fetch_at calls grid n b line [] [] [] [] is j f at = absurd (cc at)
fetch_at calls grid n b line [] [] [] (v ∷ cs) is j f at = absurd is
fetch_at calls grid n b line [] [] (w ∷ ws) cs is j f at = absurd is
fetch_at calls grid n b line [] (t ∷ ts) ws cs is j f at = absurd is
fetch_at calls grid n b line (x ∷ xs) [] ws cs is j f at = absurd is
fetch_at calls grid n b line (x ∷ xs) (t ∷ ts) [] cs is j f at = absurd is
fetch_at calls grid n b line (x ∷ xs) (t ∷ ts) (w ∷ ws) [] is j f at = absurd is
fetch_at calls grid n b line (x ∷ xs) (t ∷ ts) (w ∷ ws) (v ∷ cs) is zero f at =
    let same : t ≡ f = cc at in
    let buffer : b ≡ b + 0 = omega arith in
    let place : line ≡ line + 2 * 0 = omega arith in (
      x,
      w,
      v,
      refl,
      refl,
      subst (λ (u : FetchText). IsFetched n (b + 0) (line + 2 * 0) x.0 x.1 u w v) same
          (subst (λ (m : ℕ). IsFetched n m (line + 2 * 0) x.0 x.1 t w v) buffer (subst (λ (m : ℕ). IsFetched n b m x.0 x.1 t w v) place is.0)),
    )
fetch_at calls grid n b line (x ∷ xs) (t ∷ ts) (w ∷ ws) (v ∷ cs) is (suc j) f at =
    let r = fetch_at calls grid n (b + 1) (line + 2) xs ts ws cs is.2 j f at in
    let buffer : (b + 1) + j ≡ b + suc j = omega arith in
    let place : (line + 2) + 2 * j ≡ line + 2 * suc j = omega arith in (
      r.0,
      r.1,
      r.2,
      r.3,
      r.4,
      subst (λ (m : ℕ). IsFetched n m (line + 2 * suc j) r.0.0 r.0.1 f r.1 r.2) buffer
          (subst (λ (m : ℕ). IsFetched n ((b + 1) + j) m r.0.0 r.0.1 f r.1 r.2) place r.5),
    )

-- ---- what the loads of an expression owe

module _ (O : Outline) (R : Rules) (nests : Nests) where
  abbrev Hold : List Obligation → Type 0
  Hold os = NameTestsHold R nests os

  hold_both : (xs ys : List Obligation) → Hold xs → Hold ys → Hold (xs ++ ys)
  hold_both xs ys h k = all-append (λ o. IsNameTest o.wanted → is_shown R nests o ≡ true) xs ys h k

  module _ (line : ℕ) (known : Known) where
    -- places in scope are no test of names
    seats_hold : (xs : List Span1) (o : Option (List Places)) (ps : List Places) → o ≡ Some ps → IsNameTest (seated O R o xs) → shows R nests known.binders (seated O R o xs) ≡ true
    seats_hold xs None ps e = absurd (cc e)
    seats_hold xs (Some qs) ps e = λ k. absurd k

    module _ (may : ℕ → Bool) (meets : ℕ → List (List Span1)) where
      -- the input, or a claim that may be loaded by and whose buffer is in scope
      abbrev IsFine : Source → Type 0
      IsFine Input = Unit {0}
      IsFine (ByClaim c) = ((ps : List Places) × (places_of known.buffers (O.claim c).buffer ≡ Some ps)) × (may c ≡ true)
      IsFine Unknown = ⊥

      meets_hold : (xs : List Span1) (yss : List (List Span1)) → Hold (map (λ ys. obligation O R NotTheDefinition line known (Inside xs ys)) yss)
      meets_hold xs [] = tt
      meets_hold xs (ys ∷ yss) = (λ k. absurd k, meets_hold xs yss)

      load_holds : (s : Source) (xs : List Span1) → IsFine s → Hold (load_obligations O R line known may meets s xs)
      load_holds Input xs h = (λ k. absurd k, tt)
      load_holds (ByClaim c) xs h = (seats_hold xs (places_of known.buffers (O.claim c).buffer) h.0.0 h.0.1, (λ k. h.1, (λ k. absurd k, meets_hold xs (meets c))))
      load_holds Unknown xs h = absurd h

      -- each call of the expression, of which these are so, is fine as it is loaded
      module _ (names : List (List ℕ)) (vars : List Span1) (ms : Loads) (P Q S T : List ℕ → Type 0)
          (call : (x : List ℕ) → P x → Q x → S x → T x → IsFine (O.source (loaded_name ms x))) where
        abbrev These : (Term → List Obligation)
        These e = loads O R line known may meets names vars e

        mutual
          term_holds : (e : Term) → EachCall (λ x at. P x) e → EachCall (λ x at. Q x) e → EachCall (λ x at. S x) e → EachCall (λ x at. T x) e → Hold (These (with_calls (as_load ms) e))
          term_holds (Number t n) p q s u = tt
          term_holds (Name x) p q s u = tt
          term_holds (Call x at) p q s u =
              let inner = all_with_calls (as_load ms) at in
              hold_both (loads_of_all O R line known may meets names vars inner)
              (load_obligations O R line known may meets (O.source (loaded_name ms x)) (intervals O R known.binders names vars inner)) (all_hold at p.1 q.1 s.1 u.1)
              (load_holds (O.source (loaded_name ms x)) (intervals O R known.binders names vars inner) (call x p.0 q.0 s.0 u.0))
          term_holds (Minus a) p q s u = term_holds a p q s u
          term_holds (Binary op a b) p q s u =
              hold_both (These (with_calls (as_load ms) a)) (These (with_calls (as_load ms) b)) (term_holds a p.0 q.0 s.0 u.0) (term_holds b p.1 q.1 s.1 u.1)
          term_holds (Clamp a l h) p q s u =
              hold_both (These (with_calls (as_load ms) a)) (These (with_calls (as_load ms) l) ++ These (with_calls (as_load ms) h)) (term_holds a p.0 q.0 s.0 u.0)
              (hold_both (These (with_calls (as_load ms) l)) (These (with_calls (as_load ms) h)) (term_holds l p.1 q.1 s.1 u.1) (term_holds h p.2 q.2 s.2 u.2))
          term_holds (Cast t a) p q s u = term_holds a p q s u
          term_holds (Choice c a b) p q s u =
              hold_both (loads_of_test O R line known may meets names vars (test_with_calls (as_load ms) c)) (These (with_calls (as_load ms) a) ++ These (with_calls (as_load ms) b))
              (test_holds c p.0 q.0 s.0 u.0)
              (hold_both (These (with_calls (as_load ms) a)) (These (with_calls (as_load ms) b)) (term_holds a p.1 q.1 s.1 u.1) (term_holds b p.2 q.2 s.2 u.2))

          test_holds : (c : Test) → EachCallOfTest (λ x at. P x) c → EachCallOfTest (λ x at. Q x) c → EachCallOfTest (λ x at. S x) c → EachCallOfTest (λ x at. T x) c →
              Hold (loads_of_test O R line known may meets names vars (test_with_calls (as_load ms) c))
          test_holds (Compares by a b) p q s u =
              hold_both (These (with_calls (as_load ms) a)) (These (with_calls (as_load ms) b)) (term_holds a p.0 q.0 s.0 u.0) (term_holds b p.1 q.1 s.1 u.1)
          test_holds (Fails c) p q s u = test_holds c p q s u
          test_holds (Both c d) p q s u =
              hold_both (loads_of_test O R line known may meets names vars (test_with_calls (as_load ms) c)) (loads_of_test O R line known may meets names vars (test_with_calls (as_load ms) d))
              (test_holds c p.0 q.0 s.0 u.0) (test_holds d p.1 q.1 s.1 u.1)
          test_holds (Either c d) p q s u =
              hold_both (loads_of_test O R line known may meets names vars (test_with_calls (as_load ms) c)) (loads_of_test O R line known may meets names vars (test_with_calls (as_load ms) d))
              (test_holds c p.0 q.0 s.0 u.0) (test_holds d p.1 q.1 s.1 u.1)

          all_hold : (at : Terms) → EachCallOfAll (λ x at. P x) at → EachCallOfAll (λ x at. Q x) at → EachCallOfAll (λ x at. S x) at → EachCallOfAll (λ x at. T x) at →
              Hold (loads_of_all O R line known may meets names vars (all_with_calls (as_load ms) at))
          all_hold End p q s u = tt
          all_hold (More a rest) p q s u =
              hold_both (These (with_calls (as_load ms) a)) (loads_of_all O R line known may meets names vars (all_with_calls (as_load ms) rest)) (term_holds a p.0 q.0 s.0 u.0)
              (all_hold rest p.1 q.1 s.1 u.1)

      -- of left sides
      module _ (names : List (List ℕ)) (vars : List Span1) (ms : Loads) where
        abbrev LeftHolds : Option Term → Type 0
        LeftHolds None = Unit {0}
        LeftHolds (Some e) = Hold (loads O R line known may meets names vars (with_calls (as_load ms) e))

        index_holds : (o : Option Form) (left : Option Term) (i : Index) → LeftHolds left → IsIndex ms o left i → Hold (index_loads O R line known may meets names vars i)
        index_holds o left (At g) h e = tt
        index_holds (Some f) left (Found e) h q = absurd q
        index_holds None None (Found e) h q = absurd q
        index_holds None (Some d) (Found e) h q = subst (λ (t : Term). Hold (loads O R line known may meets names vars t)) (sym q) h

        first_holds : (lefts : List (Option Term)) → AllByRecursion LeftHolds lefts → LeftHolds (first_left lefts)
        first_holds [] h = tt
        first_holds (o ∷ lefts) h = h.0

        others_hold : (lefts : List (Option Term)) → AllByRecursion LeftHolds lefts → AllByRecursion LeftHolds (other_lefts lefts)
        others_hold [] h = tt
        others_hold (o ∷ lefts) h = h.1

        abbrev CoordinateHolds : Coordinate → Type 0
        CoordinateHolds c = Hold (coordinate_loads O R line known may meets names vars c)

        coordinates_hold : (xs : List (List ℕ)) (os : List (Option Form)) (lefts : List (Option Term)) (cs : List Coordinate) → AreCoordinates ms xs os lefts cs → AllByRecursion LeftHolds lefts →
            AllByRecursion CoordinateHolds cs
        coordinates_hold xs [] lefts [] h l = tt
        coordinates_hold xs [] lefts (c ∷ cs) h l = absurd h
        coordinates_hold [] (o ∷ os) lefts cs h l = absurd h
        coordinates_hold (x ∷ xs) (o ∷ os) lefts [] h l = absurd h
        coordinates_hold (x ∷ xs) (o ∷ os) lefts (c ∷ cs) h l =
            (index_holds o (first_left lefts) c.index (first_holds lefts l) h.1, coordinates_hold xs os (other_lefts lefts) cs h.2 (others_hold lefts l))

all_taken : {A : Type 0} (P : A → Type 0) (n : ℕ) (xs : List A) → AllByRecursion P xs → AllByRecursion P (take n xs)
all_taken P zero [] h = tt
all_taken P zero (x ∷ xs) h = tt
all_taken P (suc n) [] h = tt
all_taken P (suc n) (x ∷ xs) h = (h.0, all_taken P n xs h.1)

pub at_place : {A : Type 0} (xs : List A) (i : ℕ) → i < length xs → (x : A) × (slice_get xs i ≡ Some x)
at_place [] i less = absurd (omega (arith, less))
at_place (x ∷ xs) zero less = (x, refl)
at_place (x ∷ xs) (suc i) less = at_place xs i (omega (arith, less))

-- ---- line by line

module _ (O : Outline) (R : Rules) (P Q : Statement → ℕ → Known → Type 0) (w : (s : Statement) (line : ℕ) (known : Known) → P s line known → Q s line known) where
  mutual
    pub lines_weaker : (s : Statement) (line : ℕ) (known : Known) → EachLine O R P s line known → EachLine O R Q s line known
    lines_weaker (Seq all) line known h = block_weaker all line (in_block O R known) h
    lines_weaker (For i x kind body) line known h = lines_weaker body (line + 1) (in_loop O R i x body known) h
    lines_weaker (Let i pick forms) line known h = w (Let i pick forms) line known h
    lines_weaker (First i a b) line known h = (lines_weaker a (line + 1) (in_block O R known) h.0, lines_weaker b (line + 2 + lines a) (in_block O R known) h.1)
    lines_weaker (Guard low high body) line known h = lines_weaker body (line + 1) (in_guard O R low high known) h
    lines_weaker (Alloc b x seats) line known h = w (Alloc b x seats) line known h
    lines_weaker (Fetch b x region) line known h = w (Fetch b x region) line known h
    lines_weaker (Store b k at e) line known h = w (Store b k at e) line known h
    lines_weaker (Publish c) line known h = w (Publish c) line known h

    block_weaker : (all : Statements) (line : ℕ) (known : Known) → EachOf O R P all line known → EachOf O R Q all line known
    block_weaker Empty line known h = tt
    block_weaker (Then a rest) line known h =
        let next = O.named (line + lines a - 1) in
        (lines_weaker a line (within O R a next known) h.0, block_weaker rest (line + lines a) (onwards O R a next known) h.1)

-- ---- groups

module _ (a : Algorithm) (sch : Schedule) (l : Lowered) (well : IsAlgorithm a) (legal : IsLegal a sch) (small : has_large (stored_functions a sch) ≡ false)
    (kept : region_fault a (stored_functions a sch) ≡ None) (all : are_whole (stored_functions a sch) ≡ true) (groups : HasGroups a (stored_functions a sch) l) (told : AreLinesTold (plan_of l.plan))
    (free : NamesNoLoad a) where
  abbrev mine : List CodeClaim
  mine = ours a sch l well legal small kept all groups told free

  abbrev entries : List Entry
  entries = roots a sch l well legal small kept all groups told free

  abbrev IsHolding : ℕ → CodeGroup → List ℕ → ℕ → Type 0
  IsHolding n q = Holding a sch l well legal small kept all groups told free (lines_of a sch l well legal small kept all groups told free n q)

  abbrev texts : Function → StoredText
  texts f = text a sch l well legal small kept all groups told free f

  abbrev flags_of : List Bool
  flags_of = st a sch l well legal small kept all groups told free

  abbrev plan : Plan
  plan = plan_of l.plan

  abbrev cert : Certificate
  cert = certificate_of l.certificate

  module _ (n : ℕ) (q : CodeGroup) (place : ℕ) (f : Function) (at : slice_get a.functions place ≡ Some f) (there : slice_get (stored_functions a sch) n ≡ Some (texts f)) (first line : ℕ)
      (claims : List CodeClaim) (needs : List Need) (theirs : slice_get l.plan.groups.items n ≡ Some q) (h : HasBody a entries n first line (texts f) q claims needs)
      (hold : (j : ℕ) (w : CodeClaim) → slice_get claims j ≡ Some w → IsHolding n q (string_bytes w.function) (first + j))
      (numbered : (j : ℕ) (v : CodeClaim) → slice_get claims j ≡ Some v → slice_get mine (first + j) ≡ Some v) (lined : body_line plan n ≡ line + 1) where
    abbrev k : SkeletonText
    k = h.skeleton

    abbrev fs : List FormulaText
    fs = h.formulas

    abbrev fetches : List FetchText
    fetches = h.body.fetches

    abbrev places : List Places
    places = own_places (dimensions_of (texts f) h.extents k)

    abbrev O : Outline
    O = outline_of plan cert n (group_of q)

    abbrev R : Rules
    R = rules_of a plan cert n

    abbrev first_own : ℕ
    first_own = first + length fetches

    abbrev IsReady : ℕ → Loads → Type 0
    IsReady d ms = Ready a sch l well legal small kept all groups told free n q place f at there first line claims needs theirs h hold d ms

    -- ---- its claims

    claim_is : (j : ℕ) (v : CodeClaim) → slice_get claims j ≡ Some v → O.claim (first + j) ≡ claim_of v
    claim_is j v e = ap claim_or_none (at_map claim_of mine (first + j) v (numbered j v e))

    long : length h.body.fetched ≡ length fetches
    long = fetches_claim (sites_of a (texts f) fs k) (grid_scope k.grid) n 1 (line + first_lines k) (fetched_groups fs n 0 entries) fetches needs h.body.fetched h.body.fetching

    pub own_long : length h.body.own ≡ length k.nests
    own_long = nests_claim (texts f) fs _ _ _ _ 0 k.nests h.body.nests h.body.own h.body.nested

    fetched_claim : (j : ℕ) (v : CodeClaim) → slice_get h.body.fetched j ≡ Some v → slice_get claims j ≡ Some v
    fetched_claim j v e = ap (λ (ws : List CodeClaim). slice_get ws j) h.body.claimed ∙ get_first a entries mine h.body.fetched h.body.own j v e

    pub own_claim : (d : ℕ) (v : CodeClaim) → slice_get h.body.own d ≡ Some v → slice_get mine (first_own + d) ≡ Some v
    own_claim d v e =
        let same = long in
        let count : first + (length h.body.fetched + d) ≡ first_own + d = omega (arith, same) in
        sym (ap (slice_get mine) count)
        ∙ numbered (length h.body.fetched + d) v
        (ap (λ (ws : List CodeClaim). slice_get ws (length h.body.fetched + d)) h.body.claimed ∙ get_second a entries mine h.body.fetched h.body.own d ∙ e)

    named : (j : ℕ) (v : CodeClaim) → slice_get mine j ≡ Some v → is_member j (O.named v.line) ≡ true
    named j v e = (let none : 0 + j ≡ j = omega arith in sym (ap (λ (i : ℕ). is_member i (O.named v.line)) none) ∙ named_has 0 cert.claims j (claim_of v) v.line (at_map claim_of mine j v e) refl)

    pub record FetchKnown (j : ℕ) (t : FetchText) : Type 0 where
      pub seated : t.buffer ≡ suc j
      pub buffered : (O.claim (first + j)).buffer ≡ t.buffer
      pub function : (O.claim (first + j)).function ≡ t.function
      pub region : (O.claim (first + j)).region ≡ t.region
      pub defined : ((O.claim (first + j)).definition == R.last (O.claim (first + j)).function) ≡ true

    pub fetch_known : (j : ℕ) (t : FetchText) → slice_get fetches j ≡ Some t → FetchKnown j t
    fetch_known j t stands =
        let r = fetch_at (sites_of a (texts f) fs k) (grid_scope k.grid) n 1 (line + first_lines k) (fetched_groups fs n 0 entries) fetches needs h.body.fetched h.body.fetching j t stands in
        let x = r.0 in
        let v = r.2 in
        let is = r.5 in
        let e = x.1 in
        let other = other_at fs n 0 entries j x r.3 in
        let entry = entry_at (stored_functions a sch) (regions_found a sch l well legal small kept all groups) all (all_ready a sch l well legal small kept all groups) other.place e other.at in
        let known_function = known_stored a sch well other.place e.0 entry.is in
        let formulas = known_function.formulas e.2 entry.defined in
        let claim = claim_is j v (fetched_claim j v r.4) in
        let name : (O.claim (first + j)).function ≡ e.0.subject.name = ap (λ (c : Claim). c.function) claim ∙ is.claimed.named in
        let definition : (O.claim (first + j)).definition ≡ length e.2 - 1 = ap (λ (c : Claim). c.definition) claim ∙ is.claimed.defined in
        let last_is : R.last (O.claim (first + j)).function ≡ length known_function.function.changes =
        ap R.last name ∙ ap update_count (named_alike a.functions e.0.subject.name ∙ known_function.named) in
        let equal : (O.claim (first + j)).definition ≡ R.last (O.claim (first + j)).function = omega (arith, definition, last_is, formulas) in
        let buffer = is.buffered in
        record {
          seated = omega (arith, buffer);
          buffered = ap (λ (c : Claim). c.buffer) claim ∙ is.claimed.buffered ∙ sym is.buffered;
          function = name ∙ sym is.named;
          region = ap (λ (c : Claim). c.region) claim ∙ is.claimed.over;
          defined = ap (λ (m : ℕ). m == R.last (O.claim (first + j)).function) equal ∙ eq_refl (R.last (O.claim (first + j)).function);
        }

    pub record OwnKnown (d : ℕ) : Type 0 where
      pub buffered : (O.claim (first_own + d)).buffer ≡ 0
      pub function : (O.claim (first_own + d)).function ≡ f.name
      pub defined : (O.claim (first_own + d)).definition ≡ d

    pub own_known : (d : ℕ) → d < length k.nests → OwnKnown d
    own_known d less =
        let same = own_long in
        let v = at_place h.body.own d (omega (arith, same, less)) in
        let c = own_claims (texts f) fs _ _ _ _ 0 k.nests h.body.nests h.body.own h.body.nested d v.0 v.1 in
        let claim : O.claim (first_own + d) ≡ claim_of v.0 = ap claim_or_none (at_map claim_of mine (first_own + d) v.0 (own_claim d v.0 v.1)) in
        record {
          buffered = ap (λ (c : Claim). c.buffer) claim ∙ c.0;
          function = ap (λ (c : Claim). c.function) claim ∙ c.1;
          defined = (let count : 0 + d ≡ d = omega arith in ap (λ (c : Claim). c.definition) claim ∙ c.2 ∙ count);
        }
      where
        own_claims : (g : StoredText) (us : List FormulaText) (r : List Span1) (ms : Loads) (m at_line d : ℕ) (ns : List NestText) (xs : List Statement) (cs : List CodeClaim) →
            AreNests g us r ms m at_line d ns xs cs → (j : ℕ) (v : CodeClaim) → slice_get cs j ≡ Some v → (v.buffer ≡ 0) × (string_bytes v.function ≡ g.subject.name) × (v.definition ≡ d + j)
        own_claims g us r ms m at_line d [] xs cs is j v e = absurd (cc (is.1, e))
        own_claims g us r ms m at_line d (w ∷ ns) xs [] is j v e = absurd is
        own_claims g us r ms m at_line d (w ∷ ns) xs (u ∷ cs) is zero v e =
            let same : u ≡ v = cc e in
            let c = is.here.claims in
            let number = c.defined in
            let count : u.definition ≡ d + 0 = omega (arith, number) in
            subst (λ (v : CodeClaim). (v.buffer ≡ 0) × (string_bytes v.function ≡ g.subject.name) × (v.definition ≡ d + 0)) same (c.buffered, c.named, count)
        own_claims g us r ms m at_line d (w ∷ ns) xs (u ∷ cs) is (suc j) v e =
            let rest = own_claims g us r (ms ++ (g.subject.name, m) ∷ []) (m + 1) _ (d + 1) ns is.others cs is.behind j v e in
            let number = rest.2 in
            (rest.0, rest.1, omega (arith, number))

    pub own_function : O.setting.buffer_function 0 ≡ f.name
    own_function = (let o = own_is a sch l well legal small kept all groups told free n q place f at there first line claims needs theirs h hold in ap function_in o.1 ∙ o.2)

    -- ---- at a store

    pub loads_ready : (d : ℕ) → d < length k.nests → IsReady d (all_loads (texts f) fs k.nests places fetches first d)
    loads_ready zero less = ready_first a sch l well legal small kept all groups told free n q place f at there first line claims needs theirs h hold
    loads_ready (suc d) less =
        let same = own_long in
        let v = at_place h.body.own d (omega (arith, same, less)) in
        let one : d + 1 ≡ suc d = omega arith in
        subst (λ (m : ℕ). IsReady m (all_loads (texts f) fs k.nests places fetches first (suc d))) one
        (ready_next a sch l well legal small kept all groups told free n q place f at there first line claims needs theirs h hold d (first_own + d) v.0
        (all_loads (texts f) fs k.nests places fetches first d) refl v.1 (loads_ready d (omega (arith, less))))

    -- by which claim the nest of a definition loads: the function itself by the claim of the nest before, and others by those of what is fetched
    abbrev pub IsLast : ℕ → List ℕ → ℕ → Type 0
    IsLast d x c = ((e : ℕ) × (d ≡ suc e) × (same_name f.name x ≡ true) × (c ≡ first_own + e)) ⊎ (((same_name f.name x ≡ false) ⊎ (d ≡ 0)) × FetchedBy fetches first x c)

    pub last_is : (d : ℕ) (x : List ℕ) (c : ℕ) → last_of None (all_loads (texts f) fs k.nests places fetches first d) x ≡ Some c → IsLast d x c
    last_is zero x c e =
        let by = last_has (FetchedBy fetches first) x (loads_from first fetches) None
        (all_fetched fetches first fetches 0 (λ j t at. let none : 0 + j ≡ j = omega arith in ap (slice_get fetches) none ∙ at) first (omega arith)) tt in
        inr (inr refl, subst (HasIf (FetchedBy fetches first) x) e by)
    last_is (suc d) x c e = of (same_name f.name x) refl (sym (last_more (all_loads (texts f) fs k.nests places fetches first d) None f.name x (first_own + d)) ∙ e) (last_is d x c)
      where
        weaker : same_name f.name x ≡ false → IsLast d x c → IsLast (suc d) x c
        weaker none (inl k) = absurd (cc (none, k.2))
        weaker none (inr k) = inr (inl none, k.1)

        of : (b : Bool) → same_name f.name x ≡ b → (if b then Some (first_own + d) else last_of None (all_loads (texts f) fs k.nests places fetches first d) x) ≡ Some c →
            (last_of None (all_loads (texts f) fs k.nests places fetches first d) x ≡ Some c → IsLast d x c) → IsLast (suc d) x c
        of true s q rest = inl (d, refl, s, (let same : first_own + d ≡ c = cc q in sym same))
        of false s q rest = weaker s (rest q)

    pub differs : (x y : List ℕ) → same_name x y ≡ false → same_name y x ≡ false
    differs x y none = of (same_name y x) refl
      where
        of : (b : Bool) → same_name y x ≡ b → same_name y x ≡ false
        of true e = (let same : y ≡ x = name_true y x e in absurd (cc (none, ap (λ (z : List ℕ). same_name x z) same ∙ name_refl x)))
        of false e = e

    module _ (nests : Nests) (at_line : ℕ) (known : Known) (loaded_here : AreLoaded (texts f) fs k.nests places fetches first known) (own : HasOwn (texts f) fs k.nests places fetches first
        known) where
      abbrev F : List ℕ
      F = O.setting.buffer_function 0

      abbrev MayLoad : ℕ → ℕ → Bool
      MayLoad d c = may_load O R known 0 F d c

      abbrev IsUnder : ℕ → Type 0
      IsUnder d = Under (texts f) fs k.nests places fetches first d known

      usable : (j : ℕ) (t : FetchText) → slice_get fetches j ≡ Some t → is_usable O R known (first + j) ≡ true
      usable j t stands = (let force = (loaded_here j t stands).0 in let last = (fetch_known j t stands).defined in λ i. force i && last i)

      -- what is under way serves the update
      serving : (d : ℕ) → suc d < length k.nests → IsUnder (suc d) → list_any (λ (u : Updating). (u.before == first_own + d) && serves O R 0 F (suc d) u) known.updating ≡ true
      serving d less under =
          any_weaker (λ (u : Updating). (u.before == first_own + d) && (u.next == first_own + suc d)) (λ (u : Updating). (u.before == first_own + d) && serves O R 0 F (suc d) u) one known.updating
          under
        where
          served : (u : Updating) → (u.next == first_own + suc d) ≡ true → serves O R 0 F (suc d) u ≡ true
          served u e =
              let next : u.next ≡ first_own + suc d = eq_true u.next (first_own + suc d) e in
              let c = own_known (suc d) less in
              let claim : O.claim u.next ≡ O.claim (first_own + suc d) = ap O.claim next in
              let buffer : ((O.claim u.next).buffer == 0) ≡ true = ap (λ (v : Claim). v.buffer == 0) claim ∙ ap (λ (b : ℕ). b == 0) c.buffered in
              let name : same_name (O.claim u.next).function F ≡ true =
              (λ i. same_name (claim i).function (own_function i)) ∙ ap (λ (y : List ℕ). same_name y f.name) c.function ∙ name_refl f.name in
              let definition : ((O.claim u.next).definition == suc d) ≡ true = ap (λ (v : Claim). v.definition == suc d) claim ∙ ap (λ (m : ℕ). m == suc d) c.defined ∙ eq_refl (suc d) in
              λ i. buffer i && (name i && definition i)

          one : (u : Updating) → ((u.before == first_own + d) && (u.next == first_own + suc d)) ≡ true → ((u.before == first_own + d) && serves O R 0 F (suc d) u) ≡ true
          one u e = of (u.before == first_own + d) e
            where
              of : (b : Bool) → (b && (u.next == first_own + suc d)) ≡ true → (b && serves O R 0 F (suc d) u) ≡ true
              of true k = served u k
              of false k = absurd (cc k)

      begun_here : (d : ℕ) → d < length k.nests → IsUnder d → is_begun O R known 0 F d ≡ true
      begun_here zero less under = refl
      begun_here (suc d) less under =
          any_weaker (λ (u : Updating). (u.before == first_own + d) && serves O R 0 F (suc d) u) (serves O R 0 F (suc d)) (λ u e. second (u.before == first_own + d) (serves O R 0 F (suc d) u) e)
          known.updating (serving d less under)
        where
          second : (b d : Bool) → (b && d) ≡ true → d ≡ true
          second true d e = e
          second false d e = absurd (cc e)

      may_fetched : (d : ℕ) (x : List ℕ) (j : ℕ) (t : FetchText) → slice_get fetches j ≡ Some t → t.function ≡ x → (same_name f.name x ≡ false) ⊎ (d ≡ 0) → MayLoad d (first + j) ≡ true
      may_fetched zero x j t stands name other = usable j t stands
      may_fetched (suc d) x j t stands name (inr none) = absurd (omega (arith, none))
      may_fetched (suc d) x j t stands name (inl none) =
          let function : (O.claim (first + j)).function ≡ x = (fetch_known j t stands).function ∙ name in
          let test : same_name (O.claim (first + j)).function F ≡ false = (λ i. same_name (function i) (own_function i)) ∙ differs f.name x none in
          ap (λ (b : Bool). if b then list_any (λ (u : Updating). (u.before == first + j) && serves O R 0 F (suc d) u) known.updating else is_usable O R known (first + j)) test ∙ usable j t stands

      may_own : (d : ℕ) → suc d < length k.nests → IsUnder (suc d) → MayLoad (suc d) (first_own + d) ≡ true
      may_own d less under =
          let c = own_known d (omega (arith, less)) in
          let test : same_name (O.claim (first_own + d)).function F ≡ true = (λ i. same_name (c.function i) (own_function i)) ∙ name_refl f.name in
          ap (λ (b : Bool). if b then list_any (λ (u : Updating). (u.before == first_own + d) && serves O R 0 F (suc d) u) known.updating else is_usable O R known (first_own + d)) test
          ∙ serving d less under

      module _ (d : ℕ) (less : d < length k.nests) (under : IsUnder d) (meets : ℕ → List (List Span1)) where
        abbrev Fine : Source → Type 0
        Fine s = IsFine O R nests at_line known (MayLoad d) meets s

        abbrev ms : Loads
        ms = all_loads (texts f) fs k.nests places fetches first d

        claim_fine : (x : List ℕ) (c : ℕ) → IsLast d x c → Fine (ByClaim c)
        claim_fine x c (inl own_load) =
            let e = own_load.0 in
            let same : d ≡ suc e = own_load.1 in
            let number : c ≡ first_own + e = own_load.3 in
            let later : suc e < length k.nests = omega (arith, same, less) in
            let buffer : (O.claim c).buffer ≡ 0 = ap (λ (m : ℕ). (O.claim m).buffer) number ∙ (own_known e (omega (arith, later))).buffered in (
              (places, ap (places_of known.buffers) buffer ∙ own),
              (λ i. MayLoad (same i) (number i)) ∙ may_own e later (subst IsUnder same under),
            )
        claim_fine x c (inr by) =
            let j = by.1.0 in
            let t = by.1.1 in
            let stands = by.1.2 in
            let number : c ≡ first + j = by.1.4 in
            let buffer : (O.claim c).buffer ≡ t.buffer = ap (λ (m : ℕ). (O.claim m).buffer) number ∙ (fetch_known j t stands).buffered in (
              (t.places, ap (places_of known.buffers) buffer ∙ (loaded_here j t stands).1),
              ap (MayLoad d) number ∙ may_fetched d x j t stands by.1.3 by.0,
            )

        source_fine : (x : List ℕ) (o : Option ℕ) → last_of None ms x ≡ o → HasIf (IsHolding n q) x o → IsSome (callable a a.functions x) → StaysCalled a flags_of x → some_calls x fs ≡ true →
            BackIf a well flags_of place f at d x → Fine (O.source (name_by o x))
        source_fine x (Some c) e held_by can stays called back =
            let source : O.source (64 ∷ _) ≡ ByClaim c =
            source_is a free plan cert n (group_of q) groups.head.input.named mine refl (let few = few_claims a sch l well legal small kept all groups in omega (arith, few)) [] tt c
            (slice_get_within mine c held_by.claim
            held_by.at) in
            subst Fine (sym source) (claim_fine x c (last_is d x c e))
        source_fine x None e held_by can stays called back = elim (callable_found a a.functions x can) [
          | inl input ↦
              (let name : same_name x plan.input.name ≡ true = ap (λ (y : List ℕ). same_name y plan.input.name) (input ∙ sym groups.head.input.named) ∙ name_refl plan.input.name in
              subst Fine (sym (ap (λ (b : Bool). if b then Input else claim_source (length cert.claims) (claim_named x)) name)) tt)
          | inr g ↦ absurd (not_named ms x e (subst (Names ms) g.3 (loaded a sch l well legal small kept all groups told free n q place f at there first line claims needs theirs h hold d ms
              (loads_ready d less) g.0 g.1 g.2 (subst (StaysCalled a flags_of) (sym g.3) stays) (ap (λ (y : List ℕ). some_calls y fs) g.3 ∙ called)
              (subst (BackIf a well flags_of place f at d) (sym g.3) back))))
        ]

        call_fine : (x : List ℕ) → IsSome (callable a a.functions x) → StaysCalled a flags_of x → some_calls x fs ≡ true → BackIf a well flags_of place f at d x → Fine (O.source (loaded_name ms x))
        call_fine x can stays called back = source_fine x (last_of None ms x) refl (last_has (IsHolding n q) x ms None (loads_ready d less).holds tt) can stays called back

        -- ---- what a store owes

        module _ (w : NestText) (stands : slice_get k.nests d ≡ Some w) (u : FormulaText) (defined : slice_get fs d ≡ Some u) (names : List (List ℕ)) (vars : List Span1) where
          y : IsWritten a well flags_of place f at d u
          y = written a well flags_of place f at fs h.defined d u defined

          term_fine : (e : Term) → IsOver a well flags_of place f at y.names d e → ((x : List ℕ) → are_calls_of x (calls_of e) ≡ true → are_calls_of x (calls_in u) ≡ true) →
              Hold O R nests (loads O R at_line known (MayLoad d) meets names vars (with_calls (as_load ms) e))
          term_fine e over inside =
              let S : List ℕ → Type 0 = λ x. some_calls x fs ≡ true in
              term_holds O R nests at_line known (MayLoad d) meets names vars ms (λ x. IsSome (callable a a.functions x)) (StaysCalled a flags_of) S (BackIf a well flags_of place f at d) call_fine e
              (calls_can (is_among y.names) (callable a a.functions) e over.ty over.typed) over.stays
              (each_written S e (each_called S (calls_of e) (λ x z. some_of x fs d u defined (inside x z)))) over.back

          lefts_fine : (os : List (Option Term)) →
              ((j : ℕ) (e : Term) → slice_get os j ≡ Some (Some e) → (x : List ℕ) → are_calls_of x (calls_of e) ≡ true → are_calls_of x (calls_in u) ≡ true) →
              AllByRecursion (LeftIsOver a well flags_of place f at y.names d) os → AllByRecursion (LeftHolds O R nests at_line known (MayLoad d) meets names vars ms) os
          lefts_fine [] m o = tt
          lefts_fine (None ∷ os) m o = (tt, lefts_fine os (λ j e y. m (suc j) e y) o.1)
          lefts_fine (Some e ∷ os) m o = (term_fine e o.0 (m 0 e refl), lefts_fine os (λ j e y. m (suc j) e y) o.1)

          coordinates_fine : (cs : List Coordinate) → AreCoordinates ms (names_with f.variables f.changes d) w.at u.at cs → (n : ℕ) →
              Hold O R nests (flat_map (coordinate_loads O R at_line known (MayLoad d) meets names vars) (take n cs))
          coordinates_fine cs is n =
              let C : Coordinate → Type 0 = CoordinateHolds O R nests at_line known (MayLoad d) meets names vars ms in
              all_flat C (λ o. IsNameTest o.wanted → is_shown R nests o ≡ true) (coordinate_loads O R at_line known (MayLoad d) meets names vars) (λ c h. h) (take n cs)
              (all_taken C n cs
              (coordinates_hold O R nests at_line known (MayLoad d) meets names vars ms (names_with f.variables f.changes d) w.at u.at cs is (lefts_fine u.at (λ j e at_j x. left_calls x u j
              e at_j) y.lefts)))

      insides_hold : (xs : List Span1) (us : List Updating) → Hold O R nests (map (λ u. obligation O R NotClaimed at_line known (Inside xs (region_of O R u.next))) us)
      insides_hold xs [] = tt
      insides_hold xs (u ∷ us) = (λ k. absurd k, insides_hold xs us)

      claimed_hold : (d : ℕ) (xs : List Span1) → Hold O R nests (claimed O R at_line known 0 F d xs)
      claimed_hold zero xs = tt
      claimed_hold (suc d) xs = insides_hold xs (filter (serves O R 0 F (suc d)) known.updating)

      store_holds : (d : ℕ) → d < length k.nests → IsUnder d → (w : NestText) → slice_get k.nests d ≡ Some w → (cs : List Coordinate) (e : Term) (u : FormulaText) → slice_get fs d ≡ Some u →
          IsStored (all_loads (texts f) fs k.nests places fetches first d) (names_with f.variables f.changes d) w cs e u → Hold O R nests (obligations O R (Store 0 d cs e) at_line known)
      store_holds d less under w stands cs e u defined is =
          let n = O.setting.dimensions 0 in
          let at' = take n cs in
          let over = drop n cs in
          let names = map (λ (c : Coordinate). c.variable) (at' ++ over) in
          let left = map (variable_span O R) (at' ++ over) in
          let seats = map (target_span O R known names left) at' in
          let meets = met O R F d at' in
          let vars = seats ++ map (variable_span O R) over in
          let loaded_term = term_fine d less under meets w stands u defined names vars u.value (y d less under meets w stands u defined names vars).value (λ x. value_calls x u) in
          let value = subst (λ (t : Term). Hold O R nests (loads O R at_line known (MayLoad d) meets names vars t)) (sym is.value) loaded_term in
          let coordinates = coordinates_fine d less under meets w stands u defined names left cs is.at n in
          let behind = hold_both O R nests (flat_map (coordinate_loads O R at_line known (MayLoad d) meets names left) at') (loads O R at_line known (MayLoad d) meets names vars e)
          coordinates value in
          let rest = hold_both O R nests (claimed O R at_line known 0 F d seats)
          (flat_map (coordinate_loads O R at_line known (MayLoad d) meets names left) at' ++ loads O R at_line known (MayLoad d) meets names vars e) (claimed_hold d seats) behind in
          (seats_hold O R nests at_line known seats (places_of known.buffers 0) places own, (λ k. begun_here d less under, rest))

    -- ---- the body

    abbrev Here : Statement → ℕ → Known → Type 0
    Here s at_line known = StoreHere (texts f) fs k.nests places fetches first s at_line known

    abbrev Holding_here : Statement → ℕ → Known → Type 0
    Holding_here s at_line known = IsStoreLine s → (nests : Nests) → NameTestsHold R nests (obligations O R s at_line known)

    one_holds : (s : Statement) (at_line : ℕ) (known : Known) → Here s at_line known → Holding_here s at_line known
    one_holds (Store b m cs e) at_line known here is = λ nests. of nests (here tt)
      where
        of : (nests : Nests) → StoreAt (texts f) fs k.nests places fetches first (Store b m cs e) known → NameTestsHold R nests (obligations O R (Store b m cs e) at_line known)
        of nests r =
            let d = r.definition in
            let stored = subst (λ (ms : Loads). IsStore (texts f) fs ms d r.nest (Store b m cs e)) r.loaded r.stores in
            let x = some_and (IsStored (all_loads (texts f) fs k.nests places fetches first d) (names_with f.variables f.changes d) r.nest cs e) (slice_get fs d) stored.2 in
            let holds = store_holds nests at_line known r.held r.own d (slice_get_within k.nests d r.nest r.stands) r.under r.nest r.stands cs e x.0 x.1 x.2 in
            subst (λ (c : ℕ). NameTestsHold R nests (obligations O R (Store c m cs e) at_line known)) (sym stored.0)
            (subst (λ (j : ℕ). NameTestsHold R nests (obligations O R (Store 0 j cs e) at_line known)) (sym stored.1) holds)
    one_holds (Seq xs) at_line known here is = absurd is
    one_holds (For j x kind body) at_line known here is = absurd is
    one_holds (Let j pick forms) at_line known here is = absurd is
    one_holds (First j x z) at_line known here is = absurd is
    one_holds (Guard low high body) at_line known here is = absurd is
    one_holds (Alloc b x seats) at_line known here is = absurd is
    one_holds (Fetch b x region) at_line known here is = absurd is
    one_holds (Publish x) at_line known here is = absurd is

    pub body_stored : EachLine O R Here (statement_of q.body) (body_line plan n) (start (grid_binders q.grid.items))
    body_stored =
        let b = h.body in
        let claim = last_claim first b.fetches k in
        let rest : List Statement = b.nests ++ Publish claim ∷ [] in
        let region = claimed_region (dimensions_of (texts f) h.extents k) in
        let seated : (j : ℕ) (t : FetchText) → slice_get fetches j ≡ Some t → t.buffer ≡ suc j = λ j t e. (fetch_known j t e).seated in
        let buffered : (j : ℕ) (t : FetchText) → slice_get fetches j ≡ Some t → (O.claim (first + j)).buffer ≡ t.buffer = λ j t e. (fetch_known j t e).buffered in
        let owns : (d : ℕ) → d < length k.nests → ((O.claim (first_own + d)).buffer ≡ 0) × ((O.claim (first_own + d)).function ≡ f.name) × ((O.claim (first_own + d)).definition ≡ d) =
        λ d less. (let c = own_known d less in (c.buffered, c.function, c.defined)) in
        let own_named : (d : ℕ) (v : CodeClaim) → slice_get b.own d ≡ Some v → is_member (first_own + d) (O.named v.line) ≡ true = λ d v e. named (first_own + d) v (own_claim d v e) in
        let fetch_named : (j : ℕ) (v : CodeClaim) → slice_get b.fetched j ≡ Some v → is_member (first + (0 + j)) (O.named v.line) ≡ true =
        λ j v e. (let none : j ≡ 0 + j = omega arith in ap (λ (m : ℕ). is_member (first + m) (O.named v.line)) (sym none) ∙ named (first + j) v (numbered j v (fetched_claim j v e))) in
        let nests_line : ℕ = line + first_lines k + 2 * length fetches in
        let g = texts f in
        let nests : (known : Known) → AreLoaded g fs k.nests places fetches first known → HasOwn g fs k.nests places fetches first known → EachOf O R Here (block rest) nests_line known =
        λ known loaded_here own. nests_each g fs k.nests places fetches first O R seated buffered owns own_function b.own own_named region claim (loads_from first fetches) first_own nests_line 0
        k.nests b.nests b.own b.nested (omega arith) refl (λ j w e. let none : 0 + j ≡ j = omega arith in ap (slice_get k.nests) none ∙ e)
        (λ j v e. let none : 0 + j ≡ j = omega arith in ap (slice_get b.own) none ∙ e) known loaded_here own tt in
        let begin : ℕ = (line + 1) + step_lines k.head in
        let second : line + first_lines k ≡ begin + 1 = omega arith in
        let fetching = subst (λ (m : ℕ). AreFetched (sites_of a g fs k) (grid_scope k.grid) n 1 m (fetched_groups fs n 0 entries) b.fetches needs b.fetched) second b.fetching in
        let inner : (known : Known) → EachOf O R Here (block (Alloc 0 f.name places ∷ with_fetches fetches rest)) begin known =
        alloc_at g fs k.nests places fetches first O R seated buffered owns own_function f.name (block (with_fetches fetches rest)) begin
        (λ known held own. fetches_each g fs k.nests places fetches first O R seated buffered owns own_function (sites_of a g fs k) (grid_scope k.grid) n 1 (begin + 1) (fetched_groups fs n 0 entries)
        b.fetches needs b.fetched fetching 0 (λ j t e. let none : 0 + j ≡ j = omega arith in ap (slice_get fetches) none ∙ e) fetch_named (omega arith) nests_line (omega arith) rest nests known held
        own) in
        let lets = (names_own f.variables (bodies_from f.changes 0 (reductions_of f.changes) fs) g.placed h.extents k h.laid).lets in
        let code : Statements = lines_to k.head (block (Alloc 0 f.name places ∷ with_fetches fetches rest)) in
        let begun : EachOf O R Here code (line + 1) (start (grid_binders q.grid.items)) =
        lets_at g fs k.nests places fetches first O R seated buffered owns own_function k.head (block (Alloc 0 f.name places ∷ with_fetches fetches rest)) (line + 1) begin lets refl inner
        (start (grid_binders q.grid.items)) in
        let there_line : EachOf O R Here code (body_line plan n) (start (grid_binders q.grid.items)) = subst (λ (m : ℕ). EachOf O R Here code m (start (grid_binders q.grid.items))) (sym
        lined) begun in
        subst (λ (s : Statement). EachLine O R Here s (body_line plan n) (start (grid_binders q.grid.items))) (sym b.with.is) there_line

    pub body_holds : EachLine O R Holding_here (statement_of q.body) (body_line plan n) (start (grid_binders q.grid.items))
    body_holds = lines_weaker O R Here Holding_here one_holds (statement_of q.body) (body_line plan n) (start (grid_binders q.grid.items)) body_stored

  shown_at : (n : ℕ) (q : CodeGroup) → slice_get l.plan.groups.items n ≡ Some q → StoreNamesHold a plan cert n (group_of q)
  shown_at n q theirs =
      let me = made_at a sch l well legal small kept all groups n q theirs in
      let w = found a sch flags_of me.stored a.functions n me.is in
      let b = placed_body a entries mine 0 0 4 (stored_functions a sch) l.plan.groups.items mine l.certificate.needs.items (groups.bodies all)
      (λ j v e. let none : 0 + j ≡ j = omega arith in ap (slice_get mine) none ∙ e) n me.stored q me.is theirs in
      let counted : 0 + n ≡ n = omega arith in
      let there : slice_get (stored_functions a sch) n ≡ Some (texts w.function) = me.is ∙ ap (λ (u : StoredText). Some u) w.is in
      let body = subst (λ (u : StoredText). HasBody a entries n b.first_claim b.line u q b.claims b.needs) w.is
      (subst (λ (i : ℕ). HasBody a entries i b.first_claim b.line me.stored q b.claims b.needs) counted b.body) in
      let lined = b.lined in
      let begins : body_line plan n ≡ b.line + 1 = omega (arith, lined) in
      body_holds n q w.place w.function w.at there b.first_claim b.line b.claims b.needs theirs body
      (held a sch l well legal small kept all groups told n b.first_claim b.line (texts w.function) q b.claims b.needs there theirs body b.numbered b.lined) b.numbered begins

pub shown : StoreNamesAreShown
shown a s l well legal small regions groups all told n g at free =
    let x = from_map group_of l.plan.groups.items n g at in
    subst (λ (u : Group). StoreNamesHold a (plan_of l.plan) (certificate_of l.certificate) n u) (sym x.2) (shown_at a s l well legal small (regions all).0 all groups told free n x.0 x.1)
