-- What a plain store asks for is shown.
use Rattle.std.proofs.Common.{◌≡◌, ℕ, zero, suc, Bool, true, false, List, [], ◌∷◌, ◌++◌, map, Option, refl, ap, ◌∙◌, inl, inr}
use Rattle.std.specs.Prelude.{if◌then◌else◌, filter, flat_map}
use Rattle.std.specs.List.{AllByRecursion, list_all}
use Rattle.tree.specs.Term.{Term, Number, Name, Call, Minus, Binary, Clamp, Cast, Choice, Terms, End, More, Test, Compares, Fails, Both, Either}
use Rattle.tree.specs.Uses.{EachCall, EachCallOfTest, EachCallOfAll}
use Rattle.lin.specs.declared.span.Span1.{Span1}
use Rattle.meaning.specs.Algorithm.{Algorithm}
use Rattle.plan.specs.declared.stmt.Places.{Places}
use Rattle.plan.specs.Plan.{Index, At, Found, Coordinate}
use Rattle.plan.specs.Semantics.Run.{Source, Input, ByClaim, Unknown}
use Rattle.soundness.specs.Claims.{In}
use Rattle.soundness.specs.Obligations.{Updating, Known, Rules, Inside, Obligation, NotClaimed, NotTheDefinition, obligation, places_of, seated, region_of, intervals, load_obligations, loads, loads_of_test, loads_of_all, serves, is_begun, claimed, index_loads, coordinate_loads, may_load, met, variable_span, store_obligations}
use Rattle.soundness.specs.Origins.{Outline}
use Rattle.soundness.specs.Shown.{are_within, Nests, shows, is_shown}
use Rattle.soundness.specs.Nests.Laws.{domains_of}
use Rattle.tails.specs.Windows.Nests.{slid_nests}
use Rattle.audit.specs.Verdict.Shown.Plain.{names_of, left_spans, places_written, HasPlaces, IsReadable, IsIndexReadable, IsUnderWay, IsPlainStore}
use Rattle.audit.proofs.OfVerdict.Bools.{both, all_both}

module _ (rules : Rules) (a : Algorithm) (outline : Outline) where
  abbrev tests : Nests
  tests = slid_nests outline rules (domains_of a)

  abbrev test : Obligation → Bool
  test = is_shown rules tests

  abbrev AreShown : List Obligation → Type 0
  AreShown os = list_all test os ≡ true

  pub places_shown : (known : Known) (b : ℕ) (xs : List Span1) → HasPlaces rules a outline known b xs → shows rules tests known.binders (seated outline rules (places_of known.buffers b) xs) ≡ true
  places_shown known b xs h = ap (λ (o : Option (List Places)). shows rules tests known.binders (seated outline rules o xs)) h.stand ∙ h.seated

  -- ---- loads
  module _ (line : ℕ) (known : Known) (may : ℕ → Bool) (meets : ℕ → List (List Span1)) where
    all_met : (xs : List Span1) (yss : List (List Span1)) → AllByRecursion (λ ys. are_within rules known.binders xs ys ≡ true) yss →
        AreShown (map (λ ys. obligation outline rules NotTheDefinition line known (Inside xs ys)) yss)
    all_met xs [] h = refl
    all_met xs (ys ∷ yss) h = both (are_within rules known.binders xs ys) _ h.0 (all_met xs yss h.1)

    load_shown : (from : Source) (xs : List Span1) → IsReadable rules a outline known may meets xs from → AreShown (load_obligations outline rules line known may meets from xs)
    load_shown Input xs h = both (are_within rules known.binders xs rules.extents) true h refl
    load_shown (ByClaim c) xs h =
        both (shows rules tests known.binders (seated outline rules (places_of known.buffers (outline.claim c).buffer) xs)) _ (places_shown known (outline.claim c).buffer xs h.stored)
        (both (may c) _ h.used (both (are_within rules known.binders xs (region_of outline rules c)) _ h.inside (all_met xs (meets c) h.met)))
    load_shown Unknown xs h = absurd h

    module _ (names : List (List ℕ)) (vars : List Span1) where
      abbrev Reads : List ℕ → Terms → Type 0
      Reads name at = IsReadable rules a outline known may meets (intervals outline rules known.binders names vars at) (outline.source name)

      mutual
        pub loads_shown : (e : Term) → EachCall Reads e → AreShown (loads outline rules line known may meets names vars e)
        loads_shown (Number t n) h = refl
        loads_shown (Name name) h = refl
        loads_shown (Call name at) h =
            all_both test (loads_of_all outline rules line known may meets names vars at) _ (all_loads_shown at h.1)
            (load_shown (outline.source name) (intervals outline rules known.binders names vars at) h.0)
        loads_shown (Minus b) h = loads_shown b h
        loads_shown (Binary op b c) h = all_both test (loads outline rules line known may meets names vars b) _ (loads_shown b h.0) (loads_shown c h.1)
        loads_shown (Clamp b l u) h =
            all_both test (loads outline rules line known may meets names vars b) _ (loads_shown b h.0)
            (all_both test (loads outline rules line known may meets names vars l) _ (loads_shown l h.1) (loads_shown u h.2))
        loads_shown (Cast t b) h = loads_shown b h
        loads_shown (Choice c b d) h =
            all_both test (loads_of_test outline rules line known may meets names vars c) _ (test_loads_shown c h.0)
            (all_both test (loads outline rules line known may meets names vars b) _ (loads_shown b h.1) (loads_shown d h.2))

        test_loads_shown : (c : Test) → EachCallOfTest Reads c → AreShown (loads_of_test outline rules line known may meets names vars c)
        test_loads_shown (Compares by b c) h = all_both test (loads outline rules line known may meets names vars b) _ (loads_shown b h.0) (loads_shown c h.1)
        test_loads_shown (Fails c) h = test_loads_shown c h
        test_loads_shown (Both c d) h = all_both test (loads_of_test outline rules line known may meets names vars c) _ (test_loads_shown c h.0) (test_loads_shown d h.1)
        test_loads_shown (Either c d) h = all_both test (loads_of_test outline rules line known may meets names vars c) _ (test_loads_shown c h.0) (test_loads_shown d h.1)

        all_loads_shown : (at : Terms) → EachCallOfAll Reads at → AreShown (loads_of_all outline rules line known may meets names vars at)
        all_loads_shown End h = refl
        all_loads_shown (More b rest) h = all_both test (loads outline rules line known may meets names vars b) _ (loads_shown b h.0) (all_loads_shown rest h.1)

      index_shown : (i : Index) → IsIndexReadable rules a outline known may meets names vars i → AreShown (index_loads outline rules line known may meets names vars i)
      index_shown (At l) h = refl
      index_shown (Found e) h = loads_shown e h

      pub indices_shown : (at : List Coordinate) → AllByRecursion (λ c. IsIndexReadable rules a outline known may meets names vars c.index) at →
          AreShown (flat_map (coordinate_loads outline rules line known may meets names vars) at)
      indices_shown [] h = refl
      indices_shown (c ∷ cs) h = all_both test (index_loads outline rules line known may meets names vars c.index) _ (index_shown c.index h.0) (indices_shown cs h.1)

  -- ---- stores
  module _ (line : ℕ) (known : Known) (b : ℕ) (f : List ℕ) where
    nests_shown : (k : ℕ) (places : List Span1) (us : List Updating) →
        ((u : Updating) → In u us → serves outline rules b f (suc k) u ≡ true → are_within rules known.binders places (outline.claim u.next).region ≡ true) →
        AreShown (map (λ u. obligation outline rules NotClaimed line known (Inside places (region_of outline rules u.next))) (filter (serves outline rules b f (suc k)) us))
    nests_shown k places [] h = refl
    nests_shown k places (u ∷ us) h = of (serves outline rules b f (suc k) u) (h u (inl refl)) (nests_shown k places us (λ v m. h v (inr m)))
      where
        of : (v : Bool) → (v ≡ true → are_within rules known.binders places (outline.claim u.next).region ≡ true) →
            AreShown (map (λ u. obligation outline rules NotClaimed line known (Inside places (region_of outline rules u.next))) (filter (serves outline rules b f (suc k)) us)) →
            AreShown (map (λ u. obligation outline rules NotClaimed line known (Inside places (region_of outline rules u.next))) (if v then u ∷ filter (serves outline rules b f (suc k)) us else filter (serves outline rules b f (suc k)) us))
        of true here rest = both (are_within rules known.binders places (outline.claim u.next).region) _ (here refl) rest
        of false here rest = rest

    begun_shown : (k : ℕ) (places : List Span1) → IsUnderWay rules a outline known b f k places → is_begun outline rules known b f k ≡ true
    begun_shown zero places h = refl
    begun_shown (suc k) places h = h.0

    claimed_shown : (k : ℕ) (places : List Span1) → IsUnderWay rules a outline known b f k places → AreShown (claimed outline rules line known b f k places)
    claimed_shown zero places h = refl
    claimed_shown (suc k) places h = nests_shown k places known.updating h.1

    pub store_shown : (k : ℕ) (at over : List Coordinate) (e : Term) → IsPlainStore rules a outline known b f k at over e → AreShown (store_obligations outline rules line known b f k at over e)
    store_shown k at over e h =
        let may = may_load outline rules known b f k in
        let meets = met outline rules f k at in
        let places = places_written outline rules known at over in
        both (shows rules tests known.binders (seated outline rules (places_of known.buffers b) places)) _ (places_shown known b places h.stored)
        (both (is_begun outline rules known b f k) _ (begun_shown k places h.updated)
        (all_both test (claimed outline rules line known b f k places) _ (claimed_shown k places h.updated)
        (all_both test (flat_map (coordinate_loads outline rules line known may meets (names_of at over) (left_spans outline rules at over)) at) _
        (indices_shown line known may meets (names_of at over) (left_spans outline rules at over) at h.left)
        (loads_shown line known may meets (names_of at over) (places ++ map (variable_span outline rules) over) e h.right))))
