-- Where all that a piece's lines ask for is meant, the lines are sound.
use Rattle.std.proofs.Common.{◌≡◌, ℕ, zero, suc, ◌+◌, ◌-◌, Bool, true, false, List, [], ◌∷◌, ◌++◌, map, Option, Some, None, refl, sym, ap, ◌∙◌, subst, inl, inr, arith, append_assoc, take, drop}
use Rattle.std.specs.Prelude.{ℤ, pos, ◌≤ℤ◌, IsTrue, IsSome, ◌==◌, ◌||◌, ◌&&◌, if◌then◌else◌, ◌⊎◌, int_le, flat_map, filter}
use Rattle.std.specs.List.{AllByRecursion, list_any, list_all}
use Rattle.std.proofs.lemmas.Int.{ints}
use Rattle.std.proofs.lemmas.List.{take-append-drop}
use Rattle.tree.specs.Term.{Term, Number, Name, Call, Minus, Binary, Clamp, Cast, Choice, Terms, End, More, Test, Compares, Fails, Both, Either}
use Rattle.tree.specs.Meaning.{numbers_of}
use Rattle.meaning.specs.Names.{same_name, bound}
use Rattle.lin.specs.Forms.{Form, number}
use Rattle.lin.specs.declared.span.Span1.{Span1}
use Rattle.plan.specs.declared.stmt.Places.{Places}
use Rattle.plan.specs.declared.stmt.Kind.{Kind}
use Rattle.plan.specs.declared.stmt.Pick.{Pick}
use Rattle.plan.specs.declared.stmt.Pick.TheVariants.{Min, Max}
use Rattle.plan.specs.declared.certificate.cert.Window.{Window}
use Rattle.plan.specs.Certificate.Certificate.{Claim}
use Rattle.plan.specs.Plan.{Index, At, Found, Coordinate, Statement, Seq, For, Let, First, Guard, Alloc, Fetch, Store, Publish, Statements, Empty, Then}
use Rattle.plan.specs.Symbols.{Symbols, bind, form_value, largest, turns, InRegion}
use Rattle.plan.specs.Rooms.{Room, room}
use Rattle.plan.specs.Lines.{lines}
use Rattle.plan.specs.Semantics.Actions.{Action, Change, Target, Fixed, fixed, are_fixed, index_target, target, action_for, store_action, actions, block_actions, after}
use Rattle.plan.specs.Semantics.Memory.{place_in}
use Rattle.plan.specs.Semantics.Found.{EachRead, EachTestRead, EachReadOfAll}
use Rattle.plan.specs.Semantics.Run.{Source, Input, ByClaim, Unknown}
use Rattle.soundness.specs.Origins.{Given, windowed, Reader, Plain, Within, matches, or_same, done_for, answer, target_point, left_variables, left_point, EachTargetRead}
use Rattle.soundness.specs.Claims.{In, function_of, choose_facts, is_updated, handed_on, left, changes, updates, block_updates, writes, written, ClearOf, Fact, Scope, buffer_of, status_after, InForce, SourceMayUse, MayUse, Earlier, Before, stable, keep, new_fact, more_rooms, onward, turn_symbols, in_turn, IsMade, AreMade, IsSoundAction, IsSound, IsSoundBlock}
use Rattle.soundness.specs.Around.{Lies, LieIn, Passed, picked, Respects, inside}
use Rattle.soundness.specs.Obligations.{exactly, Buffer, Updating, Known, Rules, NotClaimed, NotMade, NotTheDefinition, Named, Inside, InTurn, Obligation, is_member, window_of, without, kept_of, places_of, span_has, binder_has, places_have, is_free, is_next, region_of, has_symbol, obligation, is_left, follows, nests_of, within, in_guard, in_block, in_loop, more_buffers, onwards, from_each, seated, is_usable, serves, may_load, index_met, met, load_obligations, intervals, loads, loads_of_test, loads_of_all, index_span, variable_span, index_place, target_span, index_loads, coordinate_loads, claimed, store_obligations, made, slid, held, turn_code, turn_line, earlier_obligations, making_obligations, claim_obligations, turn_obligations, block_obligations, AreInTurn, begun, MeantAt, Meant, AllMeant, Suited, form_has, has_form, is_form, is_covered_line, is_covered, is_covered_block}
use Rattle.soundness.specs.Handed.{IsHandedOn}
use Rattle.soundness.proofs.Refines.{eq_true, eq_refl, name_true, number_refl, and_parts}
use Rattle.soundness.proofs.Updates.{target_matches}
use Rattle.soundness.proofs.Ongoing.{OnlySteps, only_steps, status_spared, turn_first, turn_rest, force_right, force_before, force_chosen, force_stable, force_keep, rooms_stay, force_left, some_before, turns_with}
use Rattle.soundness.proofs.Sound.{or_left, or_right, leaves, writing}
use Rattle.soundness.proofs.Turns.{in_append, in_flat, in_map}
use Rattle.soundness.proofs.Kept.{in_filtered, member_of, claim_handed, rest_awaited, AreAwaited, AwaitedIn, none_awaited, AreCarried, first_carried, one_turn}
use Rattle.soundness.proofs.Sliding.{sliding_is_made}
use Rattle.soundness.proofs.Forms.{is_not, rec_left, rec_right, region_lies, lies_region, turn_lies, point_lies, lie_in_back, lies_on, picked_same, respects_on, rooms_same, none_of, filter_member, member_left, member_right, member_filter, pick_one}

le_true : (a b : ℤ) → int_le a b ≡ true → a ≤ℤ b
le_true a b h = grind (arith, ints)

-- a member that passes the test, with what is known of it
any_here : {A : Type 0} (test : A → Bool) (x : A) (xs : List A) (v : Bool) → test x ≡ v → (list_any test xs ≡ true → (y : A) × In y xs × (test y ≡ true)) → (v || list_any test xs) ≡ true → (y : A) × In y (x ∷ xs) × (test y ≡ true)
any_here test x xs true t rest k = (x, inl refl, t)
any_here test x xs false t rest k = let r = rest k in (r.0, inr r.1, r.2)

any_in : {A : Type 0} (test : A → Bool) (xs : List A) → list_any test xs ≡ true → (x : A) × In x xs × (test x ≡ true)
any_in test [] k = absurd (cc k)
any_in test (x ∷ xs) k = any_here test x xs (test x) refl (any_in test xs) k

pick_first : {A B : Type 0} (P : B → Type 0) (g : A → B) (test : A → Bool) (x : A) (xs : List A) (v : Bool) → test x ≡ v →
    (list_any test xs ≡ true → AllByRecursion P (map g (filter test xs)) → (y : A) × In y xs × (test y ≡ true) × P (g y)) →
    (v || list_any test xs) ≡ true → AllByRecursion P (map g (if v then x ∷ filter test xs else filter test xs)) → (y : A) × In y (x ∷ xs) × (test y ≡ true) × P (g y)
pick_first P g test x xs true t rest k h = (x, inl refl, t, h.0)
pick_first P g test x xs false t rest k h = let r = rest k h in (r.0, inr r.1, r.2, r.3)

pick_in : {A B : Type 0} (P : B → Type 0) (g : A → B) (test : A → Bool) (xs : List A) → list_any test xs ≡ true → AllByRecursion P (map g (filter test xs)) → (x : A) × In x xs × (test x ≡ true) × P (g x)
pick_in P g test [] k h = absurd (cc k)
pick_in P g test (x ∷ xs) k h = pick_first P g test x xs (test x) refl (pick_in P g test xs) k h

none_in : {A : Type 0} (test : A → Bool) (x : A) (xs : List A) → list_any test xs ≡ false → In x xs → test x ≡ false
none_in test x [] h m = absurd m
none_in test x (y ∷ ys) h (inl e) = ap test e ∙ or_left (test y) (list_any test ys) h
none_in test x (y ∷ ys) h (inr m) = none_in test x ys (or_right (test y) (list_any test ys) h) m

member_append : (c : ℕ) (xs ys : List ℕ) → is_member c (xs ++ ys) ≡ true → (is_member c xs ≡ true) ⊎ (is_member c ys ≡ true)
member_append c [] ys m = inr m
member_append c (x ∷ xs) ys m = of (x == c) (is_member c xs) (is_member c (xs ++ ys)) (member_append c xs ys) m
  where
    of : (v some all : Bool) → (all ≡ true → (some ≡ true) ⊎ (is_member c ys ≡ true)) → (v || all) ≡ true → ((v || some) ≡ true) ⊎ (is_member c ys ≡ true)
    of true some all rest k = inl refl
    of false some all rest k = rest k

module _ (given : Given) (rules : Rules) where
  abbrev spans : ℕ → List Span1
  spans c = (given.outline.claim c).region

  -- what the checker knows at a line is so of what is known at given values of the symbols
  pub record Stands (known : Known) (sc : Scope) : Type 0 where
    pub respects : Respects known.binders sc.symbols
    pub rooms : (b : ℕ) (places : List Places) → places_of known.buffers b ≡ Some places → sc.rooms b ≡ Some (map (room sc.symbols) places)
    pub free : (b : ℕ) → places_of known.buffers b ≡ None → sc.rooms b ≡ None
    pub claims : (c : ℕ) → is_member c known.claims ≡ true → (p : List ℤ) → InRegion sc.symbols (spans c) p →
        InForce given sc.facts c p (given.steps (given.outline.claim c).function (given.outline.claim c).definition)
    pub own : (c : ℕ) → is_member c known.own ≡ true → is_member c known.claims ≡ true

  force_new_one : (s : Symbols) (c d : ℕ) (p : List ℤ) (v more : Bool) (hs : List Fact) → (d == c) ≡ v → InRegion s (spans c) p →
      (more ≡ true → InForce given hs c p (given.steps (given.outline.claim c).function (given.outline.claim c).definition)) → (v || more) ≡ true →
      InForce given (new_fact given s d ∷ hs) c p (given.steps (given.outline.claim c).function (given.outline.claim c).definition)
  force_new_one s c d p true more hs e r rest k =
      let same : d ≡ c = eq_true d c e in
      inl (same, subst (λ n. InRegion s (spans n) p) (sym same) r, ap (λ n. Some (given.steps (given.outline.claim n).function (given.outline.claim n).definition)) same)
  force_new_one s c d p false more hs e r rest k = inr (rest k)

  force_new : (s : Symbols) (c : ℕ) (p : List ℤ) (cs : List ℕ) (hs : List Fact) → is_member c cs ≡ true → InRegion s (spans c) p →
      InForce given (map (new_fact given s) cs ++ hs) c p (given.steps (given.outline.claim c).function (given.outline.claim c).definition)
  force_new s c p [] hs m r = absurd (cc m)
  force_new s c p (d ∷ cs) hs m r =
      force_new_one s c d p (d == c) (is_member c cs) (map (new_fact given s) cs ++ hs) refl r (λ k. force_new s c p cs hs k r) m

  force_earlier : (facts : List Fact) (c b : ℕ) (f : List ℕ) (p : List ℤ) (d : ℕ) → (given.outline.claim c).buffer ≡ b → (given.outline.claim c).function ≡ f → InForce given facts c p d → Earlier given facts b f p d
  force_earlier [] c b f p d eb ef m = absurd m
  force_earlier (h ∷ hs) c b f p d eb ef (inl m) = inl (ap (λ n. (given.outline.claim n).buffer) m.0 ∙ eb, ap (λ n. (given.outline.claim n).function) m.0 ∙ ef, m.1, m.2)
  force_earlier (h ∷ hs) c b f p d eb ef (inr m) = inr (force_earlier hs c b f p d eb ef m)

  some_axes_one : (i : ℕ) (own places : List Places) (more : Option (List Places)) (v : Bool) → list_any (places_have i) own ≡ false → (more ≡ Some places → list_any (places_have i) places ≡ false) → (if v then Some own else more) ≡ Some places → list_any (places_have i) places ≡ false
  some_axes_one i own places more true h rest k = let same : own ≡ places = cc in ap (list_any (places_have i)) (sym same) ∙ h
  some_axes_one i own places more false h rest k = rest k

  some_axes : (i b : ℕ) (bs : List Buffer) (places : List Places) → list_any (λ x. list_any (places_have i) x.places) bs ≡ false → places_of bs b ≡ Some places → list_any (places_have i) places ≡ false
  some_axes i b [] places h e = absurd (cc e)
  some_axes i b (x ∷ xs) places h e =
      some_axes_one i x.places places (places_of xs b) (b == x.name) (or_left (list_any (places_have i) x.places) (list_any (λ x. list_any (places_have i) x.places) xs) h)
      (some_axes i b xs places (or_right (list_any (places_have i) x.places) (list_any (λ x. list_any (places_have i) x.places) xs) h)) e

  -- in a turn of a loop
  turn_stands : (i : ℕ) (x : Span1) (body : Statement) (known : Known) (sc : Scope) (z : ℤ) (carried : List Fact) → has_symbol given.outline rules i x known ≡ false → Stands known sc → In z (turns sc.symbols x) →
      Stands (in_loop given.outline rules i x body known) (in_turn given (turn_symbols given sc.symbols i (largest sc.symbols x.lower) z) body sc carried)
  turn_stands i x body known sc z carried new st m =
      let low = int_le z (largest sc.symbols x.lower) in
      let h0 = span_has i x in
      let h1 = list_any (binder_has i) known.binders in
      let h2 = list_any (λ b. list_any (places_have i) b.places) known.buffers in
      let h3 = list_any (λ c. list_any (span_has i) (region_of given.outline rules c)) known.claims in
      let h4 = list_any (λ u. list_any (span_has i) (region_of given.outline rules u.before) || list_any (span_has i) (region_of given.outline rules u.next)) known.updating in
      let n0 : h0 ≡ false = or_left h0 (h1 || (h2 || (h3 || h4))) new in
      let r0 : (h1 || (h2 || (h3 || h4))) ≡ false = or_right h0 (h1 || (h2 || (h3 || h4))) new in
      let n1 : h1 ≡ false = or_left h1 (h2 || (h3 || h4)) r0 in
      let r1 : (h2 || (h3 || h4)) ≡ false = or_right h1 (h2 || (h3 || h4)) r0 in
      let n2 : h2 ≡ false = or_left h2 (h3 || h4) r1 in
      let r2 : (h3 || h4) ≡ false = or_right h2 (h3 || h4) r1 in
      let n3 : h3 ≡ false = or_left h3 h4 r2 in
      record {
        respects = (
          subst (λ v. Lies (bind sc.symbols i z low) x v) (let e : (i == i) ≡ true = eq_refl i in sym (rw e refl)) (lies_on sc.symbols i z low x z n0 (turn_lies sc.symbols x z m)),
          respects_on sc.symbols i z low known.binders n1 st.respects,
        );
        rooms = λ b places e. st.rooms b places e ∙ ap Some (sym (rooms_same sc.symbols i z low places (some_axes i b known.buffers places n2 e)));
        free = st.free;
        claims = λ c n p r.
            let k = filter_member (is_left given.outline rules body) c known.claims n in
            let old = lie_in_back sc.symbols i z low (region_of given.outline rules c) p (none_of (λ c. list_any (span_has i) (region_of given.outline rules c)) c known.claims n3 k.0) (region_lies (bind sc.symbols i z low) (spans c) p r) in
            force_right given c p _ carried (stable given body sc.facts) (force_stable given body c p _ sc.facts (is_not _ k.1) (st.claims c k.0 p (lies_region sc.symbols (spans c) p old)));
        own = λ c n. absurd (cc n);
      }

  -- ---- nests of updates under way

  -- a point of the region of the nest's claim, or of the claim before
  abbrev pub Near : Symbols → Updating → List ℤ → Type 0
  Near s u p = InRegion s (spans u.before) p ⊎ InRegion s (spans u.next) p

  -- where these actions of the nest are still to come: the claim before says how many steps are done of each point, and the
  -- actions do the next ones in their turn
  pub record Ongoing (u : Updating) (todo : List Action) (s : Symbols) (rooms : ℕ → Option (List Room)) (facts : List Fact) : Type 0 where
    pub buffer : (given.outline.claim u.before).buffer ≡ (given.outline.claim u.next).buffer
    pub function : (given.outline.claim u.before).function ≡ (given.outline.claim u.next).function
    pub room : IsSome (rooms (given.outline.claim u.next).buffer)
    pub done : List ℤ → Option ℕ
    pub in_force : (p : List ℤ) (n : ℕ) → Near s u p → done p ≡ Some n → InForce given facts u.before p n
    pub in_turn : AreInTurn given (given.outline.claim u.next).buffer (given.outline.claim u.next).function (given.outline.claim u.next).definition done todo

  -- a statement within the nest only updates the nest's buffer
  abbrev pub IsOngoing : Statement → Updating → Scope → Type 0
  IsOngoing a u sc = (updates given.outline.setting a (given.outline.claim u.next).buffer (given.outline.claim u.next).function ≡ true) × Ongoing u (actions given.outline.setting a sc.symbols) sc.symbols sc.rooms sc.facts

  abbrev pub AreOngoing : Statement → Known → Scope → Type 0
  AreOngoing a known sc = (u : Updating) → In u known.updating → IsOngoing a u sc

  -- ---- stores and loads

  seated_at : (b : ℕ) (xs : List Span1) (p : List ℤ) (known : Known) (sc : Scope) (o : Option (List Places)) → places_of known.buffers b ≡ o → Stands known sc →
      MeantAt given (seated given.outline rules o xs) sc.symbols → LieIn sc.symbols xs p → IsSome (place_in (sc.rooms b) p)
  seated_at b xs p known sc None e st h l = absurd (cc h)
  seated_at b xs p known sc (Some places) e st h l = let P : Option (List Room) → Type 0 = λ r. IsSome (place_in r p) in subst P (sym (st.rooms b places e)) (h p l)

  module _ (suited : Suited given rules) where
    usable : (known : Known) (sc : Scope) (c : ℕ) (p : List ℤ) → Stands known sc → is_usable given.outline rules known c ≡ true → InRegion sc.symbols (spans c) p → InForce given sc.facts c p (given.all_steps (given.outline.claim c).function)
    usable known sc c p st h r =
        let k = and_parts (is_member c known.claims) ((given.outline.claim c).definition == rules.last (given.outline.claim c).function) h in
        let last = ap (given.steps (given.outline.claim c).function) (eq_true (given.outline.claim c).definition (rules.last (given.outline.claim c).function) k.1) ∙ suited.whole (given.outline.claim c).function in
        subst (λ d. InForce given sc.facts c p d) last (st.claims c k.0 p r)

    all_rows : (xs : List Span1) (p : List ℤ) (line : ℕ) (known : Known) (sc : Scope) (rows : List (List Span1)) → Stands known sc → LieIn sc.symbols xs p → AllMeant given (map (λ ys. obligation given.outline rules NotTheDefinition line known (Inside xs ys)) rows) → AllByRecursion (λ ys. LieIn sc.symbols ys p) rows
    all_rows xs p line known sc [] st l h = tt
    all_rows xs p line known sc (ys ∷ rows) st l h = (h.0 sc.symbols st.respects p l, all_rows xs p line known sc rows st l h.1)

    module _ (line : ℕ) (known : Known) (sc : Scope) (may : ℕ → Bool) (meets : ℕ → List (List Span1)) (r : Reader) (st : Stands known sc)
        (use_of : (c : ℕ) (p : List ℤ) → may c ≡ true → InRegion sc.symbols (spans c) p → AllByRecursion (λ ys. LieIn sc.symbols ys p) (meets c) → InForce given sc.facts c p (done_for given r c)) where
      load_at : (from : Source) (xs : List Span1) (p : List ℤ) → LieIn sc.symbols xs p → AllMeant given (load_obligations given.outline rules line known may meets from xs) → SourceMayUse given sc.facts r from p
      load_at Input xs p l h = suited.inside sc.symbols p (h.0 sc.symbols st.respects p l)
      load_at (ByClaim c) xs p l h =
          use_of c p (h.1.0 sc.symbols st.respects) (lies_region sc.symbols (spans c) p (h.1.1.0 sc.symbols st.respects p l)) (all_rows xs p line known sc (meets c) st l h.1.1.1)
      load_at Unknown xs p l h = absurd (cc (h.0 sc.symbols st.respects))

      module _ (names : List (List ℕ)) (vars : List Span1) (p : List ℤ) (l : LieIn sc.symbols vars p) where
        intervals_lie : (at : Terms) → LieIn sc.symbols (intervals given.outline rules known.binders names vars at) (numbers_of (bound names p) (answer given r) at)
        intervals_lie End = tt
        intervals_lie (More a rest) = (suited.bounded known.binders names vars a r sc.symbols p st.respects l, intervals_lie rest)

        abbrev ls : Term → List Obligation
        ls e = loads given.outline rules line known may meets names vars e

        abbrev lt : Test → List Obligation
        lt c = loads_of_test given.outline rules line known may meets names vars c

        abbrev la : Terms → List Obligation
        la at = loads_of_all given.outline rules line known may meets names vars at

        mutual
          reads_at : (e : Term) → AllMeant given (ls e) → EachRead (bound names p) (answer given r) (MayUse given sc.facts r) e
          reads_at (Number t n) h = tt
          reads_at (Name name) h = tt
          reads_at (Call name at) h =
              let P = Meant given in
              let xs = la at in
              let ys = load_obligations given.outline rules line known may meets (given.outline.source name) (intervals given.outline rules known.binders names vars at) in (
                load_at (given.outline.source name) _ _ (intervals_lie at) (rec_right P xs ys h),
                reads_of_all at (rec_left P xs ys h),
              )
          reads_at (Minus a) h = reads_at a h
          reads_at (Binary op a b) h = let P = Meant given in (reads_at a (rec_left P (ls a) (ls b) h), reads_at b (rec_right P (ls a) (ls b) h))
          reads_at (Clamp a b c) h =
              let P = Meant given in
              let rest = rec_right P (ls a) (ls b ++ ls c) h in
              (reads_at a (rec_left P (ls a) (ls b ++ ls c) h), reads_at b (rec_left P (ls b) (ls c) rest), reads_at c (rec_right P (ls b) (ls c) rest))
          reads_at (Cast t a) h = reads_at a h
          reads_at (Choice c a b) h =
              let P = Meant given in
              let rest = rec_right P (lt c) (ls a ++ ls b) h in
              (reads_of_test c (rec_left P (lt c) (ls a ++ ls b) h), reads_at a (rec_left P (ls a) (ls b) rest), reads_at b (rec_right P (ls a) (ls b) rest))

          reads_of_test : (c : Test) → AllMeant given (lt c) → EachTestRead (bound names p) (answer given r) (MayUse given sc.facts r) c
          reads_of_test (Compares by a b) h = let P = Meant given in (reads_at a (rec_left P (ls a) (ls b) h), reads_at b (rec_right P (ls a) (ls b) h))
          reads_of_test (Fails c) h = reads_of_test c h
          reads_of_test (Both c d) h = let P = Meant given in (reads_of_test c (rec_left P (lt c) (lt d) h), reads_of_test d (rec_right P (lt c) (lt d) h))
          reads_of_test (Either c d) h = let P = Meant given in (reads_of_test c (rec_left P (lt c) (lt d) h), reads_of_test d (rec_right P (lt c) (lt d) h))

          reads_of_all : (at : Terms) → AllMeant given (la at) → EachReadOfAll (bound names p) (answer given r) (MayUse given sc.facts r) at
          reads_of_all End h = tt
          reads_of_all (More a rest) h = let P = Meant given in (reads_at a (rec_left P (ls a) (la rest) h), reads_of_all rest (rec_right P (ls a) (la rest) h))

    exact : (s : Symbols) (l : Form) → Lies s (exactly l) (form_value l s)
    exact s l = ((omega (arith, ints), tt), (omega (arith, ints), tt))

    -- the stored point lies in the spans of the places
    index_lies : (s : Symbols) (known : Known) (names : List (List ℕ)) (vars : List Span1) (i : Index) → has_form i ≡ true → Lies s (index_place given.outline rules known names vars i) (fixed (index_target s i))
    index_lies s known names vars (At l) h = exact s l
    index_lies s known names vars (Found e) h = absurd (cc h)

    targets_lie : (s : Symbols) (known : Known) (names : List (List ℕ)) (vars : List Span1) (at : List Coordinate) → list_all is_form at ≡ true → LieIn s (map (target_span given.outline rules known names vars) at) (map fixed (map (target s) at))
    targets_lie s known names vars [] h = tt
    targets_lie s known names vars (c ∷ at) h =
        let k = and_parts (is_form c) (list_all is_form at) h in (index_lies s known names vars c.index k.0, targets_lie s known names vars at k.1)

    no_loads : (line : ℕ) (known : Known) (may : ℕ → Bool) (meets : ℕ → List (List Span1)) (names : List (List ℕ)) (vars : List Span1) (i : Index) (more : List Obligation) → has_form i ≡ true → AllMeant given (index_loads given.outline rules line known may meets names vars i ++ more) → AllMeant given more
    no_loads line known may meets names vars (At l) more h a = a
    no_loads line known may meets names vars (Found e) more h a = absurd (cc h)

    no_index_loads : (line : ℕ) (known : Known) (may : ℕ → Bool) (meets : ℕ → List (List Span1)) (names : List (List ℕ)) (vars : List Span1) (at : List Coordinate) (more : List Obligation) → list_all is_form at ≡ true →
        AllMeant given (flat_map (coordinate_loads given.outline rules line known may meets names vars) at ++ more) → AllMeant given more
    no_index_loads line known may meets names vars [] more h a = a
    no_index_loads line known may meets names vars (c ∷ at) more h a =
        let k = and_parts (is_form c) (list_all is_form at) h in
        no_index_loads line known may meets names vars at more k.1
        (no_loads line known may meets names vars c.index (flat_map (coordinate_loads given.outline rules line known may meets names vars) at ++ more) k.0
        (subst (AllMeant given) (append_assoc (index_loads given.outline rules line known may meets names vars c.index) (flat_map (coordinate_loads given.outline rules line known may meets names vars) at) more) a))

    fixed_one : (s : Symbols) (i : Index) (ts : List Target) → has_form i ≡ true → are_fixed (index_target s i ∷ ts) ≡ are_fixed ts
    fixed_one s (At l) ts h = refl
    fixed_one s (Found e) ts h = absurd (cc h)

    forms_fixed : (s : Symbols) (at : List Coordinate) → list_all is_form at ≡ true → are_fixed (map (target s) at) ≡ true
    forms_fixed s [] h = refl
    forms_fixed s (c ∷ at) h =
        let k = and_parts (is_form c) (list_all is_form at) h in fixed_one s c.index (map (target s) at) k.0 ∙ forms_fixed s at k.1

    append_none : {A : Type 0} (xs : List A) → xs ++ [] ≡ xs
    append_none [] = refl
    append_none (x ∷ xs) = ap (λ ys. x ∷ ys) (append_none xs)

    -- ---- an update's store

    target_lies : (s : Symbols) (known : Known) (names : List (List ℕ)) (left : List Span1) (q : List ℤ) (r : Reader) → Respects known.binders s → LieIn s left q → (at : List Coordinate) →
        LieIn s (map (target_span given.outline rules known names left) at) (target_point given (bound names q) (map (target s) at) r)
    target_lies s known names left q r rs l [] = tt
    target_lies s known names left q r rs l (c ∷ at) = one c.index (target_lies s known names left q r rs l at)
      where
        one : (i : Index) → LieIn s (map (target_span given.outline rules known names left) at) (target_point given (bound names q) (map (target s) at) r) →
            LieIn s (index_place given.outline rules known names left i ∷ map (target_span given.outline rules known names left) at) (target_point given (bound names q) (index_target s i ∷ map (target s) at) r)
        one (At f) rest = (exact s f, rest)
        one (Found e) rest = (suited.bounded known.binders names left e r s q rs l, rest)

    index_fixed : (s : Symbols) (i : Index) → Lies s (index_span given.outline rules i) (fixed (index_target s i))
    index_fixed s (At l) = exact s l
    index_fixed s (Found e) = exact s (number (pos 0))

    over_lies : (s : Symbols) (over : List Coordinate) → LieIn s (map (variable_span given.outline rules) over) (map (λ c. fixed (target s c)) over)
    over_lies s [] = tt
    over_lies s (c ∷ over) = (index_fixed s c.index, over_lies s over)

    left_lies : (s : Symbols) (at over : List Coordinate) → LieIn s (map (variable_span given.outline rules) (at ++ over)) (map fixed (map (target s) at) ++ map (λ c. fixed (target s c)) over)
    left_lies s [] over = over_lies s over
    left_lies s (c ∷ at) over = (index_fixed s c.index, left_lies s at over)

    lie_append : (s : Symbols) (xs ys : List Span1) (p q : List ℤ) → LieIn s xs p → LieIn s ys q → LieIn s (xs ++ ys) (p ++ q)
    lie_append s [] ys [] q h k = k
    lie_append s [] ys (z ∷ p) q h k = absurd h
    lie_append s (x ∷ xs) ys [] q h k = absurd h
    lie_append s (x ∷ xs) ys (z ∷ p) q h k = (h.0, lie_append s xs ys p q h.1 k)

    -- a point of the spans that a left side may be is one that its step meets
    met_matches : (s : Symbols) (at : List Coordinate) (p : List ℤ) → LieIn s (map (λ x. index_met given.outline rules x.index) at) p → matches (map (target s) at) p ≡ true
    met_matches s [] [] h = refl
    met_matches s [] (z ∷ zs) h = absurd h
    met_matches s (c ∷ at) [] h = absurd h
    met_matches s (c ∷ at) (z ∷ zs) h = one c.index h.0 (met_matches s at zs h.1)
      where
        one : (i : Index) → Lies s (index_met given.outline rules i) z → matches (map (target s) at) zs ≡ true → matches (index_target s i ∷ map (target s) at) (z ∷ zs) ≡ true
        one (At l) k rest =
            let low = k.0.0 in
            let high = k.1.0 in
            let same : z ≡ form_value l s = omega (arith, ints, low, high) in
            subst (λ y. matches (Fixed (form_value l s) ∷ map (target s) at) (y ∷ zs) ≡ true) (sym same) (rw (number_refl (form_value l s)) rest)
        one (Found e) k rest = rest

    each_target : (line : ℕ) (known : Known) (sc : Scope) (may : ℕ → Bool) (meets : ℕ → List (List Span1)) (r : Reader) (names : List (List ℕ)) (left : List Span1) (q : List ℤ) →
        ((e : Term) → AllMeant given (loads given.outline rules line known may meets names left e) → EachRead (bound names q) (answer given r) (MayUse given sc.facts r) e) → (at : List Coordinate) (more : List Obligation) →
        AllMeant given (flat_map (coordinate_loads given.outline rules line known may meets names left) at ++ more) → EachTargetRead given (bound names q) (map (target sc.symbols) at) r (MayUse given sc.facts r) × AllMeant given more
    each_target line known sc may meets r names left q reads [] more h = (tt, h)
    each_target line known sc may meets r names left q reads (c ∷ at) more h =
        let own = index_loads given.outline rules line known may meets names left c.index in
        let rest = flat_map (coordinate_loads given.outline rules line known may meets names left) at in
        let k = subst (AllMeant given) (append_assoc own rest more) h in
        let later = each_target line known sc may meets r names left q reads at more (rec_right (Meant given) own (rest ++ more) k) in
        (one c.index (rec_left (Meant given) own (rest ++ more) k) later.0, later.1)
      where
        one : (i : Index) → AllMeant given (index_loads given.outline rules line known may meets names left i) → EachTargetRead given (bound names q) (map (target sc.symbols) at) r (MayUse given sc.facts r) →
            EachTargetRead given (bound names q) (index_target sc.symbols i ∷ map (target sc.symbols) at) r (MayUse given sc.facts r)
        one (At l) k rest = rest
        one (Found e) k rest = (reads e k, rest)

    module _ (line : ℕ) (known : Known) (sc : Scope) (b : ℕ) (f : List ℕ) (k : ℕ) (at over : List Coordinate) (e : Term) (st : Stands known sc)
        (on : (u : Updating) → In u known.updating → Ongoing u (Change b f (suc k) (map (λ c. c.variable) (at ++ over)) (map (target sc.symbols) at) (map (λ c. fixed (target sc.symbols c)) over) e ∷ []) sc.symbols sc.rooms sc.facts) where
      abbrev ns : List (List ℕ)
      ns = map (λ c. c.variable) (at ++ over)

      abbrev ts : List Target
      ts = map (target sc.symbols) at

      abbrev os : List ℤ
      os = map (λ c. fixed (target sc.symbols c)) over

      abbrev step : ℕ
      step = given.step_at f (suc k) os

      -- what a nest of this definition says: the step is one of its domain, and comes where its turn is
      nest_says : (u : Updating) → In u known.updating → serves given.outline rules b f (suc k) u ≡ true →
          IsTrue (given.in_domain f (suc k) os) × ((p : List ℤ) → matches ts p ≡ true → Near sc.symbols u p → InForce given sc.facts u.before p step)
          × ((given.outline.claim u.before).buffer ≡ b) × ((given.outline.claim u.before).function ≡ f)
      nest_says u m h =
          let c = given.outline.claim u.next in
          let one = and_parts (c.buffer == b) (same_name c.function f && (c.definition == suc k)) h in
          let two = and_parts (same_name c.function f) (c.definition == suc k) one.1 in
          let eb : c.buffer ≡ b = eq_true c.buffer b one.0 in
          let ef : c.function ≡ f = name_true c.function f two.0 in
          let ek : c.definition ≡ suc k = eq_true c.definition (suc k) two.1 in
          let here = on u m in
          let turn = here.in_turn [] [] ns ts os e (λ j. Change (sym eb j) (sym ef j) (sym ek j) ns ts os e ∷ []) in
          let count : given.step_at c.function c.definition os ≡ step = λ j. given.step_at (ef j) (ek j) os in (
            subst (λ n. IsTrue (given.in_domain f n os)) ek (subst (λ g. IsTrue (given.in_domain g c.definition os)) ef turn.0),
            (λ p met near. here.in_force p step near (turn.1 p met ∙ ap Some count)),
            here.buffer ∙ eb,
            here.function ∙ ef,
          )

      self_or_last : (c : ℕ) (p : List ℤ) → (v : Bool) → (if v then list_any (λ u. (u.before == c) && serves given.outline rules b f (suc k) u) known.updating else is_usable given.outline rules known c) ≡ true → InRegion sc.symbols (spans c) p →
          AllByRecursion (λ ys. LieIn sc.symbols ys p) (if v then map (λ x. index_met given.outline rules x.index) at ∷ [] else []) → InForce given sc.facts c p (if v then step else given.all_steps (given.outline.claim c).function)
      self_or_last c p true m i rows =
          let found = any_in (λ u. (u.before == c) && serves given.outline rules b f (suc k) u) known.updating m in
          let u = found.0 in
          let parts = and_parts (u.before == c) (serves given.outline rules b f (suc k) u) found.2 in
          let same : u.before ≡ c = eq_true u.before c parts.0 in
          subst (λ d. InForce given sc.facts d p step) same ((nest_says u found.1 parts.1).1 p (met_matches sc.symbols at p rows.0) (inl (subst (λ d. InRegion sc.symbols (spans d) p) (sym same) i)))
      self_or_last c p false m i rows = usable known sc c p st m i

      update_at : AllMeant given (store_obligations given.outline rules line known b f (suc k) at over e) → IsSoundAction given (Change b f (suc k) ns ts os e) sc
      update_at h =
          let P = Meant given in
          let left = map (variable_span given.outline rules) (at ++ over) in
          let places = map (target_span given.outline rules known ns left) at in
          let may = may_load given.outline rules known b f (suc k) in
          let meets = met given.outline rules f (suc k) at in
          let r = Within f step in
          let q = map fixed ts ++ os in
          let ys = flat_map (coordinate_loads given.outline rules line known may meets ns left) at in
          let zs = loads given.outline rules line known may meets ns (places ++ map (variable_span given.outline rules) over) e in
          let found = pick_in P (λ u. obligation given.outline rules NotClaimed line known (Inside places (region_of given.outline rules u.next))) (serves given.outline rules b f (suc k)) known.updating
          (h.1.0 sc.symbols st.respects) (rec_left P (claimed given.outline rules line known b f (suc k) places) (ys ++ zs) h.1.1) in
          let says = nest_says found.0 found.1 found.2 in
          let point = left_point given ns ts os r in
          let lies = target_lies sc.symbols known ns left q r st.respects (left_lies sc.symbols at over) at in
          let near = inr (lies_region sc.symbols (spans found.0.next) point (found.3 sc.symbols st.respects point lies)) in
          let use_of : (c : ℕ) (p : List ℤ) → may c ≡ true → InRegion sc.symbols (spans c) p → AllByRecursion (λ ys. LieIn sc.symbols ys p) (meets c) → InForce given sc.facts c p (done_for given r c) =
          λ c p m i rows. self_or_last c p (same_name (given.outline.claim c).function f) m i rows in
          let targets = each_target line known sc may meets r ns left q (reads_at line known sc may meets r st use_of ns left q (left_lies sc.symbols at over)) at zs
          (rec_right P (claimed given.outline rules line known b f (suc k) places) (ys ++ zs) h.1.1) in (
            says.0,
            force_earlier sc.facts found.0.before b f point step says.2 says.3 (says.1 point (target_matches given (left_variables given ns ts os) ts r) near),
            targets.0,
            reads_at line known sc may meets r st use_of ns (places ++ map (variable_span given.outline rules) over) (point ++ os)
                (lie_append sc.symbols places (map (variable_span given.outline rules) over) point os lies (over_lies sc.symbols over)) e targets.1,
          )

    store_at : (line : ℕ) (known : Known) (sc : Scope) (b : ℕ) (f : List ℕ) (k : ℕ) (at over : List Coordinate) (names : List (List ℕ)) (e : Term) → names ≡ map (λ c. c.variable) (at ++ over) → is_covered_line k at over ≡ true → Stands known sc →
        ((u : Updating) → In u known.updating → Ongoing u (store_action b f k names (map (target sc.symbols) at) (map (λ c. fixed (target sc.symbols c)) over) e ∷ []) sc.symbols sc.rooms sc.facts) →
        AllMeant given (store_obligations given.outline rules line known b f k at over e) →
        IsSoundAction given (store_action b f k names (map (target sc.symbols) at) (map (λ c. fixed (target sc.symbols c)) over) e) sc
    store_at line known sc b f zero at [] names e same pure st on h =
        let left = map (variable_span given.outline rules) (at ++ []) in
        let ns = map (λ c. c.variable) (at ++ []) in
        let places = map (target_span given.outline rules known ns left) at in
        let p = map fixed (map (target sc.symbols) at) in
        let may = may_load given.outline rules known b f zero in
        let meets = met given.outline rules f zero at in
        let inside = seated_at b places p known sc (places_of known.buffers b) refl st (h.0 sc.symbols st.respects) (targets_lie sc.symbols known ns left at pure) in
        let more = no_index_loads line known may meets ns left at (loads given.outline rules line known may meets ns (places ++ []) e) pure h.1.1 in
        let reads = reads_at line known sc may meets Plain st (λ c q m i rows. usable known sc c q st m i) ns (places ++ []) p
        (subst (λ xs. LieIn sc.symbols xs p) (sym (append_none places)) (targets_lie sc.symbols known ns left at pure)) e more in
        let P : Bool → Type 0 = λ v. IsSoundAction given (action_for v b f zero names (map (target sc.symbols) at) [] e) sc in
        subst P (sym (forms_fixed sc.symbols at pure)) (inside, subst (λ ms. EachRead (bound ms p) (answer given Plain) (MayUse given sc.facts Plain) e) (sym same) reads)
    store_at line known sc b f zero at (c ∷ cs) names e same pure st on h = absurd (cc pure)
    store_at line known sc b f (suc k) at over names e same pure st on h =
        let P : List (List ℕ) → Type 0 = λ ms.
        ((u : Updating) → In u known.updating → Ongoing u (Change b f (suc k) ms (map (target sc.symbols) at) (map (λ c. fixed (target sc.symbols c)) over) e ∷ []) sc.symbols sc.rooms sc.facts) →
        IsSoundAction given (Change b f (suc k) ms (map (target sc.symbols) at) (map (λ c. fixed (target sc.symbols c)) over) e) sc in
        subst P (sym same) (λ there. update_at line known sc b f k at over e st there h) on

  -- ---- claims

  next_parts : (k n : ℕ) → is_next k n ≡ true → n - 1 ≡ k
  next_parts k zero h = absurd (cc h)
  next_parts k (suc j) h = let e = eq_true j k h in omega (arith, e)

  -- a claim is made, from nothing or from the claim of the definition before
  covers_at : (first last : ℕ) (known : Known) (sc : Scope) (a : Statement) (c : ℕ) (p : List ℤ) → Stands known sc → InRegion sc.symbols (spans c) p → (v : Bool) →
      status_after given (given.outline.claim c).buffer p (actions given.outline.setting a sc.symbols) (begun given (given.outline.claim c).function (if v then Some ((given.outline.claim c).definition - 1) else None)) ≡ Some (given.steps (given.outline.claim c).function (given.outline.claim c).definition) →
      AllMeant given (if v then
      obligation given.outline rules NotMade (rules.claim_line c) known (Named (list_any (λ d. follows given.outline rules d c) known.own))
      ∷ obligation given.outline rules (turn_code (turn_line given.outline rules a first c)) (or_same (turn_line given.outline rules a first c) (rules.claim_line c)) known (InTurn c a)
      ∷ map (λ d. obligation given.outline rules NotMade (rules.claim_line c) known (Inside (region_of given.outline rules c) (region_of given.outline rules d))) (filter (λ d. follows given.outline rules d c) known.own)
      else []) →
      (st : Option ℕ) × Before given sc.facts (given.outline.claim c).buffer (given.outline.claim c).function p st
      × (status_after given (given.outline.claim c).buffer p (actions given.outline.setting a sc.symbols) st ≡ Some (given.steps (given.outline.claim c).function (given.outline.claim c).definition))
  covers_at first last known sc a c p st r false m h = (None, tt, m)
  covers_at first last known sc a c p st r true m h =
      let k = pick_one (Meant given) (λ d. obligation given.outline rules NotMade (rules.claim_line c) known (Inside (region_of given.outline rules c) (region_of given.outline rules d))) (λ d. follows given.outline rules d c) known.own
      (h.0 sc.symbols st.respects) h.1.1 in
      let d : ℕ = k.0 in
      let names = and_parts (((given.outline.claim d).buffer == (given.outline.claim c).buffer) && same_name (given.outline.claim d).function (given.outline.claim c).function) (is_next (given.outline.claim d).definition (given.outline.claim c).definition) k.2 in
      let both = and_parts ((given.outline.claim d).buffer == (given.outline.claim c).buffer) (same_name (given.outline.claim d).function (given.outline.claim c).function) names.0 in
      let eb = eq_true (given.outline.claim d).buffer (given.outline.claim c).buffer both.0 in
      let ef = name_true (given.outline.claim d).function (given.outline.claim c).function both.1 in
      let en = next_parts (given.outline.claim d).definition (given.outline.claim c).definition names.1 in
      let inside = lies_region sc.symbols (spans d) p (k.3 sc.symbols st.respects p (region_lies sc.symbols (spans c) p r)) in
      let force = st.claims d (st.own d k.1) p inside in
      let steps : given.steps (given.outline.claim d).function (given.outline.claim d).definition ≡ given.steps (given.outline.claim c).function ((given.outline.claim c).definition - 1) =
      ap (λ f. given.steps f (given.outline.claim d).definition) ef ∙ ap (given.steps (given.outline.claim c).function) (sym en) in
      (Some (given.steps (given.outline.claim c).function ((given.outline.claim c).definition - 1)), subst (λ n. Earlier given sc.facts (given.outline.claim c).buffer (given.outline.claim c).function p n) steps (force_earlier sc.facts d _ _ p _ eb ef force), m)

  made_from : (first last : ℕ) (known : Known) (sc : Scope) (a : Statement) (c : ℕ) (o : Option (List Places)) → places_of known.buffers (given.outline.claim c).buffer ≡ o → Stands known sc →
      writes given.outline.setting a (given.outline.claim c).buffer (given.outline.claim c).function ≡ true → MeantAt given (made given.outline rules o c a) sc.symbols → AllMeant given (earlier_obligations given.outline rules first last known a c) →
      IsMade given c (actions given.outline.setting a sc.symbols) sc
  made_from first last known sc a c None e st w m h = absurd (cc m)
  made_from first last known sc a c (Some places) e st w m h = record {
    has_room = let P : Option (List Room) → Type 0 = λ r. IsSome r in subst P (sym (st.rooms (given.outline.claim c).buffer places e)) refl;
    only = writing given.outline.setting a sc.symbols (given.outline.claim c).buffer (given.outline.claim c).function w;
    clear = λ p r. let P : Option (List Room) → Type 0 = λ o. ClearOf o p (written (given.outline.claim c).buffer (actions given.outline.setting a sc.symbols)) in subst P (sym (st.rooms (given.outline.claim c).buffer places e)) (m p r).1;
    covers = λ p r. covers_at first last known sc a c p st r (updates given.outline.setting a (given.outline.claim c).buffer (given.outline.claim c).function) (m p r).0 h;
  }

  -- or it is made along a window, of what the turn before left
  slid_from : (w : Window) (known : Known) (sc : Scope) (a : Statement) (c : ℕ) (o : Option (List Places)) → places_of known.buffers (given.outline.claim c).buffer ≡ o → Stands known sc →
      writes given.outline.setting a (given.outline.claim c).buffer (given.outline.claim c).function ≡ true → IsHandedOn given w.symbol (inside w.symbol known.binders) c sc →
      MeantAt given (held given.outline rules o w known.binders c a) sc.symbols → IsMade given c (actions given.outline.setting a sc.symbols) sc
  slid_from w known sc a c None e st h handed m = absurd (cc m)
  slid_from w known sc a c (Some places) e st h handed m =
      sliding_is_made given w.symbol (inside w.symbol known.binders) c places a sc (m st.respects) handed (st.rooms (given.outline.claim c).buffer places e)
      (writing given.outline.setting a sc.symbols (given.outline.claim c).buffer (given.outline.claim c).function h)

  made_one : (first last : ℕ) (known : Known) (sc : Scope) (a : Statement) (c : ℕ) (o : Option Window) → Stands known sc →
      writes given.outline.setting a (given.outline.claim c).buffer (given.outline.claim c).function ≡ true →
      ((w : Window) → o ≡ Some w → IsHandedOn given w.symbol (inside w.symbol known.binders) c sc) →
      AllMeant given (making_obligations given.outline rules o known a c ++ earlier_obligations given.outline rules first last known a c) →
      IsMade given c (actions given.outline.setting a sc.symbols) sc
  made_one first last known sc a c None st w handed h = made_from first last known sc a c (places_of known.buffers (given.outline.claim c).buffer) refl st w (h.0 sc.symbols st.respects) h.1
  made_one first last known sc a c (Some along) st w handed h =
      slid_from along known sc a c (places_of known.buffers (given.outline.claim c).buffer) refl st w (handed along refl) (h.1.0 sc.symbols st.respects)

  made_all : (kept : List Window) (first last : ℕ) (known : Known) (sc : Scope) (a : Statement) (cs : List ℕ) → Stands known sc →
      ((c : ℕ) → In c cs → (w : Window) → window_of kept c ≡ Some w → IsHandedOn given w.symbol (inside w.symbol known.binders) c sc) →
      AllMeant given (flat_map (claim_obligations given.outline rules kept first last known a) cs) → AreMade given cs (actions given.outline.setting a sc.symbols) sc
  made_all kept first last known sc a [] st handed h = tt
  made_all kept first last known sc a (c ∷ cs) st handed h =
      let P = Meant given in
      let xs = claim_obligations given.outline rules kept first last known a c in
      let ys = flat_map (claim_obligations given.outline rules kept first last known a) cs in
      let one = rec_left P xs ys h in (
        made_one first last known sc a c (window_of kept c) st (one.0 sc.symbols st.respects) (handed c (inl refl)) one.1,
        made_all kept first last known sc a cs st (λ d m. handed d (inr m)) (rec_right P xs ys h),
      )

  -- ---- from statement to statement

  abbrev is_let : Statement → Bool
  is_let (Let i pick ls) = true
  is_let _ = false

  after_same : (a : Statement) (s : Symbols) → is_let a ≡ false → after a s ≡ s
  after_same (Let i pick ls) s h = absurd (cc h)
  after_same _ s h = refl

  alloc_some : (v : Bool) (s : Symbols) (own places : List Places) (more : Option (List Places)) (rs : Option (List Room)) → (more ≡ Some places → rs ≡ Some (map (room s) places)) → (if v then Some own else more) ≡ Some places → (if v then Some (map (room s) own) else rs) ≡ Some (map (room s) places)
  alloc_some true s own places more rs rest e = let same : own ≡ places = cc in ap (λ x. Some (map (room s) x)) same
  alloc_some false s own places more rs rest e = rest e

  alloc_none : (v : Bool) (s : Symbols) (own : List Places) (more : Option (List Places)) (rs : Option (List Room)) → (more ≡ None → rs ≡ None) → (if v then Some own else more) ≡ None → (if v then Some (map (room s) own) else rs) ≡ None
  alloc_none true s own more rs rest e = absurd (cc e)
  alloc_none false s own more rs rest e = rest e

  rooms_on : (a : Statement) (known : Known) (sc : Scope) → Stands known sc → (b : ℕ) (places : List Places) → places_of (more_buffers given.outline rules a known.buffers) b ≡ Some places → more_rooms given a sc b ≡ Some (map (room sc.symbols) places)
  rooms_on (Alloc c f own) known sc st b places e = alloc_some (b == c) sc.symbols own places (places_of known.buffers b) (sc.rooms b) (st.rooms b places) e
  rooms_on _ known sc st b places e = st.rooms b places e

  free_on : (a : Statement) (known : Known) (sc : Scope) → Stands known sc → (b : ℕ) → places_of (more_buffers given.outline rules a known.buffers) b ≡ None → more_rooms given a sc b ≡ None
  free_on (Alloc c f own) known sc st b e = alloc_none (b == c) sc.symbols own (places_of known.buffers b) (sc.rooms b) (st.free b) e
  free_on _ known sc st b e = st.free b e

  -- what is known after a statement that binds no symbol
  abbrev plainly : Statement → List ℕ → Known → Known
  plainly a next known = record {
    binders = known.binders;
    buffers = more_buffers given.outline rules a known.buffers;
    claims = next ++ filter (is_left given.outline rules a) known.claims;
    own = next ++ filter (is_left given.outline rules a) known.own;
    updating = known.updating;
  }

  -- of a statement that binds no symbol
  passed_stands : (a : Statement) (line : ℕ) (known : Known) (sc : Scope) → is_let a ≡ false → Stands known sc → Stands (plainly a (given.outline.named (line + lines a - 1)) known) (onward given a line sc)
  passed_stands a line known sc pure st =
      let next = given.outline.named (line + lines a - 1) in
      let facts = map (new_fact given sc.symbols) next ++ keep given a (actions given.outline.setting a sc.symbols) sc.rooms sc.facts in
      let P : Symbols → Type 0 = λ u. Stands (plainly a next known) (record { symbols = u; rooms = more_rooms given a sc; facts = facts }) in
      subst P (sym (after_same a sc.symbols pure)) (record {
        respects = st.respects;
        rooms = rooms_on a known sc st;
        free = free_on a known sc st;
        claims = λ c n p r. in_force_on c p r (member_append c next (filter (is_left given.outline rules a) known.claims) n);
        own = λ c n. own_on c (member_append c next (filter (is_left given.outline rules a) known.own) n);
      })
    where
      in_force_on : (c : ℕ) (p : List ℤ) → InRegion sc.symbols (spans c) p → (is_member c (given.outline.named (line + lines a - 1)) ≡ true) ⊎ (is_member c (filter (is_left given.outline rules a) known.claims) ≡ true) →
          InForce given (map (new_fact given sc.symbols) (given.outline.named (line + lines a - 1)) ++ keep given a (actions given.outline.setting a sc.symbols) sc.rooms sc.facts) c p (given.steps (given.outline.claim c).function (given.outline.claim c).definition)
      in_force_on c p r (inl m) = force_new sc.symbols c p (given.outline.named (line + lines a - 1)) _ m r
      in_force_on c p r (inr m) =
          let k = filter_member (is_left given.outline rules a) c known.claims m in
          force_right given c p _ (map (new_fact given sc.symbols) (given.outline.named (line + lines a - 1))) _
          (force_right given c p _ _ (stable given a sc.facts) (force_stable given a c p _ sc.facts (is_not _ k.1) (st.claims c k.0 p r)))

      own_on : (c : ℕ) → (is_member c (given.outline.named (line + lines a - 1)) ≡ true) ⊎ (is_member c (filter (is_left given.outline rules a) known.own) ≡ true) →
          is_member c (given.outline.named (line + lines a - 1) ++ filter (is_left given.outline rules a) known.claims) ≡ true
      own_on c (inl m) = member_left c (given.outline.named (line + lines a - 1)) (filter (is_left given.outline rules a) known.claims) m
      own_on c (inr m) =
          let k = filter_member (is_left given.outline rules a) c known.own m in
          member_right c (given.outline.named (line + lines a - 1)) (filter (is_left given.outline rules a) known.claims) (member_filter (is_left given.outline rules a) c known.claims (st.own c k.0) k.1)

  -- a symbol that a `let` binds is new
  abbrev pub IsNew : Statement → Known → Type 0
  IsNew (Let i pick ls) known = has_symbol given.outline rules i (from_each ls) known ≡ false
  IsNew _ known = Unit {0}

  let_stands : (i : ℕ) (pick : Pick) (ls : List Form) (next : List ℕ) (known : Known) (sc : Scope) (facts : List Fact) → has_symbol given.outline rules i (from_each ls) known ≡ false → Stands known sc →
      ((c : ℕ) (p : List ℤ) (d : ℕ) → InForce given sc.facts c p d → InForce given facts c p d) →
      Stands (onwards given.outline rules (Let i pick ls) next known) (record { symbols = bind sc.symbols i (picked pick ls sc.symbols) true; rooms = sc.rooms; facts = facts })
  let_stands i pick ls next known sc facts new st on =
      let z = picked pick ls sc.symbols in
      let h0 = span_has i (from_each ls) in
      let h1 = list_any (binder_has i) known.binders in
      let h2 = list_any (λ b. list_any (places_have i) b.places) known.buffers in
      let h3 = list_any (λ c. list_any (span_has i) (region_of given.outline rules c)) known.claims in
      let h4 = list_any (λ u. list_any (span_has i) (region_of given.outline rules u.before) || list_any (span_has i) (region_of given.outline rules u.next)) known.updating in
      let n0 : h0 ≡ false = or_left h0 (h1 || (h2 || (h3 || h4))) new in
      let r0 : (h1 || (h2 || (h3 || h4))) ≡ false = or_right h0 (h1 || (h2 || (h3 || h4))) new in
      let n1 : h1 ≡ false = or_left h1 (h2 || (h3 || h4)) r0 in
      let r1 : (h2 || (h3 || h4)) ≡ false = or_right h1 (h2 || (h3 || h4)) r0 in
      let n2 : h2 ≡ false = or_left h2 (h3 || h4) r1 in
      let r2 : (h3 || h4) ≡ false = or_right h2 (h3 || h4) r1 in
      let n3 : h3 ≡ false = or_left h3 h4 r2 in
      let none : list_any (form_has i) ls ≡ false = or_left (list_any (form_has i) ls) false n0 in
      let own : (bind sc.symbols i z true).value i ≡ z = let e : (i == i) ≡ true = eq_refl i in rw e refl in
      record {
        respects = (own ∙ sym (picked_same sc.symbols i z true pick ls none), respects_on sc.symbols i z true known.binders n1 st.respects);
        rooms = λ b places e. st.rooms b places e ∙ ap Some (sym (rooms_same sc.symbols i z true places (some_axes i b known.buffers places n2 e)));
        free = st.free;
        claims = λ c n p r.
            let k = filter_member (is_left given.outline rules (Let i pick ls)) c known.claims n in
            let old = lie_in_back sc.symbols i z true (region_of given.outline rules c) p (none_of (λ c. list_any (span_has i) (region_of given.outline rules c)) c known.claims n3 k.0) (region_lies (bind sc.symbols i z true) (spans c) p r) in
            on c p _ (st.claims c k.0 p (lies_region sc.symbols (spans c) p old));
        own = λ c n.
            let k = filter_member (is_left given.outline rules (Let i pick ls)) c known.own n in
            member_filter (is_left given.outline rules (Let i pick ls)) c known.claims (st.own c k.0) k.1;
      }

  after_let : (i : ℕ) (pick : Pick) (ls : List Form) (s : Symbols) → bind s i (picked pick ls s) true ≡ after (Let i pick ls) s
  after_let i Min ls s = refl
  after_let i Max ls s = refl

  onward_stands : (a : Statement) (line : ℕ) (known : Known) (sc : Scope) → IsNew a known → Stands known sc → Stands (onwards given.outline rules a (given.outline.named (line + lines a - 1)) known) (onward given a line sc)
  onward_stands (Let i pick ls) line known sc new st =
      let a = Let i pick ls in
      let next = given.outline.named (line + lines a - 1) in
      let facts = map (new_fact given sc.symbols) next ++ keep given a [] sc.rooms sc.facts in
      let P : Symbols → Type 0 = λ u. Stands (onwards given.outline rules a next known) (record { symbols = u; rooms = sc.rooms; facts = facts }) in
      subst P (after_let i pick ls sc.symbols) (let_stands i pick ls next known sc facts new st (λ c p d k.
      force_right given c p d (map (new_fact given sc.symbols) next) (keep given a [] sc.rooms sc.facts)
      (force_right given c p d _ (stable given a sc.facts) (force_stable given a c p d sc.facts refl k))))
  onward_stands (Seq all) line known sc new st = passed_stands (Seq all) line known sc refl st
  onward_stands (For i x kind body) line known sc new st = passed_stands (For i x kind body) line known sc refl st
  onward_stands (First i a b) line known sc new st = passed_stands (First i a b) line known sc refl st
  onward_stands (Guard low high body) line known sc new st = passed_stands (Guard low high body) line known sc refl st
  onward_stands (Alloc b f places) line known sc new st = passed_stands (Alloc b f places) line known sc refl st
  onward_stands (Fetch b g region) line known sc new st = passed_stands (Fetch b g region) line known sc refl st
  onward_stands (Store b k at e) line known sc new st = passed_stands (Store b k at e) line known sc refl st
  onward_stands (Publish c) line known sc new st = passed_stands (Publish c) line known sc refl st

  block_stands : (known : Known) (sc : Scope) → Stands known sc → Stands (in_block given.outline rules known) sc
  block_stands known sc st = record { respects = st.respects; rooms = st.rooms; free = st.free; claims = st.claims; own = λ c n. absurd (cc n) }

  within_stands : (a : Statement) (next : List ℕ) (known : Known) (sc : Scope) → Stands known sc → Stands (within given.outline rules a next known) sc
  within_stands a next known sc st = record { respects = st.respects; rooms = st.rooms; free = st.free; claims = st.claims; own = st.own }

  -- ---- nests from statement to statement

  -- the steps that a statement does
  goes_on_to : (u : Updating) (a : Statement) (s : Symbols) (rooms : ℕ → Option (List Room)) (facts later : List Fact) (todo rest : List Action) → actions given.outline.setting a s ≡ todo →
      updates given.outline.setting a (given.outline.claim u.next).buffer (given.outline.claim u.next).function ≡ true → (on : Ongoing u (todo ++ rest) s rooms facts) →
      ((p : List ℤ) (m n : ℕ) → InForce given facts u.before p m → status_after given (given.outline.claim u.next).buffer p todo (Some m) ≡ Some n → InForce given later u.before p n) →
      (p : List ℤ) (n : ℕ) → Near s u p → status_after given (given.outline.claim u.next).buffer p todo (on.done p) ≡ Some n → InForce given later u.before p n
  goes_on_to u a s rooms facts later todo rest same only on step p n near after_it =
      let b = (given.outline.claim u.next).buffer in
      let k = some_before given b p todo (on.done p) n (subst (OnlySteps b) same (only_steps given.outline.setting a s b (given.outline.claim u.next).function only)) after_it in
      step p k.0 n (on.in_force p k.0 near k.1) k.2

  -- what comes first of a nest, and what comes after a statement
  ongoing_first : (u : Updating) (xs ys : List Action) (s : Symbols) (rooms : ℕ → Option (List Room)) (facts : List Fact) → Ongoing u (xs ++ ys) s rooms facts → Ongoing u xs s rooms facts
  ongoing_first u xs ys s rooms facts on = record {
    buffer = on.buffer;
    function = on.function;
    room = on.room;
    done = on.done;
    in_force = on.in_force;
    in_turn = turn_first given _ _ _ on.done xs ys on.in_turn;
  }

  near_back : (i : ℕ) (x : Span1) (known : Known) (sc : Scope) (u : Updating) (z : ℤ) (low : Bool) (p : List ℤ) → has_symbol given.outline rules i x known ≡ false → In u known.updating → Near (bind sc.symbols i z low) u p → Near sc.symbols u p
  near_back i x known sc u z low p new m near =
      let h0 = span_has i x in
      let h1 = list_any (binder_has i) known.binders in
      let h2 = list_any (λ b. list_any (places_have i) b.places) known.buffers in
      let h3 = list_any (λ c. list_any (span_has i) (region_of given.outline rules c)) known.claims in
      let test : Updating → Bool = λ u. list_any (span_has i) (region_of given.outline rules u.before) || list_any (span_has i) (region_of given.outline rules u.next) in
      let h4 = list_any test known.updating in
      let none : h4 ≡ false = or_right h3 h4 (or_right h2 (h3 || h4) (or_right h1 (h2 || (h3 || h4)) (or_right h0 (h1 || (h2 || (h3 || h4))) new))) in
      let here = none_in test u known.updating none m in
      of (or_left (list_any (span_has i) (spans u.before)) (list_any (span_has i) (spans u.next)) here) (or_right (list_any (span_has i) (spans u.before)) (list_any (span_has i) (spans u.next)) here) near
    where
      back : (xs : List Span1) → list_any (span_has i) xs ≡ false → InRegion (bind sc.symbols i z low) xs p → InRegion sc.symbols xs p
      back xs h k = lies_region sc.symbols xs p (lie_in_back sc.symbols i z low xs p h (region_lies (bind sc.symbols i z low) xs p k))

      of : list_any (span_has i) (spans u.before) ≡ false → list_any (span_has i) (spans u.next) ≡ false → Near (bind sc.symbols i z low) u p → Near sc.symbols u p
      of h k (inl r) = inl (back (spans u.before) h r)
      of h k (inr r) = inr (back (spans u.next) k r)

  near_before : (a : Statement) (known : Known) (sc : Scope) (u : Updating) → IsNew a known → In u known.updating → (p : List ℤ) → Near (after a sc.symbols) u p → Near sc.symbols u p
  near_before (Let i pick ls) known sc u new m p near =
      near_back i (from_each ls) known sc u (picked pick ls sc.symbols) true p new m (subst (λ s. Near s u p) (sym (after_let i pick ls sc.symbols)) near)
  near_before (Seq all) known sc u new m p near = near
  near_before (For i x kind body) known sc u new m p near = near
  near_before (First i a b) known sc u new m p near = near
  near_before (Guard low high body) known sc u new m p near = near
  near_before (Alloc b f places) known sc u new m p near = near
  near_before (Fetch b g region) known sc u new m p near = near
  near_before (Store b k at e) known sc u new m p near = near
  near_before (Publish c) known sc u new m p near = near

  ongoing_rest : (u : Updating) (a : Statement) (rest : Statements) → (line : ℕ) (sc : Scope) → ((p : List ℤ) → Near (after a sc.symbols) u p → Near sc.symbols u p) →
      updates given.outline.setting a (given.outline.claim u.next).buffer (given.outline.claim u.next).function ≡ true →
      Ongoing u (actions given.outline.setting a sc.symbols ++ block_actions given.outline.setting rest (after a sc.symbols)) sc.symbols sc.rooms sc.facts →
      Ongoing u (block_actions given.outline.setting rest (after a sc.symbols)) (after a sc.symbols) (more_rooms given a sc) (onward given a line sc).facts
  ongoing_rest u a rest line sc back only on =
      let c = given.outline.claim u.next in
      let todo = actions given.outline.setting a sc.symbols in
      let more = block_actions given.outline.setting rest (after a sc.symbols) in record {
        buffer = on.buffer;
        function = on.function;
        room = rooms_stay given u.before c.buffer c.function on.buffer on.function a sc on.room;
        done = λ p. status_after given c.buffer p todo (on.done p);
        in_force = λ p n near.
            goes_on_to u a sc.symbols sc.rooms sc.facts (onward given a line sc).facts todo more refl only on (λ q m r k e.
            force_right given u.before q r (map (new_fact given sc.symbols) (given.outline.named (line + lines a - 1))) (keep given a todo sc.rooms sc.facts)
            (force_keep given u.before c.buffer c.function on.buffer on.function a sc.symbols sc.rooms sc.facts q m r only on.room k e)) p n
            (back p near);
        in_turn = turn_rest given c.buffer c.function c.definition on.done todo more on.in_turn;
      }

  meant_flat : {A : Type 0} (g : A → List Obligation) (x : A) (xs : List A) → In x xs → AllMeant given (flat_map g xs) → AllMeant given (g x)
  meant_flat g x [] m h = absurd m
  meant_flat g x (y ∷ ys) (inl e) h = subst (λ z. AllMeant given (g z)) (sym e) (rec_left (Meant given) (g y) (flat_map g ys) h)
  meant_flat g x (y ∷ ys) (inr m) h = meant_flat g x ys m (rec_right (Meant given) (g y) (flat_map g ys) h)

  meant_map : {A : Type 0} (g : A → Obligation) (x : A) (xs : List A) → In x xs → AllMeant given (map g xs) → Meant given (g x)
  meant_map g x [] m h = absurd m
  meant_map g x (y ∷ ys) (inl e) h = subst (λ z. Meant given (g z)) (sym e) h.0
  meant_map g x (y ∷ ys) (inr m) h = meant_map g x ys m h.1

  has_room : (b : ℕ) (c : ℕ) (a : Statement) (known : Known) (sc : Scope) (o : Option (List Places)) → places_of known.buffers b ≡ o → Stands known sc → MeantAt given (made given.outline rules o c a) sc.symbols → IsSome (sc.rooms b)
  has_room b c a known sc None e st m = absurd (cc m)
  has_room b c a known sc (Some places) e st m = let P : Option (List Room) → Type 0 = λ r. IsSome r in subst P (sym (st.rooms b places e)) refl

  has_slid_room : (w : Window) (b : ℕ) (c : ℕ) (a : Statement) (known : Known) (sc : Scope) (o : Option (List Places)) → places_of known.buffers b ≡ o → Stands known sc →
      MeantAt given (slid given.outline rules o w c a) sc.symbols → IsSome (sc.rooms b)
  has_slid_room w b c a known sc None e st m = absurd (cc m)
  has_slid_room w b c a known sc (Some places) e st m = let P : Option (List Room) → Type 0 = λ r. IsSome r in subst P (sym (st.rooms b places e)) refl

  -- what is made has a buffer, whether along a window or not
  making_room : (known : Known) (sc : Scope) (a : Statement) (c : ℕ) (o : Option Window) (more : List Obligation) → Stands known sc →
      AllMeant given (making_obligations given.outline rules o known a c ++ more) →
      IsSome (sc.rooms (given.outline.claim c).buffer) × AllMeant given more
  making_room known sc a c None more st h =
      (has_room (given.outline.claim c).buffer c a known sc (places_of known.buffers (given.outline.claim c).buffer) refl st (h.0 sc.symbols st.respects), h.1)
  making_room known sc a c (Some w) more st h =
      (has_slid_room w (given.outline.claim c).buffer c a known sc (places_of known.buffers (given.outline.claim c).buffer) refl st (h.0 sc.symbols st.respects), h.1.1)

  -- the obligations of a claim that goes on from the definition before
  earlier_meant : (first last : ℕ) (known : Known) (a : Statement) (c : ℕ) → (v : Bool) → v ≡ true →
      AllMeant given (if v then
      obligation given.outline rules NotMade (rules.claim_line c) known (Named (list_any (λ d. follows given.outline rules d c) known.own))
      ∷ obligation given.outline rules (turn_code (turn_line given.outline rules a first c)) (or_same (turn_line given.outline rules a first c) (rules.claim_line c)) known (InTurn c a)
      ∷ map (λ d. obligation given.outline rules NotMade (rules.claim_line c) known (Inside (region_of given.outline rules c) (region_of given.outline rules d))) (filter (λ d. follows given.outline rules d c) known.own)
      else []) →
      Meant given (obligation given.outline rules (turn_code (turn_line given.outline rules a first c)) (or_same (turn_line given.outline rules a first c) (rules.claim_line c)) known (InTurn c a))
      × AllMeant given (map (λ d. obligation given.outline rules NotMade (rules.claim_line c) known (Inside (region_of given.outline rules c) (region_of given.outline rules d))) (filter (λ d. follows given.outline rules d c) known.own))
  earlier_meant first last known a c true e h = (h.1.0, h.1.1)
  earlier_meant first last known a c false e h = absurd (cc e)

  -- at the beginning of a nest all is as the claim before says
  begins : (kept : List Window) (first last : ℕ) (known : Known) (sc : Scope) (a : Statement) (next : List ℕ) → Stands known sc →
      AllMeant given (flat_map (claim_obligations given.outline rules kept first last known a) next) →
      (u : Updating) → In u (nests_of given.outline rules a next known.own) → IsOngoing a u sc
  begins kept first last known sc a next st h u m =
      let one = in_flat (λ c. map (λ d. record { before = d; next = c }) (filter (λ d. follows given.outline rules d c) known.own)) u
      (filter (λ c. updates given.outline.setting a (given.outline.claim c).buffer (given.outline.claim c).function) next) m in
      let c : ℕ = one.0 in
      let two = in_map (λ d. record { before = d; next = c }) u (filter (λ d. follows given.outline rules d c) known.own) one.2 in
      let d : ℕ = two.0 in
      subst (λ w. IsOngoing a w sc) (sym two.2) (of c d
      (in_filtered (λ c. updates given.outline.setting a (given.outline.claim c).buffer (given.outline.claim c).function) c next one.1)
      (in_filtered (λ d. follows given.outline rules d c) d known.own two.1) two.1)
    where
      of : (c d : ℕ) → In c next × (updates given.outline.setting a (given.outline.claim c).buffer (given.outline.claim c).function ≡ true) → In d known.own × (follows given.outline rules d c ≡ true) →
          In d (filter (λ d. follows given.outline rules d c) known.own) → IsOngoing a (record { before = d; next = c }) sc
      of c d mc md chosen =
          let names = and_parts (((given.outline.claim d).buffer == (given.outline.claim c).buffer) && same_name (given.outline.claim d).function (given.outline.claim c).function) (is_next (given.outline.claim d).definition (given.outline.claim c).definition) md.1 in
          let both = and_parts ((given.outline.claim d).buffer == (given.outline.claim c).buffer) (same_name (given.outline.claim d).function (given.outline.claim c).function) names.0 in
          let eb = eq_true (given.outline.claim d).buffer (given.outline.claim c).buffer both.0 in
          let ef = name_true (given.outline.claim d).function (given.outline.claim c).function both.1 in
          let en = next_parts (given.outline.claim d).definition (given.outline.claim c).definition names.1 in
          let steps : given.steps (given.outline.claim d).function (given.outline.claim d).definition ≡ given.steps (given.outline.claim c).function ((given.outline.claim c).definition - 1) =
          ap (λ f. given.steps f (given.outline.claim d).definition) ef ∙ ap (given.steps (given.outline.claim c).function) (sym en) in
          let own = meant_flat (claim_obligations given.outline rules kept first last known a) c next mc.0 h in
          let making = making_room known sc a c (window_of kept c) (earlier_obligations given.outline rules first last known a c) st own.1 in
          let earlier = earlier_meant first last known a c (updates given.outline.setting a (given.outline.claim c).buffer (given.outline.claim c).function) mc.1 making.1 in
          let inside = meant_map (λ d. obligation given.outline rules NotMade (rules.claim_line c) known (Inside (region_of given.outline rules c) (region_of given.outline rules d))) d (filter (λ d. follows given.outline rules d c) known.own) chosen earlier.1 in (
            mc.1,
            record {
              buffer = eb;
              function = ef;
              room = making.0;
              done = λ p. Some (given.steps (given.outline.claim c).function ((given.outline.claim c).definition - 1));
              in_force = λ p n near e.
                  let number : given.steps (given.outline.claim c).function ((given.outline.claim c).definition - 1) ≡ n = some_same _ n e in
                  subst (λ k. InForce given sc.facts d p k) (steps ∙ number) (st.claims d (st.own d (member_of d known.own md.0)) p (there p near (λ i. lies_region sc.symbols (spans d) p (inside sc.symbols st.respects p (region_lies sc.symbols (spans c) p i)))));
              in_turn = earlier.0 sc.symbols st.respects;
            },
          )
        where
          some_same : (m n : ℕ) → Some m ≡ Some n → m ≡ n
          some_same m n e = cc

          there : (p : List ℤ) → Near sc.symbols (record { before = d; next = c }) p → (InRegion sc.symbols (spans c) p → InRegion sc.symbols (spans d) p) → InRegion sc.symbols (spans d) p
          there p (inl i) to = i
          there p (inr i) to = to i

  free_none : (o : Option (List Places)) → is_free o ≡ true → o ≡ None
  free_none None h = refl
  free_none (Some places) h = absurd (cc h)

  -- a block within the nest
  abbrev pub BlockIsOngoing : Statements → Known → Scope → Type 0
  BlockIsOngoing row known sc =
      (u : Updating) → In u known.updating →
      (block_updates given.outline.setting row (given.outline.claim u.next).buffer (given.outline.claim u.next).function ≡ true) × Ongoing u (block_actions given.outline.setting row sc.symbols) sc.symbols sc.rooms sc.facts

  first_on : (kept : List Window) (line last : ℕ) (known : Known) (sc : Scope) (a : Statement) (rest : Statements) → Stands known sc → BlockIsOngoing (Then a rest) known sc →
      AllMeant given (flat_map (claim_obligations given.outline rules kept line last known a) (given.outline.named last)) →
      (u : Updating) → In u (nests_of given.outline rules a (given.outline.named last) known.own) ⊎ In u known.updating → IsOngoing a u sc
  first_on kept line last known sc a rest st on h u (inl m) = begins kept line last known sc a (given.outline.named last) st h u m
  first_on kept line last known sc a rest st on h u (inr m) =
      let k = on u m in
      let c = given.outline.claim u.next in (
        (and_parts (updates given.outline.setting a c.buffer c.function) (block_updates given.outline.setting rest c.buffer c.function) k.0).0,
        ongoing_first u (actions given.outline.setting a sc.symbols) (block_actions given.outline.setting rest (after a sc.symbols)) sc.symbols sc.rooms sc.facts k.1,
      )

  rest_on : (u : Updating) (a : Statement) (rest : Statements) → (line : ℕ) (known : Known) (sc : Scope) → IsNew a known → In u known.updating →
      (block_updates given.outline.setting (Then a rest) (given.outline.claim u.next).buffer (given.outline.claim u.next).function ≡ true) × Ongoing u (block_actions given.outline.setting (Then a rest) sc.symbols) sc.symbols sc.rooms sc.facts →
      (block_updates given.outline.setting rest (given.outline.claim u.next).buffer (given.outline.claim u.next).function ≡ true)
      × Ongoing u (block_actions given.outline.setting rest (after a sc.symbols)) (after a sc.symbols) (more_rooms given a sc) (onward given a line sc).facts
  rest_on u a rest line known sc new m k =
      let c = given.outline.claim u.next in
      let both = and_parts (updates given.outline.setting a c.buffer c.function) (block_updates given.outline.setting rest c.buffer c.function) k.0 in
      (both.1, ongoing_rest u a rest line sc (near_before a known sc u new m) both.0 k.1)

  in_first : (v : Bool) (i : ℕ) (a b : Statement) (u : Updating) (sc : Scope) → sc.symbols.first i ≡ v → IsOngoing (First i a b) u sc → IsOngoing (if v then a else b) u sc
  in_first true i a b u sc e k =
      let c = given.outline.claim u.next in
      let P : Bool → Type 0 = λ v. Ongoing u (if v then actions given.outline.setting a sc.symbols else actions given.outline.setting b sc.symbols) sc.symbols sc.rooms sc.facts in
      ((and_parts (updates given.outline.setting a c.buffer c.function) (updates given.outline.setting b c.buffer c.function) k.0).0, subst P e k.1)
  in_first false i a b u sc e k =
      let c = given.outline.claim u.next in
      let P : Bool → Type 0 = λ v. Ongoing u (if v then actions given.outline.setting a sc.symbols else actions given.outline.setting b sc.symbols) sc.symbols sc.rooms sc.facts in
      ((and_parts (updates given.outline.setting a c.buffer c.function) (updates given.outline.setting b c.buffer c.function) k.0).1, subst P e k.1)

  in_guard_on : (low high : Form) (body : Statement) (u : Updating) (sc : Scope) → int_le (form_value low sc.symbols) (form_value high sc.symbols) ≡ true → IsOngoing (Guard low high body) u sc → IsOngoing body u sc
  in_guard_on low high body u sc e k =
      let P : Bool → Type 0 = λ v. Ongoing u (if v then actions given.outline.setting body sc.symbols else []) sc.symbols sc.rooms sc.facts in
      (k.0, subst P e k.1)

  -- ---- nests from turn to turn

  -- what turns hand on, or what no turn changes
  abbrev pub Handed : Bool → List Fact → List Fact → ℕ → List ℤ → ℕ → Type 0
  Handed true carried kept d p n = InForce given carried d p n
  Handed false carried kept d p n = InForce given kept d p n

  -- before the turns that are still to come
  pub record Turning (i : ℕ) (x : Span1) (body : Statement) (sc : Scope) (u : Updating) (carried : List Fact) (zs : List ℤ) : Type 0 where
    pub done : List ℤ → Option ℕ
    pub in_force : (p : List ℤ) (n : ℕ) → Near sc.symbols u p → done p ≡ Some n → Handed (changes body (given.outline.claim u.next).buffer) carried (stable given body sc.facts) u.before p n
    pub in_turn : AreInTurn given (given.outline.claim u.next).buffer (given.outline.claim u.next).function (given.outline.claim u.next).definition done
        (flat_map (λ z. actions given.outline.setting body (turn_symbols given sc.symbols i (largest sc.symbols x.lower) z)) zs)

  and_is : (a b : Bool) → a ≡ true → b ≡ true → (a && b) ≡ true
  and_is true b h k = k
  and_is false b h k = absurd (cc h)

  or_is : (a b : Bool) → b ≡ true → (a || b) ≡ true
  or_is true b h = refl
  or_is false b h = h

  -- a fact of the claim before is one that the body updates
  updated : (u : Updating) (body : Statement) (h : Fact) → (given.outline.claim u.before).buffer ≡ (given.outline.claim u.next).buffer → (given.outline.claim u.before).function ≡ (given.outline.claim u.next).function →
      changes body (given.outline.claim u.next).buffer ≡ true → updates given.outline.setting body (given.outline.claim u.next).buffer (given.outline.claim u.next).function ≡ true → h.claim ≡ u.before → is_updated given body h ≡ true
  updated u body h eb ef changed only same =
      let c = given.outline.claim u.next in
      let b : buffer_of given h ≡ c.buffer = ap (λ n. (given.outline.claim n).buffer) same ∙ eb in
      let f : function_of given h ≡ c.function = ap (λ n. (given.outline.claim n).function) same ∙ ef in
      and_is (changes body (buffer_of given h)) (updates given.outline.setting body (buffer_of given h) (function_of given h)) (ap (changes body) b ∙ changed)
      (ap (λ n. updates given.outline.setting body n (function_of given h)) b ∙ ap (updates given.outline.setting body c.buffer) f ∙ only)

  turning_begins : (i : ℕ) (x : Span1) (kind : Kind) (body : Statement) (sc : Scope) (u : Updating) → IsOngoing (For i x kind body) u sc → Turning i x body sc u (choose_facts (is_updated given body) sc.facts) (turns sc.symbols x)
  turning_begins i x kind body sc u on = record {
    done = on.1.done;
    in_force = λ p n near e. of p n (changes body (given.outline.claim u.next).buffer) refl (on.1.in_force p n near e);
    in_turn = on.1.in_turn;
  }
    where
      of : (p : List ℤ) (n : ℕ) → (v : Bool) → changes body (given.outline.claim u.next).buffer ≡ v → InForce given sc.facts u.before p n → Handed v (choose_facts (is_updated given body) sc.facts) (stable given body sc.facts) u.before p n
      of p n true e k = force_chosen given (is_updated given body) u.before p n sc.facts (λ h same. updated u body h on.1.buffer on.1.function e on.0 same) k
      of p n false e k = force_stable given body u.before p n sc.facts (ap (changes body) on.1.buffer ∙ e) k

  in_force_now : (v : Bool) (carried kept : List Fact) (d : ℕ) (p : List ℤ) (n : ℕ) → Handed v carried kept d p n → InForce given (carried ++ kept) d p n
  in_force_now true carried kept d p n k = force_before given d p n carried kept k
  in_force_now false carried kept d p n k = force_right given d p n carried kept k

  module _ (i : ℕ) (x : Span1) (body : Statement) where
    turning_now : (known : Known) (sc : Scope) (u : Updating) (carried : List Fact) (z : ℤ) (zs : List ℤ) → has_symbol given.outline rules i x known ≡ false → In u known.updating →
        updates given.outline.setting body (given.outline.claim u.next).buffer (given.outline.claim u.next).function ≡ true →
        (given.outline.claim u.before).buffer ≡ (given.outline.claim u.next).buffer → (given.outline.claim u.before).function ≡ (given.outline.claim u.next).function → IsSome (sc.rooms (given.outline.claim u.next).buffer) →
        Turning i x body sc u carried (z ∷ zs) → IsOngoing body u (in_turn given (turn_symbols given sc.symbols i (largest sc.symbols x.lower) z) body sc carried)
    turning_now known sc u carried z zs new m only eb ef has t = (
      only,
      record {
        buffer = eb;
        function = ef;
        room = has;
        done = t.done;
        in_force = λ p n near e. in_force_now (changes body (given.outline.claim u.next).buffer) carried (stable given body sc.facts) u.before p n (t.in_force p n (near_back i x known sc u z (int_le z (largest sc.symbols x.lower)) p new m near) e);
        in_turn = turn_first given _ _ _ t.done (actions given.outline.setting body (turn_symbols given sc.symbols i (largest sc.symbols x.lower) z)) _ t.in_turn;
      },
    )

    turning_on : (line : ℕ) (sc : Scope) (u : Updating) (carried : List Fact) (z : ℤ) (zs : List ℤ) →
        updates given.outline.setting body (given.outline.claim u.next).buffer (given.outline.claim u.next).function ≡ true →
        (given.outline.claim u.before).buffer ≡ (given.outline.claim u.next).buffer → (given.outline.claim u.before).function ≡ (given.outline.claim u.next).function → IsSome (sc.rooms (given.outline.claim u.next).buffer) →
        Turning i x body sc u carried (z ∷ zs) → Turning i x body sc u (handed_on given i body (left given body (line + 1) (in_turn given (turn_symbols given sc.symbols i (largest sc.symbols x.lower) z) body sc carried))) zs
    turning_on line sc u carried z zs only eb ef has t = record {
      done = λ p. status_after given c.buffer p todo (t.done p);
      in_force = λ p n near e.
          let k = some_before given c.buffer p todo (t.done p) n (only_steps given.outline.setting body s c.buffer c.function only) e in
          of p k.0 n (changes body c.buffer) refl (t.in_force p k.0 near k.1) k.2;
      in_turn = turn_rest given c.buffer c.function c.definition t.done todo _ t.in_turn;
    }
      where
        c : Claim
        c = given.outline.claim u.next

        s : Symbols
        s = turn_symbols given sc.symbols i (largest sc.symbols x.lower) z

        todo : List Action
        todo = actions given.outline.setting body s

        inner : Scope
        inner = in_turn given s body sc carried

        of : (p : List ℤ) (m n : ℕ) → (v : Bool) → changes body c.buffer ≡ v → Handed v carried (stable given body sc.facts) u.before p m → status_after given c.buffer p todo (Some m) ≡ Some n →
            Handed v (handed_on given i body (left given body (line + 1) inner)) (stable given body sc.facts) u.before p n
        of p m n true e k on =
            force_chosen given (λ h. windowed given.outline i h.claim || is_updated given body h) u.before p n (left given body (line + 1) inner)
            (λ h same. or_is (windowed given.outline i h.claim) (is_updated given body h) (updated u body h eb ef e only same))
            (force_left given u.before c.buffer c.function eb ef body (line + 1) inner p m n only has (force_before given u.before p m carried (stable given body sc.facts) k) on)
        of p m n false e k on =
            let same : Some m ≡ Some n = sym (status_spared given c.buffer p todo (Some m) (leaves given.outline.setting body s c.buffer e)) ∙ on in
            let number : m ≡ n = cc in
            subst (InForce given (stable given body sc.facts) u.before p) number k

  any_right : {A : Type 0} (test : A → Bool) (xs ys : List A) → list_any test (xs ++ ys) ≡ false → list_any test ys ≡ false
  any_right test [] ys h = h
  any_right test (x ∷ xs) ys h = any_right test xs ys (or_right (test x) (list_any test (xs ++ ys)) h)

  or_both : (a b : Bool) → a ≡ false → b ≡ false → (a || b) ≡ false
  or_both true b h k = h
  or_both false b h k = k

  -- what is new where a nest begins is new before it
  new_before : (i : ℕ) (x : Span1) (a : Statement) (next : List ℕ) (known : Known) → has_symbol given.outline rules i x (within given.outline rules a next known) ≡ false → has_symbol given.outline rules i x known ≡ false
  new_before i x a next known h =
      let h0 = span_has i x in
      let h1 = list_any (binder_has i) known.binders in
      let h2 = list_any (λ b. list_any (places_have i) b.places) known.buffers in
      let h3 = list_any (λ c. list_any (span_has i) (region_of given.outline rules c)) known.claims in
      let test : Updating → Bool = λ u. list_any (span_has i) (region_of given.outline rules u.before) || list_any (span_has i) (region_of given.outline rules u.next) in
      let all = list_any test (nests_of given.outline rules a next known.own ++ known.updating) in
      let h4 = list_any test known.updating in
      let r0 = or_right h0 (h1 || (h2 || (h3 || all))) h in
      let r1 = or_right h1 (h2 || (h3 || all)) r0 in
      let r2 = or_right h2 (h3 || all) r1 in
      or_both h0 (h1 || (h2 || (h3 || h4))) (or_left h0 (h1 || (h2 || (h3 || all))) h)
      (or_both h1 (h2 || (h3 || h4)) (or_left h1 (h2 || (h3 || all)) r0)
      (or_both h2 (h3 || h4) (or_left h2 (h3 || all) r1)
      (or_both h3 h4 (or_left h3 all r2) (any_right test (nests_of given.outline rules a next known.own) known.updating (or_right h3 all r2)))))

  is_new : (a : Statement) (line : ℕ) (next : List ℕ) (known : Known) (sc : Scope) → Stands known sc →
      AllMeant given (turn_obligations given.outline rules [] a line (within given.outline rules a next known)) → IsNew a known
  is_new (Let i pick ls) line next known sc st h = new_before i (from_each ls) (Let i pick ls) next known (is_not _ (h.0 sc.symbols st.respects))
  is_new (Seq all) line next known sc st h = tt
  is_new (For i x kind body) line next known sc st h = tt
  is_new (First i a b) line next known sc st h = tt
  is_new (Guard low high body) line next known sc st h = tt
  is_new (Alloc b f places) line next known sc st h = tt
  is_new (Fetch b g region) line next known sc st h = tt
  is_new (Store b k at e) line next known sc st h = tt
  is_new (Publish c) line next known sc st h = tt

  module _ (suited : Suited given rules) where
    mutual
      pub sound_where : (kept : List Window) (a : Statement) (line : ℕ) (known : Known) (sc : Scope) → is_covered given.outline.setting a ≡ true → Stands known sc → AreOngoing a known sc →
          AwaitedIn given rules kept a line known.binders sc → AllMeant given (turn_obligations given.outline rules kept a line known) → IsSound given a line sc
      sound_where kept (Seq all) line known sc pure st on kept_on h = block_sound_where kept all line (in_block given.outline rules known) sc pure (block_stands known sc st) on kept_on h
      sound_where kept (For i x kind body) line known sc pure st on kept_on h =
          let new = is_not _ (h.0 sc.symbols st.respects) in
          turns_with
          (λ z c. IsSound given body (line + 1) (in_turn given (turn_symbols given sc.symbols i (largest sc.symbols x.lower) z) body sc c))
          (λ z c. handed_on given i body (left given body (line + 1) (in_turn given (turn_symbols given sc.symbols i (largest sc.symbols x.lower) z) body sc c)))
          (λ c zs. ((u : Updating) → In u known.updating → Turning i x body sc u c zs) × AreCarried given rules i x known.binders sc body (line + 1) c zs) (turns sc.symbols x)
          (choose_facts (is_updated given body) sc.facts)
          ((λ u m. turning_begins i x kind body sc u (on u m)), first_carried given rules i x known.binders sc body (line + 1) (choose_facts (is_updated given body) sc.facts)) (λ z m rest c t.
          let turn = one_turn given rules i x known.binders sc body (line + 1) z rest c t.1 in (
            sound_where (kept_of given.outline rules i body (line + 1)) body (line + 1) (in_loop given.outline rules i x body known)
                (in_turn given (turn_symbols given sc.symbols i (largest sc.symbols x.lower) z) body sc c) pure
                (turn_stands i x body known sc z c new st m)
                (λ u n. turning_now i x body known sc u c z rest new n (on u n).0 (on u n).1.buffer (on u n).1.function (on u n).1.room (t.0 u n)) turn.awaited h.1,
            ((λ u n. turning_on i x body line sc u c z rest (on u n).0 (on u n).1.buffer (on u n).1.function (on u n).1.room (t.0 u n)), turn.next),
          ))
      sound_where kept (Let i pick ls) line known sc pure st on kept_on h = tt
      sound_where kept (First i a b) line known sc pure st on kept_on h =
          let P = Meant given in
          let inner = in_block given.outline rules known in
          let both = and_parts (is_covered given.outline.setting a) (is_covered given.outline.setting b) pure in
          let xs = turn_obligations given.outline rules [] a (line + 1) inner in
          let ys = turn_obligations given.outline rules [] b (line + 2 + lines a) inner in (
            (λ e. sound_where [] a (line + 1) inner sc both.0 (block_stands known sc st) (λ u m. in_first true i a b u sc e (on u m))
                (none_awaited given rules a (line + 1) known.binders sc) (rec_left P xs ys h)),
            (λ e. sound_where [] b (line + 2 + lines a) inner sc both.1 (block_stands known sc st) (λ u m. in_first false i a b u sc e (on u m))
                (none_awaited given rules b (line + 2 + lines a) known.binders sc) (rec_right P xs ys h)),
          )
      sound_where kept (Guard low high body) line known sc pure st on kept_on h =
          λ e. sound_where [] body (line + 1) (in_guard given.outline rules low high known) sc pure
          (record { respects = (le_true (form_value low sc.symbols) (form_value high sc.symbols) e, st.respects); rooms = st.rooms; free = st.free; claims = st.claims; own = λ c n. absurd (cc n) })
          (λ u m. in_guard_on low high body u sc e (on u m)) (none_awaited given rules body (line + 1) (Passed low high ∷ known.binders) sc) h
      sound_where kept (Alloc b f places) line known sc pure st on kept_on h = st.free b (free_none (places_of known.buffers b) (h.0 sc.symbols st.respects))
      sound_where kept (Fetch b g region) line known sc pure st on kept_on h =
          λ p m. seated_at b region p known sc (places_of known.buffers b) refl st (h.0 sc.symbols st.respects) (point_lies sc.symbols region p m)
      sound_where kept (Store b k at e) line known sc pure st on kept_on h =
          let n = given.outline.setting.dimensions b in
          store_at suited line known sc b (given.outline.setting.buffer_function b) k (take n at) (drop n at) (map (λ c. c.variable) at) e (ap (map (λ c. c.variable)) (sym (take-append-drop n at))) pure st (λ u m. (on u m).1) h
      sound_where kept (Publish c) line known sc pure st on kept_on h =
          λ p m. usable suited known sc c p st (h.0 sc.symbols st.respects) (lies_region sc.symbols (spans c) p (h.1.0 sc.symbols st.respects p (suited.owned sc.symbols p m)))

      pub block_sound_where : (kept : List Window) (row : Statements) → (line : ℕ) (known : Known) (sc : Scope) → is_covered_block given.outline.setting row ≡ true → Stands known sc →
          BlockIsOngoing row known sc → AreAwaited given rules kept row line known.binders sc →
          AllMeant given (block_obligations given.outline rules kept row line known) → IsSoundBlock given row line sc
      block_sound_where kept Empty line known sc pure st on kept_on h = tt
      block_sound_where kept (Then a rest) line known sc pure st on kept_on h =
          let P = Meant given in
          let last = line + lines a - 1 in
          let named = given.outline.named last in
          let both = and_parts (is_covered given.outline.setting a) (is_covered_block given.outline.setting rest) pure in
          let xs = turn_obligations given.outline rules [] a line (within given.outline rules a named known) in
          let ys = flat_map (claim_obligations given.outline rules kept line last known a) named in
          let zs = block_obligations given.outline rules (without named kept) rest (line + lines a) (onwards given.outline rules a named known) in
          let here = rec_left P xs (ys ++ zs) h in
          let claims = rec_left P ys zs (rec_right P xs (ys ++ zs) h) in
          let new = is_new a line named known sc st here in (
            sound_where [] a line (within given.outline rules a named known) sc both.0 (within_stands a named known sc st)
                (λ u m. first_on kept line last known sc a rest st on claims u (in_append u (nests_of given.outline rules a named known.own) known.updating m))
                (none_awaited given rules a line known.binders sc) here,
            made_all kept line last known sc a named st (claim_handed given rules kept a rest line known.binders sc kept_on) claims,
            block_sound_where (without named kept) rest (line + lines a) (onwards given.outline rules a named known) (onward given a line sc) both.1 (onward_stands a line known sc new st)
                (λ u m. rest_on u a rest line known sc new m (on u m)) (rest_awaited given rules kept a rest line known.binders sc kept_on) (rec_right P ys zs (rec_right P xs (ys ++ zs) h)),
          )
