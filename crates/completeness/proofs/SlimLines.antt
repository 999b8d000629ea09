-- Where no form of a plan is out of the limits of forms, and no line names what is unknown, its lines have few spans; so they are short but for large expressions.
use Rattle.std.proofs.Common.{◌≡◌, ℕ, zero, suc, ◌<◌, ◌≤◌, Bool, true, false, ◌&&◌, List, [], ◌∷◌, ◌++◌, length, Option, Some, None, refl, sym, ap, ◌∙◌, subst, inl, inr, arith}
use Rattle.std.specs.Prelude.{nat_le, take, drop, MatchOption, slice_get}
use Rattle.std.specs.List.{AllByRecursion, list_all}
use Rattle.std.specs.Option.{option_map}
use Rattle.std.proofs.lemmas.Bool.{false≢true}
use Rattle.std.proofs.lemmas.Bool.Decides.{nat_tests}
use Rattle.std.proofs.lemmas.Fmt.{length-decimal-le}
use Rattle.std.proofs.lemmas.List.{length-drop, length-map}
use Rattle.std.proofs.lemmas.List.Elements.{recursion_from_All}
use Rattle.std.proofs.lemmas.List.Folds.{list_all-append}
use Rattle.bounds.proofs.ListSound.{all-append}
use Rattle.lin.specs.Forms.{Form, is_within_limits}
use Rattle.lin.specs.declared.span.Span1.{Span1}
use Rattle.meaning.specs.Algorithm.{Change, Function, Algorithm}
use Rattle.meaning.specs.Names.{same_name}
use Rattle.meaning.specs.Conditions.{IsUpdate, IsAlgorithm, function_named}
use Rattle.plan.specs.declared.stmt.Places.{Places}
use Rattle.plan.specs.declared.stmt.Places.TheVariants.{From, Folded}
use Rattle.plan.specs.Plan.{Index, At, Found, Coordinate, Statement, Seq, For, Let, First, Guard, Alloc, Fetch, Store, Publish, Statements, Empty, Then, Group, Plan}
use Rattle.plan.specs.Certificate.Certificate.{Certificate}
use Rattle.soundness.specs.Given.{outline_of}
use Rattle.soundness.specs.Outline.Flaws.{line_told}
use Rattle.soundness.specs.Outline.Forms.{are_within_limits, spans_are_within_limits}
use Rattle.validation.specs.Wide.{IsWide, SpanIsWide, RegionIsWide}
use Rattle.validation.specs.Stored.Definitions.{Parts, parts_of, parts_named, Definition, Pure, Step, definition_in}
use Rattle.validation.specs.Groups.Inside.{Inside, InsideOne}
use Rattle.validation.specs.Groups.Lines.{Here, place_is_within, in_loop, inside, in_later, before, after, is_empty}
use Rattle.validation.specs.Groups.Wrong.{LacksVariables, HasNames, StoresUnknown, NamesUnknown, OriginIsWide, IndexIsWide, HasWide}
use Rattle.validation.proofs.Wide.{any_fails, form_is_wide, forms_are_wide, span_is_wide, region_is_wide}
use Rattle.nest.specs.Blocks.Line.{Line, ElseLine, EndLine, StoreLine}
use Rattle.nest.specs.Blocks.Flat.{statement_lines, block_lines}
use Rattle.completeness.specs.OfPlans.{store_nodes, is_small_line}
use Rattle.completeness.specs.Said.{IsCalledBy, IsIndexSaid, IsCoordinateSaid, IsStatementSaid, AreStatementsSaid}
use Rattle.completeness.proofs.LineLengths.{IsNearPlace, IsNearIndex, IsSlim}
use Rattle.completeness.proofs.TextLengths.{IsNearSpan}

-- ---- tests

both : (a b : Bool) → (a && b) ≡ true → (a ≡ true) × (b ≡ true)
both true b h = (refl, h)
both false b h = absurd (cc h)

unless : (b : Bool) → (b ≡ false → ⊥) → b ≡ true
unless true free = refl
unless false free = absurd (free refl)

at_most_so : (m n : ℕ) → nat_le m n ≡ true → m ≤ n
at_most_so m n h = grind (arith, nat_tests, h)

more_so : (m n : ℕ) → nat_le m n ≡ false → n < m
more_so m n h = grind (arith, nat_tests, h)

-- a number of which it can't be that it is above
at_most_unless : (m n : ℕ) → (n < m → ⊥) → m ≤ n
at_most_unless m n free = at_most_so m n (unless (nat_le m n) (λ e. free (more_so m n e)))

-- names, and loads by claims with few numbers
pub called_short : (count : ℕ) → count < 10000 → (x : List ℕ) → IsCalledBy count x → length x ≤ 16
called_short count few x (inl name) = name.short
called_short count few x (inr (k, less, is)) =
    let digits = length-decimal-le 4 k (omega arith) (omega (arith, less, few)) (omega (arith, less, few)) in
    let long = ap length is in
    omega (arith, digits, long)

-- ---- forms

near_form : (f : Form) → (IsWide f → ⊥) → is_within_limits f ≡ true
near_form f free = unless (is_within_limits f) (λ e. free (form_is_wide f e))

near_span : (x : Span1) → (SpanIsWide x → ⊥) → IsNearSpan x
near_span x free = both _ _ (unless (are_within_limits x.lower && are_within_limits x.upper) (λ e. free (span_is_wide x e)))

pub spans_near : (xs : List Span1) → spans_are_within_limits xs ≡ true → AllByRecursion IsNearSpan xs
spans_near [] h = tt
spans_near (x ∷ xs) h = (let a = both _ _ h in (both _ _ a.0, spans_near xs a.1))

pub near_region : (xs : List Span1) → (RegionIsWide xs → ⊥) → AllByRecursion IsNearSpan xs
near_region xs free = spans_near xs (unless (spans_are_within_limits xs) (λ e. free (region_is_wide xs e)))

origin_wide : (x : Places) → place_is_within x ≡ false → OriginIsWide x
origin_wide (From form n) h = form_is_wide form h
origin_wide (Folded n) h = absurd (false≢true (sym h))

places_near : (ps : List Places) → list_all place_is_within ps ≡ true → AllByRecursion IsNearPlace ps
places_near [] h = tt
places_near (From f n ∷ ps) h = (let a = both _ _ h in (a.0, places_near ps a.1))
places_near (Folded n ∷ ps) h = (tt, places_near ps h)

abbrev index_near : Coordinate → Bool
index_near c = elim c.index [ At form ↦ is_within_limits form | Found e ↦ true ]

index_wide : (c : Coordinate) → index_near c ≡ false → IndexIsWide c.index
index_wide c h = of c.index h
  where
    of : (i : Index) → (elim i [ At form ↦ is_within_limits form | Found e ↦ true ]) ≡ false → IndexIsWide i
    of (At form) e = form_is_wide form e
    of (Found t) e = absurd (false≢true (sym e))

-- ---- functions

named_at : (fs : List Function) (name : List ℕ) (f : Function) → function_named fs name ≡ Some f → (k : ℕ) × (slice_get fs k ≡ Some f)
named_at [] name f h = absurd (cc h)
named_at (g ∷ fs) name f h = of (same_name g.name name) h (named_at fs name f)
  where
    of : (b : Bool) → (elim b [ true ↦ Some g | false ↦ function_named fs name ]) ≡ Some f → (function_named fs name ≡ Some f → (k : ℕ) × (slice_get fs k ≡ Some f)) →
        (k : ℕ) × (slice_get (g ∷ fs) k ≡ Some f)
    of true e rest = (0, e)
    of false e rest = (let r = rest e in (suc r.0, r.1))

pub record IsSlimParts (f : Parts) : Type 0 where
  pub variables : length f.variables ≤ 3
  ranges : (i : ℕ) (u : Change) → slice_get f.changes i ≡ Some u → length u.ranges ≤ 3

module _ (a : Algorithm) (well : IsAlgorithm a) where
  pub slim_named : (name : List ℕ) (f : Parts) → parts_named a name ≡ Some f → IsSlimParts f
  slim_named name f e = of (function_named a.functions name) refl e
    where
      each : (before : List Function) (h : Function) (us : List Change) → AllByRecursion (IsUpdate a before h) us → (i : ℕ) (u : Change) → slice_get us i ≡ Some u → length u.ranges ≤ 3
      each before h [] all i u at = absurd (cc at)
      each before h (v ∷ us) all zero u at = subst (λ (w : Change). length w.ranges ≤ 3) (some_same v u at) all.0.domain.few
        where
          some_same : (v u : Change) → Some v ≡ Some u → v ≡ u
          some_same v u q = cc
      each before h (v ∷ us) all (suc i) u at = each before h us all.1 i u at

      some_parts : (h : Function) → Some (parts_of h) ≡ Some f → parts_of h ≡ f
      some_parts h q = cc

      of : (o : Option Function) → function_named a.functions name ≡ o → option_map parts_of o ≡ Some f → IsSlimParts f
      of None q r = absurd (cc r)
      of (Some h) q r =
          let k = named_at a.functions name h q in
          let is = well.functions k.0 h k.1 in
          let made : IsSlimParts (parts_of h) = record {
            variables = is.few;
            ranges = each (take k.0 a.functions) h h.changes (recursion_from_All (IsUpdate a (take k.0 a.functions) h) h.changes is.updates);
          } in
          subst IsSlimParts (some_parts h r) made

  -- as many spans or places as the function has variables
  pub few_spans : (name : List ℕ) (n : ℕ) → (LacksVariables a name n → ⊥) → n ≤ 3
  few_spans name n free = at_most_unless n 3 (λ more. free (lacks more (parts_named a name) refl))
    where
      lacks : 3 < n → (o : Option Parts) → parts_named a name ≡ o → MatchOption o (Unit {0}) (λ f. length f.variables ≡ n → ⊥)
      lacks more None e = tt
      lacks more (Some f) e = λ is. (let few = (slim_named name f e).variables in omega (arith, more, few, is))

  few_names : (d : Definition) (name : List ℕ) (k : ℕ) → definition_in (parts_named a name) k ≡ Some d → (at : List Coordinate) → HasNames d at → length at ≤ 6
  few_names d name k e at = of (parts_named a name) refl k e
    where
      pure : (f : Parts) → IsSlimParts f → Pure f ≡ d → HasNames d at → length at ≤ 6
      pure f slim is has =
          let named : HasNames (Pure f) at = subst (λ (y : Definition). HasNames y at) (sym is) has in
          let long = length-map at (λ (x : Coordinate). x.variable) in
          let count = ap length named in
          let few = slim.variables in
          omega (arith, long, count, few)

      step : (f : Parts) (u : Change) → IsSlimParts f → length u.ranges ≤ 3 → Step f u ≡ d → HasNames d at → length at ≤ 6
      step f u slim ranges is has =
          let named : HasNames (Step f u) at = subst (λ (y : Definition). HasNames y at) (sym is) has in
          let rest = drop (length f.variables) at in
          let long = length-map rest (λ (x : Coordinate). x.variable) in
          let count = ap length named.1 in
          let all = length-map u.ranges (λ d. d.variable) in
          let dropped = length-drop (length f.variables) at in
          let few = slim.variables in
          omega (arith, long, count, all, dropped, few, ranges)

      some_of : (x : Definition) → Some x ≡ Some d → x ≡ d
      some_of x q = cc

      changed : (f : Parts) → IsSlimParts f → (i : ℕ) (o : Option Change) → slice_get f.changes i ≡ o → option_map (Step f) o ≡ Some d → HasNames d at → length at ≤ 6
      changed f slim i None q r has = absurd (cc r)
      changed f slim i (Some u) q r has = step f u slim (slim.ranges i u q) (some_of (Step f u) r) has

      of : (o : Option Parts) → parts_named a name ≡ o → (j : ℕ) → definition_in o j ≡ Some d → HasNames d at → length at ≤ 6
      of None q j r has = absurd (cc r)
      of (Some f) q zero r has = pure f (slim_named name f q) (some_of (Pure f) r) has
      of (Some f) q (suc i) r has = changed f (slim_named name f q) i (slice_get f.changes i) refl r has

  -- ---- groups

  halves : (xs ys : List Line) → list_all is_small_line (xs ++ ys) ≡ true → (list_all is_small_line xs ≡ true) × (list_all is_small_line ys ≡ true)
  halves xs ys h = both _ _ (sym (list_all-append is_small_line xs ys) ∙ h)

  module _ (p : Plan) (c : Certificate) (count : ℕ) (small : count < 10000) where
    abbrev pub IsSlimLine : Line → Type 0
    IsSlimLine = IsSlim (IsCalledBy count) (called_short count small)

    abbrev pub AreSlim : List Line → Type 0
    AreSlim ls = AllByRecursion IsSlimLine ls

    joined : (xs ys : List Line) → AreSlim xs → AreSlim ys → AreSlim (xs ++ ys)
    joined xs ys h k = all-append IsSlimLine xs ys h k

    indices_near : (cs : List Coordinate) → list_all index_near cs ≡ true → AllByRecursion (IsCoordinateSaid count) cs →
        AllByRecursion (λ c. IsNearIndex (IsCalledBy count) (called_short count small) c.index) cs
    indices_near [] near said = tt
    indices_near (c ∷ cs) near said = (let n = both _ _ near in (of c.index n.0 said.0.index, indices_near cs n.1 said.1))
      where
        of : (i : Index) → (elim i [ At form ↦ is_within_limits form | Found e ↦ true ]) ≡ true → IsIndexSaid count i → IsNearIndex (IsCalledBy count) (called_short count small) i
        of (At form) n q = n
        of (Found e) n q = q.written

    module _ (n : ℕ) (g : Group) where
      -- no line inside is so
      abbrev pub Never : (Statement → Here → Type 0) → Statement → Here → Type 0
      Never P s here = (line : ℕ) → Inside (λ t h. (line_told h.line ≡ line) × P t h) s here → ⊥

      abbrev pub NeverOne : (Statement → Here → Type 0) → Statements → Here → Type 0
      NeverOne P all here = (line : ℕ) → InsideOne (λ t h. (line_told h.line ≡ line) × P t h) all here → ⊥

      abbrev pub Wide : Statement → Here → Type 0
      Wide s here = HasWide s

      abbrev pub Unknown : Statement → Here → Type 0
      Unknown = NamesUnknown a p c g (outline_of p c n g)

      store_slim : (b k : ℕ) (at : List Coordinate) (e : _) (here : Here) → (HasWide (Store b k at e) → ⊥) → (Unknown (Store b k at e) here → ⊥) → IsStatementSaid count (Store b k at e) →
          is_small_line (StoreLine b k at e) ≡ true → IsSlimLine (StoreLine b k at e)
      store_slim b k at e here wide unknown said few =
          let near : list_all index_near at ≡ true = unless (list_all index_near at) (λ q. wide (any_fails index_near (λ x. IndexIsWide x.index) index_wide at q)) in
          let nodes = at_most_so (store_nodes at e) 3500 few in
          let name : List ℕ = (outline_of p c n g).setting.buffer_function b in
          let names : length at ≤ 6 = at_most_unless (length at) 6 (λ more. unknown (inr (lacks more name (λ d q. few_names d name k q at) (definition_in (parts_named a name) k) refl))) in
          (indices_near at near said.0, said.1.written, names, nodes)
        where
          lacks : 6 < length at → (name : List ℕ) → ((d : Definition) → definition_in (parts_named a name) k ≡ Some d → HasNames d at → length at ≤ 6) → (o : Option Definition) →
              definition_in (parts_named a name) k ≡ o → MatchOption o (Unit {0}) (StoresUnknown a p c g (outline_of p c n g) here b at e)
          lacks more name most None q = tt
          lacks more name most (Some d) q = inl (λ has. let few_there = most d q has in omega (arith, more, few_there))

      mutual
        pub statement_slim : (s : Statement) (here : Here) → Never Wide s here → Never Unknown s here → IsStatementSaid count s → list_all is_small_line (statement_lines s) ≡ true →
            AreSlim (statement_lines s)
        statement_slim (Seq all) here wide unknown said few = block_slim all here wide unknown said few
        statement_slim (For i x kind body) here wide unknown said few =
            let parts = halves (statement_lines body) (EndLine ∷ []) few in
            let own = near_span x (λ w. wide _ (inl (refl, w))) in
            let inner = statement_slim body (in_loop i here) (λ l h. wide l (inr h)) (λ l h. unknown l (inr h)) said parts.0 in
            (own, joined (statement_lines body) (EndLine ∷ []) inner (tt, tt))
        statement_slim (Let i pick forms) here wide unknown said few = (unless (are_within_limits forms) (λ e. wide _ (refl, forms_are_wide forms e)), tt)
        statement_slim (First i s t) here wide unknown said few =
            let last : List Line = ElseLine ∷ (statement_lines t ++ EndLine ∷ []) in
            let parts = halves (statement_lines s) last few in
            let others = halves (statement_lines t) (EndLine ∷ []) parts.1 in
            let one = statement_slim s (inside here) (λ l h. wide l (inr (inl h))) (λ l h. unknown l (inr (inl h))) said.0 parts.0 in
            let two = statement_slim t (in_later s here) (λ l h. wide l (inr (inr h))) (λ l h. unknown l (inr (inr h))) said.1 others.0 in
            (tt, joined (statement_lines s) last one (tt, joined (statement_lines t) (EndLine ∷ []) two (tt, tt)))
        statement_slim (Guard low high body) here wide unknown said few =
            let parts = halves (statement_lines body) (EndLine ∷ []) few in
            let one = near_form low (λ w. wide _ (inl (refl, inl w))) in
            let two = near_form high (λ w. wide _ (inl (refl, inr w))) in
            let inner = statement_slim body (inside here) (λ l h. wide l (inr h)) (λ l h. unknown l (inr h)) said parts.0 in
            ((one, two), joined (statement_lines body) (EndLine ∷ []) inner (tt, tt))
        statement_slim (Alloc b f places) here wide unknown said few =
            let near : list_all place_is_within places ≡ true = unless (list_all place_is_within places) (λ e. wide _ (refl, any_fails place_is_within OriginIsWide origin_wide places e)) in
            ((places_near places near, few_spans f (length places) (λ lacks. unknown _ (refl, inl lacks))), tt)
        statement_slim (Fetch b h region) here wide unknown said few =
            let name : List ℕ = (outline_of p c n g).setting.group_function h in
            ((near_region region (λ w. wide _ (refl, w)), few_spans name (length region) (λ lacks. unknown _ (refl, inr (inr (inr (inl lacks)))))), tt)
        statement_slim (Store b k at e) here wide unknown said few = (store_slim b k at e here (λ w. wide _ (refl, w)) (λ w. unknown _ (refl, w)) said (both _ _ few).0, tt)
        statement_slim (Publish k) here wide unknown said few = (tt, tt)

        pub block_slim : (all : Statements) (here : Here) → NeverOne Wide all here → NeverOne Unknown all here → AreStatementsSaid count all → list_all is_small_line (block_lines all) ≡ true →
            AreSlim (block_lines all)
        block_slim Empty here wide unknown said few = tt
        block_slim (Then s rest) here wide unknown said few =
            let parts = halves (statement_lines s) (block_lines rest) few in
            let one = statement_slim s (before (is_empty rest) here) (λ l h. wide l (inl h)) (λ l h. unknown l (inl h)) said.0 parts.0 in
            let more = block_slim rest (after s here) (λ l h. wide l (inr h)) (λ l h. unknown l (inr h)) said.1 parts.1 in
            joined (statement_lines s) (block_lines rest) one more
