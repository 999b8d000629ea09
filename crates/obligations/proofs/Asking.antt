-- What nests, claims and stores ask for, one after another.
use Rattle.std.proofs.Common.{◌≡◌, ℕ, ◌-◌, ◌^◌, min, suc, zero, Bool, true, false, List, [], ◌∷◌, ◌++◌, map, take, drop, Option, None, refl, sym, ap, ◌∙◌}
use Rattle.std.specs.Prelude.{filter, flat_map, if◌then◌else◌}
use Rattle.std.specs.List.{list_any, drop-map}
use Rattle.std.proofs.lemmas.List.{take-map, take-append-drop}
use Rattle.tree.specs.Term.{Term}
use Rattle.plan.specs.declared.stmt.Coordinate.{Coordinate as CoordinateHeld}
use Rattle.plan.specs.Plan.{Coordinate}
use Rattle.plan.specs.View.{coordinate_of}
use Rattle.lin.specs.declared.span.Span1.{Span1}
use Rattle.soundness.specs.declared.outline.refusals.code.K.{K}
use Rattle.soundness.specs.declared.outline.refusals.code.K.TheVariants.{K5}
use Rattle.soundness.specs.declared.outline.refusals.code.Flaw.{Flaw}
use Rattle.plan.specs.Semantics.Setting.{or_else}
use Rattle.soundness.specs.Origins.{Outline}
use Rattle.soundness.specs.Obligations.{seated, places_of, coordinate_loads, loads, may_load, met, target_span, variable_span, store_obligations, OutOfBuffer, Known, Rules, NotClaimed, Named, Inside, Obligation, obligation, region_of, serves, follows, is_begun, claimed}
use Rattle.soundness.specs.Shown.{Nests}
use Rattle.obligations.specs.declared.context.judge.Part.{Part}
use Rattle.obligations.specs.declared.context.known.Nest.{Nest}
use Rattle.obligations.specs.declared.context.known.Known.{Known as KnownHeld}
use Rattle.obligations.specs.declared.loads.Reads.{Reads}
use Rattle.obligations.specs.Asked.{is_asked, first_unmet, unless}
use Rattle.obligations.specs.Context.Around.{nest_of}
use Rattle.obligations.specs.Around.{asked_by_claims}
use Rattle.obligations.specs.Loads.{asked_by_nests, asked_by_store, coordinates_of, known_in, names_in, names_of, variable_spans}
use Rattle.obligations.proofs.Unmet.{one, alone}

kept_apart : {Y : Type 0} (h : Y → Obligation) (b : Bool) (y : Y) (ys : List Y) → map h (if b then y ∷ ys else ys) ≡ map h (if b then y ∷ [] else []) ++ map h ys
kept_apart h true y ys = refl
kept_apart h false y ys = refl

-- nothing is told
abbrev none_told : Option Flaw
none_told = None

none_both : (b : Bool) → (if b then none_told else none_told) ≡ none_told
none_both true = refl
none_both false = refl

module _ (outline : Outline) (rules : Rules) where
  pub nests_step : (r : Reads) (places : List Span1) (u : Nest) (us : List Nest) → asked_by_nests outline rules r places (u ∷ us) ≡ asked_by_nests outline rules r places (u ∷ []) ++ asked_by_nests outline rules r places us
  nests_step r places u us = kept_apart _ (serves outline rules r.buffer r.function.now r.definition (nest_of u)) (nest_of u) (filter (serves outline rules r.buffer r.function.now r.definition) (map nest_of us))

  pub claims_step : (k : KnownHeld) (c d : ℕ) (ds : List ℕ) → asked_by_claims outline rules k c (d ∷ ds) ≡ asked_by_claims outline rules k c (d ∷ []) ++ asked_by_claims outline rules k c ds
  claims_step k c d ds = kept_apart _ (follows outline rules d c) d (filter (λ e. follows outline rules e c) ds)

  unless_true : (part : Part) (k : K) (line : ℕ) → unless part k line true ≡ None
  unfolding unless
  unless_true part k line = none_both (is_asked part (record { code = k; line = line }))

  module _ (nests : Nests) (part : Part) (line : ℕ) (known : Known) (b : ℕ) (f : List ℕ) (places : List Span1) where
    -- what a store asks for of the nest that it stands in
    abbrev pub asks_nest : ℕ → Option Flaw
    asks_nest n = first_unmet rules nests part (obligation outline rules NotClaimed line known (Named (is_begun outline rules known b f n)) ∷ claimed outline rules line known b f n places)

    pub nest_pure : (n : ℕ) → n ≡ 0 → asks_nest n ≡ None
    nest_pure zero h = alone rules nests part (obligation outline rules NotClaimed line known (Named true)) ∙ unless_true part K5 (min line (2 ^ 32 - 1))
    nest_pure (suc k) h = absurd (cc h)

    pub nest_later : (n : ℕ) → (n ≡ 0 → ⊥) → asks_nest n ≡ or_else (unless part K5 (min line (2 ^ 32 - 1)) (list_any (serves outline rules b f n) known.updating))
        (first_unmet rules nests part (map (λ u. obligation outline rules NotClaimed line known (Inside places (region_of outline rules u.next))) (filter (serves outline rules b f n) known.updating)))
    nest_later zero h = absurd (h refl)
    nest_later (suc k) h = one rules nests part _ _

-- ---- a store whose coordinates are split into those of its function and those of the reduction

module _ (outline : Outline) (rules : Rules) where
  -- what a store asks for, where its variables have these names and spans
  abbrev store_list : Reads → List Coordinate → List Coordinate → List (List ℕ) → List Span1 → Term → List Obligation
  store_list r at over names left e =
      let K = known_in r in
      let may = may_load outline rules K r.buffer r.function.now r.definition in
      let meets = met outline rules r.function.now r.definition at in
      let places = map (target_span outline rules K names left) at in
      obligation outline rules OutOfBuffer r.line K (seated outline rules (places_of K.buffers r.buffer) places)
      ∷ obligation outline rules NotClaimed r.line K (Named (is_begun outline rules K r.buffer r.function.now r.definition))
      ∷ (claimed outline rules r.line K r.buffer r.function.now r.definition places
      ++ (flat_map (coordinate_loads outline rules r.line K may meets names left) at
      ++ loads outline rules r.line K may meets names (places ++ map (variable_span outline rules) over) e))

  pub store_of : (r : Reads) (over : List CoordinateHeld) (left : List Span1) (cs : List CoordinateHeld) (n : ℕ) (e : Term) → r.at.now ≡ take n cs → over ≡ drop n cs → names_in r ≡ names_of cs → left ≡ variable_spans outline rules cs →
      asked_by_store outline rules r over left e ≡ store_obligations outline rules r.line (known_in r) r.buffer r.function.now r.definition (take n (coordinates_of cs)) (drop n (coordinates_of cs)) e
  store_of r over left cs n e ha ho hn hl =
      let at : coordinates_of r.at.now ≡ take n (coordinates_of cs) = ap coordinates_of ha ∙ sym (take-map coordinate_of n cs) in
      let rest : coordinates_of over ≡ drop n (coordinates_of cs) = ap coordinates_of ho ∙ sym (drop-map coordinate_of n cs) in
      let whole : coordinates_of cs ≡ take n (coordinates_of cs) ++ drop n (coordinates_of cs) = sym (take-append-drop n (coordinates_of cs)) in
      let names : names_in r ≡ map (λ c. c.variable) (take n (coordinates_of cs) ++ drop n (coordinates_of cs)) = hn ∙ ap (λ (l : List Coordinate). map (λ c. c.variable) l) whole in
      let spans : left ≡ map (variable_span outline rules) (take n (coordinates_of cs) ++ drop n (coordinates_of cs)) = hl ∙ ap (map (variable_span outline rules)) whole in
      λ i. store_list r (at i) (rest i) (names i) (spans i) e
