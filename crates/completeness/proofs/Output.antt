-- The group of the output has each point of the output's extents.
use Rattle.std.proofs.Common.{◌≡◌, ℕ, zero, suc, ◌<◌, Bool, true, false, ◌||◌, List, [], ◌∷◌, length, map, Option, Some, None, refl, sym, ap, ◌∙◌, subst, arith}
use Rattle.std.specs.Prelude.{ℤ, pos, negsuc, ◌-ℤ◌, ◌≤ℤ◌, nat_lt, MatchOption, slice_get}
use Rattle.std.proofs.lemmas.Int.{ints}
use Rattle.std.proofs.lemmas.Bool.Decides.{nat_tests}
use Rattle.std.proofs.lemmas.List.Elements.{All-cons, All-nil}
use Rattle.lin.specs.Forms.{number}
use Rattle.lin.specs.Spans.{IsInRegion}
use Rattle.lin.specs.declared.span.Span1.{Span1}
use Rattle.bounds.specs.Spans.{numbers}
use Rattle.plan.specs.declared.plan.Group.{Group as CodeGroup}
use Rattle.plan.specs.Plan.{Group}
use Rattle.plan.specs.View.{group_of, plan_of}
use Rattle.plan.specs.Symbols.{form_value}
use Rattle.plan.specs.Certificate.Cells.{no_symbols, is_in_region}
use Rattle.meaning.specs.Algorithm.{Function, Algorithm}
use Rattle.meaning.specs.Names.{same_name}
use Rattle.meaning.specs.Image.Raster.{is_within}
use Rattle.meaning.specs.Conditions.{IsAlgorithm, IsOutput, function_named}
use Rattle.soundness.proofs.Refines.{and_parts, name_true, name_refl}
use Rattle.sched.specs.Schedule.{Schedule}
use Rattle.sched.specs.Legal.{IsLegal, said, loops_after}
use Rattle.sched.specs.Subjects.{subject_said, is_output, has_home}
use Rattle.sched.specs.Placing.{has_root}
use Rattle.headline.proofs.Lists.{at_map, from_map}
use Rattle.lower.specs.declared.lowering.Lowered.{Lowered}
use Rattle.sched.specs.Stored.{StoredText}
use Rattle.blocks.specs.Stored.{stored_by, flags}
use Rattle.lower.specs.Stored.{stored_functions, has_large}
use Rattle.sched.specs.Bounded.{whole}
use Rattle.regions.specs.Faults.{are_whole}
use Rattle.lower.specs.Faults.{region_fault}
use Rattle.lower.specs.Groups.{IsGroupOf, AreGroupsOf, HasGroups}
use Rattle.lower.proofs.Extents.{region_is, regions_there}
use Rattle.lower.proofs.Reached.{output_holds}
use Rattle.completeness.specs.Parted.{HasWholeOutput}
use Rattle.completeness.proofs.Laid.{subjects, found, stored_is}
use Rattle.completeness.proofs.Owned.{block_at, each, needed_at}
use Rattle.completeness.proofs.Points.{tests_region}

-- ---- the output's function

pub record IsNamed (fs : List Function) (name : List ℕ) (f : Function) : Type 0 where
  pub place : ℕ
  pub at : slice_get fs place ≡ Some f
  pub is : f.name ≡ name

pub named_is : (fs : List Function) (name : List ℕ) (f : Function) → function_named fs name ≡ Some f → IsNamed fs name f
named_is [] name f e = absurd (cc e)
named_is (g ∷ fs) name f e = of (same_name g.name name) refl e (named_is fs name f)
  where
    of : (b : Bool) → same_name g.name name ≡ b → elim b [ true ↦ Some g | false ↦ function_named fs name ] ≡ Some f → (function_named fs name ≡ Some f → IsNamed fs name f) → IsNamed (g ∷ fs) name f
    of true t q rest =
        let same : g ≡ f = cc q in
        record { place = 0; at = q; is = ap (λ (u : Function). u.name) (sym same) ∙ name_true g.name name t }
    of false t q rest = let w = rest q in record { place = suc w.place; at = w.at; is = w.is }

pub output_is : (a : Algorithm) → IsAlgorithm a → (f : Function) × (function_named a.functions a.output ≡ Some f) × IsOutput a.output_extents f
output_is a w = of (function_named a.functions a.output) refl w.output
  where
    of : (o : Option Function) → function_named a.functions a.output ≡ o → MatchOption o ⊥ (IsOutput a.output_extents) →
        (f : Function) × (function_named a.functions a.output ≡ Some f) × IsOutput a.output_extents f
    of None e h = absurd h
    of (Some f) e h = (f, e, h)

-- ---- its extents

within_long : (ns : List ℕ) (q : List ℤ) → is_within ns q ≡ true → length q ≡ length ns
within_long [] [] h = refl
within_long [] (z ∷ q) h = absurd (cc h)
within_long (n ∷ ns) [] h = absurd (cc h)
within_long (n ∷ ns) (pos z ∷ q) h = ap suc (within_long ns q (and_parts (nat_lt z n) (is_within ns q) h).1)
within_long (n ∷ ns) (negsuc z ∷ q) h = absurd (cc h)

within_region : (ns : List ℕ) (v : ℕ → ℤ) (q : List ℤ) → is_within ns q ≡ true → IsInRegion (map (λ n. numbers (pos 0) (pos n -ℤ pos 1)) ns) v q
within_region [] v [] h = tt
within_region [] v (z ∷ q) h = absurd (cc h)
within_region (n ∷ ns) v [] h = absurd (cc h)
within_region (n ∷ ns) v (negsuc z ∷ q) h = absurd (cc h)
within_region (n ∷ ns) v (pos z ∷ q) h =
    let parts = and_parts (nat_lt z n) (is_within ns q) h in
    let below : z < n = grind (arith, nat_tests) in (
      (
        All-cons (λ f. form_value f (record { value = v; first = λ i. false }) ≤ℤ pos z) (number (pos 0)) [] (omega (arith, ints))
            (All-nil (λ f. form_value f (record { value = v; first = λ i. false }) ≤ℤ pos z)),
        All-cons (λ f. pos z ≤ℤ form_value f (record { value = v; first = λ i. false })) (number (pos n -ℤ pos 1)) [] (omega (arith, ints, below))
            (All-nil (λ f. pos z ≤ℤ form_value f (record { value = v; first = λ i. false }))),
      ),
      within_region ns v q parts.1,
    )

-- ---- groups by functions

pub record GroupAt (ps : List CodeGroup) (n : ℕ) (g : StoredText) : Type 0 where
  pub group : CodeGroup
  pub at : slice_get ps n ≡ Some group
  pub is : IsGroupOf g group

pub group_at : (gs : List StoredText) (ps : List CodeGroup) → AreGroupsOf gs ps → (n : ℕ) (g : StoredText) → slice_get gs n ≡ Some g → GroupAt ps n g
group_at [] ps h n g e = absurd (cc e)
group_at (u ∷ gs) [] h n g e = absurd h
group_at (u ∷ gs) (p ∷ ps) h zero g e = let same : u ≡ g = cc e in subst (GroupAt (p ∷ ps) 0) same (record { group = p; at = refl; is = h.0 })
group_at (u ∷ gs) (p ∷ ps) h (suc n) g e = let w = group_at gs ps h.1 n g e in record { group = w.group; at = w.at; is = w.is }

pub or_first : (b c : Bool) → b ≡ true → (b || c) ≡ true
or_first true c h = refl
or_first false c h = absurd (cc h)

module _ (a : Algorithm) (s : Schedule) (l : Lowered) (is : IsAlgorithm a) (legal : IsLegal a s) (small : has_large (stored_functions a s) ≡ false)
    (kept : region_fault a (stored_functions a s) ≡ None) (all : are_whole (stored_functions a s) ≡ true) (groups : HasGroups a (stored_functions a s) l) where
  abbrev text_of : Function → StoredText
  text_of f = stored_by a (flags (subjects a s)) f.variables f.value f.changes (subject_said a s f) (loops_after (said s) f)

  function : (f : Function) × (function_named a.functions a.output ≡ Some f) × IsOutput a.output_extents f
  function = output_is a is

  named : IsNamed a.functions a.output function.0
  named = named_is a.functions a.output function.0 function.1

  output : is_output a function.0.name ≡ true
  output = ap (same_name a.output) named.is ∙ name_refl a.output

  -- no other function has its name
  no_other : (k : ℕ) (f : Function) → slice_get a.functions k ≡ Some f → f.name ≡ a.output → f ≡ function.0
  no_other k f at name =
      let here : slice_get (map (λ f. f.name) a.functions) k ≡ Some a.output = at_map (λ (f : Function). f.name) a.functions k f at ∙ ap (λ (x : List ℕ). Some x) name in
      let there : slice_get (map (λ f. f.name) a.functions) named.place ≡ Some a.output =
      at_map (λ (f : Function). f.name) a.functions named.place function.0 named.at ∙ ap (λ (x : List ℕ). Some x) named.is in
      let place : suc k ≡ suc named.place = is.names (suc k) (suc named.place) a.output here there in
      let same : k ≡ named.place = omega (arith, place) in
      cc (at, ap (slice_get a.functions) same, named.at)

  stored_once : (n : ℕ) (g : StoredText) → slice_get (stored_functions a s) n ≡ Some g → g.subject.name ≡ a.output → g ≡ text_of function.0
  stored_once n g at name =
      let h = found a s (flags (subjects a s)) g a.functions n at in
      let of : h.function.name ≡ a.output = sym (ap (λ (u : StoredText). u.subject.name) h.is) ∙ name in
      h.is ∙ ap text_of (no_other h.place h.function h.at of)

  -- the group of that function
  holds : (n : ℕ) (p : CodeGroup) → slice_get l.plan.groups.items n ≡ Some p → slice_get (stored_functions a s) n ≡ Some (text_of function.0) → (q : List ℤ) → is_within a.output_extents q ≡ true →
      is_in_region no_symbols p.region q ≡ true
  holds n p at is_there q within =
      let b = block_at (stored_functions a s) l.plan.groups.items l.certificate.own.items (each a s l is legal small kept all groups) (groups.blocks all) n p at in
      let g = text_of function.0 in
      let same : b.stored ≡ g = cc (b.is, is_there) in
      let there = regions_there a (stored_functions a s) small kept n g b.block.formulas is_there (ap (λ (u : StoredText). u.formulas) (sym same) ∙ b.block.defined) in
      let laid = region_is a (stored_functions a s) n g there.0 is_there there.1 in
      let region : p.region ≡ map whole there.0.region = needed_at a s l is legal small kept all groups n p (Some there.0) at there.1 in
      let long : length q ≡ length there.0.region = within_long a.output_extents q within ∙ function.2.indexed ∙ sym laid.long in
      let lies =
      output_holds a (stored_functions a s) n g there.0 (record { is = is_there; laid = there.1 }) output no_symbols.value q (within_region a.output_extents no_symbols.value q within) long in
      ap (λ (xs : List Span1). is_in_region no_symbols xs q) region ∙ tests_region no_symbols (map whole there.0.region) q lies

  inside : (n : ℕ) (g : Group) → slice_get (plan_of l.plan).groups n ≡ Some g → g.function ≡ a.output → (q : List ℤ) → is_within a.output_extents q ≡ true →
      is_in_region no_symbols g.region q ≡ true
  inside n g stands name q within =
      let d = from_map group_of l.plan.groups.items n g stands in
      let b = block_at (stored_functions a s) l.plan.groups.items l.certificate.own.items (each a s l is legal small kept all groups) (groups.blocks all) n d.0 d.1 in
      let said_so : b.stored.subject.name ≡ a.output = sym b.group.named ∙ ap (λ (u : Group). u.function) (sym d.2) ∙ name in
      let text = stored_once n b.stored b.is said_so in
      ap (λ (u : Group). is_in_region no_symbols u.region q) d.2 ∙ holds n d.0 d.1 (b.is ∙ ap (λ (u : StoredText). Some u) text) q within

  pub whole_output : HasWholeOutput a (plan_of l.plan)
  whole_output =
      let root = or_first (is_output a function.0.name) (has_root s function.0.name) output in
      let stored = or_first (is_output a function.0.name || has_root s function.0.name) (has_home s function.0.name) root in
      let n = stored_is a s named.place function.0 named.at stored in
      let p = group_at (stored_functions a s) l.plan.groups.items (each a s l is legal small kept all groups) n.0 (text_of function.0) n.1 in
      record {
        number = n.0;
        group = group_of p.group;
        stands = at_map group_of l.plan.groups.items n.0 p.group p.at;
        function = p.is.named ∙ named.is;
        inside = inside;
      }
