-- At which places of which nests functions are computed, part by part.
use Rattle.std.proofs.Common.{◌≡◌, ℕ, zero, suc, ◌+◌, ◌<◌, Bool, true, List, ◌∷◌, map, Option, Some, None, sym, ap, ◌∙◌, arith}
use Rattle.std.specs.Prelude.{slice_get, if◌then◌else◌}
use Rattle.std.specs.Option.{option_map}
use Rattle.std.proofs.lemmas.Option.{slice_get-map}
use Rattle.sched.specs.declared.nest.Nest.{Nest}
use Rattle.sched.specs.declared.skeleton.Step.{Step}
use Rattle.sched.specs.Skeleton.{NestText, nest_seen}
use Rattle.sched.specs.Standing.{◌>>=◌}
use Rattle.sched.specs.declared.definitions.Formula.{Formula}
use Rattle.sched.specs.declared.hosts.Inner.{Inner}
use Rattle.sched.specs.declared.hosts.Later.{Later}
use Rattle.sched.specs.declared.hosts.Host.{Host}
use Rattle.sched.specs.declared.hosts.Spot.{Spot}
use Rattle.sched.specs.Stored.{FormulaText, formula_of}
use Rattle.sched.specs.Placed.{PlacedText, spot, inner_seen, later_seen}
use Rattle.regions.specs.Homes.{HostText, with_nests, inner_host, later_host, turn_number, is_turns, depth_inside, spot_inside}

-- ---- the place of a loop

pub before_loop : (k : ℕ) (s : Step) (steps : List Step) → is_turns s ≡ true → k < 1 → 0 ≡ depth_inside k (s ∷ steps)
before_loop zero s steps e h = ap (λ (b : Bool). if b then 0 else depth_inside 0 steps + 1) (sym e)
before_loop (suc k) s steps e h = absurd (omega (arith, h))

pub inside_loop : (k left d more : ℕ) (s : Step) (steps : List Step) → is_turns s ≡ true → k ≡ left + 1 → d ≡ depth_inside left steps → more ≡ d + 1
    → more ≡ depth_inside k (s ∷ steps)
inside_loop k left d more s steps e h i m =
    let all : k ≡ suc left = omega (arith, h) in
    m ∙ (ap (λ (n : ℕ). n + 1) i ∙ (ap (λ (b : Bool). if b then depth_inside left steps + 1 else depth_inside (suc left) steps + 1) (sym e) ∙ ap (λ (n : ℕ). depth_inside n (s ∷ steps)) (sym all)))

no_value : {A B : Type 0} (o : Option A) (f : A → Option B) → o ≡ None → None ≡ (o >>= f)
no_value o f e = ap (λ p. p >>= f) (sym e)

the_value : {A B : Type 0} (o : Option A) (f : A → Option B) (x : A) (r : Option B) → o ≡ Some x → r ≡ f x → r ≡ (o >>= f)
the_value o f x r e h = h ∙ ap (λ p. p >>= f) (sym e)

module _ (h : Host) (t : HostText) (d : ℕ) (x : List ℕ) (fs : List Formula) (ns : List Nest) where
  abbrev behind_nest : FormulaText → NestText → Option Spot
  behind_nest f n = turn_number f x t.function.placed.loops >>= λ k. Some (spot h d (depth_inside (k + 1) n.steps))

  abbrev behind_formula : FormulaText → Option Spot
  behind_formula f = slice_get t.nests d >>= behind_nest f

  pub no_formula : t.formulas ≡ map formula_of fs → slice_get fs d ≡ None → None ≡ spot_inside h t d x
  no_formula e none =
      let there : slice_get t.formulas d ≡ None = ap (λ l. slice_get l d) e ∙ (slice_get-map formula_of fs d ∙ ap (option_map formula_of) none) in
      no_value (slice_get t.formulas d) behind_formula there

  with_formula : (f : Formula) (r : Option Spot) → t.formulas ≡ map formula_of fs → slice_get fs d ≡ Some f → r ≡ behind_formula (formula_of f) → r ≡ spot_inside h t d x
  with_formula f r e some is =
      let there : slice_get t.formulas d ≡ Some (formula_of f) = ap (λ l. slice_get l d) e ∙ (slice_get-map formula_of fs d ∙ ap (option_map formula_of) some) in
      the_value (slice_get t.formulas d) behind_formula (formula_of f) r there is

  pub no_nest : (f : Formula) → t.formulas ≡ map formula_of fs → slice_get fs d ≡ Some f → t.nests ≡ map nest_seen ns → slice_get ns d ≡ None → None ≡ spot_inside h t d x
  no_nest f e some g none =
      let there : slice_get t.nests d ≡ None = ap (λ l. slice_get l d) g ∙ (slice_get-map nest_seen ns d ∙ ap (option_map nest_seen) none) in
      with_formula f None e some (no_value (slice_get t.nests d) (behind_nest (formula_of f)) there)

  with_nest : (f : Formula) (n : Nest) (r : Option Spot) → t.formulas ≡ map formula_of fs → slice_get fs d ≡ Some f → t.nests ≡ map nest_seen ns → slice_get ns d ≡ Some n
      → r ≡ behind_nest (formula_of f) (nest_seen n) → r ≡ spot_inside h t d x
  with_nest f n r e some g found is =
      let there : slice_get t.nests d ≡ Some (nest_seen n) = ap (λ l. slice_get l d) g ∙ (slice_get-map nest_seen ns d ∙ ap (option_map nest_seen) found) in
      with_formula f r e some (the_value (slice_get t.nests d) (behind_nest (formula_of f)) (nest_seen n) r there is)

  pub no_turn : (f : Formula) (n : Nest) → t.formulas ≡ map formula_of fs → slice_get fs d ≡ Some f → t.nests ≡ map nest_seen ns → slice_get ns d ≡ Some n
      → None ≡ turn_number (formula_of f) x t.function.placed.loops → None ≡ spot_inside h t d x
  no_turn f n e some g found none =
      with_nest f n None e some g found
      (no_value (turn_number (formula_of f) x t.function.placed.loops) (λ k. Some (spot h d (depth_inside (k + 1) n.steps.items))) (sym none))

  pub inside_made : (f : Formula) (n : Nest) (k more depth : ℕ) (s : Spot) → t.formulas ≡ map formula_of fs → slice_get fs d ≡ Some f → t.nests ≡ map nest_seen ns → slice_get ns d ≡ Some n
      → Some k ≡ turn_number (formula_of f) x t.function.placed.loops → more ≡ k + 1 → depth ≡ depth_inside more n.steps.items → s ≡ spot h d depth → Some s ≡ spot_inside h t d x
  inside_made f n k more depth s e some g found number next there is =
      let at : s ≡ spot h d (depth_inside (k + 1) n.steps.items) = is ∙ ap (λ (q : ℕ). spot h d q) (there ∙ ap (λ (q : ℕ). depth_inside q n.steps.items) next) in
      with_nest f n (Some s) e some g found
      (the_value (turn_number (formula_of f) x t.function.placed.loops) (λ q. Some (spot h d (depth_inside (q + 1) n.steps.items))) k (Some s) (sym number) (ap (λ (q : Spot). Some q) at))

-- ---- hosts

pub no_inner : (inners : List Inner) (n : ℕ) → slice_get inners n ≡ None → None ≡ inner_host (map inner_seen inners) n
no_inner inners n e = no_value (slice_get (map inner_seen inners) n) (λ i. Some (with_nests i i.nests)) (slice_get-map inner_seen inners n ∙ ap (option_map inner_seen) e)

found_at : {B : Type 0} (inners : List Inner) (n : ℕ) (i : Inner) (g : PlacedText → Option B) (r : Option B) → slice_get inners n ≡ Some i → r ≡ g (inner_seen i)
    → r ≡ (slice_get (map inner_seen inners) n >>= g)
found_at inners n i g r e h = the_value (slice_get (map inner_seen inners) n) g (inner_seen i) r (slice_get-map inner_seen inners n ∙ ap (option_map inner_seen) e) h

pub inner_found : (inners : List Inner) (n : ℕ) (i : Inner) (ns : List Nest) → slice_get inners n ≡ Some i → ns ≡ i.nests.items
    → Some (with_nests (inner_seen i) (map nest_seen ns)) ≡ inner_host (map inner_seen inners) n
inner_found inners n i ns e h =
    found_at inners n i (λ j. Some (with_nests j j.nests)) (Some (with_nests (inner_seen i) (map nest_seen ns))) e
    (ap (λ (l : List Nest). Some (with_nests (inner_seen i) (map nest_seen l))) h)

pub no_later : (inners : List Inner) (n : ℕ) → slice_get inners n ≡ None → None ≡ later_host (map inner_seen inners) n
no_later inners n e =
    no_value (slice_get (map inner_seen inners) n) (λ i. i.later >>= λ l. Some (with_nests i l.nests)) (slice_get-map inner_seen inners n ∙ ap (option_map inner_seen) e)

pub none_later : (inners : List Inner) (n : ℕ) (i : Inner) → slice_get inners n ≡ Some i → i.later ≡ None → None ≡ later_host (map inner_seen inners) n
none_later inners n i e none =
    found_at inners n i (λ j. j.later >>= λ l. Some (with_nests j l.nests)) None e
    (no_value (inner_seen i).later (λ l. Some (with_nests (inner_seen i) l.nests)) (ap (option_map later_seen) none))

pub later_found : (inners : List Inner) (n : ℕ) (i : Inner) (l : Later) (ns : List Nest) → slice_get inners n ≡ Some i → i.later ≡ Some l → ns ≡ l.nests.items
    → Some (with_nests (inner_seen i) (map nest_seen ns)) ≡ later_host (map inner_seen inners) n
later_found inners n i l ns e some h =
    let all : Some (with_nests (inner_seen i) (map nest_seen ns)) ≡ Some (with_nests (inner_seen i) (later_seen l).nests) =
    ap (λ (q : List Nest). Some (with_nests (inner_seen i) (map nest_seen q))) h in
    found_at inners n i (λ j. j.later >>= λ q. Some (with_nests j q.nests)) (Some (with_nests (inner_seen i) (map nest_seen ns))) e
    (the_value (inner_seen i).later (λ q. Some (with_nests (inner_seen i) q.nests)) (later_seen l) (Some (with_nests (inner_seen i) (map nest_seen ns)))
    (ap (option_map later_seen) some) all)
