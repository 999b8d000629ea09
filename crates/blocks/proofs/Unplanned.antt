-- What is told of a group whose lines can't be written, step by step.
use Rattle.std.proofs.Common.{◌≡◌, ℕ, ◌<◌, Bool, true, false, List, [], ◌∷◌, length, map, Option, Some, None, Result, refl, sym, ap, subst, ◌∙◌, arith}
use Rattle.std.specs.Prelude.{pos, slice_get}
use Rattle.std.specs.Option.{option_map}
use Rattle.std.proofs.lemmas.Option.{slice_get-map}
use Rattle.tree.specs.Term.{term_of}
use Rattle.lin.specs.Forms.{Form, combined}
use Rattle.sched.specs.declared.schedule.Split.{Split}
use Rattle.sched.specs.declared.numbers.Numbers.{Numbers}
use Rattle.sched.specs.declared.nest.Nest.{Nest}
use Rattle.sched.specs.Skeleton.{NestText, nest_seen}
use Rattle.sched.specs.Standing.{◌>>=◌}
use Rattle.sched.specs.declared.definitions.Formula.{Formula}
use Rattle.sched.specs.declared.stop.Stop.{Stop}
use Rattle.sched.specs.Around.{names_with}
use Rattle.sched.specs.Limited.{TellsIf}
use Rattle.sched.specs.Stored.{FormulaText, StoredText, formula_of}
use Rattle.blocks.specs.Blocks.{BlockText, PartText, Run, LayText, product, own_last, claim_last, end_of, reach_over}
use Rattle.sched.specs.Blocks.{factor_of}
use Rattle.blocks.specs.Placed.{begun}
use Rattle.blocks.specs.Planned.{told_start, told_limits, told_inner_limits, told_origin, told_inner_origin, told_blocks, told_within, have_indices, is_stored_by, are_stored}

-- ---- blocks

pub blocks_told : (l : LayText) (c : Split) (cs : List Split) (own : Numbers) (outer b : BlockText) → told_start c own outer.start ≡ Some b.start
    → told_limits c own (own_last c own) outer.own_limits ≡ Some b.own_limits → told_limits c own (claim_last c own) outer.claim_limits ≡ Some b.claim_limits
    → told_origin l c own outer ≡ Some b.origin → b.length ≡ product (factor_of c) outer.length → b.reach ≡ reach_over c outer (end_of l.numbers c.inner cs)
    → told_blocks l c cs own outer ≡ Some (Run b)
blocks_told l c cs own outer b start owned claimed origin length reach =
    let last = reach_over c outer (end_of l.numbers c.inner cs) in
    let run : Form → List Form → List Form → Option Form → PartText = λ s o k g.
    Run (record { start = s; length = product (factor_of c) outer.length; own_limits = o; claim_limits = k; origin = g; reach = last }) in
    let fourth : Form → List Form → List Form → Option (Option Form) → Option PartText = λ s o k r. r >>= λ g. Some (run s o k g) in
    let third : Form → List Form → Option (List Form) → Option PartText = λ s o r. r >>= λ k. fourth s o k (told_origin l c own outer) in
    let second : Form → Option (List Form) → Option PartText = λ s r. r >>= λ o. third s o (told_limits c own (claim_last c own) outer.claim_limits) in
    let first : Option Form → Option PartText = λ r. r >>= λ s. second s (told_limits c own (own_last c own) outer.own_limits) in
    ap first start ∙ (ap (second b.start) owned ∙ (ap (third b.start b.own_limits) claimed ∙ (ap (fourth b.start b.own_limits b.claim_limits) origin
    ∙ (λ i. Some (Run (record { start = b.start; length = sym length i; own_limits = b.own_limits; claim_limits = b.claim_limits; origin = b.origin; reach = sym reach i }))))))

pub within_told : (l : LayText) (c : Split) (cs : List Split) (own : Numbers) (base : Form) (outer inner b : BlockText) → told_start c own outer.start ≡ Some base
    → combined base (pos 1) inner.start ≡ Some b.start → told_inner_limits c own base (own_last c own) inner.own_limits outer.own_limits ≡ Some b.own_limits
    → told_inner_limits c own base (claim_last c own) inner.claim_limits outer.claim_limits ≡ Some b.claim_limits → told_inner_origin l c cs own outer inner ≡ Some b.origin
    → b.length ≡ inner.length → b.reach ≡ inner.reach → told_within l c cs own outer inner ≡ Some (Run b)
within_told l c cs own base outer inner b begun start owned claimed origin length reach =
    let run : Form → List Form → List Form → Option Form → PartText = λ s o k g.
    Run (record { start = s; length = inner.length; own_limits = o; claim_limits = k; origin = g; reach = inner.reach }) in
    let fifth : Form → List Form → List Form → Option (Option Form) → Option PartText = λ s o k r. r >>= λ g. Some (run s o k g) in
    let fourth : Form → List Form → Option (List Form) → Option PartText = λ s o r. r >>= λ k. fifth s o k (told_inner_origin l c cs own outer inner) in
    let third : Form → Form → Option (List Form) → Option PartText = λ f s r. r >>= λ o.
    fourth s o (told_inner_limits c own f (claim_last c own) inner.claim_limits outer.claim_limits) in
    let second : Form → Option Form → Option PartText = λ f r. r >>= λ s. third f s (told_inner_limits c own f (own_last c own) inner.own_limits outer.own_limits) in
    let first : Option Form → Option PartText = λ r. r >>= λ f. second f (combined f (pos 1) inner.start) in
    ap first begun ∙ (ap (second base) start ∙ (ap (third base b.start) owned ∙ (ap (fourth b.start b.own_limits) claimed ∙ (ap (fifth b.start b.own_limits b.claim_limits) origin
    ∙ (λ i. Some (Run (record { start = b.start; length = sym length i; own_limits = b.own_limits; claim_limits = b.claim_limits; origin = b.origin; reach = sym reach i })))))))

-- ---- stores

-- there is no definition of this number
pub not_stored : (g : StoredText) (d : ℕ) (n : NestText) (fs : List Formula) → slice_get fs d ≡ None → is_stored_by g d n (slice_get (map formula_of fs) d) ≡ false
not_stored g d n fs none = ap (is_stored_by g d n) (slice_get-map formula_of fs d ∙ ap (option_map formula_of) none)

-- there is one, and its coordinates are told
pub stored_tells : {X Y : Type 0} (g : StoredText) (d : ℕ) (n : NestText) (fs : List Formula) (f : Formula) (xs : List (List ℕ)) (r : Result X Stop) (s : Result Y Stop)
    → slice_get fs d ≡ Some f → xs ≡ names_with g.variables g.changes d
    → ((b : Bool) → TellsIf r b → TellsIf s b)
    → TellsIf r (have_indices xs n.at (map (option_map term_of) f.at.items)) → TellsIf s (is_stored_by g d n (slice_get (map formula_of fs) d))
stored_tells g d n fs f xs r s is same keep told =
    let found : slice_get (map formula_of fs) d ≡ Some (formula_of f) = slice_get-map formula_of fs d ∙ ap (option_map formula_of) is in
    subst (λ (o : Option FormulaText). TellsIf s (is_stored_by g d n o)) (sym found)
    (keep (have_indices (names_with g.variables g.changes d) n.at (map (option_map term_of) f.at.items))
    (subst (λ (ys : List (List ℕ)). TellsIf r (have_indices ys n.at (map (option_map term_of) f.at.items))) same told))

-- none of a list that is empty
pub stored_none : (g : StoredText) (fs : List FormulaText) (d : ℕ) (ns : List Nest) → length ns < 1 → are_stored g fs d (map nest_seen ns) ≡ true
stored_none g fs d [] h = refl
stored_none g fs d (n ∷ ns) h = absurd (omega (arith, h))
