-- The tests of nests say yes with greater folds where they say yes.
use Rattle.std.proofs.Common.{◌≡◌, ℕ, zero, suc, ◌+◌, Bool, true, false, List, [], ◌∷◌, ◌++◌, map, take, Option, Some, None, refl, sym, ap, ◌∙◌, subst, arith}
use Rattle.std.specs.Prelude.{◌==◌, ◌||◌, ◌&&◌, ◌≤◌, not, if◌then◌else◌, nat_le, nat_lt, reverse, pos, ◌-ℤ◌}
use Rattle.std.specs.List.{list_any, list_all}
use Rattle.std.specs.Option.{option_map}
use Rattle.std.proofs.lemmas.Bool.{lt-ltb, eq-eqb, eqb-true, leb-true}
use Rattle.std.proofs.lemmas.List.{reverse-append}
use Rattle.lin.specs.Forms.{Form}
use Rattle.lin.specs.Search.{is_empty}
use Rattle.lin.specs.declared.span.Span1.{Span1}
use Rattle.meaning.specs.Algorithm.{Range}
use Rattle.meaning.specs.Names.{same_name}
use Rattle.plan.specs.declared.certificate.cert.Window.{Window}
use Rattle.plan.specs.declared.stmt.Places.{Places}
use Rattle.plan.specs.declared.stmt.Places.TheVariants.{From, Folded}
use Rattle.plan.specs.Plan.{Index, At, Found, Coordinate, Statement, Seq, For, Let, First, Guard, Alloc, Fetch, Store, Publish, Statements, Empty, Then}
use Rattle.plan.specs.Semantics.Actions.{Setting}
use Rattle.plan.specs.Certificate.Certificate.{Claim}
use Rattle.soundness.specs.Around.{inside}
use Rattle.soundness.specs.Origins.{Outline}
use Rattle.soundness.specs.Claims.{changes, block_changes}
use Rattle.soundness.specs.Obligations.{Binder, Ranged, Passed, Rules, exactly, binder_has, places_have, has_form, is_form}
use Rattle.soundness.specs.Shown.{are_seated, are_within, is_seated, is_within, Nests, raised as plus}
use Rattle.soundness.specs.Nests.Nest.{Loop, Nest, inside as in_nest, is_let, is_symbol, nest_of, block_nest}
use Rattle.soundness.specs.Nests.Tests.{are_matched, binders_in, covers, fits_fold, fold_holds, has_ends, has_places, is_fetched, is_filled, is_in_order, is_new, is_short, known_span}
use Rattle.soundness.specs.Nests.Tests.{left_of, loops_hold, makes, over_of}
use Rattle.tails.specs.Steps.{Step, Turns, Named, Tested, Spine, beyond, past, spine_of, block_spine, binder, along}
use Rattle.tails.specs.Apart.{form_of, index_form, is_apart, is_steady}
use Rattle.tails.specs.Moves.{is_outer}
use Rattle.tails.specs.Maps as M
use Rattle.tails.specs.Stored.{Stored, has_places as has_spots, is_pure, stored_at, stored_by}
use Rattle.tails.specs.Nests.{makes_split, makes_by}
use Rattle.tails.specs.Updates.{is_in_steps}
use Rattle.tails.specs.Windows.Arms.{one_less, is_asked, lie_from, axis_holds, hold, is_fold_of, is_still, is_axis, is_along, reaches_new, others_stay, one_stays, makes_all, makes_new, arm}
use Rattle.tails.specs.Windows.Arms.{is_slid, arms_stay, is_held, makes_folded}
use Rattle.tails.specs.Windows.Spans.{is_rising, is_window}
use Rattle.tails.specs.Windows.Nests.{folded_by, slid_nests}
use Rattle.audit.specs.Verdict.Folds.{risen, place_raised, places_raised, with_places, block_with_places, by_more, raised, window_raised, span_passes, index_passes, statement_passes}
use Rattle.audit.specs.Verdict.Folds.{block_passes, place_within, Rises}

-- ---- tests that lead to others

pub both : (v w : Bool) → v ≡ true → w ≡ true → (v && w) ≡ true
both true w h k = k
both false w h k = absurd (cc h)

pub and_parts : (v w : Bool) → (v && w) ≡ true → (v ≡ true) × (w ≡ true)
and_parts true w h = (refl, h)
and_parts false w h = absurd (cc h)

-- each part leads to the part beside it
pub and_leads : (v w x y : Bool) → (v ≡ true → x ≡ true) → (w ≡ true → y ≡ true) → (v && w) ≡ true → (x && y) ≡ true
and_leads v w x y f g h = let parts = and_parts v w h in both x y (f parts.0) (g parts.1)

pub or_leads : (v w x y : Bool) → (v ≡ true → x ≡ true) → (w ≡ true → y ≡ true) → (v || w) ≡ true → (x || y) ≡ true
or_leads true w x y f g h = of x (f refl)
  where
    of : (x : Bool) → x ≡ true → (x || y) ≡ true
    of true e = refl
    of false e = absurd (cc e)
or_leads false w x y f g h = of x (g h)
  where
    of : (x : Bool) → y ≡ true → (x || y) ≡ true
    of true e = refl
    of false e = e

pub stays : (v : Bool) → v ≡ true → v ≡ true
stays v h = h

any_leads : {A : Type 0} (test f g : A → Bool) (xs : List A) → list_all test xs ≡ true → ((x : A) → test x ≡ true → f x ≡ true → g x ≡ true) → list_any f xs ≡ true → list_any g xs ≡ true
any_leads test f g [] ok lead h = h
any_leads test f g (x ∷ xs) ok lead h =
    let parts = and_parts (test x) (list_all test xs) ok in
    or_leads (f x) (list_any f xs) (g x) (list_any g xs) (lead x parts.0) (any_leads test f g xs parts.1 lead) h

-- ---- the way down

module _ (spots : ℕ → List Places → List Places) where
  mutual
    pub changes_same : (a : Statement) (b : ℕ) → changes a b ≡ changes (with_places spots a) b
    changes_same (Seq all) b = block_changes_same all b
    changes_same (For i x kind body) b = changes_same body b
    changes_same (Let i pick forms) b = refl
    changes_same (First i a c) b = λ j. changes_same a b j || changes_same c b j
    changes_same (Guard low high body) b = changes_same body b
    changes_same (Alloc c f places) b = refl
    changes_same (Fetch c g region) b = refl
    changes_same (Store c k at e) b = refl
    changes_same (Publish c) b = refl

    pub block_changes_same : (all : Statements) (b : ℕ) → block_changes all b ≡ block_changes (block_with_places spots all) b
    block_changes_same Empty b = refl
    block_changes_same (Then a rest) b = λ j. changes_same a b j || block_changes_same rest b j

  let_same : (a : Statement) → is_let a ≡ is_let (with_places spots a)
  let_same (Seq all) = refl
  let_same (For i x kind body) = refl
  let_same (Let i pick forms) = refl
  let_same (First i a c) = refl
  let_same (Guard low high body) = refl
  let_same (Alloc c f places) = refl
  let_same (Fetch c g region) = refl
  let_same (Store c k at e) = refl
  let_same (Publish c) = refl

  mutual
    nest_same : (a : Statement) (b : ℕ) → nest_of a b ≡ nest_of (with_places spots a) b
    nest_same (Seq all) b = block_nest_same all b
    nest_same (For i x kind body) b = ap (in_nest i x) (nest_same body b)
    nest_same (Let i pick forms) b = refl
    nest_same (First i a c) b = refl
    nest_same (Guard low high body) b = refl
    nest_same (Alloc c f places) b = refl
    nest_same (Fetch c g region) b = refl
    nest_same (Store c k at e) b = refl
    nest_same (Publish c) b = refl

    block_nest_same : (all : Statements) (b : ℕ) → block_nest all b ≡ block_nest (block_with_places spots all) b
    block_nest_same Empty b = refl
    block_nest_same (Then a rest) b =
        λ j. if changes_same a b j then (if block_changes_same rest b j then None else nest_same a b j) else (if let_same a j then None else block_nest_same rest b j)

  past_same : (a : Statement) (o : Option Spine) → past a o ≡ past (with_places spots a) o
  past_same (Seq all) o = refl
  past_same (For i x kind body) o = refl
  past_same (Let i pick forms) o = refl
  past_same (First i a c) o = refl
  past_same (Guard low high body) o = refl
  past_same (Alloc c f places) o = refl
  past_same (Fetch c g region) o = refl
  past_same (Store c k at e) o = refl
  past_same (Publish c) o = refl

  mutual
    spine_same : (a : Statement) (b : ℕ) → spine_of a b ≡ spine_of (with_places spots a) b
    spine_same (Seq all) b = block_spine_same all b
    spine_same (For i x kind body) b = ap (beyond (Turns i x kind)) (spine_same body b)
    spine_same (Let i pick forms) b = refl
    spine_same (First i a c) b = refl
    spine_same (Guard low high body) b = ap (beyond (Tested low high)) (spine_same body b)
    spine_same (Alloc c f places) b = refl
    spine_same (Fetch c g region) b = refl
    spine_same (Store c k at e) b = refl
    spine_same (Publish c) b = refl

    block_spine_same : (all : Statements) (b : ℕ) → block_spine all b ≡ block_spine (block_with_places spots all) b
    block_spine_same Empty b = refl
    block_spine_same (Then a rest) b =
        let onward = ap (past a) (block_spine_same rest b) ∙ past_same a (block_spine (block_with_places spots rest) b) in
        λ j. if changes_same a b j then (if block_changes_same rest b j then None else spine_same a b j) else onward j

-- ---- the forms on the way

module _ (pass : Binder → Bool) (test : Form → Bool) where
  if_passes : {A : Type 0} (good : Option A → Bool) (v : Bool) (x y : Option A) → good x ≡ true → good y ≡ true → good (if v then x else y) ≡ true
  if_passes good true x y f g = f
  if_passes good false x y f g = g

  abbrev nest_passes : Option Nest → Bool
  nest_passes None = true
  nest_passes (Some n) = list_all (λ (l : Loop). span_passes test l.span) n.loops && statement_passes pass test n.line

  inside_passes : (i : ℕ) (x : Span1) (o : Option Nest) → span_passes test x ≡ true → nest_passes o ≡ true → nest_passes (in_nest i x o) ≡ true
  inside_passes i x None f h = refl
  inside_passes i x (Some n) f h =
      let loops = list_all (λ (l : Loop). span_passes test l.span) n.loops in
      let parts = and_parts loops (statement_passes pass test n.line) h in
      both (span_passes test x && loops) (statement_passes pass test n.line) (both (span_passes test x) loops f parts.0) parts.1

  mutual
    pub nest_good : (a : Statement) (b : ℕ) → statement_passes pass test a ≡ true → nest_passes (nest_of a b) ≡ true
    nest_good (Seq all) b h = block_nest_good all b h
    nest_good (For i x kind body) b h =
        let parts = and_parts (pass (Ranged i x) && span_passes test x) (statement_passes pass test body) h in
        inside_passes i x (nest_of body b) (and_parts (pass (Ranged i x)) (span_passes test x) parts.0).1 (nest_good body b parts.1)
    nest_good (Let i pick forms) b h = refl
    nest_good (First i a c) b h = refl
    nest_good (Guard low high body) b h = refl
    nest_good (Alloc c f places) b h = refl
    nest_good (Fetch c g region) b h = if_passes nest_passes (c == b) (Some (record { loops = []; line = Fetch c g region })) None h refl
    nest_good (Store c k at e) b h = if_passes nest_passes (c == b) (Some (record { loops = []; line = Store c k at e })) None h refl
    nest_good (Publish c) b h = refl

    block_nest_good : (all : Statements) (b : ℕ) → block_passes pass test all ≡ true → nest_passes (block_nest all b) ≡ true
    block_nest_good Empty b h = refl
    block_nest_good (Then a rest) b h =
        let parts = and_parts (statement_passes pass test a) (block_passes pass test rest) h in
        if_passes nest_passes (changes a b) (if block_changes rest b then None else nest_of a b) (if is_let a then None else block_nest rest b)
        (if_passes nest_passes (block_changes rest b) None (nest_of a b) refl (nest_good a b parts.0))
        (if_passes nest_passes (is_let a) None (block_nest rest b) refl (block_nest_good rest b parts.1))

  abbrev spine_passes : Option Spine → Bool
  spine_passes None = true
  spine_passes (Some n) = list_all pass (map binder n.steps) && statement_passes pass test n.line

  beyond_passes : (st : Step) (o : Option Spine) → pass (binder st) ≡ true → spine_passes o ≡ true → spine_passes (beyond st o) ≡ true
  beyond_passes st None f h = refl
  beyond_passes st (Some n) f h =
      let steps = list_all pass (map binder n.steps) in
      let parts = and_parts steps (statement_passes pass test n.line) h in
      both (pass (binder st) && steps) (statement_passes pass test n.line) (both (pass (binder st)) steps f parts.0) parts.1

  past_passes : (a : Statement) (o : Option Spine) → statement_passes pass test a ≡ true → spine_passes o ≡ true → spine_passes (past a o) ≡ true
  past_passes (Seq all) o f h = h
  past_passes (For i x kind body) o f h = h
  past_passes (Let i pick forms) o f h = beyond_passes (Named i pick forms) o f h
  past_passes (First i a c) o f h = h
  past_passes (Guard low high body) o f h = h
  past_passes (Alloc c g places) o f h = h
  past_passes (Fetch c g region) o f h = h
  past_passes (Store c k at e) o f h = h
  past_passes (Publish c) o f h = h

  mutual
    pub spine_good : (a : Statement) (b : ℕ) → statement_passes pass test a ≡ true → spine_passes (spine_of a b) ≡ true
    spine_good (Seq all) b h = block_spine_good all b h
    spine_good (For i x kind body) b h =
        let parts = and_parts (pass (Ranged i x) && span_passes test x) (statement_passes pass test body) h in
        beyond_passes (Turns i x kind) (spine_of body b) (and_parts (pass (Ranged i x)) (span_passes test x) parts.0).0 (spine_good body b parts.1)
    spine_good (Let i pick forms) b h = refl
    spine_good (First i a c) b h = refl
    spine_good (Guard low high body) b h =
        let parts = and_parts (pass (Passed low high)) (statement_passes pass test body) h in beyond_passes (Tested low high) (spine_of body b) parts.0 (spine_good body b parts.1)
    spine_good (Alloc c f places) b h = refl
    spine_good (Fetch c g region) b h = if_passes spine_passes (c == b) (Some (record { steps = []; line = Fetch c g region })) None h refl
    spine_good (Store c k at e) b h = if_passes spine_passes (c == b) (Some (record { steps = []; line = Store c k at e })) None h refl
    spine_good (Publish c) b h = refl

    block_spine_good : (all : Statements) (b : ℕ) → block_passes pass test all ≡ true → spine_passes (block_spine all b) ≡ true
    block_spine_good Empty b h = refl
    block_spine_good (Then a rest) b h =
        let parts = and_parts (statement_passes pass test a) (block_passes pass test rest) h in
        if_passes spine_passes (changes a b) (if block_changes rest b then None else spine_of a b) (past a (block_spine rest b))
        (if_passes spine_passes (block_changes rest b) None (spine_of a b) refl (spine_good a b parts.0))
        (past_passes a (block_spine rest b) parts.0 (block_spine_good rest b parts.1))

  -- ---- what is stored

  abbrev stored_passes : Option Stored → Bool
  stored_passes None = true
  stored_passes (Some n) = list_all pass (along n.steps) && list_all test n.forms

  all_append : {A : Type 0} (good : A → Bool) (xs ys : List A) → list_all good xs ≡ true → list_all good ys ≡ true → list_all good (xs ++ ys) ≡ true
  all_append good [] ys f g = g
  all_append good (x ∷ xs) ys f g = let parts = and_parts (good x) (list_all good xs) f in both (good x) (list_all good (xs ++ ys)) parts.0 (all_append good xs ys parts.1 g)

  all_reverse : {A : Type 0} (good : A → Bool) (xs : List A) → list_all good xs ≡ true → list_all good (reverse xs) ≡ true
  all_reverse good [] f = refl
  all_reverse good (x ∷ xs) f =
      let parts = and_parts (good x) (list_all good xs) f in
      ap (list_all good) (reverse-append (x ∷ []) xs) ∙ all_append good (reverse xs) (x ∷ []) (all_reverse good xs parts.1) (both (good x) true parts.0 refl)

  index_good : (x : Index) → index_passes test x ≡ true → has_form x ≡ true → test (index_form x) ≡ true
  index_good (At l) f h = f
  index_good (Found e) f h = absurd (cc h)

  forms_good : (n : ℕ) (at : List Coordinate) → list_all (λ (c : Coordinate). index_passes test c.index) at ≡ true → list_all is_form (take n at) ≡ true →
      list_all test (map form_of (take n at)) ≡ true
  forms_good zero at f h = refl
  forms_good (suc n) [] f h = refl
  forms_good (suc n) (c ∷ cs) f h =
      let parts = and_parts (index_passes test c.index) (list_all (λ (c : Coordinate). index_passes test c.index) cs) f in
      let forms = and_parts (is_form c) (list_all is_form (take n cs)) h in
      both (test (form_of c)) (list_all test (map form_of (take n cs))) (index_good c.index parts.0 forms.0) (forms_good n cs parts.1 forms.1)

  module _ (setting : Setting) (claim : Claim) where
    if_stored : (steps : List Step) (v : Bool) (fs : List Form) → list_all pass (along steps) ≡ true → (v ≡ true → list_all test fs ≡ true) →
        stored_passes (option_map (λ (fs : List Form). record { steps = steps; forms = fs }) (if v then Some fs else None)) ≡ true
    if_stored steps true fs f g = both (list_all pass (along steps)) (list_all test fs) f (g refl)
    if_stored steps false fs f g = refl

    pure_is_form : (b : ℕ) (at : List Coordinate) → is_pure setting claim b at ≡ true → list_all is_form (left_of setting b at) ≡ true
    pure_is_form b at h =
        let forms = list_all is_form (left_of setting b at) in
        let over = is_empty (over_of setting b at) in
        let named = same_name (setting.buffer_function b) claim.function in
        (and_parts forms over (and_parts named (forms && over) (and_parts (claim.definition == 0) (named && (forms && over)) h).1).1).0

    line_good : (steps : List Step) (a : Statement) → list_all pass (along steps) ≡ true → statement_passes pass test a ≡ true →
        stored_passes (stored_at setting claim (record { steps = steps; line = a })) ≡ true
    line_good steps (Seq all) f h = refl
    line_good steps (For i x kind body) f h = refl
    line_good steps (Let i pick forms) f h = refl
    line_good steps (First i a c) f h = refl
    line_good steps (Guard low high body) f h = refl
    line_good steps (Alloc c g places) f h = refl
    line_good steps (Fetch c g region) f h = refl
    line_good steps (Store b zero at e) f h =
        if_stored steps (is_pure setting claim b at) (map form_of (left_of setting b at)) f (λ e. forms_good (setting.dimensions b) at h (pure_is_form b at e))
    line_good steps (Store b (suc k) at e) f h = refl
    line_good steps (Publish c) f h = refl

    pub stored_good : (o : Option Spine) → spine_passes o ≡ true → stored_passes (stored_by setting claim o) ≡ true
    stored_good None h = refl
    stored_good (Some n) h =
        let parts = and_parts (list_all pass (map binder n.steps)) (statement_passes pass test n.line) h in
        line_good n.steps n.line (all_reverse pass (map binder n.steps) parts.0) parts.1

-- ---- places

foldable : (n k : ℕ) → nat_lt 0 n ≡ true → nat_lt 0 (risen k n) ≡ true
foldable zero k h = h
foldable (suc n) k h = lt-ltb 0 (suc n + k) (omega arith)

pub have_same : (i : ℕ) (more : ℕ → ℕ) (places : List Places) → list_any (places_have i) places ≡ list_any (places_have i) (places_raised more places)
have_same i more [] = refl
have_same i more (From l n ∷ places) = λ j. places_have i (From l n) || have_same i (λ d. more (suc d)) places j
have_same i more (Folded n ∷ places) = have_same i (λ d. more (suc d)) places

steady_same : (folded : Bool) (steps : List Binder) (more : ℕ → ℕ) (places : List Places) → list_all (is_steady folded steps) places ≡ list_all (is_steady folded steps) (places_raised more places)
steady_same folded steps more [] = refl
steady_same folded steps more (From l n ∷ places) = λ j. is_steady folded steps (From l n) && steady_same folded steps (λ d. more (suc d)) places j
steady_same folded steps more (Folded n ∷ places) = λ j. folded && steady_same folded steps (λ d. more (suc d)) places j

new_same : (bs : List Binder) (more : ℕ → ℕ) (places : List Places) (ls : List Loop) → list_all (is_new bs places) ls ≡ list_all (is_new bs (places_raised more places)) ls
new_same bs more places [] = refl
new_same bs more places (l ∷ ls) = λ j. (not (list_any (binder_has l.symbol) bs) && not (have_same l.symbol more places j)) && new_same bs more places ls j

fold_same : (n k : ℕ) (a : Places) → is_fold_of n a ≡ true → is_fold_of (risen k n) (place_raised k a) ≡ true
fold_same zero k (From l m) h = h
fold_same (suc n) k (From l m) h = let e : suc n ≡ zero = eqb-true (suc n) zero h in absurd (cc e)
fold_same zero k (Folded m) h = eq-eqb zero (risen k m) (ap (risen k) (eqb-true zero m h))
fold_same (suc n) k (Folded m) h = eq-eqb (suc n + k) (risen k m) (ap (risen k) (eqb-true (suc n) m h))

pub seats_rise : (rules : Rules) (bs : List Binder) (more : ℕ → ℕ) (xs : List Span1) (places : List Places) → are_seated rules bs xs places ≡ true →
    are_seated rules bs xs (places_raised more places) ≡ true
seats_rise rules bs more [] [] h = h
seats_rise rules bs more [] (a ∷ places) h = absurd (cc h)
seats_rise rules bs more (x ∷ xs) [] h = absurd (cc h)
seats_rise rules bs more (x ∷ xs) (From l n ∷ places) h =
    let parts = and_parts (is_seated rules bs x (From l n)) (are_seated rules bs xs places) h in
    both (is_seated rules bs x (From l n)) (are_seated rules bs xs (places_raised (λ d. more (suc d)) places)) parts.0 (seats_rise rules bs (λ d. more (suc d)) xs places parts.1)
seats_rise rules bs more (x ∷ xs) (Folded n ∷ places) h =
    let parts = and_parts (nat_lt 0 n) (are_seated rules bs xs places) h in
    both (nat_lt 0 (risen (more zero) n)) (are_seated rules bs xs (places_raised (λ d. more (suc d)) places)) (foldable n (more zero) parts.0) (seats_rise rules bs (λ d. more
    (suc d)) xs places parts.1)

-- ---- what looks at the number

module _ (limit : ℕ) (pass : Binder → Bool) (test : Form → Bool) (rules : Rules) (rises : Rises limit pass test rules) where
  module _ (bs : List Binder) (known : list_all pass bs ≡ true) where
    seated_rises : (x : Span1) (l : Form) (n k : ℕ) → n + k ≤ limit → list_all test x.upper ≡ true → test l ≡ true → is_seated rules bs x (From l n) ≡ true →
        is_seated rules bs x (From l (n + k)) ≡ true
    seated_rises x l n k few fx fl h =
        let low = list_any (λ m. rules.at_most bs l m) x.lower && true in
        let near = list_any (λ u. rules.at_most bs u (plus l (pos n -ℤ pos 1))) x.upper in
        let far = list_any (λ u. rules.at_most bs u (plus l (pos (n + k) -ℤ pos 1))) x.upper in
        and_leads low (near && true) low (far && true) (stays low) (and_leads near true far true
        (any_leads test (λ u. rules.at_most bs u (plus l (pos n -ℤ pos 1))) (λ u. rules.at_most bs u (plus l (pos (n + k) -ℤ pos 1))) x.upper fx
        (λ u fu e. rises bs u l n k known fu fl few e)) (stays true)) h

    pub short_rises : (x : Span1) (n k : ℕ) → nat_le (risen k n) limit ≡ true → span_passes test x ≡ true → is_short rules bs x n ≡ true → is_short rules bs x (risen k n) ≡ true
    short_rises x zero k few fx h = h
    short_rises x (suc n) k few fx h =
        let ends = and_parts (list_all test x.lower) (list_all test x.upper) fx in
        any_leads test (λ l. is_seated rules bs x (From l (suc n))) (λ l. is_seated rules bs x (From l (suc n + k))) x.lower ends.0 (λ l fl e. seated_rises x l (suc n) k (leb-true
        (suc n + k) limit few) ends.1 fl e) h

    fit_rises : (x : Span1) (a : Places) (k : ℕ) → place_within limit (place_raised k a) ≡ true → span_passes test x ≡ true → fits_fold rules bs x a ≡ true →
        fits_fold rules bs x (place_raised k a) ≡ true
    fit_rises x (From l n) k few fx h = h
    fit_rises x (Folded n) k few fx h = short_rises x n k few fx h

    fold_rises : (more : ℕ → ℕ) (xs : List Span1) (places : List Places) → list_all (place_within limit) (places_raised more places) ≡ true → list_all (span_passes test) xs ≡ true →
        fold_holds rules bs xs places ≡ true → fold_holds rules bs xs (places_raised more places) ≡ true
    fold_rises more [] places small f h = refl
    fold_rises more (x ∷ xs) [] small f h = h
    fold_rises more (x ∷ xs) (a ∷ places) small f h =
        let few = and_parts (place_within limit (place_raised (more zero) a)) (list_all (place_within limit) (places_raised (λ d. more (suc d)) places)) small in
        let good = and_parts (span_passes test x) (list_all (span_passes test) xs) f in
        and_leads (fits_fold rules bs x a) (fold_holds rules bs xs places) (fits_fold rules bs x (place_raised (more zero) a)) (fold_holds rules bs xs (places_raised (λ d. more (suc d)) places))
        (fit_rises x a (more zero) few.0 good.0) (fold_rises (λ d. more (suc d)) xs places few.1 good.1) h

    loops_rise : (more : ℕ → ℕ) (ls : List Loop) (cs : List Coordinate) (places : List Places) → list_all (place_within limit) (places_raised more places) ≡ true →
        list_all (λ (l : Loop). span_passes test l.span) ls ≡ true →
        loops_hold rules bs ls cs places ≡ true → loops_hold rules bs ls cs (places_raised more places) ≡ true
    loops_rise more ls [] places small f h = refl
    loops_rise more ls (c ∷ cs) [] small f h = h
    loops_rise more ls (c ∷ cs) (a ∷ places) small f h =
        let few = and_parts (place_within limit (place_raised (more zero) a)) (list_all (place_within limit) (places_raised (λ d. more (suc d)) places)) small in
        and_leads (list_any (λ l. is_symbol l.symbol c && fits_fold rules bs l.span a) ls) (loops_hold rules bs ls cs places)
        (list_any (λ l. is_symbol l.symbol c && fits_fold rules bs l.span (place_raised (more zero) a)) ls) (loops_hold rules bs ls cs (places_raised (λ d. more (suc d)) places))
        (any_leads (λ (l : Loop). span_passes test l.span) (λ l. is_symbol l.symbol c && fits_fold rules bs l.span a) (λ l. is_symbol l.symbol c
        && fits_fold rules bs l.span (place_raised (more zero) a)) ls f
        (λ l fl. and_leads (is_symbol l.symbol c) (fits_fold rules bs l.span a) (is_symbol l.symbol c) (fits_fold rules bs l.span (place_raised (more zero) a))
        (stays (is_symbol l.symbol c)) (fit_rises l.span a (more zero) few.0 fl)))
        (loops_rise (λ d. more (suc d)) ls cs places few.1 f) h

    -- ---- plain nests

    module _ (setting : Setting) (claim : Claim) (more : ℕ → ℕ) where
      places_rise : (left : List Coordinate) (ls : List Loop) (places : List Places) → list_all (place_within limit) (places_raised more places) ≡ true →
          list_all (λ (l : Loop). span_passes test l.span) ls ≡ true →
          has_places setting rules bs left ls places ≡ true → has_places setting rules bs left ls (places_raised more places) ≡ true
      places_rise left ls places small f h =
          let new = list_all (is_new bs places) ls in
          let later = list_all (is_new bs (places_raised more places)) ls in
          let seats = are_seated rules (binders_in ls bs) (map known_span left) places in
          let more_seats = are_seated rules (binders_in ls bs) (map known_span left) (places_raised more places) in
          and_leads (loops_hold rules bs ls left places) (new && seats) (loops_hold rules bs ls left (places_raised more places)) (later && more_seats)
          (loops_rise more ls left places small f) (and_leads new seats later more_seats (λ e. sym (new_same bs more places ls)
          ∙ e) (seats_rise rules (binders_in ls bs) more (map known_span left) places)) h

      filled_rises : (places : List Places) (ls : List Loop) (a : Statement) → list_all (place_within limit) (places_raised more places) ≡ true →
          list_all (λ (l : Loop). span_passes test l.span) ls ≡ true →
          is_filled setting rules bs claim places ls a ≡ true → is_filled setting rules bs claim (places_raised more places) ls a ≡ true
      filled_rises places ls (Seq all) small f h = h
      filled_rises places ls (For i x kind body) small f h = h
      filled_rises places ls (Let i pick forms) small f h = h
      filled_rises places ls (First i a c) small f h = h
      filled_rises places ls (Guard low high body) small f h = h
      filled_rises places ls (Alloc c g old) small f h = h
      filled_rises places ls (Fetch c g region) small f h = h
      filled_rises places ls (Store b zero at e) small f h =
          let left = left_of setting b at in
          let first = claim.definition == 0 in
          let named = same_name (setting.buffer_function b) claim.function in
          let forms = list_all is_form left in
          let pure = is_empty (over_of setting b at) in
          let matched = are_matched ls left in
          let covered = covers setting rules bs claim left ls in
          let has = has_places setting rules bs left ls places in
          let later = has_places setting rules bs left ls (places_raised more places) in
          and_leads first (named && (forms && (pure && (matched && (covered && has))))) first (named && (forms && (pure && (matched && (covered && later))))) (stays first)
          (and_leads named (forms && (pure && (matched && (covered && has)))) named (forms && (pure && (matched && (covered && later)))) (stays named)
          (and_leads forms (pure && (matched && (covered && has))) forms (pure && (matched && (covered && later))) (stays forms)
          (and_leads pure (matched && (covered && has)) pure (matched && (covered && later)) (stays pure)
          (and_leads matched (covered && has) matched (covered && later) (stays matched)
          (and_leads covered has covered later (stays covered) (places_rise left ls places small f)))))) h
      filled_rises places ls (Store b (suc k) at e) small f h = h
      filled_rises places ls (Publish c) small f h = h

      fetched_rises : (places : List Places) (ls : List Loop) (a : Statement) → list_all (place_within limit) (places_raised more places) ≡ true → statement_passes pass test a ≡ true →
          is_fetched setting rules bs claim places ls a ≡ true → is_fetched setting rules bs claim (places_raised more places) ls a ≡ true
      fetched_rises places [] (Seq all) small f h = h
      fetched_rises places [] (For i x kind body) small f h = h
      fetched_rises places [] (Let i pick forms) small f h = h
      fetched_rises places [] (First i a c) small f h = h
      fetched_rises places [] (Guard low high body) small f h = h
      fetched_rises places [] (Alloc c g old) small f h = h
      fetched_rises places [] (Fetch b g region) small f h =
          let named = same_name (setting.group_function g) claim.function in
          let last = claim.definition == rules.last claim.function in
          let ends = list_all has_ends region in
          let inside = are_within rules bs claim.region region in
          let folds = fold_holds rules bs region places in
          let later_folds = fold_holds rules bs region (places_raised more places) in
          let seats = are_seated rules bs region places in
          let later_seats = are_seated rules bs region (places_raised more places) in
          and_leads named (last && (ends && (inside && (folds && seats)))) named (last && (ends && (inside && (later_folds && later_seats)))) (stays named)
          (and_leads last (ends && (inside && (folds && seats))) last (ends && (inside && (later_folds && later_seats))) (stays last)
          (and_leads ends (inside && (folds && seats)) ends (inside && (later_folds && later_seats)) (stays ends)
          (and_leads inside (folds && seats) inside (later_folds && later_seats) (stays inside)
          (and_leads folds seats later_folds later_seats (fold_rises more region places small f) (seats_rise rules bs more region places))))) h
      fetched_rises places [] (Store b k at e) small f h = h
      fetched_rises places [] (Publish c) small f h = h
      fetched_rises places (l ∷ ls) a small f h = absurd (cc h)

      pub makes_rises : (domain : List ℕ → ℕ → Option (List Range)) (from : Option ℕ) (places : List Places) (o : Option Nest) →
          list_all (place_within limit) (places_raised more places) ≡ true → nest_passes pass test o ≡ true →
          makes setting rules domain bs claim from places o ≡ true → makes setting rules domain bs claim from (places_raised more places) o ≡ true
      makes_rises domain None places None small f h = h
      makes_rises domain (Some k) places None small f h = h
      makes_rises domain (Some k) places (Some n) small f h = h
      makes_rises domain None places (Some n) small f h =
          let parts = and_parts (list_all (λ (l : Loop). span_passes test l.span) n.loops) (statement_passes pass test n.line) f in
          or_leads (is_filled setting rules bs claim places n.loops n.line) (is_fetched setting rules bs claim places n.loops n.line)
          (is_filled setting rules bs claim (places_raised more places) n.loops n.line) (is_fetched setting rules bs claim (places_raised more places) n.loops n.line)
          (filled_rises places n.loops n.line small parts.0) (fetched_rises places n.loops n.line small parts.1) h

      -- ---- split nests

      spots_rise : (folded : Bool) (n : Stored) (places : List Places) → has_spots folded rules bs n places ≡ true → has_spots folded rules bs n (places_raised more places) ≡ true
      spots_rise folded n places h =
          let apart = list_all (is_apart (along n.steps)) bs in
          let steady = list_all (is_steady folded (along n.steps)) places in
          let later = list_all (is_steady folded (along n.steps)) (places_raised more places) in
          let seats = are_seated rules (along n.steps ++ bs) (map exactly n.forms) places in
          let later_seats = are_seated rules (along n.steps ++ bs) (map exactly n.forms) (places_raised more places) in
          and_leads (apart && steady) seats (apart && later) later_seats
          (and_leads apart steady apart later (stays apart) (λ e. sym (steady_same folded (along n.steps) more places)
          ∙ e)) (seats_rise rules (along n.steps ++ bs) more (map exactly n.forms) places) h

      split_rises : (places : List Places) (o : Option Stored) → makes_split rules bs claim places o ≡ true → makes_split rules bs claim (places_raised more places) o ≡ true
      split_rises places None h = h
      split_rises places (Some n) h =
          let reached = M.covers rules bs n.steps n.forms claim.region in
          and_leads (has_spots false rules bs n places) reached (has_spots false rules bs n (places_raised more places)) reached (spots_rise false n places) (stays reached) h

      pub by_rises : (domain : List ℕ → ℕ → Option (List Range)) (from : Option ℕ) (places : List Places) (o : Option Spine) →
          makes_by setting rules domain bs claim from places o ≡ true → makes_by setting rules domain bs claim from (places_raised more places) o ≡ true
      by_rises domain None places o h = split_rises places (stored_by setting claim o) h
      by_rises domain (Some k) places o h = h

    -- ---- windows

    module _ (steps : List Step) (bound : list_all pass (along steps) ≡ true) where
      lie_rises : (x : Span1) (f : Form) (n k : ℕ) (l : Form) → n + k ≤ limit → span_passes test x ≡ true → test f ≡ true → test l ≡ true →
          lie_from rules bs steps x f n l ≡ true → lie_from rules bs steps x f (n + k) l ≡ true
      lie_rises x f n k l few fx ff fl h =
          let outer = is_outer (along steps) l in
          let ends = and_parts (list_all test x.lower) (list_all test x.upper) fx in
          let one = is_seated rules bs x (From l n) in
          let later_one = is_seated rules bs x (From l (n + k)) in
          let two = is_seated rules (along steps ++ bs) (exactly f) (From l n) in
          let later_two = is_seated rules (along steps ++ bs) (exactly f) (From l (n + k)) in
          and_leads outer (one && two) outer (later_one && later_two) (stays outer) (and_leads one two later_one later_two (seated_rises x l n k few ends.1 fl)
          (around_rises (along steps ++ bs) (all_append pass test pass (along steps) bs bound known) (exactly f) l n k few (both (test f) true ff refl) fl)) h
        where
          around_rises : (bs : List Binder) → list_all pass bs ≡ true → (x : Span1) (l : Form) (n k : ℕ) → n + k ≤ limit → list_all test x.upper ≡ true → test l ≡ true →
              is_seated rules bs x (From l n) ≡ true → is_seated rules bs x (From l (n + k)) ≡ true
          around_rises bs good x l n k few fx fl h =
              let low = list_any (λ m. rules.at_most bs l m) x.lower && true in
              let near = list_any (λ u. rules.at_most bs u (plus l (pos n -ℤ pos 1))) x.upper in
              let far = list_any (λ u. rules.at_most bs u (plus l (pos (n + k) -ℤ pos 1))) x.upper in
              and_leads low (near && true) low (far && true) (stays low) (and_leads near true far true
              (any_leads test (λ u. rules.at_most bs u (plus l (pos n -ℤ pos 1))) (λ u. rules.at_most bs u (plus l (pos (n + k) -ℤ pos 1))) x.upper fx
              (λ u fu e. rises bs u l n k good fu fl few e)) (stays true)) h

      axis_rises : (x : Span1) (f : Form) (a : Places) (k : ℕ) → place_within limit (place_raised k a) ≡ true → span_passes test x ≡ true → test f ≡ true →
          axis_holds rules bs steps x f a ≡ true → axis_holds rules bs steps x f (place_raised k a) ≡ true
      axis_rises x f (From l n) k few fx ff h = h
      axis_rises x f (Folded zero) k few fx ff h = h
      axis_rises x f (Folded (suc n)) k few fx ff h =
          let ends = and_parts (list_all test x.lower) (list_all test x.upper) fx in
          any_leads test (lie_from rules bs steps x f (suc n)) (lie_from rules bs steps x f (suc n + k)) x.lower ends.0 (λ l fl e. lie_rises x f (suc n) k l (leb-true
          (suc n + k) limit few) fx ff fl e) h

      hold_rises : (alone : Bool) (d : Option ℕ) (more : ℕ → ℕ) (xs : List Span1) (fs : List Form) (places : List Places) →
          list_all (place_within limit) (places_raised more places) ≡ true → list_all (span_passes test) xs ≡ true → list_all test fs ≡ true →
          hold rules bs alone d steps xs fs places ≡ true → hold rules bs alone d steps xs fs (places_raised more places) ≡ true
      hold_rises alone d more [] [] [] small fx ff h = h
      hold_rises alone d more [] [] (a ∷ places) small fx ff h = absurd (cc h)
      hold_rises alone d more [] (f ∷ fs) places small fx ff h = absurd (cc h)
      hold_rises alone d more (x ∷ xs) [] places small fx ff h = absurd (cc h)
      hold_rises alone d more (x ∷ xs) (f ∷ fs) [] small fx ff h = absurd (cc h)
      hold_rises alone d more (x ∷ xs) (f ∷ fs) (a ∷ places) small fx ff h =
          let few = and_parts (place_within limit (place_raised (more zero) a)) (list_all (place_within limit) (places_raised (λ d. more (suc d)) places)) small in
          let spans = and_parts (span_passes test x) (list_all (span_passes test) xs) fx in
          let forms = and_parts (test f) (list_all test fs) ff in
          let unasked = not (is_asked alone d) in
          let axis = axis_holds rules bs steps x f a in
          let later = axis_holds rules bs steps x f (place_raised (more zero) a) in
          and_leads (unasked || axis) (hold rules bs alone (one_less d) steps xs fs places) (unasked
          || later) (hold rules bs alone (one_less d) steps xs fs (places_raised (λ d. more (suc d)) places))
          (or_leads unasked axis unasked later (stays unasked) (axis_rises x f a (more zero) few.0 spans.0 forms.0))
          (hold_rises alone (one_less d) (λ d. more (suc d)) xs fs places few.1 spans.1 forms.1) h

    window_rises : (i n k : ℕ) (x : Span1) → nat_le (risen k n) limit ≡ true → span_passes test x ≡ true → is_window rules bs i n x ≡ true → is_window rules bs i (risen k n) x ≡ true
    window_rises i zero k x few fx h = h
    window_rises i (suc n) k x few fx h =
        let rising = is_rising i (inside i bs) x in
        and_leads rising ((suc n == 0) || is_short rules bs x (suc n)) rising ((suc n + k == 0) || is_short rules bs x (suc n + k)) (stays rising)
        (or_leads (suc n == 0) (is_short rules bs x (suc n)) (suc n + k == 0) (is_short rules bs x (suc n + k))
        (λ e. let none : suc n ≡ zero = eqb-true (suc n) zero e in absurd (cc none)) (short_rises x (suc n) k few fx)) h

    -- the window with so many more
    module _ (w : Window) (by : Window → ℕ) (few : nat_le (risen (by w) w.fold) limit ≡ true) where
      abbrev later : Window
      later = window_raised by w

      axis_along : (x : Span1) (a : Places) → span_passes test x ≡ true → is_axis rules bs w x a ≡ true → is_axis rules bs later x (place_raised (by w) a) ≡ true
      axis_along x a fx h =
          let same = is_within rules bs x w.span && is_within rules bs w.span x in
          let window = is_window rules bs w.symbol w.fold x in
          let later_window = is_window rules bs w.symbol (risen (by w) w.fold) x in
          let fold = is_fold_of w.fold a in
          let later_fold = is_fold_of (risen (by w) w.fold) (place_raised (by w) a) in
          and_leads same (window && fold) same (later_window && later_fold) (stays same)
          (and_leads window fold later_window later_fold (window_rises w.symbol w.fold (by w) x few fx) (fold_same w.fold (by w) a)) h

      along_rises : (d : ℕ) (more : ℕ → ℕ) (xs : List Span1) (places : List Places) → by w ≡ more d → list_all (span_passes test) xs ≡ true →
          is_along rules bs w d xs places ≡ true → is_along rules bs later d xs (places_raised more places) ≡ true
      along_rises zero more [] places e fx h = absurd (cc h)
      along_rises zero more (x ∷ xs) [] e fx h = absurd (cc h)
      along_rises zero more (x ∷ xs) (a ∷ places) e fx h =
          let spans = and_parts (span_passes test x) (list_all (span_passes test) xs) fx in
          let still = list_all (is_still w.symbol (inside w.symbol bs)) xs in
          let axis = is_axis rules bs w x a in
          let later_axis = is_axis rules bs later x (place_raised (more zero) a) in
          and_leads axis still later_axis still (λ v. subst (λ k. is_axis rules bs later x (place_raised k a) ≡ true) e (axis_along x a spans.0 v)) (stays still) h
      along_rises (suc d) more [] places e fx h = absurd (cc h)
      along_rises (suc d) more (x ∷ xs) [] e fx h = absurd (cc h)
      along_rises (suc d) more (x ∷ xs) (a ∷ places) e fx h =
          let spans = and_parts (span_passes test x) (list_all (span_passes test) xs) fx in
          let still = is_still w.symbol (inside w.symbol bs) x in
          and_leads still (is_along rules bs w d xs places) still (is_along rules bs later d xs (places_raised (λ d. more (suc d)) places)) (stays still)
          (along_rises d (λ d. more (suc d)) xs places e spans.1) h

    module _ (setting : Setting) (claim : Claim) (more : ℕ → ℕ) (spans : list_all (span_passes test) claim.region ≡ true) (places : List Places)
        (small : list_all (place_within limit) (places_raised more places) ≡ true) where
      abbrev more_places : List Places
      more_places = places_raised more places

      stay_rises : (d : ℕ) (n : Stored) → stored_passes pass test (Some n) ≡ true → others_stay rules bs claim.region places d n ≡ true → others_stay rules bs claim.region more_places d n ≡ true
      stay_rises d n f h =
          let good = and_parts (list_all pass (along n.steps)) (list_all test n.forms) f in
          let spots = has_spots true rules bs n places in
          let later_spots = has_spots true rules bs n more_places in
          let scoped = M.is_scoped (map binder n.steps) in
          let holds = hold rules bs false (Some d) n.steps claim.region n.forms places in
          let later_holds = hold rules bs false (Some d) n.steps claim.region n.forms more_places in
          and_leads spots (scoped && holds) later_spots (scoped && later_holds) (spots_rise setting claim more true n places)
          (and_leads scoped holds scoped later_holds (stays scoped) (hold_rises n.steps good.0 false (Some d) more claim.region n.forms places small spans good.1)) h

      one_rises : (d : ℕ) (o : Option Stored) → stored_passes pass test o ≡ true → one_stays rules bs claim.region places d o ≡ true → one_stays rules bs claim.region more_places d o ≡ true
      one_rises d None f h = h
      one_rises d (Some n) f h =
          let good = and_parts (list_all pass (along n.steps)) (list_all test n.forms) f in
          hold_rises n.steps good.0 true (Some d) more claim.region n.forms places small spans good.1 h

      all_rises : (d : ℕ) (o : Option Stored) → stored_passes pass test o ≡ true → makes_all rules bs claim.region places d o ≡ true → makes_all rules bs claim.region more_places d o ≡ true
      all_rises d None f h = h
      all_rises d (Some n) f h =
          let reached = M.covers rules bs n.steps n.forms claim.region in
          and_leads (others_stay rules bs claim.region places d n) reached (others_stay rules bs claim.region more_places d n) reached (stay_rises d n f) (stays reached) h

      new_rises : (i d : ℕ) (o : Option Stored) → stored_passes pass test o ≡ true → makes_new rules bs claim.region places i d o ≡ true → makes_new rules bs claim.region more_places i d o ≡ true
      new_rises i d None f h = h
      new_rises i d (Some n) f h =
          let reached = reaches_new rules bs claim.region i d n in
          and_leads (others_stay rules bs claim.region places d n) reached (others_stay rules bs claim.region more_places d n) reached (stay_rises d n f) (stays reached) h

      arm_good : (a : Statement) → statement_passes pass test a ≡ true → stored_passes pass test (arm setting claim a) ≡ true
      arm_good a f = stored_good pass test setting claim (spine_of a claim.buffer) (spine_good pass test a claim.buffer f)

      folded_rises : (from : Option ℕ) (a : Statement) → statement_passes pass test a ≡ true → folded_by setting rules bs claim from places a ≡ true →
          folded_by setting rules bs claim from more_places a ≡ true
      folded_rises None a f h =
          let o = arm setting claim a in
          and_leads (makes_all rules bs claim.region places 0 o) (one_stays rules bs claim.region places 0 o) (makes_all rules bs claim.region more_places 0 o)
          (one_stays rules bs claim.region more_places 0 o)
          (all_rises 0 o (arm_good a f)) (one_rises 0 o (arm_good a f)) h
      folded_rises (Some k) a f h = h

      slid_rises : (w : Window) (a : Statement) → statement_passes pass test a ≡ true → is_slid setting rules bs claim places w a ≡ true → is_slid setting rules bs claim more_places w a ≡ true
      slid_rises w (Seq all) f h = h
      slid_rises w (For i x kind body) f h = h
      slid_rises w (Let i pick forms) f h = h
      slid_rises w (First i a c) f h =
          let good = and_parts (statement_passes pass test a) (statement_passes pass test c) f in
          let own = i == w.symbol in
          let one = arm setting claim a in
          let two = arm setting claim c in
          and_leads own (makes_all rules bs claim.region places w.dimension one && makes_new rules bs claim.region places w.symbol w.dimension two)
          own (makes_all rules bs claim.region more_places w.dimension one && makes_new rules bs claim.region more_places w.symbol w.dimension two) (stays own)
          (and_leads (makes_all rules bs claim.region places w.dimension one) (makes_new rules bs claim.region places w.symbol w.dimension two)
          (makes_all rules bs claim.region more_places w.dimension one) (makes_new rules bs claim.region more_places w.symbol w.dimension two)
          (all_rises w.dimension one (arm_good a good.0)) (new_rises w.symbol w.dimension two (arm_good c good.1))) h
      slid_rises w (Guard low high body) f h = h
      slid_rises w (Alloc c g old) f h = h
      slid_rises w (Fetch c g region) f h = h
      slid_rises w (Store c k at e) f h = h
      slid_rises w (Publish c) f h = h

      arms_rise : (d : ℕ) (a : Statement) → statement_passes pass test a ≡ true → arms_stay setting rules bs claim places d a ≡ true → arms_stay setting rules bs claim more_places d a ≡ true
      arms_rise d (Seq all) f h = h
      arms_rise d (For i x kind body) f h = h
      arms_rise d (Let i pick forms) f h = h
      arms_rise d (First i a c) f h =
          let good = and_parts (statement_passes pass test a) (statement_passes pass test c) f in
          let one = arm setting claim a in
          let two = arm setting claim c in
          and_leads (one_stays rules bs claim.region places d one) (one_stays rules bs claim.region places d two) (one_stays rules bs claim.region more_places d one)
          (one_stays rules bs claim.region more_places d two)
          (one_rises d one (arm_good a good.0)) (one_rises d two (arm_good c good.1)) h
      arms_rise d (Guard low high body) f h = h
      arms_rise d (Alloc c g old) f h = h
      arms_rise d (Fetch c g region) f h = h
      arms_rise d (Store c k at e) f h = h
      arms_rise d (Publish c) f h = h

      held_rises : (w : Window) (by : Window → ℕ) (a : Statement) → nat_le (risen (by w) w.fold) limit ≡ true → by w ≡ more w.dimension → span_passes test w.span ≡ true →
          statement_passes pass test a ≡ true →
          is_held setting rules bs claim places w a ≡ true → is_held setting rules bs claim more_places (window_raised by w) a ≡ true
      held_rises w by a few e fw f h =
          let window = is_window rules bs w.symbol w.fold w.span in
          let later_window = is_window rules bs w.symbol (risen (by w) w.fold) w.span in
          let along = is_along rules bs w w.dimension claim.region places in
          let later_along = is_along rules bs (window_raised by w) w.dimension claim.region more_places in
          let arms = arms_stay setting rules bs claim places w.dimension a in
          let later_arms = arms_stay setting rules bs claim more_places w.dimension a in
          and_leads window (along && arms) later_window (later_along && later_arms) (window_rises w.symbol w.fold (by w) w.span few fw)
          (and_leads along arms later_along later_arms (along_rises w by few w.dimension more claim.region places e spans) (arms_rise w.dimension a f)) h

-- ---- all tests, of the statement with greater folds

module _ (more : ℕ → ℕ → ℕ) (setting : Setting) (claim : Claim) where
  arm_same : (a : Statement) → arm setting claim a ≡ arm setting claim (raised more a)
  arm_same a = ap (stored_by setting claim) (spine_same (by_more more) a claim.buffer)

  module _ (rules : Rules) (bs : List Binder) (places : List Places) where
    slid_same : (w : Window) (a : Statement) → is_slid setting rules bs claim places w a ≡ is_slid setting rules bs claim places w (raised more a)
    slid_same w (Seq all) = refl
    slid_same w (For i x kind body) = refl
    slid_same w (Let i pick forms) = refl
    slid_same w (First i a c) =
        λ j. (i == w.symbol) && (makes_all rules bs claim.region places w.dimension (arm_same a j) && makes_new rules bs claim.region places w.symbol w.dimension (arm_same c j))
    slid_same w (Guard low high body) = refl
    slid_same w (Alloc c f old) = refl
    slid_same w (Fetch c g region) = refl
    slid_same w (Store c k at e) = refl
    slid_same w (Publish c) = refl

    arms_same : (d : ℕ) (a : Statement) → arms_stay setting rules bs claim places d a ≡ arms_stay setting rules bs claim places d (raised more a)
    arms_same d (Seq all) = refl
    arms_same d (For i x kind body) = refl
    arms_same d (Let i pick forms) = refl
    arms_same d (First i a c) = λ j. one_stays rules bs claim.region places d (arm_same a j) && one_stays rules bs claim.region places d (arm_same c j)
    arms_same d (Guard low high body) = refl
    arms_same d (Alloc c f old) = refl
    arms_same d (Fetch c g region) = refl
    arms_same d (Store c k at e) = refl
    arms_same d (Publish c) = refl

    held_same : (w : Window) (a : Statement) → is_held setting rules bs claim places w a ≡ is_held setting rules bs claim places w (raised more a)
    held_same w a = λ j. is_window rules bs w.symbol w.fold w.span && (is_along rules bs w w.dimension claim.region places && arms_same w.dimension a j)

    folded_same : (from : Option ℕ) (a : Statement) → folded_by setting rules bs claim from places a ≡ folded_by setting rules bs claim from places (raised more a)
    folded_same None a = ap (makes_folded rules bs claim places) (arm_same a)
    folded_same (Some k) a = refl

-- what they say of a claim that a statement makes
module _ (limit : ℕ) (pass : Binder → Bool) (test : Form → Bool) (rules : Rules) (rises : Rises limit pass test rules)
    (outline : Outline) (domain : List ℕ → ℕ → Option (List Range)) (more : ℕ → ℕ → ℕ) where
  abbrev tests : Nests
  tests = slid_nests outline rules domain

  abbrev here_raised : ℕ → List Places → List Places
  here_raised c places = places_raised (more (outline.claim c).buffer) places

  module _ (bs : List Binder) (known : list_all pass bs ≡ true) (c : ℕ) (spans : list_all (span_passes test) (outline.claim c).region ≡ true) (a : Statement)
      (f : statement_passes pass test a ≡ true) where
    pub made_more : (from : Option ℕ) (places : List Places) → list_all (place_within limit) (here_raised c places) ≡ true → tests.is_made bs c from places a ≡ true →
        tests.is_made bs c from (here_raised c places) (raised more a) ≡ true
    made_more from places small h =
        let claim = outline.claim c in
        let plain = makes outline.setting rules domain bs claim from places (nest_of a claim.buffer) in
        let later_plain = makes outline.setting rules domain bs claim from (here_raised c places) (nest_of a claim.buffer) in
        let split = makes_by outline.setting rules domain bs claim from places (spine_of a claim.buffer) in
        let later_split = makes_by outline.setting rules domain bs claim from (here_raised c places) (spine_of a claim.buffer) in
        let folded = folded_by outline.setting rules bs claim from places a in
        let later_folded = folded_by outline.setting rules bs claim from (here_raised c places) a in
        let all = or_leads (plain || split) folded (later_plain || later_split) later_folded
        (or_leads plain split later_plain later_split
        (makes_rises limit pass test rules rises bs known outline.setting claim (more claim.buffer) domain from places (nest_of a claim.buffer) small (nest_good pass test a claim.buffer f))
        (by_rises limit pass test rules rises bs known outline.setting claim (more claim.buffer) domain from places (spine_of a claim.buffer)))
        (folded_rises limit pass test rules rises bs known outline.setting claim (more claim.buffer) spans places small from a f) h in
        (λ j. (makes outline.setting rules domain bs claim from (here_raised c places) (sym (nest_same (by_more more) a claim.buffer) j)
        || makes_by outline.setting rules domain bs claim from (here_raised c places) (sym (spine_same (by_more more) a claim.buffer) j))
        || sym (folded_same more outline.setting claim rules bs (here_raised c places) from a) j) ∙ all

    pub slid_more : (w : Window) (by : Window → ℕ) (places : List Places) → list_all (place_within limit) (here_raised c places) ≡ true → tests.is_slid bs w c places a ≡ true →
        tests.is_slid bs (window_raised by w) c (here_raised c places) (raised more a) ≡ true
    slid_more w by places small h =
        let claim = outline.claim c in
        sym (slid_same more outline.setting claim rules bs (here_raised c places) w a)
        ∙ slid_rises limit pass test rules rises bs known outline.setting claim (more claim.buffer) spans places small w a f h

    pub held_more : (w : Window) (by : Window → ℕ) (places : List Places) → list_all (place_within limit) (here_raised c places) ≡ true → nat_le (risen (by w) w.fold) limit ≡ true →
        by w ≡ more (outline.claim c).buffer w.dimension → span_passes test w.span ≡ true →
        tests.is_held bs w c places a ≡ true → tests.is_held bs (window_raised by w) c (here_raised c places) (raised more a) ≡ true
    held_more w by places small few e fw h =
        let claim = outline.claim c in
        sym (held_same more outline.setting claim rules bs (here_raised c places) (window_raised by w) a)
        ∙ held_rises limit pass test rules rises bs known outline.setting claim (more claim.buffer) spans places small w by a few e fw f h

  pub in_turn_same : (bs : List Binder) (c : ℕ) (a : Statement) → tests.is_in_turn bs c a ≡ tests.is_in_turn bs c (raised more a)
  in_turn_same bs c a =
      let claim = outline.claim c in
      λ j. is_in_order outline.setting rules domain bs claim (nest_same (by_more more) a claim.buffer j)
      || is_in_steps outline.setting rules domain bs claim (spine_same (by_more more) a claim.buffer j)
