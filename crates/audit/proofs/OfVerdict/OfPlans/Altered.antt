-- Histograms with one thing wrong.
use Rattle.std.proofs.Common.{◌≡◌, ℕ, suc, ◌+◌, ◌*◌, ◌≤◌, ◌<◌, Bool, true, false, List, [], ◌∷◌, ◌++◌, Option, Some, None, refl, sym, ap, ◌∙◌, subst, inl, inr, arith}
use Rattle.std.specs.Prelude.{ℤ, pos, negsuc, ◌≤ℤ◌, ◌+ℤ◌, ◌-ℤ◌, ◌*ℤ◌, ◌==◌, ◌&&◌, codes, if◌then◌else◌, flat_map, unsigned_abs, int_le}
use Rattle.std.proofs.lemmas.Int.{ints}
use Rattle.meaning.specs.Image.Raster.{sample}
use Rattle.numeric.specs.declared.ty.Ty.TheVariants.{I32}
use Rattle.numeric.specs.Wrap.{wrap}
use Rattle.lin.specs.declared.span.Span1.{Span1}
use Rattle.plan.specs.declared.stmt.Kind.TheVariants.{Serial}
use Rattle.plan.specs.Plan.{Statement, Seq, block}
use Rattle.plan.specs.Symbols.{bind, rising, turns}
use Rattle.plan.specs.Semantics.Actions.{Action, Allot, Take, Put, Change, Give, actions}
use Rattle.plan.specs.Semantics.Worked.{constants, loop}
use Rattle.meaning.specs.Names.{same_point}
use Rattle.soundness.specs.Origins.{Given, matches}
use Rattle.soundness.specs.Claims.{In, IsMade, status_after, Scope, Before}
use Rattle.soundness.specs.Worked.{hist_store}
use Rattle.soundness.proofs.Forms.{lies_region, region_lies}
use Rattle.soundness.proofs.Ongoing.{only_steps, some_before}
use Rattle.soundness.proofs.Turns.{turns_within}
use Rattle.soundness.proofs.Windows.{turns_rising}
use Rattle.audit.specs.Verdict.Plans.Counts.{over_rows, over_columns, FirstRowIsNeeded, LastRowIsNeeded, ColumnsComeFirst, ClaimsAreNotWider, SamplesArePlaces}
use Rattle.audit.proofs.OfVerdict.OfPlans.Parts.{turn_scope, begun, first_turn, second_turn, one_only, sample_from, stays, s, region, given_at, before}

abbrev columns : Span1
columns = constants (pos 0) (pos 2)

abbrev columns_loop : Statement
columns_loop = loop 3 columns (hist_store ∷ [])

-- where a first step has met a point, or has not, the fourth does not come next
not_yet : (v : Bool) (m n : ℕ) → m ≡ 0 → n ≡ 3 → ◌≡◌ {A = Option ℕ} (Some (if v then m + 1 else 0)) (Some n) → ⊥
not_yet true m n a b e = let k : m + 1 ≡ n = cc in absurd (omega (arith, a, b, k))
not_yet false m n a b e = let k : 0 ≡ n = cc in absurd (omega (arith, a, b, k))

-- ---- no step from some number on

abbrev AllBelow : Given → ℕ → ℕ → List Action → Type 0
AllBelow given b m [] = Unit {0}
AllBelow given b m (Allot c rooms ∷ later) = (c == b) ≡ false × AllBelow given b m later
AllBelow given b m (Take c f x ∷ later) = (c == b) ≡ false × AllBelow given b m later
AllBelow given b m (Put c f names x e ∷ later) = (c == b) ≡ false × AllBelow given b m later
AllBelow given b m (Change c f k names at over e ∷ later) = (given.step_at f k over < m) × AllBelow given b m later
AllBelow given b m (Give c x ∷ later) = AllBelow given b m later

below_append : (given : Given) (b m : ℕ) (xs ys : List Action) → AllBelow given b m xs → AllBelow given b m ys → AllBelow given b m (xs ++ ys)
below_append given b m [] ys p q = q
below_append given b m (Allot c rooms ∷ later) ys p q = (p.0, below_append given b m later ys p.1 q)
below_append given b m (Take c f x ∷ later) ys p q = (p.0, below_append given b m later ys p.1 q)
below_append given b m (Put c f names x e ∷ later) ys p q = (p.0, below_append given b m later ys p.1 q)
below_append given b m (Change c f k names at over e ∷ later) ys p q = (p.0, below_append given b m later ys p.1 q)
below_append given b m (Give c x ∷ later) ys p q = below_append given b m later ys p q

below_turns : (given : Given) (b m : ℕ) (g : ℤ → List Action) (zs : List ℤ) → ((z : ℤ) → In z zs → AllBelow given b m (g z)) → AllBelow given b m (flat_map g zs)
below_turns given b m g [] h = tt
below_turns given b m g (z ∷ zs) h = below_append given b m (g z) (flat_map g zs) (h z (inl refl)) (below_turns given b m g zs (λ y n. h y (inr n)))

same_number : (a b : ℕ) → ◌≡◌ {A = Option ℕ} (Some a) (Some b) → a ≡ b
same_number a b e = cc

-- no more steps are done than that
at_most_below : (given : Given) (b m : ℕ) (p : List ℤ) (xs : List Action) (d r : ℕ) → AllBelow given b m xs → d ≤ m → status_after given b p xs (Some d) ≡ Some r → r ≤ m
at_most_below given b m p [] d r h l e = let same = same_number d r e in omega (arith, same, l)
at_most_below given b m p (Allot c rooms ∷ later) d r h l e =
    at_most_below given b m p later d r h.1 l (ap (λ v. status_after given b p later (if v then None else Some d)) (sym h.0) ∙ e)
at_most_below given b m p (Take c f x ∷ later) d r h l e =
    at_most_below given b m p later d r h.1 l (ap (λ v. status_after given b p later (if v && same_point x p then Some (given.all_steps f) else Some d)) (sym h.0) ∙ e)
at_most_below given b m p (Put c f names x k ∷ later) d r h l e =
    at_most_below given b m p later d r h.1 l (ap (λ v. status_after given b p later (if v && same_point x p then Some 0 else Some d)) (sym h.0) ∙ e)
at_most_below given b m p (Change c f k names at over x ∷ later) d r h l e =
    of (c == b) ((d == given.step_at f k over) && matches at p) e (λ a q. at_most_below given b m p later a r h.1 q)
  where
    of : (v w : Bool) → status_after given b p later (if v then Some (if w then given.step_at f k over + 1 else d) else Some d) ≡ Some r →
        ((a : ℕ) → a ≤ m → status_after given b p later (Some a) ≡ Some r → r ≤ m) → r ≤ m
    of true true g rest = rest (given.step_at f k over + 1) (let s = h.0 in omega (arith, s)) g
    of true false g rest = rest d l g
    of false w g rest = rest d l g
at_most_below given b m p (Give c x ∷ later) d r h l e = at_most_below given b m p later d r h l e

abs_most : (w : ℤ) (n : ℕ) → pos 0 ≤ℤ w → w ≤ℤ pos n → unsigned_abs w ≤ n
abs_most (pos k) n l h = omega (arith, ints)
abs_most (negsuc k) n l h = absurd (omega (arith, ints))

-- ---- the update's order, and what it leaves out

-- the first step is that of the second row
pub first_row : FirstRowIsNeeded
first_row samples last rows h =
    let update : Statement = over_rows (constants (pos 1) (pos (suc rows))) in
    let given : Given = given_at samples last (suc rows) last update in
    let known : Scope = before samples last (suc rows) last update in
    let many : ((pos (suc rows) +ℤ pos 0) +ℤ pos 1) -ℤ pos 1 ≡ pos (suc rows) = omega (arith, ints) in
    let turn = first_turn given 2 (constants (pos 1) (pos (suc rows))) Serial (Seq (block (columns_loop ∷ []))) 9 known (pos 1) (rising (pos 2) rows)
    (turns_rising s (constants (pos 1) (pos (suc rows))) (pos 1) (suc rows) refl many) h.2.2.0 in
    let fourth : 0 + (0 + 3 * (1 + (suc rows + 0 + 1) * 0)) ≡ 3 = omega arith in
    not_yet false 0 (0 + (0 + 3 * (1 + (suc rows + 0 + 1) * 0))) refl fourth (one_only turn.0.0.0.1).3

-- the second step is that of the second row
pub columns_first : ColumnsComeFirst
columns_first samples last rows h =
    let rows_span : Span1 = constants (pos 0) (pos (suc rows)) in
    let inner : Statement = loop 2 rows_span (hist_store ∷ []) in
    let update : Statement = over_columns rows_span in
    let given : Given = given_at samples last (suc rows) last update in
    let known : Scope = before samples last (suc rows) last update in
    let column : Scope = turn_scope given 3 columns (Seq (block (inner ∷ []))) known (pos 0) (begun given (Seq (block (inner ∷ []))) known) in
    let many : ((pos (suc rows) +ℤ pos 0) +ℤ pos 1) -ℤ pos 0 ≡ pos (suc (suc rows)) = omega (arith, ints) in
    let turn = second_turn given 2 rows_span Serial (Seq (block (hist_store ∷ []))) 10 column (pos 0) (pos 1) (rising (pos 2) rows)
    (turns_rising column.symbols rows_span (pos 0) (suc (suc rows)) refl many) h.2.2.0.0.0 in
    let none : 0 + (0 + 3 * (0 + (suc rows + 0 + 1) * 0)) ≡ 0 = omega arith in
    let fourth : 0 + (0 + 3 * (1 + (suc rows + 0 + 1) * 0)) ≡ 3 = omega arith in
    let step : ℕ = 0 + (0 + 3 * (0 + (suc rows + 0 + 1) * 0)) in
    not_yet ((0 == step) && true) step (0 + (0 + 3 * (1 + (suc rows + 0 + 1) * 0))) none fourth (one_only turn.0.1).3

-- the update's claim is not made at the first place
pub last_row : LastRowIsNeeded
last_row samples last rows h =
    let span : Span1 = constants (pos 0) (pos rows) in
    let update : Statement = over_rows span in
    let given : Given = given_at samples last (suc rows) last update in
    let known : Scope = before samples last (suc rows) last update in
    let todo : List Action = actions given.outline.setting update s in
    let made : IsMade given 1 todo known = h.2.2.1.0 in
    let cover = made.covers (pos 0 ∷ []) (lies_region s (region last) (pos 0 ∷ []) (((omega (arith, ints), tt), (omega (arith, ints), tt)), tt)) in
    let was = some_before given 0 (pos 0 ∷ []) todo cover.0 (given.steps (codes "h") 1) (only_steps given.outline.setting update s 0 (codes "h") refl) cover.2 in
    let earlier = subst (Before given known.facts 0 (codes "h") (pos 0 ∷ [])) was.1 cover.1 in
    let none : 0 ≡ was.0 = same_number 0 was.0 (one_only earlier).3 in
    let turn : ℤ → List Action = λ z. actions given.outline.setting (Seq (block (columns_loop ∷ []))) (bind s 2 z (int_le z (pos 0))) in
    let all : AllBelow given 0 (3 * (rows + 1)) todo = below_turns given 0 (3 * (rows + 1)) turn (turns s span) (λ z m.
    let w = turns_within s span (pos 0) (pos rows +ℤ pos 0) z refl refl m in
    let low : pos 0 ≤ℤ z = w.0 in
    let high : z ≤ℤ (pos rows +ℤ pos 0) = w.1 in
    let few : unsigned_abs ((pos 0 +ℤ (pos 1 *ℤ z +ℤ pos 0)) -ℤ pos 0) ≤ rows = abs_most ((pos 0 +ℤ (pos 1 *ℤ z +ℤ pos 0)) -ℤ pos 0) rows (omega (arith, ints, low)) (omega (arith, ints, high)) in
    (omega (arith, few), (omega (arith, few), (omega (arith, few), tt)))) in
    let most : 3 * ((suc rows + 0 + 1) * 1) + 0 ≤ 3 * (rows + 1) = at_most_below given 0 (3 * (rows + 1)) (pos 0 ∷ []) todo was.0 (given.steps (codes "h") 1) all (omega (arith, none)) was.2 in
    absurd (omega (arith, most))

-- ---- a claim that is too wide, and a sample that is no place

pub not_wider : ClaimsAreNotWider
not_wider samples last rows h =
    let update : Statement = over_rows (constants (pos 0) (pos rows)) in
    let given : Given = given_at samples last rows (suc last) update in
    let known : Scope = before samples last rows (suc last) update in
    let todo : List Action = actions given.outline.setting update s in
    let made : IsMade given 1 todo known = h.2.2.1.0 in
    let p : List ℤ = pos (suc last) ∷ [] in
    let cover = made.covers p (lies_region s (region (suc last)) p (((omega (arith, ints), tt), (omega (arith, ints), tt)), tt)) in
    let was = some_before given 0 p todo cover.0 _ (only_steps given.outline.setting update s 0 (codes "h") refl) cover.2 in
    let earlier = subst (Before given known.facts 0 (codes "h") p) was.1 cover.1 in
    let inside = region_lies s (region last) p (one_only earlier).2 in
    let high : pos (suc last) ≤ℤ (pos last +ℤ pos 0) = inside.0.1.0 in
    absurd (omega (arith, ints, high))

pub are_places : SamplesArePlaces
are_places samples last rows far small h =
    let span : Span1 = constants (pos 0) (pos rows) in
    let update : Statement = over_rows span in
    let given : Given = given_at samples last rows last update in
    let known : Scope = before samples last rows last update in
    let found : ℤ = sample (3 ∷ suc rows ∷ []) samples (pos 0 ∷ pos 0 ∷ []) in
    let many : ((pos rows +ℤ pos 0) +ℤ pos 1) -ℤ pos 0 ≡ pos (suc rows) = omega (arith, ints) in
    let turn = first_turn given 2 span Serial (Seq (block (columns_loop ∷ []))) 9 known (pos 0) (rising (pos 1) rows) (turns_rising s span (pos 0) (suc rows) refl many) h.2.2.0 in
    let inside = region_lies s (region last) (wrap I32 found ∷ []) (one_only turn.0.0.0.1).2 in
    let high : wrap I32 found ≤ℤ (pos last +ℤ pos 0) = inside.0.1.0 in
    let same : wrap I32 found ≡ found = stays found (sample_from (3 ∷ suc rows ∷ []) samples (pos 0 ∷ pos 0 ∷ [])) small in
    let here : found ≤ℤ (pos last +ℤ pos 0) = subst (λ z. z ≤ℤ (pos last +ℤ pos 0)) same high in
    absurd (omega (arith, ints, here, far))
