-- The numbers in the lines of nests and of fetches have a text.
use Rattle.std.proofs.Common.{◌≡◌, ℕ, suc, ◌+◌, ◌*◌, ◌<◌, ◌≤◌, ◌^◌, Bool, true, false, ◌&&◌, List, [], ◌∷◌, ◌++◌, length, Option, Some, None, refl, sym, ap, ◌∙◌, subst, arith, inl, inr, append_assoc}
use Rattle.std.specs.Prelude.{nat_lt, slice_get, IsSomeAnd}
use Rattle.std.specs.List.{AllByRecursion, list_all}
use Rattle.std.proofs.lemmas.Bool.Decides.{nat_tests}
use Rattle.std.proofs.lemmas.List.Folds.{list_all-append}
use Rattle.tree.specs.Term.{Term}
use Rattle.lin.specs.Forms.{Form}
use Rattle.lin.specs.declared.span.Span1.{Span1}
use Rattle.lin.proofs.TermLemmas.{all_weaker}
use Rattle.plan.specs.declared.certificate.cert.Claim.{Claim as CodeClaim}
use Rattle.plan.specs.Lines.{block_lines as plain_lines}
use Rattle.plan.specs.declared.stmt.Places.{Places}
use Rattle.plan.specs.declared.stmt.Places.TheVariants.{From, Folded}
use Rattle.plan.specs.Plan.{Index, At, Found, Coordinate, Statement, Seq, For, Let, First, Guard, Alloc, Fetch, Store, Publish, Statements, Empty, Then, block}
use Rattle.spelling.specs.Words.Fitting.{fits_form, fits_region}
use Rattle.nest.specs.Blocks.Line.{Line, ForLine, GuardLine, EndLine}
use Rattle.nest.specs.Blocks.Flat.{statement_lines, block_lines}
use Rattle.nest.specs.Fitting.{fits_place}
use Rattle.sched.specs.Runs.{lines_to}
use Rattle.sched.specs.declared.skeleton.Step.{Step}
use Rattle.sched.specs.declared.skeleton.Step.TheVariants.{Turns, Named, Tested}
use Rattle.sched.specs.Skeleton.{NestText, SkeletonText}
use Rattle.sched.specs.Stored.{FormulaText, StoredText}
use Rattle.sched.specs.Loading.{Loads}
use Rattle.sched.specs.Bodies.{first_left, other_lefts}
use Rattle.blocks.specs.Bodies.{IsIndex, AreCoordinates, IsStore, AreNests}
use Rattle.blocks.specs.Fetches.{FetchText, with_fetches}
use Rattle.completeness.specs.SaidLines.{has_index_numbers, has_line_numbers}
use Rattle.completeness.proofs.Limited.{LimitedIf, StepIs}
use Rattle.completeness.proofs.Needed.{PlaceLimited}
use Rattle.completeness.proofs.FewLines.{rises_to}
use Rattle.completeness.proofs.FewLoops.{IsShortNest}
use Rattle.completeness.proofs.Only.{Only, AreOnly}
use Rattle.completeness.proofs.OwnTexts.{IsGoodPlace}
use Rattle.completeness.proofs.RisingSteps.{RisesIf, AreSteps}
use Rattle.completeness.proofs.RisingSpans.{IsTextSpan}
use Rattle.completeness.proofs.Standing.{Binds, Here, OnlyIf, OverGrid, With, StepsOver, Rises, NestsRise}
use Rattle.completeness.proofs.TextForms.{AreBelow, AreOver, form_fits, forms_fit, span_fits}

pub both : (a b : Bool) → a ≡ true → b ≡ true → (a && b) ≡ true
both true b h k = k
both false b h k = h

pub less : (m n : ℕ) → m < n → nat_lt m n ≡ true
less m n h = grind (arith, nat_tests)

abbrev pub Numbered : List Line → Type 0
Numbered ls = list_all has_line_numbers ls ≡ true

pub joined : (xs ys : List Line) → Numbered xs → Numbered ys → Numbered (xs ++ ys)
joined xs ys h k = list_all-append has_line_numbers xs ys ∙ (λ i. h i && k i)

-- ---- nests

pub binds_under : (n m : ℕ) (ss : List Step) (s : ℕ) → Rises n ss m → Binds ss s → s < m
binds_under n m [] s rises h = absurd h
binds_under n m (Turns i x kind ∷ ss) s rises (inl e) = (let is = rises.0 in let many = rises_to (n + 1) m ss rises.1 in omega (arith, is, many, e))
binds_under n m (Turns i x kind ∷ ss) s rises (inr h) = binds_under (n + 1) m ss s rises.1 h
binds_under n m (Named i pick fs ∷ ss) s rises (inl e) = (let is = rises.0 in let many = rises_to (n + 1) m ss rises.1 in omega (arith, is, many, e))
binds_under n m (Named i pick fs ∷ ss) s rises (inr h) = binds_under (n + 1) m ss s rises.1 h
binds_under n m (Tested low high ∷ ss) s rises h = binds_under n m ss s rises h

-- few symbols
abbrev AreFew : (ℕ → Type 0) → Type 0
AreFew P = (s : ℕ) → P s → s < 1000

over_few : (P : ℕ → Type 0) → AreFew P → (f : Form) → Only P f → AreBelow 1000 f.terms
over_few P few f h = all_weaker (λ t. P t.symbol) (λ t. t.symbol < 1000) (λ t p. few t.symbol p) f.terms h

all_few : (P : ℕ → Type 0) → AreFew P → (fs : List Form) → AreOnly P fs → AreOver fs
all_few P few fs h = all_weaker (Only P) (λ f. AreBelow 1000 f.terms) (over_few P few) fs h

pub steps_numbered : (P : ℕ → Type 0) → AreFew P → (n m : ℕ) (ss : List Step) (inner : Statements) → Rises n ss m → m ≤ 256 → AreSteps 4 ss → AllByRecursion StepIs ss → StepsOver P ss →
    Numbered (block_lines inner) → Numbered (block_lines (lines_to ss inner))
steps_numbered P few n m [] inner rises le good limited over h = h
steps_numbered P few n m (Turns i x kind ∷ ss) inner rises le good limited over h =
    let is = rises.0 in
    let many = rises_to (n + 1) m ss rises.1 in
    let low = good.0.1 in
    let some = good.0.2 in
    let most = good.0.3 in
    let rest = steps_numbered (With P i) below (n + 1) m ss inner rises.1 le good.1 limited.1 over.1 h in
    let symbol : nat_lt i (2 ^ 63) ≡ true = less i (2 ^ 63) (omega (arith, is, many, le)) in
    let text : IsTextSpan x = record { rises = good.0.0; lower_some = omega (arith, low); lower_few = omega (arith, low); upper_some = some; upper_few = most } in
    let fits = span_fits x text limited.0 (all_few (Here (With P i) ss) near x.lower over.0.0, all_few (Here (With P i) ss) near x.upper over.0.1) in
    let lines : List Line = block_lines (lines_to ss inner) in
    let here : Numbered (ForLine i x kind ∷ (lines ++ EndLine ∷ [])) = both _ _ (both _ _ symbol fits) (joined lines (EndLine ∷ []) rest refl) in
    joined (ForLine i x kind ∷ (lines ++ EndLine ∷ [])) [] here refl
  where
    below : AreFew (With P i)
    below s (inl p) = few s p
    below s (inr e) = (let is = rises.0 in let many = rises_to (n + 1) m ss rises.1 in omega (arith, e, is, many, le))

    near : AreFew (Here (With P i) ss)
    near s (inl p) = below s p
    near s (inr b) = (let bound = binds_under (n + 1) m ss s rises.1 b in omega (arith, bound, le))
steps_numbered P few n m (Named i pick fs ∷ ss) inner rises le good limited over h =
    let is = rises.0 in
    let many = rises_to (n + 1) m ss rises.1 in
    let two = good.0.1 in
    let rest = steps_numbered (With P i) below (n + 1) m ss inner rises.1 le good.1 limited.1 over.1 h in
    let symbol : nat_lt i (2 ^ 63) ≡ true = less i (2 ^ 63) (omega (arith, is, many, le)) in
    let forms = forms_fit fs (omega (arith, two)) (omega (arith, two)) good.0.0 limited.0.0 (all_few P few fs over.0) in
    both _ _ (both _ _ symbol forms) rest
  where
    below : AreFew (With P i)
    below s (inl p) = few s p
    below s (inr e) = (let is = rises.0 in let many = rises_to (n + 1) m ss rises.1 in omega (arith, e, is, many, le))
steps_numbered P few n m (Tested low high ∷ ss) inner rises le good limited over h =
    let rest = steps_numbered P few n m ss inner rises le good.1 limited.1 over.2 h in
    let lines : List Line = block_lines (lines_to ss inner) in
    let first = form_fits low good.0.0 limited.0.0 (over_few P few low over.0) in
    let second = form_fits high good.0.1 limited.0.1 (over_few P few high over.1) in
    let here : Numbered (GuardLine low high ∷ (lines ++ EndLine ∷ [])) = both _ _ (both _ _ first second) (joined lines (EndLine ∷ []) rest refl) in
    joined (GuardLine low high ∷ (lines ++ EndLine ∷ [])) [] here refl

abbrev pub FitsIf : Option Form → Type 0
FitsIf None = Unit {0}
FitsIf (Some f) = fits_form f ≡ true

index_fits : (ms : Loads) (o : Option Form) (a : Option Term) (i : Index) → IsIndex ms o a i → FitsIf o → (elim i [ At form ↦ fits_form form | Found e ↦ true ]) ≡ true
index_fits ms (Some f) a (At g) h k = ap fits_form h ∙ k
index_fits ms (Some f) a (Found e) h k = absurd h
index_fits ms None a (At g) h k = absurd h
index_fits ms None a (Found e) h k = refl

coordinates_fit : (ms : Loads) (xs : List (List ℕ)) (os : List (Option Form)) (lefts : List (Option Term)) (cs : List Coordinate) → AreCoordinates ms xs os lefts cs → AllByRecursion FitsIf os →
    list_all has_index_numbers cs ≡ true
coordinates_fit ms xs [] lefts [] h k = refl
coordinates_fit ms xs [] lefts (c ∷ cs) h k = absurd h
coordinates_fit ms [] (o ∷ os) lefts cs h k = absurd h
coordinates_fit ms (x ∷ xs) (o ∷ os) lefts [] h k = absurd h
coordinates_fit ms (x ∷ xs) (o ∷ os) lefts (c ∷ cs) h k = both _ _ (index_fits ms o (first_left lefts) c.index h.1 k.0) (coordinates_fit ms xs os (other_lefts lefts) cs h.2 k.1)

stored_there : {P : FormulaText → Type 0} (o : Option FormulaText) → IsSomeAnd o P → (x : FormulaText) × (o ≡ Some x) × P x
stored_there None h = absurd h
stored_there (Some x) h = (x, refl, h)

pub store_numbered : (u : StoredText) (fs : List FormulaText) (ms : Loads) (d : ℕ) (w : NestText) (s : Statement) → IsStore u fs ms d w s → d < 1000 → AllByRecursion FitsIf w.at →
    Numbered (statement_lines s)
store_numbered u fs ms d w (Store b k cs e) h few forms =
    let f = stored_there (slice_get fs d) h.2 in
    let buffer : nat_lt b (2 ^ 63) ≡ true = ap (λ (m : ℕ). nat_lt m (2 ^ 63)) h.0 in
    let number : nat_lt k (2 ^ 63) ≡ true = ap (λ (m : ℕ). nat_lt m (2 ^ 63)) h.1 ∙ less d (2 ^ 63) (omega (arith, few)) in
    both _ _ (both _ _ (both _ _ buffer number) (coordinates_fit ms _ w.at f.0.at cs f.2.at forms)) refl
store_numbered u fs ms d w (Seq xs) h few forms = absurd h
store_numbered u fs ms d w (For i x kind body) h few forms = absurd h
store_numbered u fs ms d w (Let i pick fs') h few forms = absurd h
store_numbered u fs ms d w (First i x y) h few forms = absurd h
store_numbered u fs ms d w (Guard low high body) h few forms = absurd h
store_numbered u fs ms d w (Alloc b x seats) h few forms = absurd h
store_numbered u fs ms d w (Fetch b x region) h few forms = absurd h
store_numbered u fs ms d w (Publish x) h few forms = absurd h

-- ---- buffers

pub places_fit : (ps : List Places) → AllByRecursion IsGoodPlace ps → AllByRecursion PlaceLimited ps → list_all fits_place ps ≡ true
places_fit [] h k = refl
places_fit (From f n ∷ ps) h k =
    let count = h.0.1 in
    both _ _ (both _ _ (form_fits f h.0.0.0 k.0 h.0.0.1) (less n (2 ^ 63) (omega (arith, count)))) (places_fit ps h.1 k.1)
places_fit (Folded n ∷ ps) h k = absurd h.0

-- what is fetched, and where it is put
pub record IsNumbered (f : FetchText) : Type 0 where
  pub buffer : f.buffer < 1000
  pub group : f.group < 1000
  pub region : fits_region f.region ≡ true
  pub places : list_all fits_place f.places ≡ true

pub fetches_numbered : (fs : List FetchText) (xs : List Statement) → AllByRecursion IsNumbered fs → Numbered (block_lines (block xs)) → Numbered (block_lines (block (with_fetches fs xs)))
fetches_numbered [] xs h k = k
fetches_numbered (f ∷ fs) xs h k =
    let rest = fetches_numbered fs xs h.1 k in
    let b = h.0.buffer in
    let g = h.0.group in
    let buffer : nat_lt f.buffer (2 ^ 63) ≡ true = less f.buffer (2 ^ 63) (omega (arith, b)) in
    let group : nat_lt f.group (2 ^ 63) ≡ true = less f.group (2 ^ 63) (omega (arith, g)) in
    both _ _ (both _ _ buffer h.0.places) (both _ _ (both _ _ (both _ _ buffer group) h.0.region) rest)

-- ---- nests one behind another

-- coordinates' forms within the limits, canonical and of few symbols
forms_fit_if : (P : ℕ → Type 0) → ((s : ℕ) → P s → s < 1000) → (os : List (Option Form)) → AllByRecursion LimitedIf os → AllByRecursion RisesIf os → AllByRecursion (OnlyIf P) os →
    AllByRecursion FitsIf os
forms_fit_if P few [] h k q = tt
forms_fit_if P few (None ∷ os) h k q = (tt, forms_fit_if P few os h.1 k.1 q.1)
forms_fit_if P few (Some f ∷ os) h k q =
    (form_fits f k.0 h.0 (all_weaker (λ t. P t.symbol) (λ t. t.symbol < 1000) (λ t p. few t.symbol p) f.terms q.0), forms_fit_if P few os h.1 k.1 q.1)

pub over_below : (k : SkeletonText) → length k.grid ≤ 10 → (next : ℕ) → Rises (length k.grid) k.head next → next ≤ 256 → (s : ℕ) → OverGrid k s → s < 1000
over_below k few next rises le s (inl h) = omega (arith, few, h)
over_below k few next rises le s (inr h) = (let under = binds_under (length k.grid) next k.head s rises h in omega (arith, under, le))

pub nest_forms : (P : ℕ → Type 0) → ((s : ℕ) → P s → s < 1000) → (next to : ℕ) (w : NestText) → Rises next w.steps to → to ≤ 256 → AllByRecursion LimitedIf w.at → AllByRecursion RisesIf w.at →
    AllByRecursion (OnlyIf (Here P w.steps)) w.at → AllByRecursion FitsIf w.at
nest_forms P few next to w rises under limited good only = forms_fit_if (Here P w.steps) below w.at limited good only
  where
    below : (s : ℕ) → Here P w.steps s → s < 1000
    below s (inl h) = few s h
    below s (inr h) = (let bound = binds_under next to w.steps s rises h in omega (arith, bound, under))

pub lines_both : (xs ys : List Statement) → block_lines (block (xs ++ ys)) ≡ block_lines (block xs) ++ block_lines (block ys)
lines_both [] ys = refl
lines_both (x ∷ xs) ys = ap (λ (ls : List Line). statement_lines x ++ ls) (lines_both xs ys) ∙ sym (append_assoc (statement_lines x) (block_lines (block xs)) (block_lines (block ys)))

pub nests_numbered : (P : ℕ → Type 0) → ((s : ℕ) → P s → s < 1000) → (next : ℕ) (ns : List NestText) → NestsRise next ns → AllByRecursion IsShortNest ns → next + 27 * length ns ≤ 256 →
    AllByRecursion (λ w. AllByRecursion StepIs w.steps) ns → ((i : ℕ) (w : NestText) → slice_get ns i ≡ Some w → StepsOver P w.steps) → AllByRecursion (λ w. AllByRecursion FitsIf w.at) ns →
    (u : StoredText) (fs : List FormulaText) (r : List Span1) (ms : Loads) (c line d : ℕ) (xs : List Statement) (cs : List CodeClaim) → d + length ns ≤ 1000 →
    AreNests u fs r ms c line d ns xs cs → Numbered (block_lines (block xs))
nests_numbered P low next [] rises short le steps over forms u fs r ms c line d xs cs few h = subst (λ (ys : List Statement). Numbered (block_lines (block ys))) (sym h.0) refl
nests_numbered P low next (w ∷ ns) rises short le steps over forms u fs r ms c line d xs [] few h = absurd h
nests_numbered P low next (w ∷ ns) rises short le steps over forms u fs r ms c line d xs (claim ∷ cs) few h =
    let nest = h.here.nest in
    let to = rises.0 in
    let is = rises_to next to w.steps rises.1 in
    let symbols = short.0.few_symbols in
    let rest = nests_numbered P low to ns rises.2 short.1 (omega (arith, is, symbols, le)) steps.1 (λ i v at. over (suc i) v at) forms.1 u fs r (ms ++ (u.subject.name, c) ∷ []) (c + 1)
    (line + plain_lines (block h.first)) (d + 1) h.others cs (omega (arith, few)) h.behind in
    let store = store_numbered u fs ms d w nest.store nest.stores (omega (arith, few)) forms.0 in
    let inner : Numbered (block_lines (Then nest.store Empty)) = joined (statement_lines nest.store) [] store refl in
    let lines : Numbered (block_lines (lines_to w.steps (Then nest.store Empty))) =
    steps_numbered P low next to w.steps (Then nest.store Empty) rises.1 (omega (arith, is, symbols, le)) short.0.steps steps.0 (over 0 w refl) inner in
    let first : Numbered (block_lines (block h.first)) = subst (λ (y : Statements). Numbered (block_lines y)) (sym nest.comes) lines in
    let all : Numbered (block_lines (block (h.first ++ h.others))) =
    subst Numbered (sym (lines_both h.first h.others)) (joined (block_lines (block h.first)) (block_lines (block h.others)) first rest) in
    subst (λ (ys : List Statement). Numbered (block_lines (block ys))) (sym h.are) all
