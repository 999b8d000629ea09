-- Plans with greater folds: what they share with the plan before, and that they stay accepted.
use Rattle.std.proofs.Common.{◌≡◌, ℕ, zero, suc, ◌+◌, ◌-◌, Bool, true, false, List, [], ◌∷◌, ◌++◌, map, take, length, Option, Some, None, refl, sym, ap, ◌∙◌, subst, arith}
use Rattle.std.specs.Prelude.{◌≤◌, ◌<◌, ◌^◌, ◌==◌, ◌&&◌, ◌||◌, not, nat_le, nat_lt, if◌then◌else◌, slice_get}
use Rattle.std.specs.List.{list_any, list_all}
use Rattle.std.proofs.lemmas.Bool.{lt-ltb, le-ltb, eqb-true}
use Rattle.lin.specs.Forms.{Form}
use Rattle.meaning.specs.Algorithm.{Algorithm}
use Rattle.plan.specs.declared.certificate.cert.Window.{Window}
use Rattle.plan.specs.declared.stmt.Places.{Places}
use Rattle.plan.specs.declared.stmt.Places.TheVariants.{From, Folded}
use Rattle.plan.specs.Lines.{lines, group_lines, groups_lines, group_line, body_line, certificate_line}
use Rattle.plan.specs.Plan.{Statement, Seq, For, Let, First, Guard, Alloc, Fetch, Store, Publish, Statements, Empty, Then, Group, Plan}
use Rattle.plan.specs.Certificate.Certificate.{Claim, Certificate}
use Rattle.plan.specs.Certificate.Lines.{claim_line, window_line}
use Rattle.plan.specs.Certificate.Cells.{Piece, cell, cells, pieces, own_points, own_region}
use Rattle.plan.specs.Semantics.Run.{source_of}
use Rattle.plan.specs.Semantics.Setting.{Buffer, allocated, block_allocated, dimensions_in, function_in, group_name, or_else}
use Rattle.soundness.specs.Given.{outline_of, claim_or_none, function_named, named_from}
use Rattle.soundness.specs.Origins.{Outline}
use Rattle.soundness.specs.Obligations.{Binder, Ranged, Passed, Rules, first_window, is_member, obligations}
use Rattle.soundness.specs.Shown.{all_shown, start}
use Rattle.soundness.specs.Binders.View.{grid_binders, grid_span}
use Rattle.soundness.specs.Nests.Laws.{domains_of}
use Rattle.soundness.specs.Outline.Flaws.{Flaw}
use Rattle.soundness.specs.Outline.Kept.{is_alone_in, keeps, some_keep}
use Rattle.soundness.proofs.OfOutline.Named.{is_at, is_named}
use Rattle.tails.specs.Windows.Nests.{slid_nests}
use Rattle.tails.specs.Windows.Shown.{IsShown}
use Rattle.headline.specs.Numbers.{cell_number, is_cell}
use Rattle.headline.specs.Theorem.{HasSoundCells}
use Rattle.headline.specs.Work.{group_own, of_piece, work_of}
use Rattle.orders.specs.Work.{HasSoundLists}
use Rattle.rules.specs.Bounding.Called.{update_count}
use Rattle.rules.specs.Bounding.Rules.{rules_of, known_interval, or_nowhere}
use Rattle.rules.specs.Bounding.Scopes.{shown_at_most}
use Rattle.rules.specs.Widths.Widths.{are_near_places, binders_after, block_store_lines, block_wide_lines, has_few_turns, is_near_form, is_near_span, line_unless, or_line, store_lines, wide_lines}
use Rattle.shares.specs.Has.{HasShares}
use Rattle.shares.specs.Layout.{fetched_list, needs_list}
use Rattle.validation.specs.Certificate.Certificate as C
use Rattle.validation.specs.Certificate.Placing as P
use Rattle.validation.specs.Certificate.Lines.{each_line, window_line_flaws}
use Rattle.validation.specs.Groups.Lines.{flaws_of_groups}
use Rattle.audit.specs.Verdict.Accepted.{IsAccepted}
use Rattle.audit.specs.Verdict.Folds.{is_near_binder, risen, place_raised, places_raised, raised, block_raised, group_raised, groups_raised, plan_raised, group_with, window_more, window_raised}
use Rattle.audit.specs.Verdict.Folds.{certificate_raised, RaisedHaveTheSame, is_small_form, span_passes, Rises}
use Rattle.audit.specs.Verdict.Raised.{HasFolds, HasForms, HasSmallForms, RaisedStayShown, RaisedAreAccepted}
use Rattle.audit.proofs.OfVerdict.OfFolds.Tests.{both, and_parts}
use Rattle.audit.proofs.OfVerdict.OfFolds.Small.{small_forms_rise}
use Rattle.audit.proofs.OfVerdict.OfFolds.Owed.{lines_same, shown_more}
use Rattle.audit.proofs.OfVerdict.OfFolds.Leveled.{flat, level, leveled, block_leveled, group_leveled, plan_leveled, cells_same, pieces_same, groups_lines_same, all_lines_same}
use Rattle.audit.proofs.OfVerdict.OfFolds.Leveled.{certificate_same, shares_on, shares_back, cell_same, rules_same}

-- ---- the same but for folds

flat_same : (k : ℕ) (x : Places) → flat (place_raised k x) ≡ flat x
flat_same k (From l n) = refl
flat_same k (Folded n) = refl

flats_same : (more : ℕ → ℕ) (xs : List Places) → map flat (places_raised more xs) ≡ map flat xs
flats_same more [] = refl
flats_same more (x ∷ xs) = λ j. flat_same (more zero) x j ∷ flats_same (λ d. more (suc d)) xs j

mutual
  level_same : (more : ℕ → ℕ → ℕ) (a : Statement) → leveled (raised more a) ≡ leveled a
  level_same more (Seq all) = λ j. Seq (block_level_same more all j)
  level_same more (For i x kind body) = λ j. For i x kind (level_same more body j)
  level_same more (Let i pick forms) = refl
  level_same more (First i a b) = λ j. First i (level_same more a j) (level_same more b j)
  level_same more (Guard low high body) = λ j. Guard low high (level_same more body j)
  level_same more (Alloc b f places) = λ j. Alloc b f (flats_same (more b) places j)
  level_same more (Fetch b g region) = refl
  level_same more (Store b k at e) = refl
  level_same more (Publish c) = refl

  block_level_same : (more : ℕ → ℕ → ℕ) (all : Statements) → block_leveled (block_raised more all) ≡ block_leveled all
  block_level_same more Empty = refl
  block_level_same more (Then a rest) = λ j. Then (level_same more a j) (block_level_same more rest j)

groups_level_same : (more : ℕ → ℕ → ℕ → ℕ) (gs : List Group) → map group_leveled (groups_raised more gs) ≡ map group_leveled gs
groups_level_same more [] = refl
groups_level_same more (g ∷ gs) =
    λ j. record { function = g.function; region = g.region; grid = g.grid; body = level_same (more zero) g.body j } ∷ groups_level_same (λ n. more (suc n)) gs j

plan_level_same : (more : ℕ → ℕ → ℕ → ℕ) (p : Plan) → plan_leveled (plan_raised more p) ≡ plan_leveled p
plan_level_same more p = λ j. record { name = p.name; input = p.input; output = p.output; groups = groups_level_same more p.groups j }

-- what does not look at folds is the same of both plans
stays : {A : Type 0} (f : Plan → A) → ((p : Plan) → f p ≡ f (plan_leveled p)) → (more : ℕ → ℕ → ℕ → ℕ) (p : Plan) → f p ≡ f (plan_raised more p)
stays f same more p = same p ∙ ap f (sym (plan_level_same more p)) ∙ sym (same (plan_raised more p))

lines_stay : (more : ℕ → ℕ → ℕ → ℕ) (p : Plan) (n : ℕ) → group_line p n ≡ group_line (plan_raised more p) n
lines_stay more p n = stays (λ q. group_line q n) (λ q j. groups_lines_same n q.groups j + 4) more p

cert_stays : (more : ℕ → ℕ → ℕ → ℕ) (p : Plan) → certificate_line p ≡ certificate_line (plan_raised more p)
cert_stays more p = stays certificate_line (λ q j. all_lines_same q.groups j + 4) more p

pub raised_have_the_same : RaisedHaveTheSame
raised_have_the_same p c q d e = record {
  cells = stays cells (λ r. cells_same 0 r.groups) e.more p ∙ ap cells e.plan;
  pieces = stays pieces (λ r. pieces_same 0 r.groups) e.more p ∙ ap pieces e.plan;
  lines = λ n. lines_stay e.more p n ∙ ap (λ (r : Plan). group_line r n) e.plan;
  certificate = cert_stays e.more p ∙ ap certificate_line e.plan;
}

-- ---- groups by their numbers

at_raised : (more : ℕ → ℕ → ℕ → ℕ) (gs : List Group) (n : ℕ) (g : Group) → slice_get gs n ≡ Some g → slice_get (groups_raised more gs) n ≡ Some (group_raised (more n) g)
at_raised more [] n g at = absurd (cc at)
at_raised more (x ∷ xs) zero g at = let same : x ≡ g = cc at in ap (λ (y : Group). Some (group_raised (more zero) y)) same
at_raised more (x ∷ xs) (suc n) g at = at_raised (λ m. more (suc m)) xs n g at

raised_back : (more : ℕ → ℕ → ℕ → ℕ) (gs : List Group) (n : ℕ) (h : Group) → slice_get (groups_raised more gs) n ≡ Some h → (g : Group) × (slice_get gs n ≡ Some g) × (group_raised (more n) g ≡ h)
raised_back more [] n h at = absurd (cc at)
raised_back more (g ∷ gs) zero h at = (g, refl, cc at)
raised_back more (g ∷ gs) (suc n) h at = raised_back (λ m. more (suc m)) gs n h at

name_same : (more : ℕ → ℕ → ℕ → ℕ) (gs : List Group) (n : ℕ) → group_name (slice_get gs n) ≡ group_name (slice_get (groups_raised more gs) n)
name_same more [] n = refl
name_same more (g ∷ gs) zero = refl
name_same more (g ∷ gs) (suc n) = name_same (λ m. more (suc m)) gs n

-- the group that has a line of the group of this number
group_at : (gs : List Group) (n : ℕ) (g : Group) (k : ℕ) → slice_get gs n ≡ Some g → groups_lines (take n gs) ≤ k → k ≤ groups_lines (take n gs) + lines g.body → group_with gs k ≡ n
group_at [] n g k at from to = absurd (cc at)
group_at (x ∷ xs) zero g k at from to =
    let same : x ≡ g = cc at in
    ap (λ v. if v then zero else suc (group_with xs (k - group_lines x))) (lt-ltb k (lines x.body + 1) (fits (subst (λ (y : Group). k ≤ 0 + lines y.body) (sym same) to)))
  where
    fits : k ≤ 0 + lines x.body → k < lines x.body + 1
    fits h = omega (arith, h)
group_at (x ∷ xs) (suc n) g k at from to =
    ap (λ v. if v then zero else suc (group_with xs (k - group_lines x))) (le-ltb k (lines x.body + 1) (omega (arith, from)))
    ∙ ap suc (group_at xs n g (k - group_lines x) at (omega (arith, from)) (omega (arith, to)))

-- ---- what a group's lines refer to

abbrev buffer_raised : (ℕ → ℕ) → Option Buffer → Option Buffer
buffer_raised more None = None
buffer_raised more (Some x) = Some (record { function = x.function; places = places_raised more x.places })

else_raised : (more : ℕ → ℕ) (x y : Option Buffer) → buffer_raised more (or_else x y) ≡ or_else (buffer_raised more x) (buffer_raised more y)
else_raised more None y = refl
else_raised more (Some x) y = refl

if_raised : (more : ℕ → ℕ → ℕ) (b c : ℕ) (f : List ℕ) (places : List Places) (v : Bool) → (v ≡ true → c ≡ b) →
    buffer_raised (more b) (if v then Some (record { function = f; places = places }) else None) ≡ (if v then Some (record { function = f; places = places_raised (more c) places }) else None)
if_raised more b c f places true same = λ j. Some (record { function = f; places = places_raised (more (sym (same refl) j)) places })
if_raised more b c f places false same = refl

mutual
  allocated_same : (more : ℕ → ℕ → ℕ) (a : Statement) (b : ℕ) → buffer_raised (more b) (allocated a b) ≡ allocated (raised more a) b
  allocated_same more (Seq all) b = block_allocated_same more all b
  allocated_same more (For i x kind body) b = allocated_same more body b
  allocated_same more (Let i pick forms) b = refl
  allocated_same more (First i a c) b = else_raised (more b) (allocated a b) (allocated c b) ∙ (λ j. or_else (allocated_same more a b j) (allocated_same more c b j))
  allocated_same more (Guard low high body) b = allocated_same more body b
  allocated_same more (Alloc c f places) b = if_raised more b c f places (c == b) (λ e. eqb-true c b e)
  allocated_same more (Fetch c g region) b = refl
  allocated_same more (Store c k at e) b = refl
  allocated_same more (Publish c) b = refl

  block_allocated_same : (more : ℕ → ℕ → ℕ) (all : Statements) (b : ℕ) → buffer_raised (more b) (block_allocated all b) ≡ block_allocated (block_raised more all) b
  block_allocated_same more Empty b = refl
  block_allocated_same more (Then a rest) b =
      else_raised (more b) (allocated a b) (block_allocated rest b) ∙ (λ j. or_else (allocated_same more a b j) (block_allocated_same more rest b j))

function_same : (more : ℕ → ℕ) (o : Option Buffer) → function_in o ≡ function_in (buffer_raised more o)
function_same more None = refl
function_same more (Some x) = refl

length_same : (more : ℕ → ℕ) (xs : List Places) → length xs ≡ length (places_raised more xs)
length_same more [] = refl
length_same more (x ∷ xs) = λ j. suc (length_same (λ d. more (suc d)) xs j)

dimensions_same : (more : ℕ → ℕ) (o : Option Buffer) → dimensions_in o ≡ dimensions_in (buffer_raised more o)
dimensions_same more None = refl
dimensions_same more (Some x) = length_same more x.places

module _ (more : ℕ → ℕ → ℕ → ℕ) (p : Plan) (c : Certificate) where
  abbrev more_plan : Plan
  more_plan = plan_raised more p

  abbrev more_cert : Certificate
  more_cert = certificate_raised more p c

  abbrev wider : Outline → Outline
  wider o = record { setting = o.setting; source = o.source; claim = o.claim; named = o.named; windows = map (window_raised (window_more more p c)) o.windows }

  outline_same : (n : ℕ) (g : Group) → wider (outline_of p c n g) ≡ outline_of more_plan more_cert n (group_raised (more n) g)
  outline_same n g = λ j. record {
    setting = record {
      group_function = λ h. name_same more p.groups h j;
      buffer_function = λ b. (function_same (more n b) (allocated g.body b) ∙ ap function_in (allocated_same (more n) g.body b)) j;
      dimensions = λ b. (dimensions_same (more n b) (allocated g.body b) ∙ ap dimensions_in (allocated_same (more n) g.body b)) j;
      own = λ s. own_points g c n s;
    };
    source = source_of p.input.name (length c.claims);
    claim = λ k. claim_or_none (slice_get c.claims k);
    named = named_from 0 c.claims;
    windows = map (window_raised (window_more more p c)) c.windows;
  }

  -- a claim of a group's line has its windows there
  line_of : (o : Option Claim) (l : ℕ) → is_at o l ≡ true → (claim_or_none o).line ≡ l
  line_of None l h = absurd (cc h)
  line_of (Some k) l h = eqb-true k.line l h

  fits_there : (n : ℕ) (g : Group) → slice_get p.groups n ≡ Some g → (l : ℕ) → body_line p n ≤ l + 1 → l ≤ body_line p n + lines g.body - 1 → (w : Window) →
      is_member w.claim (named_from 0 c.claims l) ≡ true → window_more more p c w ≡ more n (claim_or_none (slice_get c.claims w.claim)).buffer w.dimension
  fits_there n g at l from to w m =
      let claim = claim_or_none (slice_get c.claims w.claim) in
      let line : claim.line ≡ l = line_of (slice_get c.claims w.claim) l (sym (is_named w.claim c.claims l) ∙ m) in
      ap (λ v. more v claim.buffer w.dimension) (ap (λ v. group_with p.groups (v - 4)) line ∙ group_at p.groups n g (l - 4) at (omega (arith, from)) (omega (arith, from, to)))

  regions_pass : (test : Form → Bool) (ks : List Claim) (k : ℕ) → list_all (λ (k : Claim). list_all (span_passes test) k.region) ks ≡ true →
      list_all (span_passes test) (claim_or_none (slice_get ks k)).region ≡ true
  regions_pass test [] k h = refl
  regions_pass test (x ∷ xs) zero h = (and_parts (list_all (span_passes test) x.region) (list_all (λ (k : Claim). list_all (span_passes test) k.region) xs) h).0
  regions_pass test (x ∷ xs) (suc k) h = regions_pass test xs k (and_parts (list_all (span_passes test) x.region) (list_all (λ (k : Claim). list_all (span_passes test) k.region) xs) h).1

  windows_good : (limit : ℕ) (test : Form → Bool) (by : Window → ℕ) (ws : List Window) → list_all (λ (w : Window). span_passes test w.span) ws ≡ true →
      list_all (λ (w : Window). nat_le w.fold limit) (map (window_raised by) ws) ≡ true → list_all (λ (w : Window). span_passes test w.span && nat_le (risen (by w) w.fold) limit) ws ≡ true
  windows_good limit test by [] f h = refl
  windows_good limit test by (w ∷ ws) f h =
      let spans = and_parts (span_passes test w.span) (list_all (λ (w : Window). span_passes test w.span) ws) f in
      let folds = and_parts (nat_le (risen (by w) w.fold) limit) (list_all (λ (w : Window). nat_le w.fold limit) (map (window_raised by) ws)) h in
      both (span_passes test w.span && nat_le (risen (by w) w.fold) limit) (list_all (λ (w : Window). span_passes test w.span && nat_le (risen (by w) w.fold) limit) ws)
      (both (span_passes test w.span) (nat_le (risen (by w) w.fold) limit) spans.0 folds.0) (windows_good limit test by ws spans.1 folds.1)

  shown_there : (a : Algorithm) (rules : Rules) (limit : ℕ) (pass : Binder → Bool) (test : Form → Bool) (n : ℕ) (g : Group) → slice_get p.groups n ≡ Some g →
      Rises limit pass test rules → HasForms pass test c g →
      HasFolds limit more_cert (group_raised (more n) g) → IsShown rules a p c n g →
      IsShown rules a more_plan more_cert n (group_raised (more n) g)
  shown_there a rules limit pass test n g at rises forms folds h =
      let parts = and_parts (list_all (λ (k : Claim). list_all (span_passes test) k.region) c.claims) (list_all (λ (w : Window). span_passes test w.span) c.windows) forms.certificate in
      let known = start (grid_binders g.grid) in
      let shown = shown_more limit pass test rules rises (outline_of p c n g) (domains_of a) (more n) (window_more more p c)
      (windows_good limit test (window_more more p c) c.windows parts.1 folds.windows) (λ k. regions_pass test c.claims k parts.0) g.body (body_line p n) known
      forms.grid refl forms.body folds.body (fits_there n g at) h in
      (λ j. all_shown rules (slid_nests (sym (outline_same n g) j) rules (domains_of a)) (obligations (sym (outline_same n g) j) rules (raised (more n) g.body) (sym
      (lines_stay more p n) j + 1) known)) ∙ shown

pub raised_stay_shown : RaisedStayShown
raised_stay_shown a p c q d rules limit pass test n g h e here there rises forms folds shown =
    let at = at_raised e.more p.groups n g here in
    let same : group_raised (e.more n) g ≡ h = some_same (sym at ∙ ap (λ (r : Plan). slice_get r.groups n) e.plan ∙ there) in
    subst (λ (x : Group). IsShown rules a q d n x) same
    (subst (λ (r : Plan). IsShown rules a r d n (group_raised (e.more n) g)) e.plan
    (subst (λ (k : Certificate). IsShown rules a (plan_raised e.more p) k n (group_raised (e.more n) g)) e.certificate
    (shown_there e.more p c a rules limit pass test n g here rises forms
    (subst (λ (k : Certificate). HasFolds limit k (group_raised (e.more n) g)) (sym e.certificate) (subst (λ (x : Group). HasFolds limit d x) (sym same) folds)) shown)))
  where
    some_same : {x y : Group} → Some x ≡ Some y → x ≡ y
    some_same f = cc f

-- ---- widths

mutual
  store_lines_same : (line : ℕ) (a : Statement) → store_lines line a ≡ store_lines line (leveled a)
  store_lines_same line (Seq all) = block_store_lines_same line all
  store_lines_same line (For i x kind body) = store_lines_same (line + 1) body
  store_lines_same line (Let i pick forms) = refl
  store_lines_same line (First i a b) =
      let second = store_lines_same (line + 2 + lines a) b ∙ (λ j. store_lines (line + 2 + lines_same level a j) (leveled b)) in
      λ j. store_lines_same (line + 1) a j ++ second j
  store_lines_same line (Guard low high body) = store_lines_same (line + 1) body
  store_lines_same line (Alloc b f places) = refl
  store_lines_same line (Fetch b g region) = refl
  store_lines_same line (Store b k at e) = refl
  store_lines_same line (Publish c) = refl

  block_store_lines_same : (line : ℕ) (all : Statements) → block_store_lines line all ≡ block_store_lines line (block_leveled all)
  block_store_lines_same line Empty = refl
  block_store_lines_same line (Then a rest) =
      let onward = block_store_lines_same (line + lines a) rest ∙ (λ j. block_store_lines (line + lines_same level a j) (block_leveled rest)) in
      λ j. store_lines_same line a j ++ onward j

module _ (rules : Rules) where
  near_same : (bs : List Binder) (xs : List Places) → list_all (are_near_places rules bs) xs ≡ list_all (are_near_places rules bs) (map flat xs)
  near_same bs [] = refl
  near_same bs (From l n ∷ xs) = λ j. is_near_form rules bs l && near_same bs xs j
  near_same bs (Folded n ∷ xs) = near_same bs xs

  binders_same : (a : Statement) (bs : List Binder) → binders_after a bs ≡ binders_after (leveled a) bs
  binders_same (Seq all) bs = refl
  binders_same (For i x kind body) bs = refl
  binders_same (Let i pick forms) bs = refl
  binders_same (First i a b) bs = refl
  binders_same (Guard low high body) bs = refl
  binders_same (Alloc b f places) bs = refl
  binders_same (Fetch b g region) bs = refl
  binders_same (Store b k at e) bs = refl
  binders_same (Publish c) bs = refl

  mutual
    wide_same : (bs : List Binder) (line : ℕ) (a : Statement) → wide_lines rules bs line a ≡ wide_lines rules bs line (leveled a)
    wide_same bs line (Seq all) = block_wide_same bs line all
    wide_same bs line (For i x kind body) =
        λ j. if is_near_span rules bs x then line_unless (has_few_turns rules bs x kind) line ++ wide_same (Ranged i x ∷ bs) (line + 1) body j
        else or_line line (store_lines_same (line + 1) body j)
    wide_same bs line (Let i pick forms) = refl
    wide_same bs line (First i a b) =
        let second = wide_same bs (line + 2 + lines a) b ∙ (λ j. wide_lines rules bs (line + 2 + lines_same level a j) (leveled b)) in
        λ j. wide_same bs (line + 1) a j ++ second j
    wide_same bs line (Guard low high body) =
        λ j. if is_near_form rules bs low && is_near_form rules bs high then wide_same (Passed low high ∷ bs) (line + 1) body j
        else or_line line (store_lines_same (line + 1) body j)
    wide_same bs line (Alloc b f places) = λ j. line_unless (near_same bs places j) line
    wide_same bs line (Fetch b g region) = refl
    wide_same bs line (Store b k at e) = refl
    wide_same bs line (Publish c) = refl

    block_wide_same : (bs : List Binder) (line : ℕ) (all : Statements) → block_wide_lines rules bs line all ≡ block_wide_lines rules bs line (block_leveled all)
    block_wide_same bs line Empty = refl
    block_wide_same bs line (Then a rest) =
        let onward = block_wide_same (binders_after a bs) (line + lines a) rest ∙ (λ j. block_wide_lines rules (binders_same a bs j) (line + lines_same level a j) (block_leveled rest)) in
        λ j. wide_same bs line a j ++ onward j

-- ---- the certificate's windows

each_same : {A : Type 0} (f g : ℕ → A → List Flaw) (h : A → A) → ((i : ℕ) (x : A) → f i x ≡ g i (h x)) → (i : ℕ) (xs : List A) → each_line f i xs ≡ each_line g i (map h xs)
each_same f g h same i [] = refl
each_same f g h same i (x ∷ xs) = λ j. same i x j ++ each_same f g h same (i + 1) xs j

earlier_same : (by : Window → ℕ) (k i : ℕ) (ws : List Window) → list_any (λ (v : Window). v.claim == k) (take i ws) ≡ list_any (λ (v : Window). v.claim == k) (take i (map (window_raised by) ws))
earlier_same by k zero ws = refl
earlier_same by k (suc i) [] = refl
earlier_same by k (suc i) (w ∷ ws) = λ j. (w.claim == k) || earlier_same by k i ws j

first_same : (by : Window → ℕ) (ws : List Window) (k : ℕ) → first_window ws k ≡ first_window (map (window_raised by) ws) k
first_same by [] k = refl
first_same by (w ∷ ws) k = λ j. if w.claim == k then 0 else first_same by ws k j + 1

module _ (more : ℕ → ℕ → ℕ → ℕ) (a : Algorithm) (p : Plan) (c : Certificate) where
  abbrev later : Plan
  later = plan_raised more p

  abbrev later_cert : Certificate
  later_cert = certificate_raised more p c

  module _ (outline : Outline) (by : Window → ℕ) (ws : List Window) (w : Window) where
    abbrev others : Outline
    others = record { setting = outline.setting; source = outline.source; claim = outline.claim; named = outline.named; windows = ws }

    alone_same : (a : Statement) (line : ℕ) → is_alone_in outline w a line ≡ is_alone_in others (window_raised by w) a line
    alone_same (Seq row) line = refl
    alone_same (For i x kind body) line = refl
    alone_same (Let i pick forms) line = refl
    alone_same (First i a b) line = refl
    alone_same (Guard low high body) line = refl
    alone_same (Alloc b f places) line = refl
    alone_same (Fetch b g region) line = refl
    alone_same (Store b k at e) line = refl
    alone_same (Publish c) line = refl

    mutual
      keeps_same : (a : Statement) (line : ℕ) → keeps outline w a line ≡ keeps others (window_raised by w) a line
      keeps_same (Seq all) line = some_keep_same all line
      keeps_same (For i x kind body) line = λ j. ((i == w.symbol) && alone_same body (line + 1) j) || keeps_same body (line + 1) j
      keeps_same (Let i pick forms) line = refl
      keeps_same (First i a b) line = λ j. keeps_same a (line + 1) j || keeps_same b (line + 2 + lines a) j
      keeps_same (Guard low high body) line = keeps_same body (line + 1)
      keeps_same (Alloc b f places) line = refl
      keeps_same (Fetch b g region) line = refl
      keeps_same (Store b k at e) line = refl
      keeps_same (Publish c) line = refl

      some_keep_same : (all : Statements) (line : ℕ) → some_keep outline w all line ≡ some_keep others (window_raised by w) all line
      some_keep_same Empty line = refl
      some_keep_same (Then a rest) line = λ j. keeps_same a line j || some_keep_same rest (line + lines a) j

  groups_keep_same : (q : Plan) (w : Window) (n : ℕ) (gs : List Group) → C.groups_keep q c w n gs ≡ C.groups_keep q later_cert (window_raised (window_more more p c) w) n gs
  groups_keep_same q w n [] = refl
  groups_keep_same q w n (g ∷ gs) =
      λ j. keeps_same (outline_of q c n g) (window_more more p c) later_cert.windows w g.body (body_line q n) j || groups_keep_same q w (n + 1) gs j

  along_same : (by : Window → ℕ) (o : Option P.Place) (w : Window) → C.is_along o w ≡ C.is_along o (window_raised by w)
  along_same by None w = refl
  along_same by (Some x) w = refl

  known_same : (by : Window → ℕ) (gs : List Group) (o : Option Claim) (w : Window) → C.is_window_of gs o w ≡ C.is_window_of gs o (window_raised by w)
  known_same by gs None w = refl
  known_same by gs (Some k) w = ap (λ v. nat_lt w.dimension (length k.region) && v) (along_same by (P.place_at gs k.line) w)

  windows_same : (q : Plan) → C.flaws_of_certificate a q c ≡ C.flaws_of_certificate a q later_cert
  windows_same q =
      let each = each_same (C.window_flaws q c) (C.window_flaws q later_cert) (window_raised (window_more more p c))
      (λ i w j. window_line_flaws (known_same (window_more more p c) q.groups (slice_get c.claims w.claim) w j) (C.span_is_within_limits w.span)
      (not (earlier_same (window_more more p c) w.claim i c.windows j) && groups_keep_same q w 0 q.groups j) (C.has_ends w.span) (window_line c (certificate_line q) i)) 0 c.windows in
      λ j. C.flaws_of_regions q c ++ (each_line (C.claim_flaws a q c) 0 c.claims ++ each j)

  flaws_stay : C.flaws_of_certificate a p c ≡ C.flaws_of_certificate a later later_cert
  flaws_stay = stays (λ q. C.flaws_of_certificate a q c) (λ q. certificate_same a q c) more p ∙ windows_same later

  rules_stay : (n : ℕ) → rules_of a p c n ≡ rules_of a later later_cert n
  rules_stay n =
      stays (λ q. rules_of a q c n) (λ q. rules_same a q c n) more p
      ∙ (λ j. record {
        claim_line = claim_line c (certificate_line later);
        window_line = λ k. window_line c (certificate_line later) (first_same (window_more more p c) c.windows k j);
        last = λ f. update_count (function_named a.functions f);
        extents = map grid_span a.input_extents;
        own = or_nowhere (own_region c.own n);
        at_most = shown_at_most;
        interval = known_interval a later c;
      })

  own_same : (o : Option Group) (x : Piece) → group_own o c x ≡ group_own o later_cert x
  own_same None x = refl
  own_same (Some g) x = refl

  lists_same : (b : Algorithm) (q : Plan) (samples : List ℕ) → HasSoundCells (work_of b q c samples) ≡ HasSoundCells (work_of b q later_cert samples)
  lists_same b q samples =
      λ j. HasSoundLists (length (pieces q)) (length (cells q)) (λ n. of_piece (slice_get (pieces q) n) [] (λ x. map (cell_number q) (own_same (slice_get q.groups x.group) x j)))
      (fetched_list q) (needs_list q c)

  shares_stay : HasShares p c → HasShares later later_cert
  shares_stay h =
      let same = shares_back later c (subst (λ (q : Plan). HasShares q c) (sym (plan_level_same more p)) (shares_on p c h)) in
      record {
        near = same.near;
        inside = same.inside;
        cells = same.cells;
        pieces = same.pieces;
        lists = λ b samples. subst (λ (X : Type 0). X) (lists_same b later samples)
            (same.lists b samples);
        few = record { fetched = same.few.fetched; needed = same.few.needed };
      }

  accepted_on : IsAccepted a p c → HasSmallForms p c later later_cert → flaws_of_groups a later later_cert ≡ [] → IsAccepted a later later_cert
  accepted_on h small few = record {
    head = record { name = h.head.name; input = h.head.input; output = h.head.output };
    groups = few;
    widths = λ n x at.
        let g = raised_back more p.groups n x at in
        subst (λ (y : Group). wide_lines (rules_of a later later_cert n) (grid_binders y.grid) (body_line later n) y.body ≡ []) g.2
        ((λ j. wide_lines (sym (rules_stay n) j) (grid_binders g.0.grid) (sym (lines_stay more p n) j + 1) (raised (more n) g.0.body))
        ∙ (wide_same (rules_of a p c n) (grid_binders g.0.grid) (body_line p n) (raised (more n) g.0.body)
        ∙ ((λ j. wide_lines (rules_of a p c n) (grid_binders g.0.grid) (body_line p n) (level_same (more n) g.0.body j))
        ∙ (sym (wide_same (rules_of a p c n) (grid_binders g.0.grid) (body_line p n) g.0.body) ∙ h.widths n g.0 g.1))));
    shown = λ n x at.
        let g = raised_back more p.groups n x at in
        let given = small n g.0 (group_raised (more n) g.0) g.1 (at_raised more p.groups n g.0 g.1) in
        subst (λ (y : Group). IsShown (rules_of a later later_cert n) a later later_cert n y) g.2
        (subst (λ (r : Rules). IsShown r a later later_cert n (group_raised (more n) g.0)) (rules_stay n)
        (shown_there more p c a (rules_of a p c n) (2 ^ 22) (is_near_binder given.most) is_small_form n g.0 g.1 (small_forms_rise given.most given.little a p c n)
        given.forms given.folds (h.shown n g.0 g.1)));
    certificate = sym flaws_stay ∙ h.certificate;
    shares = shares_stay h.shares;
    output = record {
      number = h.output.number;
      group = group_raised (more h.output.number) h.output.group;
      stands = at_raised more p.groups h.output.number h.output.group h.output.stands;
      function = h.output.function;
      inside = λ at within. sym (stays (λ q. is_cell q (cell h.output.number at)) (λ q. cell_same q c (cell h.output.number at)) more p) ∙ h.output.inside at within;
    };
  }

pub raised_are_accepted : RaisedAreAccepted
raised_are_accepted a p c q d e h =
    subst (λ (r : Plan). HasSmallForms p c r d → flaws_of_groups a r d ≡ [] → IsAccepted a r d) e.plan
    (subst (λ (k : Certificate). HasSmallForms p c (plan_raised e.more p) k → flaws_of_groups a (plan_raised e.more p) k ≡ [] → IsAccepted a (plan_raised e.more p) k) e.certificate
    (accepted_on e.more a p c h))
