-- The tests of nests say the same of a statement where none of its loops is written out.
use Rattle.std.proofs.Common.{◌≡◌, ℕ, zero, suc, ◌+◌, Bool, true, false, List, [], ◌∷◌, ◌++◌, map, length, Option, Some, None, refl, sym, ap, ◌∙◌}
use Rattle.std.specs.Prelude.{◌==◌, ◌||◌, ◌&&◌, not, if◌then◌else◌, reverse, slice_get}
use Rattle.std.specs.List.{list_any, list_all}
use Rattle.std.specs.Option.{option_map, option_map_or}
use Rattle.lin.specs.Forms.{Form}
use Rattle.lin.specs.declared.span.Span1.{Span1}
use Rattle.meaning.specs.Algorithm.{Range}
use Rattle.meaning.specs.Names.{same_name}
use Rattle.plan.specs.declared.certificate.cert.Window.{Window}
use Rattle.plan.specs.declared.stmt.Places.{Places}
use Rattle.plan.specs.declared.stmt.Places.TheVariants.{From, Folded}
use Rattle.plan.specs.Plan.{Coordinate, Statement, Seq, For, Let, First, Guard, Alloc, Fetch, Store, Publish, Statements, Empty, Then}
use Rattle.plan.specs.Semantics.Actions.{Setting}
use Rattle.plan.specs.Certificate.Certificate.{Claim}
use Rattle.soundness.specs.Origins.{Outline}
use Rattle.soundness.specs.Claims.{changes, block_changes}
use Rattle.soundness.specs.Obligations.{Binder, Ranged, Picked, Passed, Rules, exactly, is_next}
use Rattle.soundness.specs.Shown.{are_seated, is_seated}
use Rattle.soundness.specs.Nests.Nest.{Nest, inside, is_let, is_symbol, nest_of, block_nest}
use Rattle.soundness.specs.Nests.Tests.{is_reduced, is_in_order, left_of, makes, over_of}
use Rattle.tails.specs.Steps.{Step, Turns, Named, Tested, Spine, beyond, past, spine_of, block_spine, binder, along}
use Rattle.tails.specs.Apart.{is_apart, is_steady}
use Rattle.tails.specs.Moves.{is_outer, paired, spans_over}
use Rattle.tails.specs.Maps.{covers, is_beyond, is_once, is_scoped, is_some, lies_within}
use Rattle.tails.specs.Stored.{Stored, forms_at, has_places, stored_by}
use Rattle.tails.specs.Updates.{loops_in, pure_steps, reducing, forms_in, at_forms, is_parted, is_spread, is_stepped, makes_update, is_in_steps}
use Rattle.tails.specs.Nests.{makes_split, makes_by}
use Rattle.tails.specs.Windows.Arms.{region_with, rows_from, row_above, one_less, is_asked, lie_from, are_together, axis_holds, hold, is_along, reaches_above, reaches_new, others_stay, one_stays, makes_all, makes_new, arm, is_slid, arms_stay, is_held, makes_folded}
use Rattle.tails.specs.Windows.Spans.{is_window}
use Rattle.tails.specs.Windows.Nests.{folded_by}
use Rattle.audit.specs.Verdict.Kinds.{rolled, block_rolled, rolled_kind}
use Rattle.audit.specs.Verdict.Tests.{TestsStay}

-- ---- the way down

mutual
  pub changes_same : (a : Statement) (b : ℕ) → changes a b ≡ changes (rolled a) b
  changes_same (Seq all) b = block_changes_same all b
  changes_same (For i x kind body) b = changes_same body b
  changes_same (Let i pick forms) b = refl
  changes_same (First i a c) b = λ j. changes_same a b j || changes_same c b j
  changes_same (Guard low high body) b = changes_same body b
  changes_same (Alloc c f places) b = refl
  changes_same (Fetch c g region) b = refl
  changes_same (Store c k at e) b = refl
  changes_same (Publish c) b = refl

  pub block_changes_same : (all : Statements) (b : ℕ) → block_changes all b ≡ block_changes (block_rolled all) b
  block_changes_same Empty b = refl
  block_changes_same (Then a rest) b = λ j. changes_same a b j || block_changes_same rest b j

let_same : (a : Statement) → is_let a ≡ is_let (rolled a)
let_same (Seq all) = refl
let_same (For i x kind body) = refl
let_same (Let i pick forms) = refl
let_same (First i a c) = refl
let_same (Guard low high body) = refl
let_same (Alloc c f places) = refl
let_same (Fetch c g region) = refl
let_same (Store c k at e) = refl
let_same (Publish c) = refl

mutual
  nest_same : (a : Statement) (b : ℕ) → nest_of a b ≡ nest_of (rolled a) b
  nest_same (Seq all) b = block_nest_same all b
  nest_same (For i x kind body) b = ap (inside i x) (nest_same body b)
  nest_same (Let i pick forms) b = refl
  nest_same (First i a c) b = refl
  nest_same (Guard low high body) b = refl
  nest_same (Alloc c f places) b = refl
  nest_same (Fetch c g region) b = refl
  nest_same (Store c k at e) b = refl
  nest_same (Publish c) b = refl

  block_nest_same : (all : Statements) (b : ℕ) → block_nest all b ≡ block_nest (block_rolled all) b
  block_nest_same Empty b = refl
  block_nest_same (Then a rest) b =
      λ j. if changes_same a b j then (if block_changes_same rest b j then None else nest_same a b j) else (if let_same a j then None else block_nest_same rest b j)

abbrev step_rolled : Step → Step
step_rolled (Turns i x kind) = Turns i x (rolled_kind kind)
step_rolled (Named i pick ls) = Named i pick ls
step_rolled (Tested low high) = Tested low high

abbrev spine_rolled : Option Spine → Option Spine
spine_rolled None = None
spine_rolled (Some n) = Some (record { steps = map step_rolled n.steps; line = n.line })

beyond_rolled : (st : Step) (o : Option Spine) → spine_rolled (beyond st o) ≡ beyond (step_rolled st) (spine_rolled o)
beyond_rolled st None = refl
beyond_rolled st (Some n) = refl

past_rolled : (a : Statement) (o : Option Spine) → spine_rolled (past a o) ≡ past (rolled a) (spine_rolled o)
past_rolled (Seq all) o = refl
past_rolled (For i x kind body) o = refl
past_rolled (Let i pick forms) o = beyond_rolled (Named i pick forms) o
past_rolled (First i a c) o = refl
past_rolled (Guard low high body) o = refl
past_rolled (Alloc c f places) o = refl
past_rolled (Fetch c g region) o = refl
past_rolled (Store c k at e) o = refl
past_rolled (Publish c) o = refl

if_rolled : (v : Bool) (x y : Option Spine) → spine_rolled (if v then x else y) ≡ (if v then spine_rolled x else spine_rolled y)
if_rolled true x y = refl
if_rolled false x y = refl

mutual
  spine_same : (a : Statement) (b : ℕ) → spine_rolled (spine_of a b) ≡ spine_of (rolled a) b
  spine_same (Seq all) b = block_spine_same all b
  spine_same (For i x kind body) b = beyond_rolled (Turns i x kind) (spine_of body b) ∙ ap (beyond (Turns i x (rolled_kind kind))) (spine_same body b)
  spine_same (Let i pick forms) b = refl
  spine_same (First i a c) b = refl
  spine_same (Guard low high body) b = beyond_rolled (Tested low high) (spine_of body b) ∙ ap (beyond (Tested low high)) (spine_same body b)
  spine_same (Alloc c f places) b = refl
  spine_same (Fetch c g region) b = if_rolled (c == b) (Some (record { steps = []; line = Fetch c g region })) None
  spine_same (Store c k at e) b = if_rolled (c == b) (Some (record { steps = []; line = Store c k at e })) None
  spine_same (Publish c) b = refl

  block_spine_same : (all : Statements) (b : ℕ) → spine_rolled (block_spine all b) ≡ block_spine (block_rolled all) b
  block_spine_same Empty b = refl
  block_spine_same (Then a rest) b =
      if_rolled (changes a b) (if block_changes rest b then None else spine_of a b) (past a (block_spine rest b))
      ∙ (λ j. if changes_same a b j then if_rolled (block_changes rest b) None (spine_of a b) j else past_rolled a (block_spine rest b) j)
      ∙ (λ j. if changes (rolled a) b then (if block_changes_same rest b j then None else spine_same a b j) else past (rolled a) (block_spine_same rest b j))

-- ---- steps

binder_same : (st : Step) → binder st ≡ binder (step_rolled st)
binder_same (Turns i x kind) = refl
binder_same (Named i pick ls) = refl
binder_same (Tested low high) = refl

binders_same : (steps : List Step) → map binder steps ≡ map binder (map step_rolled steps)
binders_same [] = refl
binders_same (st ∷ steps) = λ j. binder_same st j ∷ binders_same steps j

along_same : (steps : List Step) → along steps ≡ along (map step_rolled steps)
along_same steps = ap reverse (binders_same steps)

covers_same : (rules : Rules) (bs : List Binder) (steps : List Step) (fs : List Form) (region : List Span1) → covers rules bs steps fs region ≡ covers rules bs (map step_rolled steps) fs region
covers_same rules bs steps fs region =
    λ j. is_scoped (binders_same steps j) && lies_within rules bs region (spans_over false (rules.at_most bs) (paired (along_same steps j)) fs)

-- ---- what is stored

abbrev stored_rolled : Stored → Stored
stored_rolled n = record { steps = map step_rolled n.steps; forms = n.forms }

abbrev all_rolled : Option Stored → Option Stored
all_rolled None = None
all_rolled (Some n) = Some (stored_rolled n)

places_same : (folded : Bool) (rules : Rules) (bs : List Binder) (n : Stored) (places : List Places) → has_places folded rules bs n places ≡ has_places folded rules bs (stored_rolled n) places
places_same folded rules bs n places =
    λ j. (list_all (is_apart (along_same n.steps j)) bs && list_all (is_steady folded (along_same n.steps j)) places) && are_seated rules (along_same n.steps j ++ bs) (map exactly n.forms) places

forms_rolled : (steps : List Step) (o : Option (List Form)) → all_rolled (option_map (λ fs. record { steps = steps; forms = fs }) o)
    ≡ option_map (λ fs. record { steps = map step_rolled steps; forms = fs }) o
forms_rolled steps None = refl
forms_rolled steps (Some fs) = refl

stored_same : (setting : Setting) (claim : Claim) (o : Option Spine) → all_rolled (stored_by setting claim o) ≡ stored_by setting claim (spine_rolled o)
stored_same setting claim None = refl
stored_same setting claim (Some n) = forms_rolled n.steps (forms_at setting claim n.line)

split_same : (rules : Rules) (bs : List Binder) (claim : Claim) (places : List Places) (o : Option Stored) → makes_split rules bs claim places o ≡ makes_split rules bs claim places (all_rolled o)
split_same rules bs claim places None = refl
split_same rules bs claim places (Some n) = λ j. places_same false rules bs n places j && covers_same rules bs n.steps n.forms claim.region j

-- ---- updates

loops_same : (steps : List Step) → loops_in steps ≡ loops_in (map step_rolled steps)
loops_same [] = refl
loops_same (Turns i x kind ∷ steps) = λ j. record { symbol = i; span = x } ∷ loops_same steps j
loops_same (Named i pick ls ∷ steps) = loops_same steps
loops_same (Tested low high ∷ steps) = loops_same steps

pure_same : (over : List Coordinate) (steps : List Step) → map binder (pure_steps over steps) ≡ map binder (pure_steps over (map step_rolled steps))
pure_same over [] = refl
pure_same over (Turns i x kind ∷ steps) = of (list_any (is_symbol i) over) (pure_same over steps)
  where
    of : (v : Bool) → map binder (pure_steps over steps) ≡ map binder (pure_steps over (map step_rolled steps)) →
        map binder (if not v then Turns i x kind ∷ pure_steps over steps else pure_steps over steps)
        ≡ map binder (if not v then Turns i x (rolled_kind kind) ∷ pure_steps over (map step_rolled steps) else pure_steps over (map step_rolled steps))
    of true rest = rest
    of false rest = λ j. Ranged i x ∷ rest j
pure_same over (Named i pick ls ∷ steps) = λ j. Picked i pick ls ∷ pure_same over steps j
pure_same over (Tested low high ∷ steps) = λ j. Passed low high ∷ pure_same over steps j

reducing_same : (over : List Coordinate) (steps : List Step) → map binder (reducing over steps) ≡ map binder (reducing over (map step_rolled steps))
reducing_same over [] = refl
reducing_same over (Turns i x kind ∷ steps) = of (list_any (is_symbol i) over) (reducing_same over steps)
  where
    of : (v : Bool) → map binder (reducing over steps) ≡ map binder (reducing over (map step_rolled steps)) →
        map binder (if v then Turns i x kind ∷ reducing over steps else reducing over steps)
        ≡ map binder (if v then Turns i x (rolled_kind kind) ∷ reducing over (map step_rolled steps) else reducing over (map step_rolled steps))
    of true rest = λ j. Ranged i x ∷ rest j
    of false rest = rest
reducing_same over (Named i pick ls ∷ steps) = reducing_same over steps
reducing_same over (Tested low high ∷ steps) = reducing_same over steps

parted_same : (over : List Coordinate) (steps : List Step) (fs : List Form) → is_parted over steps fs ≡ is_parted over (map step_rolled steps) fs
parted_same over steps fs =
    λ j. list_all (is_beyond (binders_same steps j)) (reducing_same over steps j)
    && (list_all (is_apart (reducing_same over steps j)) (pure_same over steps j) && list_all (is_outer (reducing_same over steps j)) fs)

once_same : (over : List Coordinate) (steps : List Step) (fs : List Form) → is_once (pure_steps over steps) fs ≡ is_once (pure_steps over (map step_rolled steps)) fs
once_same over steps fs = λ j. is_scoped (pure_same over steps j) && is_some (spans_over true (λ a b. false) (paired (reverse (pure_same over steps j))) fs)

module _ (setting : Setting) (rules : Rules) (bs : List Binder) (claim : Claim) where
  spread_same : (steps : List Step) (a : Statement) → is_spread setting rules bs claim steps a ≡ is_spread setting rules bs claim (map step_rolled steps) a
  spread_same steps (Seq all) = refl
  spread_same steps (For i x kind body) = refl
  spread_same steps (Let i pick forms) = refl
  spread_same steps (First i a c) = refl
  spread_same steps (Guard low high body) = refl
  spread_same steps (Alloc c f places) = refl
  spread_same steps (Fetch c g region) = refl
  spread_same steps (Store b k at e) =
      λ j. (length (left_of setting b at) == length claim.region)
      && (is_scoped (pure_same (over_of setting b at) steps j)
      && lies_within rules bs (at_forms (left_of setting b at) claim.region) (spans_over false (rules.at_most bs) (paired (reverse (pure_same (over_of setting b at) steps j))) (forms_in (left_of setting b at))))
  spread_same steps (Publish c) = refl

  module _ (domain : List ℕ → ℕ → Option (List Range)) where
    stepped_same : (steps : List Step) (a : Statement) → is_stepped setting rules domain bs claim steps a ≡ is_stepped setting rules domain bs claim (map step_rolled steps) a
    stepped_same steps (Seq all) = refl
    stepped_same steps (For i x kind body) = refl
    stepped_same steps (Let i pick forms) = refl
    stepped_same steps (First i a c) = refl
    stepped_same steps (Guard low high body) = refl
    stepped_same steps (Alloc c f places) = refl
    stepped_same steps (Fetch c g region) = refl
    stepped_same steps (Store b zero at e) = refl
    stepped_same steps (Store b (suc k) at e) =
        λ j. (claim.definition == suc k) && (same_name (setting.buffer_function b) claim.function
        && (is_reduced rules bs (domain claim.function (suc k)) (over_of setting b at) (loops_same steps j)
        && (is_scoped (binders_same steps j) && (parted_same (over_of setting b at) steps (forms_in (left_of setting b at)) j
        && once_same (over_of setting b at) steps (forms_in (left_of setting b at)) j))))
    stepped_same steps (Publish c) = refl

    update_same : (k : ℕ) (o : Option Spine) → makes_update setting rules domain bs claim k o ≡ makes_update setting rules domain bs claim k (spine_rolled o)
    update_same k None = refl
    update_same k (Some n) = λ j. is_next k claim.definition && (stepped_same n.steps n.line j && spread_same n.steps n.line j)

    in_steps_same : (o : Option Spine) → is_in_steps setting rules domain bs claim o ≡ is_in_steps setting rules domain bs claim (spine_rolled o)
    in_steps_same None = refl
    in_steps_same (Some n) = stepped_same n.steps n.line

    by_same : (from : Option ℕ) (places : List Places) (o : Option Spine) → makes_by setting rules domain bs claim from places o ≡ makes_by setting rules domain bs claim from places (spine_rolled o)
    by_same None places o = split_same rules bs claim places (stored_by setting claim o) ∙ ap (makes_split rules bs claim places) (stored_same setting claim o)
    by_same (Some k) places o = update_same k o

-- ---- windows

module _ (rules : Rules) (bs : List Binder) where
  together_same : (steps : List Step) (x : Span1) (f : Form) (n : ℕ) → are_together rules bs steps x f n ≡ are_together rules bs (map step_rolled steps) x f n
  together_same steps x f n =
      λ j. list_any (λ (l : Form). is_outer (along_same steps j) l && (is_seated rules bs x (From l n) && is_seated rules (along_same steps j ++ bs) (exactly f) (From l n))) x.lower

  axis_same : (steps : List Step) (x : Span1) (f : Form) (a : Places) → axis_holds rules bs steps x f a ≡ axis_holds rules bs (map step_rolled steps) x f a
  axis_same steps x f (From l n) = refl
  axis_same steps x f (Folded n) = together_same steps x f n

  hold_same : (alone : Bool) (d : Option ℕ) (steps : List Step) (xs : List Span1) (fs : List Form) (places : List Places) → hold rules bs alone d steps xs fs places
      ≡ hold rules bs alone d (map step_rolled steps) xs fs places
  hold_same alone d steps [] [] [] = refl
  hold_same alone d steps [] [] (a ∷ places) = refl
  hold_same alone d steps [] (f ∷ fs) places = refl
  hold_same alone d steps (x ∷ xs) [] places = refl
  hold_same alone d steps (x ∷ xs) (f ∷ fs) [] = refl
  hold_same alone d steps (x ∷ xs) (f ∷ fs) (a ∷ places) = λ j. (not (is_asked alone d) || axis_same steps x f a j) && hold_same alone (one_less d) steps xs fs places j

  module _ (region : List Span1) where
    new_same : (i d : ℕ) (n : Stored) → reaches_new rules bs region i d n ≡ reaches_new rules bs region i d (stored_rolled n)
    new_same i d n =
        λ j. option_map_or (λ (x : Span1). list_all (λ (u : Form). option_map_or (λ (f : Form). covers_same rules bs n.steps n.forms (region_with d region (rows_from x f)) j) (row_above i u) false) x.upper) (slice_get region d) false

    module _ (places : List Places) where
      stay_same : (d : ℕ) (n : Stored) → others_stay rules bs region places d n ≡ others_stay rules bs region places d (stored_rolled n)
      stay_same d n = λ j. places_same true rules bs n places j && (is_scoped (binders_same n.steps j) && hold_same false (Some d) n.steps region n.forms places j)

      one_same : (d : ℕ) (o : Option Stored) → one_stays rules bs region places d o ≡ one_stays rules bs region places d (all_rolled o)
      one_same d None = refl
      one_same d (Some n) = hold_same true (Some d) n.steps region n.forms places

      makes_same : (d : ℕ) (o : Option Stored) → makes_all rules bs region places d o ≡ makes_all rules bs region places d (all_rolled o)
      makes_same d None = refl
      makes_same d (Some n) = λ j. stay_same d n j && covers_same rules bs n.steps n.forms region j

      makes_new_same : (i d : ℕ) (o : Option Stored) → makes_new rules bs region places i d o ≡ makes_new rules bs region places i d (all_rolled o)
      makes_new_same i d None = refl
      makes_new_same i d (Some n) = λ j. stay_same d n j && new_same i d n j

module _ (setting : Setting) (rules : Rules) (bs : List Binder) (claim : Claim) (places : List Places) where
  arm_same : (a : Statement) → all_rolled (arm setting claim a) ≡ arm setting claim (rolled a)
  arm_same a = stored_same setting claim (spine_of a claim.buffer) ∙ ap (stored_by setting claim) (spine_same a claim.buffer)

  slid_same : (w : Window) (a : Statement) → is_slid setting rules bs claim places w a ≡ is_slid setting rules bs claim places w (rolled a)
  slid_same w (Seq all) = refl
  slid_same w (For i x kind body) = refl
  slid_same w (Let i pick forms) = refl
  slid_same w (First i a c) =
      (λ j. (i == w.symbol) && (makes_same rules bs claim.region places w.dimension (arm setting claim a) j
      && makes_new_same rules bs claim.region places w.symbol w.dimension (arm setting claim c) j))
      ∙ (λ j. (i == w.symbol) && (makes_all rules bs claim.region places w.dimension (arm_same a j) && makes_new rules bs claim.region places w.symbol w.dimension (arm_same c j)))
  slid_same w (Guard low high body) = refl
  slid_same w (Alloc c f places) = refl
  slid_same w (Fetch c g region) = refl
  slid_same w (Store c k at e) = refl
  slid_same w (Publish c) = refl

  arms_same : (d : ℕ) (a : Statement) → arms_stay setting rules bs claim places d a ≡ arms_stay setting rules bs claim places d (rolled a)
  arms_same d (Seq all) = refl
  arms_same d (For i x kind body) = refl
  arms_same d (Let i pick forms) = refl
  arms_same d (First i a c) =
      (λ j. one_same rules bs claim.region places d (arm setting claim a) j && one_same rules bs claim.region places d (arm setting claim c) j)
      ∙ (λ j. one_stays rules bs claim.region places d (arm_same a j) && one_stays rules bs claim.region places d (arm_same c j))
  arms_same d (Guard low high body) = refl
  arms_same d (Alloc c f places) = refl
  arms_same d (Fetch c g region) = refl
  arms_same d (Store c k at e) = refl
  arms_same d (Publish c) = refl

  held_same : (w : Window) (a : Statement) → is_held setting rules bs claim places w a ≡ is_held setting rules bs claim places w (rolled a)
  held_same w a = λ j. is_window rules bs w.symbol w.fold w.span && (is_along rules bs w w.dimension claim.region places && arms_same w.dimension a j)

  folded_same : (from : Option ℕ) (a : Statement) → folded_by setting rules bs claim from places a ≡ folded_by setting rules bs claim from places (rolled a)
  folded_same None a =
      (λ j. makes_same rules bs claim.region places 0 (arm setting claim a) j && one_same rules bs claim.region places 0 (arm setting claim a) j) ∙ ap (makes_folded rules bs claim places) (arm_same a)
  folded_same (Some k) a = refl

-- ---- all tests

pub tests_stay : TestsStay
tests_stay outline rules domain a = record {
  made = λ bs c from places.
      let claim = outline.claim c in
      let split = by_same outline.setting rules bs claim domain from places (spine_of a claim.buffer) ∙ ap (makes_by outline.setting rules domain bs claim from places) (spine_same a claim.buffer) in
      λ j. (makes outline.setting rules domain bs claim from places (nest_same a claim.buffer j) || split j) || folded_same outline.setting rules bs claim places from a j;
  in_turn = λ bs c.
      let claim = outline.claim c in
      let split = in_steps_same outline.setting rules bs claim domain (spine_of a claim.buffer) ∙ ap (is_in_steps outline.setting rules domain bs claim) (spine_same a claim.buffer) in
      λ j. is_in_order outline.setting rules domain bs claim (nest_same a claim.buffer j) || split j;
  slid = λ bs w c places. slid_same outline.setting rules bs (outline.claim c) places w a;
  held = λ bs w c places. held_same outline.setting rules bs (outline.claim c) places w a;
}
