-- The answers of all tasks together.
use Rattle.std.proofs.Common.{◌≡◌, ℕ, zero, suc, ◌+◌, ◌-◌, ◌*◌, ◌<◌, ◌≤◌, Bool, true, false, List, [], ◌∷◌, length, All, Option, Some, None, Result, Ok, Err, refl, sym, ◌∙◌, ap, subst, arith, inl, inr}
use Rattle.std.specs.Prelude.{nat_lt, if◌then◌else◌, IfOk, MatchOption, ◌⊎◌, map, slice_get}
use Rattle.std.specs.List.{AllZip, AllByRecursion}
use Rattle.std.proofs.lemmas.Bool.Decides.{nat_tests}
use Rattle.std.proofs.lemmas.Bool.{false≢true}
use Rattle.std.proofs.lemmas.List.FromFn.{get_or-range_with_len, length-range_with_len}
use Rattle.std.proofs.lemmas.List.Elements.{All-from_recursion, recursion_from_All}
use Rattle.std.proofs.lemmas.Option.{slice_get_within}
use Rattle.rayon.specs.Numbers.{nat_range}
use Rattle.rayon.proofs.ToStd.{nat_range-All}
use Rattle.meaning.specs.Algorithm.{Algorithm}
use Rattle.plan.specs.declared.plan.Group.{Group as GroupHeld}
use Rattle.plan.specs.Plan.{Group, Plan}
use Rattle.plan.specs.View.{group_of}
use Rattle.plan.specs.Certificate.Certificate.{Certificate}
use Rattle.soundness.specs.Outline.Refusals.Codes.{is_before, least}
use Rattle.soundness.specs.declared.outline.refusals.code.Flaw.{Flaw}
use Rattle.obligations.specs.declared.context.judge.Part.{Part}
use Rattle.obligations.specs.declared.context.judge.Part.TheVariants.{Lines, Claims, Before}
use Rattle.obligations.proofs.Earlier.{before_too, later_is_silent}
use Rattle.obligations.proofs.Silent.{nothing_told_is_shown, shown_is_nothing_told}
use Rattle.claims.specs.First.{unmet, AllMet, IsFirstIn, IsFirstUnmet, group_at, part_at, TaskSays, least_from}
use Rattle.claims.proofs.Firsts.{before_less}

-- a group in memory
pub group_there : (xs : List GroupHeld) (n : ℕ) → n < length xs → (g : Group) × (slice_get (map group_of xs) n ≡ Some g)
group_there [] n less = absurd (omega (arith, less))
group_there (x ∷ xs) zero less = (group_of x, refl)
group_there (x ∷ xs) (suc n) less = group_there xs n (omega (arith, less))

-- ---- what holds at each number of a range

module _ (P : ℕ → Type 0) (n : ℕ) where
  pub walk_from : All P (nat_range 0 n) → (k : ℕ) → k < n → P k
  walk_from all k below =
      let inside : k < n - 0 = omega (arith, below) in
      let first : 0 + k ≡ k = omega arith in
      subst P first (subst P (get_or-range_with_len 0 (n - 0) k 0 inside) (all k 0 (subst (λ m. k < m) (sym (length-range_with_len 0 (n - 0))) inside)))

  pub walk_to : ((k : ℕ) → k < n → P k) → All P (nat_range 0 n)
  walk_to each = nat_range-All P 0 n (λ k low high. each k high)

-- ---- the least of two

-- no flaw, or one that is not told before this
abbrev pub NotBefore : Flaw → Option Flaw → Type 0
NotBefore f None = Unit {0}
NotBefore f (Some h) = is_before h f ≡ false

not_itself : (b : Bool) (f : Flaw) → is_before f f ≡ b → is_before f f ≡ false
not_itself true f h = let less = before_less f f h in absurd (omega (arith, less))
not_itself false f h = h

not_after : (b : Bool) (g h f : Flaw) → is_before g h ≡ true → is_before g f ≡ false → is_before h f ≡ b → is_before h f ≡ false
not_after true g h f low k e =
    let less = before_less g h low in
    let more = before_less h g (before_too h f g k e) in
    absurd (omega (arith, less, more))
not_after false g h f low k e = e

not_under : (b : Bool) (g h f : Flaw) → is_before g h ≡ false → is_before h f ≡ false → is_before g f ≡ b → is_before g f ≡ false
not_under true g h f high k e = absurd (false≢true (sym high ∙ before_too g f h k e))
not_under false g h f high k e = e

lesser_parts : (b : Bool) (g h f : Flaw) → is_before h g ≡ b → is_before (if b then h else g) f ≡ false → (is_before g f ≡ false) × (is_before h f ≡ false)
lesser_parts true g h f e k = (not_after (is_before g f) h g f e k refl, k)
lesser_parts false g h f e k = (k, not_under (is_before h f) h g f e k refl)

least_parts : (x y : Option Flaw) (f : Flaw) → NotBefore f (least x y) → NotBefore f x × NotBefore f y
least_parts None y f k = (tt, k)
least_parts (Some g) None f k = (k, tt)
least_parts (Some g) (Some h) f k = lesser_parts (is_before h g) g h f refl k

lesser_one : (b : Bool) (g h f : Flaw) → Some (if b then h else g) ≡ Some f → (Some g ≡ Some f) ⊎ (Some h ≡ Some f)
lesser_one true g h f e = inr e
lesser_one false g h f e = inl e

least_one : (x y : Option Flaw) (f : Flaw) → least x y ≡ Some f → (x ≡ Some f) ⊎ (y ≡ Some f)
least_one None y f e = inr e
least_one (Some g) None f e = inl e
least_one (Some g) (Some h) f e = lesser_one (is_before h g) g h f e

least_none : (x y : Option Flaw) → least x y ≡ None → (x ≡ None) × (y ≡ None)
least_none None y e = (refl, e)
least_none (Some g) None e = absurd (cc e)
least_none (Some g) (Some h) e = absurd (cc e)

-- ---- the least of all

module _ {E : Type 0} where
  -- an answer with no flaw that is told before this
  abbrev pub AtBest : Flaw → Result (Option Flaw) E → Type 0
  AtBest f (Ok x) = NotBefore f x
  AtBest f (Err e) = ⊥

  -- one of the answers is this flaw
  abbrev pub HasIt : Flaw → List (Result (Option Flaw) E) → Type 0
  HasIt f [] = ⊥
  HasIt f (r ∷ rs) = (r ≡ Ok (Some f)) ⊎ HasIt f rs

  none_all : (o : Option Flaw) (rs : List (Result (Option Flaw) E)) → least_from o rs ≡ Some None → (o ≡ None) × AllByRecursion (λ r. r ≡ Ok None) rs
  none_all o [] h = (cc h, tt)
  none_all o (Ok x ∷ rs) h =
      let k = none_all (least o x) rs h in
      let q = least_none o x k.0 in
      (q.0, (ap Ok q.1, k.1))
  none_all o (Err e ∷ rs) h = absurd (cc h)

  best_all : (o : Option Flaw) (rs : List (Result (Option Flaw) E)) (f : Flaw) → least_from o rs ≡ Some (Some f) → ((o ≡ Some f) ⊎ HasIt f rs) × (NotBefore f o × AllByRecursion (AtBest f) rs)
  best_all o [] f h =
      let is : o ≡ Some f = cc h in
      (inl is, (subst (NotBefore f) (sym is) (not_itself (is_before f f) f refl), tt))
  best_all o (Ok x ∷ rs) f h =
      let k = best_all (least o x) rs f h in
      let q = least_parts o x f k.1.0 in
      let from : (o ≡ Some f) ⊎ HasIt f (Ok x ∷ rs) = elim k.0 [
        | inl e ↦ elim (least_one o x f e) [ inl l ↦ inl l | inr r ↦ inr (inl (ap Ok r)) ]
        | inr later ↦ inr (inr later)
      ] in
      (from, (q.0, (q.1, k.1.1)))
  best_all o (Err e ∷ rs) f h = absurd (cc h)

-- ---- the tasks of a plan

module _ (a : Algorithm) (p : Plan) (c : Certificate) where
  module _ {E : Type 0} where
    -- a task's answer, where it is known which of the two it asks
    abbrev AnswerOf : ℕ → Result (Option Flaw) E → Bool → Type 0
    AnswerOf task r b =
        let n = if b then task else task - length p.groups in
        (g : Group) → slice_get p.groups n ≡ Some g → IfOk r (IsFirstIn a p c n g (if b then Lines else Claims))

    pub says_lines : (task : ℕ) (r : Result (Option Flaw) E) → nat_lt task (length p.groups) ≡ true
        → ((g : Group) → slice_get p.groups task ≡ Some g → IfOk r (IsFirstIn a p c task g Lines)) → TaskSays a p c task r
    says_lines task r e h = subst (AnswerOf task r) (sym e) h

    pub says_claims : (task : ℕ) (r : Result (Option Flaw) E) → nat_lt task (length p.groups) ≡ false
        → ((g : Group) → slice_get p.groups (task - length p.groups) ≡ Some g → IfOk r (IsFirstIn a p c (task - length p.groups) g Claims)) → TaskSays a p c task r
    says_claims task r e h = subst (AnswerOf task r) (sym e) h

  -- the group of a task, in two ways
  module _ (P : ℕ → Group → Part → Type 0) where
    abbrev pub AtTask : ℕ → Type 0
    AtTask task = (g : Group) → slice_get p.groups (group_at a p c task) ≡ Some g → P (group_at a p c task) g (part_at a p c task)

    abbrev AtEither : ℕ → Bool → Type 0
    AtEither task b =
        let n = if b then task else task - length p.groups in
        (g : Group) → slice_get p.groups n ≡ Some g → P n g (if b then Lines else Claims)

    pub lines_at : (m : ℕ) (h : Group) → slice_get p.groups m ≡ Some h → AtTask m → P m h Lines
    lines_at m h at each =
        let below = slice_get_within p.groups m h at in
        let yes : nat_lt m (length p.groups) ≡ true = grind (arith, nat_tests) in
        subst (AtEither m) yes each h at

    pub claims_at : (m : ℕ) (h : Group) → slice_get p.groups m ≡ Some h → AtTask (length p.groups + m) → P m h Claims
    claims_at m h at each =
        let long = length p.groups in
        let no : nat_lt (long + m) long ≡ false = grind (arith, nat_tests) in
        let back : (long + m) - long ≡ m = omega arith in
        let other : (g : Group) → slice_get p.groups ((long + m) - long) ≡ Some g → P ((long + m) - long) g Claims = subst (AtEither (long + m)) no each in
        subst (λ (n : ℕ). (g : Group) → slice_get p.groups n ≡ Some g → P n g Claims) back other h at

  -- nothing of the part is told
  abbrev Quiet : ℕ → Group → Part → Type 0
  Quiet n g part = unmet a p c n g part ≡ None

  -- nothing of the part, or nothing before this flaw
  abbrev QuietBefore : Flaw → ℕ → Group → Part → Type 0
  QuietBefore f n g part = (unmet a p c n g part ≡ None) ⊎ (unmet a p c n g (Before f) ≡ None)

  module _ {E : Type 0} where
    quiet_one : (task : ℕ) (r : Result (Option Flaw) E) → TaskSays a p c task r → r ≡ Ok None → AtTask Quiet task
    quiet_one task r says e g at = subst (λ (x : Result (Option Flaw) E). IfOk x (IsFirstIn a p c (group_at a p c task) g (part_at a p c task))) e (says g at)

    quiet_all : (ts : List ℕ) (rs : List (Result (Option Flaw) E)) → AllZip (TaskSays a p c) ts rs → AllByRecursion (λ r. r ≡ Ok None) rs → AllByRecursion (AtTask Quiet) ts
    quiet_all [] [] z h = tt
    quiet_all [] (r ∷ rs) z h = absurd z
    quiet_all (t ∷ ts) [] z h = absurd z
    quiet_all (t ∷ ts) (r ∷ rs) z h = (quiet_one t r z.0 h.0, quiet_all ts rs z.1 h.1)

    best_one : (f : Flaw) (task : ℕ) (r : Result (Option Flaw) E) → TaskSays a p c task r → AtBest f r → AtTask (QuietBefore f) task
    best_one f task (Ok None) says best g at = inl (says g at)
    best_one f task (Ok (Some h)) says best g at = inr (later_is_silent _ _ f h _ (says g at).none_before best)
    best_one f task (Err e) says best g at = absurd best

    best_each : (f : Flaw) (ts : List ℕ) (rs : List (Result (Option Flaw) E)) → AllZip (TaskSays a p c) ts rs → AllByRecursion (AtBest f) rs → AllByRecursion (AtTask (QuietBefore f)) ts
    best_each f [] [] z h = tt
    best_each f [] (r ∷ rs) z h = absurd z
    best_each f (t ∷ ts) [] z h = absurd z
    best_each f (t ∷ ts) (r ∷ rs) z h = (best_one f t r z.0 h.0, best_each f ts rs z.1 h.1)

    -- the task that tells it
    origin : (f : Flaw) (n : ℕ) (ts : List ℕ) (rs : List (Result (Option Flaw) E)) → AllZip (TaskSays a p c) ts rs → AllByRecursion (λ t. t < n) ts → HasIt f rs
        → (t : ℕ) × (t < n) × TaskSays a p c {E = E} t (Ok (Some f))
    origin f n [] [] z within has = absurd has
    origin f n [] (r ∷ rs) z within has = absurd z
    origin f n (t ∷ ts) [] z within has = absurd z
    origin f n (t ∷ ts) (r ∷ rs) z within has =
        elim has [
          | inl e ↦ (t, within.0, subst (TaskSays a p c t) e z.0)
          | inr later ↦ origin f n ts rs z.1 within.1 later
        ]

  group_below : (b : Bool) (task : ℕ) → nat_lt task (length p.groups) ≡ b → task < 2 * length p.groups → (if b then task else task - length p.groups) < length p.groups
  group_below true task e h = grind (arith, nat_tests)
  group_below false task e h = let high : length p.groups ≤ task = grind (arith, nat_tests) in omega (arith, high, h)

  -- ---- all together

  module _ {E : Type 0} (n : ℕ) (rs : List (Result (Option Flaw) E)) (whole : n ≡ 2 * length p.groups) (z : AllZip (TaskSays a p c) (nat_range 0 n) rs) where
    first_below : (m : ℕ) (h : Group) → slice_get p.groups m ≡ Some h → m < n
    first_below m h at = let below = slice_get_within p.groups m h at in omega (arith, below, whole)

    second_below : (m : ℕ) (h : Group) → slice_get p.groups m ≡ Some h → length p.groups + m < n
    second_below m h at = let below = slice_get_within p.groups m h at in omega (arith, below, whole)

    pub all_met : least_from None rs ≡ Some None → AllMet a p c
    all_met h m g at =
        let each = walk_from (AtTask Quiet) n (All-from_recursion (AtTask Quiet) (nat_range 0 n) (quiet_all (nat_range 0 n) rs z (none_all None rs h).1)) in
        let lines = lines_at Quiet m g at (each m (first_below m g at)) in
        let claims = claims_at Quiet m g at (each (length p.groups + m) (second_below m g at)) in
        nothing_told_is_shown _ _ _ lines claims

    module _ (f : Flaw) (h : least_from None rs ≡ Some (Some f)) where
      all_quiet : (m : ℕ) (g : Group) → slice_get p.groups m ≡ Some g → unmet a p c m g (Before f) ≡ None
      all_quiet m g at =
          let P : ℕ → Group → Part → Type 0 = QuietBefore f in
          let each = walk_from (AtTask P) n (All-from_recursion (AtTask P) (nat_range 0 n) (best_each f (nat_range 0 n) rs z (best_all None rs f h).1.1)) in
          elim (lines_at P m g at (each m (first_below m g at))) [
            | inl lines ↦ elim (claims_at P m g at (each (length p.groups + m) (second_below m g at))) [
              | inl claims ↦ shown_is_nothing_told _ _ (Before f) _ (nothing_told_is_shown _ _ _ lines claims)
              | inr before ↦ before
            ]
            | inr before ↦ before
          ]

      has_it : HasIt f rs
      has_it = elim (best_all None rs f h).0 [ inl e ↦ (let none : None ≡ Some f = e in absurd (cc none)) | inr has ↦ has ]

      pub first_met : ((k : ℕ) → k < length p.groups → (g : Group) × (slice_get p.groups k ≡ Some g)) → IsFirstUnmet a p c f
      first_met there =
          let within = recursion_from_All (λ (t : ℕ). t < n) (nat_range 0 n) (walk_to (λ t. t < n) n (λ k below. below)) in
          let from = origin f n (nat_range 0 n) rs z within has_it in
          let low = from.1 in
          let task : from.0 < 2 * length p.groups = omega (arith, low, whole) in
          let k = group_at a p c from.0 in
          let x = there k (group_below (nat_lt from.0 (length p.groups)) from.0 refl task) in
          let said = from.2 x.0 x.1 in
          record {
            number = k;
            group = x.0;
            stands = x.1;
            part = said.is_unmet.part;
            first = said.is_unmet.told;
            none_before = all_quiet;
          }

    -- what is found tells it
    pub found_told : (found : Option Flaw) → ((k : ℕ) → k < length p.groups → (g : Group) × (slice_get p.groups k ≡ Some g)) → least_from None rs ≡ Some found → MatchOption found (AllMet a p c) (IsFirstUnmet a p c)
    found_told None there h = all_met h
    found_told (Some f) there h = first_met f h there

-- the same of one list of numbers and answers and another
pub said_alike : {E : Type 0} (a b : Algorithm) (p q : Plan) (c d : Certificate) → a ≡ b → p ≡ q → c ≡ d → (ts us : List ℕ) (rs ss : List (Result (Option Flaw) E)) → ts ≡ us → rs ≡ ss
    → AllZip (TaskSays a p c) ts rs → AllZip (TaskSays b q d) us ss
said_alike a b p q c d e f g ts us rs ss t r h =
    subst (λ (x : Algorithm). AllZip (TaskSays x q d) us ss) e
    (subst (λ (x : Plan). AllZip (TaskSays a x d) us ss) f
    (subst (λ (x : Certificate). AllZip (TaskSays a p x) us ss) g
    (subst (λ (x : List ℕ). AllZip (TaskSays a p c) x ss) t
    (subst (AllZip (TaskSays a p c) ts) r h))))
