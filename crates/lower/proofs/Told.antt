-- What the refusal of a placement, or its plan, says of an algorithm and a schedule.
use Rattle.std.proofs.Common.{◌≡◌, ℕ, true, false, List, [], ◌∷◌, length, map, take, Option, Some, None, Result, Ok, Err, subst, refl, sym, ap, ◌∙◌, inl, inr}
use Rattle.std.specs.Global.{Vec}
use Rattle.std.specs.Prelude.{IfOk, IfErr, Bool, ◌&&◌, if◌then◌else◌, nat_le}
use Rattle.std.proofs.lemmas.Result.{IfOk-weaker}
use Rattle.meaning.specs.Algorithm.{Algorithm}
use Rattle.meaning.specs.Names.{same_name}
use Rattle.sched.specs.Schedule.{Schedule}
use Rattle.sched.specs.Legal.{IsFault, IsFollowed, IsLegal, IsUnfollowed}
use Rattle.sched.specs.declared.error.Rule.{Rule}
use Rattle.sched.specs.Placing.{SubjectText}
use Rattle.sched.specs.RegionRules.{region_number}
use Rattle.sched.specs.Rules.{number_of}
use Rattle.sched.specs.declared.error.SchedError.{SchedError}
use Rattle.sched.specs.declared.error.SchedError.TheVariants as refusal
use Rattle.lower.specs.declared.error.LowerError.{LowerError}
use Rattle.lower.specs.declared.error.LowerError.TheVariants as error
use Rattle.sched.specs.declared.region_rule.RegionRule.{RegionRule}
use Rattle.sched.specs.declared.region_rule.RegionRule.TheVariants as rule
use Rattle.lower.specs.declared.lowering.Lowered.{Lowered}
use Rattle.sched.specs.Stored.{StoredText}
use Rattle.lower.specs.Stored.{has_large, stored_functions}
use Rattle.lower.specs.Large.{Finds, IsTold, IsToldOf}
use Rattle.sched.specs.Regions.{LaidText}
use Rattle.regions.specs.Regions.{laid_functions}
use Rattle.lower.specs.declared.parties.Party.{Party}
use Rattle.lower.specs.Broken.{Inside, calls_left, first_from, first_over, asked_count, unless_behind, first_told}
use Rattle.regions.specs.Faults.{are_whole}
use Rattle.lower.specs.Faults.{no_totals, region_fault}
use Rattle.lower.specs.Uses.{AreUsedInside, FindsUse, TellsUse}
use Rattle.sched.specs.declared.hosts.Inner.{Inner}
use Rattle.sched.specs.Placed.{inner_seen}
use Rattle.lower.specs.Groups.{rounds, AreAlone, AreGroupsMade, HasNone, IsPlanOf, IsKeptPlan, inside_at, inside_of, party_of, rooted}
use Rattle.lower.specs.Planned.{TellsOf, none_inside, unplanned, unplanned_over}
use Rattle.lower.specs.Refused.{Answers, AnswersBy, AreSmall, IsFirstOver, IsNoneFrom, IsNoneOver, AreRegionsKept, AreUsesInside, IsRefused, subjects_of}
use Rattle.lower.proofs.Sizes.{none_is_large}
use Rattle.lower.proofs.Breaking.{whole_told, none_is_over}
use Rattle.lower.proofs.First.{first_of, none_of}
use Rattle.lower.proofs.Made.{none_else}
use Rattle.lower.proofs.Outsides.{tells_is, none_is}

-- ---- the stored functions

pub told_of : (gs : List StoredText) (r : RegionRule) (x : List ℕ) → IsTold gs r x → TellsUse gs gs r x → IsToldOf gs r x
told_of gs rule.OutsideUse x h told_use = (h, tells_is gs gs rule.OutsideUse x told_use)
told_of gs rule.TooLarge x h told_use = (h, tells_is gs gs rule.TooLarge x told_use)
told_of gs rule.ShortShift x h told_use = (h, tells_is gs gs rule.ShortShift x told_use)
told_of gs rule.SmallFold x h told_use = (h, tells_is gs gs rule.SmallFold x told_use)
told_of gs rule.TooMuch x h told_use = (h, tells_is gs gs rule.TooMuch x told_use)
told_of gs rule.Unbounded x h told_use = inl (h, tells_is gs gs rule.Unbounded x told_use)

-- of two rules the one by a region is told where it comes before the other, or there is no other
told_first : (o : Option (Rule × List ℕ)) (q : Option (RegionRule × List ℕ)) (e : RegionRule × List ℕ) → unless_behind o q ≡ Some e → q ≡ Some e
told_first None None e h = h
told_first None (Some d) e h = h
told_first (Some f) None e h = absurd cc
told_first (Some f) (Some d) e h = before (same_name f.1 d.1 && nat_le (number_of f.0) (region_number d.0)) h where
  before : (b : Bool) → (if b then None else Some d) ≡ Some e → Some d ≡ Some e
  before true i = absurd cc
  before false i = i

alone_none : (q : Option (RegionRule × List ℕ)) → unless_behind None q ≡ None → q ≡ None
alone_none None h = refl
alone_none (Some e) h = h

module _ (a : Algorithm) (us : List SubjectText) (gs : List StoredText) (P : Lowered → Type 0) (o : Option (Rule × List ℕ)) (ls : List (Option LaidText)) (inside : List Inside) (n : ℕ) where
  abbrev Over : RegionRule → List ℕ → Type 0
  Over = IsFirstOver a us gs o ls inside

  abbrev NoneOver : Type 0
  NoneOver = IsNoneOver a us gs o ls inside

  -- what the first of so many functions breaks
  abbrev First : Option (RegionRule × List ℕ)
  First = first_from a gs inside (calls_left a gs o) no_totals (take n gs) ls

  told_is : n ≡ asked_count us (length gs) o → first_told a us gs o ls inside ≡ unless_behind o First
  told_is e = ap (λ k. unless_behind o (first_from a gs inside (calls_left a gs o) no_totals (take k gs) ls)) (sym e)

  -- it breaks this rule, over regions that are those of whole functions, and that is told
  pub fault_told : (e : RegionRule × List ℕ) (q : Option (RegionRule × List ℕ)) → n ≡ asked_count us (length gs) o → q ≡ First → Finds gs n q → FindsUse gs gs n q
      → unless_behind o q ≡ Some e → (are_whole gs ≡ true → ls ≡ laid_functions a gs) → AnswersBy a gs P Over NoneOver o (Err (error.Broken e.0 e.1))
  fault_told (r, x) q count is finds uses told laid =
      let found : q ≡ Some (r, x) = told_first o q (r, x) told in
      let first : Some (r, x) ≡ First = sym found ∙ is in (
        told_of gs r x (subst (Finds gs n) found finds) (subst (FindsUse gs gs n) found uses),
        first_of a gs ls n r x (whole_told a gs inside o n ls (Some (r, x)) first) laid,
        inl (told_is count ∙ sym (ap (unless_behind o) is) ∙ told),
      )

  -- none is told before the rule that asks for no region
  pub placed_told : (e : Rule × List ℕ) (q : Option (RegionRule × List ℕ)) → n ≡ asked_count us (length gs) o → q ≡ First → unless_behind o q ≡ None → o ≡ Some e
      → AnswersBy a gs P Over NoneOver o (Err (error.Schedule (refusal.Broken e.0 e.1)))
  placed_told e q count is none fault = (fault, told_is count ∙ sym (ap (unless_behind o) is) ∙ none)

  answers_unplanned : (r : Result Lowered LowerError) → o ≡ None → has_large gs ≡ false → (are_whole gs ≡ true → region_fault a gs ≡ None) → NoneOver → AreUsedInside gs → IfOk r P
      → (are_whole gs ≡ true → unplanned_over a gs ls inside ≡ unplanned a gs) → TellsOf r (unplanned_over a gs ls inside) → AnswersBy a gs P Over NoneOver o r
  answers_unplanned (Ok l) e h k kept used made same told = (e, h, λ w. (k w, sym (same w) ∙ told), made, used)
  answers_unplanned (Err error.Memory) e h k kept used made same told = tt
  answers_unplanned (Err (error.Schedule s)) e h k kept used made same told = absurd told
  answers_unplanned (Err (error.Broken r x)) e h k kept used made same told =
      subst (λ (q : RegionRule). AnswersBy a gs P Over NoneOver o (Err (error.Broken q x))) (sym told.0)
      (inr (h, used), λ w. inr (refl, k w, sym (same w) ∙ told.1), inr (refl, e, kept, told.1))

-- nothing is computed inside these
inside_alone : (r : Result (Vec Inner) (List ℕ)) → HasNone r → inside_of r ≡ Ok []
inside_alone (Ok v) h = ap (λ (is : List Inner). Ok (map inner_seen is)) h
inside_alone (Err x) h = absurd h

all_alone : (ps : List Party) → AreAlone ps → map inside_at ps ≡ none_inside (map party_of ps)
all_alone [] h = refl
all_alone (p ∷ ps) h = λ i. inside_alone p.inners h.0 i ∷ all_alone ps h.1 i

as_whole : (a : Algorithm) (gs : List StoredText) (ls : List (Option LaidText)) (qs : List Party) → map party_of qs ≡ rooted true gs ls → AreAlone qs → ls ≡ laid_functions a gs
    → unplanned_over a gs ls (map inside_at qs) ≡ unplanned a gs
as_whole a gs ls qs roots alone laid =
    ap (unplanned_over a gs ls) (all_alone qs alone ∙ ap none_inside roots) ∙ (λ i. unplanned_over a gs (laid i) (none_inside (rooted true gs (laid i))))

-- none of them does, and no plan, or one, is made
pub unplanned_told : (a : Algorithm) (us : List SubjectText) (gs : List StoredText) (o : Option (Rule × List ℕ)) (ls : List (Option LaidText)) (qs : List Party) (n : ℕ)
    (q : Option (RegionRule × List ℕ)) (r : Result Lowered LowerError) → o ≡ None → n ≡ asked_count us (length gs) o
    → q ≡ first_from a gs (map inside_at qs) (calls_left a gs o) no_totals (take n gs) ls → Finds gs n q → FindsUse gs gs n q → unless_behind o q ≡ None
    → (are_whole gs ≡ true → ls ≡ laid_functions a gs) → map party_of qs ≡ rooted true gs ls → (rooted false gs ls ≡ [] → AreAlone qs) → IfOk r (IsPlanOf a gs ls qs)
    → TellsOf r (unplanned_over a gs ls (map inside_at qs))
    → AnswersBy a gs (IsKeptPlan a gs ls qs) (IsFirstOver a us gs o ls (map inside_at qs)) (IsNoneOver a us gs o ls (map inside_at qs)) o r
unplanned_told a us gs o ls qs n q r e count first finds uses told_none laid roots alone made told =
    let inside = map inside_at qs in
    let c : n ≡ length gs = count ∙ ap (asked_count us (length gs)) e in
    let none : q ≡ None = alone_none q (ap (λ p. unless_behind p q) (sym e) ∙ told_none) in
    let f : None ≡ first_from a gs inside (calls_left a gs o) no_totals (take n gs) ls = sym none ∙ first in
    let kept : first_over a gs o ls inside ≡ None = none_is_over a gs inside o n ls c f in
    let free : first_over a gs None ls inside ≡ None = subst (λ (p : Option (Rule × List ℕ)). first_over a gs p ls inside ≡ None) e kept in
    let untold : first_told a us gs o ls inside ≡ None =
    told_is a us gs (IsKeptPlan a gs ls qs) o ls inside n count ∙ sym (ap (unless_behind o) first) ∙ told_none in
    answers_unplanned a us gs (IsKeptPlan a gs ls qs) o ls inside n r e (none_is_large gs n c (subst (Finds gs n) none finds)) (none_of a gs ls n (whole_told a gs inside o n ls None f) laid c)
    untold (none_is gs n c (subst (FindsUse gs gs n) none uses)) (IfOk-weaker r (IsPlanOf a gs ls qs) (IsKeptPlan a gs ls qs) (λ l p. record { plan = p; kept = free }) made)
    (λ w. as_whole a gs ls qs roots (alone (none_else gs ls w)) (laid w)) told

-- ---- the algorithm and its schedule

is_followed : (a : Algorithm) (s : Schedule) (o : Option (Rule × List ℕ)) → IsFault a s o → IsFollowed a s
is_followed a s None h = h.followed
is_followed a s (Some e) h = h.followed

-- a directive breaks a rule
pub unfollowed_told : (a : Algorithm) (s : Schedule) (e : SchedError) → IsUnfollowed a s e → IsRefused a s (error.Schedule e)
unfollowed_told a s e h = inl h

-- the clauses of the answer
pub record Told (a : Algorithm) (s : Schedule) (r : Result Lowered LowerError) : Type 0 where
  pub legal : IfOk r (λ l. IsLegal a s)
  pub small : IfOk r (λ l. AreSmall a s)
  pub regions : IfOk r (λ l. AreRegionsKept a s)
  pub uses : IfOk r (λ l. AreUsesInside a s)
  pub groups : IfOk r (AreGroupsMade a s)
  pub refused : IfErr r (IsRefused a s)

err_told : (a : Algorithm) (s : Schedule) (e : LowerError) → IsRefused a s e → Told a s (Err e)
err_told a s e is = record { legal = tt; small = tt; regions = tt; uses = tt; groups = tt; refused = is }

answers_told : (a : Algorithm) (s : Schedule) (o : Option (Rule × List ℕ)) → IsFault a s o → (r : Result Lowered LowerError) → Answers a (subjects_of a s) (stored_functions a s) o r → Told a s r
answers_told a s o h (Ok l) is = record { legal = subst (IsFault a s) is.0 h; small = is.1; regions = is.2; uses = is.4; groups = is.3; refused = tt }
answers_told a s o h (Err error.Memory) is = err_told a s error.Memory tt
answers_told a s o h (Err (error.Schedule (refusal.Broken r x))) is = err_told a s (error.Schedule (refusal.Broken r x))
    (inr (subst (IsFault a s) is.0 h, subst (λ (q : Option (Rule × List ℕ)). IsNoneFrom a (subjects_of a s) gs (rounds gs) (laid_functions a gs) q) is.0 is.1)) where
      gs : List StoredText
      gs = stored_functions a s
answers_told a s o h (Err (error.Schedule refusal.Memory)) is = absurd is.0
answers_told a s o h (Err (error.Schedule (refusal.BadToken span))) is = absurd is.0
answers_told a s o h (Err (error.Schedule (refusal.BadForm span))) is = absurd is.0
answers_told a s o h (Err (error.Schedule (refusal.TooLarge span))) is = absurd is.0
answers_told a s o h (Err (error.Schedule refusal.UnfitNames)) is = absurd is.0
answers_told a s o h (Err (error.Broken r x)) is = err_told a s (error.Broken r x) (is_followed a s o h, is.0, is.1, record { fault = o; is = h; first = is.2 })

pub stored_told : (a : Algorithm) (s : Schedule) (o : Option (Rule × List ℕ)) (us : List SubjectText) (gs : List StoredText) → IsFault a s o → us ≡ subjects_of a s
    → gs ≡ stored_functions a s → (r : Result Lowered LowerError) → Answers a us gs o r → Told a s r
stored_told a s o us gs h d e r is =
    answers_told a s o h r (subst (λ (xs : List StoredText). Answers a (subjects_of a s) xs o r) e (subst (λ (xs : List SubjectText). Answers a xs gs o r) d is))
