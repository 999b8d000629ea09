-- The regions for which all turns ask, as they are asked for once more.
use Rattle.std.proofs.Common.{◌≡◌, ℕ, suc, ◌+◌, Bool, true, false, ◌&&◌, ◌||◌, List, [], ◌∷◌, length, map, Option, Some, None, Result, Ok, Err, refl, sym, ap, subst, ◌∙◌, inl, inr}
use Rattle.std.proofs.Common.{add-one}
use Rattle.std.specs.Prelude.{if◌then◌else◌, IfOk}
use Rattle.std.specs.List.{list_any}
use Rattle.std.specs.Option.{option_map}
use Rattle.std.specs.Global.{Vec}
use Rattle.std.proofs.lemmas.Bool.{false≢true}
use Rattle.std.proofs.lemmas.List.{length-map}
use Rattle.meaning.specs.Algorithm.{Algorithm}
use Rattle.sched.specs.declared.error.Rule.{Rule}
use Rattle.sched.specs.Placing.{SubjectText}
use Rattle.sched.specs.declared.region_rule.RegionRule.{RegionRule}
use Rattle.sched.specs.declared.definitions.Formula.{Formula}
use Rattle.sched.specs.declared.definitions.Stored.{Stored}
use Rattle.lower.specs.declared.error.LowerError.{LowerError}
use Rattle.lower.specs.declared.error.LowerError.TheVariants as error
use Rattle.sched.specs.declared.hosts.Inner.{Inner}
use Rattle.lower.specs.declared.lowering.Lowered.{Lowered}
use Rattle.lower.specs.declared.parties.Party.{Party}
use Rattle.sched.specs.declared.roots.Laid.{Laid}
use Rattle.sched.specs.Stored.{FormulaText, StoredText, formula_of, stored_of}
use Rattle.sched.specs.Regions.{LaidText, laid_of}
use Rattle.regions.specs.Regions.{laid_over, laid_functions}
use Rattle.lower.specs.Broken.{Inside}
use Rattle.regions.specs.Faults.{are_whole}
use Rattle.sched.specs.Fetches.{Entry}
use Rattle.sched.specs.Placed.{PlacedText}
use Rattle.lower.specs.Asked.{reach_in, laid_again, laid_anew, laid_each, are_same, unless_same, unless}
use Rattle.lower.specs.Homes.{AreAllAtHome}
use Rattle.lower.specs.Computed.{AreAllFound}
use Rattle.lower.specs.Groups.{IsOverRegion, AreOverRegions, AreAllFoundIf, Round, Come, all_rooted, all_known, rounds, asked, rooted, is_missing, inside_of, inside_at, placed_in}
use Rattle.lower.specs.Groups.{party_of, placed_of, IsKnown, AreKnown, AreFoundOf, HasGroupsFrom, IsKeptPlan}
use Rattle.lower.specs.Refused.{Answers, AnswersBy, AnswersFrom, IsAskedFrom, IsFirstOver, IsFirstFrom, IsNoneOver, IsNoneFrom}
use Rattle.blocks.proofs.First.{formulas_at, no_formulas}
use Rattle.lower.proofs.Grouped.{all_found, all_inside, placed_all}
use Rattle.lower.proofs.Laying.{laid_it}
use Rattle.blocks.proofs.Laying.{bound}
use Rattle.lower.proofs.Made.{whole_root, whole_rest, groups_made}

-- ---- one function

module _ (a : Algorithm) (es : List Entry) (placed : List (List PlacedText)) where
  pub not_defined : (s : Stored) (l : Option LaidText) → s.formulas ≡ None → None ≡ laid_anew a es placed (stored_of s) (stored_of s).formulas l
  not_defined s l e = ap (λ o. laid_anew a es placed (stored_of s) o l) (sym (no_formulas s e))

  by_parts : (s : Stored) (v : Vec Formula) (l m : Option Laid) → s.formulas ≡ Some v → l ≡ m
      → laid_anew a es placed (stored_of s) (Some (map formula_of v.items)) (option_map laid_of m) ≡ laid_anew a es placed (stored_of s) (stored_of s).formulas (option_map laid_of l)
  by_parts s v l m e h = sym (λ i. laid_anew a es placed (stored_of s) (formulas_at s v e i) (option_map laid_of (h i)))

  pub not_laid : (s : Stored) (v : Vec Formula) (l : Option Laid) → s.formulas ≡ Some v → l ≡ None
      → None ≡ laid_anew a es placed (stored_of s) (stored_of s).formulas (option_map laid_of l)
  not_laid s v l e h = by_parts s v l None e h

  pub laid_so : {E : Type 0} (s : Stored) (v : Vec Formula) (l : Option Laid) (x : Laid) (r : Result (Option Laid) E) → s.formulas ≡ Some v → l ≡ Some x
      → IfOk r (λ found. option_map laid_of found ≡ laid_again a es placed (stored_of s) (map formula_of v.items))
      → IfOk r (λ found. option_map laid_of found ≡ laid_anew a es placed (stored_of s) (stored_of s).formulas (option_map laid_of l))
  laid_so s v l x r e h is = subst (λ (o : Option LaidText). IfOk r (λ found. option_map laid_of found ≡ o)) (by_parts s v l (Some x) e h) is

  -- its loops are those of the skeleton over it
  over_again : (g : StoredText) (o : Option (List FormulaText)) (l m : Option LaidText) → laid_anew a es placed g o l ≡ m → IsOverRegion g m o
  over_again g None l None e = tt
  over_again g None l (Some x) e = absurd cc
  over_again g (Some fs) None None e = tt
  over_again g (Some fs) None (Some x) e = absurd cc
  over_again g (Some fs) (Some l) None e = tt
  over_again g (Some fs) (Some l) (Some x) e = let b = bound (reach_in a es placed g) (laid_over a g fs) x e in laid_it a g fs b.value x b.comes

  each_over : (gs : List StoredText) (ls : List (Option LaidText)) → AreOverRegions gs (laid_each a es placed gs ls)
  each_over [] ls = tt
  each_over (g ∷ gs) [] = tt
  each_over (g ∷ gs) (l ∷ ls) = (over_again g g.formulas l (laid_anew a es placed g g.formulas l) refl, each_over gs ls)

-- ---- all of them

pub no_bounds : (inside : List Inside) (o : Option (List (Option LaidText))) → list_any is_missing inside ≡ true → None ≡ unless (list_any is_missing inside) o
no_bounds inside o e = ap (λ b. unless b o) (sym e)

module _ (a : Algorithm) (gs : List StoredText) (ls : List (Option LaidText)) (qs : List Party) (v : Vec (Option Laid)) (roots : map party_of qs ≡ rooted true gs ls)
    (made : map (option_map laid_of) v.items ≡ laid_each a (map party_of qs) (map placed_of qs) gs ls) (known : list_any is_missing (map inside_at qs) ≡ false) where
  by_rooted : laid_each a (map party_of qs) (map placed_of qs) gs ls ≡ laid_each a (rooted true gs ls) (map placed_in (map inside_at qs)) gs ls
  by_rooted = λ i. laid_each a (roots i) (sym (placed_all qs) i) gs ls

  with_same : (b : Bool) → are_same ls (map (option_map laid_of) v.items) ≡ b
      → (if b then None else Some (map (option_map laid_of) v.items)) ≡ unless (list_any is_missing (map inside_at qs)) (asked a gs ls (map placed_in (map inside_at qs)))
  with_same b same = sym (ap (λ k. unless k (asked a gs ls (map placed_in (map inside_at qs)))) known ∙ ap (unless_same ls) (sym (made ∙ by_rooted))
      ∙ ap (λ k. if k then None else Some (map (option_map laid_of) v.items)) same)

  pub asked_same : are_same ls (map (option_map laid_of) v.items) ≡ true → None ≡ unless (list_any is_missing (map inside_at qs)) (asked a gs ls (map placed_in (map inside_at qs)))
  asked_same same = with_same true same

  pub asked_others : are_same ls (map (option_map laid_of) v.items) ≡ false
      → Some (map (option_map laid_of) v.items) ≡ unless (list_any is_missing (map inside_at qs)) (asked a gs ls (map placed_in (map inside_at qs)))
  asked_others same = with_same false same

pub over_asked : (a : Algorithm) (es : List Entry) (placed : List (List PlacedText)) (gs : List StoredText) (ls ms : List (Option LaidText)) → ms ≡ laid_each a es placed gs ls
    → AreOverRegions gs ms
over_asked a es placed gs ls ms e = subst (AreOverRegions gs) (sym e) (each_over a es placed gs ls)

-- ---- rounds

-- so many functions, or none where each is a root function
pub no_rounds : (gs : List StoredText) → all_rooted gs ≡ true → 0 ≡ rounds gs
no_rounds gs e = ap (λ b. if b then 0 else length gs) (sym e)

pub as_many_rounds : (ss : List Stored) → all_rooted (map stored_of ss) ≡ false → length ss ≡ rounds (map stored_of ss)
as_many_rounds ss isnt = sym (length-map ss stored_of) ∙ ap (λ b. if b then 0 else length (map stored_of ss)) (sym isnt)

whole_rooted : (gs : List StoredText) → are_whole gs ≡ true → all_rooted gs ≡ true
whole_rooted [] w = refl
whole_rooted (g ∷ gs) w = λ i. whole_root g gs w i && whole_rooted gs (whole_rest g gs w) i

pub whole_once : (gs : List StoredText) (n : ℕ) → n ≡ rounds gs → are_whole gs ≡ true → n ≡ 0
whole_once gs n e w = e ∙ ap (λ b. if b then 0 else length gs) (whole_rooted gs w)

is_told : (o : Option (List (Option LaidText))) (b : Bool) (ms : List (Option LaidText)) → unless b o ≡ Some ms → (b ≡ false) × (o ≡ Some ms)
is_told o true ms e = absurd cc
is_told o false ms e = (refl, e)

first_known : (r : Result (Vec Inner) (List ℕ)) (b : Bool) → (is_missing (inside_of r) || b) ≡ false → IsKnown r × (b ≡ false)
first_known (Err x) b e = absurd (false≢true (sym e))
first_known (Ok v) b e = (tt, e)

are_known : (qs : List Party) → list_any is_missing (map inside_at qs) ≡ false → AreKnown qs
are_known [] e = tt
are_known (q ∷ qs) e = let k = first_known q.inners (list_any is_missing (map inside_at qs)) e in (k.0, are_known qs k.1)

answers_weaker : (a : Algorithm) (gs : List StoredText) (P P' : Lowered → Type 0) (Q Q' : RegionRule → List ℕ → Type 0) (N N' : Type 0) (o : Option (Rule × List ℕ))
    (r : Result Lowered LowerError) → ((l : Lowered) → P l → P' l) → ((q : RegionRule) (x : List ℕ) → Q q x → Q' q x) → (N → N') → AnswersBy a gs P Q N o r → AnswersBy a gs P' Q' N' o r
answers_weaker a gs P P' Q Q' N N' o (Ok l) f g k h = (h.0, h.1, h.2, f l h.3, h.4)
answers_weaker a gs P P' Q Q' N N' o (Err error.Memory) f g k h = tt
answers_weaker a gs P P' Q Q' N N' o (Err (error.Schedule e)) f g k h = (h.0, k h.1)
answers_weaker a gs P P' Q Q' N N' o (Err (error.Broken r x)) f g k h = (h.0, h.1, g r x h.2)

module _ (a : Algorithm) (us : List SubjectText) (gs : List StoredText) (ls : List (Option LaidText)) (qs : List Party) (o : Option (Rule × List ℕ)) (r : Result Lowered LowerError)
    (roots : map party_of qs ≡ rooted true gs ls) (homes : AreAllAtHome (map party_of qs) (rooted false gs ls) (map placed_of qs))
    (found : AreFoundOf a (length (rooted false gs ls)) (rooted false gs ls) qs) where
  at_home : AreAllAtHome (rooted true gs ls) (rooted false gs ls) (map placed_of qs)
  at_home = subst (λ (es : List Entry). AreAllAtHome es (rooted false gs ls) (map placed_of qs)) roots homes

  -- what is said over these regions
  abbrev Here : Type 0
  Here = AnswersBy a gs (IsKeptPlan a gs ls qs) (IsFirstOver a us gs o ls (map inside_at qs)) (IsNoneOver a us gs o ls (map inside_at qs)) o r

  come_here : (n : ℕ) → Come a gs n ls ls (map inside_at qs) → (are_whole gs ≡ true → ls ≡ laid_functions a gs) → Here → AnswersFrom a us gs n ls o r
  come_here n come laid is =
      let over : (P : List (Option LaidText) → List Inside → Type 0) → P ls (map inside_at qs) → IsAskedFrom a gs n ls P = λ P h. record {
        regions = ls;
        inside = map inside_at qs;
        homes = subst (λ (js : List (List PlacedText)). AreAllAtHome (rooted true gs ls) (rooted false gs ls) js) (sym (placed_all qs)) at_home;
        found = subst (λ (es : List Entry). AreAllFoundIf a (length (rooted false gs ls)) es (rooted false gs ls) (map inside_at qs)) roots
            (all_inside a (length (rooted false gs ls)) (rooted false gs ls) qs found);
        come = come;
        over = h;
      } in
      answers_weaker a gs (IsKeptPlan a gs ls qs) (HasGroupsFrom a gs n ls) (IsFirstOver a us gs o ls (map inside_at qs)) (IsFirstFrom a us gs n ls o)
      (IsNoneOver a us gs o ls (map inside_at qs)) (IsNoneFrom a us gs n ls o) o r (λ l p. groups_made a gs n ls qs l p laid come)
      (λ q x h. over (λ ms inside. IsFirstOver a us gs o ms inside q x) h) (λ h. over (IsNoneOver a us gs o) h) is

  -- no round more may be made
  pub no_more : (n : ℕ) → n ≡ 0 → Here → (are_whole gs ≡ true → ls ≡ laid_functions a gs) → AnswersFrom a us gs n ls o r
  no_more n e is laid = subst (λ (k : ℕ). AnswersFrom a us gs k ls o r) (sym e) (come_here 0 refl laid is)

  -- the turns ask for no others, or a bound is missing
  pub no_others : (n k : ℕ) → n ≡ k + 1 → None ≡ unless (list_any is_missing (map inside_at qs)) (asked a gs ls (map placed_in (map inside_at qs)))
      → Here → (are_whole gs ≡ true → ls ≡ laid_functions a gs) → AnswersFrom a us gs n ls o r
  no_others n k e none is laid = subst (λ (m : ℕ). AnswersFrom a us gs m ls o r) (sym (e ∙ add-one k)) (come_here (suc k) (inl (refl, sym none)) laid is)

  -- they ask for these
  pub one_more : (n k : ℕ) (ms : List (Option LaidText)) → n ≡ k + 1 → Some ms ≡ unless (list_any is_missing (map inside_at qs)) (asked a gs ls (map placed_in (map inside_at qs)))
      → AnswersFrom a us gs k ms o r → AnswersFrom a us gs n ls o r
  one_more n k ms e some is =
      let told = is_told (asked a gs ls (map placed_in (map inside_at qs))) (list_any is_missing (map inside_at qs)) ms (sym some) in
      let among = all_found a (length (rooted false gs ls)) (rooted false gs ls) qs found (are_known qs told.0) in
      let round : (P : List (Option LaidText) → Type 0) → P ms → Round a gs ls P = λ P p. record {
        placed = map placed_of qs;
        inside = record { homes = at_home; found = subst (λ (es : List Entry). AreAllFound a (length (rooted false gs ls)) es (rooted false gs ls) (map placed_of qs)) roots among };
        others = ms;
        asks = ap (asked a gs ls) (sym (placed_all qs)) ∙ told.1;
        further = p;
      } in
      let later : (l : Lowered) → HasGroupsFrom a gs k ms l → HasGroupsFrom a gs (suc k) ls l = λ l h. record {
        head = h.head;
        each = h.each;
        owned = h.owned;
        needed = h.needed;
        blocks = h.blocks;
        bodies = h.bodies;
        windows = h.windows;
        placed = record {
          regions = h.placed.regions;
          laid = h.placed.laid;
          around = h.placed.around;
          over = h.placed.over;
          inside = h.placed.inside;
          come = inr (round (λ others. Come a gs k others h.placed.regions (all_known h.placed.inside.placed)) h.placed.come);
          kept = h.placed.kept;
        };
      } in
      let over : (P : List (Option LaidText) → List Inside → Type 0) → IsAskedFrom a gs k ms P → IsAskedFrom a gs (suc k) ls P = λ P h. record {
        regions = h.regions;
        inside = h.inside;
        homes = h.homes;
        found = h.found;
        come = inr (round (λ others. Come a gs k others h.regions h.inside) h.come);
        over = h.over;
      } in
      subst (λ (m : ℕ). AnswersFrom a us gs m ls o r) (sym (e ∙ add-one k))
      (answers_weaker a gs (HasGroupsFrom a gs k ms) (HasGroupsFrom a gs (suc k) ls) (IsFirstFrom a us gs k ms o) (IsFirstFrom a us gs (suc k) ls o)
      (IsNoneFrom a us gs k ms o) (IsNoneFrom a us gs (suc k) ls o) o r later (λ q x h. over (λ rs inside. IsFirstOver a us gs o rs inside q x) h) (λ h. over (IsNoneOver a us gs o) h) is)

-- from the regions that are needed of the loops over whole functions on, as many rounds as there may be
pub from_needed : (a : Algorithm) (us : List SubjectText) (gs : List StoredText) (o : Option (Rule × List ℕ)) (r : Result Lowered LowerError) (n : ℕ) (ls : List (Option LaidText))
    → n ≡ rounds gs → ls ≡ laid_functions a gs → AnswersFrom a us gs n ls o r → Answers a us gs o r
from_needed a us gs o r n ls e h is = subst (λ (m : ℕ). AnswersFrom a us gs m (laid_functions a gs) o r) e (subst (λ (ms : List (Option LaidText)). AnswersFrom a us gs n ms o r) h is)
