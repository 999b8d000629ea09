-- What a whole schedule makes of a function's loops is what some directives make of them, one after another.
use Rattle.std.proofs.Common.{◌≡◌, ℕ, zero, suc, List, [], ◌∷◌, ◌++◌, map, slice_get, slice_set, Option, Some, None, Result, Ok, Err, refl, sym, ap, ◌∙◌, subst, inl, inr}
use Rattle.std.specs.Prelude.{◌⊎◌, position}
use Rattle.meaning.specs.Names.{same_name}
use Rattle.sched.specs.declared.error.Rule.{Rule}
use Rattle.sched.specs.Schedule.{DirectiveText, ScheduledText, Schedule}
use Rattle.sched.specs.Placing.{SubjectText, PlacedText, and_next, applied, all_in, start, Outcome, with_placed, placed_at, numbered, scheduled_in, and_then, schedule_in}
use Rattle.sched.specs.Subjects.{subject_said}
use Rattle.sched.specs.Visits.{SchedulesVisitTheirRegions}
use Rattle.sched.proofs.Starting.{visit_their_region}

-- ---- lists

get_set : {A : Type 0} (xs : List A) (j : ℕ) (x : A) (i : ℕ) (y : A) → slice_get (slice_set xs j x) i ≡ Some y → ((i ≡ j) × (x ≡ y)) ⊎ (slice_get xs i ≡ Some y)
get_set [] j x i y e = inr e
get_set (z ∷ zs) zero x zero y e = inl (refl, cc)
get_set (z ∷ zs) zero x (suc i) y e = inr e
get_set (z ∷ zs) (suc j) x zero y e = inr e
get_set (z ∷ zs) (suc j) x (suc i) y e = of (get_set zs j x i y e)
  where
    of : ((i ≡ j) × (x ≡ y)) ⊎ (slice_get zs i ≡ Some y) → ((suc i ≡ suc j) × (x ≡ y)) ⊎ (slice_get zs i ≡ Some y)
    of (inl k) = inl (ap suc k.0, k.1)
    of (inr k) = inr k

pub get_map : {A B : Type 0} (f : A → B) (xs : List A) (i : ℕ) (x : A) → slice_get xs i ≡ Some x → slice_get (map f xs) i ≡ Some (f x)
get_map f [] i x e = absurd (cc e)
get_map f (y ∷ ys) zero x e = (let same : y ≡ x = cc in ap (λ z. Some (f z)) same)
get_map f (y ∷ ys) (suc i) x e = get_map f ys i x e

-- ---- directives, one list behind another

all_behind : (f : SubjectText) (ds es : List DirectiveText) (p : PlacedText) → all_in f (ds ++ es) p ≡ and_next (all_in f ds p) (all_in f es)
all_behind f [] es p = refl
all_behind f (d ∷ ds) es p = of (applied f d p) (λ q. all_behind f ds es q)
  where
    of : (o : Result PlacedText Rule) → ((q : PlacedText) → all_in f (ds ++ es) q ≡ and_next (all_in f ds q) (all_in f es)) →
        and_next o (all_in f (ds ++ es)) ≡ and_next (and_next o (all_in f ds)) (all_in f es)
    of (Ok q) rest = rest q
    of (Err r) rest = refl

-- each function's loops are what some directives make of its first ones
abbrev pub ArePlaced : List SubjectText → List PlacedText → Type 0
ArePlaced fs ps = (i : ℕ) (f : SubjectText) (p : PlacedText) → slice_get fs i ≡ Some f → slice_get ps i ≡ Some p → (ds : List DirectiveText) × (all_in f ds (start f) ≡ Ok p)

pub starts_placed : (fs : List SubjectText) → ArePlaced fs (map start fs)
starts_placed fs i f p at is = ([], let e : Some (start f) ≡ Some p = sym (get_map start fs i f at) ∙ is in cc e)

some_outcome : (ps qs : List PlacedText) → ◌≡◌ {A = Outcome} (Ok ps) (Ok qs) → ps ≡ qs
some_outcome ps qs e = cc

module _ (fs : List SubjectText) where
  one_placed : (ps qs : List PlacedText) (j : ℕ) (t : ScheduledText) (g : SubjectText) (q : PlacedText) → slice_get fs j ≡ Some g → slice_get ps j ≡ Some q → ArePlaced fs ps →
      (o : Result PlacedText Rule) → all_in g t.directives q ≡ o → with_placed ps j t.function o ≡ Ok qs → ArePlaced fs qs
  one_placed ps qs j t g q at is h (Err r) k e i f p there was = absurd (cc e)
  one_placed ps qs j t g q at is h (Ok n) k e i f p there was =
      of (get_set ps j n i p (ap (λ (l : List PlacedText). slice_get l i) (some_outcome (slice_set ps j n) qs e) ∙ was))
    where
      of : ((i ≡ j) × (n ≡ p)) ⊎ (slice_get ps i ≡ Some p) → (ds : List DirectiveText) × (all_in f ds (start f) ≡ Ok p)
      of (inr m) = h i f p there m
      of (inl m) =
          let same : Some g ≡ Some f = sym at ∙ ap (slice_get fs) (sym m.0) ∙ there in
          let is_same : g ≡ f = cc same in
          let before = h j g q at is in
          let made : all_in g (before.0 ++ t.directives) (start g) ≡ Ok p = all_behind g before.0 t.directives (start g) ∙ ap (λ o. and_next o (all_in g t.directives)) before.1 ∙ k
          ∙ ap (λ m. Ok m) m.1 in
          (before.0 ++ t.directives, subst (λ s. all_in s (before.0 ++ t.directives) (start s) ≡ Ok p) is_same made)

  at_number : (ps qs : List PlacedText) (j : ℕ) (t : ScheduledText) (a : Option SubjectText) (b : Option PlacedText) → slice_get fs j ≡ a → slice_get ps j ≡ b → ArePlaced fs ps →
      placed_at ps j t a b ≡ Ok qs → ArePlaced fs qs
  at_number ps qs j t (Some g) (Some q) at is h e = one_placed ps qs j t g q at is h (all_in g t.directives q) refl e
  at_number ps qs j t (Some g) None at is h e = absurd (cc e)
  at_number ps qs j t None b at is h e = absurd (cc e)

  by_number : (ps qs : List PlacedText) (t : ScheduledText) (o : Option ℕ) → ArePlaced fs ps → numbered fs t ps o ≡ Ok qs → ArePlaced fs qs
  by_number ps qs t (Some j) h e = at_number ps qs j t (slice_get fs j) (slice_get ps j) refl refl h e
  by_number ps qs t None h e = absurd (cc e)

  pub all_placed : (s : Schedule) (ps qs : List PlacedText) → ArePlaced fs ps → schedule_in fs s ps ≡ Ok qs → ArePlaced fs qs
  all_placed [] ps qs h e = subst (ArePlaced fs) (some_outcome ps qs e) h
  all_placed (t ∷ s) ps qs h e = of (scheduled_in fs t ps) refl e (λ ms k d. all_placed s ms qs k d)
    where
      of : (o : Outcome) → scheduled_in fs t ps ≡ o → and_then o (schedule_in fs s) ≡ Ok qs → ((ms : List PlacedText) → ArePlaced fs ms → schedule_in fs s ms ≡ Ok qs → ArePlaced fs qs) →
          ArePlaced fs qs
      of (Ok ms) k e rest = rest ms (by_number ps ms t (position (λ f. same_name f.name t.function) fs) h k) e
      of (Err r) k e rest = absurd (cc e)

pub visit_their_regions : SchedulesVisitTheirRegions
visit_their_regions a s ps i f p region k placed at is names long made number b there =
    let fs = map (subject_said a s) a.functions in
    let m = all_placed fs s (map start fs) ps (starts_placed fs) placed i (subject_said a s f) p (get_map (subject_said a s) a.functions i f at) is in
    visit_their_region f (subject_said a s f) m.0 p region k names (record { variables = refl; reductions = refl }) m.1 long made number b there
