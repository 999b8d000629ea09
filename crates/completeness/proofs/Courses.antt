-- Coordinates over loops, over the lets of shifted blocks, and over lets behind guards: what each is while some of these steps are left, and what is asked of steps and coordinates.
use Rattle.std.proofs.Common.{◌≡◌, ℕ, ◌+◌, ◌≤◌, ◌^◌, Bool, true, false, ◌||◌, List, [], ◌∷◌, map, Some, ◌⊎◌}
use Rattle.std.specs.Prelude.{ℤ, pos, ◌+ℤ◌, ◌≤ℤ◌, ◌==◌, if◌then◌else◌}
use Rattle.std.specs.List.{AllByRecursion, list_any}
use Rattle.std.specs.Int.RustNames.{unsigned_abs}
use Rattle.lin.specs.Forms.{Form, number, factor_of, without, combined, same_form}
use Rattle.lin.specs.declared.span.Span1.{Span1}
use Rattle.plan.specs.declared.stmt.Pick.TheVariants.{Min}
use Rattle.soundness.specs.Claims.{In}
use Rattle.soundness.specs.Obligations.{Binder, Ranged, Picked, form_has}
use Rattle.sched.specs.Standing.{alone}
use Rattle.tails.specs.Moves.{State, expanded}
use Rattle.completeness.proofs.LoopMoves.{Item, is_lone, is_left, AreApart, One}
use Rattle.completeness.proofs.TailSteps.{Line, Loop, Block, Pair, is_loop}
use Rattle.completeness.proofs.PlainTurns.{one_if}
use Rattle.completeness.proofs.BlockMoves.{Target, Sums, hits_of, FitsTo, now, form_at, SumFits, InOrder}
use Rattle.completeness.proofs.BlockCaps.{capped, HaveNot}
use Rattle.completeness.proofs.BlockLimits.{limited_by, caps}
use Rattle.completeness.proofs.BestPicks.{IsOne}

pub data Course : Type 0 where
  -- over loops alone, some with further upper forms
  Plain : Form → List Item → Course
  -- over the symbol of a let and loops; where the let is put in, another form over more loops, and kept at these forms
  Opened : ℕ → Form → List Item → Form → List Item → (List Item → List Form) → Course

abbrev pub count : (Course → Bool) → List Course → ℕ
count q [] = 0
count q (c ∷ cs) = one_if (q c) + count q cs

-- the let of this symbol opens it
abbrev pub opened_by : ℕ → Course → Bool
opened_by s (Plain f us) = false
opened_by s (Opened r f us g vs c) = r == s

-- its form in the store
abbrev pub begin_of : Course → Form
begin_of (Plain f us) = f
begin_of (Opened r f us g vs c) = f

-- with all lets put in
abbrev pub rest_of : Course → Target
rest_of (Plain f us) = Sums f us
rest_of (Opened r f us g vs c) = Sums g vs

-- while these are left
abbrev pub target_at : List Item → Course → Target
target_at ts (Plain f us) = Sums f us
target_at ts (Opened r f us g vs c) = if is_left r ts then Sums f us else Sums g vs

-- a let's form has the symbol
abbrev pub line_has : ℕ → Line → Bool
line_has i Loop = false
line_has i (Block f z) = form_has i f
line_has i (Pair f z) = form_has i f

-- what each symbol is of, the further upper forms of loops, those that they are kept at, and the factors of symbols
module _ (line : ℕ → Line) (lim tops : ℕ → List Form) (factor : ℕ → ℤ) where
  abbrev pub opens : ℕ → Item → Bool
  opens i w = line_has i (line w.symbol)

  -- the steps behind guards, as the checker walks them
  abbrev pub step_line : Line → List Form → Item → Binder
  step_line Loop fs t = limited_by lim tops fs t
  step_line (Block f z) fs t = Picked t.symbol Min (f ∷ number z ∷ [])
  step_line (Pair f z) fs t = Ranged t.symbol (record { lower = f ∷ []; upper = f ∷ number z ∷ [] })

  abbrev pub step : Item → Binder
  step t = step_line (line t.symbol) (lim t.symbol) t

  -- besides its own symbol the step has this one
  abbrev pub names : ℕ → Item → Bool
  names i w = opens i w || (if is_loop (line w.symbol) then list_any (form_has i) (lim w.symbol) else false)

  abbrev pub caps_at : List Item → Course → List Form
  caps_at ts (Plain f us) = caps lim tops ts us
  caps_at ts (Opened r f us g vs c) = if is_left r ts then [] else c ts

  abbrev pub span_at : List Item → Course → Span1
  span_at ts c = capped (now factor ts (target_at ts c)) (caps_at ts c)

  -- the coordinates, and all steps
  module _ (cs : List Course) (all : List Item) where
    abbrev pub state_at : List Item → State
    state_at ts = record { steps = map step ts; spans = map (span_at ts) cs }

    -- no let waits for the symbol's loop
    abbrev pub OpensNone : ℕ → Type 0
    OpensNone i = (w : Item) → In w all → opens i w ≡ false

    -- the loop is in both forms of a coordinate, or in none, or in that behind the let alone, whose form then has it
    abbrev pub FitsCourse : Item → Course → Type 0
    FitsCourse t (Plain f us) = FitsTo t (Sums f us) × (is_left t.symbol us ≡ true → OpensNone t.symbol)
    FitsCourse t (Opened r f us g vs c) =
        FitsTo t (Sums f us) × FitsTo t (Sums g vs) × ((r == t.symbol) ≡ false)
        × (((is_left t.symbol us ≡ is_left t.symbol vs) × (is_left t.symbol vs ≡ true → OpensNone t.symbol))
        ⊎ ((is_left t.symbol us ≡ false) × ((w : Item) → In w all → opens t.symbol w ≡ (w.symbol == r))))

    -- a loop with a further upper form is in a coordinate over loops alone
    abbrev pub IsApartFrom : Item → Course → Type 0
    IsApartFrom t (Plain f us) = Unit {0}
    IsApartFrom t (Opened r f us g vs c) = (is_left t.symbol us ≡ false) × (is_left t.symbol vs ≡ false)

    -- its form names symbols of greater factors, and with it the coordinate comes to a number
    pub record IsTopped (t : Item) (g : Form) : Type 0 where
      pub is : lim t.symbol ≡ g ∷ []
      pub top : ℤ
      pub tops_are : tops t.symbol ≡ number top ∷ []
      pub once : factor t.symbol ≡ pos 1
      pub turns : is_lone t ≡ false
      pub own : form_has t.symbol g ≡ false
      pub unlike : same_form g (number t.low) ≡ false
      pub wide : (u : Item) → In u all → is_loop (line u.symbol) ≡ true → form_has u.symbol g ≡ true → pos 2 ≤ℤ factor u.symbol
      pub comes : (f : Form) (us : List Item) → In (Plain f us) cs → is_left t.symbol us ≡ true → combined (without f t.symbol) (pos 1) g ≡ Some (number top)
      pub plain : AllByRecursion (IsApartFrom t) cs

    pub record LoopFits (t : Item) : Type 0 where
      pub fits : AllByRecursion (FitsCourse t) cs
      pub once : hits_of t.symbol (map rest_of cs) ≡ 1
      pub near : unsigned_abs t.low ≤ 2 ^ 40
      pub last_near : unsigned_abs t.last ≤ 2 ^ 40
      pub limits : ((lim t.symbol ≡ []) × (tops t.symbol ≡ [])) ⊎ ((g : Form) × IsTopped t g)

    -- the symbol of a let is in the coordinate that it opens alone, while it is left
    abbrev pub IsStrange : ℕ → Course → Type 0
    IsStrange s (Plain f us) = (is_left s us ≡ false) × (form_has s f ≡ false)
    IsStrange s (Opened r f us g vs c) = (is_left s us ≡ false) × (is_left s vs ≡ false) × (form_has s f ≡ (r == s)) × (form_has s g ≡ false)

    -- what a let behind a guard opens is its own symbol
    abbrev pub OwnPair : ℕ → Form → ℤ → Course → Type 0
    OwnPair s h z (Plain f us) = Unit {0}
    OwnPair s h z (Opened r f us g vs c) = (r == s) ≡ true → (f ≡ alone s) × (us ≡ []) × (g ≡ h) × ((ts : List Item) → c ts ≡ number z ∷ [])
        × (combined (number (pos 0)) (pos 1) h ≡ Some h) × (combined (number (pos 0)) (pos 1) (number z) ≡ Some (number z))

    -- what a shifted block's let opens is its own symbol and the loop over the block's numbers, which is gone, or has one number
    pub record IsShifted (s : ℕ) (h : Form) (z : ℤ) (f : Form) (us : List Item) (g : Form) (vs : List Item) (c : List Item → List Form) : Type 0 where
      pub counts : factor_of f.terms s ≡ pos 1
      pub puts : (e : Item → ℤ) → ((u : Item) → In u us → (e u ≡ u.low) ⊎ (e u ≡ u.last)) → (ts : List Item) → ((u : Item) → In u us → is_lone u ≡ false → is_left u.symbol ts ≡ false) →
          ((u : Item) → In u vs → is_left u.symbol us ≡ false → is_left u.symbol ts ≡ true) → combined (without (form_at factor e ts f us) s) (pos 1) h ≡ Some (form_at factor e ts g vs)
      pub keeps : (ts : List Item) → ((u : Item) → In u us → is_lone u ≡ false → is_left u.symbol ts ≡ false) →
          ((u : Item) → In u vs → is_left u.symbol us ≡ false → is_left u.symbol ts ≡ true) → (d : Form) × (combined (without (form_at factor (λ u. u.last) ts f us) s) (pos 1) (number z) ≡
          Some d) × (c ts ≡ d ∷ [])

    abbrev pub OwnBlock : ℕ → Form → ℤ → Course → Type 0
    OwnBlock s h z (Plain f us) = Unit {0}
    OwnBlock s h z (Opened r f us g vs c) = (r == s) ≡ true → IsShifted s h z f us g vs c

    abbrev pub OwnLine : Bool → ℕ → Line → Type 0
    OwnLine exact s Loop = Unit {0}
    OwnLine exact s (Block f z) = AllByRecursion (OwnBlock s f z) cs × (exact ≡ false)
    OwnLine exact s (Pair f z) = AllByRecursion (OwnPair s f z) cs

    pub record OpenerFits (exact : Bool) (t : Item) : Type 0 where
      pub strange : AllByRecursion (IsStrange t.symbol) cs
      pub once : count (opened_by t.symbol) cs ≡ 1
      pub unnamed : (w : Item) → In w all → names t.symbol w ≡ false
      pub own : OwnLine exact t.symbol (line t.symbol)

    -- what a coordinate is kept at changes with the loops of its first form alone
    pub record CapsFit (us : List Item) (c : List Item → List Form) : Type 0 where
      pub same : (ts : List Item) (p : One) → IsOne ts p → is_left p.one.symbol us ≡ false → (c p.others ≡ c ts) × HaveNot p.one.symbol (c ts)
      pub puts : (exact : Bool) (shows : Form → Form → Bool) (ts : List Item) (p : One) → IsOne ts p → (t : Item) → In t us → t ≡ p.one → is_lone p.one ≡ true →
          expanded exact shows p.one.symbol (number p.one.low ∷ []) (c ts) ≡ Some (c p.others)

    abbrev pub AreInside : List Item → Type 0
    AreInside us = (u : Item) → In u us → In u all × (is_loop (line u.symbol) ≡ true)

    abbrev pub CourseFits : Course → Type 0
    CourseFits (Plain f us) = SumFits factor f us × AreInside us
    CourseFits (Opened r f us g vs c) =
        SumFits factor f us × SumFits factor g vs × AreInside us × AreInside vs × CapsFit us c
        × ((u v : Item) → In u vs → In v vs → is_lone u ≡ false → is_lone v ≡ false → is_left u.symbol us ≡ true → is_left v.symbol us ≡ false → (factor u.symbol +ℤ pos 1) ≤ℤ factor v.symbol)

    -- all that is asked
    pub record AllFits (exact : Bool) : Type 0 where
      pub loops : (t : Item) → In t all → is_loop (line t.symbol) ≡ true → LoopFits t
      pub lets : (t : Item) → In t all → is_loop (line t.symbol) ≡ false → OpenerFits exact t
      pub courses : AllByRecursion CourseFits cs
      pub bare : (s i : ℕ) → HaveNot i (tops s)

    -- what is so of the steps that are left
    pub record Stands (ts : List Item) : Type 0 where
      pub apart : AreApart ts
      pub sub : (t : Item) → In t ts → In t all
      pub order : AllByRecursion (λ c. InOrder factor ts (target_at ts c)) cs
      pub full : (f : Form) (us : List Item) → In (Plain f us) cs → (p : Item) (g : Form) → In p us → IsTopped p g → is_left p.symbol ts ≡ true →
          AllByRecursion (λ u. is_left u.symbol ts ≡ true) us
      pub stay : (t w : Item) → In t all → is_loop (line t.symbol) ≡ true → In w ts → opens t.symbol w ≡ true → is_left t.symbol ts ≡ true
      pub gone : (r : ℕ) (f : Form) (us : List Item) (g : Form) (vs : List Item) (c : List Item → List Form) → In (Opened r f us g vs c) cs → is_left r ts ≡ false →
          (u : Item) → In u us → is_lone u ≡ false → is_left u.symbol ts ≡ false
