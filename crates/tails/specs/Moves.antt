-- Which values coordinates take over the turns of their loops, lets and guards: a span for each, made by taking one step after
-- another away. A span is told by forms of the symbols whose steps are still there.
use Rattle.std.specs.Prelude.{ℕ, zero, suc, ◌||◌, ◌&&◌, Bool, true, false, not, if◌then◌else◌, List, [], ◌∷◌, ◌++◌, map, flat_map, filter, length, Option, Some, None, option_and_then, ℤ, pos, negsuc, ◌+ℤ◌, ◌-ℤ◌, int_le}
use Rattle.std.specs.List.{list_any, list_all}
use Rattle.std.specs.Option.{option_map}
use Rattle.std.specs.Ordering.{int_eq}
use Rattle.lin.specs.Forms.{Form, number, factor_of, combined, same_terms, same_form}
use Rattle.lin.specs.Search.{is_empty, replaced}
use Rattle.lin.specs.declared.span.Span1.{Span1}
use Rattle.plan.specs.declared.stmt.Pick.{Pick}
use Rattle.plan.specs.declared.stmt.Pick.TheVariants.{Min, Max}
use Rattle.plan.specs.Semantics.Setting.{or_else}
use Rattle.soundness.specs.Obligations.{Binder, Ranged, Picked, Passed, exactly, form_has, span_has, binder_has}
use Rattle.soundness.specs.Nests.Tests.{has_ends}
use Rattle.tails.specs.Steps.{Step, along, binds}

-- ---- lists

-- a step and those beside it
pub record Choice : Type 0 where
  pub one : Binder
  pub others : List Binder

abbrev pub behind : Binder → Choice → Choice
behind b c = record { one = c.one; others = b ∷ c.others }

abbrev pub choices : List Binder → List Choice
choices [] = []
choices (b ∷ bs) = record { one = b; others = bs } ∷ map (behind b) (choices bs)

abbrev pub first_some : {A B : Type 0} → (A → Option B) → List A → Option B
first_some f [] = None
first_some f (x ∷ xs) = or_else (f x) (first_some f xs)

-- the two lists together, where both are there
abbrev pub joined : {A : Type 0} → Option (List A) → Option (List A) → Option (List A)
joined None ys = None
joined (Some xs) None = None
joined (Some xs) (Some ys) = Some (xs ++ ys)

abbrev pub single : {A : Type 0} → Option A → Option (List A)
single None = None
single (Some x) = Some (x ∷ [])

abbrev pub only : {A : Type 0} → List A → Option A
only (x ∷ []) = Some x
only _ = None

-- ---- forms

abbrev pub naming : ℕ → List Form → List Form
naming i fs = filter (form_has i) fs

abbrev pub not_naming : ℕ → List Form → List Form
not_naming i fs = filter (λ f. not (form_has i f)) fs

-- a form with each of the others in the symbol's place; None where one of them leaves the limits
abbrev pub each_replaced : Form → ℕ → ℤ → List Form → Option (List Form)
each_replaced f i c [] = Some []
each_replaced f i c (g ∷ gs) = joined (single (replaced f i c g)) (each_replaced f i c gs)

abbrev pub is_positive : ℤ → Bool
is_positive c = int_le (pos 1) c

abbrev pub span_from : Option (List Form) → Option (List Form) → Option Span1
span_from None us = None
span_from (Some ls) None = None
span_from (Some ls) (Some us) = Some (record { lower = ls; upper = us })

-- no symbol of the form is bound by the steps
abbrev pub is_outer : List Binder → Form → Bool
is_outer bs f = list_all (λ t. not (list_any (binds t.symbol) bs)) f.terms

-- the symbol is named by none of the steps
abbrev pub is_loose : ℕ → List Binder → Bool
is_loose i others = not (list_any (binder_has i) others)

-- ---- a guard before a let

abbrev pub then_more : Binder → Option (List Binder) → Option (List Binder)
then_more b more = option_map (λ bs. b ∷ bs) more

-- the steps without the guard that the one form is at most the other, if they have it
abbrev pub unguarded : Form → Form → List Binder → Option (List Binder)
unguarded low high [] = None
unguarded low high (Passed l h ∷ bs) = if same_form l low && same_form h high then Some bs else then_more (Passed l h) (unguarded low high bs)
unguarded low high (Ranged i x ∷ bs) = then_more (Ranged i x) (unguarded low high bs)
unguarded low high (Picked i pick ls ∷ bs) = then_more (Picked i pick ls) (unguarded low high bs)

abbrev pub turned : ℕ → Form → Form → List Binder → Option (List Binder) → List Binder
turned i a c bs None = Picked i Min (a ∷ c ∷ []) ∷ bs
turned i a c bs (Some others) = Ranged i (record { lower = a ∷ []; upper = a ∷ c ∷ [] }) ∷ others

-- the one form, and it alone
abbrev pub is_alone : List Form → Bool
is_alone [] = false
is_alone (f ∷ []) = true
is_alone (f ∷ g ∷ fs) = false

-- one form below and the same one above
abbrev pub is_fixed : List Form → List Form → Bool
is_fixed (l ∷ []) (u ∷ []) = same_form l u
is_fixed [] us = false
is_fixed (l ∷ []) [] = false
is_fixed (l ∷ []) (u ∷ v ∷ us) = false
is_fixed (l ∷ m ∷ ls) us = false

-- a loop from a form to the same form has just one turn, so that its symbol is a name for the form
abbrev pub settled : Binder → Binder
settled (Ranged i x) = if is_fixed x.lower x.upper then Picked i Min x.lower else Ranged i x
settled (Picked i pick ls) = Picked i pick ls
settled (Passed low high) = Passed low high

-- behind a guard that `a` is at most `c`, the smaller of the two is `a`: a loop of one turn, or of none where the guard fails
abbrev pub paired : List Binder → List Binder
paired [] = []
paired (Picked i Min (a ∷ c ∷ []) ∷ bs) = turned i a c (paired bs) (unguarded a c (paired bs))
paired (b ∷ bs) = settled b ∷ paired bs

-- ---- moves

-- the steps that are still to be taken, and the span of each coordinate
pub record State : Type 0 where
  pub steps : List Binder
  pub spans : List Span1

-- the upper form is at least n - 1 above the lower one, or that much just so
abbrev pub is_gapless : Form → ℤ → Form → Bool
is_gapless f n u = same_terms u.terms f.terms && int_le (f.constant +ℤ (n -ℤ pos 1)) u.constant

abbrev pub is_block : Form → ℤ → Form → Bool
is_block f n u = same_terms u.terms f.terms && int_eq (f.constant +ℤ (n -ℤ pos 1)) u.constant

-- a loop that may be taken next, with its factor, and whether it has but one turn
pub record Ready : Type 0 where
  pub symbol : ℕ
  pub span : Span1
  pub others : List Binder
  pub factor : ℤ
  pub is_single : Bool

abbrev pub first_naming : ℕ → List Form → Option Form
first_naming i [] = None
first_naming i (f ∷ fs) = if form_has i f then Some f else first_naming i fs

-- the factor of a symbol in the first lower form that names it
abbrev pub lower_factor : ℕ → List Span1 → Option ℤ
lower_factor i ys = option_map (λ f. factor_of f.terms i) (first_naming i (flat_map (λ (y : Span1). y.lower) ys))

-- some upper form is some lower form
abbrev pub is_single : Span1 → Bool
is_single x = list_any (λ u. list_any (same_form u) x.lower) x.upper

abbrev pub is_free_loop : ℕ → Span1 → List Binder → Bool
is_free_loop i x others = is_loose i others && (not (span_has i x) && has_ends x)

abbrev pub ready : List Span1 → Binder → List Binder → Option Ready
ready ys (Ranged i x) others =
    if is_free_loop i x others then option_map (λ n. record { symbol = i; span = x; others = others; factor = n; is_single = is_single x }) (lower_factor i ys) else None
ready ys (Picked i pick ls) others = None
ready ys (Passed low high) others = None

-- the smaller factor first, and of one factor a loop of one turn
abbrev pub is_before : Ready → Ready → Bool
is_before b a = int_le (b.factor +ℤ pos 1) a.factor || (int_eq b.factor a.factor && (b.is_single && not a.is_single))

abbrev pub preferred : Option Ready → Option Ready → Option Ready
preferred None later = later
preferred (Some a) None = Some a
preferred (Some a) (Some b) = if is_before b a then Some b else Some a

abbrev pub best : List Span1 → List Choice → Option Ready
best ys [] = None
best ys (c ∷ cs) = preferred (ready ys c.one c.others) (best ys cs)

-- a let that no other step and no coordinate names
abbrev pub is_idle : List Span1 → Binder → List Binder → Bool
is_idle ys (Picked i pick ls) others = (is_loose i others && (not (list_any (form_has i) ls) && not (is_empty ls))) && not (list_any (span_has i) ys)
is_idle ys (Ranged i x) others = false
is_idle ys (Passed low high) others = false

abbrev pub after_idle : List Span1 → Binder → List Binder → Option State
after_idle ys b others = if is_idle ys b others then Some (record { steps = others; spans = ys }) else None

-- it is gone first, since it may name a loop that a coordinate names too
abbrev pub by_idle : State → Option State
by_idle st = first_some (λ (c : Choice). after_idle st.spans c.one c.others) (choices st.steps)

-- `exact` where no number may be met twice; `shows` says which forms are shown to be at most which, whatever the symbols around
-- the steps stand for
module _ (exact : Bool) (shows : Form → Form → Bool) where
  -- the blocks of n numbers that begin at f lie one beside another
  abbrev pub are_blocks : Form → ℤ → List Form → Bool
  are_blocks f n us = is_positive n && (list_all (is_gapless f n) us && (if exact then list_any (is_block f n) us else true))

  -- a span over all turns of a loop: from the first block's beginning to the last block's end
  abbrev pub over_turns : ℕ → Span1 → Span1 → Form → ℤ → Option Span1
  over_turns i x y f n =
      if are_blocks f n (naming i y.upper) then option_and_then (λ last.
      span_from (joined (each_replaced f i n x.lower) (Some (not_naming i y.lower))) (joined (each_replaced last i n x.upper) (Some (not_naming i y.upper))))
      (combined f (pos 1) (number (n -ℤ pos 1))) else None

  abbrev pub over_loop : ℕ → Span1 → Span1 → Option Span1
  over_loop i x y = option_and_then (λ f. over_turns i x y f (factor_of f.terms i)) (only (naming i y.lower))

  -- the one span that names the loop's symbol is taken over its turns
  abbrev pub taken : ℕ → Span1 → List Span1 → Option (List Span1)
  taken i x [] = None
  taken i x (y ∷ ys) =
      if span_has i y then (if list_any (span_has i) ys then None else option_map (λ z. z ∷ ys) (over_loop i x y))
      else option_map (λ zs. y ∷ zs) (taken i x ys)

  abbrev pub after_loop : List Span1 → Ready → Option State
  after_loop ys r = option_map (λ zs. record { steps = r.others; spans = zs }) (taken r.symbol r.span ys)

  abbrev pub by_loop : State → Option State
  by_loop st = option_and_then (after_loop st.spans) (best st.spans (choices st.steps))

  -- ---- a let

  -- forms that are at least, and at most, the symbol together: of the smallest each is above it, and one above it will do below
  abbrev pub below : Pick → List Form → List Form
  below Min [] = []
  below Min (f ∷ fs) = f ∷ []
  below Max fs = fs

  abbrev pub above : Pick → List Form → List Form
  above Min fs = fs
  above Max [] = []
  above Max (f ∷ fs) = f ∷ []

  -- the forms with each of the members in the symbol's place
  abbrev pub expanded : ℕ → List Form → List Form → Option (List Form)
  expanded i ms [] = Some []
  expanded i ms (f ∷ fs) =
      if form_has i f then (if is_positive (factor_of f.terms i) then joined (each_replaced f i (factor_of f.terms i) ms) (expanded i ms fs) else None)
      else joined (Some (f ∷ [])) (expanded i ms fs)

  abbrev pub opened : ℕ → Pick → List Form → List Span1 → Option (List Span1)
  opened i pick ls [] = Some []
  opened i pick ls (y ∷ ys) = joined (single (span_from (expanded i (below pick ls) y.lower) (expanded i (above pick ls) y.upper))) (opened i pick ls ys)

  abbrev pub without_let : ℕ → Pick → List Form → List Span1 → Option (List Span1)
  without_let i pick ls ys = if list_any (span_has i) ys then (if exact && not (is_alone ls) then None else opened i pick ls ys) else Some ys

  abbrev pub is_free_let : ℕ → List Form → List Binder → Bool
  is_free_let i ls others = is_loose i others && (not (list_any (form_has i) ls) && not (is_empty ls))

  abbrev pub after_let : List Span1 → Binder → List Binder → Option State
  after_let ys (Picked i pick ls) others = if is_free_let i ls others then option_map (λ zs. record { steps = others; spans = zs }) (without_let i pick ls ys) else None
  after_let ys (Ranged i x) others = None
  after_let ys (Passed low high) others = None

  abbrev pub by_let : State → Option State
  by_let st = first_some (λ (c : Choice). after_let st.spans c.one c.others) (choices st.steps)

  -- ---- a guard

  -- the last number of a span that begins at l where the guard holds, if no step binds a symbol of it
  abbrev pub if_outer : List Binder → Form → Option Form
  if_outer others u = if is_outer others u then Some u else None

  abbrev pub last_under : List Binder → Form → Form → Form → Option Form
  last_under others low high l = option_and_then (λ d. option_and_then (if_outer others) (combined d (pos 1) high)) (combined l (negsuc 0) low)

  abbrev pub with_last : Span1 → List Span1 → Option Form → Option (List Span1) → Option (List Span1)
  with_last y ys None later = option_map (λ zs. y ∷ zs) later
  with_last y ys (Some u) later = Some (record { lower = y.lower; upper = y.upper ++ u ∷ [] } ∷ ys)

  abbrev pub bounded : List Binder → Form → Form → List Span1 → Option (List Span1)
  bounded others low high [] = None
  bounded others low high (y ∷ ys) = with_last y ys (first_some (last_under others low high) y.lower) (bounded others low high ys)

  -- a guard over outer symbols alone has to be shown, any other bounds a span
  abbrev pub under_guard : List Binder → Form → Form → List Span1 → Option (List Span1)
  under_guard others low high ys =
      if is_outer others low && is_outer others high then (if shows low high then Some ys else None) else bounded others low high ys

  abbrev pub after_guard : List Span1 → Binder → List Binder → Option State
  after_guard ys (Passed low high) others = option_map (λ zs. record { steps = others; spans = zs }) (if exact then Some ys else under_guard others low high ys)
  after_guard ys (Ranged i x) others = None
  after_guard ys (Picked i pick ls) others = None

  abbrev pub by_guard : State → Option State
  by_guard st = first_some (λ (c : Choice). after_guard st.spans c.one c.others) (choices st.steps)

  -- ---- all moves

  abbrev pub next : State → Option State
  next st = or_else (by_guard st) (or_else (by_idle st) (or_else (by_loop st) (by_let st)))

  -- the spans when all steps are taken, of at most so many
  abbrev pub ended : State → (State → Option (List Span1)) → Option (List Span1)
  ended st onward = if is_empty st.steps then Some st.spans else option_and_then onward (next st)

  abbrev pub run : ℕ → State → Option (List Span1)
  run zero st = ended st (λ later. None)
  run (suc n) st = ended st (run n)

  abbrev pub spans_over : List Binder → List Form → Option (List Span1)
  spans_over bs fs = run (length bs) (record { steps = bs; spans = map exactly fs })

-- for each coordinate the span of which every number is reached
abbrev pub reached : (Form → Form → Bool) → List Step → List Form → Option (List Span1)
reached shows steps fs = spans_over false shows (paired (along steps)) fs
