-- How often symbols have their values, and what is counted over all of these together.
use Rattle.std.specs.Prelude.{◌≡◌, ℕ, ◌+◌, ◌*◌, ◌^◌, ◌<◌, ◌==◌, ◌≤◌, Bool, if◌then◌else◌, List, [], ◌∷◌, map, sum, sum_by, ℤ, pos, ◌+ℤ◌, Option, IfSome}
use Rattle.std.specs.List.{list_any, AllByRecursion}
use Rattle.std.specs.Ordering.{int_eq}
use Rattle.lin.specs.declared.span.Span1.{Span1}
use Rattle.plan.specs.Plan.{Statement}
use Rattle.plan.specs.Semantics.Actions.{after}
use Rattle.plan.specs.Symbols.{turns, Symbols}
use Rattle.interpreter.specs.Narrow.{IsNumber, SpanIsNarrow}
use Rattle.report.specs.declared.counting.Turns.{Turns}
use Rattle.report.specs.declared.known.Binding.{Binding}
use Rattle.report.specs.declared.ranges.Range.{Range}
use Rattle.report.specs.declared.subject.Subject.{Subject}
use Rattle.report.specs.declared.weighing.Handed.{Handed}
use Rattle.report.specs.declared.weighing.Weighing.{Weighing}
use Rattle.report.specs.Costs.{up_to}
use Rattle.report.specs.Counting.{in_turn, Fits}
use Rattle.report.specs.Known.{AllowsAll}
use Rattle.report.specs.Ranges.{numbers, Holds, HoldsEnds}
use Rattle.report.specs.Subject.{counted_of}
use Rattle.report.specs.Tally.{tally, Counted}

-- a symbol and how often it has each of the numbers from one on
pub record Weighed : Type 0 where
  pub symbol : ℕ
  pub low : ℤ
  pub weights : List ℕ

-- how often a symbol has each of the numbers from this one on
abbrev pub weighed_from : ℕ → ℤ → List ℕ → Weighed
weighed_from symbol low weights = record { symbol = symbol; low = low; weights = weights }

abbrev pub weighed_of : Weighing → Weighed
weighed_of w = weighed_from w.symbol w.low w.weights.items

abbrev pub all_weighed : List Weighing → List Weighed
all_weighed = map weighed_of

-- the sum of what each number from one on adds, each as often as its weight says
abbrev pub weighted : (ℤ → ℕ) → ℤ → List ℕ → ℕ
weighted g z [] = 0
weighted g z (w ∷ ws) = w * g z + weighted g (z +ℤ pos 1) ws

-- the same over the values of several symbols, each independent of the others
abbrev pub weighted_all : (List ℤ → ℕ) → List Weighed → ℕ
weighted_all g [] = g []
weighted_all g (w ∷ ws) = weighted (λ z. weighted_all (λ zs. g (z ∷ zs)) ws) w.low w.weights

-- the values that these symbols have
abbrev pub values_of : List Weighed → Symbols → List ℤ
values_of ws s = map (λ w. s.value w.symbol) ws

-- a line leaves these symbols the values that they have
abbrev pub KeepsValues : List Weighed → Statement → Type 0
KeepsValues ws a = (s : Symbols) → values_of ws (after a s) ≡ values_of ws s

-- some numbers weigh so much more than before
abbrev pub AreHeavier : ℕ → ℤ → List ℕ → List ℕ → ℕ → List ℤ → Type 0
AreHeavier m low old new weight zs = (g : ℤ → ℕ) → up_to m (weighted g low new) ≡ up_to m (weighted g low old + weight * sum_by g zs)

-- the weights say how often the symbols have their values in this list, as far as is counted
pub record AreWeighed (m : ℕ) (ws : List Weighed) (ss : List Symbols) : Type 0 where
  pub is : (g : List ℤ → ℕ) → up_to m (weighted_all g ws) ≡ up_to m (sum_by (λ s. g (values_of ws s)) ss)

-- the lines of the statement count so often over all of a list that has these weights, as far as is counted
pub record IsWeighedTally (x : Counted) (known : List Binding) (ws : List Weighed) (a : Statement) (n : ℕ) : Type 0 where
  pub is : (ss : List Symbols) → AreWeighed x.enough ws ss → AllByRecursion (AllowsAll known) ss → AllByRecursion (Fits a) ss
      → up_to x.enough n ≡ up_to x.enough (sum_by (tally x a) ss)

-- the same of a subject
abbrev pub IsCountOf : Subject → List Binding → List Weighing → Statement → ℕ → Type 0
IsCountOf subject known weighings a n = IsWeighedTally (counted_of subject) known (all_weighed weighings) a n

-- the same where the list has one more symbol, that of a loop with these turns
pub record IsWeighedTurns (x : Counted) (known : List Binding) (ws : List Weighed) (body : Statement) (turns : Turns) (n : ℕ) : Type 0 where
  pub is : (ss : List Symbols) → AreWeighed x.enough ws ss → AllByRecursion (AllowsAll known) ss
      → AllByRecursion (λ s. (z : ℤ) → Holds turns.range z → Fits body (in_turn s turns z)) ss
      → up_to x.enough n ≡ up_to x.enough (sum_by (λ s. sum_by (λ z. tally x body (in_turn s turns z)) (numbers turns.range)) ss)

-- how often the symbols have any of their values together
abbrev pub all_weights : List Weighed → ℕ
all_weights [] = 1
all_weights (w ∷ ws) = all_weights ws * sum w.weights

-- whether the symbol's values are weighed
abbrev pub is_weighed : List Weighed → ℕ → Bool
is_weighed ws i = list_any (λ w. w.symbol == i) ws

-- how often a symbol has this value
abbrev pub weight_of : ℤ → ℤ → List ℕ → ℕ
weight_of y low ws = weighted (λ z. if int_eq z y then 1 else 0) low ws

-- the ends of the span where the symbol has this value, if they are told
abbrev pub AreEndsAt : List Binding → ℕ → ℤ → Span1 → Option Range → Type 0
AreEndsAt known symbol value span o = (s : Symbols) → AllowsAll known s → s.value symbol ≡ value → SpanIsNarrow s span → IfSome o (HoldsEnds s span)

-- the numbers of an inner loop have these weights: the loop's turns where the outer symbol has a value, and the two sums change places
pub record ArePassed (m : ℕ) (known : List Binding) (span : Span1) (symbol : ℕ) (low : ℤ) (ws : List ℕ) (first : ℤ) (made : List ℕ) : Type 0 where
  pub turns_at : ℤ → List ℤ
  pub inside : (y : ℤ) → AllByRecursion IsNumber (turns_at y)
  pub turns_are : (s : Symbols) → AllowsAll known s → SpanIsNarrow s span → 1 ≤ weight_of (s.value symbol) low ws → turns s span ≡ turns_at (s.value symbol)
  pub sums : (g : ℤ → ℕ) → up_to m (weighted g first made) ≡ up_to m (weighted (λ y. sum_by g (turns_at y)) low ws)

-- the same as far as 64 bits count
abbrev pub ArePassedOn : List Binding → Span1 → Weighed → ℤ → List ℕ → Type 0
ArePassedOn known span w first made = (m : ℕ) → m < 2 ^ 64 → ArePassed m known span w.symbol w.low w.weights first made

-- the weights were made of this symbol's
abbrev pub IsHandedBy : List Binding → Span1 → Weighing → Handed → Type 0
IsHandedBy known span w p = ArePassedOn known span (weighed_of w) p.low p.weights.items
