-- What is around a line of a plan: the symbols that are bound there, and what is known of them.
use Rattle.std.specs.Prelude.{◌≡◌, ℕ, ◌==◌, Bool, false, if◌then◌else◌, List, [], ◌∷◌, ℤ, ◌≤ℤ◌}
use Rattle.std.specs.List.{AllByRecursion, list_any}
use Rattle.lin.specs.Forms.{Form}
use Rattle.lin.specs.declared.span.Span1.{Span1}
use Rattle.plan.specs.declared.stmt.Pick.{Pick}
use Rattle.plan.specs.declared.stmt.Pick.TheVariants.{Min, Max}
use Rattle.plan.specs.Symbols.{Symbols, form_value, largest, smallest}

-- at least each lower form and at most each upper one
abbrev pub Lies : Symbols → Span1 → ℤ → Type 0
Lies s x z = AllByRecursion (λ l. form_value l s ≤ℤ z) x.lower × AllByRecursion (λ u. z ≤ℤ form_value u s) x.upper

abbrev pub LieIn : Symbols → List Span1 → List ℤ → Type 0
LieIn s [] [] = Unit {0}
LieIn s [] (z ∷ zs) = ⊥
LieIn s (x ∷ xs) [] = ⊥
LieIn s (x ∷ xs) (z ∷ zs) = Lies s x z × LieIn s xs zs

-- a loop or a symbol of the grid with its span, a symbol for the smallest or largest of forms, or a guard that was passed
pub data Binder : Type 0 where
  Ranged : (symbol : ℕ) (span : Span1) → Binder
  Picked : (symbol : ℕ) (pick : Pick) (forms : List Form) → Binder
  Passed : (low high : Form) → Binder

abbrev pub picked : Pick → List Form → Symbols → ℤ
picked Min ls s = smallest s ls
picked Max ls s = largest s ls

abbrev pub Respects : List Binder → Symbols → Type 0
Respects [] s = Unit {0}
Respects (Ranged i x ∷ bs) s = Lies s x (s.value i) × Respects bs s
Respects (Picked i pick ls ∷ bs) s = (s.value i ≡ picked pick ls s) × Respects bs s
Respects (Passed low high ∷ bs) s = (form_value low s ≤ℤ form_value high s) × Respects bs s

-- the symbol is that of a loop or a let
abbrev pub binds : ℕ → Binder → Bool
binds i (Ranged j x) = i == j
binds i (Picked j pick ls) = i == j
binds i (Passed low high) = false

-- ---- turns of one run of a loop

-- the loop of the symbol, or the grid's symbol
abbrev pub is_loop : ℕ → Binder → Bool
is_loop i (Ranged j x) = j == i
is_loop i (Picked j pick ls) = false
is_loop i (Passed low high) = false

-- what is bound inside the loop of the symbol, the innermost first: all, where it has no loop
abbrev pub inside : ℕ → List Binder → List Binder
inside i [] = []
inside i (b ∷ bs) = if is_loop i b then [] else b ∷ inside i bs

-- all symbols but the loop's and those bound inside it have the same values
abbrev pub AreTurns : ℕ → List Binder → Symbols → Symbols → Type 0
AreTurns i inner s t = (j : ℕ) → (j == i) ≡ false → list_any (binds j) inner ≡ false → t.value j ≡ s.value j
