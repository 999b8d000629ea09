-- The lines `let` that stand before a fetch line in the head of a group, and the numbers that their symbols come to in a piece.
use Rattle.std.specs.Prelude.{◌≡◌, ℕ, ◌^◌, List, [], ◌∷◌, map, true, All}
use Rattle.lin.specs.Forms.{Form, IsWithin}
use Rattle.plan.specs.declared.stmt.Pick.{Pick}
use Rattle.plan.specs.Plan.{Statement, Seq, For, Let, First, Guard, Alloc, Fetch, Store, Publish}
use Rattle.plan.specs.Symbols.{Symbols, bind}
use Rattle.plan.specs.Certificate.Cells.{grid_symbols}
use Rattle.soundness.specs.Around.{picked}
use Rattle.shares.specs.Boxes.{AreLimited}
use Rattle.shares.specs.declared.forms.Value.{Value}
use Rattle.shares.specs.declared.lets.Naming.{Naming as NamingHeld}

-- a line `let`: its symbol, and which of the forms it is
pub record Naming : Type 0 where
  pub symbol : ℕ
  pub pick : Pick
  pub forms : List Form

-- the line `let` that a statement is, if it is one
abbrev pub naming : Statement → List Naming
naming (Let i pick forms) = record { symbol = i; pick = pick; forms = forms } ∷ []
naming _ = []

-- the symbols behind such lines
abbrev pub named : List Naming → Symbols → Symbols
named [] s = s
named (x ∷ xs) s = named xs (bind s x.symbol (picked x.pick x.forms s) true)

-- their forms are within the limits
abbrev pub NamingsAreLimited : List Naming → Type 0
NamingsAreLimited xs = All (λ x. AreLimited x.forms) xs

-- each of them comes to a number that is not farther than 2^20 from 0
abbrev pub AreNear : List Naming → Symbols → Type 0
AreNear [] s = Unit {0}
AreNear (x ∷ xs) s = IsWithin (2 ^ 20) (picked x.pick x.forms s) × AreNear xs (bind s x.symbol (picked x.pick x.forms s) true)

-- ---- as code has them

abbrev pub naming_of : NamingHeld → Naming
naming_of x = record { symbol = x.symbol; pick = x.pick; forms = x.forms.now }

abbrev pub namings_of : List NamingHeld → List Naming
namings_of xs = map naming_of xs

-- the symbols of a grid point, where further ones have these values
abbrev pub valued : List Value → Symbols → Symbols
valued [] s = s
valued (v ∷ vs) s = valued vs (bind s v.symbol v.value true)

abbrev pub symbols_at : List ℕ → List Value → Symbols
symbols_at at vs = valued vs (grid_symbols at)

-- the values are small
abbrev pub ValuesAreSmall : List Value → Type 0
ValuesAreSmall vs = All (λ v. IsWithin (2 ^ 20) v.value) vs

-- they are those of these lines at a grid point
pub record AreValues (at : List ℕ) (xs : List Naming) (vs : List Value) : Type 0 where
  pub symbols : symbols_at at vs ≡ named xs (grid_symbols at)
  pub small : ValuesAreSmall vs
  pub near : AreNear xs (grid_symbols at)
