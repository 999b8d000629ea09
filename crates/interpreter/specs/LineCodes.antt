-- The codes of the lines of a group.
use Rattle.std.specs.Prelude.{◌≡◌, ℕ, ◌==◌, ◌&&◌, if◌then◌else◌, List, [], ◌∷◌, map, Option, Some, None, MatchOption, ⊤, slice_get}
use Rattle.std.specs.Global.{Vec}
use Rattle.tree.specs.Term.{Term}
use Rattle.plan.specs.Plan.{Statement, Seq, For, Let, First, Guard, Alloc, Fetch, Store, Publish, Statements, Empty, Then}
use Rattle.interpreter.specs.Codes.{term_in, IsPlaced}
use Rattle.interpreter.specs.declared.code.Code.{Code}
use Rattle.interpreter.specs.declared.line_codes.LineCode.{LineCode}

-- the code of the lines that store a definition in a buffer, if there is one
abbrev pub code_in : List LineCode → ℕ → ℕ → Option Code
code_in [] b k = None
code_in (x ∷ xs) b k = if (x.buffer == b) && (x.definition == k) then Some x.code else code_in xs b k

-- the code stands for the expression over variables of these names
pub record IsCodeOf (names : List (List ℕ)) (e : Term) (x : Code) : Type 0 where
  pub term : term_in x ≡ e
  pub placed : IsPlaced names x

-- a line's code, if there is one, is that of the line
abbrev pub IsCoded : List LineCode → ℕ → ℕ → List (List ℕ) → Term → Type 0
IsCoded codes b k names e = MatchOption (code_in codes b k) ⊤ (IsCodeOf names e)

-- of each line of a statement
module _ (codes : List LineCode) where
  abbrev mutual
    pub StatementIsCoded : Statement → Type 0
    StatementIsCoded (Seq all) = BlockIsCoded all
    StatementIsCoded (For i x kind body) = StatementIsCoded body
    StatementIsCoded (Let i pick forms) = Unit {0}
    StatementIsCoded (First i a b) = StatementIsCoded a × StatementIsCoded b
    StatementIsCoded (Guard low high body) = StatementIsCoded body
    StatementIsCoded (Alloc b f places) = Unit {0}
    StatementIsCoded (Fetch b g region) = Unit {0}
    StatementIsCoded (Store b k at e) = IsCoded codes b k (map (λ c. c.variable) at) e
    StatementIsCoded (Publish c) = Unit {0}

    pub BlockIsCoded : Statements → Type 0
    BlockIsCoded Empty = Unit {0}
    BlockIsCoded (Then a rest) = StatementIsCoded a × BlockIsCoded rest

-- the codes of one group
abbrev pub codes_there : Option (Vec LineCode) → List LineCode
codes_there None = []
codes_there (Some v) = v.items

-- those of the group of a number, of lists for each group
abbrev pub codes_at : List (Vec LineCode) → ℕ → List LineCode
codes_at all n = codes_there (slice_get all n)
