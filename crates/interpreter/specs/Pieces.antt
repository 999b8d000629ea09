-- What a piece finds around it, and what its lines refer to.
use Rattle.std.specs.Bool.{OnTrue}
use Rattle.std.specs.Prelude.{ℕ, List, map, ℤ, pos, Option, None, ◌≡◌, string_bytes}
use Rattle.numeric.specs.declared.ty.Ty.TheVariants.{U8}
use Rattle.tree.specs.declared.value.Value.{Value}
use Rattle.meaning.specs.Image.View.{image_of}
use Rattle.plan.specs.declared.stmt.Coordinate.{Coordinate as CodeCoordinate}
use Rattle.tree.specs.Term.{Term}
use Rattle.plan.specs.View.{plan_of, group_of, statement_of}
use Rattle.plan.specs.Symbols.{Symbols}
use Rattle.plan.specs.Plan.{Statement, Let}
use Rattle.plan.specs.Certificate.Cells.{no_symbols}
use Rattle.plan.specs.Certificate.Certificate.{certificate_of}
use Rattle.plan.specs.Semantics.Actions.{Setting}
use Rattle.plan.specs.Semantics.Run.{Around, look}
use Rattle.plan.specs.Semantics.Setting.{allocated, dimensions_in, setting_of, around_of}
use Rattle.interpreter.specs.Buffers.Blocks.{Block, memory_of}
use Rattle.interpreter.specs.Narrow.{OwnIsNarrow, FormsAreNarrow}
use Rattle.interpreter.specs.Bindings.{symbols_of}
use Rattle.interpreter.specs.Claims.{Means}
use Rattle.interpreter.specs.LineCodes.{IsCoded}
use Rattle.interpreter.specs.Needs.{own_count, Kept}
use Rattle.interpreter.specs.Sizes.{size_in}
use Rattle.interpreter.specs.declared.piece.Piece.{Piece}

abbrev pub around : Piece → (List ℕ → List ℤ → Value) → Around
around x cell = around_of (plan_of x.plan.now) (certificate_of x.cert.now) (image_of x.image.now).samples cell

abbrev pub setting : Piece → Setting
setting x = setting_of (plan_of x.plan.now) (certificate_of x.cert.now) x.number (group_of x.group.now)

-- the piece knows how many coordinates each of its buffers has, and no symbol is bound among its constants
pub record IsReady (x : Piece) : Type 0 where
  pub sizes : (b : ℕ) → size_in x.sizes.now b ≡ dimensions_in (allocated (statement_of x.group.now.body) b)
  pub constants : symbols_of x.constants.now ≡ no_symbols
  pub plain : OnTrue x.is_plain (Means (plan_of x.plan.now).input.name None)

-- how many coordinates its own cells have
abbrev pub own_of : Piece → ℕ
own_of x = own_count (certificate_of x.cert.now) x.number

-- what is kept of its group
abbrev pub kept_of : Piece → Kept
kept_of x = record { count = own_of x; codes = x.codes.now }

-- the code of a line, if there is one, is that of the line
abbrev pub LineIsCoded : Piece → ℕ → ℕ → List CodeCoordinate → Term → Type 0
LineIsCoded x b k cs e = IsCoded x.codes.now b k (map (λ c. string_bytes c.variable) cs) e

-- where lines publish, the own region and the group's are narrow
abbrev pub OwnIsSmall : Piece → Symbols → Type 0
OwnIsSmall x s = OwnIsNarrow (certificate_of x.cert.now) x.number (group_of x.group.now) s

-- no cell is known
abbrev pub no_cells : List ℕ → List ℤ → Value
no_cells f p = record { ty = U8; number = pos 0 }

-- what a name finds at a point, where memory holds this
abbrev pub found_in : Piece → List Block → List ℕ → List ℤ → Option Value
found_in x m = look (around x no_cells) (memory_of m)

-- the forms of a `let` line are narrow
abbrev pub NamesAreNarrow : Statement → Symbols → Type 0
NamesAreNarrow (Let i pick forms) s = FormsAreNarrow s forms
NamesAreNarrow a s = Unit {0}
