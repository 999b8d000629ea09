-- Extents past the limit of an algorithm's: algorithms of large images, and their texts with extents within the limit.
use Rattle.std.specs.Prelude.{ℕ, suc, ◌-◌, Bool, false, ◌&&◌, nat_lt, nat_le, if◌then◌else◌, List, [], ◌∷◌, ◌++◌, map, fold, take, drop, replicate, None, Some}
use Rattle.tree.specs.declared.token.span.Span.{Span}
use Rattle.tree.specs.declared.token.token.Symbol.TheVariants as symbol
use Rattle.tree.specs.declared.token.token.Word.TheVariants as word
use Rattle.tree.specs.declared.token.token.Literal.{Literal}
use Rattle.tree.specs.declared.token.token.Token.{Token}
use Rattle.tree.specs.declared.token.token.Token.TheVariants as token
use Rattle.tree.specs.declared.token.token.Lexeme.{Lexeme}
use Rattle.meaning.specs.Algorithm.{Algorithm}
use Rattle.meaning.specs.Conditions.{IsAlgorithm}
use Rattle.expr.specs.Statements.Text.{FileText}

-- an extent past the limit of an algorithm's, up to that of a scene's: 2 to the power of 24
abbrev pub is_wide : ℕ → Bool
is_wide n = nat_lt 8192 n && nat_le n 16777216

-- a wide extent gives way to 1
abbrev pub narrow_extent : ℕ → ℕ
narrow_extent n = if nat_le n 8192 then n else (if nat_le n 16777216 then 1 else n)

-- the algorithm with 1 for each wide extent of the input and of the output
abbrev pub narrowed : Algorithm → Algorithm
narrowed a = record {
  name = a.name;
  input = a.input;
  input_ty = a.input_ty;
  input_extents = map narrow_extent a.input_extents;
  functions = a.functions;
  output = a.output;
  output_extents = map narrow_extent a.output_extents;
}

-- the algorithm is well formed but for its extents, which may be wide
abbrev pub IsScene : Algorithm → Type 0
IsScene a = IsAlgorithm (narrowed a)

-- ---- the same of a text

-- the width and the height, each with 1 if it is wide; colours stay
abbrev pub narrow_extents : List ℕ → List ℕ
narrow_extents [] = []
narrow_extents (w ∷ []) = narrow_extent w ∷ []
narrow_extents (w ∷ h ∷ colours) = narrow_extent w ∷ narrow_extent h ∷ colours

abbrev pub narrow_file : {E : Type 0} → FileText E → FileText E
narrow_file f = record {
  name = f.name;
  input = record { name = f.input.name; ty = f.input.ty; extents = narrow_extents f.input.extents };
  statements = f.statements;
  output = record { name = f.output.name; extents = narrow_extents f.output.extents };
}

-- how many of the numbers behind a token are a width or a height: two behind the word `input` or `output`, one less behind each
-- number, and none behind a semicolon
abbrev pub sides_left : ℕ → Token → ℕ
sides_left n (token.Word word.Input) = 2
sides_left n (token.Word word.Output) = 2
sides_left n (token.Symbol symbol.Semicolon) = 0
sides_left (suc n) (token.Number _) = n
sides_left n t = n

abbrev pub is_wide_literal : Literal → Bool
is_wide_literal n = elim n.ty [ None ↦ is_wide n.value | Some t ↦ false ]

-- whether the token is a wide extent
abbrev pub is_wide_token : ℕ → Token → Bool
is_wide_token (suc n) (token.Number l) = is_wide_literal l
is_wide_token _ _ = false

-- the places of the wide extents
abbrev pub wide_places : ℕ → List Lexeme → List Span
wide_places n [] = []
wide_places n (l ∷ ls) = (if is_wide_token n l.token then l.span ∷ [] else []) ++ wide_places (sides_left n l.token) ls

-- a 1 in place of the bytes there, and blanks
abbrev pub with_one : List ℕ → Span → List ℕ
with_one text at = take at.start text ++ (49 ∷ (replicate ((at.end - at.start) - 1) 32 ++ drop at.end text))

-- the text with 1 for each wide extent; all other bytes stay where they are
abbrev pub narrow_text : List ℕ → List Lexeme → List ℕ
narrow_text text ls = fold with_one text (wide_places 0 ls)
