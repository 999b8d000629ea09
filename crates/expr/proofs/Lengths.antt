-- What is spelled by the grammar is no shorter than what follows it.
use Rattle.std.proofs.Common.{ℕ, suc, ◌+◌, ◌≤◌, Bool, true, false, List, [], ◌∷◌, length, arith}
use Rattle.tree.specs.declared.token.token.Symbol.TheVariants as symbol
use Rattle.tree.specs.declared.token.token.Token.{Token}
use Rattle.expr.specs.Grammar.{Sums, sign, sums_then}
use Rattle.expr.specs.Statements.Text.{DomainText, StatementText, function, update}
use Rattle.expr.proofs.Tails.{tail_long, sums_tail}
use Rattle.expr.specs.Statements.Grammar.{others_then, items_then, name_then, number_then, signed_then as sign_then, bound_then, domain_then, over_then, statement_then, statements_then}

-- ---- lists

abbrev pub Long : {D : Type 0} → (D → List Token → List Token) → Type 0
Long {D} then = (x : D) (rest : List Token) → length rest ≤ length (then x rest)

pub sums_long : Long sums_then
sums_long s rest = tail_long (sums_tail s rest)

module _ {D : Type 0} (then : D → List Token → List Token) (long : Long then) where
  -- each further item has a comma
  pub others_long : (xs : List D) (rest : List Token) → length xs + length rest ≤ length (others_then then xs rest)
  others_long [] rest = omega arith
  others_long (x ∷ xs) rest = omega (arith, others_long xs rest, long x (others_then then xs rest))

  pub items_long : (xs : List D) (rest : List Token) → length rest ≤ length (items_then then xs rest)
  items_long [] rest = omega arith
  items_long (x ∷ xs) rest = omega (arith, others_long xs rest, long x (others_then then xs rest))

pub name_long : Long name_then
name_long x rest = omega arith

pub number_long : Long number_then
number_long n rest = omega arith

sign_long : (negative : Bool) (n : ℕ) (rest : List Token) → length rest ≤ length (sign_then negative n rest)
sign_long true n rest = omega arith
sign_long false n rest = omega arith

pub domain_long : Long domain_then
domain_long d rest =
    omega (arith, sign_long d.low.negative d.low.number (sign symbol.DotDot ∷ bound_then d.high rest), sign_long d.high.negative d.high.number rest)

-- ---- statements

over_long : (ds : List DomainText) (rest : List Token) → length rest ≤ length (over_then ds rest)
over_long [] rest = omega arith
over_long (d ∷ ds) rest = omega (arith, items_long domain_then domain_long (d ∷ ds) (sign symbol.RightParen ∷ rest))

statement_long : (s : StatementText Sums) (rest : List Token) → suc (length rest) ≤ length (statement_then s rest)
statement_long (function s) rest =
    let side = sign symbol.Equals ∷ sums_then s.value (sign symbol.Semicolon ∷ rest) in
    omega (arith, items_long name_then name_long s.variables (sign symbol.RightParen ∷ side), sums_long s.value (sign symbol.Semicolon ∷ rest))
statement_long (update s) rest =
    let side = sign symbol.Equals ∷ sums_then s.value (sign symbol.Semicolon ∷ rest) in
    let at = sign symbol.LeftBracket ∷ items_then sums_then s.at (sign symbol.RightBracket ∷ side) in
    omega (arith, over_long s.domains at, items_long sums_then sums_long s.at (sign symbol.RightBracket ∷ side), sums_long s.value (sign symbol.Semicolon ∷ rest))

pub statements_long : (ss : List (StatementText Sums)) (rest : List Token) → length ss + length rest ≤ length (statements_then ss rest)
statements_long [] rest = omega arith
statements_long (s ∷ ss) rest = omega (arith, statement_long s (statements_then ss rest), statements_long ss rest)
