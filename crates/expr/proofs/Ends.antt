-- The end of an expression, token by token.
use Rattle.std.proofs.Common.{◌≡◌, ℕ, ◌+◌, ◌<◌, List, length, get_or, drop, drop-cons, add-one, Some, None, refl}
use Rattle.tree.specs.declared.token.token.Lexeme.{Lexeme}
use Rattle.expr.specs.Statements.Places.{open_after, end_from}

-- the token at place i belongs to the expression
pub goes_on : (n m i end : ℕ) (ls : List Lexeme) (d : Lexeme) → i < length ls → open_after n (get_or ls i d).token ≡ Some m → end_from n (drop i ls) end ≡ end_from m (drop (i + 1) ls) (get_or ls i d).span.end
goes_on n m i end ls d lt h = rw (drop-cons ls i d lt, add-one, h) refl

-- the token at place i does not
pub stops : (n i end : ℕ) (ls : List Lexeme) (d : Lexeme) → i < length ls → open_after n (get_or ls i d).token ≡ None → end_from n (drop i ls) end ≡ end
stops n i end ls d lt h = rw (drop-cons ls i d lt, h) refl
