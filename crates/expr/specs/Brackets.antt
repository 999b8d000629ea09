-- A run of opening brackets, which is closed from the innermost bracket outwards.
use Rattle.std.specs.Prelude.{ℕ, zero, suc, Bool, true, false, Ok}
use Rattle.tree.specs.declared.token.token.Symbol.TheVariants as symbol
use Rattle.tree.specs.declared.token.token.Token.{Token}
use Rattle.tree.specs.declared.token.token.Token.TheVariants as token
use Rattle.tree.specs.Term.{Term}
use Rattle.expr.specs.Parsing.{Parse, Reader, closed, ◌>>=◌}

abbrev pub is_opening : Token → Bool
is_opening (token.Symbol symbol.LeftParen) = true
is_opening t = false

-- what follows a part up to the last of so many brackets that close round it
unfoldable pub all_closed : ℕ → ℕ → Reader → ℕ → Term → Parse Term
all_closed most below inner zero a ts = Ok (a, ts)
all_closed most below inner (suc n) a ts = closed most below inner a ts >>= λ r. all_closed most below inner n r.0 r.1
