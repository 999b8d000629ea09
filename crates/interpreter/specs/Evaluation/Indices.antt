-- How many indices the calls of an expression have, all counted. Never more of them are kept at one time.
use Rattle.std.specs.Prelude.{ℕ, ◌+◌}
use Rattle.tree.specs.Term.{Term, Number, Name, Call, Minus, Binary, Clamp, Cast, Choice, Terms, End, More, Test, Compares, Fails, Both, Either}

abbrev mutual
  pub indices_in : Term → ℕ
  indices_in (Number t n) = 0
  indices_in (Name name) = 0
  indices_in (Call name at) = indices_in_all at
  indices_in (Minus a) = indices_in a
  indices_in (Binary op a b) = indices_in a + indices_in b
  indices_in (Clamp a l h) = indices_in a + indices_in l + indices_in h
  indices_in (Cast t a) = indices_in a
  indices_in (Choice c a b) = indices_in_test c + indices_in a + indices_in b

  pub indices_in_test : Test → ℕ
  indices_in_test (Compares by a b) = indices_in a + indices_in b
  indices_in_test (Fails c) = indices_in_test c
  indices_in_test (Both c d) = indices_in_test c + indices_in_test d
  indices_in_test (Either c d) = indices_in_test c + indices_in_test d

  -- of the indices of a call, each of which is one, and has calls of its own
  pub indices_in_all : Terms → ℕ
  indices_in_all End = 0
  indices_in_all (More a rest) = indices_in a + indices_in_all rest + 1
