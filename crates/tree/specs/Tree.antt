-- How large an expression is.
use Rattle.std.specs.Prelude.{ℕ, ◌+◌, max}
use Rattle.tree.specs.Term.{Term, Number, Name, Call, Minus, Binary, Clamp, Cast, Choice, Terms, End, More, Test, Compares, Fails, Both, Either}

abbrev mutual
  -- how many nodes an expression has, itself among them
  pub node_count : Term → ℕ
  node_count (Number t n) = 1
  node_count (Name name) = 1
  node_count (Call name at) = node_counts at + 1
  node_count (Minus a) = node_count a + 1
  node_count (Binary op a b) = node_count a + node_count b + 1
  node_count (Clamp a l h) = node_count a + node_count l + node_count h + 1
  node_count (Cast t a) = node_count a + 1
  node_count (Choice c a b) = cond_count c + node_count a + node_count b + 1

  pub cond_count : Test → ℕ
  cond_count (Compares by a b) = node_count a + node_count b + 1
  cond_count (Fails c) = cond_count c + 1
  cond_count (Both c d) = cond_count c + cond_count d + 1
  cond_count (Either c d) = cond_count c + cond_count d + 1

  pub node_counts : Terms → ℕ
  node_counts End = 0
  node_counts (More a rest) = node_count a + node_counts rest

abbrev mutual
  -- how many nodes stand on the longest way down, a single node counting one
  pub depth : Term → ℕ
  depth (Number t n) = 1
  depth (Name name) = 1
  depth (Call name at) = depths at + 1
  depth (Minus a) = depth a + 1
  depth (Binary op a b) = max (depth a) (depth b) + 1
  depth (Clamp a l h) = max (depth a) (max (depth l) (depth h)) + 1
  depth (Cast t a) = depth a + 1
  depth (Choice c a b) = max (test_depth c) (max (depth a) (depth b)) + 1

  pub test_depth : Test → ℕ
  test_depth (Compares by a b) = max (depth a) (depth b) + 1
  test_depth (Fails c) = test_depth c + 1
  test_depth (Both c d) = max (test_depth c) (test_depth d) + 1
  test_depth (Either c d) = max (test_depth c) (test_depth d) + 1

  -- the greatest depth of several
  pub depths : Terms → ℕ
  depths End = 0
  depths (More a rest) = max (depth a) (depths rest)
