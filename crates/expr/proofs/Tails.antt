-- What is spelled by the grammar of expressions ends in what follows it.
use Rattle.std.proofs.Common.{◌≡◌, ◌≤◌, List, [], ◌∷◌, ◌++◌, length, refl, sym, ap, ◌∙◌, append_assoc, length-append, arith}
use Rattle.tree.specs.declared.token.token.Token.{Token}
use Rattle.expr.specs.Grammar.{Sums, term, add, Products, factor, multiply, Signed, unsigned, negated, Primary, number, variable, call, group, cast, extreme, clamp, select, More, no_more, next, Condition, compare, deny, all, any, sums_then, products_then, signed_then, primary_then, more_then, condition_then}

-- us are the last of the tokens ts
pub record IsTail (us ts : List Token) : Type 0 where
  pub front : List Token
  pub is : ts ≡ front ++ us

same : {us : List Token} → IsTail us us
same = record { front = []; is = refl }

ahead : {us ts : List Token} (t : Token) → IsTail us ts → IsTail us (t ∷ ts)
ahead t p = record { front = t ∷ p.front; is = ap (λ (v : List Token). t ∷ v) p.is }

through : {us vs ts : List Token} → IsTail us vs → IsTail vs ts → IsTail us ts
through {us} p q = record { front = q.front ++ p.front; is = q.is ∙ ap (λ (v : List Token). q.front ++ v) p.is ∙ sym (append_assoc q.front p.front us) }

pub tail_long : {us ts : List Token} → IsTail us ts → length us ≤ length ts
tail_long {us} p = omega (arith, ap length p.is, length-append p.front us)

mutual
  pub sums_tail : (s : Sums) (rest : List Token) → IsTail rest (sums_then s rest)
  sums_tail (term p) rest = products_tail p rest
  sums_tail (add s o p) rest = through (ahead _ (products_tail p rest)) (sums_tail s _)

  products_tail : (p : Products) (rest : List Token) → IsTail rest (products_then p rest)
  products_tail (factor s) rest = signed_tail s rest
  products_tail (multiply p o s) rest = through (ahead _ (signed_tail s rest)) (products_tail p _)

  signed_tail : (s : Signed) (rest : List Token) → IsTail rest (signed_then s rest)
  signed_tail (unsigned p) rest = primary_tail p rest
  signed_tail (negated s) rest = ahead _ (signed_tail s rest)

  primary_tail : (p : Primary) (rest : List Token) → IsTail rest (primary_then p rest)
  primary_tail (number n) rest = ahead _ same
  primary_tail (variable x) rest = ahead _ same
  primary_tail (call f a more) rest = ahead _ (ahead _ (through (more_tail more rest) (sums_tail a _)))
  primary_tail (group a) rest = ahead _ (through (ahead _ same) (sums_tail a _))
  primary_tail (cast t a) rest = ahead _ (ahead _ (through (ahead _ same) (sums_tail a _)))
  primary_tail (extreme o a b) rest = ahead _ (ahead _ (through (ahead _ (through (ahead _ same) (sums_tail b _))) (sums_tail a _)))
  primary_tail (clamp a l h) rest = ahead _ (ahead _ (through (ahead _ (through (ahead _ (through (ahead _ same) (sums_tail h _))) (sums_tail l _))) (sums_tail a _)))
  primary_tail (select c a b) rest = ahead _ (ahead _ (through (ahead _ (through (ahead _ (through (ahead _ same) (sums_tail b _))) (sums_tail a _))) (condition_tail c _)))

  more_tail : (more : More) (rest : List Token) → IsTail rest (more_then more rest)
  more_tail no_more rest = ahead _ same
  more_tail (next a more) rest = ahead _ (through (more_tail more rest) (sums_tail a _))

  condition_tail : (c : Condition) (rest : List Token) → IsTail rest (condition_then c rest)
  condition_tail (compare a o b) rest = through (ahead _ (sums_tail b rest)) (sums_tail a _)
  condition_tail (deny c) rest = ahead _ (ahead _ (through (ahead _ same) (condition_tail c _)))
  condition_tail (all c d) rest = ahead _ (ahead _ (through (ahead _ (through (ahead _ same) (condition_tail d _))) (condition_tail c _)))
  condition_tail (any c d) rest = ahead _ (ahead _ (through (ahead _ (through (ahead _ same) (condition_tail d _))) (condition_tail c _)))
