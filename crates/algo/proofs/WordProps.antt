-- That an algorithm is named and written has at most one proof each.
use Rattle.std.specs.Prelude.{ℕ, List}
use Rattle.std.proofs.Props.{props}
use Rattle.tree.specs.Term.{Term, Number, Name, Call, Minus, Binary, Clamp, Cast, Choice, Terms, End, More, Test, Compares, Fails, Both, Either}
use Rattle.tree.specs.Token.Spelling.{IsWord}
use Rattle.meaning.specs.Algorithm.{Range, Change, Function, Algorithm}
use Rattle.algo.specs.Words.{IsName, IsRangeNamed, IsChangeNamed, IsFunctionNamed, IsNamed}
use Rattle.algo.specs.Written.{IsWritten, IsTestWrittenBy, AreIndicesWrittenBy, AreWrittenBy, IsChangeWritten, IsFunctionWritten, AreExpressionsWritten}

word : (x : List ℕ) → IsProp (IsWord x)
word x = Prim.hlevel props

name : (x : List ℕ) → IsProp (IsName x)
name x = Prim.hlevel (props, word x)

range : (d : Range) → IsProp (IsRangeNamed d)
range d = name d.variable

change : (u : Change) → IsProp (IsChangeNamed u)
change u = Prim.hlevel (props, range)

function : (f : Function) → IsProp (IsFunctionNamed f)
function f = Prim.hlevel (props, name, change)

pub named-prop : (a : Algorithm) → IsProp (IsNamed a)
named-prop a = Prim.hlevel (props, name, function)

mutual
  written : (e : Term) → IsProp (IsWritten e)
  written (Number t n) = Prim.hlevel props
  written (Name x) = name x
  written (Call x at) = Prim.hlevel (props, name x, indices at)
  written (Minus a) = written a
  written (Binary op a b) = Prim.hlevel (props, written a, written b)
  written (Clamp a l h) = Prim.hlevel (props, written a, written l, written h)
  written (Cast t a) = written a
  written (Choice c a b) = Prim.hlevel (props, test c, written a, written b)

  test : (c : Test) → IsProp (IsTestWrittenBy IsName c)
  test (Compares by a b) = Prim.hlevel (props, written a, written b)
  test (Fails c) = test c
  test (Both c d) = Prim.hlevel (props, test c, test d)
  test (Either c d) = Prim.hlevel (props, test c, test d)

  indices : (at : Terms) → IsProp (AreIndicesWrittenBy IsName at)
  indices End = Prim.hlevel props
  indices (More a rest) = Prim.hlevel (props, written a, all rest)

  all : (at : Terms) → IsProp (AreWrittenBy IsName at)
  all End = Prim.hlevel props
  all (More a rest) = Prim.hlevel (props, written a, all rest)

sides : (u : Change) → IsProp (IsChangeWritten u)
sides u = Prim.hlevel (props, written)

definitions : (f : Function) → IsProp (IsFunctionWritten f)
definitions f = Prim.hlevel (props, written, sides)

pub written-prop : (a : Algorithm) → IsProp (AreExpressionsWritten a)
written-prop a = Prim.hlevel (props, definitions)
