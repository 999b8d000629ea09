-- Worked examples of the definitions.
use Rattle.std.specs.Prelude.{◌≡◌, ℕ, List, [], ◌∷◌, ◌++◌, map, replicate, ℤ, pos, codes}
use Rattle.numeric.specs.declared.ty.Ty.{Ty}
use Rattle.numeric.specs.declared.ty.Ty.TheVariants.{U8, U16, I32}
use Rattle.numeric.specs.declared.op.Op.TheVariants.{Add, Sub, Mul, Div}
use Rattle.tree.specs.Term.{Term, Number, Name, Call, Binary, Clamp, Cast, End, More}
use Rattle.meaning.specs.Algorithm.{Range, Function, Algorithm}
use Rattle.meaning.specs.Value.{output_value, value_of_function_at_step}
use Rattle.meaning.specs.Picture.{picture}
use Rattle.meaning.specs.Count.{output_count}

abbrev x : Term
x = Name (codes "x")

abbrev number : ℕ → Term
number n = Number I32 (pos n)

-- the sample at x, moved to the nearest place from 0 to `last`
abbrev clamped : ℕ → Term → Term
clamped last at = Clamp at (number 0) (number last)

-- the values at the first coordinates 0, 1, .. of a row
abbrev row : Algorithm → List ℕ → List ℕ → List ℤ
row a samples xs = map (λ n. output_value a samples (pos n ∷ [])) xs

abbrev y : Term
y = Name (codes "y")

-- the sample at a place of row y, as u16
abbrev pixel : Term → Term
pixel at = Cast U16 (Call (codes "in") (More at (More y End)))

-- on a row of w samples, last + 1 of them read:
-- out(x, y) = u8((u16(in[clamp(x - 1, 0, last), y]) + u16(in[x, y]) + u16(in[clamp(x + 1, 0, last), y])) / 3u16)
abbrev mean3 : ℕ → ℕ → Algorithm
mean3 w last = record {
  name = codes "mean3";
  input = codes "in";
  input_ty = U8;
  input_extents = w ∷ 1 ∷ [];
  functions = record {
    name = codes "out";
    ty = U8;
    variables = codes "x" ∷ codes "y" ∷ [];
    value = Cast U8 (Binary Div
        (Binary Add (Binary Add (pixel (clamped last (Binary Sub x (number 1)))) (pixel x)) (pixel (clamped last (Binary Add x (number 1)))))
        (Number U16 (pos 3)));
    changes = [];
  } ∷ [];
  output = codes "out";
  output_extents = w ∷ 1 ∷ [];
}

abbrev pub MeansOfThree : Type 0
MeansOfThree = picture (mean3 4 3) (10 ∷ 20 ∷ 30 ∷ 40 ∷ []) ≡ 13 ∷ 20 ∷ 30 ∷ 36 ∷ []

abbrev pub MeanOfOnePixel : Type 0
MeanOfOnePixel = picture (mean3 1 0) (7 ∷ []) ≡ 7 ∷ []

-- out(x) = in[clamp(x, 0, 9)] + 1u8
abbrev tri : Algorithm
tri = record {
  name = codes "tri";
  input = codes "in";
  input_ty = U8;
  input_extents = 10 ∷ [];
  functions = record {
    name = codes "out";
    ty = U8;
    variables = codes "x" ∷ [];
    value = Binary Add (Call (codes "in") (More (clamped 9 x) End)) (Number U8 (pos 1));
    changes = [];
  } ∷ [];
  output = codes "out";
  output_extents = 10 ∷ [];
}

abbrev pub SumsWrap : Type 0
SumsWrap = row tri (255 ∷ 1 ∷ 2 ∷ 3 ∷ 4 ∷ 5 ∷ 6 ∷ 7 ∷ 8 ∷ 9 ∷ []) (0 ∷ 1 ∷ 9 ∷ 12 ∷ []) ≡ pos 0 ∷ pos 2 ∷ pos 10 ∷ pos 10 ∷ []

abbrev r : Term
r = Name (codes "r")

-- s(x) = in[clamp(x, 0, 3)]; over r from 1 to 3, s(r) = s(r) + s(r - 1)
abbrev scan : Algorithm
scan = record {
  name = codes "scan";
  input = codes "in";
  input_ty = U8;
  input_extents = 4 ∷ [];
  functions = record {
    name = codes "s";
    ty = U8;
    variables = codes "x" ∷ [];
    value = Call (codes "in") (More (clamped 3 x) End);
    changes = record {
      ranges = record { variable = codes "r"; low = pos 1; high = pos 3 } ∷ [];
      at = r ∷ [];
      value = Binary Add (Call (codes "s") (More r End)) (Call (codes "s") (More (Binary Sub r (number 1)) End));
    } ∷ [];
  } ∷ [];
  output = codes "s";
  output_extents = 4 ∷ [];
}

abbrev pub SumsRun : Type 0
SumsRun = picture scan (1 ∷ 2 ∷ 3 ∷ 4 ∷ []) ≡ 1 ∷ 3 ∷ 6 ∷ 10 ∷ []

abbrev pub SumsAreCounted : Type 0
SumsAreCounted = map (λ n. output_count scan (1 ∷ 2 ∷ 3 ∷ 4 ∷ []) (pos n ∷ [])) (0 ∷ 1 ∷ []) ≡ 5 ∷ 7 ∷ []

abbrev sampled : Term
sampled = Cast I32 (Call (codes "in") (More (Name (codes "rx")) (More (Name (codes "ry")) End)))

-- h(i) = 0; over rx from 0 to 2 and ry from 0 to 1, h(in[rx, ry]) = h(in[rx, ry]) + 1
abbrev hist : Algorithm
hist = record {
  name = codes "hist";
  input = codes "in";
  input_ty = U8;
  input_extents = 3 ∷ 2 ∷ [];
  functions = record {
    name = codes "h";
    ty = U16;
    variables = codes "i" ∷ [];
    value = Number U16 (pos 0);
    changes = record {
      ranges = record { variable = codes "rx"; low = pos 0; high = pos 2 } ∷ record { variable = codes "ry"; low = pos 0; high = pos 1 } ∷ [];
      at = sampled ∷ [];
      value = Binary Add (Call (codes "h") (More sampled End)) (Number U16 (pos 1));
    } ∷ [];
  } ∷ [];
  output = codes "h";
  output_extents = 256 ∷ [];
}

abbrev pub Histogram : Type 0
Histogram = picture hist (1 ∷ 1 ∷ 2 ∷ 2 ∷ 2 ∷ 255 ∷ []) ≡ 0 ∷ 2 ∷ 3 ∷ replicate 252 0 ++ 1 ∷ []

-- over one function of one variable: its pure definition, and an update over these ranges
abbrev updated : Ty → Term → List Range → Term → Term → List ℕ → Algorithm
updated t value ranges at right extents = record {
  name = codes "updated";
  input = codes "in";
  input_ty = U8;
  input_extents = extents;
  functions = record {
    name = codes "f";
    ty = t;
    variables = codes "x" ∷ [];
    value = value;
    changes = record { ranges = ranges; at = at ∷ []; value = right } ∷ [];
  } ∷ [];
  output = codes "f";
  output_extents = extents;
}

abbrev range : List ℕ → ℕ → ℕ → Range
range name low high = record { variable = name; low = pos low; high = pos high }

abbrev f_at : Term → Term
f_at at = Call (codes "f") (More at End)

-- f(x) = 0; over r from 0 to 1 and s from 0 to 1, f(0) = f(0) * 10 + u16(r + s * 2 + 1): the digits come in the order of the points
abbrev digits : Algorithm
digits = updated U16 (Number U16 (pos 0)) (range (codes "r") 0 1 ∷ range (codes "s") 0 1 ∷ []) (number 0)
    (Binary Add (Binary Mul (f_at (number 0)) (Number U16 (pos 10)))
    (Cast U16 (Binary Add (Binary Add r (Binary Mul (Name (codes "s")) (number 2))) (number 1))))
    (1 ∷ [])

abbrev pub FirstRunsFastest : Type 0
FirstRunsFastest = picture digits (0 ∷ []) ≡ 1234 ∷ []

-- f(x) = in[clamp(x, 0, 3)]; over r from 0 to 3, f(r) = f(3 - r): the second half reads what the first half has become
abbrev mirror : Algorithm
mirror = updated U8 (Call (codes "in") (More (clamped 3 x) End)) (range (codes "r") 0 3 ∷ []) r (f_at (Binary Sub (number 3) r)) (4 ∷ [])

abbrev pub OtherPointsSoFar : Type 0
OtherPointsSoFar = picture mirror (1 ∷ 2 ∷ 3 ∷ 4 ∷ []) ≡ 4 ∷ 3 ∷ 3 ∷ 4 ∷ []

-- the same after so many steps: the pure values after none, then one place a step
abbrev pub StepsOfTheMirror : Type 0
StepsOfTheMirror = map (λ s. map (λ n. value_of_function_at_step mirror (1 ∷ 2 ∷ 3 ∷ 4 ∷ []) 0 s (pos n ∷ [])) (0 ∷ 1 ∷ 2 ∷ 3 ∷ [])) (0 ∷ 1 ∷ 2 ∷ 4 ∷ [])
    ≡ (pos 1 ∷ pos 2 ∷ pos 3 ∷ pos 4 ∷ []) ∷ (pos 4 ∷ pos 2 ∷ pos 3 ∷ pos 4 ∷ []) ∷ (pos 4 ∷ pos 3 ∷ pos 3 ∷ pos 4 ∷ []) ∷ (pos 4 ∷ pos 3 ∷ pos 3 ∷ pos 4 ∷ []) ∷ []

-- f1 is the input, each later function twice the one before it plus 1: the count of the n-th is 2^n - 1
abbrev doubled : List ℕ → List ℕ → Function
doubled name before = record {
  name = name;
  ty = U8;
  variables = codes "x" ∷ [];
  value = Binary Add (Binary Add (Call before (More x End)) (Call before (More x End))) (Number U8 (pos 1));
  changes = [];
}

abbrev chain : Algorithm
chain = record {
  name = codes "chain";
  input = codes "in";
  input_ty = U8;
  input_extents = 1 ∷ [];
  functions = record { name = codes "f1"; ty = U8; variables = codes "x" ∷ []; value = Call (codes "in") (More x End); changes = [] }
      ∷ doubled (codes "f2") (codes "f1") ∷ doubled (codes "f3") (codes "f2") ∷ doubled (codes "f4") (codes "f3") ∷ doubled (codes "f5") (codes "f4") ∷ doubled (codes "f6") (codes "f5") ∷ [];
  output = codes "f6";
  output_extents = 1 ∷ [];
}

abbrev pub ChainIsCounted : Type 0
ChainIsCounted = output_count chain (7 ∷ []) (pos 0 ∷ []) ≡ 63

abbrev pub ChainGives : Type 0
ChainGives = output_value chain (7 ∷ []) (pos 0 ∷ []) ≡ pos 255
