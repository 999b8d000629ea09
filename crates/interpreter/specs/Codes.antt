-- Expressions whose names were looked up: what they stand for, and when what was found of their names is right.
use Rattle.std.specs.Prelude.{◌≡◌, ℕ, List, ℤ, pos, ⊤, string_bytes, slice_index_or}
use Rattle.meaning.specs.Names.{bound}
use Rattle.tree.specs.Term.{Term, Terms, End, More, Test, Name, Minus, Choice, Compares, Fails, Both, Either}
use Rattle.tree.specs.Term.{Number as NumberTerm, Call as CallTerm, Binary as BinaryTerm, Clamp as ClampTerm, Cast as CastTerm}
use Rattle.interpreter.specs.Claims.{Means}
use Rattle.interpreter.specs.declared.code.Code.{Code, Number, Coordinate, Call', Negate', Binary', Clamp', Cast', Select'}
use Rattle.interpreter.specs.declared.code.Codes.{Codes, NoMore, One'}
use Rattle.interpreter.specs.declared.code.Condition.{Condition, Compare, Not', All', Any'}

-- the expression that a code stands for
abbrev mutual
  pub term_in : Code → Term
  term_in (Number t n) = NumberTerm t n
  term_in (Coordinate name place) = Name (string_bytes name)
  term_in (Call' name claim p at) = CallTerm (string_bytes name) (terms_in at)
  term_in (Negate' p a) = Minus (term_in a)
  term_in (Binary' op p a q b) = BinaryTerm op (term_in a) (term_in b)
  term_in (Clamp' p a q l r h) = ClampTerm (term_in a) (term_in l) (term_in h)
  term_in (Cast' t p a) = CastTerm t (term_in a)
  term_in (Select' p c q a r b) = Choice (test_in c) (term_in a) (term_in b)

  pub terms_in : Codes → Terms
  terms_in NoMore = End
  terms_in (One' a p rest) = More (term_in a) (terms_in rest)

  pub test_in : Condition → Test
  test_in (Compare by a b) = Compares by (term_in a) (term_in b)
  test_in (Not' p c) = Fails (test_in c)
  test_in (All' p c q d) = Both (test_in c) (test_in d)
  test_in (Any' p c q d) = Either (test_in c) (test_in d)

-- a name stands for the number at a place, 0 behind the last, whatever the numbers are
abbrev pub StandsAtPlace : List (List ℕ) → List ℕ → ℕ → Type 0
StandsAtPlace names name k = (zs : List ℤ) → bound names zs name ≡ slice_index_or zs k (pos 0)

-- over variables of these names, each variable stands for the number at its place, and each call's name means its claim
module _ (names : List (List ℕ)) where
  abbrev mutual
    pub IsPlaced : Code → Type 0
    IsPlaced (Number t n) = ⊤
    IsPlaced (Coordinate name place) = StandsAtPlace names (string_bytes name) place
    IsPlaced (Call' name claim p at) = Means (string_bytes name) claim × ArePlaced at
    IsPlaced (Negate' p a) = IsPlaced a
    IsPlaced (Binary' op p a q b) = IsPlaced a × IsPlaced b
    IsPlaced (Clamp' p a q l r h) = IsPlaced a × IsPlaced l × IsPlaced h
    IsPlaced (Cast' t p a) = IsPlaced a
    IsPlaced (Select' p c q a r b) = IsPlacedTest c × IsPlaced a × IsPlaced b

    pub ArePlaced : Codes → Type 0
    ArePlaced NoMore = ⊤
    ArePlaced (One' a p rest) = IsPlaced a × ArePlaced rest

    pub IsPlacedTest : Condition → Type 0
    IsPlacedTest (Compare by a b) = IsPlaced a × IsPlaced b
    IsPlacedTest (Not' p c) = IsPlacedTest c
    IsPlacedTest (All' p c q d) = IsPlacedTest c × IsPlacedTest d
    IsPlacedTest (Any' p c q d) = IsPlacedTest c × IsPlacedTest d
