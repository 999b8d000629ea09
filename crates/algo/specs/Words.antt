-- Which names an algorithm has.
use Rattle.std.specs.Prelude.{◌≡◌, ◌≤◌, ℕ, List, length, All, None}
use Rattle.tree.specs.Token.Spelling.{IsWord}
use Rattle.tree.specs.Token.Lexical.{type_named, word_named}
use Rattle.meaning.specs.Algorithm.{Range, Change, Function, Algorithm}

-- a word of at most 16 bytes that is no type and no word of the grammar
pub record IsName (text : List ℕ) : Type 0 where
  pub word : IsWord text
  pub short : length text ≤ 16
  pub no_type : type_named text ≡ None
  pub no_word : word_named text ≡ None

-- the reduction variable is a name
abbrev pub IsRangeNamed : Range → Type 0
IsRangeNamed d = IsName d.variable

-- the reduction variables of an update are names
abbrev pub IsChangeNamed : Change → Type 0
IsChangeNamed u = All IsRangeNamed u.ranges

-- a function and all its variables have names
pub record IsFunctionNamed (f : Function) : Type 0 where
  pub name : IsName f.name
  pub variables : All IsName f.variables
  pub changes : All IsChangeNamed f.changes

-- all that is named in an algorithm has a name that a text can have; what expressions name is among this
pub record IsNamed (a : Algorithm) : Type 0 where
  pub name : IsName a.name
  pub input : IsName a.input
  pub functions : All IsFunctionNamed a.functions
  pub output : IsName a.output
