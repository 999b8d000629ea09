-- How many numbers a window has, and which folds have places for them.
use Rattle.std.specs.Prelude.{if◌then◌else◌, List, [], ◌∷◌, Option, Some, None, ℤ, pos, ◌+ℤ◌, int_le}
use Rattle.lin.specs.Forms.{Form}
use Rattle.lin.specs.Search.{sup_of_difference}
use Rattle.lin.specs.declared.scope.Binding.{Binding}

-- the smaller of two numbers, where there are two
abbrev pub fewer : Option ℤ → Option ℤ → Option ℤ
fewer None o = o
fewer (Some a) None = Some a
fewer (Some a) (Some b) = if int_le a b then Some a else Some b

abbrev pub one_more : Option ℤ → Option ℤ
one_more None = None
one_more (Some m) = Some (m +ℤ pos 1)

-- the most numbers from a lower form to an upper one
abbrev pub size_between : List Binding → Form → Form → Option ℤ
size_between scope low high = one_more (sup_of_difference scope high low)

abbrev pub size_below : List Binding → Form → List Form → Option ℤ
size_below scope low [] = None
size_below scope low (high ∷ highs) = fewer (size_between scope low high) (size_below scope low highs)
