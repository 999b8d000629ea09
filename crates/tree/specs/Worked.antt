-- Worked examples of the definitions.
use Rattle.std.specs.Prelude.{◌≡◌, ℕ, List, [], ◌∷◌, Bool, true, Option, Some, None, ℤ, pos, negsuc, codes, ◌*ℤ◌, ◌+ℤ◌}
use Rattle.numeric.specs.declared.ty.Ty.{Ty}
use Rattle.numeric.specs.declared.ty.Ty.TheVariants.{U8, U16, I32}
use Rattle.numeric.specs.declared.op.Op.TheVariants.{Add, Sub, Div}
use Rattle.numeric.specs.declared.op.Comparison.TheVariants.{Less}
use Rattle.tree.specs.declared.value.Value.{Value}
use Rattle.tree.specs.Term.{Term, Number, Name, Call, Binary, Clamp, Cast, Choice, End, More, Compares}
use Rattle.tree.specs.Meaning.{typed, value_of}
use Rattle.tree.specs.Typing.{type_of}
use Rattle.tree.specs.Tree.{node_count, depth}
use Rattle.tree.specs.Uses.{asked, calls_made, variables_of}

abbrev x : Term
x = Name (codes "x")

abbrev number : ℕ → Term
number n = Number I32 (pos n)

-- in[at]
abbrev sample : Term → Term
sample at = Call (codes "in") (More at End)

-- every variable is n
abbrev all_are : ℤ → List ℕ → ℤ
all_are n name = n

-- the input's row 10, 20, 30, .. from the place 0 on
abbrev tens : List ℕ → List ℤ → Value
tens name [] = typed U8 (pos 0)
tens name (z ∷ zs) = typed U8 (z *ℤ pos 10 +ℤ pos 10)

abbrev any_name : List ℕ → Bool
any_name name = true

-- anything can be called at one index and answers a u8
abbrev one_index : List ℕ → Option (Ty × ℕ)
one_index name = Some (U8, 1)

-- u8((u16(in[x - 1]) + u16(in[x]) + u16(in[x + 1])) / 3u16)
abbrev mean3 : Term
mean3 = Cast U8 (Binary Div
    (Binary Add
    (Binary Add (Cast U16 (sample (Binary Sub x (number 1)))) (Cast U16 (sample x)))
    (Cast U16 (sample (Binary Add x (number 1)))))
    (Number U16 (pos 3)))

-- at x = 1 it is 20; it asks the three samples, has 18 nodes and depth 8
abbrev pub MeanOfThree : Type 0
MeanOfThree =
    (value_of (all_are (pos 1)) tens mean3 ≡ typed U8 (pos 20))
    × (calls_made (all_are (pos 1)) tens mean3
    ≡ asked (codes "in") (pos 0 ∷ []) ∷ asked (codes "in") (pos 1 ∷ []) ∷ asked (codes "in") (pos 2 ∷ []) ∷ [])
    × (type_of any_name one_index mean3 ≡ Some U8)
    × (node_count mean3 ≡ 18)
    × (depth mean3 ≡ 8)

-- select(x < 0, in[x - 1], in[x])
abbrev chosen : Term
chosen = Choice (Compares Less x (number 0)) (sample (Binary Sub x (number 1))) (sample x)

-- at x = 2 it is the second arm's value; both arms ask
abbrev pub BothArmsAsk : Type 0
BothArmsAsk =
    (value_of (all_are (pos 2)) tens chosen ≡ typed U8 (pos 30))
    × (calls_made (all_are (pos 2)) tens chosen ≡ asked (codes "in") (pos 1 ∷ []) ∷ asked (codes "in") (pos 2 ∷ []) ∷ [])
    × (variables_of chosen ≡ codes "x" ∷ codes "x" ∷ codes "x" ∷ [])

-- in[clamp(x, 0, 3)] where x is -5; and a clamp whose ends are crossed
abbrev pub Clamps : Type 0
Clamps =
    (value_of (all_are (negsuc 4)) tens (sample (Clamp x (number 0) (number 3))) ≡ typed U8 (pos 10))
    × (value_of (all_are (pos 7)) tens (Clamp x (number 9) (number 3)) ≡ typed I32 (pos 9))

-- operands of two types, a literal out of its type, a wrong number of indices, an index that is no i32
abbrev pub NoTypes : Type 0
NoTypes =
    (type_of any_name one_index (Binary Add (Number U8 (pos 1)) (Number U16 (pos 1))) ≡ None)
    × (type_of any_name one_index (Number U8 (pos 256)) ≡ None)
    × (type_of any_name one_index (Call (codes "in") (More x (More x End))) ≡ None)
    × (type_of any_name one_index (sample (Number U8 (pos 1))) ≡ None)
