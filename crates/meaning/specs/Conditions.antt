-- When an algorithm is well formed: what its text must keep beside the grammar.
use Rattle.std.specs.Prelude.{◌≡◌, ℕ, zero, suc, ◌++◌, ◌^◌, ◌≤◌, List, [], ◌∷◌, length, map, take, All, Bool, true, false, Option, Some, None, IsSome, MatchOption, IsTrue, pos, negsuc, ◌≤ℤ◌, slice_get}
use Rattle.numeric.specs.declared.ty.Ty.{Ty}
use Rattle.numeric.specs.declared.ty.Ty.TheVariants.{I32}
use Rattle.meaning.specs.Image.View.{IsSampleType, AreExtents}
use Rattle.tree.specs.Term.{Term, Name, Terms, End, More}
use Rattle.tree.specs.Names.{TakesCall}
use Rattle.tree.specs.Tree.{node_count, depth}
use Rattle.tree.specs.Typing.{type_of, index_count}
use Rattle.tree.specs.Uses.{variables_of, EachCall}
use Rattle.meaning.specs.Algorithm.{Range, Change, Function, Algorithm}
use Rattle.meaning.specs.Names.{same_name, is_among}
use Rattle.meaning.specs.Reduction.{size}

-- no name stands at two places of the list
abbrev pub AreDistinct : List (List ℕ) → Type 0
AreDistinct names = (i j : ℕ) (x : List ℕ) → slice_get names i ≡ Some x → slice_get names j ≡ Some x → i ≡ j

-- what can be called by a name, its type and its number of indices: one of these functions, or the input
abbrev pub callable : Algorithm → List Function → List ℕ → Option (Ty × ℕ)
callable a [] name = elim (same_name a.input name) [ true ↦ Some (a.input_ty, length a.input_extents) | false ↦ None ]
callable a (f ∷ fs) name = elim (same_name f.name name) [ true ↦ Some (f.ty, length f.variables) | false ↦ callable a fs name ]

-- an expression within its limits
pub record IsSmall (e : Term) : Type 0 where
  pub nodes : node_count e ≤ 512
  pub levels : depth e ≤ 64

-- an expression of the type, over these variables and over what can be called
pub record IsExpression (variables : List (List ℕ)) (calls : List ℕ → Option (Ty × ℕ)) (t : Ty) (e : Term) : Type 0 where
  -- each variable is one of these
  pub named : All (λ name. IsTrue (is_among variables name)) (variables_of e)
  -- each call is of what can be called
  pub called : EachCall (λ name at. IsSome (calls name)) e
  -- with its number of indices
  pub indexed : EachCall (λ name at. TakesCall (calls name) (index_count at)) e
  pub typed : type_of (is_among variables) calls e ≡ Some t
  pub small : IsSmall e

-- whether the expression is this variable alone
abbrev pub is_variable : List ℕ → Term → Bool
is_variable v (Name name) = same_name v name
is_variable v _ = false

-- whether the k-th index, counted from 0, is this variable alone
abbrev pub has_variable : List ℕ → ℕ → Terms → Bool
has_variable v k End = false
has_variable v zero (More a rest) = is_variable v a
has_variable v (suc k) (More a rest) = has_variable v k rest

-- a range within the limits
pub record IsRange (d : Range) : Type 0 where
  pub from : negsuc 8191 ≤ℤ d.low
  pub rises : d.low ≤ℤ d.high
  pub to : d.high ≤ℤ pos 8192

-- from one variable to three, and few points
pub record IsDomain (ds : List Range) : Type 0 where
  pub some : 1 ≤ length ds
  pub few : length ds ≤ 3
  pub ranges : All IsRange ds
  pub points : size ds ≤ 2 ^ 24

-- the names that an update's expressions may use, its reduction variables last
abbrev pub names_in : Function → Change → List (List ℕ)
names_in f u = f.variables ++ map (λ d. d.variable) u.ranges

-- the k-th left index is the function's k-th variable, v, alone, which then stands there in each call of the function to itself;
-- or it uses none of the function's variables
abbrev pub KeepsPlace : Function → Change → ℕ → List ℕ → Term → Type 0
KeepsPlace f u k v e = elim (is_variable v e) [
  | true ↦ EachCall (λ name at. IsTrue (same_name f.name name) → IsTrue (has_variable v k at)) u.value
  | false ↦ All (λ name. is_among f.variables name ≡ false) (variables_of e)
]

-- an update of f, over the functions before f
pub record IsUpdate (a : Algorithm) (before : List Function) (f : Function) (u : Change) : Type 0 where
  pub domain : IsDomain u.ranges
  pub names : AreDistinct (names_in f u)
  -- one left index a variable; none calls the function
  pub places : length u.at ≡ length f.variables
  pub left : All (IsExpression (names_in f u) (callable a before) I32) u.at
  pub kept : (k : ℕ) (v : List ℕ) (e : Term) → slice_get f.variables k ≡ Some v → slice_get u.at k ≡ Some e → KeepsPlace f u k v e
  -- the right side may call the function itself
  pub right : IsExpression (names_in f u) (callable a (before ++ f ∷ [])) f.ty u.value

-- a function over the input and the functions before it
pub record IsFunction (a : Algorithm) (before : List Function) (f : Function) : Type 0 where
  pub some : 1 ≤ length f.variables
  pub few : length f.variables ≤ 3
  pub names : AreDistinct f.variables
  pub pure : IsExpression f.variables (callable a before) f.ty f.value
  pub few_updates : length f.changes ≤ 4
  pub updates : All (IsUpdate a before f) f.changes

-- the function of this name
abbrev pub function_named : List Function → List ℕ → Option Function
function_named [] name = None
function_named (f ∷ fs) name = elim (same_name f.name name) [ true ↦ Some f | false ↦ function_named fs name ]

-- the function's values can be an output's samples over the extents
pub record IsOutput (extents : List ℕ) (f : Function) : Type 0 where
  pub indexed : length extents ≡ length f.variables
  pub sampled : IsSampleType f.ty

pub record IsAlgorithm (a : Algorithm) : Type 0 where
  pub input_sampled : IsSampleType a.input_ty
  pub input_extents : AreExtents a.input_extents
  pub few : length a.functions ≤ 64
  -- the input and the functions have names of their own
  pub names : AreDistinct (a.input ∷ map (λ f. f.name) a.functions)
  -- each function stands on the input and the functions before it
  pub functions : (k : ℕ) (f : Function) → slice_get a.functions k ≡ Some f → IsFunction a (take k a.functions) f
  pub output : MatchOption (function_named a.functions a.output) ⊥ (IsOutput a.output_extents)
  pub output_extents : AreExtents a.output_extents
