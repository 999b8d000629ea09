-- What is evaluated at a time: expressions over bindings, calls whose answers come one by one.
use Rattle.std.specs.Prelude.{ℕ, List, [], ◌∷◌, ◌&&◌, true, false, ℤ, pos, drop, sum_by}
use Rattle.tree.specs.Term.{Terms}
use Rattle.tree.specs.Uses.{Asked}
use Rattle.meaning.specs.Names.{same_name, same_point, bound}
use Rattle.meaning.specs.Value.{Calls}
use Rattle.meaning.specs.Count.{Costs}
use Rattle.plain.specs.declared.scope.Binding.{Binding}
use Rattle.plain.specs.declared.scope.Answer.{Answer}
use Rattle.plain.specs.Sites.{calls_asked}

-- the expressions, the names that stand in them with their numbers, and what calls answer and cost
pub record Work : Type 0 where
  pub names : List (List ℕ)
  pub numbers : List ℤ
  pub terms : Terms
  pub calls : Calls
  pub costs : Costs

-- a call and its answer
pub record Entry : Type 0 where
  pub name : List ℕ
  pub at : List ℤ
  pub number : ℤ

abbrev pub entry_of : Answer → Entry
entry_of e = record { name = e.name.now; at = e.at.items; number = e.number }

abbrev pub bound_name : Binding → List ℕ
bound_name b = b.name.now

abbrev pub bound_number : Binding → ℤ
bound_number b = b.number

-- the answer that stands first for a call, and 0 where none stands
abbrev pub recorded : List Entry → List ℕ → List ℤ → ℤ
recorded [] name at = pos 0
recorded (e ∷ es) name at = elim (same_name e.name name && same_point e.at at) [ true ↦ e.number | false ↦ recorded es name at ]

-- the calls that the work asks for
abbrev pub asked_list : List ℕ → Work → List Asked
asked_list input w = calls_asked (bound w.names w.numbers) w.calls input w.terms

-- a call with its true answer
abbrev pub true_entry : Work → Asked → Entry
true_entry w c = record { name = c.name; at = c.at; number = (w.calls c.name c.at).number }

-- what the calls from the n-th on cost
abbrev pub open_cost : List ℕ → Work → ℕ → ℕ
open_cost input w n = sum_by (λ c. w.costs c.name c.at) (drop n (asked_list input w))
