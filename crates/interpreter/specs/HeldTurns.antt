-- An update's turns over what the places of one buffer hold, by the numbers of its places.
use Rattle.std.specs.Prelude.{ℕ, zero, suc, List, Option, Some, None, drop, slice_index_or, slice_set}
use Rattle.numeric.specs.declared.op.Op.{Op}
use Rattle.numeric.specs.declared.ty.Ty.{Ty}
use Rattle.tree.specs.declared.value.Value.{Value}
use Rattle.tree.specs.Meaning.{typed, applied}
use Rattle.plan.specs.Semantics.Found.{with}
use Rattle.plan.specs.Semantics.Memory.{Memory, write}
use Rattle.interpreter.specs.Buffers.Blocks.{Block}
use Rattle.interpreter.specs.Evaluation.Lanes.{number_at}
use Rattle.interpreter.specs.PlaceNumbers.{place_at}
use Rattle.interpreter.specs.Updates.{columns_at, operation_at}
use Rattle.interpreter.specs.declared.evaluation.lanes.Number.{Number}
use Rattle.interpreter.specs.declared.updates.Operand.{Operand}
use Rattle.interpreter.specs.declared.updates.Operand.TheVariants.{Known, Own}
use Rattle.interpreter.specs.declared.updates.Operation.{Operation}
use Rattle.interpreter.specs.declared.updates.Update.{Update}

-- what an operand has at a turn
abbrev pub held_operand : Operand → List Number → List ℕ → List (Option Value) → ℕ → Option Value
held_operand (Known t) zs ns h k = Some (typed t (number_at zs k))
held_operand (Own w) zs ns h k = slice_index_or h (place_at ns k) None

-- and an operation on two of them
abbrev pub held_operation : Operation → List Number → List Number → List ℕ → List ℕ → List (Option Value) → ℕ → Option Value
held_operation o zs behind lefts rights h k = with (held_operand o.left zs lefts h k) (λ x. with (held_operand o.right behind rights h k) (λ y. Some (applied o.op x y)))

-- an operator on an own place and what is known
abbrev pub on_known : Op → ℕ → Ty → ℕ → Operation
on_known op w t n = record { op = op; left = Own w; right = Known t; width = n }

-- and on two own places
abbrev pub on_own : Op → ℕ → ℕ → ℕ → Operation
on_own op v w n = record { op = op; left = Own v; right = Own w; width = n }

-- what the places hold after so many turns, each of which sets one
abbrev pub turned : Operation → List Number → List Number → List ℕ → List ℕ → List ℕ → List (Option Value) → ℕ → Option (List (Option Value))
turned o zs behind points lefts rights h zero = Some h
turned o zs behind points lefts rights h (suc k) =
    with (turned o zs behind points lefts rights h k) (λ g. with (held_operation o zs behind lefts rights g k) (λ v. Some (slice_set g (place_at points k) (Some v))))

-- a buffer whose places hold this
abbrev pub with_places : Block → List (Option Value) → Block
with_places block h = record { number = block.number; limit = block.limit; used = block.used; rooms = block.rooms; places = h }

-- memory after the first turns of an update, of which registers hold what is known for so many
abbrev pub updated : ℕ → ℕ → ℕ → Update → List Number → Memory Value → ℕ → Option (Memory Value)
updated n size b u zs m zero = Some m
updated n size b u zs m (suc k) = with (updated n size b u zs m k) (λ x. with (operation_at n u.operation (drop u.start zs) x b k) (λ v. write x b (columns_at n size zs k) v))
