-- Functions by their names, as memory keeps them.
use Rattle.std.proofs.Common.{◌≡◌, ℕ, Bool, true, false, cond, List, [], ◌∷◌, length, Option, Some, None, refl, sym, ◌∙◌, string_bytes}
use Rattle.std.specs.Map.{lookup}
use Rattle.std.specs.Str.{bytes_eq}
use Rattle.std.specs.Global.{Global}
use Rattle.std.specs.declared.string.String.{String}
use Rattle.std.proofs.lemmas.Bool.{false≢true}
use Rattle.std.proofs.lemmas.List.{length-map}
use Rattle.numeric.specs.declared.ty.Ty.{Ty}
use Rattle.meaning.specs.Algorithm.{Function}
use Rattle.meaning.specs.Names.{same_name}
use Rattle.meaning.specs.Conditions.{function_named}
use Rattle.meaning.proofs.Cases.{same_name_is, name_same}
use Rattle.algo.specs.declared.function.Function.{Function as Entry}
use Rattle.algo.specs.Parts.{function_of, functions_of}
use Rattle.sched.specs.Called.{function_call}

-- the type and the number of variables of a function in memory
abbrev pub call_held : Option Entry → Option (Ty × ℕ)
call_held None = None
call_held (Some f) = Some (f.ty, length f.variables.items)

-- a comparison of names both ways round
turned : (p q : List ℕ) → same_name p q ≡ same_name q p
turned p q = by (same_name p q) (same_name q p) refl refl
  where
    by : (b d : Bool) → same_name p q ≡ b → same_name q p ≡ d → same_name p q ≡ same_name q p
    by true d e f = e ∙ sym (name_same q p (sym (same_name_is p q e)))
    by false true e f = absurd (false≢true (sym e ∙ name_same p q (sym (same_name_is q p f))))
    by false false e f = e ∙ sym f

found_alike : (b d : Bool) (e : String Global × Entry) (o : Option Entry) (p : Option Function) → b ≡ d → call_held o ≡ function_call p →
    call_held (cond b (Some e.1) o) ≡ function_call (elim d [ true ↦ Some (function_of e) | false ↦ p ])
found_alike true true e o p same rest = λ i. Some (e.1.ty, sym (length-map e.1.variables.items string_bytes) i)
found_alike true false e o p same rest = absurd (false≢true (sym same))
found_alike false true e o p same rest = absurd (false≢true same)
found_alike false false e o p same rest = rest

pub looked_up : (es : List (String Global × Entry)) (name : List ℕ) → call_held (lookup (λ k. bytes_eq name (string_bytes k)) es) ≡ function_call (function_named (functions_of es) name)
looked_up [] name = refl
looked_up (e ∷ es) name =
    found_alike (bytes_eq name (string_bytes e.0)) (same_name (string_bytes e.0) name) e (lookup (λ k. bytes_eq name (string_bytes k)) es) (function_named (functions_of es) name)
    (turned name (string_bytes e.0)) (looked_up es name)
