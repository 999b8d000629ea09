-- Functions by name.
use Rattle.std.proofs.Common.{◌≡◌, ℕ, List, [], ◌∷◌, Bool, true, false, cond, Option, Some, None, refl, sym, ap, ◌∙◌, string_bytes}
use Rattle.std.specs.Map.{lookup}
use Rattle.std.specs.Str.{bytes_eq}
use Rattle.std.specs.Global.{Global}
use Rattle.std.specs.declared.string.String.{String}
use Rattle.std.proofs.lemmas.Bool.{false≢true}
use Rattle.meaning.specs.Algorithm.{Function as Said}
use Rattle.meaning.specs.Names.{same_name}
use Rattle.meaning.specs.Conditions.{function_named}
use Rattle.meaning.proofs.Cases.{same_name_is, name_same}
use Rattle.algo.specs.declared.function.Function.{Function}
use Rattle.algo.specs.Parts.{function_of, functions_of}

-- a comparison of names both ways round
turned : (p q : List ℕ) → same_name p q ≡ same_name q p
turned p q = by (same_name p q) (same_name q p) refl refl
  where
    by : (b d : Bool) → same_name p q ≡ b → same_name q p ≡ d → same_name p q ≡ same_name q p
    by true d e f = e ∙ sym (name_same q p (sym (same_name_is p q e)))
    by false true e f = absurd (false≢true (sym e ∙ name_same p q (sym (same_name_is q p f))))
    by false false e f = e ∙ sym f

-- the function of the name, if there is one
abbrev pub entry_named : List (String Global × Function) → List ℕ → Option Function
entry_named es name = lookup (λ k. bytes_eq name (string_bytes k)) es

none_is : (f : Function) (e : None ≡ Some f) → ⊥
none_is f e = cc

none_alike : (b d : Bool) (f : Function) (g : Said) (o : Option Function) (p : Option Said) → b ≡ d → (None ≡ o → p ≡ None) → None ≡ cond b (Some f) o → ◌≡◌ {A = Option Said} (elim d [ true ↦ Some g | false ↦ p ]) None
none_alike true d f g o p s h k = absurd (none_is f k)
none_alike false true f g o p s h k = absurd (false≢true s)
none_alike false false f g o p s h k = h k

-- no function has the name
pub none_named : (es : List (String Global × Function)) (name : List ℕ) → None ≡ entry_named es name → function_named (functions_of es) name ≡ None
none_named [] name h = refl
none_named (e ∷ es) name h =
    none_alike (bytes_eq name (string_bytes e.0)) (same_name (string_bytes e.0) name) e.1 (function_of e) (entry_named es name) (function_named (functions_of es) name) (turned name (string_bytes e.0)) (none_named es name) h

said_of : String Global → Option Function → Option Said
said_of n None = None
said_of n (Some x) = Some (function_of (n, x))

same_said : (n : String Global) (f g : Function) → Some f ≡ Some g → Some (function_of (n, f)) ≡ Some (function_of (n, g))
unfolding said_of
same_said n f g h = ap (said_of n) h

abbrev IsSaid : Option Said → Function → Type 0
IsSaid o f = (n : String Global) × (o ≡ Some (function_of (n, f)))

some_alike : (b d : Bool) (n : String Global) (x f : Function) (o : Option Function) (p : Option Said) → b ≡ d → (Some f ≡ o → IsSaid p f) → Some f ≡ cond b (Some x) o → IsSaid (elim d [ true ↦ Some (function_of (n, x)) | false ↦ p ]) f
some_alike true true n x f o p s h k = (n, same_said n x f (sym k))
some_alike true false n x f o p s h k = absurd (false≢true (sym s))
some_alike false true n x f o p s h k = absurd (false≢true s)
some_alike false false n x f o p s h k = h k

-- this function has the name
pub some_named : (es : List (String Global × Function)) (name : List ℕ) (f : Function) → Some f ≡ entry_named es name → (n : String Global) × (function_named (functions_of es) name ≡ Some (function_of (n, f)))
some_named [] name f h = absurd (none_is f (sym h))
some_named (e ∷ es) name f h =
    some_alike (bytes_eq name (string_bytes e.0)) (same_name (string_bytes e.0) name) e.0 e.1 f (entry_named es name) (function_named (functions_of es) name) (turned name (string_bytes e.0)) (some_named es name f) h
