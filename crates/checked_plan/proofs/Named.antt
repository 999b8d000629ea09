-- The output's function, found by its name, and what a well-formed algorithm says of the output.
use Rattle.std.proofs.Common.{◌≡◌, ℕ, zero, suc, ◌+◌, ◌≤◌, List, [], ◌∷◌, drop, Bool, true, false, Option, Some, None, MatchOption, All, sym, ap, ◌∙◌, add-one, arith}
use Rattle.std.specs.Prelude.{slice_get, string_bytes}
use Rattle.std.specs.Option.{option_map}
use Rattle.std.specs.declared.string.String.{String}
use Rattle.std.specs.Global.{Global}
use Rattle.std.proofs.lemmas.List.Elements.{All-from_recursion}
use Rattle.meaning.specs.Image.View.{AreExtents}
use Rattle.meaning.specs.Algorithm.{Function}
use Rattle.meaning.specs.Names.{same_name}
use Rattle.meaning.specs.Conditions.{function_named}
use Rattle.algo.specs.Parts.{function_of, functions_of}
use Rattle.algo.specs.declared.function.Function.{Function as Entry}

-- the first of the remaining functions, or one after it
named_suc : (es : List (String Global × Entry)) (k : ℕ) (e : String Global × Entry) (name : List ℕ) → slice_get es k ≡ Some e
    → function_named (functions_of (drop k es)) name ≡ elim (same_name (string_bytes e.0) name) [ true ↦ Some (function_of e) | false ↦ function_named (functions_of (drop (suc k) es)) name ]
named_suc [] k e name h = absurd (cc)
named_suc (d ∷ es) zero e name h =
    let same : d ≡ e = cc in
    ap (λ (p : String Global × Entry). elim (same_name (string_bytes p.0) name) [ true ↦ Some (function_of p) | false ↦ function_named (functions_of es) name ]) same
named_suc (d ∷ es) (suc k) e name h = named_suc es k e name h

module _ (es : List (String Global × Entry)) (name : List ℕ) (k : ℕ) (e : String Global × Entry) (b : Bool) (at : slice_get es k ≡ Some e) (is : b ≡ same_name (string_bytes e.0) name) where
  abbrev choose : Bool → Option Function
  choose c = elim c [ true ↦ Some (function_of e) | false ↦ function_named (functions_of (drop (suc k) es)) name ]

  chosen : (c : Bool) → b ≡ c → function_named (functions_of (drop k es)) name ≡ choose c
  chosen c h = named_suc es k e name at ∙ ap choose (sym is ∙ h)

  -- the function is found
  pub found_here : (w : Option Function) → b ≡ true → function_named (functions_of (drop k es)) name ≡ w → Some (function_of e) ≡ w
  found_here w h before = sym (chosen true h) ∙ before

  -- or not yet
  pub found_later : (w : Option Function) → b ≡ false → function_named (functions_of (drop k es)) name ≡ w → function_named (functions_of (drop (k + 1) es)) name ≡ w
  found_later w h before = ap (λ n. function_named (functions_of (drop n es)) name) (add-one k) ∙ sym (chosen false h) ∙ before

-- the variables of the function that was found
pub variables_given : (o : Option Function) (vs : List (List ℕ)) → Some vs ≡ option_map (λ f. f.variables) o → MatchOption o ⊥ (λ f. f.variables ≡ vs)
variables_given None vs e = absurd (cc e)
variables_given (Some f) vs e = cc e

-- extents are from 1 up
pub each_positive : (es : List ℕ) → AreExtents es → All (λ n. 1 ≤ n) es
each_positive (w ∷ []) h = All-from_recursion (λ n. 1 ≤ n) (w ∷ []) (h.0, tt)
each_positive (w ∷ h ∷ []) x = All-from_recursion (λ n. 1 ≤ n) (w ∷ h ∷ []) (x.0.0, (x.1.0, tt))
each_positive (w ∷ h ∷ c ∷ []) x = let three = x.2 in All-from_recursion (λ n. 1 ≤ n) (w ∷ h ∷ c ∷ []) (x.0.0, (x.1.0, (omega (arith, three), tt)))
each_positive [] x = absurd x
each_positive (w ∷ h ∷ c ∷ d ∷ es) x = absurd x
