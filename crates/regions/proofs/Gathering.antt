-- Calls that are gathered from the last function on.
use Rattle.std.proofs.Common.{◌≡◌, ◌+◌, Bool, true, false, List, [], ◌∷◌, ◌++◌, map, drop, Some, refl, sym, ap, ◌∙◌}
use Rattle.std.specs.Prelude.{◌||◌, if◌then◌else◌, ℕ, slice_get}
use Rattle.std.specs.List.{list_any}
use Rattle.std.specs.declared.string.String.{String}
use Rattle.std.specs.Global.{Global}
use Rattle.std.proofs.lemmas.List.{map-append}
use Rattle.meaning.specs.Algorithm.{Function}
use Rattle.meaning.specs.Names.{same_name}
use Rattle.algo.specs.declared.function.Function.{Function as Held}
use Rattle.algo.specs.Parts.{function_of, functions_of}
use Rattle.algo.specs.Scoping.Standing.{Written}
use Rattle.sched.specs.declared.calls.Call.{Call as Made}
use Rattle.sched.specs.Calls.{call_of}
use Rattle.sched.specs.Stored.{are_calls_of}
use Rattle.regions.specs.Lacking.{gathered, function_calls, calls_by_text}
use Rattle.sched.proofs.Entries.{function_here}

neither : (a b : Bool) → a || b ≡ false → (a ≡ false) × (b ≡ false)
neither true b h = cc
neither false b h = (refl, h)

module _ {A : Type 0} (name : A → List ℕ) (calls : A → List Written) (is_first : A → Bool) where
  next_is : (x : A) (xs : List A) (b : Bool) → is_first x || are_calls_of (name x) (gathered name calls is_first xs) ≡ b
      → (if b then calls x ++ gathered name calls is_first xs else gathered name calls is_first xs) ≡ gathered name calls is_first (x ∷ xs)
  next_is x xs b h = ap (λ v. if v then calls x ++ gathered name calls is_first xs else gathered name calls is_first xs) (sym h)

  -- where none is a first one, there are none
  pub none_gathered : (xs : List A) → list_any is_first xs ≡ false → gathered name calls is_first xs ≡ []
  none_gathered [] h = refl
  none_gathered (x ∷ xs) h =
      let parts = neither (is_first x) (list_any is_first xs) h in
      let rest = none_gathered xs parts.1 in
      λ i. if parts.0 i || are_calls_of (name x) (rest i) then calls x ++ rest i else rest i

-- ---- by the text

-- the calls of the functions from this one on, where this one is the one of the name, or is called behind, or not
module _ (fs : List Function) (es : List (String Global × Held)) (n k : ℕ) (e : String Global × Held) (x : List ℕ) (behind : List Made) where
  next_by_text : functions_of es ≡ fs → slice_get es n ≡ Some e → k ≡ n + 1 → map call_of behind ≡ calls_by_text (drop k fs) x → (b : Bool)
      → same_name (function_of e).name x || are_calls_of (function_of e).name (map call_of behind) ≡ b
      → (if b then function_calls (function_of e) ++ map call_of behind else map call_of behind) ≡ calls_by_text (drop n fs) x
  next_by_text is at next told b h =
      let here : drop n fs ≡ function_of e ∷ drop k fs = function_here fs es n e is at ∙ ap (λ (m : ℕ). function_of e ∷ drop m fs) (sym next) in
      let of_it = ap (λ (cs : List Written). same_name (function_of e).name x || are_calls_of (function_of e).name cs) (sym told) ∙ h in
      ap (λ (cs : List Written). if b then function_calls (function_of e) ++ cs else cs) told
      ∙ next_is (λ f. f.name) function_calls (λ f. same_name f.name x) (function_of e) (drop k fs) b of_it ∙ ap (λ (gs : List Function). calls_by_text gs x) (sym here)

  pub called_by_text : (own all : List Made) → functions_of es ≡ fs → slice_get es n ≡ Some e → k ≡ n + 1 → map call_of behind ≡ calls_by_text (drop k fs) x
      → map call_of own ≡ function_calls (function_of e) → all ≡ own ++ behind
      → same_name (function_of e).name x || are_calls_of (function_of e).name (map call_of behind) ≡ true → map call_of all ≡ calls_by_text (drop n fs) x
  called_by_text own all is at next told owned joined h =
      ap (map call_of) joined ∙ map-append call_of own behind ∙ ap (λ (cs : List Written). cs ++ map call_of behind) owned ∙ next_by_text is at next told true h

  pub other_by_text : functions_of es ≡ fs → slice_get es n ≡ Some e → k ≡ n + 1 → map call_of behind ≡ calls_by_text (drop k fs) x
      → same_name (function_of e).name x || are_calls_of (function_of e).name (map call_of behind) ≡ false → map call_of behind ≡ calls_by_text (drop n fs) x
  other_by_text is at next told h = next_by_text is at next told false h
